-- A load's circuit has room on its trap.
use Rattle.std.proofs.Common.{◌≡◌, ℕ, zero, suc, ◌<◌, ◌≤◌, List, [], ◌∷◌, Option, Some, None, Result, Ok, true, false, refl, sym, subst, ap, ◌∙◌, arith, lit≤}
use Rattle.qc_base.specs.declared.ids.End.TheVariants.{A, B}
use Rattle.qc_base.specs.declared.ids.Qubit.{Qubit}
use Rattle.circuit_core.specs.declared.op.Op.{Op}
use Rattle.circuit_core.specs.declared.op.Op.TheVariants as ops
use Rattle.circuit_core.specs.Op.{is_barrier}
use Rattle.std.specs.Prelude.{not, slice_get}
use Rattle.std.specs.Option.{option_map_or, option_and_then}
use Rattle.trap_model.specs.declared.channel.Channel.{Channel}
use Rattle.trap_model.specs.declared.channel.Kind.TheVariants.{Split, Merge}
use Rattle.trap_parts.specs.declared.parts.Need.{Need}
use Rattle.trap_parts.specs.declared.parts.Need.TheVariants.{One, Two, Read}
use Rattle.trap_model.specs.Channels.{channel, channels_of}
use Rattle.trap_parts.specs.Parts.{TrapValue}
use Rattle.trap_model.specs.Trap.{is_able}
use Rattle.circuit_core.specs.Circuit.{CircuitValue}
use Rattle.step_rules.specs.declared.action.Action.{Action}
use Rattle.step_rules.specs.Setting.{SettingValue, setting_of, need_of, need_by}
use Rattle.step_rules.specs.Play.{Plays}
use Rattle.step_rules.specs.Tight.{IsTight}
use Rattle.schedule_text.specs.Text.{schedule_text}
use Rattle.schedule_report.specs.Lines.{load_lines}
use Rattle.run_stages.specs.Work.{loaded, Ends, IsRouted}
use Rattle.run_answers.specs.declared.answer.Answer.TheVariants as answers
use Rattle.placement.specs.declared.fault.PlaceFault.{PlaceFault}
use Rattle.placement.specs.declared.rule.PlaceRule.TheVariants.{Declared}
use Rattle.placement.specs.Placing.{place_by}
use Rattle.route_find.specs.Walks.{Leads, IsReachable}
use Rattle.route_find.proofs.Back.{reached_through}
use Rattle.greedy_router.specs.Room.{free_at, HasRoom}
use Rattle.load_setup.specs.Setup.{generated_trap, generated_circuit, declared_lists}

-- ---- free places

same_lists : (a b : List (List Qubit)) → ◌≡◌ {A = Result (List (List Qubit)) PlaceFault} (Ok a) (Ok b) → a ≡ b
same_lists a b e = cc

placed : (seed : ℕ) → place_by generated_trap (generated_circuit seed) Declared None ≡ Ok declared_lists
placed seed = refl

free : (seed zone : ℕ) → zone < 6 → 2 ≤ free_at (setting_of generated_trap (generated_circuit seed) declared_lists) zone
free seed zero h = lit≤ tt
free seed (suc zero) h = lit≤ tt
free seed (suc (suc zero)) h = lit≤ tt
free seed (suc (suc (suc zero))) h = lit≤ tt
free seed (suc (suc (suc (suc zero)))) h = lit≤ tt
free seed (suc (suc (suc (suc (suc zero))))) h = lit≤ tt
free seed (suc (suc (suc (suc (suc (suc zone)))))) h = absurd (omega (arith, h))

-- ---- ways

-- one channel leads from place to place
led : (number from to : ℕ) (through : Channel) → slice_get (channels_of generated_trap) number ≡ Some through → through.from.0 ≡ from → through.to.0 ≡ to → Leads generated_trap from number to
led number from to through there starts ends = record { channel = through; there = there; starts = starts; ends = ends }

-- from a zone through a slot to the next
hop : (from slot to out into : ℕ) → Leads generated_trap from out slot → Leads generated_trap slot into to → IsReachable generated_trap from to
hop from slot to out into first second = (out ∷ into ∷ [], (slot, (first, (to, (second, refl)))))

hop_0 : IsReachable generated_trap 0 1
hop_0 = hop 0 6 1 0 3 (led 0 0 6 (channel Split 0 B 6 A None) refl refl refl) (led 3 6 1 (channel Merge 6 B 1 A None) refl refl refl)

hop_1 : IsReachable generated_trap 1 2
hop_1 = hop 1 7 2 4 7 (led 4 1 7 (channel Split 1 B 7 A None) refl refl refl) (led 7 7 2 (channel Merge 7 B 2 A None) refl refl refl)

hop_2 : IsReachable generated_trap 2 3
hop_2 = hop 2 8 3 8 11 (led 8 2 8 (channel Split 2 B 8 A None) refl refl refl) (led 11 8 3 (channel Merge 8 B 3 A None) refl refl refl)

hop_3 : IsReachable generated_trap 3 4
hop_3 = hop 3 9 4 12 15 (led 12 3 9 (channel Split 3 B 9 A None) refl refl refl) (led 15 9 4 (channel Merge 9 B 4 A None) refl refl refl)

hop_4 : IsReachable generated_trap 4 5
hop_4 = hop 4 10 5 16 19 (led 16 4 10 (channel Split 4 B 10 A None) refl refl refl) (led 19 10 5 (channel Merge 10 B 5 A None) refl refl refl)

to_2 : IsReachable generated_trap 0 2
to_2 = reached_through generated_trap 0 1 2 hop_0 hop_1

to_3 : IsReachable generated_trap 0 3
to_3 = reached_through generated_trap 0 2 3 to_2 hop_2

to_4 : IsReachable generated_trap 0 4
to_4 = reached_through generated_trap 0 3 4 to_3 hop_3

to_5 : IsReachable generated_trap 0 5
to_5 = reached_through generated_trap 0 4 5 to_4 hop_4

reached : (zone : ℕ) → zone < 6 → IsReachable generated_trap 0 zone
reached zero h = ([], refl)
reached (suc zero) h = hop_0
reached (suc (suc zero)) h = to_2
reached (suc (suc (suc zero))) h = to_3
reached (suc (suc (suc (suc zero)))) h = to_4
reached (suc (suc (suc (suc (suc zero))))) h = to_5
reached (suc (suc (suc (suc (suc (suc zone)))))) h = absurd (omega (arith, h))

-- ---- abilities

able : (need : Need) → is_able generated_trap 0 need ≡ true
able One = refl
able Two = refl
able Read = refl

able_for : (op : Op) → not (is_barrier op) ≡ true → option_map_or (is_able generated_trap 0) (need_of op) false ≡ true
able_for (ops.U theta phi lambda qubit cond) performed = refl
able_for (ops.Cx control target cond) performed = refl
able_for (ops.Opaque name params first second cond) performed = able (need_by second)
able_for (ops.Measure qubit bit cond) performed = refl
able_for (ops.Reset qubit cond) performed = refl
able_for (ops.Barrier qubits) performed = absurd cc

able_at : (found : Option Op) → option_map_or (λ (op : Op). not (is_barrier op)) found false ≡ true → option_map_or (is_able generated_trap 0) (option_and_then need_of found) false ≡ true
able_at (Some op) performed = able_for op performed
able_at None performed = absurd cc

pub load_has_room : (seed : ℕ) (placement : List (List Qubit)) → place_by generated_trap (generated_circuit seed) Declared None ≡ Ok placement
    → HasRoom (setting_of generated_trap (generated_circuit seed) placement)
load_has_room seed placement e =
    subst (λ (lists : List (List Qubit)). HasRoom (setting_of generated_trap (generated_circuit seed) lists)) (same_lists declared_lists placement (sym (placed seed) ∙ e)) (record {
      free = free seed;
      reached = reached;
      able = λ op performed. (0, able_at (slice_get (generated_circuit seed).ops op) performed);
    })

-- ---- the trap and the circuit that were made

same_setting : (seed : ℕ) (trap : TrapValue) (circuit : CircuitValue) (placement : List (List Qubit)) → trap ≡ generated_trap → circuit ≡ generated_circuit seed
    → setting_of trap circuit placement ≡ setting_of generated_trap (generated_circuit seed) placement
same_setting seed trap circuit placement t c =
    ap (λ (made : TrapValue). setting_of made circuit placement) t ∙ ap (λ (made : CircuitValue). setting_of generated_trap made placement) c

same_place : (seed : ℕ) (trap : TrapValue) (circuit : CircuitValue) (placement : List (List Qubit)) → trap ≡ generated_trap → circuit ≡ generated_circuit seed
    → place_by trap circuit Declared None ≡ Ok placement → place_by generated_trap (generated_circuit seed) Declared None ≡ Ok placement
same_place seed trap circuit placement t c e =
    sym (ap (λ (made : TrapValue). place_by made circuit Declared None) t ∙ ap (λ (made : CircuitValue). place_by generated_trap made Declared None) c) ∙ e

pub room_of_load : (seed : ℕ) (trap : TrapValue) (circuit : CircuitValue) (placement : List (List Qubit)) → trap ≡ generated_trap → circuit ≡ generated_circuit seed
    → place_by trap circuit Declared None ≡ Ok placement → HasRoom (setting_of trap circuit placement)
room_of_load seed trap circuit placement t c e =
    subst HasRoom (sym (same_setting seed trap circuit placement t c)) (load_has_room seed placement (same_place seed trap circuit placement t c e))

pub loaded_is : (seed : ℕ) (trap : TrapValue) (circuit : CircuitValue) (placement : List (List Qubit)) (schedule : List (List Action)) (put lines shown : List ℕ)
    → trap ≡ generated_trap → circuit ≡ generated_circuit seed → place_by trap circuit Declared None ≡ Ok placement
    → Plays (setting_of trap circuit placement) schedule → IsTight (setting_of trap circuit placement) schedule → IsRouted (setting_of trap circuit placement) schedule
    → put ≡ schedule_text (setting_of trap circuit placement) schedule → lines ≡ load_lines seed 2000 schedule → shown ≡ lines
    → Ends (loaded seed) answers.Ok (record { answer = answers.Ok; put = Some put; text = shown })
loaded_is seed trap circuit placement schedule put lines shown t c e plays tight routed put_is lines_are same =
    let s : setting_of trap circuit placement ≡ setting_of generated_trap (generated_circuit seed) placement = same_setting seed trap circuit placement t c in (
      refl,
      record {
        placement = placement;
        placement_is = same_place seed trap circuit placement t c e;
        put = put;
        put_is = refl;
        schedule = record {
          is = record {
            schedule = schedule;
            plays = subst (λ (it : SettingValue). Plays it schedule) s plays;
            text_is = put_is ∙ ap (λ (it : SettingValue). schedule_text it schedule) s;
          };
          tight = subst (λ (it : SettingValue). IsTight it schedule) s tight;
          routed = subst (λ (it : SettingValue). IsRouted it schedule) s routed;
        };
        text_is = same ∙ lines_are;
      },
    )
