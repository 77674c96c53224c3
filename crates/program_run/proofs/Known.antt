-- A schedule that plays names nothing unknown, and its text has a byte for each step.
use Rattle.std.proofs.Common.{◌≡◌, ℕ, zero, suc, ◌+◌, ◌<◌, ◌≤◌, ◌^◌, List, [], ◌∷◌, ◌++◌, length, length-append, Option, Some, None, Bool, true, false, refl, ap, subst, arith}
use Rattle.std.specs.Prelude.{All, codes, decimal, nat_lt, nat_le, not, slice_get, ◌&&◌, if◌then◌else◌}
use Rattle.std.specs.List.{flat_map}
use Rattle.std.specs.Option.{option_map_or}
use Rattle.std.proofs.lemmas.Bool.{leb-true, ltb-true}
use Rattle.std.proofs.lemmas.Option.{same_Some}
use Rattle.std.proofs.lemmas.List.Elements.{All-nil, All-cons, All-weaker}
use Rattle.qc_base.specs.declared.ids.Ion.{Ion}
use Rattle.qc_base.specs.declared.ids.Qubit.{Qubit}
use Rattle.circuit_core.specs.declared.op.Op.{Op}
use Rattle.circuit_core.specs.Circuit.{CircuitValue}
use Rattle.circuit_core.specs.Op.{is_barrier}
use Rattle.circuit_core.specs.Order.{is_performed}
use Rattle.trap_parts.specs.Parts.{TrapValue}
use Rattle.trap_model.specs.Trap.{place_count, is_zone}
use Rattle.trap_parts.specs.Build.{IsTrap}
use Rattle.trap_model.specs.Channels.{split_channel, move_channel, cross_channel, merge_channel}
use Rattle.trap_model.specs.declared.channel.Channel.{Channel}
use Rattle.step_rules.specs.declared.action.Action.{Action}
use Rattle.step_rules.specs.declared.action.Action.TheVariants as actions
use Rattle.step_rules.specs.declared.action.Rule.{Rule}
use Rattle.step_rules.specs.declared.action.Rule.TheVariants as rules
use Rattle.step_rules.specs.Placement.{IsPlacement, start_of}
use Rattle.step_rules.specs.Setting.{SettingValue, setting_of}
use Rattle.step_rules.specs.ActionChannel.{target_limit}
use Rattle.step_rules.specs.Guards.{Guard, guard, first_broken, is_slot, is_junction, split_guards, move_guards, cross_guards, merge_guards, op_guards, Passes}
use Rattle.step_rules.specs.Steps.{after_step}
use Rattle.step_rules.specs.Config.{IsWithinLimits}
use Rattle.step_rules.specs.Play.{AreLegal, Plays}
use Rattle.step_rules.proofs.Kept.{step_kept, start_limits}
use Rattle.step_rules.proofs.Moved.{any_limit_small, swap_passed}
use Rattle.schedule_text.specs.Text.{place_lines, action_line, step_lines, schedule_text}
use Rattle.schedule_text.specs.Reading.{IsKnown, Spells}

within : (ops : List Op) (test : Op → Bool) (k : ℕ) → option_map_or test (slice_get ops k) false ≡ true → k < length ops
within [] test k e = absurd cc
within (op ∷ ops) test zero e = omega arith
within (op ∷ ops) test (suc k) e = let rest = within ops test k e in omega arith

-- ---- guards that pass

-- the guard passes, and so do the others
split_guard : (there : Bool) (rule : Rule) (rest : Option Rule) → (if there then rest else Some rule) ≡ None → (there ≡ true) × (rest ≡ None)
split_guard true rule rest e = (refl, e)
split_guard false rule rest e = absurd cc

-- the guard at that place passes
guard_passes : (all : List Guard) (place : ℕ) (one : Guard) → first_broken all ≡ None → slice_get all place ≡ Some one → one.passes ≡ true
guard_passes [] place one e f = absurd cc
guard_passes (first ∷ rest) zero one e f =
    subst (λ (g : Guard). g.passes ≡ true) (same_Some first one f) ((split_guard first.passes first.rule (first_broken rest) e).0)
guard_passes (first ∷ rest) (suc place) one e f = guard_passes rest place one ((split_guard first.passes first.rule (first_broken rest) e).1) f

both_true : (a b : Bool) → (a && b) ≡ true → (a ≡ true) × (b ≡ true)
both_true true b e = (refl, e)
both_true false b e = absurd cc

zone_place : (trap : TrapValue) (zone : ℕ) → is_zone trap zone ≡ true → zone < place_count trap
zone_place trap zone e = let there : zone < length trap.zones = ltb-true zone (length trap.zones) e in omega arith

slot_place : (trap : TrapValue) (slot : ℕ) → is_slot trap slot ≡ true → slot < place_count trap
slot_place trap slot e = ltb-true slot (place_count trap) (both_true (not (is_zone trap slot)) (nat_lt slot (place_count trap)) e).1

small_limit : (trap : TrapValue) (channel : Option Channel) → IsTrap trap → target_limit trap channel ≤ 32
small_limit trap None right = omega arith
small_limit trap (Some channel) right = any_limit_small trap channel.to.0 right

-- ---- an action that passes is known

action_known : (trap : TrapValue) (circuit : CircuitValue) (placement : List (List Qubit)) (config : List (List Ion)) (action : Action) → IsTrap trap → IsWithinLimits trap config
    → Passes (setting_of trap circuit placement) config action → IsKnown trap circuit action
action_known trap circuit placement config (actions.Split zone end count) right limits passes =
    let channel = split_channel trap zone.0 end in
    let all = split_guards trap config zone.0 count channel in
    let there : is_zone trap zone.0 ≡ true = guard_passes all 0 (guard (is_zone trap zone.0) rules.NoPlace) passes refl in
    let loaded : nat_le count (target_limit trap channel) ≡ true = guard_passes all 3 (guard (nat_le count (target_limit trap channel)) rules.Load) passes refl in
    let few : count ≤ target_limit trap channel = leb-true count (target_limit trap channel) loaded in
    (zone_place trap zone.0 there, omega (arith, few, small_limit trap channel right))
action_known trap circuit placement config (actions.Move from to) right limits passes =
    let there = guard_passes (move_guards trap config from.0 to.0 (move_channel trap from.0 to.0)) 0 (guard (is_slot trap from.0 && is_slot trap to.0) rules.NoPlace) passes refl in
    let both = both_true (is_slot trap from.0) (is_slot trap to.0) there in
    (slot_place trap from.0 both.0, slot_place trap to.0 both.1)
action_known trap circuit placement config (actions.Cross junction from to) right limits passes =
    let there = guard_passes (cross_guards trap config junction.0 from.0 to.0 (cross_channel trap junction.0 from.0 to.0)) 0
    (guard (is_junction trap junction.0 && (is_slot trap from.0 && is_slot trap to.0)) rules.NoPlace) passes refl in
    let first = both_true (is_junction trap junction.0) (is_slot trap from.0 && is_slot trap to.0) there in
    let both = both_true (is_slot trap from.0) (is_slot trap to.0) first.1 in
    (ltb-true junction.0 (length trap.junctions) first.0, slot_place trap from.0 both.0, slot_place trap to.0 both.1)
action_known trap circuit placement config (actions.Merge zone end) right limits passes =
    zone_place trap zone.0 (guard_passes (merge_guards trap config zone.0 (merge_channel trap zone.0 end)) 0 (guard (is_zone trap zone.0) rules.NoPlace) passes refl)
action_known trap circuit placement config (actions.Swap zone index) right limits passes =
    let facts = swap_passed trap config zone.0 index passes in
    let place : zone.0 < place_count trap = omega (arith, facts.0) in
    (place, omega (arith, facts.1, limits.within zone.0 place, any_limit_small trap zone.0 right))
action_known trap circuit placement config (actions.Op zone op) right limits passes =
    let all = op_guards (setting_of trap circuit placement) config zone.0 op.0 in
    let there : is_zone trap zone.0 ≡ true = guard_passes all 0 (guard (is_zone trap zone.0) rules.NoPlace) passes refl in
    let performed : is_performed circuit op.0 ≡ true = guard_passes all 1 (guard (is_performed circuit op.0) rules.NotOp) passes refl in
    (zone_place trap zone.0 there, within circuit.ops (λ (o : Op). not (is_barrier o)) op.0 performed)

all_known : (trap : TrapValue) (circuit : CircuitValue) (placement : List (List Qubit)) (config : List (List Ion)) (steps : List (List Action)) → IsTrap trap → IsWithinLimits trap config
    → AreLegal (setting_of trap circuit placement) config steps → All (All (IsKnown trap circuit)) steps
all_known trap circuit placement config [] right limits legal = All-nil (All (IsKnown trap circuit))
all_known trap circuit placement config (step ∷ steps) right limits legal =
    let setting = setting_of trap circuit placement in
    let known = All-weaker (Passes setting config) (IsKnown trap circuit) (λ action. action_known trap circuit placement config action right limits) step legal.0.passes in
    let kept = step_kept setting config step right limits legal.0 in
    All-cons (All (IsKnown trap circuit)) step steps known (all_known trap circuit placement (after_step trap config step) steps right kept.limits legal.1)

-- a schedule that plays names nothing unknown
pub plays_known : (trap : TrapValue) (circuit : CircuitValue) (placement : List (List Qubit)) (steps : List (List Action)) → IsTrap trap → IsPlacement trap circuit placement
    → Plays (setting_of trap circuit placement) steps → All (All (IsKnown trap circuit)) steps
plays_known trap circuit placement steps right placed plays =
    all_known trap circuit placement (start_of trap placement) steps right (start_limits trap circuit placement placed) plays.legal

-- ---- each step has a byte of the text at least

lines_some : (setting : SettingValue) (number : ℕ) (steps : List (List Action)) → length steps ≤ length (step_lines setting number steps)
lines_some setting number [] = omega arith
lines_some setting number (step ∷ steps) =
    let head = codes "step " ++ decimal number ++ codes "\n" in
    let step_text = flat_map (action_line setting) step in
    let rest = step_lines setting (number + 1) steps in
    omega (arith, lines_some setting (number + 1) steps, length-append (head ++ step_text) rest, length-append head step_text)

few_steps : (setting : SettingValue) (steps : List (List Action)) → length steps ≤ length (schedule_text setting steps)
few_steps setting steps =
    let head = codes "qccd schedule 1\n" ++ place_lines setting.circuit setting.trap.zones setting.placement ++ codes "steps " ++ decimal (length steps) ++ codes "\n" in
    let body = step_lines setting 1 steps in
    omega (arith, lines_some setting 1 steps, length-append (head ++ body) (codes "end\n"), length-append head body)

-- the text of a schedule that plays spells it
pub spelled : (trap : TrapValue) (circuit : CircuitValue) (placement : List (List Qubit)) (steps : List (List Action)) (text : List ℕ) → IsTrap trap → IsPlacement trap circuit placement
    → Plays (setting_of trap circuit placement) steps → text ≡ schedule_text (setting_of trap circuit placement) steps → length text ≤ 2 ^ 30 → Spells trap circuit placement steps text
spelled trap circuit placement steps text right placed plays is few = record {
  placed = placed;
  known = plays_known trap circuit placement steps right placed plays;
  few = omega (arith, few_steps (setting_of trap circuit placement) steps, ap length is, few);
  spelled = is;
}
