-- What the guards say that an action of a legal step has passed.
use Rattle.std.proofs.Common.{◌≡◌, ℕ, ◌≤◌, Bool, true, false, not, ◌&&◌, cond, List, [], ◌∷◌, length, Some, None, refl, sym, ap, subst, ◌∙◌, inl, inr, arith}
use Rattle.std.specs.Prelude.{Option, option_map, nat_le, slice_get, ◌==◌}
use Rattle.std.specs.Option.{option_map_or}
use Rattle.std.specs.List.{list_all, list_any}
use Rattle.std.proofs.lemmas.Bool.{and_parts, both_ways, eqb-true, leb-true, or_cases}
use Rattle.std.proofs.lemmas.Option.{same_Some}
use Rattle.qc_base.specs.declared.ids.Ion.{Ion}
use Rattle.qc_base.specs.declared.ids.Qubit.{Qubit}
use Rattle.qc_base.specs.declared.ids.End.{End}
use Rattle.circuit_core.specs.declared.op.Op.{Op}
use Rattle.circuit_core.specs.Op.{qubits_of}
use Rattle.circuit_core.specs.Order.{is_performed}
use Rattle.trap_parts.specs.Parts.{TrapValue}
use Rattle.trap_model.specs.Trap.{limit_of, is_zone}
use Rattle.trap_parts.specs.declared.port.SlotEnd.{SlotEnd}
use Rattle.trap_model.specs.declared.channel.Channel.{Channel}
use Rattle.trap_model.specs.Channels.{merge}
use Rattle.trap_parts.specs.Joins.{joined_slot}
use Rattle.ion_chain.specs.Transfer.{list_at}
use Rattle.step_rules.specs.declared.action.Action.{Action}
use Rattle.step_rules.specs.declared.action.Action.TheVariants as actions
use Rattle.step_rules.specs.declared.action.Rule.{Rule}
use Rattle.step_rules.specs.declared.action.Rule.TheVariants as rules
use Rattle.step_rules.specs.Setting.{SettingValue}
use Rattle.step_rules.specs.Placement.{ion_of}
use Rattle.step_rules.specs.ActionChannel.{channel_for, passing}
use Rattle.step_rules.specs.Guards.{Passes, first_broken, is_empty, is_count_of, is_slot, is_junction, is_among, are_among, is_able_for, split_guards, move_guards, cross_guards, merge_guards}
use Rattle.step_vars.specs.Lists.{is_there, is_ion_of}

-- one guard is passed, and the rest are
pub guard_passed : (b : Bool) (rule : Rule) (rest : Option Rule) → cond b rest (Some rule) ≡ None → (b ≡ true) × (rest ≡ None)
guard_passed true rule rest e = (refl, e)
guard_passed false rule rest e = absurd cc

no_ions : (ions : List Ion) → is_empty ions ≡ true → length ions ≡ 0
no_ions [] e = refl
no_ions (ion ∷ ions) e = absurd cc

some_ions : (ions : List Ion) → not (is_empty ions) ≡ true → 1 ≤ length ions
some_ions [] e = absurd cc
some_ions (ion ∷ ions) e = omega arith

-- ---- ions that pass

-- an action passes some ions, and a slot into which they pass was empty
pub record HasPassed (trap : TrapValue) (config : List (List Ion)) (channel : Channel) (count : ℕ) : Type 0 where
  pub some : 1 ≤ count
  pub empty : is_zone trap channel.to.0 ≡ false → length (list_at config channel.to.0) ≡ 0

split_passed : (trap : TrapValue) (config : List (List Ion)) (zone count : ℕ) (channel : Channel) → first_broken (split_guards trap config zone count (Some channel)) ≡ None
    → HasPassed trap config channel count
split_passed trap config zone count channel e =
    let source : List Ion = list_at config channel.from.0 in
    let first = guard_passed (is_zone trap zone) rules.NoPlace _ e in
    let counts = guard_passed (is_count_of count source) rules.Index _ first.1 in
    let loads = guard_passed (nat_le count (limit_of trap channel.to.0)) rules.Load _ counts.1 in
    let last = guard_passed (is_empty (list_at config channel.to.0)) rules.Occupied None loads.1 in
    let parts = and_parts (nat_le 1 count) (nat_le count (length source)) counts.0 in
    record { some = leb-true 1 count parts.0; empty = λ slot. no_ions (list_at config channel.to.0) last.0 }

move_passed : (trap : TrapValue) (config : List (List Ion)) (from to : ℕ) (channel : Channel) → first_broken (move_guards trap config from to (Some channel)) ≡ None
    → HasPassed trap config channel (length (list_at config channel.from.0))
move_passed trap config from to channel e =
    let first = guard_passed (is_slot trap from && is_slot trap to) rules.NoPlace _ e in
    let source = guard_passed (not (is_empty (list_at config channel.from.0))) rules.Empty _ first.1 in
    let target = guard_passed (is_empty (list_at config channel.to.0)) rules.Occupied None source.1 in
    record { some = some_ions (list_at config channel.from.0) source.0; empty = λ slot. no_ions (list_at config channel.to.0) target.0 }

cross_passed : (trap : TrapValue) (config : List (List Ion)) (crossed from to : ℕ) (channel : Channel) → first_broken (cross_guards trap config crossed from to (Some channel)) ≡ None
    → HasPassed trap config channel (length (list_at config channel.from.0))
cross_passed trap config crossed from to channel e =
    let first = guard_passed (is_junction trap crossed && (is_slot trap from && is_slot trap to)) rules.NoPlace _ e in
    let source = guard_passed (not (is_empty (list_at config channel.from.0))) rules.Empty _ first.1 in
    let target = guard_passed (is_empty (list_at config channel.to.0)) rules.Occupied _ source.1 in
    record { some = some_ions (list_at config channel.from.0) source.0; empty = λ slot. no_ions (list_at config channel.to.0) target.0 }

merged_into : (zone : ℕ) (end : End) (slot : Option SlotEnd) (channel : Channel) → option_map (merge zone end) slot ≡ Some channel → zone ≡ channel.to.0
merged_into zone end None channel is = absurd cc
merged_into zone end (Some s) channel is = ap (λ (c : Channel). c.to.0) (same_Some (merge zone end s) channel is)

merge_passed : (trap : TrapValue) (config : List (List Ion)) (zone : ℕ) (channel : Channel) → zone ≡ channel.to.0 → first_broken (merge_guards trap config zone (Some channel)) ≡ None
    → HasPassed trap config channel (length (list_at config channel.from.0))
merge_passed trap config zone channel into e =
    let first = guard_passed (is_zone trap zone) rules.NoPlace _ e in
    let source = guard_passed (not (is_empty (list_at config channel.from.0))) rules.Empty _ first.1 in
    record {
      some = some_ions (list_at config channel.from.0) source.0;
      empty = λ slot. absurd (both_ways (is_zone trap channel.to.0) slot (sym (ap (is_zone trap) into) ∙ first.0));
    }

pub has_passed : (setting : SettingValue) (config : List (List Ion)) (action : Action) (channel : Channel) → Passes setting config action → channel_for setting.trap action ≡ Some channel
    → HasPassed setting.trap config channel (passing action (list_at config channel.from.0))
has_passed setting config (actions.Split zone end count) channel passes is =
    split_passed setting.trap config zone.0 count channel (subst (λ (found : Option Channel). first_broken (split_guards setting.trap config zone.0 count found) ≡ None) is passes)
has_passed setting config (actions.Move from to) channel passes is =
    move_passed setting.trap config from.0 to.0 channel (subst (λ (found : Option Channel). first_broken (move_guards setting.trap config from.0 to.0 found) ≡ None) is passes)
has_passed setting config (actions.Cross crossed from to) channel passes is =
    cross_passed setting.trap config crossed.0 from.0 to.0 channel
    (subst (λ (found : Option Channel). first_broken (cross_guards setting.trap config crossed.0 from.0 to.0 found) ≡ None) is passes)
has_passed setting config (actions.Merge zone end) channel passes is =
    merge_passed setting.trap config zone.0 channel (merged_into zone.0 end (joined_slot setting.trap zone.0 end) channel is)
    (subst (λ (found : Option Channel). first_broken (merge_guards setting.trap config zone.0 found) ≡ None) is passes)
has_passed setting config (actions.Swap zone index) channel passes is = absurd cc
has_passed setting config (actions.Op zone op) channel passes is = absurd cc

-- ---- the ions of an operation

among_any : (placement : List (List Qubit)) (ions : List Ion) (qubits : List Qubit) (i : ℕ) → list_all (is_among placement ions) qubits ≡ true
    → list_any (λ (qubit : Qubit). i == (ion_of placement qubit).0) qubits ≡ true → is_there i ions ≡ true
among_any placement ions [] i all any = absurd cc
among_any placement ions (qubit ∷ qubits) i all any =
    let parts = and_parts (is_among placement ions qubit) (list_all (is_among placement ions) qubits) all in
    elim (or_cases (i == (ion_of placement qubit).0) (list_any (λ (q : Qubit). i == (ion_of placement q).0) qubits) any) [
      | inl here ↦ subst (λ (k : ℕ). is_there k ions ≡ true) (sym (eqb-true i (ion_of placement qubit).0 here)) parts.0
      | inr later ↦ among_any placement ions qubits i parts.1 later
    ]

among_op : (placement : List (List Qubit)) (ions : List Ion) (found : Option Op) (i : ℕ) → option_map_or (λ (op : Op). list_all (is_among placement ions) (qubits_of op)) found false ≡ true
    → option_map_or (λ (op : Op). list_any (λ (qubit : Qubit). i == (ion_of placement qubit).0) (qubits_of op)) found false ≡ true → is_there i ions ≡ true
among_op placement ions None i all any = absurd cc
among_op placement ions (Some op) i all any = among_any placement ions (qubits_of op) i all any

-- an operation that passes its guards has its ions in the zone
pub op_has_ions : (setting : SettingValue) (config : List (List Ion)) (g z i : ℕ) → Passes setting config (actions.Op (record { 0 = z }) (record { 0 = g }))
    → is_ion_of setting g i ≡ true → is_there i (list_at config z) ≡ true
op_has_ions setting config g z i passes of_op =
    let first = guard_passed (is_zone setting.trap z) rules.NoPlace _ passes in
    let performed = guard_passed (is_performed setting.circuit g) rules.NotOp _ first.1 in
    let able = guard_passed (is_able_for setting z g) rules.NotAble _ performed.1 in
    let among = guard_passed (are_among setting (list_at config z) g) rules.Absent None able.1 in
    among_op setting.placement (list_at config z) (slice_get setting.circuit.ops g) i among.0 of_op
