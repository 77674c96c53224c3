-- The lists of each rule are a placement.
use Rattle.std.proofs.Common.{◌≡◌, ℕ, ◌≤◌, List, length, Bool, true, false, cond, None, Some, Ok, Err, refl, sym, ap, subst, ◌∙◌, inl, inr, arith}
use Rattle.std.specs.Prelude.{Option, Result, nat_le}
use Rattle.std.proofs.lemmas.Bool.{leb-true, le-leb}
use Rattle.qc_base.specs.declared.ids.Qubit.{Qubit}
use Rattle.circuit_core.specs.Circuit.{CircuitValue, qubit_count, IsCircuit}
use Rattle.trap_parts.specs.Parts.{TrapValue}
use Rattle.step_rules.specs.declared.placement.GivenFault.{GivenFault}
use Rattle.step_rules.specs.Placement.{IsPlacement, placement_of, unless_fault}
use Rattle.step_rules.proofs.Placements.{is_placement}
use Rattle.step_rules.proofs.Accepted.{placement_is}
use Rattle.placement.specs.declared.fault.PlaceFault.{PlaceFault}
use Rattle.placement.specs.declared.fault.PlaceFault.TheVariants.{TooManyQubits}
use Rattle.placement.specs.declared.rule.PlaceRule.{PlaceRule}
use Rattle.placement.specs.declared.rule.PlaceRule.TheVariants.{Declared, FirstUse, Given}
use Rattle.placement.specs.Faults.{◌>>=◌}
use Rattle.placement.specs.Filling.{declared_qubits, filled, room}
use Rattle.placement.specs.FirstUse.{by_first_use}
use Rattle.placement.specs.Named.{lists_named}
use Rattle.placement.specs.Placing.{Table, filling_of, checked, given_of, place_by, FitsZones}
use Rattle.placement.specs.Orders.{IsOrder}
use Rattle.placement.proofs.Filled.{is_filled}
use Rattle.placement.proofs.Ordered.{declared_order, first_use_order}
use Rattle.placement.proofs.Labels.{made, are_named}

-- what a test lets through
let_through : {X : Type 0} (b : Bool) (x y : X) (fault : PlaceFault) → cond b (Ok x) (Err fault) ≡ Ok y → (b ≡ true) × (x ≡ y)
let_through true x y fault e = (refl, cc)
let_through false x y fault e = absurd cc

filling_placed : (trap : TrapValue) (circuit : CircuitValue) (qubits : List Qubit) (lists : List (List Qubit)) → IsOrder circuit qubits → filling_of trap circuit qubits ≡ Ok lists → IsPlacement trap circuit lists
filling_placed trap circuit qubits lists order e =
    let fits = let_through (nat_le (qubit_count circuit) (room trap.zones)) (filled trap.zones qubits) lists (TooManyQubits (qubit_count circuit) (room trap.zones)) e in
    subst (IsPlacement trap circuit) fits.1 (is_filled trap circuit qubits order (leb-true (qubit_count circuit) (room trap.zones) fits.0))

checked_ok : (said : Result (List (List Qubit)) GivenFault) (lists : List (List Qubit)) → checked said ≡ Ok lists → said ≡ Ok lists
checked_ok (Ok said) lists e = cc
checked_ok (Err fault) lists e = absurd cc

-- lists that are accepted are those that were judged
accepted_same : (fault : Option GivenFault) (judged lists : List (List Qubit)) → unless_fault fault judged ≡ Ok lists → judged ≡ lists
accepted_same None judged lists e = cc
accepted_same (Some fault) judged lists e = absurd cc

given_placed : (trap : TrapValue) (circuit : CircuitValue) (table : Table) (lists : List (List Qubit)) → length table ≡ length trap.zones → place_by trap circuit Given (Some table) ≡ Ok lists → IsPlacement trap circuit lists
given_placed trap circuit table lists zones e =
    let a = made (lists_named circuit 0 table) (λ lists. checked (placement_of trap circuit lists)) lists e in
    let said = checked_ok (placement_of trap circuit a.x) lists a.made in
    let same = accepted_same _ a.x lists said in
    let are = are_named circuit 0 table a.x a.is in
    subst (IsPlacement trap circuit) same (is_placement trap circuit a.x (said ∙ ap Ok (sym same)) (are.zones ∙ zones) are.below)

pub placed : (trap : TrapValue) (circuit : CircuitValue) (rule : PlaceRule) (table : Option Table) (lists : List (List Qubit)) → IsCircuit circuit → FitsZones trap table → place_by trap circuit rule table ≡ Ok lists → IsPlacement trap circuit lists
placed trap circuit Declared table lists is fits e = filling_placed trap circuit (declared_qubits circuit) lists (declared_order circuit) e
placed trap circuit FirstUse table lists is fits e = filling_placed trap circuit (by_first_use circuit) lists (first_use_order circuit is) e
placed trap circuit Given None lists is fits e = absurd cc
placed trap circuit Given (Some table) lists is fits e = given_placed trap circuit table lists (fits table refl) e

-- zones that are filled with an order of all qubits are accepted
pub filling_same : (trap : TrapValue) (circuit : CircuitValue) (qubits : List Qubit) (lists : List (List Qubit)) → IsOrder circuit qubits → qubit_count circuit ≤ room trap.zones → lists ≡ filled trap.zones qubits
    → checked (placement_of trap circuit lists) ≡ filling_of trap circuit qubits
filling_same trap circuit qubits lists order fits same =
    let accepted = placement_is trap circuit (filled trap.zones qubits) (is_filled trap circuit qubits order fits) in
    ap (λ (l : List (List Qubit)). checked (placement_of trap circuit l)) same ∙ ap checked accepted
    ∙ sym (ap (λ (b : Bool). cond b (Ok (filled trap.zones qubits)) (Err (TooManyQubits (qubit_count circuit) (room trap.zones)))) (le-leb (qubit_count circuit) (room trap.zones) fits))

-- named lists are what a table gives, where they are a placement
pub given_same : (trap : TrapValue) (circuit : CircuitValue) (table : Table) (lists : List (List Qubit)) → lists_named circuit 0 table ≡ Ok lists → checked (placement_of trap circuit lists) ≡ given_of trap circuit table
given_same trap circuit table lists e = sym (ap (λ (r : Result (List (List Qubit)) PlaceFault). r >>= (λ lists. checked (placement_of trap circuit lists))) e)
