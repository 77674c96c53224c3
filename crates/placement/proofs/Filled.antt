-- Zones that are filled with qubits in order.
use Rattle.std.proofs.Common.{◌≡◌, ℕ, zero, suc, ◌+◌, ◌-◌, ◌*◌, ◌<◌, ◌≤◌, List, [], ◌∷◌, ◌++◌, length, take, drop, min, Some, refl, sym, ap, subst, ◌∙◌, arith, length-drop}
use Rattle.std.specs.Prelude.{All, slice_get}
use Rattle.std.specs.Option.{option_map_or}
use Rattle.std.proofs.lemmas.List.{length-take, take-append-drop}
use Rattle.std.proofs.lemmas.List.Elements.{All-head, All-tail}
use Rattle.std.proofs.lemmas.Option.{same_Some, none-some}
use Rattle.qc_base.specs.declared.ids.Qubit.{Qubit}
use Rattle.circuit_core.specs.Circuit.{CircuitValue, qubit_count}
use Rattle.trap_parts.specs.declared.parts.ZonePart.{ZonePart}
use Rattle.trap_parts.specs.Parts.{TrapValue}
use Rattle.trap_model.specs.Trap.{limit_of, load_of, slot_at}
use Rattle.trap_parts.specs.Build.{IsTrap}
use Rattle.step_rules.specs.Placement.{reading_order, times, IsPlacement}
use Rattle.step_rules.proofs.Counted.{counted}
use Rattle.placement.specs.Filling.{filled, room}
use Rattle.placement.specs.Orders.{IsOrder}

pub length_filled : (zones : List ZonePart) (qubits : List Qubit) → length (filled zones qubits) ≡ length zones
length_filled [] qubits = refl
length_filled (zone ∷ zones) qubits = ap suc (length_filled zones (drop (zone.capacity - 2) qubits))

no_more : (qubits : List Qubit) → length qubits ≤ 0 → [] ≡ qubits
no_more [] h = refl
no_more (q ∷ qubits) h = absurd (omega arith)

-- where there is room, the zones have all of them, in order
pub reading_filled : (zones : List ZonePart) (qubits : List Qubit) → length qubits ≤ room zones → reading_order (filled zones qubits) ≡ qubits
reading_filled [] qubits h = no_more qubits h
reading_filled (zone ∷ zones) qubits h =
    let n : ℕ = zone.capacity - 2 in
    ap (λ (l : List Qubit). take n qubits ++ l) (reading_filled zones (drop n qubits) (omega (arith, length-drop n qubits))) ∙ take-append-drop n qubits

abbrev capacity_at : List ZonePart → ℕ → ℕ → ℕ
capacity_at zones k other = option_map_or (λ (zone : ZonePart). zone.capacity) (slice_get zones k) other

few : (zones : List ZonePart) (qubits list : List Qubit) (k other : ℕ) → slice_get (filled zones qubits) k ≡ Some list → length list ≤ capacity_at zones k other
few [] qubits list k other e = absurd (none-some list e)
few (zone ∷ zones) qubits list zero other e =
    subst (λ (l : List Qubit). length l ≤ zone.capacity) (same_Some (take (zone.capacity - 2) qubits) list e) (omega (arith, length-take (zone.capacity - 2) qubits))
few (zone ∷ zones) qubits list (suc k) other e = few zones (drop (zone.capacity - 2) qubits) list k other e

-- filled with an order of all qubits, they are a placement
pub is_filled : (trap : TrapValue) (circuit : CircuitValue) (qubits : List Qubit) → IsOrder circuit qubits → qubit_count circuit ≤ room trap.zones → IsPlacement trap circuit (filled trap.zones qubits)
is_filled trap circuit qubits order fits =
    let all : reading_order (filled trap.zones qubits) ≡ qubits = reading_filled trap.zones qubits (omega (arith, fits, counted (qubit_count circuit) qubits order.below order.once)) in
    record {
      zones = length_filled trap.zones qubits;
      qubits = subst (All (λ (qubit : Qubit). qubit.0 < qubit_count circuit)) (sym all) order.below;
      once = λ k h. subst (λ (l : List Qubit). times k l ≡ 1) (sym all) (order.once k h);
      room = λ zone list e. few trap.zones qubits list zone (option_map_or (load_of trap) (slot_at trap zone) 0) e;
    }

-- ---- their room is a number of the machine

room_few : (zones : List ZonePart) → All (λ (zone : ZonePart). (1 ≤ zone.capacity) × (zone.capacity ≤ 32)) zones → room zones ≤ length zones * 32
room_few [] small = omega arith
room_few (zone ∷ zones) small =
    let P : ZonePart → Type 0 = λ z. (1 ≤ z.capacity) × (z.capacity ≤ 32) in
    omega (arith, (All-head P zone zones small).1, room_few zones (All-tail P zone zones small))

pub room_small : (trap : TrapValue) → IsTrap trap → room trap.zones ≤ 2048
room_small trap sound = omega (arith, room_few trap.zones sound.capacities, sound.zones)
