-- Lists of qubits in zones that have room for them.
use Rattle.std.proofs.Common.{◌≡◌, ℕ, zero, suc, ◌≤◌, List, [], ◌∷◌, ◌++◌, length, take, drop, Some, refl, ap, subst, ◌∙◌, arith, length-append}
use Rattle.std.specs.Prelude.{slice_get}
use Rattle.std.specs.Option.{option_map_or}
use Rattle.std.proofs.lemmas.List.{length-take, take-append-drop, length-drop}
use Rattle.std.proofs.lemmas.Option.{same_Some}
use Rattle.qc_base.specs.declared.ids.Qubit.{Qubit}
use Rattle.trap_parts.specs.declared.parts.ZonePart.{ZonePart}
use Rattle.step_rules.specs.Placement.{reading_order}
use Rattle.schedule_text.specs.Progress.{capacity}
use Rattle.schedule_text.specs.ZoneLists.{AreIn}

-- the capacity of that zone, or something else where there is none
abbrev pub room_at : List ZonePart → ℕ → ℕ → ℕ
room_at zones k other = option_map_or (λ (zone : ZonePart). zone.capacity) (slice_get zones k) other

pub are_in : (zones : List ZonePart) (lists : List (List Qubit)) (other : ℕ → ℕ) → length lists ≤ length zones
    → ((k : ℕ) (list : List Qubit) → slice_get lists k ≡ Some list → length list ≤ room_at zones k (other k)) → AreIn zones lists
are_in zones [] other few room = tt
are_in [] (list ∷ lists) other few room = absurd (omega arith)
are_in (zone ∷ zones) (list ∷ lists) other few room =
    (room 0 list refl, are_in zones lists (λ k. other (suc k)) (omega arith) (λ k l e. room (suc k) l e))

pub room_in : (zones : List ZonePart) (lists : List (List Qubit)) (k other : ℕ) (list : List Qubit) → AreIn zones lists → slice_get lists k ≡ Some list → length list ≤ room_at zones k other
room_in zones [] k other list are e = absurd cc
room_in [] (first ∷ lists) k other list are e = absurd are
room_in (zone ∷ zones) (first ∷ lists) zero other list are e = subst (λ (l : List Qubit). length l ≤ zone.capacity) (same_Some first list e) are.0
room_in (zone ∷ zones) (first ∷ lists) (suc k) other list are e = room_in zones lists k other list are.1 e

pub in_take : (zones : List ZonePart) (lists : List (List Qubit)) (k : ℕ) → AreIn zones lists → AreIn zones (take k lists)
in_take zones [] zero are = tt
in_take zones [] (suc k) are = tt
in_take [] (list ∷ lists) k are = absurd are
in_take (zone ∷ zones) (list ∷ lists) zero are = tt
in_take (zone ∷ zones) (list ∷ lists) (suc k) are = (are.0, in_take zones lists k are.1)

pub in_drop : (zones : List ZonePart) (lists : List (List Qubit)) (k : ℕ) → AreIn zones lists → AreIn (drop k zones) (drop k lists)
in_drop zones [] zero are = tt
in_drop zones [] (suc k) are = tt
in_drop [] (list ∷ lists) k are = absurd are
in_drop (zone ∷ zones) (list ∷ lists) zero are = are
in_drop (zone ∷ zones) (list ∷ lists) (suc k) are = in_drop zones lists k are.1

pub in_both : (zones : List ZonePart) (lists more : List (List Qubit)) → AreIn zones lists → AreIn (drop (length lists) zones) more → AreIn zones (lists ++ more)
in_both zones [] more are rest = rest
in_both [] (list ∷ lists) more are rest = absurd are
in_both (zone ∷ zones) (list ∷ lists) more are rest = (are.0, in_both zones lists more are.1 rest)

-- no more qubits than the zones hold together
pub in_capacity : (zones : List ZonePart) (lists : List (List Qubit)) → AreIn zones lists → length (reading_order lists) ≤ capacity zones
in_capacity zones [] are = omega arith
in_capacity [] (list ∷ lists) are = absurd are
in_capacity (zone ∷ zones) (list ∷ lists) are = omega (arith, are.0, length-append list (reading_order lists), in_capacity zones lists are.1)

-- ---- filling zones

-- the qubits in the zones, each up to its capacity
abbrev pub fill : List ZonePart → List Qubit → List (List Qubit)
fill [] qubits = []
fill (zone ∷ zones) qubits = take zone.capacity qubits ∷ fill zones (drop zone.capacity qubits)

pub fill_length : (zones : List ZonePart) (qubits : List Qubit) → length (fill zones qubits) ≡ length zones
fill_length [] qubits = refl
fill_length (zone ∷ zones) qubits = ap suc (fill_length zones (drop zone.capacity qubits))

pub fill_in : (zones : List ZonePart) (qubits : List Qubit) → AreIn zones (fill zones qubits)
fill_in [] qubits = tt
fill_in (zone ∷ zones) qubits = (omega (arith, length-take zone.capacity qubits), fill_in zones (drop zone.capacity qubits))

no_qubits : (qubits : List Qubit) → length qubits ≤ 0 → [] ≡ qubits
no_qubits [] few = refl
no_qubits (qubit ∷ qubits) few = absurd (omega arith)

-- all of them, where there is room
pub fill_order : (zones : List ZonePart) (qubits : List Qubit) → length qubits ≤ capacity zones → reading_order (fill zones qubits) ≡ qubits
fill_order [] qubits few = no_qubits qubits few
fill_order (zone ∷ zones) qubits few =
    ap (λ (l : List Qubit). take zone.capacity qubits ++ l) (fill_order zones (drop zone.capacity qubits) (omega (arith, length-drop zone.capacity qubits)))
    ∙ take-append-drop zone.capacity qubits
