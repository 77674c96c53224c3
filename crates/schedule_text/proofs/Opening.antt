-- What the table of marked qubits, and the room that is left, say of the lists of the first zones.
use Rattle.std.proofs.Common.{◌≡◌, ℕ, zero, suc, ◌+◌, ◌-◌, ◌*◌, ◌<◌, ◌≤◌, ◌↔◌, List, [], ◌∷◌, ◌++◌, length, get_or, set, take, drop, Bool, true, false, refl, sym, ap, subst, ◌∙◌, inl, inr, arith}
use Rattle.std.specs.Prelude.{◌==◌, All, IsTrue, nat_le}
use Rattle.std.proofs.lemmas.Bool.{eq-eqb, ne_eqb, cases_eq, leb-true, le-leb, false≢true}
use Rattle.std.proofs.lemmas.List.{drop_more, take_more, take-append-drop, length-drop, take_all}
use Rattle.std.proofs.lemmas.List.Elements.{All-drop, All-head, All-tail}
use Rattle.qc_base.specs.declared.ids.Qubit.{Qubit}
use Rattle.circuit_core.specs.Circuit.{CircuitValue, qubit_count}
use Rattle.trap_parts.specs.declared.parts.ZonePart.{ZonePart}
use Rattle.trap_parts.specs.Parts.{TrapValue}
use Rattle.trap_parts.specs.Build.{IsTrap}
use Rattle.circuit_core.specs.Deciding.{is_listed}
use Rattle.step_rules.specs.Placement.{reading_order, times}
use Rattle.step_rules.proofs.Reading.{times-append, times_none, times_some, flags_grown}
use Rattle.step_rules.proofs.Placements.{grown}
use Rattle.schedule_text.specs.Progress.{Opens, capacity}
use Rattle.schedule_text.specs.ZoneLists.{AreOnce, AreMarked, AreIn}
use Rattle.schedule_text.proofs.Placing.{other_limit, zones_in, order_parts}
use Rattle.schedule_text.proofs.Rooms.{room_in, in_capacity}

-- ---- one more qubit

times_more : (k : ℕ) (before list : List Qubit) (i : ℕ) (d : Qubit) → i < length list → times k (before ++ take (i + 1) list) ≡ times k (before ++ take i list) + times k (get_or list i d ∷ [])
times_more k before list i d h =
    omega (arith, times-append k before (take (i + 1) list), times-append k before (take i list), ap (times k) (take_more list i d h), times-append k (take i list) (get_or list i d ∷ []))

one_more : (k : ℕ) (x : Qubit) (xs : List Qubit) → is_listed x.0 xs ≡ false → times k xs ≤ 1 → times k xs + times k (x ∷ []) ≤ 1
one_more k x xs new once = elim (cases_eq x.0 k) [
  | inl same ↦ (let here : (x.0 == k) ≡ true = eq-eqb x.0 k same in rw here (omega (arith, subst (λ (n : ℕ). times n xs ≡ 0) same (times_none x.0 xs new))))
  | inr other ↦ (let there : (x.0 == k) ≡ false = ne_eqb x.0 k other in rw there (omega arith))
]

pub marked_more : (marks : List Bool) (before list : List Qubit) (i : ℕ) (d : Qubit) → i < length list → (get_or list i d).0 < length marks → AreMarked marks (before ++ take i list)
    → is_listed (get_or list i d).0 (before ++ take i list) ≡ false → AreMarked (set marks (get_or list i d).0 true) (before ++ take (i + 1) list)
marked_more marks before list i d h within are new = record {
  flags = flags_grown marks before list i d h within are.flags;
  once = λ k. omega (arith, times_more k before list i d h, one_more k (get_or list i d) (before ++ take i list) new (are.once k));
}

-- a qubit that occurred before occurs twice
pub stands_twice : (before list : List Qubit) (i : ℕ) (d : Qubit) → i < length list → is_listed (get_or list i d).0 (before ++ take i list) ≡ true → AreOnce (before ++ list) → ⊥
stands_twice before list i d h there once =
    let k : ℕ = (get_or list i d).0 in
    let here : (k == k) ≡ true = eq-eqb k k refl in
    let again : 1 ≤ times k (get_or list i d ∷ drop (i + 1) list) = rw here (omega arith) in
    omega (arith, once k, times-append k before list, times-append k before (take i list), ap (times k) (take-append-drop i list), times-append k (take i list) (drop i list), ap (times k) (drop_more list i d h), times_some k (before ++ take i list) there)

-- ---- one more zone

once_front : (xs ys : List Qubit) → AreOnce (xs ++ ys) → AreOnce xs
once_front xs ys once k = omega (arith, once k, times-append k xs ys)

-- a zone that has no room for its list
pub room_of : (zones : List ZonePart) (lists : List (List Qubit)) (k : ℕ) (list : List Qubit) (zone : ZonePart) → AreIn zones lists → k < length lists → get_or lists k list ≡ list → zone ≡ get_or zones k zone
    → length list ≤ zone.capacity
room_of zones [] k list zone are h read found = absurd (omega arith)
room_of [] (first ∷ lists) k list zone are h read found = absurd are
room_of (one ∷ zones) (first ∷ lists) zero list zone are h read found = omega (arith, are.0, ap length read, ap (λ (z : ZonePart). z.capacity) found)
room_of (one ∷ zones) (first ∷ lists) (suc k) list zone are h read found = room_of zones lists k list zone are.1 (omega arith) read found

room_last : (zones : List ZonePart) (lists : List (List Qubit)) (k : ℕ) (list : List Qubit) (zone : ZonePart) → AreIn zones (take k lists) → k < length lists → k < length zones → get_or lists k list ≡ list
    → zone ≡ get_or zones k zone → length list ≤ zone.capacity → AreIn zones (take k lists ++ get_or lists k list ∷ [])
room_last zones [] k list zone are h within read found small = absurd (omega arith)
room_last [] (first ∷ lists) k list zone are h within read found small = absurd (omega arith)
room_last (one ∷ zones) (first ∷ lists) zero list zone are h within read found small = (omega (arith, ap length read, ap (λ (z : ZonePart). z.capacity) found), tt)
room_last (one ∷ zones) (first ∷ lists) (suc k) list zone are h within read found small = (are.0, room_last zones lists k list zone are.1 (omega arith) (omega arith) read found small)

-- one more list that has room
pub room_more : (zones : List ZonePart) (lists : List (List Qubit)) (k : ℕ) (list : List Qubit) (zone : ZonePart) → AreIn zones (take k lists) → k < length lists → k < length zones → get_or lists k list ≡ list
    → zone ≡ get_or zones k zone → length list ≤ zone.capacity → AreIn zones (take (k + 1) lists)
room_more zones lists k list zone are h within read found small =
    subst (AreIn zones) (sym (take_more lists k list h)) (room_last zones lists k list zone are h within read found small)

-- the qubits up to one zone, of those of all
pub once_up_to : (lists : List (List Qubit)) (k : ℕ) (list : List Qubit) → k < length lists → get_or lists k list ≡ list → AreOnce (reading_order lists) → AreOnce (reading_order (take k lists) ++ list)
once_up_to lists k list h read once =
    let same : reading_order (take (k + 1) lists) ≡ reading_order (take k lists) ++ list = sym (grown lists k list h) ∙ ap (λ (l : List Qubit). reading_order (take k lists) ++ l) read in
    subst (λ (l : List Qubit). AreOnce l) same
    (once_front (reading_order (take (k + 1) lists)) (reading_order (drop (k + 1) lists)) (subst (λ (l : List Qubit). AreOnce l) (order_parts (k + 1) lists) once))

pub marked_up_to : (marks : List Bool) (lists : List (List Qubit)) (k : ℕ) (list : List Qubit) → k < length lists → get_or lists k list ≡ list → AreMarked marks (reading_order (take k lists) ++ list) → AreMarked marks (reading_order (take (k + 1) lists))
marked_up_to marks lists k list h read are =
    subst (AreMarked marks) (ap (λ (l : List Qubit). reading_order (take k lists) ++ l) (sym read) ∙ grown lists k list h) are

-- ---- all zones

abbrev AreApart : List ZonePart → List (List Qubit) → Type 0
AreApart zones lists = AreIn zones lists × AreOnce (reading_order lists)

pub not_apart : (trap : TrapValue) (circuit : CircuitValue) (lists : List (List Qubit)) (zones : List ZonePart) (apart : Bool) → zones ≡ trap.zones → IsTrue apart ↔ AreApart zones lists → apart ≡ false → IsTrue false ↔ Opens trap circuit lists
not_apart trap circuit lists zones apart same says e =
    let refused : Opens trap circuit lists → IsTrue false =
    λ opened. sym e ∙ says.1 (subst (λ (l : List ZonePart). AreApart l lists) (sym same) (zones_in trap lists opened.zones opened.room, opened.once)) in
    (λ no. absurd (false≢true no), refused)

pub are_apart : (trap : TrapValue) (lists : List (List Qubit)) (zones : List ZonePart) (apart : Bool) → zones ≡ trap.zones → IsTrue apart ↔ AreApart zones lists → apart ≡ true → AreApart trap.zones lists
are_apart trap lists zones apart same says e = subst (λ (l : List ZonePart). AreApart l lists) same (says.0 e)

-- the room of the zones without lists
pub room_left : (trap : TrapValue) (lists : List (List Qubit)) (zones : List ZonePart) → zones ≡ trap.zones → capacity (take (length zones - length lists) (drop (length lists) zones)) ≡ capacity (drop (length lists) trap.zones)
room_left trap lists zones same =
    ap capacity (take_all (length zones - length lists) (drop (length lists) zones) (omega (arith, length-drop (length lists) zones)))
    ∙ ap (λ (l : List ZonePart). capacity (drop (length lists) l)) same

few_ions : (zones : List ZonePart) → All (λ (zone : ZonePart). (1 ≤ zone.capacity) × (zone.capacity ≤ 32)) zones → capacity zones ≤ length zones * 32
few_ions [] all = omega arith
few_ions (zone ∷ zones) all =
    let P : ZonePart → Type 0 = λ z. (1 ≤ z.capacity) × (z.capacity ≤ 32) in
    omega (arith, (All-head P zone zones all).1, few_ions zones (All-tail P zone zones all))

pub small_room : (trap : TrapValue) (k : ℕ) → IsTrap trap → capacity (drop k trap.zones) ≤ 1024
small_room trap k sound =
    let P : ZonePart → Type 0 = λ z. (1 ≤ z.capacity) × (z.capacity ≤ 32) in
    omega (arith, few_ions (drop k trap.zones) (All-drop P k trap.zones sound.capacities), length-drop k trap.zones, sound.zones)

pub small_order : (trap : TrapValue) (lists : List (List Qubit)) → IsTrap trap → AreApart trap.zones lists → length (reading_order lists) ≤ 1024
small_order trap lists sound apart = omega (arith, in_capacity trap.zones lists apart.0, small_room trap 0 sound)

pub apart_opens : (trap : TrapValue) (circuit : CircuitValue) (lists : List (List Qubit)) (count room placed : ℕ) → length lists ≤ length trap.zones → All (λ (qubit : Qubit). qubit.0 < qubit_count circuit) (reading_order lists) → AreApart trap.zones lists
    → count ≡ qubit_count circuit → placed ≡ length (reading_order lists) → room ≡ capacity (drop (length lists) trap.zones) → IsTrue (nat_le count (placed + room)) ↔ Opens trap circuit lists
apart_opens trap circuit lists count room placed few qubits apart all there is = (
  λ enough. record {
    zones = few;
    qubits = qubits;
    once = apart.1;
    room = λ zone list e. room_in trap.zones lists zone (other_limit trap zone) list apart.0 e;
    left = omega (arith, leb-true count (placed + room) enough);
  },
  λ opened. le-leb count (placed + room) (omega (arith, opened.left)),
)
