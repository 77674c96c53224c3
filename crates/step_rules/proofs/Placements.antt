-- Lists that are a placement.
use Rattle.std.proofs.Common.{◌≡◌, ℕ, zero, suc, ◌+◌, ◌*◌, ◌<◌, ◌≤◌, List, [], ◌∷◌, ◌++◌, length, get_or, take, drop, Bool, true, false, cond, not, Some, None, refl, sym, ap, subst, ◌∙◌, inl, inr, arith, append_assoc, length-append}
use Rattle.std.specs.Prelude.{Option, Ok, Err, slice_get, ◌==◌, nat_le, find, All, option_map}
use Rattle.std.specs.Option.{option_or, option_map_or}
use Rattle.std.specs.List.{range_with_len}
use Rattle.std.proofs.lemmas.Bool.{leb-true, le-leb, lt-leb, not-false, cases_eq, eq-eqb, ne_eqb}
use Rattle.std.proofs.lemmas.List.Elements.{All-nil, All-cons, All-head, All-tail}
use Rattle.std.proofs.lemmas.Grind.{flat_map-append}
use Rattle.std.proofs.lemmas.Option.{same_Some, slice_get_within, slice_get-get_or}
use Rattle.std.proofs.lemmas.List.{drop_more, take_more, take_all, drop_all, append-nil}
use Rattle.qc_base.specs.declared.ids.Qubit.{Qubit}
use Rattle.circuit_core.specs.Circuit.{CircuitValue, qubit_count}
use Rattle.trap_parts.specs.Parts.{TrapValue}
use Rattle.trap_model.specs.Trap.{limit_of, load_of, slot_at}
use Rattle.trap_parts.specs.Build.{IsTrap}
use Rattle.trap_parts.specs.declared.parts.ZonePart.{ZonePart}
use Rattle.step_rules.specs.declared.placement.GivenFault.{GivenFault}
use Rattle.step_rules.specs.declared.placement.GivenFault.TheVariants.{Repeated, Full, Missing}
use Rattle.circuit_core.specs.Deciding.{is_listed}
use Rattle.step_rules.specs.Placement.{reading_order, times, first_repeated, zone_fault, zones_fault, missing_fault, unless_fault, placement_of, IsPlacement, IsNumbered}
use Rattle.step_rules.specs.Flags.{AreFlags}
use Rattle.step_rules.proofs.Reading.{times-append, times_none, times_some, find_none, find_same}

-- ---- no fault

neither : (a b : Option GivenFault) → option_or a b ≡ None → (a ≡ None) × (b ≡ None)
neither None b e = (refl, e)
neither (Some fault) b e = absurd cc

no_value : {X Y : Type 0} (f : X → Y) (o : Option X) → option_map f o ≡ None → o ≡ None
no_value f None e = refl
no_value f (Some x) e = absurd cc

fits : (b : Bool) (fault : GivenFault) → cond b None (Some fault) ≡ None → b ≡ true
fits true fault e = refl
fits false fault e = absurd cc

unrepeated : (b : Bool) (q : Qubit) (rest : Option Qubit) → cond b (Some q) rest ≡ None → (b ≡ false) × (rest ≡ None)
unrepeated true q rest e = absurd cc
unrepeated false q rest e = (refl, e)

-- one more that isn't there
once_more : (n : ℕ) (before : List Qubit) (q : Qubit) (b : Bool) → (q.0 ≡ n → times n before ≡ 0) → times n before ≤ 1 → cond (q.0 == n) 1 0 + 0 + times n before ≤ 1
once_more n before q b new once = elim (cases_eq q.0 n) [
  | inl same ↦ (let here : (q.0 == n) ≡ true = eq-eqb q.0 n same in rw here (omega (arith, new same)))
  | inr other ↦ (let there : (q.0 == n) ≡ false = ne_eqb q.0 n other in rw there (omega arith))
]

once_each : (before list : List Qubit) → first_repeated before list ≡ None → ((n : ℕ) → times n before ≤ 1) → (n : ℕ) → times n (before ++ list) ≤ 1
once_each before [] e once n = omega (arith, once n, times-append n before [])
once_each before (q ∷ list) e once n =
    let parts = unrepeated (is_listed q.0 before) q (first_repeated (before ++ q ∷ []) list) e in
    let grown : (m : ℕ) → times m (before ++ q ∷ []) ≤ 1 =
    λ m. omega (arith, times-append m before (q ∷ []), once_more m before q true (λ same. subst (λ (k : ℕ). times k before ≡ 0) same (times_none q.0 before parts.0)) (once m)) in
    let same : (before ++ q ∷ []) ++ list ≡ before ++ q ∷ list = append_assoc before (q ∷ []) list in
    subst (λ (l : List Qubit). times n l ≤ 1) same (once_each (before ++ q ∷ []) list parts.1 grown n)

pub record ZonesFit (trap : TrapValue) (zone : ℕ) (before : List Qubit) (lists : List (List Qubit)) : Type 0 where
  pub once : (n : ℕ) → times n (before ++ reading_order lists) ≤ 1
  pub room : (k : ℕ) (list : List Qubit) → slice_get lists k ≡ Some list → length list ≤ limit_of trap (zone + k)

room_of : (trap : TrapValue) (zone : ℕ) (first : List Qubit) (lists : List (List Qubit)) → length first ≤ limit_of trap zone
    → ((k : ℕ) (list : List Qubit) → slice_get lists k ≡ Some list → length list ≤ limit_of trap (zone + 1 + k))
    → (k : ℕ) (list : List Qubit) → slice_get (first ∷ lists) k ≡ Some list → length list ≤ limit_of trap (zone + k)
room_of trap zone first lists small rest zero list e =
    let here : zone ≡ zone + 0 = omega arith in
    subst (λ (z : ℕ). length list ≤ limit_of trap z) here (subst (λ (l : List Qubit). length l ≤ limit_of trap zone) (same_Some first list e) small)
room_of trap zone first lists small rest (suc k) list e =
    let here : zone + 1 + k ≡ zone + suc k = omega arith in
    subst (λ (z : ℕ). length list ≤ limit_of trap z) here (rest k list e)

zones_fit : (trap : TrapValue) (zone : ℕ) (before : List Qubit) (lists : List (List Qubit)) → zones_fault trap zone before lists ≡ None → ((n : ℕ) → times n before ≤ 1) → ZonesFit trap zone before lists
zones_fit trap zone before [] e once = record {
  once = λ n. omega (arith, once n, times-append n before []);
  room = λ k list f. absurd cc;
}
zones_fit trap zone before (list ∷ lists) e once =
    let parts = neither (zone_fault trap zone before list) (zones_fault trap (zone + 1) (before ++ list) lists) e in
    let own = neither (option_map Repeated (first_repeated before list)) _ parts.0 in
    let small : length list ≤ limit_of trap zone = leb-true (length list) (limit_of trap zone) (fits _ _ own.1) in
    let rest = zones_fit trap (zone + 1) (before ++ list) lists parts.1 (once_each before list (no_value Repeated (first_repeated before list) own.0) once) in
    let same : (before ++ list) ++ reading_order lists ≡ before ++ (list ++ reading_order lists) = append_assoc before list (reading_order lists) in
    record {
      once = λ n. subst (λ (l : List Qubit). times n l ≤ 1) same (rest.once n);
      room = room_of trap zone list lists small rest.room;
    }

-- ---- no fault is a placement

no_fault : (fault : Option GivenFault) (lists : List (List Qubit)) → unless_fault fault lists ≡ Ok lists → fault ≡ None
no_fault None lists e = refl
no_fault (Some fault) lists e = absurd cc

pub is_placement : (trap : TrapValue) (circuit : CircuitValue) (lists : List (List Qubit)) → placement_of trap circuit lists ≡ Ok lists → length lists ≡ length trap.zones → All (λ (qubit : Qubit). qubit.0 < qubit_count circuit) (reading_order lists)
    → IsPlacement trap circuit lists
is_placement trap circuit lists e zones qubits =
    let clean = neither (zones_fault trap 0 [] lists) (missing_fault circuit lists) (no_fault _ lists e) in
    let fit = zones_fit trap 0 [] lists clean.0 (λ n. omega arith) in
    let all_there = find_none (λ number. not (is_listed number (reading_order lists))) 0 (qubit_count circuit) (no_value _ _ clean.1) in
    record {
      zones = zones;
      qubits = qubits;
      once = λ k h. omega (arith, fit.once k, times_some k (reading_order lists) (not-false (is_listed k (reading_order lists)) (all_there k (omega arith) (omega arith))));
      room = λ zone list f. let same : 0 + zone ≡ zone = omega arith in subst (λ (z : ℕ). length list ≤ limit_of trap z) same (fit.room zone list f);
    }

few_in_all : (lists : List (List Qubit)) → ((k : ℕ) (list : List Qubit) → slice_get lists k ≡ Some list → length list ≤ 32) → length (reading_order lists) ≤ length lists * 32
few_in_all [] small = omega arith
few_in_all (list ∷ lists) small =
    omega (arith, length-append list (reading_order lists), small 0 list refl, few_in_all lists (λ k l e. small (suc k) l e))

abbrev option_limit : List ZonePart → ℕ → ℕ → ℕ
option_limit zones k other = option_map_or (λ (zone : ZonePart). zone.capacity) (slice_get zones k) other

zone_limit : (trap : TrapValue) (zones : List ZonePart) (k other : ℕ) → All (λ zone. (1 ≤ zone.capacity) × (zone.capacity ≤ 32)) zones → k < length zones → option_limit zones k other ≤ 32
zone_limit trap [] k other small h = absurd (omega arith)
zone_limit trap (zone ∷ zones) zero other small h = (small 0 zone (omega arith)).1
zone_limit trap (zone ∷ zones) (suc k) other small h = (let P : ZonePart → Type 0 = λ z. (1 ≤ z.capacity) × (z.capacity ≤ 32) in zone_limit trap zones k other (All-tail P zone zones small) (omega arith))

pub limit_small : (trap : TrapValue) (k : ℕ) → IsTrap trap → k < length trap.zones → limit_of trap k ≤ 32
limit_small trap k sound h = zone_limit trap trap.zones k _ sound.capacities h

pub is_numbered : (trap : TrapValue) (circuit : CircuitValue) (lists : List (List Qubit)) → placement_of trap circuit lists ≡ Ok lists → length lists ≡ length trap.zones → IsTrap trap → IsNumbered lists
is_numbered trap circuit lists e zones sound =
    let clean = neither (zones_fault trap 0 [] lists) (missing_fault circuit lists) (no_fault _ lists e) in
    let fit = zones_fit trap 0 [] lists clean.0 (λ n. omega arith) in
    let small : (k : ℕ) (list : List Qubit) → slice_get lists k ≡ Some list → length list ≤ 32 =
    λ k list f. let same : 0 + k ≡ k = omega arith in let within : k < length lists = slice_get_within lists k list f in
    omega (arith, subst (λ (z : ℕ). length list ≤ limit_of trap z) same (fit.room k list f), limit_small trap k sound (omega arith)) in
    record {
      once = fit.once;
      few = omega (arith, few_in_all lists small, sound.zones);
    }

-- ---- zone after zone

pub zone_limit_is : (trap : TrapValue) (k : ℕ) (d : ZonePart) → k < length trap.zones → limit_of trap k ≡ (get_or trap.zones k d).capacity
zone_limit_is trap k d h = ap (λ (o : Option ZonePart). option_map_or (λ (zone : ZonePart). zone.capacity) o (option_map_or (load_of trap) (slot_at trap k) 0)) (slice_get-get_or trap.zones k d h)

pub grown : (lists : List (List Qubit)) (k : ℕ) (d : List Qubit) → k < length lists → reading_order (take k lists) ++ get_or lists k d ≡ reading_order (take (k + 1) lists)
grown lists k d h = sym (ap reading_order (take_more lists k d h) ∙ flat_map-append (λ list. list) (take k lists) (get_or lists k d ∷ []) ∙ ap (λ (l : List Qubit). reading_order (take k lists) ++ l) (append-nil (get_or lists k d)))

-- the zones from k on, where the k-th has no fault
pub next_zone : (trap : TrapValue) (lists : List (List Qubit)) (k : ℕ) (d : List Qubit) → k < length lists → first_repeated (reading_order (take k lists)) (get_or lists k d) ≡ None → length (get_or lists k d) ≤ limit_of trap k
    → zones_fault trap k (reading_order (take k lists)) (drop k lists) ≡ zones_fault trap (k + 1) (reading_order (take (k + 1) lists)) (drop (k + 1) lists)
next_zone trap lists k d h new small =
    let before : List Qubit = reading_order (take k lists) in
    let list : List Qubit = get_or lists k d in
    let rest : Option GivenFault = zones_fault trap (k + 1) (before ++ list) (drop (k + 1) lists) in
    ap (zones_fault trap k before) (drop_more lists k d h)
    ∙ ap (λ (o : Option Qubit). option_or (option_or (option_map Repeated o) (cond (nat_le (length list) (limit_of trap k)) None (Some (Full (record { 0 = k }))))) rest) new
    ∙ ap (λ (b : Bool). option_or (option_or None (cond b None (Some (Full (record { 0 = k }))))) rest) (le-leb (length list) (limit_of trap k) small)
    ∙ ap (λ (l : List Qubit). zones_fault trap (k + 1) l (drop (k + 1) lists)) (grown lists k d h)

-- a repeated qubit, and a zone that is too full
pub repeats : (trap : TrapValue) (lists : List (List Qubit)) (k : ℕ) (d : List Qubit) (q : Qubit) → k < length lists → first_repeated (reading_order (take k lists)) (get_or lists k d) ≡ Some q
    → zones_fault trap k (reading_order (take k lists)) (drop k lists) ≡ Some (Repeated q)
repeats trap lists k d q h found =
    let before : List Qubit = reading_order (take k lists) in
    let list : List Qubit = get_or lists k d in
    let rest : Option GivenFault = zones_fault trap (k + 1) (before ++ list) (drop (k + 1) lists) in
    ap (zones_fault trap k before) (drop_more lists k d h)
    ∙ ap (λ (o : Option Qubit). option_or (option_or (option_map Repeated o) (cond (nat_le (length list) (limit_of trap k)) None (Some (Full (record { 0 = k }))))) rest) found

pub is_full : (trap : TrapValue) (lists : List (List Qubit)) (k : ℕ) (d : List Qubit) → k < length lists → first_repeated (reading_order (take k lists)) (get_or lists k d) ≡ None → limit_of trap k < length (get_or lists k d)
    → zones_fault trap k (reading_order (take k lists)) (drop k lists) ≡ Some (Full (record { 0 = k }))
is_full trap lists k d h new large =
    let before : List Qubit = reading_order (take k lists) in
    let list : List Qubit = get_or lists k d in
    let rest : Option GivenFault = zones_fault trap (k + 1) (before ++ list) (drop (k + 1) lists) in
    ap (zones_fault trap k before) (drop_more lists k d h)
    ∙ ap (λ (o : Option Qubit). option_or (option_or (option_map Repeated o) (cond (nat_le (length list) (limit_of trap k)) None (Some (Full (record { 0 = k }))))) rest) new
    ∙ ap (λ (b : Bool). option_or (option_or None (cond b None (Some (Full (record { 0 = k }))))) rest) (lt-leb (length list) (limit_of trap k) large)

-- the whole answer, by the first fault of the zones
pub answer_fault : (trap : TrapValue) (circuit : CircuitValue) (lists : List (List Qubit)) (fault : GivenFault) → zones_fault trap 0 [] lists ≡ Some fault → placement_of trap circuit lists ≡ Err fault
answer_fault trap circuit lists fault e = ap (λ (o : Option GivenFault). unless_fault (option_or o (missing_fault circuit lists)) lists) e

pub answer_missing : (trap : TrapValue) (circuit : CircuitValue) (lists : List (List Qubit)) (number : Option ℕ) → zones_fault trap 0 [] lists ≡ None
    → find (λ k. not (is_listed k (reading_order lists))) (range_with_len 0 (qubit_count circuit)) ≡ number → placement_of trap circuit lists ≡ unless_fault (option_map (λ k. Missing (record { 0 = k })) number) lists
answer_missing trap circuit lists number e found =
    ap (λ (o : Option GivenFault). unless_fault (option_or o (missing_fault circuit lists)) lists) e
    ∙ ap (λ (o : Option ℕ). unless_fault (option_map (λ k. Missing (record { 0 = k })) o) lists) found

-- ---- the loop over the zones, and what it answers

-- the capacity that is read for a zone is its limit
pub limit_read : (trap : TrapValue) (zones : List ZonePart) (k : ℕ) (zone : ZonePart) → zones ≡ trap.zones → zone ≡ get_or zones k zone → k < length trap.zones → limit_of trap k ≡ zone.capacity
limit_read trap zones k zone same read h =
    zone_limit_is trap k zone h ∙ ap (λ (zs : List ZonePart). (get_or zs k zone).capacity) (sym same) ∙ ap (λ (z : ZonePart). z.capacity) (sym read)

all_left : (P : Qubit → Type 0) (xs ys : List Qubit) → All P (xs ++ ys) → All P xs
all_left P [] ys all = All-nil P
all_left P (x ∷ xs) ys all = All-cons P x xs (All-head P x (xs ++ ys) all) (all_left P xs ys (All-tail P x (xs ++ ys) all))

all_right : (P : Qubit → Type 0) (xs ys : List Qubit) → All P (xs ++ ys) → All P ys
all_right P [] ys all = all
all_right P (x ∷ xs) ys all = all_right P xs ys (All-tail P x (xs ++ ys) all)

pub all_in_zone : (P : Qubit → Type 0) (lists : List (List Qubit)) (k : ℕ) (d : List Qubit) → k < length lists → All P (reading_order lists) → All P (get_or lists k d)
all_in_zone P [] k d h all = absurd (omega arith)
all_in_zone P (list ∷ lists) zero d h all = all_left P list (reading_order lists) all
all_in_zone P (list ∷ lists) (suc k) d h all = all_in_zone P lists k d (omega arith) (all_right P list (reading_order lists) all)

pub marked_zone : (flags : List Bool) (lists : List (List Qubit)) (k : ℕ) (list : List Qubit) → k < length lists → get_or lists k list ≡ list → AreFlags flags (reading_order (take k lists) ++ list) → AreFlags flags (reading_order (take (k + 1) lists))
marked_zone flags lists k list h read are =
    subst (AreFlags flags) (ap (λ (l : List Qubit). reading_order (take k lists) ++ l) (sym read) ∙ grown lists k list h) are

pub clean_zone : (trap : TrapValue) (lists : List (List Qubit)) (k : ℕ) (list : List Qubit) → k < length lists → get_or lists k list ≡ list → None ≡ first_repeated (reading_order (take k lists)) list → length list ≤ limit_of trap k
    → zones_fault trap k (reading_order (take k lists)) (drop k lists) ≡ zones_fault trap (k + 1) (reading_order (take (k + 1) lists)) (drop (k + 1) lists)
clean_zone trap lists k list h read new small =
    next_zone trap lists k list h (ap (first_repeated (reading_order (take k lists))) read ∙ sym new) (subst (λ (l : List Qubit). length l ≤ limit_of trap k) (sym read) small)

pub answer_full : (trap : TrapValue) (circuit : CircuitValue) (lists given : List (List Qubit)) (k : ℕ) (list : List Qubit) → lists ≡ given → k < length lists → get_or lists k list ≡ list → None ≡ first_repeated (reading_order (take k lists)) list
    → limit_of trap k < length list → zones_fault trap 0 [] lists ≡ zones_fault trap k (reading_order (take k lists)) (drop k lists) → Err (Full (record { 0 = k })) ≡ placement_of trap circuit given
answer_full trap circuit lists given k list same h read new large so_far =
    let fault : zones_fault trap k (reading_order (take k lists)) (drop k lists) ≡ Some (Full (record { 0 = k })) =
    is_full trap lists k list h (ap (first_repeated (reading_order (take k lists))) read ∙ sym new) (subst (λ (l : List Qubit). limit_of trap k < length l) (sym read) large) in
    sym (answer_fault trap circuit lists (Full (record { 0 = k })) (so_far ∙ fault)) ∙ ap (placement_of trap circuit) same

pub answer_repeated : (trap : TrapValue) (circuit : CircuitValue) (lists given : List (List Qubit)) (k : ℕ) (list : List Qubit) (q : Qubit) → lists ≡ given → k < length lists → get_or lists k list ≡ list → Some q ≡ first_repeated (reading_order (take k lists)) list
    → zones_fault trap 0 [] lists ≡ zones_fault trap k (reading_order (take k lists)) (drop k lists) → Err (Repeated q) ≡ placement_of trap circuit given
answer_repeated trap circuit lists given k list q same h read again so_far =
    let fault : zones_fault trap k (reading_order (take k lists)) (drop k lists) ≡ Some (Repeated q) =
    repeats trap lists k list q h (ap (first_repeated (reading_order (take k lists))) read ∙ sym again) in
    sym (answer_fault trap circuit lists (Repeated q) (so_far ∙ fault)) ∙ ap (placement_of trap circuit) same

-- the answer by the least number that isn't marked
pub decided : (trap : TrapValue) (circuit : CircuitValue) (lists given : List (List Qubit)) (flags slice : List Bool) (k : ℕ) (number : Option ℕ) → lists ≡ given → length lists ≤ k
    → zones_fault trap 0 [] lists ≡ zones_fault trap k (reading_order (take k lists)) (drop k lists) → length flags ≡ qubit_count circuit → AreFlags flags (reading_order (take k lists))
    → slice ≡ flags → number ≡ find (λ n. not (get_or slice n false)) (range_with_len 0 (length slice))
    → placement_of trap circuit given ≡ unless_fault (option_map (λ n. Missing (record { 0 = n })) number) given
decided trap circuit lists given flags slice k number same past so_far len are read found =
    let whole : AreFlags flags (reading_order lists) = subst (λ (l : List (List Qubit)). AreFlags flags (reading_order l)) (take_all k lists past) are in
    let clean : zones_fault trap 0 [] lists ≡ None = so_far ∙ ap (zones_fault trap k (reading_order (take k lists))) (drop_all k lists past) in
    let count : length slice ≡ qubit_count circuit = ap length read ∙ len in
    let is : find (λ n. not (is_listed n (reading_order lists))) (range_with_len 0 (qubit_count circuit)) ≡ number =
    sym (found ∙ ap (λ (m : ℕ). find (λ n. not (get_or slice n false)) (range_with_len 0 m)) count
    ∙ find_same (λ n. not (get_or slice n false)) (λ n. not (is_listed n (reading_order lists))) 0 (qubit_count circuit)
    (λ n low high. ap (λ (s : List Bool). not (get_or s n false)) read ∙ ap not (whole n (omega (arith, high, len))))) in
    ap (placement_of trap circuit) (sym same) ∙ answer_missing trap circuit lists number clean is ∙ ap (unless_fault (option_map (λ n. Missing (record { 0 = n })) number)) same
