-- Where the ions are at the start.
use Rattle.std.proofs.Common.{◌≡◌, ℕ, zero, suc, ◌+◌, ◌-◌, ◌*◌, ◌<◌, ◌≤◌, List, [], ◌∷◌, ◌++◌, length, replicate, true, false, refl, sym, ap, subst, ◌∙◌, inl, inr, arith}
use Rattle.std.specs.Prelude.{◌==◌, slice_index_or}
use Rattle.std.proofs.lemmas.Bool.{cases_eq, cases_lt, eq-eqb, ne_eqb}
use Rattle.std.proofs.lemmas.List.{length-append, length-replicate, get_or_past}
use Rattle.qc_base.specs.declared.ids.Ion.{Ion}
use Rattle.qc_base.specs.declared.ids.Qubit.{Qubit}
use Rattle.qc_base.specs.declared.ids.PlaceId.{PlaceId}
use Rattle.trap_parts.specs.Parts.{TrapValue, slot_count}
use Rattle.ion_chain.specs.Transfer.{list_at}
use Rattle.step_rules.specs.Setting.{SettingValue}
use Rattle.step_rules.specs.Placement.{IsPlacement, start_of, reading_order, ions_from, places_from}
use Rattle.step_rules.proofs.Ions.{length-ions_from, length-places_from}
use Rattle.greedy_router.specs.Room.{HasRoom}
use Rattle.greedy_router.specs.Places.{count_of, one_if, home_of, AreHomes, IsCalm, HasFree, AllHaveFree, ions_before, limits_before}

-- the homes of the ions of these lists, the first of which is that zone
abbrev pub homes_from : ℕ → List (List Qubit) → List PlaceId
homes_from zone [] = []
homes_from zone (list ∷ lists) = replicate (length list) (record { 0 = zone }) ++ homes_from (zone + 1) lists

-- ---- the ions of one list

count_below : (n first : ℕ) (list : List Qubit) → n < first → count_of n (ions_from first list) ≡ 0
count_below n first [] h = refl
count_below n first (qubit ∷ list) h =
    let other : (first == n) ≡ false = ne_eqb first n (λ same. omega arith) in
    let rest : count_of n (ions_from (first + 1) list) ≡ 0 = count_below n (first + 1) list (omega arith) in
    rw other (omega (arith, rest))

count_above : (n first : ℕ) (list : List Qubit) → first + length list ≤ n → count_of n (ions_from first list) ≡ 0
count_above n first [] h = refl
count_above n first (qubit ∷ list) h =
    let other : (first == n) ≡ false = ne_eqb first n (λ same. omega arith) in
    let rest : count_of n (ions_from (first + 1) list) ≡ 0 = count_above n (first + 1) list (omega arith) in
    rw other (omega (arith, rest))

count_within : (n first : ℕ) (list : List Qubit) → first ≤ n → n < first + length list → count_of n (ions_from first list) ≡ 1
count_within n first [] low high = absurd (omega arith)
count_within n first (qubit ∷ list) low high = elim (cases_eq first n) [
  | inl same ↦
      let here : (first == n) ≡ true = eq-eqb first n same in
      let rest : count_of n (ions_from (first + 1) list) ≡ 0 = count_below n (first + 1) list (omega arith) in
      rw here (omega (arith, rest))
  | inr differ ↦
      let other : (first == n) ≡ false = ne_eqb first n differ in
      let rest : count_of n (ions_from (first + 1) list) ≡ 1 = count_within n (first + 1) list (omega arith) (omega arith) in
      rw other (omega (arith, rest))
]

-- ---- the ions of all lists

early : (n first : ℕ) (lists : List (List Qubit)) (place : ℕ) → n < first → count_of n (list_at (places_from first lists) place) ≡ 0
early n first [] place h = refl
early n first (list ∷ lists) zero h = count_below n first list h
early n first (list ∷ lists) (suc place) h = early n (first + length list) lists place (omega arith)

-- an ion that is there is one of so many
known_at : (n first : ℕ) (lists : List (List Qubit)) (place : ℕ) → first + length (reading_order lists) ≤ n → count_of n (list_at (places_from first lists) place) ≡ 0
known_at n first [] place h = refl
known_at n first (list ∷ lists) zero h = count_above n first list (omega (arith, length-append list (reading_order lists)))
known_at n first (list ∷ lists) (suc place) h = known_at n (first + length list) lists place (omega (arith, length-append list (reading_order lists)))

abbrev place_at : ℕ → PlaceId
place_at zone = record { 0 = zone }

home_here : (zone count k : ℕ) (rest : List PlaceId) → k < count → home_of (replicate count (place_at zone) ++ rest) k ≡ zone
home_here zone zero k rest h = absurd (omega arith)
home_here zone (suc count) zero rest h = refl
home_here zone (suc count) (suc k) rest h = home_here zone count k rest (omega arith)

home_later : (zone count k n : ℕ) (rest : List PlaceId) → n ≡ count + k → home_of (replicate count (place_at zone) ++ rest) n ≡ home_of rest k
home_later zone zero k n rest e = let same : n ≡ k = omega arith in ap (home_of rest) same
home_later zone (suc count) k zero rest e = absurd (omega arith)
home_later zone (suc count) k (suc n) rest e = home_later zone count k n rest (omega arith)

same_one : (place : ℕ) → one_if place place ≡ 1
same_one place = let same : (place == place) ≡ true = eq-eqb place place refl in rw same refl

other_one : (place other : ℕ) → (place ≡ other → ⊥) → one_if place other ≡ 0
other_one place other differ = let no_ : (place == other) ≡ false = ne_eqb place other differ in rw no_ refl

next_one : (place other : ℕ) → one_if (suc place) (suc other) ≡ one_if place other
next_one place other = elim (cases_eq place other) [
  | inl same ↦ (let more : suc place ≡ suc other = omega arith in subst (λ (n : ℕ). one_if (suc place) n ≡ one_if place other) more
      (same_one (suc place) ∙ sym (subst (λ (n : ℕ). one_if place n ≡ 1) same (same_one place))))
  | inr differ ↦ other_one (suc place) (suc other) (λ same. differ (omega arith)) ∙ sym (other_one place other differ)
]

-- the list in which the ion of that number is
record IsSettled (zone first n : ℕ) (lists : List (List Qubit)) (k : ℕ) : Type 0 where
  index : ℕ
  within : index < length lists
  home : home_of (homes_from zone lists) k ≡ zone + index
  once : (place : ℕ) → count_of n (list_at (places_from first lists) place) ≡ one_if place index

in_first : (first n : ℕ) (list : List Qubit) (lists : List (List Qubit)) (place : ℕ) → first ≤ n → n < first + length list
    → count_of n (list_at (places_from first (list ∷ lists)) place) ≡ one_if place 0
in_first first n list lists zero low high = count_within n first list low high
in_first first n list lists (suc place) low high = early n (first + length list) lists place high ∙ sym (other_one (suc place) 0 (λ same. omega arith))

in_rest : (first n index : ℕ) (list : List Qubit) (lists : List (List Qubit)) → first + length list ≤ n
    → ((place : ℕ) → count_of n (list_at (places_from (first + length list) lists) place) ≡ one_if place index)
    → (place : ℕ) → count_of n (list_at (places_from first (list ∷ lists)) place) ≡ one_if place (suc index)
in_rest first n index list lists low once zero = count_above n first list low ∙ sym (other_one 0 (suc index) (λ same. omega arith))
in_rest first n index list lists low once (suc place) = once place ∙ sym (next_one place index)

settled : (zone first n k : ℕ) (lists : List (List Qubit)) → n ≡ first + k → k < length (reading_order lists) → IsSettled zone first n lists k
settled zone first n k [] e h = absurd (omega arith)
settled zone first n k (list ∷ lists) e h = elim (cases_lt k (length list)) [
  | inl here ↦ record {
    index = 0;
    within = omega arith;
    home = home_here zone (length list) k (homes_from (zone + 1) lists) here ∙ (omega arith);
    once = λ place. in_first first n list lists place (omega arith) (omega arith);
  }
  | inr past ↦
      let rest : IsSettled (zone + 1) (first + length list) n lists (k - length list) =
      settled (zone + 1) (first + length list) n (k - length list) lists (omega arith) (omega (arith, length-append list (reading_order lists))) in
      record {
        index = suc rest.index;
        within = omega (arith, rest.within);
        home = home_later zone (length list) (k - length list) k (homes_from (zone + 1) lists) (omega arith) ∙ rest.home ∙ (omega arith);
        once = in_rest first n rest.index list lists (omega arith) rest.once;
      }
]

-- ---- the zones and the slots

empty_slots : (count place : ℕ) → list_at (replicate count []) place ≡ []
empty_slots zero place = refl
empty_slots (suc count) zero = refl
empty_slots (suc count) (suc place) = empty_slots count place

with_slots : (rows : List (List Ion)) (count place : ℕ) → list_at (rows ++ replicate count []) place ≡ list_at rows place
with_slots [] count place = empty_slots count place
with_slots (row ∷ rows) count zero = refl
with_slots (row ∷ rows) count (suc place) = with_slots rows count place

start_at : (setting : SettingValue) (place : ℕ) → list_at (start_of setting.trap setting.placement) place ≡ list_at (places_from 0 setting.placement) place
start_at setting place = with_slots (places_from 0 setting.placement) (slot_count setting.trap.segments) place

length_at : (first : ℕ) (lists : List (List Qubit)) (place : ℕ) → length (list_at (places_from first lists) place) ≡ length (slice_index_or lists place [])
length_at first [] place = refl
length_at first (list ∷ lists) zero = length-ions_from first list
length_at first (list ∷ lists) (suc place) = length_at (first + length list) lists place

pub length-homes : (zone : ℕ) (lists : List (List Qubit)) → length (homes_from zone lists) ≡ length (reading_order lists)
length-homes zone [] = refl
length-homes zone (list ∷ lists) =
    omega (arith, length-append (replicate (length list) (place_at zone)) (homes_from (zone + 1) lists), length-replicate (length list) (place_at zone), length-append list (reading_order lists), length-homes (zone + 1) lists)

pub homes_start : (setting : SettingValue) → IsPlacement setting.trap setting.circuit setting.placement → AreHomes setting.trap (start_of setting.trap setting.placement) (homes_from 0 setting.placement)
homes_start setting placed = record {
  present = λ ion h.
      let it = settled 0 0 ion ion setting.placement (omega arith) (omega (arith, length-homes 0 setting.placement)) in
      let home : home_of (homes_from 0 setting.placement) ion ≡ it.index = it.home ∙ (omega arith) in
      record {
        there = omega (arith, it.within, placed.zones, home);
        once = λ place. ap (count_of ion) (start_at setting place) ∙ it.once place ∙ ap (one_if place) (sym home);
      };
  known = λ ion place some.
      let here : 1 ≤ count_of ion (list_at (places_from 0 setting.placement) place) = subst (λ (ions : List Ion). 1 ≤ count_of ion ions) (start_at setting place) some in
      let none : length (reading_order setting.placement) ≤ ion → count_of ion (list_at (places_from 0 setting.placement) place) ≡ 0 = λ past. known_at ion 0 setting.placement place (omega arith) in
      elim (cases_lt ion (length (homes_from 0 setting.placement))) [
        | inl below ↦ below
        | inr past ↦ absurd (omega (arith, here, none (omega (arith, length-homes 0 setting.placement))))
      ];
}

pub free_start : (setting : SettingValue) → IsPlacement setting.trap setting.circuit setting.placement → HasRoom setting → AllHaveFree setting.trap (start_of setting.trap setting.placement) 2
free_start setting placed room zone h =
    omega (arith, room.free zone h, ap length (start_at setting zone), length_at 0 setting.placement zone)

spare_before : (trap : TrapValue) (config : List (List Ion)) (count : ℕ) → ((zone : ℕ) → zone < count → HasFree trap config 2 zone) → ions_before config count + 2 * count ≤ limits_before trap count
spare_before trap config zero free = omega arith
spare_before trap config (suc count) free = omega (arith, free count (omega arith), spare_before trap config count (λ zone h. free zone (omega arith)))

pub calm_start : (setting : SettingValue) → IsPlacement setting.trap setting.circuit setting.placement → HasRoom setting → IsCalm setting.trap (start_of setting.trap setting.placement)
calm_start setting placed room = record {
  slots = λ place past. start_at setting place ∙ get_or_past (places_from 0 setting.placement) place [] (omega (arith, length-places_from 0 setting.placement, placed.zones));
  spare = spare_before setting.trap (start_of setting.trap setting.placement) (length setting.trap.zones) (free_start setting placed room);
}
