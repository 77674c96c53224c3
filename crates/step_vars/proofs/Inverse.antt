-- Numbers and items invert each other.
use Rattle.std.proofs.Common.{◌≡◌, ◌≢◌, ℕ, ◌+◌, ◌-◌, ◌*◌, ◌<◌, ◌≤◌, Bool, true, false, cond, Option, Some, None, zero, suc, refl, sym, ap, ◌∙◌, arith, inl, inr, add-one, subst}
use Rattle.std.specs.Prelude.{◌/◌, ◌%◌, nat_le, IfSome}
use Rattle.std.specs.Option.{option_map}
use Rattle.std.proofs.lemmas.Bool.{cases_lt, lt-ltb, le-ltb, le-leb, lt-leb, leb-true}
use Rattle.std.proofs.lemmas.Nat.{div-mul-add, mod-mul-add, mod_below, div-add-mod'}
use Rattle.step_vars.specs.declared.item.Item.{Item}
use Rattle.step_vars.specs.Items.{time_of, goal_item}
use Rattle.step_vars.specs.Numbering.{Numbering, first_sizes, later_sizes, sizes_at, part_size, before, block_from, index_in_block, is_timely, number_of, first_helper, helpers_from, goal_from}
use Rattle.step_vars.specs.Tables.{AreFound}
use Rattle.step_vars.specs.Encoding.{VarsValue, number_in}
use Rattle.step_vars.specs.ItemOf.{IsAt, item_at, part_at, place_at, item_of, item_in}
use Rattle.step_vars.proofs.Numbers.{mapped, before_closed, before_next, index_within, none_both}
use Rattle.step_vars.proofs.Places.{item_placed, helper_placed, goal_placed}
use Rattle.step_vars.proofs.PlacesBack.{place_back}

-- ---- the part of a number

pub parted : (n : Numbering) (t place k : ℕ) → place < part_size (sizes_at n t) → k ≡ before n t + place → (part_at n k ≡ t) × (place_at n k ≡ place)
parted n zero place k h is =
    let below : k < part_size (first_sizes n) = omega arith in
    let same : k ≡ place = omega arith in
    rw (lt-ltb k (part_size (first_sizes n)) below) (refl, same)
parted n (suc r) place k h is =
    let size = part_size (later_sizes n) in
    let first = part_size (first_sizes n) in
    let past : first ≤ k = omega (arith, before_closed n r) in
    let rest : k - first ≡ r * size + place = omega (arith, before_closed n r) in
    rw (le-ltb k first past, rest, div-mul-add r size place h, mod-mul-add r size place h) (omega arith, refl)

sizes_next : (n : Numbering) (r : ℕ) → sizes_at n (r + 1) ≡ later_sizes n
sizes_next n r = rw add-one refl

before_later : (n : Numbering) (r : ℕ) → before n (r + 1) ≡ part_size (first_sizes n) + r * part_size (later_sizes n)
before_later n r = rw add-one (sym (before_closed n r))

later_part : (n : Numbering) (k first size : ℕ) → first ≡ part_size (first_sizes n) → size ≡ part_size (later_sizes n) → first ≤ k
    → (k ≡ before n ((k - first) / size + 1) + (k - first) % size) × ((k - first) % size < part_size (sizes_at n ((k - first) / size + 1)))
later_part n k first size f s past =
    let q = (k - first) / size in
    let below = mod_below (k - first) size (omega (arith, s)) in
    let rows : q * part_size (later_sizes n) ≡ q * size = ap (λ x. q * x) (sym s) in
    (omega (arith, before_later n q, div-add-mod' (k - first) size, rows, f), rw (sizes_next n q, ← s) below)

pub part_back : (n : Numbering) (k : ℕ) → (k ≡ before n (part_at n k) + place_at n k) × (place_at n k < part_size (sizes_at n (part_at n k)))
part_back n k =
    let first = part_size (first_sizes n) in
    elim (cases_lt k first) [
      | inl below ↦ rw (lt-ltb k first below) (omega arith, below)
      | inr past ↦ rw (le-ltb k first past) (later_part n k first (part_size (later_sizes n)) refl refl past)
    ]

pub before_mono : (n : Numbering) (s t : ℕ) → s ≤ t → before n s ≤ before n t
before_mono n s zero h = let e : s ≡ zero = omega arith in rw e (omega arith)
before_mono n s (suc t) h = elim (cases_lt s (suc t)) [
  | inl below ↦ omega (arith, before_mono n s t (omega arith))
  | inr past ↦ let e : s ≡ suc t = omega arith in rw e (omega arith)
]

-- ---- the number of an item

some_if : {A : Type 0} (b : Bool) (o : Option A) (y : A) → cond b o None ≡ Some y → (b ≡ true) × (o ≡ Some y)
some_if true o y e = (refl, e)
some_if false o y e = absurd (cc)

-- the place of an item that has a number
pub record IsPlaced (n : Numbering) (item : Item) (var : ℕ) : Type 0 where
  pub place : ℕ
  pub at : IsAt n (time_of item) place item
  pub is : var ≡ before n (time_of item) + place + 1
  pub within : place < part_size (sizes_at n (time_of item))

pub placed : (n : Numbering) (item : Item) (var : ℕ) → number_of n item ≡ Some var → IsPlaced n item var
unfolding number_of
placed n item var e =
    let block = block_from (sizes_at n (time_of item)) item in
    let f : ℕ → ℕ = λ k. before n (time_of item) + block + k + 1 in
    let timely = some_if (is_timely item) (option_map f (index_in_block n item)) var e in
    let index = mapped f (index_in_block n item) var timely.1 in
    record {
      place = block + index.0;
      at = record { timely = timely.0; time = refl; index = index.0; found = index.1.0; at = refl };
      is = omega (arith, index.1.1);
      within = index_within n item index.0 timely.0 index.1.0;
    }

pub numbered : (n : Numbering) (t place : ℕ) (item : Item) → IsAt n t place item → number_of n item ≡ Some (before n t + place + 1)
unfolding number_of
numbered n t place item h =
    let same : before n t + block_from (sizes_at n t) item + h.index + 1 ≡ before n t + place + 1 = omega (arith, h.at) in
    rw (h.timely, h.found, h.time) (ap Some same)

-- ---- both ways

pub number_to_item : (n : Numbering) (item : Item) (var : ℕ) → number_of n item ≡ Some var → item_of n var ≡ Some item
unfolding item_of
number_to_item n item var e =
    let p = placed n item var e in
    let part = parted n (time_of item) p.place (var - 1) p.within (omega (arith, p.is)) in
    rw (lt-ltb 0 var (omega (arith, p.is)), part.0, part.1) (item_placed n item p.at.index p.place p.at.timely p.at.found (sym p.at.at))

pub item_to_number : (n : Numbering) (item : Item) (var : ℕ) → AreFound n → item_of n var ≡ Some item → number_of n item ≡ Some var
unfolding item_of
item_to_number n item var own e = elim (cases_lt 0 var) [
  | inl positive ↦
      let back = part_back n (var - 1) in
      let at = place_back n (part_at n (var - 1)) (place_at n (var - 1)) item own back.1 (rw (lt-ltb 0 var positive) at e) in
      let same : before n (part_at n (var - 1)) + place_at n (var - 1) + 1 ≡ var = omega (arith, back.0) in
      numbered n (part_at n (var - 1)) (place_at n (var - 1)) item at ∙ ap Some same
  | inr none ↦ let nothing = rw (le-ltb 0 var none) at e in absurd (cc nothing)
]

-- ---- up to the last time

pub number_within : (n : Numbering) (item : Item) (var t : ℕ) → number_of n item ≡ Some var → time_of item ≤ t → var ≤ before n (t + 1)
number_within n item var t e h =
    let p = placed n item var e in
    omega (arith, p.is, p.within, before_next n (time_of item), before_mono n (time_of item + 1) (t + 1) (omega arith))

pub number_above : (n : Numbering) (item : Item) (var t : ℕ) → number_of n item ≡ Some var → t ≤ time_of item → before n t < var
number_above n item var t e h =
    let p = placed n item var e in
    omega (arith, p.is, before_mono n t (time_of item) h)

pub number_from_1 : (n : Numbering) (item : Item) (var : ℕ) → number_of n item ≡ Some var → 1 ≤ var
number_from_1 n item var e =
    let p = placed n item var e in
    omega (arith, p.is)

pub item_in_to_number : (vars : VarsValue) (item : Item) (var : ℕ) → AreFound vars.numbering → item_in vars var ≡ Some item → number_in vars item ≡ Some var
item_in_to_number vars item var own e =
    let inside = some_if (nat_le var (before vars.numbering (vars.steps + 1))) (item_of vars.numbering var) item e in
    let below = leb-true var (before vars.numbering (vars.steps + 1)) inside.0 in
    let number = item_to_number vars.numbering item var own inside.1 in
    elim (cases_lt vars.steps (time_of item)) [
      | inl late ↦ absurd (omega (arith, below, number_above vars.numbering item var (vars.steps + 1) number (omega arith)))
      | inr timely ↦ rw (le-leb (time_of item) vars.steps timely) number
    ]

pub number_in_to_item : (vars : VarsValue) (item : Item) (var : ℕ) → number_in vars item ≡ Some var → item_in vars var ≡ Some item
number_in_to_item vars item var e =
    let inside = some_if (nat_le (time_of item) vars.steps) (number_of vars.numbering item) var e in
    let below = number_within vars.numbering item var vars.steps inside.1 (leb-true (time_of item) vars.steps inside.0) in
    rw (le-leb var (before vars.numbering (vars.steps + 1)) below) (number_to_item vars.numbering item var inside.1)

pub item_none_zero : (vars : VarsValue) (var : ℕ) → var ≡ 0 → None ≡ item_in vars var
unfolding item_of
item_none_zero vars var e = rw e (none_both (nat_le 0 (before vars.numbering (vars.steps + 1))) None)

pub item_none_late : (vars : VarsValue) (var : ℕ) → before vars.numbering (vars.steps + 1) < var → None ≡ item_in vars var
item_none_late vars var h = rw (lt-leb var (before vars.numbering (vars.steps + 1)) h) refl

pub item_here : (vars : VarsValue) (var part place : ℕ) (found : Option Item) → 1 ≤ var → var ≤ before vars.numbering (vars.steps + 1)
    → part ≡ part_at vars.numbering (var - 1) → place ≡ place_at vars.numbering (var - 1)
    → found ≡ item_at vars.numbering (sizes_at vars.numbering part) part place → found ≡ item_in vars var
unfolding item_of
item_here vars var part place found from to p q e =
    rw (le-leb var (before vars.numbering (vars.steps + 1)) to, lt-ltb 0 var from) (rw (p, q) at e)

pub found_number : (vars : VarsValue) (var : ℕ) (found : Option Item) → AreFound vars.numbering → found ≡ item_in vars var
    → IfSome found (λ item. number_in vars item ≡ Some var)
found_number vars var None own e = tt
found_number vars var (Some item) own e = item_in_to_number vars item var own (sym e)

-- ---- laws

pub number_once : (n : Numbering) (a b : Item) (var : ℕ) → number_of n a ≡ Some var → number_of n b ≡ Some var → a ≡ b
number_once n a b var x y =
    let same : Some a ≡ Some b = sym (number_to_item n a var x) ∙ number_to_item n b var y in
    cc

pub helper_is_none : (n : Numbering) (t k : ℕ) → k < (sizes_at n t).helpers → item_of n (first_helper n t + k) ≡ None
unfolding item_of
helper_is_none n t k h =
    let s = sizes_at n t in
    let place = helpers_from s + k in
    let var = first_helper n t + k in
    let part = parted n t place (var - 1) (omega arith) (omega arith) in
    rw (lt-ltb 0 var (omega arith), part.0, part.1) (helper_placed n s t place (omega arith) (omega arith))

pub helper_is_no_item : (n : Numbering) (t k : ℕ) (item : Item) → k < (sizes_at n t).helpers → number_of n item ≢ Some (first_helper n t + k)
helper_is_no_item n t k item h e =
    let found = number_to_item n item (first_helper n t + k) e in
    let none = helper_is_none n t k h in
    cc

-- all items but the goal come before the helpers
before_helpers : (n : Numbering) (item : Item) (k : ℕ) → is_timely item ≡ true → index_in_block n item ≡ Some k → item ≢ goal_item (time_of item)
    → block_from (sizes_at n (time_of item)) item + k < helpers_from (sizes_at n (time_of item))
before_helpers n item k timely e other = elim (cases_lt (block_from (sizes_at n (time_of item)) item + k) (helpers_from (sizes_at n (time_of item)))) [
  | inl below ↦ below
  | inr past ↦
      let s = sizes_at n (time_of item) in
      let place = block_from s item + k in
      let within = index_within n item k timely e in
      let found = item_placed n item k place timely e refl in
      absurd (elim (cases_lt place (goal_from s)) [
        | inl helper ↦ let none = helper_placed n s (time_of item) place past helper in cc
        | inr goal ↦
            let is_goal = goal_placed n s (time_of item) place (omega arith) in
            let same : Some item ≡ Some (goal_item (time_of item)) = sym found ∙ is_goal in
            other cc
      ])
]

pub number_before_helpers : (n : Numbering) (item : Item) (var t : ℕ) → number_of n item ≡ Some var → time_of item ≤ t → item ≢ goal_item t → var < first_helper n t
number_before_helpers n item var t e h other =
    let p = placed n item var e in
    elim (cases_lt (time_of item) t) [
      | inl earlier ↦ omega (arith, number_within n item var (time_of item) e (omega arith), before_mono n (time_of item + 1) t (omega arith))
      | inr same ↦
          let now : time_of item ≡ t = omega arith in
          let P : ℕ → Type 0 = λ s. item ≢ goal_item s → var < first_helper n s in
          subst P now (λ apart. omega (arith, p.is, p.at.at, before_helpers n item p.at.index p.at.timely p.at.found apart)) other
    ]
