-- Clauses of claims: when all of a family hold.
use Rattle.std.proofs.Common.{◌≡◌, ℕ, zero, suc, ◌+◌, ◌-◌, ◌<◌, ◌≤◌, Bool, true, false, not, List, [], ◌∷◌, ◌++◌, length, map, refl, ap, ◌∙◌, inl, inr, arith}
use Rattle.std.specs.Prelude.{Contains, IsTrue, if◌then◌else◌, slice_get, Some, ◌↔◌, ◌⊎◌}
use Rattle.std.specs.List.{flat_map, range_with_len}
use Rattle.std.proofs.lemmas.Bool.{cases_Bool, cases_lt, both_ways, not-true, not_from_false}
use Rattle.std.proofs.lemmas.Option.{slice_get_past}
use Rattle.circuit_core.specs.Circuit.{CircuitValue}
use Rattle.circuit_core.specs.Order.{is_performed}
use Rattle.trap_model.specs.Trap.{place_count}
use Rattle.trap_model.specs.Channels.{channels_of}
use Rattle.trap_model.specs.declared.channel.Channel.{Channel}
use Rattle.step_rules.specs.Setting.{SettingValue}
use Rattle.step_rules.specs.Guards.{is_able_for}
use Rattle.step_vars.specs.declared.cells.Cell.{Cell}
use Rattle.step_vars.specs.declared.item.Item.{Item}
use Rattle.step_vars.specs.declared.item.Claim.{Claim}
use Rattle.step_vars.specs.Items.{so, not_so, denied}
use Rattle.step_vars.specs.declared.channel_test.NumberedChannel.{NumberedChannel}
use Rattle.step_vars.specs.Lists.{ions_of, places_of, zones_of, ion_count, between, cell, pairs_of, performed, able_zones, able_ops, numbered_from, numbered_channels, channels_where, numbers_where}
use Rattle.step_vars.specs.declared.item.Bound.{Bound}
use Rattle.step_facts.specs.Facts.{Facts, holds, SomeHolds, AllHold, IsBounded, AreBounded, IsChannel}
use Rattle.step_facts.proofs.Lists.{Contains-first, Contains-later, Contains-nil, Contains-cons, Contains-range, Contains-filter, Contains-map, Contains-flat_map, range_within, in_range, in_map, in_flat_map}

-- ---- families as loops

pub AllHold-append : (facts : Facts) (xs ys : List (List Claim)) → AllHold facts (xs ++ ys)
    ↔ (AllHold facts xs × AllHold facts ys)
AllHold-append facts [] ys = (λ all. (tt, all), λ all. all.1)
AllHold-append facts (x ∷ xs) ys = let later = AllHold-append facts xs ys in (
  λ all. let parts = later.0 all.1 in ((all.0, parts.0), parts.1),
  λ all. (all.0.0, later.1 (all.0.1, all.1)),
)

pub AllHold-map : {X : Type 0} (facts : Facts) (f : X → List Claim) (xs : List X)
    → AllHold facts (map f xs) ↔ ((x : X) → Contains xs x → SomeHolds facts (f x))
AllHold-map facts f [] = (λ all x c. absurd (Contains-nil x c), λ each. tt)
AllHold-map facts f (x ∷ xs) = let later = AllHold-map facts f xs in (
  λ all y c. elim ((Contains-cons x xs y).0 c) [
    | inl e ↦ rw (← e) all.0
    | inr there ↦ later.0 all.1 y there
  ],
  λ each. (each x (Contains-first x xs), later.1 (λ y c. each y (Contains-later x xs y c))),
)

pub AllHold-flat_map : {X : Type 0} (facts : Facts) (f : X → List (List Claim)) (xs : List X)
    → AllHold facts (flat_map f xs) ↔ ((x : X) → Contains xs x → AllHold facts (f x))
AllHold-flat_map facts f [] = (λ all x c. absurd (Contains-nil x c), λ each. tt)
AllHold-flat_map facts f (x ∷ xs) =
    let later = AllHold-flat_map facts f xs in let both = AllHold-append facts (f x) (flat_map f xs) in (
      λ all y c. elim ((Contains-cons x xs y).0 c) [
        | inl e ↦ rw (← e) (both.0 all).0
        | inr there ↦ later.0 (both.0 all).1 y there
      ],
      λ each. both.1 (each x (Contains-first x xs), later.1 (λ y c. each y (Contains-later x xs y c))),
    )

pub AreBounded-append : (facts : Facts) (xs ys : List Bound) → AreBounded facts (xs ++ ys)
    ↔ (AreBounded facts xs × AreBounded facts ys)
AreBounded-append facts [] ys = (λ all. (tt, all), λ all. all.1)
AreBounded-append facts (x ∷ xs) ys = let later = AreBounded-append facts xs ys in (
  λ all. let parts = later.0 all.1 in ((all.0, parts.0), parts.1),
  λ all. (all.0.0, later.1 (all.0.1, all.1)),
)

pub AreBounded-map : {X : Type 0} (facts : Facts) (f : X → Bound) (xs : List X)
    → AreBounded facts (map f xs) ↔ ((x : X) → Contains xs x → IsBounded facts (f x))
AreBounded-map facts f [] = (λ all x c. absurd (Contains-nil x c), λ each. tt)
AreBounded-map facts f (x ∷ xs) = let later = AreBounded-map facts f xs in (
  λ all y c. elim ((Contains-cons x xs y).0 c) [
    | inl e ↦ rw (← e) all.0
    | inr there ↦ later.0 all.1 y there
  ],
  λ each. (each x (Contains-first x xs), later.1 (λ y c. each y (Contains-later x xs y c))),
)

-- ---- clauses as implications

-- where the first claim of a clause is denied, another holds; and so the clause is an implication
pub given : {b : Bool} {R : Type 0} → (not b ≡ true) ⊎ R → b ≡ true → R
given some is = elim some [
  | inl not_so ↦ absurd (both_ways _ (not-true _ not_so) is)
  | inr rest ↦ rest
]

pub give : (b : Bool) {R : Type 0} → (b ≡ true → R) → (not b ≡ true) ⊎ R
give true rest = inr (rest refl)
give false rest = inl refl

pub unless : {b : Bool} {R : Type 0} → (b ≡ true) ⊎ R → b ≡ false → R
unless some is_not = elim some [
  | inl is ↦ absurd (both_ways _ is_not is)
  | inr rest ↦ rest
]

pub or_else : (b : Bool) {R : Type 0} → (b ≡ false → R) → (b ≡ true) ⊎ R
or_else true rest = inl refl
or_else false rest = inr (rest refl)

pub last_one : {R : Type 0} → R ⊎ ⊥ → R
last_one some = elim some [
  | inl is ↦ is
  | inr never ↦ absurd never
]

pub last_false : {b : Bool} → (not b ≡ true) ⊎ ⊥ → b ≡ false
last_false some = not-true _ (last_one some)

-- the second way, said otherwise
pub second_way : {P R S : Type 0} → (R → S) → P ⊎ R → P ⊎ S
second_way law some = elim some [
  | inl is ↦ inl is
  | inr rest ↦ inr (law rest)
]

-- a claim that a fact has a value
pub holds-as : (b value : Bool) → ((if value then b else not b) ≡ true) ↔ (b ≡ value)
holds-as b true = (λ is. is, λ is. is)
holds-as b false = (λ is_not. not-true b is_not, λ is. not_from_false b is)

double_not : (b : Bool) → b ≡ not (not b)
double_not true = refl
double_not false = refl

denied-not : (facts : Facts) (a : Claim) → holds facts (denied a) ≡ not (holds facts a)
denied-not facts a = elim (cases_Bool a.positive) [
  | inl positive ↦ rw positive refl
  | inr negative ↦ rw negative (double_not (facts a.item))
]

-- a claim that is denied in front is a premise
pub given_claim : (facts : Facts) (a : Claim) {R : Type 0} → (holds facts (denied a) ≡ true) ⊎ R
    → holds facts a ≡ true → R
given_claim facts a some is = given (rw (denied-not facts a) at some) is

pub give_claim : (facts : Facts) (a : Claim) {R : Type 0} → (holds facts a ≡ true → R)
    → (holds facts (denied a) ≡ true) ⊎ R
give_claim facts a law = rw (denied-not facts a) (give (holds facts a) law)

-- some of a list of items is true
pub record SomeIsTrue {X : Type 0} (facts : Facts) (f : X → Item) (xs : List X) : Type 0 where
  pub member : X
  pub there : Contains xs member
  pub is : facts (f member) ≡ true

some_true : {X : Type 0} (facts : Facts) (f : X → Item) (xs : List X)
    → SomeHolds facts (map (λ x. so (f x)) xs) → SomeIsTrue facts f xs
some_true facts f [] some = absurd some
some_true facts f (x ∷ xs) some = elim some [
  | inl is ↦ record { member = x; there = Contains-first x xs; is = is }
  | inr rest ↦ let it = some_true facts f xs rest in record { member = it.member; there = Contains-later x xs it.member it.there; is = it.is }
]

some_holds : {X : Type 0} (facts : Facts) (f : X → Item) (xs : List X) (x : X) → Contains xs x
    → facts (f x) ≡ true → SomeHolds facts (map (λ x. so (f x)) xs)
some_holds facts f [] x c is = absurd (Contains-nil x c)
some_holds facts f (y ∷ ys) x c is = elim ((Contains-cons y ys x).0 c) [
  | inl e ↦ inl (ap (λ z. facts (f z)) e ∙ is)
  | inr later ↦ inr (some_holds facts f ys x later is)
]

pub SomeHolds-map : {X : Type 0} (facts : Facts) (f : X → Item) (xs : List X)
    → SomeHolds facts (map (λ x. so (f x)) xs) ↔ SomeIsTrue facts f xs
SomeHolds-map facts f xs = (some_true facts f xs, λ it. some_holds facts f xs it.member it.there it.is)

-- ---- what the loops run over

pub there-ion : (setting : SettingValue) (i : ℕ) → Contains (ions_of setting) i ↔ (i < ion_count setting)
there-ion setting i = Contains-range (ion_count setting) i

pub there-place : (setting : SettingValue) (p : ℕ) → Contains (places_of setting) p
    ↔ (p < place_count setting.trap)
there-place setting p = Contains-range (place_count setting.trap) p

pub there-zone : (setting : SettingValue) (z : ℕ) → Contains (zones_of setting) z
    ↔ (z < length setting.trap.zones)
there-zone setting z = Contains-range (length setting.trap.zones) z

pair_has : (ions : ℕ) (pair : Cell) → Contains (pairs_of ions) pair → (pair.row < pair.col) × (pair.col < ions)
pair_has ions pair c =
    let row = (Contains-flat_map (λ i. map (cell i) (between (i + 1) ions)) (range_with_len 0 ions) pair).0 c in
    let col = (Contains-map (cell row.member) (between (row.member + 1) ions) pair).0 row.in_image in
    let first : row.member < ions = (Contains-range ions row.member).0 row.there in
    let second = range_within (row.member + 1) (ions - (row.member + 1)) col.member col.there in
    rw (← col.is) (omega arith, omega arith)

pub in_pairs : (ions i j : ℕ) → i < j → j < ions → Contains (pairs_of ions) (cell i j)
in_pairs ions i j below within =
    in_flat_map (λ i. map (cell i) (between (i + 1) ions)) (range_with_len 0 ions) i (cell i j)
    ((Contains-range ions i).1 (omega arith))
    (in_map (cell i) (between (i + 1) ions) j (in_range (i + 1) (ions - (i + 1)) j (omega arith) (omega arith)))

pub there-pair : (ions : ℕ) (pair : Cell) → Contains (pairs_of ions) pair
    ↔ ((pair.row < pair.col) × (pair.col < ions))
there-pair ions pair = (pair_has ions pair, λ it. in_pairs ions pair.row pair.col it.0 it.1)

performed_within : (circuit : CircuitValue) (g : ℕ) → IsTrue (is_performed circuit g) → g < length circuit.ops
performed_within circuit g is = elim (cases_lt g (length circuit.ops)) [
  | inl within ↦ within
  | inr past ↦ absurd (both_ways false refl (rw (slice_get_past circuit.ops g past) at is))
]

pub there-performed : (circuit : CircuitValue) (g : ℕ) → Contains (performed circuit) g
    ↔ IsTrue (is_performed circuit g)
there-performed circuit g =
    let kept = Contains-filter (is_performed circuit) (range_with_len 0 (length circuit.ops)) g in (
      λ there. (kept.0 there).1,
      λ is. kept.1 ((Contains-range (length circuit.ops) g).1 (performed_within circuit g is), is),
    )

pub there-able_op : (setting : SettingValue) (z g : ℕ) → Contains (able_ops setting z) g
    ↔ (IsTrue (is_performed setting.circuit g) × IsTrue (is_able_for setting z g))
there-able_op setting z g =
    let kept = Contains-filter (is_able_for setting z) (performed setting.circuit) g in (
      λ there. let it = kept.0 there in ((there-performed setting.circuit g).0 it.0, it.1),
      λ it. kept.1 ((there-performed setting.circuit g).1 it.0, it.1),
    )

pub there-able_zone : (setting : SettingValue) (g z : ℕ) → Contains (able_zones setting g) z
    ↔ ((z < length setting.trap.zones) × IsTrue (is_able_for setting z g))
there-able_zone setting g z =
    let kept = Contains-filter (λ y. is_able_for setting y g) (zones_of setting) z in (
      λ there. let it = kept.0 there in ((Contains-range (length setting.trap.zones) z).0 it.0, it.1),
      λ it. kept.1 ((Contains-range (length setting.trap.zones) z).1 it.0, it.1),
    )

pub numbered_has : (k : ℕ) (channels : List Channel) (c : NumberedChannel)
    → Contains (numbered_from k channels) c
    → (k ≤ c.number) × (slice_get channels (c.number - k) ≡ Some c.channel)
numbered_has k [] c there = absurd (Contains-nil c there)
numbered_has k (channel ∷ channels) c there =
    elim ((Contains-cons (record { number = k; channel = channel })
    (numbered_from (k + 1) channels) c).0 there) [
      | inl e ↦
          let none : k - k ≡ 0 = omega arith in
          rw (← e) (omega arith, rw none refl)
      | inr later ↦
          let it = numbered_has (k + 1) channels c later in
          let next : c.number - k ≡ suc (c.number - (k + 1)) = omega arith in
          (omega arith, rw next it.1)
    ]

in_numbered : (k index number : ℕ) (channels : List Channel) (channel : Channel) → number ≡ k + index
    → slice_get channels index ≡ Some channel
    → Contains (numbered_from k channels) (record { number = number; channel = channel })
in_numbered k index number [] channel at known = absurd cc
in_numbered k zero number (first ∷ channels) channel at known =
    let here : k ≡ number = omega arith in
    let is : first ≡ channel = cc in
    (0, omega arith, rw (here, is) refl)
in_numbered k (suc index) number (first ∷ channels) channel at known =
    Contains-later (record { number = k; channel = first }) (numbered_from (k + 1) channels)
    (record { number = number; channel = channel })
    (in_numbered (k + 1) index number channels channel (omega arith) known)

pub there-channel : (setting : SettingValue) (c : NumberedChannel) → Contains (numbered_channels setting) c
    ↔ IsChannel setting c.number c.channel
there-channel setting c = (
  λ there.
      let whole : c.number - 0 ≡ c.number = omega arith in
      rw whole at (numbered_has 0 (channels_of setting.trap) c there).1,
  λ known. in_numbered 0 c.number c.number (channels_of setting.trap) c.channel (omega arith) known,
)

pub there-channel_where : (setting : SettingValue) (test : Channel → Bool) (c : NumberedChannel)
    → Contains (channels_where test setting) c
    ↔ (IsChannel setting c.number c.channel × (test c.channel ≡ true))
there-channel_where setting test c =
    let kept = Contains-filter (λ (d : NumberedChannel). test d.channel) (numbered_channels setting) c in (
      λ there. let it = kept.0 there in ((there-channel setting c).0 it.0, it.1),
      λ it. kept.1 ((there-channel setting c).1 it.0, it.1),
    )

-- a channel of that number that passes the test
pub record HasNumber (setting : SettingValue) (test : Channel → Bool) (number : ℕ) : Type 0 where
  pub channel : Channel
  pub there : IsChannel setting number channel
  pub passes : test channel ≡ true

pub there-number_where : (setting : SettingValue) (test : Channel → Bool) (number : ℕ)
    → Contains (numbers_where test setting) number ↔ HasNumber setting test number
there-number_where setting test number = (
  λ there.
      let it = (Contains-map (λ (c : NumberedChannel). c.number) (channels_where test setting) number).0 there in
      let known = (there-channel_where setting test it.member).0 it.there in
      rw (← it.is) (record { channel = it.member.channel; there = known.0; passes = known.1 }),
  λ it. in_map (λ (c : NumberedChannel). c.number) (channels_where test setting)
      (record { number = number; channel = it.channel })
      ((there-channel_where setting test (record { number = number; channel = it.channel })).1
      (it.there, it.passes)),
)
