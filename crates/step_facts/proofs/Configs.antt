-- Configurations in which each ion is once, and what a legal step leaves of them.
use Rattle.std.proofs.Common.{◌≡◌, ◌≢◌, ℕ, zero, suc, ◌+◌, ◌-◌, ◌<◌, ◌≤◌, Bool, true, false, not, ◌||◌, List, [], ◌∷◌, ◌++◌, length, take, refl, sym, ap, subst, ◌∙◌, inl, inr, arith}
use Rattle.std.specs.Prelude.{All, IsTrue, nat_lt, slice_index_or, slice_get, ◌==◌}
use Rattle.std.specs.Option.{option_map_or}
use Rattle.std.specs.List.{list_any}
use Rattle.std.proofs.lemmas.Bool.{cases_order, or_cases, or_left, or_right, or_from, or_parts, eqb-true, ne_eqb, false_from_ne_true, both_ways, lt-ltb, le-ltb, cond-true, cond-false, not_from_false, not_from_true}
use Rattle.std.proofs.lemmas.List.Folds.{list_any-append}
use Rattle.std.proofs.lemmas.List.Elements.{All-nil, All-cons, All-head, All-tail}
use Rattle.std.proofs.lemmas.List.Sorted.{All-permutation}
use Rattle.qc_base.specs.declared.ids.Qubit.{Qubit}
use Rattle.qc_base.specs.declared.ids.Ion.{Ion}
use Rattle.qc_base.specs.Counting.{how_many}
use Rattle.qc_base.specs.declared.ids.End.TheVariants.{A, B}
use Rattle.trap_parts.specs.Parts.{TrapValue}
use Rattle.trap_model.specs.Trap.{place_count}
use Rattle.ion_chain.specs.Transfer.{list_at}
use Rattle.step_rules.specs.declared.action.Action.{Action}
use Rattle.step_rules.specs.Placement.{start_of, reading_order, ions_from}
use Rattle.step_rules.specs.Setting.{SettingValue}
use Rattle.step_rules.specs.Guards.{Passes}
use Rattle.step_rules.specs.Steps.{IsLegal, after_step}
use Rattle.step_rules.specs.Play.{AreLegal, after_steps}
use Rattle.step_rules.specs.Config.{IsKept, all_ions}
use Rattle.step_rules.proofs.Kept.{step_kept, start_ions, start_limits}
use Rattle.step_rules.proofs.Counted.{counted}
use Rattle.step_vars.specs.Lists.{ion_count, ions_of, is_there, is_before, starts_at}
use Rattle.step_vars.specs.Items.{nearer, ord_item, so, not_so}
use Rattle.step_facts.specs.Facts.{Facts, IsNearerTo, holds}
use Rattle.step_facts.specs.Run.{IsSetting}
use Rattle.step_facts.specs.OfSchedule.{config_at, step_at}
use Rattle.step_facts.specs.Agreement.{AreDistinct, IsSound, Agrees}
use Rattle.step_facts.proofs.IonLists.{distinct-left, distinct-right, distinct-apart, distinct-permutation, before-there_first, before-turned, length-there}

-- ---- each ion is once

-- an ion of a place is one of the configuration
there-all : (config : List (List Ion)) (i p : ℕ) → is_there i (list_at config p) ≡ true → is_there i (all_ions config) ≡ true
there-all [] i p there = there
there-all (ions ∷ config) i zero there = list_any-append (λ (ion : Ion). ion.0 == i) ions (all_ions config) ∙ or_left (is_there i ions) (is_there i (all_ions config)) there
there-all (ions ∷ config) i (suc p) there =
    list_any-append (λ (ion : Ion). ion.0 == i) ions (all_ions config) ∙ or_right (is_there i ions) (is_there i (all_ions config)) (there-all config i p there)

-- an ion of the first place is in none of the others
first_alone : (ions : List Ion) (config : List (List Ion)) (i p : ℕ) → AreDistinct (ions ++ all_ions config) → is_there i ions ≡ true → is_there i (list_at config p) ≡ true → ⊥
first_alone ions config i p distinct here there = both_ways (is_there i (all_ions config)) (distinct-apart i ions (all_ions config) distinct here) (there-all config i p there)

one_place : (config : List (List Ion)) (i p q : ℕ) → AreDistinct (all_ions config) → is_there i (list_at config p) ≡ true → is_there i (list_at config q) ≡ true → p ≡ q
one_place [] i p q distinct at_p at_q = absurd cc
one_place (ions ∷ config) i zero zero distinct at_p at_q = refl
one_place (ions ∷ config) i zero (suc q) distinct at_p at_q = absurd (first_alone ions config i q distinct at_p at_q)
one_place (ions ∷ config) i (suc p) zero distinct at_p at_q = absurd (first_alone ions config i p distinct at_q at_p)
one_place (ions ∷ config) i (suc p) (suc q) distinct at_p at_q = ap suc (one_place config i p q (distinct-right ions (all_ions config) distinct) at_p at_q)

pub sound-one_place : (setting : SettingValue) (config : List (List Ion)) (i p q : ℕ) → IsSound setting config
    → IsTrue (is_there i (list_at config p)) → IsTrue (is_there i (list_at config q)) → p ≡ q
sound-one_place setting config i p q sound at_p at_q = one_place config i p q sound.distinct at_p at_q

distinct_at : (config : List (List Ion)) (p : ℕ) → AreDistinct (all_ions config) → AreDistinct (list_at config p)
distinct_at [] p distinct = tt
distinct_at (ions ∷ config) zero distinct = distinct-left ions (all_ions config) distinct
distinct_at (ions ∷ config) (suc p) distinct = distinct_at config p (distinct-right ions (all_ions config) distinct)

pub sound-distinct : (setting : SettingValue) (config : List (List Ion)) (p : ℕ) → IsSound setting config → AreDistinct (list_at config p)
sound-distinct setting config p sound = distinct_at config p sound.distinct

first_all : (P : Ion → Type 0) (xs ys : List Ion) → All P (xs ++ ys) → All P xs
first_all P [] ys all = All-nil P
first_all P (x ∷ xs) ys all = All-cons P x xs (All-head P x (xs ++ ys) all) (first_all P xs ys (All-tail P x (xs ++ ys) all))

second_all : (P : Ion → Type 0) (xs ys : List Ion) → All P (xs ++ ys) → All P ys
second_all P [] ys all = all
second_all P (x ∷ xs) ys all = second_all P xs ys (All-tail P x (xs ++ ys) all)

all_at : (P : Ion → Type 0) (config : List (List Ion)) (p : ℕ) → All P (all_ions config) → All P (list_at config p)
all_at P [] p all = All-nil P
all_at P (ions ∷ config) zero all = first_all P ions (all_ions config) all
all_at P (ions ∷ config) (suc p) all = all_at P config p (second_all P ions (all_ions config) all)

pub sound-known : (setting : SettingValue) (config : List (List Ion)) (p : ℕ) → IsSound setting config → All (λ (ion : Ion). ion.0 < ion_count setting) (list_at config p)
sound-known setting config p sound = all_at (λ (ion : Ion). ion.0 < ion_count setting) config p sound.known

known_there : (n : ℕ) (ions : List Ion) (i : ℕ) → All (λ (ion : Ion). ion.0 < n) ions → is_there i ions ≡ true → i < n
known_there n [] i known there = absurd cc
known_there n (ion ∷ ions) i known there =
    let P : Ion → Type 0 = λ (it : Ion). it.0 < n in
    elim (or_cases (ion.0 == i) (is_there i ions) there) [
      | inl here ↦ omega (arith, eqb-true ion.0 i here, All-head P ion ions known)
      | inr later ↦ known_there n ions i (All-tail P ion ions known) later
    ]

place_there : (config : List (List Ion)) (i p : ℕ) → is_there i (list_at config p) ≡ true → p < length config
place_there [] i p there = absurd cc
place_there (ions ∷ config) i zero there = omega arith
place_there (ions ∷ config) i (suc p) there = omega (arith, place_there config i p there)

pub sound-known_at : (setting : SettingValue) (config : List (List Ion)) (i p : ℕ) → IsSound setting config → IsTrue (is_there i (list_at config p))
    → (i < ion_count setting) × (p < place_count setting.trap)
sound-known_at setting config i p sound there = (
  known_there (ion_count setting) (list_at config p) i (sound-known setting config p sound) there,
  omega (arith, place_there config i p there, sound.limits.places),
)

-- what isn't there is before nothing
before_none : (i j : ℕ) (ions : List Ion) → is_there i ions ≡ false → is_before i j ions ≡ false
before_none i j ions not = false_from_ne_true (is_before i j ions) (λ before. both_ways (is_there i ions) not (before-there_first i j ions before))

none_before : (config : List (List Ion)) (i j : ℕ) → is_there i (all_ions config) ≡ false → list_any (is_before i j) config ≡ false
none_before [] i j not = refl
none_before (ions ∷ config) i j not =
    let parts = or_parts (is_there i ions) (is_there i (all_ions config)) (sym (list_any-append (λ (ion : Ion). ion.0 == i) ions (all_ions config)) ∙ not) in
    or_from (is_before i j ions) (list_any (is_before i j) config) (before_none i j ions parts.0) (none_before config i j parts.1)

only_first : (a b : Bool) → b ≡ false → (a || b) ≡ a
only_first true b e = refl
only_first false b e = e

only_second : (a b : Bool) → a ≡ false → (a || b) ≡ b
only_second true b e = absurd cc
only_second false b e = refl

order_at : (config : List (List Ion)) (i j p : ℕ) → AreDistinct (all_ions config) → is_there i (list_at config p) ≡ true → list_any (is_before i j) config ≡ is_before i j (list_at config p)
order_at [] i j p distinct there = refl
order_at (ions ∷ config) i j zero distinct there =
    only_first (is_before i j ions) (list_any (is_before i j) config) (none_before config i j (distinct-apart i ions (all_ions config) distinct there))
order_at (ions ∷ config) i j (suc p) distinct there =
    only_second (is_before i j ions) (list_any (is_before i j) config)
    (before_none i j ions (false_from_ne_true (is_there i ions) (λ here. first_alone ions config i p distinct here there)))
    ∙ order_at config i j p (distinct-right ions (all_ions config) distinct) there

-- the order of two ions of one place is that of the place
pub sound-order : (setting : SettingValue) (config : List (List Ion)) (i j p : ℕ) → IsSound setting config
    → IsTrue (is_there i (list_at config p)) → IsTrue (is_there j (list_at config p)) → list_any (is_before i j) config ≡ is_before i j (list_at config p)
sound-order setting config i j p sound i_there j_there = order_at config i j p sound.distinct i_there

-- how many ions a place has, counted by their numbers
pub sound-count : (setting : SettingValue) (config : List (List Ion)) (p : ℕ) → IsSound setting config
    → length (list_at config p) ≡ how_many (λ i. is_there i (list_at config p)) (ions_of setting)
sound-count setting config p sound = length-there (ion_count setting) (list_at config p) (sound-distinct setting config p sound) (sound-known setting config p sound)

-- ions numbered from there on have no number before it
none_earlier : (i first : ℕ) (qubits : List Qubit) → i < first → is_there i (ions_from first qubits) ≡ false
none_earlier i first [] h = refl
none_earlier i first (qubit ∷ qubits) h = or_from (first == i) (is_there i (ions_from (first + 1) qubits)) (ne_eqb first i (λ e. omega arith)) (none_earlier i (first + 1) qubits (omega arith))

ions_differ : (first : ℕ) (qubits : List Qubit) → AreDistinct (ions_from first qubits)
ions_differ first [] = tt
ions_differ first (qubit ∷ qubits) = (none_earlier first (first + 1) qubits (omega arith), ions_differ (first + 1) qubits)

ions_below : (first n : ℕ) (qubits : List Qubit) → first + length qubits ≤ n → All (λ (ion : Ion). ion.0 < n) (ions_from first qubits)
ions_below first n [] h = All-nil (λ (ion : Ion). ion.0 < n)
ions_below first n (qubit ∷ qubits) h =
    All-cons (λ (ion : Ion). ion.0 < n) (record { 0 = first }) (ions_from (first + 1) qubits) (omega arith) (ions_below (first + 1) n qubits (omega arith))

pub sound-start : (setting : SettingValue) → IsSetting setting → IsSound setting (start_of setting.trap setting.placement)
sound-start setting sound =
    let placement = setting.placement in
    let ions : List Ion = ions_from 0 (reading_order placement) in
    let is : all_ions (start_of setting.trap placement) ≡ ions = start_ions setting.trap placement in
    let count : length (reading_order placement) ≡ ion_count setting = counted (ion_count setting) (reading_order placement) sound.placement.qubits sound.placement.once in
    record {
      limits = start_limits setting.trap setting.circuit placement sound.placement;
      distinct = subst AreDistinct (sym is) (ions_differ 0 (reading_order placement));
      known = subst (All (λ (ion : Ion). ion.0 < ion_count setting)) (sym is) (ions_below 0 (ion_count setting) (reading_order placement) (omega (arith, count)));
    }

pub sound-after : (setting : SettingValue) (config : List (List Ion)) (step : List Action) → IsSetting setting → IsSound setting config → IsLegal setting config step
    → IsSound setting (after_step setting.trap config step)
sound-after setting config step sound_setting sound legal =
    let kept : IsKept setting.trap config (after_step setting.trap config step) = step_kept setting config step sound_setting.trap sound.limits legal in
    record {
      limits = kept.limits;
      distinct = distinct-permutation (all_ions config) (all_ions (after_step setting.trap config step)) kept.ions sound.distinct;
      known = All-permutation (λ (ion : Ion). ion.0 < ion_count setting) (all_ions config) (all_ions (after_step setting.trap config step)) kept.ions sound.known;
    }

there_at : (config : List (List Ion)) (i p : ℕ) → option_map_or (is_there i) (slice_get config p) false ≡ is_there i (list_at config p)
there_at [] i p = refl
there_at (ions ∷ config) i zero = refl
there_at (ions ∷ config) i (suc p) = there_at config i p

-- where an ion begins
pub starts_at-list : (setting : SettingValue) (i p : ℕ) → starts_at setting i p ≡ is_there i (list_at (start_of setting.trap setting.placement) p)
starts_at-list setting i p = there_at (start_of setting.trap setting.placement) i p

-- ---- nearness in lists

holds_nearer : (facts : Facts) (i j t : ℕ) → i ≢ j → (i < j → facts (ord_item i j t) ≡ true) → (j < i → facts (ord_item j i t) ≡ false) → holds facts (nearer i j t) ≡ true
holds_nearer facts i j t differ below above = elim (cases_order i j) [
  | inl same ↦ absurd (differ same)
  | inr other ↦ elim other [
    | inl h ↦ ap (holds facts) (cond-true (nat_lt i j) (so (ord_item i j t)) (not_so (ord_item j i t)) (lt-ltb i j h)) ∙ below h
    | inr h ↦ ap (holds facts) (cond-false (nat_lt i j) (so (ord_item i j t)) (not_so (ord_item j i t)) (le-ltb i j (omega (arith, h))))
        ∙ not_from_false (facts (ord_item j i t)) (above h)
  ]
]

-- of two ions of a place, the nearer one to an end is the later one of the list read towards it
pub nearer-list : (setting : SettingValue) (facts : Facts) (t : ℕ) (config : List (List Ion)) (i j p : ℕ) → IsSound setting config → Agrees setting facts t config → i ≢ j
    → IsTrue (is_there i (list_at config p)) → IsTrue (is_there j (list_at config p)) → IsTrue (is_before i j (list_at config p))
    → IsNearerTo facts A i j t × IsNearerTo facts B j i t
nearer-list setting facts t config i j p sound agrees differ i_there j_there before =
    let i_known = sound-known_at setting config i p sound i_there in
    let j_known = sound-known_at setting config j p sound j_there in
    let turned : is_before j i (list_at config p) ≡ false =
    before-turned j i (list_at config p) (sound-distinct setting config p sound) (λ e. differ (sym e)) j_there i_there ∙ not_from_true (is_before i j (list_at config p)) before in
    let nearer : holds facts (nearer i j t) ≡ true =
    holds_nearer facts i j t differ
    (λ h. agrees.orders i j p h j_known.0 j_known.1 i_there j_there ∙ before)
    (λ h. agrees.orders j i p h i_known.0 i_known.1 j_there i_there ∙ turned) in
    (nearer, nearer)

-- ---- the configurations of a schedule, time by time

pub config_at-start : (setting : SettingValue) (steps : List (List Action)) → config_at setting steps 0 ≡ start_of setting.trap setting.placement
config_at-start setting steps = refl

-- step r + 1 is the one of index r
pub step_next : (steps : List (List Action)) (r : ℕ) → step_at steps (suc r) ≡ slice_index_or steps r []
step_next steps r = let same : suc r - 1 ≡ r = omega arith in ap (λ (k : ℕ). slice_index_or steps k []) same

next_after : (trap : TrapValue) (config : List (List Ion)) (steps : List (List Action)) (r : ℕ)
    → after_steps trap config (take (suc r) steps) ≡ after_step trap (after_steps trap config (take r steps)) (slice_index_or steps r [])
next_after trap config [] zero = refl
next_after trap config [] (suc r) = refl
next_after trap config (step ∷ steps) zero = refl
next_after trap config (step ∷ steps) (suc r) = next_after trap (after_step trap config step) steps r

pub config_at-next : (setting : SettingValue) (steps : List (List Action)) (r : ℕ)
    → config_at setting steps (suc r) ≡ after_step setting.trap (config_at setting steps r) (step_at steps (suc r))
config_at-next setting steps r =
    next_after setting.trap (start_of setting.trap setting.placement) steps r ∙ ap (after_step setting.trap (config_at setting steps r)) (sym (step_next steps r))

no_action : (setting : SettingValue) (config : List (List Ion)) → IsLegal setting config []
no_action setting config = record { passes = All-nil (Passes setting config); apart = λ i j d before within. absurd (omega (arith, within)) }

legal_after : (setting : SettingValue) (config : List (List Ion)) (steps : List (List Action)) (r : ℕ) → AreLegal setting config steps
    → IsLegal setting (after_steps setting.trap config (take r steps)) (slice_index_or steps r [])
legal_after setting config [] r legal = no_action setting (after_steps setting.trap config (take r []))
legal_after setting config (step ∷ steps) zero legal = legal.0
legal_after setting config (step ∷ steps) (suc r) legal = legal_after setting (after_step setting.trap config step) steps r legal.1

pub legal_at : (setting : SettingValue) (steps : List (List Action)) (r : ℕ) → AreLegal setting (start_of setting.trap setting.placement) steps
    → IsLegal setting (config_at setting steps r) (step_at steps (suc r))
legal_at setting steps r legal =
    subst (IsLegal setting (config_at setting steps r)) (sym (step_next steps r)) (legal_after setting (start_of setting.trap setting.placement) steps r legal)

pub sound_at : (setting : SettingValue) (steps : List (List Action)) (t : ℕ) → IsSetting setting → AreLegal setting (start_of setting.trap setting.placement) steps
    → IsSound setting (config_at setting steps t)
sound_at setting steps zero sound legal = sound-start setting sound
sound_at setting steps (suc r) sound legal =
    subst (IsSound setting) (sym (config_at-next setting steps r))
    (sound-after setting (config_at setting steps r) (step_at steps (suc r)) sound (sound_at setting steps r sound legal) (legal_at setting steps r legal))
