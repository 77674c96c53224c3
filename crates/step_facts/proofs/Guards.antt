-- The step of facts: each of its actions passes its guards.
use Rattle.std.proofs.Common.{◌≡◌, ◌≢◌, ℕ, suc, ◌+◌, ◌<◌, ◌≤◌, Bool, true, false, not, ◌&&◌, cond, List, [], ◌∷◌, length, get_or, Some, None, refl, sym, ap, subst, ◌∙◌, inl, inr, arith}
use Rattle.std.specs.Prelude.{All, Contains, filter, IsTrue, Option, slice_get, nat_le, nat_lt, ◌==◌}
use Rattle.std.specs.Option.{option_map_or}
use Rattle.std.specs.List.{list_all, list_any, range_with_len}
use Rattle.std.proofs.lemmas.Bool.{cases_Bool, cases_eq, or_cases, or_left, or_right, and_from, and_parts, eq-eqb, eqb-true, le-leb, lt-ltb, both_ways, false_from_ne_true, not_from_false, cond-true, cond-false}
use Rattle.std.proofs.lemmas.Option.{slice_get_within, get_or_from_slice_get}
use Rattle.std.proofs.lemmas.List.Elements.{All-filter, All-map, All-contains, Contains-get_or}
use Rattle.qc_base.specs.declared.ids.JunctionId.{JunctionId}
use Rattle.qc_base.specs.declared.ids.Qubit.{Qubit}
use Rattle.qc_base.specs.declared.ids.End.{End}
use Rattle.qc_base.specs.declared.ids.End.TheVariants.{A, B}
use Rattle.qc_base.specs.declared.ids.Ion.{Ion}
use Rattle.qc_base.specs.Counting.{how_many}
use Rattle.circuit_core.specs.declared.op.Op.{Op}
use Rattle.circuit_core.specs.Circuit.{qubit_count, IsOpOf}
use Rattle.circuit_core.specs.Op.{qubits_of, is_barrier}
use Rattle.circuit_core.specs.Order.{is_performed}
use Rattle.trap_model.specs.Trap.{limit_of, place_count, is_zone}
use Rattle.trap_model.specs.Channels.{splits, merges}
use Rattle.trap_model.specs.declared.channel.Channel.{Channel}
use Rattle.trap_parts.specs.Build.{IsTrap}
use Rattle.trap_model.specs.declared.channel.Kind.{Kind}
use Rattle.trap_model.specs.declared.channel.Kind.TheVariants.{Split, Move, Cross, Merge}
use Rattle.ion_chain.specs.Passing.{outward, leaving, left}
use Rattle.ion_chain.specs.Transfer.{list_at}
use Rattle.step_rules.specs.Setting.{SettingValue}
use Rattle.step_rules.specs.ActionChannel.{passing, channel_for, action_by}
use Rattle.step_rules.specs.Guards.{Passes, first_broken, is_empty, is_slot, is_junction, is_count_of, is_among, split_guards, move_guards, cross_guards, merge_guards, is_able_for, are_among}
use Rattle.step_rules.specs.declared.action.Rule.{Rule}
use Rattle.step_rules.specs.declared.action.Rule.TheVariants as rules
use Rattle.step_rules.specs.Placement.{ion_of, place_of, reading_order, times}
use Rattle.step_rules.specs.Steps.{junction, footprint}
use Rattle.step_rules.proofs.Counted.{counted}
use Rattle.step_vars.specs.Items.{at_item, leave_item}
use Rattle.step_vars.specs.Lists.{ion_count, is_there, is_before, ions_of, is_ion_of}
use Rattle.step_facts.specs.Facts.{Facts, IsAt, IsUsed, AreSwapped, IsPerformedIn, IsChannel, IsNearerTo, LeavesPlace}
use Rattle.step_facts.specs.Activities.{Activity, passage, exchange, operation, IsActivity, item_of, activities_of}
use Rattle.step_facts.specs.Run.{IsSetting, IsStep}
use Rattle.step_facts.specs.OfSchedule.{are_neighbours}
use Rattle.step_facts.specs.ToSchedule.{action_of, index_of_pair, passing_count, step_of, happens, happening}
use Rattle.step_facts.specs.Agreement.{IsSound, Agrees, AreDistinct}
use Rattle.step_facts.proofs.Lists.{Contains-filter, Contains-range, list_any-some, how_many-filter}
use Rattle.step_facts.proofs.IonLists.{IsClosed, there-outward, before-there_first, before-there_second, before-reverse, there-filter, distinct-filter, length-there, none_there}
use Rattle.step_facts.proofs.Passing.{there-leaving, there-left}
use Rattle.step_facts.proofs.Swapping.{neighbours_found}
use Rattle.step_facts.proofs.Bounds.{there-activity}
use Rattle.step_facts.proofs.Channels.{Ends, channel_ends, from_zone, to_zone, through_channel, through_passing, through_junction}
use Rattle.step_facts.proofs.Configs.{sound-one_place, sound-distinct, sound-known, sound-known_at, sound-count, nearer-list}

-- the facts of time r agree with the configuration, and those of step t have all properties
pub record CanPlay (setting : SettingValue) (facts : Facts) (r t : ℕ) (config : List (List Ion)) : Type 0 where
  pub setting_sound : IsSetting setting
  pub sound : IsSound setting config
  pub before : Agrees setting facts r config
  pub is_step : IsStep setting facts r t

-- ---- ions that pass

-- of two ions of a place, the later one of the list read towards an end is nearer to it
pub nearer-outward : (setting : SettingValue) (facts : Facts) (r : ℕ) (config : List (List Ion)) (end : End) (i j p : ℕ) → IsSound setting config → Agrees setting facts r config → i ≢ j
    → is_before i j (outward end (list_at config p)) ≡ true → IsNearerTo facts end j i r
nearer-outward setting facts r config A i j p sound agrees differ before =
    let turned : is_before j i (list_at config p) ≡ true = sym (before-reverse i j (list_at config p) (sound-distinct setting config p sound)) ∙ before in
    (nearer-list setting facts r config j i p sound agrees (λ e. differ (sym e)) (before-there_first j i (list_at config p) turned) (before-there_second j i (list_at config p) turned) turned).0
nearer-outward setting facts r config B i j p sound agrees differ before =
    (nearer-list setting facts r config i j p sound agrees differ (before-there_first i j (list_at config p) before) (before-there_second i j (list_at config p) before) before).1

-- with an ion that passes go all that are nearer to the exit
pub passing-closed : (setting : SettingValue) (facts : Facts) (r t : ℕ) (config : List (List Ion)) (c : ℕ) (channel : Channel) → CanPlay setting facts r t config → IsChannel setting c channel
    → IsUsed facts c t → IsClosed (λ i. facts (leave_item i c t)) (outward channel.from_end (list_at config channel.from.0))
passing-closed setting facts r t config c channel can is used = record {
  later = λ i j before passes.
      let ions : List Ion = list_at config channel.from.0 in
      let there : is_there j ions ≡ true = sym (there-outward j channel.from_end ions) ∙ before-there_second i j (outward channel.from_end ions) before in
      let first : is_there i ions ≡ true = sym (there-outward i channel.from_end ions) ∙ before-there_first i j (outward channel.from_end ions) before in
      let i_known = sound-known_at setting config i channel.from.0 can.sound first in
      let j_known = sound-known_at setting config j channel.from.0 can.sound there in
      let at : IsAt facts j channel.from.0 r = can.before.places j channel.from.0 j_known.0 j_known.1 ∙ there in
      elim (cases_Bool (is_zone setting.trap channel.from.0)) [
        | inr slot ↦ can.is_step.whole_chain c channel j is j_known.0 slot used at
        | inl zone ↦ elim (cases_eq i j) [
          | inl same ↦ subst (λ (k : ℕ). facts (leave_item k c t) ≡ true) same passes
          | inr differ ↦
              can.is_step.front c channel i j is (sym (from_zone setting c channel can.setting_sound.trap is) ∙ zone) i_known.0 j_known.0 (λ e. differ (sym e)) passes at
              (nearer-outward setting facts r config channel.from_end i j channel.from.0 can.sound can.before differ before)
        ]
      ];
}

-- where each passes, as many pass as there are
all_pass : (test : ℕ → Bool) (ions : List Ion) → ((i : ℕ) → is_there i ions ≡ true → test i ≡ true) → length ions ≡ how_many (λ (ion : Ion). test ion.0) ions
all_pass test [] passes = refl
all_pass test (ion ∷ ions) passes =
    let here : test ion.0 ≡ true = passes ion.0 (or_left (ion.0 == ion.0) (is_there ion.0 ions) (eq-eqb ion.0 ion.0 refl)) in
    omega (arith, cond-true {A = ℕ} (test ion.0) 1 0 here, all_pass test ions (λ i there. passes i (or_right (ion.0 == i) (is_there i ions) there)))

-- the action of a used channel passes as many ions as pass by the facts
pub passing-counted : (setting : SettingValue) (facts : Facts) (r t : ℕ) (config : List (List Ion)) (c : ℕ) (channel : Channel) → CanPlay setting facts r t config → IsChannel setting c channel
    → IsUsed facts c t → passing (action_of facts t config (passage c channel)) (list_at config channel.from.0) ≡ passing_count facts c t (list_at config channel.from.0)
passing-counted setting facts r t config c channel can is used =
    let ions : List Ion = list_at config channel.from.0 in
    let count : ℕ = passing_count facts c t ions in
    through_passing channel count ions ∙ elim (cases_Bool (splits channel.kind)) [
      | inl split ↦ cond-true (splits channel.kind) count (length ions) split
      | inr whole ↦ cond-false (splits channel.kind) count (length ions) whole ∙ all_pass (λ i. facts (leave_item i c t)) ions
          (λ i there. let known = sound-known_at setting config i channel.from.0 can.sound there in
          can.is_step.whole_chain c channel i is known.0 (from_zone setting c channel can.setting_sound.trap is ∙ whole) used (can.before.places i channel.from.0 known.0 known.1 ∙ there))
    ]

-- an ion that passes is where the channel begins
passer-there : (setting : SettingValue) (facts : Facts) (r t : ℕ) (config : List (List Ion)) (c : ℕ) (channel : Channel) (i : ℕ) → CanPlay setting facts r t config → IsChannel setting c channel
    → i < ion_count setting → facts (leave_item i c t) ≡ true → is_there i (list_at config channel.from.0) ≡ true
passer-there setting facts r t config c channel i can is known passes =
    sym (can.before.places i channel.from.0 known (channel_ends setting c channel can.setting_sound.trap is).from) ∙ can.is_step.from_source c channel i is known passes

and_second : (a b : Bool) → (b ≡ true → a ≡ true) → (a && b) ≡ b
and_second true b from = refl
and_second false true from = absurd (both_ways false refl (from refl))
and_second false false from = refl

-- and it is those that leave, and the others stay
pub passing-leave : (setting : SettingValue) (facts : Facts) (r t : ℕ) (config : List (List Ion)) (c : ℕ) (channel : Channel) (i : ℕ) → CanPlay setting facts r t config → IsChannel setting c channel
    → IsUsed facts c t → i < ion_count setting
    → is_there i (leaving channel.from_end (passing_count facts c t (list_at config channel.from.0)) (list_at config channel.from.0)) ≡ facts (leave_item i c t)
passing-leave setting facts r t config c channel i can is used known =
    let ions : List Ion = list_at config channel.from.0 in
    there-leaving i channel.from_end (λ k. facts (leave_item k c t)) ions (sound-distinct setting config channel.from.0 can.sound) (passing-closed setting facts r t config c channel can is used)
    ∙ and_second (is_there i ions) (facts (leave_item i c t)) (λ passes. passer-there setting facts r t config c channel i can is known passes)

pub passing-stay : (setting : SettingValue) (facts : Facts) (r t : ℕ) (config : List (List Ion)) (c : ℕ) (channel : Channel) (i : ℕ) → CanPlay setting facts r t config → IsChannel setting c channel
    → IsUsed facts c t → i < ion_count setting
    → is_there i (left channel.from_end (passing_count facts c t (list_at config channel.from.0)) (list_at config channel.from.0))
    ≡ (is_there i (list_at config channel.from.0) && not (facts (leave_item i c t)))
passing-stay setting facts r t config c channel i can is used known =
    there-left i channel.from_end (λ k. facts (leave_item k c t)) (list_at config channel.from.0) (sound-distinct setting config channel.from.0 can.sound)
    (passing-closed setting facts r t config c channel can is used)

-- ---- what the guards ask for

one_passes : (test : ℕ → Bool) (ions : List Ion) (i : ℕ) → is_there i ions ≡ true → test i ≡ true → 1 ≤ how_many (λ (ion : Ion). test ion.0) ions
one_passes test [] i there passes = absurd cc
one_passes test (ion ∷ ions) i there passes = elim (or_cases (ion.0 == i) (is_there i ions) there) [
  | inl here ↦ (let first : test ion.0 ≡ true = ap test (eqb-true ion.0 i here) ∙ passes in omega (arith, cond-true {A = ℕ} (test ion.0) 1 0 first))
  | inr later ↦ omega (arith, one_passes test ions i later passes)
]

pub some-pass : (setting : SettingValue) (facts : Facts) (r t : ℕ) (config : List (List Ion)) (c : ℕ) (channel : Channel) → CanPlay setting facts r t config → IsChannel setting c channel
    → IsUsed facts c t → 1 ≤ passing_count facts c t (list_at config channel.from.0)
some-pass setting facts r t config c channel can is used =
    let some = can.is_step.some_passes c channel is used in
    one_passes (λ i. facts (leave_item i c t)) (list_at config channel.from.0) some.ion (passer-there setting facts r t config c channel some.ion can is some.there some.passes) some.passes

one_or_none : (b : Bool) → cond b 1 0 ≤ 1
one_or_none true = omega arith
one_or_none false = omega arith

no_more : {X : Type 0} (test : X → Bool) (xs : List X) → how_many test xs ≤ length xs
no_more test [] = omega arith
no_more test (x ∷ xs) = omega (arith, one_or_none (test x), no_more test xs)

pub count-within : (facts : Facts) (c t : ℕ) (ions : List Ion) → passing_count facts c t ions ≤ length ions
count-within facts c t ions = no_more (λ (ion : Ion). facts (leave_item ion.0 c t)) ions

-- a slot into which ions pass was empty
pub slot-empty : (setting : SettingValue) (facts : Facts) (r t : ℕ) (config : List (List Ion)) (c : ℕ) (channel : Channel) → CanPlay setting facts r t config → IsChannel setting c channel
    → IsUsed facts c t → merges channel.kind ≡ false → length (list_at config channel.to.0) ≡ 0
slot-empty setting facts r t config c channel can is used into =
    let slot : is_zone setting.trap channel.to.0 ≡ false = to_zone setting c channel can.setting_sound.trap is ∙ into in
    ap length (none_there (list_at config channel.to.0) (λ i. false_from_ne_true (is_there i (list_at config channel.to.0)) (λ there.
    let known = sound-known_at setting config i channel.to.0 can.sound there in
    both_ways (facts (at_item i channel.to.0 r)) (can.is_step.empty_slot c channel i is known.0 slot used) (can.before.places i channel.to.0 known.0 known.1 ∙ there))))

pub same_passage : (c d : ℕ) (first second : Channel) → passage c first ≡ passage d second → first ≡ second
same_passage c d first second e = cc

-- where a used channel ends, only that one is used
one-channel : (setting : SettingValue) (facts : Facts) (r t : ℕ) (config : List (List Ion)) (c : ℕ) (channel : Channel) (i : ℕ) → CanPlay setting facts r t config → IsChannel setting c channel
    → IsUsed facts c t → i < ion_count setting → LeavesPlace setting facts i channel.to.0 t → channel.from.0 ≡ channel.to.0
one-channel setting facts r t config c channel i can is used known leaves =
    let ends : Ends setting channel = channel_ends setting c channel can.setting_sound.trap is in
    let other_used : IsUsed facts leaves.number t = can.is_step.use_channel leaves.number leaves.channel i leaves.there known leaves.passes in
    let same : channel ≡ leaves.channel =
    same_passage c leaves.number channel leaves.channel
    (can.is_step.one_activity channel.to.0 (passage c channel) (passage leaves.number leaves.channel) ends.to is leaves.there
    (or_right (channel.from.0 == channel.to.0) (channel.to.0 == channel.to.0) (eq-eqb channel.to.0 channel.to.0 refl))
    (or_left (leaves.channel.from.0 == channel.to.0) (leaves.channel.to.0 == channel.to.0) (eq-eqb leaves.channel.from.0 channel.to.0 leaves.at_place))
    used other_used) in
    ap (λ (it : Channel). it.from.0) same ∙ leaves.at_place

-- the ions that were where a used channel ends stay there
pub target-stay : (setting : SettingValue) (facts : Facts) (r t : ℕ) (config : List (List Ion)) (c : ℕ) (channel : Channel) (i : ℕ) → CanPlay setting facts r t config → IsChannel setting c channel
    → IsUsed facts c t → i < ion_count setting → IsAt facts i channel.to.0 r → IsAt facts i channel.to.0 t
target-stay setting facts r t config c channel i can is used known at =
    let ends : Ends setting channel = channel_ends setting c channel can.setting_sound.trap is in
    elim (can.is_step.stays i channel.to.0 known ends.to at) [
      | inl stays ↦ stays
      | inr leaves ↦ absurd (ends.differ (one-channel setting facts r t config c channel i can is used known leaves))
    ]

two_tests : (a b c : Bool) → (a ≡ true → c ≡ true) → (b ≡ true → c ≡ true) → (a ≡ true → b ≡ true → ⊥) → cond a 1 0 + cond b 1 0 ≤ cond c 1 0
two_tests true true c p q apart = absurd (apart refl refl)
two_tests true false c p q apart = omega (arith, cond-true {A = ℕ} c 1 0 (p refl))
two_tests false true c p q apart = omega (arith, cond-true {A = ℕ} c 1 0 (q refl))
two_tests false false c p q apart = omega arith

same_count : {X : Type 0} (p q : X → Bool) (xs : List X) → ((x : X) → p x ≡ q x) → how_many p xs ≡ how_many q xs
same_count p q [] same = refl
same_count p q (x ∷ xs) same = omega (arith, ap {B = ℕ} (λ (b : Bool). cond b 1 0) (same x), same_count p q xs same)

-- two tests that no member passes both, and whose passing is passing a third
two_counts : {X : Type 0} (p q s : X → Bool) (xs : List X) → ((x : X) → Contains xs x → p x ≡ true → s x ≡ true) → ((x : X) → Contains xs x → q x ≡ true → s x ≡ true)
    → ((x : X) → Contains xs x → p x ≡ true → q x ≡ true → ⊥) → how_many p xs + how_many q xs ≤ how_many s xs
two_counts p q s [] first second apart = omega arith
two_counts p q s (x ∷ xs) first second apart =
    let rest = two_counts p q s xs (λ y h. first y (suc h.0, omega (arith, h.1), h.2)) (λ y h. second y (suc h.0, omega (arith, h.1), h.2)) (λ y h. apart y (suc h.0, omega (arith, h.1), h.2)) in
    omega (arith, rest, two_tests (p x) (q x) (s x) (first x (0, omega arith, refl)) (second x (0, omega arith, refl)) (apart x (0, omega arith, refl)))

-- how many ions pass, counted by their numbers
count_numbers : (n : ℕ) (test : ℕ → Bool) (ions : List Ion) → AreDistinct ions → All (λ (ion : Ion). ion.0 < n) ions
    → how_many (λ (ion : Ion). test ion.0) ions ≡ how_many (λ i. is_there i ions && test i) (range_with_len 0 n)
count_numbers n test ions distinct known =
    let passers : List Ion = filter (λ (ion : Ion). test ion.0) ions in
    how_many-filter (λ (ion : Ion). test ion.0) ions
    ∙ length-there n passers (distinct-filter (λ (ion : Ion). test ion.0) ions distinct) (All-filter (λ (ion : Ion). test ion.0) (λ (ion : Ion). ion.0 < n) ions known)
    ∙ same_count (λ i. is_there i passers) (λ i. is_there i ions && test i) (range_with_len 0 n) (λ i. there-filter i test ions)

-- the place has room for them
pub target-room : (setting : SettingValue) (facts : Facts) (r t : ℕ) (config : List (List Ion)) (c : ℕ) (channel : Channel) → CanPlay setting facts r t config → IsChannel setting c channel
    → IsUsed facts c t → passing_count facts c t (list_at config channel.from.0) + length (list_at config channel.to.0) ≤ limit_of setting.trap channel.to.0
target-room setting facts r t config c channel can is used =
    let ions : List Ion = list_at config channel.from.0 in
    let others : List Ion = list_at config channel.to.0 in
    let test : ℕ → Bool = λ i. facts (leave_item i c t) in
    let ends : Ends setting channel = channel_ends setting c channel can.setting_sound.trap is in
    let coming : how_many (λ (ion : Ion). test ion.0) ions ≡ how_many (λ i. is_there i ions && test i) (ions_of setting) =
    count_numbers (ion_count setting) test ions (sound-distinct setting config channel.from.0 can.sound) (sound-known setting config channel.from.0 can.sound) in
    let old : length others ≡ how_many (λ i. is_there i others) (ions_of setting) = sound-count setting config channel.to.0 can.sound in
    let both : how_many (λ i. is_there i ions && test i) (ions_of setting) + how_many (λ i. is_there i others) (ions_of setting) ≤ how_many (λ i. facts (at_item i channel.to.0 t)) (ions_of setting) =
    two_counts (λ i. is_there i ions && test i) (λ i. is_there i others) (λ i. facts (at_item i channel.to.0 t)) (ions_of setting)
    (λ i in_range passes. let parts = and_parts (is_there i ions) (test i) passes in can.is_step.to_target c channel i is ((Contains-range (ion_count setting) i).0 in_range) parts.1)
    (λ i in_range there.
    let known : i < ion_count setting = (Contains-range (ion_count setting) i).0 in_range in
    target-stay setting facts r t config c channel i can is used known (can.before.places i channel.to.0 known ends.to ∙ there))
    (λ i in_range passes there.
    let parts = and_parts (is_there i ions) (test i) passes in ends.differ (sound-one_place setting config i channel.from.0 channel.to.0 can.sound parts.0 there)) in
    let few : how_many (λ i. facts (at_item i channel.to.0 t)) (ions_of setting) ≤ limit_of setting.trap channel.to.0 = can.is_step.few_ions channel.to.0 ends.to in
    omega (arith, coming, old, both, few)

-- two ions that are swapped are neighbours
pub swapped-neighbours : (setting : SettingValue) (facts : Facts) (r t : ℕ) (config : List (List Ion)) (i j z : ℕ) → CanPlay setting facts r t config → IsActivity setting (exchange i j z)
    → AreSwapped facts i j z t → IsTrue (are_neighbours i j (index_of_pair i j (list_at config z)) (list_at config z)) × (index_of_pair i j (list_at config z) + 1 < length (list_at config z))
swapped-neighbours setting facts r t config i j z can activity swapped =
    let below : i < ion_count setting = omega (arith, activity.0, activity.1) in
    let here : z < place_count setting.trap = omega (arith, activity.2) in
    let ions : List Ion = list_at config z in
    let in_zone = can.is_step.swap_in_zone i j z activity.0 activity.1 activity.2 swapped in
    let i_there : is_there i ions ≡ true = sym (can.before.places i z below here) ∙ in_zone.0 in
    let j_there : is_there j ions ≡ true = sym (can.before.places j z activity.1 here) ∙ in_zone.1 in
    let near : (m n : ℕ) → m ≢ n → is_there m ions ≡ true → is_there n ions ≡ true → is_before m n ions ≡ true → IsNearerTo facts A m n r =
    λ m n differ m_there n_there before. (nearer-list setting facts r config m n z can.sound can.before differ m_there n_there before).0 in
    neighbours_found i j ions (sound-distinct setting config z can.sound) (λ e. omega (arith, activity.0, e)) i_there j_there
    (λ m not_i not_j there.
    let known = sound-known_at setting config m z can.sound there in
    let none = can.is_step.swap_neighbours i j m z activity.0 activity.1 activity.2 known.0 not_i not_j swapped (can.before.places m z known.0 here ∙ there) in (
      λ both. none.0 (near i m (λ e. not_i (sym e)) i_there there both.0, near m j not_j there j_there both.1),
      λ both. none.1 (near j m (λ e. not_j (sym e)) j_there there both.0, near m i not_i there i_there both.1),
    ))

-- ---- the guards, for each sort of activity

-- what the guards of an action ask for that passes so many ions through a channel
record MayPass (setting : SettingValue) (config : List (List Ion)) (channel : Channel) (count : ℕ) : Type 0 where
  from_place : channel.from.0 < place_count setting.trap
  to_place : channel.to.0 < place_count setting.trap
  from_zone : is_zone setting.trap channel.from.0 ≡ splits channel.kind
  to_zone : is_zone setting.trap channel.to.0 ≡ merges channel.kind
  some : 1 ≤ count
  within : count ≤ length (list_at config channel.from.0)
  whole : splits channel.kind ≡ false → length (list_at config channel.from.0) ≡ count
  empty : merges channel.kind ≡ false → length (list_at config channel.to.0) ≡ 0
  room : count + length (list_at config channel.to.0) ≤ limit_of setting.trap channel.to.0

-- one guard passes, and then the rest
then_passes : (b : Bool) (rule : Rule) (rest : Option Rule) → b ≡ true → rest ≡ None → cond b rest (Some rule) ≡ None
then_passes b rule rest passes more = cond-true b rest (Some rule) passes ∙ more

none_in : (ions : List Ion) → length ions ≡ 0 → is_empty ions ≡ true
none_in [] e = refl
none_in (ion ∷ ions) e = absurd (omega arith)

some_in : (ions : List Ion) → 1 ≤ length ions → not (is_empty ions) ≡ true
some_in [] h = absurd (omega arith)
some_in (ion ∷ ions) h = refl

slot_there : (setting : SettingValue) (p : ℕ) → is_zone setting.trap p ≡ false → p < place_count setting.trap → is_slot setting.trap p ≡ true
slot_there setting p slot h = and_from (not (is_zone setting.trap p)) (nat_lt p (place_count setting.trap)) (not_from_false (is_zone setting.trap p) slot) (lt-ltb p (place_count setting.trap) h)

split-passes : (setting : SettingValue) (config : List (List Ion)) (channel : Channel) (count : ℕ) → channel.kind ≡ Split → MayPass setting config channel count
    → first_broken (split_guards setting.trap config channel.from.0 count (Some channel)) ≡ None
split-passes setting config channel count kind may =
    then_passes (is_zone setting.trap channel.from.0) rules.NoPlace _ (may.from_zone ∙ ap splits kind)
    (then_passes true rules.NoJoin _ refl
    (then_passes (is_count_of count (list_at config channel.from.0)) rules.Index _
    (and_from (nat_le 1 count) (nat_le count (length (list_at config channel.from.0))) (le-leb 1 count may.some) (le-leb count (length (list_at config channel.from.0)) may.within))
    (then_passes (nat_le count (limit_of setting.trap channel.to.0)) rules.Load _ (le-leb count (limit_of setting.trap channel.to.0) (omega (arith, may.room)))
    (then_passes (is_empty (list_at config channel.to.0)) rules.Occupied None (none_in (list_at config channel.to.0) (may.empty (ap merges kind))) refl))))

-- a chain goes from slot to slot
chain-there : (setting : SettingValue) (config : List (List Ion)) (channel : Channel) (count : ℕ) → splits channel.kind ≡ false → MayPass setting config channel count
    → 1 ≤ length (list_at config channel.from.0)
chain-there setting config channel count whole may = omega (arith, may.some, may.whole whole)

both-slots : (setting : SettingValue) (config : List (List Ion)) (channel : Channel) (count : ℕ) → splits channel.kind ≡ false → merges channel.kind ≡ false → MayPass setting config channel count
    → (is_slot setting.trap channel.from.0 && is_slot setting.trap channel.to.0) ≡ true
both-slots setting config channel count no_split no_merge may =
    and_from (is_slot setting.trap channel.from.0) (is_slot setting.trap channel.to.0)
    (slot_there setting channel.from.0 (may.from_zone ∙ no_split) may.from_place) (slot_there setting channel.to.0 (may.to_zone ∙ no_merge) may.to_place)

move-passes : (setting : SettingValue) (config : List (List Ion)) (channel : Channel) (count : ℕ) → splits channel.kind ≡ false → merges channel.kind ≡ false → MayPass setting config channel count
    → first_broken (move_guards setting.trap config channel.from.0 channel.to.0 (Some channel)) ≡ None
move-passes setting config channel count no_split no_merge may =
    then_passes (is_slot setting.trap channel.from.0 && is_slot setting.trap channel.to.0) rules.NoPlace _ (both-slots setting config channel count no_split no_merge may)
    (then_passes true rules.NoJoin _ refl
    (then_passes (not (is_empty (list_at config channel.from.0))) rules.Empty _ (some_in (list_at config channel.from.0) (chain-there setting config channel count no_split may))
    (then_passes (is_empty (list_at config channel.to.0)) rules.Occupied None (none_in (list_at config channel.to.0) (may.empty no_merge)) refl)))

cross-passes : (setting : SettingValue) (config : List (List Ion)) (channel : Channel) (count j : ℕ) → splits channel.kind ≡ false → merges channel.kind ≡ false → j < length setting.trap.junctions
    → MayPass setting config channel count → first_broken (cross_guards setting.trap config j channel.from.0 channel.to.0 (Some channel)) ≡ None
cross-passes setting config channel count j no_split no_merge h may =
    then_passes (is_junction setting.trap j && (is_slot setting.trap channel.from.0 && is_slot setting.trap channel.to.0)) rules.NoPlace _
    (and_from (is_junction setting.trap j) (is_slot setting.trap channel.from.0 && is_slot setting.trap channel.to.0) (lt-ltb j (length setting.trap.junctions) h)
    (both-slots setting config channel count no_split no_merge may))
    (then_passes true rules.NoJoin _ refl
    (then_passes (not (is_empty (list_at config channel.from.0))) rules.Empty _ (some_in (list_at config channel.from.0) (chain-there setting config channel count no_split may))
    (then_passes (is_empty (list_at config channel.to.0)) rules.Occupied _ (none_in (list_at config channel.to.0) (may.empty no_merge))
    (then_passes (nat_le (length (list_at config channel.from.0)) (limit_of setting.trap channel.to.0)) rules.Load None
    (le-leb (length (list_at config channel.from.0)) (limit_of setting.trap channel.to.0) (omega (arith, may.room, may.whole no_split))) refl))))

merge-passes : (setting : SettingValue) (config : List (List Ion)) (channel : Channel) (count : ℕ) → channel.kind ≡ Merge → MayPass setting config channel count
    → first_broken (merge_guards setting.trap config channel.to.0 (Some channel)) ≡ None
merge-passes setting config channel count kind may =
    then_passes (is_zone setting.trap channel.to.0) rules.NoPlace _ (may.to_zone ∙ ap merges kind)
    (then_passes true rules.NoJoin _ refl
    (then_passes (not (is_empty (list_at config channel.from.0))) rules.Empty _ (some_in (list_at config channel.from.0) (chain-there setting config channel count (ap splits kind) may))
    (then_passes (nat_le (length (list_at config channel.from.0) + length (list_at config channel.to.0)) (limit_of setting.trap channel.to.0)) rules.Full None
    (le-leb (length (list_at config channel.from.0) + length (list_at config channel.to.0)) (limit_of setting.trap channel.to.0) (omega (arith, may.room, may.whole (ap splits kind)))) refl)))

kind-passes : (setting : SettingValue) (config : List (List Ion)) (kind : Kind) (crossed : Option JunctionId) (channel : Channel) (count : ℕ) → channel.kind ≡ kind
    → channel_for setting.trap (action_by kind crossed channel count) ≡ Some channel
    → ((j : ℕ) → Contains (footprint setting.trap (action_by kind crossed channel count)) (junction j) → j < length setting.trap.junctions)
    → MayPass setting config channel count → Passes setting config (action_by kind crossed channel count)
kind-passes setting config Split crossed channel count kind is junctions may =
    ap (λ (found : Option Channel). first_broken (split_guards setting.trap config channel.from.0 count found)) is ∙ split-passes setting config channel count kind may
kind-passes setting config Move crossed channel count kind is junctions may =
    ap (λ (found : Option Channel). first_broken (move_guards setting.trap config channel.from.0 channel.to.0 found)) is
    ∙ move-passes setting config channel count (ap splits kind) (ap merges kind) may
kind-passes setting config Cross None channel count kind is junctions may =
    ap (λ (found : Option Channel). first_broken (move_guards setting.trap config channel.from.0 channel.to.0 found)) is
    ∙ move-passes setting config channel count (ap splits kind) (ap merges kind) may
kind-passes setting config Cross (Some crossed) channel count kind is junctions may =
    ap (λ (found : Option Channel). first_broken (cross_guards setting.trap config crossed.0 channel.from.0 channel.to.0 found)) is
    ∙ cross-passes setting config channel count crossed.0 (ap splits kind) (ap merges kind) (junctions crossed.0 (2, omega arith, refl)) may
kind-passes setting config Merge crossed channel count kind is junctions may =
    ap (λ (found : Option Channel). first_broken (merge_guards setting.trap config channel.to.0 found)) is ∙ merge-passes setting config channel count kind may

pub passage-passes : (setting : SettingValue) (facts : Facts) (r t : ℕ) (config : List (List Ion)) (c : ℕ) (channel : Channel) → CanPlay setting facts r t config → IsActivity setting (passage c channel)
    → IsUsed facts c t → Passes setting config (action_of facts t config (passage c channel))
passage-passes setting facts r t config c channel can is used =
    let trap_sound : IsTrap setting.trap = can.setting_sound.trap in
    let ions : List Ion = list_at config channel.from.0 in
    let count : ℕ = passing_count facts c t ions in
    let ends : Ends setting channel = channel_ends setting c channel trap_sound is in
    kind-passes setting config channel.kind channel.junction channel count refl (through_channel setting c channel count trap_sound is)
    (λ j on_j. (through_junction setting c channel count j trap_sound is on_j).1)
    (record {
      from_place = ends.from;
      to_place = ends.to;
      from_zone = from_zone setting c channel trap_sound is;
      to_zone = to_zone setting c channel trap_sound is;
      some = some-pass setting facts r t config c channel can is used;
      within = count-within facts c t ions;
      whole = λ out_of_slot. sym (cond-false (splits channel.kind) count (length ions) out_of_slot) ∙ sym (through_passing channel count ions)
          ∙ passing-counted setting facts r t config c channel can is used;
      empty = slot-empty setting facts r t config c channel can is used;
      room = target-room setting facts r t config c channel can is used;
    })

pub exchange-passes : (setting : SettingValue) (facts : Facts) (r t : ℕ) (config : List (List Ion)) (i j z : ℕ) → CanPlay setting facts r t config → IsActivity setting (exchange i j z)
    → AreSwapped facts i j z t → Passes setting config (action_of facts t config (exchange i j z))
exchange-passes setting facts r t config i j z can activity swapped =
    let index : ℕ = index_of_pair i j (list_at config z) in
    then_passes (is_zone setting.trap z) rules.NoPlace _ (lt-ltb z (length setting.trap.zones) activity.2)
    (then_passes (nat_lt (index + 1) (length (list_at config z))) rules.Index None
    (lt-ltb (index + 1) (length (list_at config z)) (swapped-neighbours setting facts r t config i j z can activity swapped).1) refl)

-- a qubit that stands there has a place below the length
place_below : (qubit : Qubit) (qubits : List Qubit) → 1 ≤ times qubit.0 qubits → place_of qubit qubits < length qubits
place_below qubit [] some = absurd (omega arith)
place_below qubit (other ∷ others) some = elim (cases_Bool (other.0 == qubit.0)) [
  | inl here ↦ omega (arith, cond-true {A = ℕ} (other.0 == qubit.0) 0 (1 + place_of qubit others) here)
  | inr not ↦ (let rest : place_of qubit others < length others = place_below qubit others (omega (arith, some, cond-false {A = ℕ} (other.0 == qubit.0) 1 0 not)) in
      omega (arith, rest, cond-false {A = ℕ} (other.0 == qubit.0) 0 (1 + place_of qubit others) not))
]

-- the ion of a qubit of the circuit is one of the circuit's
pub ion-known : (setting : SettingValue) (qubit : Qubit) → IsSetting setting → qubit.0 < qubit_count setting.circuit → (ion_of setting.placement qubit).0 < ion_count setting
ion-known setting qubit sound h =
    let qubits : List Qubit = reading_order setting.placement in
    omega (arith, place_below qubit qubits (omega (arith, sound.placement.once qubit.0 h)), counted (qubit_count setting.circuit) qubits sound.placement.qubits sound.placement.once)

all_among : (test : Qubit → Bool) (qubits : List Qubit) → ((qubit : Qubit) → Contains qubits qubit → test qubit ≡ true) → list_all test qubits ≡ true
all_among test [] each = refl
all_among test (qubit ∷ qubits) each =
    and_from (test qubit) (list_all test qubits) (each qubit (0, omega arith, refl)) (all_among test qubits (λ q h. each q (suc h.0, omega (arith, h.1), h.2)))

pub any_same : (placement : List (List Qubit)) (qubits : List Qubit) (qubit : Qubit) → Contains qubits qubit → list_any (λ (q : Qubit). (ion_of placement qubit).0 == (ion_of placement q).0) qubits ≡ true
any_same placement qubits qubit there =
    list_any-some (λ (q : Qubit). (ion_of placement qubit).0 == (ion_of placement q).0) qubits qubit there (eq-eqb (ion_of placement qubit).0 (ion_of placement qubit).0 refl)

-- the operation of the number is there, where it is performed
pub performed_op : (ops : List Op) (found : Option Op) → option_map_or (λ (op : Op). not (is_barrier op)) found false ≡ true → (op : Op) × (found ≡ Some op)
performed_op ops None e = absurd cc
performed_op ops (Some op) e = (op, refl)

ions-among : (setting : SettingValue) (facts : Facts) (r t : ℕ) (config : List (List Ion)) (g z : ℕ) → CanPlay setting facts r t config → IsActivity setting (operation g z)
    → IsPerformedIn facts g z t → are_among setting (list_at config z) g ≡ true
ions-among setting facts r t config g z can activity performed =
    let found = performed_op setting.circuit.ops (slice_get setting.circuit.ops g) activity.0 in
    let op : Op = found.0 in
    let place : z < place_count setting.trap = omega (arith, activity.2) in
    let known : IsOpOf setting.circuit op =
    subst (IsOpOf setting.circuit) (get_or_from_slice_get setting.circuit.ops g op op found.1)
    (can.setting_sound.circuit.ops g op (slice_get_within setting.circuit.ops g op found.1)) in
    ap (λ (o : Option Op). option_map_or (λ (it : Op). list_all (is_among setting.placement (list_at config z)) (qubits_of it)) o false) found.1
    ∙ all_among (is_among setting.placement (list_at config z)) (qubits_of op) (λ qubit in_op.
    let i : ℕ = (ion_of setting.placement qubit).0 in
    let below : (ion_of setting.placement qubit).0 < ion_count setting = ion-known setting qubit can.setting_sound (All-contains (λ (q : Qubit). q.0 < qubit_count setting.circuit) (qubits_of op) qubit known.qubits in_op) in
    let of_op : is_ion_of setting g i ≡ true =
    ap (λ (o : Option Op). option_map_or (λ (it : Op). list_any (λ (q : Qubit). i == (ion_of setting.placement q).0) (qubits_of it)) o false) found.1
    ∙ any_same setting.placement (qubits_of op) qubit in_op in
    sym (can.before.places i z below place) ∙ can.is_step.ions_in_zone g z i activity below of_op performed)

pub operation-passes : (setting : SettingValue) (facts : Facts) (r t : ℕ) (config : List (List Ion)) (g z : ℕ) → CanPlay setting facts r t config → IsActivity setting (operation g z)
    → IsPerformedIn facts g z t → Passes setting config (action_of facts t config (operation g z))
operation-passes setting facts r t config g z can activity performed =
    then_passes (is_zone setting.trap z) rules.NoPlace _ (lt-ltb z (length setting.trap.zones) activity.2)
    (then_passes (is_performed setting.circuit g) rules.NotOp _ activity.0
    (then_passes (is_able_for setting z g) rules.NotAble _ activity.1
    (then_passes (are_among setting (list_at config z) g) rules.Absent None (ions-among setting facts r t config g z can activity performed) refl)))

activity-passes : (setting : SettingValue) (facts : Facts) (r t : ℕ) (config : List (List Ion)) (a : Activity) → CanPlay setting facts r t config → IsActivity setting a
    → facts (item_of t a) ≡ true → Passes setting config (action_of facts t config a)
activity-passes setting facts r t config (passage c channel) can is happens = passage-passes setting facts r t config c channel can is happens
activity-passes setting facts r t config (exchange i j z) can is happens = exchange-passes setting facts r t config i j z can is happens
activity-passes setting facts r t config (operation g z) can is happens = operation-passes setting facts r t config g z can is happens

each_member : {X : Type 0} (P : X → Type 0) (xs : List X) → ((x : X) → Contains xs x → P x) → All P xs
each_member P xs each k d h = each (get_or xs k d) (Contains-get_or xs k d h)

pub step-passes : (setting : SettingValue) (facts : Facts) (r t : ℕ) (config : List (List Ion)) → CanPlay setting facts r t config → All (Passes setting config) (step_of setting facts t config)
step-passes setting facts r t config can =
    All-map (Passes setting config) (action_of facts t config) (happening setting facts t)
    (each_member (λ a. Passes setting config (action_of facts t config a)) (happening setting facts t)
    (λ a in_step.
    let it = (Contains-filter (happens facts t) (activities_of setting) a).0 in_step in
    activity-passes setting facts r t config a can ((there-activity setting a).0 it.0) it.1))
