-- The families of ions that pass, each as its property.
use Rattle.std.proofs.Common.{ℕ, [], ◌∷◌, map, inl}
use Rattle.std.specs.Prelude.{◌==◌, ◌↔◌}
use Rattle.std.proofs.lemmas.Bool.{eqb-true, eq-eqb, not-true, not_from_false}
use Rattle.trap_model.specs.declared.channel.Channel.{Channel}
use Rattle.step_rules.specs.Setting.{SettingValue}
use Rattle.step_vars.specs.Items.{at_item, ord_item, use_item, leave_item, done_item, so, not_so, nearer_to}
use Rattle.step_vars.specs.Lists.{ions_of, numbers_where, into_slot, from_slot, is_split_channel, starts_at, starts_before}
use Rattle.step_vars.specs.Families.{start_place, start_places, start_order, start_orders, start_undone, leaves_from_source, leaves_to_target, leaves_use_channel, stays_or_leaves, all_stay_or_leave, stayed_or_came, all_stayed_or_came, some_passes, use_passes_some, use_needs_empty_slot, use_empties_slot, goes_along, splits_take_the_front}
use Rattle.step_facts.specs.Facts.{Facts, SomeHolds, AllHold, PassesSome}
use Rattle.step_facts.specs.Properties.{StartPlaces, StartOrders, StartUndone, PassersWereAtSource, PassersAreAtTarget, PassersUseChannel, StaysOrLeaves, StayedOrEntered, UsePassesSome, UseNeedsEmptySlot, UseEmptiesSlot, SplitsTakeTheFront}
use Rattle.step_facts.proofs.Clauses.{given, give, given_claim, give_claim, last_one, last_false, second_way, holds-as, SomeHolds-map, there-ion, there-number_where}
use Rattle.step_facts.proofs.Loops.{each_ion_place, each_pair, each_channel, each_channel_ion, each_channel_where, each_channel_two, each_operation}

-- ---- the start

pub start_places_iff : (setting : SettingValue) (facts : Facts) → AllHold facts (start_places setting)
    ↔ StartPlaces setting facts
start_places_iff setting facts =
    let each = each_ion_place setting facts (start_place setting) in
    let is = λ (i p : ℕ). holds-as (facts (at_item i p 0)) (starts_at setting i p) in (
      λ all i p i_known p_known. (is i p).0 (last_one (each.0 all i p i_known p_known)),
      λ law. each.1 (λ i p i_known p_known. inl ((is i p).1 (law i p i_known p_known))),
    )

pub start_orders_iff : (setting : SettingValue) (facts : Facts) → AllHold facts (start_orders setting)
    ↔ StartOrders setting facts
start_orders_iff setting facts =
    let each = each_pair setting facts (start_order setting) in
    let is = λ (i j : ℕ). holds-as (facts (ord_item i j 0)) (starts_before setting i j) in (
      λ all i j below known. (is i j).0 (last_one (each.0 all i j below known)),
      λ law. each.1 (λ i j below known. inl ((is i j).1 (law i j below known))),
    )

pub start_undone_iff : (setting : SettingValue) (facts : Facts) → AllHold facts (start_undone setting)
    ↔ StartUndone setting facts
start_undone_iff setting facts =
    let each = each_operation setting facts (λ g. not_so (done_item g 0) ∷ []) in (
      λ all g is. last_false (each.0 all g is),
      λ law. each.1 (λ g is. inl (not_from_false (facts (done_item g 0)) (law g is))),
    )

-- ---- ions that pass

pub leaves_from_source_iff : (setting : SettingValue) (facts : Facts) (r t : ℕ)
    → AllHold facts (leaves_from_source setting r t) ↔ PassersWereAtSource setting facts r t
leaves_from_source_iff setting facts r t =
    let each = each_channel_ion setting facts
    (λ c i. not_so (leave_item i c.number t) ∷ so (at_item i c.channel.from.0 r) ∷ []) in (
      λ all c channel i known within passes. last_one (given (each.0 all c channel i known within) passes),
      λ law. each.1 (λ c channel i known within. give _ (λ passes. inl (law c channel i known within passes))),
    )

pub leaves_to_target_iff : (setting : SettingValue) (facts : Facts) (r t : ℕ)
    → AllHold facts (leaves_to_target setting r t) ↔ PassersAreAtTarget setting facts r t
leaves_to_target_iff setting facts r t =
    let each = each_channel_ion setting facts
    (λ c i. not_so (leave_item i c.number t) ∷ so (at_item i c.channel.to.0 t) ∷ []) in (
      λ all c channel i known within passes. last_one (given (each.0 all c channel i known within) passes),
      λ law. each.1 (λ c channel i known within. give _ (λ passes. inl (law c channel i known within passes))),
    )

pub leaves_use_channel_iff : (setting : SettingValue) (facts : Facts) (r t : ℕ)
    → AllHold facts (leaves_use_channel setting r t) ↔ PassersUseChannel setting facts r t
leaves_use_channel_iff setting facts r t =
    let each = each_channel_ion setting facts
    (λ c i. not_so (leave_item i c.number t) ∷ so (use_item c.number t) ∷ []) in (
      λ all c channel i known within passes. last_one (given (each.0 all c channel i known within) passes),
      λ law. each.1 (λ c channel i known within. give _ (λ passes. inl (law c channel i known within passes))),
    )

-- the ion passes by one of the channels that have place p at that end
passes_some_iff : (setting : SettingValue) (facts : Facts) (i t : ℕ) (ends : Channel → ℕ) (p : ℕ)
    → SomeHolds facts
    (map (λ c. so (leave_item i c t))
    (numbers_where (λ (channel : Channel). ends channel == p) setting))
    ↔ PassesSome setting facts i t ends p
passes_some_iff setting facts i t ends p =
    let test = λ (channel : Channel). ends channel == p in
    let some = SomeHolds-map facts (λ c. leave_item i c t) (numbers_where test setting) in (
      λ holds.
          let it = some.0 holds in
          let channel = (there-number_where setting test it.member).0 it.there in
          record {
            number = it.member;
            channel = channel.channel;
            there = channel.there;
            at_place = eqb-true
                (ends channel.channel) p channel.passes;
            passes = it.is;
          },
      λ it. some.1 (record {
        member = it.number;
        there = (there-number_where setting test it.number).1
            (record {
              channel = it.channel;
              there = it.there;
              passes = eq-eqb
                  (ends it.channel) p it.at_place;
            });
        is = it.passes;
      }),
    )

pub all_stay_or_leave_iff : (setting : SettingValue) (facts : Facts) (r t : ℕ)
    → AllHold facts (all_stay_or_leave setting r t) ↔ StaysOrLeaves setting facts r t
all_stay_or_leave_iff setting facts r t =
    let each = each_ion_place setting facts (stays_or_leaves setting r t) in
    let leaves = λ (i p : ℕ). passes_some_iff setting facts i t (λ (channel : Channel). channel.from.0) p in (
      λ all i p i_known p_known there. second_way (leaves i p).0 (given (each.0 all i p i_known p_known) there),
      λ law. each.1
          (λ i p i_known p_known. give _ (λ there. second_way (leaves i p).1 (law i p i_known p_known there))),
    )

pub all_stayed_or_came_iff : (setting : SettingValue) (facts : Facts) (r t : ℕ)
    → AllHold facts (all_stayed_or_came setting r t) ↔ StayedOrEntered setting facts r t
all_stayed_or_came_iff setting facts r t =
    let each = each_ion_place setting facts (stayed_or_came setting r t) in
    let enters = λ (i p : ℕ). passes_some_iff setting facts i t (λ (channel : Channel). channel.to.0) p in (
      λ all i p i_known p_known there. second_way (enters i p).0 (given (each.0 all i p i_known p_known) there),
      λ law. each.1
          (λ i p i_known p_known. give _ (λ there. second_way (enters i p).1 (law i p i_known p_known there))),
    )

-- ---- channels in use

pub use_passes_some_iff : (setting : SettingValue) (facts : Facts) (r t : ℕ)
    → AllHold facts (use_passes_some setting r t) ↔ UsePassesSome setting facts r t
use_passes_some_iff setting facts r t =
    let each = each_channel setting facts (some_passes setting t) in
    let some = λ (c : ℕ). SomeHolds-map facts (λ i. leave_item i c t) (ions_of setting) in (
      λ all c channel known used.
          let it = (some c).0 (given (each.0 all c channel known) used) in
          record { ion = it.member; there = (there-ion setting it.member).0 it.there; passes = it.is },
      λ law. each.1 (λ c channel known. give _ (λ used.
          let it = law c channel known used in
          (some c).1
          (record { member = it.ion; there = (there-ion setting it.ion).1 it.there; is = it.passes }))),
    )

pub use_needs_empty_slot_iff : (setting : SettingValue) (facts : Facts) (r t : ℕ)
    → AllHold facts (use_needs_empty_slot setting r t) ↔ UseNeedsEmptySlot setting facts r t
use_needs_empty_slot_iff setting facts r t =
    let each = each_channel_where setting facts (into_slot setting)
    (λ c i. not_so (use_item c.number t) ∷ not_so (at_item i c.channel.to.0 r) ∷ []) in (
      λ all c channel i known within slot used. last_false
          (given (each.0 all c channel i known (not_from_false _ slot) within) used),
      λ law. each.1 (λ c channel i known slot within. give _ (λ used.
          inl (not_from_false (facts (at_item i channel.to.0 r))
          (law c channel i known within (not-true _ slot) used)))),
    )

pub use_empties_slot_iff : (setting : SettingValue) (facts : Facts) (r t : ℕ)
    → AllHold facts (use_empties_slot setting r t) ↔ UseEmptiesSlot setting facts r t
use_empties_slot_iff setting facts r t =
    let each = each_channel_where setting facts (from_slot setting)
    (λ c i. not_so (use_item c.number t) ∷ not_so (at_item i c.channel.from.0 r)
    ∷ so (leave_item i c.number t) ∷ []) in (
      λ all c channel i known within slot used there. last_one
          (given (given (each.0 all c channel i known (not_from_false _ slot) within) used) there),
      λ law. each.1
          (λ c channel i known slot within. give _
          (λ used. give _ (λ there. inl (law c channel i known within (not-true _ slot) used there)))),
    )

pub splits_take_the_front_iff : (setting : SettingValue) (facts : Facts) (r t : ℕ)
    → AllHold facts (splits_take_the_front setting r t) ↔ SplitsTakeTheFront setting facts r t
splits_take_the_front_iff setting facts r t =
    let each = each_channel_two setting facts is_split_channel (goes_along r t) in (
      λ all c channel i j known splits i_known j_known apart passes there nearer.
          last_one (given_claim facts (nearer_to channel.from_end j i r)
          (given (given (each.0 all c channel i j known splits i_known j_known apart) passes) there) nearer),
      λ law. each.1 (λ c channel i j known splits i_known j_known apart. give _ (λ passes. give _ (λ there.
          give_claim facts (nearer_to channel.from_end j i r)
          (λ nearer. inl (law c channel i j known splits i_known j_known apart passes there nearer))))),
    )
