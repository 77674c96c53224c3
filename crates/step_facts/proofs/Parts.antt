-- All families and bounds of the parts, as properties.
use Rattle.std.specs.Prelude.{ℕ, suc, List, [], ◌∷◌, ◌++◌, ◌↔◌}
use Rattle.step_rules.specs.Setting.{SettingValue}
use Rattle.step_vars.specs.declared.item.Claim.{Claim}
use Rattle.step_vars.specs.Families.{start_places, start_orders, start_undone, one_places, few_ions_each, leaves_from_source, leaves_to_target, leaves_use_channel, all_stay_or_leave, all_stayed_or_came, use_passes_some, use_needs_empty_slot, use_empties_slot, splits_take_the_front, one_activity_each, one_crossing_each, swaps_in_zone, swaps_of_neighbours, swaps_turn, stayers_keep_order, chains_keep_order, merges_at_the_end, ions_in_zone, acts_do, all_done_by_acts, done_in_order}
use Rattle.step_vars.specs.Encoding.{start_clauses, passing_clauses, order_clauses, operation_clauses}
use Rattle.step_facts.specs.Facts.{Facts, AllHold}
use Rattle.step_facts.specs.Properties.{PassersWereAtSource, PassersAreAtTarget, PassersUseChannel, StaysOrLeaves, StayedOrEntered, UsePassesSome, UseNeedsEmptySlot, UseEmptiesSlot, SplitsTakeTheFront, SwappedAreInZone, SwappedAreNeighbours, SwapsTurn, StayersKeepOrder, PassersKeepOrder, MergesAtTheEnd, IonsAreInZone, PerformedOnce, DoneByPerforming, DoneInOrder}
use Rattle.step_facts.specs.Run.{IsStart, IsStep, IsRun, StepHolds, PartsHold}
use Rattle.step_facts.proofs.Clauses.{AllHold-append, AreBounded-append}
use Rattle.step_facts.proofs.PassingClauses.{start_places_iff, start_orders_iff, start_undone_iff, leaves_from_source_iff, leaves_to_target_iff, leaves_use_channel_iff, all_stay_or_leave_iff, all_stayed_or_came_iff, use_passes_some_iff, use_needs_empty_slot_iff, use_empties_slot_iff, splits_take_the_front_iff}
use Rattle.step_facts.proofs.OrderClauses.{swaps_in_zone_iff, swaps_of_neighbours_iff, swaps_turn_iff, stayers_keep_order_iff, chains_keep_order_iff, merges_at_the_end_iff, ions_in_zone_iff, acts_do_iff, all_done_by_acts_iff, done_in_order_iff, goal_needs_all_iff}
use Rattle.step_facts.proofs.Bounds.{one_places_iff, few_ions_each_iff, one_activity_each_iff, one_crossing_each_iff}

-- ---- families one after another

abbrev joined : List (List Claim) → List (List (List Claim)) → List (List Claim)
joined first [] = first
joined first (family ∷ families) = joined (first ++ family) families

abbrev EachHolds : Facts → List (List (List Claim)) → Type 0
EachHolds facts [] = Unit {0}
EachHolds facts (family ∷ families) = AllHold facts family × EachHolds facts families

AllHold-joined : (facts : Facts) (first : List (List Claim)) (families : List (List (List Claim)))
    → AllHold facts (joined first families) ↔ (AllHold facts first × EachHolds facts families)
AllHold-joined facts first [] = (λ all. (all, tt), λ each. each.0)
AllHold-joined facts first (family ∷ families) =
    let later = AllHold-joined facts (first ++ family) families in
    let both = AllHold-append facts first family in (
      λ all. let it = later.0 all in ((both.0 it.0).0, ((both.0 it.0).1, it.1)),
      λ each. later.1 (both.1 (each.0, each.1.0), each.1.1),
    )

via : {P Q R : Type 0} → P ↔ Q → Q ↔ R → P ↔ R
via first second = (λ p. second.0 (first.0 p), λ r. first.1 (second.1 r))

-- ---- the parts

pub start_iff : (setting : SettingValue) (facts : Facts) → AllHold facts (start_clauses setting)
    ↔ IsStart setting facts
start_iff setting facts =
    let places = start_places_iff setting facts in
    let orders = start_orders_iff setting facts in
    let undone = start_undone_iff setting facts in
    via (AllHold-joined facts (start_places setting) (start_orders setting ∷ start_undone setting ∷ [])) (
      λ (a, (b, (c, _))). record { places = places.0 a; orders = orders.0 b; undone = undone.0 c },
      λ is. (places.1 is.places, (orders.1 is.orders, (undone.1 is.undone, tt))),
    )

-- of ions that pass
abbrev Passing : SettingValue → Facts → ℕ → ℕ → Type 0
Passing setting facts r t =
    PassersWereAtSource setting facts r t × PassersAreAtTarget setting facts r t
    × PassersUseChannel setting facts r t × StaysOrLeaves setting facts r t
    × StayedOrEntered setting facts r t × UsePassesSome setting facts r t
    × UseNeedsEmptySlot setting facts r t × UseEmptiesSlot setting facts r t
    × SplitsTakeTheFront setting facts r t

passing_iff : (setting : SettingValue) (facts : Facts) (r t : ℕ)
    → AllHold facts (passing_clauses setting r t) ↔ Passing setting facts r t
passing_iff setting facts r t =
    let a = leaves_from_source_iff setting facts r t in
    let b = leaves_to_target_iff setting facts r t in
    let c = leaves_use_channel_iff setting facts r t in
    let d = all_stay_or_leave_iff setting facts r t in
    let e = all_stayed_or_came_iff setting facts r t in
    let f = use_passes_some_iff setting facts r t in
    let g = use_needs_empty_slot_iff setting facts r t in
    let h = use_empties_slot_iff setting facts r t in
    let i = splits_take_the_front_iff setting facts r t in
    via (AllHold-joined facts (leaves_from_source setting r t) (
    leaves_to_target setting r t ∷ leaves_use_channel setting r t ∷ all_stay_or_leave setting r t ∷
    all_stayed_or_came setting r t ∷ use_passes_some setting r t ∷ use_needs_empty_slot setting r t ∷
    use_empties_slot setting r t ∷ splits_take_the_front setting r t ∷ [])) (
      λ (ha, (hb, (hc, (hd, (he, (hf, (hg, (hh, (hi, _))))))))).
          (a.0 ha, b.0 hb, c.0 hc, d.0 hd, e.0 he, f.0 hf, g.0 hg, h.0 hh, i.0 hi),
      λ is. (
        a.1 is.0,
        (b.1 is.1, (c.1 is.2, (d.1 is.3, (e.1 is.4, (f.1 is.5, (g.1 is.6, (h.1 is.7, (i.1 is.8, tt)))))))),
      ),
    )

-- of the order of ions
abbrev Orders : SettingValue → Facts → ℕ → ℕ → Type 0
Orders setting facts r t =
    SwappedAreInZone setting facts r t × SwappedAreNeighbours setting facts r t
    × SwapsTurn setting facts r t × StayersKeepOrder setting facts r t
    × PassersKeepOrder setting facts r t × MergesAtTheEnd setting facts r t

orders_iff : (setting : SettingValue) (facts : Facts) (r t : ℕ) → AllHold facts (order_clauses setting r t)
    ↔ Orders setting facts r t
orders_iff setting facts r t =
    let a = swaps_in_zone_iff setting facts r t in
    let b = swaps_of_neighbours_iff setting facts r t in
    let c = swaps_turn_iff setting facts r t in
    let d = stayers_keep_order_iff setting facts r t in
    let e = chains_keep_order_iff setting facts r t in
    let f = merges_at_the_end_iff setting facts r t in
    via (AllHold-joined facts (swaps_in_zone setting r t) (
    swaps_of_neighbours setting r t ∷ swaps_turn setting r t ∷ stayers_keep_order setting r t ∷
    chains_keep_order setting r t ∷ merges_at_the_end setting r t ∷ [])) (
      λ (ha, (hb, (hc, (hd, (he, (hf, _)))))). (a.0 ha, b.0 hb, c.0 hc, d.0 hd, e.0 he, f.0 hf),
      λ is. (a.1 is.0, (b.1 is.1, (c.1 is.2, (d.1 is.3, (e.1 is.4, (f.1 is.5, tt)))))),
    )

-- of operations
abbrev Operations : SettingValue → Facts → ℕ → ℕ → Type 0
Operations setting facts r t =
    IonsAreInZone setting facts r t × PerformedOnce setting facts r t
    × DoneByPerforming setting facts r t × DoneInOrder setting facts r t

operations_iff : (setting : SettingValue) (facts : Facts) (r t : ℕ)
    → AllHold facts (operation_clauses setting r t) ↔ Operations setting facts r t
operations_iff setting facts r t =
    let a = ions_in_zone_iff setting facts r t in
    let b = acts_do_iff setting facts r t in
    let c = all_done_by_acts_iff setting facts r t in
    let d = done_in_order_iff setting facts r t in
    via (AllHold-joined facts (ions_in_zone setting r t) (
    acts_do setting r t ∷ all_done_by_acts setting r t ∷ done_in_order setting r t ∷ [])) (
      λ (ha, (hb, (hc, (hd, _)))). (a.0 ha, b.0 hb, c.0 hc, d.0 hd),
      λ is. (a.1 is.0, (b.1 is.1, (c.1 is.2, (d.1 is.3, tt)))),
    )

step_has : (setting : SettingValue) (facts : Facts) (r t : ℕ) → StepHolds setting facts r t
    → IsStep setting facts r t
step_has setting facts r t holds =
    let places = (AreBounded-append facts (one_places setting t) (few_ions_each setting t)).0 holds.places in
    let activities =
    (AreBounded-append facts (one_activity_each setting t)
    (one_crossing_each setting t)).0 holds.activities in
    let passing = (passing_iff setting facts r t).0 holds.passing in
    let orders = (orders_iff setting facts r t).0 holds.orders in
    let operations = (operations_iff setting facts r t).0 holds.operations in
    record {
      one_place = (one_places_iff setting facts t).0 places.0;
      few_ions = (few_ions_each_iff setting facts t).0 places.1;
      from_source = passing.0;
      to_target = passing.1;
      use_channel = passing.2;
      stays = passing.3;
      stayed = passing.4;
      some_passes = passing.5;
      empty_slot = passing.6;
      whole_chain = passing.7;
      front = passing.8;
      one_activity = (one_activity_each_iff setting facts t).0 activities.0;
      one_crossing = (one_crossing_each_iff setting facts t).0 activities.1;
      swap_in_zone = orders.0;
      swap_neighbours = orders.1;
      swap_turns = orders.2;
      stayers = orders.3;
      passers = orders.4;
      merges = orders.5;
      ions_in_zone = operations.0;
      once = operations.1;
      done = operations.2;
      in_order = operations.3;
    }

has_step : (setting : SettingValue) (facts : Facts) (r t : ℕ) → IsStep setting facts r t
    → StepHolds setting facts r t
has_step setting facts r t is = record {
  places = (AreBounded-append facts (one_places setting t) (few_ions_each setting t)).1
      ((one_places_iff setting facts t).1 is.one_place, (few_ions_each_iff setting facts t).1 is.few_ions);
  passing = (passing_iff setting facts r t).1 (
    is.from_source,
    is.to_target,
    is.use_channel,
    is.stays,
    is.stayed,
    is.some_passes,
    is.empty_slot,
    is.whole_chain,
    is.front,
  );
  activities = (AreBounded-append facts (one_activity_each setting t) (one_crossing_each setting t)).1 (
    (one_activity_each_iff setting facts t).1 is.one_activity,
    (one_crossing_each_iff setting facts t).1 is.one_crossing,
  );
  orders = (orders_iff setting facts r t).1
      (is.swap_in_zone, is.swap_neighbours, is.swap_turns, is.stayers, is.passers, is.merges);
  operations = (operations_iff setting facts r t).1 (is.ions_in_zone, is.once, is.done, is.in_order);
}

pub step_iff : (setting : SettingValue) (facts : Facts) (r t : ℕ) → StepHolds setting facts r t
    ↔ IsStep setting facts r t
step_iff setting facts r t = (step_has setting facts r t, has_step setting facts r t)

pub run_iff : (setting : SettingValue) (facts : Facts) (t : ℕ) → PartsHold setting facts t
    ↔ IsRun setting facts t
run_iff setting facts t = (
  λ parts. record {
    start = (start_iff setting facts).0 parts.start;
    steps = λ r within. (step_iff setting facts r (suc r)).0 (parts.steps r within);
    goals = λ s within. (goal_needs_all_iff setting facts s).0 (parts.goals s within);
    goal = parts.goal;
  },
  λ run. record {
    start = (start_iff setting facts).1 run.start;
    steps = λ r within. (step_iff setting facts r (suc r)).1 (run.steps r within);
    goals = λ s within. (goal_needs_all_iff setting facts s).1 (run.goals s within);
    goal = run.goal;
  },
)
