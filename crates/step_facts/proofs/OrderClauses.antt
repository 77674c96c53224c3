-- The families of swaps, of the order of ions, and of operations, each as its property.
use Rattle.std.proofs.Common.{◌≡◌, ℕ, Bool, true, false, not, List, [], ◌∷◌, ◌++◌, map, refl, inl, inr}
use Rattle.std.specs.Prelude.{IsTrue, if◌then◌else◌, ◌↔◌, ◌⊎◌}
use Rattle.std.proofs.lemmas.Bool.{cases_Bool, not_from_false}
use Rattle.trap_model.specs.Trap.{is_zone}
use Rattle.trap_parts.specs.Joins.{same_end}
use Rattle.trap_model.specs.declared.channel.Channel.{Channel}
use Rattle.step_rules.specs.Setting.{SettingValue}
use Rattle.circuit_core.specs.Order.{is_performed}
use Rattle.step_vars.specs.declared.item.Claim.{Claim}
use Rattle.step_vars.specs.Items.{at_item, ord_item, swap_item, act_item, done_item, goal_item, so, not_so, nearer}
use Rattle.step_vars.specs.Lists.{ions_of, ions_of_op, is_ion_of, able_zones, performed, is_merge_channel, cell}
use Rattle.step_vars.specs.Families.{swap_in_zone, swaps_in_zone, none_between, swaps_of_neighbours, swap_turns, swaps_turn, keeps_order, both_stay, stayers_keep_order, pair_passes, chains_keep_order, merges_outside, merges_at_the_end, ions_in_zone, act_does, acts_do, done_by_acts, all_done_by_acts, done_in_order, goal_needs_all}
use Rattle.step_facts.specs.Facts.{Facts, SomeHolds, AllHold, IsAt, PassesBy}
use Rattle.step_facts.specs.Properties.{SwappedAreInZone, SwappedAreNeighbours, SwapsTurn, StayersKeepOrder, PassersKeepOrder, MergesAtTheEnd, IonsAreInZone, IsPerformed, PerformedOnce, DoneByPerforming, DoneInOrder, GoalNeedsAll}
use Rattle.step_facts.proofs.Lists.{Contains-filter}
use Rattle.step_facts.proofs.Clauses.{AllHold-map, AllHold-flat_map, given, give, given_claim, give_claim, unless, or_else, last_one, last_false, second_way, SomeHolds-map, there-ion, there-performed, there-able_zone}
use Rattle.step_facts.proofs.Loops.{numbered, each_pair_zone, each_pair_zone_third, each_pair_place, each_channel_pair, each_channel_two, each_operation, each_operation_zone, each_act, each_order}

-- ---- swaps

pub swaps_in_zone_iff : (setting : SettingValue) (facts : Facts) (r t : ℕ)
    → AllHold facts (swaps_in_zone setting r t) ↔ SwappedAreInZone setting facts r t
swaps_in_zone_iff setting facts r t =
    let each = each_pair_zone setting facts (swap_in_zone r t) in (
      λ all i j z below known z_known swapped.
          let both = each.0 all i j z below known z_known in
          (last_one (given both.0 swapped), last_one (given both.1.0 swapped)),
      λ law. each.1 (λ i j z below known z_known. (
        give _ (λ swapped. inl (law i j z below known z_known swapped).0),
        (give _ (λ swapped. inl (law i j z below known z_known swapped).1), tt),
      )),
    )

pub swaps_of_neighbours_iff : (setting : SettingValue) (facts : Facts) (r t : ℕ)
    → AllHold facts (swaps_of_neighbours setting r t) ↔ SwappedAreNeighbours setting facts r t
swaps_of_neighbours_iff setting facts r t =
    let each = each_pair_zone_third setting facts (none_between r t) in (
      λ all i j k z below known z_known k_known not_i not_j swapped there.
          let both = each.0 all i j k z below known z_known k_known not_i not_j in (
            λ between. given_claim facts (nearer k j r)
                (given_claim facts (nearer i k r) (given (given both.0 swapped) there) between.0) between.1,
            λ between. given_claim facts (nearer k i r)
                (given_claim facts (nearer j k r) (given (given both.1.0 swapped) there) between.0) between.1,
          ),
      λ law. each.1 (λ i j k z below known z_known k_known not_i not_j. (
        give _ (λ swapped. give _ (λ there.
            give_claim facts (nearer i k r) (λ first. give_claim facts (nearer k j r) (λ second.
            (law i j k z below known z_known k_known not_i not_j swapped there).0 (first, second))))),
        (
          give _ (λ swapped. give _ (λ there.
              give_claim facts (nearer j k r) (λ first. give_claim facts (nearer k i r) (λ second.
              (law i j k z below known z_known k_known not_i not_j swapped there).1 (first, second))))),
          tt,
        ),
      )),
    )

-- ---- the order of ions

-- clauses that say of two facts that they are one, and that they aren't
abbrev Same : Bool → Bool → Type 0
Same old new = ((not old ≡ true) ⊎ ((new ≡ true) ⊎ ⊥)) × ((old ≡ true) ⊎ ((not new ≡ true) ⊎ ⊥))

abbrev Turned : Bool → Bool → Type 0
Turned old new = ((not old ≡ true) ⊎ ((not new ≡ true) ⊎ ⊥)) × ((old ≡ true) ⊎ ((new ≡ true) ⊎ ⊥))

same : (old new : Bool) → Same old new ↔ (new ≡ old)
same true new = (λ both. last_one (given both.0 refl), λ is. (inr (inl is), inl refl))
same false new = (λ both. last_false (unless both.1 refl), λ is. (inl refl, inr (inl (not_from_false new is))))

turned : (old new : Bool) → Turned old new ↔ (new ≡ not old)
turned true new = (λ both. last_false (given both.0 refl), λ is. (inr (inl (not_from_false new is)), inl refl))
turned false new = (λ both. last_one (unless both.1 refl), λ is. (inl refl, inr (inl is)))

pub swaps_turn_iff : (setting : SettingValue) (facts : Facts) (r t : ℕ)
    → AllHold facts (swaps_turn setting r t) ↔ SwapsTurn setting facts r t
swaps_turn_iff setting facts r t =
    let each = each_pair_zone setting facts (swap_turns r t) in
    let is = λ (i j : ℕ). turned (facts (ord_item i j r)) (facts (ord_item i j t)) in (
      λ all i j z below known z_known swapped.
          let both = each.0 all i j z below known z_known in
          (is i j).0 (given both.0 swapped, given both.1.0 swapped),
      λ law. each.1 (λ i j z below known z_known. (
        give _ (λ swapped. ((is i j).1 (law i j z below known z_known swapped)).0),
        (give _ (λ swapped. ((is i j).1 (law i j z below known z_known swapped)).1), tt),
      )),
    )

-- the premises of ions that stay, over a clause that is left
abbrev Staying : SettingValue → Facts → ℕ → ℕ → ℕ → ℕ → ℕ → Type 0 → Type 0
Staying setting facts r t i j p R = IsAt facts i p r → IsAt facts j p r → IsAt facts i p t → IsAt facts j p t
    → (IsTrue (is_zone setting.trap p) → facts (swap_item i j p t) ≡ false) → R

staying : (setting : SettingValue) (facts : Facts) (r t i j p : ℕ) (rest : List Claim)
    → SomeHolds facts (both_stay setting r t p (cell i j) ++ rest)
    ↔ Staying setting facts r t i j p (SomeHolds facts rest)
staying setting facts r t i j p rest = elim (cases_Bool (is_zone setting.trap p)) [
  | inl zone ↦ rw zone (
    λ some at_i at_j stays_i stays_j unswapped. unless
        (given (given (given (given some at_i) at_j) stays_i) stays_j) (unswapped refl),
    λ law. give _ (λ at_i. give _ (λ at_j. give _ (λ stays_i. give _ (λ stays_j. or_else _ (λ unswapped.
        law at_i at_j stays_i stays_j (λ is. unswapped)))))),
  )
  | inr slot ↦ rw slot (
    λ some at_i at_j stays_i stays_j unswapped. given (given (given (given some at_i) at_j) stays_i) stays_j,
    λ law. give _ (λ at_i. give _ (λ at_j. give _ (λ stays_i. give _ (λ stays_j.
        law at_i at_j stays_i stays_j (λ never. absurd cc))))),
  )
]

pub stayers_keep_order_iff : (setting : SettingValue) (facts : Facts) (r t : ℕ)
    → AllHold facts (stayers_keep_order setting r t) ↔ StayersKeepOrder setting facts r t
stayers_keep_order_iff setting facts r t =
    let each = each_pair_place setting facts (λ p pair. keeps_order (both_stay setting r t p pair) r t pair) in
    let first = λ (i j p : ℕ). staying setting facts r t i j p
    (not_so (ord_item i j r) ∷ so (ord_item i j t) ∷ []) in
    let second = λ (i j p : ℕ). staying setting facts r t i j p
    (so (ord_item i j r) ∷ not_so (ord_item i j t) ∷ []) in
    let is = λ (i j : ℕ). same (facts (ord_item i j r)) (facts (ord_item i j t)) in (
      λ all i j p below known p_known at_i at_j stays_i stays_j unswapped.
          let both = each.0 all i j p below known p_known in
          (is i j).0 (
            (first i j p).0 both.0 at_i at_j stays_i stays_j unswapped,
            (second i j p).0 both.1.0 at_i at_j stays_i stays_j unswapped,
          ),
      λ law. each.1 (λ i j p below known p_known. (
        (first i j p).1
            (λ at_i at_j stays_i stays_j unswapped.
            ((is i j).1 (law i j p below known p_known at_i at_j stays_i stays_j unswapped)).0),
        (
          (second i j p).1
              (λ at_i at_j stays_i stays_j unswapped.
              ((is i j).1 (law i j p below known p_known at_i at_j stays_i stays_j unswapped)).1),
          tt,
        ),
      )),
    )

-- two ions that pass by one channel
passing_pair : (facts : Facts) (r t i j c : ℕ) (channel : Channel)
    → AllHold facts (pair_passes r t (numbered c channel) (cell i j))
    ↔ (PassesBy facts i c t → PassesBy facts j c t
    → facts (ord_item i j t)
    ≡ (if same_end channel.from_end channel.to_end then not (facts (ord_item i j r))
    else facts (ord_item i j r)))
passing_pair facts r t i j c channel = elim (cases_Bool (same_end channel.from_end channel.to_end)) [
  | inl turns ↦ let is = turned (facts (ord_item i j r)) (facts (ord_item i j t)) in rw turns (
    λ both passes_i passes_j. is.0
        (given (given both.0 passes_i) passes_j, given (given both.1.0 passes_i) passes_j),
    λ law. (
      give _ (λ passes_i. give _ (λ passes_j. (is.1 (law passes_i passes_j)).0)),
      (give _ (λ passes_i. give _ (λ passes_j. (is.1 (law passes_i passes_j)).1)), tt),
    ),
  )
  | inr keeps ↦ let is = same (facts (ord_item i j r)) (facts (ord_item i j t)) in rw keeps (
    λ both passes_i passes_j. is.0
        (given (given both.0 passes_i) passes_j, given (given both.1.0 passes_i) passes_j),
    λ law. (
      give _ (λ passes_i. give _ (λ passes_j. (is.1 (law passes_i passes_j)).0)),
      (give _ (λ passes_i. give _ (λ passes_j. (is.1 (law passes_i passes_j)).1)), tt),
    ),
  )
]

pub chains_keep_order_iff : (setting : SettingValue) (facts : Facts) (r t : ℕ)
    → AllHold facts (chains_keep_order setting r t) ↔ PassersKeepOrder setting facts r t
chains_keep_order_iff setting facts r t =
    let each = each_channel_pair setting facts (pair_passes r t) in (
      λ all i j c channel below known c_known. (passing_pair facts r t i j c channel).0
          (each.0 all i j c channel below known c_known),
      λ law. each.1
          (λ i j c channel below known c_known. (passing_pair facts r t i j c channel).1
          (law i j c channel below known c_known)),
    )

pub merges_at_the_end_iff : (setting : SettingValue) (facts : Facts) (r t : ℕ)
    → AllHold facts (merges_at_the_end setting r t) ↔ MergesAtTheEnd setting facts r t
merges_at_the_end_iff setting facts r t =
    let each = each_channel_two setting facts is_merge_channel (merges_outside r t) in (
      λ all c channel i j known merges i_known j_known apart passes there.
          last_one (given (given (each.0 all c channel j i known merges j_known i_known apart) passes) there),
      λ law. each.1 (λ c channel j i known merges j_known i_known apart. give _ (λ passes. give _ (λ there.
          inl (law c channel i j known merges i_known j_known apart passes there)))),
    )

-- ---- operations

pub ions_in_zone_iff : (setting : SettingValue) (facts : Facts) (r t : ℕ)
    → AllHold facts (ions_in_zone setting r t) ↔ IonsAreInZone setting facts r t
ions_in_zone_iff setting facts r t =
    let clause = λ (g z i : ℕ). not_so (act_item g z t) ∷ so (at_item i z r) ∷ [] in
    let each = each_operation_zone setting facts (λ g z. map (clause g z) (ions_of_op setting g)) in
    let inner = λ (g z : ℕ). AllHold-map facts (clause g z) (ions_of_op setting g) in
    let ion = λ (g i : ℕ). Contains-filter (is_ion_of setting g) (ions_of setting) i in (
      λ all g z i is known of_op performs.
          last_one (given
          ((inner g z).0 (each.0 all g z is) i
          ((ion g i).1 ((there-ion setting i).1 known, of_op))) performs),
      λ law. each.1 (λ g z is. (inner g z).1 (λ i i_in. give _ (λ performs.
          let it = (ion g i).0 i_in in
          inl (law g z i is ((there-ion setting i).0 it.0) it.1 performs)))),
    )

pub acts_do_iff : (setting : SettingValue) (facts : Facts) (r t : ℕ) → AllHold facts (acts_do setting r t)
    ↔ PerformedOnce setting facts r t
acts_do_iff setting facts r t =
    let each = each_act setting facts (act_does r t) in (
      λ all g z is performs.
          let both = each.0 all g z is in
          (last_false (given both.0 performs), last_one (given both.1.0 performs)),
      λ law. each.1 (λ g z is. (
        give _ (λ performs. inl (not_from_false (facts (done_item g r)) (law g z is performs).0)),
        (give _ (λ performs. inl (law g z is performs).1), tt),
      )),
    )

-- some zone performs it
performed_iff : (setting : SettingValue) (facts : Facts) (g t : ℕ) → IsTrue (is_performed setting.circuit g)
    → SomeHolds facts (map (λ z. so (act_item g z t)) (able_zones setting g)) ↔ IsPerformed setting facts g t
performed_iff setting facts g t is =
    let some = SomeHolds-map facts (λ z. act_item g z t) (able_zones setting g) in (
      λ holds.
          let it = some.0 holds in
          let able = (there-able_zone setting g it.member).0 it.there in
          record { zone = it.member; able = (is, able.1, able.0); performs = it.is },
      λ it. some.1
          (record {
            member = it.zone;
            there = (there-able_zone setting g it.zone).1
                (it.able.2, it.able.1);
            is = it.performs;
          }),
    )

pub all_done_by_acts_iff : (setting : SettingValue) (facts : Facts) (r t : ℕ)
    → AllHold facts (all_done_by_acts setting r t) ↔ DoneByPerforming setting facts r t
all_done_by_acts_iff setting facts r t =
    let each = AllHold-flat_map facts (done_by_acts setting r t) (performed setting.circuit) in (
      λ all g is.
          let both = each.0 all g ((there-performed setting.circuit g).1 is) in (
            λ done. last_one (given both.0 done),
            λ done. second_way (performed_iff setting facts g t is).0
                (given both.1.0 done),
          ),
      λ law. each.1 (λ g g_in. let is = (there-performed setting.circuit g).0 g_in in (
        give _ (λ done. inl ((law g is).0 done)),
        (give _ (λ done. second_way (performed_iff setting facts g t is).1 ((law g is).1 done)), tt),
      )),
    )

pub done_in_order_iff : (setting : SettingValue) (facts : Facts) (r t : ℕ)
    → AllHold facts (done_in_order setting r t) ↔ DoneInOrder setting facts r t
done_in_order_iff setting facts r t =
    let each = each_order setting.circuit facts
    (λ order. not_so (done_item order.row t) ∷ so (done_item order.col r) ∷ []) in (
      λ all g h g_is h_is forced done. last_one (given (each.0 all g h g_is h_is forced) done),
      λ law. each.1 (λ g h g_is h_is forced. give _ (λ done. inl (law g h g_is h_is forced done))),
    )

pub goal_needs_all_iff : (setting : SettingValue) (facts : Facts) (t : ℕ)
    → AllHold facts (goal_needs_all setting t) ↔ GoalNeedsAll setting facts t
goal_needs_all_iff setting facts t =
    let each = each_operation setting facts (λ g. not_so (goal_item t) ∷ so (done_item g t) ∷ []) in (
      λ all g is goal. last_one (given (each.0 all g is) goal),
      λ law. each.1 (λ g is. give _ (λ goal. inl (law g is goal))),
    )
