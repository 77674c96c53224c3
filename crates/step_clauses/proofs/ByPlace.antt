-- The clauses of ions and places, and of operations, have items of the encoding.
use Rattle.std.proofs.Common.{◌≡◌, ◌≢◌, ℕ, ◌<◌, ◌≤◌, List, map, ap, sym}
use Rattle.std.specs.Prelude.{IsSome, filter}
use Rattle.std.specs.List.{AllByRecursion, flat_map}
use Rattle.step_rules.specs.Setting.{SettingValue}
use Rattle.step_vars.specs.declared.cells.Cell.{Cell}
use Rattle.step_vars.specs.Items.{at_item, leave_item, act_item, done_item, goal_item, so, not_so}
use Rattle.step_vars.specs.Numbering.{rank}
use Rattle.step_vars.specs.Lists.{able_zones, is_ion_of}
use Rattle.step_vars.specs.Encoding.{VarsValue}
use Rattle.step_vars.specs.Families.{act_does}
use Rattle.clause_families.specs.declared.by_place.PlaceChannels.{PlaceChannels}
use Rattle.clause_families.specs.Clauses.{was_or_passes}
use Rattle.step_clauses.specs.Operations.{ion_in_zone, op_in_zones, was_or_acts, stays_done, in_order, goal_needs}
use Rattle.clause_families.specs.Encoded.{Differ, IsEncoded, IsEncodedClause, AreEncodedClauses}
use Rattle.step_clauses.specs.Emission.{IsStep}
use Rattle.step_clauses.specs.Loops.{IsOp, IsAct, HasZones, HasChannels}
use Rattle.clause_families.proofs.Every.{all_map, all_flat_map, all_filter_kept, differ_map}
use Rattle.clause_families.proofs.Numbered.{second_number, has_at, has_leave, has_act, has_done, has_goal, two_claims}
use Rattle.step_clauses.proofs.ByChannel.{from_0, before_last, steps_apart, map_items}

-- ---- places

pub was_clause : (v : VarsValue) (from to t i : ℕ) (e : PlaceChannels) → from ≤ v.steps → to ≤ v.steps → from ≢ to → 0 < t → t ≤ v.steps → i < v.numbering.ions → HasChannels v.numbering e
    → IsEncodedClause v (was_or_passes from to t i e)
was_clause v from to t i e hf ht apart h0 hs hi has =
    let same = map_items (λ c. leave_item i c t) e.channels in
    record {
      items = (
        has_at v i e.place from hi has.place hf,
        (
          has_at v i e.place to hi has.place ht,
          rw same (all_map (λ c. c < v.numbering.channels) (IsEncoded v) (λ c. leave_item i c t) e.channels (λ c below. has_leave v i c t hi below h0 hs) has.channels),
        ),
      );
      differ = (
        (
          (λ same_time. let times : to ≡ from = cc in apart (sym times)),
          rw same (all_map (λ c. c < v.numbering.channels) (λ item. item ≢ at_item i e.place from) (λ c. leave_item i c t) e.channels (λ c below eq. absurd (cc)) has.channels),
        ),
        (
          rw same (all_map (λ c. c < v.numbering.channels) (λ item. item ≢ at_item i e.place to) (λ c. leave_item i c t) e.channels (λ c below eq. absurd (cc)) has.channels),
          rw same (differ_map (λ c. leave_item i c t) e.channels (λ x y eq. ap second_number eq) has.differ),
        ),
      );
    }

pub was_clauses : (v : VarsValue) (from to t : ℕ) (ions : List ℕ) (places : List PlaceChannels) → from ≤ v.steps → to ≤ v.steps → from ≢ to → 0 < t → t ≤ v.steps
    → AllByRecursion (λ i. i < v.numbering.ions) ions → AllByRecursion (HasChannels v.numbering) places
    → AreEncodedClauses v (flat_map (λ i. map (was_or_passes from to t i) places) ions)
was_clauses v from to t ions places hf ht apart h0 hs hi hp =
    all_flat_map (λ i. i < v.numbering.ions) (IsEncodedClause v) (λ i. map (was_or_passes from to t i) places) ions
    (λ i below. all_map (HasChannels v.numbering) (IsEncodedClause v) (was_or_passes from to t i) places (λ e has. was_clause v from to t i e hf ht apart h0 hs below has) hp) hi

-- ---- operations

pub in_zones_clauses : (v : VarsValue) (s : SettingValue) (r t : ℕ) (ions ops : List ℕ) → IsStep v r t → AllByRecursion (λ i. i < v.numbering.ions) ions → AllByRecursion (HasZones v.numbering s) ops
    → AreEncodedClauses v (flat_map (op_in_zones s r t ions) ops)
in_zones_clauses v s r t ions ops step hi ho =
    all_flat_map (HasZones v.numbering s) (IsEncodedClause v) (op_in_zones s r t ions) ops
    (λ g has. all_flat_map (IsAct v.numbering g) (IsEncodedClause v) (λ z. map (ion_in_zone r t g z) (filter (is_ion_of s g) ions)) (able_zones s g)
    (λ z act. all_map (λ i. i < v.numbering.ions) (IsEncodedClause v) (ion_in_zone r t g z) (filter (is_ion_of s g) ions)
    (λ i below. two_claims v (not_so (act_item g z t)) (so (at_item i z r)) (has_act v g z t act.act (from_0 v r t step) step.last) (has_at v i z r below act.zone (before_last v r t step)) (λ e. absurd (cc)))
    (all_filter_kept (λ i. i < v.numbering.ions) (is_ion_of s g) ions hi)) has.zones) ho

pub acts_clauses : (v : VarsValue) (r t : ℕ) (acts : List Cell) → IsStep v r t → AllByRecursion (λ (act : Cell). IsSome (rank v.numbering.acts act.row act.col) × IsOp v.numbering act.row) acts
    → AreEncodedClauses v (flat_map (act_does r t) acts)
acts_clauses v r t acts step all =
    all_flat_map (λ (act : Cell). IsSome (rank v.numbering.acts act.row act.col) × IsOp v.numbering act.row) (IsEncodedClause v) (act_does r t) acts
    (λ act has.
    let performed = has_act v act.row act.col t has.0 (from_0 v r t step) step.last in (
      two_claims v (not_so (act_item act.row act.col t)) (not_so (done_item act.row r)) performed (has_done v act.row r has.1 (before_last v r t step)) (λ e. absurd (cc)),
      (two_claims v (not_so (act_item act.row act.col t)) (so (done_item act.row t)) performed (has_done v act.row t has.1 step.last) (λ e. absurd (cc)), tt),
    )) all

done_apart : (v : VarsValue) (r t g h : ℕ) → IsStep v r t → done_item g t ≢ done_item h r
done_apart v r t g h step e = let times : t ≡ r = cc in steps_apart v r t step (sym times)

done_apart' : (v : VarsValue) (r t g h : ℕ) → IsStep v r t → done_item h r ≢ done_item g t
done_apart' v r t g h step e = done_apart v r t g h step (sym e)

was_act : (v : VarsValue) (r t g : ℕ) (zones : List ℕ) → IsStep v r t → IsOp v.numbering g → AllByRecursion (IsAct v.numbering g) zones → Differ zones
    → IsEncodedClause v (was_or_acts r t zones g)
was_act v r t g zones step op hz d =
    let same = map_items (λ z. act_item g z t) zones in
    record {
      items = (
        has_done v g t op step.last,
        (
          has_done v g r op (before_last v r t step),
          rw same (all_map (IsAct v.numbering g) (IsEncoded v) (λ z. act_item g z t) zones (λ z act. has_act v g z t act.act (from_0 v r t step) step.last) hz),
        ),
      );
      differ = (
        (
          done_apart' v r t g g step,
          rw same (all_map (IsAct v.numbering g) (λ item. item ≢ done_item g t) (λ z. act_item g z t) zones (λ z act e. absurd (cc)) hz),
        ),
        (
          rw same (all_map (IsAct v.numbering g) (λ item. item ≢ done_item g r) (λ z. act_item g z t) zones (λ z act e. absurd (cc)) hz),
          rw same (differ_map (λ z. act_item g z t) zones (λ x y e. ap second_number e) d),
        ),
      );
    }

pub done_clauses : (v : VarsValue) (s : SettingValue) (r t : ℕ) (ops : List ℕ) → IsStep v r t → AllByRecursion (HasZones v.numbering s) ops
    → AreEncodedClauses v (flat_map (stays_done s r t) ops)
done_clauses v s r t ops step all =
    all_flat_map (HasZones v.numbering s) (IsEncodedClause v) (stays_done s r t) ops
    (λ g has. (
      two_claims v (not_so (done_item g r)) (so (done_item g t)) (has_done v g r has.op (before_last v r t step)) (has_done v g t has.op step.last) (done_apart v r t g g step),
      (was_act v r t g (able_zones s g) step has.op has.zones has.differ, tt),
    )) all

pub order_clauses : (v : VarsValue) (r t : ℕ) (orders : List Cell) → IsStep v r t → AllByRecursion (λ (order : Cell). IsOp v.numbering order.row × IsOp v.numbering order.col) orders
    → AreEncodedClauses v (map (in_order r t) orders)
order_clauses v r t orders step all =
    all_map (λ (order : Cell). IsOp v.numbering order.row × IsOp v.numbering order.col) (IsEncodedClause v) (in_order r t) orders
    (λ order has. two_claims v (not_so (done_item order.row t)) (so (done_item order.col r)) (has_done v order.row t has.0 step.last) (has_done v order.col r has.1 (before_last v r t step)) (done_apart' v r t order.row order.col step)) all

pub goal_clauses : (v : VarsValue) (t : ℕ) (ops : List ℕ) → t ≤ v.steps → AllByRecursion (IsOp v.numbering) ops → AreEncodedClauses v (map (goal_needs t) ops)
goal_clauses v t ops ht all =
    all_map (IsOp v.numbering) (IsEncodedClause v) (goal_needs t) ops
    (λ g op. two_claims v (not_so (goal_item t)) (so (done_item g t)) (has_goal v t ht) (has_done v g t op ht) (λ e. absurd (cc))) all
