use Rattle.std.proofs.Common.{◌≡◌, ◌+◌, ◌≤◌, Bool, List, [], ◌∷◌, ◌++◌, Some, take, sym, subst}
use Rattle.sat_base.specs.Literal.{Literal}
use Rattle.sat_base.proofs.Clauses.{EachVariable-has}
use Rattle.sat_base.proofs.Sets.{Has-get_or, Has-take, more_literals}
use Rattle.sat_base.proofs.LitSets.{different_literals, equal_literals}
use Rattle.solver_trail.specs.Trail.{literals_of}
use Rattle.solver_trail.specs.Status.{HasTruth}
use Rattle.solver_trail.proofs.Statuses.{IsSoFar, so_far_false, so_far_open, so_far_again, so_far_none, closed_by_two, closed_by_true}
use Rattle.solver_trail.proofs.status.status_of.Goals.{in-Some-false, in-None, in-Some+else-ne, in_default}
use Rattle.solver_trail.proofs.status.status_of.Goals as goal

pub truth-requires : goal.truth-requires
truth-requires c =
    let clause = c.args.clause.now in
    EachVariable-has (λ var. var ≤ c.args.values.now.vars) clause c.literal-item.result c.requires (Has-get_or clause c.loop-literal.literal-index c.literal-item.result c.loop-literal-test.true c.literal-item.is)

pub returns-in-Some-true : goal.returns-in-Some-true
returns-in-Some-true c =
    let clause = c.args.clause.now in
    let set = literals_of c.args.values.now.entries in
    let literal = c.literal-item.result in
    let truth : HasTruth set literal (Some c.in-Some-true.field-0) = c.in-Some-true.ensures in
    closed_by_true set clause literal (Has-get_or clause c.loop-literal.literal-index literal c.loop-literal-test.true c.literal-item.is)
    (subst (λ (b : Bool). HasTruth set literal (Some b)) c.in-Some-true.field-0-test truth)

pub returns-then-ne : goal.returns-then-ne
returns-then-ne c =
    let clause = c.args.clause.now in
    let set = literals_of c.args.values.now.entries in
    let literal = c.literal-item.result in
    let so_far : IsSoFar set (take c.loop-literal.literal-index clause) (Some c.in-Some.first) = subst (IsSoFar set (take c.loop-literal.literal-index clause)) c.in-Some.is c.loop-literal.invariant in
    let ne = different_literals c.in-Some.first literal c.ne.result c.ne.ensures c.if-ne.true in
    closed_by_two set (take c.loop-literal.literal-index clause) clause literal c.in-Some.first (Has-take clause c.loop-literal.literal-index) so_far
    (Has-get_or clause c.loop-literal.literal-index literal c.loop-literal-test.true c.literal-item.is) c.in-None.ensures ne

pub loop-literal-preserved : goal.loop-literal-preserved
loop-literal-preserved c =
    let clause = c.args.clause.now in
    let set = literals_of c.args.values.now.entries in
    let literal = c.literal-item.result in
    let i = c.loop-literal.literal-index in
    let more : take (i + 1) clause ≡ take i clause ++ literal ∷ [] = more_literals clause i literal c.loop-literal-test.true c.literal-item.is in
    subst (λ (xs : List Literal). IsSoFar set xs c.match-truth.unassigned) (sym more)
    (elim c.match-truth.branch [
      | in-Some-false w ↦
          let truth : HasTruth set literal (Some w.in-Some-false.field-0) = w.in-Some-false.ensures in
          let denied = subst (λ (b : Bool). HasTruth set literal (Some b)) w.in-Some-false.field-0-test truth in
          subst (IsSoFar set (take i clause ++ literal ∷ [])) (sym w.unassigned-is) (so_far_false set (take i clause) literal c.loop-literal.unassigned c.loop-literal.invariant denied)
      | in-None w ↦
          subst (IsSoFar set (take i clause ++ literal ∷ [])) (sym w.unassigned-is)
          (elim w.match-unassigned.branch [
            | in-Some+else-ne v ↦
                let so_far : IsSoFar set (take i clause) (Some v.in-Some.first) = subst (IsSoFar set (take i clause)) v.in-Some.is c.loop-literal.invariant in
                so_far_again set (take i clause) literal v.in-Some.first so_far (equal_literals v.in-Some.first literal v.ne.result v.ne.ensures v.if-ne.false)
            | in_default v ↦ so_far_open set (take i clause) literal (so_far_none set (take i clause) c.loop-literal.unassigned v.in_default.not-Some c.loop-literal.invariant) w.in-None.ensures
          ])
    ])
