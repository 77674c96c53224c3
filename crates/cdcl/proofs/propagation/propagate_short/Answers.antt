use Rattle.std.proofs.Common.{◌≤◌, ◌⊎◌, List, None, Some, sym, ap, ◌∙◌, subst}
use Rattle.std.proofs.lemmas.Option.{slice_get-get_or}
use Rattle.sat_base.specs.Literal.{Literal}
use Rattle.sat_base.specs.Clauses.{EachVariable}
use Rattle.sat_base.specs.Fresh.{HasTrue, HasTwoOpen}
use Rattle.derivation_log.specs.declared.line_id.LineId.{LineId}
use Rattle.derivation_log.specs.Log.{clause_of}
use Rattle.solver_trail.specs.Trail.{literals_of, IsFalse, assigned}
use Rattle.solver_trail.specs.Status.{IsUnit}
use Rattle.cdcl.proofs.Lines.{named_line}
use Rattle.cdcl.proofs.Propagating.{Propagates-one, Propagates-trans, unit_unassigned, named_after}
use Rattle.cdcl.proofs.Guards.{short_true, short_grown, unit_true}
use Rattle.cdcl.proofs.Adding.{short_more, same_line}
use Rattle.cdcl.proofs.propagation.propagate_short.Goals.{in-Some+in-Closed, in-Some+in-Unit, in_default}
use Rattle.cdcl.proofs.propagation.propagate_short.Goals as goal

pub clause-requires : goal.clause-requires
clause-requires c =
    let at = slice_get-get_or c.args.short.now c.loop-slot.slot-index None c.loop-slot-test.true ∙ ap Some c.in-Some.is in
    (c.requires.short c.in-Some.line (c.loop-slot.slot-index, at)).is_line

pub status_of-requires : goal.status_of-requires
status_of-requires c =
    let now = c.loop-slot.values in
    let named = named_after c.args.log.now c.args.values.now now c.loop-slot.invariant.propagates c.requires.named in
    subst (EachVariable (λ var. var ≤ now.vars)) (sym c.clause.ensures) (named_line (λ var. var ≤ now.vars) c.args.log.now c.in-Some.line named)

pub assign-requires-clause-within : goal.assign-requires-clause-within
assign-requires-clause-within c =
    let now = c.loop-slot.values in
    let named = named_after c.args.log.now c.args.values.now now c.loop-slot.invariant.propagates c.requires.named in
    (unit_unassigned c.args.log.now now c.in-Some.line c.in-Unit.literal named (subst (λ (clause : List Literal). IsUnit (literals_of now.entries) clause c.in-Unit.literal) c.clause.ensures c.in-Unit.ensures)).0

pub assign-requires-clause-unassigned : goal.assign-requires-clause-unassigned
assign-requires-clause-unassigned c =
    let now = c.loop-slot.values in
    let named = named_after c.args.log.now c.args.values.now now c.loop-slot.invariant.propagates c.requires.named in
    (unit_unassigned c.args.log.now now c.in-Some.line c.in-Unit.literal named (subst (λ (clause : List Literal). IsUnit (literals_of now.entries) clause c.in-Unit.literal) c.clause.ensures c.in-Unit.ensures)).1

pub returns-in-Falsified-clause-falsified : goal.returns-in-Falsified-clause-falsified
returns-in-Falsified-clause-falsified c =
    let at = slice_get-get_or c.args.short.now c.loop-slot.slot-index None c.loop-slot-test.true ∙ ap Some c.in-Some.is in
    record {
      is_line = (c.requires.short c.in-Some.line (c.loop-slot.slot-index, at)).is_line;
      falsified = subst (IsFalse (literals_of c.loop-slot.values.entries)) c.clause.ensures c.in-Falsified.ensures;
    }

pub loop-slot-preserved : goal.loop-slot-preserved
loop-slot-preserved c =
    let log = c.args.log.now in
    let old = c.args.values.now in
    let now = c.loop-slot.values in
    let short = c.args.short.now in
    let i = c.loop-slot.slot-index in
    let within = c.loop-slot-test.true in
    let so_far = c.loop-slot.invariant in
    elim c.match-slot.branch [
      | in-Some+in-Closed w ↦
          let line = w.in-Some.line in
          let at = slice_get-get_or short i None within ∙ ap Some w.in-Some.is in
          let is_short = c.requires.short line (i, at) in
          let holds = short_true log (literals_of now.entries) line is_short (subst (λ (clause : List Literal). HasTrue (literals_of now.entries) clause ⊎ HasTwoOpen (literals_of now.entries) clause) w.clause.ensures w.in-Closed.ensures) in
          rw w.values-is (record {
            propagates = so_far.propagates;
            so_far = short_more log (literals_of now.entries) short i (Some line) within w.in-Some.is so_far.so_far (λ other e. subst (λ (l : LineId). HasTrue (literals_of now.entries) (clause_of log l)) (same_line line other e) holds);
          })
      | in-Some+in-Unit w ↦
          let line = w.in-Some.line in
          let literal = w.in-Unit.literal in
          let at = slice_get-get_or short i None within ∙ ap Some w.in-Some.is in
          let is_short = c.requires.short line (i, at) in
          let unit = subst (λ (clause : List Literal). IsUnit (literals_of now.entries) clause literal) w.clause.ensures w.in-Unit.ensures in
          let one = Propagates-one log now literal line is_short.is_line unit in
          let next = assigned now literal (Some line) in
          let holds = unit_true log now literal line unit in
          rw (w.values-is, w.assign.ensures) (record {
            propagates = Propagates-trans log old now next so_far.propagates one;
            so_far = short_more log (literals_of next.entries) short i (Some line) within w.in-Some.is (short_grown log now next short i one so_far.so_far) (λ other e. subst (λ (l : LineId). HasTrue (literals_of next.entries) (clause_of log l)) (same_line line other e) holds);
          })
      | in_default w ↦
          rw w.values-is (record {
            propagates = so_far.propagates;
            so_far = short_more log (literals_of now.entries) short i None within w.in_default.is so_far.so_far (λ other e. absurd cc);
          })
    ]
