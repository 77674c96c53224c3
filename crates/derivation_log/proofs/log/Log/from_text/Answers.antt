use Rattle.std.proofs.Common.{ℕ, sym, subst}
use Rattle.std.proofs.lemmas.Result.{err_from_is_err_and}
use Rattle.derivation_log.specs.Reading.{Task, task_of}
use Rattle.derivation_log.proofs.FromText.{SoFar, clauses_in_log, faulty, one_more, some_left}
use Rattle.derivation_log.proofs.log.Log.from_text.Goals as goal

pub take_line-requires-clause-clauses : goal.take_line-requires-clause-clauses
take_line-requires-clause-clauses c =
    clauses_in_log (task_of c.args.formula.now c.args.vars c.args.first) c.args.lines.now c.loop-rest.rest.now c.loop-rest.log c.loop-rest.reader.clauses c.loop-rest.place c.loop-rest.invariant

pub returns-in_err-rest : goal.returns-in_err-rest
returns-in_err-rest c =
    let task : Task = task_of c.args.formula.now c.args.vars c.args.first in
    let some = some_left c.loop-rest.rest.now c.is_empty.result c.is_empty.ensures c.loop-rest-test.true in
    let p = err_from_is_err_and c.from_residual-in_err-rest.result c.from_residual-in_err-rest.ensures.1 in
    rw (p.1, p.2) (faulty task c.args.lines.now c.loop-rest.rest.now c.loop-rest.log c.loop-rest.reader.clauses c.loop-rest.place _ c.loop-rest.invariant some c.in_err-rest.ensures.err)

pub loop-rest-preserved : goal.loop-rest-preserved
loop-rest-preserved c =
    let task : Task = task_of c.args.formula.now c.args.vars c.args.first in
    subst (λ (place : ℕ). SoFar task c.args.lines.now c.in_ok-rest.rest.now c.take_line.new.log c.take_line.new.reader.clauses place) (sym c.in-Some.ensures.1)
    (one_more task c.args.lines.now c.loop-rest.rest.now c.in_ok-rest.rest.now c.loop-rest.log c.take_line.new.log c.loop-rest.reader.clauses c.take_line.new.reader.clauses c.loop-rest.place c.loop-rest.invariant c.in_ok-rest.ensures.ok c.in_ok-rest.ensures.clauses)
