use Rattle.std.proofs.Common.{◌≡◌, [], sym, ◌∙◌}
use Rattle.std.proofs.lemmas.List.{nil_from_length}
use Rattle.std.proofs.lemmas.Bool.{eqb-true}
use Rattle.lrat_out.specs.Faults.{Task, task_of}
use Rattle.lrat_out.proofs.Accepting.{one_more, proved, no_model}
use Rattle.lrat_out.proofs.checking.accept.Goals as goal

pub loop-rest-preserved : goal.loop-rest-preserved
loop-rest-preserved c =
    one_more (task_of c.args.formula.now c.args.vars) c.args.text.now c.loop-rest.rest.now c.in_ok-after.after.now c.loop-rest.proof c.take_line.new.proof c.loop-rest.count c.loop-rest.closed c.in_ok-after.empty c.either-closed.result c.loop-rest.invariant c.in_ok-after.ensures.ok c.either-closed.ensures

pub returns-then-closed-clause-no_model : goal.returns-then-closed-clause-no_model
returns-then-closed-clause-no_model c =
    let task : Task = task_of c.args.formula.now c.args.vars in
    let none : c.loop-rest.rest.now ≡ [] = nil_from_length c.loop-rest.rest.now (eqb-true _ _ (sym c.is_empty.ensures ∙ c.loop-rest-test.false)) in
    no_model task c.args.text.now c.loop-rest.count (proved task c.args.text.now c.loop-rest.rest.now c.loop-rest.proof c.loop-rest.count c.loop-rest.closed c.loop-rest.invariant none c.if-closed.true)
