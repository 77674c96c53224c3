use Rattle.std.proofs.Common.{subst, sym, Err, Some}
use Rattle.request_words.specs.Request.{compile, file_of}
use Rattle.request_words.specs.Seen.{search_of}
use Rattle.program_run.specs.declared.command.Refusal.{Refusal}
use Rattle.run_stages.specs.declared.ending.Ending.{Ending}
use Rattle.run_stages.specs.Loading.{CountsAll, two_names}
use Rattle.program_run.proofs.Prepared.{plan_ok, plan_late, plan_early, PlanPrepared}
use Rattle.run_stages.proofs.Reading.{counts_with}
use Rattle.run_stages.proofs.Named.{two_of_plan}
use Rattle.program_run.proofs.command.fewest.Goals as goal

pub returns-in-Ok-sought-clause-prepared : goal.returns-in-Ok-sought-clause-prepared
returns-in-Ok-sought-clause-prepared g c =
    plan_ok (g.S.Shelf.facts c.args.shelf.now) (g.S.Shelf.facts c.load_inputs.new.shelf) c.args.circuit.now c.args.trap.now c.args.rule (Some (search_of c.args.exact.now)) c.in-Ok.inputs c.in-Ok-sought.ending c.in-Ok.ensures.loads c.in-Ok-sought.ensures.done

pub returns-in-Err-sought-clause-prepared : goal.returns-in-Err-sought-clause-prepared
returns-in-Err-sought-clause-prepared g c =
    subst (λ (r : Refusal). PlanPrepared (g.S.Shelf.facts c.args.shelf.now) (g.S.Shelf.facts c.load_inputs.new.shelf) c.args.circuit.now c.args.trap.now c.args.rule (Some (search_of c.args.exact.now)) (Err r)) (sym c.late.ensures)
    (plan_late (g.S.Shelf.facts c.args.shelf.now) (g.S.Shelf.facts c.load_inputs.new.shelf) c.args.circuit.now c.args.trap.now c.args.rule (Some (search_of c.args.exact.now)) c.in-Ok.inputs c.in-Err-sought.answer c.in-Ok.ensures.loads c.in-Err-sought.ensures.done)

pub returns-in-Err-clause-prepared : goal.returns-in-Err-clause-prepared
returns-in-Err-clause-prepared g c =
    subst (λ (r : Refusal). PlanPrepared (g.S.Shelf.facts c.args.shelf.now) (g.S.Shelf.facts c.load_inputs.new.shelf) c.args.circuit.now c.args.trap.now c.args.rule (Some (search_of c.args.exact.now)) (Err r)) (sym c.early.ensures)
    (plan_early (g.S.Shelf.facts c.args.shelf.now) (g.S.Shelf.facts c.load_inputs.new.shelf) c.args.circuit.now c.args.trap.now c.args.rule (Some (search_of c.args.exact.now)) c.in-Err.answer c.in-Err.ensures.loads c.in-Err.ensures.refusal.plain)

pub returns-in-Err-clause-counts : goal.returns-in-Err-clause-counts
returns-in-Err-clause-counts g c =
    subst (λ (r : Refusal). CountsAll {X = Ending} (file_of (compile c.args.circuit.now c.args.trap.now c.args.rule (Some (search_of c.args.exact.now)))) (g.S.Shelf.facts c.args.shelf.now) (g.S.Shelf.facts c.load_inputs.new.shelf) (Err r.answer)) (sym c.early.ensures)
    (counts_with (two_names c.args.circuit.now c.args.trap.now) (file_of (compile c.args.circuit.now c.args.trap.now c.args.rule (Some (search_of c.args.exact.now)))) (g.S.Shelf.facts c.args.shelf.now) (g.S.Shelf.facts c.load_inputs.new.shelf) c.in-Err.answer
    (two_of_plan c.args.circuit.now c.args.trap.now c.args.rule (Some (search_of c.args.exact.now))) c.in-Err.ensures.counts)
