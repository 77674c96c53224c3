use Rattle.std.proofs.Common.{subst, sym, Err, None}
use Rattle.request_words.specs.Request.{compile, file_of}
use Rattle.program_run.specs.declared.command.Refusal.{Refusal}
use Rattle.run_stages.specs.declared.ending.Ending.{Ending}
use Rattle.run_stages.specs.Loading.{CountsAll, two_names}
use Rattle.program_run.proofs.Prepared.{plan_ok, plan_late, plan_early, PlanPrepared}
use Rattle.run_stages.proofs.Reading.{counts_with}
use Rattle.run_stages.proofs.Named.{two_of_plan}
use Rattle.program_run.proofs.command.compiled.Goals as goal

pub returns-in-Ok-planned-clause-prepared : goal.returns-in-Ok-planned-clause-prepared
returns-in-Ok-planned-clause-prepared g c =
    plan_ok (g.S.Shelf.facts c.args.shelf.now) (g.S.Shelf.facts c.load_inputs.new.shelf) c.args.circuit.now c.args.trap.now c.args.rule None c.in-Ok.inputs c.in-Ok-planned.ending c.in-Ok.ensures.loads c.in-Ok-planned.ensures.done

pub returns-in-Err-planned-clause-prepared : goal.returns-in-Err-planned-clause-prepared
returns-in-Err-planned-clause-prepared g c =
    subst (λ (r : Refusal). PlanPrepared (g.S.Shelf.facts c.args.shelf.now) (g.S.Shelf.facts c.load_inputs.new.shelf) c.args.circuit.now c.args.trap.now c.args.rule None (Err r)) (sym c.late.ensures)
    (plan_late (g.S.Shelf.facts c.args.shelf.now) (g.S.Shelf.facts c.load_inputs.new.shelf) c.args.circuit.now c.args.trap.now c.args.rule None c.in-Ok.inputs c.in-Err-planned.answer c.in-Ok.ensures.loads c.in-Err-planned.ensures.done)

pub returns-in-Err-clause-prepared : goal.returns-in-Err-clause-prepared
returns-in-Err-clause-prepared g c =
    subst (λ (r : Refusal). PlanPrepared (g.S.Shelf.facts c.args.shelf.now) (g.S.Shelf.facts c.load_inputs.new.shelf) c.args.circuit.now c.args.trap.now c.args.rule None (Err r)) (sym c.early.ensures)
    (plan_early (g.S.Shelf.facts c.args.shelf.now) (g.S.Shelf.facts c.load_inputs.new.shelf) c.args.circuit.now c.args.trap.now c.args.rule None c.in-Err.answer c.in-Err.ensures.loads c.in-Err.ensures.refusal.plain)

pub returns-in-Err-clause-counts : goal.returns-in-Err-clause-counts
returns-in-Err-clause-counts g c =
    subst (λ (r : Refusal). CountsAll {X = Ending} (file_of (compile c.args.circuit.now c.args.trap.now c.args.rule None)) (g.S.Shelf.facts c.args.shelf.now) (g.S.Shelf.facts c.load_inputs.new.shelf) (Err r.answer)) (sym c.early.ensures)
    (counts_with (two_names c.args.circuit.now c.args.trap.now) (file_of (compile c.args.circuit.now c.args.trap.now c.args.rule None)) (g.S.Shelf.facts c.args.shelf.now) (g.S.Shelf.facts c.load_inputs.new.shelf) c.in-Err.answer
    (two_of_plan c.args.circuit.now c.args.trap.now c.args.rule None) c.in-Err.ensures.counts)
