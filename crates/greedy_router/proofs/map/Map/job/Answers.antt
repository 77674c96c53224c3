use Rattle.std.proofs.Common.{Some, ap, ◌∙◌}
use Rattle.std.specs.Prelude.{Option}
use Rattle.greedy_router.specs.declared.job.Job.{Job}
use Rattle.greedy_router.specs.Routing.{MapValue}
use Rattle.greedy_router.proofs.Rounds.{job_at, job_some}
use Rattle.greedy_router.proofs.map.Map.job.Goals as goal

pub unwrap-requires : goal.unwrap-requires
unwrap-requires c =
    job_some c.args.self.now c.args.op.0 c.index.result.now c.requires.map c.requires.performed
    (job_at c.args.self.now c.self.inside.jobs.items c.args.op.0 c.index.result.now c.requires.map (ap (λ (m : MapValue). m.jobs) c.self.view_is) c.requires.performed c.index.ensures)

pub returns : goal.returns
returns c =
    job_at c.args.self.now c.self.inside.jobs.items c.args.op.0 c.index.result.now c.requires.map (ap (λ (m : MapValue). m.jobs) c.self.view_is) c.requires.performed c.index.ensures
    ∙ ap (λ (job : Option Job). Some job) c.unwrap.ensures
