use Rattle.std.proofs.Common.{List, length, ap}
use Rattle.step_rules.specs.declared.action.Action.{Action}
use Rattle.run_stages.proofs.Searches.{covers_fewer, shortest_ends}
use Rattle.run_stages.proofs.exact.shortest.Goals as goal

pub new-requires : goal.new-requires
new-requires c = covers_fewer c.args.setting.now (length c.args.schedule.now) c.args.log c.args.axioms c.args.lines c.requires.fewer

pub returns : goal.returns
returns c =
    shortest_ends c.args.setting.now c.args.schedule.now c.args.log c.args.axioms c.args.lines (length c.steps.result.now) c.asked.result c.head.result c.in_ok-certificate.certificate c.lines.result c.in_ok-text.text
    (ap (λ (steps : List (List Action)). length steps) c.steps.ensures) c.asked.ensures c.head.ensures c.in_ok-certificate.ensures c.lines.ensures c.in_ok-text.ensures
