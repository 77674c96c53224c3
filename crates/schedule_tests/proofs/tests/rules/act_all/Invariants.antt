use Rattle.step_rules.specs.Config.{IsConfigOf}
use Rattle.schedule_tests.proofs.tests.rules.act_all.Given as goal

abbrev pub invariant-loop-action : goal.invariant-loop-action
invariant-loop-action g l = IsConfigOf l.trap l.config
