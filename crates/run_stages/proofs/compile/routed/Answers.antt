use Rattle.step_rules.specs.Setting.{setting_of}
use Rattle.run_stages.proofs.Plans.{routed_ok}
use Rattle.run_stages.proofs.compile.routed.Goals as goal

pub returns-in-Ok-compiled_text-clause-done : goal.returns-in-Ok-compiled_text-clause-done
returns-in-Ok-compiled_text-clause-done c =
    routed_ok (setting_of c.args.inputs.now.trap c.args.inputs.now.circuit c.args.placement.now) c.in-Ok-compiled_text.text c.written.result c.in-Ok.ensures c.in-Ok-compiled_text.ensures c.written.ensures
