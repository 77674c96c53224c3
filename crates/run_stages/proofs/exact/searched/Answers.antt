use Rattle.std.proofs.Common.{arith}
use Rattle.step_rules.specs.Setting.{setting_of}
use Rattle.request_words.specs.Seen.{search_of}
use Rattle.run_stages.proofs.Searches.{few_steps, within_limits, limits_err}
use Rattle.run_stages.proofs.exact.searched.Goals as goal

pub overflow_cast-exact : goal.overflow_cast-exact
overflow_cast-exact c =
    let setting = setting_of c.args.inputs.now.trap c.args.inputs.now.circuit c.args.placement.now in
    omega (arith, few_steps setting c.args.exact.now.max c.in-Ok.ensures.0)

pub ending_of-requires-clause-few : goal.ending_of-requires-clause-few
ending_of-requires-clause-few c =
    few_steps (setting_of c.args.inputs.now.trap c.args.inputs.now.circuit c.args.placement.now) c.args.exact.now.max c.in-Ok.ensures.0

pub returns-in-Ok-ending_of-clause-done : goal.returns-in-Ok-ending_of-clause-done
returns-in-Ok-ending_of-clause-done c =
    within_limits (setting_of c.args.inputs.now.trap c.args.inputs.now.circuit c.args.placement.now) (search_of c.args.exact.now) c.in-Ok-ending_of.ending c.in-Ok.ensures.0 c.in-Ok-ending_of.ensures

pub returns-in-Err-clause-done : goal.returns-in-Err-clause-done
returns-in-Err-clause-done c =
    limits_err (setting_of c.args.inputs.now.trap c.args.inputs.now.circuit c.args.placement.now) (search_of c.args.exact.now) c.args.exact.now.budget c.in-Err.fault c.search_refusal.result
    c.in-Err.ensures c.search_refusal.ensures.answer
