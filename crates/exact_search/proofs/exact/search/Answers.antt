use Rattle.std.proofs.Common.{sym, subst}
use Rattle.step_rules.specs.Setting.{setting_of}
use Rattle.step_vars.specs.declared.encoding.Encoding.TheVariants.{Counter}
use Rattle.step_vars.specs.Encoding.{IsSmall}
use Rattle.step_vars.proofs.OfSetting.{steps_are}
use Rattle.exact_search.proofs.Tasks.{with_own_steps}
use Rattle.exact_search.proofs.exact.search.Goals as goal

pub invariant_of-task : goal.invariant_of-task
invariant_of-task c =
    let setting = setting_of c.args.trap.now c.args.circuit.now c.args.placement.now in
    let made = c.in_ok-vars.ensures in
    record {
      sound = record { trap = c.requires.trap; circuit = c.requires.circuit; placement = c.requires.placement };
      small = subst (IsSmall setting) (sym (steps_are setting Counter c.args.max c.in_ok-vars.vars made)) c.requires.small;
      vars = with_own_steps setting c.args.max c.in_ok-vars.vars made;
    }

pub find_least-requires : goal.find_least-requires
find_least-requires c =
    let setting = setting_of c.args.trap.now c.args.circuit.now c.args.placement.now in
    steps_are setting Counter c.args.max c.in_ok-vars.vars c.in_ok-vars.ensures
