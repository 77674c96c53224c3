use Rattle.std.proofs.Common.{◌≡◌, ℕ, List, get_or, Some, subst}
use Rattle.std.specs.Prelude.{slice_get}
use Rattle.std.proofs.lemmas.Option.{slice_get-get_or}
use Rattle.std.proofs.lemmas.List.{take_all}
use Rattle.qc_base.specs.declared.ids.End.TheVariants.{A}
use Rattle.qc_base.specs.declared.ids.Ion.{Ion}
use Rattle.step_rules.specs.declared.action.Action.{Action}
use Rattle.step_rules.specs.declared.action.Action.TheVariants as kinds
use Rattle.step_rules.specs.Config.{IsConfigOf}
use Rattle.step_rules.specs.Setting.{SettingValue}
use Rattle.step_rules.specs.Placement.{start_of}
use Rattle.step_rules.specs.Guards.{Passes}
use Rattle.step_rules.specs.Steps.{after}
use Rattle.step_rules.specs.Play.{AreLegal, one_at_a_time}
use Rattle.schedule_tests.proofs.Testing.{legal_next, lists_next}
use Rattle.schedule_tests.proofs.tests.tight.passes.Goals as goal

pub loop-action-preserved : goal.loop-action-preserved
loop-action-preserved c =
    let setting : SettingValue = c.args.setting.now in
    let actions : List Action = c.args.actions.now in
    let k : ℕ = c.loop-action.action-index in
    let given : Action = get_or c.args.actions.now c.loop-action.action-index (kinds.Split (record { 0 = 0 }) A 0) in
    let there : slice_get actions k ≡ Some given = slice_get-get_or actions k (kinds.Split (record { 0 = 0 }) A 0) c.loop-action-test.true in
    let start : List (List Ion) = start_of setting.trap setting.placement in
    let passes : Passes setting c.loop-action.config.lists given = subst (λ (s : SettingValue). Passes s c.loop-action.config.lists given) c.setting.view_is c.in_default.ensures.answer in
    let moved : c.apply.new.self.lists ≡ after setting.trap c.loop-action.config.lists given = subst (λ (s : SettingValue). c.apply.new.self.lists ≡ after s.trap c.loop-action.config.lists given) c.setting.view_is c.apply.ensures.lists in
    record {
      config = subst (λ (s : SettingValue). IsConfigOf s.trap c.apply.new.self) c.setting.view_is c.apply.ensures.config;
      lists = lists_next setting start c.loop-action.config.lists c.apply.new.self.lists actions k given there c.loop-action.invariant.lists moved;
      legal = legal_next setting start c.loop-action.config.lists actions k given there c.loop-action.invariant.lists c.loop-action.invariant.legal passes;
    }

pub returns : goal.returns
returns c = λ holds.
    subst (λ (xs : List Action). AreLegal c.args.setting.now (start_of c.args.setting.now.trap c.args.setting.now.placement) (one_at_a_time xs))
    (take_all c.loop-action.action-index c.args.actions.now c.loop-action-test.false) c.loop-action.invariant.legal
