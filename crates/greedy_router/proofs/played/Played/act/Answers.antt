use Rattle.std.proofs.Common.{◌≡◌, ap, sym, subst, ◌∙◌}
use Rattle.trap_parts.specs.Parts.{TrapValue}
use Rattle.step_rules.specs.Setting.{SettingValue}
use Rattle.step_rules.specs.Config.{IsConfigOf}
use Rattle.step_rules.specs.Guards.{PassesTransport}
use Rattle.step_rules.specs.Steps.{after}
use Rattle.greedy_router.proofs.Travelling.{transport, acts}
use Rattle.greedy_router.proofs.played.Played.act.Goals as goal

pub apply-requires-clause-passes : goal.apply-requires-clause-passes
apply-requires-clause-passes c =
    let trap : c.setting.inside.trap.now ≡ c.args.setting.now.trap = ap (λ (s : SettingValue). s.trap) c.setting.view_is in
    subst (λ (trap : TrapValue). PassesTransport trap c.args.self.now.config.lists c.args.action) (sym trap)
    (transport c.args.setting.now c.args.self.now.config.lists c.args.action c.requires.carries c.requires.passes)

pub returns : goal.returns
returns c =
    let trap : c.setting.inside.trap.now ≡ c.args.setting.now.trap = ap (λ (s : SettingValue). s.trap) c.setting.view_is in
    acts c.args.setting.now c.args.self.now (record { config = c.apply.new.self; actions = c.push.new.self }) c.args.action c.requires.played c.requires.travels c.requires.carries c.requires.single c.requires.passes
    c.in_ok-push.ensures.items
    (c.apply.ensures.lists ∙ ap (λ (trap : TrapValue). after trap c.args.self.now.config.lists c.args.action) trap)
    (subst (λ (trap : TrapValue). IsConfigOf trap c.apply.new.self) trap c.apply.ensures.config)
