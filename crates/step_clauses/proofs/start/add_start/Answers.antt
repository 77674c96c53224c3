use Rattle.std.proofs.Common.{ap, ◌∙◌}
use Rattle.at_most.proofs.Emitted.{on_ok_also}
use Rattle.step_rules.specs.Setting.{SettingValue}
use Rattle.step_rules.specs.Placement.{start_of}
use Rattle.step_clauses.proofs.Same.{start_is}
use Rattle.step_clauses.proofs.start.add_start.Goals as goal

pub returns : goal.returns
returns c =
    let lists = c.in_ok-config.ensures.lists ∙ ap (λ (w : SettingValue). start_of w.trap w.placement) c.setting.view_is in
    let t = c.requires.tables in
    on_ok_also c.add_undone.result _ _
    (λ e. start_is c.args.setting.now _ _ _ _ _ _ _ _ _ lists (c.deref-2.ensures.value ∙ t.ions) (c.deref.ensures.value ∙ t.places) t.pairs (c.deref-3.ensures.value ∙ t.ops) c.in_ok-add_ions.ensures c.in_ok-add_orders.ensures e)
    c.add_undone.ensures
