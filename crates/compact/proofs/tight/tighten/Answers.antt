use Rattle.std.proofs.Common.{◌≡◌, subst, sym, ◌∙◌}
use Rattle.step_rules.specs.Setting.{SettingValue, setting_of}
use Rattle.step_rules.specs.Play.{Plays}
use Rattle.step_rules.specs.Tight.{IsTight}
use Rattle.compact.specs.Tightened.{IsRearranged}
use Rattle.compact.specs.Latest.{AreTimes}
use Rattle.compact.proofs.Tightness.{is_tight, is_rearranged}
use Rattle.compact.proofs.Playing.{rearranged_plays}
use Rattle.compact.proofs.tight.tighten.Goals as goal

pub returns-clause-tight : goal.returns-clause-tight
returns-clause-tight c =
    let setting : SettingValue = setting_of c.args.trap.now c.args.circuit.now c.args.placement.now in
    let is : c.in_ok-schedule.schedule ≡ c.in_ok-rows.rows.items = c.in_ok-schedule.ensures ∙ c.as_slice-steps.ensures.value in
    let times : AreTimes setting c.args.actions.now c.as_slice-known.result.now = subst (AreTimes setting c.args.actions.now) (sym c.as_slice-known.ensures.value) c.in_ok-times.ensures in
    subst (IsTight setting) (sym is) (is_tight setting c.args.actions.now c.as_slice-known.result.now c.in_ok-rows.rows.items times c.in_ok-rows.ensures)

pub returns-clause-same : goal.returns-clause-same
returns-clause-same c =
    let setting : SettingValue = setting_of c.args.trap.now c.args.circuit.now c.args.placement.now in
    let is : c.in_ok-schedule.schedule ≡ c.in_ok-rows.rows.items = c.in_ok-schedule.ensures ∙ c.as_slice-steps.ensures.value in
    let times : AreTimes setting c.args.actions.now c.as_slice-known.result.now = subst (AreTimes setting c.args.actions.now) (sym c.as_slice-known.ensures.value) c.in_ok-times.ensures in
    subst (IsRearranged setting c.args.actions.now) (sym is) (is_rearranged setting c.args.actions.now c.as_slice-known.result.now c.in_ok-rows.rows.items times c.in_ok-rows.ensures)

pub returns-clause-plays : goal.returns-clause-plays
returns-clause-plays c = λ plays.
    let setting : SettingValue = setting_of c.args.trap.now c.args.circuit.now c.args.placement.now in
    let is : c.in_ok-schedule.schedule ≡ c.in_ok-rows.rows.items = c.in_ok-schedule.ensures ∙ c.as_slice-steps.ensures.value in
    let times : AreTimes setting c.args.actions.now c.as_slice-known.result.now = subst (AreTimes setting c.args.actions.now) (sym c.as_slice-known.ensures.value) c.in_ok-times.ensures in
    subst (Plays setting) (sym is) (rearranged_plays setting c.args.actions.now c.in_ok-rows.rows.items plays
    (is_rearranged setting c.args.actions.now c.as_slice-known.result.now c.in_ok-rows.rows.items times c.in_ok-rows.ensures) c.in_ok-rows.ensures.legal)
