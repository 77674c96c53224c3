use Rattle.std.proofs.Common.{◌≡◌, ℕ, ◌+◌, ◌<◌, length, take, get_or, refl, sym, ap, subst, ◌∙◌, arith}
use Rattle.std.proofs.lemmas.Option.{get_or_from_slice_get}
use Rattle.std.proofs.lemmas.Result.{err_from_is_err_and}
use Rattle.step_rules.specs.declared.action.Action.{Action}
use Rattle.step_rules.specs.Setting.{SettingValue}
use Rattle.step_rules.specs.Steps.{footprint}
use Rattle.step_rules.specs.Footprint.{spots}
use Rattle.step_rules.specs.Guards.{Passes}
use Rattle.schedule_play.specs.Judging.{Before, before_of}
use Rattle.schedule_play.specs.Progress.{OpIsWell, OpOffends}
use Rattle.schedule_play.specs.Ready.{AreClosed}
use Rattle.schedule_play.proofs.Going.{closed}
use Rattle.schedule_play.proofs.Judged.{no_action, counted, is_shared, Alone, performed_within, op_performed, well_other, well_op, offends_op}
use Rattle.schedule_play.proofs.simulator.judge.Goals as goal

pub returns-in-Some : goal.returns-in-Some
returns-in-Some c = record {
  well = λ action at.
      let setting : SettingValue = c.args.setting.now in
      let count : ℕ = length c.args.footprints.now in
      let given : Action = get_or c.args.step.now count no_action in
      let passes : Passes setting c.args.config.now.lists given = subst (λ (s : SettingValue). Passes s c.args.config.now.lists given) c.setting.view_is c.in_default.ensures.answer in
      let works : spots c.footprint-works.result ≡ footprint setting.trap given = subst (λ (s : SettingValue). spots c.footprint-works.result ≡ footprint s.trap given) c.setting.view_is c.footprint-works.ensures in
      let before : Before = before_of c.args.past.now (take count c.args.step.now) in
      let same = get_or_from_slice_get c.args.step.now count action no_action at in
      is_shared setting before c.args.config.now.lists c.args.progress.now.earlier.items c.args.progress.now.done.items c.args.footprints.now c.footprint-works.result given action c.in-Some.first (count + 1) (length c.args.past.now + 1)
      c.requires.state same passes works c.in-Some.ensures refl (omega (arith, counted c.args.step.now count c.requires.next));
}

pub judge_op-requires-clause-closed : goal.judge_op-requires-clause-closed
judge_op-requires-clause-closed c =
    subst (λ (s : SettingValue). AreClosed s.circuit c.args.past.now) (sym c.setting.view_is) (closed c.args.setting.now c.args.past.now c.requires.state.well)

pub judge_op-requires-clause-there : goal.judge_op-requires-clause-there
judge_op-requires-clause-there c =
    subst (λ (s : SettingValue). c.in-Op.op.0 < length s.circuit.ops) (sym c.setting.view_is)
    (performed_within c.args.setting.now.circuit c.in-Op.op.0
    (op_performed c.args.setting.now c.args.config.now.lists c.in-Op.zone c.in-Op.op (get_or c.args.step.now (length c.args.footprints.now) no_action) c.in-Op.is
    (subst (λ (s : SettingValue). Passes s c.args.config.now.lists (get_or c.args.step.now (length c.args.footprints.now) no_action)) c.setting.view_is c.in_default.ensures.answer)))

pub returns-in_err-judge_op : goal.returns-in_err-judge_op
returns-in_err-judge_op c = record {
  well = λ action at.
      let setting : SettingValue = c.args.setting.now in
      let count : ℕ = length c.args.footprints.now in
      let given : Action = get_or c.args.step.now count no_action in
      let passes : Passes setting c.args.config.now.lists given = subst (λ (s : SettingValue). Passes s c.args.config.now.lists given) c.setting.view_is c.in_default.ensures.answer in
      let works : spots c.footprint-works.result ≡ footprint setting.trap given = subst (λ (s : SettingValue). spots c.footprint-works.result ≡ footprint s.trap given) c.setting.view_is c.footprint-works.ensures in
      let before : Before = before_of c.args.past.now (take count c.args.step.now) in
      let alone : Alone setting before c.args.config.now.lists c.args.progress.now.earlier.items c.args.progress.now.done.items c.args.footprints.now c.footprint-works.result given action =
      record { state = c.requires.state; same = get_or_from_slice_get c.args.step.now count action no_action at; passes = passes; is = works; none = c.in_default-first_meeting.ensures } in
      let p = err_from_is_err_and c.from_residual.result c.from_residual.ensures.1 in
      rw (p.1, p.2)
      (offends_op setting before c.args.config.now.lists c.args.progress.now.earlier.items c.args.progress.now.done.items c.args.footprints.now c.footprint-works.result given action c.in-Op.zone c.in-Op.op (length c.args.past.now + 1) c.in_err-judge_op.field-0.0
      alone c.in-Op.is refl
      (subst (λ (s : SettingValue). OpOffends s.circuit c.args.progress.now.earlier.items c.args.progress.now.done.items (length c.args.past.now + 1) c.in-Op.op c.in_err-judge_op.field-0.0) c.setting.view_is c.in_err-judge_op.ensures));
}

pub returns-in_ok-judge_op : goal.returns-in_ok-judge_op
returns-in_ok-judge_op c = record {
  well = λ action at.
      let setting : SettingValue = c.args.setting.now in
      let count : ℕ = length c.args.footprints.now in
      let given : Action = get_or c.args.step.now count no_action in
      let passes : Passes setting c.args.config.now.lists given = subst (λ (s : SettingValue). Passes s c.args.config.now.lists given) c.setting.view_is c.in_default.ensures.answer in
      let works : spots c.footprint-works.result ≡ footprint setting.trap given = subst (λ (s : SettingValue). spots c.footprint-works.result ≡ footprint s.trap given) c.setting.view_is c.footprint-works.ensures in
      let before : Before = before_of c.args.past.now (take count c.args.step.now) in
      let same = get_or_from_slice_get c.args.step.now count action no_action at in (
        well_op setting before c.args.config.now.lists c.args.progress.now.earlier.items c.args.progress.now.done.items c.args.footprints.now c.footprint-works.result given action c.in-Op.zone c.in-Op.op
            (record { state = c.requires.state; same = same; passes = passes; is = works; none = c.in_default-first_meeting.ensures }) c.in-Op.is
            (subst (λ (s : SettingValue). OpIsWell s.circuit c.args.progress.now.earlier.items c.args.progress.now.done.items c.in-Op.op) c.setting.view_is c.in_ok-judge_op.ensures),
        works ∙ ap (footprint setting.trap) same,
      );
}

pub returns-in_default-action : goal.returns-in_default-action
returns-in_default-action c = record {
  well = λ action at.
      let setting : SettingValue = c.args.setting.now in
      let count : ℕ = length c.args.footprints.now in
      let given : Action = get_or c.args.step.now count no_action in
      let passes : Passes setting c.args.config.now.lists given = subst (λ (s : SettingValue). Passes s c.args.config.now.lists given) c.setting.view_is c.in_default.ensures.answer in
      let works : spots c.footprint-works.result ≡ footprint setting.trap given = subst (λ (s : SettingValue). spots c.footprint-works.result ≡ footprint s.trap given) c.setting.view_is c.footprint-works.ensures in
      let before : Before = before_of c.args.past.now (take count c.args.step.now) in
      let same = get_or_from_slice_get c.args.step.now count action no_action at in (
        well_other setting before c.args.config.now.lists c.args.progress.now.earlier.items c.args.progress.now.done.items c.args.footprints.now c.footprint-works.result given action
            (record { state = c.requires.state; same = same; passes = passes; is = works; none = c.in_default-first_meeting.ensures }) c.in_default-action.not-Op,
        works ∙ ap (footprint setting.trap) same,
      );
}
