use Rattle.std.proofs.Common.{ℕ, List, ◌<◌, ◌++◌, sym, ap, subst, ◌∙◌, length, slice_get}
use Rattle.std.proofs.lemmas.Option.{none-some}
use Rattle.trap_model.specs.Trap.{place_count}
use Rattle.step_rules.specs.Setting.{SettingValue, setting_of}
use Rattle.schedule_text.specs.Text.{op_line}
use Rattle.schedule_text.proofs.OpLines.{op_inside, op_line_of, op_found, same_op_line}
use Rattle.schedule_text.proofs.action_line.read_op.Goals as goal

pub returns-in_default-clause-only : goal.returns-in_default-clause-only
returns-in_default-clause-only c = λ zone op rest h there e.
    let setting : SettingValue = setting_of c.setting.inside.trap.now c.setting.inside.circuit.now c.setting.inside.placement.now in
    let o = op_line_of setting c.args.setting.now c.setting.view_is zone op rest c.args.bytes.now h there e c.requires.circuit in
    let b = o.begins in
    absurd (c.in_default.ensures.only zone op (op_line setting.circuit setting.placement op b.op ++ rest) b.more o.zone_is o.small b.parts b.line)

pub returns-in_default-op-clause-only : goal.returns-in_default-op-clause-only
returns-in_default-op-clause-only c = λ zone op rest h there e.
    let setting : SettingValue = setting_of c.setting.inside.trap.now c.setting.inside.circuit.now c.setting.inside.placement.now in
    let o = op_line_of setting c.args.setting.now c.setting.view_is zone op rest c.args.bytes.now h there e c.requires.circuit in
    let b = o.begins in
    let read = c.in-Some.ensures.only zone op (op_line setting.circuit setting.placement op b.op ++ rest) b.more o.zone_is o.small b.parts b.line in
    absurd (none-some b.op (c.in_default-op.ensures.op ∙ ap (slice_get setting.circuit.ops) read.1 ∙ b.is))

pub returns-in-Some-strip_prefix-clause-found : goal.returns-in-Some-strip_prefix-clause-found
returns-in-Some-strip_prefix-clause-found c =
    let setting : SettingValue = setting_of c.setting.inside.trap.now c.setting.inside.circuit.now c.setting.inside.placement.now in
    let text = c.as_slice.ensures.value ∙ c.in_ok-push_op_line.ensures ∙ ap (λ (t : List ℕ). t ++ op_line setting.circuit setting.placement c.in-Some.number c.in-Some-op.operation.now) c.new-text.ensures.items in
    op_found setting c.args.setting.now c.in-Some.zone.0 c.in-Some.number c.in-Some-op.operation.now c.args.bytes.now c.in-Some.line.now c.as_slice.result.now c.in-Some-strip_prefix.rest.now c.setting.view_is
    (sym c.in-Some-op.ensures.op) c.in-Some.ensures.found c.in-Some-strip_prefix.ensures.found text

pub returns-in-Some-strip_prefix-clause-there : goal.returns-in-Some-strip_prefix-clause-there
returns-in-Some-strip_prefix-clause-there c =
    let setting : SettingValue = setting_of c.setting.inside.trap.now c.setting.inside.circuit.now c.setting.inside.placement.now in
    subst (λ (s : SettingValue). (c.in-Some.zone.0 < place_count s.trap) × (c.in-Some.number < length s.circuit.ops)) c.setting.view_is
    (c.in-Some.ensures.there, op_inside setting.circuit.ops c.in-Some.number c.in-Some-op.operation.now (sym c.in-Some-op.ensures.op))

pub returns-in-Some-strip_prefix-clause-only : goal.returns-in-Some-strip_prefix-clause-only
returns-in-Some-strip_prefix-clause-only c = λ zone op rest h there e.
    let setting : SettingValue = setting_of c.setting.inside.trap.now c.setting.inside.circuit.now c.setting.inside.placement.now in
    let o = op_line_of setting c.args.setting.now c.setting.view_is zone op rest c.args.bytes.now h there e c.requires.circuit in
    let b = o.begins in
    let read = c.in-Some.ensures.only zone op (op_line setting.circuit setting.placement op b.op ++ rest) b.more o.zone_is o.small b.parts b.line in
    let text = c.as_slice.ensures.value ∙ c.in_ok-push_op_line.ensures ∙ ap (λ (t : List ℕ). t ++ op_line setting.circuit setting.placement c.in-Some.number c.in-Some-op.operation.now) c.new-text.ensures.items in
    let stands =
    same_op_line setting op c.in-Some.number b.op c.in-Some-op.operation.now c.in-Some.line.now c.as_slice.result.now rest (sym read.1) b.is (sym c.in-Some-op.ensures.op) read.2 text in
    (read.0, read.1, c.in-Some-strip_prefix.ensures.only rest stands)

pub returns-clause-only : goal.returns-clause-only
returns-clause-only c = λ zone op rest h there e.
    let setting : SettingValue = setting_of c.setting.inside.trap.now c.setting.inside.circuit.now c.setting.inside.placement.now in
    let o = op_line_of setting c.args.setting.now c.setting.view_is zone op rest c.args.bytes.now h there e c.requires.circuit in
    let b = o.begins in
    let read = c.in-Some.ensures.only zone op (op_line setting.circuit setting.placement op b.op ++ rest) b.more o.zone_is o.small b.parts b.line in
    let text = c.as_slice.ensures.value ∙ c.in_ok-push_op_line.ensures ∙ ap (λ (t : List ℕ). t ++ op_line setting.circuit setting.placement c.in-Some.number c.in-Some-op.operation.now) c.new-text.ensures.items in
    absurd (c.in-None.ensures.only rest (same_op_line setting op c.in-Some.number b.op c.in-Some-op.operation.now c.in-Some.line.now c.as_slice.result.now rest (sym read.1) b.is (sym c.in-Some-op.ensures.op) read.2 text))
