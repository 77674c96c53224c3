use Rattle.std.proofs.Common.{◌≡◌, ◌+◌, ◌<◌, sym, ap, length, arith}
use Rattle.std.proofs.lemmas.Bool.Decides.{nat_tests}
use Rattle.schedule_text.proofs.Bodies.{none_found, more_found, step_found, action_found}
use Rattle.schedule_text.proofs.reader.read_body.Goals as goal

pub returns-in_default-clause-fault : goal.returns-in_default-clause-fault
returns-in_default-clause-fault c =
    let steps = c.loop-schedule.schedule in
    let same : length steps ≡ length c.steps.result.now = ap length (sym c.steps.ensures) in
    none_found c.args.setting.now.trap c.args.setting.now.circuit c.args.setting.now.placement c.args.count (length c.steps.result.now) steps c.args.bytes.now c.loop-schedule.rest.now c.bad_line.result
    c.requires.trap c.requires.circuit c.requires.placed c.ranges.count.fits c.loop-schedule.invariant same
    (λ line after may e. absurd (rw c.in_default.is at (c.in_ok-found.ensures.only steps line after same may e))) c.bad_line.ensures

pub returns-in-End-2-clause-fault : goal.returns-in-End-2-clause-fault
returns-in-End-2-clause-fault c =
    let steps = c.loop-schedule.schedule in
    let same : length steps ≡ length c.steps.result.now = ap length (sym c.steps.ensures) in
    let found = rw c.in-Some.is at c.in_ok-found.ensures.found in
    let may = rw c.in-Some.is at c.in_ok-found.ensures.may in
    let test = c.if-is_empty.ensures in
    let some : 0 < length c.in-Some.after.now = grind (arith, nat_tests, test) in
    more_found c.args.setting.now.trap c.args.setting.now.circuit c.args.setting.now.placement c.args.count (length c.steps.result.now + 1) steps c.in-Some.line c.args.bytes.now c.loop-schedule.rest.now c.in-Some.after.now
    c.bad_line-in-End-2.result c.requires.trap c.requires.circuit c.requires.placed c.ranges.count.fits c.loop-schedule.invariant found (may steps same) c.in-End-2.is some c.bad_line-in-End-2.ensures

pub loop-schedule-preserved-in_ok-push_step-in-Step : goal.loop-schedule-preserved-in_ok-push_step-in-Step
loop-schedule-preserved-in_ok-push_step-in-Step c =
    let steps = c.loop-schedule.schedule in
    let same : length steps ≡ length c.steps.result.now = ap length (sym c.steps.ensures) in
    let found = rw c.in-Some.is at c.in_ok-found.ensures.found in
    let may = rw c.in-Some.is at c.in_ok-found.ensures.may in
    step_found c.args.setting.now.trap c.args.setting.now.circuit c.args.setting.now.placement c.args.count (length c.steps.result.now) steps c.push_step.new.self c.in-Some.line c.args.bytes.now c.loop-schedule.rest.now
    c.in-Some.after.now c.loop-schedule.invariant same found (may steps same) c.in-Step.is c.in_ok-push_step-in-Step.ensures.ok

pub loop-schedule-preserved : goal.loop-schedule-preserved
loop-schedule-preserved c =
    let steps = c.loop-schedule.schedule in
    let same : length steps ≡ length c.steps.result.now = ap length (sym c.steps.ensures) in
    let found = rw c.in-Some.is at c.in_ok-found.ensures.found in
    let may = rw c.in-Some.is at c.in_ok-found.ensures.may in
    action_found c.args.setting.now.trap c.args.setting.now.circuit c.args.setting.now.placement c.args.count (length c.steps.result.now) steps c.push_action.new.self c.in-Some.line c.in-Act.action c.args.bytes.now
    c.loop-schedule.rest.now c.in-Some.after.now c.loop-schedule.invariant same found (may steps same) c.in-Act.is c.in_ok-push_action-in-Act.ensures.ok
