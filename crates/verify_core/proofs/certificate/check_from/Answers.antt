use Rattle.std.proofs.Common.{rules, ◌≡◌, ◌≢◌, arith}
use Rattle.step_vars.specs.Certifies.{asked}
use Rattle.verify_core.proofs.Fronts.{has_reading, head_judged, any_head, otherwise_judged}
use Rattle.verify_core.proofs.Checking.{judged_handed}
use Rattle.verify_core.proofs.Whole.{more_said, nothing_said}
use Rattle.verify_core.proofs.certificate.check_from.Goals as goal

pub returns-in_err-head-clause-judged : goal.returns-in_err-head-clause-judged
returns-in_err-head-clause-judged g c =
    let shelf = g.S.Shelf.facts c.args.shelf.now in
    let name = c.args.name.now in
    let setting = c.args.minimum.now.setting in
    let steps = c.args.minimum.now.steps in
    let front = c.args.front.now in
    let fault = c.in_err-head.field-0.0 in
    judged_handed shelf name setting steps c.from_residual.result fault c.from_residual.ensures.1
    (λ other. head_judged shelf name setting steps front fault (has_reading shelf name front c.requires.content c.requires.enough) c.in_err-head.ensures)

pub returns-then-ne-clause-judged : goal.returns-then-ne-clause-judged
returns-then-ne-clause-judged g c =
    let shelf = g.S.Shelf.facts c.args.shelf.now in
    let name = c.args.name.now in
    let setting = c.args.minimum.now.setting in
    let steps = c.args.minimum.now.steps in
    let front = c.args.front.now in
    let head = c.in_ok-head.head in
    let len = c.in_ok-head.len in
    let is = any_head front head len c.in_ok-head.ensures in
    let other : head.bound ≢ asked steps = search rules in
    otherwise_judged shelf name setting steps front is.0 head.bound len (has_reading shelf name front c.requires.content c.requires.enough) is.1 other

pub returns-then-len-front-clause-judged : goal.returns-then-len-front-clause-judged
returns-then-len-front-clause-judged g c =
    let shelf = g.S.Shelf.facts c.args.shelf.now in
    let name = c.args.name.now in
    let setting = c.args.minimum.now.setting in
    let steps = c.args.minimum.now.steps in
    let front = c.args.front.now in
    let head = c.in_ok-head.head in
    let len = c.in_ok-head.len in
    let is = any_head front head len c.in_ok-head.ensures in
    let same : head.bound ≡ asked steps = search rules in
    let counted = c.steps.ensures.steps in
    let none : steps ≡ 0 = omega (arith, counted, c.if-steps-gt0.false) in
    more_said shelf name setting front is.0 head.bound len steps (has_reading shelf name front c.requires.content c.requires.enough) is.1 same none c.if-len-front.true

pub returns-clause-judged : goal.returns-clause-judged
returns-clause-judged g c =
    let shelf = g.S.Shelf.facts c.args.shelf.now in
    let name = c.args.name.now in
    let setting = c.args.minimum.now.setting in
    let steps = c.args.minimum.now.steps in
    let front = c.args.front.now in
    let head = c.in_ok-head.head in
    let len = c.in_ok-head.len in
    let is = any_head front head len c.in_ok-head.ensures in
    let same : head.bound ≡ asked steps = search rules in
    let counted = c.steps.ensures.steps in
    let none : steps ≡ 0 = omega (arith, counted, c.if-steps-gt0.false) in
    nothing_said shelf name setting front is.0 head.bound len steps c.requires.enough is.1 same none c.if-len-front.false
