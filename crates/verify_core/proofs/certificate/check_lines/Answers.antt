use Rattle.std.proofs.Common.{◌-◌, ◌++◌, [], length, take, drop, ap, Err}
use Rattle.verify_core.specs.Verifying.{task_for}
use Rattle.verify_core.proofs.Checking.{after_head, piece_is, front_fault, is_feeding, later_fault, end_fault, end_accepted, steps_judged, judged_handed, judged_on}
use Rattle.verify_core.proofs.certificate.check_lines.Goals as goal

pub returns-in_err-feed-clause-judged : goal.returns-in_err-feed-clause-judged
returns-in_err-feed-clause-judged g c =
    let shelf = g.S.Shelf.facts c.args.shelf.now in
    let name = c.args.name.now in
    let setting = c.args.minimum.now.setting in
    let steps = c.args.minimum.now.steps in
    let encoding = c.args.encoding in
    let len = c.args.head in
    let front = c.args.front.now in
    let old = c.in_ok-checker.checker in
    let goal_of = c.in_ok-checker.goal in
    let is = after_head shelf name setting steps encoding len front old goal_of c.requires.steps c.requires.small c.requires.head c.requires.within c.requires.content c.in_ok-checker.ensures.ready in
    let fault = c.in_err-feed.field-0.0 in
    let fed = c.in_err-feed.ensures.fed (task_for setting encoding (steps - 1)) [] in
    judged_handed shelf name setting steps c.from_residual-in_err-feed.result fault c.from_residual-in_err-feed.ensures.1
    (λ other. steps_judged shelf name setting steps (steps - 1) encoding fault is.is_last
    (front_fault shelf name setting steps (steps - 1) encoding len front (take (length front - len) (drop len front)) old c.feed.new.self goal_of fault is (piece_is len front) fed c.in_err-feed.ensures.err other) is.ready.small)

pub returns-in_err-feed_rest-clause-judged : goal.returns-in_err-feed_rest-clause-judged
returns-in_err-feed_rest-clause-judged g c =
    let shelf = g.S.Shelf.facts c.args.shelf.now in
    let name = c.args.name.now in
    let setting = c.args.minimum.now.setting in
    let steps = c.args.minimum.now.steps in
    let encoding = c.args.encoding in
    let len = c.args.head in
    let front = c.args.front.now in
    let old = c.in_ok-checker.checker in
    let goal_of = c.in_ok-checker.goal in
    let is = after_head shelf name setting steps encoding len front old goal_of c.requires.steps c.requires.small c.requires.head c.requires.within c.requires.content c.in_ok-checker.ensures.ready in
    let fed = c.in_ok-feed.ensures.fed (task_for setting encoding (steps - 1)) [] in
    let feeding = is_feeding shelf name setting steps (steps - 1) encoding len front (take (length front - len) (drop len front)) old c.feed.new.self goal_of is (piece_is len front) fed c.in_ok-feed.ensures.ok in
    judged_on shelf name setting steps c.from_residual-in_err-feed_rest.result c.in_err-feed_rest.field-0.0 c.from_residual-in_err-feed_rest.ensures.1 c.in_err-feed_rest.ensures.fault
    (λ cert e other. steps_judged shelf name setting steps (steps - 1) encoding cert is.is_last
    (later_fault shelf name setting steps (steps - 1) encoding len front old goal_of cert is
    (c.in_err-feed_rest.ensures.cert cert (ap Err e) (task_for setting encoding (steps - 1)) (take len front) (drop len front) feeding) other) is.ready.small)

pub returns-in_err-finish-clause-judged : goal.returns-in_err-finish-clause-judged
returns-in_err-finish-clause-judged g c =
    let shelf = g.S.Shelf.facts c.args.shelf.now in
    let name = c.args.name.now in
    let setting = c.args.minimum.now.setting in
    let steps = c.args.minimum.now.steps in
    let encoding = c.args.encoding in
    let len = c.args.head in
    let front = c.args.front.now in
    let old = c.in_ok-checker.checker in
    let goal_of = c.in_ok-checker.goal in
    let is = after_head shelf name setting steps encoding len front old goal_of c.requires.steps c.requires.small c.requires.head c.requires.within c.requires.content c.in_ok-checker.ensures.ready in
    let fed = c.in_ok-feed.ensures.fed (task_for setting encoding (steps - 1)) [] in
    let feeding = is_feeding shelf name setting steps (steps - 1) encoding len front (take (length front - len) (drop len front)) old c.feed.new.self goal_of is (piece_is len front) fed c.in_ok-feed.ensures.ok in
    let all = c.in_ok-feed_rest.ensures.ok (task_for setting encoding (steps - 1)) (take len front) (drop len front) feeding in
    let fault = c.in_err-finish.field-0.0 in
    judged_handed shelf name setting steps c.from_residual-in_err-finish.result fault c.from_residual-in_err-finish.ensures.1
    (λ other. steps_judged shelf name setting steps (steps - 1) encoding fault is.is_last
    (end_fault shelf name setting steps (steps - 1) encoding len front old c.feed_rest.new.checker goal_of fault is all (c.in_err-finish.ensures.answers (task_for setting encoding (steps - 1)) (drop len front ++ all.more)) other) is.ready.small)

pub returns-clause-judged : goal.returns-clause-judged
returns-clause-judged g c =
    let shelf = g.S.Shelf.facts c.args.shelf.now in
    let name = c.args.name.now in
    let setting = c.args.minimum.now.setting in
    let steps = c.args.minimum.now.steps in
    let encoding = c.args.encoding in
    let len = c.args.head in
    let front = c.args.front.now in
    let old = c.in_ok-checker.checker in
    let goal_of = c.in_ok-checker.goal in
    let is = after_head shelf name setting steps encoding len front old goal_of c.requires.steps c.requires.small c.requires.head c.requires.within c.requires.content c.in_ok-checker.ensures.ready in
    let fed = c.in_ok-feed.ensures.fed (task_for setting encoding (steps - 1)) [] in
    let feeding = is_feeding shelf name setting steps (steps - 1) encoding len front (take (length front - len) (drop len front)) old c.feed.new.self goal_of is (piece_is len front) fed c.in_ok-feed.ensures.ok in
    let all = c.in_ok-feed_rest.ensures.ok (task_for setting encoding (steps - 1)) (take len front) (drop len front) feeding in
    end_accepted shelf name setting steps (steps - 1) encoding len front old c.feed_rest.new.checker goal_of c.in_ok-finish.field-0 is all
    (c.in_ok-finish.ensures.answers (task_for setting encoding (steps - 1)) (drop len front ++ all.more))
