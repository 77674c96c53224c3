use Rattle.std.proofs.Common.{◌<◌, ◌≤◌, List, [], ◌∷◌, ◌++◌, length, set, sym, ap, ◌∙◌, arith}
use Rattle.step_rules.specs.declared.action.Action.{Action}
use Rattle.compact.proofs.Spreading.{put_inside, put_after}
use Rattle.compact.proofs.tight.place.Goals as goal

pub returns-then-time-len : goal.returns-then-time-len
returns-then-time-len c =
    let within : c.args.time < length c.args.rows.now.items = omega (arith, c.args.rows.now.ok.0) in
    ap (λ (s : List Action). set c.args.rows.now.items c.args.time s) (c.in_ok-add.ensures ∙ ap (λ (s : List Action). s ++ c.args.action ∷ []) c.index_mut-row.ensures.value)
    ∙ sym (put_inside c.args.rows.now.items c.args.time c.args.action c.index_mut-row.result.now within)

pub returns : goal.returns
returns c =
    let past : length c.args.rows.now.items ≤ c.args.time = omega (arith, c.args.rows.now.ok.0) in
    c.in_ok-push.ensures.items ∙ ap (λ (s : List Action). c.args.rows.now.items ++ s ∷ []) c.in_ok-row.ensures ∙ sym (put_after c.args.rows.now.items c.args.time c.args.action past)
