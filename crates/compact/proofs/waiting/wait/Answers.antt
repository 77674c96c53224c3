use Rattle.std.proofs.Common.{◌<◌, ◌≤◌, List, [], ◌∷◌, ◌++◌, length, set, sym, ap, ◌∙◌, arith}
use Rattle.std.proofs.lemmas.List.{set_past, get_or_default}
use Rattle.qc_base.specs.declared.ids.OpId.{OpId}
use Rattle.compact.proofs.waiting.wait.Goals as goal

pub returns-then-number-len : goal.returns-then-number-len
returns-then-number-len c =
    let past : length c.args.rows.now.items ≤ c.args.op.0 = omega (arith, c.args.rows.now.ok.0) in
    sym (set_past c.args.rows.now.items c.args.op.0 _ past)

pub returns : goal.returns
returns c =
    let within : c.args.op.0 < length c.args.rows.now.items = omega (arith, c.args.rows.now.ok.0) in
    ap (λ (row : List OpId). set c.args.rows.now.items c.args.op.0 row)
    (c.in_ok-push.ensures ∙ ap (λ (l : List OpId). l ++ c.args.barrier ∷ []) (c.index_mut-row.ensures.value ∙ get_or_default c.args.rows.now.items c.args.op.0 c.index_mut-row.result.now [] within))
