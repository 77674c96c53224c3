use Rattle.std.proofs.Common.{List, ℕ, ap, sym, find, not, map, string_bytes, ◌∙◌}
use Rattle.trap_read.specs.Keys.{has_key}
use Rattle.trap_read.proofs.Tables.{keys_of-view}
use Rattle.trap_read.proofs.row.Row.extra_key.Goals as goal

pub loop-key-init : goal.loop-key-init
loop-key-init c =
    let p = λ (k : List ℕ). not (has_key c.args.self.section k) in
    ap (λ ks. find p (map string_bytes ks)) (c.into_iter-key-iterator.ensures.into_iter_gives ∙ c.keys-key-items.ensures.rest) ∙ ap (find p) (sym (keys_of-view c.args.self.table.now.entries))
