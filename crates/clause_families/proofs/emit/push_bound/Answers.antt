use Rattle.std.proofs.Common.{◌≡◌, ap, length, ◌∙◌, arith}
use Rattle.step_vars.specs.Limits.{fresh_for}
use Rattle.step_vars.specs.Encoding.{literals_of}
use Rattle.clause_families.proofs.Literals.{has_room, lits_long}
use Rattle.clause_families.proofs.emit.push_bound.Goals as goal

pub emit-requires-clause-room : goal.emit-requires-clause-room
emit-requires-clause-room c =
    let n = c.args.vars.now.numbering in
    let lits = c.deref.ensures.value ∙ c.in_ok-lits.ensures ∙ ap (literals_of n) c.items.ensures in
    let long = lits_long n c.args.it.now c.deref.result.now lits in
    let count : fresh_for c.encoding.result (length c.deref.result.now) c.args.it.now.limit ≡ fresh_for c.args.vars.now.encoding (length c.args.it.now.items) c.args.it.now.limit =
    ap (λ e. fresh_for e (length c.deref.result.now) c.args.it.now.limit) c.encoding.ensures ∙ ap (λ k. fresh_for c.args.vars.now.encoding k c.args.it.now.limit) long in
    has_room c.args.vars.now c.args.it.now c.args.next _ c.deref.result.now c.requires.list c.requires.from_1 (omega (arith, count, c.requires.room)) lits
