use Rattle.std.proofs.Common.{sym, ◌∙◌, arith, ◌≡◌, true}
use Rattle.std.specs.Str.{bytes_eq}
use Rattle.trap_parts.specs.Parts.{lists, names_of}
use Rattle.trap_parts.proofs.Doubles.{any_among}
use Rattle.trap_parts.proofs.parts.TrapParts.is_among.Goals as goal

pub returns-then-eq : goal.returns-then-eq
returns-then-eq c =
    let there = c.name_at.result.now in
    let same : bytes_eq c.args.name.now there ≡ true = sym c.eq.ensures ∙ c.if-eq.true in
    sym (any_among (bytes_eq c.args.name.now) (names_of (lists c.args.self.now)) c.loop-k.k c.args.count there (omega arith) (omega arith) (rw (← c.name_at.ensures) same))
