use Rattle.std.proofs.Common.{◌≡◌, length, sym, ◌∙◌, arith}
use Rattle.sat_base.specs.Pieces.{pieces}
use Rattle.sat_base.proofs.Parts.{length-pieces}
use Rattle.derivation_log.proofs.DerivedLines.{length-lines_of, hints_in-lines_of}
use Rattle.derivation_log.proofs.derived_lines.DerivedLines.hints.Goals as goal

pub hints_at-requires-clause-within : goal.hints_at-requires-clause-within
hints_at-requires-clause-within c =
    let same = c.self.invariant.1 ∙ sym (length-pieces 0 c.self.inside.ends.items c.self.inside.hints.items) in
    let lines = length-lines_of c.self.inside.clauses (pieces 0 c.self.inside.ends.items c.self.inside.hints.items) same in
    let count : length c.args.self.now ≡ length c.self.inside.ends.items = rw (← c.self.view_is, lines) c.self.invariant.1 in
    rw c.deref-2.ensures.value (omega (arith, count))

pub returns : goal.returns
returns c =
    let same = c.self.invariant.1 ∙ sym (length-pieces 0 c.self.inside.ends.items c.self.inside.hints.items) in
    rw (← c.self.view_is, hints_in-lines_of c.self.inside.clauses (pieces 0 c.self.inside.ends.items c.self.inside.hints.items) same, c.hints_at.ensures, c.deref.ensures.value, c.deref-2.ensures.value)
