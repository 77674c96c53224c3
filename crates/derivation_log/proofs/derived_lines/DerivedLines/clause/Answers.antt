use Rattle.std.proofs.Common.{sym, ◌∙◌}
use Rattle.sat_base.specs.Pieces.{pieces}
use Rattle.sat_base.proofs.Parts.{length-pieces}
use Rattle.derivation_log.proofs.DerivedLines.{length-lines_of, clauses_of-lines_of}
use Rattle.derivation_log.proofs.derived_lines.DerivedLines.clause.Goals as goal

pub clause-requires-clause-within : goal.clause-requires-clause-within
clause-requires-clause-within c =
    let same = c.self.invariant.1 ∙ sym (length-pieces 0 c.self.inside.ends.items c.self.inside.hints.items) in
    let count = length-lines_of c.self.inside.clauses (pieces 0 c.self.inside.ends.items c.self.inside.hints.items) same in
    rw (← count, c.self.view_is) c.requires.within

pub returns : goal.returns
returns c =
    let same = c.self.invariant.1 ∙ sym (length-pieces 0 c.self.inside.ends.items c.self.inside.hints.items) in
    rw (← c.self.view_is, clauses_of-lines_of c.self.inside.clauses (pieces 0 c.self.inside.ends.items c.self.inside.hints.items) same) c.clause.ensures.clause
