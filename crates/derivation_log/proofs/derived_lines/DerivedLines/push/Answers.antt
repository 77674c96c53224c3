use Rattle.std.proofs.Common.{◌≤◌, ◌++◌, length, sym, ◌∙◌, arith, length-append}
use Rattle.sat_base.specs.Pieces.{pieces}
use Rattle.sat_base.proofs.Parts.{length-pieces, pieces-push, AreEnds-push}
use Rattle.derivation_log.proofs.DerivedLines.{lines_of-push, same_length-push}
use Rattle.derivation_log.proofs.derived_lines.DerivedLines.push.Goals as goal

pub invariant_of-self-2 : goal.invariant_of-self-2
invariant_of-self-2 c =
    let hints = c.self.inside.hints.items in
    let ends = c.self.inside.ends.items in
    let grows : length hints ≤ length (hints ++ c.args.hints.now) = rw length-append (omega arith) in
    let more = AreEnds-push 0 ends (length hints) (length (hints ++ c.args.hints.now)) c.self.invariant.0 grows in
    let same = same_length-push c.self.inside.clauses c.args.clause.now ends (length (hints ++ c.args.hints.now)) c.self.invariant.1 in
    rw (c.in_ok-push-2.ensures.items, c.reserve-2.ensures.items, c.len.ensures, c.extend_from_slice.new.self.ok.0, c.in_ok-extend_from_slice.ensures.items, c.reserve.ensures.items, c.in_ok-push.ensures.ok) (more, same)

pub returns-clause-ok : goal.returns-clause-ok
returns-clause-ok c =
    let hints = c.self.inside.hints.items in
    let ends = c.self.inside.ends.items in
    let same = c.self.invariant.1 ∙ sym (length-pieces 0 ends hints) in
    rw (← c.self.view_is, c.in_ok-push-2.ensures.items, c.reserve-2.ensures.items, c.len.ensures, c.extend_from_slice.new.self.ok.0, c.in_ok-extend_from_slice.ensures.items, c.reserve.ensures.items, c.in_ok-push.ensures.ok, pieces-push ends hints c.args.hints.now c.self.invariant.0)
    (lines_of-push c.self.inside.clauses (pieces 0 ends hints) c.args.clause.now c.args.hints.now same)
