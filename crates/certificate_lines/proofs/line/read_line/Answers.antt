use Rattle.std.proofs.Common.{◌≤◌, ℕ, List, [], ◌++◌, length, sym, ◌∙◌, subst}
use Rattle.std.specs.Prelude.{codes}
use Rattle.std.proofs.lemmas.List.{append-nil}
use Rattle.std.proofs.lemmas.Bool.{both_ways}
use Rattle.sat_base.specs.Clauses.{EachVariable}
use Rattle.sat_base.specs.Certificate.{hints_text}
use Rattle.sat_base.proofs.Clauses.{EachVariable-weaken}
use Rattle.certificate_lines.proofs.LineText.{after_number, line_parts, at_found, at_some, at_none}
use Rattle.certificate_lines.proofs.line.read_line.Goals as goal

pub ascends-requires : goal.ascends-requires
ascends-requires c =
    let found = at_found c.in_ok-words.field-0 c.in-Some-2.words _ c.in-Some-2.is c.in_ok-words.ensures.found in
    subst (EachVariable (λ var. 1 ≤ var)) (sym c.deref.ensures.value) (EachVariable-weaken (λ var. (1 ≤ var) × (var ≤ c.args.vars)) (λ var. 1 ≤ var) c.read_literals.new.lits.items (λ var h. h.0) found.0)

pub returns-in_default-3 : goal.returns-in_default-3
returns-in_default-3 c = λ line form e.
    let words = c.in-Some.ensures.only c.args.number (after_number line) c.ranges.number.fits (e ∙ line_parts c.args.number line) in
    let lits = at_some c.in_ok-words.field-0 c.in-Some-2.words _ c.in-Some-2.is (c.in_ok-words.ensures.only line.clause (hints_text line.hints ++ codes "0\n") form.within words.1) in
    at_none c.in_ok-rest.field-0 _ c.in_default-3.is (c.in_ok-rest.ensures.only line.hints [] form.hints (lits.1 ∙ sym (append-nil (hints_text line.hints ++ codes "0\n"))))

pub returns-else-is_end : goal.returns-else-is_end
returns-else-is_end c = λ line form e.
    let words = c.in-Some.ensures.only c.args.number (after_number line) c.ranges.number.fits (e ∙ line_parts c.args.number line) in
    let lits = at_some c.in_ok-words.field-0 c.in-Some-2.words _ c.in-Some-2.is (c.in_ok-words.ensures.only line.clause (hints_text line.hints ++ codes "0\n") form.within words.1) in
    let ended = at_some c.in_ok-rest.field-0 c.in-Some-3.rest _ c.in-Some-3.is (c.in_ok-rest.ensures.only line.hints [] form.hints (lits.1 ∙ sym (append-nil (hints_text line.hints ++ codes "0\n")))) in
    let some = subst (λ (hints : List ℕ). 1 ≤ length hints) (sym (c.deref-2.ensures.value ∙ ended.0)) form.some in
    both_ways _ c.if-is_end.false (c.is_end.ensures.1 (ended.1, some))
