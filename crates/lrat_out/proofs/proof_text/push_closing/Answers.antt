use Rattle.std.proofs.Common.{◌≡◌, ℕ, ◌+◌, List, [], ◌++◌, length, sym, ap, ◌∙◌}
use Rattle.std.specs.Prelude.{decimal, codes}
use Rattle.std.proofs.lemmas.Bool.{eqb-false}
use Rattle.sat_base.specs.Literal.{Literal}
use Rattle.derivation_log.specs.Log.{derived_id, clause_of}
use Rattle.lrat_out.proofs.Writing.{closing_written}
use Rattle.lrat_out.proofs.proof_text.push_closing.Goals as goal

pub returns : goal.returns
returns c =
    let last = c.args.last in
    let axioms = c.axioms-goal.ensures.axioms in
    let some : clause_of c.args.log.now (derived_id last) ≡ [] → ⊥ = λ e. eqb-false (length c.clause.result.now) 0 (sym c.is_empty.ensures ∙ c.if-is_empty.false) (ap (λ (clause : List Literal). length clause) (c.clause.ensures ∙ e)) in
    closing_written _ _ _ _ _ _ (length c.args.log.now.axioms) last (clause_of c.args.log.now (derived_id last)) some
    (c.in_ok-push_word.ensures ∙ ap (λ (n : ℕ). c.args.out.now.items ++ (decimal (n + 1 + last + 1) ++ codes " ")) axioms)
    c.in_ok-extend_from_slice.ensures.items
    (c.in_ok-push_word-2.ensures ∙ ap (λ (n : ℕ). c.extend_from_slice.new.self.items ++ (decimal (n + 1) ++ codes " ")) axioms)
    (c.in_ok-push_word-3.ensures ∙ ap (λ (n : ℕ). c.push_word-2.new.out.items ++ (decimal (n + 1 + last) ++ codes " ")) axioms)
    c.in_ok-extend_from_slice-2.ensures.items
