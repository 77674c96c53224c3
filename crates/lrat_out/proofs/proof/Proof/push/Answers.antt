use Rattle.std.proofs.Common.{◌≡◌, ℕ, ◌<◌, List, [], ◌∷◌, ◌++◌, sym, ap, ◌∙◌, subst}
use Rattle.lrat_out.specs.Lines.{Hand, Numbered, after, last_number}
use Rattle.lrat_out.specs.Proof.{numbered, proof_line_of}
use Rattle.lrat_out.proofs.Numbers.{numbered_push, pushed}
use Rattle.lrat_out.proofs.proof.Proof.push.Goals as goal

pub invariant_of-self-2 : goal.invariant_of-self-2
invariant_of-self-2 c =
    let above = subst (λ (hand : Hand). last_number hand < c.args.number) (sym c.self.view_is) c.requires.above in
    let numbers_are : c.push-2.new.self.items ≡ c.self.inside.numbers.items ++ c.args.number ∷ [] = c.in_ok-push-2.ensures.items ∙ ap (λ (xs : List ℕ). xs ++ c.args.number ∷ []) c.in_ok-reserve.ensures.items in
    rw (numbers_are, c.in_ok-push.ensures.ok) (pushed c.self.inside.formula.now c.self.inside.numbers.items c.self.inside.clauses c.args.number c.args.clause.now c.self.invariant.0 c.self.invariant.1 above)

pub returns-clause-ok : goal.returns-clause-ok
returns-clause-ok c =
    let numbers_are : c.push-2.new.self.items ≡ c.self.inside.numbers.items ++ c.args.number ∷ [] = c.in_ok-push-2.ensures.items ∙ ap (λ (xs : List ℕ). xs ++ c.args.number ∷ []) c.in_ok-reserve.ensures.items in
    let clauses_are : c.push.new.self ≡ c.self.inside.clauses ++ c.args.clause.now ∷ [] = c.in_ok-push.ensures.ok in
    let lines_are = (λ i. numbered (numbers_are i) (clauses_are i)) ∙ numbered_push c.self.inside.numbers.items c.self.inside.clauses c.args.number c.args.clause.now c.self.invariant.0 in
    ap (λ (lines : List Numbered). record { formula = c.self.inside.formula.now; lines = lines }) lines_are ∙ ap (λ (hand : Hand). after hand (proof_line_of c.args.number c.args.clause.now [])) c.self.view_is
