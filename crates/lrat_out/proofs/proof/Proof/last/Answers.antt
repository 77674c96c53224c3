use Rattle.std.proofs.Common.{◌≡◌, ℕ, ◌-◌, ◌≤◌, List, Some, length, sym, ap, ◌∙◌, subst}
use Rattle.std.specs.Prelude.{slice_get}
use Rattle.lrat_out.specs.Lines.{Hand, IsNumber, last_number}
use Rattle.lrat_out.proofs.Numbers.{last_some, all_within}
use Rattle.lrat_out.proofs.proof.Proof.last.Goals as goal

pub returns-in-Some-clause-last : goal.returns-in-Some-clause-last
returns-in-Some-clause-last c =
    let read = subst (λ (numbers : List ℕ). Some c.in-Some.number.now ≡ slice_get numbers (length numbers - 1)) c.deref.ensures.value c.in-Some.ensures.value in
    last_some (length c.self.inside.formula.now) c.self.inside.numbers.items c.self.inside.clauses c.in-Some.number.now c.self.invariant.0 read ∙ ap (λ (hand : Hand). last_number hand) c.self.view_is

pub returns-in-Some-clause-all : goal.returns-in-Some-clause-all
returns-in-Some-clause-all c = λ number is.
    let read = subst (λ (numbers : List ℕ). Some c.in-Some.number.now ≡ slice_get numbers (length numbers - 1)) c.deref.ensures.value c.in-Some.ensures.value in
    let last = last_some (length c.self.inside.formula.now) c.self.inside.numbers.items c.self.inside.clauses c.in-Some.number.now c.self.invariant.0 read in
    let within = all_within c.self.inside.formula.now c.self.inside.numbers.items c.self.inside.clauses number c.self.invariant.1 (subst (λ (hand : Hand). IsNumber hand number) (sym c.self.view_is) is) in
    (within.0, subst (λ (n : ℕ). number ≤ n) (sym last) within.1)
