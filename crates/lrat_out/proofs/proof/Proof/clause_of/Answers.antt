use Rattle.std.proofs.Common.{◌≡◌, ◌≢◌, ℕ, ◌+◌, ◌-◌, ◌<◌, List, [], inr, length, slice_index_or, ap, ◌∙◌, subst, arith}
use Rattle.std.specs.Prelude.{All}
use Rattle.lrat_out.specs.Lines.{Hand, IsNumber, clause_named}
use Rattle.lrat_out.specs.Proof.{numbered}
use Rattle.lrat_out.proofs.Numbers.{not_zero, no_number, if_none, have_at, clause_in-at, named_late}
use Rattle.lrat_out.proofs.proof.Proof.clause_of.Goals as goal

pub returns-then-number-eq0-clause-none : goal.returns-then-number-eq0-clause-none
returns-then-number-eq0-clause-none c =
    subst (λ (hand : Hand). IsNumber hand c.args.number → ⊥) c.self.view_is
    (not_zero c.self.inside.formula.now c.self.inside.numbers.items c.self.inside.clauses c.args.number c.self.invariant.1 c.if-number-eq0.true)

pub returns-in_err-index-clause-none : goal.returns-in_err-index-clause-none
returns-in_err-index-clause-none c =
    let high : length c.self.inside.formula.now < c.args.number = omega (arith, c.if-number-axioms.false, c.len-axioms.ensures) in
    let none = subst (λ (numbers : List ℕ). All (λ other. other ≢ c.args.number) numbers) c.deref.ensures.value c.in_err-index.ensures.none in
    if_none c.from_residual.result _ (subst (λ (hand : Hand). IsNumber hand c.args.number → ⊥) c.self.view_is
    (no_number c.self.inside.formula.now c.self.inside.numbers.items c.self.inside.clauses c.args.number high none))

pub returns-clause-found : goal.returns-clause-found
returns-clause-found c =
    let within = subst (λ (numbers : List ℕ). c.in_ok-index.index < length numbers) c.deref.ensures.value c.in_ok-index.ensures.found.0 in
    let is = subst (λ (numbers : List ℕ). slice_index_or numbers c.in_ok-index.index 0 ≡ c.args.number) c.deref.ensures.value c.in_ok-index.ensures.found.1 in
    subst (λ (hand : Hand). IsNumber hand c.args.number) c.self.view_is
    (inr (have_at c.self.inside.numbers.items c.self.inside.clauses c.in_ok-index.index c.args.number 0 c.self.invariant.0 within is))

pub returns-clause-clause : goal.returns-clause-clause
returns-clause-clause c =
    let high : length c.self.inside.formula.now < c.args.number = omega (arith, c.if-number-axioms.false, c.len-axioms.ensures) in
    let within = subst (λ (numbers : List ℕ). c.in_ok-index.index < length numbers) c.deref.ensures.value c.in_ok-index.ensures.found.0 in
    let is = subst (λ (numbers : List ℕ). slice_index_or numbers c.in_ok-index.index 0 ≡ c.args.number) c.deref.ensures.value c.in_ok-index.ensures.found.1 in
    let e : c.in_ok-index.index + 1 - 1 ≡ c.in_ok-index.index = omega arith in
    c.clause-2.ensures.clause ∙ ap (λ (k : ℕ). slice_index_or c.self.inside.clauses k []) e
    ∙ clause_in-at (length c.self.inside.formula.now) c.self.inside.numbers.items c.self.inside.clauses c.in_ok-index.index c.args.number 0 c.self.invariant.0 c.self.invariant.1 within is
    ∙ named_late c.self.inside.formula.now (numbered c.self.inside.numbers.items c.self.inside.clauses) c.args.number high
    ∙ ap (λ (hand : Hand). clause_named hand c.args.number) c.self.view_is
