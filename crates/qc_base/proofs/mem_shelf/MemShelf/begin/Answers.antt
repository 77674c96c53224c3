use Rattle.std.proofs.Common.{◌≡◌, subst, ℕ, List, Bool, IsTrue, Contains, ◌↔◌, ◌∙◌, eqb}
use Rattle.std.specs.List.{IsAnyAnswer}
use Rattle.std.proofs.lemmas.Bool.Decides.{Decides-eqb}
use Rattle.std.proofs.lemmas.List.Elements.{contains_decides}
use Rattle.std.proofs.lemmas.List.{get_or_default}
use Rattle.qc_base.specs.MemShelf.{Shelved}
use Rattle.qc_base.proofs.mem_shelf.MemShelf.begin.Goals as goal

contains_is : (xs : List ℕ) (x : ℕ) (r : Bool) → IsAnyAnswer (λ y b. eqb y x ≡ b) xs r → IsTrue r ↔ Contains xs x
contains_is xs x r answer =
    let found = contains_decides eqb Decides-eqb xs x r answer in
    ((λ is. let at = found.0 is in (at.0, at.1, at.2 x)), (λ at. found.1 (at.0, at.1, (λ d. get_or_default xs at.0 d x at.1 ∙ at.2))))

pub returns-clause-fails : goal.returns-clause-fails
returns-clause-fails c =
    let P : Shelved → Type 0 = λ shelf. IsTrue c.contains.result ↔ Contains shelf.fails shelf.calls in
    subst P c.self.view_is (contains_is c.self.inside.fails.items c.self.inside.calls c.contains.result (rw c.deref.ensures.value at c.contains.ensures.cases))
