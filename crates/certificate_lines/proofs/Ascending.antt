-- Whether literals ascend, one after another.
use Rattle.std.proofs.Common.{◌≡◌, ℕ, ◌+◌, ◌<◌, ◌≤◌, List, ◌∷◌, length, get_or, drop, sym, ap, ◌∙◌, subst, arith}
use Rattle.std.specs.Prelude.{◌↔◌}
use Rattle.std.proofs.lemmas.List.{drop_more, drop_all}
use Rattle.sat_base.specs.Literal.{Literal}
use Rattle.sat_base.specs.Clauses.{EachVariable}
use Rattle.sat_base.specs.Derivation.{IsAscending}
use Rattle.sat_base.proofs.Clauses.{EachVariable-weaken}

-- the literals ascend, and are above that variable
abbrev pub AscendFrom : ℕ → List Literal → Type 0
AscendFrom above lits = EachVariable (λ var. above < var) lits × IsAscending lits

pub from_start : (lits : List Literal) → EachVariable (λ var. 1 ≤ var) lits → IsAscending lits ↔ AscendFrom 0 lits
from_start lits each = (λ h. (EachVariable-weaken (λ var. 1 ≤ var) (λ var. 0 < var) lits (λ var low. omega arith) each, h), λ h. h.1)

parts : (lits : List Literal) (k : ℕ) (x : Literal) → k < length lits → x ≡ get_or lits k x → drop k lits ≡ x ∷ drop (k + 1) lits
parts lits k x within is = drop_more lits k x within ∙ ap (λ (y : Literal). y ∷ drop (k + 1) lits) (sym is)

pub goes_on : (lits : List Literal) (k above : ℕ) (x : Literal) → k < length lits → x ≡ get_or lits k x → above < x.var → IsAscending lits ↔ AscendFrom above (drop k lits) → IsAscending lits ↔ AscendFrom x.var (drop (k + 1) lits)
goes_on lits k above x within is higher both =
    let next = parts lits k x within is in (
      λ h. (subst (AscendFrom above) next (both.0 h)).1,
      λ h. both.1 (subst (AscendFrom above) (sym next) ((higher, EachVariable-weaken (λ var. x.var < var) (λ var. above < var) (drop (k + 1) lits) (λ var low. omega arith) h.0), h)),
    )

pub falls : (lits : List Literal) (k above : ℕ) (x : Literal) → k < length lits → x ≡ get_or lits k x → x.var ≤ above → IsAscending lits ↔ AscendFrom above (drop k lits) → IsAscending lits → ⊥
falls lits k above x within is low both h = let higher = (subst (AscendFrom above) (parts lits k x within is) (both.0 h)).0.0 in omega arith

pub all_ascend : (lits : List Literal) (k above : ℕ) → length lits ≤ k → IsAscending lits ↔ AscendFrom above (drop k lits) → IsAscending lits
all_ascend lits k above over both = both.1 (subst (AscendFrom above) (sym (drop_all k lits over)) (tt, tt))
