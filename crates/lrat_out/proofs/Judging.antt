-- Judging hints, one after another.
use Rattle.std.proofs.Common.{◌≡◌, ℕ, zero, suc, ◌+◌, ◌<◌, ◌≤◌, List, [], ◌∷◌, ◌++◌, length, map, get_or, take, drop, refl, sym, ap, ◌∙◌, subst, arith}
use Rattle.std.specs.Prelude.{All, ◌↔◌}
use Rattle.std.proofs.lemmas.List.{length-map, drop_more, drop_all, get_or-map, take_more}
use Rattle.sat_base.specs.Literal.{Literal, negated}
use Rattle.sat_base.specs.Clauses.{HasDistinctVariables}
use Rattle.sat_base.specs.LitSet.{Adds}
use Rattle.sat_base.specs.Fresh.{IsConsistent}
use Rattle.sat_base.proofs.Clauses.{HasDistinctVariables-negated}
use Rattle.sat_base.proofs.Sets.{IsConsistent-distinct, not_open}
use Rattle.lrat_out.specs.declared.standing.Standing.{Standing}
use Rattle.lrat_out.specs.declared.standing.Standing.TheVariants.{Holds, Fails, OneOpen, MoreOpen}
use Rattle.lrat_out.specs.Lines.{Hand, clause_named}
use Rattle.lrat_out.specs.Right.{IsUnit, Propagates}
use Rattle.lrat_out.specs.Standing.{standing}
use Rattle.lrat_out.proofs.Stances.{Stands, stands}
use Rattle.lrat_out.proofs.Propagation.{consistent_push, fails_here, holds_here, more_open_here, one_open_here}

-- ---- members of a list so far

All-push : (P : ℕ → Type 0) (xs : List ℕ) (x : ℕ) → All P xs → P x → All P (xs ++ x ∷ [])
All-push P [] x all here zero d h = here
All-push P [] x all here (suc k) d h = absurd (omega arith)
All-push P (y ∷ xs) x all here zero d h = all 0 d (omega arith)
All-push P (y ∷ xs) x all here (suc k) d h = All-push P xs x (λ k d h. all (suc k) d (omega arith)) here k d (omega arith)

pub All-more : (P : ℕ → Type 0) (xs : List ℕ) (k d x : ℕ) → k < length xs → x ≡ get_or xs k d → All P (take k xs) → P x → All P (take (k + 1) xs)
All-more P xs k d x within is all here =
    subst (All P) (sym (take_more xs k d within ∙ ap (λ (y : ℕ). take k xs ++ y ∷ []) (sym is))) (All-push P (take k xs) x all here)

-- ---- hints

-- the hints propagate where those from that index on do
abbrev pub SameFrom : Hand → List ℕ → List Literal → ℕ → List Literal → Type 0
SameFrom hand hints old k trues = Propagates old (map (clause_named hand) hints) ↔ Propagates trues (drop k (map (clause_named hand) hints))

next : (hand : Hand) (hints : List ℕ) (k d hint : ℕ) (clause : List Literal) → k < length hints → hint ≡ get_or hints k d → clause ≡ clause_named hand hint → drop k (map (clause_named hand) hints) ≡ clause ∷ drop (k + 1) (map (clause_named hand) hints)
next hand hints k d hint clause within is named =
    let len : length (map (clause_named hand) hints) ≡ length hints = length-map hints (clause_named hand) in
    drop_more (map (clause_named hand) hints) k [] (omega arith)
    ∙ ap (λ (clause : List Literal). clause ∷ drop (k + 1) (map (clause_named hand) hints)) (get_or-map (clause_named hand) hints k d [] within ∙ ap (clause_named hand) (sym is) ∙ sym named)

-- how the clause stands
stands_as : (trues clause : List Literal) (s : Standing) → HasDistinctVariables clause → s ≡ standing trues clause → Stands trues clause s
stands_as trues clause s distinct is = subst (Stands trues clause) (sym is) (stands trues clause distinct)

pub fails : (hand : Hand) (hints : List ℕ) (old trues : List Literal) (k d hint : ℕ) (clause : List Literal) (s : Standing) → k < length hints → hint ≡ get_or hints k d → clause ≡ clause_named hand hint → HasDistinctVariables clause → s ≡ standing trues clause → s ≡ Fails
    → SameFrom hand hints old k trues → Propagates old (map (clause_named hand) hints)
fails hand hints old trues k d hint clause s within is named distinct stands_is all same =
    same.1 (subst (Propagates trues) (sym (next hand hints k d hint clause within is named)) (fails_here trues clause (drop (k + 1) (map (clause_named hand) hints)) (stands_as trues clause Fails distinct (sym all ∙ stands_is))))

pub holds : (hand : Hand) (hints : List ℕ) (old trues : List Literal) (k d hint : ℕ) (clause : List Literal) (s : Standing) → k < length hints → hint ≡ get_or hints k d → clause ≡ clause_named hand hint → HasDistinctVariables clause → s ≡ standing trues clause → s ≡ Holds → IsConsistent trues
    → SameFrom hand hints old k trues → Propagates old (map (clause_named hand) hints) → ⊥
holds hand hints old trues k d hint clause s within is named distinct stands_is one consistent same propagates =
    holds_here trues clause (drop (k + 1) (map (clause_named hand) hints)) consistent (stands_as trues clause Holds distinct (sym one ∙ stands_is)) (subst (Propagates trues) (next hand hints k d hint clause within is named) (same.0 propagates))

pub more_open : (hand : Hand) (hints : List ℕ) (old trues : List Literal) (k d hint : ℕ) (clause : List Literal) (s : Standing) → k < length hints → hint ≡ get_or hints k d → clause ≡ clause_named hand hint → HasDistinctVariables clause → s ≡ standing trues clause → s ≡ MoreOpen
    → SameFrom hand hints old k trues → Propagates old (map (clause_named hand) hints) → ⊥
more_open hand hints old trues k d hint clause s within is named distinct stands_is more same propagates =
    more_open_here trues clause (drop (k + 1) (map (clause_named hand) hints)) (stands_as trues clause MoreOpen distinct (sym more ∙ stands_is)) (subst (Propagates trues) (next hand hints k d hint clause within is named) (same.0 propagates))

-- the set gets the open literal
pub grown : (trues next : List Literal) (clause : List Literal) (unit : Literal) (s : Standing) → HasDistinctVariables clause → s ≡ standing trues clause → s ≡ OneOpen unit → Adds trues unit next → next ≡ trues ++ unit ∷ []
grown trues next clause unit s distinct stands_is one adds =
    let is : IsUnit trues clause unit = stands_as trues clause (OneOpen unit) distinct (sym one ∙ stands_is) in
    adds.grows (λ has. not_open trues unit unit has refl is.unassigned)

pub one_open : (hand : Hand) (hints : List ℕ) (old trues : List Literal) (k d hint : ℕ) (clause : List Literal) (unit : Literal) (s : Standing) → k < length hints → hint ≡ get_or hints k d → clause ≡ clause_named hand hint → HasDistinctVariables clause → s ≡ standing trues clause → s ≡ OneOpen unit
    → SameFrom hand hints old k trues → SameFrom hand hints old (k + 1) (trues ++ unit ∷ [])
one_open hand hints old trues k d hint clause unit s within is named distinct stands_is one same =
    let unit_is : IsUnit trues clause unit = stands_as trues clause (OneOpen unit) distinct (sym one ∙ stands_is) in
    let rest = drop (k + 1) (map (clause_named hand) hints) in
    let both = one_open_here trues clause rest unit unit_is in
    let parts = next hand hints k d hint clause within is named in (
      λ h. both.0 (subst (Propagates trues) parts (same.0 h)),
      λ h. same.1 (subst (Propagates trues) (sym parts) (both.1 h)),
    )

pub still_consistent : (trues clause : List Literal) (unit : Literal) (s : Standing) → HasDistinctVariables clause → s ≡ standing trues clause → s ≡ OneOpen unit → IsConsistent trues → IsConsistent (trues ++ unit ∷ [])
still_consistent trues clause unit s distinct stands_is one consistent =
    let is : IsUnit trues clause unit = stands_as trues clause (OneOpen unit) distinct (sym one ∙ stands_is) in
    consistent_push trues unit consistent is.unassigned

pub none_left : (hand : Hand) (hints : List ℕ) (old trues : List Literal) (k : ℕ) → length hints ≤ k → SameFrom hand hints old k trues → Propagates old (map (clause_named hand) hints) → ⊥
none_left hand hints old trues k over same propagates =
    let len : length (map (clause_named hand) hints) ≡ length hints = length-map hints (clause_named hand) in
    subst (Propagates trues) (drop_all k (map (clause_named hand) hints) (omega arith)) (same.0 propagates)

-- the negations of a clause's literals
pub consistent_negated : (trues clause : List Literal) → trues ≡ map negated clause → HasDistinctVariables clause → IsConsistent trues
consistent_negated trues clause are distinct = subst IsConsistent (sym are) (IsConsistent-distinct (map negated clause) (HasDistinctVariables-negated clause distinct))
