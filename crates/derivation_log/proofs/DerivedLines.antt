-- Derived lines whose clauses and hints are kept in two lists.
use Rattle.std.proofs.Common.{◌≡◌, ℕ, suc, ◌+◌, List, [], ◌∷◌, ◌++◌, length, refl, ap, ◌∙◌, sym, arith, length-append}
use Rattle.sat_base.specs.Literal.{Literal}
use Rattle.derivation_log.specs.declared.line_id.LineId.{LineId}
use Rattle.derivation_log.specs.Log.{Derived, clauses_of, hints_in}
use Rattle.derivation_log.specs.DerivedLines.{lines_of}

pub length-lines_of : (clauses : List (List Literal)) (chains : List (List LineId)) → length clauses ≡ length chains → length (lines_of clauses chains) ≡ length clauses
length-lines_of [] chains same = refl
length-lines_of (clause ∷ clauses) [] same = absurd (omega arith)
length-lines_of (clause ∷ clauses) (hints ∷ chains) same = ap suc (length-lines_of clauses chains (omega arith))

pub clauses_of-lines_of : (clauses : List (List Literal)) (chains : List (List LineId)) → length clauses ≡ length chains → clauses_of (lines_of clauses chains) ≡ clauses
clauses_of-lines_of [] chains same = refl
clauses_of-lines_of (clause ∷ clauses) [] same = absurd (omega arith)
clauses_of-lines_of (clause ∷ clauses) (hints ∷ chains) same = ap (λ (rest : List (List Literal)). clause ∷ rest) (clauses_of-lines_of clauses chains (omega arith))

pub hints_in-lines_of : (clauses : List (List Literal)) (chains : List (List LineId)) → length clauses ≡ length chains → hints_in (lines_of clauses chains) ≡ chains
hints_in-lines_of [] [] same = refl
hints_in-lines_of [] (hints ∷ chains) same = absurd (omega arith)
hints_in-lines_of (clause ∷ clauses) [] same = absurd (omega arith)
hints_in-lines_of (clause ∷ clauses) (hints ∷ chains) same = ap (λ (rest : List (List LineId)). hints ∷ rest) (hints_in-lines_of clauses chains (omega arith))

-- a clause and its hints at the end are a line at the end
pub lines_of-push : (clauses : List (List Literal)) (chains : List (List LineId)) (clause : List Literal) (hints : List LineId) → length clauses ≡ length chains
    → lines_of (clauses ++ clause ∷ []) (chains ++ hints ∷ []) ≡ lines_of clauses chains ++ record { clause = clause; hints = hints } ∷ []
lines_of-push [] [] clause hints same = refl
lines_of-push [] (first ∷ chains) clause hints same = absurd (omega arith)
lines_of-push (first ∷ clauses) [] clause hints same = absurd (omega arith)
lines_of-push (first ∷ clauses) (chain ∷ chains) clause hints same =
    ap (λ (lines : List Derived). record { clause = first; hints = chain } ∷ lines) (lines_of-push clauses chains clause hints (omega arith))

-- two lists as long as each other still are with one more in each
pub same_length-push : {X Y : Type 0} (xs : List X) (x : X) (ys : List Y) (y : Y) → length xs ≡ length ys → length (xs ++ x ∷ []) ≡ length (ys ++ y ∷ [])
same_length-push xs x ys y same = length-append xs (x ∷ []) ∙ ap (λ (n : ℕ). n + 1) same ∙ sym (length-append ys (y ∷ []))
