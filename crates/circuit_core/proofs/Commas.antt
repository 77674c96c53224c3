-- Texts with commas between them, written one after another.
use Rattle.std.proofs.Common.{◌≡◌, ℕ, ◌+◌, ◌≤◌, List, [], ◌∷◌, ◌++◌, Some, refl, sym, ap, ◌∙◌, inl, inr, arith, append_assoc, drop, length}
use Rattle.std.proofs.lemmas.Bool.{cases_Bool, cond-true, cond-false, cond_both, lt-ltb}
use Rattle.std.proofs.lemmas.List.{append-nil, drop_more, drop_all}
use Rattle.std.proofs.lemmas.Option.{slice_get_within, get_or_from_slice_get}
use Rattle.std.specs.Prelude.{codes, map, nat_lt, if◌then◌else◌, slice_get}
use Rattle.std.specs.List.{flat_map}
use Rattle.circuit_core.specs.OpText.{with_commas, comma_before}

-- a comma before each
abbrev pub after_commas : List (List ℕ) → List ℕ
after_commas = flat_map (λ (text : List ℕ). codes "," ++ text)

-- the texts of a list that come after so many of it
abbrev pub commas_from : ℕ → List (List ℕ) → List ℕ
commas_from k texts = if nat_lt 0 k then after_commas texts else with_commas texts

after_first : (text : List ℕ) (texts : List (List ℕ)) → with_commas (text ∷ texts) ≡ text ++ after_commas texts
after_first text [] = sym (append-nil text)
after_first text (next ∷ texts) =
    append_assoc text (codes ",") (with_commas (next ∷ texts)) ∙ ap (λ (rest : List ℕ). text ++ (codes "," ++ rest)) (after_first next texts)

past_first : (k : ℕ) (texts : List (List ℕ)) → commas_from (k + 1) texts ≡ after_commas texts
past_first k texts = cond-true (nat_lt 0 (k + 1)) _ _ (lt-ltb 0 (k + 1) (omega arith))

one_more : (k : ℕ) (text : List ℕ) (texts : List (List ℕ)) → commas_from k (text ∷ texts) ≡ (comma_before k ++ text) ++ commas_from (k + 1) texts
one_more k text texts =
    let rest = ap (λ (rest : List ℕ). (comma_before k ++ text) ++ rest) (sym (past_first k texts)) in
    elim (cases_Bool (nat_lt 0 k)) [
      | inl later ↦ cond-true (nat_lt 0 k) _ _ later ∙ ap (λ (comma : List ℕ). (comma ++ text) ++ after_commas texts) (sym (cond-true (nat_lt 0 k) (codes ",") [] later)) ∙ rest
      | inr first ↦ cond-false (nat_lt 0 k) _ _ first ∙ after_first text texts ∙ ap (λ (comma : List ℕ). (comma ++ text) ++ after_commas texts) (sym (cond-false (nat_lt 0 k) (codes ",") [] first)) ∙ rest
    ]

-- what was written before a text of a list, and what is written after it
pub next_text : {X : Type 0} (print : X → List ℕ) (items : List X) (k : ℕ) (item : X) (out all : List ℕ) → slice_get items k ≡ Some item
    → out ++ commas_from k (map print (drop k items)) ≡ all → ((out ++ comma_before k) ++ print item) ++ commas_from (k + 1) (map print (drop (k + 1) items)) ≡ all
next_text print items k item out all at e =
    let texts = map print (drop (k + 1) items) in
    let here = drop_more items k item (slice_get_within items k item at) ∙ ap (λ x. x ∷ drop (k + 1) items) (get_or_from_slice_get items k item item at) in
    let whole = ap (λ x. out ++ commas_from k (map print x)) here ∙ ap (λ (x : List ℕ). out ++ x) (one_more k (print item) texts) in
    append_assoc (out ++ comma_before k) (print item) (commas_from (k + 1) texts)
    ∙ append_assoc out (comma_before k) (print item ++ commas_from (k + 1) texts)
    ∙ ap (λ (x : List ℕ). out ++ x) (sym (append_assoc (comma_before k) (print item) (commas_from (k + 1) texts)))
    ∙ sym whole ∙ e

nothing : (k : ℕ) → commas_from k [] ≡ []
nothing k = cond_both (nat_lt 0 k) [] [] (λ (text : List ℕ). text ≡ []) (λ e. refl) (λ e. refl)

-- after the last text of a list nothing is written
pub none_left : {X : Type 0} (print : X → List ℕ) (items : List X) (k : ℕ) (out : List ℕ) → length items ≤ k → out ++ commas_from k (map print (drop k items)) ≡ out
none_left print items k out h =
    ap (λ x. out ++ commas_from k (map print x)) (drop_all k items h) ∙ ap (λ (x : List ℕ). out ++ x) (nothing k) ∙ append-nil out
