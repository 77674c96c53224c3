-- A word that ends at a sign or at the end is read in one way; so are the labels of a line.
use Rattle.std.proofs.Common.{◌≡◌, ℕ, ◌<◌, ◌≤◌, zero, suc, Some, List, [], ◌∷◌, ◌++◌, length, refl, sym, ap, ◌∙◌, arith, append_assoc, append-nil, length-append, subst}
use Rattle.std.specs.Prelude.{All, codes}
use Rattle.std.proofs.lemmas.List.{get_or_at}
use Rattle.qc_base.specs.declared.ids.Qubit.{Qubit}
use Rattle.qc_base.specs.Spelling.{IsFree}
use Rattle.circuit_core.specs.Circuit.{CircuitValue, IsCircuit, qubit_count}
use Rattle.circuit_core.specs.Label.{label, labelled}
use Rattle.circuit_core.proofs.CircuitLabels.{label_free, label_one, labelled_there, labelled_is, one_qubit}
use Rattle.schedule_text.specs.Text.{labels_text}
use Rattle.schedule_text.specs.Words.{EndsWord}
use Rattle.schedule_text.proofs.Lines.{free_append}

same_word : (sign : ℕ) (word other rest more : List ℕ) → IsFree sign word → IsFree sign other → EndsWord sign rest → EndsWord sign more → word ++ rest ≡ other ++ more → (word ≡ other) × (rest ≡ more)
same_word sign [] [] rest more free also ends too e = (refl, e)
same_word sign [] (b ∷ other) [] more free also ends too e = cc
same_word sign [] (b ∷ other) (x ∷ rest) more free also ends too e = let first : b ≡ x = cc in absurd (also 0 0 (omega arith) (first ∙ ends))
same_word sign (a ∷ word) [] rest [] free also ends too e = cc
same_word sign (a ∷ word) [] rest (x ∷ more) free also ends too e = let first : a ≡ x = cc in absurd (free 0 0 (omega arith) (first ∙ too))
same_word sign (a ∷ word) (b ∷ other) rest more free also ends too e =
    let p = same_word sign word other rest more (λ k d h. free (suc k) d (omega arith)) (λ k d h. also (suc k) d (omega arith)) ends too cc in
    let same : word ≡ other = p.0 in
    let first : a ≡ b = cc in
    (rw (same, first) refl, p.1)

-- labels that end are one
same_label : (circuit : CircuitValue) (a b : Qubit) (rest more : List ℕ) → IsCircuit circuit → a.0 < qubit_count circuit → b.0 < qubit_count circuit → EndsWord 32 rest → EndsWord 32 more
    → label circuit a ++ rest ≡ label circuit b ++ more → (a ≡ b) × (rest ≡ more)
same_label circuit a b rest more c ha hb ends too e =
    let p = same_word 32 (label circuit a) (label circuit b) rest more (label_free circuit a.0 32 c ha refl) (label_free circuit b.0 32 c hb refl) ends too e in
    let same : a.0 ≡ b.0 = label_one circuit a.0 b.0 c ha hb p.0 in
    (one_qubit a b same, p.1)

-- the label that was found
pub label_found : (circuit : CircuitValue) (qubit : Qubit) (words word rest : List ℕ) → words ≡ word ++ rest → labelled circuit word ≡ Some qubit.0 → codes " " ++ words ≡ codes " " ++ label circuit qubit ++ rest
label_found circuit qubit words word rest parts found = let there = (labelled_there circuit word qubit.0 found).1 in rw (parts, there) refl

-- the label that is there
pub label_is : (circuit : CircuitValue) (qubit : Qubit) (words word rest more : List ℕ) → IsCircuit circuit → qubit.0 < qubit_count circuit → IsFree 32 word → EndsWord 32 rest → EndsWord 32 more → words ≡ word ++ rest
    → words ≡ label circuit qubit ++ more → (labelled circuit word ≡ Some qubit.0) × (rest ≡ more)
label_is circuit qubit words word rest more c h free ends too parts e =
    let p = same_word 32 word (label circuit qubit) rest more free (label_free circuit qubit.0 32 c h refl) ends too (sym parts ∙ e) in
    (labelled_is circuit word qubit.0 c h (sym p.0), p.1)

-- ---- the labels of a line

pub labels_end : (circuit : CircuitValue) (list : List Qubit) → EndsWord 32 (labels_text circuit list)
labels_end circuit [] = tt
labels_end circuit (qubit ∷ list) = refl

labels_end_too : (circuit : CircuitValue) (list : List Qubit) (rest : List ℕ) → EndsWord 32 rest → EndsWord 32 (labels_text circuit list ++ rest)
labels_end_too circuit [] rest ends = ends
labels_end_too circuit (qubit ∷ list) rest ends = refl

gap_free : IsFree 10 (32 ∷ [])
gap_free zero d h e = absurd (omega (arith, e))
gap_free (suc k) d h e = absurd (omega arith)

pub labels_free : (circuit : CircuitValue) (list : List Qubit) → IsCircuit circuit → All (λ (qubit : Qubit). qubit.0 < qubit_count circuit) list → IsFree 10 (labels_text circuit list)
labels_free circuit [] c all = λ k d h. absurd (omega arith)
labels_free circuit (qubit ∷ list) c all =
    let space : IsFree 10 (32 ∷ []) = gap_free in
    free_append 10 (codes " " ++ label circuit qubit) (labels_text circuit list) (free_append 10 (32 ∷ []) (label circuit qubit) space (label_free circuit qubit.0 10 c (all 0 qubit (omega arith)) refl))
    (labels_free circuit list c (λ k d h. all (suc k) d (omega arith)))

both_grow : (a b : Qubit) (list full more : List Qubit) → a ≡ b → full ≡ list ++ more → b ∷ full ≡ (a ∷ list) ++ more
both_grow a b list full more e f = cc

-- qubits whose labels begin those of others begin these
pub labels_go_on : (circuit : CircuitValue) (list full : List Qubit) (rest : List ℕ) → IsCircuit circuit → All (λ (qubit : Qubit). qubit.0 < qubit_count circuit) list → All (λ (qubit : Qubit). qubit.0 < qubit_count circuit) full
    → (0 < length list → EndsWord 32 rest) → labels_text circuit list ++ rest ≡ labels_text circuit full → (more : List Qubit) × (full ≡ list ++ more) × (rest ≡ labels_text circuit more)
labels_go_on circuit [] full rest c all also ends e = (full, refl, e)
labels_go_on circuit (a ∷ list) [] rest c all also ends e = cc
labels_go_on circuit (a ∷ list) (b ∷ full) rest c all also ends e =
    let ended = ends (omega arith) in
    let whole : label circuit a ++ (labels_text circuit list ++ rest) ≡ label circuit b ++ labels_text circuit full = sym (append_assoc (label circuit a) (labels_text circuit list) rest) ∙ cc in
    let first = same_label circuit a b (labels_text circuit list ++ rest) (labels_text circuit full) c (all 0 a (omega arith)) (also 0 b (omega arith)) (labels_end_too circuit list rest ended) (labels_end circuit full) whole in
    let more = labels_go_on circuit list full rest c (λ k d h. all (suc k) d (omega arith)) (λ k d h. also (suc k) d (omega arith)) (λ h. ended) first.1 in
    (more.0, both_grow a b list full more.0 first.0 more.1, more.2)

no_more : (circuit : CircuitValue) (list : List Qubit) → length (labels_text circuit list) ≡ 0 → list ≡ []
no_more circuit [] e = refl
no_more circuit (qubit ∷ list) e = absurd (omega (arith, e))

first_refused : (circuit : CircuitValue) (list more : List Qubit) (rest : List ℕ) → All (λ (qubit : Qubit). qubit.0 < qubit_count circuit) (list ++ more) → 0 < length rest
    → ((qubit : Qubit) (after : List ℕ) → qubit.0 < qubit_count circuit → EndsWord 32 after → rest ≡ codes " " ++ label circuit qubit ++ after → ⊥) → rest ≡ labels_text circuit more → ⊥
first_refused circuit list [] rest all some refused e = omega (arith, ap length e)
first_refused circuit list (qubit ∷ more) rest all some refused e =
    let here = get_or_at list qubit more qubit (length list) refl in
    let small = all (length list) qubit (omega (arith, length-append list (qubit ∷ more))) in
    refused qubit (labels_text circuit more) (rw here at small) (labels_end circuit more) e

past_all : (circuit : CircuitValue) (list full more : List Qubit) (rest : List ℕ) (capacity : ℕ) → 0 < length rest → capacity ≤ length list → length full ≤ capacity → full ≡ list ++ more → rest ≡ labels_text circuit more → ⊥
past_all circuit list full [] rest capacity some many few full_is e = omega (arith, some, ap length e)
past_all circuit list full (qubit ∷ more) rest capacity some many few full_is e = omega (arith, many, few, ap length full_is, length-append list (qubit ∷ more))

-- all labels are read
pub labels_all : (circuit : CircuitValue) (list full : List Qubit) (rest words : List ℕ) → IsCircuit circuit → All (λ (qubit : Qubit). qubit.0 < qubit_count circuit) list → All (λ (qubit : Qubit). qubit.0 < qubit_count circuit) full
    → (0 < length list → EndsWord 32 rest) → length rest ≡ 0 → words ≡ labels_text circuit list ++ rest → words ≡ labels_text circuit full → list ≡ full
labels_all circuit list full rest words c all also ends none parts e =
    let more = labels_go_on circuit list full rest c all also ends (sym parts ∙ e) in
    let left = no_more circuit more.0 (sym (ap length more.2) ∙ none) in
    sym (append-nil list) ∙ ap (λ (others : List Qubit). list ++ others) (sym left) ∙ sym more.1

-- what continues with no label is no labels
pub labels_none : (circuit : CircuitValue) (list full : List Qubit) (rest words : List ℕ) → IsCircuit circuit → All (λ (qubit : Qubit). qubit.0 < qubit_count circuit) list → All (λ (qubit : Qubit). qubit.0 < qubit_count circuit) full
    → (0 < length list → EndsWord 32 rest) → 0 < length rest → ((qubit : Qubit) (after : List ℕ) → qubit.0 < qubit_count circuit → EndsWord 32 after → rest ≡ codes " " ++ label circuit qubit ++ after → ⊥)
    → words ≡ labels_text circuit list ++ rest → words ≡ labels_text circuit full → ⊥
labels_none circuit list full rest words c all also ends some refused parts e =
    let more = labels_go_on circuit list full rest c all also ends (sym parts ∙ e) in
    first_refused circuit list more.0 rest (subst (λ (qubits : List Qubit). All (λ (qubit : Qubit). qubit.0 < qubit_count circuit) qubits) more.1 also) some refused more.2

-- more labels than fit are read before the end
pub labels_past : (circuit : CircuitValue) (list full : List Qubit) (rest words : List ℕ) (capacity : ℕ) → IsCircuit circuit → All (λ (qubit : Qubit). qubit.0 < qubit_count circuit) list
    → All (λ (qubit : Qubit). qubit.0 < qubit_count circuit) full → (0 < length list → EndsWord 32 rest) → 0 < length rest → capacity ≤ length list → length full ≤ capacity
    → words ≡ labels_text circuit list ++ rest → words ≡ labels_text circuit full → ⊥
labels_past circuit list full rest words capacity c all also ends some many few parts e =
    let more = labels_go_on circuit list full rest c all also ends (sym parts ∙ e) in
    past_all circuit list full more.0 rest capacity some many few more.1 more.2
