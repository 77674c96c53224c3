-- The text of a proof, written part by part.
use Rattle.std.proofs.Common.{◌≡◌, ℕ, suc, ◌+◌, ◌-◌, ◌<◌, ◌≤◌, ◌^◌, Bool, true, false, cond, List, [], ◌∷◌, ◌++◌, length, map, take, get_or, slice_index_or, refl, sym, ap, ◌∙◌, subst, arith, append_assoc, length-append}
use Rattle.std.specs.Prelude.{All, reverse, decimal, codes}
use Rattle.std.specs.List.{flat_map}
use Rattle.std.proofs.lemmas.List.{append-nil, map-append, reverse-append, take_more, get_or_append_left, get_or_at, length-take-le}
use Rattle.sat_base.specs.Literal.{Literal}
use Rattle.sat_base.specs.Certificate.{literals_text, hints_text, line_text}
use Rattle.derivation_log.specs.declared.line_id.LineId.{LineId}
use Rattle.derivation_log.specs.Log.{Derived, Lines, derived_id, IsLine, IsSound, clause_of, hints_of}
use Rattle.derivation_log.specs.Printing.{number_of}
use Rattle.derivation_log.proofs.Texts.{no_line, at, clause_at_index, hints_at_index, follows_at}
use Rattle.lrat_out.specs.declared.standing.Standing.{Standing}
use Rattle.lrat_out.specs.declared.standing.Standing.TheVariants.{Holds, Fails, OneOpen, MoreOpen}
use Rattle.lrat_out.specs.Lines.{ProofLine, Numbered, proof_line_text, lrat_text}
use Rattle.lrat_out.specs.Standing.{standing}
use Rattle.lrat_out.specs.Export.{kept, thin, hint_of, proof_line, proof_lines_from, closing_lines}
use Rattle.lrat_out.specs.Proof.{derived_text, NumbersFit}

-- ---- texts of members, one more

pub flat_push : {X : Type 0} (f : X → List ℕ) (xs : List X) (x : X) → flat_map f (xs ++ x ∷ []) ≡ flat_map f xs ++ f x
flat_push f [] x = append-nil (f x)
flat_push f (y ∷ xs) x = ap (λ (text : List ℕ). f y ++ text) (flat_push f xs x) ∙ sym (append_assoc (f y) (flat_map f xs) (f x))

-- one member more was written
pub one_more : {X : Type 0} (f : X → List ℕ) (xs : List X) (k : ℕ) (d x : X) (old out new : List ℕ) → k < length xs → x ≡ get_or xs k d → out ≡ old ++ flat_map f (take k xs) → new ≡ out ++ f x → new ≡ old ++ flat_map f (take (k + 1) xs)
one_more f xs k d x old out new within is so_far more =
    let grown = ap (flat_map f) (take_more xs k d within ∙ ap (λ (y : _). take k xs ++ y ∷ []) (sym is)) ∙ flat_push f (take k xs) x in
    more ∙ ap (λ (text : List ℕ). text ++ f x) so_far ∙ append_assoc old (flat_map f (take k xs)) (f x) ∙ ap (λ (text : List ℕ). old ++ text) (sym grown)

-- ---- hints

pub All-front : {X : Type 0} (P : X → Type 0) (xs ys : List X) → All P (xs ++ ys) → All P xs
All-front P xs ys all k d h = subst P (get_or_append_left xs ys d k h) (all k d (omega (arith, length-append xs ys)))

pub All-last : {X : Type 0} (P : X → Type 0) (xs : List X) (x : X) → All P (xs ++ x ∷ []) → P x
All-last P xs x all = subst P (get_or_at xs x [] x (length xs) refl) (all (length xs) x (omega (arith, length-append xs (x ∷ []))))

last_first : (log : Lines) (hints before : List LineId) (hint : LineId) → hints ≡ before ++ hint ∷ [] → reverse (map (hint_of log) hints) ≡ hint_of log hint ∷ reverse (map (hint_of log) before)
last_first log hints before hint is =
    ap (λ (xs : List LineId). reverse (map (hint_of log) xs)) is ∙ ap reverse (map-append (hint_of log) before (hint ∷ [])) ∙ reverse-append (map (hint_of log) before) (hint_of log hint ∷ [])

-- the text of the hints that are kept
abbrev pub kept_text : Lines → List Literal → List LineId → List ℕ
kept_text log trues hints = hints_text (thin trues (reverse (map (hint_of log) hints)))

by_last : (log : Lines) (trues : List Literal) (hints before : List LineId) (hint : LineId) (s : Standing) → hints ≡ before ++ hint ∷ [] → s ≡ standing trues (clause_of log hint)
    → kept_text log trues hints ≡ hints_text (kept s (number_of (length log.axioms + 1) hint) (λ trues. thin trues (reverse (map (hint_of log) before))) trues)
by_last log trues hints before hint s is stands =
    ap (λ (xs : List Numbered). hints_text (thin trues xs)) (last_first log hints before hint is)
    ∙ ap (λ (s : Standing). hints_text (kept s (number_of (length log.axioms + 1) hint) (λ trues. thin trues (reverse (map (hint_of log) before))) trues)) (sym stands)

pub leaves_out : (log : Lines) (trues : List Literal) (hints before : List LineId) (hint : LineId) (s : Standing) (out whole : List ℕ) → hints ≡ before ++ hint ∷ [] → s ≡ standing trues (clause_of log hint) → s ≡ Holds
    → out ++ kept_text log trues hints ≡ whole → out ++ kept_text log trues before ≡ whole
leaves_out log trues hints before hint s out whole is stands holds so_far =
    ap (λ (text : List ℕ). out ++ text) (sym (by_last log trues hints before hint Holds is (sym holds ∙ stands))) ∙ so_far

pub ends_with : (log : Lines) (trues : List Literal) (hints before : List LineId) (hint : LineId) (s : Standing) (out new whole : List ℕ) → hints ≡ before ++ hint ∷ [] → s ≡ standing trues (clause_of log hint) → s ≡ Fails
    → new ≡ out ++ (decimal (number_of (length log.axioms + 1) hint) ++ codes " ") → out ++ kept_text log trues hints ≡ whole → new ≡ whole
ends_with log trues hints before hint s out new whole is stands fails written so_far =
    let word = decimal (number_of (length log.axioms + 1) hint) ++ codes " " in
    written ∙ ap (λ (text : List ℕ). out ++ text) (sym (append-nil word) ∙ sym (by_last log trues hints before hint Fails is (sym fails ∙ stands))) ∙ so_far

pub keeps_unit : (log : Lines) (trues next : List Literal) (hints before : List LineId) (hint : LineId) (s : Standing) (unit : Literal) (out new whole : List ℕ) → hints ≡ before ++ hint ∷ [] → s ≡ standing trues (clause_of log hint) → s ≡ OneOpen unit
    → next ≡ trues ++ unit ∷ [] → new ≡ out ++ (decimal (number_of (length log.axioms + 1) hint) ++ codes " ") → out ++ kept_text log trues hints ≡ whole → new ++ kept_text log next before ≡ whole
keeps_unit log trues next hints before hint s unit out new whole is stands one added written so_far =
    let word = decimal (number_of (length log.axioms + 1) hint) ++ codes " " in
    ap (λ (trues : List Literal). new ++ kept_text log trues before) added
    ∙ ap (λ (text : List ℕ). text ++ kept_text log (trues ++ unit ∷ []) before) written
    ∙ append_assoc out word (kept_text log (trues ++ unit ∷ []) before)
    ∙ ap (λ (text : List ℕ). out ++ text) (sym (by_last log trues hints before hint (OneOpen unit) is (sym one ∙ stands))) ∙ so_far

pub keeps_open : (log : Lines) (trues : List Literal) (hints before : List LineId) (hint : LineId) (s : Standing) (out new whole : List ℕ) → hints ≡ before ++ hint ∷ [] → s ≡ standing trues (clause_of log hint) → s ≡ MoreOpen
    → new ≡ out ++ (decimal (number_of (length log.axioms + 1) hint) ++ codes " ") → out ++ kept_text log trues hints ≡ whole → new ++ kept_text log trues before ≡ whole
keeps_open log trues hints before hint s out new whole is stands more written so_far =
    let word = decimal (number_of (length log.axioms + 1) hint) ++ codes " " in
    ap (λ (text : List ℕ). text ++ kept_text log trues before) written
    ∙ append_assoc out word (kept_text log trues before)
    ∙ ap (λ (text : List ℕ). out ++ text) (sym (by_last log trues hints before hint MoreOpen is (sym more ∙ stands))) ∙ so_far

pub all_written : (log : Lines) (trues : List Literal) (hints : List LineId) (out whole : List ℕ) → length hints ≡ 0 → out ++ kept_text log trues hints ≡ whole → out ≡ whole
all_written log trues [] out whole none so_far = sym (append-nil out) ∙ so_far
all_written log trues (hint ∷ hints) out whole none so_far = absurd (omega arith)

-- ---- lines

pub line_written : (a b c d e f : List ℕ) (number : ℕ) (clause : List Literal) (hints : List ℕ) → b ≡ a ++ (decimal number ++ codes " ") → c ≡ b ++ literals_text clause → d ≡ c ++ codes "0 " → e ≡ d ++ hints_text hints → f ≡ e ++ codes "0\n" → f ≡ a ++ line_text number (record { clause = clause; hints = hints })
line_written a b c d e f number clause hints p q r s t =
    parts a b c d e f (decimal number) (codes " ") (literals_text clause) (codes "0 ") (hints_text hints) (codes "0\n") p q r s t
  where
    parts : (a b c d e f u v w x y z : List ℕ) → b ≡ a ++ (u ++ v) → c ≡ b ++ w → d ≡ c ++ x → e ≡ d ++ y → f ≡ e ++ z → f ≡ a ++ (u ++ v ++ w ++ x ++ y ++ z)
    parts a b c d e f u v w x y z p q r s t = simp (t, s, r, q, p, append_assoc)

proof_lines_push : (log : Lines) (k : ℕ) (lines : List Derived) (line : Derived) → proof_lines_from log k (lines ++ line ∷ []) ≡ proof_lines_from log k lines ++ proof_line log (k + length lines) line ∷ []
proof_lines_push log k [] line = let e : k + 0 ≡ k = omega arith in ap (λ (n : ℕ). proof_line log n line ∷ []) (sym e)
proof_lines_push log k (x ∷ lines) line =
    let e : k + 1 + length lines ≡ k + suc (length lines) = omega arith in
    ap (λ (rest : List ProofLine). proof_line log k x ∷ rest) (proof_lines_push log (k + 1) lines line ∙ ap (λ (n : ℕ). proof_lines_from log (k + 1) lines ++ proof_line log n line ∷ []) e)

-- one derived line more was written
pub line_more : (log : Lines) (k : ℕ) (out new : List ℕ) → k < length log.derived → out ≡ lrat_text (proof_lines_from log 1 (take k log.derived)) → new ≡ out ++ derived_text log (k + 1) → new ≡ lrat_text (proof_lines_from log 1 (take (k + 1) log.derived))
line_more log k out new within so_far more =
    let clause = clause_at_index log k within in
    let hints = hints_at_index log k within in
    let line_is : derived_text log (k + 1) ≡ proof_line_text (proof_line log (k + 1) (at log.derived k)) = λ i. proof_line_text (proof_line log (k + 1) (record { clause = clause i; hints = hints i })) in
    let taken : length (take k log.derived) ≡ k = length-take-le k log.derived (omega arith) in
    let number : 1 + length (take k log.derived) ≡ k + 1 = omega arith in
    let grown = ap (proof_lines_from log 1) (take_more log.derived k no_line within) ∙ proof_lines_push log 1 (take k log.derived) (at log.derived k) ∙ ap (λ (n : ℕ). proof_lines_from log 1 (take k log.derived) ++ proof_line log n (at log.derived k) ∷ []) number in
    more ∙ ap (λ (text : List ℕ). text ++ derived_text log (k + 1)) so_far ∙ ap (λ (text : List ℕ). lrat_text (proof_lines_from log 1 (take k log.derived)) ++ text) line_is
    ∙ sym (flat_push proof_line_text (proof_lines_from log 1 (take k log.derived)) (proof_line log (k + 1) (at log.derived k))) ∙ ap lrat_text (sym grown)

pub text_append : (a b : List ProofLine) → lrat_text (a ++ b) ≡ lrat_text a ++ lrat_text b
text_append [] b = refl
text_append (line ∷ a) b = ap (λ (text : List ℕ). proof_line_text line ++ text) (text_append a b) ∙ sym (append_assoc (proof_line_text line) (lrat_text a) (lrat_text b))

-- the line of the empty clause was written
pub closing_written : (a b c d e f : List ℕ) (axioms last : ℕ) (clause : List Literal) → (clause ≡ [] → ⊥) → b ≡ a ++ (decimal (axioms + 1 + last + 1) ++ codes " ") → c ≡ b ++ codes "0 " → d ≡ c ++ (decimal (axioms + 1) ++ codes " ") → e ≡ d ++ (decimal (axioms + 1 + last) ++ codes " ") → f ≡ e ++ codes "0\n"
    → f ≡ a ++ lrat_text (closing_lines axioms last clause)
closing_written a b c d e f axioms last [] some p q r s t = absurd (some refl)
closing_written a b c d e f axioms last (literal ∷ rest) some p q r s t =
    parts a b c d e f (decimal (axioms + 1 + last + 1)) (codes " ") (codes "0 ") (decimal (axioms + 1)) (decimal (axioms + 1 + last)) (codes "0\n") p q r s t
  where
    parts : (a b c d e f u v w x y z : List ℕ) → b ≡ a ++ (u ++ v) → c ≡ b ++ w → d ≡ c ++ (x ++ v) → e ≡ d ++ (y ++ v) → f ≡ e ++ z → f ≡ a ++ ((u ++ v ++ [] ++ w ++ ((x ++ v) ++ ((y ++ v) ++ [])) ++ z) ++ [])
    parts a b c d e f u v w x y z p q r s t = simp (t, s, r, q, p, append_assoc, append-nil)

-- ---- the hints of a derived line

in_log : (axioms derived before : ℕ) (is_derived : Bool) (number : ℕ) → before ≤ derived → number ≤ cond is_derived before axioms → number ≤ cond is_derived derived axioms
in_log axioms derived before true number fewer within = omega arith
in_log axioms derived before false number fewer within = within

fits_after : (axioms k : ℕ) (is_derived : Bool) (number : ℕ) → axioms + 1 + (k + 1) < 2 ^ 64 → number ≤ cond is_derived k axioms → cond is_derived (axioms + 1 + number) number < 2 ^ 64
fits_after axioms k true number fits within = omega arith
fits_after axioms k false number fits within = omega arith

named_by_index : (log : Lines) (k : ℕ) → IsSound log → k < length log.derived → All (IsLine log) (hints_of log (derived_id (k + 1)))
named_by_index log k sound within =
    let follows = follows_at log.axioms [] log.derived k sound.sound within in
    let taken : length (take k log.derived) ≡ k = length-take-le k log.derived (omega arith) in
    subst (All (IsLine log)) (sym (hints_at_index log k within)) (λ j d h.
    let hint = slice_index_or (at log.derived k).hints j d in
    let named = follows.named j d h in
    record { counted = named.counted; within = in_log (length log.axioms) (length log.derived) (length (take k log.derived)) hint.derived hint.number (omega arith) named.within })

fit_by_index : (log : Lines) (k : ℕ) → IsSound log → k < length log.derived → length log.axioms + 1 + (k + 1) < 2 ^ 64 → NumbersFit log (hints_of log (derived_id (k + 1)))
fit_by_index log k sound within fits =
    let follows = follows_at log.axioms [] log.derived k sound.sound within in
    let taken : length (take k log.derived) ≡ k = length-take-le k log.derived (omega arith) in
    subst (NumbersFit log) (sym (hints_at_index log k within)) (λ j d h.
    let hint = slice_index_or (at log.derived k).hints j d in
    let named = follows.named j d h in
    fits_after (length log.axioms) k hint.derived hint.number fits (subst (λ (n : ℕ). hint.number ≤ cond hint.derived n (length log.axioms)) taken named.within))

pub hints_named : (log : Lines) (number : ℕ) → IsSound log → IsLine log (derived_id number) → All (IsLine log) (hints_of log (derived_id number))
hints_named log number sound line =
    let low = line.counted in
    let high = line.within in
    let e : number - 1 + 1 ≡ number = omega arith in
    subst (λ (n : ℕ). All (IsLine log) (hints_of log (derived_id n))) e (named_by_index log (number - 1) sound (omega arith))

pub hints_fit : (log : Lines) (number : ℕ) → IsSound log → IsLine log (derived_id number) → length log.axioms + 1 + number < 2 ^ 64 → NumbersFit log (hints_of log (derived_id number))
hints_fit log number sound line fits =
    let low = line.counted in
    let high = line.within in
    let e : number - 1 + 1 ≡ number = omega arith in
    subst (λ (n : ℕ). NumbersFit log (hints_of log (derived_id n))) e (fit_by_index log (number - 1) sound (omega arith) (omega arith))
