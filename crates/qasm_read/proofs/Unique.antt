-- Tokens split into statements in one way, and have one answer.
use Rattle.std.proofs.Common.{◌≡◌, ℕ, List, [], ◌∷◌, ◌++◌, Option, Some, None, Result, Ok, Err, refl, sym, ap, subst, ◌∙◌, append_assoc, ◌⊎◌, inl, inr}
use Rattle.std.proofs.lemmas.List.{append_cancel_right}
use Rattle.std.specs.Option.{option_or}
use Rattle.qasm_read.specs.declared.fault.QasmFault.{QasmFault}
use Rattle.qasm_read.specs.declared.fault.QasmFault.TheVariants.{Header}
use Rattle.qasm_read.specs.declared.statement.Placed.{Placed}
use Rattle.qasm_read.specs.declared.statement.Statement.{Statement}
use Rattle.qasm_tokens.specs.declared.token.PlacedToken.{PlacedToken}
use Rattle.qasm_read.specs.Forms.{each, place_of}
use Rattle.qasm_read.specs.Grammar.{a_statement, an_expression}
use Rattle.qasm_read.specs.Reading.{State, statement_at, header_at}
use Rattle.qasm_read.specs.Expressions.{exp_at}
use Rattle.qasm_read.specs.Program.{header, a_placed_statement, Begins, NoStatementBegins, verdict, AnswersAfter, Answers}
use Rattle.qasm_read.proofs.Readers.{at, some_is}
use Rattle.qasm_read.proofs.ExpressionLaws.{cut_expression}
use Rattle.qasm_read.proofs.Changes.{change_statement, none_parts, to_cut}
use Rattle.qasm_read.proofs.ProgramLaws.{reads_cut, header_reads}

pub one_statement : (s t : Statement) (m n : Option ℕ) (placed a b : List PlacedToken) (p : Begins (a_statement an_expression s) m placed a) (q : Begins (a_statement an_expression t) n placed b) → (p.front ≡ q.front) × (a ≡ b) × (m ≡ n) × (m ≡ None → s ≡ t)
one_statement s t m n placed a b p q =
    let c = change_statement an_expression cut_expression to_cut s m p.front p.spelled in
    let d = change_statement an_expression cut_expression to_cut t n q.front q.spelled in
    let parts : p.front ++ a ≡ q.front ++ b = sym p.parts ∙ q.parts in
    let both = sym (reads_cut.only c.0 m None p.front a c.1 tt) ∙ ap (λ (ts : List PlacedToken). statement_at exp_at (at ts None)) parts ∙ reads_cut.only d.0 n None q.front b d.1 tt in
    let r : (c.0, at a m) ≡ (d.0, at b n) = some_is both in
    let left : a ≡ b = ap (λ (x : Statement × State). x.1.placed) r in
    let large : m ≡ n = ap (λ (x : Statement × State). x.1.large) r in (
      append_cancel_right p.front q.front a (parts ∙ ap (λ (ts : List PlacedToken). q.front ++ ts) (sym left)),
      left,
      large,
      λ none. c.2 none ∙ ap (λ (x : Statement × State). x.0) r ∙ sym (d.2 (sym large ∙ none)),
    )

-- ---- runs

empty_front : (front : List PlacedToken) (large : Option ℕ) → each a_placed_statement [] large front → front ≡ []
empty_front [] large t = refl
empty_front (p ∷ front) large t = absurd (let e = t.1 in cc)

begins_first : (y : Placed) (ys : List Placed) (n : Option ℕ) (placed g b : List PlacedToken) → each a_placed_statement (y ∷ ys) n g → placed ≡ g ++ b → NoStatementBegins placed → ⊥
begins_first y ys n placed g b u parts ended =
    ended y.statement u.large_front (u.back ++ b) (record { front = u.front; spelled = u.first.0; parts = parts ∙ ap (λ (ts : List PlacedToken). ts ++ b) u.parts ∙ append_assoc u.front u.back b })

same_placed : (x y : Placed) (xs ys : List Placed) → x.at ≡ y.at → x.statement ≡ y.statement → xs ≡ ys → x ∷ xs ≡ y ∷ ys
same_placed x y xs ys e f g =
    let r : x ≡ y = ap (λ (n : ℕ). record { at = n; statement = x.statement }) e ∙ ap (λ (s : Statement). record { at = y.at; statement = s }) f in
    ap (λ (z : Placed). z ∷ xs) r ∙ ap (λ (zs : List Placed). y ∷ zs) g

same_runs : (ss us : List Placed) (m n : Option ℕ) (placed f g a b : List PlacedToken) → each a_placed_statement ss m f → each a_placed_statement us n g → placed ≡ f ++ a → placed ≡ g ++ b → NoStatementBegins a → NoStatementBegins b → (m ≡ n) × (a ≡ b) × (m ≡ None → ss ≡ us)
same_runs [] [] m n placed f g a b t u i j ended stopped =
    let k : placed ≡ a = i ∙ ap (λ (ts : List PlacedToken). ts ++ a) (empty_front f m t) in
    let l : placed ≡ b = j ∙ ap (λ (ts : List PlacedToken). ts ++ b) (empty_front g n u) in
    (t.0 ∙ sym u.0, sym k ∙ l, λ none. refl)
same_runs [] (y ∷ us) m n placed f g a b t u i j ended stopped =
    let k : placed ≡ a = i ∙ ap (λ (ts : List PlacedToken). ts ++ a) (empty_front f m t) in
    absurd (begins_first y us n a g b u (sym k ∙ j) ended)
same_runs (x ∷ ss) [] m n placed f g a b t u i j ended stopped =
    let k : placed ≡ b = j ∙ ap (λ (ts : List PlacedToken). ts ++ b) (empty_front g n u) in
    absurd (begins_first x ss m b f a t (sym k ∙ i) stopped)
same_runs (x ∷ ss) (y ∷ us) m n placed f g a b t u i j ended stopped =
    let p : Begins (a_statement an_expression x.statement) t.large_front placed (t.back ++ a) = record { front = t.front; spelled = t.first.0; parts = i ∙ ap (λ (ts : List PlacedToken). ts ++ a) t.parts ∙ append_assoc t.front t.back a } in
    let q : Begins (a_statement an_expression y.statement) u.large_front placed (u.back ++ b) = record { front = u.front; spelled = u.first.0; parts = j ∙ ap (λ (ts : List PlacedToken). ts ++ b) u.parts ∙ append_assoc u.front u.back b } in
    let w = one_statement x.statement y.statement t.large_front u.large_front placed (t.back ++ a) (u.back ++ b) p q in
    let rest = same_runs ss us t.large_back u.large_back (t.back ++ a) t.back u.back a b t.second u.second refl w.1 ended stopped in
    let place : Some x.at ≡ Some y.at = sym t.first.1 ∙ ap (λ (ts : List PlacedToken). place_of ts) w.0 ∙ u.first.1 in
    let large : m ≡ n = t.earlier ∙ ap (λ o. option_or o t.large_back) w.2 ∙ ap (λ o. option_or u.large_front o) rest.0 ∙ sym u.earlier in
    (large, rest.1, λ none. let parts = none_parts t.large_front t.large_back (sym t.earlier ∙ none) in same_placed x y ss us (some_is place) (w.3 parts.0) (rest.2 parts.1))

-- ---- answers

same_verdict : (ss us : List Placed) (m : Option ℕ) (left : List PlacedToken) → (m ≡ None → ss ≡ us) → verdict ss m left ≡ verdict us m left
same_verdict ss us (Some large) left same = refl
same_verdict ss us None [] same = ap (λ (xs : List Placed). Ok xs) (same refl)
same_verdict ss us None (p ∷ left) same = refl

pub one_after : (placed : List PlacedToken) (x y : Result (List Placed) QasmFault) → AnswersAfter placed x → AnswersAfter placed y → x ≡ y
one_after placed x y a b =
    let same = same_runs a.0 b.0 a.1 b.1 placed a.3.begins.front b.3.begins.front a.2 b.2 a.3.begins.spelled b.3.begins.spelled a.3.begins.parts b.3.begins.parts a.3.ended b.3.ended in
    a.4 ∙ same_verdict a.0 b.0 a.1 a.2 same.2 ∙ ap (λ o. verdict b.0 o a.2) same.0 ∙ ap (λ (ts : List PlacedToken). verdict b.0 b.1 ts) same.1 ∙ sym b.4

one_header : (placed a b : List PlacedToken) → Begins header None placed a → Begins header None placed b → a ≡ b
one_header placed a b p q =
    let both = sym (header_reads p.front a None p.spelled) ∙ ap (λ (ts : List PlacedToken). header_at (at ts None)) (sym p.parts ∙ q.parts) ∙ header_reads q.front b None q.spelled in
    let r : (tt, at a None) ≡ (tt, at b None) = some_is both in
    ap (λ (x : Unit {0} × State). x.1.placed) r

-- an answer after a header
abbrev Headed : List PlacedToken → Result (List Placed) QasmFault → Type 0
Headed placed x = (rest : List PlacedToken) × Begins header None placed rest × AnswersAfter rest x

one_headed : (placed : List PlacedToken) (x y : Result (List Placed) QasmFault) → Headed placed x → Headed placed y → x ≡ y
one_headed placed x y a b = one_after b.0 x y (subst (λ (ts : List PlacedToken). AnswersAfter ts x) (one_header placed a.0 b.0 a.1 b.1) a.2) b.2

abbrev Unheaded : List PlacedToken → Type 0
Unheaded placed = (left : List PlacedToken) → Begins header None placed left → ⊥

kinds : (placed : List PlacedToken) (x : Result (List Placed) QasmFault) → Answers placed x → Headed placed x ⊎ ((x ≡ Err Header) × Unheaded placed)
kinds placed (Err Header) a = inr (refl, a)
kinds placed other a = inl a

by_kinds : (placed : List PlacedToken) (x y : Result (List Placed) QasmFault) → Headed placed x ⊎ ((x ≡ Err Header) × Unheaded placed) → Headed placed y ⊎ ((y ≡ Err Header) × Unheaded placed) → x ≡ y
by_kinds placed x y (inl a) (inl b) = one_headed placed x y a b
by_kinds placed x y (inl a) (inr b) = absurd (b.1 a.0 a.1)
by_kinds placed x y (inr a) (inl b) = absurd (a.1 b.0 b.1)
by_kinds placed x y (inr a) (inr b) = a.0 ∙ sym b.0

pub one_answer : (placed : List PlacedToken) (x y : Result (List Placed) QasmFault) → Answers placed x → Answers placed y → x ≡ y
one_answer placed x y a b = by_kinds placed x y (kinds placed x a) (kinds placed y b)
