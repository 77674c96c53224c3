-- Readers that read a form, and how they are put together.
use Rattle.std.proofs.Common.{◌≡◌, ℕ, ◌≤◌, true, List, [], ◌∷◌, ◌++◌, length, get_or, eqb, Option, Some, None, refl, sym, ap, subst, ◌∙◌, append_assoc, arith}
use Rattle.std.specs.Option.{option_or}
use Rattle.std.proofs.lemmas.Bool.{eqb-true, eq-eqb}
use Rattle.std.proofs.lemmas.List.{length-append}
use Rattle.std.proofs.lemmas.Option.{cond_some}
use Rattle.qasm_tokens.specs.declared.token.PlacedToken.{PlacedToken}
use Rattle.qasm_tokens.specs.declared.token.Token.{Token}
use Rattle.qasm_tokens.specs.declared.token.Token.TheVariants as token
use Rattle.qasm_tokens.specs.declared.token.Sign.{Sign}
use Rattle.qasm_tokens.specs.declared.token.Sign.TheVariants.{Semicolon, Comma, LeftParenthesis, RightParenthesis, LeftBracket, RightBracket, LeftBrace, RightBrace, Plus, Minus, Star, Slash, Caret, Arrow, Equals}
use Rattle.qasm_read.specs.Forms.{Form, ◌▸◌, tokens_of, just, sign, name, integer, text}
use Rattle.qasm_read.specs.Reading.{State, Reader, ◌>>=◌, number_of, is_sign, next_at, skip_at, name_in, name_at, integer_in, integer_at, text_in, text_at, pair, after_sign, closed}

abbrev pub at : List PlacedToken → Option ℕ → State
at placed large = record { placed = placed; large = large }

pub bind_some : {A B : Type 0} (o : Option A) (f : A → Option B) (y : B) → (o >>= f) ≡ Some y → (x : A) × (o ≡ Some x) × (f x ≡ Some y)
bind_some (Some x) f y e = (x, refl, e)
bind_some None f y e = absurd cc

pub some_is : {A : Type 0} {x y : A} → Some x ≡ Some y → x ≡ y
some_is e = cc

pub along : {A : Type 0} (P : A → Type 0) (x y : A) → Some x ≡ Some y → P x → P y
along P x y e h = subst P {x = x} {y = y} (some_is e) h

pub or-none : (a : Option ℕ) → option_or a None ≡ a
or-none None = refl
or-none (Some n) = refl

pub or_assoc : (a b c : Option ℕ) → option_or (option_or a b) c ≡ option_or a (option_or b c)
or_assoc None b c = refl
or_assoc (Some n) b c = refl

-- ---- what a reader took

pub record Took (form : Form) (st after : State) : Type 0 where
  pub large : Option ℕ
  pub front : List PlacedToken
  pub spelled : form large front
  pub parts : st.placed ≡ front ++ after.placed
  pub marks : after.large ≡ option_or st.large large

pub Took-not_longer : (form : Form) (st after : State) → Took form st after → length after.placed ≤ length st.placed
Took-not_longer form st after t = rw t.parts (omega (arith, length-append t.front after.placed))

pub Took-then : (A B : Form) (st mid after : State) → Took A st mid → Took B mid after → Took (A ▸ B) st after
Took-then A B st mid after a b = record {
  large = option_or a.large b.large;
  front = a.front ++ b.front;
  spelled = record { large_front = a.large; large_back = b.large; front = a.front; back = b.front; first = a.spelled; second = b.spelled; parts = refl; earlier = refl };
  parts = a.parts ∙ ap (λ ts. a.front ++ ts) b.parts ∙ sym (append_assoc a.front b.front after.placed);
  marks = b.marks ∙ ap (λ o. option_or o b.large) a.marks ∙ or_assoc st.large a.large b.large;
}

-- What the reader finds is of the form. What is of the form it finds, where End holds of what follows.
pub record Reads {X : Type 0} (F : X → Form) (End : List PlacedToken → Type 0) (read : Reader X) : Type 0 where
  pub found : (st : State) (x : X) (after : State) → read st ≡ Some (x, after) → Took (F x) st after
  pub only : (x : X) (large before : Option ℕ) (front rest : List PlacedToken) → F x large front → End rest → read (at (front ++ rest) before) ≡ Some (x, at rest (option_or before large))

abbrev pub anything : List PlacedToken → Type 0
anything rest = Unit {0}

-- ---- one token

abbrev signs : List Sign
signs = Semicolon ∷ Comma ∷ LeftParenthesis ∷ RightParenthesis ∷ LeftBracket ∷ RightBracket ∷ LeftBrace ∷ RightBrace ∷ Plus ∷ Minus ∷ Star ∷ Slash ∷ Caret ∷ Arrow ∷ Equals ∷ []

sign_of_number : (s : Sign) → get_or signs (number_of s) Semicolon ≡ s
sign_of_number Semicolon = refl
sign_of_number Comma = refl
sign_of_number LeftParenthesis = refl
sign_of_number RightParenthesis = refl
sign_of_number LeftBracket = refl
sign_of_number RightBracket = refl
sign_of_number LeftBrace = refl
sign_of_number RightBrace = refl
sign_of_number Plus = refl
sign_of_number Minus = refl
sign_of_number Star = refl
sign_of_number Slash = refl
sign_of_number Caret = refl
sign_of_number Arrow = refl
sign_of_number Equals = refl

same_sign : (s t : Sign) → eqb (number_of s) (number_of t) ≡ true → s ≡ t
same_sign s t e = sym (sign_of_number s) ∙ ap (λ n. get_or signs n Semicolon) (eqb-true _ _ e) ∙ sign_of_number t

pub is_sign-true : (s : Sign) (t : Token) → is_sign s t ≡ true → t ≡ token.Sign s
is_sign-true s (token.Sign t) e = ap (λ (u : Sign). token.Sign u) (sym (same_sign s t e))
is_sign-true s (token.Keyword w) e = absurd cc
is_sign-true s (token.Identifier n) e = absurd cc
is_sign-true s (token.Integer n) e = absurd cc
is_sign-true s (token.Real r) e = absurd cc
is_sign-true s (token.Text t) e = absurd cc

pub is_sign-same : (s : Sign) (t : Token) → t ≡ token.Sign s → is_sign s t ≡ true
is_sign-same s t e = rw e (eq-eqb (number_of s) (number_of s) refl)

pub one_token : (t : Token) (front : List PlacedToken) → tokens_of front ≡ t ∷ [] → (p : PlacedToken) × (front ≡ p ∷ []) × (p.token ≡ t)
one_token t [] e = absurd cc
one_token t (p ∷ []) e = (p, refl, cc)
one_token t (p ∷ q ∷ front) e = absurd cc

pub took_one : (t : Token) (p : PlacedToken) (rest : List PlacedToken) (large : Option ℕ) → p.token ≡ t → Took (just (t ∷ [])) (at (p ∷ rest) large) (at rest large)
took_one t p rest large e = record { large = None; front = p ∷ []; spelled = (refl, ap (λ u. u ∷ []) e); parts = refl; marks = sym (or-none large) }

skip_found : (s : Sign) (placed : List PlacedToken) (large : Option ℕ) (u : Unit {0}) (after : State) → skip_at s (at placed large) ≡ Some (u, after) → Took (sign s) (at placed large) after
skip_found s [] large u after e = absurd cc
skip_found s (p ∷ rest) large u after e =
    let g = cond_some (is_sign s p.token) (u, at rest large) (u, after) e in
    subst (λ (st : State). Took (sign s) (at (p ∷ rest) large) st) (ap (λ (q : Unit {0} × State). q.1) g.1) (took_one (token.Sign s) p rest large (is_sign-true s p.token g.0))

pub skip_front : (s : Sign) (p : PlacedToken) (rest : List PlacedToken) (large : Option ℕ) → p.token ≡ token.Sign s → skip_at s (at (p ∷ rest) large) ≡ Some (tt, at rest large)
skip_front s p rest large e = rw (is_sign-same s p.token e) refl

pub reads_sign : (s : Sign) → Reads (λ (u : Unit {0}). sign s) anything (skip_at s)
reads_sign s = record {
  found = λ st u after e. skip_found s st.placed st.large u after e;
  only = λ u large before front rest f end. let o = one_token (token.Sign s) front f.1 in rw (o.1, f.0, or-none before) (skip_front s o.0 rest before o.2);
}

-- a reader of one token that has a value
single_found : {X : Type 0} (tok : X → Token) (in_token : Token → Reader X) (tells : (t : Token) (st : State) (x : X) (after : State) → in_token t st ≡ Some (x, after) → (t ≡ tok x) × (st ≡ after)) (placed : List PlacedToken) (large : Option ℕ) (x : X) (after : State) → (next_at (at placed large) >>= λ y. in_token y.0 y.1) ≡ Some (x, after) → Took (just (tok x ∷ [])) (at placed large) after
single_found tok in_token tells [] large x after e = absurd cc
single_found tok in_token tells (p ∷ rest) large x after e =
    let t = tells p.token (at rest large) x after e in
    subst (λ (st : State). Took (just (tok x ∷ [])) (at (p ∷ rest) large) st) t.1 (took_one (tok x) p rest large t.0)

pub single : {X : Type 0} (tok : X → Token) (in_token : Token → Reader X) → ((x : X) (st : State) → in_token (tok x) st ≡ Some (x, st)) → ((t : Token) (st : State) (x : X) (after : State) → in_token t st ≡ Some (x, after) → (t ≡ tok x) × (st ≡ after)) → Reads (λ x. just (tok x ∷ [])) anything (λ st. next_at st >>= λ y. in_token y.0 y.1)
single tok in_token gives tells = record {
  found = λ st x after e. single_found tok in_token tells st.placed st.large x after e;
  only = λ x large before front rest f end. let o = one_token (tok x) front f.1 in rw (o.1, f.0, or-none before, o.2) (gives x (at rest before));
}

name_tells : (t : Token) (st : State) (x : List ℕ) (after : State) → name_in t st ≡ Some (x, after) → (t ≡ token.Identifier x) × (st ≡ after)
name_tells (token.Identifier n) st x after e = let q : (n, st) ≡ (x, after) = some_is e in (ap (λ (r : List ℕ × State). token.Identifier r.0) q, ap (λ (r : List ℕ × State). r.1) q)
name_tells (token.Sign s) st x after e = absurd cc
name_tells (token.Keyword w) st x after e = absurd cc
name_tells (token.Integer n) st x after e = absurd cc
name_tells (token.Real r) st x after e = absurd cc
name_tells (token.Text t) st x after e = absurd cc

integer_tells : (t : Token) (st : State) (x : ℕ) (after : State) → integer_in t st ≡ Some (x, after) → (t ≡ token.Integer x) × (st ≡ after)
integer_tells (token.Integer n) st x after e = let q : (n, st) ≡ (x, after) = some_is e in (ap (λ (r : ℕ × State). token.Integer r.0) q, ap (λ (r : ℕ × State). r.1) q)
integer_tells (token.Sign s) st x after e = absurd cc
integer_tells (token.Keyword w) st x after e = absurd cc
integer_tells (token.Identifier n) st x after e = absurd cc
integer_tells (token.Real r) st x after e = absurd cc
integer_tells (token.Text t) st x after e = absurd cc

text_tells : (t : Token) (st : State) (x : List ℕ) (after : State) → text_in t st ≡ Some (x, after) → (t ≡ token.Text x) × (st ≡ after)
text_tells (token.Text n) st x after e = let q : (n, st) ≡ (x, after) = some_is e in (ap (λ (r : List ℕ × State). token.Text r.0) q, ap (λ (r : List ℕ × State). r.1) q)
text_tells (token.Sign s) st x after e = absurd cc
text_tells (token.Keyword w) st x after e = absurd cc
text_tells (token.Identifier n) st x after e = absurd cc
text_tells (token.Integer n) st x after e = absurd cc
text_tells (token.Real r) st x after e = absurd cc

pub reads_name : Reads name anything name_at
reads_name = single (λ n. token.Identifier n) name_in (λ x st. refl) name_tells

pub reads_integer : Reads integer anything integer_at
reads_integer = single (λ n. token.Integer n) integer_in (λ x st. refl) integer_tells

pub reads_text : Reads text anything text_at
reads_text = single (λ n. token.Text n) text_in (λ x st. refl) text_tells

-- ---- two forms

-- what the first form may be followed by begins the second, with what follows it
abbrev pub Joins : {Y : Type 0} → (List PlacedToken → Type 0) → (Y → Form) → (List PlacedToken → Type 0) → Type 0
Joins {Y} EndA G End = (y : Y) (large : Option ℕ) (back rest : List PlacedToken) → G y large back → End rest → EndA (back ++ rest)

pub reads_pair : {X Y : Type 0} (F : X → Form) (G : Y → Form) (EndF End : List PlacedToken → Type 0) (f : Reader X) (g : Reader Y) → Reads F EndF f → Reads G End g → Joins EndF G End → Reads (λ (p : X × Y). F p.0 ▸ G p.1) End (pair f g)
reads_pair {X} {Y} F G EndF End f g rf rg joins = record {
  found = λ st p after e.
      let x = bind_some (f st) (λ x. g x.1 >>= λ y. Some ((x.0, y.0), y.1)) (p, after) e in
      let y = bind_some (g x.0.1) (λ y. Some ((x.0.0, y.0), y.1)) (p, after) x.2 in
      let both = Took-then (F x.0.0) (G y.0.0) st x.0.1 y.0.1 (rf.found st x.0.0 x.0.1 x.1) (rg.found x.0.1 y.0.0 y.0.1 y.1) in
      along (λ (r : (X × Y) × State). Took (F r.0.0 ▸ G r.0.1) st r.1) ((x.0.0, y.0.0), y.0.1) (p, after) y.2 both;
  only = λ p large before front rest t end.
      rw (t.parts, append_assoc, t.earlier, ← or_assoc) (rw (rf.only p.0 t.large_front before t.front (t.back ++ rest) t.first (joins p.1 t.large_back t.back rest t.second end)) (rw (rg.only p.1 t.large_back (option_or before t.large_front) t.back rest t.second end) refl));
}

pub reads_after_sign : {X : Type 0} (s : Sign) (F : X → Form) (End : List PlacedToken → Type 0) (f : Reader X) → Reads F End f → Reads (λ x. sign s ▸ F x) End (after_sign s f)
reads_after_sign {X} s F End f rf = record {
  found = λ st x after e.
      let u = bind_some (skip_at s st) (λ u. f u.1) (x, after) e in
      Took-then (sign s) (F x) st u.0.1 after ((reads_sign s).found st u.0.0 u.0.1 u.1) (rf.found u.0.1 x after u.2);
  only = λ x large before front rest t end.
      rw (t.parts, append_assoc, t.earlier, ← or_assoc) (rw ((reads_sign s).only tt t.large_front before t.front (t.back ++ rest) t.first tt) (rf.only x t.large_back (option_or before t.large_front) t.back rest t.second end));
}

-- a sign ends a form that it may follow
abbrev pub Allows : (List PlacedToken → Type 0) → Sign → Type 0
Allows End s = (p : PlacedToken) (rest : List PlacedToken) → p.token ≡ token.Sign s → End (p ∷ rest)

pub reads_closed : {X : Type 0} (s : Sign) (F : X → Form) (End : List PlacedToken → Type 0) (f : Reader X) → Reads F End f → Allows End s → Reads (λ x. F x ▸ sign s) anything (closed s f)
reads_closed {X} s F End f rf allows = record {
  found = λ st p after e.
      let x = bind_some (f st) (λ x. skip_at s x.1 >>= λ y. Some (x.0, y.1)) (p, after) e in
      let y = bind_some (skip_at s x.0.1) (λ y. Some (x.0.0, y.1)) (p, after) x.2 in
      let both = Took-then (F x.0.0) (sign s) st x.0.1 y.0.1 (rf.found st x.0.0 x.0.1 x.1) ((reads_sign s).found x.0.1 y.0.0 y.0.1 y.1) in
      along (λ (r : X × State). Took (F r.0 ▸ sign s) st r.1) (x.0.0, y.0.1) (p, after) y.2 both;
  only = λ p large before front rest t end.
      let o = one_token (token.Sign s) t.back t.second.1 in
      let allowed : End (t.back ++ rest) = rw o.1 (allows o.0 rest o.2) in
      rw (t.parts, append_assoc, t.earlier, ← or_assoc) (rw (rf.only p t.large_front before t.front (t.back ++ rest) t.first allowed) (rw ((reads_sign s).only tt t.large_back (option_or before t.large_front) t.back rest t.second tt) refl));
}
