-- Arguments, lists of them, and readers by the first token.
use Rattle.std.proofs.Common.{◌≡◌, ℕ, Bool, true, false, cond, List, [], ◌∷◌, ◌++◌, Option, Some, None, refl, ap, ◌∙◌, append_assoc}
use Rattle.std.specs.Option.{option_or}
use Rattle.std.proofs.lemmas.Bool.{cond-true}
use Rattle.qasm_read.specs.declared.arg.Arg.{Arg}
use Rattle.qasm_tokens.specs.declared.token.PlacedToken.{PlacedToken}
use Rattle.qasm_tokens.specs.declared.token.Token.{Token}
use Rattle.qasm_tokens.specs.declared.token.Token.TheVariants as token
use Rattle.qasm_tokens.specs.declared.token.Sign.{Sign}
use Rattle.qasm_tokens.specs.declared.token.Sign.TheVariants.{Comma, LeftParenthesis, RightParenthesis, LeftBracket, RightBracket}
use Rattle.qasm_read.specs.Forms.{Form, ◌▸◌, just, sign, name, integer, commas, parameters}
use Rattle.qasm_read.specs.Grammar.{index, argument, formals}
use Rattle.qasm_read.specs.Reading.{State, Reader, ◌>>=◌, comes, next_at, name_at, integer_at, commas_at, parameters_at, made, closed, index_at, argument_at, formals_at}
use Rattle.qasm_read.proofs.Readers.{at, is_sign-same, bind_some, along, or_assoc, Took, Took-then, took_one, Reads, anything, one_token, reads_name, reads_integer, reads_pair, reads_after_sign, reads_closed}
use Rattle.qasm_read.proofs.Lists.{without, both, Avoids, reads_commas, reads_parameters}

-- ---- arguments

pub reads_index : Reads index anything index_at
reads_index = reads_after_sign LeftBracket (λ n. integer n ▸ sign RightBracket) anything (closed RightBracket integer_at) (reads_closed RightBracket integer anything integer_at reads_integer (λ p rest e. tt))

pub sign_comes : (s : Sign) (large : Option ℕ) (before : Option ℕ) (front rest : List PlacedToken) → sign s large front → comes s (at (front ++ rest) before) ≡ true
sign_comes s large before front rest t =
    let o = one_token (token.Sign s) front t.1 in rw (o.1) (is_sign-same s o.0.token o.2)

abbrev indexed : List ℕ → ℕ × State → Option (Arg × State)
indexed n y = Some (record { name = n; index = Some y.0 }, y.1)

abbrev unindexed : List ℕ → State → Option (Arg × State)
unindexed n mid = Some (record { name = n; index = None }, mid)

argument_after : (st mid : State) (n : List ℕ) (a : Arg) (after : State) (b : Bool) → Took (name n) st mid → cond b (index_at mid >>= indexed n) (unindexed n mid) ≡ Some (a, after) → Took (argument a) st after
argument_after st mid n a after true t e =
    let y = bind_some (index_at mid) (indexed n) (a, after) e in
    along (λ (r : Arg × State). Took (argument r.0) st r.1) (record { name = n; index = Some y.0.0 }, y.0.1) (a, after) y.2 (Took-then (name n) (index y.0.0) st mid y.0.1 t (reads_index.found mid y.0.0 y.0.1 y.1))
argument_after st mid n a after false t e = along (λ (r : Arg × State). Took (argument r.0) st r.1) (record { name = n; index = None }, mid) (a, after) e t

argument_found : (st : State) (a : Arg) (after : State) → argument_at st ≡ Some (a, after) → Took (argument a) st after
argument_found st a after e =
    let x = bind_some (name_at st) (λ x. cond (comes LeftBracket x.1) (index_at x.1 >>= indexed x.0) (unindexed x.0 x.1)) (a, after) e in
    argument_after st x.0.1 x.0.0 a after (comes LeftBracket x.0.1) (reads_name.found st x.0.0 x.0.1 x.1) x.2

argument_only : (n : List ℕ) (i : Option ℕ) (large before : Option ℕ) (front rest : List PlacedToken) → argument (record { name = n; index = i }) large front → without LeftBracket rest → argument_at (at (front ++ rest) before) ≡ Some (record { name = n; index = i }, at rest (option_or before large))
argument_only n None large before front rest t end = rw (reads_name.only n large before front rest t tt) (rw end refl)
argument_only n (Some i) large before front rest t end =
    let mid : State = at (t.back ++ rest) (option_or before t.large_front) in
    let on : comes LeftBracket mid ≡ true = rw (t.second.parts, append_assoc) (sign_comes LeftBracket t.second.large_front before t.second.front (t.second.back ++ rest) t.second.first) in
    rw (t.parts, append_assoc, t.earlier, ← or_assoc) (rw (reads_name.only n t.large_front before t.front (t.back ++ rest) t.first tt)
    (cond-true (comes LeftBracket mid) (index_at mid >>= indexed n) (unindexed n mid) on
    ∙ ap (λ (r : Option (ℕ × State)). r >>= indexed n) (reads_index.only i t.large_back (option_or before t.large_front) t.back rest t.second tt)))

pub reads_argument : Reads argument (without LeftBracket) argument_at
reads_argument = record {
  found = argument_found;
  only = λ a large before front rest t end. argument_only a.name a.index large before front rest t end;
}

-- ---- what a form begins with

pub name_avoids : (s : Sign) → Avoids name s
name_avoids s n large front rest t = let o = one_token (token.Identifier n) front t.1 in rw (o.1, o.2) refl

argument_avoids-index : (s : Sign) (n : List ℕ) (i : Option ℕ) (large : Option ℕ) (front rest : List PlacedToken) → argument (record { name = n; index = i }) large front → without s (front ++ rest)
argument_avoids-index s n None large front rest t = name_avoids s n large front rest t
argument_avoids-index s n (Some i) large front rest t = rw (t.parts, append_assoc) (name_avoids s n t.large_front t.front (t.back ++ rest) t.first)

pub argument_avoids : (s : Sign) → Avoids argument s
argument_avoids s a large front rest t = argument_avoids-index s a.name a.index large front rest t

pub commas_avoid : {X : Type 0} (F : X → Form) (s : Sign) → Avoids F s → Avoids (commas F) s
commas_avoid F s avoids [] large front rest t = absurd t
commas_avoid F s avoids (x ∷ xs) large front rest t = rw (t.parts, append_assoc) (avoids x t.large_front t.front (t.back ++ rest) t.first)

-- commas and a sign
pub closed_avoids : {X : Type 0} (F : X → Form) (s u : Sign) → Avoids F s → Avoids (λ x. F x ▸ sign u) s
closed_avoids F s u avoids x large front rest t = rw (t.parts, append_assoc) (avoids x t.large_front t.front (t.back ++ rest) t.first)

-- ---- formals

abbrev pub names_end : List PlacedToken → Type 0
names_end = both anything (without Comma)

pub reads_names : Reads (commas name) names_end (commas_at name_at)
reads_names = reads_commas name anything name_at reads_name (λ p rest e. tt)

abbrev pub arguments_end : List PlacedToken → Type 0
arguments_end = both (without LeftBracket) (without Comma)

pub reads_arguments : Reads (commas argument) arguments_end (commas_at argument_at)
reads_arguments = reads_commas argument (without LeftBracket) argument_at reads_argument (λ p rest e. rw e refl)

pub reads_formals : Reads (λ (p : List (List ℕ) × List (List ℕ)). formals p.0 p.1) names_end formals_at
reads_formals = reads_pair (parameters name) (commas name) (without LeftParenthesis) names_end (parameters_at name_at) (commas_at name_at)
    (reads_parameters name anything name_at reads_name (λ p rest e. tt) (λ p rest e. (tt, rw e refl)) (name_avoids RightParenthesis))
    reads_names
    (λ y large back rest t end. commas_avoid name LeftParenthesis (name_avoids LeftParenthesis) y large back rest t)

-- ---- by the first token

-- what a reader took after a token, with that token
abbrev pub After : Token → Form → State → State → Type 0
After t form st after = (p : PlacedToken) → p.token ≡ t → Took form (at (p ∷ st.placed) st.large) after

pub after_token : (t : Token) (B : Form) (st after : State) → Took B st after → After t (just (t ∷ []) ▸ B) st after
after_token t B st after h p e = Took-then (just (t ∷ [])) B (at (p ∷ st.placed) st.large) st after (took_one t p st.placed st.large e) h

pub by_first_found : {X : Type 0} (F : X → Form) (in_token : Token → Reader X) → ((t : Token) (st : State) (x : X) (after : State) → in_token t st ≡ Some (x, after) → After t (F x) st after) → (placed : List PlacedToken) (large : Option ℕ) (x : X) (after : State) → (next_at (at placed large) >>= λ y. in_token y.0 y.1) ≡ Some (x, after) → Took (F x) (at placed large) after
by_first_found F in_token found [] large x after e = absurd cc
by_first_found F in_token found (p ∷ rest) large x after e = found p.token (at rest large) x after e p refl

pub by_first_only : {X : Type 0} (t : Token) (B : Form) (in_token : Token → Reader X) (x : X) → ((large before : Option ℕ) (front rest : List PlacedToken) → B large front → in_token t (at (front ++ rest) before) ≡ Some (x, at rest (option_or before large))) → (large before : Option ℕ) (front rest : List PlacedToken) → (just (t ∷ []) ▸ B) large front → (next_at (at (front ++ rest) before) >>= λ y. in_token y.0 y.1) ≡ Some (x, at rest (option_or before large))
by_first_only t B in_token x only large before front rest h =
    let o = one_token t h.front h.first.1 in
    rw (h.parts, o.1, h.earlier, h.first.0, o.2) (only h.large_back before h.back rest h.second)

pub made_found : {X Y : Type 0} (mk : X → Y) (F : Y → Form) (G : X → Form) (End : List PlacedToken → Type 0) (g : Reader X) (t : Token) → Reads G End g → ((x : X) (st after : State) → Took (G x) st after → After t (F (mk x)) st after) → (st : State) (y : Y) (after : State) → made mk g st ≡ Some (y, after) → After t (F y) st after
made_found {X} {Y} mk F G End g t rg told st y after e =
    let x = bind_some (g st) (λ x. Some (mk x.0, x.1)) (y, after) e in
    along (λ (r : Y × State). After t (F r.0) st r.1) (mk x.0.0, x.0.1) (y, after) x.2 (told x.0.0 st x.0.1 (rg.found st x.0.0 x.0.1 x.1))

pub made_only : {X Y : Type 0} (mk : X → Y) (G : X → Form) (g : Reader X) → Reads G anything g → (x : X) (large before : Option ℕ) (front rest : List PlacedToken) → G x large front → made mk g (at (front ++ rest) before) ≡ Some (mk x, at rest (option_or before large))
made_only mk G g rg x large before front rest t = ap (λ r. r >>= λ x. Some (mk x.0, x.1)) (rg.only x large before front rest t tt)
