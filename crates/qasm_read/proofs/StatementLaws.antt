-- The readers of statements read the statements.
use Rattle.std.proofs.Common.{◌≡◌, ℕ, ◌<◌, true, false, not, List, [], ◌∷◌, ◌++◌, length, Option, Some, None, refl, ap, ◌∙◌, append_assoc, arith}
use Rattle.std.specs.Option.{option_or}
use Rattle.std.proofs.lemmas.List.{length-append}
use Rattle.qasm_read.specs.declared.arg.Arg.{Arg}
use Rattle.qasm_read.specs.declared.body_item.BodyItem.{BodyItem}
use Rattle.qasm_read.specs.declared.body_item.BodyItem.TheVariants as item
use Rattle.qasm_read.specs.declared.exp.Exp.{Exp}
use Rattle.qasm_read.specs.declared.qop.Qop.{Qop}
use Rattle.qasm_read.specs.declared.qop.Qop.TheVariants as operation
use Rattle.qasm_read.specs.declared.statement.Statement.{Statement}
use Rattle.qasm_read.specs.declared.statement.Statement.TheVariants as statement
use Rattle.qasm_tokens.specs.declared.token.PlacedToken.{PlacedToken}
use Rattle.qasm_tokens.specs.declared.token.Token.{Token}
use Rattle.qasm_tokens.specs.declared.token.Token.TheVariants as token
use Rattle.qasm_tokens.specs.declared.token.Keyword.TheVariants as word
use Rattle.qasm_tokens.specs.declared.token.Sign.{Sign}
use Rattle.qasm_tokens.specs.declared.token.Sign.TheVariants.{Semicolon, Comma, LeftParenthesis, RightParenthesis, LeftBracket, LeftBrace, RightBrace, Arrow, Equals}
use Rattle.qasm_read.specs.Forms.{Form, ◌▸◌, just, sign, name, integer, text, each, commas, parameters}
use Rattle.qasm_read.specs.Grammar.{index, argument, formals, some_expressions, body_item, qop, a_statement}
use Rattle.qasm_read.specs.Reading.{is_sign, State, Reader, ◌>>=◌, comes, next_at, name_at, integer_at, text_at, commas_at, some_in_parentheses, parameters_at, made, pair, after_sign, closed, index_at, argument_at, formals_at, body_item_in, body_item_at, body_at, qop_in, qop_at, statement_in, statement_at}
use Rattle.qasm_read.proofs.Readers.{at, bind_some, along, Reads, anything, one_token, reads_name, reads_integer, reads_text, reads_pair, reads_after_sign, reads_closed, Allows, Joins}
use Rattle.qasm_read.proofs.Lists.{sign_allowed, Shortens, without, Avoids, Goes, reads_repeat, reads_some, reads_parameters}
use Rattle.qasm_read.proofs.Arguments.{reads_index, reads_argument, name_avoids, argument_avoids, commas_avoid, closed_avoids, names_end, reads_names, arguments_end, reads_arguments, reads_formals, After, after_token, by_first_found, by_first_only, made_found, made_only}

-- what is asked of the reader of expressions
pub record ReadsExpressions (E : Exp → Form) (End : List PlacedToken → Type 0) (exp : Reader Exp) : Type 0 where
  pub reads : Reads E End exp
  pub comma : Allows End Comma
  pub closing : Allows End RightParenthesis
  pub avoids : Avoids E RightParenthesis

-- ---- actual parameters

actuals : {E : Exp → Form} {End : List PlacedToken → Type 0} {exp : Reader Exp} → ReadsExpressions E End exp → Reads (parameters E) (without LeftParenthesis) (parameters_at exp)
actuals {E} {End} {exp} re = reads_parameters E End exp re.reads re.comma (λ p rest e. (re.closing p rest e, rw e refl)) re.avoids

some_actuals : {E : Exp → Form} {End : List PlacedToken → Type 0} {exp : Reader Exp} → ReadsExpressions E End exp → Reads (some_expressions E) anything (some_in_parentheses exp)
some_actuals {E} {End} {exp} re = reads_some E End exp re.reads re.comma (λ p rest e. (re.closing p rest e, rw e refl))

no_end : {Y : Type 0} (G : Y → Form) (End : List PlacedToken → Type 0) → Joins anything G End
no_end G End y large back rest t end = tt

-- ---- items of bodies

closed_name : Reads (λ n. name n ▸ sign Semicolon) anything (closed Semicolon name_at)
closed_name = reads_closed Semicolon name anything name_at reads_name (λ p rest e. tt)

closed_names : Reads (λ ns. commas name ns ▸ sign Semicolon) anything (closed Semicolon (commas_at name_at))
closed_names = reads_closed Semicolon (commas name) names_end (commas_at name_at) reads_names (λ p rest e. (tt, rw e refl))

item_u : {E : Exp → Form} {End : List PlacedToken → Type 0} {exp : Reader Exp} → ReadsExpressions E End exp → Reads (λ (p : List Exp × List ℕ). some_expressions E p.0 ▸ name p.1 ▸ sign Semicolon) anything (pair (some_in_parentheses exp) (closed Semicolon name_at))
item_u {E} {End} {exp} re = reads_pair (some_expressions E) (λ n. name n ▸ sign Semicolon) anything anything (some_in_parentheses exp) (closed Semicolon name_at) (some_actuals re) closed_name (no_end (λ n. name n ▸ sign Semicolon) anything)

item_cx : Reads (λ (p : List ℕ × List ℕ). name p.0 ▸ sign Comma ▸ name p.1 ▸ sign Semicolon) anything (pair name_at (after_sign Comma (closed Semicolon name_at)))
item_cx = reads_pair name (λ n. sign Comma ▸ name n ▸ sign Semicolon) anything anything name_at (after_sign Comma (closed Semicolon name_at)) reads_name (reads_after_sign Comma (λ n. name n ▸ sign Semicolon) anything (closed Semicolon name_at) closed_name) (no_end (λ n. sign Comma ▸ name n ▸ sign Semicolon) anything)

item_call : {E : Exp → Form} {End : List PlacedToken → Type 0} {exp : Reader Exp} → ReadsExpressions E End exp → Reads (λ (p : List Exp × List (List ℕ)). parameters E p.0 ▸ commas name p.1 ▸ sign Semicolon) anything (pair (parameters_at exp) (closed Semicolon (commas_at name_at)))
item_call {E} {End} {exp} re = reads_pair (parameters E) (λ ns. commas name ns ▸ sign Semicolon) (without LeftParenthesis) anything (parameters_at exp) (closed Semicolon (commas_at name_at)) (actuals re) closed_names
    (λ ns large back rest t end. closed_avoids (commas name) LeftParenthesis Semicolon (commas_avoid name LeftParenthesis (name_avoids LeftParenthesis)) ns large back rest t)

item_found : {E : Exp → Form} {End : List PlacedToken → Type 0} {exp : Reader Exp} → ReadsExpressions E End exp → (t : Token) (st : State) (i : BodyItem) (after : State) → body_item_in exp t st ≡ Some (i, after) → After t (body_item E i) st after
item_found {E} {End} {exp} re (token.Keyword word.U) st i after e = made_found (λ p. item.U p.0 p.1) (body_item E) (λ (p : List Exp × List ℕ). some_expressions E p.0 ▸ name p.1 ▸ sign Semicolon) anything (pair (some_in_parentheses exp) (closed Semicolon name_at)) (token.Keyword word.U) (item_u re) (λ p st after h. after_token (token.Keyword word.U) (some_expressions E p.0 ▸ name p.1 ▸ sign Semicolon) st after h) st i after e
item_found {E} re (token.Keyword word.Cx) st i after e = made_found (λ p. item.Cx p.0 p.1) (body_item E) (λ (p : List ℕ × List ℕ). name p.0 ▸ sign Comma ▸ name p.1 ▸ sign Semicolon) anything (pair name_at (after_sign Comma (closed Semicolon name_at))) (token.Keyword word.Cx) item_cx (λ p st after h. after_token (token.Keyword word.Cx) (name p.0 ▸ sign Comma ▸ name p.1 ▸ sign Semicolon) st after h) st i after e
item_found {E} re (token.Keyword word.Barrier) st i after e = made_found (λ ns. item.Barrier ns) (body_item E) (λ ns. commas name ns ▸ sign Semicolon) anything (closed Semicolon (commas_at name_at)) (token.Keyword word.Barrier) closed_names (λ ns st after h. after_token (token.Keyword word.Barrier) (commas name ns ▸ sign Semicolon) st after h) st i after e
item_found {E} {End} {exp} re (token.Identifier g) st i after e = made_found (λ p. item.Call g p.0 p.1) (body_item E) (λ (p : List Exp × List (List ℕ)). parameters E p.0 ▸ commas name p.1 ▸ sign Semicolon) anything (pair (parameters_at exp) (closed Semicolon (commas_at name_at))) (token.Identifier g) (item_call re) (λ p st after h. after_token (token.Identifier g) (parameters E p.0 ▸ commas name p.1 ▸ sign Semicolon) st after h) st i after e
item_found re other st i after e = absurd cc

item_only : {E : Exp → Form} {End : List PlacedToken → Type 0} {exp : Reader Exp} → ReadsExpressions E End exp → (i : BodyItem) (large before : Option ℕ) (front rest : List PlacedToken) → body_item E i large front → anything rest → body_item_at exp (at (front ++ rest) before) ≡ Some (i, at rest (option_or before large))
item_only {E} {End} {exp} re (item.U params arg) large before front rest t end = by_first_only (token.Keyword word.U) (some_expressions E params ▸ name arg ▸ sign Semicolon) (body_item_in exp) (item.U params arg) (λ large before front rest h. made_only (λ (p : List Exp × List ℕ). item.U p.0 p.1) (λ p. some_expressions E p.0 ▸ name p.1 ▸ sign Semicolon) (pair (some_in_parentheses exp) (closed Semicolon name_at)) (item_u re) (params, arg) large before front rest h) large before front rest t
item_only {E} {End} {exp} re (item.Cx control target) large before front rest t end = by_first_only (token.Keyword word.Cx) (name control ▸ sign Comma ▸ name target ▸ sign Semicolon) (body_item_in exp) (item.Cx control target) (λ large before front rest h. made_only (λ (p : List ℕ × List ℕ). item.Cx p.0 p.1) (λ p. name p.0 ▸ sign Comma ▸ name p.1 ▸ sign Semicolon) (pair name_at (after_sign Comma (closed Semicolon name_at))) item_cx (control, target) large before front rest h) large before front rest t
item_only {E} {End} {exp} re (item.Call gate params args) large before front rest t end = by_first_only (token.Identifier gate) (parameters E params ▸ commas name args ▸ sign Semicolon) (body_item_in exp) (item.Call gate params args) (λ large before front rest h. made_only (λ (p : List Exp × List (List ℕ)). item.Call gate p.0 p.1) (λ p. parameters E p.0 ▸ commas name p.1 ▸ sign Semicolon) (pair (parameters_at exp) (closed Semicolon (commas_at name_at))) (item_call re) (params, args) large before front rest h) large before front rest t
item_only {E} {End} {exp} re (item.Barrier args) large before front rest t end = by_first_only (token.Keyword word.Barrier) (commas name args ▸ sign Semicolon) (body_item_in exp) (item.Barrier args) (λ large before front rest h. made_only (λ (ns : List (List ℕ)). item.Barrier ns) (λ ns. commas name ns ▸ sign Semicolon) (closed Semicolon (commas_at name_at)) closed_names args large before front rest h) large before front rest t

pub reads_item : {E : Exp → Form} {End : List PlacedToken → Type 0} {exp : Reader Exp} → ReadsExpressions E End exp → Reads (body_item E) anything (body_item_at exp)
reads_item {E} {End} {exp} re = record {
  found = λ st i after e. by_first_found (body_item E) (body_item_in exp) (item_found re) st.placed st.large i after e;
  only = λ i large before front rest t end. item_only re i large before front rest t end;
}

-- ---- operations

closed_argument : Reads (λ a. argument a ▸ sign Semicolon) anything (closed Semicolon argument_at)
closed_argument = reads_closed Semicolon argument (without LeftBracket) argument_at reads_argument (λ p rest e. rw e refl)

closed_arguments : Reads (λ as_. commas argument as_ ▸ sign Semicolon) anything (closed Semicolon (commas_at argument_at))
closed_arguments = reads_closed Semicolon (commas argument) arguments_end (commas_at argument_at) reads_arguments (λ p rest e. (rw e refl, rw e refl))

-- an argument, that sign, and another argument
two_arguments : (s : Sign) → Allows (without LeftBracket) s → Reads (λ (p : Arg × Arg). argument p.0 ▸ sign s ▸ argument p.1 ▸ sign Semicolon) anything (pair argument_at (after_sign s (closed Semicolon argument_at)))
two_arguments s allows = reads_pair argument (λ a. sign s ▸ argument a ▸ sign Semicolon) (without LeftBracket) anything argument_at (after_sign s (closed Semicolon argument_at)) reads_argument
    (reads_after_sign s (λ a. argument a ▸ sign Semicolon) anything (closed Semicolon argument_at) closed_argument)
    (λ a large back rest t end. rw (t.parts, append_assoc) (sign_allowed (without LeftBracket) s allows t.large_front t.front (t.back ++ rest) t.first))

qop_u : {E : Exp → Form} {End : List PlacedToken → Type 0} {exp : Reader Exp} → ReadsExpressions E End exp → Reads (λ (p : List Exp × Arg). some_expressions E p.0 ▸ argument p.1 ▸ sign Semicolon) anything (pair (some_in_parentheses exp) (closed Semicolon argument_at))
qop_u {E} {End} {exp} re = reads_pair (some_expressions E) (λ a. argument a ▸ sign Semicolon) anything anything (some_in_parentheses exp) (closed Semicolon argument_at) (some_actuals re) closed_argument (no_end (λ a. argument a ▸ sign Semicolon) anything)

qop_call : {E : Exp → Form} {End : List PlacedToken → Type 0} {exp : Reader Exp} → ReadsExpressions E End exp → Reads (λ (p : List Exp × List Arg). parameters E p.0 ▸ commas argument p.1 ▸ sign Semicolon) anything (pair (parameters_at exp) (closed Semicolon (commas_at argument_at)))
qop_call {E} {End} {exp} re = reads_pair (parameters E) (λ xs. commas argument xs ▸ sign Semicolon) (without LeftParenthesis) anything (parameters_at exp) (closed Semicolon (commas_at argument_at)) (actuals re) closed_arguments
    (λ xs large back rest t end. closed_avoids (commas argument) LeftParenthesis Semicolon (commas_avoid argument LeftParenthesis (argument_avoids LeftParenthesis)) xs large back rest t)

qop_found : {E : Exp → Form} {End : List PlacedToken → Type 0} {exp : Reader Exp} → ReadsExpressions E End exp → (t : Token) (st : State) (i : Qop) (after : State) → qop_in exp t st ≡ Some (i, after) → After t (qop E i) st after
qop_found {E} {End} {exp} re (token.Keyword word.U) st i after e = made_found (λ p. operation.U p.0 p.1) (qop E) (λ (p : List Exp × Arg). some_expressions E p.0 ▸ argument p.1 ▸ sign Semicolon) anything (pair (some_in_parentheses exp) (closed Semicolon argument_at)) (token.Keyword word.U) (qop_u re) (λ p st after h. after_token (token.Keyword word.U) (some_expressions E p.0 ▸ argument p.1 ▸ sign Semicolon) st after h) st i after e
qop_found {E} {End} {exp} re (token.Keyword word.Cx) st i after e = made_found (λ p. operation.Cx p.0 p.1) (qop E) (λ (p : Arg × Arg). argument p.0 ▸ sign Comma ▸ argument p.1 ▸ sign Semicolon) anything (pair argument_at (after_sign Comma (closed Semicolon argument_at))) (token.Keyword word.Cx) (two_arguments Comma (λ p rest e. rw e refl)) (λ p st after h. after_token (token.Keyword word.Cx) (argument p.0 ▸ sign Comma ▸ argument p.1 ▸ sign Semicolon) st after h) st i after e
qop_found {E} {End} {exp} re (token.Keyword word.Measure) st i after e = made_found (λ p. operation.Measure p.0 p.1) (qop E) (λ (p : Arg × Arg). argument p.0 ▸ sign Arrow ▸ argument p.1 ▸ sign Semicolon) anything (pair argument_at (after_sign Arrow (closed Semicolon argument_at))) (token.Keyword word.Measure) (two_arguments Arrow (λ p rest e. rw e refl)) (λ p st after h. after_token (token.Keyword word.Measure) (argument p.0 ▸ sign Arrow ▸ argument p.1 ▸ sign Semicolon) st after h) st i after e
qop_found {E} {End} {exp} re (token.Keyword word.Reset) st i after e = made_found (λ a. operation.Reset a) (qop E) (λ (a : Arg). argument a ▸ sign Semicolon) anything (closed Semicolon argument_at) (token.Keyword word.Reset) closed_argument (λ a st after h. after_token (token.Keyword word.Reset) (argument a ▸ sign Semicolon) st after h) st i after e
qop_found {E} {End} {exp} re (token.Identifier gate) st i after e = made_found (λ p. operation.Call gate p.0 p.1) (qop E) (λ (p : List Exp × List Arg). parameters E p.0 ▸ commas argument p.1 ▸ sign Semicolon) anything (pair (parameters_at exp) (closed Semicolon (commas_at argument_at))) (token.Identifier gate) (qop_call re) (λ p st after h. after_token (token.Identifier gate) (parameters E p.0 ▸ commas argument p.1 ▸ sign Semicolon) st after h) st i after e
qop_found re other st i after e = absurd cc

qop_only : {E : Exp → Form} {End : List PlacedToken → Type 0} {exp : Reader Exp} → ReadsExpressions E End exp → (i : Qop) (large before : Option ℕ) (front rest : List PlacedToken) → qop E i large front → anything rest → qop_at exp (at (front ++ rest) before) ≡ Some (i, at rest (option_or before large))
qop_only {E} {End} {exp} re (operation.U params arg) large before front rest t end = by_first_only (token.Keyword word.U) (some_expressions E params ▸ argument arg ▸ sign Semicolon) (qop_in exp) (operation.U params arg) (λ large before front rest h. made_only (λ (p : List Exp × Arg). operation.U p.0 p.1) (λ p. some_expressions E p.0 ▸ argument p.1 ▸ sign Semicolon) (pair (some_in_parentheses exp) (closed Semicolon argument_at)) (qop_u re) (params, arg) large before front rest h) large before front rest t
qop_only {E} {End} {exp} re (operation.Cx control target) large before front rest t end = by_first_only (token.Keyword word.Cx) (argument control ▸ sign Comma ▸ argument target ▸ sign Semicolon) (qop_in exp) (operation.Cx control target) (λ large before front rest h. made_only (λ (p : Arg × Arg). operation.Cx p.0 p.1) (λ p. argument p.0 ▸ sign Comma ▸ argument p.1 ▸ sign Semicolon) (pair argument_at (after_sign Comma (closed Semicolon argument_at))) (two_arguments Comma (λ p rest e. rw e refl)) (control, target) large before front rest h) large before front rest t
qop_only {E} {End} {exp} re (operation.Measure source target) large before front rest t end = by_first_only (token.Keyword word.Measure) (argument source ▸ sign Arrow ▸ argument target ▸ sign Semicolon) (qop_in exp) (operation.Measure source target) (λ large before front rest h. made_only (λ (p : Arg × Arg). operation.Measure p.0 p.1) (λ p. argument p.0 ▸ sign Arrow ▸ argument p.1 ▸ sign Semicolon) (pair argument_at (after_sign Arrow (closed Semicolon argument_at))) (two_arguments Arrow (λ p rest e. rw e refl)) (source, target) large before front rest h) large before front rest t
qop_only {E} {End} {exp} re (operation.Reset arg) large before front rest t end = by_first_only (token.Keyword word.Reset) (argument arg ▸ sign Semicolon) (qop_in exp) (operation.Reset arg) (λ large before front rest h. made_only (λ (a : Arg). operation.Reset a) (λ a. argument a ▸ sign Semicolon) (closed Semicolon argument_at) closed_argument (arg) large before front rest h) large before front rest t
qop_only {E} {End} {exp} re (operation.Call gate params args) large before front rest t end = by_first_only (token.Identifier gate) (parameters E params ▸ commas argument args ▸ sign Semicolon) (qop_in exp) (operation.Call gate params args) (λ large before front rest h. made_only (λ (p : List Exp × List Arg). operation.Call gate p.0 p.1) (λ p. parameters E p.0 ▸ commas argument p.1 ▸ sign Semicolon) (pair (parameters_at exp) (closed Semicolon (commas_at argument_at))) (qop_call re) (params, args) large before front rest h) large before front rest t

pub reads_qop : {E : Exp → Form} {End : List PlacedToken → Type 0} {exp : Reader Exp} → ReadsExpressions E End exp → Reads (qop E) anything (qop_at exp)
reads_qop {E} {End} {exp} re = record {
  found = λ st i after e. by_first_found (qop E) (qop_in exp) (qop_found re) st.placed st.large i after e;
  only = λ i large before front rest t end. qop_only re i large before front rest t end;
}

-- ---- bodies

-- what items and operations begin with
first_avoids : (t : Token) (B : Form) (s : Sign) → is_sign s t ≡ false → (large : Option ℕ) (front rest : List PlacedToken) → (just (t ∷ []) ▸ B) large front → without s (front ++ rest)
first_avoids t B s off large front rest h = let o = one_token t h.front h.first.1 in rw (h.parts, o.1, o.2) off

item_avoids : (E : Exp → Form) (s : Sign) → Avoids (body_item E) s
item_avoids E s (item.U params arg) large front rest t = first_avoids (token.Keyword word.U) (some_expressions E params ▸ name arg ▸ sign Semicolon) s refl large front rest t
item_avoids E s (item.Cx control target) large front rest t = first_avoids (token.Keyword word.Cx) (name control ▸ sign Comma ▸ name target ▸ sign Semicolon) s refl large front rest t
item_avoids E s (item.Call gate params args) large front rest t = first_avoids (token.Identifier gate) (parameters E params ▸ commas name args ▸ sign Semicolon) s refl large front rest t
item_avoids E s (item.Barrier args) large front rest t = first_avoids (token.Keyword word.Barrier) (commas name args ▸ sign Semicolon) s refl large front rest t

-- a form takes a token at least
abbrev pub Takes : {X : Type 0} → (X → Form) → Type 0
Takes {X} F = (x : X) (large : Option ℕ) (front : List PlacedToken) → F x large front → 0 < length front

pub first_takes : (t : Token) (B : Form) (large : Option ℕ) (front : List PlacedToken) → (just (t ∷ []) ▸ B) large front → 0 < length front
first_takes t B large front h = let o = one_token t h.front h.first.1 in rw (h.parts, o.1) (omega arith)

pub Shortens-takes : {X : Type 0} (F : X → Form) (End : List PlacedToken → Type 0) (f : Reader X) → Reads F End f → Takes F → Shortens f
Shortens-takes F End f rf takes st x after e =
    let t = rf.found st x after e in
    let long : 0 < length t.front = takes x t.large t.front t.spelled in
    rw t.parts (omega (arith, length-append t.front after.placed))

pub item_takes : (E : Exp → Form) → Takes (body_item E)
item_takes E (item.U params arg) large front t = first_takes (token.Keyword word.U) (some_expressions E params ▸ name arg ▸ sign Semicolon) large front t
item_takes E (item.Cx control target) large front t = first_takes (token.Keyword word.Cx) (name control ▸ sign Comma ▸ name target ▸ sign Semicolon) large front t
item_takes E (item.Call gate params args) large front t = first_takes (token.Identifier gate) (parameters E params ▸ commas name args ▸ sign Semicolon) large front t
item_takes E (item.Barrier args) large front t = first_takes (token.Keyword word.Barrier) (commas name args ▸ sign Semicolon) large front t

-- that sign comes next
abbrev comes_next : Sign → List PlacedToken → Type 0
comes_next s rest = comes s (at rest None) ≡ true

items_go : (E : Exp → Form) → Goes (λ st. not (comes RightBrace st)) (body_item E) anything (comes_next RightBrace)
items_go E = record {
  starts = λ y large before front rest t. ap not (item_avoids E RightBrace y large front rest t);
  stops = λ before rest end. ap not end;
  another = λ y large front rest t. tt;
  last = λ rest end. tt;
}

reads_body : {E : Exp → Form} {End : List PlacedToken → Type 0} {exp : Reader Exp} → ReadsExpressions E End exp → Reads (each (body_item E)) (comes_next RightBrace) (body_at exp)
reads_body {E} {End} {exp} re = reads_repeat (λ st. not (comes RightBrace st)) (body_item E) anything (comes_next RightBrace) (body_item_at exp) (reads_item re) (Shortens-takes (body_item E) anything (body_item_at exp) (reads_item re) (item_takes E)) (items_go E)

-- ---- statements

opaque_form : Reads (λ (p : List ℕ × (List (List ℕ) × List (List ℕ))). name p.0 ▸ formals p.1.0 p.1.1 ▸ sign Semicolon) anything (pair name_at (closed Semicolon formals_at))
opaque_form = reads_pair name (λ (p : List (List ℕ) × List (List ℕ)). formals p.0 p.1 ▸ sign Semicolon) anything anything name_at (closed Semicolon formals_at) reads_name
    (reads_closed Semicolon (λ (p : List (List ℕ) × List (List ℕ)). formals p.0 p.1) names_end formals_at reads_formals (λ p rest e. (tt, rw e refl)))
    (no_end (λ (p : List (List ℕ) × List (List ℕ)). formals p.0 p.1 ▸ sign Semicolon) anything)

register_form : Reads (λ (p : List ℕ × ℕ). name p.0 ▸ index p.1 ▸ sign Semicolon) anything (pair name_at (closed Semicolon index_at))
register_form = reads_pair name (λ n. index n ▸ sign Semicolon) anything anything name_at (closed Semicolon index_at) reads_name (reads_closed Semicolon index anything index_at reads_index (λ p rest e. tt)) (no_end (λ n. index n ▸ sign Semicolon) anything)

abbrev Formals : Type 0
Formals = List (List ℕ) × List (List ℕ)

braces : {E : Exp → Form} {End : List PlacedToken → Type 0} {exp : Reader Exp} → ReadsExpressions E End exp → Reads (λ items. sign LeftBrace ▸ each (body_item E) items ▸ sign RightBrace) anything (after_sign LeftBrace (closed RightBrace (body_at exp)))
braces {E} {End} {exp} re = reads_after_sign LeftBrace (λ items. each (body_item E) items ▸ sign RightBrace) anything (closed RightBrace (body_at exp)) (reads_closed RightBrace (each (body_item E)) (comes_next RightBrace) (body_at exp) (reads_body re) (λ p rest e. rw e refl))

gate_form : {E : Exp → Form} {End : List PlacedToken → Type 0} {exp : Reader Exp} → ReadsExpressions E End exp → Reads (λ (p : List ℕ × (Formals × List BodyItem)). name p.0 ▸ formals p.1.0.0 p.1.0.1 ▸ sign LeftBrace ▸ each (body_item E) p.1.1 ▸ sign RightBrace) anything (pair name_at (pair formals_at (after_sign LeftBrace (closed RightBrace (body_at exp)))))
gate_form {E} {End} {exp} re = reads_pair name (λ (p : Formals × List BodyItem). formals p.0.0 p.0.1 ▸ sign LeftBrace ▸ each (body_item E) p.1 ▸ sign RightBrace) anything anything name_at (pair formals_at (after_sign LeftBrace (closed RightBrace (body_at exp)))) reads_name
    (reads_pair (λ (p : Formals). formals p.0 p.1) (λ items. sign LeftBrace ▸ each (body_item E) items ▸ sign RightBrace) names_end anything formals_at (after_sign LeftBrace (closed RightBrace (body_at exp))) reads_formals (braces re)
    (λ items large back rest t end. rw (t.parts, append_assoc) (sign_allowed names_end LeftBrace (λ p rest e. (tt, rw e refl)) t.large_front t.front (t.back ++ rest) t.first)))
    (no_end (λ (p : Formals × List BodyItem). formals p.0.0 p.0.1 ▸ sign LeftBrace ▸ each (body_item E) p.1 ▸ sign RightBrace) anything)

condition_form : {E : Exp → Form} {End : List PlacedToken → Type 0} {exp : Reader Exp} → ReadsExpressions E End exp → Reads (λ (p : List ℕ × (ℕ × Qop)). sign LeftParenthesis ▸ name p.0 ▸ sign Equals ▸ integer p.1.0 ▸ sign RightParenthesis ▸ qop E p.1.1) anything (after_sign LeftParenthesis (pair name_at (after_sign Equals (pair integer_at (after_sign RightParenthesis (qop_at exp))))))
condition_form {E} {End} {exp} re =
    let last : Reads (λ op. sign RightParenthesis ▸ qop E op) anything (after_sign RightParenthesis (qop_at exp)) = reads_after_sign RightParenthesis (qop E) anything (qop_at exp) (reads_qop re) in
    let value : Reads (λ (p : ℕ × Qop). integer p.0 ▸ sign RightParenthesis ▸ qop E p.1) anything (pair integer_at (after_sign RightParenthesis (qop_at exp))) = reads_pair integer (λ op. sign RightParenthesis ▸ qop E op) anything anything integer_at (after_sign RightParenthesis (qop_at exp)) reads_integer last (no_end (λ op. sign RightParenthesis ▸ qop E op) anything) in
    let equal = reads_after_sign Equals (λ (p : ℕ × Qop). integer p.0 ▸ sign RightParenthesis ▸ qop E p.1) anything (pair integer_at (after_sign RightParenthesis (qop_at exp))) value in
    let named = reads_pair name (λ (p : ℕ × Qop). sign Equals ▸ integer p.0 ▸ sign RightParenthesis ▸ qop E p.1) anything anything name_at (after_sign Equals (pair integer_at (after_sign RightParenthesis (qop_at exp)))) reads_name equal (no_end (λ (p : ℕ × Qop). sign Equals ▸ integer p.0 ▸ sign RightParenthesis ▸ qop E p.1) anything) in
    reads_after_sign LeftParenthesis (λ (p : List ℕ × (ℕ × Qop)). name p.0 ▸ sign Equals ▸ integer p.1.0 ▸ sign RightParenthesis ▸ qop E p.1.1) anything (pair name_at (after_sign Equals (pair integer_at (after_sign RightParenthesis (qop_at exp))))) named

closed_text : Reads (λ t. text t ▸ sign Semicolon) anything (closed Semicolon text_at)
closed_text = reads_closed Semicolon text anything text_at reads_text (λ p rest e. tt)

-- what two readers do alike after a token, they do alike with it
first_same : {X Y : Type 0} (t : Token) (B : Form) (in_token : Token → Reader X) (in_other : Token → Reader Y) (mk : X → Y) → ((st : State) → in_other t st ≡ made mk (in_token t) st) → (x : X) (large before : Option ℕ) (front rest : List PlacedToken) → (just (t ∷ []) ▸ B) large front → (next_at (at (front ++ rest) before) >>= λ y. in_token y.0 y.1) ≡ Some (x, at rest (option_or before large)) → (next_at (at (front ++ rest) before) >>= λ y. in_other y.0 y.1) ≡ Some (mk x, at rest (option_or before large))
first_same {X} {Y} t B in_token in_other mk alike x large before front rest h e =
    let o = one_token t h.front h.first.1 in
    let split : front ++ rest ≡ o.0 ∷ (h.back ++ rest) = ap (λ ts. ts ++ rest) (h.parts ∙ ap (λ ts. ts ++ h.back) o.1) in
    let taken : in_token t (at (h.back ++ rest) before) ≡ Some (x, at rest (option_or before large)) = rw (split, o.2) at e in
    rw (split, o.2) (alike (at (h.back ++ rest) before) ∙ ap (λ r. r >>= λ x. Some (mk x.0, x.1)) taken)

applied_found : {E : Exp → Form} {End : List PlacedToken → Type 0} {exp : Reader Exp} → ReadsExpressions E End exp → (t : Token) (st : State) (s : Statement) (after : State) → made (λ op. statement.Apply op) (qop_in exp t) st ≡ Some (s, after) → After t (a_statement E s) st after
applied_found {E} {End} {exp} re t st s after e =
    let x = bind_some (qop_in exp t st) (λ x. Some (statement.Apply x.0, x.1)) (s, after) e in
    along (λ (r : Statement × State). After t (a_statement E r.0) st r.1) (statement.Apply x.0.0, x.0.1) (s, after) x.2 (qop_found re t st x.0.0 x.0.1 x.1)

statement_found : {E : Exp → Form} {End : List PlacedToken → Type 0} {exp : Reader Exp} → ReadsExpressions E End exp → (t : Token) (st : State) (i : Statement) (after : State) → statement_in exp t st ≡ Some (i, after) → After t (a_statement E i) st after
statement_found {E} {End} {exp} re (token.Keyword word.Include) st i after e = made_found (λ s. statement.Include s) (a_statement E) (λ (s : List ℕ). text s ▸ sign Semicolon) anything (closed Semicolon text_at) (token.Keyword word.Include) closed_text (λ s st after h. after_token (token.Keyword word.Include) (text s ▸ sign Semicolon) st after h) st i after e
statement_found {E} {End} {exp} re (token.Keyword word.Qreg) st i after e = made_found (λ p. statement.Register true p.0 p.1) (a_statement E) (λ (p : List ℕ × ℕ). name p.0 ▸ index p.1 ▸ sign Semicolon) anything (pair name_at (closed Semicolon index_at)) (token.Keyword word.Qreg) register_form (λ p st after h. after_token (token.Keyword word.Qreg) (name p.0 ▸ index p.1 ▸ sign Semicolon) st after h) st i after e
statement_found {E} {End} {exp} re (token.Keyword word.Creg) st i after e = made_found (λ p. statement.Register false p.0 p.1) (a_statement E) (λ (p : List ℕ × ℕ). name p.0 ▸ index p.1 ▸ sign Semicolon) anything (pair name_at (closed Semicolon index_at)) (token.Keyword word.Creg) register_form (λ p st after h. after_token (token.Keyword word.Creg) (name p.0 ▸ index p.1 ▸ sign Semicolon) st after h) st i after e
statement_found {E} {End} {exp} re (token.Keyword word.Gate) st i after e = made_found (λ p. statement.Gate p.0 p.1.0.0 p.1.0.1 p.1.1) (a_statement E) (λ (p : List ℕ × (Formals × List BodyItem)). name p.0 ▸ formals p.1.0.0 p.1.0.1 ▸ sign LeftBrace ▸ each (body_item E) p.1.1 ▸ sign RightBrace) anything (pair name_at (pair formals_at (after_sign LeftBrace (closed RightBrace (body_at exp))))) (token.Keyword word.Gate) (gate_form re) (λ p st after h. after_token (token.Keyword word.Gate) (name p.0 ▸ formals p.1.0.0 p.1.0.1 ▸ sign LeftBrace ▸ each (body_item E) p.1.1 ▸ sign RightBrace) st after h) st i after e
statement_found {E} {End} {exp} re (token.Keyword word.Opaque) st i after e = made_found (λ p. statement.Opaque p.0 p.1.0 p.1.1) (a_statement E) (λ (p : List ℕ × Formals). name p.0 ▸ formals p.1.0 p.1.1 ▸ sign Semicolon) anything (pair name_at (closed Semicolon formals_at)) (token.Keyword word.Opaque) opaque_form (λ p st after h. after_token (token.Keyword word.Opaque) (name p.0 ▸ formals p.1.0 p.1.1 ▸ sign Semicolon) st after h) st i after e
statement_found {E} {End} {exp} re (token.Keyword word.Barrier) st i after e = made_found (λ xs. statement.Barrier xs) (a_statement E) (λ (xs : List Arg). commas argument xs ▸ sign Semicolon) anything (closed Semicolon (commas_at argument_at)) (token.Keyword word.Barrier) closed_arguments (λ xs st after h. after_token (token.Keyword word.Barrier) (commas argument xs ▸ sign Semicolon) st after h) st i after e
statement_found {E} {End} {exp} re (token.Keyword word.If) st i after e = made_found (λ p. statement.If p.0 p.1.0 p.1.1) (a_statement E) (λ (p : List ℕ × (ℕ × Qop)). sign LeftParenthesis ▸ name p.0 ▸ sign Equals ▸ integer p.1.0 ▸ sign RightParenthesis ▸ qop E p.1.1) anything (after_sign LeftParenthesis (pair name_at (after_sign Equals (pair integer_at (after_sign RightParenthesis (qop_at exp)))))) (token.Keyword word.If) (condition_form re) (λ p st after h. after_token (token.Keyword word.If) (sign LeftParenthesis ▸ name p.0 ▸ sign Equals ▸ integer p.1.0 ▸ sign RightParenthesis ▸ qop E p.1.1) st after h) st i after e
statement_found {E} {End} {exp} re other st i after e = applied_found re other st i after e

-- an operation begins with a token of its own
applied_only : {E : Exp → Form} {End : List PlacedToken → Type 0} {exp : Reader Exp} → ReadsExpressions E End exp → (op : Qop) (large before : Option ℕ) (front rest : List PlacedToken) → qop E op large front → statement_at exp (at (front ++ rest) before) ≡ Some (statement.Apply op, at rest (option_or before large))
applied_only {E} {End} {exp} re (operation.U params arg) large before front rest t = first_same (token.Keyword word.U) (some_expressions E params ▸ argument arg ▸ sign Semicolon) (qop_in exp) (statement_in exp) (λ op. statement.Apply op) (λ st. refl) (operation.U params arg) large before front rest t (qop_only re (operation.U params arg) large before front rest t tt)
applied_only {E} {End} {exp} re (operation.Cx control target) large before front rest t = first_same (token.Keyword word.Cx) (argument control ▸ sign Comma ▸ argument target ▸ sign Semicolon) (qop_in exp) (statement_in exp) (λ op. statement.Apply op) (λ st. refl) (operation.Cx control target) large before front rest t (qop_only re (operation.Cx control target) large before front rest t tt)
applied_only {E} {End} {exp} re (operation.Call gate params args) large before front rest t = first_same (token.Identifier gate) (parameters E params ▸ commas argument args ▸ sign Semicolon) (qop_in exp) (statement_in exp) (λ op. statement.Apply op) (λ st. refl) (operation.Call gate params args) large before front rest t (qop_only re (operation.Call gate params args) large before front rest t tt)
applied_only {E} {End} {exp} re (operation.Measure source target) large before front rest t = first_same (token.Keyword word.Measure) (argument source ▸ sign Arrow ▸ argument target ▸ sign Semicolon) (qop_in exp) (statement_in exp) (λ op. statement.Apply op) (λ st. refl) (operation.Measure source target) large before front rest t (qop_only re (operation.Measure source target) large before front rest t tt)
applied_only {E} {End} {exp} re (operation.Reset arg) large before front rest t = first_same (token.Keyword word.Reset) (argument arg ▸ sign Semicolon) (qop_in exp) (statement_in exp) (λ op. statement.Apply op) (λ st. refl) (operation.Reset arg) large before front rest t (qop_only re (operation.Reset arg) large before front rest t tt)

statement_only : {E : Exp → Form} {End : List PlacedToken → Type 0} {exp : Reader Exp} → ReadsExpressions E End exp → (i : Statement) (large before : Option ℕ) (front rest : List PlacedToken) → a_statement E i large front → anything rest → statement_at exp (at (front ++ rest) before) ≡ Some (i, at rest (option_or before large))
statement_only {E} {End} {exp} re (statement.Include s) large before front rest t end = by_first_only (token.Keyword word.Include) (text s ▸ sign Semicolon) (statement_in exp) (statement.Include s) (λ large before front rest h. made_only (λ (s : List ℕ). statement.Include s) (λ s. text s ▸ sign Semicolon) (closed Semicolon text_at) closed_text (s) large before front rest h) large before front rest t
statement_only {E} {End} {exp} re (statement.Register true n size) large before front rest t end = by_first_only (token.Keyword word.Qreg) (name n ▸ index size ▸ sign Semicolon) (statement_in exp) (statement.Register true n size) (λ large before front rest h. made_only (λ (p : List ℕ × ℕ). statement.Register true p.0 p.1) (λ p. name p.0 ▸ index p.1 ▸ sign Semicolon) (pair name_at (closed Semicolon index_at)) register_form (n, size) large before front rest h) large before front rest t
statement_only {E} {End} {exp} re (statement.Register false n size) large before front rest t end = by_first_only (token.Keyword word.Creg) (name n ▸ index size ▸ sign Semicolon) (statement_in exp) (statement.Register false n size) (λ large before front rest h. made_only (λ (p : List ℕ × ℕ). statement.Register false p.0 p.1) (λ p. name p.0 ▸ index p.1 ▸ sign Semicolon) (pair name_at (closed Semicolon index_at)) register_form (n, size) large before front rest h) large before front rest t
statement_only {E} {End} {exp} re (statement.Gate n params qubits body) large before front rest t end = by_first_only (token.Keyword word.Gate) (name n ▸ formals params qubits ▸ sign LeftBrace ▸ each (body_item E) body ▸ sign RightBrace) (statement_in exp) (statement.Gate n params qubits body) (λ large before front rest h. made_only (λ (p : List ℕ × (Formals × List BodyItem)). statement.Gate p.0 p.1.0.0 p.1.0.1 p.1.1) (λ p. name p.0 ▸ formals p.1.0.0 p.1.0.1 ▸ sign LeftBrace ▸ each (body_item E) p.1.1 ▸ sign RightBrace) (pair name_at (pair formals_at (after_sign LeftBrace (closed RightBrace (body_at exp))))) (gate_form re) (n, ((params, qubits), body)) large before front rest h) large before front rest t
statement_only {E} {End} {exp} re (statement.Opaque n params qubits) large before front rest t end = by_first_only (token.Keyword word.Opaque) (name n ▸ formals params qubits ▸ sign Semicolon) (statement_in exp) (statement.Opaque n params qubits) (λ large before front rest h. made_only (λ (p : List ℕ × Formals). statement.Opaque p.0 p.1.0 p.1.1) (λ p. name p.0 ▸ formals p.1.0 p.1.1 ▸ sign Semicolon) (pair name_at (closed Semicolon formals_at)) opaque_form (n, (params, qubits)) large before front rest h) large before front rest t
statement_only {E} {End} {exp} re (statement.Barrier xs) large before front rest t end = by_first_only (token.Keyword word.Barrier) (commas argument xs ▸ sign Semicolon) (statement_in exp) (statement.Barrier xs) (λ large before front rest h. made_only (λ (xs : List Arg). statement.Barrier xs) (λ xs. commas argument xs ▸ sign Semicolon) (closed Semicolon (commas_at argument_at)) closed_arguments (xs) large before front rest h) large before front rest t
statement_only {E} {End} {exp} re (statement.If creg value op) large before front rest t end = by_first_only (token.Keyword word.If) (sign LeftParenthesis ▸ name creg ▸ sign Equals ▸ integer value ▸ sign RightParenthesis ▸ qop E op) (statement_in exp) (statement.If creg value op) (λ large before front rest h. made_only (λ (p : List ℕ × (ℕ × Qop)). statement.If p.0 p.1.0 p.1.1) (λ p. sign LeftParenthesis ▸ name p.0 ▸ sign Equals ▸ integer p.1.0 ▸ sign RightParenthesis ▸ qop E p.1.1) (after_sign LeftParenthesis (pair name_at (after_sign Equals (pair integer_at (after_sign RightParenthesis (qop_at exp)))))) (condition_form re) (creg, (value, op)) large before front rest h) large before front rest t
statement_only re (statement.Apply op) large before front rest t end = applied_only re op large before front rest t

pub reads_statement : {E : Exp → Form} {End : List PlacedToken → Type 0} {exp : Reader Exp} → ReadsExpressions E End exp → Reads (a_statement E) anything (statement_at exp)
reads_statement {E} {End} {exp} re = record {
  found = λ st i after e. by_first_found (a_statement E) (statement_in exp) (statement_found re) st.placed st.large i after e;
  only = λ i large before front rest t end. statement_only re i large before front rest t end;
}
