-- What tokens spell is well formed.
use Rattle.std.proofs.Common.{◌≡◌, ℕ, ◌≤◌, Bool, true, false, cond, leb, List, [], ◌∷◌, ◌++◌, Option, Some, None, Result, Ok, Err, IfOk, All, refl, sym, subst, arith}
use Rattle.std.specs.List.{AllByRecursion}
use Rattle.std.proofs.lemmas.Bool.{leb-true}
use Rattle.std.proofs.lemmas.List.Elements.{All-nil, All-cons, All-append}
use Rattle.qasm_read.specs.declared.arg.Arg.{Arg}
use Rattle.qasm_read.specs.declared.body_item.BodyItem.{BodyItem}
use Rattle.qasm_read.specs.declared.body_item.BodyItem.TheVariants as item
use Rattle.qasm_read.specs.declared.exp.Exp.{Exp, roll-Exp, fold-roll-Exp}
use Rattle.qasm_read.specs.declared.exp.Exp.TheOpen.{Exp-F}
use Rattle.qasm_read.specs.declared.qop.Qop.{Qop}
use Rattle.qasm_read.specs.declared.qop.Qop.TheVariants as operation
use Rattle.qasm_read.specs.declared.statement.Placed.{Placed}
use Rattle.qasm_read.specs.declared.statement.Statement.{Statement}
use Rattle.qasm_read.specs.declared.statement.Statement.TheVariants as statement
use Rattle.qasm_read.specs.declared.fault.QasmFault.{QasmFault}
use Rattle.qasm_tokens.specs.declared.token.PlacedToken.{PlacedToken}
use Rattle.qasm_tokens.specs.declared.token.Token.{Token}
use Rattle.qasm_tokens.specs.declared.token.Token.TheVariants as token
use Rattle.qasm_tokens.specs.declared.token.Keyword.TheVariants as word
use Rattle.qasm_tokens.specs.declared.token.Sign.TheVariants.{Semicolon, Comma, LeftParenthesis, RightParenthesis, LeftBrace, RightBrace, Arrow, Equals}
use Rattle.qasm_tokens.specs.TokenKinds.{IsToken, AreTokens}
use Rattle.qasm_read.specs.Forms.{Form, Then, ◌▸◌, tokens_of, place_of, just, sign, name, integer, each, commas, parameters}
use Rattle.qasm_read.specs.Forms as forms
use Rattle.qasm_read.specs.Grammar.{Level, expression, term, factor, power, atom, Spells, real, whole, pi, named, applied, in_parentheses, negated, joined, an_atom, a_power, a_factor, a_term, sign_of, nodes_of, is_small, an_expression, index, argument, formals, some_expressions, body_item, qop, a_statement}
use Rattle.qasm_read.specs.Program.{a_placed_statement, verdict, AnswersAfter, Answers, UnlessMemory}
use Rattle.circuit_core.specs.Reals.{IsShortReal}
use Rattle.qasm_read.specs.WellFormed.{IsName, names_step, names_of, reals_step, reals_of, IsExpression, IsArgument, AtLeastOne, IsBodyItem, IsOperation, IsWellFormed, AreWellFormed}
use Rattle.qasm_read.proofs.Changes.{none_parts}
use Rattle.qasm_read.proofs.ExpressionLaws.{has_place}
use Rattle.qasm_read.proofs.Identifiers.{is_name}

-- ---- lists of tokens

both_parts : {X : Type 0} (P : X → Type 0) (xs ys : List X) → AllByRecursion P (xs ++ ys) → AllByRecursion P xs × AllByRecursion P ys
both_parts P [] ys h = (tt, h)
both_parts P (x ∷ xs) ys h = let k = both_parts P xs ys h.1 in ((h.0, k.0), k.1)

without_places : (placed : List PlacedToken) → AreTokens placed → AllByRecursion IsToken (tokens_of placed)
without_places [] h = tt
without_places (p ∷ placed) h = (h.0, without_places placed h.1)

-- ---- forms

-- What is said of tokens of a form without a large expression.
abbrev pub Tells : Form → Type 0 → Type 0
Tells F X = (placed : List PlacedToken) → AreTokens placed → F None placed → X

both : {X Y : Type 0} (A B : Form) → Tells A X → Tells B Y → Tells (A ▸ B) (X × Y)
both A B a b placed tokens t =
    let n = none_parts t.large_front t.large_back (sym t.earlier) in
    let k = both_parts (λ (p : PlacedToken). IsToken p.token) t.front t.back (subst AreTokens t.parts tokens) in (
      a t.front k.0 (subst (λ (o : Option ℕ). A o t.front) n.0 t.first),
      b t.back k.1 (subst (λ (o : Option ℕ). B o t.back) n.1 t.second),
    )

nothing : (A : Form) → Tells A (Unit {0})
nothing A placed tokens t = tt

front : {X : Type 0} (A B : Form) → Tells A X → Tells (A ▸ B) X
front A B a placed tokens t = (both A B a (nothing B) placed tokens t).0

back : {Y : Type 0} (A B : Form) → Tells B Y → Tells (A ▸ B) Y
back A B b placed tokens t = (both A B (nothing A) b placed tokens t).1

a_name : (n : List ℕ) → Tells (name n) (IsName n)
a_name n placed tokens t = is_name n (subst (λ (ts : List Token). AllByRecursion IsToken ts) t.1 (without_places placed tokens)).0

each_one : {X : Type 0} (F : X → Form) (P : X → Type 0) → ((x : X) → Tells (F x) (P x)) → (xs : List X) → Tells (each F xs) (All P xs)
each_one F P h [] placed tokens t = All-nil P
each_one F P h (x ∷ xs) placed tokens t = let r = both (F x) (each F xs) (h x) (each_one F P h xs) placed tokens t in All-cons P x xs r.0 r.1

some_ones : {X : Type 0} (F : X → Form) (P : X → Type 0) → ((x : X) → Tells (F x) (P x)) → (xs : List X) → Tells (commas F xs) (AtLeastOne P xs)
some_ones F P h [] placed tokens t = absurd t
some_ones F P h (x ∷ xs) placed tokens t =
    let r = both (F x) (each (λ y. sign Comma ▸ F y) xs) (h x) (each_one (λ y. sign Comma ▸ F y) P (λ y. back (sign Comma) (F y) (h y)) xs) placed tokens t in
    (omega arith, All-cons P x xs r.0 r.1)

some_enclosed : {X : Type 0} (F : X → Form) (P : X → Type 0) → ((x : X) → Tells (F x) (P x)) → (xs : List X) → Tells (sign LeftParenthesis ▸ commas F xs ▸ sign RightParenthesis) (AtLeastOne P xs)
some_enclosed F P h xs = back (sign LeftParenthesis) (commas F xs ▸ sign RightParenthesis) (front (commas F xs) (sign RightParenthesis) (some_ones F P h xs))

perhaps_some : {X : Type 0} (F : X → Form) (P : X → Type 0) → ((x : X) → Tells (F x) (P x)) → (xs : List X) → Tells (parameters F xs) (All P xs)
perhaps_some F P h [] placed tokens t = All-nil P
perhaps_some F P h (x ∷ xs) placed tokens t = (some_enclosed F P h (x ∷ xs) placed tokens t).1

-- ---- expressions

abbrev Words : Exp → Type 0
Words e = All IsName (names_of e) × All IsShortReal (reals_of e)

abbrev WordsOf : List (List ℕ) → List (List ℕ) → Type 0
WordsOf names reals = All IsName names × All IsShortReal reals

rolled : (parts : Exp-F Exp) (names reals : List (List ℕ)) → names_of (roll-Exp parts) ≡ names → reals_of (roll-Exp parts) ≡ reals → WordsOf names reals → Words (roll-Exp parts)
rolled parts names reals n r h = rw (n, r) h

inner : (ts : List Token) → AllByRecursion IsToken (ts ++ token.Sign RightParenthesis ∷ []) → AllByRecursion IsToken ts
inner ts h = (both_parts IsToken ts (token.Sign RightParenthesis ∷ []) h).0

words : (level : Level) (e : Exp) (ts : List Token) → AllByRecursion IsToken ts → Spells level e ts → Words e
words _ _ _ h (real r) = rolled (Exp-F.Real r) [] (r ∷ []) (fold-roll-Exp (List (List ℕ)) names_step (Exp-F.Real r)) (fold-roll-Exp (List (List ℕ)) reals_step (Exp-F.Real r)) (All-nil IsName, All-cons IsShortReal r [] h.0 (All-nil IsShortReal))
words _ _ _ h (whole n) = rolled (Exp-F.Int n) [] [] (fold-roll-Exp (List (List ℕ)) names_step (Exp-F.Int n)) (fold-roll-Exp (List (List ℕ)) reals_step (Exp-F.Int n)) (All-nil IsName, All-nil IsShortReal)
words _ _ _ h pi = rolled Exp-F.Pi [] [] (fold-roll-Exp (List (List ℕ)) names_step Exp-F.Pi) (fold-roll-Exp (List (List ℕ)) reals_step Exp-F.Pi) (All-nil IsName, All-nil IsShortReal)
words _ _ _ h (named n) = rolled (Exp-F.Id n) (n ∷ []) [] (fold-roll-Exp (List (List ℕ)) names_step (Exp-F.Id n)) (fold-roll-Exp (List (List ℕ)) reals_step (Exp-F.Id n)) (All-cons IsName n [] (is_name n h.0) (All-nil IsName), All-nil IsShortReal)
words _ _ _ h (applied f e ts s) = rolled (Exp-F.Fun f e) (names_of e) (reals_of e) (fold-roll-Exp (List (List ℕ)) names_step (Exp-F.Fun f e)) (fold-roll-Exp (List (List ℕ)) reals_step (Exp-F.Fun f e)) (words expression e ts (inner ts h.1.1) s)
words _ _ _ h (in_parentheses e ts s) = words expression e ts (inner ts h.1) s
words _ _ _ h (negated e ts s) = rolled (Exp-F.Neg e) (names_of e) (reals_of e) (fold-roll-Exp (List (List ℕ)) names_step (Exp-F.Neg e)) (fold-roll-Exp (List (List ℕ)) reals_step (Exp-F.Neg e)) (words factor e ts h.1 s)
words _ _ _ h (joined op a b left right s t) =
    let k = both_parts IsToken left (sign_of op ∷ right) h in
    let x = words _ a left k.0 s in
    let y = words _ b right k.1.1 t in
    rolled (Exp-F.Bin op a b) (names_of a ++ names_of b) (reals_of a ++ reals_of b) (fold-roll-Exp (List (List ℕ)) names_step (Exp-F.Bin op a b)) (fold-roll-Exp (List (List ℕ)) reals_step (Exp-F.Bin op a b))
    (All-append IsName (names_of a) (names_of b) x.0 y.0, All-append IsShortReal (reals_of a) (reals_of b) x.1 y.1)
words _ _ _ h (an_atom e ts s) = words atom e ts h s
words _ _ _ h (a_power e ts s) = words power e ts h s
words _ _ _ h (a_factor e ts s) = words factor e ts h s
words _ _ _ h (a_term e ts s) = words term e ts h s

small_by : (nodes : ℕ) (place : Option ℕ) (b : Bool) → leb nodes 1000 ≡ b → (place ≡ None → ⊥) → None ≡ cond b None place → nodes ≤ 1000
small_by nodes place true e has none = leb-true nodes 1000 e
small_by nodes place false e has none = absurd (has (sym none))

one_expression : (e : Exp) → Tells (an_expression e) (IsExpression e)
one_expression e placed tokens t =
    let w = words expression e (tokens_of placed) (without_places placed tokens) t.0 in
    record { names = w.0; reals = w.1; small = small_by (nodes_of e) (place_of placed) (is_small e) refl (has_place e placed t.0) t.1 }

-- ---- arguments, items, operations, statements

by_index : (n : List ℕ) (o : Option ℕ) → Tells (elim o [ None ↦ name n | Some i ↦ name n ▸ index i ]) (IsName n)
by_index n None = a_name n
by_index n (Some i) = front (name n) (index i) (a_name n)

one_argument : (a : Arg) → Tells (argument a) (IsArgument a)
one_argument a = by_index a.name a.index

some_names : (ns : List (List ℕ)) → Tells (commas name ns) (AtLeastOne IsName ns)
some_names = some_ones name IsName a_name

some_arguments : (args : List Arg) → Tells (commas argument args) (AtLeastOne IsArgument args)
some_arguments = some_ones argument IsArgument one_argument

some_params : (es : List Exp) → Tells (some_expressions an_expression es) (AtLeastOne IsExpression es)
some_params = some_enclosed an_expression IsExpression one_expression

perhaps_params : (es : List Exp) → Tells (parameters an_expression es) (All IsExpression es)
perhaps_params = perhaps_some an_expression IsExpression one_expression

three : {A B C : Type 0} (F : Form) → Tells F (A × (B × C)) → Tells F (A × B × C)
three F h placed tokens t = let r = h placed tokens t in (r.0, r.1.0, r.1.1)

four : {A B C D : Type 0} (F : Form) → Tells F (A × ((B × C) × D)) → Tells F (A × B × C × D)
four F h placed tokens t = let r = h placed tokens t in (r.0, r.1.0.0, r.1.0.1, r.1.1)

one_item : (i : BodyItem) → Tells (body_item an_expression i) (IsBodyItem i)
one_item (item.U params arg) = back (forms.word word.U) (some_expressions an_expression params ▸ name arg ▸ sign Semicolon) (both (some_expressions an_expression params) (name arg ▸ sign Semicolon) (some_params params) (front (name arg) (sign Semicolon) (a_name arg)))
one_item (item.Cx control target) = back (forms.word word.Cx) (name control ▸ sign Comma ▸ name target ▸ sign Semicolon) (both (name control) (sign Comma ▸ name target ▸ sign Semicolon) (a_name control) (back (sign Comma) (name target ▸ sign Semicolon) (front (name target) (sign Semicolon) (a_name target))))
one_item (item.Call gate params args) = three (body_item an_expression (item.Call gate params args)) (both (name gate) (parameters an_expression params ▸ commas name args ▸ sign Semicolon) (a_name gate) (both (parameters an_expression params) (commas name args ▸ sign Semicolon) (perhaps_params params) (front (commas name args) (sign Semicolon) (some_names args))))
one_item (item.Barrier args) = back (forms.word word.Barrier) (commas name args ▸ sign Semicolon) (front (commas name args) (sign Semicolon) (some_names args))

one_operation : (op : Qop) → Tells (qop an_expression op) (IsOperation op)
one_operation (operation.U params arg) = back (forms.word word.U) (some_expressions an_expression params ▸ argument arg ▸ sign Semicolon) (both (some_expressions an_expression params) (argument arg ▸ sign Semicolon) (some_params params) (front (argument arg) (sign Semicolon) (one_argument arg)))
one_operation (operation.Cx control target) = back (forms.word word.Cx) (argument control ▸ sign Comma ▸ argument target ▸ sign Semicolon) (both (argument control) (sign Comma ▸ argument target ▸ sign Semicolon) (one_argument control) (back (sign Comma) (argument target ▸ sign Semicolon) (front (argument target) (sign Semicolon) (one_argument target))))
one_operation (operation.Call gate params args) = three (qop an_expression (operation.Call gate params args)) (both (name gate) (parameters an_expression params ▸ commas argument args ▸ sign Semicolon) (a_name gate) (both (parameters an_expression params) (commas argument args ▸ sign Semicolon) (perhaps_params params) (front (commas argument args) (sign Semicolon) (some_arguments args))))
one_operation (operation.Measure source target) = back (forms.word word.Measure) (argument source ▸ sign Arrow ▸ argument target ▸ sign Semicolon) (both (argument source) (sign Arrow ▸ argument target ▸ sign Semicolon) (one_argument source) (back (sign Arrow) (argument target ▸ sign Semicolon) (front (argument target) (sign Semicolon) (one_argument target))))
one_operation (operation.Reset arg) = back (forms.word word.Reset) (argument arg ▸ sign Semicolon) (front (argument arg) (sign Semicolon) (one_argument arg))

one_head : (params qubits : List (List ℕ)) → Tells (formals params qubits) (All IsName params × AtLeastOne IsName qubits)
one_head params qubits = both (parameters name params) (commas name qubits) (perhaps_some name IsName a_name params) (some_names qubits)

one_statement : (s : Statement) → Tells (a_statement an_expression s) (IsWellFormed s)
one_statement (statement.Include t) = nothing (a_statement an_expression (statement.Include t))
one_statement (statement.Register quantum n size) = back (forms.word (cond quantum word.Qreg word.Creg)) (name n ▸ index size ▸ sign Semicolon) (front (name n) (index size ▸ sign Semicolon) (a_name n))
one_statement (statement.Gate n params qubits body) = four (a_statement an_expression (statement.Gate n params qubits body)) (back (forms.word word.Gate) (name n ▸ formals params qubits ▸ sign LeftBrace ▸ each (body_item an_expression) body ▸ sign RightBrace)
    (both (name n) (formals params qubits ▸ sign LeftBrace ▸ each (body_item an_expression) body ▸ sign RightBrace) (a_name n)
    (both (formals params qubits) (sign LeftBrace ▸ each (body_item an_expression) body ▸ sign RightBrace) (one_head params qubits)
    (back (sign LeftBrace) (each (body_item an_expression) body ▸ sign RightBrace)
    (front (each (body_item an_expression) body) (sign RightBrace) (each_one (body_item an_expression) IsBodyItem one_item body))))))
one_statement (statement.Opaque n params qubits) = three (a_statement an_expression (statement.Opaque n params qubits)) (back (forms.word word.Opaque) (name n ▸ formals params qubits ▸ sign Semicolon) (both (name n) (formals params qubits ▸ sign Semicolon) (a_name n) (front (formals params qubits) (sign Semicolon) (one_head params qubits))))
one_statement (statement.Apply op) = one_operation op
one_statement (statement.Barrier args) = back (forms.word word.Barrier) (commas argument args ▸ sign Semicolon) (front (commas argument args) (sign Semicolon) (some_arguments args))
one_statement (statement.If creg value op) = back (forms.word word.If) (sign LeftParenthesis ▸ name creg ▸ sign Equals ▸ integer value ▸ sign RightParenthesis ▸ qop an_expression op)
    (back (sign LeftParenthesis) (name creg ▸ sign Equals ▸ integer value ▸ sign RightParenthesis ▸ qop an_expression op)
    (both (name creg) (sign Equals ▸ integer value ▸ sign RightParenthesis ▸ qop an_expression op) (a_name creg)
    (back (sign Equals) (integer value ▸ sign RightParenthesis ▸ qop an_expression op)
    (back (integer value) (sign RightParenthesis ▸ qop an_expression op)
    (back (sign RightParenthesis) (qop an_expression op) (one_operation op))))))

-- ---- programs

one_placed : (p : Placed) → Tells (a_placed_statement p) (IsWellFormed p.statement)
one_placed p placed tokens t = one_statement p.statement placed tokens t.0

by_verdict : (statements program : List Placed) (large : Option ℕ) (left : List PlacedToken) → ◌≡◌ {A = Result (List Placed) QasmFault} (Ok program) (verdict statements large left) → (large ≡ None) × (program ≡ statements)
by_verdict statements program None [] e = (refl, cc)
by_verdict statements program None (p ∷ left) e = absurd cc
by_verdict statements program (Some at) left e = absurd cc

after_header : (placed : List PlacedToken) (program : List Placed) → AreTokens placed → AnswersAfter placed (Ok program) → AreWellFormed program
after_header placed program tokens (statements, large, left, run, e) =
    let v = by_verdict statements program large left e in
    let k = both_parts (λ (p : PlacedToken). IsToken p.token) run.begins.front left (subst AreTokens run.begins.parts tokens) in
    let spelled = subst (λ (o : Option ℕ). each a_placed_statement statements o run.begins.front) v.0 run.begins.spelled in
    rw v.1 (each_one a_placed_statement (λ p. IsWellFormed p.statement) one_placed statements run.begins.front k.0 spelled)

well_formed : (placed : List PlacedToken) (program : List Placed) → AreTokens placed → Answers placed (Ok program) → AreWellFormed program
well_formed placed program tokens (rest, begins, answer) = after_header rest program (both_parts (λ (p : PlacedToken). IsToken p.token) begins.front rest (subst AreTokens begins.parts tokens)).1 answer

pub well_formed_if_read : (placed : List PlacedToken) (result : Result (List Placed) QasmFault) → AreTokens placed → UnlessMemory (Answers placed) result → IfOk result AreWellFormed
well_formed_if_read placed (Ok program) tokens answer = well_formed placed program tokens answer
well_formed_if_read placed (Err fault) tokens answer = tt
