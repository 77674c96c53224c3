-- Programs that are read.
use Rattle.std.proofs.Common.{◌≡◌, ℕ, ◌<◌, Bool, true, false, cond, List, [], ◌∷◌, ◌++◌, length, Option, Some, None, Result, Ok, Err, refl, sym, ap, subst, ◌∙◌, append_assoc, arith}
use Rattle.std.specs.Option.{option_or}
use Rattle.std.proofs.lemmas.List.{length-append, append-nil}
use Rattle.qasm_read.specs.declared.exp.Exp.{Exp}
use Rattle.qasm_read.specs.declared.qop.Qop.TheVariants as operation
use Rattle.qasm_read.specs.declared.statement.Statement.{Statement}
use Rattle.qasm_read.specs.declared.statement.Statement.TheVariants as statement
use Rattle.qasm_tokens.specs.declared.token.PlacedToken.{PlacedToken}
use Rattle.qasm_tokens.specs.declared.token.Token.{Token}
use Rattle.qasm_tokens.specs.declared.token.Token.TheVariants as token
use Rattle.qasm_tokens.specs.declared.token.Keyword.TheVariants as word
use Rattle.qasm_tokens.specs.declared.token.Sign.TheVariants.{Semicolon, Comma, LeftParenthesis, RightParenthesis, LeftBrace, RightBrace, Arrow, Equals}
use Rattle.qasm_read.specs.Forms.{Form, Then, ◌▸◌, tokens_of, place_of, just, sign, name, integer, text, each, commas, parameters}
use Rattle.qasm_read.specs.Grammar.{an_expression, index, argument, formals, some_expressions, body_item, qop, a_statement}
use Rattle.std.proofs.lemmas.Slice.Eq.{bytes_eq-Decides}
use Rattle.std.specs.Prelude.{codes}
use Rattle.std.specs.Str.{bytes_eq}
use Rattle.qasm_read.specs.declared.fault.QasmFault.{QasmFault}
use Rattle.qasm_read.specs.declared.fault.QasmFault.TheVariants.{Header, Large, NoMemory, Statement as NoStatement}
use Rattle.qasm_read.specs.declared.statement.Placed.{Placed}
use Rattle.qasm_read.specs.declared.stop.Stop.{Stop}
use Rattle.qasm_read.specs.declared.stop.Stop.TheVariants as stop
use Rattle.qasm_read.specs.Reading.{Gives, State, ◌>>=◌, pair, closed, opening_in, opening_at, version_in, version_at, header_at, statement_at}
use Rattle.qasm_read.specs.Forms as forms
use Rattle.qasm_read.specs.Expressions.{exp_at}
use Rattle.qasm_read.specs.Program.{header, a_placed_statement, Begins, NoStatementBegins, LongestRun, verdict, AnswersAfter, Answers, UnlessMemory}
use Rattle.qasm_read.proofs.Readers.{at, bind_some, some_is, along, single, reads_pair, reads_closed, Took, Reads, anything, or-none, or_assoc}
use Rattle.qasm_read.proofs.Lists.{Shortens}
use Rattle.qasm_read.proofs.StatementLaws.{Shortens-takes, Takes, first_takes, reads_statement}
use Rattle.qasm_read.proofs.ExpressionLaws.{cut_expression, reads_expressions}
use Rattle.qasm_read.proofs.Changes.{Changes, change_each, change_statement, to_real, to_cut}

qop_takes : (E : Exp → Form) → Takes (qop E)
qop_takes E (operation.U params arg) large front t = first_takes (token.Keyword word.U) (some_expressions E params ▸ argument arg ▸ sign Semicolon) large front t
qop_takes E (operation.Cx control target) large front t = first_takes (token.Keyword word.Cx) (argument control ▸ sign Comma ▸ argument target ▸ sign Semicolon) large front t
qop_takes E (operation.Call gate params args) large front t = first_takes (token.Identifier gate) (parameters E params ▸ commas argument args ▸ sign Semicolon) large front t
qop_takes E (operation.Measure source target) large front t = first_takes (token.Keyword word.Measure) (argument source ▸ sign Arrow ▸ argument target ▸ sign Semicolon) large front t
qop_takes E (operation.Reset arg) large front t = first_takes (token.Keyword word.Reset) (argument arg ▸ sign Semicolon) large front t

pub statement_takes : (E : Exp → Form) → Takes (a_statement E)
statement_takes E (statement.Include s) large front t = first_takes (token.Keyword word.Include) (text s ▸ sign Semicolon) large front t
statement_takes E (statement.Register true n size) large front t = first_takes (token.Keyword word.Qreg) (name n ▸ index size ▸ sign Semicolon) large front t
statement_takes E (statement.Register false n size) large front t = first_takes (token.Keyword word.Creg) (name n ▸ index size ▸ sign Semicolon) large front t
statement_takes E (statement.Gate n params qubits body) large front t = first_takes (token.Keyword word.Gate) (name n ▸ formals params qubits ▸ sign LeftBrace ▸ each (body_item E) body ▸ sign RightBrace) large front t
statement_takes E (statement.Opaque n params qubits) large front t = first_takes (token.Keyword word.Opaque) (name n ▸ formals params qubits ▸ sign Semicolon) large front t
statement_takes E (statement.Barrier args) large front t = first_takes (token.Keyword word.Barrier) (commas argument args ▸ sign Semicolon) large front t
statement_takes E (statement.If creg value op) large front t = first_takes (token.Keyword word.If) (sign LeftParenthesis ▸ name creg ▸ sign Equals ▸ integer value ▸ sign RightParenthesis ▸ qop E op) large front t
statement_takes E (statement.Apply op) large front t = qop_takes E op large front t

pub reads_cut : Reads (a_statement cut_expression) anything (statement_at exp_at)
reads_cut = reads_statement reads_expressions

pub short_statement : Shortens (statement_at exp_at)
short_statement = Shortens-takes (a_statement cut_expression) anything (statement_at exp_at) reads_cut (statement_takes cut_expression)

-- ---- the header

opening_tells : (t : Token) (st : State) (u : Unit {0}) (after : State) → opening_in t st ≡ Some (u, after) → (t ≡ token.Keyword word.OpenQasm) × (st ≡ after)
opening_tells (token.Keyword word.OpenQasm) st u after e = (refl, ap (λ (q : Unit {0} × State). q.1) (some_is e))
opening_tells other st u after e = absurd cc

abbrev given : State → Option (Unit {0} × State)
given st = Some (tt, st)

version_by : (r : List ℕ) (st after : State) (u : Unit {0}) (b : Bool) → bytes_eq r (codes "2.0") ≡ b → cond b (given st) None ≡ Some (u, after) → (token.Real r ≡ token.Real (codes "2.0")) × (st ≡ after)
version_by r st after u true is e = (ap (λ (x : List ℕ). token.Real x) ((bytes_eq-Decides r (codes "2.0")).0 is), ap (λ (q : Unit {0} × State). q.1) (some_is e))
version_by r st after u false is e = absurd cc

version_tells : (t : Token) (st : State) (u : Unit {0}) (after : State) → version_in t st ≡ Some (u, after) → (t ≡ token.Real (codes "2.0")) × (st ≡ after)
version_tells (token.Real r) st u after e = version_by r st after u (bytes_eq r (codes "2.0")) refl e
version_tells other st u after e = absurd cc

reads_opening : Reads (λ (u : Unit {0}). forms.word word.OpenQasm) anything opening_at
reads_opening = single (λ u. token.Keyword word.OpenQasm) opening_in (λ u st. refl) opening_tells

reads_version : Reads (λ (u : Unit {0}). forms.real (codes "2.0")) anything version_at
reads_version = single (λ u. token.Real (codes "2.0")) version_in (λ u st. refl) version_tells

reads_header : Reads (λ (p : Unit {0} × Unit {0}). header) anything (pair opening_at (closed Semicolon version_at))
reads_header = reads_pair (λ (u : Unit {0}). forms.word word.OpenQasm) (λ (u : Unit {0}). forms.real (codes "2.0") ▸ sign Semicolon) anything anything opening_at (closed Semicolon version_at) reads_opening
    (reads_closed Semicolon (λ (u : Unit {0}). forms.real (codes "2.0")) anything version_at reads_version (λ p rest e. tt))
    (λ u large back rest t end. tt)

-- nothing in a header is large
header_small : (large : Option ℕ) (front : List PlacedToken) → header large front → large ≡ None
header_small large front t = t.earlier ∙ ap (λ o. option_or o t.large_back) t.first.0 ∙ t.second.earlier ∙ ap (λ o. option_or o t.second.large_back) t.second.first.0 ∙ t.second.second.0

pub header_found : (st : State) (u : Unit {0}) (after : State) → st.large ≡ None → header_at st ≡ Some (u, after) → (after.large ≡ None) × Begins header None st.placed after.placed
header_found st u after fresh e =
    let x = bind_some (pair opening_at (closed Semicolon version_at) st) (λ x. Some (tt, x.1)) (u, after) e in
    let t = reads_header.found st x.0.0 x.0.1 x.1 in
    let small = header_small t.large t.front t.spelled in
    along (λ (q : Unit {0} × State). (q.1.large ≡ None) × Begins header None st.placed q.1.placed) (tt, x.0.1) (u, after) x.2
    (t.marks ∙ ap (λ o. option_or o t.large) fresh ∙ small, record { front = t.front; spelled = subst (λ o. header o t.front) small t.spelled; parts = t.parts })

pub header_reads : (front rest : List PlacedToken) (large : Option ℕ) → header None front → header_at (at (front ++ rest) large) ≡ Some (tt, at rest (option_or large None))
header_reads front rest large t = ap (λ (o : Option ((Unit {0} × Unit {0}) × State)). o >>= λ x. Some (tt, x.1)) (reads_header.only (tt, tt) None large front rest t tt)

pub header_none : (st : State) → header_at st ≡ None → (left : List PlacedToken) → Begins header None st.placed left → ⊥
header_none st none left b =
    let same : header_at st ≡ header_at (at (b.front ++ left) st.large) = ap (λ (ts : List PlacedToken). header_at (at ts st.large)) b.parts in
    absurd (let e = sym none ∙ same ∙ header_reads b.front left st.large b.spelled in cc)

pub other_form : {X : Type 0} (e : Stop) (now : State) (read : Option (X × State)) → e ≡ stop.OtherForm → Gives {X = X} (Err e) now read → read ≡ None
other_form {X} e now read is given = subst (λ (d : Stop). Gives {X = X} (Err d) now read) is given

pub no_header_fault : (statements : List Placed) (large : Option ℕ) (left : List PlacedToken) → Err Header ≡ verdict statements large left → ⊥
no_header_fault statements (Some large) left e = absurd cc
no_header_fault statements None [] e = absurd cc
no_header_fault statements None (p ∷ left) e = absurd cc

pub answered : (placed rest : List PlacedToken) (result : Result (List Placed) QasmFault) → Begins header None placed rest → UnlessMemory (AnswersAfter rest) result → UnlessMemory (Answers placed) result
answered placed rest (Err Header) b h = absurd (no_header_fault h.0 h.1 h.2 h.4)
answered placed rest (Err NoMemory) b h = tt
answered placed rest other b h = (rest, b, h)

-- ---- where no statement begins

pub none_begins : (st : State) → statement_at exp_at st ≡ None → NoStatementBegins st.placed
none_begins st none s large left b =
    let c = change_statement an_expression cut_expression to_cut s large b.front b.spelled in
    let read = reads_cut.only c.0 large st.large b.front left c.1 tt in
    let same : statement_at exp_at st ≡ statement_at exp_at (at (b.front ++ left) st.large) = ap (λ (ts : List PlacedToken). statement_at exp_at (at ts st.large)) b.parts in
    absurd (let e = sym none ∙ same ∙ read in cc)

pub end_begins : (placed : List PlacedToken) → placed ≡ [] → NoStatementBegins placed
end_begins placed nil s large left b =
    let long : 0 < length b.front = statement_takes an_expression s large b.front b.spelled in
    absurd (omega (arith, long, length-append b.front left, ap (λ (ts : List PlacedToken). length ts) (sym nil ∙ b.parts)))

-- ---- the statements so far

-- a statement as it is read, at its place
abbrev pub cut_placed : Placed → Form
cut_placed p large placed = a_statement cut_expression p.statement large placed × (place_of placed ≡ Some p.at)

change_placed : Changes cut_placed a_placed_statement
change_placed p large placed t =
    let c = change_statement cut_expression an_expression to_real p.statement large placed t.0 in
    (record { at = p.at; statement = c.0 }, (c.1, t.1), λ none. ap (λ (s : Statement). record { at = p.at; statement = s }) (c.2 none))

each_last : {X : Type 0} (F : X → Form) (xs : List X) (x : X) (m n : Option ℕ) (front back : List PlacedToken) → each F xs m front → F x n back → each F (xs ++ x ∷ []) (option_or m n) (front ++ back)
each_last F [] x m n [] back t u = record { large_front = n; large_back = None; front = back; back = []; first = u; second = (refl, refl); parts = sym (append-nil back); earlier = ap (λ o. option_or o n) t.0 ∙ sym (or-none n) }
each_last F [] x m n (p ∷ front) back t u = absurd (let e = t.1 in cc)
each_last F (y ∷ xs) x m n front back t u = record {
  large_front = t.large_front;
  large_back = option_or t.large_back n;
  front = t.front;
  back = t.back ++ back;
  first = t.first;
  second = each_last F xs x t.large_back n t.back back t.second u;
  parts = ap (λ (ts : List PlacedToken). ts ++ back) t.parts ∙ append_assoc t.front t.back back;
  earlier = ap (λ o. option_or o n) t.earlier ∙ or_assoc t.large_front t.large_back n;
}

took_last : {X : Type 0} (F : X → Form) (xs : List X) (x : X) (st mid after : State) → Took (each F xs) st mid → Took (F x) mid after → Took (each F (xs ++ x ∷ [])) st after
took_last F xs x st mid after t u = record {
  large = option_or t.large u.large;
  front = t.front ++ u.front;
  spelled = each_last F xs x t.large u.large t.front u.front t.spelled u.spelled;
  parts = t.parts ∙ ap (λ (ts : List PlacedToken). t.front ++ ts) u.parts ∙ sym (append_assoc t.front u.front after.placed);
  marks = u.marks ∙ ap (λ o. option_or o u.large) t.marks ∙ or_assoc st.large t.large u.large;
}

pub nothing_yet : (st : State) → Took (each cut_placed []) st st
nothing_yet st = record { large = None; front = []; spelled = (refl, refl); parts = refl; marks = sym (or-none st.large) }

front_place : (front rest : List PlacedToken) → 0 < length front → place_of (front ++ rest) ≡ place_of front
front_place [] rest lt = absurd (omega arith)
front_place (p ∷ front) rest lt = refl

pub one_more : (statements : List Placed) (s : Statement) (place : ℕ) (st mid after : State) → Took (each cut_placed statements) st mid → place_of mid.placed ≡ Some place → statement_at exp_at mid ≡ Some (s, after) → Took (each cut_placed (statements ++ record { at = place; statement = s } ∷ [])) st after
one_more statements s place st mid after t here read =
    let u = reads_cut.found mid s after read in
    let long = statement_takes cut_expression s u.large u.front u.spelled in
    let placed : place_of u.front ≡ Some place = sym (ap (λ (ts : List PlacedToken). place_of ts) u.parts ∙ front_place u.front after.placed long) ∙ here in
    took_last cut_placed statements (record { at = place; statement = s }) st mid after t (record { large = u.large; front = u.front; spelled = (u.spelled, placed); parts = u.parts; marks = u.marks })

-- ---- the answers

none_here : (placed : List PlacedToken) → place_of placed ≡ None → placed ≡ []
none_here [] e = refl
none_here (p ∷ placed) e = absurd cc

ran : (statements : List Placed) (st now : State) (large : Option ℕ) → st.large ≡ None → now.large ≡ large → Took (each cut_placed statements) st now → NoStatementBegins now.placed → (real : List Placed) × LongestRun real large st.placed now.placed × (large ≡ None → statements ≡ real)
ran statements st now large fresh marked t ended =
    let is : t.large ≡ large = sym (t.marks ∙ ap (λ o. option_or o t.large) fresh) ∙ marked in
    let c = change_each cut_placed a_placed_statement change_placed statements t.large t.front t.spelled in
    (c.0, record { begins = record { front = t.front; spelled = subst (λ o. each a_placed_statement c.0 o t.front) is c.1; parts = t.parts }; ended = ended }, λ none. c.2 (is ∙ none))

pub ends_well : (statements : List Placed) (st now : State) → st.large ≡ None → Took (each cut_placed statements) st now → place_of now.placed ≡ None → now.large ≡ None → AnswersAfter st.placed (Ok statements)
ends_well statements st now fresh t end none =
    let nil : now.placed ≡ [] = none_here now.placed end in
    let r = ran statements st now None fresh none t (end_begins now.placed nil) in
    (r.0, None, now.placed, r.1, ap (λ (ss : List Placed). Ok ss) (r.2 refl) ∙ ap (λ (ts : List PlacedToken). verdict r.0 None ts) (sym nil))

pub ends_large : (statements : List Placed) (at_large : ℕ) (st now : State) → st.large ≡ None → Took (each cut_placed statements) st now → place_of now.placed ≡ None → now.large ≡ Some at_large → AnswersAfter st.placed (Err (Large at_large))
ends_large statements at_large st now fresh t end marked =
    let r = ran statements st now (Some at_large) fresh marked t (end_begins now.placed (none_here now.placed end)) in
    (r.0, Some at_large, now.placed, r.1, refl)

pub stops_large : (statements : List Placed) (at_large : ℕ) (st now : State) → st.large ≡ None → Took (each cut_placed statements) st now → statement_at exp_at now ≡ None → now.large ≡ Some at_large → AnswersAfter st.placed (Err (Large at_large))
stops_large statements at_large st now fresh t none marked =
    let r = ran statements st now (Some at_large) fresh marked t (none_begins now none) in
    (r.0, Some at_large, now.placed, r.1, refl)

fault_here : (statements : List Placed) (here : ℕ) (left : List PlacedToken) → place_of left ≡ Some here → Err (NoStatement here) ≡ verdict statements None left
fault_here statements here [] e = absurd cc
fault_here statements here (p ∷ left) e = ap (λ (n : ℕ). Err (NoStatement n)) (sym (some_is e))

pub stops_here : (statements : List Placed) (here : ℕ) (st now : State) → st.large ≡ None → Took (each cut_placed statements) st now → statement_at exp_at now ≡ None → now.large ≡ None → place_of now.placed ≡ Some here → AnswersAfter st.placed (Err (NoStatement here))
stops_here statements here st now fresh t none marked place =
    let r = ran statements st now None fresh marked t (none_begins now none) in
    (r.0, None, now.placed, r.1, fault_here r.0 here now.placed place)
