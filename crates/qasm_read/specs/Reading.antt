-- How the forms are read: for each form the value that is read at the front of the tokens, and the tokens after it.
use Rattle.std.specs.Prelude.{◌≡◌, ℕ, suc, zero, List, [], ◌∷◌, ◌++◌, length, Option, Some, None, Result, Ok, Err, Bool, true, false, cond, not, eqb, codes}
use Rattle.std.specs.Str.{bytes_eq}
use Rattle.qasm_read.specs.declared.arg.Arg.{Arg}
use Rattle.qasm_read.specs.declared.body_item.BodyItem.{BodyItem}
use Rattle.qasm_read.specs.declared.body_item.BodyItem.TheVariants as item
use Rattle.qasm_read.specs.declared.exp.Exp.{Exp}
use Rattle.qasm_read.specs.declared.qop.Qop.{Qop}
use Rattle.qasm_read.specs.declared.qop.Qop.TheVariants as operation
use Rattle.qasm_read.specs.declared.statement.Statement.{Statement}
use Rattle.qasm_read.specs.declared.statement.Statement.TheVariants as statement
use Rattle.qasm_tokens.specs.declared.token.Keyword.TheVariants as word
use Rattle.qasm_read.specs.declared.stop.Stop.{Stop}
use Rattle.qasm_read.specs.declared.stop.Stop.TheVariants.{NoMemory, OtherForm}
use Rattle.qasm_tokens.specs.declared.token.Token.{Token}
use Rattle.qasm_tokens.specs.declared.token.Token.TheVariants as token
use Rattle.qasm_tokens.specs.declared.token.PlacedToken.{PlacedToken}
use Rattle.qasm_tokens.specs.declared.token.Sign.{Sign}
use Rattle.qasm_tokens.specs.declared.token.Sign.TheVariants.{Semicolon, Comma, LeftParenthesis, RightParenthesis, LeftBracket, RightBracket, LeftBrace, RightBrace, Plus, Minus, Star, Slash, Caret, Arrow, Equals}

-- the tokens that are left, and where the first large expression began
pub record State : Type 0 where
  pub placed : List PlacedToken
  pub large : Option ℕ

abbrev pub Reader : Type 0 → Type 0
Reader X = State → Option (X × State)

-- What a function returned and left is what the reader gives, unless memory ran out.
abbrev pub Gives : {X : Type 0} → Result X Stop → State → Option (X × State) → Type 0
Gives (Ok x) now read = read ≡ Some (x, now)
Gives (Err NoMemory) now read = Unit {0}
Gives (Err OtherForm) now read = read ≡ None

infixl 10 ◌>>=◌
abbrev pub ◌>>=◌ : {A B : Type 0} → Option A → (A → Option B) → Option B
(Some x) >>= f = f x
None >>= f = None

abbrev pub number_of : Sign → ℕ
number_of Semicolon = 0
number_of Comma = 1
number_of LeftParenthesis = 2
number_of RightParenthesis = 3
number_of LeftBracket = 4
number_of RightBracket = 5
number_of LeftBrace = 6
number_of RightBrace = 7
number_of Plus = 8
number_of Minus = 9
number_of Star = 10
number_of Slash = 11
number_of Caret = 12
number_of Arrow = 13
number_of Equals = 14

-- whether a token is that sign
abbrev pub is_sign : Sign → Token → Bool
is_sign s (token.Sign t) = eqb (number_of s) (number_of t)
is_sign s other = false

-- whether that sign comes next
abbrev pub comes : Sign → State → Bool
comes s st = elim st.placed [ [] ↦ false | p ∷ rest ↦ is_sign s p.token ]

abbrev pub next_at : Reader Token
next_at st = elim st.placed [ [] ↦ None | p ∷ rest ↦ Some (p.token, record { placed = rest; large = st.large }) ]

abbrev pub unit_at : Reader (Unit {0})
unit_at st = Some (tt, st)

abbrev pub skip_at : Sign → Reader (Unit {0})
skip_at s st = cond (comes s st) (next_at st >>= λ x. Some (tt, x.1)) None

abbrev pub name_in : Token → State → Option (List ℕ × State)
name_in (token.Identifier n) st = Some (n, st)
name_in other st = None

abbrev pub name_at : Reader (List ℕ)
name_at st = next_at st >>= λ x. name_in x.0 x.1

abbrev pub integer_in : Token → State → Option (ℕ × State)
integer_in (token.Integer n) st = Some (n, st)
integer_in other st = None

abbrev pub integer_at : Reader ℕ
integer_at st = next_at st >>= λ x. integer_in x.0 x.1

abbrev pub text_in : Token → State → Option (List ℕ × State)
text_in (token.Text t) st = Some (t, st)
text_in other st = None

abbrev pub text_at : Reader (List ℕ)
text_at st = next_at st >>= λ x. text_in x.0 x.1

-- ---- putting readers together

abbrev pub made : {X Y : Type 0} → (X → Y) → Reader X → Reader Y
made f read st = read st >>= λ x. Some (f x.0, x.1)

abbrev pub pair : {X Y : Type 0} → Reader X → Reader Y → Reader (X × Y)
pair f g st = f st >>= λ x. g x.1 >>= λ y. Some ((x.0, y.0), y.1)

abbrev pub after_sign : {X : Type 0} → Sign → Reader X → Reader X
after_sign s read st = skip_at s st >>= λ x. read x.1

abbrev pub closed : {X : Type 0} → Sign → Reader X → Reader X
closed s read st = read st >>= λ x. skip_at s x.1 >>= λ y. Some (x.0, y.1)

abbrev pub with_front : {X : Type 0} → List X → Option (List X × State) → Option (List X × State)
with_front front read = read >>= λ x. Some (front ++ x.0, x.1)

-- while there is more, at most so often
abbrev pub repeat : {X : Type 0} → (State → Bool) → Reader X → ℕ → Reader (List X)
repeat more read zero st = cond (more st) None (Some ([], st))
repeat more read (suc n) st =
    cond (more st) (read st >>= λ x. with_front (x.0 ∷ []) (repeat more read n x.1)) (Some ([], st))

-- while there is more: each takes a token at least
unfoldable pub repeat_at : {X : Type 0} → (State → Bool) → Reader X → Reader (List X)
repeat_at more read st = repeat more read (length st.placed) st

-- at least one, with commas between
abbrev pub commas_at : {X : Type 0} → Reader X → Reader (List X)
commas_at read st = read st >>= λ x. with_front (x.0 ∷ []) (repeat_at (comes Comma) (after_sign Comma read) x.1)

-- at least one in parentheses
abbrev pub some_in_parentheses : {X : Type 0} → Reader X → Reader (List X)
some_in_parentheses read = after_sign LeftParenthesis (closed RightParenthesis (commas_at read))

abbrev pub within : {X : Type 0} → Reader X → Reader (List X)
within read st =
    cond (comes RightParenthesis st) (made (λ u. []) (skip_at RightParenthesis) st)
    (closed RightParenthesis (commas_at read) st)

-- any number in parentheses, which may be absent where there are none
abbrev pub parameters_at : {X : Type 0} → Reader X → Reader (List X)
parameters_at read st = cond (comes LeftParenthesis st) (after_sign LeftParenthesis (within read) st) (Some ([], st))

-- ---- the forms

abbrev pub index_at : Reader ℕ
index_at = after_sign LeftBracket (closed RightBracket integer_at)

abbrev pub argument_at : Reader Arg
argument_at st =
    name_at st >>= λ x. cond (comes LeftBracket x.1)
    (index_at x.1 >>= λ y. Some (record { name = x.0; index = Some y.0 }, y.1))
    (Some (record { name = x.0; index = None }, x.1))

abbrev pub formals_at : Reader (List (List ℕ) × List (List ℕ))
formals_at = pair (parameters_at name_at) (commas_at name_at)

-- the reader of an expression is given

abbrev pub body_universal_at : Reader Exp → Reader BodyItem
body_universal_at exp = made (λ p. item.U p.0 p.1) (pair (some_in_parentheses exp) (closed Semicolon name_at))

abbrev pub body_controlled_not_at : Reader BodyItem
body_controlled_not_at = made (λ p. item.Cx p.0 p.1) (pair name_at (after_sign Comma (closed Semicolon name_at)))

abbrev pub body_barrier_at : Reader BodyItem
body_barrier_at = made (λ args. item.Barrier args) (closed Semicolon (commas_at name_at))

abbrev pub body_call_at : Reader Exp → List ℕ → Reader BodyItem
body_call_at exp gate =
    made (λ p. item.Call gate p.0 p.1) (pair (parameters_at exp) (closed Semicolon (commas_at name_at)))

abbrev pub body_item_in : Reader Exp → Token → Reader BodyItem
body_item_in exp (token.Keyword word.U) = body_universal_at exp
body_item_in exp (token.Keyword word.Cx) = body_controlled_not_at
body_item_in exp (token.Keyword word.Barrier) = body_barrier_at
body_item_in exp (token.Identifier gate) = body_call_at exp gate
body_item_in exp other = λ st. None

abbrev pub body_item_at : Reader Exp → Reader BodyItem
body_item_at exp st = next_at st >>= λ x. body_item_in exp x.0 x.1

-- up to a brace
abbrev pub body_at : Reader Exp → Reader (List BodyItem)
body_at exp = repeat_at (λ st. not (comes RightBrace st)) (body_item_at exp)

abbrev pub universal_at : Reader Exp → Reader Qop
universal_at exp = made (λ p. operation.U p.0 p.1) (pair (some_in_parentheses exp) (closed Semicolon argument_at))

abbrev pub controlled_not_at : Reader Qop
controlled_not_at =
    made (λ p. operation.Cx p.0 p.1) (pair argument_at (after_sign Comma (closed Semicolon argument_at)))

abbrev pub measure_at : Reader Qop
measure_at = made (λ p. operation.Measure p.0 p.1) (pair argument_at (after_sign Arrow (closed Semicolon argument_at)))

abbrev pub reset_at : Reader Qop
reset_at = made (λ a. operation.Reset a) (closed Semicolon argument_at)

abbrev pub call_at : Reader Exp → List ℕ → Reader Qop
call_at exp gate =
    made (λ p. operation.Call gate p.0 p.1)
    (pair (parameters_at exp) (closed Semicolon (commas_at argument_at)))

abbrev pub qop_in : Reader Exp → Token → Reader Qop
qop_in exp (token.Keyword word.U) = universal_at exp
qop_in exp (token.Keyword word.Cx) = controlled_not_at
qop_in exp (token.Keyword word.Measure) = measure_at
qop_in exp (token.Keyword word.Reset) = reset_at
qop_in exp (token.Identifier gate) = call_at exp gate
qop_in exp other = λ st. None

abbrev pub qop_at : Reader Exp → Reader Qop
qop_at exp st = next_at st >>= λ x. qop_in exp x.0 x.1

abbrev pub include_at : Reader Statement
include_at = made (λ t. statement.Include t) (closed Semicolon text_at)

abbrev pub register_at : Bool → Reader Statement
register_at quantum = made (λ p. statement.Register quantum p.0 p.1) (pair name_at (closed Semicolon index_at))

abbrev pub gate_at : Reader Exp → Reader Statement
gate_at exp =
    made (λ p. statement.Gate p.0 p.1.0.0 p.1.0.1 p.1.1)
    (pair name_at (pair formals_at (after_sign LeftBrace (closed RightBrace (body_at exp)))))

abbrev pub opaque_at : Reader Statement
opaque_at = made (λ p. statement.Opaque p.0 p.1.0 p.1.1) (pair name_at (closed Semicolon formals_at))

abbrev pub barrier_at : Reader Statement
barrier_at = made (λ args. statement.Barrier args) (closed Semicolon (commas_at argument_at))

abbrev pub condition_at : Reader Exp → Reader Statement
condition_at exp =
    made (λ p. statement.If p.0 p.1.0 p.1.1)
    (after_sign LeftParenthesis
    (pair name_at (after_sign Equals (pair integer_at (after_sign RightParenthesis (qop_at exp))))))

abbrev pub statement_in : Reader Exp → Token → Reader Statement
statement_in exp (token.Keyword word.Include) = include_at
statement_in exp (token.Keyword word.Qreg) = register_at true
statement_in exp (token.Keyword word.Creg) = register_at false
statement_in exp (token.Keyword word.Gate) = gate_at exp
statement_in exp (token.Keyword word.Opaque) = opaque_at
statement_in exp (token.Keyword word.Barrier) = barrier_at
statement_in exp (token.Keyword word.If) = condition_at exp
statement_in exp other = made (λ op. statement.Apply op) (qop_in exp other)

abbrev pub statement_at : Reader Exp → Reader Statement
statement_at exp st = next_at st >>= λ x. statement_in exp x.0 x.1

-- ---- the header

abbrev pub opening_in : Token → Reader (Unit {0})
opening_in (token.Keyword word.OpenQasm) st = Some (tt, st)
opening_in other st = None

abbrev pub version_in : Token → Reader (Unit {0})
version_in (token.Real r) st = cond (bytes_eq r (codes "2.0")) (Some (tt, st)) None
version_in other st = None

abbrev pub opening_at : Reader (Unit {0})
opening_at st = next_at st >>= λ x. opening_in x.0 x.1

abbrev pub version_at : Reader (Unit {0})
version_at st = next_at st >>= λ x. version_in x.0 x.1

abbrev pub header_at : Reader (Unit {0})
header_at = made (λ p. tt) (pair opening_at (closed Semicolon version_at))
