-- Forms of token lists, and how they are put together.
use Rattle.std.specs.Prelude.{◌≡◌, ℕ, List, [], ◌∷◌, ◌++◌, map, Option, Some, None, ◌⊎◌}
use Rattle.std.specs.Option.{option_or}
use Rattle.qasm_tokens.specs.declared.token.Token.{Token}
use Rattle.qasm_tokens.specs.declared.token.Token.TheVariants as token
use Rattle.qasm_tokens.specs.declared.token.PlacedToken.{PlacedToken}
use Rattle.qasm_tokens.specs.declared.token.Keyword.{Keyword}
use Rattle.qasm_tokens.specs.declared.token.Sign.{Sign}
use Rattle.qasm_tokens.specs.declared.token.Sign.TheVariants.{Comma, LeftParenthesis, RightParenthesis}

-- Which tokens have a form. The option is the place of the first large expression among them.
abbrev pub Form : Type 1
Form = Option ℕ → List PlacedToken → Type 0

-- the tokens without their places
abbrev pub tokens_of : List PlacedToken → List Token
tokens_of placed = map (λ p. p.token) placed

-- where the first token is
abbrev pub place_of : List PlacedToken → Option ℕ
place_of [] = None
place_of (p ∷ placed) = Some p.at

-- these tokens
abbrev pub just : List Token → Form
just tokens large placed = (large ≡ None) × (tokens_of placed ≡ tokens)

abbrev pub word : Keyword → Form
word w = just (token.Keyword w ∷ [])

abbrev pub sign : Sign → Form
sign s = just (token.Sign s ∷ [])

abbrev pub name : List ℕ → Form
name n = just (token.Identifier n ∷ [])

abbrev pub integer : ℕ → Form
integer n = just (token.Integer n ∷ [])

abbrev pub text : List ℕ → Form
text t = just (token.Text t ∷ [])

abbrev pub real : List ℕ → Form
real r = just (token.Real r ∷ [])

-- one form and then another
pub record Then (A B : Form) (large : Option ℕ) (placed : List PlacedToken) : Type 0 where
  pub large_front : Option ℕ
  pub large_back : Option ℕ
  pub front : List PlacedToken
  pub back : List PlacedToken
  pub first : A large_front front
  pub second : B large_back back
  pub parts : placed ≡ front ++ back
  pub earlier : large ≡ option_or large_front large_back

infixr 10 ◌▸◌
abbrev pub ◌▸◌ : Form → Form → Form
A ▸ B = Then A B

-- one form or another
abbrev pub either : Form → Form → Form
either A B large placed = A large placed ⊎ B large placed

-- one after another
abbrev pub each : {X : Type 0} → (X → Form) → List X → Form
each F [] = just []
each F (x ∷ xs) = F x ▸ each F xs

-- at least one, and each further one after a comma
abbrev pub commas : {X : Type 0} → (X → Form) → List X → Form
commas F [] = λ large placed. ⊥
commas F (x ∷ xs) = F x ▸ each (λ y. sign Comma ▸ F y) xs

-- in parentheses; where there are none, the parentheses may be absent
abbrev pub parameters : {X : Type 0} → (X → Form) → List X → Form
parameters F [] = either (just []) (sign LeftParenthesis ▸ sign RightParenthesis)
parameters F (x ∷ xs) = sign LeftParenthesis ▸ commas F (x ∷ xs) ▸ sign RightParenthesis
