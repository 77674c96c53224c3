-- Each token of a text is of its form.
use Rattle.std.proofs.Common.{◌≡◌, ℕ, ◌-◌, ◌^◌, ◌≤◌, cond, List, [], ◌∷◌, length, take, drop, Some, None, Ok, Err, refl, sym, ap, subst, ◌∙◌, arith, inl, inr, Option, Result, nat_lt, nat_le, length-append}
use Rattle.std.specs.Str.Parse.{digits_value}
use Rattle.std.specs.Result.{result_unwrap_or}
use Rattle.std.proofs.lemmas.Bool.{ltb-true}
use Rattle.std.proofs.lemmas.Grind.{common_steps}
use Rattle.std.proofs.lemmas.List.{take_at}
use Rattle.qasm_tokens.specs.declared.token.Keyword.{Keyword}
use Rattle.qasm_tokens.specs.declared.token.Token.{Token}
use Rattle.qasm_tokens.specs.declared.token.Token.TheVariants as tokens
use Rattle.qasm_tokens.specs.declared.token.PlacedToken.{PlacedToken}
use Rattle.qasm_tokens.specs.declared.token_fault.TokenFault.{TokenFault}
use Rattle.qasm_tokens.specs.declared.piece.Shape.{Shape}
use Rattle.qasm_tokens.specs.declared.piece.Shape.TheVariants as shapes
use Rattle.qasm_tokens.specs.Tokens.{keyword_of, is_upper, short_token, word_token, token_of, tokens_of, with_front}
use Rattle.qasm_tokens.specs.Scan.{after_token}
use Rattle.qasm_tokens.specs.TokenForms.{IsWord, IsString, HasForm}
use Rattle.qasm_tokens.specs.TokenReading.{ReadsAs, at_end, no_form, bad_token, too_deep, with_rest}
use Rattle.qasm_tokens.specs.TokenKinds.{IsToken, AreTokens}
use Rattle.qasm_tokens.proofs.Pieces.{chosen}
use Rattle.qasm_tokens.proofs.TokenReading.{reads}

-- a token that is short enough
short_is : (at : ℕ) (made token : Token) (text : List ℕ) → short_token at made text ≡ Ok (Some token) → (length text ≤ 64) × (made ≡ token)
short_is at made token text e = elim (chosen (nat_le (length text) 64) (Ok (Some made)) _ _ e) [
  | inl h ↦ (grind (arith, common_steps, h.0), cc (h.1))
  | inr h ↦ absurd (cc (h.1))
]

word_is : (at : ℕ) (text : List ℕ) (token : Token) (found : Option Keyword) → keyword_of text ≡ found → IsWord text → word_token at found text ≡ Ok (Some token) → IsToken token
unfolding word_token
word_is at text token (Some keyword) k w e = let q : tokens.Keyword keyword ≡ token = cc e in subst IsToken q tt
word_is at text token None k w e = elim (chosen (is_upper text) (Err _) (short_token at (tokens.Identifier text) text) (Ok (Some token)) e) [
  | inl h ↦ absurd (cc (h.1))
  | inr h ↦ let s = short_is at (tokens.Identifier text) token text h.1 in
      subst IsToken s.1 (record { word = w; lower = h.0; other = k; short = s.0 })
]

integer_is : (at v : ℕ) (token : Token) (fault : TokenFault) → cond (nat_lt v (2 ^ 64)) (Ok (Some (tokens.Integer v))) (Err fault) ≡ Ok (Some token) → IsToken token
integer_is at v token fault e = elim (chosen (nat_lt v (2 ^ 64)) (Ok (Some (tokens.Integer v))) (Err fault) (Ok (Some token)) e) [
  | inl h ↦ let q : tokens.Integer v ≡ token = cc (h.1) in subst IsToken q (ltb-true v (2 ^ 64) h.0)
  | inr h ↦ absurd (cc (h.1))
]

-- what stands between the quotes
inside_is : (text : List ℕ) (s : IsString text) → take (length text - 2) (drop 1 text) ≡ s.0
inside_is text s =
    let long : length text - 2 ≡ length s.0 = omega (arith, ap length s.1, length-append s.0 (34 ∷ [])) in
    ap (λ (l : List ℕ). take (length text - 2) (drop 1 l)) s.1 ∙ take_at s.0 (34 ∷ []) (length text - 2) (sym long)

string_is : (at : ℕ) (text : List ℕ) (token : Token) → IsString text → short_token at (tokens.Text (take (length text - 2) (drop 1 text))) text ≡ Ok (Some token) → IsToken token
string_is at text token s e =
    let short = short_is at (tokens.Text (take (length text - 2) (drop 1 text))) token text e in
    let inside = inside_is text s in
    subst IsToken (ap (λ (l : List ℕ). tokens.Text l) (sym inside) ∙ short.1) (s.2, omega (arith, short.0, ap length s.1, length-append s.0 (34 ∷ [])))

token_is : (at : ℕ) (shape : Shape) (text : List ℕ) (token : Token) → HasForm shape text → token_of at shape text ≡ Ok (Some token) → IsToken token
unfolding token_of
token_is at shapes.Gap text token f e = absurd (cc e)
token_is at shapes.Word text token f e = word_is at text token (keyword_of text) refl f e
token_is at shapes.Integer text token f e = integer_is at (digits_value 10 text) token _ e
token_is at shapes.Real text token f e = let s = short_is at (tokens.Real text) token text e in subst IsToken s.1 (f, s.0)
token_is at shapes.Text text token f e = string_is at text token f e
token_is at (shapes.Sign sign) text token f e = let q : tokens.Sign sign ≡ token = cc e in subst IsToken q tt

with_first : (at : ℕ) (token : Option Token) (placed : List PlacedToken) → ((t : Token) → token ≡ Some t → IsToken t) → AreTokens placed → AreTokens (with_front at token placed)
with_first at None placed h all = all
with_first at (Some token) placed h all = (h token refl, all)

after_all : (at : ℕ) (token : Option Token) (rest : Result (List PlacedToken) TokenFault) (placed : List PlacedToken) → ((t : Token) → token ≡ Some t → IsToken t) → ((left : List PlacedToken) → rest ≡ Ok left → AreTokens left) → after_token at token rest ≡ Ok placed → AreTokens placed
after_all at token (Err fault) placed h all e = absurd (cc e)
after_all at token (Ok left) placed h all e = let q : with_front at token left ≡ placed = cc e in subst AreTokens q (with_first at token left h (all left refl))

all_are : {at depth : ℕ} {text : List ℕ} {answer : Result (List PlacedToken) TokenFault} → ReadsAs at depth text answer → (placed : List PlacedToken) → answer ≡ Ok placed → AreTokens placed
all_are at_end placed e = let q : [] ≡ placed = cc e in subst AreTokens q tt
all_are (no_form some none) placed e = absurd (cc e)
all_are (bad_token piece longest bad) placed e = absurd (cc e)
all_are (too_deep piece token longest good deep) placed e = absurd (cc e)
all_are {at} {depth} {text} (with_rest piece token deeper rest longest good open_there more is) placed e =
    after_all at token rest placed (λ t q. token_is at piece.shape (take piece.length text) t longest.form (good ∙ ap (λ (o : Option Token). let r : Result (Option Token) TokenFault = Ok o in r) q)) (all_are more) (sym is ∙ e)

pub tokens_formed : (text : List ℕ) (placed : List PlacedToken) → tokens_of text ≡ Ok placed → AreTokens placed
tokens_formed text placed e = all_are (reads text) placed e

pub listed_formed : (text : List ℕ) (read : Result (List PlacedToken) TokenFault) → read ≡ tokens_of text → AreTokens (result_unwrap_or read [])
listed_formed text (Ok placed) e = tokens_formed text placed (sym e)
listed_formed text (Err fault) e = tt
