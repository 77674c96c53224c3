-- Names that are noted one after another, against names of which none occurs twice.
use Rattle.std.proofs.Common.{◌≡◌, ℕ, ◌+◌, List, [], ◌∷◌, ◌++◌, length, map, Bool, true, false, cond, ◌||◌, Option, Some, None, Result, Ok, Err, refl, ap, sym, ◌∙◌, append_assoc}
use Rattle.std.proofs.lemmas.List.{append-nil}
use Rattle.std.specs.Prelude.{is_some, nat_lt}
use Rattle.std.specs.List.{list_any}
use Rattle.std.specs.Str.{bytes_eq}
use Rattle.gate_names.specs.declared.names.Meaning.{Meaning}
use Rattle.gate_names.specs.declared.names.Meaning.TheVariants.{Gate}
use Rattle.gate_names.specs.declared.cause.Cause.{Cause}
use Rattle.gate_names.specs.declared.cause.Cause.TheVariants.{Redeclared, TooMany}
use Rattle.gate_names.specs.declared.cause.Counted.TheVariants.{Formals}
use Rattle.gate_names.specs.Causes.{◌>>=◌, ◌>>◌, refuse_if}
use Rattle.gate_names.specs.Entries.{Entries, meaning_in}
use Rattle.gate_names.specs.Noted.{noted}
use Rattle.gate_names.specs.Declarations.{repeats_name, formals_fit}

-- ---- tests

or_assoc : (a b c : Bool) → (a || b) || c ≡ (a || (b || c))
or_assoc true b c = refl
or_assoc false b c = refl

or_swap : (a b c d : Bool) → ((a || b) || (c || d)) ≡ ((a || c) || (b || d))
or_swap true b c d = refl
or_swap false true true d = refl
or_swap false true false d = refl
or_swap false false c d = refl

some_cond : (b : Bool) (x : Meaning) (o : Option Meaning) → is_some (cond b (Some x) o) ≡ (b || is_some o)
some_cond true x o = refl
some_cond false x o = refl

-- ---- a name more

abbrev any_in : Entries → List (List ℕ) → Bool
any_in seen names = list_any (λ n. is_some (meaning_in seen n)) names

abbrev marked : List (List ℕ) → Entries
marked names = map (λ n. (n, Gate 0)) names

some_more : (seen : Entries) (name other : List ℕ) → is_some (meaning_in (seen ++ (name, Gate 0) ∷ []) other) ≡ (is_some (meaning_in seen other) || bytes_eq other name)
some_more [] name other = some_cond (bytes_eq other name) (Gate 0) None ∙ or_none (bytes_eq other name)
  where
    or_none : (b : Bool) → (b || false) ≡ b
    or_none true = refl
    or_none false = refl
some_more (e ∷ seen) name other =
    some_cond (bytes_eq other e.0) e.1 (meaning_in (seen ++ (name, Gate 0) ∷ []) other)
    ∙ ap (λ (b : Bool). bytes_eq other e.0 || b) (some_more seen name other)
    ∙ sym (or_assoc (bytes_eq other e.0) (is_some (meaning_in seen other)) (bytes_eq other name))
    ∙ ap (λ (b : Bool). b || bytes_eq other name) (sym (some_cond (bytes_eq other e.0) e.1 (meaning_in seen other)))

any_more : (seen : Entries) (name : List ℕ) (names : List (List ℕ))
    → any_in (seen ++ (name, Gate 0) ∷ []) names ≡ (any_in seen names || list_any (λ other. bytes_eq other name) names)
any_more seen name [] = refl
any_more seen name (other ∷ names) =
    (λ i. some_more seen name other i || any_more seen name names i)
    ∙ or_swap (is_some (meaning_in seen other)) (bytes_eq other name) (any_in seen names) (list_any (λ o. bytes_eq o name) names)

none_in : (names : List (List ℕ)) → any_in [] names ≡ false
none_in [] = refl
none_in (name ∷ names) = none_in names

-- ---- noting

abbrev fits : Entries → List (List ℕ) → Bool → Result Entries Cause
fits seen names clash = cond clash (Err Redeclared) (Ok (seen ++ marked names))

noted_first : (seen : Entries) (name : List ℕ) (names : List (List ℕ))
    → noted (seen ++ (name, Gate 0) ∷ []) names ≡ fits (seen ++ (name, Gate 0) ∷ []) names (any_in (seen ++ (name, Gate 0) ∷ []) names || repeats_name names)
    → (b : Bool) → (refuse_if b Redeclared >> noted (seen ++ (name, Gate 0) ∷ []) names)
    ≡ fits seen (name ∷ names) ((b || any_in seen names) || (list_any (λ o. bytes_eq o name) names || repeats_name names))
noted_first seen name names h true = refl
noted_first seen name names h false =
    h
    ∙ ap (λ (b : Bool). fits (seen ++ (name, Gate 0) ∷ []) names (b || repeats_name names)) (any_more seen name names)
    ∙ ap (λ (b : Bool). fits (seen ++ (name, Gate 0) ∷ []) names b) (or_assoc (any_in seen names) (list_any (λ o. bytes_eq o name) names) (repeats_name names))
    ∙ ap (λ (l : Entries). cond (any_in seen names || (list_any (λ o. bytes_eq o name) names || repeats_name names)) (Err Redeclared) (Ok l)) (append_assoc seen ((name, Gate 0) ∷ []) (marked names))

noted_fits : (seen : Entries) (names : List (List ℕ)) → noted seen names ≡ fits seen names (any_in seen names || repeats_name names)
noted_fits seen [] = ap Ok (sym (append-nil seen))
noted_fits seen (name ∷ names) = noted_first seen name names (noted_fits (seen ++ (name, Gate 0) ∷ []) names) (is_some (meaning_in seen name))

noted_both : (seen : Entries) (xs ys : List (List ℕ)) → (noted seen xs >>= λ s. noted s ys) ≡ noted seen (xs ++ ys)
noted_both seen [] ys = refl
noted_both seen (x ∷ xs) ys = refuse_first (is_some (meaning_in seen x)) (noted_both (seen ++ (x, Gate 0) ∷ []) xs ys)
  where
    refuse_first : (b : Bool) → (noted (seen ++ (x, Gate 0) ∷ []) xs >>= λ s. noted s ys) ≡ noted (seen ++ (x, Gate 0) ∷ []) (xs ++ ys)
        → ((refuse_if b Redeclared >> noted (seen ++ (x, Gate 0) ∷ []) xs) >>= λ s. noted s ys) ≡ (refuse_if b Redeclared >> noted (seen ++ (x, Gate 0) ∷ []) (xs ++ ys))
    refuse_first true h = refl
    refuse_first false h = h

-- ---- formals

then_same : (b : Bool) (l : Entries) (r : Result (Unit {0}) Cause) → (cond b (Err Redeclared) (Ok l) >>= λ s. r) ≡ (refuse_if b Redeclared >> r)
then_same true l r = refl
then_same false l r = refl

formals_same : (params qubits : List (List ℕ)) (r : Result (Unit {0}) Cause)
    → ((noted [] params >>= λ s. noted s qubits) >>= λ t. r) ≡ (refuse_if (repeats_name (params ++ qubits)) Redeclared >> r)
formals_same params qubits r =
    ap (λ (n : Result Entries Cause). n >>= λ t. r) (noted_both [] params qubits ∙ noted_fits [] (params ++ qubits)
    ∙ ap (λ (b : Bool). fits [] (params ++ qubits) (b || repeats_name (params ++ qubits))) (none_in (params ++ qubits)))
    ∙ then_same (repeats_name (params ++ qubits)) (marked (params ++ qubits)) r

module _ (params qubits : List (List ℕ)) where
  abbrev few : Result (Unit {0}) Cause
  few = refuse_if (nat_lt 16 (length params + length qubits)) (TooMany Formals)

  pub formals_refused : (cause : Cause) → noted [] params ≡ Err cause → formals_fit params qubits ≡ Err cause
  formals_refused cause h =
      sym (formals_same params qubits few)
      ∙ ap (λ (n : Result Entries Cause). (n >>= λ s. noted s qubits) >>= λ t. few) h

  pub formals_refused_later : (cause : Cause) (seen : Entries) → noted [] params ≡ Ok seen → noted seen qubits ≡ Err cause → formals_fit params qubits ≡ Err cause
  formals_refused_later cause seen h k =
      sym (formals_same params qubits few)
      ∙ ap (λ (n : Result Entries Cause). (n >>= λ s. noted s qubits) >>= λ t. few) h
      ∙ ap (λ (n : Result Entries Cause). n >>= λ t. few) k

  pub formals_noted : (seen all : Entries) → noted [] params ≡ Ok seen → noted seen qubits ≡ Ok all
      → formals_fit params qubits ≡ refuse_if (nat_lt 16 (length params + length qubits)) (TooMany Formals)
  formals_noted seen all h k =
      sym (formals_same params qubits few)
      ∙ ap (λ (n : Result Entries Cause). (n >>= λ s. noted s qubits) >>= λ t. few) h
      ∙ ap (λ (n : Result Entries Cause). n >>= λ t. few) k

-- names that are noted, against names of which none occurs twice
pub ruleset noting = (formals_refused, formals_refused_later, formals_noted)
