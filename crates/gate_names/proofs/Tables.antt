-- Tables with a name more.
use Rattle.std.proofs.Common.{◌≡◌, ℕ, ◌<◌, ◌≤◌, List, [], ◌∷◌, ◌++◌, Bool, true, false, cond, Some, None, Result, Ok, Err, ap, sym, ◌∙◌, arith}
use Rattle.std.specs.Prelude.{OnOk, OnErr}
use Rattle.std.specs.Map.{lookup}
use Rattle.std.specs.Str.{bytes_eq}
use Rattle.qc_base.specs.declared.ids.NoMemory.{NoMemory}
use Rattle.gate_names.specs.declared.names.Meaning.{Meaning}
use Rattle.gate_names.specs.declared.names.Meaning.TheVariants.{Quantum, Classical, Gate}
use Rattle.gate_names.specs.Entries.{Entries, meaning_in}
use Rattle.gate_names.specs.Names.{IsRegister}

-- what is found was there or is last
module _ (test : List ℕ → Bool) (name : List ℕ) (meaning found : Meaning) (P : Type 0) where
  found_in : (names : Entries) → lookup test (names ++ (name, meaning) ∷ []) ≡ Some found
      → (lookup test names ≡ Some found → P) → (meaning ≡ found → P) → P
  found_in [] h old last = by (test name) h
    where
      by : (b : Bool) → cond b (Some meaning) None ≡ Some found → P
      by true e = last (cc)
      by false e = let clash : None ≡ Some found = e in absurd (cc)
  found_in (entry ∷ names) h old last = by (test entry.0) h old (λ e o. found_in names e o last)
    where
      by : (b : Bool) → cond b (Some entry.1) (lookup test (names ++ (name, meaning) ∷ [])) ≡ Some found
          → (cond b (Some entry.1) (lookup test names) ≡ Some found → P)
          → (lookup test (names ++ (name, meaning) ∷ []) ≡ Some found → (lookup test names ≡ Some found → P) → P) → P
      by true e o rest = o e
      by false e o rest = rest e o

pub register_only : {A : Type 0} (meaning : Meaning) (number : ℕ) → IsRegister meaning → meaning ≡ Gate number → A
register_only (Quantum first size) number r e = let clash : Quantum first size ≡ Gate number = e in absurd (cc)
register_only (Classical creg first size) number r e = let clash : Classical creg first size ≡ Gate number = e in absurd (cc)
register_only (Gate n) number r e = absurd r

-- gates by their names have numbers below a bound
module _ (names now : Entries) (name : List ℕ) (meaning : Meaning) (count bound : ℕ)
    (known : (other : List ℕ) (number : ℕ) → meaning_in names other ≡ Some (Gate number) → number < count)
    (more : count ≤ bound) (new : (number : ℕ) → meaning ≡ Gate number → number < bound) where
  known_old : (other : List ℕ) (number : ℕ) → meaning_in names other ≡ Some (Gate number) → number < bound
  known_old other number e = let below = known other number e in omega arith

  known_last : (other : List ℕ) (number : ℕ) → meaning_in (names ++ (name, meaning) ∷ []) other ≡ Some (Gate number) → number < bound
  known_last other number e =
      found_in (bytes_eq other) name meaning (Gate number) (number < bound) names e (known_old other number) (new number)

  -- whether or not memory ran out
  pub known_still : (result : Result (Unit {0}) NoMemory) → OnOk result (now ≡ names ++ (name, meaning) ∷ []) → OnErr result (now ≡ names)
      → (other : List ℕ) (number : ℕ) → meaning_in now other ≡ Some (Gate number) → number < bound
  known_still (Ok done) ok err other number e = known_last other number (sym (ap (λ (n : Entries). meaning_in n other) ok) ∙ e)
  known_still (Err none) ok err other number e = known_old other number (sym (ap (λ (n : Entries). meaning_in n other) err) ∙ e)
