-- Loops over indices, one turn at a time.
use Rattle.std.proofs.Common.{◌≡◌, ℕ, suc, ◌+◌, ◌-◌, ◌<◌, ◌≤◌, List, fold, Bool, true, false, ◌||◌, Result, Ok, Err, ap, sym, ◌∙◌, arith}
use Rattle.qc_base.specs.declared.ids.Qubit.{Qubit}
use Rattle.gate_expand.specs.declared.wires.Wires.{Wires}
use Rattle.gate_names.specs.declared.cause.Cause.{Cause}
use Rattle.gate_names.specs.Causes.{◌>>=◌}
use Rattle.gate_expand.specs.Arguments.{repeats_at, repeats_from, each_from, with_qubit}
use Rattle.gate_expand.specs.Making.{MadeValue, Maker}
use Rattle.gate_expand.specs.Operations.{spread}

one_less : (n k : ℕ) → k < n → n - k ≡ suc (n - (k + 1))
one_less n k h = omega arith

none_less : (n k : ℕ) → n ≤ k → n - k ≡ 0
none_less n k h = omega arith

module _ (index times : ℕ) (wires : List Wires) where
  pub repeats_here : index < times → repeats_at index wires ≡ true → repeats_from index (times - index) wires ≡ true
  repeats_here h e =
      ap (λ (n : ℕ). repeats_from index n wires) (one_less times index h)
      ∙ ap (λ (b : Bool). b || repeats_from (index + 1) (times - (index + 1)) wires) e

  pub repeats_later : index < times → repeats_at index wires ≡ false
      → repeats_from (index + 1) (times - (index + 1)) wires ≡ repeats_from index (times - index) wires
  repeats_later h e =
      sym (ap (λ (n : ℕ). repeats_from index n wires) (one_less times index h)
      ∙ ap (λ (b : Bool). b || repeats_from (index + 1) (times - (index + 1)) wires) e)

  pub repeats_never : times ≤ index → repeats_from index (times - index) wires ≡ false
  repeats_never h = ap (λ (n : ℕ). repeats_from index n wires) (none_less times index h)

module _ (make : ℕ → Maker) (index times : ℕ) (made : MadeValue) where
  pub spread_more : (now : MadeValue) → index < times → make index made ≡ Ok now
      → spread make (index + 1) (times - (index + 1)) now ≡ spread make index (times - index) made
  spread_more now h e =
      sym (ap (λ (n : ℕ). spread make index n made) (one_less times index h)
      ∙ ap (λ (r : Result MadeValue Cause). r >>= spread make (index + 1) (times - (index + 1))) e)

  pub spread_stops : (cause : Cause) → index < times → make index made ≡ Err cause
      → spread make index (times - index) made ≡ Err cause
  spread_stops cause h e =
      ap (λ (n : ℕ). spread make index n made) (one_less times index h)
      ∙ ap (λ (r : Result MadeValue Cause). r >>= spread make (index + 1) (times - (index + 1))) e

  pub spread_done : times ≤ index → spread make index (times - index) made ≡ Ok made
  spread_done h = ap (λ (n : ℕ). spread make index n made) (none_less times index h)

module _ (first index size : ℕ) (qubits : List Qubit) where
  pub each_more : index < size
      → fold with_qubit (with_qubit qubits (record { 0 = first + index })) (each_from (first + (index + 1)) (size - (index + 1)))
      ≡ fold with_qubit qubits (each_from (first + index) (size - index))
  each_more h =
      let further : first + (index + 1) ≡ first + index + 1 = omega arith in
      ap (λ (n : ℕ). fold with_qubit (with_qubit qubits (record { 0 = first + index })) (each_from n (size - (index + 1)))) further
      ∙ sym (ap (λ (n : ℕ). fold with_qubit qubits (each_from (first + index) n)) (one_less size index h))

  pub each_done : size ≤ index → fold with_qubit qubits (each_from (first + index) (size - index)) ≡ qubits
  each_done h = ap (λ (n : ℕ). fold with_qubit qubits (each_from (first + index) n)) (none_less size index h)

-- one index after another
pub ruleset spreading = (spread_more, spread_stops, spread_done)

pub ruleset repeating = (repeats_here, repeats_later, repeats_never)
