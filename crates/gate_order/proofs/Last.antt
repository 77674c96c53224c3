-- Where no operation is ready, all are done.
use Rattle.std.proofs.Common.{◌≡◌, ℕ, zero, suc, ◌<◌, ◌⊎◌, true, List, [], ◌∷◌, ap, inl, inr, arith}
use Rattle.std.proofs.lemmas.Bool.{cases_eq}
use Rattle.qc_base.specs.declared.ids.OpId.{OpId}
use Rattle.circuit_core.proofs.Forcing.{forced_before}
use Rattle.circuit_core.specs.Order.{is_performed}
use Rattle.gate_order.specs.Ready.{ReadyValue, IsAmong, AreReady}
use Rattle.gate_order.specs.Keeping.{op}

among_or : (done : List OpId) (number : ℕ) → IsAmong done number ⊎ (IsAmong done number → ⊥)
among_or [] number = inr (λ among. none among) where
  none : IsAmong [] number → ⊥
  none (k, within, is) = omega (arith, within)
among_or (it ∷ done) number = elim (cases_eq it.0 number) [
  | inl here ↦ inl (zero, (omega arith), ap op here)
  | inr ne ↦ elim (among_or done number) [
    | inl among ↦ inl (later among)
    | inr out ↦ inr (λ among. neither ne out among)
  ]
] where
  later : IsAmong done number → IsAmong (it ∷ done) number
  later (k, within, is) = (suc k, (omega arith), is)

  neither : (it.0 ≡ number → ⊥) → (IsAmong done number → ⊥) → IsAmong (it ∷ done) number → ⊥
  neither ne out (zero, within, is) = ne (ap (λ (o : OpId). o.0) is)
  neither ne out (suc k, within, is) = out (k, (omega arith), is)

not_among : (number : ℕ) → IsAmong [] number → ⊥
not_among number (k, within, is) = omega (arith, within)

done_below : (value : ReadyValue) (most number : ℕ) → AreReady value [] → number < most → is_performed value.circuit number ≡ true → IsAmong value.done number
done_below value zero number none below performed = absurd (omega arith)
done_below value (suc most) number none below performed = elim (among_or value.done number) [
  | inl among ↦ among
  | inr out ↦ absurd (not_among number ((none.each number).1 (record {
    performed = performed;
    waits = out;
    before = λ other forced is_performed_too. done_below value most other none (omega (arith, forced_before value.circuit other number forced)) is_performed_too;
  })))
]

pub all_done : (value : ReadyValue) (number : ℕ) → AreReady value [] → is_performed value.circuit number ≡ true → IsAmong value.done number
all_done value number none performed = done_below value (suc number) number none (omega arith) performed
