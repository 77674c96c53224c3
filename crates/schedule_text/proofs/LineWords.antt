-- The words of lines: which signs they have not, and what they name.
use Rattle.std.proofs.Common.{◌≡◌, ℕ, zero, suc, ◌^◌, ◌<◌, List, [], ◌∷◌, length, false, Some, refl, ap, inl, inr, arith}
use Rattle.std.specs.Prelude.{codes, slice_get}
use Rattle.qc_base.specs.declared.ids.End.{End}
use Rattle.qc_base.specs.declared.ids.End.TheVariants as ends
use Rattle.qc_base.specs.declared.ids.JunctionId.{JunctionId}
use Rattle.qc_base.specs.declared.ids.OpId.{OpId}
use Rattle.qc_base.specs.declared.ids.PlaceId.{PlaceId}
use Rattle.qc_base.specs.Spelling.{IsSign, IsFree}
use Rattle.circuit_core.specs.declared.op.Op.{Op}
use Rattle.circuit_core.specs.Circuit.{CircuitValue, IsCircuit}
use Rattle.circuit_core.specs.Label.{is_label_byte}
use Rattle.trap_parts.specs.Parts.{TrapValue}
use Rattle.trap_model.specs.Trap.{place_count, place_text}
use Rattle.trap_parts.specs.Build.{IsTrap}
use Rattle.trap_model.proofs.PlaceTexts.{texts_differ}
use Rattle.step_rules.specs.Setting.{SettingValue}
use Rattle.schedule_text.specs.Text.{at, op_line, end_text}
use Rattle.schedule_text.specs.Progress.{IsGap}
use Rattle.schedule_text.proofs.Lines.{literal_free, parted_at_once}

pub space_sign : IsSign 32
space_sign = inl (omega arith)

pub end_sign : IsSign 10
end_sign = inl (omega arith)

pub space : IsGap 32
space = inl refl

pub line_end : IsGap 10
line_end = inr refl

same_place : (a b : PlaceId) → a.0 ≡ b.0 → a ≡ b
same_place a b e = let of : ℕ → PlaceId = λ n. record { 0 = n } in ap of e

pub same_junction : (a b : JunctionId) → a.0 ≡ b.0 → a ≡ b
same_junction a b e = let of : ℕ → JunctionId = λ n. record { 0 = n } in ap of e

pub same_op : (a b : OpId) → a.0 ≡ b.0 → a ≡ b
same_op a b e = let of : ℕ → OpId = λ n. record { 0 = n } in ap of e

-- places that are written alike are one
pub place_is : (trap : TrapValue) (a b : PlaceId) → IsTrap trap → a.0 < place_count trap → b.0 < place_count trap → place_text trap a.0 ≡ place_text trap b.0 → a ≡ b
place_is trap a b t ha hb e = same_place a b (texts_differ trap a.0 b.0 t ha hb e)

pub end_free : (sign : ℕ) (end : End) → IsGap sign → IsFree sign (end_text end)
end_free sign ends.A (inl e) = literal_free sign (codes "a") (rw e refl)
end_free sign ends.A (inr e) = literal_free sign (codes "a") (rw e refl)
end_free sign ends.B (inl e) = literal_free sign (codes "b") (rw e refl)
end_free sign ends.B (inr e) = literal_free sign (codes "b") (rw e refl)

pub end_is : (a b : End) → end_text a ≡ end_text b → a ≡ b
end_is ends.A ends.A e = refl
end_is ends.A ends.B e = absurd (parted_at_once 97 98 [] [] e refl)
end_is ends.B ends.A e = absurd (parted_at_once 98 97 [] [] e refl)
end_is ends.B ends.B e = refl

-- no label has a gap
pub gap_apart : (sign : ℕ) → IsGap sign → is_label_byte sign ≡ false
gap_apart sign (inl e) = rw e refl
gap_apart sign (inr e) = rw e refl

pub small_number : (number : ℕ) → number < 2 ^ 32 → number < 2 ^ 64
small_number number h = omega arith

-- the operation of a number, and its line
pub record IsOpAt (setting : SettingValue) (number : ℕ) : Type 0 where
  pub op : Op
  pub there : slice_get setting.circuit.ops number ≡ Some op
  pub line_is : at (op_line setting.circuit setting.placement number) setting.circuit.ops number ≡ op_line setting.circuit setting.placement number op

op_there : (ops : List Op) (number : ℕ) → number < length ops → (op : Op) × (slice_get ops number ≡ Some op)
op_there [] number h = absurd (omega arith)
op_there (op ∷ ops) zero h = (op, refl)
op_there (op ∷ ops) (suc number) h = op_there ops number (omega arith)

pub op_at : (setting : SettingValue) (number : ℕ) → number < length setting.circuit.ops → IsOpAt setting number
op_at setting number h = let found = op_there setting.circuit.ops number h in record { op = found.0; there = found.1; line_is = rw found.1 refl }

pub few_ops : (circuit : CircuitValue) (number : ℕ) → IsCircuit circuit → number < length circuit.ops → number < 2 ^ 64
few_ops circuit number c h = omega (arith, c.few)
