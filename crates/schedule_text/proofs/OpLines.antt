-- The lines of actions, as they are read.
use Rattle.std.proofs.Common.{◌≡◌, ℕ, ◌^◌, ◌<◌, List, ◌∷◌, ◌++◌, length, Some, inl, inr, refl, sym, ap, subst, ◌∙◌, arith, append_assoc, slice_get, codes}
use Rattle.std.specs.Prelude.{decimal}
use Rattle.std.proofs.lemmas.Option.{none-some, same_Some, slice_get_cases}
use Rattle.circuit_core.specs.declared.op.Op.{Op}
use Rattle.circuit_core.specs.Circuit.{IsCircuit}
use Rattle.circuit_core.specs.OpText.{op_text}
use Rattle.trap_model.specs.Trap.{place_count, place_text}
use Rattle.step_rules.specs.Setting.{SettingValue}
use Rattle.schedule_text.specs.Text.{ion_words, op_line, performed_line}

-- an operation that is there
pub op_inside : (ops : List Op) (number : ℕ) (op : Op) → slice_get ops number ≡ Some op → number < length ops
op_inside ops number op e =
    elim (slice_get_cases ops number).1 [ inl there ↦ there.1 | inr past ↦ absurd (none-some op (sym past.1 ∙ e)) ]

-- the bytes begin with the line of that operation, which begins with its number
pub record BeginsOp (setting : SettingValue) (zone number : ℕ) (rest bytes : List ℕ) : Type 0 where
  pub op : Op
  pub is : slice_get setting.circuit.ops number ≡ Some op
  pub more : List ℕ
  pub parts : bytes ≡ codes "op " ++ place_text setting.trap zone ++ codes " " ++ (op_line setting.circuit setting.placement number op ++ rest)
  pub line : op_line setting.circuit setting.placement number op ++ rest ≡ decimal number ++ 32 ∷ more

op_parts : (setting : SettingValue) (zone number : ℕ) (op : Op) (rest bytes : List ℕ) → slice_get setting.circuit.ops number ≡ Some op → bytes ≡ performed_line setting zone number ++ rest
    → bytes ≡ codes "op " ++ place_text setting.trap zone ++ codes " " ++ (op_line setting.circuit setting.placement number op ++ rest)
op_parts setting zone number op rest bytes is e = e ∙ rw is (append_assoc (codes "op " ++ place_text setting.trap zone ++ codes " ") (op_line setting.circuit setting.placement number op) rest)

op_line_number : (setting : SettingValue) (number : ℕ) (op : Op) (rest : List ℕ)
    → op_line setting.circuit setting.placement number op ++ rest ≡ decimal number ++ 32 ∷ (codes "ions" ++ (ion_words setting.placement op ++ (codes " : " ++ (op_text setting.circuit op ++ (codes "\n" ++ rest)))))
op_line_number setting number op rest = simp append_assoc

pub begins_op : (setting : SettingValue) (zone number : ℕ) (rest bytes : List ℕ) → number < length setting.circuit.ops → bytes ≡ performed_line setting zone number ++ rest → BeginsOp setting zone number rest bytes
begins_op setting zone number rest bytes h e =
    elim (slice_get_cases setting.circuit.ops number).1 [
      | inl there ↦ record {
        op = there.0;
        is = there.2;
        more = codes "ions" ++ (ion_words setting.placement there.0 ++ (codes " : " ++ (op_text setting.circuit there.0 ++ (codes "\n" ++ rest))));
        parts = op_parts setting zone number there.0 rest bytes there.2 e;
        line = op_line_number setting number there.0 rest;
      }
      | inr past ↦ absurd (omega (arith, past.0))
    ]

-- so do they where the setting is seen as another value that is the same
pub record HasOpLine (setting : SettingValue) (zone number : ℕ) (rest bytes : List ℕ) : Type 0 where
  pub begins : BeginsOp setting zone number rest bytes
  pub zone_is : zone < place_count setting.trap
  pub small : number < 2 ^ 32

abbrev OpLineOf : SettingValue → SettingValue → Type 0
OpLineOf setting value =
    (zone number : ℕ) (rest bytes : List ℕ) → zone < place_count value.trap → number < length value.circuit.ops → bytes ≡ performed_line value zone number ++ rest → IsCircuit value.circuit
    → HasOpLine setting zone number rest bytes

op_line_here : (setting : SettingValue) → OpLineOf setting setting
op_line_here setting zone number rest bytes h there e c = record { begins = begins_op setting zone number rest bytes there e; zone_is = h; small = omega (arith, there, c.few) }

pub op_line_of : (setting value : SettingValue) → setting ≡ value → OpLineOf setting value
op_line_of setting value same = subst (OpLineOf setting) same (op_line_here setting)

-- the line that was read is that of the operation
pub op_found : (setting value : SettingValue) (zone number : ℕ) (op : Op) (bytes line text rest : List ℕ) → setting ≡ value → slice_get setting.circuit.ops number ≡ Some op
    → bytes ≡ codes "op " ++ place_text setting.trap zone ++ codes " " ++ line → line ≡ text ++ rest → text ≡ op_line setting.circuit setting.placement number op
    → bytes ≡ performed_line value zone number ++ rest
op_found setting value zone number op bytes line text rest same is parts line_is text_is =
    let front = codes "op " ++ place_text setting.trap zone ++ codes " " in
    let whole = op_line setting.circuit setting.placement number op in
    let grouped : bytes ≡ (front ++ whole) ++ rest =
    parts ∙ ap (λ (t : List ℕ). front ++ t) (line_is ∙ ap (λ (t : List ℕ). t ++ rest) text_is) ∙ sym (append_assoc front whole rest) in
    let here : bytes ≡ performed_line setting zone number ++ rest = rw is grouped in
    subst (λ (s : SettingValue). bytes ≡ performed_line s zone number ++ rest) same here

-- what was printed is there
pub same_op_line : (setting : SettingValue) (number other : ℕ) (op read : Op) (line text rest : List ℕ) → number ≡ other → slice_get setting.circuit.ops number ≡ Some op → slice_get setting.circuit.ops other ≡ Some read
    → line ≡ op_line setting.circuit setting.placement number op ++ rest → text ≡ op_line setting.circuit setting.placement other read → line ≡ text ++ rest
same_op_line setting number other op read line text rest e is was line_is text_is =
    let same : op ≡ read = same_Some op read (sym is ∙ ap (slice_get setting.circuit.ops) e ∙ was) in
    line_is ∙ rw (e, same, text_is) refl

-- two words of a line
pub two_words : (word first second rest : List ℕ) → (word ++ first ++ codes " " ++ second ++ codes "\n") ++ rest ≡ word ++ (first ++ 32 ∷ (second ++ 10 ∷ rest))
two_words word first second rest = simp append_assoc
