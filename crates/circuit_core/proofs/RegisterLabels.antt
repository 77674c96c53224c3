-- The labels of numbers counted through registers: their bytes, and that they differ.
use Rattle.std.proofs.Common.{◌≡◌, ◌≢◌, ℕ, zero, suc, ◌-◌, ◌^◌, ◌<◌, ◌&&◌, ◌||◌, Bool, true, false, List, [], ◌∷◌, ◌++◌, Some, refl, sym, subst, ◌∙◌, inl, inr, arith}
use Rattle.std.specs.Prelude.{All, IsTrue, decimal, codes, nat_le, nat_lt, ◌==◌, slice_get}
use Rattle.std.specs.List.{list_all}
use Rattle.std.proofs.lemmas.Bool.{both_ways, cases_Bool, and_parts, and_cases, or_parts, cond-true, cond-false, cond_both, ltb-false, leb-false, eqb-false}
use Rattle.std.proofs.lemmas.List.Elements.{All-head, All-tail, All-append}
use Rattle.std.proofs.lemmas.List.Sums.{AllPass-from_list_all}
use Rattle.std.proofs.lemmas.Fmt.{decimal_injective}
use Rattle.qc_base.specs.Spelling.{IsSign, IsFree}
use Rattle.qc_base.proofs.Words.{word_before, free_decimal, same_rest}
use Rattle.circuit_core.specs.declared.circuit.Reg.{Reg}
use Rattle.circuit_core.specs.Circuit.{IsRegister, HaveNamesOfTheirOwn, size_of}
use Rattle.circuit_core.specs.Identifier.{is_identifier, is_lower_case, is_word_byte}
use Rattle.circuit_core.specs.Label.{index_text, label_in, is_label_byte}

-- ---- the names of registers

lower_is_word : (byte : ℕ) → is_lower_case byte ≡ true → is_word_byte byte ≡ true
lower_is_word byte e = rw e refl

first_two : (a b c d : Bool) → (a && b && c && d) ≡ true → (a ≡ true) × (b ≡ true)
first_two a b c d e = and_parts a b (and_parts (a && b) c (and_parts (a && b && c) d e).0).0

word_is : (name : List ℕ) → IsTrue (is_identifier name) → All (λ byte. is_word_byte byte ≡ true) name
word_is [] named k d h = absurd (omega arith)
word_is (first ∷ rest) named zero d h = lower_is_word first (first_two (is_lower_case first) (list_all is_word_byte rest) _ _ named).0
word_is (first ∷ rest) named (suc k) d h =
    AllPass-from_list_all is_word_byte rest (first_two (is_lower_case first) (list_all is_word_byte rest) _ _ named).1 k d (omega arith)

-- a byte that no name has
pub name_free : (sign : ℕ) (name : List ℕ) → is_word_byte sign ≡ false → IsTrue (is_identifier name) → IsFree sign name
name_free sign name other named k d h same = both_ways (is_word_byte sign) other (subst (λ (byte : ℕ). is_word_byte byte ≡ true) same (word_is name named k d h))

-- ---- the bytes of labels

-- neither in a name nor in a number nor a bracket
record IsApart (sign : ℕ) : Type 0 where
  name : is_word_byte sign ≡ false
  number : IsSign sign
  left : 91 ≢ sign
  right : 93 ≢ sign

no_word : (lower upper digit score : Bool) → (lower || upper || digit || score) ≡ false → digit ≡ false
no_word lower upper digit score e = (or_parts (lower || upper) digit (or_parts (lower || upper || digit) score e).0).1

no_digit : (sign : ℕ) → is_word_byte sign ≡ false → IsSign sign
no_digit sign e =
    elim (and_cases (nat_le 48 sign) (nat_le sign 57) (no_word (is_lower_case sign) (nat_le 65 sign && nat_le sign 90) (nat_le 48 sign && nat_le sign 57) (sign == 95) e)) [
      | inl below ↦ inl (leb-false 48 sign below)
      | inr above ↦ inr (leb-false sign 57 above)
    ]

apart : (sign : ℕ) → is_label_byte sign ≡ false → IsApart sign
apart sign e =
    let all = or_parts (is_word_byte sign || sign == 91) (sign == 93) e in
    let some = or_parts (is_word_byte sign) (sign == 91) all.0 in
    record { name = some.0; number = no_digit sign some.0; left = λ same. eqb-false sign 91 some.1 (sym same); right = λ same. eqb-false sign 93 all.1 (sym same) }

one_byte : (sign byte : ℕ) → byte ≢ sign → IsFree sign (byte ∷ [])
one_byte sign byte other zero d h e = other e
one_byte sign byte other (suc k) d h e = omega arith

index_free : (sign index : ℕ) → IsApart sign → index < 2 ^ 64 → IsFree sign (index_text index)
index_free sign index apart few =
    let P : ℕ → Type 0 = λ byte. byte ≢ sign in
    All-append P (codes "[") (decimal index ++ codes "]") (one_byte sign 91 apart.left) (All-append P (decimal index) (codes "]") (free_decimal sign index apart.number few) (one_byte sign 93 apart.right))

free_in : (sign : ℕ) (regs : List Reg) (number : ℕ) → IsApart sign → All IsRegister regs → number < 2 ^ 64 → number < size_of regs → IsFree sign (label_in regs number)
free_in sign [] number apart all few h = absurd (omega arith)
free_in sign (reg ∷ regs) number apart all few h =
    let P : ℕ → Type 0 = λ byte. byte ≢ sign in
    cond_both (nat_lt number reg.size) (reg.name ++ index_text number) (label_in regs (number - reg.size)) (IsFree sign)
    (λ e. All-append P reg.name (index_text number) (name_free sign reg.name apart.name (All-head IsRegister reg regs all).name) (index_free sign number apart few))
    (λ e. let past = ltb-false number reg.size e in free_in sign regs (number - reg.size) apart (All-tail IsRegister reg regs all) (omega arith) (omega arith))

pub label_free_in : (sign : ℕ) (regs : List Reg) (number : ℕ) → is_label_byte sign ≡ false → All IsRegister regs → number < 2 ^ 64 → number < size_of regs → IsFree sign (label_in regs number)
label_free_in sign regs number other = free_in sign regs number (apart sign other)

-- ---- labels differ

-- the register and the index that a label has
record IsLabel (regs : List Reg) (number : ℕ) : Type 0 where
  place : ℕ
  reg : Reg
  index : ℕ
  there : slice_get regs place ≡ Some reg
  named : IsTrue (is_identifier reg.name)
  label_is : label_in regs number ≡ reg.name ++ index_text index

label_of : (regs : List Reg) (number : ℕ) → All IsRegister regs → number < size_of regs → IsLabel regs number
label_of [] number all h = absurd (omega arith)
label_of (reg ∷ regs) number all h =
    elim (cases_Bool (nat_lt number reg.size)) [
      | inl in' ↦ record { place = 0; reg = reg; index = number; there = refl; named = (All-head IsRegister reg regs all).name; label_is = cond-true _ _ _ in' }
      | inr past ↦ let above = ltb-false number reg.size past in
          let later = label_of regs (number - reg.size) (All-tail IsRegister reg regs all) (omega arith) in
          record { place = suc later.place; reg = later.reg; index = later.index; there = later.there; named = later.named; label_is = cond-false _ _ _ past ∙ later.label_is }
    ]

same_index : (a b : ℕ) → a < 2 ^ 64 → b < 2 ^ 64 → index_text a ≡ index_text b → a ≡ b
same_index a b few also e =
    let same : decimal a ++ codes "]" ≡ decimal b ++ codes "]" = cc in
    let sign : IsSign 93 = inr (omega arith) in
    decimal_injective a b few also (word_before 93 (decimal a) (decimal b) [] [] (free_decimal 93 a sign few) (free_decimal 93 b sign also) same).0

same_name : (name other : List ℕ) (a b : ℕ) → IsTrue (is_identifier name) → IsTrue (is_identifier other) → name ++ index_text a ≡ other ++ index_text b → name ≡ other
same_name name other a b named also e = (word_before 91 name other (decimal a ++ codes "]") (decimal b ++ codes "]") (name_free 91 name refl named) (name_free 91 other refl also) e).0

-- a label of the first register is no other register's
first_alone : (reg : Reg) (regs : List Reg) (a b : ℕ) → All IsRegister (reg ∷ regs) → HaveNamesOfTheirOwn (reg ∷ regs) → b < size_of regs → reg.name ++ index_text a ≡ label_in regs b → ⊥
first_alone reg regs a b all names h e =
    let other = label_of regs b (All-tail IsRegister reg regs all) h in
    let same = same_name reg.name other.reg.name a other.index (All-head IsRegister reg regs all).name other.named (e ∙ other.label_is) in
    let one = names 0 (suc other.place) reg other.reg refl other.there same in
    omega arith

names_of_rest : (reg : Reg) (regs : List Reg) → HaveNamesOfTheirOwn (reg ∷ regs) → HaveNamesOfTheirOwn regs
names_of_rest reg regs names i j first second at also same = let one = names (suc i) (suc j) first second at also same in omega arith

pub label_one_in : (regs : List Reg) (a b : ℕ) → All IsRegister regs → HaveNamesOfTheirOwn regs → a < 2 ^ 64 → b < 2 ^ 64 → a < size_of regs → b < size_of regs
    → label_in regs a ≡ label_in regs b → a ≡ b
label_one_in [] a b all names few also ha hb e = absurd (omega arith)
label_one_in (reg ∷ regs) a b all names few also ha hb e =
    elim (cases_Bool (nat_lt a reg.size)) [
      | inl a_in ↦
          let here : label_in (reg ∷ regs) a ≡ reg.name ++ index_text a = cond-true _ _ _ a_in in
          elim (cases_Bool (nat_lt b reg.size)) [
            | inl b_in ↦ same_index a b few also (same_rest reg.name (index_text a) (index_text b) (sym here ∙ e ∙ cond-true _ _ _ b_in))
            | inr b_past ↦ let above = ltb-false b reg.size b_past in
                absurd (first_alone reg regs a (b - reg.size) all names (omega arith) (sym here ∙ e ∙ cond-false _ _ _ b_past))
          ]
      | inr a_past ↦
          let high = ltb-false a reg.size a_past in
          let here : label_in (reg ∷ regs) a ≡ label_in regs (a - reg.size) = cond-false _ _ _ a_past in
          elim (cases_Bool (nat_lt b reg.size)) [
            | inl b_in ↦ absurd (first_alone reg regs b (a - reg.size) all names (omega arith) (sym (cond-true _ _ _ b_in) ∙ sym e ∙ here))
            | inr b_past ↦ let above = ltb-false b reg.size b_past in
                let one = label_one_in regs (a - reg.size) (b - reg.size) (All-tail IsRegister reg regs all) (names_of_rest reg regs names) (omega arith) (omega arith) (omega arith) (omega arith)
                (sym here ∙ e ∙ cond-false _ _ _ b_past) in
                omega arith
          ]
    ]
