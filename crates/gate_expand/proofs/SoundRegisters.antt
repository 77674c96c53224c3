-- Registers and their names, as more are declared.
use Rattle.std.proofs.Common.{◌≡◌, ◌≢◌, ◌⊎◌, ℕ, zero, suc, ◌+◌, ◌≤◌, List, [], ◌∷◌, ◌++◌, length, slice_get, nat_lt, ◌==◌, Bool, true, false, cond, Option, Some, None, is_some, Ok, refl, ap, sym, ◌∙◌, subst, arith, inl, inr}
use Rattle.std.specs.Str.{bytes_eq}
use Rattle.std.proofs.lemmas.Bool.{ltb-false, eqb-false, true≢false}
use Rattle.std.proofs.lemmas.Slice.Eq.{bytes_eq-Decides}
use Rattle.std.proofs.lemmas.List.Elements.{All-nil, All-push, All-weaker}
use Rattle.std.proofs.lemmas.Option.{same_Some, none-some}
use Rattle.circuit_core.specs.declared.circuit.Reg.{Reg}
use Rattle.circuit_core.specs.Circuit.{IsRegister, HaveNamesOfTheirOwn, size_of}
use Rattle.circuit_core.proofs.Lists.{slice_pushed}
use Rattle.gate_names.specs.declared.names.Meaning.{Meaning}
use Rattle.gate_names.specs.declared.names.Meaning.TheVariants as meaning
use Rattle.gate_names.specs.declared.cause.Cause.TheVariants.{Redeclared, Zero, TooMany}
use Rattle.gate_names.specs.declared.cause.Counted.{Counted}
use Rattle.gate_names.specs.Causes.{◌>>◌, refuse_if}
use Rattle.gate_names.specs.Entries.{Entries, Table, meaning_in}
use Rattle.gate_names.specs.Names.{fresh}
use Rattle.gate_expand.specs.Registers.{size_fits}
use Rattle.gate_expand.proofs.Sound.{IsQuantum, IsClassical, IsNamed, AreRegisters}
use Rattle.gate_expand.proofs.SoundSteps.{next_ok, passed, passed_last, all_here}

-- ---- a name more

pick : (b : Bool) (x r s : Option Meaning) (means : Meaning) → (r ≡ Some means → s ≡ Some means) → cond b x r ≡ Some means → cond b x s ≡ Some means
pick true x r s means f h = h
pick false x r s means f h = f h

skip : (b : Bool) (x means : Meaning) (r s : Option Meaning) → (r ≡ None → s ≡ Some means) → cond b (Some x) r ≡ None → cond b (Some x) s ≡ Some means
skip true x means r s f h = absurd (none-some x (sym h))
skip false x means r s f h = f h

pub means_still : (names : Entries) (name : List ℕ) (last : Meaning) (other : List ℕ) (means : Meaning) → meaning_in names other ≡ Some means
    → meaning_in (names ++ (name, last) ∷ []) other ≡ Some means
means_still [] name last other means h = absurd (none-some means h)
means_still (e ∷ names) name last other means h =
    pick (bytes_eq other e.0) (Some e.1) (meaning_in names other) (meaning_in (names ++ (name, last) ∷ []) other) means (means_still names name last other means) h

pub means_last : (names : Entries) (name : List ℕ) (last : Meaning) → meaning_in names name ≡ None → meaning_in (names ++ (name, last) ∷ []) name ≡ Some last
means_last [] name last h = ap (λ (b : Bool). cond b (Some last) None) ((bytes_eq-Decides name name).1 refl)
means_last (e ∷ names) name last h =
    skip (bytes_eq name e.0) e.1 last (meaning_in names name) (meaning_in (names ++ (name, last) ∷ []) name) (means_last names name last) h

none_of : (o : Option Meaning) → is_some o ≡ false → o ≡ None
none_of None h = refl
none_of (Some x) h = absurd (true≢false h)

pub fresh_is : (table : Table) (name : List ℕ) (u : Unit {0}) → fresh table name ≡ Ok u → meaning_in table.names name ≡ None
fresh_is table name u h = none_of (meaning_in table.names name) (passed_last (is_some (meaning_in table.names name)) Redeclared u h)

-- ---- a register more

pub size_more : (regs : List Reg) (reg : Reg) → size_of (regs ++ reg ∷ []) ≡ size_of regs + reg.size
size_more [] reg = omega arith
size_more (first ∷ regs) reg = omega (arith, size_more regs reg)

pub size_is : (size before limit : ℕ) (what : Counted) (n : ℕ) → size_fits size before limit what ≡ Ok n → (1 ≤ size) × (before + size ≤ limit)
size_is size before limit what n h =
    let both = next_ok (refuse_if (size == 0) Zero >> refuse_if (nat_lt limit (before + size)) (TooMany what)) (Ok size) n h in
    let first = passed (size == 0) Zero (refuse_if (nat_lt limit (before + size)) (TooMany what)) both.0.0 both.0.1 in
    let some : size ≢ 0 = eqb-false size 0 first.0 in
    (omega arith, ltb-false limit (before + size) (passed_last (nat_lt limit (before + size)) (TooMany what) both.0.0 first.1))

module _ (Kind : Meaning → Type 0) (names : Entries) (regs : List Reg) (are : AreRegisters Kind names regs) where
  named_still : (name : List ℕ) (last : Meaning) (reg : Reg) → IsNamed Kind names reg.name → IsNamed Kind (names ++ (name, last) ∷ []) reg.name
  named_still name last reg is = record { means = is.means; there = means_still names name last reg.name is.means is.there; kind = is.kind }

  pub registers_still : (name : List ℕ) (last : Meaning) → AreRegisters Kind (names ++ (name, last) ∷ []) regs
  registers_still name last = record {
    each = are.each;
    own = are.own;
    named = All-weaker (λ (reg : Reg). IsNamed Kind names reg.name) (λ (reg : Reg). IsNamed Kind (names ++ (name, last) ∷ []) reg.name)
        (λ reg h. named_still name last reg h) regs are.named;
  }

  module _ (reg : Reg) (last : Meaning) (register : IsRegister reg) (kind : Kind last) (new : meaning_in names reg.name ≡ None) where
    other_name : (i : ℕ) (other : Reg) → slice_get regs i ≡ Some other → other.name ≡ reg.name → ⊥
    other_name i other there same =
        let is : IsNamed Kind names other.name = all_here (λ (reg : Reg). IsNamed Kind names reg.name) regs i other are.named there in
        none-some is.means (sym new ∙ sym (ap (meaning_in names) same) ∙ is.there)

    own_more : HaveNamesOfTheirOwn (regs ++ reg ∷ [])
    own_more i j first second hi hj same = elim (slice_pushed regs reg first i hi) [
      | inl a ↦ elim (slice_pushed regs reg second j hj) [
        | inl b ↦ are.own i j first second a.1 b.1 same
        | inr b ↦ absurd (other_name i first a.1 (same ∙ sym (ap (λ (r : Reg). r.name) b.1)))
      ]
      | inr a ↦ elim (slice_pushed regs reg second j hj) [
        | inl b ↦ absurd (other_name j second b.1 (sym same ∙ sym (ap (λ (r : Reg). r.name) a.1)))
        | inr b ↦ a.0 ∙ sym b.0
      ]
    ]

    pub registers_more : AreRegisters Kind (names ++ (reg.name, last) ∷ []) (regs ++ reg ∷ [])
    registers_more = record {
      each = All-push IsRegister regs reg are.each register;
      own = own_more;
      named = All-push (λ (r : Reg). IsNamed Kind (names ++ (reg.name, last) ∷ []) r.name) regs reg (registers_still reg.name last).named
          (record { means = last; there = means_last names reg.name last new; kind = kind });
    }

-- ---- registers of both kinds

pub no_registers : (Kind : Meaning → Type 0) → AreRegisters Kind [] []
no_registers Kind = record {
  each = All-nil IsRegister;
  own = λ i j first second hi hj same. absurd (none-some first hi);
  named = All-nil (λ (reg : Reg). IsNamed Kind [] reg.name);
}

place_in : (xs ys : List Reg) (i : ℕ) (x : Reg) → slice_get (xs ++ ys) i ≡ Some x
    → (slice_get xs i ≡ Some x) ⊎ ((k : ℕ) × (i ≡ length xs + k) × (slice_get ys k ≡ Some x))
place_in [] ys i x h = inr (i, omega arith, h)
place_in (y ∷ xs) ys zero x h = inl h
place_in (y ∷ xs) ys (suc i) x h = elim (place_in xs ys i x h) [
  | inl here ↦ inl here
  | inr there ↦ inr (there.0, omega (arith, there.1), there.2)
]

one_kind : (means : Meaning) → IsQuantum means → IsClassical means → ⊥
one_kind (meaning.Quantum first size) q c = c
one_kind (meaning.Classical creg first size) q c = q
one_kind (meaning.Gate number) q c = q

module _ (names : Entries) (qregs cregs : List Reg) (quantum : AreRegisters IsQuantum names qregs) (classical : AreRegisters IsClassical names cregs) where
  apart : (i j : ℕ) (first second : Reg) → slice_get qregs i ≡ Some first → slice_get cregs j ≡ Some second → first.name ≡ second.name → ⊥
  apart i j first second hi hj same =
      let a : IsNamed IsQuantum names first.name = all_here (λ (reg : Reg). IsNamed IsQuantum names reg.name) qregs i first quantum.named hi in
      let b : IsNamed IsClassical names second.name = all_here (λ (reg : Reg). IsNamed IsClassical names reg.name) cregs j second classical.named hj in
      one_kind a.means a.kind (subst IsClassical (same_Some b.means a.means (sym b.there ∙ sym (ap (meaning_in names) same) ∙ a.there)) b.kind)

  pub both_own : HaveNamesOfTheirOwn (qregs ++ cregs)
  both_own i j first second hi hj same = elim (place_in qregs cregs i first hi) [
    | inl a ↦ elim (place_in qregs cregs j second hj) [
      | inl b ↦ quantum.own i j first second a b same
      | inr b ↦ absurd (apart i b.0 first second a b.2 same)
    ]
    | inr a ↦ elim (place_in qregs cregs j second hj) [
      | inl b ↦ absurd (apart j a.0 second first b a.2 (sym same))
      | inr b ↦ (let one : a.0 ≡ b.0 = classical.own a.0 b.0 first second a.2 b.2 same in omega (arith, a.1, b.1, one))
    ]
  ]
