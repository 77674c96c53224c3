-- The tables of the last operations, one operation further.
use Rattle.std.proofs.Common.{◌≡◌, ℕ, zero, suc, ◌+◌, ◌<◌, ◌≤◌, List, [], ◌∷◌, ◌++◌, length, get_or, set, take, Some, None, refl, sym, ap, subst, ◌∙◌, inl, inr, arith, get_or-set_same, get_or-set_other}
use Rattle.std.specs.Prelude.{Option, slice_get, ◌⊎◌}
use Rattle.std.proofs.Math.ListN.{replicate}
use Rattle.std.proofs.lemmas.Bool.{cases_eq}
use Rattle.std.proofs.lemmas.Option.{same_Some, get_or_from_slice_get}
use Rattle.std.proofs.lemmas.List.{length-set, length-replicate, take_more, take_all}
use Rattle.std.proofs.lemmas.List.Elements.{Contains-append_left, Contains-push, Contains-push_cases}
use Rattle.qc_base.specs.declared.ids.OpId.{OpId}
use Rattle.qc_base.specs.declared.ids.Qubit.{Qubit}
use Rattle.circuit_core.specs.declared.last_ops.LastOps.{LastOps}
use Rattle.circuit_core.specs.declared.op.Op.{Op}
use Rattle.circuit_core.specs.Circuit.{CircuitValue, qubit_count, bit_count}
use Rattle.circuit_core.specs.LastOps.{HasQubit, Writes, Tests, ActsOn, IsLastOn, IsLastTable, AreLast, IsNoted}
use Rattle.circuit_core.proofs.Wires.{qubit_at, Has}

abbrev pub numbered : ℕ → OpId
numbered number = record { 0 = number }

-- ---- what is noted

pub none_noted : (table : List (Option OpId)) (number : OpId) (on : ℕ → Type 0) → ((wire : ℕ) → on wire → ⊥) → IsNoted table table number on
none_noted table number on none = record { len = refl; each = λ wire. inr (none wire, refl) }

-- one more wire
pub noted_more : (old mid new : List (Option OpId)) (number : OpId) (on more : ℕ → Type 0) (place : ℕ) → IsNoted old mid number on → place < length mid → new ≡ set mid place (Some number)
    → ((wire : ℕ) → on wire → more wire) → more place → ((wire : ℕ) → more wire → on wire ⊎ (wire ≡ place)) → IsNoted old new number more
noted_more old mid new number on more place so_far below is keeps here only = record {
  len = ap length is ∙ length-set mid place (Some number) ∙ so_far.len;
  each = λ wire. elim (cases_eq wire place) [
    | inl same ↦ inl (subst more (sym same) here, ap (λ (l : List (Option OpId)). get_or l wire None) is ∙ ap (λ (n : ℕ). get_or (set mid place (Some number)) n None) same ∙ get_or-set_same mid place (Some number) None below)
    | inr other ↦ (let past : get_or new wire None ≡ get_or mid wire None = ap (λ (l : List (Option OpId)). get_or l wire None) is ∙ get_or-set_other mid place wire (Some number) None other in
        elim (so_far.each wire) [
          | inl on_it ↦ inl (keeps wire on_it.0, past ∙ on_it.1)
          | inr off ↦ inr (λ m. elim (only wire m) [ inl on_it ↦ off.0 on_it | inr same ↦ other same ], past ∙ off.1)
        ])
  ];
}

pub noted_same : (old new : List (Option OpId)) (number : OpId) (on same : ℕ → Type 0) → ((wire : ℕ) → on wire → same wire) → ((wire : ℕ) → same wire → on wire) → IsNoted old new number on → IsNoted old new number same
noted_same old new number on same to from is = record {
  len = is.len;
  each = λ wire. elim (is.each wire) [
    | inl on_it ↦ inl (to wire on_it.0, on_it.1)
    | inr off ↦ inr (λ s. off.0 (from wire s), off.1)
  ];
}

-- on the first qubits of an operation, and one more
pub noted_qubit : (old mid new : List (Option OpId)) (number : OpId) (qubits : List Qubit) (index : ℕ) (qubit : Qubit) → index < length qubits → slice_get qubits index ≡ Some qubit → qubit.0 < length mid → new ≡ set mid qubit.0 (Some number)
    → IsNoted old mid number (Has (take index qubits)) → IsNoted old new number (Has (take (index + 1) qubits))
noted_qubit old mid new number qubits index qubit h at below is so_far =
    let whole : take (index + 1) qubits ≡ take index qubits ++ qubit ∷ [] = take_more qubits index qubit h ∙ ap (λ (q : Qubit). take index qubits ++ q ∷ []) (get_or_from_slice_get qubits index qubit qubit at) in
    noted_more old mid new number (Has (take index qubits)) (Has (take (index + 1) qubits)) qubit.0 so_far below is
    (λ wire has. subst (λ (l : List Qubit). Has l wire) (sym whole) (Contains-append_left (take index qubits) (qubit ∷ []) (qubit_at wire) has))
    (subst (λ (l : List Qubit). Has l qubit.0) (sym whole) (Contains-push (take index qubits) qubit))
    (λ wire has. elim (Contains-push_cases (take index qubits) qubit (qubit_at wire) (subst (λ (l : List Qubit). Has l wire) whole has)) [
      | inl old_one ↦ inl old_one
      | inr same ↦ inr (sym (ap (λ (q : Qubit). q.0) same))
    ])

pub noted_qubits : (old new : List (Option OpId)) (number : OpId) (qubits : List Qubit) (index : ℕ) → length qubits ≤ index → IsNoted old new number (Has (take index qubits)) → IsNoted old new number (Has qubits)
noted_qubits old new number qubits index h is = subst (λ (l : List Qubit). IsNoted old new number (Has l)) (take_all index qubits h) is

pub no_qubit : (wire : ℕ) → Has [] wire → ⊥
no_qubit wire has = absurd (omega (arith, has.1))

-- on the first bits of a range, and one more
abbrev pub IsBetween : ℕ → ℕ → ℕ → Type 0
IsBetween from end bit = (from ≤ bit) × (bit < end)

pub noted_bit : (old mid new : List (Option OpId)) (number : OpId) (from bit : ℕ) → from ≤ bit → bit < length mid → new ≡ set mid bit (Some number) → IsNoted old mid number (IsBetween from bit) → IsNoted old new number (IsBetween from (bit + 1))
noted_bit old mid new number from bit h below is so_far =
    noted_more old mid new number (IsBetween from bit) (IsBetween from (bit + 1)) bit so_far below is
    (λ wire on. (on.0, omega (arith, on.1)))
    (h, omega arith)
    (λ wire on. elim (cases_eq wire bit) [
      | inl same ↦ inr same
      | inr other ↦ inl (on.0, omega (arith, on.1))
    ])

pub noted_bits : (old new : List (Option OpId)) (number : OpId) (from end bit : ℕ) → bit ≡ end → IsNoted old new number (IsBetween from bit) → IsNoted old new number (IsBetween from end)
noted_bits old new number from end bit same is = subst (λ (n : ℕ). IsNoted old new number (IsBetween from n)) same is

-- ---- the tables

acts_here : (circuit : CircuitValue) (acts : Op → ℕ → Type 0) (wire number : ℕ) (op : Op) → slice_get circuit.ops number ≡ Some op → ActsOn circuit acts wire number → acts op wire
acts_here circuit acts wire number op at on = subst (λ (o : Op). acts o wire) (same_Some on.op op (sym on.there ∙ at)) on.on

still_last : (circuit : CircuitValue) (acts : Op → ℕ → Type 0) (number wire : ℕ) (last : Option OpId) → (ActsOn circuit acts wire number → ⊥) → IsLastOn circuit acts number wire last → IsLastOn circuit acts (number + 1) wire last
still_last circuit acts number wire None free is = λ k h on. elim (cases_eq k number) [
  | inl here ↦ free (subst (ActsOn circuit acts wire) here on)
  | inr other ↦ is k (omega arith) on
]
still_last circuit acts number wire (Some last) free is = (
  omega (arith, is.0),
  is.1,
  λ k above h on. elim (cases_eq k number) [
    | inl here ↦ free (subst (ActsOn circuit acts wire) here on)
    | inr other ↦ is.2 k above (omega arith) on
  ],
)

now_last : (circuit : CircuitValue) (acts : Op → ℕ → Type 0) (number wire : ℕ) → ActsOn circuit acts wire number → IsLastOn circuit acts (number + 1) wire (Some (numbered number))
now_last circuit acts number wire on = (omega arith, on, λ k above h other. omega arith)

pub table_more : (circuit : CircuitValue) (acts : Op → ℕ → Type 0) (number : ℕ) (op : Op) (old new : List (Option OpId)) → slice_get circuit.ops number ≡ Some op → IsNoted old new (numbered number) (acts op) → IsLastTable circuit acts number old
    → IsLastTable circuit acts (number + 1) new
table_more circuit acts number op old new at noted so_far wire = elim (noted.each wire) [
  | inl on ↦ subst (IsLastOn circuit acts (number + 1) wire) (sym on.1) (now_last circuit acts number wire (record { op = op; there = at; on = on.0 }))
  | inr off ↦ subst (IsLastOn circuit acts (number + 1) wire) (sym off.1) (still_last circuit acts number wire (get_or old wire None) (λ on. off.0 (acts_here circuit acts wire number op at on)) (so_far wire))
]

abbrev pub no_op : Option OpId
no_op = None

none_of_none : (count wire : ℕ) → get_or (replicate count no_op) wire None ≡ None
none_of_none zero wire = refl
none_of_none (suc count) zero = refl
none_of_none (suc count) (suc wire) = none_of_none count wire

pub no_last : (circuit : CircuitValue) (acts : Op → ℕ → Type 0) (table : List (Option OpId)) (count : ℕ) → table ≡ replicate count no_op → IsLastTable circuit acts 0 table
no_last circuit acts table count is wire = subst (IsLastOn circuit acts 0 wire) (sym (ap (λ (l : List (Option OpId)). get_or l wire None) is ∙ none_of_none count wire)) (λ k h on. omega arith)

pub no_tables : (circuit : CircuitValue) (last : LastOps) → last.on_qubit.items ≡ replicate (qubit_count circuit) no_op → last.writing.items ≡ replicate (bit_count circuit) no_op → last.testing.items ≡ replicate (bit_count circuit) no_op → AreLast circuit 0 last
no_tables circuit last qubits writes tests = record {
  tables = record {
    qubits = ap length qubits ∙ length-replicate (qubit_count circuit) no_op;
    written = ap length writes ∙ length-replicate (bit_count circuit) no_op;
    tested = ap length tests ∙ length-replicate (bit_count circuit) no_op;
  };
  on_qubit = no_last circuit HasQubit last.on_qubit.items (qubit_count circuit) qubits;
  writing = no_last circuit Writes last.writing.items (bit_count circuit) writes;
  testing = no_last circuit (Tests circuit) last.testing.items (bit_count circuit) tests;
}
