-- What names mean is there, and gates that are declared are sound.
use Rattle.std.proofs.Common.{◌≡◌, ℕ, zero, suc, ◌+◌, ◌<◌, ◌≤◌, List, [], ◌∷◌, ◌++◌, length, fold, slice_get, nat_lt, ◌==◌, not, cond, Option, Some, None, IfSome, Result, Ok, Err, All, refl, sym, ◌∙◌, subst, arith, length-append}
use Rattle.std.specs.Option.{option_map, option_or}
use Rattle.std.specs.Str.{bytes_eq}
use Rattle.std.proofs.lemmas.Bool.{cond_both, ltb-false, ltb-true, eqb-true, not-false}
use Rattle.std.proofs.lemmas.List.Elements.{All-nil, All-push, All-weaker}
use Rattle.std.proofs.lemmas.Map.Entries.{All-lookup}
use Rattle.std.proofs.lemmas.Option.{same_Some, none-some, slice_get-get_or}
use Rattle.qasm_read.specs.declared.arg.Arg.{Arg}
use Rattle.qasm_read.specs.declared.body_item.BodyItem.{BodyItem}
use Rattle.qasm_read.specs.declared.body_item.BodyItem.TheVariants as item
use Rattle.qasm_read.specs.declared.exp.Exp.{Exp}
use Rattle.qasm_read.specs.WellFormed.{IsName, IsExpression, IsBodyItem}
use Rattle.gate_names.specs.declared.gate.Gate.{Gate}
use Rattle.gate_names.specs.declared.gate.Gate.TheVariants as gate
use Rattle.gate_names.specs.declared.gate.Item.{Item}
use Rattle.gate_names.specs.declared.gate.Item.TheVariants.{Call, Barrier}
use Rattle.gate_names.specs.declared.names.Meaning.{Meaning}
use Rattle.gate_names.specs.declared.names.Meaning.TheVariants as meaning
use Rattle.gate_names.specs.declared.term.Term.{Term}
use Rattle.gate_expand.specs.declared.wires.Wires.{Wires}
use Rattle.gate_expand.specs.declared.wires.Wires.TheVariants.{One, Each}
use Rattle.gate_names.specs.declared.cause.Cause.{Cause}
use Rattle.gate_names.specs.declared.cause.Cause.TheVariants.{Undeclared, Redeclared, Kind, Index, Params, Args, Repeated, TooMany}
use Rattle.gate_names.specs.declared.cause.Counted.TheVariants.{Formals}
use Rattle.gate_names.specs.Causes.{◌>>=◌, ◌>>◌, refuse_if, found_or}
use Rattle.gate_names.specs.Terms.{position_of, terms_of}
use Rattle.gate_names.specs.Gates.{param_count, qubit_count}
use Rattle.gate_names.specs.Library.{library_names, first_library_gate}
use Rattle.gate_names.specs.Entries.{Table, meaning_in}
use Rattle.gate_names.specs.Names.{with_gate, library_meaning, meaning_of, fresh, as_gate, gate_named, as_creg, creg_named}
use Rattle.gate_expand.specs.Arguments.{wires_in, qubits_in, qubits_of, all_qubits_of, bits_in, bits_of}
use Rattle.gate_names.specs.Declarations.{repeats_name, formals_fit, counts_fit, positions_of, repeats_position, with_position, call_of, item_of, items_of, opaque_declared, gate_declared}
use Rattle.gate_expand.proofs.Sound.{IsBelow, Takes, IsItem, IsSoundGate, AreWires, IsInRange, IsSoundTable}
use Rattle.gate_expand.proofs.SoundSteps.{same_Ok, never_ok, then_ok, next_ok, passed, passed_last, found, each_ok}
use Rattle.gate_expand.proofs.SoundApart.{positions_apart, positions_folded, positions_some}
use Rattle.gate_expand.proofs.SoundTerms.{terms_are, position_below}

-- ---- gates by their numbers

pub gates_push : (gates : List Gate) (last : Gate) (number : ℕ) (it : Gate) → slice_get gates number ≡ Some it → slice_get (gates ++ last ∷ []) number ≡ Some it
gates_push [] last number it h = absurd (none-some it h)
gates_push (first ∷ gates) last zero it h = h
gates_push (first ∷ gates) last (suc number) it h = gates_push gates last number it h

takes_push : (gates : List Gate) (last : Gate) (number params qubits : ℕ) → Takes gates number params qubits → Takes (gates ++ last ∷ []) number params qubits
takes_push gates last number params qubits takes = record {
  gate = takes.gate;
  there = gates_push gates last number takes.gate takes.there;
  params_fit = takes.params_fit;
  qubits_fit = takes.qubits_fit;
}

item_push : (gates : List Gate) (last : Gate) (count : ℕ) (it : Item) → IsItem gates count it → IsItem (gates ++ last ∷ []) count it
item_push gates last count (Call number params positions) is = (takes_push gates last number (length params) (length positions) is.0, is.1, is.2)
item_push gates last count (Barrier positions) is = is

gate_push : (gates : List Gate) (last it : Gate) → IsSoundGate gates it → IsSoundGate (gates ++ last ∷ []) it
gate_push gates last gate.Universal is = tt
gate_push gates last gate.ControlledNot is = tt
gate_push gates last (gate.Opaque name params qubits) is = is
gate_push gates last (gate.Body params qubits items) is =
    All-weaker (IsItem gates qubits) (IsItem (gates ++ last ∷ []) qubits) (λ it h. item_push gates last qubits it h) items is

counts_are : (it : Gate) (params qubits : ℕ) (u : Unit {0}) → counts_fit (Some it) params qubits ≡ Ok u → (params ≡ param_count it) × (qubits ≡ qubit_count it)
counts_are it params qubits u h =
    let first = passed (not (params == param_count it)) Params (refuse_if (not (qubits == qubit_count it)) Args) u h in
    let last = passed_last (not (qubits == qubit_count it)) Args u first.1 in
    (eqb-true params (param_count it) (not-false (params == param_count it) first.0), eqb-true qubits (qubit_count it) (not-false (qubits == qubit_count it) last))

pub takes_of : (gates : List Gate) (number params qubits : ℕ) (u : Unit {0}) → number < length gates → counts_fit (slice_get gates number) params qubits ≡ Ok u
    → Takes gates number params qubits
takes_of gates number params qubits u within h = by (slice_get gates number) refl h
  where
    by : (o : Option Gate) → slice_get gates number ≡ o → counts_fit o params qubits ≡ Ok u → Takes gates number params qubits
    by None none fits = absurd (none-some _ (sym none ∙ slice_get-get_or gates number gate.Universal within))
    by (Some it) there fits = let counts = counts_are it params qubits u fits in record { gate = it; there = there; params_fit = counts.0; qubits_fit = counts.1 }

pub takes_known : (gates : List Gate) (number : ℕ) (it : Gate) (params qubits : ℕ) (u : Unit {0}) → slice_get gates number ≡ Some it
    → counts_fit (Some it) params qubits ≡ Ok u → Takes gates number params qubits
takes_known gates number it params qubits u there fits =
    let counts = counts_are it params qubits u fits in record { gate = it; there = there; params_fit = counts.0; qubits_fit = counts.1 }

-- ---- what names mean

library_in_range : (qubits bits cregs gates : ℕ) → 36 ≤ gates → (place : Option ℕ) → ((k : ℕ) → place ≡ Some k → k < 34) → (means : Meaning)
    → option_map (λ k. meaning.Gate (first_library_gate + k)) place ≡ Some means → IsInRange qubits bits cregs gates means
library_in_range qubits bits cregs gates enough None below means h = absurd (none-some means h)
library_in_range qubits bits cregs gates enough (Some k) below means h =
    subst (IsInRange qubits bits cregs gates) (same_Some (meaning.Gate (first_library_gate + k)) means h) (let few : k < 34 = below k refl in omega arith)

module _ (qubits bits cregs : ℕ) (table : Table) (sound : IsSoundTable qubits bits cregs table) where
  pub means_there : (name : List ℕ) (means : Meaning) → meaning_of table name ≡ Some means → IsInRange qubits bits cregs (length table.gates) means
  means_there name means h =
      by (meaning_in table.names name)
      (All-lookup (IsInRange qubits bits cregs (length table.gates)) (bytes_eq name) table.names sound.meanings) h
    where
      by : (o : Option Meaning) → IfSome o (IsInRange qubits bits cregs (length table.gates))
          → option_or o (cond table.included (library_meaning name) None) ≡ Some means → IsInRange qubits bits cregs (length table.gates) means
      by (Some it) is h = subst (IsInRange qubits bits cregs (length table.gates)) (same_Some it means h) is
      by None is h =
          cond_both table.included (library_meaning name) None (λ (o : Option Meaning). o ≡ Some means → IsInRange qubits bits cregs (length table.gates) means)
          (λ e there. library_in_range qubits bits cregs (length table.gates) sound.library (position_of library_names name)
          (λ k found. position_below 0 library_names name k found) means there)
          (λ e none. absurd (none-some means none)) h

  pub gate_there : (name : List ℕ) (number : ℕ) → gate_named table name ≡ Ok number → number < length table.gates
  gate_there name number h =
      let step = then_ok (found_or (meaning_of table name) Undeclared) as_gate number h in
      by step.0 (means_there name step.0 (found (meaning_of table name) Undeclared step.0 step.1)) step.2
    where
      by : (means : Meaning) → IsInRange qubits bits cregs (length table.gates) means → as_gate means ≡ Ok number → number < length table.gates
      by (meaning.Gate n) is e = subst (λ (k : ℕ). k < length table.gates) (same_Ok n number e) is
      by (meaning.Quantum first size) is e = absurd (never_ok Kind number e)
      by (meaning.Classical creg first size) is e = absurd (never_ok Kind number e)

  pub creg_there : (name : List ℕ) (number : ℕ) → creg_named table name ≡ Ok number → number < cregs
  creg_there name number h =
      let step = then_ok (found_or (meaning_of table name) Undeclared) as_creg number h in
      by step.0 (means_there name step.0 (found (meaning_of table name) Undeclared step.0 step.1)) step.2
    where
      by : (means : Meaning) → IsInRange qubits bits cregs (length table.gates) means → as_creg means ≡ Ok number → number < cregs
      by (meaning.Gate n) is e = absurd (never_ok Kind number e)
      by (meaning.Quantum first size) is e = absurd (never_ok Kind number e)
      by (meaning.Classical creg first size) is e = subst (λ (k : ℕ). k < cregs) (same_Ok creg number e) is.0

  -- ---- wires

  wires_there : (count first size : ℕ) (index : Option ℕ) (wires : Wires) → 1 ≤ size → first + size ≤ count → wires_in first size index ≡ Ok wires → AreWires count wires
  wires_there count first size None wires some fits h = subst (AreWires count) (same_Ok (Each first size) wires h) (some, fits)
  wires_there count first size (Some index) wires some fits h =
      cond_both (nat_lt index size) (Ok (One (first + index))) (Err Index) (λ (r : Result Wires Cause). r ≡ Ok wires → AreWires count wires)
      (λ e is. subst (AreWires count) (same_Ok (One (first + index)) wires is) (let below : index < size = ltb-true index size e in omega arith))
      (λ e is. absurd (never_ok Index wires is)) h

  pub qubits_there : (arg : Arg) (wires : Wires) → qubits_of table arg ≡ Ok wires → AreWires qubits wires
  unfolding qubits_of
  qubits_there arg wires h =
      let step = then_ok (found_or (meaning_of table arg.name) Undeclared) (qubits_in arg.index) wires h in
      by step.0 (means_there arg.name step.0 (found (meaning_of table arg.name) Undeclared step.0 step.1)) step.2
    where
      by : (means : Meaning) → IsInRange qubits bits cregs (length table.gates) means → qubits_in arg.index means ≡ Ok wires → AreWires qubits wires
      by (meaning.Quantum first size) is e = wires_there qubits first size arg.index wires is.0 is.1 e
      by (meaning.Classical creg first size) is e = absurd (never_ok Kind wires e)
      by (meaning.Gate n) is e = absurd (never_ok Kind wires e)

  pub bits_there : (arg : Arg) (found_bits : ℕ × Wires) → bits_of table arg ≡ Ok found_bits → AreWires bits found_bits.1
  unfolding bits_of
  bits_there arg found_bits h =
      let step = then_ok (found_or (meaning_of table arg.name) Undeclared) (bits_in arg.index) found_bits h in
      by step.0 (means_there arg.name step.0 (found (meaning_of table arg.name) Undeclared step.0 step.1)) step.2
    where
      by : (means : Meaning) → IsInRange qubits bits cregs (length table.gates) means → bits_in arg.index means ≡ Ok found_bits → AreWires bits found_bits.1
      by (meaning.Classical creg first size) is e =
          let step = then_ok (wires_in first size arg.index) (λ (wires : Wires). Ok (creg, wires)) found_bits e in
          subst (λ (p : ℕ × Wires). AreWires bits p.1) (same_Ok (creg, step.0) found_bits step.2) (wires_there bits first size arg.index step.0 is.1 is.2 step.1)
      by (meaning.Quantum first size) is e = absurd (never_ok Kind found_bits e)
      by (meaning.Gate n) is e = absurd (never_ok Kind found_bits e)

  pub all_there : (args : List Arg) (wires : List Wires) → all_qubits_of table args ≡ Ok wires → All (AreWires qubits) wires × (length wires ≡ length args)
  all_there args wires h =
      each_ok (qubits_of table) (λ (arg : Arg). Unit {0}) (AreWires qubits) (λ arg w u e. qubits_there arg w e) args wires (λ k d l. tt) h

  -- ---- bodies

  formals_there : (formals : List (List ℕ)) (names : List (List ℕ)) (positions : List ℕ) → positions_of formals names ≡ Ok positions
      → All (IsBelow (length formals)) positions × (length positions ≡ length names)
  formals_there formals names positions h =
      each_ok (λ (name : List ℕ). found_or (position_of formals name) Undeclared) (λ (name : List ℕ). Unit {0}) (IsBelow (length formals))
      (λ name k u e. (let below : k < 0 + length formals = position_below 0 formals name k (found (position_of formals name) Undeclared k e) in omega arith))
      names positions (λ k d l. tt) h

  call_is : (params formals : List (List ℕ)) (number : ℕ) (exps : List Exp) (positions : List ℕ) (it : Item) → All IsExpression exps → All (IsBelow (length formals)) positions
      → Takes table.gates number (length exps) (length positions) → call_of params number exps positions ≡ Ok it → IsItem table.gates (length formals) it
  call_is params formals number exps positions it all below takes h =
      let step = then_ok (refuse_if (repeats_position positions) Repeated >> terms_of params exps) (λ (terms : List Term). Ok (Call number terms positions)) it h in
      let first = passed (repeats_position positions) Repeated (terms_of params exps) step.0 step.1 in
      let terms = terms_are params exps step.0 all first.1 in
      subst (IsItem table.gates (length formals)) (same_Ok (Call number step.0 positions) it step.2)
      (subst (λ (n : ℕ). Takes table.gates number n (length positions)) (sym terms.1) takes, terms.0, positions_apart (length formals) positions below first.0)

  item_is : (params formals : List (List ℕ)) (said : BodyItem) (it : Item) → IsBodyItem said → item_of table params formals said ≡ Ok it → IsItem table.gates (length formals) it
  item_is params formals (item.U exps arg) it is h =
      let step = then_ok (counts_fit (Some gate.Universal) (length exps) 1 >> positions_of formals (arg ∷ [])) (call_of params 0 exps) it h in
      let parts = next_ok (counts_fit (Some gate.Universal) (length exps) 1) (positions_of formals (arg ∷ [])) step.0 step.1 in
      let there = formals_there formals (arg ∷ []) step.0 parts.1 in
      call_is params formals 0 exps step.0 it is.0.1 there.0
      (subst (Takes table.gates 0 (length exps)) (sym there.1) (takes_known table.gates 0 gate.Universal (length exps) 1 parts.0.0 sound.universal parts.0.1)) step.2
  item_is params formals (item.Cx control target) it is h =
      let step = then_ok (positions_of formals (control ∷ target ∷ [])) (call_of params 1 []) it h in
      let there = formals_there formals (control ∷ target ∷ []) step.0 step.1 in
      call_is params formals 1 [] step.0 it (All-nil IsExpression) there.0
      (subst (Takes table.gates 1 0) (sym there.1) (record { gate = gate.ControlledNot; there = sound.controlled; params_fit = refl; qubits_fit = refl })) step.2
  item_is params formals (item.Call name exps args) it is h =
      let named = then_ok (gate_named table name) (λ (number : ℕ). counts_fit (slice_get table.gates number) (length exps) (length args) >> positions_of formals args >>= call_of params number exps) it h in
      let step = then_ok (counts_fit (slice_get table.gates named.0) (length exps) (length args) >> positions_of formals args) (call_of params named.0 exps) it named.2 in
      let parts = next_ok (counts_fit (slice_get table.gates named.0) (length exps) (length args)) (positions_of formals args) step.0 step.1 in
      let there = formals_there formals args step.0 parts.1 in
      call_is params formals named.0 exps step.0 it is.1 there.0
      (subst (Takes table.gates named.0 (length exps)) (sym there.1)
      (takes_of table.gates named.0 (length exps) (length args) parts.0.0 (gate_there name named.0 named.1) parts.0.1)) step.2
  item_is params formals (item.Barrier args) it is h =
      let step = then_ok (positions_of formals args) (λ (positions : List ℕ). Ok (Barrier (fold with_position [] positions))) it h in
      let there = formals_there formals args step.0 step.1 in
      subst (IsItem table.gates (length formals)) (same_Ok (Barrier (fold with_position [] step.0)) it step.2)
      (positions_some step.0 (omega (arith, there.1, is.0)), positions_folded (length formals) step.0 there.0)

  items_are : (params formals : List (List ℕ)) (body : List BodyItem) (items : List Item) → All IsBodyItem body → items_of table params formals body ≡ Ok items
      → All (IsItem table.gates (length formals)) items × (length items ≡ length body)
  items_are params formals body items all h =
      each_ok (item_of table params formals) IsBodyItem (IsItem table.gates (length formals)) (λ said it is e. item_is params formals said it is e) body items all h

  -- ---- declarations

  in_range_push : (gates : ℕ) (means : Meaning) → IsInRange qubits bits cregs gates means → IsInRange qubits bits cregs (gates + 1) means
  in_range_push gates (meaning.Quantum first size) is = is
  in_range_push gates (meaning.Classical creg first size) is = is
  in_range_push gates (meaning.Gate number) is = omega (arith, is)

  declared_is : (name : List ℕ) (it : Gate) → IsSoundGate table.gates it → IsSoundTable qubits bits cregs (with_gate table name it)
  declared_is name it is =
      let more : length (table.gates ++ it ∷ []) ≡ length table.gates + 1 = omega (arith, length-append table.gates (it ∷ [])) in
      record {
        meanings = subst (λ (n : ℕ). All (λ (e : List ℕ × Meaning). IsInRange qubits bits cregs n e.1) (table.names ++ (name, meaning.Gate (length table.gates)) ∷ [])) (sym more)
            (All-push (λ (e : List ℕ × Meaning). IsInRange qubits bits cregs (length table.gates + 1) e.1) table.names (name, meaning.Gate (length table.gates))
            (All-weaker (λ (e : List ℕ × Meaning). IsInRange qubits bits cregs (length table.gates) e.1) (λ (e : List ℕ × Meaning). IsInRange qubits bits cregs (length table.gates + 1) e.1)
            (λ e h. in_range_push (length table.gates) e.1 h) table.names sound.meanings)
            (omega arith));
        each = All-push (IsSoundGate (table.gates ++ it ∷ [])) table.gates it
            (All-weaker (IsSoundGate table.gates) (IsSoundGate (table.gates ++ it ∷ [])) (λ g h. gate_push table.gates it g h) table.gates sound.each)
            (gate_push table.gates it it is);
        universal = gates_push table.gates it 0 gate.Universal sound.universal;
        controlled = gates_push table.gates it 1 gate.ControlledNot sound.controlled;
        library = omega (arith, more, sound.library);
      }

  formals_few : (params formals : List (List ℕ)) (u : Unit {0}) → formals_fit params formals ≡ Ok u → length params + length formals ≤ 16
  formals_few params formals u h =
      let first = passed (repeats_name (params ++ formals)) Redeclared (refuse_if (nat_lt 16 (length params + length formals)) (TooMany Formals)) u h in
      ltb-false 16 (length params + length formals) (passed_last (nat_lt 16 (length params + length formals)) (TooMany Formals) u first.1)

  pub opaque_keeps : (name : List ℕ) (params formals : List (List ℕ)) (now : Table) → IsName name → opaque_declared table name params formals ≡ Ok now → IsSoundTable qubits bits cregs now
  opaque_keeps name params formals now is h =
      let it : Gate = gate.Opaque name (length params) (length formals) in
      let parts = next_ok (fresh table name >> formals_fit params formals) (Ok (with_gate table name it)) now h in
      let fit = next_ok (fresh table name) (formals_fit params formals) parts.0.0 parts.0.1 in
      subst (IsSoundTable qubits bits cregs) (same_Ok (with_gate table name it) now parts.1)
      (declared_is name it (is, formals_few params formals parts.0.0 fit.1))

  pub gate_keeps : (name : List ℕ) (params formals : List (List ℕ)) (body : List BodyItem) (now : Table) → All IsBodyItem body
      → gate_declared table name params formals body ≡ Ok now → IsSoundTable qubits bits cregs now
  gate_keeps name params formals body now all h =
      let step = then_ok (fresh table name >> formals_fit params formals >> items_of table params formals body)
      (λ (items : List Item). Ok (with_gate table name (gate.Body (length params) (length formals) items))) now h in
      let parts = next_ok (fresh table name >> formals_fit params formals) (items_of table params formals body) step.0 step.1 in
      subst (IsSoundTable qubits bits cregs) (same_Ok (with_gate table name (gate.Body (length params) (length formals) step.0)) now step.2)
      (declared_is name (gate.Body (length params) (length formals) step.0) (items_are params formals body step.0 all parts.1).0)
