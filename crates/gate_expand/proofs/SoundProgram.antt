-- Each statement keeps all that was declared and made sound, so the circuit of a program is one.
use Rattle.std.proofs.Common.{◌≡◌, ℕ, ◌+◌, ◌<◌, ◌≤◌, List, [], ◌∷◌, ◌++◌, length, map, slice_get, codes, ◌==◌, not, true, false, Option, Some, None, IfSome, Result, Ok, Err, All, unwrap_or, refl, ap, sym, ◌∙◌, subst, arith, length-append}
use Rattle.std.specs.Str.{bytes_eq}
use Rattle.std.proofs.lemmas.Bool.{cond_both, eqb-true}
use Rattle.std.proofs.lemmas.List.Elements.{All-nil, All-cons, All-head, All-tail, All-push, All-append, All-map, All-weaker}
use Rattle.qc_base.specs.declared.ids.Bit.{Bit}
use Rattle.circuit_core.specs.declared.circuit.Reg.{Reg}
use Rattle.circuit_core.specs.declared.op.Cond.{Cond}
use Rattle.circuit_core.specs.declared.op.Op.{Op}
use Rattle.circuit_core.specs.declared.op.Op.TheVariants as op
use Rattle.circuit_core.specs.Circuit.{CircuitValue, IsCircuit, IsRegister, size_of}
use Rattle.circuit_core.specs.Op.{IsOp, IsAngle, qubits_of as op_qubits, bit_of, cond_of}
use Rattle.qasm_read.specs.declared.arg.Arg.{Arg}
use Rattle.qasm_read.specs.declared.body_item.BodyItem.{BodyItem}
use Rattle.qasm_read.specs.declared.exp.Exp.{Exp}
use Rattle.qasm_read.specs.declared.qop.Qop.{Qop}
use Rattle.qasm_read.specs.declared.qop.Qop.TheVariants as qop
use Rattle.qasm_read.specs.declared.statement.Placed.{Placed}
use Rattle.qasm_read.specs.declared.statement.Statement.{Statement}
use Rattle.qasm_read.specs.declared.statement.Statement.TheVariants as statement
use Rattle.qasm_read.specs.WellFormed.{IsName, IsExpression, IsBodyItem, IsOperation, IsWellFormed, AreWellFormed}
use Rattle.gate_expand.specs.declared.expansion.Expansion.{Expansion}
use Rattle.gate_names.specs.declared.gate.Gate.{Gate}
use Rattle.gate_names.specs.declared.gate.Gate.TheVariants as gate
use Rattle.gate_names.specs.declared.gate.Item.{Item}
use Rattle.gate_names.specs.declared.names.Meaning.{Meaning}
use Rattle.gate_names.specs.declared.names.Meaning.TheVariants as meaning
use Rattle.gate_expand.specs.declared.resolved.Resolved.{Resolved}
use Rattle.gate_expand.specs.declared.resolved.Resolved.TheVariants as resolved
use Rattle.gate_names.specs.Entries.{Table}
use Rattle.gate_names.specs.declared.term.Term.{Term}
use Rattle.gate_expand.specs.declared.wires.Wires.{Wires}
use Rattle.gate_expand.specs.declared.wires.Wires.TheVariants.{One, Each}
use Rattle.gate_names.specs.declared.cause.Cause.{Cause}
use Rattle.gate_names.specs.declared.cause.Cause.TheVariants.{Include, Sizes, Repeated, SelfMeasure}
use Rattle.gate_names.specs.declared.cause.Counted.TheVariants.{Qubits, Bits}
use Rattle.gate_names.specs.Causes.{◌>>=◌, ◌>>◌, refuse_if}
use Rattle.gate_expand.specs.Faults.{fault_at}
use Rattle.gate_names.specs.Terms.{terms_of}
use Rattle.gate_names.specs.Library.{built_in}
use Rattle.gate_names.specs.Names.{named, with_gate, fresh, gate_named, creg_named}
use Rattle.gate_expand.specs.Registers.{size_fits}
use Rattle.gate_expand.specs.Arguments.{qubits_of, all_qubits_of, bits_of, size_after, times_of, wire_at, qubit_at, repeats_from, distinct_qubits}
use Rattle.gate_names.specs.Declarations.{counts_fit, formals_fit, items_of, opaque_declared, gate_declared}
use Rattle.gate_expand.specs.Making.{MadeValue, with_op}
use Rattle.gate_expand.specs.Operations.{call_resolved, measured_times, reset_resolved, qop_resolved, measures_into, resolved_made}
use Rattle.gate_expand.specs.Program.{start, included, qreg_declared, creg_declared, with_table, with_made, qop_done, conditional_done, barrier_done, statement_done, opaque_statement, gate_statement, conditional_statement, placed, statements_done, circuit_of, expanded}
use Rattle.gate_expand.proofs.Sound.{AreApart, IsQubit, Takes, IsMade, AreWires, IsResolved, IsInRange, IsSoundTable, IsQuantum, IsClassical, AreRegisters, IsSound}
use Rattle.gate_expand.proofs.SoundSteps.{same_Ok, never_ok, then_ok, next_ok, passed}
use Rattle.gate_expand.proofs.SoundApart.{wires_differ, never_repeats, distinct_apart, distinct_some}
use Rattle.gate_expand.proofs.SoundTerms.{terms_are}
use Rattle.gate_expand.proofs.SoundMade.{with_op_keeps, resolved_keeps}
use Rattle.gate_expand.proofs.SoundTable.{takes_of, takes_known, gate_there, creg_there, qubits_there, bits_there, all_there, opaque_keeps, gate_keeps}
use Rattle.gate_expand.proofs.SoundLibrary.{built_in_sound}
use Rattle.gate_expand.proofs.SoundRegisters.{fresh_is, size_more, size_is, registers_still, registers_more, no_registers, both_own}

-- ---- how often an operation is made

abbrev HasSize : Option ℕ → Wires → Type 0
HasSize size (One number) = Unit {0}
HasSize size (Each first count) = size ≡ Some count

abbrev Stays : Option ℕ → Option ℕ → Type 0
Stays None size = Unit {0}
Stays (Some count) size = size ≡ Some count

stays_itself : (size : Option ℕ) → Stays size size
stays_itself None = tt
stays_itself (Some count) = refl

sizes_are : (wires : List Wires) (before size : Option ℕ) → size_after before wires ≡ Ok size → All (HasSize size) wires × Stays before size
sizes_are [] before size h =
    (All-nil (HasSize size), subst (Stays before) (same_Ok before size h) (stays_itself before))
sizes_are (One number ∷ wires) before size h =
    let rest = sizes_are wires before size h in (All-cons (HasSize size) (One number) wires tt rest.0, rest.1)
sizes_are (Each first count ∷ wires) None size h =
    let rest = sizes_are wires (Some count) size h in (All-cons (HasSize size) (Each first count) wires rest.1 rest.0, tt)
sizes_are (Each first other ∷ wires) (Some count) size h =
    cond_both (other == count) (size_after (Some count) wires) (Err Sizes)
    (λ (r : Result (Option ℕ) Cause). r ≡ Ok size → All (HasSize size) (Each first other ∷ wires) × Stays (Some count) size)
    (λ e is. (let rest = sizes_are wires (Some count) size is in
    (All-cons (HasSize size) (Each first other) wires (rest.1 ∙ ap Some (sym (eqb-true other count e))) rest.0, rest.1)))
    (λ e is. absurd (never_ok Sizes size is)) h

wire_below : (count : ℕ) (size : Option ℕ) (index : ℕ) (wires : Wires) → AreWires count wires → HasSize size wires → index < unwrap_or size 1 → wire_at index wires < count
wire_below count size index (One number) is has h = is
wire_below count size index (Each first many) is has h =
    let below : index < many = subst (λ (o : Option ℕ). index < unwrap_or o 1) has h in omega (arith, is.1, below)

wires_at : (count : ℕ) (wires : List Wires) (times : ℕ) → All (AreWires count) wires → times_of wires ≡ Ok times → repeats_from 0 times wires ≡ false
    → (index : ℕ) → index < times → AreApart (IsQubit count) (map (qubit_at index) wires)
wires_at count wires times all h once index below =
    let step = then_ok (size_after None wires) (λ (size : Option ℕ). Ok (unwrap_or size 1)) times h in
    let same : unwrap_or step.0 1 ≡ times = same_Ok (unwrap_or step.0 1) times step.2 in
    let inside : index < unwrap_or step.0 1 = omega (arith, same, below) in
    let sizes = sizes_are wires None step.0 step.1 in
    record {
      each = All-map (IsQubit count) (qubit_at index) wires
          (λ k d l. wire_below count step.0 index _ (all k d l) (sizes.0 k d l) inside);
      differ = wires_differ index wires (never_repeats 0 times wires once index (omega arith) (omega arith));
    }

-- ---- the tests before expansion

module _ (qubits bits cregs : ℕ) (table : Table) (sound : IsSoundTable qubits bits cregs table) where
  call_is : (number : ℕ) (exps : List Exp) (wires : List Wires) (it : Resolved) → All IsExpression exps → All (AreWires qubits) wires
      → Takes table.gates number (length exps) (length wires) → call_resolved number exps wires ≡ Ok it → IsResolved table.gates qubits bits it
  call_is number exps wires it all there takes h =
      let times = then_ok (times_of wires) (λ (times : ℕ). refuse_if (repeats_from 0 times wires) Repeated >> terms_of [] exps >>= λ (params : List Term). Ok (resolved.Application number params wires times)) it h in
      let step = then_ok (refuse_if (repeats_from 0 times.0 wires) Repeated >> terms_of [] exps) (λ (params : List Term). Ok (resolved.Application number params wires times.0)) it times.2 in
      let first = passed (repeats_from 0 times.0 wires) Repeated (terms_of [] exps) step.0 step.1 in
      let terms = terms_are [] exps step.0 all first.1 in
      subst (IsResolved table.gates qubits bits) (same_Ok (resolved.Application number step.0 wires times.0) it step.2)
      (subst (λ (n : ℕ). Takes table.gates number n (length wires)) (sym terms.1) takes, terms.0, wires_at qubits wires times.0 there times.1 first.0)

  measured_is : (first second : Wires) (creg times : ℕ) → AreWires qubits first → AreWires bits second → measured_times first second ≡ Ok times
      → IsResolved table.gates qubits bits (resolved.Measure first second creg times)
  measured_is (One qubit) (One bit) creg times a b h = λ index below. (a, b)
  measured_is (One qubit) (Each first size) creg times a b h = absurd (never_ok Sizes times h)
  measured_is (Each first size) (One bit) creg times a b h = absurd (never_ok Sizes times h)
  measured_is (Each first size) (Each from other) creg times a b h =
      cond_both (other == size) (Ok size) (Err Sizes) (λ (r : Result ℕ Cause). r ≡ Ok times → IsResolved table.gates qubits bits (resolved.Measure (Each first size) (Each from other) creg times))
      (λ e is index below. (let same : size ≡ times = same_Ok size times is in let both : other ≡ size = eqb-true other size e in
      (omega (arith, a.1, below, same), omega (arith, b.1, below, same, both))))
      (λ e is. absurd (never_ok Sizes times is)) h

  reset_is : (wires : Wires) → AreWires qubits wires → IsResolved table.gates qubits bits (reset_resolved wires)
  reset_is (One qubit) is = λ index below. is
  reset_is (Each first size) is = λ index below. omega (arith, is.1, below)

  pub operation_is : (said : Qop) (it : Resolved) → IsOperation said → qop_resolved table said ≡ Ok it → IsResolved table.gates qubits bits it
  operation_is (qop.U exps arg) it is h =
      let step = then_ok (counts_fit (Some gate.Universal) (length exps) 1 >> all_qubits_of table (arg ∷ [])) (call_resolved 0 exps) it h in
      let parts = next_ok (counts_fit (Some gate.Universal) (length exps) 1) (all_qubits_of table (arg ∷ [])) step.0 step.1 in
      let there = all_there qubits bits cregs table sound (arg ∷ []) step.0 parts.1 in
      call_is 0 exps step.0 it is.0.1 there.0
      (subst (Takes table.gates 0 (length exps)) (sym there.1) (takes_known table.gates 0 gate.Universal (length exps) 1 parts.0.0 sound.universal parts.0.1)) step.2
  operation_is (qop.Cx control target) it is h =
      let step = then_ok (all_qubits_of table (control ∷ target ∷ [])) (call_resolved 1 []) it h in
      let there = all_there qubits bits cregs table sound (control ∷ target ∷ []) step.0 step.1 in
      call_is 1 [] step.0 it (All-nil IsExpression) there.0
      (subst (Takes table.gates 1 0) (sym there.1) (record { gate = gate.ControlledNot; there = sound.controlled; params_fit = refl; qubits_fit = refl })) step.2
  operation_is (qop.Call name exps args) it is h =
      let named = then_ok (gate_named table name) (λ (number : ℕ). counts_fit (slice_get table.gates number) (length exps) (length args) >> all_qubits_of table args >>= call_resolved number exps) it h in
      let step = then_ok (counts_fit (slice_get table.gates named.0) (length exps) (length args) >> all_qubits_of table args) (call_resolved named.0 exps) it named.2 in
      let parts = next_ok (counts_fit (slice_get table.gates named.0) (length exps) (length args)) (all_qubits_of table args) step.0 step.1 in
      let there = all_there qubits bits cregs table sound args step.0 parts.1 in
      call_is named.0 exps step.0 it is.1 there.0
      (subst (Takes table.gates named.0 (length exps)) (sym there.1)
      (takes_of table.gates named.0 (length exps) (length args) parts.0.0 (gate_there qubits bits cregs table sound name named.0 named.1) parts.0.1)) step.2
  operation_is (qop.Measure source target) it is h =
      let first = then_ok (qubits_of table source) (λ (a : Wires). bits_of table target >>= λ (b : ℕ × Wires). measured_times a b.1 >>= λ (times : ℕ). Ok (resolved.Measure a b.1 b.0 times)) it h in
      let second = then_ok (bits_of table target) (λ (b : ℕ × Wires). measured_times first.0 b.1 >>= λ (times : ℕ). Ok (resolved.Measure first.0 b.1 b.0 times)) it first.2 in
      let third = then_ok (measured_times first.0 second.0.1) (λ (times : ℕ). Ok (resolved.Measure first.0 second.0.1 second.0.0 times)) it second.2 in
      subst (IsResolved table.gates qubits bits) (same_Ok (resolved.Measure first.0 second.0.1 second.0.0 third.0) it third.2)
      (measured_is first.0 second.0.1 second.0.0 third.0 (qubits_there qubits bits cregs table sound source first.0 first.1) (bits_there qubits bits cregs table sound target second.0 second.1) third.1)
  operation_is (qop.Reset arg) it is h =
      let step = then_ok (qubits_of table arg) (λ (wires : Wires). Ok (reset_resolved wires)) it h in
      subst (IsResolved table.gates qubits bits) (same_Ok (reset_resolved step.0) it step.2)
      (reset_is step.0 (qubits_there qubits bits cregs table sound arg step.0 step.1))

-- ---- more qubits, bits and registers

some_more : {X : Type 0} (o : Option X) (P Q : X → Type 0) → ((x : X) → P x → Q x) → IfSome o P → IfSome o Q
some_more None P Q f h = tt
some_more (Some x) P Q f h = f x h

module _ (qubits bits cregs more_qubits more_bits more_cregs : ℕ) (q : qubits ≤ more_qubits) (b : bits ≤ more_bits) (c : cregs ≤ more_cregs) where
  op_still : (it : Op) → IsOp qubits bits cregs it → IsOp more_qubits more_bits more_cregs it
  op_still it is = record {
    some = is.some;
    qubits = All-weaker (IsQubit qubits) (IsQubit more_qubits) (λ x h. omega (arith, h, q)) (op_qubits it) is.qubits;
    differ = is.differ;
    bit = some_more (bit_of it) (λ (bit : Bit). bit.0 < bits) (λ (bit : Bit). bit.0 < more_bits) (λ x h. omega (arith, h, b)) is.bit;
    cond = some_more (cond_of it) (λ (cond : Cond). cond.creg.0 < cregs) (λ (cond : Cond). cond.creg.0 < more_cregs) (λ x h. omega (arith, h, c)) is.cond;
    angles = is.angles;
    gate = is.gate;
  }

  made_still : (made : MadeValue) → IsMade qubits bits cregs made → IsMade more_qubits more_bits more_cregs made
  made_still made is = record {
    few = is.few;
    each = All-weaker (IsOp qubits bits cregs) (IsOp more_qubits more_bits more_cregs) op_still made.ops is.each;
    nodes = is.nodes;
  }

  range_still : (gates : ℕ) (means : Meaning) → IsInRange qubits bits cregs gates means → IsInRange more_qubits more_bits more_cregs gates means
  range_still gates (meaning.Quantum first size) is = (is.0, omega (arith, is.1, q))
  range_still gates (meaning.Classical creg first size) is = (omega (arith, is.0, c), is.1, omega (arith, is.2, b))
  range_still gates (meaning.Gate number) is = is

  table_still : (table : Table) (name : List ℕ) (last : Meaning) → IsSoundTable qubits bits cregs table → IsInRange more_qubits more_bits more_cregs (length table.gates) last
      → IsSoundTable more_qubits more_bits more_cregs (named table name last)
  table_still table name last is h = record {
    meanings = All-push (λ (e : List ℕ × Meaning). IsInRange more_qubits more_bits more_cregs (length table.gates) e.1) table.names (name, last)
        (All-weaker (λ (e : List ℕ × Meaning). IsInRange qubits bits cregs (length table.gates) e.1) (λ (e : List ℕ × Meaning). IsInRange more_qubits more_bits more_cregs (length table.gates) e.1)
        (λ e h. range_still (length table.gates) e.1 h) table.names is.meanings) h;
    each = is.each;
    universal = is.universal;
    controlled = is.controlled;
    library = is.library;
  }

-- ---- declarations

pub start_sound : IsSound start
start_sound = record {
  quantum = no_registers IsQuantum;
  classical = no_registers IsClassical;
  few_qubits = omega arith;
  few_bits = omega arith;
  names = record {
    meanings = All-nil (λ (e : List ℕ × Meaning). IsInRange 0 0 0 (length built_in) e.1);
    each = built_in_sound;
    universal = refl;
    controlled = refl;
    library = omega arith;
  };
  ops = record { few = omega arith; each = All-nil (IsOp 0 0 0); nodes = omega arith };
}

module _ (now : Expansion) (sound : IsSound now) where
  included_keeps : (text : List ℕ) (done : Expansion) → included text now ≡ Ok done → IsSound done
  unfolding included
  included_keeps text done h =
      let then : Expansion = record now { table = record now.table { included = true } } in
      let parts = passed (not (bytes_eq text (codes "qelib1.inc"))) Include (Ok then) done h in
      subst IsSound (same_Ok then done parts.1) (record {
        quantum = sound.quantum;
        classical = sound.classical;
        few_qubits = sound.few_qubits;
        few_bits = sound.few_bits;
        ops = sound.ops;
        names = record {
          meanings = sound.names.meanings;
          each = sound.names.each;
          universal = sound.names.universal;
          controlled = sound.names.controlled;
          library = sound.names.library;
        };
      })

  qreg_keeps : (name : List ℕ) (size : ℕ) (done : Expansion) → IsName name → qreg_declared name size now ≡ Ok done → IsSound done
  unfolding qreg_declared
  qreg_keeps name size done is h =
      let reg : Reg = record { name = name; size = size } in
      let means : Meaning = meaning.Quantum (size_of now.qregs) size in
      let then : Expansion = record now { table = named now.table name means; qregs = now.qregs ++ reg ∷ [] } in
      let parts = next_ok (fresh now.table name >> size_fits size (size_of now.qregs) 128 Qubits) (Ok then) done h in
      let tests = next_ok (fresh now.table name) (size_fits size (size_of now.qregs) 128 Qubits) parts.0.0 parts.0.1 in
      let fits = size_is size (size_of now.qregs) 128 Qubits parts.0.0 tests.1 in
      let more : size_of (now.qregs ++ reg ∷ []) ≡ size_of now.qregs + size = size_more now.qregs reg in
      let new = fresh_is now.table name tests.0.0 tests.0.1 in
      let grown : size_of now.qregs ≤ size_of (now.qregs ++ reg ∷ []) = omega (arith, more) in
      subst IsSound (same_Ok then done parts.1) (record {
        quantum = registers_more IsQuantum now.table.names now.qregs sound.quantum reg means (record { some = fits.0; name = is }) tt new;
        classical = registers_still IsClassical now.table.names now.cregs sound.classical name means;
        few_qubits = omega (arith, more, fits.1);
        few_bits = sound.few_bits;
        names = table_still (size_of now.qregs) (size_of now.cregs) (length now.cregs) (size_of (now.qregs ++ reg ∷ [])) (size_of now.cregs) (length now.cregs)
            grown (omega arith) (omega arith) now.table name means sound.names (fits.0, omega (arith, more));
        ops = made_still (size_of now.qregs) (size_of now.cregs) (length now.cregs) (size_of (now.qregs ++ reg ∷ [])) (size_of now.cregs) (length now.cregs)
            grown (omega arith) (omega arith) now.made sound.ops;
      })

  creg_keeps : (name : List ℕ) (size : ℕ) (done : Expansion) → IsName name → creg_declared name size now ≡ Ok done → IsSound done
  unfolding creg_declared
  creg_keeps name size done is h =
      let reg : Reg = record { name = name; size = size } in
      let means : Meaning = meaning.Classical (length now.cregs) (size_of now.cregs) size in
      let then : Expansion = record now { table = named now.table name means; cregs = now.cregs ++ reg ∷ [] } in
      let parts = next_ok (fresh now.table name >> size_fits size (size_of now.cregs) 4096 Bits) (Ok then) done h in
      let tests = next_ok (fresh now.table name) (size_fits size (size_of now.cregs) 4096 Bits) parts.0.0 parts.0.1 in
      let fits = size_is size (size_of now.cregs) 4096 Bits parts.0.0 tests.1 in
      let more : size_of (now.cregs ++ reg ∷ []) ≡ size_of now.cregs + size = size_more now.cregs reg in
      let one : length (now.cregs ++ reg ∷ []) ≡ length now.cregs + 1 = omega (arith, length-append now.cregs (reg ∷ [])) in
      let new = fresh_is now.table name tests.0.0 tests.0.1 in
      let grown : size_of now.cregs ≤ size_of (now.cregs ++ reg ∷ []) = omega (arith, more) in
      let longer : length now.cregs ≤ length (now.cregs ++ reg ∷ []) = omega (arith, one) in
      subst IsSound (same_Ok then done parts.1) (record {
        quantum = registers_still IsQuantum now.table.names now.qregs sound.quantum name means;
        classical = registers_more IsClassical now.table.names now.cregs sound.classical reg means (record { some = fits.0; name = is }) tt new;
        few_qubits = sound.few_qubits;
        few_bits = omega (arith, more, fits.1);
        names = table_still (size_of now.qregs) (size_of now.cregs) (length now.cregs) (size_of now.qregs) (size_of (now.cregs ++ reg ∷ [])) (length (now.cregs ++ reg ∷ []))
            (omega arith) grown longer now.table name means sound.names (omega (arith, one), fits.0, omega (arith, more));
        ops = made_still (size_of now.qregs) (size_of now.cregs) (length now.cregs) (size_of now.qregs) (size_of (now.cregs ++ reg ∷ [])) (length (now.cregs ++ reg ∷ []))
            (omega arith) grown longer now.made sound.ops;
      })

  -- a table with a gate more
  table_keeps : (name : List ℕ) (it : Gate) (table : Table) (done : Expansion) → with_gate now.table name it ≡ table
      → IsSoundTable (size_of now.qregs) (size_of now.cregs) (length now.cregs) table → with_table now table ≡ Ok done → IsSound done
  table_keeps name it table done same is h =
      let means : Meaning = meaning.Gate (length now.table.gates) in
      subst IsSound (same_Ok (record now { table = table }) done h) (record {
        quantum = subst (λ (t : Table). AreRegisters IsQuantum t.names now.qregs) same (registers_still IsQuantum now.table.names now.qregs sound.quantum name means);
        classical = subst (λ (t : Table). AreRegisters IsClassical t.names now.cregs) same (registers_still IsClassical now.table.names now.cregs sound.classical name means);
        few_qubits = sound.few_qubits;
        few_bits = sound.few_bits;
        names = is;
        ops = sound.ops;
      })

  opaque_done : (name : List ℕ) (params formals : List (List ℕ)) (done : Expansion) → IsName name
      → (opaque_declared now.table name params formals >>= with_table now) ≡ Ok done → IsSound done
  opaque_done name params formals done is h =
      let it : Gate = gate.Opaque name (length params) (length formals) in
      let step = then_ok (opaque_declared now.table name params formals) (with_table now) done h in
      let parts = next_ok (fresh now.table name >> formals_fit params formals) (Ok (with_gate now.table name it)) step.0 step.1 in
      table_keeps name it step.0 done (same_Ok (with_gate now.table name it) step.0 parts.1)
      (opaque_keeps (size_of now.qregs) (size_of now.cregs) (length now.cregs) now.table sound.names name params formals step.0 is step.1) step.2

  gate_done : (name : List ℕ) (params formals : List (List ℕ)) (body : List BodyItem) (done : Expansion) → All IsBodyItem body
      → (gate_declared now.table name params formals body >>= with_table now) ≡ Ok done → IsSound done
  gate_done name params formals body done all h =
      let step = then_ok (gate_declared now.table name params formals body) (with_table now) done h in
      let items = then_ok (fresh now.table name >> formals_fit params formals >> items_of now.table params formals body)
      (λ (items : List Item). Ok (with_gate now.table name (gate.Body (length params) (length formals) items))) step.0 step.1 in
      let it : Gate = gate.Body (length params) (length formals) items.0 in
      table_keeps name it step.0 done (same_Ok (with_gate now.table name it) step.0 items.2)
      (gate_keeps (size_of now.qregs) (size_of now.cregs) (length now.cregs) now.table sound.names name params formals body step.0 all step.1) step.2

  -- ---- operations

  made_keeps : (made : MadeValue) (done : Expansion) → IsMade (size_of now.qregs) (size_of now.cregs) (length now.cregs) made → with_made now made ≡ Ok done → IsSound done
  made_keeps made done is h = subst IsSound (same_Ok (record now { made = made }) done h) (record {
    quantum = sound.quantum;
    classical = sound.classical;
    few_qubits = sound.few_qubits;
    few_bits = sound.few_bits;
    names = sound.names;
    ops = is;
  })

  resolved_sound : (condition : Option Cond) → IfSome condition (λ (cond : Cond). cond.creg.0 < length now.cregs) → (said : Qop) (it : Resolved) (made : MadeValue)
      → IsOperation said → qop_resolved now.table said ≡ Ok it → resolved_made now.table.gates condition it now.made ≡ Ok made
      → IsMade (size_of now.qregs) (size_of now.cregs) (length now.cregs) made
  resolved_sound condition fits said it made is h m =
      resolved_keeps (size_of now.qregs) (size_of now.cregs) (length now.cregs) condition fits now.table.gates sound.names.each it
      (operation_is (size_of now.qregs) (size_of now.cregs) (length now.cregs) now.table sound.names said it is h) now.made made sound.ops m

  operation_done : (said : Qop) (done : Expansion) → IsOperation said → qop_done said now ≡ Ok done → IsSound done
  unfolding qop_done
  operation_done said done is h =
      let first = then_ok (qop_resolved now.table said) (λ (it : Resolved). resolved_made now.table.gates None it now.made >>= with_made now) done h in
      let second = then_ok (resolved_made now.table.gates None first.0 now.made) (with_made now) done first.2 in
      made_keeps second.0 done (resolved_sound None tt said first.0 second.0 is first.1 second.1) second.2

  conditional_keeps : (creg value : ℕ) (said : Qop) (done : Expansion) → creg < length now.cregs → IsOperation said → conditional_done creg value said now ≡ Ok done → IsSound done
  unfolding conditional_done
  conditional_keeps creg value said done there is h =
      let condition : Option Cond = Some (record { creg = record { 0 = creg }; value = value }) in
      let first = then_ok (qop_resolved now.table said)
      (λ (it : Resolved). refuse_if (measures_into creg it) SelfMeasure >> resolved_made now.table.gates condition it now.made >>= with_made now) done h in
      let second = then_ok (refuse_if (measures_into creg first.0) SelfMeasure >> resolved_made now.table.gates condition first.0 now.made) (with_made now) done first.2 in
      let third = passed (measures_into creg first.0) SelfMeasure (resolved_made now.table.gates condition first.0 now.made) second.0 second.1 in
      made_keeps second.0 done (resolved_sound condition there said first.0 second.0 is first.1 third.1) second.2

  barrier_keeps : (args : List Arg) (done : Expansion) → 0 < length args → barrier_done args now ≡ Ok done → IsSound done
  unfolding barrier_done
  barrier_keeps args done some h =
      let first = then_ok (all_qubits_of now.table args) (λ (wires : List Wires). with_op (op.Barrier (distinct_qubits wires)) now.made >>= with_made now) done h in
      let second = then_ok (with_op (op.Barrier (distinct_qubits first.0)) now.made) (with_made now) done first.2 in
      let there = all_there (size_of now.qregs) (size_of now.cregs) (length now.cregs) now.table sound.names args first.0 first.1 in
      let these = distinct_apart (size_of now.qregs) first.0 there.0 in
      made_keeps second.0 done
      (with_op_keeps (size_of now.qregs) (size_of now.cregs) (length now.cregs) (op.Barrier (distinct_qubits first.0))
      (record { some = distinct_some (size_of now.qregs) first.0 there.0 (omega (arith, there.1, some)); qubits = these.each; differ = these.differ; bit = tt; cond = tt; angles = All-nil IsAngle; gate = tt })
      now.made second.0 sound.ops second.1) second.2

  -- ---- statements

  pub statement_keeps : (said : Statement) (done : Expansion) → IsWellFormed said → statement_done said now ≡ Ok done → IsSound done
  unfolding statement_done opaque_statement gate_statement conditional_statement
  statement_keeps (statement.Include text) done is h = included_keeps text done h
  statement_keeps (statement.Register true name size) done is h = qreg_keeps name size done is h
  statement_keeps (statement.Register false name size) done is h = creg_keeps name size done is h
  statement_keeps (statement.Gate name params formals body) done is h = gate_done name params formals body done is.3 h
  statement_keeps (statement.Opaque name params formals) done is h = opaque_done name params formals done is.0 h
  statement_keeps (statement.Apply said) done is h = operation_done said done is h
  statement_keeps (statement.Barrier args) done is h = barrier_keeps args done is.0 h
  statement_keeps (statement.If creg value said) done is h =
      let step = then_ok (creg_named now.table creg) (λ (number : ℕ). conditional_done number value said now) done h in
      conditional_keeps step.0 value said done
      (creg_there (size_of now.qregs) (size_of now.cregs) (length now.cregs) now.table sound.names creg step.0 step.1) is.1 step.2

-- ---- programs

pub placed_ok : (at : ℕ) (r : Result Expansion Cause) (done : Expansion) → placed at r ≡ Ok done → r ≡ Ok done
placed_ok at (Ok x) done h = ap Ok (same_Ok x done h)
placed_ok at (Err cause) done h = absurd (never_ok (fault_at at cause) done h)

pub statements_keep : (program : List Placed) (now done : Expansion) → AreWellFormed program → IsSound now → statements_done program now ≡ Ok done → IsSound done
statements_keep [] now done all sound h = subst IsSound (same_Ok now done h) sound
statements_keep (p ∷ program) now done all sound h =
    let step = then_ok (placed p.at (statement_done p.statement now)) (statements_done program) done h in
    let first = placed_ok p.at (statement_done p.statement now) step.0 step.1 in
    statements_keep program step.0 done (All-tail (λ (p : Placed). IsWellFormed p.statement) p program all)
    (statement_keeps now sound p.statement step.0 (All-head (λ (p : Placed). IsWellFormed p.statement) p program all) first) step.2

pub sound_is_circuit : (done : Expansion) → IsSound done → IsCircuit (circuit_of done)
sound_is_circuit done sound = record {
  registers = All-append IsRegister done.qregs done.cregs sound.quantum.each sound.classical.each;
  names = both_own done.table.names done.qregs done.cregs sound.quantum sound.classical;
  qubits = sound.few_qubits;
  bits = sound.few_bits;
  few = sound.ops.few;
  ops = sound.ops.each;
  nodes = sound.ops.nodes;
}

-- what the statements of a program make is a circuit
pub expanded_sound : (program : List Placed) (done : Expansion) → AreWellFormed program → statements_done program start ≡ Ok done → IsCircuit (circuit_of done)
expanded_sound program done all h = sound_is_circuit done (statements_keep program start done all start_sound h)

pub circuit_is : (program : List Placed) (circuit : CircuitValue) → AreWellFormed program → expanded program ≡ Ok circuit → IsCircuit circuit
circuit_is program circuit all h =
    let step = then_ok (statements_done program start) (λ (done : Expansion). Ok (circuit_of done)) circuit h in
    subst IsCircuit (same_Ok (circuit_of step.0) circuit step.2) (expanded_sound program step.0 all step.1)
