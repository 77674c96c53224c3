-- The operations of a circuit come from the statements of its program, index by index.
use Rattle.std.proofs.Common.{◌≡◌, ◌⊎◌, inl, inr, ℕ, zero, suc, ◌+◌, ◌<◌, ◌≤◌, List, [], ◌∷◌, ◌++◌, length, map, take, slice_get, not, true, false, codes, Option, Some, None, Result, Ok, Err, refl, ap, sym, ◌∙◌, subst, arith, append_assoc, append-nil}
use Rattle.std.specs.Str.{bytes_eq}
use Rattle.std.proofs.lemmas.Bool.{cases_lt}
use Rattle.std.proofs.lemmas.Option.{same_Some, none-some}
use Rattle.circuit_core.specs.declared.op.Cond.{Cond}
use Rattle.circuit_core.specs.declared.op.Op.{Op}
use Rattle.circuit_core.specs.declared.op.Op.TheVariants as op
use Rattle.circuit_core.specs.Circuit.{CircuitValue, size_of}
use Rattle.qasm_read.specs.declared.arg.Arg.{Arg}
use Rattle.qasm_read.specs.declared.qop.Qop.{Qop}
use Rattle.qasm_read.specs.declared.statement.Placed.{Placed}
use Rattle.qasm_read.specs.declared.statement.Statement.{Statement}
use Rattle.qasm_read.specs.declared.statement.Statement.TheVariants as statement
use Rattle.gate_expand.specs.declared.expansion.Expansion.{Expansion}
use Rattle.gate_names.specs.declared.gate.Gate.{Gate}
use Rattle.gate_names.specs.declared.names.Meaning.TheVariants as meaning
use Rattle.gate_expand.specs.declared.resolved.Resolved.{Resolved}
use Rattle.gate_expand.specs.declared.resolved.Resolved.TheVariants as resolved
use Rattle.gate_expand.specs.declared.wires.Wires.{Wires}
use Rattle.gate_names.specs.declared.cause.Cause.{Cause}
use Rattle.gate_names.specs.declared.cause.Cause.TheVariants.{Include, SelfMeasure}
use Rattle.gate_names.specs.declared.cause.Counted.TheVariants.{Qubits, Bits}
use Rattle.gate_names.specs.Causes.{◌>>=◌, ◌>>◌, refuse_if}
use Rattle.gate_names.specs.Entries.{Table}
use Rattle.gate_names.specs.Names.{named, fresh, creg_named}
use Rattle.gate_expand.specs.Registers.{size_fits}
use Rattle.gate_expand.specs.Arguments.{all_qubits_of, distinct_qubits, qubit_at, wire_at}
use Rattle.gate_names.specs.Declarations.{opaque_declared, gate_declared}
use Rattle.gate_expand.specs.Making.{MadeValue, Maker, with_op}
use Rattle.gate_expand.specs.Operations.{spread, qop_resolved, measures_into, resolved_made}
use Rattle.gate_expand.specs.Program.{start, included, qreg_declared, creg_declared, with_table, with_made, qop_done, conditional_done, barrier_done, statement_done, opaque_statement, gate_statement, conditional_statement, placed, statements_done, circuit_of, expanded}
use Rattle.gate_expand.specs.declared.fault.ExpandFault.{ExpandFault}
use Rattle.gate_expand.specs.Origins.{Written, operation_written, once, no_operation, written, Piece, nothing, IsPiece, ComeFrom}
use Rattle.gate_expand.proofs.SoundSteps.{same_Ok, never_ok, then_ok, next_ok, passed}
use Rattle.gate_expand.proofs.SoundProgram.{placed_ok}
use Rattle.gate_expand.proofs.Adding.{with_more, Adds, nothing_adds, with_op_adds, application_adds}
use Rattle.gate_expand.proofs.Pieces.{none_come, one_comes, both_come, same_come}

-- ---- one at each index

-- what is made by itself at an index in a range
record IsAt (place : ℕ) (make : ℕ → Maker) (low high : ℕ) (piece : Piece) : Type 0 where
  pub number : piece.statement ≡ place
  pub from : low ≤ piece.index
  pub below : piece.index < high
  pub made : MadeValue
  pub makes : make piece.index nothing ≡ Ok made
  pub whole : piece.ops ≡ made.ops

with_nothing : (made : MadeValue) → with_more made nothing ≡ made
with_nothing made =
    let sum : made.applications + 0 ≡ made.applications = omega arith in
    (λ i. record { ops = append-nil made.ops i; applications = sum i })

module _ (number : ℕ) (make : ℕ → Maker) where
  only_one : (index : ℕ) (made : MadeValue) → make index nothing ≡ Ok made → (piece : Piece) → IsAt number make index (index + 1) piece
      → piece ≡ record { statement = number; index = index; ops = made.ops }
  only_one index made makes piece is =
      let same : piece.index ≡ index = omega (arith, is.from, is.below) in
      let again = subst (λ (k : ℕ). make k nothing ≡ Ok is.made) same is.makes in
      let both : is.made ≡ made = same_Ok is.made made (sym again ∙ makes) in
      let ops : piece.ops ≡ made.ops = is.whole ∙ ap (λ (m : MadeValue). m.ops) both in
      (λ i. record { statement = is.number i; index = same i; ops = ops i })

  spread_comes : ((index : ℕ) → Adds (make index)) → (index times : ℕ) (made now : MadeValue) → spread make index times made ≡ Ok now
      → (ops : List Op) × (now.ops ≡ made.ops ++ ops) × ComeFrom (IsAt number make index (index + times)) ops
  spread_comes adds index zero made now h = (
    [],
    ap (λ (m : MadeValue). m.ops) (sym (same_Ok made now h)) ∙ sym (append-nil made.ops),
    none_come (IsAt number make index (index + 0)) (λ piece is. omega (arith, is.from, is.below)),
  )
  spread_comes adds index (suc times) made now h =
      let step = then_ok (make index made) (spread make (index + 1) times) now h in
      let one = adds index made nothing step.0 (subst (λ (m : MadeValue). make index m ≡ Ok step.0) (sym (with_nothing made)) step.1) in
      let rest = spread_comes adds (index + 1) times step.0 now step.2 in
      let piece : Piece = record { statement = number; index = index; ops = one.0.ops } in (
        one.0.ops ++ rest.0,
        rest.1 ∙ ap (λ (m : MadeValue). m.ops ++ rest.0) one.1 ∙ append_assoc made.ops one.0.ops rest.0,
        both_come (IsAt number make index (index + 1)) (IsAt number make (index + 1) (index + 1 + times)) (IsAt number make index (index + suc times))
            one.0.ops rest.0
            (one_comes (IsAt number make index (index + 1)) piece
            (record { number = refl; from = omega arith; below = omega arith; made = one.0; makes = one.2; whole = refl })
            (only_one index one.0 one.2))
            rest.2
            (λ piece is. record { number = is.number; from = is.from; below = omega (arith, is.below); made = is.made; makes = is.makes; whole = is.whole })
            (λ piece is. record { number = is.number; from = omega (arith, is.from); below = omega (arith, is.below); made = is.made; makes = is.makes; whole = is.whole })
            (λ piece is. elim (cases_lt piece.index (index + 1)) [
              | inl low ↦ inl (record { number = is.number; from = is.from; below = low; made = is.made; makes = is.makes; whole = is.whole })
              | inr high ↦ inr (record { number = is.number; from = high; below = omega (arith, is.below); made = is.made; makes = is.makes; whole = is.whole })
            ])
            (λ first second a b. inr (a.number ∙ sym b.number, omega (arith, a.below, b.from))),
      )

-- ---- statements

-- what a statement says, and makes
record Says (now done : Expansion) (said : Statement) : Type 0 where
  pub it : Written
  pub says : written now said ≡ Ok it
  pub spreads : spread it.make 0 it.times now.made ≡ Ok done.made
  pub adds : (index : ℕ) → Adds (it.make index)

operation_adds : (gates : List Gate) (condition : Option Cond) (it : Resolved) (index : ℕ) → Adds ((operation_written gates condition it).make index)
operation_adds gates condition (resolved.Application gate params wires times) index = application_adds gates condition gate params (map (qubit_at index) wires)
operation_adds gates condition (resolved.Measure qubits bits creg times) index =
    with_op_adds (op.Measure (qubit_at index qubits) (record { 0 = wire_at index bits }) condition)
operation_adds gates condition (resolved.Reset qubits times) index = with_op_adds (op.Reset (qubit_at index qubits) condition)

operation_spreads : (gates : List Gate) (condition : Option Cond) (it : Resolved) (made : MadeValue)
    → spread (operation_written gates condition it).make 0 (operation_written gates condition it).times made ≡ resolved_made gates condition it made
operation_spreads gates condition (resolved.Application gate params wires times) made = refl
operation_spreads gates condition (resolved.Measure qubits bits creg times) made = refl
operation_spreads gates condition (resolved.Reset qubits times) made = refl

-- the operations are those of the step
with_made_is : (now done : Expansion) (r : Result MadeValue Cause) → (r >>= with_made now) ≡ Ok done → r ≡ Ok done.made
with_made_is now done (Ok made) h = ap (λ (e : Expansion). Ok e.made) (same_Ok (record now { made = made }) done h)
with_made_is now done (Err cause) h = absurd (never_ok cause done h)

declared : (now then done : Expansion) → then.made ≡ now.made → ◌≡◌ {A = Result Expansion Cause} (Ok then) (Ok done)
    → spread no_operation.make 0 no_operation.times now.made ≡ Ok done.made
declared now then done still h = ap Ok (sym still ∙ ap (λ (e : Expansion). e.made) (same_Ok then done h))

module _ (now : Expansion) where
  table_declared : (r : Result Table Cause) (done : Expansion) → (r >>= with_table now) ≡ Ok done
      → spread no_operation.make 0 no_operation.times now.made ≡ Ok done.made
  table_declared (Ok table) done h = declared now (record now { table = table }) done refl h
  table_declared (Err cause) done h = absurd (never_ok cause done h)

  include_says : (text : List ℕ) (done : Expansion) → included text now ≡ Ok done → spread no_operation.make 0 no_operation.times now.made ≡ Ok done.made
  unfolding included
  include_says text done h =
      let then : Expansion = record now { table = record now.table { included = true } } in
      declared now then done refl (passed (not (bytes_eq text (codes "qelib1.inc"))) Include (Ok then) done h).1

  qreg_says : (name : List ℕ) (size : ℕ) (done : Expansion) → qreg_declared name size now ≡ Ok done → spread no_operation.make 0 no_operation.times now.made ≡ Ok done.made
  unfolding qreg_declared
  qreg_says name size done h =
      let then : Expansion = record now { table = named now.table name (meaning.Quantum (size_of now.qregs) size); qregs = now.qregs ++ record { name = name; size = size } ∷ [] } in
      declared now then done refl (next_ok (fresh now.table name >> size_fits size (size_of now.qregs) 128 Qubits) (Ok then) done h).1

  creg_says : (name : List ℕ) (size : ℕ) (done : Expansion) → creg_declared name size now ≡ Ok done → spread no_operation.make 0 no_operation.times now.made ≡ Ok done.made
  unfolding creg_declared
  creg_says name size done h =
      let then : Expansion = record now { table = named now.table name (meaning.Classical (length now.cregs) (size_of now.cregs) size); cregs = now.cregs ++ record { name = name; size = size } ∷ [] } in
      declared now then done refl (next_ok (fresh now.table name >> size_fits size (size_of now.cregs) 4096 Bits) (Ok then) done h).1

  operation_says : (said : Qop) (done : Expansion) → qop_done said now ≡ Ok done → Says now done (statement.Apply said)
  unfolding qop_done written
  operation_says said done h =
      let step = then_ok (qop_resolved now.table said) (λ (it : Resolved). resolved_made now.table.gates None it now.made >>= with_made now) done h in
      record {
        it = operation_written now.table.gates None step.0;
        says = ap (λ (r : Result Resolved Cause). r >>= λ it. Ok (operation_written now.table.gates None it)) step.1;
        spreads = operation_spreads now.table.gates None step.0 now.made ∙ with_made_is now done (resolved_made now.table.gates None step.0 now.made) step.2;
        adds = operation_adds now.table.gates None step.0;
      }

  conditional_says : (creg : List ℕ) (value : ℕ) (said : Qop) (done : Expansion) → conditional_statement creg value said now ≡ Ok done → Says now done (statement.If creg value said)
  unfolding conditional_statement conditional_done written
  conditional_says creg value said done h =
      let register = then_ok (creg_named now.table creg) (λ (number : ℕ). conditional_done number value said now) done h in
      let condition : Option Cond = Some (record { creg = record { 0 = register.0 }; value = value }) in
      let step = then_ok (qop_resolved now.table said)
      (λ (it : Resolved). refuse_if (measures_into register.0 it) SelfMeasure >> resolved_made now.table.gates condition it now.made >>= with_made now) done register.2 in
      let made = then_ok (refuse_if (measures_into register.0 step.0) SelfMeasure >> resolved_made now.table.gates condition step.0 now.made) (with_made now) done step.2 in
      let sound = passed (measures_into register.0 step.0) SelfMeasure (resolved_made now.table.gates condition step.0 now.made) made.0 made.1 in
      record {
        it = operation_written now.table.gates condition step.0;
        says =
            ap (λ (r : Result ℕ Cause). r >>= λ number. qop_resolved now.table said >>= λ it.
            Ok (operation_written now.table.gates (Some (record { creg = record { 0 = number }; value = value })) it)) register.1
            ∙ ap (λ (r : Result Resolved Cause). r >>= λ it. Ok (operation_written now.table.gates condition it)) step.1;
        spreads = operation_spreads now.table.gates condition step.0 now.made ∙ sound.1
            ∙ with_made_is now done (Ok made.0) made.2;
        adds = operation_adds now.table.gates condition step.0;
      }

  barrier_says : (args : List Arg) (done : Expansion) → barrier_done args now ≡ Ok done → Says now done (statement.Barrier args)
  unfolding barrier_done written
  barrier_says args done h =
      let step = then_ok (all_qubits_of now.table args) (λ (wires : List Wires). with_op (op.Barrier (distinct_qubits wires)) now.made >>= with_made now) done h in
      let made = with_made_is now done (with_op (op.Barrier (distinct_qubits step.0)) now.made) step.2 in
      record {
        it = once (op.Barrier (distinct_qubits step.0));
        says = ap (λ (r : Result (List Wires) Cause). r >>= λ wires. Ok (once (op.Barrier (distinct_qubits wires)))) step.1;
        spreads = ap (λ (r : Result MadeValue Cause). r >>= λ (m : MadeValue). Ok m) made;
        adds = λ index. with_op_adds (op.Barrier (distinct_qubits step.0));
      }

  statement_says : (said : Statement) (done : Expansion) → statement_done said now ≡ Ok done → Says now done said
  unfolding statement_done opaque_statement gate_statement written
  statement_says (statement.Include text) done h =
      record { it = no_operation; says = refl; spreads = include_says text done h; adds = λ index. nothing_adds }
  statement_says (statement.Register true name size) done h =
      record { it = no_operation; says = refl; spreads = qreg_says name size done h; adds = λ index. nothing_adds }
  statement_says (statement.Register false name size) done h =
      record { it = no_operation; says = refl; spreads = creg_says name size done h; adds = λ index. nothing_adds }
  statement_says (statement.Gate name params formals body) done h =
      record { it = no_operation; says = refl; spreads = table_declared (gate_declared now.table name params formals body) done h; adds = λ index. nothing_adds }
  statement_says (statement.Opaque name params formals) done h =
      record { it = no_operation; says = refl; spreads = table_declared (opaque_declared now.table name params formals) done h; adds = λ index. nothing_adds }
  statement_says (statement.Apply said) done h = operation_says said done h
  statement_says (statement.Barrier args) done h = barrier_says args done h
  statement_says (statement.If creg value said) done h = conditional_says creg value said done h

-- ---- programs

-- a piece of the statements from a number on, after what was declared before
record IsPieceFrom (first : ℕ) (begin : Expansion) (program : List Placed) (piece : Piece) : Type 0 where
  pub k : ℕ
  pub number : piece.statement ≡ first + k
  pub said : Placed
  pub found : slice_get program k ≡ Some said
  pub now : Expansion
  pub before : statements_done (take k program) begin ≡ Ok now
  pub it : Written
  pub says : written now said.statement ≡ Ok it
  pub within : piece.index < it.times
  pub made : MadeValue
  pub makes : it.make piece.index nothing ≡ Ok made
  pub whole : piece.ops ≡ made.ops

module _ (first : ℕ) (begin mid : Expansion) (p : Placed) (program : List Placed) (step : placed p.at (statement_done p.statement begin) ≡ Ok mid)
    (said : Says begin mid p.statement) where
  here : (piece : Piece) → IsAt first said.it.make 0 (0 + said.it.times) piece → IsPieceFrom first begin (p ∷ program) piece
  here piece is = record {
    k = 0;
    number = omega (arith, is.number);
    said = p;
    found = refl;
    now = begin;
    before = refl;
    it = said.it;
    says = said.says;
    within = omega (arith, is.below);
    made = is.made;
    makes = is.makes;
    whole = is.whole;
  }

  later : (piece : Piece) → IsPieceFrom (first + 1) mid program piece → IsPieceFrom first begin (p ∷ program) piece
  later piece is = record {
    k = suc is.k;
    number = omega (arith, is.number);
    said = is.said;
    found = is.found;
    now = is.now;
    before = ap (λ (r : Result Expansion ExpandFault). r >>= statements_done (take is.k program)) step ∙ is.before;
    it = is.it;
    says = is.says;
    within = is.within;
    made = is.made;
    makes = is.makes;
    whole = is.whole;
  }

  here_or_later : (piece : Piece) (is : IsPieceFrom first begin (p ∷ program) piece) (k : ℕ) → is.k ≡ k
      → IsAt first said.it.make 0 (0 + said.it.times) piece ⊎ IsPieceFrom (first + 1) mid program piece
  here_or_later piece is zero e =
      let same : p ≡ is.said = same_Some p is.said (subst (λ (n : ℕ). slice_get (p ∷ program) n ≡ Some is.said) e is.found) in
      let still : begin ≡ is.now = same_Ok begin is.now (subst (λ (n : ℕ). statements_done (take n (p ∷ program)) begin ≡ Ok is.now) e is.before) in
      let moved : written begin p.statement ≡ written is.now is.said.statement = (λ i. written (still i) (same i).statement) in
      let twice : said.it ≡ is.it = same_Ok said.it is.it (sym said.says ∙ moved ∙ is.says) in
      let below = subst (λ (it : Written). piece.index < it.times) (sym twice) is.within in
      inl (record {
        number = omega (arith, is.number, e);
        from = omega arith;
        below = omega (arith, below);
        made = is.made;
        makes = subst (λ (it : Written). it.make piece.index nothing ≡ Ok is.made) (sym twice) is.makes;
        whole = is.whole;
      })
  here_or_later piece is (suc k) e =
      let before = subst (λ (n : ℕ). statements_done (take n (p ∷ program)) begin ≡ Ok is.now) e is.before in
      inr (record {
        k = k;
        number = omega (arith, is.number, e);
        said = is.said;
        found = subst (λ (n : ℕ). slice_get (p ∷ program) n ≡ Some is.said) e is.found;
        now = is.now;
        before = sym (ap (λ (r : Result Expansion ExpandFault). r >>= statements_done (take k program)) step) ∙ before;
        it = is.it;
        says = is.says;
        within = is.within;
        made = is.made;
        makes = is.makes;
        whole = is.whole;
      })

statements_come : (program : List Placed) (first : ℕ) (begin done : Expansion) → statements_done program begin ≡ Ok done
    → (ops : List Op) × (done.made.ops ≡ begin.made.ops ++ ops) × ComeFrom (IsPieceFrom first begin program) ops
statements_come [] first begin done h = (
  [],
  ap (λ (e : Expansion). e.made.ops) (sym (same_Ok begin done h)) ∙ sym (append-nil begin.made.ops),
  none_come (IsPieceFrom first begin []) (λ piece is. none-some is.said is.found),
)
statements_come (p ∷ program) first begin done h =
    let step = then_ok (placed p.at (statement_done p.statement begin)) (statements_done program) done h in
    let said = statement_says begin p.statement step.0 (placed_ok p.at (statement_done p.statement begin) step.0 step.1) in
    let parts = spread_comes first said.it.make said.adds 0 said.it.times begin.made step.0.made said.spreads in
    let rest = statements_come program (first + 1) step.0 done step.2 in (
      parts.0 ++ rest.0,
      rest.1 ∙ ap (λ (l : List Op). l ++ rest.0) parts.1 ∙ append_assoc begin.made.ops parts.0 rest.0,
      both_come (IsAt first said.it.make 0 (0 + said.it.times)) (IsPieceFrom (first + 1) step.0 program) (IsPieceFrom first begin (p ∷ program))
          parts.0 rest.0 parts.2 rest.2
          (here first begin step.0 p program step.1 said)
          (later first begin step.0 p program step.1 said)
          (λ piece is. here_or_later first begin step.0 p program step.1 said piece is is.k refl)
          (λ one other a b. inl (omega (arith, a.number, b.number))),
    )

from_start : (program : List Placed) (piece : Piece) → IsPieceFrom 0 start program piece → IsPiece program piece
from_start program piece is =
    let same : is.k ≡ piece.statement = omega (arith, is.number) in
    record {
      said = is.said;
      found = subst (λ (n : ℕ). slice_get program n ≡ Some is.said) same is.found;
      now = is.now;
      before = subst (λ (n : ℕ). statements_done (take n program) start ≡ Ok is.now) same is.before;
      it = is.it;
      says = is.says;
      within = is.within;
      made = is.made;
      makes = is.makes;
      whole = is.whole;
    }

to_start : (program : List Placed) (piece : Piece) → IsPiece program piece → IsPieceFrom 0 start program piece
to_start program piece is = record {
  k = piece.statement;
  number = omega arith;
  said = is.said;
  found = is.found;
  now = is.now;
  before = is.before;
  it = is.it;
  says = is.says;
  within = is.within;
  made = is.made;
  makes = is.makes;
  whole = is.whole;
}

-- the operations of a circuit come from all pieces of its program
pub operations_come : (program : List Placed) (circuit : CircuitValue) → expanded program ≡ Ok circuit → ComeFrom (IsPiece program) circuit.ops
operations_come program circuit h =
    let step = then_ok (statements_done program start) (λ (done : Expansion). Ok (circuit_of done)) circuit h in
    let all = statements_come program 0 start step.0 step.1 in
    let same : circuit.ops ≡ all.0 = ap (λ (c : CircuitValue). c.ops) (sym (same_Ok (circuit_of step.0) circuit step.2)) ∙ all.1 in
    subst (ComeFrom (IsPiece program)) (sym same)
    (same_come (IsPieceFrom 0 start program) (IsPiece program) all.0 all.2 (from_start program) (to_start program))
