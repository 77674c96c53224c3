-- Where no gate with a body is applied, each piece is its statement's own operation.
use Rattle.std.proofs.Common.{◌≡◌, ℕ, ◌+◌, ◌<◌, ◌≤◌, List, [], ◌∷◌, ◌++◌, length, map, take, slice_get, false, Option, Some, None, Result, Ok, refl, ap, sym, ◌∙◌, subst, arith}
use Rattle.std.proofs.lemmas.List.{length-map}
use Rattle.std.proofs.lemmas.List.Elements.{All-take}
use Rattle.std.proofs.lemmas.Bool.{false≢true}
use Rattle.std.proofs.lemmas.Option.{same_Some}
use Rattle.std.specs.Prelude.{nat_le, nat_lt}
use Rattle.qc_base.specs.declared.ids.Qubit.{Qubit}
use Rattle.circuit_core.specs.declared.angle.Angle.{Angle}
use Rattle.circuit_core.specs.declared.op.Cond.{Cond}
use Rattle.circuit_core.specs.declared.op.Op.{Op}
use Rattle.circuit_core.specs.declared.op.Op.TheVariants as op
use Rattle.circuit_core.specs.Circuit.{CircuitValue, size_of, all_nodes}
use Rattle.qasm_read.specs.declared.arg.Arg.{Arg}
use Rattle.qasm_read.specs.declared.exp.Exp.{Exp}
use Rattle.qasm_read.specs.declared.qop.Qop.{Qop}
use Rattle.qasm_read.specs.declared.qop.Qop.TheVariants as qop
use Rattle.qasm_read.specs.declared.statement.Placed.{Placed}
use Rattle.qasm_read.specs.declared.statement.Statement.{Statement}
use Rattle.qasm_read.specs.declared.statement.Statement.TheVariants as statement
use Rattle.qasm_read.specs.WellFormed.{IsOperation, IsWellFormed, AreWellFormed}
use Rattle.gate_expand.specs.declared.expansion.Expansion.{Expansion}
use Rattle.gate_names.specs.declared.gate.Gate.{Gate}
use Rattle.gate_names.specs.declared.gate.Gate.TheVariants.{Universal, ControlledNot, Opaque, Body}
use Rattle.gate_expand.specs.declared.resolved.Resolved.{Resolved}
use Rattle.gate_expand.specs.declared.resolved.Resolved.TheVariants as resolved
use Rattle.gate_names.specs.declared.term.Term.{Term}
use Rattle.gate_expand.specs.declared.wires.Wires.{Wires}
use Rattle.gate_expand.specs.declared.wires.Wires.TheVariants.{One, Each}
use Rattle.gate_names.specs.declared.cause.Cause.{Cause}
use Rattle.gate_names.specs.declared.cause.Cause.TheVariants.{TooMany, Repeated, AngleLarge, WideOp}
use Rattle.gate_names.specs.declared.cause.Counted.TheVariants.{Applications, Ops, Nodes}
use Rattle.gate_names.specs.Causes.{◌>>=◌, ◌>>◌, refuse_if}
use Rattle.gate_names.specs.Entries.{Table}
use Rattle.gate_names.specs.Gates.{has_body, param_count, qubit_count}
use Rattle.gate_names.specs.Terms.{terms_of}
use Rattle.gate_expand.specs.Angles.{put, is_large, put_small, put_all}
use Rattle.gate_names.specs.Names.{gate_named, creg_named}
use Rattle.gate_expand.specs.Arguments.{qubits_of, bits_of, all_qubits_of, times_of, repeats_from, distinct_qubits, qubit_at, wire_at}
use Rattle.gate_names.specs.Declarations.{counts_fit}
use Rattle.gate_expand.specs.Making.{MadeValue, counted, with_op}
use Rattle.gate_expand.specs.Expansion.{op_of, with_made, op_made, gate_made, gate_at_made, performed, application_made}
use Rattle.gate_expand.specs.Operations.{call_resolved, measured_times, reset_resolved, qop_resolved}
use Rattle.gate_expand.specs.Origins.{Written, applies_body, said_op, gate_op, operation_written, once, no_operation, written, Piece, nothing, IsPiece, IsOwnPiece, ComeFrom, AppliesNoBody}
use Rattle.gate_expand.specs.Program.{start, expanded}
use Rattle.gate_expand.proofs.Sound.{Takes, IsResolved, IsSound}
use Rattle.gate_expand.proofs.SoundSteps.{same_Ok, never_ok, then_ok, next_ok, passed, each_ok, all_here}
use Rattle.gate_expand.proofs.SoundProgram.{operation_is, start_sound, statements_keep}
use Rattle.gate_expand.proofs.Working.{performed_all}
use Rattle.gate_expand.proofs.Origins.{operations_come}
use Rattle.gate_expand.proofs.Pieces.{same_come}

-- an operation, and nothing beside it
record IsAlone (said : Option Op) (made : MadeValue) : Type 0 where
  pub op : Op
  pub own : said ≡ Some op
  pub ops : made.ops ≡ op ∷ []

-- ---- one operation

op_alone : (it : Op) (made now : MadeValue) → made.ops ≡ [] → with_op it made ≡ Ok now → IsAlone (Some it) now
op_alone it made now none h =
    let then : MadeValue = record { ops = made.ops ++ it ∷ []; applications = made.applications } in
    let both = next_ok (refuse_if (nat_le 10000 (length made.ops)) (TooMany Ops) >> refuse_if (nat_lt 1000000 (all_nodes (made.ops ++ it ∷ []))) (TooMany Nodes)) (Ok then) now h in
    record {
      op = it;
      own = refl;
      ops = ap (λ (m : MadeValue). m.ops) (sym (same_Ok then now both.1)) ∙ ap (λ (l : List Op). l ++ it ∷ []) none;
    }

-- ---- applications

-- the angles are those that are put
put_is : (angles : List Angle) (params : List Term) (actual : List Angle) → put_all angles params ≡ Ok actual → actual ≡ map (put angles) params
put_is angles [] actual h = sym (same_Ok [] actual h)
put_is angles (term ∷ params) actual h =
    let first = then_ok (put_small angles term) (λ (y : Angle). put_all angles params >>= λ (more : List Angle). Ok (y ∷ more)) actual h in
    let rest = then_ok (put_all angles params) (λ (more : List Angle). Ok (first.0 ∷ more)) actual first.2 in
    let one : put angles term ≡ first.0 = same_Ok (put angles term) first.0 (passed (is_large (put angles term)) AngleLarge (Ok (put angles term)) first.0 first.1).1 in
    let more : rest.0 ≡ map (put angles) params = put_is angles params rest.0 rest.1 in
    let both : (first.0 ∷ rest.0) ≡ (put angles term ∷ map (put angles) params) = (λ i. sym one i ∷ more i) in
    sym (same_Ok (first.0 ∷ rest.0) actual rest.2) ∙ both

-- a gate without a body that takes these is an operation
there_op : (condition : Option Cond) (it : Gate) (angles : List Angle) (qubits : List Qubit) (said : Option Op) → has_body it ≡ false
    → length angles ≡ param_count it → length qubits ≡ qubit_count it → 1 ≤ length qubits → op_of condition it angles qubits ≡ Ok said
    → (op : Op) × (said ≡ Some op)
there_op condition Universal (theta ∷ phi ∷ lambda ∷ []) (qubit ∷ []) said b p q some h = (op.U theta phi lambda qubit condition, sym (same_Ok _ said h))
there_op condition Universal (theta ∷ phi ∷ lambda ∷ []) [] said b p q some h = absurd (omega (arith, some))
there_op condition Universal (theta ∷ phi ∷ lambda ∷ []) (qubit ∷ other ∷ more) said b p q some h = absurd (omega (arith, q))
there_op condition Universal (theta ∷ phi ∷ lambda ∷ another ∷ more) qubits said b p q some h = absurd (omega (arith, p))
there_op condition Universal (theta ∷ phi ∷ []) qubits said b p q some h = absurd (omega (arith, p))
there_op condition Universal (theta ∷ []) qubits said b p q some h = absurd (omega (arith, p))
there_op condition Universal [] qubits said b p q some h = absurd (omega (arith, p))
there_op condition ControlledNot angles (control ∷ target ∷ []) said b p q some h = (op.Cx control target condition, sym (same_Ok _ said h))
there_op condition ControlledNot angles (control ∷ target ∷ third ∷ more) said b p q some h = absurd (omega (arith, q))
there_op condition ControlledNot angles (control ∷ []) said b p q some h = absurd (omega (arith, q))
there_op condition ControlledNot angles [] said b p q some h = absurd (omega (arith, some))
there_op condition (Opaque name params count) angles (first ∷ []) said b p q some h = (op.Opaque name angles first None condition, sym (same_Ok _ said h))
there_op condition (Opaque name params count) angles (first ∷ second ∷ []) said b p q some h = (op.Opaque name angles first (Some second) condition, sym (same_Ok _ said h))
there_op condition (Opaque name params count) angles (first ∷ second ∷ third ∷ more) said b p q some h = absurd (never_ok WideOp said h)
there_op condition (Opaque name params count) angles [] said b p q some h = absurd (omega (arith, some))
there_op condition (Body params count items) angles qubits said b p q some h = absurd (false≢true (sym b))

-- it makes that operation
gate_is_op : (condition : Option Cond) (gates : List Gate) (bound : ℕ) (it : Gate) (angles : List Angle) (qubits : List Qubit) (made : MadeValue) → has_body it ≡ false
    → gate_made (performed gates condition bound) condition it angles qubits made ≡ op_made condition it angles qubits made
gate_is_op condition gates bound (Body params count items) angles qubits made b = absurd (false≢true (sym b))
gate_is_op condition gates bound Universal angles qubits made b = refl
gate_is_op condition gates bound ControlledNot angles qubits made b = refl
gate_is_op condition gates bound (Opaque name params count) angles qubits made b = refl

module _ (gates : List Gate) (condition : Option Cond) (gate : ℕ) (params : List Term) (qubits : List Qubit) (takes : Takes gates gate (length params) (length qubits))
    (some : 1 ≤ length qubits) (without : has_body takes.gate ≡ false) where
  application_alone : (made now : MadeValue) → made.ops ≡ [] → application_made gates condition gate params qubits made ≡ Ok now
      → IsAlone (gate_op condition (slice_get gates gate) (map (put []) params) qubits) now
  application_alone made now none h =
      let one = then_ok (counted made) (λ (m : MadeValue). put_all [] params >>= λ (actual : List Angle). performed gates condition (length gates) gate actual qubits m) now h in
      let then : MadeValue = record { ops = made.ops; applications = made.applications + 1 } in
      let still : then ≡ one.0 = same_Ok then one.0 (passed (nat_le 100000 made.applications) (TooMany Applications) (Ok then) one.0 one.1).1 in
      let two = then_ok (put_all [] params) (λ (actual : List Angle). performed gates condition (length gates) gate actual qubits one.0) now one.2 in
      let angles : two.0 ≡ map (put []) params = put_is [] params two.0 two.1 in
      let steps : op_made condition takes.gate two.0 qubits one.0 ≡ Ok now =
      sym (gate_is_op condition gates gate takes.gate two.0 qubits one.0 without)
      ∙ sym (ap (λ (o : Option Gate). gate_at_made (performed gates condition gate) condition o two.0 qubits one.0) takes.there)
      ∙ sym (performed_all gates condition two.0 qubits one.0 gate) ∙ two.2 in
      let three = then_ok (op_of condition takes.gate two.0 qubits) (λ (said : Option Op). with_made said one.0) now steps in
      let counts : length two.0 ≡ length params = ap length angles ∙ length-map params (put []) in
      let there = there_op condition takes.gate two.0 qubits three.0 without (counts ∙ takes.params_fit) takes.qubits_fit some three.1 in
      let empty : one.0.ops ≡ [] = ap (λ (m : MadeValue). m.ops) (sym still) ∙ none in
      let alone = op_alone there.0 one.0 now empty (subst (λ (o : Option Op). with_made o one.0 ≡ Ok now) there.1 three.2) in
      let moved : gate_op condition (slice_get gates gate) (map (put []) params) qubits ≡ gate_op condition (Some takes.gate) two.0 qubits =
      (λ i. gate_op condition (takes.there i) (sym angles i) qubits) in
      record {
        op = there.0;
        own = moved ∙ ap said_op three.1 ∙ there.1;
        ops = alone.ops ∙ ap (λ (it : Op). it ∷ []) (same_Some alone.op there.0 (sym alone.own));
      }

-- ---- operations of the file

-- it is on one qubit at least
abbrev HasQubits : Resolved → Type 0
HasQubits (resolved.Application gate params wires times) = 1 ≤ length wires
HasQubits (resolved.Measure qubits bits creg times) = Unit {0}
HasQubits (resolved.Reset qubits times) = Unit {0}

module _ (table : Table) where
  call_has : (gate : ℕ) (exps : List Exp) (wires : List Wires) (it : Resolved) → 1 ≤ length wires → call_resolved gate exps wires ≡ Ok it → HasQubits it
  call_has gate exps wires it some h =
      let times = then_ok (times_of wires) (λ (times : ℕ). refuse_if (repeats_from 0 times wires) Repeated >> terms_of [] exps >>= λ (params : List Term). Ok (resolved.Application gate params wires times)) it h in
      let step = then_ok (refuse_if (repeats_from 0 times.0 wires) Repeated >> terms_of [] exps) (λ (params : List Term). Ok (resolved.Application gate params wires times.0)) it times.2 in
      subst HasQubits (same_Ok (resolved.Application gate step.0 wires times.0) it step.2) some

  as_many : (args : List Arg) (wires : List Wires) → all_qubits_of table args ≡ Ok wires → length wires ≡ length args
  as_many args wires h =
      (each_ok (qubits_of table) (λ (arg : Arg). Unit {0}) (λ (w : Wires). Unit {0}) (λ arg w u e. tt) args wires (λ k d l. tt) h).1

  operation_has : (said : Qop) (it : Resolved) → IsOperation said → qop_resolved table said ≡ Ok it → HasQubits it
  operation_has (qop.U exps arg) it is h =
      let step = then_ok (counts_fit (Some Universal) (length exps) 1 >> all_qubits_of table (arg ∷ [])) (call_resolved 0 exps) it h in
      let parts = next_ok (counts_fit (Some Universal) (length exps) 1) (all_qubits_of table (arg ∷ [])) step.0 step.1 in
      call_has 0 exps step.0 it (omega (arith, as_many (arg ∷ []) step.0 parts.1)) step.2
  operation_has (qop.Cx control target) it is h =
      let step = then_ok (all_qubits_of table (control ∷ target ∷ [])) (call_resolved 1 []) it h in
      call_has 1 [] step.0 it (omega (arith, as_many (control ∷ target ∷ []) step.0 step.1)) step.2
  operation_has (qop.Call name exps args) it is h =
      let named = then_ok (gate_named table name) (λ (number : ℕ). counts_fit (slice_get table.gates number) (length exps) (length args) >> all_qubits_of table args >>= call_resolved number exps) it h in
      let step = then_ok (counts_fit (slice_get table.gates named.0) (length exps) (length args) >> all_qubits_of table args) (call_resolved named.0 exps) it named.2 in
      let parts = next_ok (counts_fit (slice_get table.gates named.0) (length exps) (length args)) (all_qubits_of table args) step.0 step.1 in
      call_has named.0 exps step.0 it (omega (arith, as_many args step.0 parts.1, is.2.0)) step.2
  operation_has (qop.Measure source target) it is h =
      let first = then_ok (qubits_of table source) (λ (a : Wires). bits_of table target >>= λ (b : ℕ × Wires). measured_times a b.1 >>= λ (times : ℕ). Ok (resolved.Measure a b.1 b.0 times)) it h in
      let second = then_ok (bits_of table target) (λ (b : ℕ × Wires). measured_times first.0 b.1 >>= λ (times : ℕ). Ok (resolved.Measure first.0 b.1 b.0 times)) it first.2 in
      let third = then_ok (measured_times first.0 second.0.1) (λ (times : ℕ). Ok (resolved.Measure first.0 second.0.1 second.0.0 times)) it second.2 in
      subst HasQubits (same_Ok (resolved.Measure first.0 second.0.1 second.0.0 third.0) it third.2) tt
  operation_has (qop.Reset arg) it is h =
      let step = then_ok (qubits_of table arg) (λ (wires : Wires). Ok (reset_resolved wires)) it h in
      subst HasQubits (same_Ok (reset_resolved step.0) it step.2) (reset_has step.0)
    where
      reset_has : (wires : Wires) → HasQubits (reset_resolved wires)
      reset_has (One number) = tt
      reset_has (Each first size) = tt

operation_alone : (gates : List Gate) (condition : Option Cond) (qubits bits : ℕ) (it : Resolved) → IsResolved gates qubits bits it → HasQubits it
    → (operation_written gates condition it).body ≡ false → (index : ℕ) (now : MadeValue)
    → (operation_written gates condition it).make index nothing ≡ Ok now → IsAlone ((operation_written gates condition it).own index) now
operation_alone gates condition qubits bits (resolved.Application gate params wires times) is some without index now h =
    let width : length (map (qubit_at index) wires) ≡ length wires = length-map wires (qubit_at index) in
    let takes = subst (λ (n : ℕ). Takes gates gate (length params) n) (sym width) is.0 in
    application_alone gates condition gate params (map (qubit_at index) wires) takes (omega (arith, some, width))
    (sym (ap applies_body takes.there) ∙ without) nothing now refl h
operation_alone gates condition qubits bits (resolved.Measure from to creg times) is some without index now h =
    op_alone (op.Measure (qubit_at index from) (record { 0 = wire_at index to }) condition) nothing now refl h
operation_alone gates condition qubits bits (resolved.Reset from times) is some without index now h =
    op_alone (op.Reset (qubit_at index from) condition) nothing now refl h

-- ---- statements

-- what a statement says makes its own operation alone, where it applies no body
abbrev IsOwn : Written → Type 0
IsOwn it = it.body ≡ false → (index : ℕ) (made : MadeValue) → index < it.times → it.make index nothing ≡ Ok made → IsAlone (it.own index) made

none_own : (it : Written) → ◌≡◌ {A = Result Written Cause} (Ok no_operation) (Ok it) → IsOwn it
none_own it h = subst IsOwn (same_Ok no_operation it h) (λ without index made below makes. absurd (omega (arith, below)))

statement_own : (now : Expansion) → IsSound now → (said : Statement) (it : Written) → IsWellFormed said → written now said ≡ Ok it → IsOwn it
unfolding written
statement_own now sound (statement.Include text) it is h = none_own it h
statement_own now sound (statement.Register quantum name size) it is h = none_own it h
statement_own now sound (statement.Gate name params formals body) it is h = none_own it h
statement_own now sound (statement.Opaque name params formals) it is h = none_own it h
statement_own now sound (statement.Apply said) it is h =
    let step = then_ok (qop_resolved now.table said) (λ (it : Resolved). Ok (operation_written now.table.gates None it)) it h in
    subst IsOwn (same_Ok (operation_written now.table.gates None step.0) it step.2) (λ without index made below makes.
    operation_alone now.table.gates None (size_of now.qregs) (size_of now.cregs) step.0
    (operation_is (size_of now.qregs) (size_of now.cregs) (length now.cregs) now.table sound.names said step.0 is step.1)
    (operation_has now.table said step.0 is step.1) without index made makes)
statement_own now sound (statement.Barrier args) it is h =
    let step = then_ok (all_qubits_of now.table args) (λ (wires : List Wires). Ok (once (op.Barrier (distinct_qubits wires)))) it h in
    subst IsOwn (same_Ok (once (op.Barrier (distinct_qubits step.0))) it step.2) (λ without index made below makes.
    op_alone (op.Barrier (distinct_qubits step.0)) nothing made refl makes)
statement_own now sound (statement.If creg value said) it is h =
    let register = then_ok (creg_named now.table creg) (λ (number : ℕ). qop_resolved now.table said >>= λ (it : Resolved).
    Ok (operation_written now.table.gates (Some (record { creg = record { 0 = number }; value = value })) it)) it h in
    let condition : Option Cond = Some (record { creg = record { 0 = register.0 }; value = value }) in
    let step = then_ok (qop_resolved now.table said) (λ (it : Resolved). Ok (operation_written now.table.gates condition it)) it register.2 in
    subst IsOwn (same_Ok (operation_written now.table.gates condition step.0) it step.2) (λ without index made below makes.
    operation_alone now.table.gates condition (size_of now.qregs) (size_of now.cregs) step.0
    (operation_is (size_of now.qregs) (size_of now.cregs) (length now.cregs) now.table sound.names said step.0 is.1 step.1)
    (operation_has now.table said step.0 is.1 step.1) without index made makes)

-- ---- programs

piece_own : (program : List Placed) → AreWellFormed program → AppliesNoBody program → (piece : Piece) → IsPiece program piece → IsOwnPiece program piece
piece_own program all without piece is =
    let sound = statements_keep (take piece.statement program) start is.now
    (All-take (λ (p : Placed). IsWellFormed p.statement) piece.statement program all) start_sound is.before in
    let said = all_here (λ (p : Placed). IsWellFormed p.statement) program piece.statement is.said all is.found in
    let alone = statement_own is.now sound is.said.statement is.it said is.says (without piece is) piece.index is.made is.within is.makes in
    record { is = is; op = alone.op; own = alone.own; alone = is.whole ∙ alone.ops }

-- all pieces are
pub own_operations : (program : List Placed) (circuit : CircuitValue) → AreWellFormed program → AppliesNoBody program → expanded program ≡ Ok circuit
    → ComeFrom (IsOwnPiece program) circuit.ops
own_operations program circuit all without h =
    same_come (IsPiece program) (IsOwnPiece program) circuit.ops (operations_come program circuit h)
    (piece_own program all without) (λ piece is. is.is)
