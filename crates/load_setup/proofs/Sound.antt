-- The trap of each load is one, and so is each circuit.
use Rattle.std.proofs.Common.{◌≡◌, ◌≢◌, ℕ, ◌+◌, ◌<◌, ◌≤◌, List, [], ◌∷◌, ◌++◌, length, All, Bool, true, false, IsTrue, ◌&&◌, rules, lit≤, Result, Ok, Err, refl, sym, ◌∙◌, subst, Some, slice_get}
use Rattle.std.specs.List.{list_all}
use Rattle.std.proofs.lemmas.List.Elements.{All-nil, All-cons}
use Rattle.circuit_core.specs.declared.circuit.Reg.{Reg}
use Rattle.circuit_core.specs.declared.op.Op.{Op}
use Rattle.circuit_core.specs.Op.{IsOp}
use Rattle.circuit_core.specs.Circuit.{CircuitValue, IsCircuit, IsRegister, all_nodes}
use Rattle.trap_parts.specs.declared.fault.TrapFault.{TrapFault}
use Rattle.trap_parts.specs.Names.{is_name}
use Rattle.trap_parts.specs.Parts.{TrapValue, names_of}
use Rattle.trap_parts.specs.Build.{build_of, parts_pass, joins_from, join_of, AreNames}
use Rattle.load_setup.specs.Setup.{gates_from, sixty_qubits, generated_trap, generated_circuit}
use Rattle.load_setup.proofs.Gates.{length-gates, nodes-gates, are_gates}

pub generated_is_built : build_of generated_trap ≡ Ok generated_trap
unfolding build_of parts_pass joins_from join_of
generated_is_built = refl

both : (a b : Bool) → IsTrue (a && b) → IsTrue a × IsTrue b
both true b h = (refl, h)
both false b h = (h, let e : false ≡ true = h in cc)

all_names : (names : List (List ℕ)) → IsTrue (list_all is_name names) → AreNames names
all_names [] h = All-nil (λ name. IsTrue (is_name name))
all_names (name ∷ names) h =
    let each = both (is_name name) (list_all is_name names) h in All-cons (λ name. IsTrue (is_name name)) name names each.0 (all_names names each.1)

-- the names of its parts have the form of one
pub names_are_names : (trap : TrapValue) → trap ≡ generated_trap → AreNames (names_of trap)
names_are_names trap e = rw e (all_names (names_of generated_trap) refl)

pub built_is_generated : (parts trap : TrapValue) → parts ≡ generated_trap → build_of parts ≡ Ok trap → trap ≡ generated_trap
built_is_generated parts trap e built =
    let said : build_of generated_trap ≡ Ok trap = rw (sym e) built in
    let same : Ok trap ≡ Ok generated_trap = sym said ∙ generated_is_built in cc

circuit_with : (ops : List Op) → All (IsOp 60 0 0) ops → length ops ≤ 10000 → all_nodes ops ≤ 1000000
    → IsCircuit (record { qregs = sixty_qubits ∷ []; cregs = []; ops = ops })
circuit_with ops are few nodes = record {
  registers = All-cons IsRegister sixty_qubits [] (record { some = lit≤ tt; name = refl }) (All-nil IsRegister);
  names = search rules;
  qubits = lit≤ tt;
  bits = lit≤ tt;
  few = few;
  ops = are;
  nodes = nodes;
}

-- the circuit of a seed is one
pub generated_is_circuit : (seed : ℕ) → IsCircuit (generated_circuit seed)
generated_is_circuit seed =
    let few : length (gates_from 2000 seed) ≤ 10000 = rw (length-gates 2000 seed) (lit≤ tt) in
    let nodes : all_nodes (gates_from 2000 seed) ≤ 1000000 = rw (nodes-gates 2000 seed) (lit≤ tt) in
    circuit_with (gates_from 2000 seed) (are_gates 2000 seed) few nodes

pub parts_are_circuit : (seed : ℕ) (qregs cregs : List Reg) (ops : List Op) → qregs ≡ sixty_qubits ∷ [] → cregs ≡ []
    → ops ≡ gates_from 2000 seed → IsCircuit (record { qregs = qregs; cregs = cregs; ops = ops })
parts_are_circuit seed qregs cregs ops q c o = rw (q, c, o) (generated_is_circuit seed)
