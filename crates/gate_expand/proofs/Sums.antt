-- Sums over lists with a member more.
use Rattle.std.proofs.Common.{◌≡◌, ℕ, ◌+◌, ◌<◌, ap, List, [], ◌∷◌, ◌++◌, arith, length, Bool, true, false, Ok, Err}
use Rattle.std.specs.Prelude.{nat_le, nat_lt}
use Rattle.std.proofs.lemmas.Bool.Decides.{nat_tests}
use Rattle.gate_names.specs.declared.cause.Cause.{Cause}
use Rattle.gate_names.specs.declared.cause.Cause.TheVariants.{TooMany}
use Rattle.gate_names.specs.declared.cause.Counted.TheVariants.{Nodes}
use Rattle.gate_names.specs.Causes.{◌>>◌, refuse_if}
use Rattle.gate_expand.specs.Making.{MadeValue, with_op}
use Rattle.gate_expand.specs.Nodes.{nodes_fit}
use Rattle.circuit_core.specs.declared.circuit.Reg.{Reg}
use Rattle.circuit_core.specs.declared.op.Op.{Op}
use Rattle.circuit_core.specs.Circuit.{size_of, all_nodes, nodes_in}
use Rattle.circuit_core.specs.Op.{angles_of}

pub size_more : (regs : List Reg) (reg : Reg) → size_of (regs ++ reg ∷ []) ≡ size_of regs + reg.size
size_more [] reg = omega arith
size_more (first ∷ regs) reg = omega (arith, size_more regs reg)

pub nodes_more : (ops : List Op) (op : Op) → all_nodes (ops ++ op ∷ []) ≡ all_nodes ops + nodes_in (angles_of op)
nodes_more [] op = omega arith
nodes_more (first ∷ ops) op = omega (arith, nodes_more ops op)

too_many : (b : Bool) (cause : Cause) (nodes : ℕ) (made : MadeValue) → (refuse_if b (TooMany Nodes) >> Ok nodes) ≡ Err cause → (refuse_if b (TooMany Nodes) >> Ok made) ≡ Err cause
too_many true cause nodes made h = let same : TooMany Nodes ≡ cause = cc in ap Err same
too_many false cause nodes made h = let clash : Ok nodes ≡ Err cause = h in absurd (cc)

-- an operation with too many nodes
pub op_refused : (op : Op) (made : MadeValue) (nodes : ℕ) (cause : Cause) → length made.ops < 10000 → nodes ≡ all_nodes made.ops
    → nodes_fit (nodes + nodes_in (angles_of op)) ≡ Err cause → with_op op made ≡ Err cause
op_refused op made nodes cause few is h =
    let below : nat_le 10000 (length made.ops) ≡ false = grind (arith, nat_tests) in
    let sum : all_nodes (made.ops ++ op ∷ []) ≡ nodes + nodes_in (angles_of op) = omega (arith, nodes_more made.ops op) in
    rw (below, sum) (too_many (nat_lt 1000000 (nodes + nodes_in (angles_of op))) cause (nodes + nodes_in (angles_of op)) (record { ops = made.ops ++ op ∷ []; applications = made.applications }) h)
