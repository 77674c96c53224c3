use Rattle.std.proofs.Common.{◌≡◌, ◌+◌, ◌≤◌, drop}
use Rattle.circuit_core.specs.Circuit.{nodes_in}
use Rattle.gate_expand.proofs.made.add_nodes.Given as goal

-- the nodes so far and those of the rest
abbrev pub invariant-loop-angle : goal.invariant-loop-angle
invariant-loop-angle l =
    (l.nodes + nodes_in (drop l.angle-index l.angles) ≡ l.fn.nodes + nodes_in l.angles) × (l.nodes ≤ 1000000)
