use Rattle.std.proofs.Common.{◌≡◌, drop}
use Rattle.gate_names.specs.Causes.{after}
use Rattle.gate_names.specs.Declarations.{positions_of}
use Rattle.gate_names.proofs.declarations.positions_of.Given as goal

abbrev pub invariant-loop-name : goal.invariant-loop-name
invariant-loop-name l = after l.positions.items (positions_of l.formals (drop l.name-index l.names)) ≡ positions_of l.formals l.names
