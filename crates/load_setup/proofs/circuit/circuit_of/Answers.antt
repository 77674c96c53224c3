use Rattle.load_setup.proofs.Sound.{parts_are_circuit}
use Rattle.load_setup.proofs.circuit.circuit_of.Goals as goal

pub new-requires-2 : goal.new-requires-2
new-requires-2 c =
    parts_are_circuit c.args.seed c.in_ok-qregs.qregs.items c.new.result.items c.in_ok-ops.ops.items
    c.in_ok-qregs.ensures c.new.ensures.items c.in_ok-ops.ensures
