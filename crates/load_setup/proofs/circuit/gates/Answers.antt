use Rattle.load_setup.proofs.Gates.{gates_kept, gates_done}
use Rattle.load_setup.proofs.circuit.gates.Goals as goal

pub loop-made-preserved : goal.loop-made-preserved
loop-made-preserved c =
    gates_kept c.args.count c.loop-made.made c.args.seed c.loop-made.words c.next_gate.new.words c.next_gate.result
    c.loop-made.ops.items c.push.new.self.items c.loop-made-test.true c.in_ok-push.ensures.items
    c.next_gate.ensures.gate c.next_gate.ensures.words c.loop-made.invariant

pub returns : goal.returns
returns c =
    gates_done c.args.count c.loop-made.made c.args.seed c.loop-made.words c.loop-made.ops.items c.loop-made-test.false
    c.loop-made.invariant
