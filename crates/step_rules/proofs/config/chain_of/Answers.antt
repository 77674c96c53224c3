use Rattle.std.proofs.Common.{ap, length, arith, ◌+◌, ◌∷◌, [], length-append}
use Rattle.ion_chain.specs.ChainValue.{ions_of}
use Rattle.step_rules.specs.Placement.{ions_from}
use Rattle.step_rules.proofs.Ions.{one_more_ion}
use Rattle.step_rules.proofs.config.chain_of.Goals as goal

pub loop-k-preserved : goal.loop-k-preserved
loop-k-preserved c = record {
  made = one_more_ion c.args.first c.loop-k.k c.args.qubits.now (ions_of c.loop-k.chain) (ions_of c.add.new.self) (ions_from c.args.first c.args.qubits.now) (record { 0 = 0 }) c.loop-k-test.true c.add.ensures.ions c.loop-k.invariant.made;
  count = omega (arith, ap length c.add.ensures.ions, length-append c.loop-k.chain.ions (record { 0 = c.args.first + c.loop-k.k } ∷ []), c.loop-k.invariant.count);
  room = omega (arith, c.add.ensures.room, c.loop-k.invariant.room);
}
