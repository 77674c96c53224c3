use Rattle.std.proofs.Common.{take}
use Rattle.sat_base.specs.LitSet.{AddsAll}
use Rattle.sat_base.proofs.lit_set.LitSet.add_all.Given as goal

abbrev pub invariant-loop-lit : goal.invariant-loop-lit
invariant-loop-lit l = AddsAll l.fn.self (take l.lit-index l.clause) l.self
