use Rattle.std.proofs.Common.{take}
use Rattle.sat_base.specs.LitSet.{AddsOthers}
use Rattle.sat_base.proofs.lit_set.LitSet.add_others.Given as goal

abbrev pub invariant-loop-lit : goal.invariant-loop-lit
invariant-loop-lit l = AddsOthers l.fn.self (take l.lit-index l.clause) l.but l.self
