use Rattle.std.proofs.Common.{◌≡◌, ℕ, ◌<◌, Some}
use Rattle.std.specs.Prelude.{slice_get}
use Rattle.qc_base.specs.declared.ids.OpId.{OpId}
use Rattle.greedy_router.specs.Serial.{IsTogether}
use Rattle.greedy_router.proofs.router.together.Given as goal

-- no operation before this one is together
abbrev pub invariant-loop-op : goal.invariant-loop-op
invariant-loop-op l = (k : ℕ) (op : OpId) → k < l.op-index → slice_get l.ready k ≡ Some op → (zone : ℕ) → ¬ IsTogether l.map.setting l.traffic.played.config.lists zone op.0
