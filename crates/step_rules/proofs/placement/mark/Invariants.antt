use Rattle.std.proofs.Common.{◌≡◌, ◌++◌, List, length, take, drop}
use Rattle.qc_base.specs.declared.ids.Qubit.{Qubit}
use Rattle.step_rules.specs.Placement.{first_repeated}
use Rattle.step_rules.specs.Flags.{AreFlags}
use Rattle.step_rules.proofs.placement.mark.Given as goal

-- none so far was marked before, and all so far are marked
abbrev pub invariant-loop-qubit : goal.invariant-loop-qubit
invariant-loop-qubit l = record {
  len : length l.flags.items ≡ length l.initial.flags.items;
  so_far : (before : List Qubit) → AreFlags l.initial.flags.items before → first_repeated before l.list ≡ first_repeated (before ++ take l.qubit-index l.list) (drop l.qubit-index l.list);
  marked : (before : List Qubit) → AreFlags l.initial.flags.items before → AreFlags l.flags.items (before ++ take l.qubit-index l.list);
}
