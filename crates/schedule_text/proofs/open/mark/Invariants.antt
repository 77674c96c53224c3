use Rattle.std.proofs.Common.{◌≡◌, ◌++◌, List, length, take}
use Rattle.qc_base.specs.declared.ids.Qubit.{Qubit}
use Rattle.schedule_text.specs.ZoneLists.{AreMarked}
use Rattle.schedule_text.proofs.open.mark.Given as goal

-- all so far are marked, and none of them was before
abbrev pub invariant-loop-qubit : goal.invariant-loop-qubit
invariant-loop-qubit l = record {
  len : length l.flags.items ≡ length l.initial.flags.items;
  marked : (before : List Qubit) → AreMarked l.initial.flags.items before → AreMarked l.flags.items (before ++ take l.qubit-index l.list);
}
