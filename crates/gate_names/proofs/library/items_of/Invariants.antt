use Rattle.std.proofs.Common.{◌≡◌, map, take}
use Rattle.gate_names.specs.LibraryRows.{item_of}
use Rattle.gate_names.proofs.library.items_of.Given as goal

abbrev pub invariant-loop-call : goal.invariant-loop-call
invariant-loop-call l = l.items.items ≡ map item_of (take l.call-index l.calls)
