use Rattle.std.proofs.Common.{◌≡◌, ◌++◌, drop}
use Rattle.toml.specs.View.{items_view}
use Rattle.trap_read.specs.Keys.{strings_of}
use Rattle.trap_read.proofs.texts.strings_of.Given as goal

abbrev pub invariant-loop-value : goal.invariant-loop-value
invariant-loop-value l = l.texts.items ++ strings_of (items_view (drop l.value-index l.values)) ≡ strings_of (items_view l.values)
