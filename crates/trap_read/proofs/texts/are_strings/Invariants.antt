use Rattle.std.proofs.Common.{◌≡◌, drop}
use Rattle.toml.specs.View.{items_view}
use Rattle.trap_read.specs.Keys.{all_items, is_string}
use Rattle.trap_read.proofs.texts.are_strings.Given as goal

abbrev pub invariant-loop-value : goal.invariant-loop-value
invariant-loop-value l = all_items is_string (items_view (drop l.value-index l.values)) ≡ all_items is_string (items_view l.values)
