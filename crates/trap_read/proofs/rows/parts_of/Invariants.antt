use Rattle.std.proofs.Common.{◌≡◌, drop}
use Rattle.toml.specs.View.{items_view}
use Rattle.trap_read.specs.Rows.{rows_from, with_front}
use Rattle.trap_read.proofs.rows.parts_of.Given as goal

abbrev pub invariant-loop-index : goal.invariant-loop-index
invariant-loop-index g l = with_front l.parts.items (rows_from g.P.Part.part_of l.section l.index (items_view (drop l.index l.rows))) ≡ rows_from g.P.Part.part_of l.section 0 (items_view l.rows)
