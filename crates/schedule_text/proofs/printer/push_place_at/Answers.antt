use Rattle.std.proofs.Common.{List, ℕ, ◌++◌, ap, arith}
use Rattle.schedule_text.proofs.PlaceLines.{no_line}
use Rattle.schedule_text.proofs.printer.push_place_at.Goals as goal

pub returns-then-k-lists : goal.returns-then-k-lists
returns-then-k-lists c = ap (λ (t : List ℕ). c.args.out.now.items ++ t) (no_line c.args.circuit.now c.args.zones.now c.args.lists.now c.args.k (omega arith))
