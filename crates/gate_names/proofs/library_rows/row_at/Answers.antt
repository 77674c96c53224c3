use Rattle.std.proofs.Common.{arith}
use Rattle.std.proofs.lemmas.Option.{slice_get_past}
use Rattle.gate_names.specs.Library.{library}
use Rattle.gate_names.proofs.library_rows.row_at.Goals as goal

pub returns-in_default : goal.returns-in_default
returns-in_default c = slice_get_past library c.args.place (omega arith)
