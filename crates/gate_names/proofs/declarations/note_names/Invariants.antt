use Rattle.std.proofs.Common.{◌≡◌, drop}
use Rattle.gate_names.specs.Noted.{noted}
use Rattle.gate_names.proofs.declarations.note_names.Given as goal

abbrev pub invariant-loop-name : goal.invariant-loop-name
invariant-loop-name l = noted l.seen (drop l.name-index l.names) ≡ noted l.fn.seen l.names
