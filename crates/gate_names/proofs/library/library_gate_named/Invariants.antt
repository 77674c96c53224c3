use Rattle.std.proofs.Common.{◌≡◌, drop}
use Rattle.gate_names.specs.Library.{library_names}
use Rattle.gate_names.specs.Terms.{position_from, position_of}
use Rattle.gate_names.proofs.library.library_gate_named.Given as goal

abbrev pub invariant-loop-place : goal.invariant-loop-place
invariant-loop-place l = position_from l.place (drop l.place library_names) l.name ≡ position_of library_names l.name
