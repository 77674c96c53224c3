use Rattle.std.proofs.Common.{◌≡◌, ◌==◌, drop}
use Rattle.std.specs.List.{list_any}
use Rattle.gate_names.proofs.declarations.contains.Given as goal

abbrev pub invariant-loop-other : goal.invariant-loop-other
invariant-loop-other l =
    list_any (λ other. l.k == other) (drop l.other-index l.positions) ≡ list_any (λ other. l.k == other) l.positions
