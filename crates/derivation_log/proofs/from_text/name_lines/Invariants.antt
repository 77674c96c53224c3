use Rattle.std.proofs.Common.{◌≡◌, map, take}
use Rattle.derivation_log.specs.Reading.{id_of}
use Rattle.derivation_log.proofs.from_text.name_lines.Given as goal

abbrev pub invariant-loop-number : goal.invariant-loop-number
invariant-loop-number l = l.ids.items ≡ map (id_of l.axioms) (take l.number-index l.numbers)
