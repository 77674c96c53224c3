use Rattle.std.proofs.Common.{◌≡◌, ◌++◌, drop}
use Rattle.std.specs.List.{flat_map}
use Rattle.encoding_dimacs.specs.Dimacs.{clause_text, dimacs_text}
use Rattle.encoding_dimacs.proofs.text.text_of.Given as goal

abbrev pub invariant-loop-k : goal.invariant-loop-k
invariant-loop-k l = l.text.items ++ flat_map clause_text (drop l.k l.formula) ≡ dimacs_text l.vars l.formula
