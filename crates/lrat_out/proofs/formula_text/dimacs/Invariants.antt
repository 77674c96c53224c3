use Rattle.std.proofs.Common.{◌≡◌, ◌++◌, length, take}
use Rattle.std.specs.List.{flat_map}
use Rattle.lrat_out.specs.Dimacs.{clause_text, problem_text}
use Rattle.lrat_out.proofs.formula_text.dimacs.Given as goal

abbrev pub invariant-loop-k : goal.invariant-loop-k
invariant-loop-k l = l.out.items ≡ problem_text l.vars (length l.formula) ++ flat_map clause_text (take l.k l.formula)
