use Rattle.std.proofs.Common.{◌≡◌, drop}
use Rattle.gate_names.specs.Causes.{each, after}
use Rattle.gate_names.specs.Terms.{term_of}
use Rattle.gate_names.proofs.term.terms_of.Given as goal

abbrev pub invariant-loop-exp : goal.invariant-loop-exp
invariant-loop-exp l = after l.terms.items (each (term_of l.params) (drop l.exp-index l.exps)) ≡ each (term_of l.params) l.exps
