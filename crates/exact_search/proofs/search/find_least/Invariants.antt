use Rattle.exact_search.specs.Searching.{HasRefuted}
use Rattle.exact_search.proofs.search.find_least.Given as goal

-- each bound below this one is refuted
abbrev pub invariant-loop-bound : goal.invariant-loop-bound
invariant-loop-bound l = HasRefuted l.task l.bound l.search.solver l.search.shown
