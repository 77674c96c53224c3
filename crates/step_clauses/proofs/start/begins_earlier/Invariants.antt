use Rattle.std.proofs.Common.{◌≡◌, drop}
use Rattle.std.specs.List.{list_any}
use Rattle.step_vars.specs.Lists.{is_before}
use Rattle.step_clauses.proofs.start.begins_earlier.Given as goal

abbrev pub invariant-loop-place : goal.invariant-loop-place
invariant-loop-place l = list_any (is_before l.first l.second) l.config.lists ≡ list_any (is_before l.first l.second) (drop l.place l.config.lists)
