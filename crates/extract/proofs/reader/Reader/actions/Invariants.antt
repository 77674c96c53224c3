use Rattle.std.proofs.Common.{◌≡◌, ◌++◌, map, drop}
use Rattle.extract.specs.Reading.{seen, actions_in}
use Rattle.extract.proofs.reader.Reader.actions.Given as goal

abbrev pub invariant-loop-activity : goal.invariant-loop-activity
invariant-loop-activity l =
    l.actions.items ++ actions_in l.self (map seen (drop l.activity-index l.activities))
    ≡ actions_in l.self (map seen l.activities)
