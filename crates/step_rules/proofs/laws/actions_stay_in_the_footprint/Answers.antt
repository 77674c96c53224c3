use Rattle.step_rules.proofs.Carried.{untouched}
use Rattle.step_rules.proofs.Effects.{inside}
use Rattle.step_rules.proofs.Kept.{channel_within}
use Rattle.step_rules.proofs.laws.actions_stay_in_the_footprint.Goals as goal

pub returns-clause-elsewhere : goal.returns-clause-elsewhere
returns-clause-elsewhere c = untouched

pub returns-clause-from : goal.returns-clause-from
returns-clause-from c trap action channel e = (inside trap action channel e).from

pub returns-clause-to : goal.returns-clause-to
returns-clause-to c trap action channel e = (inside trap action channel e).to

pub returns-clause-within : goal.returns-clause-within
returns-clause-within c = channel_within
