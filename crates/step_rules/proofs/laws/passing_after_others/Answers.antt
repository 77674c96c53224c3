use Rattle.step_rules.proofs.Carried.{still_passes, carried, carried_transport, transport_of}
use Rattle.step_rules.proofs.laws.passing_after_others.Goals as goal

pub returns-clause-one : goal.returns-clause-one
returns-clause-one c = still_passes

pub returns-clause-several : goal.returns-clause-several
returns-clause-several c = carried

pub returns-clause-transport : goal.returns-clause-transport
returns-clause-transport c = carried_transport

pub returns-clause-part : goal.returns-clause-part
returns-clause-part c = transport_of
