use Rattle.route_find.proofs.Back.{reached_back, reached_through}
use Rattle.route_find.proofs.laws.walks_lead_back.Goals as goal

pub returns-clause-back : goal.returns-clause-back
returns-clause-back c = reached_back

pub returns-clause-joined : goal.returns-clause-joined
returns-clause-joined c = reached_through
