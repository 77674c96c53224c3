use Rattle.watch_lists.proofs.Kept.{once_seen}
use Rattle.watch_lists.proofs.chains.Chains.occur_once.Goals as goal

pub returns : goal.returns
returns c = once_seen c.self.inside.heads c.self.inside.followers c.self.invariant c.args.self.now c.self.view_is
