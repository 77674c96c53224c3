use Rattle.std.proofs.Common.{refl}
use Rattle.greedy_router.proofs.Travelling.{performs}
use Rattle.greedy_router.proofs.played.Played.perform.Goals as goal

pub returns : goal.returns
returns c =
    performs c.args.setting.now c.args.self.now (record { config = c.args.self.now.config; actions = c.push.new.self }) c.args.zone c.args.op c.requires.played c.requires.next c.in_ok-push.ensures.items refl
