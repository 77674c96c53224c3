use Rattle.std.proofs.Common.{List, sym, subst}
use Rattle.qc_base.specs.declared.ids.Ion.{Ion}
use Rattle.greedy_router.specs.Places.{AreHomes, IsCalm, AllHaveFree}
use Rattle.greedy_router.proofs.Beginning.{calm_start, free_start}
use Rattle.greedy_router.proofs.traffic.Traffic.start.Goals as goal

pub returns-clause-traffic : goal.returns-clause-traffic
returns-clause-traffic c = record {
  played = c.in_ok-start.ensures.played;
  homes = subst (λ (lists : List (List Ion)). AreHomes c.args.setting.now.trap lists c.in_ok-homes.field-0.items) (sym c.in_ok-start.ensures.lists) c.in_ok-homes.ensures.homes;
  calm = subst (λ (lists : List (List Ion)). IsCalm c.args.setting.now.trap lists) (sym c.in_ok-start.ensures.lists) (calm_start c.args.setting.now c.requires.placed c.requires.room);
  len = c.in_ok-homes.ensures.len;
}

pub returns-clause-free : goal.returns-clause-free
returns-clause-free c =
    subst (λ (lists : List (List Ion)). AllHaveFree c.args.setting.now.trap lists 2) (sym c.in_ok-start.ensures.lists) (free_start c.args.setting.now c.requires.placed c.requires.room)
