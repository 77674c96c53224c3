use Rattle.std.proofs.Common.{ℕ, ◌<◌, length}
use Rattle.std.proofs.lemmas.Bool.{some_since}
use Rattle.qc_base.specs.declared.ids.PlaceId.{PlaceId}
use Rattle.greedy_router.specs.Places.{HasFree}
use Rattle.greedy_router.proofs.Gathering.{roomy_somewhere}
use Rattle.greedy_router.proofs.traffic.Traffic.send.Goals as goal

pub unwrap-to-requires : goal.unwrap-to-requires
unwrap-to-requires c =
    some_since c.nearest_roomy.result
    ((zone : ℕ) → zone < length c.args.map.now.setting.trap.zones → ¬ HasFree c.args.map.now.setting.trap c.args.self.now.played.config.lists 3 zone)
    (λ (zone : PlaceId). (zone.0 < length c.args.map.now.setting.trap.zones) × HasFree c.args.map.now.setting.trap c.args.self.now.played.config.lists 3 zone.0) c.nearest_roomy.ensures
    (roomy_somewhere c.args.map.now.setting c.args.self.now c.args.zone.0 c.requires.traffic c.requires.zone c.requires.tight)
