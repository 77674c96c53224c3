use Rattle.qc_base.specs.declared.ids.PlaceId.{PlaceId}
use Rattle.std.proofs.lemmas.Option.{MatchOption-at_some}
use Rattle.step_rules.specs.Setting.{SettingValue, setting_of}
use Rattle.greedy_router.specs.Room.{AreReached, IsApart, IsLeast}
use Rattle.greedy_router.proofs.Rounds.{first_apart}
use Rattle.greedy_router.proofs.has_room.room.Goals as goal

pub returns-in-Some-2 : goal.returns-in-Some-2
returns-in-Some-2 c =
    let setting : SettingValue = setting_of c.args.trap.now c.args.circuit.now c.args.placement.now in
    first_apart setting c.in-Some-2.zone c.in_default.ensures
    (MatchOption-at_some (AreReached setting) (λ (zone : PlaceId). IsLeast (IsApart setting) zone.0) c.in-Some-2.zone c.in-Some-2.is c.in_ok-zone.ensures)
