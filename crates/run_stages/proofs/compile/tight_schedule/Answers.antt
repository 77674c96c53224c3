use Rattle.std.proofs.Common.{List, subst, sym}
use Rattle.step_rules.specs.declared.action.Action.{Action}
use Rattle.step_rules.specs.Setting.{SettingValue, setting_of}
use Rattle.step_rules.specs.Placement.{IsPlacement}
use Rattle.step_rules.specs.Play.{Plays, one_at_a_time}
use Rattle.step_rules.specs.Tight.{IsTight}
use Rattle.greedy_router.specs.Room.{HasRoom}
use Rattle.greedy_router.specs.Serial.{IsGreedy}
use Rattle.compact.specs.Tightened.{IsSerial, IsRearranged}
use Rattle.compact.proofs.Playing.{serial_of}
use Rattle.run_stages.proofs.compile.tight_schedule.Goals as goal

pub serial-requires-clause-placed : goal.serial-requires-clause-placed
serial-requires-clause-placed c = subst (λ (s : SettingValue). IsPlacement s.trap s.circuit s.placement) (sym c.setting.view_is) c.requires.placed

pub serial-requires-clause-room : goal.serial-requires-clause-room
serial-requires-clause-room c = subst HasRoom (sym c.setting.view_is) c.requires.room

pub tighten-requires : goal.tighten-requires
tighten-requires c =
    let setting : SettingValue = setting_of c.setting.inside.trap.now c.setting.inside.circuit.now c.setting.inside.placement.now in
    subst (λ (actions : List Action). IsSerial setting actions) (sym c.as_slice.ensures.value)
    (serial_of setting c.in_ok-actions.actions.items c.in_ok-actions.ensures.plays)

pub returns-clause-plays : goal.returns-clause-plays
returns-clause-plays c =
    let setting : SettingValue = setting_of c.setting.inside.trap.now c.setting.inside.circuit.now c.setting.inside.placement.now in
    let plays : Plays setting c.in_ok-schedule.schedule =
    c.in_ok-schedule.ensures.plays (subst (λ (actions : List Action). Plays setting (one_at_a_time actions)) (sym c.as_slice.ensures.value) c.in_ok-actions.ensures.plays) in
    subst (λ (s : SettingValue). Plays s c.in_ok-schedule.schedule) c.setting.view_is plays

pub returns-clause-tight : goal.returns-clause-tight
returns-clause-tight c = subst (λ (s : SettingValue). IsTight s c.in_ok-schedule.schedule) c.setting.view_is c.in_ok-schedule.ensures.tight

pub returns-clause-routed : goal.returns-clause-routed
returns-clause-routed c =
    let setting : SettingValue = setting_of c.setting.inside.trap.now c.setting.inside.circuit.now c.setting.inside.placement.now in
    let rearranged : IsRearranged setting c.in_ok-actions.actions.items c.in_ok-schedule.schedule =
    subst (λ (actions : List Action). IsRearranged setting actions c.in_ok-schedule.schedule) c.as_slice.ensures.value c.in_ok-schedule.ensures.same in
    record {
      actions = c.in_ok-actions.actions.items;
      plays = subst (λ (s : SettingValue). Plays s (one_at_a_time c.in_ok-actions.actions.items)) c.setting.view_is c.in_ok-actions.ensures.plays;
      greedy = subst (λ (s : SettingValue). IsGreedy s c.in_ok-actions.actions.items) c.setting.view_is c.in_ok-actions.ensures.greedy;
      single = c.in_ok-actions.ensures.single;
      rearranged = subst (λ (s : SettingValue). IsRearranged s c.in_ok-actions.actions.items c.in_ok-schedule.schedule) c.setting.view_is rearranged;
    }
