use Rattle.std.proofs.Common.{subst}
use Rattle.step_rules.specs.Setting.{SettingValue, setting_of}
use Rattle.greedy_router.specs.Traffic.{Ends}
use Rattle.greedy_router.proofs.Whole.{whole_plays, whole_greedy}
use Rattle.greedy_router.proofs.router.serial.Goals as goal

pub returns-clause-plays : goal.returns-clause-plays
returns-clause-plays c =
    let setting : SettingValue = setting_of c.args.trap.now c.args.circuit.now c.args.placement.now in
    let ends : Ends setting c.perform_all.new.traffic = subst (λ (s : SettingValue). Ends s c.perform_all.new.traffic) c.in_ok-map.ensures.setting c.in_ok-perform_all.ensures in
    whole_plays setting c.perform_all.new.traffic.played.actions.items ends.sound.played.sound ends.all

pub returns-clause-greedy : goal.returns-clause-greedy
returns-clause-greedy c =
    let setting : SettingValue = setting_of c.args.trap.now c.args.circuit.now c.args.placement.now in
    let ends : Ends setting c.perform_all.new.traffic = subst (λ (s : SettingValue). Ends s c.perform_all.new.traffic) c.in_ok-map.ensures.setting c.in_ok-perform_all.ensures in
    whole_greedy setting c.perform_all.new.traffic.played.actions.items ends.sound.played.sound ends.all
