use Rattle.std.proofs.Common.{◌≡◌, ap}
use Rattle.std.proofs.lemmas.Result.{on_ok_weaker}
use Rattle.step_rules.specs.Setting.{SettingValue}
use Rattle.greedy_router.proofs.Carrying.{IsSet, takes_through, split_there, split_present, set_brought, set_at_once, set_passes, went}
use Rattle.greedy_router.proofs.travel.pass.Goals.{in-Split+in_ok-bring, in_default}
use Rattle.greedy_router.proofs.travel.pass.Goals as goal

pub bring-requires-clause-zone : goal.bring-requires-clause-zone
bring-requires-clause-zone c =
    let trap : c.setting.inside.trap.now ≡ c.args.setting.now.trap = ap (λ (s : SettingValue). s.trap) c.setting.view_is in
    split_there c.args.setting.now c.args.played.now.config.lists c.args.ion.0 c.args.number c.in-Split.count c.in-Split.zone c.in-Split.end
    (takes_through c.args.setting.now c.setting.inside.trap.now c.args.played.now.config.lists c.args.ion.0 c.args.number _ trap c.requires.there c.requires.free c.in-Split.ensures.channel c.in-Split.ensures.single)

pub bring-requires-clause-present : goal.bring-requires-clause-present
bring-requires-clause-present c =
    let trap : c.setting.inside.trap.now ≡ c.args.setting.now.trap = ap (λ (s : SettingValue). s.trap) c.setting.view_is in
    split_present c.args.setting.now c.args.played.now.config.lists c.args.ion.0 c.args.number c.in-Split.count c.in-Split.zone c.in-Split.end
    (takes_through c.args.setting.now c.setting.inside.trap.now c.args.played.now.config.lists c.args.ion.0 c.args.number _ trap c.requires.there c.requires.free c.in-Split.ensures.channel c.in-Split.ensures.single)

pub act-requires-clause-passes : goal.act-requires-clause-passes
act-requires-clause-passes c =
    let trap : c.setting.inside.trap.now ≡ c.args.setting.now.trap = ap (λ (s : SettingValue). s.trap) c.setting.view_is in
    let set : IsSet c.args.setting.now c.args.played.now c.match-action.played c.args.ion c.args.number c.match-action.action = elim c.match-action.branch [
      | in-Split+in_ok-bring w ↦ set_brought c.args.setting.now c.args.played.now w.bring.new.played c.match-action.played c.args.ion c.args.number w.in-Split.count w.in-Split.zone w.in-Split.end c.match-action.action w.played-is w.action-is
          (takes_through c.args.setting.now c.setting.inside.trap.now c.args.played.now.config.lists c.args.ion.0 c.args.number _ trap c.requires.there c.requires.free w.in-Split.ensures.channel w.in-Split.ensures.single)
          w.in_ok-bring.ensures
      | in_default w ↦ set_at_once c.args.setting.now c.args.played.now c.match-action.played c.args.ion c.args.number c.action_through-action.result c.match-action.action c.requires.trap c.requires.played c.requires.travels
          w.played-is w.action-is w.in_default.not-Split
          (takes_through c.args.setting.now c.setting.inside.trap.now c.args.played.now.config.lists c.args.ion.0 c.args.number _ trap c.requires.there c.requires.free c.action_through-action.ensures.channel
          c.action_through-action.ensures.single)
    ] in
    set_passes c.args.setting.now c.args.played.now c.match-action.played c.args.ion c.args.number c.match-action.action c.requires.trap set

pub returns : goal.returns
returns c =
    let trap : c.setting.inside.trap.now ≡ c.args.setting.now.trap = ap (λ (s : SettingValue). s.trap) c.setting.view_is in
    let set : IsSet c.args.setting.now c.args.played.now c.match-action.played c.args.ion c.args.number c.match-action.action = elim c.match-action.branch [
      | in-Split+in_ok-bring w ↦ set_brought c.args.setting.now c.args.played.now w.bring.new.played c.match-action.played c.args.ion c.args.number w.in-Split.count w.in-Split.zone w.in-Split.end c.match-action.action w.played-is w.action-is
          (takes_through c.args.setting.now c.setting.inside.trap.now c.args.played.now.config.lists c.args.ion.0 c.args.number _ trap c.requires.there c.requires.free w.in-Split.ensures.channel w.in-Split.ensures.single)
          w.in_ok-bring.ensures
      | in_default w ↦ set_at_once c.args.setting.now c.args.played.now c.match-action.played c.args.ion c.args.number c.action_through-action.result c.match-action.action c.requires.trap c.requires.played c.requires.travels
          w.played-is w.action-is w.in_default.not-Split
          (takes_through c.args.setting.now c.setting.inside.trap.now c.args.played.now.config.lists c.args.ion.0 c.args.number _ trap c.requires.there c.requires.free c.action_through-action.ensures.channel
          c.action_through-action.ensures.single)
    ] in
    on_ok_weaker c.act.result (went c.args.setting.now c.args.played.now c.match-action.played c.act.new.self c.args.ion c.args.number c.match-action.action c.requires.trap set) c.act.ensures
