use Rattle.std.proofs.Common.{◌≡◌, ◌++◌, map, length, ap, subst, ◌∙◌, arith}
use Rattle.trap_parts.specs.Build.{IsTrap}
use Rattle.trap_parts.specs.Parts.{TrapValue}
use Rattle.trap_model.specs.Channels.{channels_of}
use Rattle.trap_model.proofs.Count.{few_channels}
use Rattle.step_rules.specs.Setting.{SettingValue}
use Rattle.extract.specs.Reading.{seen, passages_from}
use Rattle.extract.proofs.Listed.{pairs_are, ops_are, all_listed, listed_there}
use Rattle.extract.proofs.activities.activities.Goals as goal

pub add_passages-requires : goal.add_passages-requires
add_passages-requires c =
    let few = few_channels c.setting.inside.trap.now c.channels.ensures.trap in
    omega (arith, ap length c.channels.ensures.channels, few)

pub returns-clause-all : goal.returns-clause-all
returns-clause-all c =
    let setting : SettingValue = c.args.setting.now in
    let same : c.setting.inside.trap.now ≡ setting.trap = ap (λ (s : SettingValue). s.trap) c.setting.view_is in
    let channels = c.channels.result.now in
    all_listed setting channels c.pairs.result.now c.ops.result.now (length c.zones.result.now) _ _ _
    (c.channels.ensures.channels ∙ ap channels_of same)
    (c.pairs.ensures ∙ pairs_are c.args.vars.now setting c.requires)
    (c.ops.ensures ∙ ops_are c.args.vars.now setting c.requires)
    (ap length c.zones.ensures.zones ∙ ap (λ (t : TrapValue). length t.zones) same)
    (c.in_ok-add_passages.ensures ∙ ap (λ xs. map seen xs ++ passages_from 0 channels) c.new-out.ensures.items)
    c.in_ok-add_exchanges.ensures c.in_ok-add_operations.ensures

pub returns-clause-there : goal.returns-clause-there
returns-clause-there c =
    let setting : SettingValue = c.args.setting.now in
    let same : c.setting.inside.trap.now ≡ setting.trap = ap (λ (s : SettingValue). s.trap) c.setting.view_is in
    listed_there setting _ (subst IsTrap same c.channels.ensures.trap) (returns-clause-all c)
