-- An action still passes its guards after others that work on nothing it works on.
use Rattle.std.proofs.Common.{◌≡◌, Bool, ℕ, ◌+◌, List, [], ◌∷◌, Some, None, refl, sym, ap, subst, ◌∙◌, arith}
use Rattle.std.specs.Prelude.{All, Contains, Option, swap}
use Rattle.std.specs.Option.{option_map_or}
use Rattle.std.proofs.lemmas.List.{get_or-set_other}
use Rattle.std.proofs.lemmas.List.Elements.{All-head, All-tail}
use Rattle.qc_base.specs.declared.ids.Ion.{Ion}
use Rattle.circuit_core.specs.Order.{is_performed}
use Rattle.trap_parts.specs.Parts.{TrapValue}
use Rattle.trap_model.specs.Trap.{is_zone}
use Rattle.trap_model.specs.Channels.{split_channel, move_channel, cross_channel, merge_channel}
use Rattle.trap_model.specs.declared.channel.Channel.{Channel}
use Rattle.ion_chain.specs.Transfer.{list_at}
use Rattle.ion_chain.proofs.Transfers.{list_at-after_transfer}
use Rattle.step_rules.specs.declared.action.Action.{Action}
use Rattle.step_rules.specs.declared.action.Action.TheVariants as actions
use Rattle.step_rules.specs.Setting.{SettingValue}
use Rattle.step_rules.specs.ActionChannel.{passing, transfer, source, target}
use Rattle.step_rules.specs.Steps.{Spot, place, footprint, Agree, AreApart, after, after_passing, after_step}
use Rattle.step_rules.specs.Guards.{Guard, Passes, PassesTransport, guard, first_broken, guards, transport_guards, is_able_for, are_among}
use Rattle.step_rules.specs.declared.action.Rule.TheVariants.{NoPlace, NotOp, NotAble, Absent}
use Rattle.step_rules.proofs.Effects.{Inside, inside}

-- ---- an action leaves the places that it doesn't work on

untouched_through : (config : List (List Ion)) (action : Action) (spots : List Spot) (channel : Option Channel) (p : ℕ) → ((c : Channel) → channel ≡ Some c → Inside spots c) → (Contains spots (place p) → ⊥)
    → list_at (option_map_or (after_passing config action) channel config) p ≡ list_at config p
untouched_through config action spots None p within free = refl
untouched_through config action spots (Some channel) p within free =
    let it : Inside spots channel = within channel refl in
    list_at-after_transfer config (transfer channel (passing action (list_at config channel.from.0))) p
    (λ e. free (subst (λ (q : ℕ). Contains spots (place q)) e it.from)) (λ e. free (subst (λ (q : ℕ). Contains spots (place q)) e it.to))

pub untouched : (trap : TrapValue) (config : List (List Ion)) (action : Action) (p : ℕ) → (Contains (footprint trap action) (place p) → ⊥) → list_at (after trap config action) p ≡ list_at config p
untouched trap config (actions.Split zone end count) p free =
    let action : Action = actions.Split zone end count in
    untouched_through config action (footprint trap action) (split_channel trap zone.0 end) p (inside trap action) free
untouched trap config (actions.Move from to) p free =
    let action : Action = actions.Move from to in
    untouched_through config action (footprint trap action) (move_channel trap from.0 to.0) p (inside trap action) free
untouched trap config (actions.Cross crossed from to) p free =
    let action : Action = actions.Cross crossed from to in
    untouched_through config action (footprint trap action) (cross_channel trap crossed.0 from.0 to.0) p (inside trap action) free
untouched trap config (actions.Merge zone end) p free =
    let action : Action = actions.Merge zone end in
    untouched_through config action (footprint trap action) (merge_channel trap zone.0 end) p (inside trap action) free
untouched trap config (actions.Swap zone index) p free =
    get_or-set_other config zone.0 p (swap (list_at config zone.0) index (index + 1)) [] (λ e. free (0, omega arith, ap place (sym e)))
untouched trap config (actions.Op zone op) p free = refl

-- ---- the guards see only the places that the action works on

same_source : (spots : List Spot) (a b : List (List Ion)) (channel : Option Channel) → ((c : Channel) → channel ≡ Some c → Inside spots c) → Agree spots a b → source a channel ≡ source b channel
same_source spots a b None within same = refl
same_source spots a b (Some channel) within same = same channel.from.0 (within channel refl).from

same_target : (spots : List Spot) (a b : List (List Ion)) (channel : Option Channel) → ((c : Channel) → channel ≡ Some c → Inside spots c) → Agree spots a b → target a channel ≡ target b channel
same_target spots a b None within same = refl
same_target spots a b (Some channel) within same = same channel.to.0 (within channel refl).to

pub same_transport : (trap : TrapValue) (a b : List (List Ion)) (action : Action) → Agree (footprint trap action) a b → transport_guards trap a action ≡ transport_guards trap b action
same_transport trap a b (actions.Split zone end count) same =
    let channel : Option Channel = split_channel trap zone.0 end in
    let action : Action = actions.Split zone end count in
    let s = same_source (footprint trap action) a b channel (inside trap action) same in
    let t = same_target (footprint trap action) a b channel (inside trap action) same in
    rw (s, t)
same_transport trap a b (actions.Move from to) same =
    let channel : Option Channel = move_channel trap from.0 to.0 in
    let action : Action = actions.Move from to in
    let s = same_source (footprint trap action) a b channel (inside trap action) same in
    let t = same_target (footprint trap action) a b channel (inside trap action) same in
    rw (s, t)
same_transport trap a b (actions.Cross crossed from to) same =
    let channel : Option Channel = cross_channel trap crossed.0 from.0 to.0 in
    let action : Action = actions.Cross crossed from to in
    let s = same_source (footprint trap action) a b channel (inside trap action) same in
    let t = same_target (footprint trap action) a b channel (inside trap action) same in
    simp (s, t)
same_transport trap a b (actions.Merge zone end) same =
    let channel : Option Channel = merge_channel trap zone.0 end in
    let action : Action = actions.Merge zone end in
    let s = same_source (footprint trap action) a b channel (inside trap action) same in
    let t = same_target (footprint trap action) a b channel (inside trap action) same in
    simp (s, t)
same_transport trap a b (actions.Swap zone index) same = rw (same zone.0 (0, omega arith, refl))
same_transport trap a b (actions.Op zone op) same = refl

pub same_guards : (setting : SettingValue) (a b : List (List Ion)) (action : Action) → Agree (footprint setting.trap action) a b → guards setting a action ≡ guards setting b action
same_guards setting a b (actions.Split zone end count) same = same_transport setting.trap a b (actions.Split zone end count) same
same_guards setting a b (actions.Move from to) same = same_transport setting.trap a b (actions.Move from to) same
same_guards setting a b (actions.Cross crossed from to) same = same_transport setting.trap a b (actions.Cross crossed from to) same
same_guards setting a b (actions.Merge zone end) same = same_transport setting.trap a b (actions.Merge zone end) same
same_guards setting a b (actions.Swap zone index) same = same_transport setting.trap a b (actions.Swap zone index) same
same_guards setting a b (actions.Op zone op) same =
    let made : Bool → List Guard = λ there.
    guard (is_zone setting.trap zone.0) NoPlace ∷ guard (is_performed setting.circuit op.0) NotOp ∷ guard (is_able_for setting zone.0 op.0) NotAble ∷ guard there Absent ∷ [] in
    ap (λ (ions : List Ion). made (are_among setting ions op.0)) (same zone.0 (0, omega arith, refl))

-- ---- after one such action, and after several

-- the places of its footprint are as they were
agree_after : (trap : TrapValue) (config : List (List Ion)) (other action : Action) → AreApart trap other action → Agree (footprint trap action) (after trap config other) config
agree_after trap config other action apart p there = untouched trap config other p (λ here. apart (place p) here there)

pub still_passes : (setting : SettingValue) (config : List (List Ion)) (other action : Action) → AreApart setting.trap other action → Passes setting config action → Passes setting (after setting.trap config other) action
still_passes setting config other action apart passes =
    ap first_broken (same_guards setting (after setting.trap config other) config action (agree_after setting.trap config other action apart)) ∙ passes

pub still_passes_transport : (trap : TrapValue) (config : List (List Ion)) (other action : Action) → AreApart trap other action → PassesTransport trap config action → PassesTransport trap (after trap config other) action
still_passes_transport trap config other action apart passes =
    ap first_broken (same_transport trap (after trap config other) config action (agree_after trap config other action apart)) ∙ passes

pub carried : (setting : SettingValue) (config : List (List Ion)) (others : List Action) (action : Action) → All (λ (other : Action). AreApart setting.trap other action) others → Passes setting config action
    → Passes setting (after_step setting.trap config others) action
carried setting config [] action apart passes = passes
carried setting config (other ∷ others) action apart passes =
    let P : Action → Type 0 = λ o. AreApart setting.trap o action in
    carried setting (after setting.trap config other) others action (All-tail P other others apart) (still_passes setting config other action (All-head P other others apart) passes)

pub carried_transport : (trap : TrapValue) (config : List (List Ion)) (others : List Action) (action : Action) → All (λ (other : Action). AreApart trap other action) others → PassesTransport trap config action
    → PassesTransport trap (after_step trap config others) action
carried_transport trap config [] action apart passes = passes
carried_transport trap config (other ∷ others) action apart passes =
    let P : Action → Type 0 = λ o. AreApart trap o action in
    carried_transport trap (after trap config other) others action (All-tail P other others apart) (still_passes_transport trap config other action (All-head P other others apart) passes)

-- what passes all guards passes those of the trap and the configuration
pub transport_of : (setting : SettingValue) (config : List (List Ion)) (action : Action) → Passes setting config action → PassesTransport setting.trap config action
transport_of setting config (actions.Split zone end count) passes = passes
transport_of setting config (actions.Move from to) passes = passes
transport_of setting config (actions.Cross crossed from to) passes = passes
transport_of setting config (actions.Merge zone end) passes = passes
transport_of setting config (actions.Swap zone index) passes = passes
transport_of setting config (actions.Op zone op) passes = refl
