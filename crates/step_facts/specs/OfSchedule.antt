-- The facts of a schedule: what is true of it at each time and in each step. Step t leads from time t - 1 to
-- time t.
use Rattle.std.specs.Prelude.{ℕ, ◌+◌, ◌-◌, ◌==◌, Bool, false, ◌&&◌, ◌||◌, List, [], take, slice_get, slice_index_or, Option, None}
use Rattle.std.specs.Option.{option_map_or}
use Rattle.std.specs.List.{list_any, list_all}
use Rattle.qc_base.specs.declared.ids.Ion.{Ion}
use Rattle.trap_parts.specs.Parts.{TrapValue}
use Rattle.trap_model.specs.Channels.{channels_of, split_at, move_of, cross_of, merge_at}
use Rattle.trap_model.specs.declared.channel.Channel.{Channel}
use Rattle.ion_chain.specs.Transfer.{list_at}
use Rattle.step_rules.specs.declared.action.Action.{Action}
use Rattle.step_rules.specs.declared.action.Action.TheVariants as actions
use Rattle.step_rules.specs.Placement.{start_of}
use Rattle.step_rules.specs.Setting.{SettingValue}
use Rattle.step_rules.specs.Play.{after_steps, is_done}
use Rattle.step_vars.specs.declared.item.Item.TheVariants.{At, Ord, Use, Leave, Swap, Act, Done, Goal}
use Rattle.step_vars.specs.Lists.{performed, is_there, is_before}
use Rattle.step_facts.specs.Facts.{Facts}
use Rattle.step_facts.specs.Activities.{Activity, passage, exchange, operation}

-- ---- what an action does

-- the number of the channel that an action passes ions through; a swap and an operation have none
abbrev pub channel_number : TrapValue → Action → Option ℕ
channel_number trap (actions.Split zone end count) = split_at trap zone.0 end
channel_number trap (actions.Move from to) = move_of trap from.0 to.0
channel_number trap (actions.Cross junction from to) = cross_of trap junction.0 from.0 to.0
channel_number trap (actions.Merge zone end) = merge_at trap zone.0 end
channel_number trap (actions.Swap zone index) = None
channel_number trap (actions.Op zone op) = None

-- it passes ions through channel c
abbrev pub passes_by : TrapValue → ℕ → Action → Bool
passes_by trap c action = option_map_or (λ number. number == c) (channel_number trap action) false

-- the ion there is i
abbrev pub is_ion : ℕ → Option Ion → Bool
is_ion i ion = option_map_or (λ (it : Ion). it.0 == i) ion false

-- the two ions at the index and the next are i and j, in either order
abbrev pub are_neighbours : ℕ → ℕ → ℕ → List Ion → Bool
are_neighbours i j index ions =
    (is_ion i (slice_get ions index) && is_ion j (slice_get ions (index + 1)))
    || (is_ion j (slice_get ions index) && is_ion i (slice_get ions (index + 1)))

-- it exchanges the ions i and j of zone z
abbrev pub exchanges : List (List Ion) → ℕ → ℕ → ℕ → Action → Bool
exchanges config i j z (actions.Swap zone index) = zone.0 == z && are_neighbours i j index (list_at config z)
exchanges config i j z _ = false

-- zone z performs operation g by it
abbrev pub performs_in : ℕ → ℕ → Action → Bool
performs_in g z (actions.Op zone op) = zone.0 == z && op.0 == g
performs_in g z _ = false

-- it is that activity, in a step that begins with the configuration
abbrev pub does : TrapValue → List (List Ion) → Activity → Action → Bool
does trap config (passage c channel) = passes_by trap c
does trap config (exchange i j z) = exchanges config i j z
does trap config (operation g z) = performs_in g z

-- ---- the facts

-- where the ions are at time t
abbrev pub config_at : SettingValue → List (List Action) → ℕ → List (List Ion)
config_at setting steps t = after_steps setting.trap (start_of setting.trap setting.placement) (take t steps)

-- the actions of step t, which is the one after time t - 1; after the last step there are none
abbrev pub step_at : List (List Action) → ℕ → List Action
step_at steps t = slice_index_or steps (t - 1) []

-- ion i was at the place where the channel begins, and is at the one where it ends
abbrev pub goes_by : List (List Ion) → List (List Ion) → ℕ → Option Channel → Bool
goes_by before now i channel =
    option_map_or (λ (it : Channel).
    is_there i (list_at before it.from.0) && is_there i (list_at now it.to.0)) channel false

abbrev pub facts_of : SettingValue → List (List Action) → Facts
facts_of setting steps (At i p t) = is_there i.0 (list_at (config_at setting steps t) p.0)
facts_of setting steps (Ord i j t) = list_any (is_before i.0 j.0) (config_at setting steps t)
facts_of setting steps (Use c t) = list_any (passes_by setting.trap c) (step_at steps t)
facts_of setting steps (Leave i c t) =
    list_any (passes_by setting.trap c) (step_at steps t)
    && goes_by (config_at setting steps (t - 1)) (config_at setting steps t) i.0
    (slice_get (channels_of setting.trap) c)
facts_of setting steps (Swap i j z t) =
    list_any (exchanges (config_at setting steps (t - 1)) i.0 j.0 z.0) (step_at steps t)
facts_of setting steps (Act g z t) = list_any (performs_in g.0 z.0) (step_at steps t)
facts_of setting steps (Done g t) = is_done (take t steps) g.0
facts_of setting steps (Goal t) = list_all (is_done (take t steps)) (performed setting.circuit)
