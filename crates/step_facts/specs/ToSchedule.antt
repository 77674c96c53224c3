-- The schedule of facts: in each step the channels in use in order, then the swaps by zone, then the
-- operations by zone.
use Rattle.std.specs.Prelude.{ℕ, zero, suc, ◌+◌, ◌==◌, Bool, ◌||◌, if◌then◌else◌, List, [], ◌∷◌, map, filter, Option, None, Some}
use Rattle.qc_base.specs.declared.ids.Ion.{Ion}
use Rattle.qc_base.specs.Counting.{how_many}
use Rattle.ion_chain.specs.Transfer.{list_at}
use Rattle.step_rules.specs.declared.action.Action.{Action}
use Rattle.step_rules.specs.declared.action.Action.TheVariants as actions
use Rattle.step_rules.specs.Placement.{start_of}
use Rattle.step_rules.specs.Setting.{SettingValue}
use Rattle.step_rules.specs.ActionChannel.{action_through}
use Rattle.step_rules.specs.Steps.{after_step}
use Rattle.step_vars.specs.Items.{leave_item}
use Rattle.step_facts.specs.Facts.{Facts}
use Rattle.step_facts.specs.Activities.{Activity, passage, exchange, operation, item_of, activities_of}

-- the ion passes through channel c in step t
abbrev pub is_passing : Facts → ℕ → ℕ → Ion → Bool
is_passing facts c t ion = facts (leave_item ion.0 c t)

-- how many ions of the list pass through channel c in step t
abbrev pub passing_count : Facts → ℕ → ℕ → List Ion → ℕ
passing_count facts c t ions = how_many (is_passing facts c t) ions

-- how many ions of the list are before the first of these two
abbrev pub index_of_pair : ℕ → ℕ → List Ion → ℕ
index_of_pair i j [] = 0
index_of_pair i j (ion ∷ ions) = if ion.0 == i || ion.0 == j then 0 else index_of_pair i j ions + 1

-- the action of an activity in step t, which begins with the configuration
abbrev pub action_of : Facts → ℕ → List (List Ion) → Activity → Action
action_of facts t config (passage c channel) =
    action_through channel (passing_count facts c t (list_at config channel.from.0))
action_of facts t config (exchange i j z) =
    actions.Swap (record { 0 = z }) (index_of_pair i j (list_at config z))
action_of facts t config (operation g z) = actions.Op (record { 0 = z }) (record { 0 = g })

-- the activity happens in step t
abbrev pub happens : Facts → ℕ → Activity → Bool
happens facts t activity = facts (item_of t activity)

-- what happens in step t, in order
abbrev pub happening : SettingValue → Facts → ℕ → List Activity
happening setting facts t = filter (happens facts t) (activities_of setting)

-- step t, which begins with the configuration
abbrev pub step_of : SettingValue → Facts → ℕ → List (List Ion) → List Action
step_of setting facts t config = map (action_of facts t config) (happening setting facts t)

-- so many steps from time r on
abbrev pub steps_from : SettingValue → Facts → ℕ → List (List Ion) → ℕ → List (List Action)
steps_from setting facts r config zero = []
steps_from setting facts r config (suc count) =
    step_of setting facts (suc r) config
    ∷ steps_from setting facts (suc r) (after_step setting.trap config (step_of setting facts (suc r) config)) count

-- the schedule of t steps
abbrev pub schedule_of : SettingValue → Facts → ℕ → List (List Action)
schedule_of setting facts t = steps_from setting facts 0 (start_of setting.trap setting.placement) t
