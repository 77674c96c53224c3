-- Working notions of private functions: reading the values of a step.
use Rattle.std.specs.Prelude.{ℕ, ◌+◌, ◌<◌, ◌≤◌, ◌^◌, List, length, map, filter}
use Rattle.qc_base.specs.declared.ids.Ion.{Ion}
use Rattle.sat_base.specs.Valuation.{valuation_of}
use Rattle.trap_model.specs.declared.channel.Channel.{Channel}
use Rattle.ion_chain.specs.Transfer.{list_at}
use Rattle.step_rules.specs.declared.action.Action.{Action}
use Rattle.step_rules.specs.Setting.{SettingValue}
use Rattle.step_rules.specs.Guards.{is_able_for}
use Rattle.step_vars.specs.declared.cells.Cell.{Cell}
use Rattle.step_vars.specs.declared.channel_test.NumberedChannel.{NumberedChannel}
use Rattle.step_vars.specs.Lists.{numbered_from}
use Rattle.step_vars.specs.Numbering.{before}
use Rattle.step_facts.specs.Facts.{Facts}
use Rattle.step_facts.specs.Activities.{Activity, passage, exchange, operation}
use Rattle.step_facts.specs.ToSchedule.{action_of, happens}
use Rattle.step_models.specs.Models.{facts_by}
use Rattle.extract.specs.declared.activity.Activity.{Activity as Listed}
use Rattle.extract.specs.declared.activity.Activity.TheVariants.{Passage, Exchange, Operation}
use Rattle.extract.specs.declared.reader.Reader.{Reader}

-- ---- activities

abbrev pub seen : Listed → Activity
seen (Passage number channel) = passage number channel
seen (Exchange first second zone) = exchange first second zone
seen (Operation op zone) = operation op zone

-- the place whose ions its action depends on
abbrev pub place_in : Activity → ℕ
place_in (passage number channel) = channel.from.0
place_in (exchange first second zone) = zone
place_in (operation op zone) = zone

-- the passages through channels that are numbered from there on
abbrev pub passages_from : ℕ → List Channel → List Activity
passages_from number channels =
    map (λ (c : NumberedChannel). passage c.number c.channel) (numbered_from number channels)

-- the exchanges of pairs in a zone
abbrev pub exchanges_in : List Cell → ℕ → List Activity
exchanges_in pairs zone = map (λ (pair : Cell). exchange pair.row pair.col zone) pairs

-- the operations that a zone is able to perform, of those in the rows
abbrev pub operations_in : SettingValue → List Cell → ℕ → List Activity
operations_in setting ops zone =
    map (λ (cell : Cell). operation cell.row zone) (filter (λ (cell : Cell). is_able_for setting zone cell.row) ops)

-- ---- the values of a step

abbrev pub facts_in : Reader → Facts
facts_in reader = facts_by reader.vars.now.numbering (valuation_of reader.values.now)

abbrev pub lists_in : Reader → List (List Ion)
lists_in reader = reader.config.now.lists

-- the actions of those activities that happen
abbrev pub actions_in : Reader → List Activity → List Action
actions_in reader activities =
    map (action_of (facts_in reader) reader.step (lists_in reader))
    (filter (happens (facts_in reader) reader.step) activities)

-- each variable of the step has a value, and no list is too long to be counted
pub record CanRead (reader : Reader) : Type 0 where
  pub time : reader.step ≤ reader.vars.now.steps
  pub values : before reader.vars.now.numbering (reader.step + 1) ≤ length reader.values.now
  pub few : (p : ℕ) → p < length (lists_in reader) → length (list_at (lists_in reader) p) < 2 ^ 32
