use Rattle.std.proofs.Common.{◌≡◌, ◌-◌, ◌++◌}
use Rattle.sat_base.specs.Valuation.{valuation_of}
use Rattle.step_rules.specs.Config.{IsConfigOf}
use Rattle.step_rules.specs.Play.{AreLegal}
use Rattle.step_rules.specs.Setting.{setting_of}
use Rattle.step_facts.specs.ToSchedule.{steps_from, schedule_of as schedule_of_facts}
use Rattle.step_models.specs.Models.{facts_by}
use Rattle.extract.proofs.schedule.schedule_of.Given as goal

-- the steps so far and those that are left are the whole, and those are legal
abbrev pub invariant-loop-time : goal.invariant-loop-time
invariant-loop-time l = record {
  whole : l.schedule ++ steps_from (setting_of l.trap l.circuit l.placement)
      (facts_by l.vars.numbering (valuation_of l.values)) l.time l.config.lists (l.t - l.time)
      ≡ schedule_of_facts (setting_of l.trap l.circuit l.placement)
      (facts_by l.vars.numbering (valuation_of l.values)) l.t;
  legal : AreLegal (setting_of l.trap l.circuit l.placement) l.config.lists
      (steps_from (setting_of l.trap l.circuit l.placement)
      (facts_by l.vars.numbering (valuation_of l.values)) l.time l.config.lists (l.t - l.time));
  config : IsConfigOf l.trap l.config;
}
