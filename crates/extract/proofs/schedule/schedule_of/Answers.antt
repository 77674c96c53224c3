use Rattle.std.proofs.Common.{◌≡◌, ℕ, ◌+◌, ◌-◌, ◌≤◌, List, [], ◌∷◌, ◌++◌, map, sym, ap, subst, ◌∙◌, arith}
use Rattle.std.specs.Prelude.{filter}
use Rattle.qc_base.specs.declared.ids.Ion.{Ion}
use Rattle.sat_base.specs.Truth.{Valuation}
use Rattle.sat_base.specs.Valuation.{valuation_of}
use Rattle.step_rules.specs.declared.action.Action.{Action}
use Rattle.step_rules.specs.Placement.{start_of}
use Rattle.step_rules.specs.Play.{AreLegal}
use Rattle.step_rules.specs.Steps.{after_step}
use Rattle.step_rules.specs.Setting.{SettingValue, setting_of}
use Rattle.step_rules.proofs.Moved.{any_limit_small}
use Rattle.step_vars.specs.Numbering.{Numbering, before}
use Rattle.step_vars.specs.Encoding.{IsSmall}
use Rattle.step_facts.specs.Activities.{Activity, activities_of}
use Rattle.step_facts.specs.Facts.{Facts}
use Rattle.step_facts.specs.Run.{IsSetting}
use Rattle.step_facts.specs.Theorems.{IsScheduleOf}
use Rattle.step_facts.specs.ToSchedule.{action_of, happens, step_of, steps_from, schedule_of as schedule_of_facts}
use Rattle.step_models.specs.Models.{facts_by, facts_of}
use Rattle.extract.specs.Reading.{seen}
use Rattle.extract.proofs.Listed.{numbering_is}
use Rattle.extract.proofs.Settings.{small_up_to}
use Rattle.extract.proofs.Steps.{IsNextStep, whole_on, legal_on, legal_now, none_left}
use Rattle.extract.proofs.schedule.schedule_of.Goals as goal

pub loop-time-init : goal.loop-time-init
loop-time-init c =
    let setting : SettingValue = setting_of c.args.trap.now c.args.circuit.now c.args.placement.now in
    let values : Valuation = valuation_of c.args.values.now in
    let facts : Facts = facts_by c.args.vars.now.numbering values in
    let t : ℕ = c.args.t in
    let start : List (List Ion) = start_of setting.trap setting.placement in
    let lists : List (List Ion) = c.in_ok-config.config.lists in
    let sound : IsSetting setting = record {
      trap = c.traps_and_circuits_are_sound.ensures.trap;
      circuit = c.traps_and_circuits_are_sound.ensures.circuit;
      placement = c.requires.placed;
    } in
    let small : IsSmall setting t = small_up_to setting t c.args.vars.now.steps c.requires.time c.requires.small in
    let numbering = numbering_is c.args.vars.now setting c.requires.vars in
    let said = c.models_are_schedules.ensures setting c.args.vars.now.encoding t sound small values
    c.requires.model in
    let legal : AreLegal setting start (schedule_of_facts setting facts t) =
    subst (λ (n : Numbering). AreLegal setting start (schedule_of_facts setting (facts_by n values) t))
    (sym numbering) said.plays.legal in
    let all : t - 0 ≡ t = omega arith in
    let from_start : steps_from setting facts 0 lists (t - 0) ≡ schedule_of_facts setting facts t =
    ap (λ (n : ℕ). steps_from setting facts 0 lists n) all
    ∙ ap (λ (l : List (List Ion)). steps_from setting facts 0 l t) c.in_ok-config.ensures.lists in
    record {
      whole = ap (λ (steps : List (List Action)). steps ++ steps_from setting facts 0 lists (t - 0))
          c.new-schedule.ensures ∙ from_start;
      legal = subst (λ (l : List (List Ion)). AreLegal setting l (steps_from setting facts 0 lists (t - 0)))
          (sym c.in_ok-config.ensures.lists) (subst (AreLegal setting start) (sym from_start) legal);
      config = c.in_ok-config.ensures.config;
    }

pub actions-requires-clause-reads : goal.actions-requires-clause-reads
actions-requires-clause-reads c =
    let n : Numbering = c.args.vars.now.numbering in
    let time : ℕ = c.loop-time.time in
    let sooner : before n (time + 1 + 1) ≤ before n (c.args.t + 1) =
    c.parts_are_in_order.ensures.grows n (time + 1 + 1) (c.args.t + 1) (omega (arith, c.loop-time-test.true)) in
    record {
      time = omega (arith, c.loop-time-test.true, c.requires.time);
      values = omega (arith, sooner, c.requires.values);
      few = λ p within.
          let inside = c.loop-time.invariant.config in
          let there = inside.within p (omega (arith, within, inside.places)) in
          omega (arith, there, any_limit_small c.args.trap.now p c.traps_and_circuits_are_sound.ensures.trap);
    }

-- the actions that are read are the next step
pub perform-requires-clause-legal : goal.perform-requires-clause-legal
perform-requires-clause-legal c =
    let setting : SettingValue = setting_of c.args.trap.now c.args.circuit.now c.args.placement.now in
    let facts : Facts = facts_by c.args.vars.now.numbering (valuation_of c.args.values.now) in
    let time : ℕ = c.loop-time.time in
    let lists : List (List Ion) = c.loop-time.config.lists in
    let listed : map seen c.deref.result.now ≡ activities_of setting =
    ap (map seen) c.deref.ensures.value ∙ c.in_ok-activities.ensures.all in
    let taken : List Activity → List Action =
    λ (xs : List Activity). map (action_of facts (time + 1) lists) (filter (happens facts (time + 1)) xs) in
    let step : c.deref-in-loop-time-2.result.now ≡ step_of setting facts (time + 1) lists =
    c.deref-in-loop-time-2.ensures.value ∙ c.in_ok-actions.ensures ∙ ap taken listed in
    legal_now setting facts time c.args.t lists c.deref-in-loop-time-2.result.now c.loop-time-test.true step
    c.loop-time.invariant.legal

pub loop-time-preserved : goal.loop-time-preserved
loop-time-preserved c =
    let setting : SettingValue = setting_of c.args.trap.now c.args.circuit.now c.args.placement.now in
    let facts : Facts = facts_by c.args.vars.now.numbering (valuation_of c.args.values.now) in
    let time : ℕ = c.loop-time.time in
    let lists : List (List Ion) = c.loop-time.config.lists in
    let moved : List (List Ion) = c.perform.new.config.lists in
    let steps : List (List Action) = c.loop-time.schedule in
    let actions : List Action = c.in_ok-actions.actions.items in
    let listed : map seen c.deref.result.now ≡ activities_of setting =
    ap (map seen) c.deref.ensures.value ∙ c.in_ok-activities.ensures.all in
    let taken : List Activity → List Action =
    λ (xs : List Activity). map (action_of facts (time + 1) lists) (filter (happens facts (time + 1)) xs) in
    let next : IsNextStep setting facts time lists moved actions = record {
      taken = c.in_ok-actions.ensures ∙ ap taken listed;
      leads = c.perform.ensures.lists ∙ ap (after_step setting.trap lists) c.deref-in-loop-time-2.ensures.value;
    } in
    let longer : c.add_step.new.schedule ≡ steps ++ actions ∷ [] =
    c.in_ok-add_step.ensures ∙ ap (λ (xs : List Action). steps ++ xs ∷ []) c.deref-in-loop-time.ensures.value in
    record {
      whole = whole_on setting facts time c.args.t lists moved actions steps _ _ c.loop-time-test.true next longer
          c.loop-time.invariant.whole;
      legal = legal_on setting facts time c.args.t lists moved actions c.loop-time-test.true next
          c.loop-time.invariant.legal;
      config = c.perform.ensures.config;
    }

pub returns-clause-schedule : goal.returns-clause-schedule
returns-clause-schedule c =
    let setting : SettingValue = setting_of c.args.trap.now c.args.circuit.now c.args.placement.now in
    let values : Valuation = valuation_of c.args.values.now in
    let facts : Facts = facts_by c.args.vars.now.numbering values in
    let at_end : c.loop-time.time ≡ c.args.t = omega (arith, c.loop-time-test.false, c.loop-time.auto.time-end) in
    none_left setting facts c.loop-time.time c.args.t c.loop-time.config.lists c.loop-time.schedule _ at_end
    c.loop-time.invariant.whole
    ∙ ap (λ (n : Numbering). schedule_of_facts setting (facts_by n values) c.args.t)
    (numbering_is c.args.vars.now setting c.requires.vars)

pub returns-clause-plays : goal.returns-clause-plays
returns-clause-plays c =
    let setting : SettingValue = setting_of c.args.trap.now c.args.circuit.now c.args.placement.now in
    let values : Valuation = valuation_of c.args.values.now in
    let facts : Facts = facts_of setting c.args.vars.now.encoding values in
    let sound : IsSetting setting = record {
      trap = c.traps_and_circuits_are_sound.ensures.trap;
      circuit = c.traps_and_circuits_are_sound.ensures.circuit;
      placement = c.requires.placed;
    } in
    let small : IsSmall setting c.args.t =
    small_up_to setting c.args.t c.args.vars.now.steps c.requires.time c.requires.small in
    subst (IsScheduleOf setting facts c.args.t) (sym (returns-clause-schedule c))
    (c.models_are_schedules.ensures setting c.args.vars.now.encoding c.args.t sound small values c.requires.model)
