use Rattle.std.proofs.Common.{◌≡◌, ℕ, ◌+◌, ◌≤◌, length, sym, ap, subst, ◌∙◌, arith}
use Rattle.std.specs.Prelude.{IsTrue}
use Rattle.std.specs.Option.{IsSome}
use Rattle.sat_base.specs.Literal.{Literal}
use Rattle.sat_base.specs.Clauses.{NameOnly}
use Rattle.sat_base.specs.Truth.{Valuation, Satisfies}
use Rattle.sat_base.specs.Valuation.{valuation_of}
use Rattle.sat_base.proofs.Clauses.{NameOnly-weaken}
use Rattle.circuit_core.specs.Circuit.{IsCircuit}
use Rattle.trap_parts.specs.Build.{IsTrap}
use Rattle.step_rules.specs.Setting.{SettingValue}
use Rattle.step_vars.specs.declared.item.Claim.{Claim}
use Rattle.step_vars.specs.declared.encoding.Encoding.{Encoding}
use Rattle.step_vars.specs.Numbering.{Numbering, number_of, literal_of, before}
use Rattle.step_vars.specs.Encoding.{IsSmall, numbering_of, encoding_of, goal_literal}
use Rattle.step_vars.proofs.OfSetting.{goal_there, goal_last, goal_named}
use Rattle.step_facts.specs.Run.{IsSetting}
use Rattle.extract.proofs.Listed.{numbering_is}
use Rattle.extract.proofs.Settings.{small_up_to}
use Rattle.exact_tests.proofs.tests.schedules.is_model.Goals as goal

pub satisfies-requires : goal.satisfies-requires
satisfies-requires c =
    let setting : SettingValue = c.args.setting.now in
    let encoding : Encoding = c.args.vars.now.encoding in
    let t : ℕ = c.args.last in
    let trap : c.setting.inside.trap.now ≡ setting.trap = ap (λ (s : SettingValue). s.trap) c.setting.view_is in
    let circuit : c.setting.inside.circuit.now ≡ setting.circuit =
    ap (λ (s : SettingValue). s.circuit) c.setting.view_is in
    let sound : IsSetting setting = record {
      trap = subst IsTrap trap c.traps_and_circuits_are_sound.ensures.trap;
      circuit = subst IsCircuit circuit c.traps_and_circuits_are_sound.ensures.circuit;
      placement = c.requires.placed;
    } in
    let small : IsSmall setting t =
    small_up_to setting t c.args.vars.now.steps c.requires.time c.requires.small in
    let named = c.parts_name_their_variables.ensures setting encoding t sound small in
    let enough : length c.args.values.now ≡ before (numbering_of setting encoding) (t + 1) =
    c.requires.values ∙ ap (λ (n : Numbering). before n (t + 1))
    (numbering_is c.args.vars.now setting c.requires.vars) in
    subst (NameOnly (λ var. var ≤ length c.args.values.now)) (sym c.requires.formula)
    (NameOnly-weaken (λ var. (1 ≤ var) × (var ≤ before (numbering_of setting encoding) (t + 1)))
    (λ var. var ≤ length c.args.values.now) (encoding_of setting encoding t)
    (λ var within. omega (arith, within.1, enough)) named)

pub lit-goal-requires-clause-there : goal.lit-goal-requires-clause-there
lit-goal-requires-clause-there c =
    subst (λ (claim : Claim). IsSome (number_of c.args.vars.now.numbering claim.item)) (sym c.so.ensures)
    (goal_there c.args.vars.now.numbering c.args.last)

-- the goal is the last variable
pub value-requires-clause-within : goal.value-requires-clause-within
value-requires-clause-within c =
    let n : Numbering = c.args.vars.now.numbering in
    let last : c.var.result ≡ before n (c.args.last + 1) =
    c.var.ensures.var ∙ ap (λ (l : Literal). l.var) (c.lit-goal.ensures ∙ ap (literal_of n) c.so.ensures)
    ∙ goal_last n c.args.last in
    omega (arith, last, c.requires.values)

pub returns : goal.returns
returns c holds =
    let setting : SettingValue = c.args.setting.now in
    let encoding : Encoding = c.args.vars.now.encoding in
    let t : ℕ = c.args.last in
    let values : Valuation = valuation_of c.args.values.now in
    let named : c.lit-goal.result ≡ goal_literal setting encoding t =
    goal_named setting encoding c.args.vars.now.steps c.args.vars.now t c.so.result c.lit-goal.result
    c.requires.vars c.so.ensures c.lit-goal.ensures in
    let same : c.value.result ≡ values (goal_literal setting encoding t).var =
    c.value.ensures ∙ ap values (c.var.ensures.var ∙ ap (λ (l : Literal). l.var) named) in
    record {
      clauses = subst (Satisfies values) c.requires.formula (c.satisfies.ensures.0 c.if-not-satisfies.false);
      goal = subst IsTrue same holds;
    }
