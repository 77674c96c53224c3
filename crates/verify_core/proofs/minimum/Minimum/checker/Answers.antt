use Rattle.std.proofs.Common.{◌≡◌, ◌≤◌, ℕ, suc, ◌-◌, length, sym, ap, subst, ◌∙◌, arith, refl, ◌^◌}
use Rattle.std.specs.Option.{IsSome}
use Rattle.sat_base.specs.Certificate.{head_text}
use Rattle.step_rules.specs.Setting.{SettingValue, setting_of}
use Rattle.step_vars.specs.declared.encoding.Encoding.{Encoding}
use Rattle.step_vars.specs.declared.item.Claim.{Claim}
use Rattle.step_vars.specs.Items.{time_of}
use Rattle.step_vars.specs.Numbering.{number_of}
use Rattle.step_vars.specs.Encoding.{IsSmall, encoding_of, goal_literal}
use Rattle.step_vars.specs.Certifies.{vars_up_to, head_of, asked}
use Rattle.step_facts.specs.Run.{IsSetting}
use Rattle.step_models.specs.Models.{PartsAreSmall}
use Rattle.step_vars.proofs.OfSetting.{steps_are, encoding_is, goal_there, goal_named, counted}
use Rattle.verify_core.specs.Reading.{MinimumValue, IsReady}
use Rattle.verify_core.proofs.Minimums.{made_in, asked_head, is_ready}
use Rattle.verify_core.proofs.minimum.Minimum.checker.Goals as goal

pub formula-requires-clause-vars : goal.formula-requires-clause-vars
formula-requires-clause-vars c =
    let setting = setting_of c.self.inside.trap.now c.self.inside.circuit.now c.self.inside.placement.now in
    let same : setting ≡ c.args.self.now.setting = ap (λ (it : MinimumValue). it.setting) c.self.view_is in
    made_in c.args.self.now setting c.args.encoding (c.self.inside.steps - 1) c.in_ok-vars.vars same c.in_ok-vars.ensures

pub lit-requires-clause-time : goal.lit-requires-clause-time
lit-requires-clause-time c =
    let setting = setting_of c.self.inside.trap.now c.self.inside.circuit.now c.self.inside.placement.now in
    let steps = steps_are setting c.args.encoding (c.self.inside.steps - 1) c.in_ok-vars.vars c.in_ok-vars.ensures in
    let low : c.self.inside.steps - 1 ≤ c.in_ok-vars.vars.steps = omega (arith, steps) in
    subst (λ (claim : Claim). time_of claim.item ≤ c.in_ok-vars.vars.steps) (sym c.so.ensures) low

pub lit-requires-clause-there : goal.lit-requires-clause-there
lit-requires-clause-there c =
    subst (λ (claim : Claim). IsSome (number_of c.in_ok-vars.vars.numbering claim.item)) (sym c.so.ensures) (goal_there c.in_ok-vars.vars.numbering (c.self.inside.steps - 1))

pub count-requires : goal.count-requires
count-requires c =
    let setting = setting_of c.self.inside.trap.now c.self.inside.circuit.now c.self.inside.placement.now in
    let steps = steps_are setting c.args.encoding (c.self.inside.steps - 1) c.in_ok-vars.vars c.in_ok-vars.ensures in
    omega (arith, steps)

pub overflow_sub-head : goal.overflow_sub-head
overflow_sub-head c =
    let own : c.self.inside.steps ≡ c.args.self.now.steps = ap (λ (it : MinimumValue). it.steps) c.self.view_is in
    let few = c.self.invariant.small.time in
    let size = c.requires.head in
    omega (arith, size, asked_head c.args.encoding c.args.self.now.steps (omega (arith, few, own)))

pub returns-clause-ready : goal.returns-clause-ready
returns-clause-ready c = λ bound e.
    let setting = setting_of c.self.inside.trap.now c.self.inside.circuit.now c.self.inside.placement.now in
    let same : setting ≡ c.args.self.now.setting = ap (λ (it : MinimumValue). it.setting) c.self.view_is in
    let minimum = c.args.self.now in
    let own : c.self.inside.steps ≡ minimum.steps = ap (λ (it : MinimumValue). it.steps) c.self.view_is in
    let last = c.self.inside.steps - 1 in
    let encoding = c.args.encoding in
    let vars = c.in_ok-vars.vars in
    let made = c.in_ok-vars.ensures in
    let is : last ≡ bound = omega (arith, own, e) in
    let steps : minimum.steps ≡ suc last = omega (arith, own, e) in
    let clauses : c.in_ok-formula.formula ≡ encoding_of minimum.setting encoding last =
    c.in_ok-formula.ensures ∙ ap (λ (it : Encoding). encoding_of minimum.setting it last) (encoding_is setting encoding last vars made) in
    let count : c.count.result ≡ vars_up_to minimum.setting encoding last =
    counted setting encoding last vars last c.count.result made c.count.ensures.count ∙ ap (λ (it : SettingValue). vars_up_to it encoding last) same in
    let literal : c.lit.result ≡ goal_literal minimum.setting encoding last =
    goal_named setting encoding last vars last c.so.result c.lit.result made c.so.ensures c.lit.ensures ∙ ap (λ (it : SettingValue). goal_literal it encoding last) same in
    let head : c.args.head ≡ length (head_text (head_of encoding (asked (suc last)))) =
    c.requires.head ∙ ap (λ (n : ℕ). length (head_text (head_of encoding (asked n)))) steps in
    let kept = c.self.invariant in
    let sound : IsSetting setting = record { trap = kept.trap; circuit = kept.circuit; placement = kept.placement } in
    let within : IsSmall setting last = record { ions = kept.small.ions; places = kept.small.places; ops = kept.small.ops; time = omega (arith, kept.small.time) } in
    let parts : PartsAreSmall minimum.setting encoding last = subst (λ (it : SettingValue). PartsAreSmall it encoding last) same (c.parts_are_small.ensures setting encoding last sound within) in
    let few : length c.in_ok-formula.formula ≤ 2 ^ 62 = omega (arith, parts.clauses, ap length clauses) in
    subst (λ (n : ℕ). IsReady minimum.setting encoding n c.new-checker.result c.var-goal.result) is
    (is_ready minimum minimum.setting encoding last c.count.result c.args.head c.var-goal.result c.in_ok-formula.formula c.lit.result c.new-checker.result refl clauses count literal
    c.var-goal.ensures.var c.var-goal.ensures.from_1 c.var-goal.ensures.below c.count.ensures.small few head c.new-checker.ensures.fed c.new-checker.ensures.no_fault)
