use Rattle.std.proofs.Common.{◌≡◌, ◌≤◌, ℕ, length, ap, ◌∙◌, subst}
use Rattle.derivation_log.specs.Log.{Lines, IsSound}
use Rattle.cdcl.specs.Solver.{IsVerdict}
use Rattle.step_vars.specs.declared.encoding.Encoding.TheVariants.{Counter}
use Rattle.step_rules.specs.Setting.{SettingValue, setting_of}
use Rattle.exact_search.specs.Searching.{TaskValue}
use Rattle.exact_search.proofs.Deciding.{HasFewFresh, solved, refuted_by, model_of, spent_at}
use Rattle.exact_search.proofs.search.Search.decide.Goals as goal

pub returns-in-Refuted : goal.returns-in-Refuted
returns-in-Refuted c =
    let task = c.args.task.now in
    let old = c.args.self.now.solver in
    let new = c.solve.new.self in
    let e = c.in_ok-verdict.ensures in
    let budget : c.task.inside.budget ≡ task.budget = ap (λ (it : TaskValue). it.budget) c.task.view_is in
    let few : length new.log.derived ≤ task.budget = subst (λ (n : ℕ). length new.log.derived ≤ n) budget e.budget in
    let says : IsVerdict new c.goal.result task.budget c.in_ok-verdict.verdict = subst (λ (n : ℕ). IsVerdict new c.goal.result n c.in_ok-verdict.verdict) budget e.verdict in
    let it = solved task c.args.bound old new c.goal.result c.goal.ensures.goal e.learns e.vars few (subst IsSound c.log.ensures c.axioms-axioms.ensures.sound) in
    refuted_by task c.args.bound c.axioms-axioms.result old new c.args.self.now.shown c.goal.result c.in_ok-verdict.verdict c.in-Refuted.line c.requires.added it c.goal.ensures.goal says c.in-Refuted.is
    (c.axioms-axioms.ensures.axioms ∙ ap (λ (log : Lines). length log.axioms) c.log.ensures)

pub returns-in-Model : goal.returns-in-Model
returns-in-Model c =
    let task = c.args.task.now in
    let old = c.args.self.now.solver in
    let new = c.solve.new.self in
    let e = c.in_ok-verdict.ensures in
    let budget : c.task.inside.budget ≡ task.budget = ap (λ (it : TaskValue). it.budget) c.task.view_is in
    let few : length new.log.derived ≤ task.budget = subst (λ (n : ℕ). length new.log.derived ≤ n) budget e.budget in
    let says : IsVerdict new c.goal.result task.budget c.in_ok-verdict.verdict = subst (λ (n : ℕ). IsVerdict new c.goal.result n c.in_ok-verdict.verdict) budget e.verdict in
    let it = solved task c.args.bound old new c.goal.result c.goal.ensures.goal e.learns e.vars few (subst IsSound c.log.ensures c.axioms-axioms.ensures.sound) in
    model_of task c.args.bound old new c.args.self.now.shown c.goal.result c.in_ok-verdict.verdict c.requires.added it c.goal.ensures.goal says c.in-Model.is

pub returns-in-Spent : goal.returns-in-Spent
returns-in-Spent c =
    let task = c.args.task.now in
    let old = c.args.self.now.solver in
    let new = c.solve.new.self in
    let e = c.in_ok-verdict.ensures in
    let budget : c.task.inside.budget ≡ task.budget = ap (λ (it : TaskValue). it.budget) c.task.view_is in
    let few : length new.log.derived ≤ task.budget = subst (λ (n : ℕ). length new.log.derived ≤ n) budget e.budget in
    let says : IsVerdict new c.goal.result task.budget c.in_ok-verdict.verdict = subst (λ (n : ℕ). IsVerdict new c.goal.result n c.in_ok-verdict.verdict) budget e.verdict in
    let it = solved task c.args.bound old new c.goal.result c.goal.ensures.goal e.learns e.vars few (subst IsSound c.log.ensures c.axioms-axioms.ensures.sound) in
    let setting = setting_of c.task.inside.trap.now c.task.inside.circuit.now c.task.inside.placement.now in
    let same : setting ≡ task.setting = ap (λ (it : TaskValue). it.setting) c.task.view_is in
    let it_is = c.task.invariant in
    spent_at task c.args.bound old new c.args.self.now.shown c.goal.result c.in_ok-verdict.verdict c.requires.within c.requires.added it c.goal.ensures.goal says c.in-Spent.is
    (subst (λ (it : SettingValue). HasFewFresh it c.args.bound) same
    (λ lines. c.fresh_lines_are_few.ensures setting Counter c.args.bound lines it_is.sound.trap))
