-- The headline from what a run claims.
use Rattle.std.proofs.Common.{◌≡◌, ◌≢◌, List, ℕ, Option, Some, None, refl, ap, subst, inl, inr}
use Rattle.std.specs.Prelude.{slice_get}
use Rattle.std.specs.Option.{option_and_then}
use Rattle.qc_base.specs.declared.ids.OpId.{OpId}
use Rattle.qc_base.specs.declared.ids.PlaceId.{PlaceId}
use Rattle.circuit_core.specs.declared.op.Op.{Op}
use Rattle.circuit_core.specs.Circuit.{CircuitValue}
use Rattle.trap_parts.specs.Parts.{TrapValue}
use Rattle.qc_base.specs.declared.ids.Qubit.{Qubit}
use Rattle.qc_base.specs.Sink.{Took}
use Rattle.step_rules.specs.declared.action.Action.TheVariants as actions
use Rattle.step_rules.specs.Setting.{SettingValue, setting_of}
use Rattle.schedule_text.specs.Text.{action_line}
use Rattle.placement.specs.declared.rule.PlaceRule.{PlaceRule}
use Rattle.request_words.specs.Request.{Asked, Search, compile, request_of, put_of}
use Rattle.run_answers.specs.declared.answer.Answer.{Answer}
use Rattle.run_answers.specs.declared.answer.Answer.TheVariants as answers
use Rattle.run_stages.specs.declared.ending.Ending.{Ending}
use Rattle.run_stages.specs.Exact.{IsLeastWritten, IsNoneFound, IsBudgetSpent}
use Rattle.run_stages.specs.Work.{Work, fewest, Ends, EndsSearch, IsTightTextOf}
use Rattle.run_stages.specs.Stages.{Is}
use Rattle.run_stages.specs.Found.{Found, put_name}
use Rattle.run_stages.specs.Prepare.{Routed, within_search}
use Rattle.program_run.specs.Run.{Devices, Writes, Puts, Holds}
use Rattle.program_run.specs.Headline.{line_with_ions, Compiled, Searched, FoundNone, SpentBudget}
use Rattle.program_run.proofs.Went.{asked_for, placed_by, routed_work, sought_work}

named : (trap : TrapValue) (circuit : CircuitValue) (placement : List (List Qubit)) (zone : PlaceId) (number : OpId) (op : Op) → slice_get circuit.ops number.0 ≡ Some op
    → action_line (setting_of trap circuit placement) (actions.Op zone number) ≡ line_with_ions trap circuit placement zone number op
named trap circuit placement zone number op e = rw e refl

ok_is_found : (most : ℕ) → answers.Ok ≢ answers.NoneWithin most
ok_is_found most e = cc

ok_is_within : (spent : ℕ) → answers.Ok ≢ answers.Budget spent
ok_is_within spent e = cc

-- a search that ends in Ok
pub least_written : (setting : SettingValue) (max budget : ℕ) (ending : Ending) → EndsSearch setting max budget answers.Ok ending → IsLeastWritten setting max budget ending
least_written setting max budget ending (inl least) = least.1
least_written setting max budget ending (inr (inl none)) = absurd (ok_is_found max none.0)
least_written setting max budget ending (inr (inr spent)) = absurd (ok_is_within budget spent.0)

put_under : (words : List (List ℕ)) (circuit trap : List ℕ) (rule : PlaceRule) (exact : Search) → request_of words ≡ Some (compile circuit trap rule (Some exact)) → put_name words ≡ Some exact.cert
put_under words circuit trap rule exact request = ap (λ (asked : Option Asked). option_and_then put_of asked) request

pub compiled : (found : Found) (words : List (List ℕ)) (circuit trap : List ℕ) (rule : PlaceRule) (exact : Option Search) (before now : Devices) → request_of words ≡ Some (compile circuit trap rule exact)
    → Writes found words answers.Ok before now → Compiled found rule exact before now
compiled found words circuit trap rule None before now request writes =
    let work = writes.done.work in
    let plan = placed_by found rule Routed work (asked_for found words (compile circuit trap rule None) work request writes.done.is) in
    let setting = setting_of plan.trap plan.circuit plan.placement in
    let ends : IsTightTextOf setting writes.ending.text =
    (subst (λ (w : Work). Ends w answers.Ok writes.ending) (routed_work setting work plan.continues) writes.done.ends).1.schedule in
    record {
      circuit = plan.circuit;
      circuit_is = plan.circuit_is;
      trap = plan.trap;
      labels = plan.labels;
      trap_is = plan.trap_is;
      placement = plan.placement;
      placement_is = plan.placement_is;
      schedule = ends.is.schedule;
      plays = ends.is.plays;
      named = named plan.trap plan.circuit plan.placement;
      fewest = tt;
      taken = subst (λ (text : List ℕ). Took before.out.taken now.out.taken text) ends.is.text_is writes.whole.taken;
    }
compiled found words circuit trap rule (Some exact) before now request writes =
    let work = writes.done.work in
    let plan = placed_by found rule (λ setting. Is (within_search setting exact)) work (asked_for found words (compile circuit trap rule (Some exact)) work request writes.done.is) in
    let setting = setting_of plan.trap plan.circuit plan.placement in
    let ends : EndsSearch setting exact.max exact.budget answers.Ok writes.ending =
    subst (λ (w : Work). Ends w answers.Ok writes.ending) (sought_work setting exact work plan.continues).1 writes.done.ends in
    let least = least_written setting exact.max exact.budget writes.ending ends in
    let holds : Holds before.shelf now.shelf (Some exact.cert) (Some least.put) =
    subst (λ (put : Option (List ℕ)). Holds before.shelf now.shelf (Some exact.cert) put) least.put_is
    (subst (λ (name : Option (List ℕ)). Holds before.shelf now.shelf name writes.ending.put) (put_under words circuit trap rule exact request) writes.whole.holds) in
    record {
      circuit = plan.circuit;
      circuit_is = plan.circuit_is;
      trap = plan.trap;
      labels = plan.labels;
      trap_is = plan.trap_is;
      placement = plan.placement;
      placement_is = plan.placement_is;
      schedule = least.schedule;
      plays = least.shown.least.plays;
      named = named plan.trap plan.circuit plan.placement;
      fewest = record { cert = least.put; shown = least.shown; holds = holds };
      taken = subst (λ (text : List ℕ). Took before.out.taken now.out.taken text) least.text_is writes.whole.taken;
    }

-- ---- a search that finds no schedule

none_is_ok : (most : ℕ) → answers.NoneWithin most ≢ answers.Ok
none_is_ok most e = cc

none_is_spent : (most budget : ℕ) → answers.NoneWithin most ≢ answers.Budget budget
none_is_spent most budget e = cc

same_most : (most max : ℕ) → ◌≡◌ {A = Answer} (answers.NoneWithin most) (answers.NoneWithin max) → most ≡ max
same_most most max e = cc

spent_is_ok : (spent : ℕ) → answers.Budget spent ≢ answers.Ok
spent_is_ok spent e = cc

spent_is_none : (spent max : ℕ) → answers.Budget spent ≢ answers.NoneWithin max
spent_is_none spent max e = cc

same_spent : (spent budget : ℕ) → ◌≡◌ {A = Answer} (answers.Budget spent) (answers.Budget budget) → spent ≡ budget
same_spent spent budget e = cc

found_none : (setting : SettingValue) (max budget most : ℕ) (ending : Ending) → EndsSearch setting max budget (answers.NoneWithin most) ending → (most ≡ max) × IsNoneFound setting max budget ending
found_none setting max budget most ending (inl least) = absurd (none_is_ok most least.0)
found_none setting max budget most ending (inr (inl none)) = (same_most most max none.0, none.1)
found_none setting max budget most ending (inr (inr spent)) = absurd (none_is_spent most budget spent.0)

budget_spent : (setting : SettingValue) (max budget spent : ℕ) (ending : Ending) → EndsSearch setting max budget (answers.Budget spent) ending → (spent ≡ budget) × IsBudgetSpent setting max budget ending
budget_spent setting max budget spent ending (inl least) = absurd (spent_is_ok spent least.0)
budget_spent setting max budget spent ending (inr (inl none)) = absurd (spent_is_none spent max none.0)
budget_spent setting max budget spent ending (inr (inr it)) = (same_spent spent budget it.0, it.1)

searched : (found : Found) (words : List (List ℕ)) (circuit trap : List ℕ) (rule : PlaceRule) (exact : Search) (answer : Answer) (before now : Devices) (ends : SettingValue → Ending → Type 0)
    → request_of words ≡ Some (compile circuit trap rule (Some exact)) → ((setting : SettingValue) (ending : Ending) → EndsSearch setting exact.max exact.budget answer ending → ends setting ending)
    → Puts found words answer before now → Searched found rule exact before now ends
searched found words circuit trap rule exact answer before now ends request gives puts =
    let work = puts.done.work in
    let plan = placed_by found rule (λ setting. Is (within_search setting exact)) work (asked_for found words (compile circuit trap rule (Some exact)) work request puts.done.is) in
    let setting = setting_of plan.trap plan.circuit plan.placement in
    let ended : EndsSearch setting exact.max exact.budget answer puts.ending =
    subst (λ (w : Work). Ends w answer puts.ending) (sought_work setting exact work plan.continues).1 puts.done.ends in
    record {
      circuit = plan.circuit;
      circuit_is = plan.circuit_is;
      trap = plan.trap;
      labels = plan.labels;
      trap_is = plan.trap_is;
      placement = plan.placement;
      placement_is = plan.placement_is;
      ending = puts.ending;
      is = gives setting puts.ending ended;
      holds = subst (λ (name : Option (List ℕ)). Holds before.shelf now.shelf name puts.ending.put) (put_under words circuit trap rule exact request) puts.put.holds;
      out = puts.put.out;
    }

pub none_refuted : (found : Found) (words : List (List ℕ)) (circuit trap : List ℕ) (rule : PlaceRule) (exact : Search) (most : ℕ) (before now : Devices)
    → request_of words ≡ Some (compile circuit trap rule (Some exact)) → Puts found words (answers.NoneWithin most) before now → FoundNone found rule exact most before now
none_refuted found words circuit trap rule exact most before now request =
    searched found words circuit trap rule exact (answers.NoneWithin most) before now (λ setting ending. (most ≡ exact.max) × IsNoneFound setting exact.max exact.budget ending) request
    (λ setting ending. found_none setting exact.max exact.budget most ending)

pub left_open : (found : Found) (words : List (List ℕ)) (circuit trap : List ℕ) (rule : PlaceRule) (exact : Search) (spent : ℕ) (before now : Devices)
    → request_of words ≡ Some (compile circuit trap rule (Some exact)) → Puts found words (answers.Budget spent) before now → SpentBudget found rule exact spent before now
left_open found words circuit trap rule exact spent before now request =
    searched found words circuit trap rule exact (answers.Budget spent) before now (λ setting ending. (spent ≡ exact.budget) × IsBudgetSpent setting exact.max exact.budget ending) request
    (λ setting ending. budget_spent setting exact.max exact.budget spent ending)
