-- What is said of the text of a schedule.
use Rattle.std.proofs.Common.{◌≡◌, List, ℕ, Ok, Err, refl, sym, subst, inl, inr}
use Rattle.step_rules.specs.Setting.{setting_of}
use Rattle.verify_core.specs.declared.judge.Checked.{Checked}
use Rattle.verify_core.specs.declared.fault.CheckFault.{CheckFault}
use Rattle.verify_core.specs.declared.fault.CheckFault.TheVariants as faults
use Rattle.verify_core.specs.Judging.{Judges, JudgesUnlessMemory}
use Rattle.run_answers.specs.declared.answer.Answer.{Answer}
use Rattle.run_stages.specs.declared.inputs.Inputs.{Inputs}
use Rattle.run_stages.specs.declared.ending.Ending.{Ending}
use Rattle.step_rules.specs.declared.action.Action.{Action}
use Rattle.step_rules.specs.Setting.{SettingValue}
use Rattle.run_answers.specs.declared.answer.Answer.TheVariants as answers
use Rattle.run_stages.specs.declared.check.Saying.{Saying}
use Rattle.run_stages.specs.Work.{Work, Ends, written}
use Rattle.run_stages.specs.Judging.{as_work}
use Rattle.run_stages.specs.Prepare.{JudgedIn, check_refusal}
use Rattle.run_stages.specs.Loading.{Finishes}

pub judged_ok : (inputs : Inputs) (bytes : List ℕ) (saying : Saying) (checked : Checked) (text : List ℕ) (ending : Ending) → Judges inputs.trap inputs.circuit bytes (Ok checked)
    → Ends (as_work saying (setting_of inputs.trap inputs.circuit checked.placement) checked.schedule) answers.Ok (written text)
    → ending ≡ written text → Finishes (JudgedIn (as_work saying) inputs bytes) (Ok ending)
judged_ok inputs bytes saying checked text ending judges ends made = record {
  work = as_work saying (setting_of inputs.trap inputs.circuit checked.placement) checked.schedule;
  is = record { judgement = Ok checked; is = judges; outcome_is = refl };
  ends = subst (λ (e : Ending). Ends (as_work saying (setting_of inputs.trap inputs.circuit checked.placement) checked.schedule) e.answer e) (sym made) ends;
}

refused : (work : SettingValue → List (List Action) → Work) (inputs : Inputs) (bytes : List ℕ) (fault : CheckFault) → JudgesUnlessMemory inputs.trap inputs.circuit bytes (Err fault) → Finishes (JudgedIn work inputs bytes) (Err (check_refusal fault))
refused work inputs bytes faults.NoMemory judges = inl refl
refused work inputs bytes (faults.Text line) judges = inr (record { judgement = Err (faults.Text line); is = judges; outcome_is = refl })
refused work inputs bytes (faults.Illegal fault) judges = inr (record { judgement = Err (faults.Illegal fault); is = judges; outcome_is = refl })

pub judged_err : (work : SettingValue → List (List Action) → Work) (inputs : Inputs) (bytes : List ℕ) (fault : CheckFault) (answer : Answer) → JudgesUnlessMemory inputs.trap inputs.circuit bytes (Err fault) → answer ≡ check_refusal fault
    → Finishes (JudgedIn work inputs bytes) (Err answer)
judged_err work inputs bytes fault answer judges is = subst (λ (a : Answer). Finishes (JudgedIn work inputs bytes) (Err a)) (sym is) (refused work inputs bytes fault judges)
