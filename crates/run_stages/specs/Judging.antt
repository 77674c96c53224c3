-- ---- working notions of private functions: files that are judged
use Rattle.std.specs.Prelude.{ℕ, List, Option, Result, IsTrue}
use Rattle.qc_base.specs.Shelf.{ShelfFacts}
use Rattle.step_rules.specs.declared.action.Action.{Action}
use Rattle.step_rules.specs.Setting.{SettingValue}
use Rattle.run_answers.specs.declared.answer.Answer.{Answer}
use Rattle.run_stages.specs.declared.inputs.Inputs.{Inputs}
use Rattle.run_stages.specs.declared.ending.Ending.{Ending}
use Rattle.run_stages.specs.declared.check.Saying.{Saying}
use Rattle.run_stages.specs.declared.check.Saying.TheVariants as sayings
use Rattle.run_stages.specs.Work.{Work, judged, reported}
use Rattle.run_stages.specs.Found.{IsFoundAs}
use Rattle.run_stages.specs.Prepare.{JudgedOf, VerifiedIn, VerifiedOf}
use Rattle.run_stages.specs.Loading.{Finishes, IsOnly}

-- what was found of the schedule's file, and what the stages came to with it
pub record Judging (work : SettingValue → List (List Action) → Work) (before now : ShelfFacts)
    (name : List ℕ) (inputs : Inputs) (result : Result Ending Answer) : Type 0 where
  pub content : Option (List ℕ)
  pub is_found : IsFoundAs before now name content
  pub finishes : Finishes (JudgedOf work content inputs) result

-- what was found of the certificate's file, and what the stages came to with it and with the text of a
-- schedule
pub record VerifyingText (before now : ShelfFacts) (cert : List ℕ) (inputs : Inputs) (text : List ℕ)
    (result : Result Ending Answer) : Type 0 where
  pub certificate : Option (List ℕ)
  pub is_found : IsFoundAs before now cert certificate
  pub finishes : Finishes (VerifiedIn certificate inputs text) result
  pub only : IsTrue before.known → IsOnly (VerifiedIn certificate inputs text) result

-- what was found of the files of the schedule and the certificate, and what the stages came to with it
pub record Verifying (before now : ShelfFacts) (schedule cert : List ℕ) (inputs : Inputs)
    (result : Result Ending Answer) : Type 0 where
  pub content : Option (List ℕ)
  pub certificate : Option (List ℕ)
  pub schedule_found : IsFoundAs before now schedule content
  pub cert_found : IsFoundAs before now cert certificate
  pub finishes : Finishes (VerifiedOf content certificate inputs) result
  pub only : IsTrue before.known → IsOnly (VerifiedOf content certificate inputs) result

-- the work with a schedule that plays
abbrev pub as_work : Saying → SettingValue → List (List Action) → Work
as_work sayings.Line = judged
as_work sayings.Report = reported
