-- Stages come to one outcome.
use Rattle.std.proofs.Common.{◌≡◌, List, ℕ, Some, None, Result, Ok, Err, refl, sym, ◌∙◌, subst, inl, inr}
use Rattle.request_words.specs.declared.file.File.TheVariants as files
use Rattle.request_words.specs.Request.{Asked, compile, check, verify, report, load}
use Rattle.run_answers.specs.declared.answer.Answer.{Answer}
use Rattle.run_answers.specs.declared.answer.Answer.TheVariants as answers
use Rattle.schedule_play.proofs.Verdicts as verdicts
use Rattle.verify_core.proofs.Judging.{judged_once}
use Rattle.step_rules.specs.declared.action.Action.{Action}
use Rattle.step_rules.specs.Setting.{SettingValue, setting_of}
use Rattle.greedy_router.proofs.RoomAnswers.{one_answer as one_room}
use Rattle.run_stages.specs.Work.{Work, judged, reported, loaded}
use Rattle.run_stages.specs.Stages.{Is, Then, Continues}
use Rattle.run_stages.specs.Found.{Found}
use Rattle.run_stages.specs.Prepare.{bytes_of, placed, within_search, JudgedFor, Comes}
use Rattle.run_stages.specs.declared.ending.Ending.{Ending}
use Rattle.run_stages.specs.Loading.{Reached, IsOnly, Finishes}
use Rattle.run_stages.proofs.Stages.{IsOne, then-one, as-one, inputs_of-one}
use Rattle.run_stages.proofs.Reading.{same_err}

-- ---- words and files come to one outcome

pub fixed-one : {X : Type 0} (value : Result X Answer) → IsOne (Is value)
fixed-one value a b p q = p ∙ sym q

pub judged-one : (work : SettingValue → List (List Action) → Work) (found : Found) → IsOne (JudgedFor work found)
judged-one work found = then-one _ _ (inputs_of-one found.circuit found.trap)
    (λ inputs. then-one _ _ (fixed-one (bytes_of files.Schedule found.schedule)) (λ bytes. as-one _ _ (judged_once verdicts.one_verdict verdicts.not_both inputs.trap inputs.circuit bytes)))

-- what a request comes to, where a verification comes to one outcome
pub comes-one : (found : Found) (asked : Asked) → ((circuit trap schedule cert : List ℕ) → asked ≡ verify circuit trap schedule cert → IsOne (Comes found asked)) → IsOne (Comes found asked)
comes-one found (compile circuit trap rule None) of_verify = then-one _ _ (inputs_of-one found.circuit found.trap) (λ inputs. then-one _ _ (fixed-one (placed rule inputs))
    (λ placement. as-one _ _ (one_room (setting_of inputs.trap inputs.circuit placement))))
comes-one found (compile circuit trap rule (Some exact)) of_verify = then-one _ _ (inputs_of-one found.circuit found.trap) (λ inputs. then-one _ _ (fixed-one (placed rule inputs))
    (λ placement. fixed-one (within_search (setting_of inputs.trap inputs.circuit placement) exact)))
comes-one found (check circuit trap schedule) of_verify = judged-one judged found
comes-one found (verify circuit trap schedule cert) of_verify = of_verify circuit trap schedule cert refl
comes-one found (report circuit trap schedule) of_verify = judged-one reported found
comes-one found (load seed schedule) of_verify = fixed-one (Ok (loaded seed))

-- ---- what a stage comes to alone

pub only_one : (stage : Result Work Answer → Type 0) (result : Result Ending Answer) → IsOne stage → Finishes stage result → IsOnly stage result
only_one stage (Ok ending) one done = λ outcome is. record { work = done.work; is = one outcome (Ok done.work) is done.is; ends = done.ends }
only_one stage (Err answer) one (inl memory) = inl memory
only_one stage (Err answer) one (inr stops) = inr (λ outcome is. one outcome (Err answer) is stops)

pub next_of : {X Y : Type 0} (first : Result X Answer → Type 0) (next : X → Result Y Answer → Type 0) (x : X) (outcome : Result Y Answer) → IsOne first → first (Ok x) → Then first next outcome → next x outcome
next_of first next x outcome one is stages = subst (λ given. Continues next given outcome) (one stages.given (Ok x) stages.is is) stages.continues

-- a stage that refuses
pub refused_early : {X Y : Type 0} (first : Result X Answer → Type 0) (next : X → Result Y Answer → Type 0) (answer : Answer) → IsOne first → first (Err answer) → (outcome : Result Y Answer) → Then first next outcome → outcome ≡ Err answer
refused_early first next answer one is outcome stages = subst (λ given. Continues next given outcome) (one stages.given (Err answer) stages.is is) stages.continues

pub only_then : {X : Type 0} (first : Result X Answer → Type 0) (next : X → Result Work Answer → Type 0) (x : X) (result : Result Ending Answer) → IsOne first → first (Ok x) → IsOnly (next x) result → IsOnly (Then first next) result
only_then first next x (Ok ending) one is only = λ outcome stages. only outcome (next_of first next x outcome one is stages)
only_then first next x (Err answer) one is (inl memory) = inl memory
only_then first next x (Err answer) one is (inr only) = inr (λ outcome stages. only outcome (next_of first next x outcome one is stages))

pub only_early : {X : Type 0} (first : Result X Answer → Type 0) (next : X → Result Work Answer → Type 0) (answer : Answer) → IsOne first → Reached first (Err answer) → IsOnly (Then first next) (Err answer)
only_early {X} first next answer one (inl memory) = inl (same_err {X = X} answer answers.NoMemory memory)
only_early first next answer one (inr is) = inr (refused_early first next answer one is)

-- ---- answers to work
