-- Stages of a run, one after another, each of which may refuse.
use Rattle.std.specs.Prelude.{◌≡◌, Result, Ok, Err}
use Rattle.run_answers.specs.declared.answer.Answer.{Answer}

-- a refusal stays, and anything else continues to the next stage
abbrev pub Continues : {X Y : Type 0} → (X → Result Y Answer → Type 0) → Result X Answer → Result Y Answer
    → Type 0
Continues next (Ok x) outcome = next x outcome
Continues next (Err answer) outcome = outcome ≡ Err answer

-- the first stage, and then the next, with what the first gave
pub record Then {X Y : Type 0} (first : Result X Answer → Type 0) (next : X → Result Y Answer → Type 0)
    (outcome : Result Y Answer) : Type 0 where
  pub given : Result X Answer
  pub is : first given
  pub continues : Continues next given outcome

-- a stage whose outcome is this value
abbrev pub Is : {X : Type 0} → Result X Answer → Result X Answer → Type 0
Is value outcome = outcome ≡ value

-- a stage that hands on what another judges, as that function sees it
pub record As {R X : Type 0} (judges : R → Type 0) (see : R → Result X Answer) (outcome : Result X Answer)
    : Type 0 where
  pub judgement : R
  pub is : judges judgement
  pub outcome_is : outcome ≡ see judgement
