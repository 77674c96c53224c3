-- Kinds of answers.
use Rattle.std.specs.Prelude.{◌≡◌, ◌≢◌, Bool, true, false}
use Rattle.run_answers.specs.declared.answer.Answer.{Answer}
use Rattle.run_answers.specs.declared.answer.Answer.TheVariants as answers

-- an answer to a search that found no schedule: its certificate is put, and nothing is written
abbrev pub ends_search : Answer → Bool
ends_search (answers.NoneWithin max) = true
ends_search (answers.Budget budget) = true
ends_search answer = false

-- an answer that comes before anything is put or written
pub record IsRefusal (answer : Answer) : Type 0 where
  pub ok : answer ≢ answers.Ok
  pub write : answer ≢ answers.WriteFault
  pub search : ends_search answer ≡ false

-- a text is written where all goes well
abbrev pub is_ok : Answer → Bool
is_ok answers.Ok = true
is_ok answer = false
