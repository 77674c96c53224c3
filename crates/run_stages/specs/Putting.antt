-- ---- working notions of private functions: what is answered, put and written
use Rattle.std.specs.Prelude.{◌≡◌, ℕ, List, Some}
use Rattle.run_answers.specs.declared.answer.Answer.{Answer}
use Rattle.run_stages.specs.declared.ending.Ending.{Ending}

-- this is answered, put and written
pub record EndsWith (answer : Answer) (put text : List ℕ) (ending : Ending) : Type 0 where
  pub answer_is : ending.answer ≡ answer
  pub put_is : ending.put ≡ Some put
  pub text_is : ending.text ≡ text
