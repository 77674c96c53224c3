-- The names of a circuit and a trap are among those that a request names.
use Rattle.std.proofs.Common.{◌≡◌, List, ℕ, Option, None, Some}
use Rattle.placement.specs.declared.rule.PlaceRule.{PlaceRule}
use Rattle.request_words.specs.declared.file.File.{File}
use Rattle.request_words.specs.declared.file.File.TheVariants.{Circuit, Trap, Schedule, Certificate}
use Rattle.request_words.specs.Request.{Search, compile, verify, file_of, named as names_for}
use Rattle.run_stages.specs.Loading.{two_names, judged_names}

pub two_of_plan : (circuit trap : List ℕ) (rule : PlaceRule) (exact : Option Search) (file : File) (name : List ℕ) → two_names circuit trap file ≡ Some name → file_of (compile circuit trap rule exact) file ≡ Some name
two_of_plan circuit trap rule exact Circuit name e = e
two_of_plan circuit trap rule exact Trap name e = e
two_of_plan circuit trap rule exact Schedule name e = absurd cc
two_of_plan circuit trap rule exact Certificate name e = absurd cc

pub two_of_check : (circuit trap schedule : List ℕ) (file : File) (name : List ℕ) → two_names circuit trap file ≡ Some name → names_for circuit trap (Some schedule) None file ≡ Some name
two_of_check circuit trap schedule Circuit name e = e
two_of_check circuit trap schedule Trap name e = e
two_of_check circuit trap schedule Schedule name e = absurd cc
two_of_check circuit trap schedule Certificate name e = absurd cc

pub two_of_verify : (circuit trap schedule cert : List ℕ) (file : File) (name : List ℕ) → two_names circuit trap file ≡ Some name → file_of (verify circuit trap schedule cert) file ≡ Some name
two_of_verify circuit trap schedule cert Circuit name e = e
two_of_verify circuit trap schedule cert Trap name e = e
two_of_verify circuit trap schedule cert Schedule name e = absurd cc
two_of_verify circuit trap schedule cert Certificate name e = absurd cc

pub judged_of_verify : (circuit trap schedule cert : List ℕ) (file : File) (name : List ℕ) → judged_names schedule cert file ≡ Some name → file_of (verify circuit trap schedule cert) file ≡ Some name
judged_of_verify circuit trap schedule cert Circuit name e = absurd cc
judged_of_verify circuit trap schedule cert Trap name e = absurd cc
judged_of_verify circuit trap schedule cert Schedule name e = e
judged_of_verify circuit trap schedule cert Certificate name e = e
