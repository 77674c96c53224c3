use Rattle.step_vars.proofs.StepHelpers.{place_helpers, activity_helpers}
use Rattle.step_vars.proofs.laws.steps_have_equal_helpers.Goals as goal

pub returns : goal.returns
returns c = record { places = place_helpers; activities = activity_helpers }
