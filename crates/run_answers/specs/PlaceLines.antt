-- What is said where a rule gives no placement, in pieces.
use Rattle.std.specs.Prelude.{ℕ, List, [], ◌∷◌, ◌++◌, codes, decimal}
use Rattle.step_rules.specs.declared.placement.GivenFault.{GivenFault}
use Rattle.step_rules.specs.declared.placement.GivenFault.TheVariants as givens
use Rattle.placement.specs.declared.fault.PlaceFault.{PlaceFault}
use Rattle.placement.specs.declared.fault.PlaceFault.TheVariants as places
use Rattle.run_answers.specs.Line.{name_text}
use Rattle.run_answers.specs.Names.{Names, zone_name, label_said}

-- lists of a trap's file that are no placement
abbrev pub given_said : Names → GivenFault → List (List ℕ)
given_said names (givens.Repeated qubit) = codes "placement: " ∷ label_said names qubit ++ codes " twice" ∷ []
given_said names (givens.Full zone) =
    codes "placement: zone " ∷ name_text (zone_name names zone) ∷ codes " full" ∷ []
given_said names (givens.Missing qubit) =
    codes "placement: " ∷ label_said names qubit ++ codes " missing" ∷ []
given_said names givens.NoMemory = codes "no memory" ∷ []

-- a rule that gives no placement
abbrev pub place_said : Names → PlaceFault → List (List ℕ)
place_said names (places.TooManyQubits qubits room) =
    codes "placement: " ∷ decimal qubits ∷ codes " qubits, room for " ∷ decimal room ∷ []
place_said names places.NoTable = codes "placement: no table" ∷ []
place_said names (places.UnknownQubit zone label) = codes "placement: unknown qubit " ∷ name_text label ∷ []
place_said names (places.Given fault) = given_said names fault
place_said names places.NoMemory = codes "no memory" ∷ []
