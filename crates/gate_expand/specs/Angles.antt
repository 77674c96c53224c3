-- The angles that the expressions in a gate's parameters become.
use Rattle.std.specs.Prelude.{ℕ, ◌-◌, ◌≤◌, List, slice_index_or, nat_le, nat_lt, Bool, if◌then◌else◌, Option, Some, None, Result, Ok}
use Rattle.circuit_core.specs.declared.angle.Angle.{Angle, roll-Angle}
use Rattle.circuit_core.specs.declared.angle.Angle.TheOpen.{Angle-F}
use Rattle.circuit_core.specs.Angle.{nodes_of}
use Rattle.gate_names.specs.declared.term.Term.{Term, fold-Term}
use Rattle.gate_names.specs.declared.term.Term.TheOpen.{Term-F}
use Rattle.gate_names.specs.declared.cause.Cause.{Cause}
use Rattle.gate_names.specs.declared.cause.Cause.TheVariants.{AngleLarge}
use Rattle.gate_names.specs.Causes.{◌>>◌, each, refuse_if}

abbrev pub put_step : List Angle → Term-F Angle → Angle
put_step angles (Term-F.Real text) = roll-Angle (Angle-F.Real text)
put_step angles (Term-F.Int n) = roll-Angle (Angle-F.Int n)
put_step angles Term-F.Pi = roll-Angle Angle-F.Pi
put_step angles (Term-F.Neg a) = roll-Angle (Angle-F.Neg a)
put_step angles (Term-F.Bin op a b) = roll-Angle (Angle-F.Bin op a b)
put_step angles (Term-F.Fun f a) = roll-Angle (Angle-F.Fun f a)
put_step angles (Term-F.Param k) = slice_index_or angles k (roll-Angle Angle-F.Pi)

-- the expression with the angles put for the parameters
abbrev pub put : List Angle → Term → Angle
put angles = fold-Term Angle (put_step angles)

abbrev pub is_large : Angle → Bool
is_large angle = nat_lt 1000 (nodes_of angle)

-- the same, where it is not too large
abbrev pub put_small : List Angle → Term → Result Angle Cause
put_small angles term = refuse_if (is_large (put angles term)) AngleLarge >> Ok (put angles term)

abbrev pub put_all : List Angle → List Term → Result (List Angle) Cause
put_all angles = each (put_small angles)

-- ---- for private functions

abbrev pub IsSmall : Angle → Type 0
IsSmall angle = nodes_of angle ≤ 1000

-- what is left of the room for nodes
abbrev pub room_left : ℕ → ℕ → Option ℕ
room_left room nodes = if nat_le nodes room then Some (room - nodes) else None
