-- How a clause stands where some literals are true.
use Rattle.std.specs.Prelude.{◌==◌, Bool, true, false, if◌then◌else◌, List, [], ◌∷◌}
use Rattle.sat_base.specs.Literal.{Literal, negated}
use Rattle.sat_base.specs.LitSet.{code_of}
use Rattle.lrat_out.specs.declared.standing.Standing.{Standing}
use Rattle.lrat_out.specs.declared.standing.Standing.TheVariants.{Holds, Fails, OneOpen, MoreOpen}

-- whether the literal is in the list
abbrev pub is_in : List Literal → Literal → Bool
is_in [] literal = false
is_in (first ∷ rest) literal = if code_of first == code_of literal then true else is_in rest literal

-- how a clause stands once an unassigned literal is added to it
abbrev pub opened : Literal → Standing → Standing
opened literal Holds = Holds
opened literal Fails = OneOpen literal
opened literal (OneOpen other) = MoreOpen
opened literal MoreOpen = MoreOpen

-- it holds where a literal of it is true; else all its literals are false, all but one, or fewer
abbrev pub standing : List Literal → List Literal → Standing
standing trues [] = Fails
standing trues (literal ∷ rest) =
    if is_in trues literal then Holds
    else if is_in trues (negated literal) then standing trues rest
    else opened literal (standing trues rest)

-- how a clause stands that begins with literals of the one standing, none of them true, and goes on with the other
abbrev pub merged : Standing → Standing → Standing
merged Holds other = Holds
merged Fails other = other
merged (OneOpen literal) other = opened literal other
merged MoreOpen Holds = Holds
merged MoreOpen Fails = MoreOpen
merged MoreOpen (OneOpen literal) = MoreOpen
merged MoreOpen MoreOpen = MoreOpen
