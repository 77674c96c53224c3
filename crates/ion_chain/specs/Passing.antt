-- How ions pass from one list into another. Lists run from end a to end b.
use Rattle.std.specs.Prelude.{ℕ, ◌-◌, List, ◌++◌, reverse, length, take, drop}
use Rattle.qc_base.specs.declared.ids.Ion.{Ion}
use Rattle.qc_base.specs.declared.ids.End.{End}
use Rattle.qc_base.specs.declared.ids.End.TheVariants.{A, B}

-- the list read so that it ends at this end; and a list so read, read from end a again
abbrev pub outward : End → List Ion → List Ion
outward A ions = reverse ions
outward B ions = ions

-- the last count ions of the list read outward, as they are read
abbrev pub leaving : End → ℕ → List Ion → List Ion
leaving end count ions = drop (length ions - count) (outward end ions)

-- the list without them
abbrev pub left : End → ℕ → List Ion → List Ion
left end count ions = outward end (take (length ions - count) (outward end ions))

-- the list after those that leave another one come in by this end, the outermost of them first
abbrev pub joined : End → List Ion → List Ion → List Ion
joined into coming ions = outward into (outward into ions ++ reverse coming)
