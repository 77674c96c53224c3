-- ---- for private functions: the nodes of the angles so far.
use Rattle.std.specs.Prelude.{ℕ, nat_lt, Result, Ok}
use Rattle.gate_names.specs.declared.cause.Cause.{Cause}
use Rattle.gate_names.specs.declared.cause.Cause.TheVariants.{TooMany}
use Rattle.gate_names.specs.declared.cause.Counted.TheVariants.{Nodes}
use Rattle.gate_names.specs.Causes.{◌>>◌, refuse_if}

abbrev pub nodes_fit : ℕ → Result ℕ Cause
nodes_fit nodes = refuse_if (nat_lt 1000000 nodes) (TooMany Nodes) >> Ok nodes
