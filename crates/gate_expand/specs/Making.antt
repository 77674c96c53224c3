-- What was made so far, and its limits.
use Rattle.std.specs.Prelude.{ℕ, ◌+◌, List, [], ◌∷◌, ◌++◌, length, nat_le, nat_lt, Result, Ok}
use Rattle.circuit_core.specs.declared.op.Op.{Op}
use Rattle.circuit_core.specs.Circuit.{all_nodes}
use Rattle.gate_names.specs.declared.cause.Cause.{Cause}
use Rattle.gate_names.specs.declared.cause.Cause.TheVariants.{TooMany}
use Rattle.gate_names.specs.declared.cause.Counted.TheVariants.{Applications, Ops, Nodes}
use Rattle.gate_names.specs.Causes.{◌>>◌, refuse_if}

-- the operations so far, and how many applications were reached
pub record MadeValue : Type 0 where
  pub ops : List Op
  pub applications : ℕ

-- a step that makes something
abbrev pub Maker : Type 0
Maker = MadeValue → Result MadeValue Cause

-- an application more
abbrev pub counted : Maker
counted made =
    refuse_if (nat_le 100000 made.applications) (TooMany Applications)
    >> Ok (record { ops = made.ops; applications = made.applications + 1 })

-- an operation more
abbrev pub with_op : Op → Maker
with_op op made =
    refuse_if (nat_le 10000 (length made.ops)) (TooMany Ops)
    >> refuse_if (nat_lt 1000000 (all_nodes (made.ops ++ op ∷ []))) (TooMany Nodes)
    >> Ok (record { ops = made.ops ++ op ∷ []; applications = made.applications })
