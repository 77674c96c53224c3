-- Expressions with their number of nodes, and none for one of more than 1,000.
use Rattle.std.specs.Prelude.{ℕ, ◌+◌, Option, Some, None, cond, nat_le}
use Rattle.circuit_core.specs.declared.words.BinOp.{BinOp}
use Rattle.circuit_core.specs.declared.words.FunName.{FunName}
use Rattle.qasm_read.specs.declared.exp.Exp.{Exp, roll-Exp}
use Rattle.qasm_read.specs.declared.exp.Exp.TheOpen.{Exp-F}
use Rattle.qasm_read.specs.declared.tree.Tree.{Tree}

abbrev pub leaf : Exp → Option Tree
leaf e = Some (record { exp = e; nodes = 1 })

abbrev pub sized : Exp → ℕ → Option Tree
sized e n = cond (nat_le n 1000) (Some (record { exp = e; nodes = n })) None

abbrev pub negated : Option Tree → Option Tree
negated None = None
negated (Some a) = sized (roll-Exp (Exp-F.Neg a.exp)) (a.nodes + 1)

abbrev pub applied : FunName → Option Tree → Option Tree
applied f None = None
applied f (Some a) = sized (roll-Exp (Exp-F.Fun f a.exp)) (a.nodes + 1)

abbrev pub joined : BinOp → Option Tree → Option Tree → Option Tree
joined op None b = None
joined op (Some a) None = None
joined op (Some a) (Some b) = sized (roll-Exp (Exp-F.Bin op a.exp b.exp)) (a.nodes + b.nodes + 1)
