-- ---- for private functions: the rows of the library, and the gates that they are.
use Rattle.std.specs.Prelude.{ℕ, List, [], ◌∷◌, map}
use Rattle.gate_names.specs.declared.gate.Gate.TheVariants.{Body}
use Rattle.gate_names.specs.declared.gate.Item.{Item}
use Rattle.gate_names.specs.declared.gate.Item.TheVariants as item
use Rattle.gate_names.specs.declared.library_rows.Turn.{Turn}
use Rattle.gate_names.specs.declared.library_rows.Turn.TheVariants as turn
use Rattle.gate_names.specs.declared.library_rows.Angles.{Angles}
use Rattle.gate_names.specs.declared.library_rows.Angles.TheVariants.{NoAngle, OneAngle, TwoAngles, ThreeAngles}
use Rattle.gate_names.specs.declared.library_rows.Qubits.{Qubits}
use Rattle.gate_names.specs.declared.library_rows.Qubits.TheVariants.{On, OnTwo, OnThree}
use Rattle.gate_names.specs.declared.library_rows.Call.{Call}
use Rattle.gate_names.specs.declared.library_rows.Row.{Row}
use Rattle.circuit_core.specs.declared.words.BinOp.{BinOp}
use Rattle.gate_names.specs.declared.term.Term.{Term, roll-Term}
use Rattle.gate_names.specs.declared.term.Term.TheOpen.{Term-F}
use Rattle.gate_names.specs.Library.{LibraryGate, param, int, pi, minus, plus, less, over}

abbrev pub joined : BinOp → ℕ → ℕ → Term
joined op j k = roll-Term (Term-F.Bin op (param j) (param k))

abbrev pub term_of : Turn → Term
term_of turn.Zero = int 0
term_of turn.Pi = pi
term_of (turn.Param k) = param k
term_of (turn.PiOver n) = over pi n
term_of (turn.MinusPiOver n) = over (minus pi) n
term_of (turn.Half k) = over (param k) 2
term_of (turn.MinusHalf k) = over (minus (param k)) 2
term_of (turn.HalfSum j k) = over (plus (param j) (param k)) 2
term_of (turn.HalfDifference j k) = over (less (param j) (param k)) 2
term_of (turn.MinusHalfSum j k) = over (minus (plus (param j) (param k))) 2

abbrev pub terms_of : Angles → List Term
terms_of NoAngle = []
terms_of (OneAngle t) = term_of t ∷ []
terms_of (TwoAngles t u) = term_of t ∷ term_of u ∷ []
terms_of (ThreeAngles t u v) = term_of t ∷ term_of u ∷ term_of v ∷ []

abbrev pub positions_of : Qubits → List ℕ
positions_of (On j) = j ∷ []
positions_of (OnTwo j k) = j ∷ k ∷ []
positions_of (OnThree j k l) = j ∷ k ∷ l ∷ []

abbrev pub item_of : Call → Item
item_of call = item.Call call.0 (terms_of call.1) (positions_of call.2)

abbrev pub gate_of : Row → LibraryGate
gate_of row = record { name = row.name.now; gate = Body row.params row.qubits (map item_of row.calls.now) }
