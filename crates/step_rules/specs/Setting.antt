-- What is compiled: a trap, a circuit, and the placement from which a schedule is played.
use Rattle.std.specs.Prelude.{List, Option, None, Some}
use Rattle.qc_base.specs.declared.ids.Qubit.{Qubit}
use Rattle.circuit_core.specs.Circuit.{CircuitValue}
use Rattle.circuit_core.specs.declared.op.Op.{Op}
use Rattle.circuit_core.specs.declared.op.Op.TheVariants.{U, Cx, Opaque, Measure, Reset, Barrier}
use Rattle.trap_parts.specs.Parts.{TrapValue}
use Rattle.trap_parts.specs.declared.parts.Need.{Need}
use Rattle.trap_parts.specs.declared.parts.Need.TheVariants.{One, Two, Read}

pub record SettingValue : Type 0 where
  pub trap : TrapValue
  pub circuit : CircuitValue
  pub placement : List (List Qubit)

abbrev pub setting_of : TrapValue → CircuitValue → List (List Qubit) → SettingValue
setting_of trap circuit placement = record { trap = trap; circuit = circuit; placement = placement }

-- the need of an opaque gate, by its second qubit
abbrev pub need_by : Option Qubit → Need
need_by None = One
need_by (Some second) = Two

-- the ability that an operation needs of its zone; a barrier, which isn't performed, needs none
abbrev pub need_of : Op → Option Need
need_of (U theta phi lambda qubit cond) = Some One
need_of (Cx control target cond) = Some Two
need_of (Opaque name params first second cond) = Some (need_by second)
need_of (Measure qubit bit cond) = Some Read
need_of (Reset qubit cond) = Some Read
need_of (Barrier qubits) = None
