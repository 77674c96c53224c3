-- The cause of a refusal with the place of its statement.
use Rattle.std.specs.Prelude.{ℕ}
use Rattle.gate_names.specs.declared.cause.Cause.{Cause}
use Rattle.gate_names.specs.declared.cause.Cause.TheVariants as causes
use Rattle.gate_expand.specs.declared.fault.ExpandFault.{ExpandFault}
use Rattle.gate_expand.specs.declared.fault.ExpandFault.TheVariants as faults

-- the fault of a statement that begins at that byte
abbrev pub fault_at : ℕ → Cause → ExpandFault
fault_at at causes.Include = faults.Include at
fault_at at causes.Undeclared = faults.Undeclared at
fault_at at causes.Redeclared = faults.Redeclared at
fault_at at causes.Kind = faults.Kind at
fault_at at causes.Params = faults.Params at
fault_at at causes.Args = faults.Args at
fault_at at causes.Index = faults.Index at
fault_at at causes.Zero = faults.Zero at
fault_at at causes.Sizes = faults.Sizes at
fault_at at causes.Repeated = faults.Repeated at
fault_at at causes.SelfMeasure = faults.SelfMeasure at
fault_at at causes.WideOp = faults.WideOp at
fault_at at causes.AngleLarge = faults.AngleLarge at
fault_at at (causes.TooMany what) = faults.TooMany what at
fault_at at causes.NoMemory = faults.NoMemory
