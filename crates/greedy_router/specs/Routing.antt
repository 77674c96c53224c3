-- Working notions of private functions: the ions and the need of each operation, and the distances to each zone.
use Rattle.std.specs.Prelude.{◌≡◌, ℕ, ◌<◌, List, [], ◌∷◌, length, map, Option, Some, None, IfSome, slice_get}
use Rattle.std.specs.Option.{option_map_or}
use Rattle.qc_base.specs.declared.ids.Ion.{Ion}
use Rattle.qc_base.specs.declared.ids.Qubit.{Qubit}
use Rattle.circuit_core.specs.declared.op.Op.{Op}
use Rattle.circuit_core.specs.Circuit.{IsCircuit}
use Rattle.circuit_core.specs.Op.{qubits_of}
use Rattle.trap_parts.specs.Parts.{TrapValue}
use Rattle.trap_parts.specs.Build.{IsTrap}
use Rattle.route_find.specs.Distances.{DistancesValue, AreDistances}
use Rattle.step_rules.specs.Setting.{SettingValue, need_of}
use Rattle.step_rules.specs.Placement.{IsPlacement, ion_of}
use Rattle.greedy_router.specs.declared.job.Job.{Job}
use Rattle.greedy_router.specs.Room.{HasRoom}

-- the ions of a job, in order
abbrev pub ions_of : Job → List Ion
ions_of job = job.first ∷ option_map_or (λ (ion : Ion). ion ∷ []) job.second []

-- the ions of an operation's qubits, and its need; none for a barrier
pub record IsJobOf (placement : List (List Qubit)) (op : Op) (job : Job) : Type 0 where
  pub need : need_of op ≡ Some job.need
  pub ions : map (ion_of placement) (qubits_of op) ≡ ions_of job

abbrev pub GivesJob : List (List Qubit) → Op → Option Job → Type 0
GivesJob placement op None = need_of op ≡ None
GivesJob placement op (Some job) = IsJobOf placement op job

-- its ions are below that number
abbrev pub IsWithin : ℕ → Job → Type 0
IsWithin count job = (job.first.0 < count) × IfSome job.second (λ (ion : Ion). ion.0 < count)

-- the jobs of these operations
pub record AreJobs (placement : List (List Qubit)) (ops : List Op) (jobs : List (Option Job)) : Type 0 where
  pub len : length jobs ≡ length ops
  pub each : (number : ℕ) (op : Op) (job : Option Job) → slice_get ops number ≡ Some op
      → slice_get jobs number ≡ Some job
      → GivesJob placement op job

-- for each of so many zones the distances of all places to it
pub record AreZoneDistances (trap : TrapValue) (count : ℕ) (zone_distances : List DistancesValue) : Type 0 where
  pub len : length zone_distances ≡ count
  pub each : (zone : ℕ) (distances : DistancesValue) → slice_get zone_distances zone ≡ Some distances
      → AreDistances trap distances × (distances.target ≡ zone)

-- what never changes while a circuit is routed
pub record MapValue : Type 0 where
  pub setting : SettingValue
  pub zone_distances : List DistancesValue
  pub jobs : List (Option Job)

pub record IsMap (map : MapValue) : Type 0 where
  pub trap : IsTrap map.setting.trap
  pub circuit : IsCircuit map.setting.circuit
  pub placed : IsPlacement map.setting.trap map.setting.circuit map.setting.placement
  pub room : HasRoom map.setting
  pub zone_distances : AreZoneDistances map.setting.trap (length map.setting.trap.zones) map.zone_distances
  pub jobs : AreJobs map.setting.placement map.setting.circuit.ops map.jobs
