-- The jobs of the operations.
use Rattle.std.proofs.Common.{◌≡◌, ℕ, ◌<◌, ◌≤◌, List, [], ◌∷◌, length, map, true, false, Some, None, refl, subst, inl, inr, arith}
use Rattle.std.specs.Prelude.{Option, All, IfSome, slice_get, not, ◌==◌}
use Rattle.std.specs.Option.{option_map_or}
use Rattle.std.proofs.lemmas.Bool.{cases_Bool, false≢true}
use Rattle.std.proofs.lemmas.List.Elements.{All-map, All-weaker}
use Rattle.std.proofs.lemmas.Option.{slice_get_cases, slice_get_within, get_or_from_slice_get}
use Rattle.qc_base.specs.declared.ids.Ion.{Ion}
use Rattle.qc_base.specs.declared.ids.Qubit.{Qubit}
use Rattle.circuit_core.specs.declared.op.Op.{Op}
use Rattle.circuit_core.specs.declared.op.Op.TheVariants.{U, Cx, Opaque, Measure, Reset, Barrier}
use Rattle.circuit_core.specs.Circuit.{IsOpOf, qubit_count}
use Rattle.circuit_core.specs.Op.{qubits_of, is_barrier}
use Rattle.step_rules.specs.Setting.{need_of}
use Rattle.step_rules.specs.Placement.{reading_order, ion_of, place_of, times}
use Rattle.circuit_core.specs.Order.{is_performed}
use Rattle.greedy_router.specs.declared.job.Job.{Job}
use Rattle.greedy_router.specs.Routing.{MapValue, IsMap, IsWithin, IsJobOf, GivesJob}

some_op : (found : Option Op) → option_map_or (λ (op : Op). not (is_barrier op)) found false ≡ true → (op : Op) × (found ≡ Some op) × (not (is_barrier op) ≡ true)
some_op None e = absurd (false≢true e)
some_op (Some op) e = (op, refl, e)

needed : (op : Op) → not (is_barrier op) ≡ true → need_of op ≡ None → ⊥
needed (U theta phi lambda qubit cond) performed e = absurd cc
needed (Cx control target cond) performed e = absurd cc
needed (Opaque name params first second cond) performed e = absurd cc
needed (Measure qubit bit cond) performed e = absurd cc
needed (Reset qubit cond) performed e = absurd cc
needed (Barrier qubits) performed e = false≢true performed

some_job : (placement : List (List Qubit)) (op : Op) (job : Option Job) → GivesJob placement op job → not (is_barrier op) ≡ true → (it : Job) × (job ≡ Some it)
some_job placement op None gives performed = absurd (needed op performed gives)
some_job placement op (Some it) gives performed = (it, refl)

-- the operation of a job
pub record HasJob (map : MapValue) (number : ℕ) (job : Job) : Type 0 where
  pub op : Op
  pub there : slice_get map.setting.circuit.ops number ≡ Some op
  pub is : IsJobOf map.setting.placement op job

pub has_job : (map : MapValue) (op : ℕ) (job : Job) → IsMap map → slice_get map.jobs op ≡ Some (Some job) → HasJob map op job
has_job map op job is e = elim (slice_get_cases map.setting.circuit.ops op).1 [
  | inl found ↦ record { op = found.0; there = found.2; is = is.jobs.each op found.0 (Some job) found.2 e }
  | inr past ↦ (let within : op < length map.jobs = slice_get_within map.jobs op (Some job) e in absurd (omega (arith, is.jobs.len, past.0)))
]

-- a qubit that is in a list has a place in it
place_below : (q : Qubit) (list : List Qubit) → 1 ≤ times q.0 list → place_of q list < length list
place_below q [] some = absurd (omega arith)
place_below q (other ∷ list) some =
    elim (cases_Bool (other.0 == q.0)) [
      | inl same ↦ rw same (omega arith)
      | inr different ↦ (let kept = rw different at some in let more : place_of q list < length list = place_below q list (omega (arith, kept)) in rw different (omega (arith, more)))
    ]

within_of : (count : ℕ) (first : Ion) (second : Option Ion) → All (λ (ion : Ion). ion.0 < count) (first ∷ option_map_or (λ (ion : Ion). ion ∷ []) second [])
    → (first.0 < count) × IfSome second (λ (ion : Ion). ion.0 < count)
within_of count first None all = (all 0 first (omega arith), tt)
within_of count first (Some other) all = (all 0 first (omega arith), all 1 first (omega arith))

-- an operation that is no barrier has one
pub job_there : (map : MapValue) (op : ℕ) (job : Option Job) → IsMap map → is_performed map.setting.circuit op ≡ true → slice_get map.jobs op ≡ Some job → (it : Job) × (job ≡ Some it)
job_there map op job is performed e =
    let found = some_op (slice_get map.setting.circuit.ops op) performed in
    some_job map.setting.placement found.0 job (is.jobs.each op found.0 job found.1 e) found.2

pub job_within : (map : MapValue) (op : ℕ) (job : Job) → IsMap map → slice_get map.jobs op ≡ Some (Some job) → IsWithin (length (reading_order map.setting.placement)) job
job_within map op job is e =
    let has = has_job map op job is e in
    let count : ℕ = length (reading_order map.setting.placement) in
    let in_ops : op < length map.setting.circuit.ops = slice_get_within map.setting.circuit.ops op has.op has.there in
    let fits : IsOpOf map.setting.circuit has.op = subst (IsOpOf map.setting.circuit) (get_or_from_slice_get map.setting.circuit.ops op has.op has.op has.there) (is.circuit.ops op has.op in_ops) in
    let below : All (λ (qubit : Qubit). (ion_of map.setting.placement qubit).0 < count) (qubits_of has.op) =
    All-weaker (λ (qubit : Qubit). qubit.0 < qubit_count map.setting.circuit) (λ (qubit : Qubit). (ion_of map.setting.placement qubit).0 < count)
    (λ qubit h. place_below qubit (reading_order map.setting.placement) (omega (arith, is.placed.once qubit.0 h))) (qubits_of has.op) fits.qubits in
    within_of count job.first job.second
    (subst (λ (ions : List Ion). All (λ (ion : Ion). ion.0 < count) ions) has.is.ions (All-map (λ (ion : Ion). ion.0 < count) (ion_of map.setting.placement) (qubits_of has.op) below))
