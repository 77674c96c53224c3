-- Where the ions of an operation are together.
use Rattle.std.proofs.Common.{◌≡◌, ℕ, ◌≤◌, List, [], ◌∷◌, map, Bool, true, false, Some, refl, sym, ap, subst, ◌∙◌, inl, inr, arith}
use Rattle.std.specs.Prelude.{Option, All, slice_get, ◌&&◌, ◌==◌}
use Rattle.std.specs.Option.{option_map_or, option_and_then}
use Rattle.std.proofs.lemmas.Bool.{cases_Bool, false≢true}
use Rattle.std.proofs.lemmas.List.Elements.{All-nil, All-cons, All-head, All-tail}
use Rattle.std.specs.List.{list_all, list_any}
use Rattle.qc_base.specs.Counting.{how_many}
use Rattle.qc_base.specs.declared.ids.Qubit.{Qubit}
use Rattle.qc_base.specs.declared.ids.Ion.{Ion}
use Rattle.trap_model.specs.Trap.{is_able}
use Rattle.circuit_core.specs.declared.op.Op.{Op}
use Rattle.circuit_core.specs.Op.{qubits_of}
use Rattle.trap_parts.specs.declared.parts.Need.{Need}
use Rattle.step_rules.specs.Setting.{need_of}
use Rattle.step_rules.specs.Placement.{ion_of}
use Rattle.step_rules.specs.Guards.{is_able_for, is_among, are_among}
use Rattle.greedy_router.specs.declared.job.Job.{Job}
use Rattle.greedy_router.specs.Places.{count_of}
use Rattle.greedy_router.specs.Routing.{MapValue, IsMap, ions_of}
use Rattle.greedy_router.proofs.Jobs.{has_job}

some_passes : (test : Ion → Bool) (ions : List Ion) → 1 ≤ how_many test ions → list_any test ions ≡ true
some_passes test [] h = absurd (omega arith)
some_passes test (ion ∷ ions) h = elim (cases_Bool (test ion)) [
  | inl passes ↦ rw passes refl
  | inr fails ↦ (let kept = rw fails at h in let more : list_any test ions ≡ true = some_passes test ions (omega (arith, kept)) in rw fails more)
]

some_counted : (test : Ion → Bool) (ions : List Ion) → list_any test ions ≡ true → 1 ≤ how_many test ions
some_counted test [] e = absurd (false≢true e)
some_counted test (ion ∷ ions) e = elim (cases_Bool (test ion)) [
  | inl passes ↦ rw passes (omega arith)
  | inr fails ↦ (let more : 1 ≤ how_many test ions = some_counted test ions (rw fails at e) in rw fails (omega (arith, more)))
]

both_true : (a b : Bool) → (a && b) ≡ true → (a ≡ true) × (b ≡ true)
both_true true b e = (refl, e)
both_true false b e = absurd (false≢true e)

all_among : (placement : List (List Qubit)) (ions : List Ion) (qubits : List Qubit) → All (λ (ion : Ion). 1 ≤ count_of ion.0 ions) (map (ion_of placement) qubits) → list_all (is_among placement ions) qubits ≡ true
all_among placement ions [] all = refl
all_among placement ions (qubit ∷ qubits) all =
    let present : Ion → Type 0 = λ ion. 1 ≤ count_of ion.0 ions in
    let first : is_among placement ions qubit ≡ true = some_passes (λ (ion : Ion). ion.0 == (ion_of placement qubit).0) ions (All-head present (ion_of placement qubit) (map (ion_of placement) qubits) all) in
    let rest : list_all (is_among placement ions) qubits ≡ true = all_among placement ions qubits (All-tail present (ion_of placement qubit) (map (ion_of placement) qubits) all) in
    ap (λ (b : Bool). b && list_all (is_among placement ions) qubits) first ∙ rest

among_all : (placement : List (List Qubit)) (ions : List Ion) (qubits : List Qubit) → list_all (is_among placement ions) qubits ≡ true → All (λ (ion : Ion). 1 ≤ count_of ion.0 ions) (map (ion_of placement) qubits)
among_all placement ions [] e = All-nil (λ (ion : Ion). 1 ≤ count_of ion.0 ions)
among_all placement ions (qubit ∷ qubits) e =
    let both = both_true (is_among placement ions qubit) (list_all (is_among placement ions) qubits) e in
    All-cons (λ (ion : Ion). 1 ≤ count_of ion.0 ions) (ion_of placement qubit) (map (ion_of placement) qubits)
    (some_counted (λ (ion : Ion). ion.0 == (ion_of placement qubit).0) ions both.0) (among_all placement ions qubits both.1)

pub able_by_job : (map : MapValue) (op zone : ℕ) (job : Job) → IsMap map → slice_get map.jobs op ≡ Some (Some job) → is_able_for map.setting zone op ≡ is_able map.setting.trap zone job.need
able_by_job map op zone job is e =
    let has = has_job map op job is e in
    ap (λ (found : Option Op). option_map_or (is_able map.setting.trap zone) (option_and_then need_of found) false) has.there
    ∙ ap (λ (need : Option Need). option_map_or (is_able map.setting.trap zone) need false) has.is.need

pub among_by_job : (map : MapValue) (op : ℕ) (ions : List Ion) (job : Job) → IsMap map → slice_get map.jobs op ≡ Some (Some job)
    → All (λ (ion : Ion). 1 ≤ count_of ion.0 ions) (ions_of job) → are_among map.setting ions op ≡ true
among_by_job map op ions job is e all =
    let has = has_job map op job is e in
    ap (λ (found : Option Op). option_map_or (λ (it : Op). list_all (is_among map.setting.placement ions) (qubits_of it)) found false) has.there
    ∙ all_among map.setting.placement ions (qubits_of has.op) (subst (λ (list : List Ion). All (λ (ion : Ion). 1 ≤ count_of ion.0 ions) list) (sym has.is.ions) all)

pub job_by_among : (map : MapValue) (op : ℕ) (ions : List Ion) (job : Job) → IsMap map → slice_get map.jobs op ≡ Some (Some job)
    → are_among map.setting ions op ≡ true → All (λ (ion : Ion). 1 ≤ count_of ion.0 ions) (ions_of job)
job_by_among map op ions job is e among =
    let has = has_job map op job is e in
    let here : list_all (is_among map.setting.placement ions) (qubits_of has.op) ≡ true =
    sym (ap (λ (found : Option Op). option_map_or (λ (it : Op). list_all (is_among map.setting.placement ions) (qubits_of it)) found false) has.there) ∙ among in
    subst (λ (list : List Ion). All (λ (ion : Ion). 1 ≤ count_of ion.0 ions) list) has.is.ions (among_all map.setting.placement ions (qubits_of has.op) here)
