-- The room of a setting, the map, and one round of the router.
use Rattle.std.proofs.Common.{◌≡◌, ◌≢◌, ℕ, zero, suc, ◌+◌, ◌<◌, ◌≤◌, ◌⊎◌, List, [], ◌∷◌, ◌++◌, length, take, drop, replicate, get_or, Bool, true, false, cond, Some, None, refl, sym, ap, subst, ◌∙◌, inl, inr, arith}
use Rattle.std.specs.Prelude.{Option, All, IfSome, IsSome, slice_get, not, ◌==◌}
use Rattle.std.specs.Option.{option_map_or, is_some}
use Rattle.std.proofs.lemmas.Bool.{cases_eq, cases_lt, false≢true, true≢false, ne_eqb, eq-eqb, lt-ltb, and_from, and_right}
use Rattle.std.proofs.lemmas.List.{length_push, take_more, drop_more, drop_all, append-nil, append_assoc, get_or_default}
use Rattle.std.proofs.lemmas.List.Elements.{All-nil, All-cons}
use Rattle.std.proofs.lemmas.Option.{same_Some, slice_get_cases, slice_get_within, slice_get-get_or, slice_get_read, get_or_from_slice_get}
use Rattle.qc_base.specs.declared.ids.Ion.{Ion}
use Rattle.qc_base.specs.declared.ids.OpId.{OpId}
use Rattle.qc_base.specs.declared.ids.PlaceId.{PlaceId}
use Rattle.qc_base.specs.declared.ids.Qubit.{Qubit}
use Rattle.circuit_core.specs.declared.op.Op.{Op}
use Rattle.circuit_core.specs.Circuit.{CircuitValue}
use Rattle.circuit_core.specs.Op.{is_barrier}
use Rattle.trap_parts.specs.declared.parts.Need.{Need}
use Rattle.trap_parts.specs.declared.parts.ZonePart.{ZonePart}
use Rattle.trap_model.specs.Channels.{channels_of}
use Rattle.trap_parts.specs.Parts.{TrapValue}
use Rattle.trap_model.specs.Trap.{is_able, has}
use Rattle.ion_chain.specs.Transfer.{list_at}
use Rattle.route_find.specs.Walks.{IsReachable, IsDistance}
use Rattle.route_find.specs.Distances.{DistancesValue, AreDistances, distance_at, next_at}
use Rattle.route_find.proofs.Back.{reached_back}
use Rattle.gate_order.specs.Keeping.{op as op_of}
use Rattle.gate_order.specs.Ready.{ReadyValue, AreReady, IsReady, IsAmong}
use Rattle.step_rules.specs.declared.action.Action.{Action}
use Rattle.step_rules.specs.Setting.{SettingValue}
use Rattle.step_rules.specs.Placement.{reading_order}
use Rattle.circuit_core.specs.Order.{is_performed}
use Rattle.greedy_router.specs.declared.job.Job.{Job}
use Rattle.greedy_router.specs.declared.has_room.RoomFault.{RoomFault}
use Rattle.greedy_router.specs.declared.has_room.RoomFault.TheVariants.{Tight, Apart, NoAble, NoMemory}
use Rattle.greedy_router.specs.Room.{IsApart, IsLeast, AreFree, Causes, ComesFirst, IsFirst}
use Rattle.greedy_router.specs.Places.{count_of, one_if_both, home_of, AreHomes, IsMoved}
use Rattle.greedy_router.specs.Routing.{MapValue, IsMap, AreZoneDistances, AreJobs, GivesJob, IsWithin}
use Rattle.greedy_router.specs.Serial.{config_after, IsTogether, IsPossible, IsNext}
use Rattle.greedy_router.specs.Traffic.{ready_after}
use Rattle.greedy_router.proofs.Beginning.{homes_from}
use Rattle.greedy_router.proofs.Counts.{one_same, one_apart}
use Rattle.greedy_router.proofs.Undone.{undone, undone_less}
use Rattle.greedy_router.proofs.Jobs.{job_there, job_within}
use Rattle.greedy_router.proofs.Meeting.{able_by_job, among_by_job, job_by_among}

abbrev place_at : ℕ → PlaceId
place_at number = record { 0 = number }

pub place_apart : (a b : PlaceId) → a ≢ b → a.0 ≢ b.0
place_apart a b apart same = apart (ap place_at same)

-- ---- lists

-- an element of a list with one more at its end
pub slice_get_pushed : {X : Type 0} (xs : List X) (y : X) (k : ℕ) (x : X) → slice_get (xs ++ y ∷ []) k ≡ Some x → (slice_get xs k ≡ Some x) ⊎ ((k ≡ length xs) × (x ≡ y))
slice_get_pushed [] y zero x e = inr (refl, sym (same_Some y x e))
slice_get_pushed [] y (suc k) x e = absurd cc
slice_get_pushed (z ∷ xs) y zero x e = inl e
slice_get_pushed (z ∷ xs) y (suc k) x e = elim (slice_get_pushed xs y k x e) [ inl old ↦ inl old | inr new ↦ inr (ap suc new.0, new.1) ]

-- ---- zones that can't be reached

no_route : (trap : TrapValue) (from to : ℕ) (distance : Option ℕ) → IsDistance trap from to distance → distance ≡ None → ¬ IsReachable trap from to
no_route trap from to None none e = none
no_route trap from to (Some distance) is e = absurd cc

some_route : (trap : TrapValue) (from to : ℕ) (distance : Option ℕ) → IsDistance trap from to distance → IsSome distance → IsReachable trap from to
some_route trap from to None none some = absurd (false≢true some)
some_route trap from to (Some distance) is some = (is.0, is.1.0.leads)

pub zone_apart : (setting : SettingValue) (distances : DistancesValue) (zone : ℕ) → AreDistances setting.trap distances → distances.target ≡ 0 → zone < length setting.trap.zones
    → distance_at distances zone ≡ None → ((k : ℕ) → k < zone → IsReachable setting.trap 0 k) → IsLeast (IsApart setting) zone
zone_apart setting distances zone are target within none below = record {
  has = record {
    there = within;
    apart = λ reached. no_route setting.trap zone distances.target (distance_at distances zone) (are.each zone) none
        (subst (λ (to : ℕ). IsReachable setting.trap zone to) (sym target) (reached_back setting.trap 0 zone reached));
  };
  least = λ other is. let late : other < zone → ⊥ = λ h. is.apart (below other h) in omega (arith, late);
}

pub zone_reached : (trap : TrapValue) (distances : DistancesValue) (zone : ℕ) → AreDistances trap distances → distances.target ≡ 0 → IsSome (distance_at distances zone) → IsReachable trap 0 zone
zone_reached trap distances zone are target some =
    reached_back trap zone 0 (subst (λ (to : ℕ). IsReachable trap zone to) target (some_route trap zone distances.target (distance_at distances zone) (are.each zone) some))

pub none_from : (found : Option ℕ) → is_some found ≡ false → found ≡ None
none_from None e = refl
none_from (Some x) e = absurd (true≢false e)

apart_first : (setting : SettingValue) (zone : PlaceId) → AreFree setting → IsLeast (IsApart setting) zone.0 → (other : RoomFault) → Causes setting other → ComesFirst (Apart zone) other
apart_first setting zone free least (Tight other more) cause = absurd (omega (arith, cause.0.few, free other.0 cause.0.there))
apart_first setting zone free least (Apart other) cause = inr (refl, least.least other.0 cause)
apart_first setting zone free least (NoAble op) cause = inl (omega arith)
apart_first setting zone free least NoMemory cause = absurd cause

pub first_apart : (setting : SettingValue) (zone : PlaceId) → AreFree setting → IsLeast (IsApart setting) zone.0 → IsFirst setting (Apart zone)
first_apart setting zone free least = record { cause = least.has; first = apart_first setting zone free least }

-- ---- distances and jobs, one more of each

pub zone_distances_more : (trap : TrapValue) (count : ℕ) (zone_distances : List DistancesValue) (distances : DistancesValue) → AreZoneDistances trap count zone_distances → AreDistances trap distances → distances.target ≡ count
    → AreZoneDistances trap (count + 1) (zone_distances ++ distances ∷ [])
zone_distances_more trap count zone_distances distances so are target = record {
  len = length_push zone_distances distances ∙ ap (λ (n : ℕ). n + 1) so.len;
  each = λ zone it there. elim (slice_get_pushed zone_distances distances zone it there) [
    | inl old ↦ so.each zone it old
    | inr new ↦ subst (λ (d : DistancesValue). AreDistances trap d × (d.target ≡ zone)) (sym new.1) (are, target ∙ sym so.len ∙ sym new.0)
  ];
}

jobs_push : (placement : List (List Qubit)) (ops : List Op) (jobs : List (Option Job)) (op : Op) (job : Option Job) → AreJobs placement ops jobs → GivesJob placement op job
    → AreJobs placement (ops ++ op ∷ []) (jobs ++ job ∷ [])
jobs_push placement ops jobs op job so gives = record {
  len = length_push jobs job ∙ ap (λ (n : ℕ). n + 1) so.len ∙ sym (length_push ops op);
  each = λ number it its at_op at_job. elim (slice_get_pushed ops op number it at_op) [
    | inl old ↦ elim (slice_get_pushed jobs job number its at_job) [
      | inl same ↦ so.each number it its old same
      | inr new ↦ (let within : number < length ops = slice_get_within ops number it old in absurd (omega (arith, new.0, so.len)))
    ]
    | inr new ↦ elim (slice_get_pushed jobs job number its at_job) [
      | inl old ↦ (let within : number < length jobs = slice_get_within jobs number its old in absurd (omega (arith, new.0, so.len)))
      | inr also ↦ subst (λ (o : Op). GivesJob placement o its) (sym new.1) (subst (λ (j : Option Job). GivesJob placement op j) (sym also.1) gives)
    ]
  ];
}

pub jobs_more : (placement : List (List Qubit)) (ops : List Op) (jobs : List (Option Job)) (i : ℕ) (op : Op) (job : Option Job) → AreJobs placement (take i ops) jobs → i < length ops → op ≡ get_or ops i op
    → GivesJob placement op job → AreJobs placement (take (i + 1) ops) (jobs ++ job ∷ [])
jobs_more placement ops jobs i op job so within is gives =
    subst (λ (front : List Op). AreJobs placement front (jobs ++ job ∷ [])) (ap (λ (o : Op). take i ops ++ o ∷ []) is ∙ sym (take_more ops i op within)) (jobs_push placement (take i ops) jobs op job so gives)

pub homes_done : (placement : List (List Qubit)) (homes : List PlaceId) (zone : ℕ) → homes ++ homes_from zone (drop zone placement) ≡ homes_from 0 placement → length placement ≤ zone → homes ≡ homes_from 0 placement
homes_done placement homes zone e past =
    sym (append-nil homes) ∙ sym (ap (λ (rest : List (List Qubit)). homes ++ homes_from zone rest) (drop_all zone placement past)) ∙ e

pub homes_step : (placement : List (List Qubit)) (homes more : List PlaceId) (zone : ℕ) (list : List Qubit) → slice_get placement zone ≡ Some list
    → more ≡ homes ++ replicate (length list) (place_at zone) → homes ++ homes_from zone (drop zone placement) ≡ homes_from 0 placement
    → more ++ homes_from (zone + 1) (drop (zone + 1) placement) ≡ homes_from 0 placement
homes_step placement homes more zone list there is so =
    let within : zone < length placement = slice_get_within placement zone list there in
    let rest : List (List Qubit) = drop (zone + 1) placement in
    let split : drop zone placement ≡ list ∷ rest = drop_more placement zone list within ∙ ap (λ (l : List Qubit). l ∷ rest) (get_or_from_slice_get placement zone list list there) in
    ap (λ (m : List PlaceId). m ++ homes_from (zone + 1) rest) is ∙ append_assoc homes (replicate (length list) (place_at zone)) (homes_from (zone + 1) rest)
    ∙ sym (ap (λ (r : List (List Qubit)). homes ++ homes_from zone r) split) ∙ so

-- ---- what the map says of a zone or an operation

pub distances_to : (map : MapValue) (zone_distances : List DistancesValue) (to : ℕ) (it : DistancesValue) → IsMap map → zone_distances ≡ map.zone_distances → to < length map.setting.trap.zones → it ≡ get_or zone_distances to it
    → slice_get map.zone_distances to ≡ Some it
distances_to map zone_distances to it is same within read =
    subst (λ (list : List DistancesValue). slice_get list to ≡ Some it) same
    (slice_get_read zone_distances (length map.setting.trap.zones) to it (sym is.zone_distances.len ∙ sym (ap (λ (list : List DistancesValue). length list) same)) within read)

pub first_channel : (map : MapValue) (distances : DistancesValue) (from to number : ℕ) → IsMap map → slice_get map.zone_distances to ≡ Some distances → next_at distances from ≡ Some number
    → number < length (channels_of map.setting.trap)
first_channel map distances from to number is at next =
    let nearer = (is.zone_distances.each to distances at).0.nearer from number next in
    slice_get_within (channels_of map.setting.trap) number nearer.leads.channel nearer.leads.there

pub performed_within : (circuit : CircuitValue) (op : ℕ) → is_performed circuit op ≡ true → op < length circuit.ops
performed_within circuit op performed = elim (slice_get_cases circuit.ops op).1 [
  | inl there ↦ there.1
  | inr past ↦ absurd (false≢true (sym (ap (λ (found : Option Op). option_map_or (λ (it : Op). not (is_barrier it)) found false) past.1) ∙ performed))
]

pub job_at : (map : MapValue) (jobs : List (Option Job)) (op : ℕ) (it : Option Job) → IsMap map → jobs ≡ map.jobs → is_performed map.setting.circuit op ≡ true → it ≡ get_or jobs op it
    → slice_get map.jobs op ≡ Some it
job_at map jobs op it is same performed read =
    subst (λ (list : List (Option Job)). slice_get list op ≡ Some it) same
    (slice_get_read jobs (length map.setting.circuit.ops) op it (sym is.jobs.len ∙ sym (ap (λ (list : List (Option Job)). length list) same)) (performed_within map.setting.circuit op performed) read)

pub job_some : (map : MapValue) (op : ℕ) (it : Option Job) → IsMap map → is_performed map.setting.circuit op ≡ true → slice_get map.jobs op ≡ Some it → IsSome it
job_some map op it is performed at = let found = job_there map op it is performed at in subst (λ (o : Option Job). IsSome o) (sym found.1) refl

pub job_in_homes : (map : MapValue) (op : ℕ) (job : Job) (count : ℕ) → IsMap map → slice_get map.jobs op ≡ Some (Some job) → count ≡ length (reading_order map.setting.placement) → IsWithin count job
job_in_homes map op job count is at same = subst (λ (n : ℕ). IsWithin n job) (sym same) (job_within map op job is at)

-- ---- where the ions of an operation are

pub able_within : (trap : TrapValue) (zone : ℕ) (need : Need) → is_able trap zone need ≡ true → zone < length trap.zones
able_within trap zone need able = elim (slice_get_cases trap.zones zone).1 [
  | inl there ↦ there.1
  | inr past ↦ absurd (false≢true (sym (ap (λ (part : Option ZonePart). option_map_or (has need) part false) past.1) ∙ able))
]

pub able_somewhere : (map : MapValue) (op : ℕ) (job : Job) → IsMap map → is_performed map.setting.circuit op ≡ true → slice_get map.jobs op ≡ Some (Some job)
    → ((zone : ℕ) → zone < length map.setting.trap.zones → ¬ is_able map.setting.trap zone job.need ≡ true) → ⊥
able_somewhere map op job is performed at none =
    let able = is.room.able op performed in
    let here : is_able map.setting.trap able.0 job.need ≡ true = sym (able_by_job map op able.0 job is at) ∙ able.1 in
    none able.0 (able_within map.setting.trap able.0 job.need here) here

-- an ion that is in a place has its home there
pub present_home : (trap : TrapValue) (config : List (List Ion)) (homes : List PlaceId) (ion place : ℕ) → AreHomes trap config homes → ion < length homes → 1 ≤ count_of ion (list_at config place)
    → place ≡ home_of homes ion
present_home trap config homes ion place are within some = elim (cases_eq place (home_of homes ion)) [
  | inl same ↦ same
  | inr other ↦ absurd (omega (arith, some, (are.present ion within).once place, one_apart place (home_of homes ion) other))
]

pub home_present : (trap : TrapValue) (config : List (List Ion)) (homes : List PlaceId) (ion : ℕ) → AreHomes trap config homes → ion < length homes → 1 ≤ count_of ion (list_at config (home_of homes ion))
home_present trap config homes ion are within =
    omega (arith, (are.present ion within).once (home_of homes ion), one_same (home_of homes ion) (home_of homes ion) refl)

no_both : (a b c d : ℕ) → c ≢ d → one_if_both a b c d ≡ 0
no_both a b c d ne = ap (λ (t : Bool). cond {A = ℕ} t 1 0) (and_right (a == b) (c == d) (ne_eqb c d ne))

both_same : (a c : ℕ) → one_if_both a a c c ≡ 1
both_same a c = ap (λ (t : Bool). cond {A = ℕ} t 1 0) (and_from (a == a) (c == c) (eq-eqb a a refl) (eq-eqb c c refl))

-- an ion that is where another goes stays there
pub stays_there : (before after : List (List Ion)) (ion other from to : ℕ) → IsMoved before after ion from to → 1 ≤ count_of other (list_at before to) → 1 ≤ count_of other (list_at after to)
stays_there before after ion other from to moved some = elim (cases_eq to from) [
  | inl same ↦ (let e : one_if_both other ion to from ≡ one_if_both other ion to to = ap (λ (p : ℕ). one_if_both other ion to p) (sym same) in omega (arith, some, e, moved.ions other to))
  | inr apart ↦ omega (arith, some, no_both other ion to from apart, moved.ions other to)
]

pub comes_there : (before after : List (List Ion)) (ion from to : ℕ) → IsMoved before after ion from to → 1 ≤ count_of ion (list_at before from) → 1 ≤ count_of ion (list_at after to)
comes_there before after ion from to moved some = elim (cases_eq to from) [
  | inl same ↦ stays_there before after ion ion from to moved (subst (λ (p : ℕ). 1 ≤ count_of ion (list_at before p)) (sym same) some)
  | inr apart ↦ omega (arith, no_both ion ion to from apart, both_same ion to, moved.ions ion to)
]

all_of : (ions : List Ion) (first : Ion) (second : Option Ion) → 1 ≤ count_of first.0 ions → IfSome second (λ (ion : Ion). 1 ≤ count_of ion.0 ions)
    → All (λ (ion : Ion). 1 ≤ count_of ion.0 ions) (first ∷ option_map_or (λ (ion : Ion). ion ∷ []) second [])
all_of ions first None one two = All-cons (λ (ion : Ion). 1 ≤ count_of ion.0 ions) first [] one (All-nil (λ (ion : Ion). 1 ≤ count_of ion.0 ions))
all_of ions first (Some second) one two =
    All-cons (λ (ion : Ion). 1 ≤ count_of ion.0 ions) first (second ∷ []) one
    (All-cons (λ (ion : Ion). 1 ≤ count_of ion.0 ions) second [] two (All-nil (λ (ion : Ion). 1 ≤ count_of ion.0 ions)))

both_of : (ions : List Ion) (first : Ion) (second : Option Ion) → All (λ (ion : Ion). 1 ≤ count_of ion.0 ions) (first ∷ option_map_or (λ (ion : Ion). ion ∷ []) second [])
    → (1 ≤ count_of first.0 ions) × IfSome second (λ (ion : Ion). 1 ≤ count_of ion.0 ions)
both_of ions first None all = (all 0 first (omega arith), tt)
both_of ions first (Some second) all = (all 0 first (omega arith), all 1 first (omega arith))

pub together_in : (map : MapValue) (config : List (List Ion)) (zone op : ℕ) (job : Job) → IsMap map → slice_get map.jobs op ≡ Some (Some job) → is_able map.setting.trap zone job.need ≡ true
    → 1 ≤ count_of job.first.0 (list_at config zone) → IfSome job.second (λ (ion : Ion). 1 ≤ count_of ion.0 (list_at config zone)) → IsTogether map.setting config zone op
together_in map config zone op job is at able one two = record {
  there = lt-ltb zone (length map.setting.trap.zones) (able_within map.setting.trap zone job.need able);
  able = able_by_job map op zone job is at ∙ able;
  ions = among_by_job map op (list_at config zone) job is at (all_of (list_at config zone) job.first job.second one two);
}

-- that zone is the home of the job's ions
pub record IsHome (map : MapValue) (homes : List PlaceId) (zone : ℕ) (job : Job) : Type 0 where
  pub first : zone ≡ home_of homes job.first.0
  pub second : IfSome job.second (λ (ion : Ion). zone ≡ home_of homes ion.0)
  pub able : is_able map.setting.trap zone job.need ≡ true

second_home : (trap : TrapValue) (config : List (List Ion)) (homes : List PlaceId) (zone : ℕ) (second : Option Ion) → AreHomes trap config homes → IfSome second (λ (ion : Ion). ion.0 < length homes)
    → IfSome second (λ (ion : Ion). 1 ≤ count_of ion.0 (list_at config zone)) → IfSome second (λ (ion : Ion). zone ≡ home_of homes ion.0)
second_home trap config homes zone None are within some = tt
second_home trap config homes zone (Some ion) are within some = present_home trap config homes ion.0 zone are within some

second_present : (trap : TrapValue) (config : List (List Ion)) (homes : List PlaceId) (zone : ℕ) (second : Option Ion) → AreHomes trap config homes → IfSome second (λ (ion : Ion). ion.0 < length homes)
    → IfSome second (λ (ion : Ion). zone ≡ home_of homes ion.0) → IfSome second (λ (ion : Ion). 1 ≤ count_of ion.0 (list_at config zone))
second_present trap config homes zone None are within same = tt
second_present trap config homes zone (Some ion) are within same =
    subst (λ (place : ℕ). 1 ≤ count_of ion.0 (list_at config place)) (sym same) (home_present trap config homes ion.0 are within)

pub home_of_together : (map : MapValue) (config : List (List Ion)) (homes : List PlaceId) (zone op : ℕ) (job : Job) → IsMap map → slice_get map.jobs op ≡ Some (Some job)
    → AreHomes map.setting.trap config homes → IsWithin (length homes) job → IsTogether map.setting config zone op → IsHome map homes zone job
home_of_together map config homes zone op job is at are within together =
    let both = both_of (list_at config zone) job.first job.second (job_by_among map op (list_at config zone) job is at together.ions) in
    record {
      first = present_home map.setting.trap config homes job.first.0 zone are within.0 both.0;
      second = second_home map.setting.trap config homes zone job.second are within.1 both.1;
      able = sym (able_by_job map op zone job is at) ∙ together.able;
    }

pub together_at_home : (map : MapValue) (config : List (List Ion)) (homes : List PlaceId) (zone op : ℕ) (job : Job) → IsMap map → slice_get map.jobs op ≡ Some (Some job)
    → AreHomes map.setting.trap config homes → IsWithin (length homes) job → IsHome map homes zone job → IsTogether map.setting config zone op
together_at_home map config homes zone op job is at are within home =
    together_in map config zone op job is at home.able
    (subst (λ (place : ℕ). 1 ≤ count_of job.first.0 (list_at config place)) (sym home.first) (home_present map.setting.trap config homes job.first.0 are within.0))
    (second_present map.setting.trap config homes zone job.second are within.1 home.second)

-- ---- the next operation

pub next_here : (setting : SettingValue) (actions : List Action) (config : List (List Ion)) (ready : List OpId) (index : ℕ) (op : OpId) (zone : ℕ) → config ≡ config_after setting actions
    → AreReady (ready_after setting actions) ready → index < length ready → op ≡ get_or ready index op → IsTogether setting config zone op.0
    → ((k : ℕ) (before : OpId) → k < index → slice_get ready k ≡ Some before → (other : ℕ) → ¬ IsTogether setting config other before.0) → IsNext setting actions zone op.0
next_here setting actions config ready index op zone same are within is here none = record {
  possible = record {
    ready = (are.each op.0).0 (index, within, sym is);
    together = subst (λ (lists : List (List Ion)). IsTogether setting lists zone op.0) same here;
  };
  least = λ other_zone other possible.
      let among : IsAmong ready other = (are.each other).1 possible.ready in
      let found : slice_get ready among.0 ≡ Some (op_of other) = slice_get-get_or ready among.0 (op_of other) among.1 ∙ ap (λ (o : OpId). Some o) among.2 in
      let there : IsTogether setting config other_zone other = subst (λ (lists : List (List Ion)). IsTogether setting lists other_zone other) (sym same) possible.together in
      let at_end : (get_or ready among.0 (op_of other)).0 ≡ other = ap (λ (o : OpId). o.0) among.2 in
      let at_index : (get_or ready index (op_of other)).0 ≡ op.0 = ap (λ (o : OpId). o.0) (get_or_default ready index (op_of other) op within ∙ sym is) in
      elim (cases_lt among.0 index) [
        | inl before ↦ absurd (none among.0 (op_of other) before found other_zone there)
        | inr late ↦ elim (cases_eq index among.0) [
          | inl equal ↦ (let here : (get_or ready index (op_of other)).0 ≡ other = subst (λ (k : ℕ). (get_or ready k (op_of other)).0 ≡ other) (sym equal) at_end in omega arith)
          | inr apart ↦ (let less : (get_or ready index (op_of other)).0 < (get_or ready among.0 (op_of other)).0 = are.ascending index among.0 (op_of other) (omega (arith, late, apart)) among.1 in omega arith)
        ]
      ];
}

pub none_possible : (setting : SettingValue) (actions : List Action) (config : List (List Ion)) (ready : List OpId) → config ≡ config_after setting actions → AreReady (ready_after setting actions) ready
    → ((k : ℕ) (op : OpId) → k < length ready → slice_get ready k ≡ Some op → (zone : ℕ) → ¬ IsTogether setting config zone op.0) → (zone op : ℕ) → ¬ IsPossible setting actions zone op
none_possible setting actions config ready same are none zone op possible =
    let among : IsAmong ready op = (are.each op).1 possible.ready in
    none among.0 (op_of op) among.1 (slice_get-get_or ready among.0 (op_of op) among.1 ∙ ap (λ (o : OpId). Some o) among.2) zone
    (subst (λ (lists : List (List Ion)). IsTogether setting lists zone op) (sym same) possible.together)

-- ---- one operation fewer

pub some_ready : (value : ReadyValue) (xs ys : List OpId) → AreReady value xs → AreReady value ys → 0 < length xs → 0 < length ys
some_ready value [] ys are also some = absurd (omega arith)
some_ready value (op ∷ xs) ys are also some =
    let among : IsAmong ys op.0 = (also.each op.0).1 ((are.each op.0).0 (zero, some, refl)) in omega (arith, among.1)

pub fewer_undone : (circuit : CircuitValue) (done : List OpId) (op : OpId) → IsReady circuit done op.0 → undone (length circuit.ops) (done ++ op ∷ []) < undone (length circuit.ops) done
fewer_undone circuit done op ready = undone_less (length circuit.ops) done op (performed_within circuit op.0 ready.performed) ready.waits
