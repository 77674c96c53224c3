-- What is settled and ready is what the order says.
use Rattle.std.proofs.Common.{◌≡◌, ℕ, zero, suc, ◌<◌, Bool, true, false, List, [], ◌∷◌, length, Some, None, refl, sym, ap, subst, ◌∙◌, inl, inr, arith}
use Rattle.std.specs.Prelude.{slice_get, slice_index, not, filter, Option}
use Rattle.std.specs.Option.{option_map_or}
use Rattle.std.proofs.lemmas.Bool.{cases_lt, cases_Bool, false≢true, cond-true, cond-false}
use Rattle.std.proofs.lemmas.Option.{slice_get-get_or, none-some}
use Rattle.qc_base.specs.declared.ids.OpId.{OpId}
use Rattle.circuit_core.specs.declared.op.Op.{Op}
use Rattle.circuit_core.specs.Circuit.{CircuitValue}
use Rattle.circuit_core.specs.Op.{is_barrier}
use Rattle.circuit_core.specs.Order.{Forced, by_barrier, IsBarrierAt, is_performed}
use Rattle.circuit_core.specs.Nearest.{AreNearest, IsNearestTable}
use Rattle.circuit_core.proofs.Forcing.{forced_before}
use Rattle.gate_order.specs.declared.progress.Progress.{Progress}
use Rattle.gate_order.specs.Ready.{IsAmong, IsReady, AreReady}
use Rattle.gate_order.specs.Keeping.{op, row, near_at, is_set, IsFull, IsKept, IsBlocked, IsSettledAll, done_in}
use Rattle.gate_order.proofs.Ascending.{among_at, at_among}

abbrev Table : Type 0
Table = List (List OpId)

-- ---- what comes right before an operation

near_of : (circuit : CircuitValue) (near : Table) (number : ℕ) → IsNearestTable circuit near → number < length near → AreNearest circuit number (row near number)
near_of circuit near number table within = table.each number (row near number) (slice_get-get_or near number [] within)

-- an entry of the row comes before the operation
pub entry_forced : (circuit : CircuitValue) (near : Table) (number k : ℕ) → IsNearestTable circuit near → number < length near → k < length (row near number) → Forced circuit (near_at near number k) number
entry_forced circuit near number k table within in_row =
    (near_of circuit near number table within).sound (near_at near number k) (among_at (row near number) k (near_at near number k) (op 0) in_row refl)

pub entry_before : (circuit : CircuitValue) (near : Table) (number k : ℕ) → IsNearestTable circuit near → number < length near → k < length (row near number) → near_at near number k < number
entry_before circuit near number k table within in_row = forced_before circuit (near_at near number k) number (entry_forced circuit near number k table within in_row)

-- all that has to come before an operation whose row is settled is settled
closed : (circuit : CircuitValue) (near : Table) (p : Progress) (most number other : ℕ) → IsKept circuit near p → number < most → number < length near → IsFull near p.seen.items number → Forced circuit other number → is_set p.flags.items other ≡ true
closed circuit near p zero number other kept below within full forced = absurd (omega arith)
closed circuit near p (suc most) number other kept below within full forced =
    let base = kept.state.base in
    let known : number < length p.seen.items = omega (arith, within, base.len, kept.all) in
    let reached = (near_of circuit near number kept.table within).all other forced in
    let (k, (in_row, is)) = at_among (row near number) reached.last reached.among in
    let last_set : is_set p.flags.items reached.last ≡ true = subst (λ l. is_set p.flags.items l ≡ true) is (base.passed number k known (omega (arith, in_row, full))) in
    let before : reached.last < number = subst (λ l. l < number) is (entry_before circuit near number k kept.table within in_row) in
    elim reached.reached [
      | inl same ↦ ap (λ l. is_set p.flags.items l) same ∙ last_set
      | inr further ↦ closed circuit near p most reached.last other kept (omega arith) (omega arith) (base.set_full reached.last last_set) further
    ]

-- ---- barriers

barrier_by : (circuit : CircuitValue) (number : ℕ) (o : Option Op) → slice_get circuit.ops number ≡ o → number < length circuit.ops → option_map_or (λ (it : Op). not (is_barrier it)) o false ≡ false → IsBarrierAt circuit number
barrier_by circuit number None is within fails = absurd (none-some (get_or_op circuit.ops number within) (sym is ∙ there circuit.ops number within)) where
  get_or_op : (ops : List Op) (k : ℕ) → k < length ops → Op
  get_or_op [] k within = absurd (omega arith)
  get_or_op (it ∷ ops) zero within = it
  get_or_op (it ∷ ops) (suc k) within = get_or_op ops k (omega arith)

  there : (ops : List Op) (k : ℕ) (within : k < length ops) → slice_get ops k ≡ Some (get_or_op ops k within)
  there [] k within = absurd (omega arith)
  there (it ∷ ops) zero within = refl
  there (it ∷ ops) (suc k) within = there ops k (omega arith)
barrier_by circuit number (Some it) is within fails = record { op = it; there = is; barrier = elim (cases_Bool (is_barrier it)) [ inl holds ↦ holds | inr isnt ↦ absurd (false≢true (sym fails ∙ ap (λ b. not b) isnt)) ] }

barrier_at : (circuit : CircuitValue) (number : ℕ) → number < length circuit.ops → is_performed circuit number ≡ false → IsBarrierAt circuit number
barrier_at circuit number within fails = barrier_by circuit number (slice_get circuit.ops number) refl within fails

-- where all without barriers before an operation are settled, its row is
full_from : (circuit : CircuitValue) (near : Table) (p : Progress) (most number : ℕ) → IsKept circuit near p → IsBlocked near p (length p.settled.items) → number < most → number < length near
    → ((other : ℕ) → Forced circuit other number → is_performed circuit other ≡ true → is_set p.flags.items other ≡ true) → IsFull near p.seen.items number
full_from circuit near p zero number kept blocked below within before = absurd (omega arith)
full_from circuit near p (suc most) number kept blocked below within before = elim (cases_lt (slice_index p.seen.items number) (length (row near number))) [
  | inr past ↦ (let short = kept.state.base.short number known in omega (arith, short, past))
  | inl waits ↦ (let other = near_at near number (slice_index p.seen.items number) in
      let forced : Forced circuit (near_at near number (slice_index p.seen.items number)) number = entry_forced circuit near number (slice_index p.seen.items number) kept.table within waits in
      let earlier : near_at near number (slice_index p.seen.items number) < number = forced_before circuit other number forced in
      absurd (unset waits (elim (cases_Bool (is_performed circuit other)) [
        | inl performed ↦ before other forced performed
        | inr barrier ↦ (let at_barrier : IsBarrierAt circuit other = barrier_at circuit other (omega (arith, earlier, within, kept.table.len)) barrier in
            let full : IsFull near p.seen.items other = full_from circuit near p most other kept blocked (omega arith) (omega arith)
            (λ first first_forced performed. before first (by_barrier first other number at_barrier first_forced forced) performed) in
            kept.state.barriers other (omega (arith, earlier, known)) full barrier)
      ])))
] where
  known : number < length p.seen.items
  known = omega (arith, within, kept.state.base.len, kept.all)

  unset : slice_index p.seen.items number < length (row near number) → is_set p.flags.items (near_at near number (slice_index p.seen.items number)) ≡ true → ⊥
  unset waits is =
      let (j, (in_settled, at_j)) = at_among p.settled.items (near_at near number (slice_index p.seen.items number)) (kept.state.base.set_settled (near_at near number (slice_index p.seen.items number)) is) in
      blocked number j within waits in_settled at_j

-- ---- what is done

later_among : (x : OpId) (xs : List OpId) (number : ℕ) → IsAmong xs number → IsAmong (x ∷ xs) number
later_among x xs number (k, within, is) = (suc k, (omega arith), is)

head_or : (test : OpId → Bool) (x : OpId) (xs : List OpId) (number : ℕ) → (IsAmong (filter test xs) number → IsAmong xs number × (test (op number) ≡ true)) → test x ≡ true → IsAmong (x ∷ filter test xs) number
    → IsAmong (x ∷ xs) number × (test (op number) ≡ true)
head_or test x xs number rest passes (zero, within, is) = ((zero, (omega arith), is), ap test (sym is) ∙ passes)
head_or test x xs number rest passes (suc k, within, is) = let was = rest (k, (omega arith), is) in (later_among x xs number was.0, was.1)

among_filter : (test : OpId → Bool) (xs : List OpId) (number : ℕ) → IsAmong (filter test xs) number → IsAmong xs number × (test (op number) ≡ true)
among_filter test [] number (k, within, is) = absurd (omega (arith, within))
among_filter test (x ∷ xs) number among = elim (cases_Bool (test x)) [
  | inl passes ↦ head_or test x xs number (λ rest. among_filter test xs number rest) passes (subst (λ (l : List OpId). IsAmong l number) (cond-true (test x) (x ∷ filter test xs) (filter test xs) passes) among)
  | inr fails ↦ (let rest = among_filter test xs number (subst (λ (l : List OpId). IsAmong l number) (cond-false (test x) (x ∷ filter test xs) (filter test xs) fails) among) in (later_among x xs number rest.0, rest.1))
]

filter_among : (test : OpId → Bool) (xs : List OpId) (number : ℕ) → IsAmong xs number → test (op number) ≡ true → IsAmong (filter test xs) number
filter_among test [] number (k, within, is) passes = absurd (omega (arith, within))
filter_among test (x ∷ xs) number (zero, within, is) passes =
    subst (λ (l : List OpId). IsAmong l number) (sym (cond-true (test x) (x ∷ filter test xs) (filter test xs) (ap test is ∙ passes))) (zero, (omega arith), is)
filter_among test (x ∷ xs) number (suc k, within, is) passes = elim (cases_Bool (test x)) [
  | inl first ↦ subst (λ (l : List OpId). IsAmong l number) (sym (cond-true (test x) (x ∷ filter test xs) (filter test xs) first)) (later (filter_among test xs number (k, (omega arith), is) passes))
  | inr fails ↦ subst (λ (l : List OpId). IsAmong l number) (sym (cond-false (test x) (x ∷ filter test xs) (filter test xs) fails)) (filter_among test xs number (k, (omega arith), is) passes)
] where
  later : IsAmong (filter test xs) number → IsAmong (x ∷ filter test xs) number
  later (j, in_rest, at_j) = (suc j, (omega arith), at_j)

-- the settled operations without barriers are those that are done
pub done_set : (circuit : CircuitValue) (near : Table) (p : Progress) (number : ℕ) → IsKept circuit near p → IsAmong (done_in circuit p.settled.items) number → is_set p.flags.items number ≡ true
done_set circuit near p number kept among = kept.state.base.settled_set number (among_filter (λ (it : OpId). is_performed circuit it.0) p.settled.items number among).0

pub set_done : (circuit : CircuitValue) (near : Table) (p : Progress) (number : ℕ) → IsKept circuit near p → is_set p.flags.items number ≡ true → is_performed circuit number ≡ true → IsAmong (done_in circuit p.settled.items) number
set_done circuit near p number kept is performed = filter_among (λ (it : OpId). is_performed circuit it.0) p.settled.items number (kept.state.base.set_settled number is) performed

-- ---- the ready operations

performed_within : (circuit : CircuitValue) (number : ℕ) → is_performed circuit number ≡ true → number < length circuit.ops
performed_within circuit number performed = within circuit.ops number performed where
  within : (ops : List Op) (k : ℕ) → option_map_or (λ (it : Op). not (is_barrier it)) (slice_get ops k) false ≡ true → k < length ops
  within [] k is = absurd (false≢true is)
  within (it ∷ ops) zero is = omega arith
  within (it ∷ ops) (suc k) is = omega (arith, within ops k is)

ready_is : (circuit : CircuitValue) (near : Table) (after : List (List ℕ)) (p : Progress) (number : ℕ) → IsSettledAll circuit near after p → IsAmong p.ready.items number → IsReady circuit (done_in circuit p.settled.items) number
ready_is circuit near after p number all among =
    let it = all.kept.state.base.ready_open number among in
    let within : number < length near = omega (arith, it.known, all.kept.state.base.len, all.kept.all) in
    record {
      performed = it.performed;
      waits = λ done. false≢true (sym it.waits ∙ done_set circuit near p number all.kept done);
      before = λ other forced performed. set_done circuit near p other all.kept (closed circuit near p (suc number) number other all.kept (omega arith) within it.full forced) performed;
    }

pub is_ready : (circuit : CircuitValue) (near : Table) (after : List (List ℕ)) (p : Progress) (number : ℕ) → IsSettledAll circuit near after p → IsReady circuit (done_in circuit p.settled.items) number → IsAmong p.ready.items number
is_ready circuit near after p number all ready =
    let within : number < length near = omega (arith, performed_within circuit number ready.performed, all.kept.table.len) in
    let full : IsFull near p.seen.items number = full_from circuit near p (suc number) number all.kept all.blocked (omega arith) within
    (λ other forced performed. done_set circuit near p other all.kept (ready.before other forced performed)) in
    all.kept.state.open_ready number (record {
      known = omega (arith, within, all.kept.state.base.len, all.kept.all);
      full = full;
      performed = ready.performed;
      waits = elim (cases_Bool (is_set p.flags.items number)) [
        | inl is ↦ absurd (ready.waits (set_done circuit near p number all.kept is ready.performed))
        | inr isnt ↦ isnt
      ];
    })

pub are_ready : (circuit : CircuitValue) (near : Table) (after : List (List ℕ)) (p : Progress) → IsSettledAll circuit near after p → AreReady (record { circuit = circuit; done = done_in circuit p.settled.items }) p.ready.items
are_ready circuit near after p all = record {
  ascending = all.kept.state.base.ascending;
  each = λ number. (ready_is circuit near after p number all, is_ready circuit near after p number all);
}
