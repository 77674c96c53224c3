-- Feeding bytes within the limit, and past it.
use Rattle.std.proofs.Common.{◌≡◌, ℕ, zero, suc, ◌+◌, ◌-◌, ◌<◌, ◌≤◌, List, [], ◌∷◌, ◌++◌, inl, Some, None, length, take, drop, refl, sym, ap, ◌∙◌, subst, arith, append_assoc, length-append}
use Rattle.std.specs.Prelude.{Err}
use Rattle.std.proofs.lemmas.List.{take-append-drop, take-append-le, take_all, take_at, length-take-le, drop_at}
use Rattle.qc_base.specs.Spelling.{IsFree}
use Rattle.sat_base.specs.Literal.{Literal}
use Rattle.sat_base.specs.Derivation.{clauses_of, AnyRefutes}
use Rattle.derivation_check.specs.declared.cert_fault.CertFault.{CertFault}
use Rattle.derivation_check.specs.declared.cert_fault.CertFault.TheVariants.{Line as ALine, Bad, NotRefuting, Endless, NoMemory}
use Rattle.derivation_check.specs.Faults.{Task, Reads, HasFault, Answers, IsTooLong, HasMalformedLine, HasBadLine, IsRefutation, LeavesOpen, AreLines, HasCutLine}
use Rattle.derivation_check.specs.Progress.{Progress, Accepts, HasTaken, IsAfter, WasFed, HasLineFault}
use Rattle.derivation_check.proofs.Taking.{HasLineFault-more}
use Rattle.derivation_check.proofs.Accepting.{count_is}

-- ---- what lies within the limit

-- bytes within the limit, and more up to it
pub take_past : (limit room : ℕ) (bytes piece : List ℕ) → length bytes + room ≡ limit → room ≤ length piece → take limit (bytes ++ piece) ≡ bytes ++ take room piece
take_past limit room bytes piece is within =
    let whole : bytes ++ piece ≡ (bytes ++ take room piece) ++ drop room piece = ap (λ (xs : List ℕ). bytes ++ xs) (sym (take-append-drop room piece)) ∙ sym (append_assoc bytes (take room piece) (drop room piece)) in
    let len : length (bytes ++ take room piece) ≡ limit = length-append bytes (take room piece) ∙ ap (λ (n : ℕ). length bytes + n) (length-take-le room piece within) ∙ is in
    ap (take limit) whole ∙ take_at (bytes ++ take room piece) (drop room piece) limit len

take_none : (n : ℕ) → take {A = ℕ} n [] ≡ []
take_none zero = refl
take_none (suc n) = refl

take_more_bytes : (limit : ℕ) (bytes more : List ℕ) → (rest : List ℕ) × (take limit (bytes ++ more) ≡ take limit bytes ++ rest)
take_more_bytes limit [] more = (take limit more, ap (λ (xs : List ℕ). xs ++ take limit more) (sym (take_none limit)))
take_more_bytes zero (x ∷ bytes) more = ([], refl)
take_more_bytes (suc limit) (x ∷ bytes) more = let r = take_more_bytes limit bytes more in (r.0, ap (λ (xs : List ℕ). x ∷ xs) r.1)

-- ---- a fault within the limit stops, and stays

pub stops_by : (task : Task) (bytes within : List ℕ) (fault : CertFault) → take task.limit bytes ≡ within → HasLineFault task within fault → HasFault task bytes fault
stops_by task bytes within (ALine place) is h = subst (λ (xs : List ℕ). HasMalformedLine task xs place) (sym is) h
stops_by task bytes within (Bad place) is h = subst (λ (xs : List ℕ). HasBadLine task xs place) (sym is) h
stops_by task bytes within NotRefuting is h = h
stops_by task bytes within Endless is h = absurd h
stops_by task bytes within NoMemory is h = tt

pub HasFault-more : (task : Task) (bytes more : List ℕ) (fault : CertFault) → HasFault task bytes fault → HasFault task (bytes ++ more) fault
HasFault-more task bytes more (ALine place) h =
    let r = take_more_bytes task.limit bytes more in subst (λ (xs : List ℕ). HasMalformedLine task xs place) (sym r.1) (HasLineFault-more task (take task.limit bytes) r.0 (ALine place) h)
HasFault-more task bytes more (Bad place) h =
    let r = take_more_bytes task.limit bytes more in subst (λ (xs : List ℕ). HasBadLine task xs place) (sym r.1) (HasLineFault-more task (take task.limit bytes) r.0 (Bad place) h)
HasFault-more task bytes more NotRefuting h = h
HasFault-more task bytes more Endless h =
    let over = h.over in
    let same : take task.limit (bytes ++ more) ≡ take task.limit bytes = take-append-le task.limit bytes more (omega arith) in
    record {
      lines = h.lines;
      rest = h.rest;
      over = omega (arith, length-append bytes more);
      reads = subst (λ (xs : List ℕ). Reads task xs h.lines h.rest) (sym same) h.reads;
      free = h.free;
    }
HasFault-more task bytes more NoMemory h = tt

-- ---- a checker that continues

pub has_taken : (task : Task) (bytes : List ℕ) (old : Progress) → old.stopped ≡ None → WasFed task bytes old → HasTaken task bytes old
has_taken task bytes old is fed = subst (IsAfter task bytes old) is fed

pub was_fed : (task : Task) (bytes : List ℕ) (now : Progress) → now.stopped ≡ None → HasTaken task bytes now → WasFed task bytes now
was_fed task bytes now is on = subst (IsAfter task bytes now) (sym is) on

-- it took the piece, within the limit
pub fed_more : (task : Task) (bytes piece : List ℕ) (old now : Progress) (room : ℕ) → old.stopped ≡ None → WasFed task bytes old
    → ((task : Task) (before : List ℕ) → Accepts task before old → Accepts task (before ++ piece) now)
    → room ≡ old.limit - old.fed → length piece ≤ room → now.fed ≡ old.fed + length piece → now.limit ≡ old.limit → now.stopped ≡ None → WasFed task (bytes ++ piece) now
fed_more task bytes piece old now room going fed accepts room_is fits fed_is limit_is stopped =
    let on = has_taken task bytes old going fed in
    let len : length (bytes ++ piece) ≡ length bytes + length piece = length-append bytes piece in
    was_fed task (bytes ++ piece) now stopped (record {
      accepts = accepts task bytes on.accepts;
      fed = fed_is ∙ ap (λ (n : ℕ). n + length piece) on.fed ∙ sym len;
      limit = limit_is ∙ on.limit;
      within = let fed_before = on.fed in let limit = on.limit in let within = on.within in omega arith;
    })

-- a line of the piece, within the limit, has a fault
pub stops_within : (task : Task) (bytes piece : List ℕ) (old : Progress) (room : ℕ) (fault : CertFault) → old.stopped ≡ None → WasFed task bytes old
    → ((task : Task) (before : List ℕ) → Accepts task before old → HasLineFault task (before ++ piece) fault) → room ≡ old.limit - old.fed → length piece ≤ room → HasFault task (bytes ++ piece) fault
stops_within task bytes piece old room fault going fed faulty room_is fits =
    let on = has_taken task bytes old going fed in
    let within : length (bytes ++ piece) ≤ task.limit = let fed_before = on.fed in let limit = on.limit in let inside = on.within in omega (arith, length-append bytes piece) in
    stops_by task (bytes ++ piece) (bytes ++ piece) fault (take_all task.limit (bytes ++ piece) within) (faulty task bytes on.accepts)

room_of : (task : Task) (bytes : List ℕ) (old : Progress) (room : ℕ) → HasTaken task bytes old → room ≡ old.limit - old.fed → length bytes + room ≡ task.limit
room_of task bytes old room on room_is = let fed_before = on.fed in let limit = on.limit in let inside = on.within in omega arith

-- a line that ends within the limit has a fault
pub stops_before : (task : Task) (bytes piece part : List ℕ) (old : Progress) (room : ℕ) (fault : CertFault) → old.stopped ≡ None → WasFed task bytes old
    → ((task : Task) (before : List ℕ) → Accepts task before old → HasLineFault task (before ++ part) fault) → room ≡ old.limit - old.fed → room ≤ length piece → part ≡ take room piece → HasFault task (bytes ++ piece) fault
stops_before task bytes piece part old room fault going fed faulty room_is over part_is =
    let on = has_taken task bytes old going fed in
    stops_by task (bytes ++ piece) (bytes ++ part) fault (take_past task.limit room bytes piece (room_of task bytes old room on room_is) over ∙ ap (λ (xs : List ℕ). bytes ++ xs) (sym part_is)) (faulty task bytes on.accepts)

-- the limit is past
pub endless : (task : Task) (bytes piece part : List ℕ) (old now : Progress) (room : ℕ) → old.stopped ≡ None → WasFed task bytes old
    → ((task : Task) (before : List ℕ) → Accepts task before old → Accepts task (before ++ part) now) → room ≡ old.limit - old.fed → room < length piece → part ≡ take room piece → IsTooLong task (bytes ++ piece)
endless task bytes piece part old now room going fed accepts room_is over part_is =
    let on = has_taken task bytes old going fed in
    let a = accepts task bytes on.accepts in
    let room_ends = room_of task bytes old room on room_is in
    let past : take task.limit (bytes ++ piece) ≡ bytes ++ part = take_past task.limit room bytes piece room_ends (omega arith) ∙ ap (λ (xs : List ℕ). bytes ++ xs) (sym part_is) in
    record {
      lines = a.lines;
      rest = now.pending;
      over = omega (arith, length-append bytes piece);
      reads = subst (λ (xs : List ℕ). Reads task xs a.lines now.pending) (sym past) a.reads;
      free = a.free;
    }

-- ---- the end

-- a line has no line feed
pub is_cut : (task : Task) (bytes : List ℕ) (old : Progress) → old.stopped ≡ None → WasFed task bytes old → 1 ≤ length old.pending → HasCutLine task bytes old.place
is_cut task bytes old going fed some =
    let on = has_taken task bytes old going fed in
    record { lines = on.accepts.lines; rest = old.pending; reads = on.accepts.reads; within = on.within; free = on.accepts.free; some = some; is_place = on.accepts.place }

-- all bytes are lines
pub all_lines : (task : Task) (bytes : List ℕ) (old : Progress) → (on : HasTaken task bytes old) → old.pending ≡ [] → AreLines task bytes on.accepts.lines
all_lines task bytes old on none = record { reads = subst (Reads task bytes on.accepts.lines) none on.accepts.reads; within = on.within }

derived_are : (task : Task) (bytes : List ℕ) (old : Progress) → (on : HasTaken task bytes old) → drop old.axioms old.clauses ≡ clauses_of on.accepts.lines
derived_are task bytes old on = ap (drop old.axioms) on.accepts.clauses ∙ drop_at task.formula (clauses_of on.accepts.lines) old.axioms (sym on.accepts.axioms)

pub is_refutation : (task : Task) (bytes : List ℕ) (old : Progress) (goal : Literal) (count : ℕ) → old.stopped ≡ None → WasFed task bytes old → old.pending ≡ [] → AnyRefutes goal (drop old.axioms old.clauses) → count ≡ length old.clauses - old.axioms → IsRefutation task bytes goal count
is_refutation task bytes old goal count going fed none refutes counted =
    let on = has_taken task bytes old going fed in
    let all : length old.clauses ≡ length task.formula + length on.accepts.lines = ap length on.accepts.clauses ∙ count_is task on.accepts.lines in
    record {
      lines = on.accepts.lines;
      accepted = all_lines task bytes old on none;
      counted = let axioms = on.accepts.axioms in omega arith;
      refutes = subst (AnyRefutes goal) (derived_are task bytes old on) refutes;
    }

pub leaves_open : (task : Task) (bytes : List ℕ) (old : Progress) (goal : Literal) → old.stopped ≡ None → WasFed task bytes old → old.pending ≡ [] → (AnyRefutes goal (drop old.axioms old.clauses) → ⊥) → LeavesOpen task bytes goal
leaves_open task bytes old goal going fed none refutes =
    let on = has_taken task bytes old going fed in
    record {
      lines = on.accepts.lines;
      accepted = all_lines task bytes old on none;
      open_goal = λ h. refutes (subst (AnyRefutes goal) (sym (derived_are task bytes old on)) h);
    }

-- what is accepted doesn't depend on the counts of bytes
pub accepts_as : (task : Task) (bytes : List ℕ) (old new : Progress) → new.clauses ≡ old.clauses → new.axioms ≡ old.axioms → new.place ≡ old.place → new.vars ≡ old.vars → new.pending ≡ old.pending → Accepts task bytes old → Accepts task bytes new
accepts_as task bytes old new clauses axioms place vars pending a = record {
  lines = a.lines;
  reads = subst (Reads task bytes a.lines) (sym pending) a.reads;
  free = subst (IsFree 10) (sym pending) a.free;
  clauses = clauses ∙ a.clauses;
  axioms = axioms ∙ a.axioms;
  place = place ∙ a.place;
  vars = vars ∙ a.vars;
}

-- a checker that stopped is fed more
pub fed_again : (task : Task) (bytes more : List ℕ) (old : Progress) (fault : CertFault) → old.stopped ≡ Some fault → WasFed task bytes old → WasFed task (bytes ++ more) old
fed_again task bytes more old fault is fed = subst (IsAfter task (bytes ++ more) old) (sym is) (HasFault-more task bytes more fault (subst (IsAfter task bytes old) is fed))

-- ---- a fault is the answer

answers_fault : (task : Task) (bytes : List ℕ) (goal : Literal) (fault : CertFault) → HasFault task bytes fault → Answers task bytes goal (Err fault)
answers_fault task bytes goal (ALine place) h = inl h
answers_fault task bytes goal (Bad place) h = h
answers_fault task bytes goal NotRefuting h = absurd h
answers_fault task bytes goal Endless h = h
answers_fault task bytes goal NoMemory h = h

pub faults_stay : (task : Task) (bytes more : List ℕ) (goal : Literal) (fault : CertFault) → HasFault task bytes fault → Answers task (bytes ++ more) goal (Err fault)
faults_stay task bytes more goal fault h = answers_fault task (bytes ++ more) goal fault (HasFault-more task bytes more fault h)
