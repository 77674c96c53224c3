-- Bodies by a list of frames, against the recursion on gates.
use Rattle.std.proofs.Common.{◌≡◌, ℕ, zero, suc, ◌+◌, ◌<◌, ◌≤◌, List, [], ◌∷◌, ◌++◌, length, drop, slice_get, Bool, true, false, cond, Option, Some, None, Result, Ok, Err, IsErrAnd, refl, ap, sym, ◌∙◌, subst, arith, All, inl, inr, length-append}
use Rattle.std.proofs.lemmas.List.{at_drop_all}
use Rattle.std.proofs.lemmas.Option.{slice_get_cases, slice_get_past}
use Rattle.std.proofs.lemmas.List.Elements.{All-get_or}
use Rattle.std.proofs.lemmas.Bool.{false≢true}
use Rattle.std.proofs.lemmas.Result.{err_from_is_err_and}
use Rattle.std.specs.Prelude.{◌==◌, nat_le, nat_lt, OnOk}
use Rattle.std.proofs.lemmas.Bool.Decides.{nat_tests}
use Rattle.circuit_core.specs.declared.angle.Angle.{Angle}
use Rattle.circuit_core.specs.declared.op.Cond.{Cond}
use Rattle.qc_base.specs.declared.ids.Qubit.{Qubit}
use Rattle.gate_names.specs.declared.gate.Gate.{Gate}
use Rattle.gate_names.specs.declared.gate.Gate.TheVariants.{Universal, ControlledNot, Opaque, Body}
use Rattle.gate_names.specs.declared.gate.Item.{Item}
use Rattle.gate_names.specs.declared.gate.Item.TheVariants.{Call}
use Rattle.gate_names.specs.declared.cause.Cause.{Cause}
use Rattle.gate_names.specs.declared.cause.Cause.TheVariants as causes
use Rattle.gate_names.specs.Causes.{◌>>=◌, Leaves, Gives}
use Rattle.gate_expand.specs.Making.{MadeValue, counted, with_op}
use Rattle.gate_names.specs.declared.cause.Counted.TheVariants.{Applications, Ops, Nodes}
use Rattle.circuit_core.specs.declared.op.Op.{Op}
use Rattle.circuit_core.specs.declared.op.Op.TheVariants as operation
use Rattle.circuit_core.specs.Op.{HasSmallAngles}
use Rattle.circuit_core.specs.Circuit.{all_nodes}
use Rattle.gate_names.specs.declared.term.Term.{Term}
use Rattle.gate_names.specs.Gates.{has_body}
use Rattle.gate_names.specs.GateOrder.{AreInOrder, CallsBelow, IsCallBelow}
use Rattle.gate_expand.specs.Angles.{put_all, IsSmall}
use Rattle.gate_expand.specs.Expansion.{Performing, performed, op_of, op_made, with_made, qubits_at, item_made, items_made, gate_made, gate_at_made, application_made}
use Rattle.gate_names.proofs.Places.{drop_some}
use Rattle.gate_expand.specs.WorkList.{FrameValue, advanced, body_of, entered, entered_first, frame_made, frames_made, LeavesWork, work_left, weight}

-- ---- steps one after another

pub then_ok : {A : Type 0} (r : Result A Cause) → r >>= Ok ≡ r
then_ok (Ok x) = refl
then_ok (Err e) = refl

pub then_then : {A B C : Type 0} (r : Result A Cause) (f : A → Result B Cause) (g : B → Result C Cause) → (r >>= f) >>= g ≡ r >>= λ x. f x >>= g
then_then (Ok x) f g = refl
then_then (Err e) f g = refl

-- ---- performing by numbers

module _ (gates : List Gate) (condition : Option Cond) (angles : List Angle) (qubits : List Qubit) (made : MadeValue) where
  choose_below : (last gate : ℕ) (b : Bool) → gate == last ≡ b
      → (b ≡ false → performed gates condition last gate angles qubits made ≡ gate_at_made (performed gates condition gate) condition (slice_get gates gate) angles qubits made)
      → cond b (gate_at_made (performed gates condition last) condition (slice_get gates gate) angles qubits made) (performed gates condition last gate angles qubits made)
      ≡ gate_at_made (performed gates condition gate) condition (slice_get gates gate) angles qubits made
  choose_below last gate true e other =
      let same : gate ≡ last = grind (arith, nat_tests) in
      ap (λ (n : ℕ). gate_at_made (performed gates condition n) condition (slice_get gates gate) angles qubits made) (sym same)
  choose_below last gate false e other = other refl

  -- a gate below the bound
  pub performed_below : (bound gate : ℕ) → gate < bound
      → performed gates condition bound gate angles qubits made ≡ gate_at_made (performed gates condition gate) condition (slice_get gates gate) angles qubits made
  unfolding performed
  performed_below zero gate h = absurd (omega arith)
  performed_below (suc last) gate h =
      choose_below last gate (gate == last) refl (λ (e : gate == last ≡ false).
      let below : gate < last = grind (arith, nat_tests) in performed_below last gate below)

  choose_above : (last gate : ℕ) (b : Bool) → gate == last ≡ b → suc last ≤ gate → performed gates condition last gate angles qubits made ≡ Ok made
      → cond b (gate_at_made (performed gates condition last) condition (slice_get gates gate) angles qubits made) (performed gates condition last gate angles qubits made) ≡ Ok made
  choose_above last gate true e h other = let same : gate ≡ last = grind (arith, nat_tests) in absurd (omega arith)
  choose_above last gate false e h other = other

  -- none at the bound or above
  pub performed_above : (bound gate : ℕ) → bound ≤ gate → performed gates condition bound gate angles qubits made ≡ Ok made
  unfolding performed
  performed_above zero gate h = refl
  performed_above (suc last) gate h = choose_above last gate (gate == last) refl h (performed_above last gate (omega arith))

  -- all gates
  pub performed_all : (gate : ℕ) → performed gates condition (length gates) gate angles qubits made
      ≡ gate_at_made (performed gates condition gate) condition (slice_get gates gate) angles qubits made
  performed_all gate = elim (slice_get_cases gates gate).1 [
    | inl w ↦ performed_below (length gates) gate w.1
    | inr w ↦ performed_above (length gates) gate w.0
        ∙ sym (ap (λ (o : Option Gate). gate_at_made (performed gates condition gate) condition o angles qubits made) w.1)
  ]

-- ---- frames

module _ (gates : List Gate) (condition : Option Cond) where
  -- the last frame is done first
  pub frames_push : (frames : List FrameValue) (frame : FrameValue) (made : MadeValue)
      → frames_made gates condition (frames ++ frame ∷ []) made ≡ frame_made gates condition frame made >>= frames_made gates condition frames
  frames_push [] frame made = sym (then_ok (frame_made gates condition frame made))
  frames_push (first ∷ frames) frame made =
      ap (λ (r : Result MadeValue Cause). r >>= frame_made gates condition first) (frames_push frames frame made)
      ∙ then_then (frame_made gates condition frame made) (frames_made gates condition frames) (frame_made gates condition first)

  -- what a call left, and then those frames
  pub leaves_then : (r : Result (Unit {0}) Cause) (frames : List FrameValue) (now : MadeValue) (said : Result MadeValue Cause)
      → Leaves r now said → LeavesWork gates condition r frames now (said >>= frames_made gates condition frames)
  leaves_then (Ok done) frames now said h = ap (λ (r : Result MadeValue Cause). r >>= frames_made gates condition frames) h
  leaves_then (Err causes.NoMemory) frames now said h = tt
  leaves_then (Err e) frames now said h = ap (λ (r : Result MadeValue Cause). r >>= frames_made gates condition frames) h

  left_by : (e : Cause) (now after : MadeValue) (frames : List FrameValue) (said whole : Result MadeValue Cause)
      → Leaves (Err e) now said → (said ≡ Err e → whole ≡ Err e) → LeavesWork gates condition (Err e) frames after whole
  left_by causes.NoMemory now after frames said whole h on = tt
  left_by e now after frames said whole h on = on h

  given_by : {X Y : Type 0} (e : Cause) (see : X → Y) (after : MadeValue) (frames : List FrameValue) (said : Result Y Cause) (whole : Result MadeValue Cause)
      → Gives see (Err e) said → (said ≡ Err e → whole ≡ Err e) → LeavesWork gates condition (Err e) frames after whole
  given_by causes.NoMemory see after frames said whole h on = tt
  given_by e see after frames said whole h on = on h

  -- a refusal that is handed on, of a call that leaves something
  pub work_left_on : (result : Result (Unit {0}) Cause) (e : Cause) (now after : MadeValue) (frames : List FrameValue) (said whole : Result MadeValue Cause)
      → IsErrAnd result (λ x. x ≡ e) → Leaves (Err e) now said → (said ≡ Err e → whole ≡ Err e) → LeavesWork gates condition result frames after whole
  work_left_on result e now after frames said whole is h on =
      let p = err_from_is_err_and result is in rw (p.1, p.2) (left_by e now after frames said whole h on)

  -- and of one that gives something
  pub work_given_on : {X Y : Type 0} (result : Result (Unit {0}) Cause) (e : Cause) (see : X → Y) (after : MadeValue) (frames : List FrameValue) (said : Result Y Cause) (whole : Result MadeValue Cause)
      → IsErrAnd result (λ x. x ≡ e) → Gives see (Err e) said → (said ≡ Err e → whole ≡ Err e) → LeavesWork gates condition result frames after whole
  work_given_on {X} {Y} result e see after frames said whole is h on =
      let p = err_from_is_err_and result is in rw (p.1, p.2) (given_by {X = X} {Y = Y} e see after frames said whole h on)

-- ---- calls that are refused

module _ (perform : Performing) (angles : List Angle) (qubits : List Qubit) (gate : ℕ) (params : List Term) (positions : List ℕ) (made : MadeValue) where
  pub uncounted : (cause : Cause) → counted made ≡ Err cause → item_made perform angles qubits (Call gate params positions) made ≡ Err cause
  uncounted cause e =
      ap (λ (r : Result MadeValue Cause). r >>= λ now. put_all angles params >>= λ actual. perform gate actual (qubits_at qubits positions) now) e

  pub too_large : (now : MadeValue) (cause : Cause) → counted made ≡ Ok now → put_all angles params ≡ Err cause
      → item_made perform angles qubits (Call gate params positions) made ≡ Err cause
  too_large now cause c p =
      ap (λ (r : Result MadeValue Cause). r >>= λ now. put_all angles params >>= λ actual. perform gate actual (qubits_at qubits positions) now) c
      ∙ ap (λ (r : Result (List Angle) Cause). r >>= λ actual. perform gate actual (qubits_at qubits positions) now) p

-- ---- the item that was read

pub item_read : (gates seen : List Gate) (frame : FrameValue) (gate next : ℕ) (item : Item) → seen ≡ gates → gate ≡ frame.gate → next ≡ frame.next
    → Some item ≡ slice_get (body_of (slice_get seen gate)) next → slice_get (body_of (slice_get gates frame.gate)) frame.next ≡ Some item
item_read gates seen frame gate next item s g n h = sym (h ∙ (λ i. slice_get (body_of (slice_get (s i) (g i))) (n i)))

-- ---- a place in a list

pub drop_none : {X : Type 0} (xs : List X) (i : ℕ) → slice_get xs i ≡ None → drop i xs ≡ []
drop_none {X} xs i h = elim (slice_get_cases xs i).1 [
  | inl w ↦ (let clash : None ≡ Some w.0 = sym h ∙ w.2 in absurd (cc))
  | inr w ↦ at_drop_all (λ (l : List X). l) xs i w.0
]

pub all_at : {X : Type 0} (P : X → Type 0) (xs : List X) (i : ℕ) (x : X) → All P xs → slice_get xs i ≡ Some x → P x
all_at {X} P xs i x each h = elim (slice_get_cases xs i).1 [
  | inl w ↦ (let same : w.0 ≡ x = cc in subst P (w.3 ∙ same) (All-get_or P xs i w.0 w.1 each))
  | inr w ↦ (let clash : None ≡ Some x = sym w.1 ∙ h in absurd (cc))
]

-- ---- entering a gate

module _ (gates : List Gate) (condition : Option Cond) (frame : FrameValue) (frames : List FrameValue) (made : MadeValue) where
  pub enter_none : slice_get gates frame.gate ≡ None → entered_first gates condition frame frames made ≡ frames_made gates condition frames made
  enter_none h = ap (λ (o : Option Gate). gate_at_made (performed gates condition frame.gate) condition o frame.angles frame.qubits made >>= frames_made gates condition frames) h

  body_entered : (gate : Gate) → slice_get gates frame.gate ≡ Some gate → has_body gate ≡ true → frame.next ≡ 0
      → entered gates condition frame made ≡ frame_made gates condition frame made
  body_entered (Body params qubits items) h b n =
      ap (λ (o : Option Gate). gate_at_made (performed gates condition frame.gate) condition o frame.angles frame.qubits made) h
      ∙ sym (λ i. items_made (performed gates condition frame.gate) frame.angles frame.qubits (drop (n i) (body_of (h i))) made)
  body_entered gate h b n = absurd (false≢true b)

  pub enter_body : (gate : Gate) → slice_get gates frame.gate ≡ Some gate → has_body gate ≡ true → frame.next ≡ 0
      → entered_first gates condition frame frames made ≡ frames_made gates condition (frames ++ frame ∷ []) made
  enter_body gate h b n =
      ap (λ (r : Result MadeValue Cause). r >>= frames_made gates condition frames) (body_entered gate h b n)
      ∙ sym (frames_push gates condition frames frame made)

  op_entered : (gate : Gate) → has_body gate ≡ false
      → gate_made (performed gates condition frame.gate) condition gate frame.angles frame.qubits made ≡ op_made condition gate frame.angles frame.qubits made
  op_entered (Body params qubits items) b = absurd (false≢true (sym b))
  op_entered gate b = refl

  pub enter_op : (gate : Gate) → slice_get gates frame.gate ≡ Some gate → has_body gate ≡ false
      → entered_first gates condition frame frames made ≡ op_made condition gate frame.angles frame.qubits made >>= frames_made gates condition frames
  enter_op gate h b =
      ap (λ (o : Option Gate). gate_at_made (performed gates condition frame.gate) condition o frame.angles frame.qubits made >>= frames_made gates condition frames) h
      ∙ ap (λ (r : Result MadeValue Cause). r >>= frames_made gates condition frames) (op_entered gate b)

  -- a gate that made its operation
  pub enter_made : (gate : Gate) (angles : List Angle) (qubits : List Qubit) (r : Result (Unit {0}) Cause) (now : MadeValue)
      → slice_get gates frame.gate ≡ Some gate → has_body gate ≡ false → frame.angles ≡ angles → frame.qubits ≡ qubits
      → Leaves r now (op_made condition gate angles qubits made) → LeavesWork gates condition r frames now (entered_first gates condition frame frames made)
  enter_made gate angles qubits r now h b a q l =
      subst (λ (said : Result MadeValue Cause). LeavesWork gates condition r frames now said)
      (sym (enter_op gate h b ∙ (λ i. op_made condition gate (a i) (q i) made >>= frames_made gates condition frames)))
      (leaves_then gates condition r frames now (op_made condition gate angles qubits made) l)

-- ---- the next item of a frame

module _ (gates : List Gate) (condition : Option Cond) (frame : FrameValue) (frames : List FrameValue) (made : MadeValue) where
  pub step_none : slice_get (body_of (slice_get gates frame.gate)) frame.next ≡ None
      → frames_made gates condition (frames ++ frame ∷ []) made ≡ frames_made gates condition frames made
  step_none h =
      frames_push gates condition frames frame made
      ∙ ap (λ (l : List Item). items_made (performed gates condition frame.gate) frame.angles frame.qubits l made >>= frames_made gates condition frames) (drop_none (body_of (slice_get gates frame.gate)) frame.next h)

  step_some : (item : Item) → slice_get (body_of (slice_get gates frame.gate)) frame.next ≡ Some item
      → frames_made gates condition (frames ++ frame ∷ []) made
      ≡ item_made (performed gates condition frame.gate) frame.angles frame.qubits item made >>= frames_made gates condition (frames ++ advanced frame ∷ [])
  step_some item h =
      frames_push gates condition frames frame made
      ∙ ap (λ (l : List Item). items_made (performed gates condition frame.gate) frame.angles frame.qubits l made >>= frames_made gates condition frames) (drop_some (body_of (slice_get gates frame.gate)) frame.next item h)
      ∙ then_then (item_made (performed gates condition frame.gate) frame.angles frame.qubits item made) (frame_made gates condition (advanced frame)) (frames_made gates condition frames)
      ∙ ap (λ (f : MadeValue → Result MadeValue Cause). item_made (performed gates condition frame.gate) frame.angles frame.qubits item made >>= f)
      (λ i m. sym (frames_push gates condition frames (advanced frame) m) i)

  -- it is done
  pub step_done : (item : Item) (now : MadeValue) → slice_get (body_of (slice_get gates frame.gate)) frame.next ≡ Some item
      → item_made (performed gates condition frame.gate) frame.angles frame.qubits item made ≡ Ok now
      → frames_made gates condition (frames ++ frame ∷ []) made ≡ frames_made gates condition (frames ++ advanced frame ∷ []) now
  step_done item now h e = step_some item h ∙ ap (λ (r : Result MadeValue Cause). r >>= frames_made gates condition (frames ++ advanced frame ∷ [])) e

  -- it is refused
  pub step_refused : (item : Item) (cause : Cause) → slice_get (body_of (slice_get gates frame.gate)) frame.next ≡ Some item
      → item_made (performed gates condition frame.gate) frame.angles frame.qubits item made ≡ Err cause
      → frames_made gates condition (frames ++ frame ∷ []) made ≡ Err cause
  step_refused item cause h e = step_some item h ∙ ap (λ (r : Result MadeValue Cause). r >>= frames_made gates condition (frames ++ advanced frame ∷ [])) e

  call_below : (gate : ℕ) (params : List Term) (positions : List ℕ) (o : Option Gate) → ((g : Gate) → o ≡ Some g → CallsBelow frame.gate g)
      → slice_get (body_of o) frame.next ≡ Some (Call gate params positions) → gate < frame.gate
  call_below gate params positions (Some (Body p q items)) below h = all_at (IsCallBelow frame.gate) items frame.next (Call gate params positions) (below (Body p q items) refl) h
  call_below gate params positions other below h =
      let clash : None ≡ Some (Call gate params positions) = sym (slice_get_past [] frame.next (omega arith)) ∙ h in absurd (cc)

  -- it is a call, whose angles were put
  pub step_call : (gate : ℕ) (params : List Term) (positions : List ℕ) (actual : List Angle) (now : MadeValue) → AreInOrder gates
      → slice_get (body_of (slice_get gates frame.gate)) frame.next ≡ Some (Call gate params positions)
      → counted made ≡ Ok now → put_all frame.angles params ≡ Ok actual
      → frames_made gates condition (frames ++ frame ∷ []) made
      ≡ entered_first gates condition (record { gate = gate; next = 0; angles = actual; qubits = qubits_at frame.qubits positions }) (frames ++ advanced frame ∷ []) now
  step_call gate params positions actual now order h c p =
      step_some (Call gate params positions) h
      ∙ ap (λ (r : Result MadeValue Cause). (r >>= λ m. put_all frame.angles params >>= λ a. performed gates condition frame.gate gate a (qubits_at frame.qubits positions) m) >>= frames_made gates condition (frames ++ advanced frame ∷ [])) c
      ∙ ap (λ (r : Result (List Angle) Cause). (r >>= λ a. performed gates condition frame.gate gate a (qubits_at frame.qubits positions) now) >>= frames_made gates condition (frames ++ advanced frame ∷ [])) p
      ∙ ap (λ (r : Result MadeValue Cause). r >>= frames_made gates condition (frames ++ advanced frame ∷ []))
      (performed_below gates condition actual (qubits_at frame.qubits positions) now frame.gate gate
      (call_below gate params positions (slice_get gates frame.gate) (order frame.gate) h))

-- ---- how much is left to be made

pub counted_less : (made now : MadeValue) → counted made ≡ Ok now → work_left now + 2 ≤ work_left made
counted_less made now h = by (nat_le 100000 made.applications) refl
  where
    by : (b : Bool) → nat_le 100000 made.applications ≡ b → work_left now + 2 ≤ work_left made
    by true e = let clash : Err (causes.TooMany Applications) ≡ Ok now = rw e at h in absurd (cc)
    by false e =
        let few : made.applications < 100000 = grind (arith, nat_tests) in
        let is : Ok (record { ops = made.ops; applications = made.applications + 1 }) ≡ Ok now = rw e at h in
        let same : record { ops = made.ops; applications = made.applications + 1 } ≡ now = cc in
        subst (λ (m : MadeValue). work_left m + 2 ≤ work_left made) same (omega arith)

pub with_op_less : (op : Op) (made now : MadeValue) → with_op op made ≡ Ok now → work_left now + 1 ≤ work_left made
with_op_less op made now h = by (nat_le 10000 (length made.ops)) (nat_lt 1000000 (all_nodes (made.ops ++ op ∷ []))) refl refl
  where
    by : (b d : Bool) → nat_le 10000 (length made.ops) ≡ b → nat_lt 1000000 (all_nodes (made.ops ++ op ∷ [])) ≡ d → work_left now + 1 ≤ work_left made
    by true d e f = let clash : Err (causes.TooMany Ops) ≡ Ok now = rw e at h in absurd (cc)
    by false true e f = let clash : Err (causes.TooMany Nodes) ≡ Ok now = rw (e, f) at h in absurd (cc)
    by false false e f =
        let few : length made.ops < 10000 = grind (arith, nat_tests) in
        let is : Ok (record { ops = made.ops ++ op ∷ []; applications = made.applications }) ≡ Ok now = rw (e, f) at h in
        let same : record { ops = made.ops ++ op ∷ []; applications = made.applications } ≡ now = cc in
        subst (λ (m : MadeValue). work_left m + 1 ≤ work_left made) same (omega (arith, length-append made.ops (op ∷ [])))

op_less : (r : Result (Option Op) Cause) (made now : MadeValue) → (r >>= λ op. with_made op made) ≡ Ok now → work_left now ≤ work_left made
op_less (Ok None) made now h = let same : made ≡ now = cc in subst (λ (m : MadeValue). work_left m ≤ work_left made) same (omega arith)
op_less (Ok (Some op)) made now h = let less = with_op_less op made now h in omega arith
op_less (Err e) made now h = let clash : Err e ≡ Ok now = h in absurd (cc)

-- a gate that made its operation left the list as it was
pub made_less : (r : Result (Unit {0}) Cause) (condition : Option Cond) (gate : Gate) (angles : List Angle) (qubits : List Qubit) (frames : List FrameValue) (made now : MadeValue)
    → Leaves r now (op_made condition gate angles qubits made) → OnOk r (weight frames now ≤ weight frames made + 1)
made_less (Ok done) condition gate angles qubits frames made now h = let less = op_less (op_of condition gate angles qubits) made now h in omega arith
made_less (Err e) condition gate angles qubits frames made now h = tt

-- ---- an application in the file

module _ (gates : List Gate) (condition : Option Cond) (gate : ℕ) (params : List Term) (qubits : List Qubit) (made : MadeValue) where
  -- its gate is entered
  pub apply_enters : (actual : List Angle) (now : MadeValue) → counted made ≡ Ok now → put_all [] params ≡ Ok actual
      → application_made gates condition gate params qubits made
      ≡ entered_first gates condition (record { gate = gate; next = 0; angles = actual; qubits = qubits }) [] now
  apply_enters actual now c p =
      ap (λ (r : Result MadeValue Cause). r >>= λ m. put_all [] params >>= λ a. performed gates condition (length gates) gate a qubits m) c
      ∙ ap (λ (r : Result (List Angle) Cause). r >>= λ a. performed gates condition (length gates) gate a qubits now) p
      ∙ performed_all gates condition actual qubits now gate
      ∙ sym (then_ok (gate_at_made (performed gates condition gate) condition (slice_get gates gate) actual qubits now))

-- ---- angles of operations

-- an operation has the angles that it was made from, or none
pub small_op : (condition : Option Cond) (gate : Gate) (angles : List Angle) (qubits : List Qubit) (op : Op)
    → All IsSmall angles → op_of condition gate angles qubits ≡ Ok (Some op) → HasSmallAngles op
small_op condition Universal (theta ∷ phi ∷ lambda ∷ []) (qubit ∷ []) op s e =
    let is : operation.U theta phi lambda qubit condition ≡ op = cc in subst HasSmallAngles is s
small_op condition ControlledNot angles (control ∷ target ∷ []) op s e =
    let is : operation.Cx control target condition ≡ op = cc in subst HasSmallAngles is (λ k d h. absurd (omega arith))
small_op condition (Opaque name p q) angles (first ∷ []) op s e =
    let is : operation.Opaque name angles first None condition ≡ op = cc in subst HasSmallAngles is s
small_op condition (Opaque name p q) angles (first ∷ second ∷ []) op s e =
    let is : operation.Opaque name angles first (Some second) condition ≡ op = cc in subst HasSmallAngles is s
small_op condition (Opaque name p q) angles (first ∷ second ∷ third ∷ more) op s e =
    let clash : Err causes.WideOp ≡ Ok (Some op) = e in absurd (cc)
small_op condition gate angles qubits op s e = let clash : Ok None ≡ Ok (Some op) = e in absurd (cc)

-- ---- what functions are proved by

pub ruleset entering = (enter_none, enter_body, enter_op, leaves_then, made_less)

pub ruleset stepping = (step_none, step_done, step_refused, step_call, counted_less, with_op_less)
