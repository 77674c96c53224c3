-- From which step on all that has to come before an operation is done.
use Rattle.std.proofs.Common.{◌≡◌, ℕ, suc, ◌+◌, ◌-◌, ◌<◌, ◌≤◌, ◌^◌, List, [], ◌∷◌, ◌++◌, length, take, get_or, set, true, false, Some, refl, sym, ap, subst, ◌∙◌, inl, inr, arith, get_or-set_same, get_or-set_other, length-append}
use Rattle.std.specs.Prelude.{IsTrue, ◌⊎◌, slice_get, fold, min, max}
use Rattle.std.proofs.Math.Seq.{get_or-append_seam}
use Rattle.std.proofs.lemmas.Bool.{cases_Bool, cases_eq, cases_lt, cond-true, cond-false, eq-eqb}
use Rattle.std.proofs.lemmas.Option.{same_Some, slice_get_within}
use Rattle.std.proofs.lemmas.List.{get_or_append_left, length-set, length-take-le}
use Rattle.qc_base.specs.declared.ids.OpId.{OpId}
use Rattle.circuit_core.specs.Circuit.{CircuitValue}
use Rattle.circuit_core.specs.Order.{Forced, IsReached, is_performed}
use Rattle.circuit_core.specs.Nearest.{IsListed, AreNearest}
use Rattle.circuit_core.proofs.Forcing.{forced_before}
use Rattle.step_rules.specs.declared.action.Action.{Action}
use Rattle.step_rules.specs.declared.action.Action.TheVariants as actions
use Rattle.step_rules.specs.Play.{is_done}
use Rattle.schedule_play.specs.Ready.{AreClosed, AreDoneAfter, noted, settled_after, AreReadyAfter, IsReadyThroughout}
use Rattle.schedule_play.proofs.Lists.{slice_take, there_is}
use Rattle.schedule_play.proofs.Owed.{numbered}
use Rattle.schedule_play.proofs.Done.{at_done}

-- ---- the first step that performs an operation

pub none_done : (steps : List (List Action)) (firsts : List ℕ) → ((op : ℕ) → op < length firsts → get_or firsts op 0 ≡ 2 ^ 64 - 1) → AreDoneAfter steps firsts
none_done steps firsts none op time h early few = let is = none op h in absurd (omega arith)

noted_length : (number : ℕ) (firsts : List ℕ) (action : Action) → length (noted number firsts action) ≡ length firsts
noted_length number firsts (actions.Split zone end count) = refl
noted_length number firsts (actions.Move from to) = refl
noted_length number firsts (actions.Cross junction from to) = refl
noted_length number firsts (actions.Merge zone end) = refl
noted_length number firsts (actions.Swap zone index) = refl
noted_length number firsts (actions.Op zone op) = length-set firsts op.0 (min (get_or firsts op.0 0) number)

-- the less of two is one of them
min_is : (a b time : ℕ) → min a b ≤ time → (a ≤ time → ⊥) → b ≤ time
min_is a b time h isnt = omega arith

done_noted : (steps : List (List Action)) (firsts : List ℕ) (at place : ℕ) (step : List Action) (action : Action) → slice_get steps at ≡ Some step → slice_get step place ≡ Some action → AreDoneAfter steps firsts → AreDoneAfter steps (noted (at + 1) firsts action)
done_noted steps firsts at place step (actions.Split zone end count) there in_step done = done
done_noted steps firsts at place step (actions.Move from to) there in_step done = done
done_noted steps firsts at place step (actions.Cross junction from to) there in_step done = done
done_noted steps firsts at place step (actions.Merge zone end) there in_step done = done
done_noted steps firsts at place step (actions.Swap zone index) there in_step done = done
done_noted steps firsts at place step (actions.Op zone op) there in_step done = λ k time h early few.
    let value : ℕ = min (get_or firsts op.0 0) (at + 1) in
    let within : k < length firsts = omega (arith, length-set firsts op.0 value) in
    elim (cases_eq k op.0) [
      | inr other ↦ done k time within (omega (arith, get_or-set_other firsts op.0 k value 0 other)) few
      | inl same ↦ (let here : get_or (set firsts op.0 value) k 0 ≡ value = ap (λ (n : ℕ). get_or (set firsts op.0 value) n 0) same ∙ get_or-set_same firsts op.0 value 0 (omega (arith, same)) in
          elim (cases_lt time (get_or firsts op.0 0)) [
            | inr before ↦ done k time within (omega (arith, ap (λ (n : ℕ). get_or firsts n 0) same)) few
            | inl after ↦ (let late : at < time = omega (arith, here, min_is (get_or firsts op.0 0) (at + 1) time (omega (arith, here)) (λ isnt. omega arith)) in
                at_done (take time steps) at place k step (actions.Op zone op) (slice_take time steps step at late there) in_step (eq-eqb op.0 k (sym same)))
          ])
    ]

fold_length : (number : ℕ) (firsts : List ℕ) (step : List Action) → length (fold (noted number) firsts step) ≡ length firsts
fold_length number firsts [] = refl
fold_length number firsts (action ∷ step) = fold_length number (noted number firsts action) step ∙ noted_length number firsts action

done_rest : (steps : List (List Action)) (firsts : List ℕ) (at from : ℕ) (step rest : List Action) → slice_get steps at ≡ Some step → ((k : ℕ) (action : Action) → slice_get rest k ≡ Some action → slice_get step (from + k) ≡ Some action) → AreDoneAfter steps firsts
    → AreDoneAfter steps (fold (noted (at + 1)) firsts rest)
done_rest steps firsts at from step [] there in_step done = done
done_rest steps firsts at from step (action ∷ rest) there in_step done =
    done_rest steps (noted (at + 1) firsts action) at (from + 1) step rest there
    (λ k other is. let same : from + suc k ≡ from + 1 + k = omega arith in subst (λ (n : ℕ). slice_get step n ≡ Some other) same (in_step (suc k) other is))
    (done_noted steps firsts at (from + 0) step action there (in_step 0 action refl) done)

-- after one more step
pub done_step : (steps : List (List Action)) (firsts now : List ℕ) (at : ℕ) (step : List Action) → slice_get steps at ≡ Some step → now ≡ fold (noted (at + 1)) firsts step → AreDoneAfter steps firsts → AreDoneAfter steps now
done_step steps firsts now at step there is done = subst (AreDoneAfter steps) (sym is) (done_rest steps firsts at 0 step step there (λ k action at_k. let same : k ≡ 0 + k = omega arith in subst (λ (n : ℕ). slice_get step n ≡ Some action) same at_k) done)

pub step_length : (firsts now : List ℕ) (number : ℕ) (step : List Action) → now ≡ fold (noted number) firsts step → length now ≡ length firsts
step_length firsts now number step is = ap length is ∙ fold_length number firsts step

-- ---- when an operation is ready

-- after its own first step or, for a barrier, once it is ready, all that has to come before what comes after it is done
near_ready : (circuit : CircuitValue) (steps : List (List Action)) (firsts ready : List ℕ) (last time needs : ℕ) → AreDoneAfter steps firsts → AreReadyAfter circuit steps ready → last < length ready → last < length firsts
    → settled_after circuit firsts ready last ≤ time → time < 2 ^ 64 - 1 → AreClosed circuit (take time steps) → IsTrue (is_performed circuit needs) → (needs ≡ last) ⊎ Forced circuit needs last → is_done (take time steps) needs ≡ true
near_ready circuit steps firsts ready last time needs done after in_ready in_firsts settled few closed performed reached = elim (cases_Bool (is_performed circuit last)) [
  | inl is ↦ (let there : is_done (take time steps) last ≡ true = done last time in_firsts (omega (arith, cond-true (is_performed circuit last) (get_or firsts last 0) (get_or ready last 0) is)) few in
      elim reached [
        | inl same ↦ subst (λ (n : ℕ). is_done (take time steps) n ≡ true) (sym same) there
        | inr forced ↦ closed last there needs performed forced
      ])
  | inr isnt ↦ elim reached [
    | inl same ↦ absurd (let is : is_performed circuit last ≡ true = subst (λ (n : ℕ). is_performed circuit n ≡ true) same performed in cc)
    | inr forced ↦ after last time in_ready (omega (arith, cond-false (is_performed circuit last) (get_or firsts last 0) (get_or ready last 0) isnt)) few closed needs performed forced
  ]
]

-- the table with the next operation
pub ready_more : (circuit : CircuitValue) (steps : List (List Action)) (firsts ready now : List ℕ) (near : List OpId) (op number : ℕ) → AreDoneAfter steps firsts → AreReadyAfter circuit steps ready → length ready ≡ op → op ≤ length firsts → AreNearest circuit op near
    → ((other : ℕ) → IsListed near other → settled_after circuit firsts ready other ≤ number) → now ≡ ready ++ number ∷ [] → AreReadyAfter circuit steps now
ready_more circuit steps firsts ready now near op number done after count within nearest settled is k time h early few closed needs performed forced =
    let below : k < length ready + 1 = omega (arith, ap length is, length-append ready (number ∷ [])) in
    elim (cases_eq k op) [
      | inr other ↦ (let before : k < length ready = omega arith in
          let same : get_or now k 0 ≡ get_or ready k 0 = ap (λ (l : List ℕ). get_or l k 0) is ∙ get_or_append_left ready (number ∷ []) 0 k before in
          after k time before (omega (arith, same)) few closed needs performed forced)
      | inl last ↦ (let same : get_or now k 0 ≡ number = ap (λ (l : List ℕ). get_or l k 0) is ∙ ap (λ (n : ℕ). get_or (ready ++ number ∷ []) n 0) (last ∙ sym count) ∙ get_or-append_seam ready number [] 0 in
          let to_op : Forced circuit needs op = subst (Forced circuit needs) last forced in
          let it : IsReached circuit (IsListed near) needs = nearest.all needs to_op in
          let less : it.last < op = forced_before circuit it.last op (nearest.sound it.last it.among) in
          near_ready circuit steps firsts ready it.last time needs done after (omega (arith, count)) (omega (arith, within)) (omega (arith, settled it.last it.among, same)) few closed performed it.reached)
    ]

pub near_within : (circuit : CircuitValue) (near : List OpId) (op n : ℕ) → AreNearest circuit op near → op ≤ n → (other : ℕ) → IsListed near other → other < n
near_within circuit near op n nearest h other listed = omega (arith, forced_before circuit other op (nearest.sound other listed))

pub none_ready : (circuit : CircuitValue) (steps : List (List Action)) → AreReadyAfter circuit steps []
none_ready circuit steps op time h early few closed = absurd (omega arith)

-- the whole table, after the steps that were played
pub ready_throughout : (circuit : CircuitValue) (steps : List (List Action)) (ready : List ℕ) → length steps < 2 ^ 64 → length ready ≡ length circuit.ops → AreReadyAfter circuit steps ready → IsReadyThroughout circuit steps ready
ready_throughout circuit steps ready few len after time h = record {
  len = len;
  settled = λ op within early closed.
      after op time (omega (arith, len)) (omega (arith, length-take-le time steps (omega arith))) (omega arith) closed;
}

-- ---- those right before an operation

pub none_settled : (near : List OpId) (settled : ℕ → ℕ) (bound i : ℕ) → i ≡ 0 → (k : ℕ) (other : OpId) → k < i → slice_get near k ≡ Some other → settled other.0 ≤ bound
none_settled near settled bound i none k other h at = absurd (omega arith)

pub all_settled : (near : List OpId) (settled : ℕ → ℕ) (bound i : ℕ) → length near ≤ i → ((k : ℕ) (other : OpId) → k < i → slice_get near k ≡ Some other → settled other.0 ≤ bound) → (other : ℕ) → IsListed near other → settled other ≤ bound
all_settled near settled bound i h each other listed =
    let at = there_is near (numbered other) listed in
    each at.0 (numbered other) (omega (arith, slice_get_within near at.0 (numbered other) at.1)) at.1

pub settled_more : (near : List OpId) (settled : ℕ → ℕ) (last this result i : ℕ) (op : OpId) → slice_get near i ≡ Some op → this ≡ settled op.0 → result ≡ max this last → ((k : ℕ) (other : OpId) → k < i → slice_get near k ≡ Some other → settled other.0 ≤ last)
    → (k : ℕ) (other : OpId) → k < i + 1 → slice_get near k ≡ Some other → settled other.0 ≤ result
settled_more near settled last this result i op there is most each k other h at = elim (cases_eq k i) [
  | inr before ↦ (let less : settled other.0 ≤ last = each k other (omega arith) at in omega arith)
  | inl same ↦ (let one : op ≡ other = same_Some op other (sym there ∙ ap (slice_get near) (sym same) ∙ at) in
      let value : settled op.0 ≡ settled other.0 = ap (λ (o : OpId). settled o.0) one in
      omega arith)
]
