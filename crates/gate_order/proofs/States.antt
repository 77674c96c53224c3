-- What is settled and ready, after each change.
use Rattle.std.proofs.Common.{◌≡◌, ◌≢◌, ℕ, zero, suc, ◌+◌, ◌<◌, ◌≤◌, Bool, true, false, List, [], ◌∷◌, ◌++◌, length, get_or, refl, sym, ap, subst, ◌∙◌, inl, inr, arith, length-append}
use Rattle.std.specs.Prelude.{slice_index, slice_index_or, insert, remove}
use Rattle.std.proofs.Math.ListN.{set, length-set}
use Rattle.std.proofs.lemmas.Bool.{cases_eq, cases_lt, cases_Bool, false≢true}
use Rattle.std.proofs.lemmas.List.{get_or-set_same, get_or-set_other, get_or_append_left, get_or_at}
use Rattle.std.proofs.lemmas.List.Elements.{Contains-append_left, Contains-push, Contains-push_cases, Contains-get_or}
use Rattle.qc_base.specs.declared.ids.OpId.{OpId}
use Rattle.circuit_core.specs.Circuit.{CircuitValue}
use Rattle.circuit_core.specs.Order.{is_performed}
use Rattle.gate_order.specs.Ready.{IsAmong}
use Rattle.gate_order.specs.Keeping.{op, row, near_at, is_set, IsFull, IsOpen, IsStateBut, IsState, IsPlace, IsFront}
use Rattle.gate_order.proofs.Flags.{set_within, set_here, set_other, set_stays, count_set, room_for, set_more, count_more}
use Rattle.gate_order.proofs.Ascending.{insert_among, insert_old, insert_cases, insert_ascending, few_ascending, remove_old, remove_other, remove_out, remove_ascending}

abbrev Table : Type 0
Table = List (List OpId)

-- ---- what an operation waits for is looked at again

pub seen_same : (seen : List ℕ) (x front : ℕ) → x < length seen → slice_index (set seen x front) x ≡ front
seen_same seen x front known = get_or-set_same seen x front 0 known

pub seen_other : (seen : List ℕ) (x front number : ℕ) → number ≢ x → slice_index (set seen x front) number ≡ slice_index seen number
seen_other seen x front number ne = get_or-set_other seen x number front 0 ne

unset_open : (circuit : CircuitValue) (near : Table) (seen : List ℕ) (flags : List Bool) (settled ready : List OpId) (x : ℕ) → IsState circuit near seen flags settled ready → slice_index seen x < length (row near x) → is_set flags x ≡ false
unset_open circuit near seen flags settled ready x state lacking = elim (cases_Bool (is_set flags x)) [
  | inl is ↦ absurd (omega (arith, lacking, state.base.set_full x is))
  | inr isnt ↦ isnt
]

pub advanced : (circuit : CircuitValue) (near : Table) (seen : List ℕ) (flags : List Bool) (settled ready : List OpId) (x front : ℕ) → IsState circuit near seen flags settled ready → x < length seen
    → slice_index seen x < length (row near x) → IsFront flags (row near x) (slice_index seen x) front → IsStateBut circuit near (set seen x front) flags settled ready x
advanced circuit near seen flags settled ready x front state known lacking front_is =
    let base = state.base in
    let unset : is_set flags x ≡ false = unset_open circuit near seen flags settled ready x state lacking in
    let same : length (set seen x front) ≡ length seen = length-set seen x front in
    let not_x : (number : ℕ) → is_set flags number ≡ true → number ≢ x = (λ number is e. false≢true (sym unset ∙ ap (λ k. is_set flags k) (sym e) ∙ is)) in
    let out : IsAmong ready x → ⊥ = (λ among. omega (arith, lacking, (base.ready_open x among).full)) in
    let ready_not : (number : ℕ) → IsAmong ready number → number ≢ x = (λ number among e. out (subst (λ k. IsAmong ready k) e among)) in
    record {
      base = record {
        len = same ∙ base.len;
        within = base.within;
        counted = base.counted;
        settled_set = base.settled_set;
        set_settled = base.set_settled;
        passed = λ number k is_known below. elim (cases_eq number x) [
          | inl here ↦ (let in_front : k < front = omega (arith, below, ap (λ i. slice_index (set seen x front) i) here, seen_same seen x front known) in
              subst (λ i. is_set flags (near_at near i k) ≡ true) (sym here)
              (elim (cases_lt k (slice_index seen x)) [
                | inl old ↦ base.passed x k known old
                | inr new ↦ front_is.passed k new in_front
              ]))
          | inr other ↦ base.passed number k (omega (arith, is_known, same)) (omega (arith, below, seen_other seen x front number other))
        ];
        short = λ number is_known. elim (cases_eq number x) [
          | inl here ↦ omega (arith, ap (λ i. slice_index (set seen x front) i) here, seen_same seen x front known, front_is.within, ap (λ i. length (row near i)) here)
          | inr other ↦ omega (arith, base.short number (omega (arith, is_known, same)), seen_other seen x front number other)
        ];
        set_full = λ number is. seen_other seen x front number (not_x number is) ∙ base.set_full number is;
        ready_open = λ number among. (let was = base.ready_open number among in
            record { known = omega (arith, was.known, same); full = seen_other seen x front number (ready_not number among) ∙ was.full; performed = was.performed; waits = was.waits });
        ascending = base.ascending;
      };
      out = out;
      unset = unset;
      known = omega (arith, known, same);
      barriers = λ number other is_known full barrier. state.barriers number (omega (arith, is_known, same)) (sym (seen_other seen x front number other) ∙ full) barrier;
      open_ready = λ number other is_open. state.open_ready number (record { known = omega (arith, is_open.known, same); full = sym (seen_other seen x front number other) ∙ is_open.full; performed = is_open.performed; waits = is_open.waits });
    }

-- it still waits
pub still_open : (circuit : CircuitValue) (near : Table) (seen : List ℕ) (flags : List Bool) (settled ready : List OpId) (x : ℕ) → IsStateBut circuit near seen flags settled ready x → (IsFull near seen x → ⊥) → IsState circuit near seen flags settled ready
still_open circuit near seen flags settled ready x but waits = record {
  base = but.base;
  barriers = λ number known full barrier. elim (cases_eq number x) [
    | inl here ↦ absurd (waits (subst (λ i. IsFull near seen i) here full))
    | inr other ↦ but.barriers number other known full barrier
  ];
  open_ready = λ number is_open. elim (cases_eq number x) [
    | inl here ↦ absurd (waits (subst (λ i. IsFull near seen i) here is_open.full))
    | inr other ↦ but.open_ready number other is_open
  ];
}

-- ---- it is settled

pub settled_state : (circuit : CircuitValue) (near : Table) (seen : List ℕ) (flags : List Bool) (settled ready : List OpId) (x : ℕ) → IsStateBut circuit near seen flags settled ready x → IsFull near seen x
    → IsState circuit near seen (set flags x true) (settled ++ op x ∷ []) ready
settled_state circuit near seen flags settled ready x but full =
    let base = but.base in
    let within : x < length flags = omega (arith, but.known, base.len) in
    let same : length (set flags x true) ≡ length flags = length-set flags x true in
    record {
      base = record {
        len = base.len ∙ sym same;
        within = omega (arith, same, base.within);
        counted = omega (arith, length-append settled (op x ∷ []), base.counted, count_set flags x within but.unset);
        settled_set = λ number among. elim (Contains-push_cases settled (op x) (op number) among) [
          | inl old ↦ set_stays flags x number within (base.settled_set number old)
          | inr new ↦ ap (λ k. is_set (set flags x true) k) (sym (ap (λ (it : OpId). it.0) new)) ∙ set_here flags x within
        ];
        set_settled = λ number is. elim (cases_eq number x) [
          | inl here ↦ subst (λ k. IsAmong (settled ++ op x ∷ []) k) (sym here) (Contains-push settled (op x))
          | inr other ↦ Contains-append_left settled (op x ∷ []) (op number) (base.set_settled number (sym (set_other flags x number other) ∙ is))
        ];
        passed = λ number k known below. set_stays flags x (near_at near number k) within (base.passed number k known below);
        short = base.short;
        set_full = λ number is. elim (cases_eq number x) [
          | inl here ↦ subst (λ k. IsFull near seen k) (sym here) full
          | inr other ↦ base.set_full number (sym (set_other flags x number other) ∙ is)
        ];
        ready_open = λ number among. (let was = base.ready_open number among in
            let ne : number ≢ x = (λ e. but.out (subst (λ k. IsAmong ready k) e among)) in
            record { known = was.known; full = was.full; performed = was.performed; waits = set_other flags x number ne ∙ was.waits });
        ascending = base.ascending;
      };
      barriers = λ number known is_full barrier. elim (cases_eq number x) [
        | inl here ↦ ap (λ k. is_set (set flags x true) k) here ∙ set_here flags x within
        | inr other ↦ set_stays flags x number within (but.barriers number other known is_full barrier)
      ];
      open_ready = λ number is_open. elim (cases_eq number x) [
        | inl here ↦ absurd (false≢true (sym is_open.waits ∙ ap (λ k. is_set (set flags x true) k) here ∙ set_here flags x within))
        | inr other ↦ but.open_ready number other (record { known = is_open.known; full = is_open.full; performed = is_open.performed; waits = sym (set_other flags x number other) ∙ is_open.waits })
      ];
    }

-- ---- it is ready

pub ready_state : (circuit : CircuitValue) (near : Table) (seen : List ℕ) (flags : List Bool) (settled ready : List OpId) (x place : ℕ) → IsStateBut circuit near seen flags settled ready x → IsFull near seen x
    → is_performed circuit x ≡ true → IsPlace ready (op x) place → IsState circuit near seen flags settled (insert ready place (op x))
ready_state circuit near seen flags settled ready x place but full performed is_place =
    let base = but.base in
    record {
      base = record {
        len = base.len;
        within = base.within;
        counted = base.counted;
        settled_set = base.settled_set;
        set_settled = base.set_settled;
        passed = base.passed;
        short = base.short;
        set_full = base.set_full;
        ready_open = λ number among. elim (insert_cases ready place x number is_place.within among) [
          | inl old ↦ base.ready_open number old
          | inr new ↦ subst (λ k. IsOpen circuit near seen flags k) (sym new) (record { known = but.known; full = full; performed = performed; waits = but.unset })
        ];
        ascending = insert_ascending ready place x base.ascending is_place but.out;
      };
      barriers = λ number known is_full barrier. elim (cases_eq number x) [
        | inl here ↦ absurd (false≢true (sym barrier ∙ ap (λ k. is_performed circuit k) here ∙ performed))
        | inr other ↦ but.barriers number other known is_full barrier
      ];
      open_ready = λ number is_open. elim (cases_eq number x) [
        | inl here ↦ subst (λ k. IsAmong (insert ready place (op x)) k) (sym here) (insert_among ready place x is_place.within)
        | inr other ↦ insert_old ready place x number is_place.within (but.open_ready number other is_open)
      ];
    }

-- ---- it is taken from the ready ones

pub taken_state : (circuit : CircuitValue) (near : Table) (seen : List ℕ) (flags : List Bool) (settled ready : List OpId) (x place : ℕ) → IsState circuit near seen flags settled ready → IsOpen circuit near seen flags x
    → place < length ready → (slice_index_or ready place (op 0)).0 ≡ x → IsStateBut circuit near seen flags settled (remove ready place) x
taken_state circuit near seen flags settled ready x place state is_open within here =
    let base = state.base in
    record {
      base = record {
        len = base.len;
        within = base.within;
        counted = base.counted;
        settled_set = base.settled_set;
        set_settled = base.set_settled;
        passed = base.passed;
        short = base.short;
        set_full = base.set_full;
        ready_open = λ number among. base.ready_open number (remove_old ready place number within among);
        ascending = remove_ascending ready place within base.ascending;
      };
      out = remove_out ready place x base.ascending within here;
      unset = is_open.waits;
      known = is_open.known;
      barriers = λ number other known full barrier. state.barriers number known full barrier;
      open_ready = λ number other lacking. remove_other ready place number within (λ e. other (sym e ∙ here)) (state.open_ready number lacking);
    }

-- ---- an operation more is known

pub more_state : (circuit : CircuitValue) (near : Table) (seen : List ℕ) (flags : List Bool) (settled ready : List OpId) (x : ℕ) → IsState circuit near seen flags settled ready → x ≡ length flags → x < length near
    → IsStateBut circuit near (seen ++ 0 ∷ []) (flags ++ false ∷ []) settled ready x
more_state circuit near seen flags settled ready x state next within =
    let base = state.base in
    let seen_long : length (seen ++ 0 ∷ []) ≡ length seen + 1 = length-append seen (0 ∷ []) in
    let flags_long : length (flags ++ false ∷ []) ≡ length flags + 1 = length-append flags (false ∷ []) in
    let last : slice_index (seen ++ 0 ∷ []) x ≡ 0 = get_or_at seen 0 [] 0 x (base.len ∙ sym next) in
    let old : (number : ℕ) → number < length seen → slice_index (seen ++ 0 ∷ []) number ≡ slice_index seen number = (λ number known. get_or_append_left seen (0 ∷ []) 0 number known) in
    let known_or : (number : ℕ) → number < length (seen ++ 0 ∷ []) → number ≢ x → number < length seen = (λ number known ne. omega (arith, known, ne, seen_long, base.len, next)) in
    let unset : is_set flags x ≡ false = past flags x (omega (arith, next)) in
    let back : (number : ℕ) → is_set (flags ++ false ∷ []) number ≡ true → is_set flags number ≡ true = (λ number is. sym (set_more flags number) ∙ is) in
    let set_known : (number : ℕ) → is_set flags number ≡ true → number < length seen = (λ number is. omega (arith, set_within flags number is, base.len)) in
    record {
      base = record {
        len = omega (arith, seen_long, flags_long, base.len);
        within = omega (arith, flags_long, next, within);
        counted = base.counted ∙ sym (count_more flags);
        settled_set = λ number among. set_more flags number ∙ base.settled_set number among;
        set_settled = λ number is. base.set_settled number (back number is);
        passed = λ number k known below. elim (cases_eq number x) [
          | inl here ↦ absurd (omega (arith, below, ap (λ i. slice_index (seen ++ 0 ∷ []) i) here, last))
          | inr other ↦ (let before : number < length seen = known_or number known other in
              set_more flags (near_at near number k) ∙ base.passed number k before (omega (arith, below, old number before)))
        ];
        short = λ number known. elim (cases_eq number x) [
          | inl here ↦ omega (arith, ap (λ i. slice_index (seen ++ 0 ∷ []) i) here, last)
          | inr other ↦ (let before : number < length seen = known_or number known other in omega (arith, base.short number before, old number before))
        ];
        set_full = λ number is. old number (set_known number (back number is)) ∙ base.set_full number (back number is);
        ready_open = λ number among. (let was = base.ready_open number among in
            record { known = omega (arith, was.known, seen_long); full = old number was.known ∙ was.full; performed = was.performed; waits = set_more flags number ∙ was.waits });
        ascending = base.ascending;
      };
      out = λ among. omega (arith, (base.ready_open x among).known, base.len, next);
      unset = set_more flags x ∙ unset;
      known = omega (arith, seen_long, base.len, next);
      barriers = λ number other known full barrier. (let before : number < length seen = known_or number known other in
          set_more flags number ∙ state.barriers number before (sym (old number before) ∙ full) barrier);
      open_ready = λ number other lacking. (let before : number < length seen = known_or number lacking.known other in
          state.open_ready number (record { known = before; full = sym (old number before) ∙ lacking.full; performed = lacking.performed; waits = sym (set_more flags number) ∙ lacking.waits }));
    }
  where
    past : (flags : List Bool) (number : ℕ) → length flags ≤ number → is_set flags number ≡ false
    past [] number past_all = refl
    past (flag ∷ flags) zero past_all = absurd (omega arith)
    past (flag ∷ flags) (suc number) past_all = past flags number (omega arith)

-- ---- room

pub settled_room : (circuit : CircuitValue) (near : Table) (seen : List ℕ) (flags : List Bool) (settled ready : List OpId) (x : ℕ) → IsStateBut circuit near seen flags settled ready x → length settled < length near
settled_room circuit near seen flags settled ready x but =
    omega (arith, but.base.counted, room_for flags x (omega (arith, but.known, but.base.len)) but.unset, but.base.within)

pub ready_room : (circuit : CircuitValue) (near : Table) (seen : List ℕ) (flags : List Bool) (settled ready : List OpId) (x : ℕ) → IsStateBut circuit near seen flags settled ready x → length ready < length near
ready_room circuit near seen flags settled ready x but =
    few_ascending ready x (length near) but.base.ascending but.out (omega (arith, but.known, but.base.len, but.base.within))
    (λ k within. omega (arith, (but.base.ready_open (get_or ready k (op 0)).0 (Contains-get_or ready k (op 0) within)).known, but.base.len, but.base.within))
