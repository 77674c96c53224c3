-- Which operations have to come before which, decided by what the barriers between them reach.
use Rattle.std.proofs.Common.{◌≡◌, ℕ, suc, ◌+◌, ◌-◌, ◌<◌, ◌≤◌, Bool, true, false, List, [], ◌∷◌, ◌++◌, length, get_or, take, drop, Some, None, refl, sym, ap, subst, ◌∙◌, inl, inr, arith, ◌&&◌, ltb, cond}
use Rattle.std.specs.Prelude.{Option, slice_get, IsTrue, ◌↔◌, ◌⊎◌}
use Rattle.std.proofs.Math.Seq.{take-add}
use Rattle.std.proofs.lemmas.Bool.{cases_Bool, and_parts, and_from, or_cases, or_left, or_right, false≢true, false_from_ne_true, ltb-true, lt-ltb, le-ltb, and_left, and_right, cond-true, cond-false}
use Rattle.std.proofs.lemmas.Option.{same_Some, slice_get_within, slice_get_past, slice_get-get_or, get_or_from_slice_get}
use Rattle.std.proofs.lemmas.List.{get_or-take, get_or-drop, drop-drop, drop_more, length-take, length-drop}
use Rattle.std.proofs.lemmas.List.Elements.{Contains-append_left, Contains-append_right, Contains-append_cases}
use Rattle.qc_base.specs.declared.ids.Qubit.{Qubit}
use Rattle.circuit_core.specs.declared.op.Op.{Op}
use Rattle.circuit_core.specs.declared.op.Op.TheVariants.{U, Cx, Opaque, Measure, Reset, Barrier}
use Rattle.circuit_core.specs.Circuit.{CircuitValue}
use Rattle.circuit_core.specs.Op.{qubits_of, is_barrier}
use Rattle.circuit_core.specs.Order.{Wire, on_qubit, on_bit, IsWire, IsBarrierAt, Forced, by_wire, by_barrier}
use Rattle.circuit_core.specs.Deciding.{have_common, reached, between, comes_first, is_forced}
use Rattle.circuit_core.proofs.Wires.{qubit_at, Has, Common, common_from, have_common_at, CommonBit, common_bit_from, share_bit_at, Both, of_both, both_from, of_both_at}

-- ---- what is reached

abbrev joins : List Qubit → Op → Bool
joins qubits op = is_barrier op && have_common qubits (qubits_of op)

pub reached_joined : (qubits : List Qubit) (op : Op) (ops : List Op) → joins qubits op ≡ true → reached qubits (op ∷ ops) ≡ reached (qubits ++ qubits_of op) ops
reached_joined qubits op ops is = cond-true (joins qubits op) (reached (qubits ++ qubits_of op) ops) (reached qubits ops) is

pub reached_passed : (qubits : List Qubit) (op : Op) (ops : List Op) → joins qubits op ≡ false → reached qubits (op ∷ ops) ≡ reached qubits ops
reached_passed qubits op ops is = cond-false (joins qubits op) (reached (qubits ++ qubits_of op) ops) (reached qubits ops) is

pub reached_of_both : (qubits : List Qubit) (ops more : List Op) → reached qubits (ops ++ more) ≡ reached (reached qubits ops) more
reached_of_both qubits [] more = refl
reached_of_both qubits (op ∷ ops) more = elim (cases_Bool (joins qubits op)) [
  | inl is ↦ reached_joined qubits op (ops ++ more) is ∙ reached_of_both (qubits ++ qubits_of op) ops more ∙ ap (λ (all : List Qubit). reached all more) (sym (reached_joined qubits op ops is))
  | inr isnt ↦ reached_passed qubits op (ops ++ more) isnt ∙ reached_of_both qubits ops more ∙ ap (λ (all : List Qubit). reached all more) (sym (reached_passed qubits op ops isnt))
]

-- each qubit of the one list is in the other
abbrev Within : List Qubit → List Qubit → Type 0
Within qubits others = (number : ℕ) → Has qubits number → Has others number

reached_has : (qubits : List Qubit) (ops : List Op) → Within qubits (reached qubits ops)
reached_has qubits [] number has = has
reached_has qubits (op ∷ ops) number has = elim (cases_Bool (joins qubits op)) [
  | inl is ↦ subst (λ (all : List Qubit). Has all number) (sym (reached_joined qubits op ops is)) (reached_has (qubits ++ qubits_of op) ops number (Contains-append_left qubits (qubits_of op) (qubit_at number) has))
  | inr isnt ↦ subst (λ (all : List Qubit). Has all number) (sym (reached_passed qubits op ops isnt)) (reached_has qubits ops number has)
]

within_joined : (qubits others more : List Qubit) → Within qubits others → Within (qubits ++ more) (others ++ more)
within_joined qubits others more within number has = elim (Contains-append_cases qubits more (qubit_at number) has) [
  | inl first ↦ Contains-append_left others more (qubit_at number) (within number first)
  | inr second ↦ Contains-append_right others more (qubit_at number) second
]

within_more : (qubits others more : List Qubit) → Within qubits others → Within qubits (others ++ more)
within_more qubits others more within number has = Contains-append_left others more (qubit_at number) (within number has)

joins_within : (qubits others : List Qubit) (op : Op) → Within qubits others → joins qubits op ≡ true → joins others op ≡ true
joins_within qubits others op within is =
    let both = and_parts (is_barrier op) (have_common qubits (qubits_of op)) is in
    let common : Common qubits (qubits_of op) = common_from qubits (qubits_of op) both.1 in
    and_from (is_barrier op) (have_common others (qubits_of op)) both.0 (have_common_at others (qubits_of op) common.number (within common.number common.of_first) common.of_second)

-- more qubits reach more
reached_within : (qubits others : List Qubit) (ops : List Op) → Within qubits others → Within (reached qubits ops) (reached others ops)
reached_within qubits others [] within number has = within number has
reached_within qubits others (op ∷ ops) within number has = elim (cases_Bool (joins others op)) [
  | inl joined ↦ subst (λ (all : List Qubit). Has all number) (sym (reached_joined others op ops joined)) (elim (cases_Bool (joins qubits op)) [
    | inl is ↦ reached_within (qubits ++ qubits_of op) (others ++ qubits_of op) ops (within_joined qubits others (qubits_of op) within) number (subst (λ (all : List Qubit). Has all number) (reached_joined qubits op ops is) has)
    | inr isnt ↦ reached_within qubits (others ++ qubits_of op) ops (within_more qubits others (qubits_of op) within) number (subst (λ (all : List Qubit). Has all number) (reached_passed qubits op ops isnt) has)
  ])
  | inr passed ↦ (let isnt : joins qubits op ≡ false = false_from_ne_true (joins qubits op) (λ is. false≢true (sym passed ∙ joins_within qubits others op within is)) in
      subst (λ (all : List Qubit). Has all number) (sym (reached_passed others op ops passed)) (reached_within qubits others ops within number (subst (λ (all : List Qubit). Has all number) (reached_passed qubits op ops isnt) has)))
]

-- ---- what is reached has to come after

-- a barrier that has to come after operation i, and has the qubit
record Through (circuit : CircuitValue) (i end number : ℕ) : Type 0 where
  k : ℕ
  op : Op
  there : slice_get circuit.ops k ≡ Some op
  barrier : is_barrier op ≡ true
  below : k < end
  forced : Forced circuit i k
  has : Has (qubits_of op) number

abbrev Held : CircuitValue → Op → ℕ → ℕ → ℕ → Type 0
Held circuit first i end number = Has (qubits_of first) number ⊎ Through circuit i end number

abbrev AllHeld : CircuitValue → Op → ℕ → ℕ → List Qubit → Type 0
AllHeld circuit first i end qubits = (number : ℕ) → Has qubits number → Held circuit first i end number

-- an operation that has a qubit of these, and comes later, has to come after operation i
forced_on : (circuit : CircuitValue) (first op : Op) (i k end number : ℕ) → slice_get circuit.ops i ≡ Some first → slice_get circuit.ops k ≡ Some op → i < k → end ≤ k → Held circuit first i end number → Has (qubits_of op) number → Forced circuit i k
forced_on circuit first op i k end number at_i at_k before past (inl of_first) has =
    by_wire i k before (record { first = first; second = op; wire = on_qubit number; at_i = at_i; at_j = at_k; of_first = of_first; of_second = has })
forced_on circuit first op i k end number at_i at_k before past (inr through) has =
    by_barrier i through.k k (record { op = through.op; there = through.there; barrier = through.barrier }) through.forced
    (by_wire through.k k (omega (arith, through.below)) (record { first = through.op; second = op; wire = on_qubit number; at_i = through.there; at_j = at_k; of_first = through.has; of_second = has }))

held_longer : (circuit : CircuitValue) (first : Op) (i end later number : ℕ) → end ≤ later → Held circuit first i end number → Held circuit first i later number
held_longer circuit first i end later number h (inl of_first) = inl of_first
held_longer circuit first i end later number h (inr through) =
    inr (record { k = through.k; op = through.op; there = through.there; barrier = through.barrier; below = omega (arith, through.below); forced = through.forced; has = through.has })

-- these operations are in the circuit from that number on
abbrev StandFrom : CircuitValue → ℕ → List Op → Type 0
StandFrom circuit start ops = (k : ℕ) (op : Op) → slice_get ops k ≡ Some op → slice_get circuit.ops (start + k) ≡ Some op

held_joined : (circuit : CircuitValue) (first op : Op) (i start : ℕ) (qubits : List Qubit) → slice_get circuit.ops i ≡ Some first → slice_get circuit.ops start ≡ Some op → i < start → joins qubits op ≡ true → AllHeld circuit first i start qubits
    → AllHeld circuit first i (start + 1) (qubits ++ qubits_of op)
held_joined circuit first op i start qubits at_i here before is held number has = elim (Contains-append_cases qubits (qubits_of op) (qubit_at number) has) [
  | inl old ↦ held_longer circuit first i start (start + 1) number (omega arith) (held number old)
  | inr new ↦ (let both = and_parts (is_barrier op) (have_common qubits (qubits_of op)) is in
      let common : Common qubits (qubits_of op) = common_from qubits (qubits_of op) both.1 in
      inr (record {
        k = start;
        op = op;
        there = here;
        barrier = both.0;
        below = omega arith;
        forced = forced_on circuit first op i start start common.number at_i here before (omega arith) (held common.number common.of_first) common.of_second;
        has = new;
      }))
]

stand_later : (circuit : CircuitValue) (start : ℕ) (op : Op) (ops : List Op) → StandFrom circuit start (op ∷ ops) → StandFrom circuit (start + 1) ops
stand_later circuit start op ops stand k other at = subst (λ (n : ℕ). slice_get circuit.ops n ≡ Some other) (omega arith) (stand (suc k) other at)

all_held : (circuit : CircuitValue) (first : Op) (i start end : ℕ) (qubits : List Qubit) (ops : List Op) → slice_get circuit.ops i ≡ Some first → i < start → start + length ops ≤ end → StandFrom circuit start ops → AllHeld circuit first i start qubits
    → AllHeld circuit first i end (reached qubits ops)
all_held circuit first i start end qubits [] at_i before h stand held number has = held_longer circuit first i start end number (omega arith) (held number has)
all_held circuit first i start end qubits (op ∷ ops) at_i before h stand held number has =
    let here : slice_get circuit.ops start ≡ Some op = subst (λ (n : ℕ). slice_get circuit.ops n ≡ Some op) (omega arith) (stand 0 op refl) in
    let later : StandFrom circuit (start + 1) ops = stand_later circuit start op ops stand in
    elim (cases_Bool (joins qubits op)) [
      | inl is ↦ all_held circuit first i (start + 1) end (qubits ++ qubits_of op) ops at_i (omega arith) (omega arith) later (held_joined circuit first op i start qubits at_i here before is held) number (subst (λ (all : List Qubit). Has all number) (reached_joined qubits op ops is) has)
      | inr isnt ↦ all_held circuit first i (start + 1) end qubits ops at_i (omega arith) (omega arith) later (λ other old. held_longer circuit first i start (start + 1) other (omega arith) (held other old)) number (subst (λ (all : List Qubit). Has all number) (reached_passed qubits op ops isnt) has)
    ]

-- ---- the operations between two

between_at : (ops : List Op) (from count k : ℕ) (op : Op) → slice_get (take count (drop from ops)) k ≡ Some op → slice_get ops (from + k) ≡ Some op
between_at ops from count k op at =
    let within : k < length (take count (drop from ops)) = slice_get_within (take count (drop from ops)) k op at in
    let low : k < count = omega (arith, length-take count (drop from ops)) in
    let high : from + k < length ops = omega (arith, length-take count (drop from ops), length-drop from ops) in
    let same : get_or ops (from + k) op ≡ op = sym (get_or-drop from ops k op) ∙ sym (get_or-take count (drop from ops) k op low) ∙ get_or_from_slice_get (take count (drop from ops)) k op op at in
    slice_get-get_or ops (from + k) op high ∙ ap Some same

between_two : (ops : List Op) (i k j : ℕ) (op : Op) → i < k → k < j → slice_get ops k ≡ Some op → between ops i j ≡ between ops i k ++ op ∷ between ops k j
between_two ops i k j op before after at =
    let sizes : j - (i + 1) ≡ (k - (i + 1)) + (j - k) = omega arith in
    let past : (i + 1) + (k - (i + 1)) ≡ k = omega arith in
    let one_more : j - k ≡ suc (j - (k + 1)) = omega arith in
    let rest : drop k ops ≡ op ∷ drop (k + 1) ops = drop_more ops k op (slice_get_within ops k op at) ∙ ap (λ (o : Op). o ∷ drop (k + 1) ops) (get_or_from_slice_get ops k op op at) in
    let dropped : drop (k - (i + 1)) (drop (i + 1) ops) ≡ op ∷ drop (k + 1) ops = drop-drop (k - (i + 1)) (i + 1) ops ∙ ap (λ (n : ℕ). drop n ops) past ∙ rest in
    let taken : take (j - k) (drop (k - (i + 1)) (drop (i + 1) ops)) ≡ op ∷ between ops k j = ap (take (j - k)) dropped ∙ ap (λ (n : ℕ). take n (op ∷ drop (k + 1) ops)) one_more in
    ap (λ (n : ℕ). take n (drop (i + 1) ops)) sizes ∙ take-add (k - (i + 1)) (j - k) (drop (i + 1) ops) ∙ ap (λ (l : List Op). between ops i k ++ l) taken

-- ---- both directions

forced_from : (circuit : CircuitValue) (i j : ℕ) (first second : Op) → slice_get circuit.ops i ≡ Some first → slice_get circuit.ops j ≡ Some second → i < j → comes_first circuit (between circuit.ops i j) first second ≡ true → Forced circuit i j
forced_from circuit i j first second at_i at_j before is = elim (or_cases _ _ is) [
  | inl bit ↦ (let common : CommonBit circuit first second = common_bit_from circuit first second bit in
      by_wire i j before (record { first = first; second = second; wire = on_bit common.bit; at_i = at_i; at_j = at_j; of_first = common.of_first; of_second = common.of_second }))
  | inr qubit ↦ (let middle : List Op = between circuit.ops i j in
      let common : Common (reached (qubits_of first) middle) (qubits_of second) = common_from (reached (qubits_of first) middle) (qubits_of second) qubit in
      let few : (i + 1) + length middle ≤ j = omega (arith, length-take (j - (i + 1)) (drop (i + 1) circuit.ops)) in
      let held = all_held circuit first i (i + 1) j (qubits_of first) middle at_i (omega arith) few (λ k op at. between_at circuit.ops (i + 1) (j - (i + 1)) k op at) (λ number has. inl has) in
      forced_on circuit first second i j j common.number at_i at_j before (omega arith) (held common.number common.of_first) common.of_second)
]

-- what has to come before another is there, and passes the test
record Passes (circuit : CircuitValue) (i j : ℕ) : Type 0 where
  first : Op
  second : Op
  at_i : slice_get circuit.ops i ≡ Some first
  at_j : slice_get circuit.ops j ≡ Some second
  before : i < j
  is : comes_first circuit (between circuit.ops i j) first second ≡ true

passes_wire : (circuit : CircuitValue) (i j : ℕ) (first second : Op) (wire : Wire) → slice_get circuit.ops i ≡ Some first → slice_get circuit.ops j ≡ Some second → i < j → IsWire circuit first wire → IsWire circuit second wire → Passes circuit i j
passes_wire circuit i j first second (on_qubit qubit) at_i at_j before a b = record {
  first = first;
  second = second;
  at_i = at_i;
  at_j = at_j;
  before = before;
  is = or_right _ _ (have_common_at (reached (qubits_of first) (between circuit.ops i j)) (qubits_of second) qubit (reached_has (qubits_of first) (between circuit.ops i j) qubit a) b);
}
passes_wire circuit i j first second (on_bit bit) at_i at_j before a b = record {
  first = first;
  second = second;
  at_i = at_i;
  at_j = at_j;
  before = before;
  is = or_left _ _ (share_bit_at circuit first second bit a b);
}

-- a barrier acts on no bit
pub no_bit : (circuit : CircuitValue) (op : Op) (bit : ℕ) → is_barrier op ≡ true → IsWire circuit op (on_bit bit) → ⊥
no_bit circuit (U theta phi lambda qubit cond) bit is wire = cc
no_bit circuit (Cx control target cond) bit is wire = cc
no_bit circuit (Opaque name params first second cond) bit is wire = cc
no_bit circuit (Measure qubit written cond) bit is wire = cc
no_bit circuit (Reset qubit cond) bit is wire = cc
no_bit circuit (Barrier qubits) bit is (inl written) = cc
no_bit circuit (Barrier qubits) bit is (inr tested) = absurd tested

-- so what it shares with others are qubits
by_qubit_to : (circuit : CircuitValue) (middle : List Op) (first barrier : Op) → is_barrier barrier ≡ true → comes_first circuit middle first barrier ≡ true → Common (reached (qubits_of first) middle) (qubits_of barrier)
by_qubit_to circuit middle first barrier is comes = elim (or_cases _ _ comes) [
  | inl bit ↦ (let common : CommonBit circuit first barrier = common_bit_from circuit first barrier bit in absurd (no_bit circuit barrier common.bit is common.of_second))
  | inr qubit ↦ common_from (reached (qubits_of first) middle) (qubits_of barrier) qubit
]

by_qubit_from : (circuit : CircuitValue) (middle : List Op) (barrier second : Op) → is_barrier barrier ≡ true → comes_first circuit middle barrier second ≡ true → Common (reached (qubits_of barrier) middle) (qubits_of second)
by_qubit_from circuit middle barrier second is comes = elim (or_cases _ _ comes) [
  | inl bit ↦ (let common : CommonBit circuit barrier second = common_bit_from circuit barrier second bit in absurd (no_bit circuit barrier common.bit is common.of_first))
  | inr qubit ↦ common_from (reached (qubits_of barrier) middle) (qubits_of second) qubit
]

reached_through : (first : Op) (before after : List Op) (barrier : Op) (number : ℕ) → is_barrier barrier ≡ true → Common (reached (qubits_of first) before) (qubits_of barrier) → Has (reached (qubits_of barrier) after) number
    → Has (reached (qubits_of first) (before ++ barrier ∷ after)) number
reached_through first before after barrier number is common has =
    let qubits : List Qubit = reached (qubits_of first) before in
    let joined : joins qubits barrier ≡ true = and_from (is_barrier barrier) (have_common qubits (qubits_of barrier)) is (have_common_at qubits (qubits_of barrier) common.number common.of_first common.of_second) in
    let all : reached (qubits_of first) (before ++ barrier ∷ after) ≡ reached (qubits ++ qubits_of barrier) after = reached_of_both (qubits_of first) before (barrier ∷ after) ∙ reached_joined qubits barrier after joined in
    subst (λ (l : List Qubit). Has l number) (sym all) (reached_within (qubits_of barrier) (qubits ++ qubits_of barrier) after (λ other it. Contains-append_right qubits (qubits_of barrier) (qubit_at other) it) number has)

passes_through : (circuit : CircuitValue) (i k j : ℕ) → IsBarrierAt circuit k → Passes circuit i k → Passes circuit k j → Passes circuit i j
passes_through circuit i k j barrier to on =
    let to_is : is_barrier to.second ≡ true = subst (λ (op : Op). is_barrier op ≡ true) (same_Some barrier.op to.second (sym barrier.there ∙ to.at_j)) barrier.barrier in
    let same : on.first ≡ to.second = same_Some on.first to.second (sym on.at_i ∙ to.at_j) in
    let on_is : comes_first circuit (between circuit.ops k j) to.second on.second ≡ true = subst (λ (op : Op). comes_first circuit (between circuit.ops k j) op on.second ≡ true) same on.is in
    let first : Common (reached (qubits_of to.first) (between circuit.ops i k)) (qubits_of to.second) = by_qubit_to circuit (between circuit.ops i k) to.first to.second to_is to.is in
    let second : Common (reached (qubits_of to.second) (between circuit.ops k j)) (qubits_of on.second) = by_qubit_from circuit (between circuit.ops k j) to.second on.second to_is on_is in
    let has : Has (reached (qubits_of to.first) (between circuit.ops i k ++ to.second ∷ between circuit.ops k j)) second.number = reached_through to.first (between circuit.ops i k) (between circuit.ops k j) to.second second.number to_is first second.of_first in
    let whole : Has (reached (qubits_of to.first) (between circuit.ops i j)) second.number = subst (λ (l : List Op). Has (reached (qubits_of to.first) l) second.number) (sym (between_two circuit.ops i k j to.second to.before on.before to.at_j)) has in
    record {
      first = to.first;
      second = on.second;
      at_i = to.at_i;
      at_j = on.at_j;
      before = omega (arith, to.before, on.before);
      is = or_right _ _ (have_common_at (reached (qubits_of to.first) (between circuit.ops i j)) (qubits_of on.second) second.number whole second.of_second);
    }

passes : (circuit : CircuitValue) (i j : ℕ) → Forced circuit i j → Passes circuit i j
passes circuit _ _ (by_wire i j before share) = passes_wire circuit i j share.first share.second share.wire share.at_i share.at_j before share.of_first share.of_second
passes circuit _ _ (by_barrier i k j barrier first second) = passes_through circuit i k j barrier (passes circuit i k first) (passes circuit k j second)

pub forced_before : (circuit : CircuitValue) (i j : ℕ) → Forced circuit i j → i < j
forced_before circuit i j forced = let it : Passes circuit i j = passes circuit i j forced in it.before

abbrev forced_test : CircuitValue → ℕ → ℕ → Op → Op → Bool
forced_test circuit i j first second = comes_first circuit (between circuit.ops i j) first second

pub forced_iff : (circuit : CircuitValue) (i j : ℕ) → IsTrue (is_forced circuit i j) ↔ Forced circuit i j
forced_iff circuit i j = (
  λ is. let parts = and_parts (ltb i j) (of_both (forced_test circuit i j) (slice_get circuit.ops i) (slice_get circuit.ops j)) is in
      let both : Both (forced_test circuit i j) (slice_get circuit.ops i) (slice_get circuit.ops j) = both_from (forced_test circuit i j) (slice_get circuit.ops i) (slice_get circuit.ops j) parts.1 in
      forced_from circuit i j both.one both.other both.is_first both.is_second (ltb-true i j parts.0) both.passes,
  λ forced. let it : Passes circuit i j = passes circuit i j forced in
      and_from (ltb i j) (of_both (forced_test circuit i j) (slice_get circuit.ops i) (slice_get circuit.ops j)) (lt-ltb i j it.before)
      (of_both_at (forced_test circuit i j) (slice_get circuit.ops i) (slice_get circuit.ops j) it.first it.second it.at_i it.at_j ∙ it.is),
)

-- ---- what an answer is

pub isnt_forced_back : (circuit : CircuitValue) (i j : ℕ) → j ≤ i → false ≡ is_forced circuit i j
isnt_forced_back circuit i j h = sym (and_left (ltb i j) (of_both (forced_test circuit i j) (slice_get circuit.ops i) (slice_get circuit.ops j)) (le-ltb i j h))

none_of_both : (test : Op → Op → Bool) (first second : Option Op) → second ≡ None → of_both test first second ≡ false
none_of_both test None second e = refl
none_of_both test (Some first) second e = ap (of_both test (Some first)) e

pub isnt_forced_past : (circuit : CircuitValue) (i j : ℕ) → length circuit.ops ≤ j → false ≡ is_forced circuit i j
isnt_forced_past circuit i j h =
    sym (and_right (ltb i j) (of_both (forced_test circuit i j) (slice_get circuit.ops i) (slice_get circuit.ops j)) (none_of_both (forced_test circuit i j) (slice_get circuit.ops i) (slice_get circuit.ops j) (slice_get_past circuit.ops j h)))

pub is_forced_at : (circuit : CircuitValue) (i j : ℕ) (first second : Op) → i < j → slice_get circuit.ops i ≡ Some first → slice_get circuit.ops j ≡ Some second → comes_first circuit (between circuit.ops i j) first second ≡ is_forced circuit i j
is_forced_at circuit i j first second before at_i at_j =
    sym (ap (λ (b : Bool). b && of_both (forced_test circuit i j) (slice_get circuit.ops i) (slice_get circuit.ops j)) (lt-ltb i j before)
    ∙ of_both_at (forced_test circuit i j) (slice_get circuit.ops i) (slice_get circuit.ops j) first second at_i at_j)
