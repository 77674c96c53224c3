-- A table of flags as a set of qubits.
use Rattle.std.proofs.Common.{◌≡◌, ℕ, ◌+◌, ◌<◌, ◌≤◌, Bool, true, false, ◌||◌, eqb, List, [], ◌∷◌, ◌++◌, length, get_or, set, take, refl, sym, ap, subst, ◌∙◌, inl, inr, arith, append_assoc, get_or-set_same, get_or-set_other}
use Rattle.std.specs.Prelude.{Some, slice_get}
use Rattle.std.proofs.Math.ListN.{replicate}
use Rattle.std.proofs.lemmas.Bool.{cases_eq, and_from, and_left, and_right, or_left, or_right, eq-eqb, ne_eqb}
use Rattle.std.proofs.lemmas.Option.{get_or_from_slice_get}
use Rattle.std.proofs.lemmas.List.{length-set, take_more, take_all, get_or-replicate}
use Rattle.std.proofs.lemmas.List.Folds.{list_any-append, list_any_at, list_any_more}
use Rattle.qc_base.specs.declared.ids.Qubit.{Qubit}
use Rattle.circuit_core.specs.declared.op.Op.{Op}
use Rattle.circuit_core.specs.Op.{qubits_of, is_barrier}
use Rattle.circuit_core.specs.Deciding.{is_listed, have_common, reached}
use Rattle.circuit_core.specs.QubitSet.{AreFlags, AreBelow}
use Rattle.circuit_core.proofs.Forcing.{reached_of_both, reached_joined, reached_passed}

pub no_flags : AreFlags (replicate 128 false) []
no_flags = record { len = refl; each = λ number h. get_or-replicate 128 number false false h }

listed_added : (number : ℕ) (qubits : List Qubit) (qubit : Qubit) → is_listed number (qubits ++ qubit ∷ []) ≡ (is_listed number qubits || (eqb qubit.0 number || false))
listed_added number qubits qubit = list_any-append (λ (q : Qubit). eqb q.0 number) qubits (qubit ∷ [])

or_false : (a b : Bool) → b ≡ false → (a || (b || false)) ≡ a
or_false true b e = refl
or_false false true e = e
or_false false false e = refl

pub flag_added : (flags : List Bool) (qubits : List Qubit) (qubit : Qubit) → qubit.0 < 128 → AreFlags flags qubits → AreFlags (set flags qubit.0 true) (qubits ++ qubit ∷ [])
flag_added flags qubits qubit below are = record {
  len = length-set flags qubit.0 true ∙ are.len;
  each = λ number h. elim (cases_eq number qubit.0) [
    | inl same ↦ ap (λ (n : ℕ). get_or (set flags qubit.0 true) n false) same ∙ get_or-set_same flags qubit.0 true false (omega (arith, are.len))
        ∙ sym (listed_added number qubits qubit ∙ or_right (is_listed number qubits) (eqb qubit.0 number || false) (or_left (eqb qubit.0 number) false (eq-eqb qubit.0 number (sym same))))
    | inr other ↦ get_or-set_other flags qubit.0 number true false other ∙ are.each number h
        ∙ sym (listed_added number qubits qubit ∙ or_false (is_listed number qubits) (eqb qubit.0 number) (ne_eqb qubit.0 number (λ e. other (sym e))))
  ];
}

taken : (all : List Qubit) (index : ℕ) (qubit : Qubit) → index < length all → slice_get all index ≡ Some qubit → take (index + 1) all ≡ take index all ++ qubit ∷ []
taken all index qubit h at = take_more all index qubit h ∙ ap (λ (q : Qubit). take index all ++ q ∷ []) (get_or_from_slice_get all index qubit qubit at)

-- one more of an operation's qubits
pub flags_more : (flags new : List Bool) (qubits all : List Qubit) (index : ℕ) (qubit : Qubit) → index < length all → slice_get all index ≡ Some qubit → qubit.0 < 128 → new ≡ set flags qubit.0 true → AreFlags flags (qubits ++ take index all)
    → AreFlags new (qubits ++ take (index + 1) all)
flags_more flags new qubits all index qubit h at below is are =
    let added : AreFlags (set flags qubit.0 true) ((qubits ++ take index all) ++ qubit ∷ []) = flag_added flags (qubits ++ take index all) qubit below are in
    let same : (qubits ++ take index all) ++ qubit ∷ [] ≡ qubits ++ take (index + 1) all = append_assoc qubits (take index all) (qubit ∷ []) ∙ ap (λ (l : List Qubit). qubits ++ l) (sym (taken all index qubit h at)) in
    subst (λ (f : List Bool). AreFlags f (qubits ++ take (index + 1) all)) (sym is) (subst (AreFlags (set flags qubit.0 true)) same added)

-- none of the first qubits is one of these, and so it is with one more
pub none_more : (flags : List Bool) (qubits all : List Qubit) (index : ℕ) (qubit : Qubit) → index < length all → slice_get all index ≡ Some qubit → qubit.0 < 128 → AreFlags flags qubits → get_or flags qubit.0 false ≡ false
    → have_common qubits (take index all) ≡ false → have_common qubits (take (index + 1) all) ≡ false
none_more flags qubits all index qubit h at below are off none =
    list_any_more (λ (q : Qubit). is_listed q.0 qubits) all index qubit h ∙ ap (λ (b : Bool). b || is_listed (get_or all index qubit).0 qubits) none
    ∙ ap (λ (q : Qubit). is_listed q.0 qubits) (get_or_from_slice_get all index qubit qubit at) ∙ sym (are.each qubit.0 below) ∙ off

pub some_there : (flags : List Bool) (qubits all : List Qubit) (index : ℕ) (qubit : Qubit) → index < length all → slice_get all index ≡ Some qubit → qubit.0 < 128 → AreFlags flags qubits → get_or flags qubit.0 false ≡ true
    → true ≡ have_common qubits all
some_there flags qubits all index qubit h at below are on =
    sym (list_any_at (λ (q : Qubit). is_listed q.0 qubits) all index qubit h (ap (λ (q : Qubit). is_listed q.0 qubits) (get_or_from_slice_get all index qubit qubit at) ∙ sym (are.each qubit.0 below) ∙ on))

pub below_at : (all : List Qubit) (index : ℕ) (qubit : Qubit) → AreBelow all → index < length all → slice_get all index ≡ Some qubit → qubit.0 < 128
below_at all index qubit below h at = subst (λ (q : Qubit). q.0 < 128) (get_or_from_slice_get all index qubit qubit at) (below index qubit h)

pub flags_all : (flags : List Bool) (qubits all : List Qubit) (index : ℕ) → length all ≤ index → AreFlags flags (qubits ++ take index all) → AreFlags flags (qubits ++ all)
flags_all flags qubits all index h are = subst (λ (l : List Qubit). AreFlags flags (qubits ++ l)) (take_all index all h) are

-- ---- what the set reaches

-- the new flags are those of what the old ones reach by one more operation
abbrev pub Steps : List Bool → List Bool → Op → Type 0
Steps old new op = (qubits : List Qubit) → AreFlags old qubits → AreFlags new (reached qubits (op ∷ []))

pub step_joined : (old new : List Bool) (op : Op) (meets : Bool) → is_barrier op ≡ true → meets ≡ true → ((qubits : List Qubit) → AreFlags old qubits → meets ≡ have_common qubits (qubits_of op)) → ((qubits : List Qubit) → AreFlags old qubits → AreFlags new (qubits ++ qubits_of op))
    → Steps old new op
step_joined old new op meets barrier met is added qubits are =
    subst (AreFlags new) (sym (reached_joined qubits op [] (and_from (is_barrier op) (have_common qubits (qubits_of op)) barrier (sym (is qubits are) ∙ met)))) (added qubits are)

pub step_apart : (old : List Bool) (op : Op) (meets : Bool) → meets ≡ false → ((qubits : List Qubit) → AreFlags old qubits → meets ≡ have_common qubits (qubits_of op)) → Steps old old op
step_apart old op meets apart is qubits are = subst (AreFlags old) (sym (reached_passed qubits op [] (and_right (is_barrier op) (have_common qubits (qubits_of op)) (sym (is qubits are) ∙ apart)))) are

pub step_passed : (old : List Bool) (op : Op) → is_barrier op ≡ false → Steps old old op
step_passed old op isnt qubits are = subst (AreFlags old) (sym (reached_passed qubits op [] (and_left (is_barrier op) (have_common qubits (qubits_of op)) isnt))) are

pub reached_more : (start old new : List Bool) (ops : List Op) (index : ℕ) (op : Op) → index < length ops → op ≡ get_or ops index op → Steps old new op → ((qubits : List Qubit) → AreFlags start qubits → AreFlags old (reached qubits (take index ops)))
    → (qubits : List Qubit) → AreFlags start qubits → AreFlags new (reached qubits (take (index + 1) ops))
reached_more start old new ops index op h is steps so_far qubits are =
    let whole : take (index + 1) ops ≡ take index ops ++ op ∷ [] = take_more ops index op h ∙ ap (λ (o : Op). take index ops ++ o ∷ []) (sym is) in
    subst (AreFlags new) (sym (ap (reached qubits) whole ∙ reached_of_both qubits (take index ops) (op ∷ []))) (steps (reached qubits (take index ops)) (so_far qubits are))

pub reached_all : (start flags : List Bool) (ops : List Op) (index : ℕ) → length ops ≤ index → ((qubits : List Qubit) → AreFlags start qubits → AreFlags flags (reached qubits (take index ops)))
    → (qubits : List Qubit) → AreFlags start qubits → AreFlags flags (reached qubits ops)
reached_all start flags ops index h so_far qubits are = subst (λ (l : List Op). AreFlags flags (reached qubits l)) (take_all index ops h) (so_far qubits are)
