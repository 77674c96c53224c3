-- The gates of a load are operations on its qubits.
use Rattle.std.proofs.Common.{◌≡◌, ◌≢◌, ℕ, ◌+◌, ◌-◌, ◌<◌, ◌≤◌, ◌%◌, List, [], ◌∷◌, ◌++◌, length, zero, suc, sym, ap, ◌∙◌, append_assoc, arith, nat_le, Bool, true, false, All, refl, lit<, lit≤, mod-lt, rules}
use Rattle.std.specs.Prelude.{AllPairs, IfSome, if◌then◌else◌}
use Rattle.std.proofs.lemmas.List.{append-nil}
use Rattle.std.proofs.lemmas.List.Elements.{All-nil, All-cons}
use Rattle.qc_base.specs.declared.ids.Qubit.{Qubit}
use Rattle.circuit_core.specs.declared.op.Op.{Op}
use Rattle.circuit_core.specs.Op.{IsOp}
use Rattle.circuit_core.specs.Circuit.{all_nodes}
use Rattle.load_setup.specs.Words.{next_state, word_after}
use Rattle.load_setup.specs.Setup.{control_of, target_of, past, cx, gate_of, gates_from}

pub gates_none : (state : ℕ) → gates_from 0 state ≡ []
unfolding gates_from
gates_none state = refl

gates_suc : (count state : ℕ) → gates_from (suc count) state
    ≡ gate_of (word_after state) (word_after (next_state state)) ∷ gates_from count (next_state (next_state state))
unfolding gates_from
gates_suc count state = refl

-- one more of so many gates
pub gates_more : (count k state : ℕ) → k < count → gates_from (count - k) state
    ≡ gate_of (word_after state) (word_after (next_state state)) ∷ gates_from (count - (k + 1)) (next_state (next_state state))
gates_more count k state h =
    let e : count - k ≡ suc (count - (k + 1)) = omega (arith, h) in
    rw e (gates_suc (count - (k + 1)) state)

pub length-gates : (count state : ℕ) → length (gates_from count state) ≡ count
unfolding gates_from
length-gates zero state = refl
length-gates (suc count) state = ap suc (length-gates count (next_state (next_state state)))

pub nodes-gates : (count state : ℕ) → all_nodes (gates_from count state) ≡ 0
unfolding gates_from gate_of
nodes-gates zero state = refl
nodes-gates (suc count) state = omega (arith, nodes-gates count (next_state (next_state state)))

-- one more is made
pub gates_kept : (count made seed words after : ℕ) (gate : Op) (ops now : List Op) → made < count → now ≡ ops ++ gate ∷ []
    → gate ≡ gate_of (word_after words) (word_after (next_state words)) → after ≡ next_state (next_state words)
    → ops ++ gates_from (count - made) words ≡ gates_from count seed
    → now ++ gates_from (count - (made + 1)) after ≡ gates_from count seed
gates_kept count made seed words after gate ops now h pushed is state so_far =
    rw (pushed, is, state)
    (append_assoc ops (gate_of (word_after words) (word_after (next_state words)) ∷ []) (gates_from (count - (made + 1)) (next_state (next_state words)))
    ∙ ap (λ (rest : List Op). ops ++ rest) (sym (gates_more count made words h))
    ∙ so_far)

-- all are made
pub gates_done : (count made seed words : ℕ) (ops : List Op) → count ≤ made
    → ops ++ gates_from (count - made) words ≡ gates_from count seed → ops ≡ gates_from count seed
gates_done count made seed words ops h so_far =
    let none : count - made ≡ 0 = omega (arith, h) in
    let nothing : gates_from (count - made) words ≡ [] = rw none (gates_none words) in
    sym (append-nil ops) ∙ ap (λ (rest : List Op). ops ++ rest) (sym nothing) ∙ so_far

-- ---- each is an operation on sixty qubits

past-ne : (other number : ℕ) → other ≢ past other number
past-ne other number = λ e. grind (arith, e)

past-lt : (other number : ℕ) → number < 59 → past other number < 60
past-lt other number h = grind (arith, h)

is_cx : (control target : ℕ) → control < 60 → target < 60 → control ≢ target → IsOp 60 0 0 (cx control target)
is_cx control target c t other = record {
  some = lit≤ tt;
  qubits = All-cons (λ (q : Qubit). q.0 < 60) (record { 0 = control }) (record { 0 = target } ∷ []) c (All-cons (λ (q : Qubit). q.0 < 60) (record { 0 = target }) [] t (All-nil (λ (q : Qubit). q.0 < 60)));
  differ = search rules;
  bit = tt;
  cond = tt;
  angles = All-nil _;
  gate = tt;
}

is_gate : (word next : ℕ) → IsOp 60 0 0 (gate_of word next)
unfolding gate_of
is_gate word next =
    is_cx (control_of word) (target_of (control_of word) next) (mod-lt word (lit< tt))
    (past-lt (control_of word) (next % 59) (mod-lt next (lit< tt))) (past-ne (control_of word) (next % 59))

pub are_gates : (count state : ℕ) → All (IsOp 60 0 0) (gates_from count state)
unfolding gates_from
are_gates zero state = All-nil (IsOp 60 0 0)
are_gates (suc count) state =
    All-cons (IsOp 60 0 0) (gate_of (word_after state) (word_after (next_state state))) (gates_from count (next_state (next_state state)))
    (is_gate (word_after state) (word_after (next_state state))) (are_gates count (next_state (next_state state)))
