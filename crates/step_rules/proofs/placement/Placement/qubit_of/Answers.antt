use Rattle.std.proofs.Common.{◌≡◌, ℕ, ◌+◌, ◌≤◌, ◌++◌, List, length, drop, get_or, sym, ap, subst, ◌∙◌, arith, length-append}
use Rattle.std.specs.Prelude.{slice_get}
use Rattle.qc_base.specs.declared.ids.Qubit.{Qubit}
use Rattle.qc_base.specs.declared.ids.Ion.{Ion}
use Rattle.step_rules.specs.Placement.{reading_order, times}
use Rattle.step_rules.proofs.Reading.{in_front, in_rest, first_apart, number_found}
use Rattle.step_rules.proofs.placement.Placement.qubit_of.Goals as goal

pub returns-then-before-qubits-clause-qubit : goal.returns-then-before-qubits-clause-qubit
returns-then-before-qubits-clause-qubit c =
    let lists : List (List Qubit) = c.deref-list-items.result.now in
    let list : List Qubit = c.items-qubits.result.now in
    let k : ℕ = c.loop-list.list-index in
    let read : list ≡ get_or lists k list = c.items-qubits.ensures ∙ c.list-item.is ∙ ap (get_or lists k) (sym c.items-qubits.ensures) in
    sym c.loop-list.invariant.same ∙ ap (λ (l : List Qubit). slice_get l c.loop-list.before) (first_apart lists k list c.loop-list-test.true read)
    ∙ in_front list (reading_order (drop (k + 1) lists)) c.loop-list.before (record { 0 = 0 }) c.if-before-qubits.true

pub returns-then-before-qubits-clause-back : goal.returns-then-before-qubits-clause-back
returns-then-before-qubits-clause-back c =
    let list : List Qubit = c.items-qubits.result.now in
    let of : ℕ → Ion = λ n. record { 0 = n } in
    let once : (n : ℕ) → times n (reading_order c.args.self.now) ≤ 1 = subst (λ (l : List (List Qubit)). (n : ℕ) → times n (reading_order l) ≤ 1) c.self.view_is c.self.invariant.once in
    ap of (number_found (reading_order c.args.self.now) c.args.ion.0 (get_or list c.loop-list.before (record { 0 = 0 })) once (returns-then-before-qubits-clause-qubit c))

pub loop-list-preserved : goal.loop-list-preserved
loop-list-preserved c =
    let lists : List (List Qubit) = c.deref-list-items.result.now in
    let list : List Qubit = c.items-qubits.result.now in
    let k : ℕ = c.loop-list.list-index in
    let rest : List Qubit = reading_order (drop (k + 1) lists) in
    let read : list ≡ get_or lists k list = c.items-qubits.ensures ∙ c.list-item.is ∙ ap (get_or lists k) (sym c.items-qubits.ensures) in
    let apart : reading_order (drop k lists) ≡ list ++ rest = first_apart lists k list c.loop-list-test.true read in
    let past : length list ≤ c.loop-list.before = c.if-before-qubits.false in
    record {
      there = omega (arith, c.loop-list.invariant.there, ap length apart, length-append list rest);
      same = sym (in_rest list rest c.loop-list.before past) ∙ ap (λ (l : List Qubit). slice_get l c.loop-list.before) (sym apart) ∙ c.loop-list.invariant.same;
    }
