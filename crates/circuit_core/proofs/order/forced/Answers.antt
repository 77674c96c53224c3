use Rattle.std.proofs.Common.{◌≡◌, false, Some, ap, sym, ◌∙◌, refl, length, arith}
use Rattle.std.specs.Prelude.{slice_get}
use Rattle.std.proofs.lemmas.Option.{slice_get_read}
use Rattle.circuit_core.specs.Deciding.{between, comes_first, is_forced}
use Rattle.circuit_core.proofs.Wires.{iff_at}
use Rattle.circuit_core.proofs.Forcing.{isnt_forced_back, isnt_forced_past, is_forced_at, forced_iff}
use Rattle.circuit_core.proofs.order.forced.Goals as goal

pub returns-then-i-j-clause-order : goal.returns-then-i-j-clause-order
returns-then-i-j-clause-order c =
    let circuit = c.args.circuit.now in
    let i = c.args.i.0 in
    let j = c.args.j.0 in
    iff_at false (is_forced circuit i j) (isnt_forced_back circuit i j (omega arith)) (forced_iff circuit i j)

pub returns-then-last-ops-clause-value : goal.returns-then-last-ops-clause-value
returns-then-last-ops-clause-value c = isnt_forced_past c.args.circuit.now c.args.i.0 c.args.j.0 (omega (arith, ap length c.ops-ops.ensures.ops))

pub returns-then-last-ops-clause-order : goal.returns-then-last-ops-clause-order
returns-then-last-ops-clause-order c =
    let circuit = c.args.circuit.now in
    let i = c.args.i.0 in
    let j = c.args.j.0 in
    iff_at false (is_forced circuit i j) (isnt_forced_past circuit i j (omega (arith, ap length c.ops-ops.ensures.ops))) (forced_iff circuit i j)

pub returns-clause-value : goal.returns-clause-value
returns-clause-value c =
    let circuit = c.args.circuit.now in
    let ops = c.ops-ops.result.now in
    let i = c.args.i.0 in
    let j = c.args.j.0 in
    let first = c.index-ops-first.result in
    let last = c.index-ops-last.result in
    let at_i : slice_get circuit.ops i ≡ Some first = ap (λ l. slice_get l i) (sym c.ops-ops.ensures.ops) ∙ slice_get_read ops (length ops) i first refl (omega arith) c.index-ops-first.is in
    let at_j : slice_get circuit.ops j ≡ Some last = ap (λ l. slice_get l j) (sym c.ops-ops.ensures.ops) ∙ slice_get_read ops (length ops) j last refl (omega arith) c.index-ops-last.is in
    c.comes_first.ensures ∙ ap (λ l. comes_first circuit (between l i j) first last) c.ops-ops.ensures.ops ∙ is_forced_at circuit i j first last (omega arith) at_i at_j

pub returns-clause-order : goal.returns-clause-order
returns-clause-order c =
    let circuit = c.args.circuit.now in
    let i = c.args.i.0 in
    let j = c.args.j.0 in
    iff_at c.comes_first.result (is_forced circuit i j) (returns-clause-value c) (forced_iff circuit i j)
