use Rattle.std.proofs.Common.{◌≡◌, ℕ, List, [], length, sym, ap, subst, ◌∙◌, arith}
use Rattle.std.specs.Prelude.{replicate}
use Rattle.circuit_core.specs.declared.op.Op.{Op}
use Rattle.compact.specs.Levels.{WiresValue}
use Rattle.compact.specs.Orders.{AreWaiting, ArePassed}
use Rattle.compact.proofs.Rows.{none_passed}
use Rattle.compact.proofs.waiting.waiting_rows.Goals as goal

pub loop-number-init : goal.loop-number-init
loop-number-init c =
    let rows : c.in_ok-rows.rows.items ≡ replicate (length c.args.circuit.now.ops) [] = c.in_ok-rows.ensures ∙ ap (λ (l : List Op). replicate (length l) []) c.ops-count.ensures.ops in
    subst (λ (w : WiresValue). ArePassed c.args.circuit.now c.args.actions.now 0 w c.in_ok-rows.rows.items) (sym c.new-wires.ensures) (none_passed c.args.circuit.now c.args.actions.now c.in_ok-rows.rows.items rows)

pub returns : goal.returns
returns c =
    let same : c.loop-number.number ≡ length c.args.circuit.now.ops = omega (arith, ap length c.ops-count.ensures.ops) in
    subst (λ (n : ℕ). AreWaiting c.args.circuit.now c.args.actions.now n c.loop-number.rows.items) same c.loop-number.invariant.waiting
