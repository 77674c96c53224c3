use Rattle.std.proofs.Common.{◌≡◌, ℕ, ◌+◌, ◌-◌, ◌<◌, length, Some, sym, ap, subst, ◌∙◌, arith}
use Rattle.std.specs.Prelude.{slice_get}
use Rattle.std.proofs.lemmas.Option.{slice_get-get_or}
use Rattle.step_rules.specs.declared.action.Action.TheVariants as kinds
use Rattle.compact.specs.Orders.{IsWaited}
use Rattle.compact.proofs.Rows.{waited}
use Rattle.compact.proofs.waiting.wait_for.Goals as goal

pub returns : goal.returns
returns c =
    let k : ℕ = c.args.count - 1 in
    let within : c.args.count - 1 < length c.args.actions.now = omega arith in
    let counted : c.args.count - 1 + 1 ≡ c.args.count = omega arith in
    let there : slice_get c.args.actions.now (c.args.count - 1) ≡ Some (kinds.Op c.in-Op.zone c.in-Op.op) = slice_get-get_or c.args.actions.now (c.args.count - 1) _ within ∙ ap Some c.in-Op.is in
    subst (λ (n : ℕ). IsWaited c.args.actions.now n c.args.barrier c.args.rows.now.items c.wait.new.rows.items) counted
    (subst (IsWaited c.args.actions.now (k + 1) c.args.barrier c.args.rows.now.items) (sym c.in_ok-wait.ensures) (waited c.args.actions.now k c.in-Op.zone c.in-Op.op c.args.barrier c.args.rows.now.items there))
