use Rattle.std.proofs.Common.{ℕ, ◌+◌, ◌<◌, drop, sym, subst, arith}
use Rattle.std.specs.Prelude.{◌↔◌}
use Rattle.sat_base.specs.Derivation.{IsAscending}
use Rattle.certificate_lines.proofs.Ascending.{AscendFrom, from_start, goes_on}
use Rattle.certificate_lines.proofs.line.ascends.Goals as goal

pub loop-lit-init : goal.loop-lit-init
loop-lit-init c = from_start c.args.lits.now c.requires

pub loop-lit-preserved : goal.loop-lit-preserved
loop-lit-preserved c =
    let higher : c.loop-lit.above < c.lit-item.result.var = omega (arith, c.if-var-above.false, c.var.ensures.var) in
    subst (λ (above : ℕ). IsAscending c.args.lits.now ↔ AscendFrom above (drop (c.loop-lit.lit-index + 1) c.args.lits.now)) (sym c.var-above.ensures.var)
    (goes_on c.args.lits.now c.loop-lit.lit-index c.loop-lit.above c.lit-item.result c.loop-lit-test.true c.lit-item.is higher c.loop-lit.invariant)
