use Rattle.std.proofs.Common.{◌≡◌, ℕ, suc, ◌+◌, ◌≤◌, sym, subst, arith}
use Rattle.derivation_log.specs.Log.{Lines}
use Rattle.exact_search.specs.Searching.{HasRefuted, IsDecided}
use Rattle.exact_search.specs.Found.{IsNoneWithin}
use Rattle.exact_search.proofs.Bounds.{none_within}
use Rattle.exact_search.proofs.search.find_least.Goals as goal

pub loop-bound-preserved : goal.loop-bound-preserved
loop-bound-preserved c =
    let next : suc c.loop-bound.bound ≡ c.loop-bound.bound + 1 = omega arith in
    let search = c.decide.new.self in
    subst (λ (n : ℕ). HasRefuted c.args.task.now n search.solver search.shown) next
    (subst (IsDecided c.args.task.now c.loop-bound.bound search.solver search.shown) c.in-Refuted.is c.in_ok-decide.ensures)

pub returns : goal.returns
returns c =
    let task = c.args.task.now in
    let last : c.loop-bound.bound ≡ suc c.args.max = omega (arith, c.loop-bound-test.false, c.loop-bound.auto.bound-end) in
    let most : c.args.max ≤ task.vars.steps = omega (arith, c.requires) in
    let has = subst (λ (n : ℕ). HasRefuted task n c.loop-bound.search.solver c.loop-bound.search.shown) last c.loop-bound.invariant in
    subst (λ (log : Lines). IsNoneWithin task.setting c.args.max task.budget log c.loop-bound.search.shown.lines) (sym c.into_log-2.ensures)
    (none_within task c.args.max c.loop-bound.search.solver c.loop-bound.search.shown (c.fits.ensures c.args.max most) has)
