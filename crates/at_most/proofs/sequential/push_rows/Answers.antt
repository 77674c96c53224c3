use Rattle.std.proofs.Common.{◌≡◌, ◌+◌, ◌-◌, ◌*◌, ◌^◌, ◌<◌, ◌≤◌, ℕ, length, arith}
use Rattle.sat_base.proofs.Clauses.{EachVariable-at}
use Rattle.at_most.specs.AtMost.{AddsPrefix}
use Rattle.at_most.specs.Sequential.{sequential, next_row}
use Rattle.at_most.proofs.Emitted.{emitted_none, emitted_same, emitted_more, emitted_within, on_err}
use Rattle.at_most.proofs.Counter.{sequential_step, later_step, rows_fit, last_row_fits}
use Rattle.at_most.proofs.sequential.push_rows.Goals as goal

pub returns-in_err-push_first_row-clause-err : goal.returns-in_err-push_first_row-clause-err
returns-in_err-push_first_row-clause-err c =
    let old = c.args.out.now in
    let all = sequential c.args.lits.now c.args.k c.args.next in
    let begun = emitted_same old old all all _ (emitted_none old all) (sequential_step c.args.lits.now c.args.k c.args.next c.index-lits-0.result (omega arith) c.index-lits-0.is) in
    on_err c.from_residual.result (AddsPrefix old c.push_first_row.new.out all)
    (emitted_within old old c.push_first_row.new.out all _ _ begun c.in_err-push_first_row.ensures.err)

pub push_next_row-requires : goal.push_next_row-requires
push_next_row-requires c =
    let below : c.index-lits-index.result.var < c.args.next =
    EachVariable-at (λ var. var < c.args.next) c.args.lits.now c.loop-index.index c.index-lits-index.result c.requires.room.below (omega arith) c.index-lits-index.is in
    let fits : c.args.next + (c.loop-index.index - 1) * c.args.k + (c.args.k + c.args.k) ≤ 2 ^ 31 =
    rows_fit (c.loop-index.index - 1) (length c.args.lits.now) c.args.k c.args.next (2 ^ 31) (omega arith) c.requires.room.numbers in
    record {
      below = omega (arith, below, c.loop-index.invariant.rows);
      from_1 = omega (arith, c.loop-index.invariant.rows);
      some = omega arith;
      numbers = rw c.loop-index.invariant.rows fits;
    }

pub returns-in_err-push_next_row-clause-err : goal.returns-in_err-push_next_row-clause-err
returns-in_err-push_next_row-clause-err c =
    let step = later_step c.args.lits.now c.loop-index.index c.loop-index.row c.args.k c.index-lits-index.result (omega arith) c.index-lits-index.is in
    let next = emitted_same _ _ _ _ _ c.loop-index.invariant.emitted step in
    on_err c.from_residual-in_err-push_next_row.result (AddsPrefix c.args.out.now c.push_next_row.new.out (sequential c.args.lits.now c.args.k c.args.next))
    (emitted_within _ _ _ _ (next_row c.index-lits-index.result c.loop-index.row (c.loop-index.row + c.args.k) c.args.k) _ next c.in_err-push_next_row.ensures.err)

pub loop-index-preserved : goal.loop-index-preserved
loop-index-preserved c =
    let step = later_step c.args.lits.now c.loop-index.index c.loop-index.row c.args.k c.index-lits-index.result (omega arith) c.index-lits-index.is in
    let next = emitted_same _ _ _ _ _ c.loop-index.invariant.emitted step in
    let i : ℕ = c.loop-index.index - 1 in
    let e : c.loop-index.index + 1 - 1 ≡ i + 1 = omega arith in
    record {
      emitted = emitted_more _ _ _ _ (next_row c.index-lits-index.result c.loop-index.row (c.loop-index.row + c.args.k) c.args.k) _ next c.in_ok-push_next_row.ensures.ok;
      rows = rw (e, c.loop-index.invariant.rows) (omega arith);
    }

pub push_no_more-requires : goal.push_no_more-requires
push_no_more-requires c =
    let last : ℕ = length c.args.lits.now - 1 in
    let below : c.index-lits-last.result.var < c.args.next =
    EachVariable-at (λ var. var < c.args.next) c.args.lits.now last c.index-lits-last.result c.requires.room.below (omega arith) c.index-lits-last.is in
    let fits : c.args.next + (c.loop-index.index - 1) * c.args.k + c.args.k ≤ 2 ^ 31 =
    last_row_fits (c.loop-index.index - 1) (length c.args.lits.now) c.args.k c.args.next (2 ^ 31) (omega arith) c.requires.room.numbers in
    record {
      below = omega (arith, below, c.loop-index.invariant.rows);
      from_1 = omega (arith, c.loop-index.invariant.rows);
      some = omega arith;
      numbers = rw c.loop-index.invariant.rows fits;
    }
