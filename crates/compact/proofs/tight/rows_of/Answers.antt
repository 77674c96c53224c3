use Rattle.std.proofs.Common.{◌+◌, ◌<◌, length, take, subst, sym, arith}
use Rattle.std.proofs.lemmas.Option.{slice_get-get_or}
use Rattle.step_rules.specs.declared.action.Action.TheVariants as kinds
use Rattle.compact.specs.Latest.{AreBuilt}
use Rattle.compact.proofs.Building.{built_next, next_within}
use Rattle.compact.proofs.tight.rows_of.Goals as goal

pub place-requires : goal.place-requires
place-requires c =
    let within : c.loop-k.k < length c.args.times.now = omega (arith, c.requires.times.len) in
    next_within c.args.setting.now c.args.actions.now c.args.times.now c.loop-k.k c.loop-k.rows.items _ _ c.requires.times
    (slice_get-get_or c.args.actions.now c.loop-k.k (kinds.Swap (record { 0 = 0 }) 0) c.loop-k-test.true) (slice_get-get_or c.args.times.now c.loop-k.k _ within) c.loop-k.invariant

pub loop-k-preserved : goal.loop-k-preserved
loop-k-preserved c =
    let within : c.loop-k.k < length c.args.times.now = omega (arith, c.requires.times.len) in
    subst (AreBuilt c.args.setting.now (take (c.loop-k.k + 1) c.args.actions.now) (take (c.loop-k.k + 1) c.args.times.now)) (sym c.in_ok-place.ensures)
    (built_next c.args.setting.now c.args.actions.now c.args.times.now c.loop-k.k c.loop-k.rows.items _ _ c.requires.serial c.requires.times (slice_get-get_or c.args.actions.now c.loop-k.k _ c.loop-k-test.true) (slice_get-get_or c.args.times.now c.loop-k.k _ within) c.loop-k.invariant)
