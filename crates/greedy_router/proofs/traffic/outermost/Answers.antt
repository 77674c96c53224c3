use Rattle.std.proofs.Common.{length, ◌-◌, get_or, arith}
use Rattle.std.proofs.lemmas.Option.{slice_get-get_or}
use Rattle.qc_base.specs.declared.ids.Ion.{Ion}
use Rattle.greedy_router.proofs.Counts.{count-at}
use Rattle.greedy_router.proofs.traffic.outermost.Goals as goal

pub returns-in-B : goal.returns-in-B
returns-in-B c =
    let ions = c.args.ions.now in
    let last : Ion = get_or ions (length ions - 1) (record { 0 = 0 }) in
    count-at ions (length ions - 1) last (slice_get-get_or ions (length ions - 1) (record { 0 = 0 }) (omega (arith, c.requires)))
