use Rattle.std.proofs.Common.{arith, ◌≡◌, ◌+◌}
use Rattle.trap_model.proofs.Finding.{cross_near}
use Rattle.trap_model.proofs.tables.cross_number.Goals as goal

pub loop-k-init : goal.loop-k-init
loop-k-init c =
    let start : c.args.passage.first + 0 ≡ c.args.passage.first = omega arith in
    rw start (cross_near c.args.junction c.args.from c.args.to c.args.channels.now c.args.passage c.requires.passage)
