use Rattle.std.proofs.Common.{get_or}
use Rattle.std.proofs.lemmas.List.{get_or_default}
use Rattle.qc_base.specs.declared.ids.OpId.{OpId}
use Rattle.gate_order.specs.Keeping.{op as op_of}
use Rattle.greedy_router.proofs.Gathering.{gathered_next}
use Rattle.greedy_router.proofs.router.next.Goals as goal

pub returns : goal.returns
returns c =
    let op : OpId = get_or c.args.ready.now 0 (op_of 0) in
    gathered_next c.args.map.now.setting c.args.traffic.now c.free_zones.new.self c.gather.new.self c.args.ready.now op c.in_ok-zone.zone.0 c.in_ok-free_zones.ensures.flows c.in_ok-zone.ensures c.requires.ready c.requires.some
    (get_or_default c.args.ready.now 0 (op_of 0) op c.requires.some)
