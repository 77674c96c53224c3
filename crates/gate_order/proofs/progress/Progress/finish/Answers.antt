use Rattle.std.proofs.Common.{Bool, List, length, ◌∙◌, ap, arith}
use Rattle.gate_order.proofs.Changed.{finished_kept, finish_room, finished_blocked, finished_done}
use Rattle.gate_order.proofs.progress.Progress.finish.Goals as goal

pub settle-requires-clause-known : goal.settle-requires-clause-known
settle-requires-clause-known c =
    omega (arith, (c.requires.all.kept.state.base.ready_open c.args.op.0 c.requires.ready).known, c.requires.all.kept.state.base.len, ap (λ (l : List Bool). length l) c.take.ensures.flags, c.take.new.self.flags.ok.0)

pub settle-requires-clause-room : goal.settle-requires-clause-room
settle-requires-clause-room c =
    omega (arith, finish_room c.args.circuit.now c.args.nearest.now c.args.op.0 c.args.self.now c.take.new.self c.requires.all.kept c.requires.ready c.take.ensures, c.take.new.self.settled.ok.0)

pub spread-requires-clause-kept : goal.spread-requires-clause-kept
spread-requires-clause-kept c =
    finished_kept c.args.circuit.now c.args.nearest.now c.args.op.0 c.args.self.now c.take.new.self c.settle.new.self c.requires.all.kept c.requires.ready c.take.ensures c.settle.ensures

pub spread-requires-clause-blocked : goal.spread-requires-clause-blocked
spread-requires-clause-blocked c number j known waits before =
    finished_blocked c.args.nearest.now c.args.op.0 c.args.self.now c.take.new.self c.settle.new.self c.requires.all.blocked c.take.ensures c.settle.ensures number j known waits
    (omega (arith, before, c.len-head.ensures, c.args.self.now.settled.ok.0))

pub returns-clause-done : goal.returns-clause-done
returns-clause-done c = c.spread.ensures.done ∙ finished_done c.args.circuit.now c.args.op.0 c.args.self.now c.take.new.self c.settle.new.self (c.requires.all.kept.state.base.ready_open c.args.op.0 c.requires.ready).performed c.take.ensures c.settle.ensures
