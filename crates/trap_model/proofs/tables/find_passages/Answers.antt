use Rattle.trap_model.proofs.Passages.{passages_more, passage_between}
use Rattle.trap_model.proofs.tables.find_passages.Goals as goal

pub loop-junction-preserved : goal.loop-junction-preserved
loop-junction-preserved c =
    rw c.in_ok-push.ensures.items (passages_more c.args.channels.now c.loop-junction.junction c.loop-junction.passages.items _ c.loop-junction.invariant
    (passage_between c.args.channels.now c.loop-junction.junction c.first_crossing-first.result c.end_of_crossings-end.result c.max.result c.max.ensures c.first_crossing-first.ensures.within c.end_of_crossings-end.ensures.within c.first_crossing-first.ensures.before c.end_of_crossings-end.ensures.after))
