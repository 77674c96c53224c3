use Rattle.std.proofs.Common.{◌+◌, ◌≤◌, List, drop, ap, sym, ◌∙◌, subst}
use Rattle.circuit_core.specs.declared.angle.Angle.{Angle}
use Rattle.circuit_core.specs.Angle.{nodes_of}
use Rattle.gate_names.specs.Causes.{each, after}
use Rattle.gate_expand.specs.Angles.{put, put_small}
use Rattle.gate_expand.proofs.SmallAngles.{has_room, put_is, small_more}
use Rattle.gate_names.proofs.Each.{each_more}
use Rattle.gate_expand.proofs.angles.put_all.Goals as goal

pub loop-term-preserved : goal.loop-term-preserved
loop-term-preserved c =
    let few : nodes_of (put c.args.angles.now c.term-item.result) ≤ 1000 =
    has_room (nodes_of (put c.args.angles.now c.term-item.result)) c.room_after.result c.room_after.ensures c.if-is_none.ensures in
    record {
      same = ap (λ (items : List Angle). after items (each (put_small c.args.angles.now) (drop (c.loop-term.term-index + 1) c.args.terms.now))) c.in_ok-push.ensures.items
          ∙ each_more (put_small c.args.angles.now) c.args.terms.now c.loop-term.term-index c.term-item.result c.loop-term-test.true c.term-item.is
          c.loop-term.actual.items c.in_ok-put.field-0 (put_is c.args.angles.now c.term-item.result c.in_ok-put.field-0 few c.in_ok-put.ensures)
          ∙ c.loop-term.invariant.same;
      small = small_more c.loop-term.actual.items c.push.new.self.items c.in_ok-put.field-0 c.in_ok-push.ensures.items
          (subst (λ (angle : Angle). nodes_of angle ≤ 1000) (sym c.in_ok-put.ensures) few) c.loop-term.invariant.small;
    }
