use Rattle.std.proofs.Common.{◌≡◌, ◌<◌, ◌≤◌, length, Some, sym, ap, subst, ◌∙◌, arith}
use Rattle.std.specs.Prelude.{slice_get, slice_index}
use Rattle.std.proofs.lemmas.Option.{slice_get-get_or}
use Rattle.compact.specs.Orders.{AreOrders, OrdersValue}
use Rattle.compact.proofs.Places.{nowhere}
use Rattle.compact.proofs.Keeping.{noted_last, noted_before_last}
use Rattle.compact.proofs.orders.Orders.note.Goals as goal

pub returns-in_default : goal.returns-in_default
returns-in_default c = λ actions times time ordered counted e kept now. absurd (nowhere c.args.circuit.now.ops c.args.op.0 c.in_default.ensures.op (ordered.there c.args.op.0 (length times) now))

pub returns-then-number-len : goal.returns-then-number-len
returns-then-number-len c = λ actions times time ordered counted e kept now.
    absurd (omega (arith, ap (λ (v : OrdersValue). length v.waiting) c.self.view_is, kept.waiting.len, ordered.there c.args.op.0 (length times) now, c.self.inside.waiting.ok.0))

pub returns-then-of-count : goal.returns-then-of-count
returns-then-of-count c = λ actions times time ordered counted e kept now.
    let orders : OrdersValue = record { wires = c.self.inside.wires; ready = c.self.inside.ready.items; last = c.self.inside.last; waiting = c.self.inside.waiting.items } in
    let later : c.args.count < slice_index c.self.inside.last c.args.op.0 = omega (arith, c.of.ensures) in
    noted_before_last c.args.circuit.now actions times time c.args.count c.args.level c.args.op.0 c.in-Some.operation.now orders c.raise.new.self ordered counted e
    (subst (AreOrders c.args.circuit.now actions times c.args.count) (sym c.self.view_is) kept) now (sym c.in-Some.ensures.op) c.in_ok-raise.ensures later

pub returns : goal.returns
returns c = λ actions times time ordered counted e kept now.
    let orders : OrdersValue = record { wires = c.self.inside.wires; ready = c.self.inside.ready.items; last = c.self.inside.last; waiting = c.self.inside.waiting.items } in
    let latest : slice_index c.self.inside.last c.args.op.0 ≤ c.args.count = omega (arith, c.of.ensures) in
    let within : c.args.op.0 < length c.self.inside.waiting.items = omega (arith, c.self.inside.waiting.ok.0) in
    let at_row : slice_get c.self.inside.waiting.items c.args.op.0 ≡ Some c.barriers.result.now =
    slice_get-get_or c.self.inside.waiting.items c.args.op.0 c.index-row.result.now within ∙ ap Some (sym c.index-row.ensures ∙ sym c.barriers.ensures) in
    noted_last c.args.circuit.now actions times time c.args.count c.args.level c.args.op.0 c.in-Some.operation.now orders c.raise.new.self c.settle.new.wires c.barriers.result.now ordered counted e
    (subst (AreOrders c.args.circuit.now actions times c.args.count) (sym c.self.view_is) kept) now (sym c.in-Some.ensures.op) c.in_ok-raise.ensures latest at_row c.in_ok-settle.ensures
