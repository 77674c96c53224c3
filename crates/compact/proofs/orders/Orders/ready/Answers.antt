use Rattle.std.proofs.Common.{◌≡◌, ◌+◌, ◌<◌, length, set, None, Some, refl, sym, ap, subst, ◌∙◌, arith}
use Rattle.std.specs.Prelude.{slice_get}
use Rattle.std.proofs.lemmas.Option.{slice_get-get_or}
use Rattle.compact.specs.Orders.{AreOrders, OrdersValue}
use Rattle.compact.proofs.Places.{nowhere}
use Rattle.compact.proofs.Keeping.{asked_first, asked_more, asked_again}
use Rattle.compact.proofs.orders.Orders.ready.Goals as goal

pub returns-in_default-clause-ready : goal.returns-in_default-clause-ready
returns-in_default-clause-ready c = λ actions times ordered kept now. absurd (nowhere c.args.circuit.now.ops c.args.op.0 c.in_default.ensures.op (ordered.there c.args.op.0 (length times) now))

pub returns-in_default-clause-orders : goal.returns-in_default-clause-orders
returns-in_default-clause-orders c = λ actions times ordered kept now. absurd (nowhere c.args.circuit.now.ops c.args.op.0 c.in_default.ensures.op (ordered.there c.args.op.0 (length times) now))

pub returns-then-number-len-clause-ready : goal.returns-then-number-len-clause-ready
returns-then-number-len-clause-ready c = λ actions times ordered kept now.
    absurd (omega (arith, ap (λ (v : OrdersValue). length v.ready) c.self.view_is, kept.len, ordered.there c.args.op.0 (length times) now, c.self.inside.ready.ok.0))

pub returns-then-number-len-clause-orders : goal.returns-then-number-len-clause-orders
returns-then-number-len-clause-orders c = λ actions times ordered kept now.
    absurd (omega (arith, ap (λ (v : OrdersValue). length v.ready) c.self.view_is, kept.len, ordered.there c.args.op.0 (length times) now, c.self.inside.ready.ok.0))

pub returns-in-Some-index-clause-ready : goal.returns-in-Some-index-clause-ready
returns-in-Some-index-clause-ready c = λ actions times ordered kept now.
    let orders : OrdersValue = record { wires = c.self.inside.wires; ready = c.self.inside.ready.items; last = c.self.inside.last; waiting = c.self.inside.waiting.items } in
    let within : c.args.op.0 < length c.self.inside.ready.items = omega (arith, c.self.inside.ready.ok.0) in
    let known : slice_get c.self.inside.ready.items c.args.op.0 ≡ Some (Some c.in-Some-index.level) = slice_get-get_or c.self.inside.ready.items c.args.op.0 c.index.result.now within ∙ ap Some (sym c.index.ensures ∙ c.in-Some-index.is) in
    (asked_again c.args.circuit.now actions times c.args.op.0 c.in-Some-index.level orders (subst (AreOrders c.args.circuit.now actions times (length times)) (sym c.self.view_is) kept) now known).0

pub returns-in-Some-index-clause-orders : goal.returns-in-Some-index-clause-orders
returns-in-Some-index-clause-orders c = λ actions times ordered kept now.
    let orders : OrdersValue = record { wires = c.self.inside.wires; ready = c.self.inside.ready.items; last = c.self.inside.last; waiting = c.self.inside.waiting.items } in
    let within : c.args.op.0 < length c.self.inside.ready.items = omega (arith, c.self.inside.ready.ok.0) in
    let known : slice_get c.self.inside.ready.items c.args.op.0 ≡ Some (Some c.in-Some-index.level) = slice_get-get_or c.self.inside.ready.items c.args.op.0 c.index.result.now within ∙ ap Some (sym c.index.ensures ∙ c.in-Some-index.is) in
    subst (AreOrders c.args.circuit.now actions times (length times + 1)) c.self.view_is
    (asked_again c.args.circuit.now actions times c.args.op.0 c.in-Some-index.level orders (subst (AreOrders c.args.circuit.now actions times (length times)) (sym c.self.view_is) kept) now known).1

pub returns-clause-ready : goal.returns-clause-ready
returns-clause-ready c = λ actions times ordered kept now.
    let orders : OrdersValue = record { wires = c.self.inside.wires; ready = c.self.inside.ready.items; last = c.self.inside.last; waiting = c.self.inside.waiting.items } in
    let within : c.args.op.0 < length c.self.inside.ready.items = omega (arith, c.self.inside.ready.ok.0) in
    let unasked : slice_get c.self.inside.ready.items c.args.op.0 ≡ Some None = slice_get-get_or c.self.inside.ready.items c.args.op.0 c.index.result.now within ∙ ap Some (sym c.index.ensures ∙ c.in_default-index.is) in
    asked_first c.args.circuit.now actions times c.args.op.0 c.in-Some.operation.now orders c.greatest-level.result ordered (subst (AreOrders c.args.circuit.now actions times (length times)) (sym c.self.view_is) kept) now unasked (sym c.in-Some.ensures.op) c.greatest-level.ensures

pub returns-clause-orders : goal.returns-clause-orders
returns-clause-orders c = λ actions times ordered kept now.
    let orders : OrdersValue = record { wires = c.self.inside.wires; ready = c.self.inside.ready.items; last = c.self.inside.last; waiting = c.self.inside.waiting.items } in
    let new : OrdersValue = record { wires = c.self.inside.wires; ready = set c.self.inside.ready.items c.args.op.0 (Some c.greatest-level.result); last = c.self.inside.last; waiting = c.self.inside.waiting.items } in
    let within : c.args.op.0 < length c.self.inside.ready.items = omega (arith, c.self.inside.ready.ok.0) in
    let unasked : slice_get c.self.inside.ready.items c.args.op.0 ≡ Some None = slice_get-get_or c.self.inside.ready.items c.args.op.0 c.index.result.now within ∙ ap Some (sym c.index.ensures ∙ c.in_default-index.is) in
    let whole : AreOrders c.args.circuit.now actions times (length times) orders = subst (AreOrders c.args.circuit.now actions times (length times)) (sym c.self.view_is) kept in
    asked_more c.args.circuit.now actions times c.args.op.0 c.greatest-level.result orders new whole now within
    (asked_first c.args.circuit.now actions times c.args.op.0 c.in-Some.operation.now orders c.greatest-level.result ordered whole now unasked (sym c.in-Some.ensures.op) c.greatest-level.ensures) refl refl refl refl
