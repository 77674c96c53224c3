use Rattle.std.proofs.Common.{◌≡◌, ◌<◌, ◌≤◌, length, arith, eqb-true, sym}
use Rattle.std.proofs.lemmas.Bool.Decides.{nat_tests}
use Rattle.schedule_text.proofs.WordEnds.{labels_all, labels_none, labels_past}
use Rattle.schedule_text.proofs.place_line.labels.Goals as goal

pub returns-then-len-capacity-clause-only : goal.returns-then-len-capacity-clause-only
returns-then-len-capacity-clause-only c = λ list few all e.
    let test = c.loop-rest-test.ensures in
    let some : 0 < length c.loop-rest.rest.now = grind (arith, nat_tests, test) in
    let full = c.if-len-capacity.true in
    let many : c.args.capacity ≤ length c.loop-rest.list.items = grind (arith, nat_tests, full) in
    labels_past c.args.circuit.now c.loop-rest.list.items list c.loop-rest.rest.now c.args.words.now c.args.capacity c.requires c.loop-rest.invariant.there all c.loop-rest.invariant.ends some many few c.loop-rest.invariant.parts e

pub returns-in-None-clause-only : goal.returns-in-None-clause-only
returns-in-None-clause-only c = λ list few all e.
    let test = c.loop-rest-test.ensures in
    let some : 0 < length c.loop-rest.rest.now = grind (arith, nat_tests, test) in
    labels_none c.args.circuit.now c.loop-rest.list.items list c.loop-rest.rest.now c.args.words.now c.requires c.loop-rest.invariant.there all c.loop-rest.invariant.ends some c.in-None.ensures.only c.loop-rest.invariant.parts e

pub returns-clause-only : goal.returns-clause-only
returns-clause-only c = λ list few all e.
    let none : length c.loop-rest.rest.now ≡ 0 = eqb-true _ _ (sym c.loop-rest-test.ensures) in
    labels_all c.args.circuit.now c.loop-rest.list.items list c.loop-rest.rest.now c.args.words.now c.requires c.loop-rest.invariant.there all c.loop-rest.invariant.ends none c.loop-rest.invariant.parts e
