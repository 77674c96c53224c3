use Rattle.std.proofs.Common.{◌∙◌, length, arith}
use Rattle.schedule_text.proofs.Opening.{not_apart, are_apart, room_left, small_room, small_order, apart_opens}
use Rattle.schedule_text.proofs.open.is_open.Goals as goal

pub returns-then-not-branch : goal.returns-then-not-branch
returns-then-not-branch c =
    not_apart c.args.trap.now c.args.circuit.now c.args.lists.now c.zones-zones.result.now c.in_ok-are_apart.field-0 c.zones-zones.ensures.zones c.in_ok-are_apart.ensures c.if-not-branch.true

pub room-left-requires : goal.room-left-requires
room-left-requires c =
    omega (arith, room_left c.args.trap.now c.args.lists.now c.zones-zones.result.now c.zones-zones.ensures.zones, small_room c.args.trap.now (length c.args.lists.now) c.requires.trap)

pub placed_count-requires : goal.placed_count-requires
placed_count-requires c =
    let apart = are_apart c.args.trap.now c.args.lists.now c.zones-zones.result.now c.in_ok-are_apart.field-0 c.zones-zones.ensures.zones c.in_ok-are_apart.ensures c.if-not-branch.false in
    omega (arith, small_order c.args.trap.now c.args.lists.now c.requires.trap apart)

pub overflow_add-result : goal.overflow_add-result
overflow_add-result c =
    let apart = are_apart c.args.trap.now c.args.lists.now c.zones-zones.result.now c.in_ok-are_apart.field-0 c.zones-zones.ensures.zones c.in_ok-are_apart.ensures c.if-not-branch.false in
    omega (
      arith,
      small_order c.args.trap.now c.args.lists.now c.requires.trap apart,
      c.placed_count.ensures,
      c.room-left.ensures,
      room_left c.args.trap.now c.args.lists.now c.zones-zones.result.now c.zones-zones.ensures.zones,
      small_room c.args.trap.now (length c.args.lists.now) c.requires.trap,
    )

pub returns : goal.returns
returns c =
    let apart = are_apart c.args.trap.now c.args.lists.now c.zones-zones.result.now c.in_ok-are_apart.field-0 c.zones-zones.ensures.zones c.in_ok-are_apart.ensures c.if-not-branch.false in
    apart_opens c.args.trap.now c.args.circuit.now c.args.lists.now c.qubits.result c.room-left.result c.placed_count.result c.requires.few c.requires.qubits apart c.qubits.ensures c.placed_count.ensures
    (c.room-left.ensures ∙ room_left c.args.trap.now c.args.lists.now c.zones-zones.result.now c.zones-zones.ensures.zones)
