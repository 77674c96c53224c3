use Rattle.std.proofs.Common.{◌≡◌, ◌+◌, ◌<◌, ◌^◌, ◌++◌, length, drop}
use Rattle.step_rules.specs.Placement.{reading_order, place_of}
use Rattle.step_rules.proofs.placement.Placement.number_before.Given as goal

abbrev pub invariant-loop-list : goal.invariant-loop-list
invariant-loop-list l =
    let rest = reading_order (drop l.list-index l.list-items) in
    record {
      place : l.before + place_of l.qubit rest ≡ place_of l.qubit (reading_order l.fn.self);
      count : l.before + length rest ≡ length (reading_order l.fn.self);
      few : length (reading_order l.fn.self) < 2 ^ 32;
    }

abbrev pub invariant-loop-other : goal.invariant-loop-other
invariant-loop-other l =
    let rest = drop l.other-index l.other-items ++ reading_order (drop (l.list-index + 1) l.list-items) in
    record {
      place : l.before + place_of l.qubit rest ≡ place_of l.qubit (reading_order l.fn.self);
      count : l.before + length rest ≡ length (reading_order l.fn.self);
      few : length (reading_order l.fn.self) < 2 ^ 32;
    }
