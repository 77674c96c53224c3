use Rattle.std.proofs.Common.{◌≡◌, ◌+◌, ◌<◌, ◌^◌, ◌++◌, length, map, drop}
use Rattle.ion_chain.specs.ChainValue.{ions_of, room_of}
use Rattle.step_rules.specs.Placement.{reading_order, places_from}
use Rattle.step_rules.specs.Config.{HaveRoom}
use Rattle.step_rules.proofs.config.zone_chains.Given as goal

-- what was made and what is still to be made are the whole
abbrev pub invariant-loop-zone : goal.invariant-loop-zone
invariant-loop-zone l = record {
  made : map ions_of l.chains.items ++ places_from l.first (drop l.zone l.list-items) ≡ places_from 0 l.placement;
  count : l.first + length (reading_order (drop l.zone l.list-items)) ≡ length (reading_order l.placement);
  few : length (reading_order l.placement) < 2 ^ 32;
  len : length l.chains.items ≡ l.zone;
  room : HaveRoom l.trap (map room_of l.chains.items);
}
