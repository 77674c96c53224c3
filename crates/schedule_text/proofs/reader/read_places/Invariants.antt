use Rattle.std.proofs.Common.{◌≡◌, ◌++◌, length}
use Rattle.schedule_text.specs.Progress.{Opens, head_text}
use Rattle.schedule_text.proofs.reader.read_places.Given as goal

abbrev pub invariant-loop-zone : goal.invariant-loop-zone
invariant-loop-zone l = record {
  parts : l.bytes ≡ head_text l.trap l.circuit l.lists.items ++ l.rest;
  opened : Opens l.trap l.circuit l.lists.items;
  len : length l.lists.items ≡ l.zone-index;
}
