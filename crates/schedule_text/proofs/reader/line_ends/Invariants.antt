use Rattle.std.proofs.Common.{◌≡◌, ◌+◌, ◌≤◌, drop}
use Rattle.schedule_text.specs.Reading.{whole_lines}
use Rattle.schedule_text.proofs.reader.line_ends.Given as goal

-- so far, and the rest
abbrev pub invariant-loop-byte : goal.invariant-loop-byte
invariant-loop-byte l = record {
  so_far : l.lines + whole_lines (drop l.byte-index l.bytes) ≡ whole_lines l.bytes;
  few : l.lines ≤ l.byte-index;
}
