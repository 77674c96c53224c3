use Rattle.std.proofs.Common.{◌≡◌, ◌+◌, ◌≤◌, drop}
use Rattle.step_facts.specs.ToSchedule.{passing_count as count_of}
use Rattle.extract.specs.Reading.{facts_in}
use Rattle.extract.proofs.reader.Reader.passing_count.Given as goal

abbrev pub invariant-loop-ion : goal.invariant-loop-ion
invariant-loop-ion l = record {
  whole : l.count + count_of (facts_in l.self) l.channel l.self.step (drop l.ion-index l.ions)
      ≡ count_of (facts_in l.self) l.channel l.self.step l.ions;
  few : l.count ≤ l.ion-index;
}
