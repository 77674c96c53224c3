use Rattle.std.proofs.Common.{◌≡◌, ◌+◌, List, ◌++◌, length, reverse}
use Rattle.qc_base.specs.declared.ids.Ion.{Ion}
use Rattle.ion_chain.specs.Passing.{outward}
use Rattle.ion_chain.proofs.chain.Chain.pass.Given as goal

-- what has passed, read outward, and how the lengths and the spare room stand
abbrev pub invariant-loop-turn : goal.invariant-loop-turn
invariant-loop-turn l =
    (passed : List Ion) × (record {
      gone : outward l.end l.initial.self.ions ≡ outward l.end l.self.ions ++ passed;
      come : outward l.into l.other.ions ≡ outward l.into l.initial.other.ions ++ reverse passed;
      count : length passed ≡ l._turn;
      len : length l.self.ions + l._turn ≡ length l.initial.self.ions;
      spare : l.self.spare ≡ l.initial.self.spare + l._turn;
      other_len : length l.other.ions ≡ length l.initial.other.ions + l._turn;
      other_spare : l.other.spare + l._turn ≡ l.initial.other.spare;
    })
