use Rattle.std.proofs.Common.{◌≡◌, All, drop}
use Rattle.gate_names.specs.Causes.{each, after}
use Rattle.gate_expand.specs.Angles.{put_small, IsSmall}
use Rattle.gate_expand.proofs.angles.put_all.Given as goal

abbrev pub invariant-loop-term : goal.invariant-loop-term
invariant-loop-term l =
    record {
      same : after l.actual.items (each (put_small l.angles) (drop l.term-index l.terms)) ≡ each (put_small l.angles) l.terms;
      small : All IsSmall l.actual.items;
    }
