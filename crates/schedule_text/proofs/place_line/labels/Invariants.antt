use Rattle.std.proofs.Common.{◌≡◌, ◌<◌, ◌++◌, length}
use Rattle.std.specs.Prelude.{All}
use Rattle.circuit_core.specs.Circuit.{qubit_count}
use Rattle.schedule_text.specs.Text.{labels_text}
use Rattle.schedule_text.specs.Words.{EndsWord}
use Rattle.schedule_text.proofs.place_line.labels.Given as goal

abbrev pub invariant-loop-rest : goal.invariant-loop-rest
invariant-loop-rest l = record {
  parts : l.words ≡ labels_text l.circuit l.list.items ++ l.rest;
  there : All (λ qubit. qubit.0 < qubit_count l.circuit) l.list.items;
  ends : 0 < length l.list.items → EndsWord 32 l.rest;
}

abbrev pub decreases-loop-rest : goal.decreases-loop-rest
decreases-loop-rest l = length l.rest
