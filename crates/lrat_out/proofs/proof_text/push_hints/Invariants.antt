use Rattle.std.proofs.Common.{◌≡◌, ◌++◌, length, map}
use Rattle.std.specs.Prelude.{All, reverse}
use Rattle.sat_base.specs.Certificate.{hints_text}
use Rattle.derivation_log.specs.Log.{IsLine}
use Rattle.lrat_out.specs.Export.{thin, hint_of}
use Rattle.lrat_out.specs.Proof.{NumbersFit}
use Rattle.lrat_out.proofs.proof_text.push_hints.Given as goal

abbrev pub invariant-loop-hint : goal.invariant-loop-hint
invariant-loop-hint l = record {
  text : l.out.items ++ hints_text (thin l.trues (reverse (map (hint_of l.log) l.left))) ≡ l.fn.out.items ++ hints_text (thin l.fn.trues (reverse (map (hint_of l.log) l.hints)));
  named : All (IsLine l.log) l.left;
  fit : NumbersFit l.log l.left;
}

abbrev pub decreases-loop-hint : goal.decreases-loop-hint
decreases-loop-hint l = length l.left
