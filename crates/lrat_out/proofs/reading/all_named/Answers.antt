use Rattle.std.proofs.Common.{refl, subst}
use Rattle.std.specs.Prelude.{All}
use Rattle.std.proofs.lemmas.List.{take_all}
use Rattle.lrat_out.specs.Lines.{IsNumber}
use Rattle.lrat_out.proofs.Judging.{All-more}
use Rattle.lrat_out.proofs.reading.all_named.Goals as goal

pub loop-hint-preserved : goal.loop-hint-preserved
loop-hint-preserved c =
    All-more (IsNumber c.args.proof.now) c.args.hints.now c.loop-hint.hint-index 0 _ c.loop-hint-test.true refl c.loop-hint.invariant c.in-Some.ensures.found

pub returns : goal.returns
returns c = (
  λ h. subst (All (IsNumber c.args.proof.now)) (take_all c.loop-hint.hint-index c.args.hints.now c.loop-hint-test.false) c.loop-hint.invariant,
  λ all. refl,
)
