use Rattle.std.proofs.Common.{refl, sym, ◌∙◌}
use Rattle.std.proofs.lemmas.Option.{slice_get_read}
use Rattle.circuit_core.specs.Angle.{text_of}
use Rattle.circuit_core.proofs.Commas.{next_text, none_left}
use Rattle.circuit_core.proofs.op_text.push_angles.Goals as goal

pub loop-index-preserved : goal.loop-index-preserved
loop-index-preserved c =
    let item = c.index-angles-index in
    let at = slice_get_read c.args.angles.now _ c.loop-index.index item.result refl c.loop-index-test.true item.is in
    rw (c.in_ok-print.ensures.ok, c.in_ok-push_comma.ensures) (next_text text_of c.args.angles.now c.loop-index.index item.result c.loop-index.out.items _ at c.loop-index.invariant)

pub returns : goal.returns
returns c = sym (none_left text_of c.args.angles.now c.loop-index.index c.loop-index.out.items c.loop-index-test.false) ∙ c.loop-index.invariant
