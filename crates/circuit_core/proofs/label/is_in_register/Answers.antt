use Rattle.std.proofs.Common.{◌∙◌, Some, None}
use Rattle.std.proofs.lemmas.Bool.Decides.{Decides-eqb}
use Rattle.std.proofs.lemmas.Slice.Eq.{strip_prefix_is}
use Rattle.circuit_core.specs.Label.{index_text}
use Rattle.circuit_core.proofs.Labels.{front_same, front_other}
use Rattle.circuit_core.proofs.label.is_in_register.Goals as goal

pub returns-in-Some : goal.returns-in-Some
returns-in-Some c =
    let after = strip_prefix_is Decides-eqb c.args.text.now c.bytes.result.now (Some c.in-Some.rest) c.in-Some.ensures.cases in
    rw (← c.bytes.ensures) (c.is_index.ensures ∙ front_same c.bytes.result.now (index_text c.args.index) c.args.text.now c.in-Some.rest.now after)

pub returns-in-None : goal.returns-in-None
returns-in-None c =
    rw (← c.bytes.ensures) (front_other c.bytes.result.now (index_text c.args.index) c.args.text.now (strip_prefix_is Decides-eqb c.args.text.now c.bytes.result.now None c.in-None.ensures.cases))
