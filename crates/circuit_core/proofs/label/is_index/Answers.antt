use Rattle.std.proofs.Common.{◌∙◌, Some, None}
use Rattle.std.specs.Prelude.{codes}
use Rattle.std.proofs.lemmas.Bool.Decides.{Decides-eqb}
use Rattle.std.proofs.lemmas.Slice.Eq.{strip_prefix_is}
use Rattle.circuit_core.proofs.Labels.{index_same, index_other}
use Rattle.circuit_core.proofs.label.is_index.Goals as goal

pub returns-in-Some-strip_prefix : goal.returns-in-Some-strip_prefix
returns-in-Some-strip_prefix c =
    let digits = c.as_bytes.result.now in
    let rest = c.in-Some.rest.now in
    let bracket = strip_prefix_is Decides-eqb c.args.text.now (codes "[") (Some c.in-Some.rest) c.in-Some.ensures.cases in
    let read = strip_prefix_is Decides-eqb rest digits (Some c.in-Some-strip_prefix.rest) c.in-Some-strip_prefix.ensures.cases in
    index_same c.args.text.now rest digits c.in-Some-strip_prefix.rest.now c.args.index c.eq.result bracket (c.as_bytes.ensures.value ∙ c.format.ensures.text) read cc

pub returns-in-None : goal.returns-in-None
returns-in-None c =
    let digits = c.as_bytes.result.now in
    let rest = c.in-Some.rest.now in
    let bracket = strip_prefix_is Decides-eqb c.args.text.now (codes "[") (Some c.in-Some.rest) c.in-Some.ensures.cases in
    let none = strip_prefix_is Decides-eqb rest digits None c.in-None.ensures.cases in
    index_other c.args.text.now rest digits c.args.index bracket (c.as_bytes.ensures.value ∙ c.format.ensures.text) none
