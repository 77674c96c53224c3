use Rattle.std.proofs.Common.{◌∙◌}
use Rattle.std.proofs.lemmas.Result.{IfOk-weaker}
use Rattle.std.proofs.Common.{ap, map}
use Rattle.clause_families.specs.Clauses.{row_of}
use Rattle.clause_families.proofs.KeptLists.{ops_are}
use Rattle.clause_families.proofs.tables.ops.Goals as goal

pub returns : goal.returns
returns c = IfOk-weaker c.rows.result _ _ (λ list e. e ∙ ap (map row_of) c.ops.ensures ∙ ops_are c.args.setting.now c.args.vars.now c.requires) c.rows.ensures
