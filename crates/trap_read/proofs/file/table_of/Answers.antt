use Rattle.std.proofs.Common.{sym, ◌∙◌, ap, ok_or}
use Rattle.std.proofs.lemmas.Bool.{false≢true}
use Rattle.trap_read.specs.declared.fault.TrapText.TheVariants.{Toml}
use Rattle.trap_read.proofs.Tables.{table_of-text, table_of-none}
use Rattle.trap_read.proofs.file.table_of.Goals as goal

pub returns-in-Ok : goal.returns-in-Ok
returns-in-Ok c = ap (λ o. ok_or o Toml) (table_of-text _ _ c.in-Ok.ensures.ok.0 c.in-Ok.ensures.ok.1)

pub returns-else-is_memory : goal.returns-else-is_memory
returns-else-is_memory c =
    ap (λ o. ok_or o Toml) (table_of-none _ (c.in-Err.ensures.refused (λ m. false≢true (sym c.if-is_memory.false ∙ c.is_memory.ensures.1 m))))
