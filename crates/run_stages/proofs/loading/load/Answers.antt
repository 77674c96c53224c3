use Rattle.std.proofs.Common.{Err, ap}
use Rattle.qc_base.specs.declared.shelf.ReadFault.{ReadFault}
use Rattle.run_stages.proofs.Reading.{loads_whole, loads_long, loads_none, counts_failed}
use Rattle.run_stages.proofs.loading.load.Goals as goal

pub returns-in-Ok-clause-loads : goal.returns-in-Ok-clause-loads
returns-in-Ok-clause-loads g c =
    loads_whole _ (g.S.Shelf.facts c.read_whole.new.shelf) c.args.name.now c.args.file c.limit_of.result c.in-Ok.bytes.items c.from_vec.result c.limit_of.ensures c.from_vec.ensures c.in-Ok.ensures.whole c.in-Ok.ensures.within

pub returns-in-Err-Failed-clause-counts : goal.returns-in-Err-Failed-clause-counts
returns-in-Err-Failed-clause-counts g c =
    counts_failed c.args.file c.args.name.now (g.S.Shelf.facts c.args.shelf.now) (g.S.Shelf.facts c.read_whole.new.shelf)
    (c.in-Err-Failed.ensures.failed (ap (λ (fault : ReadFault). Err fault) c.in-Err-Failed.field-0-is))

pub returns-in-Err-Long-clause-loads : goal.returns-in-Err-Long-clause-loads
returns-in-Err-Long-clause-loads g c =
    loads_long (g.S.Shelf.facts c.args.shelf.now) (g.S.Shelf.facts c.read_whole.new.shelf) c.args.name.now c.args.file c.limit_of.result c.limit_of.ensures
    (c.in-Err-Long.ensures.long (ap (λ (fault : ReadFault). Err fault) c.in-Err-Long.field-0-is))

pub returns-in-Err-NoMemory-clause-loads : goal.returns-in-Err-NoMemory-clause-loads
returns-in-Err-NoMemory-clause-loads g c = loads_none (g.S.Shelf.facts c.args.shelf.now) (g.S.Shelf.facts c.read_whole.new.shelf) c.args.name.now _
