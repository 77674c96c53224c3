use Rattle.request_words.specs.declared.file.File.TheVariants as files
use Rattle.run_stages.specs.Prepare.{CircuitIn}
use Rattle.run_stages.proofs.Reading.{loads_err}
use Rattle.run_stages.proofs.loading.load_circuit.Goals as goal

pub returns-in-Err-clause-loads : goal.returns-in-Err-clause-loads
returns-in-Err-clause-loads g c =
    loads_err (g.S.Shelf.facts c.args.shelf.now) (g.S.Shelf.facts c.load.new.shelf) c.args.name.now files.Circuit CircuitIn c.in-Err.answer c.in-Err.ensures.loads
