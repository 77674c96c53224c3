use Rattle.std.proofs.Common.{refl}
use Rattle.request_words.specs.declared.file.File.TheVariants as files
use Rattle.run_stages.specs.declared.inputs.Inputs.{Inputs}
use Rattle.run_stages.specs.Loading.{two_names}
use Rattle.run_stages.proofs.Reading.{both_ok, both_trap_err, both_circuit_err, counts_as, counts_after, no_fault}
use Rattle.run_stages.proofs.loading.load_inputs.Goals as goal

pub returns-in-Err-clause-loads : goal.returns-in-Err-clause-loads
returns-in-Err-clause-loads g c =
    both_circuit_err (g.S.Shelf.facts c.args.shelf.now) (g.S.Shelf.facts c.load_circuit.new.shelf) c.args.circuit.now c.args.trap.now c.in-Err.answer c.in-Err.ensures.loads

pub returns-in-Err-clause-counts : goal.returns-in-Err-clause-counts
returns-in-Err-clause-counts g c =
    counts_as (two_names c.args.circuit.now c.args.trap.now) files.Circuit c.args.circuit.now (g.S.Shelf.facts c.args.shelf.now) (g.S.Shelf.facts c.load_circuit.new.shelf) c.in-Err.answer refl c.in-Err.ensures.counts

pub returns-in-Ok-load_trap-clause-loads : goal.returns-in-Ok-load_trap-clause-loads
returns-in-Ok-load_trap-clause-loads g c =
    both_ok (g.S.Shelf.facts c.args.shelf.now) (g.S.Shelf.facts c.load_circuit.new.shelf) (g.S.Shelf.facts c.load_trap.new.shelf) c.args.circuit.now c.args.trap.now c.in-Ok.circuit c.in-Ok-load_trap.file c.inputs_of.result
    c.in-Ok.ensures.reads c.in-Ok-load_trap.ensures.reads c.in-Ok.ensures.loads c.in-Ok-load_trap.ensures.loads c.inputs_of.ensures

pub returns-in-Err-load_trap-clause-loads : goal.returns-in-Err-load_trap-clause-loads
returns-in-Err-load_trap-clause-loads g c =
    both_trap_err (g.S.Shelf.facts c.args.shelf.now) (g.S.Shelf.facts c.load_circuit.new.shelf) (g.S.Shelf.facts c.load_trap.new.shelf) c.args.circuit.now c.args.trap.now c.in-Ok.circuit c.in-Err-load_trap.answer
    c.in-Ok.ensures.reads c.in-Err-load_trap.ensures.reads c.in-Ok.ensures.loads c.in-Err-load_trap.ensures.loads

pub returns-in-Err-load_trap-clause-counts : goal.returns-in-Err-load_trap-clause-counts
returns-in-Err-load_trap-clause-counts g c =
    let names = two_names c.args.circuit.now c.args.trap.now in
    let same = c.in-Ok.ensures.counts.stays (λ file. no_fault c.in-Ok.circuit file) in
    counts_after {X = Inputs} {Y = Inputs} names (g.S.Shelf.facts c.args.shelf.now) (g.S.Shelf.facts c.load_circuit.new.shelf) (g.S.Shelf.facts c.load_trap.new.shelf) c.in-Err-load_trap.answer same
    (counts_as {Y = Inputs} names files.Trap c.args.trap.now (g.S.Shelf.facts c.load_circuit.new.shelf) (g.S.Shelf.facts c.load_trap.new.shelf) c.in-Err-load_trap.answer refl c.in-Err-load_trap.ensures.counts)
