use Rattle.std.proofs.Common.{[], ◌∙◌, sym}
use Rattle.std.proofs.lemmas.Bool.{false≢true}
use Rattle.schedule_text.specs.Progress.{head_text}
use Rattle.schedule_text.proofs.BadLines.{bad_line, refused}
use Rattle.schedule_text.proofs.Codes.{one_pair}
use Rattle.schedule_text.proofs.Placing.{head_begins}
use Rattle.schedule_text.proofs.Follows.{no_room, nothing_begins, head_sticks, count_sticks}
use Rattle.schedule_text.proofs.reader.read.Goals as goal

pub returns-then-not-fits-clause-fault : goal.returns-then-not-fits-clause-fault
returns-then-not-fits-clause-fault c = no_room c.args.trap.now c.args.circuit.now c.args.bytes.now (λ fits. false≢true (sym c.if-not-fits.true ∙ c.fits.ensures.1 fits))

pub returns-in_default-clause-fault : goal.returns-in_default-clause-fault
returns-in_default-clause-fault c =
    let trap = c.args.trap.now in
    let circuit = c.args.circuit.now in
    bad_line trap circuit [] c.args.bytes.now (nothing_begins trap circuit (c.fits.ensures.0 c.if-not-fits.false)) (head_sticks trap circuit c.args.bytes.now (λ rest e. c.in_default.ensures.only rest e))

pub returns-in_default-read_count-clause-fault : goal.returns-in_default-read_count-clause-fault
returns-in_default-read_count-clause-fault c =
    let trap = c.args.trap.now in
    let circuit = c.args.circuit.now in
    let lists = c.in_ok-lists.lists.items in
    let read = c.in_ok-lists.ensures in
    refused trap circuit (head_text trap circuit lists) c.in_ok-lists.counted.now c.args.bytes.now c.bad_line.result read.found (head_begins trap circuit lists read.opens)
    (count_sticks trap circuit lists c.in_ok-lists.counted.now c.traps_and_circuits_are_sound.ensures.circuit read.opens read.all (λ count rest few e. c.in_default-read_count.ensures.only count rest few e))
    (c.bad_line.ensures (head_text trap circuit lists) read.found)

pub returns-clause-only : goal.returns-clause-only
returns-clause-only c = λ placement steps spells.
    one_pair c.args.trap.now c.args.circuit.now placement c.in_ok-placement.placement steps c.in_ok-schedule.schedule c.args.bytes.now c.traps_and_circuits_are_sound.ensures.trap c.traps_and_circuits_are_sound.ensures.circuit spells
    c.in_ok-schedule.ensures.found
