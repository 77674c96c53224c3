use Rattle.std.proofs.Common.{◌∙◌}
use Rattle.schedule_text.specs.Text.{labels_text}
use Rattle.schedule_text.proofs.WordEnds.{labels_free}
use Rattle.schedule_text.proofs.place_line.read_place_line.Goals as goal

pub returns-in_default-clause-only : goal.returns-in_default-clause-only
returns-in_default-clause-only c = λ list rest few all e.
    absurd (c.in_default.ensures.only (labels_text c.args.circuit.now list) rest (labels_free c.args.circuit.now list c.requires.circuit all) e)

pub returns-in-Some-2-clause-only : goal.returns-in-Some-2-clause-only
returns-in-Some-2-clause-only c = λ list rest few all e.
    let read = c.in-Some.ensures.only (labels_text c.args.circuit.now list) rest (labels_free c.args.circuit.now list c.requires.circuit all) e in
    (c.from_vec.ensures ∙ rw c.in-Some-2.is at (c.in_ok-list.ensures.only list few all read.0), read.1)

pub returns-in-None-clause-only : goal.returns-in-None-clause-only
returns-in-None-clause-only c = λ list rest few all e.
    let read = c.in-Some.ensures.only (labels_text c.args.circuit.now list) rest (labels_free c.args.circuit.now list c.requires.circuit all) e in
    absurd (rw c.in-None.is at (c.in_ok-list.ensures.only list few all read.0))
