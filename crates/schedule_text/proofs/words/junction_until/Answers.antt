use Rattle.std.proofs.Common.{ℕ, List, ◌++◌, ◌∷◌, sym, ap, ◌∙◌}
use Rattle.std.proofs.lemmas.Option.{none-some, same_Some}
use Rattle.schedule_text.proofs.Names.{junction_text, junction_free, junction_there, junction_is}
use Rattle.schedule_text.proofs.words.junction_until.Goals as goal

pub returns-in_err-word-clause-only : goal.returns-in_err-word-clause-only
returns-in_err-word-clause-only c = λ junction rest h e.
    let trap = c.args.trap.now in
    absurd (c.in_err-word.ensures.only (junction_text trap junction) rest (junction_free trap junction c.args.sign c.requires.trap h c.requires.gap) e)

pub returns-in_err-junction-clause-only : goal.returns-in_err-junction-clause-only
returns-in_err-junction-clause-only c = λ junction rest h e.
    let trap = c.args.trap.now in
    let read = c.in_ok-word.ensures.only (junction_text trap junction) rest (junction_free trap junction c.args.sign c.requires.trap h c.requires.gap) e in
    absurd (none-some junction (c.in_err-junction.ensures ∙ junction_is trap c.in_ok-word.word.now junction c.requires.trap h (sym read.0)))

pub returns-clause-found : goal.returns-clause-found
returns-clause-found c =
    let there = junction_there c.args.trap.now c.in_ok-word.word.now c.in_ok-junction.junction.0 (sym c.in_ok-junction.ensures) in
    c.in_ok-word.ensures.found ∙ ap (λ (word : List ℕ). word ++ c.args.sign ∷ c.in_ok-word.rest.now) (sym there.1)

pub returns-clause-there : goal.returns-clause-there
returns-clause-there c = (junction_there c.args.trap.now c.in_ok-word.word.now c.in_ok-junction.junction.0 (sym c.in_ok-junction.ensures)).0

pub returns-clause-only : goal.returns-clause-only
returns-clause-only c = λ junction rest h e.
    let trap = c.args.trap.now in
    let read = c.in_ok-word.ensures.only (junction_text trap junction) rest (junction_free trap junction c.args.sign c.requires.trap h c.requires.gap) e in
    (same_Some c.in_ok-junction.junction.0 junction (c.in_ok-junction.ensures ∙ junction_is trap c.in_ok-word.word.now junction c.requires.trap h (sym read.0)), read.1)
