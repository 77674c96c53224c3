use Rattle.std.proofs.Common.{ℕ, List, ◌++◌, ◌∷◌, sym, ap, ◌∙◌}
use Rattle.std.proofs.lemmas.Option.{none-some, same_Some}
use Rattle.trap_model.specs.Trap.{place_text}
use Rattle.trap_model.proofs.PlaceTexts.{named_is}
use Rattle.schedule_text.proofs.Names.{place_free, place_there}
use Rattle.schedule_text.proofs.words.place_until.Goals as goal

pub returns-in_err-word-clause-only : goal.returns-in_err-word-clause-only
returns-in_err-word-clause-only c = λ place rest h e.
    let trap = c.args.trap.now in
    absurd (c.in_err-word.ensures.only (place_text trap place) rest (place_free trap place c.args.sign c.requires.trap h c.requires.gap) e)

pub returns-in_err-place-clause-only : goal.returns-in_err-place-clause-only
returns-in_err-place-clause-only c = λ place rest h e.
    let trap = c.args.trap.now in
    let read = c.in_ok-word.ensures.only (place_text trap place) rest (place_free trap place c.args.sign c.requires.trap h c.requires.gap) e in
    absurd (none-some place (c.in_err-place.ensures ∙ named_is trap place c.in_ok-word.word.now c.requires.trap h (sym read.0)))

pub returns-clause-found : goal.returns-clause-found
returns-clause-found c =
    let there = place_there c.args.trap.now c.in_ok-word.word.now c.in_ok-place.place.0 (sym c.in_ok-place.ensures) in
    c.in_ok-word.ensures.found ∙ ap (λ (word : List ℕ). word ++ c.args.sign ∷ c.in_ok-word.rest.now) (sym there.1)

pub returns-clause-there : goal.returns-clause-there
returns-clause-there c = (place_there c.args.trap.now c.in_ok-word.word.now c.in_ok-place.place.0 (sym c.in_ok-place.ensures)).0

pub returns-clause-only : goal.returns-clause-only
returns-clause-only c = λ place rest h e.
    let trap = c.args.trap.now in
    let read = c.in_ok-word.ensures.only (place_text trap place) rest (place_free trap place c.args.sign c.requires.trap h c.requires.gap) e in
    (same_Some c.in_ok-place.place.0 place (c.in_ok-place.ensures ∙ named_is trap place c.in_ok-word.word.now c.requires.trap h (sym read.0)), read.1)
