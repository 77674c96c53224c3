use Rattle.std.proofs.Common.{ℕ, List, subst, sym}
use Rattle.verify_core.specs.Reading.{BeginsContent, IsEnough}
use Rattle.verify_core.proofs.Whole.{judged_of_shelf, read_handed, begins_after, enough_after, judged_before, read_on}
use Rattle.verify_core.proofs.certificate.check_certificate.Goals as goal

pub returns-in_err-front-clause-judged : goal.returns-in_err-front-clause-judged
returns-in_err-front-clause-judged g c =
    judged_of_shelf (g.S.Shelf.facts c.args.shelf.now) c.args.name.now c.args.minimum.now.setting c.args.minimum.now.steps c.from_residual-in_err-front.result c.in_err-front.field-0.0
    c.from_residual-in_err-front.ensures.1 c.in_err-front.ensures.fault

pub returns-in_err-front-clause-read : goal.returns-in_err-front-clause-read
returns-in_err-front-clause-read g c =
    read_handed c.from_residual-in_err-front.result c.in_err-front.field-0.0 (g.S.Shelf.facts c.args.shelf.now) (g.S.Shelf.facts c.read_front.new.shelf)
    c.from_residual-in_err-front.ensures.1 c.in_err-front.ensures.read

pub check_from-requires-clause-content : goal.check_from-requires-clause-content
check_from-requires-clause-content g c =
    let old = g.S.Shelf.facts c.args.shelf.now in
    let now = g.S.Shelf.facts c.read_front.new.shelf in
    subst (λ (xs : List ℕ). BeginsContent now c.args.name.now xs) (sym c.deref.ensures.value)
    (begins_after old now c.args.name.now c.in_ok-front.front.items c.in_ok-front.ensures.read.reads c.in_ok-front.ensures.begins)

pub check_from-requires-clause-enough : goal.check_from-requires-clause-enough
check_from-requires-clause-enough g c =
    let old = g.S.Shelf.facts c.args.shelf.now in
    let now = g.S.Shelf.facts c.read_front.new.shelf in
    subst (λ (xs : List ℕ). IsEnough now c.args.name.now 256 xs) (sym c.deref.ensures.value)
    (enough_after old now c.args.name.now 256 c.in_ok-front.front.items c.in_ok-front.ensures.read.reads c.in_ok-front.ensures.enough)

pub returns-clause-judged : goal.returns-clause-judged
returns-clause-judged g c =
    let old = g.S.Shelf.facts c.args.shelf.now in
    let now = g.S.Shelf.facts c.read_front.new.shelf in
    judged_before old now c.args.name.now c.args.minimum.now.setting c.args.minimum.now.steps c.check_from.result c.in_ok-front.ensures.read.reads c.check_from.ensures.judged

pub returns-clause-read : goal.returns-clause-read
returns-clause-read g c =
    let old = g.S.Shelf.facts c.args.shelf.now in
    let now = g.S.Shelf.facts c.read_front.new.shelf in
    let read = c.in_ok-front.ensures.read in
    read_on c.check_from.result old now (g.S.Shelf.facts c.check_from.new.shelf) read.reads read.stays c.check_from.ensures.read
