use Rattle.std.proofs.Common.{Option, subst, sym}
use Rattle.request_words.specs.declared.request.Exact.{Exact}
use Rattle.request_words.specs.declared.request.Request.{Request}
use Rattle.request_words.specs.declared.request.Request.TheVariants as requests
use Rattle.request_words.specs.Request.{file_of}
use Rattle.request_words.specs.Seen.{asked_of}
use Rattle.run_stages.specs.Prepare.{Comes}
use Rattle.run_stages.specs.declared.ending.Ending.{Ending}
use Rattle.run_stages.specs.Loading.{CountsAll}
use Rattle.program_run.specs.Preparing.{Prepared, answer_in}
use Rattle.program_run.proofs.Prepared.{load_prepared}
use Rattle.program_run.proofs.command.prepare_request.Goals as goal

pub returns-in-Some-clause-prepared : goal.returns-in-Some-clause-prepared
returns-in-Some-clause-prepared g c =
    let old = g.S.Shelf.facts c.args.shelf.now in
    let new = g.S.Shelf.facts c.fewest.new.shelf in
    subst (λ (r : Request). Prepared (file_of (asked_of r)) (λ found. Comes found (asked_of r)) old new c.fewest.result) (sym c.in-Compile.is)
    (subst (λ (e : Option Exact). Prepared (file_of (asked_of (requests.Compile c.in-Compile.circuit c.in-Compile.trap c.in-Compile.rule e)))
    (λ found. Comes found (asked_of (requests.Compile c.in-Compile.circuit c.in-Compile.trap c.in-Compile.rule e))) old new c.fewest.result) (sym c.in-Some.is)
    c.fewest.ensures.prepared)

pub returns-in-Check-clause-prepared : goal.returns-in-Check-clause-prepared
returns-in-Check-clause-prepared g c =
    subst (λ (r : Request). Prepared (file_of (asked_of r)) (λ found. Comes found (asked_of r)) (g.S.Shelf.facts c.args.shelf.now) (g.S.Shelf.facts c.checked.new.shelf) c.checked.result) (sym c.in-Check.is) c.checked.ensures.prepared

pub returns-in-Verify-clause-prepared : goal.returns-in-Verify-clause-prepared
returns-in-Verify-clause-prepared g c =
    subst (λ (r : Request). Prepared (file_of (asked_of r)) (λ found. Comes found (asked_of r)) (g.S.Shelf.facts c.args.shelf.now) (g.S.Shelf.facts c.verified.new.shelf) c.verified.result) (sym c.in-Verify.is) c.verified.ensures.prepared

pub returns-in-Verify-clause-counts : goal.returns-in-Verify-clause-counts
returns-in-Verify-clause-counts g c =
    subst (λ (r : Request). CountsAll {X = Ending} (file_of (asked_of r)) (g.S.Shelf.facts c.args.shelf.now) (g.S.Shelf.facts c.verified.new.shelf) (answer_in c.verified.result)) (sym c.in-Verify.is) c.verified.ensures.counts

pub returns-in-Report-clause-prepared : goal.returns-in-Report-clause-prepared
returns-in-Report-clause-prepared g c =
    subst (λ (r : Request). Prepared (file_of (asked_of r)) (λ found. Comes found (asked_of r)) (g.S.Shelf.facts c.args.shelf.now) (g.S.Shelf.facts c.checked-in-Report.new.shelf) c.checked-in-Report.result) (sym c.in-Report.is)
    c.checked-in-Report.ensures.prepared

pub returns-in-Load-clause-prepared : goal.returns-in-Load-clause-prepared
returns-in-Load-clause-prepared g c =
    let facts = g.S.Shelf.facts c.args.shelf.now in
    subst (λ (r : Request). Prepared (file_of (asked_of r)) (λ found. Comes found (asked_of r)) facts facts c.load_of.result) (sym c.in-Load.is)
    (load_prepared facts facts c.in-Load.seed c.in-Load.schedule.now c.load_of.result c.load_of.ensures.loaded c.load_of.ensures.memory)

pub returns-in-Check-clause-counts : goal.returns-in-Check-clause-counts
returns-in-Check-clause-counts g c =
    subst (λ (r : Request). CountsAll {X = Ending} (file_of (asked_of r)) (g.S.Shelf.facts c.args.shelf.now) (g.S.Shelf.facts c.checked.new.shelf) (answer_in c.checked.result)) (sym c.in-Check.is) c.checked.ensures.counts

pub returns-in-Report-clause-counts : goal.returns-in-Report-clause-counts
returns-in-Report-clause-counts g c =
    subst (λ (r : Request). CountsAll {X = Ending} (file_of (asked_of r)) (g.S.Shelf.facts c.args.shelf.now) (g.S.Shelf.facts c.checked-in-Report.new.shelf) (answer_in c.checked-in-Report.result)) (sym c.in-Report.is)
    c.checked-in-Report.ensures.counts
