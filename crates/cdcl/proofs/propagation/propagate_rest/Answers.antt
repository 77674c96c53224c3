use Rattle.std.proofs.Common.{◌<◌, List, length, slice_get, sym, ap, ◌∙◌, subst}
use Rattle.sat_base.specs.Literal.{Literal, negated}
use Rattle.solver_trail.specs.declared.values.Assigned.{Assigned}
use Rattle.solver_trail.specs.Trail.{literals_of}
use Rattle.cdcl.specs.Watching.{kept_of, AllHold}
use Rattle.cdcl.proofs.Propagating.{Propagates-trans, named_after}
use Rattle.cdcl.proofs.Guards.{entry_at, entry_true, still_at, watched_one_more}
use Rattle.cdcl.proofs.propagation.propagate_rest.Goals as goal

pub walk-requires-clause-named : goal.walk-requires-clause-named
walk-requires-clause-named c = named_after c.args.log.now c.args.values.now c.loop-watching.values c.loop-watching.invariant.propagates c.requires.named

pub walk-requires-clause-falsified : goal.walk-requires-clause-falsified
walk-requires-clause-falsified c =
    let entries = c.loop-watching.values.entries in
    let place = c.loop-watching.watching.done in
    let entry = c.index-entries-watching.result in
    let within = subst (λ (xs : List Assigned). place < length xs) c.entries.ensures.entries c.loop-watching-test.true in
    let at = entry_at entries c.entries-in-loop-watching.result.now place entry c.entries-in-loop-watching.ensures.entries within c.index-entries-watching.is in
    entry_true entries place entry c.negated.result at (c.negated.ensures ∙ ap (λ (e : Assigned). negated e.literal) (sym c.index-entries-watching.is))

pub returns-in-Some-clause-propagates : goal.returns-in-Some-clause-propagates
returns-in-Some-clause-propagates c = Propagates-trans c.args.log.now c.args.values.now c.loop-watching.values c.walk.new.values c.loop-watching.invariant.propagates c.walk.ensures.propagates

pub loop-watching-preserved : goal.loop-watching-preserved
loop-watching-preserved c =
    let inv = c.loop-watching.invariant in
    let entries = c.loop-watching.values.entries in
    let place = c.loop-watching.watching.done in
    let entry = c.index-entries-watching.result in
    let within = subst (λ (xs : List Assigned). place < length xs) c.entries.ensures.entries c.loop-watching-test.true in
    let at = entry_at entries c.entries-in-loop-watching.result.now place entry c.entries-in-loop-watching.ensures.entries within c.index-entries-watching.is in
    let now = c.walk.new.values in
    let there = ap (slice_get now.entries) c.walk.ensures.rest.done ∙ still_at c.args.log.now c.loop-watching.values now place entry c.walk.ensures.propagates at in
    let hold = subst (λ (l : Literal). AllHold (kept_of c.walk.new.watching) l (literals_of now.entries)) (c.negated.ensures ∙ ap (λ (e : Assigned). negated e.literal) (sym c.index-entries-watching.is)) c.in_default.ensures.hold in
    record {
      propagates = Propagates-trans c.args.log.now c.args.values.now c.loop-watching.values now inv.propagates c.walk.ensures.propagates;
      watched = watched_one_more c.args.log.now now (kept_of c.walk.new.watching) entry there hold c.walk.ensures.watched;
      short = c.walk.ensures.rest.short ∙ inv.short;
    }
