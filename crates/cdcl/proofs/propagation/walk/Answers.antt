use Rattle.std.proofs.Common.{◌<◌, Some, refl, sym, ap, ◌∙◌, subst, arith}
use Rattle.std.proofs.lemmas.Option.{slice_get_within}
use Rattle.sat_base.specs.Literal.{negated}
use Rattle.watch_lists.specs.Watched.{IsAdded, list_of}
use Rattle.solver_trail.specs.Trail.{literals_of}
use Rattle.cdcl.specs.Linked.{Linked}
use Rattle.cdcl.specs.Watching.{kept_of}
use Rattle.cdcl.proofs.Propagating.{Propagates-none, Propagates-trans, named_after}
use Rattle.cdcl.proofs.Guards.{still_true}
use Rattle.cdcl.proofs.Stepping.{Walked, left, has_list, walked_start, walked_split, walked_follows, walked_kept, walked_moved, walked_end, fewer_kept, fewer_moved}
use Rattle.cdcl.proofs.propagation.walk.Goals as goal

pub first-next-requires : goal.first-next-requires
first-next-requires c = has_list c.args.log.now c.args.values.now (kept_of c.args.watching.now) c.args.falsified c.requires.watched c.entries-order.ensures.named c.requires.falsified

pub loop-next-init : goal.loop-next-init
loop-next-init c = record {
  propagates = Propagates-none c.args.log.now c.args.values.now;
  watched = c.requires.watched;
  rest = record { short = refl; lines = refl; done = refl };
  added = has_list c.args.log.now c.args.values.now (kept_of c.args.watching.now) c.args.falsified c.requires.watched c.entries-order.ensures.named c.requires.falsified;
  walked = walked_start (kept_of c.args.watching.now) c.args.watching.now.linked.watched (literals_of c.args.values.now.entries) c.args.falsified c.first-next.result c.tied.ensures.tied c.tied.ensures.once c.first-next.ensures;
}

pub next-next-requires : goal.next-next-requires
next-next-requires c =
    let inv = c.loop-next.invariant in
    let watching = c.loop-next.watching in
    let list = list_of watching.linked.watched c.args.falsified in
    let split = walked_split (kept_of watching) list (literals_of c.loop-next.values.entries) c.args.falsified c.loop-next.before c.loop-next.next c.in-Some.link inv.walked c.in-Some.is in
    slice_get_within watching.linked.literals c.in-Some.link c.args.falsified (c.tied-in-Some.ensures.tied.own c.in-Some.link c.args.falsified split.0 split.1.0 (inv.added, split.1.1))

pub step-requires-clause-named : goal.step-requires-clause-named
step-requires-clause-named c = named_after c.args.log.now c.args.values.now c.loop-next.values c.loop-next.invariant.propagates c.requires.named

pub step-requires-clause-falsified : goal.step-requires-clause-falsified
step-requires-clause-falsified c = still_true c.args.log.now c.args.values.now c.loop-next.values (negated c.args.falsified) c.loop-next.invariant.propagates c.requires.falsified

pub step-requires-clause-follows : goal.step-requires-clause-follows
step-requires-clause-follows c =
    let watching = c.loop-next.watching in
    walked_follows (kept_of watching) (list_of watching.linked.watched c.args.falsified) (literals_of c.loop-next.values.entries) c.args.falsified c.loop-next.before c.loop-next.next c.in-Some.link c.loop-next.invariant.walked c.in-Some.is

pub loop-next-smaller-in-Kept : goal.loop-next-smaller-in-Kept
loop-next-smaller-in-Kept c =
    let inv = c.loop-next.invariant in
    let watching = c.loop-next.watching in
    let link = c.in-Some.link in
    let same = c.in-Kept.ensures.comes.same in
    let fewer = fewer_kept watching.linked.watched (kept_of watching) (literals_of c.loop-next.values.entries) c.args.falsified c.loop-next.before c.loop-next.next c.next-next.result link c.tied-in-Some.ensures.once inv.added inv.walked c.in-Some.is
    (λ front back is. c.next-next.ensures c.args.falsified front back (inv.added, is)) in
    subst (λ (l : Linked). left (list_of l.watched c.args.falsified) c.next-next.result < left (list_of watching.linked.watched c.args.falsified) c.loop-next.next) (sym same) fewer

pub loop-next-preserved-in-Kept : goal.loop-next-preserved-in-Kept
loop-next-preserved-in-Kept c =
    let inv = c.loop-next.invariant in
    let watching = c.loop-next.watching in
    let now = c.step.new.watching in
    let falsified = c.args.falsified in
    let link = c.in-Some.link in
    let ensures = c.step.ensures in
    let comes = c.in-Kept.ensures.comes in
    let same = comes.same in
    let list = list_of watching.linked.watched falsified in
    let walked = walked_kept (kept_of watching) (kept_of now) list (literals_of c.loop-next.values.entries) (literals_of c.step.new.values.entries) falsified c.loop-next.before c.loop-next.next c.next-next.result link
    (ap (λ v. v.items) ensures.rest.lines, ap (λ (l : Linked). l.literals) same) c.in-Some.is (λ front back is. c.next-next.ensures falsified front back (inv.added, is))
    (λ l has. still_true c.args.log.now c.loop-next.values c.step.new.values l ensures.propagates has) comes.holds inv.walked in
    record {
      propagates = Propagates-trans c.args.log.now c.args.values.now c.loop-next.values c.step.new.values inv.propagates ensures.propagates;
      watched = ensures.watched;
      rest = record { short = ensures.rest.short ∙ inv.rest.short; lines = ensures.rest.lines ∙ inv.rest.lines; done = ensures.rest.done ∙ inv.rest.done };
      added = subst (λ (l : Linked). IsAdded l.watched falsified) (sym same) inv.added;
      walked = subst (λ (l : Linked). Walked (kept_of now) (list_of l.watched falsified) (literals_of c.step.new.values.entries) falsified (Some link) c.next-next.result) (sym same) walked;
    }

pub loop-next-smaller : goal.loop-next-smaller
loop-next-smaller c =
    let inv = c.loop-next.invariant in
    let watching = c.loop-next.watching in
    let comes = c.in-Moved.ensures.comes in
    fewer_moved watching.linked.watched (kept_of watching) (list_of c.step.new.watching.linked.watched c.args.falsified) (literals_of c.loop-next.values.entries) c.args.falsified c.loop-next.before c.loop-next.next c.next-next.result c.in-Some.link c.tied-in-Some.ensures.once inv.added inv.walked c.in-Some.is
    (λ front back is. c.next-next.ensures c.args.falsified front back (inv.added, is)) comes.list

pub loop-next-preserved : goal.loop-next-preserved
loop-next-preserved c =
    let inv = c.loop-next.invariant in
    let watching = c.loop-next.watching in
    let now = c.step.new.watching in
    let falsified = c.args.falsified in
    let link = c.in-Some.link in
    let ensures = c.step.ensures in
    let comes = c.in-Moved.ensures.comes in
    let list = list_of watching.linked.watched falsified in
    let split = walked_split (kept_of watching) list (literals_of c.loop-next.values.entries) falsified c.loop-next.before c.loop-next.next link inv.walked c.in-Some.is in
    let own = c.tied-in-Some.ensures.tied.own link falsified split.0 split.1.0 (inv.added, split.1.1) in
    let walked = walked_moved c.args.log.now (kept_of watching) (kept_of now) list (list_of now.linked.watched falsified) (literals_of c.loop-next.values.entries) (literals_of c.step.new.values.entries) falsified comes.to c.loop-next.before c.loop-next.next c.next-next.result link
    inv.watched.stored own comes.different (ap (λ v. v.items) ensures.rest.lines, comes.literals) c.in-Some.is (λ front back is. c.next-next.ensures falsified front back (inv.added, is)) comes.list
    (λ l has. still_true c.args.log.now c.loop-next.values c.step.new.values l ensures.propagates has) inv.walked in
    record {
      propagates = Propagates-trans c.args.log.now c.args.values.now c.loop-next.values c.step.new.values inv.propagates ensures.propagates;
      watched = ensures.watched;
      rest = record { short = ensures.rest.short ∙ inv.rest.short; lines = ensures.rest.lines ∙ inv.rest.lines; done = ensures.rest.done ∙ inv.rest.done };
      added = (inv.added.0, omega (arith, inv.added.1, comes.vars));
      walked = walked;
    }

pub returns-in-Falsified-clause-propagates : goal.returns-in-Falsified-clause-propagates
returns-in-Falsified-clause-propagates c = Propagates-trans c.args.log.now c.args.values.now c.loop-next.values c.step.new.values c.loop-next.invariant.propagates c.step.ensures.propagates

pub returns-clause-hold : goal.returns-clause-hold
returns-clause-hold c =
    let watching = c.loop-next.watching in
    walked_end (kept_of watching) (list_of watching.linked.watched c.args.falsified) (literals_of c.loop-next.values.entries) c.args.falsified c.loop-next.before c.loop-next.next c.in_default.not-Some c.loop-next.invariant.walked
