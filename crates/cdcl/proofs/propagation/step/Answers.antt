use Rattle.std.proofs.Common.{◌≡◌, ℕ, ◌≤◌, ◌<◌, ◌/◌, Some, length, refl, sym, subst, arith}
use Rattle.std.specs.Prelude.{slice_get}
use Rattle.std.proofs.lemmas.Bool.{both_ways}
use Rattle.sat_base.proofs.Clauses.{EachVariable-has}
use Rattle.solver_trail.specs.Trail.{Trail, literals_of}
use Rattle.cdcl.specs.Watching.{Kept, kept_of, AreWatched}
use Rattle.cdcl.proofs.Lines.{named_line}
use Rattle.cdcl.proofs.Guards.{with_literal, can_move, look_line, held_by, held_other, held_empty, moved_differs, watched_moved, watched_propagated}
use Rattle.cdcl.proofs.Stepping.{at_link, has_list, own_link, own_place, own_other, empty_slot}
use Rattle.cdcl.proofs.propagation.step.Goals as goal

pub index-requires : goal.index-requires
index-requires c =
    let kept = kept_of c.args.watching.now in
    let added = has_list c.args.log.now c.args.values.now kept c.args.falsified c.requires.watched c.entries-order.ensures.named c.requires.falsified in
    let own = own_link c.args.watching.now.linked.watched kept c.args.falsified c.args.before c.args.link c.tied.ensures.tied added c.requires.follows in
    let place = own_place c.args.log.now kept c.args.falsified c.args.link c.requires.watched.stored own in
    let len = c.args.watching.now.lines.ok.0 in
    omega arith

pub returns-in_default-clause-comes : goal.returns-in_default-clause-comes
returns-in_default-clause-comes c =
    let kept = kept_of c.args.watching.now in
    let added = has_list c.args.log.now c.args.values.now kept c.args.falsified c.requires.watched c.entries-order.ensures.named c.requires.falsified in
    let own = own_link c.args.watching.now.linked.watched kept c.args.falsified c.args.before c.args.link c.tied.ensures.tied added c.requires.follows in
    let place = own_place c.args.log.now kept c.args.falsified c.args.link c.requires.watched.stored own in
    record { same = refl; holds = held_empty kept c.args.link c.args.falsified (literals_of c.args.values.now.entries) (empty_slot kept.lines (c.args.link / 2) c.index.result.now place c.index.ensures c.in_default.is) }

pub literal-other-requires : goal.literal-other-requires
literal-other-requires c =
    let kept = kept_of c.args.watching.now in
    let added = has_list c.args.log.now c.args.values.now kept c.args.falsified c.requires.watched c.entries-order.ensures.named c.requires.falsified in
    let own = own_link c.args.watching.now.linked.watched kept c.args.falsified c.args.before c.args.link c.tied.ensures.tied added c.requires.follows in
    subst (λ (n : ℕ). n < length kept.literals) (sym c.other_link.ensures) (own_other c.args.log.now kept c.args.falsified c.args.link c.requires.watched.stored own)

pub look-requires-clause-is_line : goal.look-requires-clause-is_line
look-requires-clause-is_line c =
    let at = at_link c.args.log.now c.args.values.now (kept_of c.args.watching.now) c.args.watching.now.linked.watched c.args.falsified c.literal-other.result c.args.before c.args.link c.other_link.result c.in-Some.line c.index.result.now c.requires.watched c.entries-order.ensures.named c.entries-order.ensures.order
    c.requires.falsified refl c.tied.ensures.tied c.requires.follows c.index.ensures c.in-Some.is c.other_link.ensures c.literal-other.ensures in
    (look_line c.args.log.now c.args.values.now (kept_of c.args.watching.now) c.args.link c.in-Some.line c.args.falsified c.literal-other.result at).0

pub look-requires-clause-has : goal.look-requires-clause-has
look-requires-clause-has c =
    let at = at_link c.args.log.now c.args.values.now (kept_of c.args.watching.now) c.args.watching.now.linked.watched c.args.falsified c.literal-other.result c.args.before c.args.link c.other_link.result c.in-Some.line c.index.result.now c.requires.watched c.entries-order.ensures.named c.entries-order.ensures.order
    c.requires.falsified refl c.tied.ensures.tied c.requires.follows c.index.ensures c.in-Some.is c.other_link.ensures c.literal-other.ensures in
    (look_line c.args.log.now c.args.values.now (kept_of c.args.watching.now) c.args.link c.in-Some.line c.args.falsified c.literal-other.result at).1

pub look-requires-clause-not_true : goal.look-requires-clause-not_true
look-requires-clause-not_true c =
    let at = at_link c.args.log.now c.args.values.now (kept_of c.args.watching.now) c.args.watching.now.linked.watched c.args.falsified c.literal-other.result c.args.before c.args.link c.other_link.result c.in-Some.line c.index.result.now c.requires.watched c.entries-order.ensures.named c.entries-order.ensures.order
    c.requires.falsified refl c.tied.ensures.tied c.requires.follows c.index.ensures c.in-Some.is c.other_link.ensures c.literal-other.ensures in
    let is = look_line c.args.log.now c.args.values.now (kept_of c.args.watching.now) c.args.link c.in-Some.line c.args.falsified c.literal-other.result at in
    let named = EachVariable-has (λ var. var ≤ c.args.values.now.vars) _ c.literal-other.result (named_line (λ var. var ≤ c.args.values.now.vars) c.args.log.now c.in-Some.line c.requires.named) is.1 in
    λ holds. both_ways c.has_true.result c.if-has_true.false (c.has_true.ensures.no named holds)

pub returns-then-has_true-clause-comes : goal.returns-then-has_true-clause-comes
returns-then-has_true-clause-comes c =
    let kept = kept_of c.args.watching.now in
    let set = literals_of c.args.values.now.entries in
    let own = c.literal-other.ensures in
    record { same = refl; holds = held_other kept c.args.link c.args.falsified c.literal-other.result set (subst (λ (n : ℕ). slice_get kept.literals n ≡ Some c.literal-other.result) c.other_link.ensures own) (c.has_true.ensures.yes c.if-has_true.true) }

pub relink-requires-clause-literal : goal.relink-requires-clause-literal
relink-requires-clause-literal c = has_list c.args.log.now c.args.values.now (kept_of c.args.watching.now) c.args.falsified c.requires.watched c.entries-order.ensures.named c.requires.falsified

pub relink-requires-clause-to : goal.relink-requires-clause-to
relink-requires-clause-to c =
    let free = c.in-Moved.ensures.comes.1 in
    let named = EachVariable-has (λ var. var ≤ c.args.values.now.vars) _ c.in-Moved.to (named_line (λ var. var ≤ c.args.values.now.vars) c.args.log.now c.in-Some.line c.requires.named) free.has in
    let var = c.var-var.ensures in
    let vars = c.requires.watched.vars in
    (omega (arith, var.from_1, var.var), omega arith)

pub relink-requires-clause-differ : goal.relink-requires-clause-differ
relink-requires-clause-differ c =
    let at = at_link c.args.log.now c.args.values.now (kept_of c.args.watching.now) c.args.watching.now.linked.watched c.args.falsified c.literal-other.result c.args.before c.args.link c.other_link.result c.in-Some.line c.index.result.now c.requires.watched c.entries-order.ensures.named c.entries-order.ensures.order
    c.requires.falsified refl c.tied.ensures.tied c.requires.follows c.index.ensures c.in-Some.is c.other_link.ensures c.literal-other.ensures in
    λ same. moved_differs c.args.log.now c.args.values.now (kept_of c.args.watching.now) c.args.link c.in-Some.line c.args.falsified c.literal-other.result c.in-Moved.to at c.in-Moved.ensures.comes.1 (sym same)

pub returns-in-Kept-clause-watched : goal.returns-in-Kept-clause-watched
returns-in-Kept-clause-watched c = watched_propagated c.args.log.now c.args.values.now c.look.new.values (kept_of c.args.watching.now) c.in-Kept.ensures.propagates c.requires.watched

pub returns-in-Kept-clause-comes : goal.returns-in-Kept-clause-comes
returns-in-Kept-clause-comes c =
    let at = at_link c.args.log.now c.args.values.now (kept_of c.args.watching.now) c.args.watching.now.linked.watched c.args.falsified c.literal-other.result c.args.before c.args.link c.other_link.result c.in-Some.line c.index.result.now c.requires.watched c.entries-order.ensures.named c.entries-order.ensures.order
    c.requires.falsified refl c.tied.ensures.tied c.requires.follows c.index.ensures c.in-Some.is c.other_link.ensures c.literal-other.ensures in
    record { same = refl; holds = held_by c.args.log.now c.args.values.now (kept_of c.args.watching.now) c.args.link c.in-Some.line c.args.falsified c.literal-other.result (literals_of c.look.new.values.entries) at c.in-Kept.ensures.comes }

pub returns-in-Falsified-clause-watched : goal.returns-in-Falsified-clause-watched
returns-in-Falsified-clause-watched c = watched_propagated c.args.log.now c.args.values.now c.look.new.values (kept_of c.args.watching.now) c.in-Falsified.ensures.propagates c.requires.watched

pub returns-in-Moved-clause-watched : goal.returns-in-Moved-clause-watched
returns-in-Moved-clause-watched c =
    let at = at_link c.args.log.now c.args.values.now (kept_of c.args.watching.now) c.args.watching.now.linked.watched c.args.falsified c.literal-other.result c.args.before c.args.link c.other_link.result c.in-Some.line c.index.result.now c.requires.watched c.entries-order.ensures.named c.entries-order.ensures.order
    c.requires.falsified refl c.tied.ensures.tied c.requires.follows c.index.ensures c.in-Some.is c.other_link.ensures c.literal-other.ensures in
    let kept = kept_of c.args.watching.now in
    let comes = c.in-Moved.ensures.comes in
    let can = can_move c.args.log.now c.args.values.now (kept_of c.args.watching.now) c.args.link c.in-Some.line c.args.falsified c.literal-other.result c.in-Moved.to at comes.1 in
    let moved = watched_moved c.args.log.now c.args.values.now kept c.args.link c.in-Some.line c.args.falsified c.literal-other.result c.in-Moved.to can c.requires.watched in
    let vars = c.relink.ensures.vars in
    let literals = c.relink.ensures.literals in
    let now : Kept = record { vars = c.relink.new.self.watched.vars; short = kept.short; lines = kept.lines; literals = c.relink.new.self.literals; done = kept.done } in
    let same : now ≡ with_literal kept c.args.link c.in-Moved.to = λ i. record { vars = vars i; short = kept.short; lines = kept.lines; literals = literals i; done = kept.done } in
    subst (λ (t : Trail). AreWatched c.args.log.now t now) (sym comes.0) (subst (AreWatched c.args.log.now c.args.values.now) (sym same) moved)

pub returns-in-Moved-clause-comes : goal.returns-in-Moved-clause-comes
returns-in-Moved-clause-comes c =
    let at = at_link c.args.log.now c.args.values.now (kept_of c.args.watching.now) c.args.watching.now.linked.watched c.args.falsified c.literal-other.result c.args.before c.args.link c.other_link.result c.in-Some.line c.index.result.now c.requires.watched c.entries-order.ensures.named c.entries-order.ensures.order
    c.requires.falsified refl c.tied.ensures.tied c.requires.follows c.index.ensures c.in-Some.is c.other_link.ensures c.literal-other.ensures in
    record {
      to = c.in-Moved.to;
      different = moved_differs c.args.log.now c.args.values.now (kept_of c.args.watching.now) c.args.link c.in-Some.line c.args.falsified c.literal-other.result c.in-Moved.to at c.in-Moved.ensures.comes.1;
      vars = c.relink.ensures.vars;
      literals = c.relink.ensures.literals;
      list = c.relink.ensures.list;
    }
