use Rattle.std.proofs.Common.{◌≡◌, ℕ, List, ◌++◌, Option, sym, subst}
use Rattle.sat_base.specs.Literal.{Literal}
use Rattle.certificate_lines.specs.Items.{literal_word, MayStand}
use Rattle.certificate_lines.proofs.Literals.{LiteralsSoFar, no_literals, stuck, ends, one_more}
use Rattle.certificate_lines.proofs.items.read_literals.Goals as goal

pub loop-item-init : goal.loop-item-init
loop-item-init c = subst (λ (lits : List Literal). LiteralsSoFar c.args.vars c.args.bytes.now lits c.args.bytes.now) (sym c.clear.ensures.items) (no_literals c.args.vars c.args.bytes.now)

pub returns-in_default-clause-only : goal.returns-in_default-clause-only
returns-in_default-clause-only c = λ others rest. stuck c.args.vars c.args.bytes.now c.loop-item.lits.items c.loop-item.rest.now others rest c.loop-item.invariant c.in_default.ensures.only

pub returns-in_default-item-clause-only : goal.returns-in_default-item-clause-only
returns-in_default-item-clause-only c = λ others rest.
    ends c.args.vars c.args.bytes.now c.loop-item.lits.items c.loop-item.rest.now c.in-Some.after.now others rest c.loop-item.invariant
    (subst (λ (read : Option Literal). (item : Option Literal) (rest : List ℕ) → MayStand c.args.vars item → c.loop-item.rest.now ≡ literal_word item ++ rest → (read ≡ item) × (c.in-Some.after.now ≡ rest)) c.in_default-item.is c.in-Some.ensures.only)

pub loop-item-preserved : goal.loop-item-preserved
loop-item-preserved c =
    subst (λ (lits : List Literal). LiteralsSoFar c.args.vars c.args.bytes.now lits c.in-Some.after.now) (sym c.in_ok-push.ensures.items)
    (one_more c.args.vars c.args.bytes.now c.loop-item.lits.items c.loop-item.rest.now c.in-Some.after.now c.in-Some-item.lit c.loop-item.invariant
    (subst (MayStand c.args.vars) c.in-Some-item.is c.in-Some.ensures.may)
    (subst (λ (read : Option Literal). c.loop-item.rest.now ≡ literal_word read ++ c.in-Some.after.now) c.in-Some-item.is c.in-Some.ensures.found)
    (subst (λ (read : Option Literal). (item : Option Literal) (rest : List ℕ) → MayStand c.args.vars item → c.loop-item.rest.now ≡ literal_word item ++ rest → (read ≡ item) × (c.in-Some.after.now ≡ rest)) c.in-Some-item.is c.in-Some.ensures.only))
