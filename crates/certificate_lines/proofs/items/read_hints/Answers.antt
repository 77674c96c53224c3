use Rattle.std.proofs.Common.{◌≡◌, ℕ, List, ◌++◌, Option, sym, subst}
use Rattle.certificate_lines.specs.Items.{hint_word, MayHint}
use Rattle.certificate_lines.proofs.Hints.{HintsSoFar, no_hints, stuck, ends, one_more}
use Rattle.certificate_lines.proofs.items.read_hints.Goals as goal

pub loop-item-init : goal.loop-item-init
loop-item-init c = subst (λ (hints : List ℕ). HintsSoFar c.args.number c.args.bytes.now hints c.args.bytes.now) (sym c.clear.ensures.items) (no_hints c.args.number c.args.bytes.now)

pub returns-in_default-clause-only : goal.returns-in_default-clause-only
returns-in_default-clause-only c = λ others rest. stuck c.args.number c.args.bytes.now c.loop-item.hints.items c.loop-item.rest.now others rest c.loop-item.invariant c.in_default.ensures.only

pub returns-in_default-item-clause-only : goal.returns-in_default-item-clause-only
returns-in_default-item-clause-only c = λ others rest.
    ends c.args.number c.args.bytes.now c.loop-item.hints.items c.loop-item.rest.now c.in-Some.after.now others rest c.loop-item.invariant
    (subst (λ (read : Option ℕ). (item : Option ℕ) (rest : List ℕ) → MayHint c.args.number item → c.loop-item.rest.now ≡ hint_word item ++ rest → (read ≡ item) × (c.in-Some.after.now ≡ rest)) c.in_default-item.is c.in-Some.ensures.only)

pub loop-item-preserved : goal.loop-item-preserved
loop-item-preserved c =
    subst (λ (hints : List ℕ). HintsSoFar c.args.number c.args.bytes.now hints c.in-Some.after.now) (sym c.in_ok-push.ensures.items)
    (one_more c.args.number c.args.bytes.now c.loop-item.hints.items c.loop-item.rest.now c.in-Some.after.now c.in-Some-item.hint c.loop-item.invariant
    (subst (MayHint c.args.number) c.in-Some-item.is c.in-Some.ensures.may)
    (subst (λ (read : Option ℕ). c.loop-item.rest.now ≡ hint_word read ++ c.in-Some.after.now) c.in-Some-item.is c.in-Some.ensures.found)
    (subst (λ (read : Option ℕ). (item : Option ℕ) (rest : List ℕ) → MayHint c.args.number item → c.loop-item.rest.now ≡ hint_word item ++ rest → (read ≡ item) × (c.in-Some.after.now ≡ rest)) c.in-Some-item.is c.in-Some.ensures.only))
