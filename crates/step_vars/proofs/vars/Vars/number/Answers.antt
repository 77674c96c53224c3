use Rattle.std.proofs.Common.{◌≡◌, ◌+◌, Some, ap, sym, subst, ◌∙◌, arith, true, false}
use Rattle.step_vars.specs.declared.sizes.Sizes.{Sizes}
use Rattle.step_vars.specs.Tables.{IsSmallPart}
use Rattle.step_vars.specs.Items.{time_of}
use Rattle.step_vars.specs.Numbering.{before, sizes_at, block_from, is_timely}
use Rattle.step_vars.specs.Encoding.{VarsValue}
use Rattle.step_vars.proofs.Numbers.{number_late, number_untimely, number_none, number_some, index_within, before_next}
use Rattle.step_vars.proofs.vars.Vars.number.Goals as goal

pub returns-then-time-self-clause-number : goal.returns-then-time-self-clause-number
returns-then-time-self-clause-number c =
    let steps = ap (λ (v : VarsValue). v.steps) c.self.view_is in
    number_late c.args.self.now c.args.item.now (omega (arith, steps, c.time-time.ensures, c.if-time-self.true))

pub returns-then-not-is_timely-clause-number : goal.returns-then-not-is_timely-clause-number
returns-then-not-is_timely-clause-number c =
    let untimely : is_timely c.args.item.now ≡ false = cc (c.is_timely.ensures, c.if-not-is_timely.true) in
    number_untimely c.args.self.now c.args.item.now untimely

pub returns-in-None-clause-number : goal.returns-in-None-clause-number
returns-in-None-clause-number c = number_none c.args.self.now c.args.item.now (sym c.in-None.ensures)

pub overflow_add-result : goal.overflow_add-result
overflow_add-result c =
    let n = c.args.self.now.numbering in
    let item = c.args.item.now in
    let timely : is_timely item ≡ true = cc (c.is_timely.ensures, c.if-not-is_timely.false) in
    let place = index_within n item c.in-Some.index timely (sym c.in-Some.ensures) in
    let sizes = c.sizes.ensures.sizes ∙ ap (λ t. sizes_at n t) c.time-time.ensures in
    let block = c.block_from.ensures ∙ ap (λ (s : Sizes). block_from s item) sizes in
    let P : Sizes → Type 0 = λ s. IsSmallPart s in
    let small = subst P sizes c.sizes.ensures.small in
    omega (arith, place, block, small, c.before-in-Some.ensures.small)

pub overflow_add-result-in-Some : goal.overflow_add-result-in-Some
overflow_add-result-in-Some c =
    let n = c.args.self.now.numbering in
    let item = c.args.item.now in
    let timely : is_timely item ≡ true = cc (c.is_timely.ensures, c.if-not-is_timely.false) in
    let place = index_within n item c.in-Some.index timely (sym c.in-Some.ensures) in
    let sizes = c.sizes.ensures.sizes ∙ ap (λ t. sizes_at n t) c.time-time.ensures in
    let block = c.block_from.ensures ∙ ap (λ (s : Sizes). block_from s item) sizes in
    let P : Sizes → Type 0 = λ s. IsSmallPart s in
    let small = subst P sizes c.sizes.ensures.small in
    omega (arith, place, block, small, c.before-in-Some.ensures.small)

pub overflow_add-result-in-Some-2 : goal.overflow_add-result-in-Some-2
overflow_add-result-in-Some-2 c =
    let n = c.args.self.now.numbering in
    let item = c.args.item.now in
    let timely : is_timely item ≡ true = cc (c.is_timely.ensures, c.if-not-is_timely.false) in
    let place = index_within n item c.in-Some.index timely (sym c.in-Some.ensures) in
    let sizes = c.sizes.ensures.sizes ∙ ap (λ t. sizes_at n t) c.time-time.ensures in
    let block = c.block_from.ensures ∙ ap (λ (s : Sizes). block_from s item) sizes in
    let P : Sizes → Type 0 = λ s. IsSmallPart s in
    let small = subst P sizes c.sizes.ensures.small in
    omega (arith, place, block, small, c.before-in-Some.ensures.small)

pub returns-in-Some-clause-small : goal.returns-in-Some-clause-small
returns-in-Some-clause-small c =
    let n = c.args.self.now.numbering in
    let item = c.args.item.now in
    let timely : is_timely item ≡ true = cc (c.is_timely.ensures, c.if-not-is_timely.false) in
    let place = index_within n item c.in-Some.index timely (sym c.in-Some.ensures) in
    let sizes = c.sizes.ensures.sizes ∙ ap (λ t. sizes_at n t) c.time-time.ensures in
    let block = c.block_from.ensures ∙ ap (λ (s : Sizes). block_from s item) sizes in
    let P : Sizes → Type 0 = λ s. IsSmallPart s in
    let small = subst P sizes c.sizes.ensures.small in
    omega (arith, place, block, small, c.before-in-Some.ensures.small)

pub returns-in-Some-clause-number : goal.returns-in-Some-clause-number
returns-in-Some-clause-number c =
    let n = c.args.self.now.numbering in
    let item = c.args.item.now in
    let timely : is_timely item ≡ true = cc (c.is_timely.ensures, c.if-not-is_timely.false) in
    let place = index_within n item c.in-Some.index timely (sym c.in-Some.ensures) in
    let sizes = c.sizes.ensures.sizes ∙ ap (λ t. sizes_at n t) c.time-time.ensures in
    let block = c.block_from.ensures ∙ ap (λ (s : Sizes). block_from s item) sizes in
    let P : Sizes → Type 0 = λ s. IsSmallPart s in
    let small = subst P sizes c.sizes.ensures.small in
    let steps = ap (λ (v : VarsValue). v.steps) c.self.view_is in
    let earlier = c.before-in-Some.ensures.before ∙ ap (λ t. before n t) c.time-time.ensures in
    let same : c.before-in-Some.result + c.block_from.result + c.in-Some.index + 1 ≡ before n (time_of item) + block_from (sizes_at n (time_of item)) item + c.in-Some.index + 1 = omega (arith, block, earlier) in
    ap Some same ∙ number_some c.args.self.now item c.in-Some.index (omega (arith, steps, c.time-time.ensures, c.if-time-self.false)) timely (sym c.in-Some.ensures)

pub returns-in-Some-clause-within : goal.returns-in-Some-clause-within
returns-in-Some-clause-within c =
    let n = c.args.self.now.numbering in
    let item = c.args.item.now in
    let timely : is_timely item ≡ true = cc (c.is_timely.ensures, c.if-not-is_timely.false) in
    let place = index_within n item c.in-Some.index timely (sym c.in-Some.ensures) in
    let sizes = c.sizes.ensures.sizes ∙ ap (λ t. sizes_at n t) c.time-time.ensures in
    let block = c.block_from.ensures ∙ ap (λ (s : Sizes). block_from s item) sizes in
    let P : Sizes → Type 0 = λ s. IsSmallPart s in
    let small = subst P sizes c.sizes.ensures.small in
    let earlier = c.before-in-Some.ensures.before ∙ ap (λ t. before n t) c.time-time.ensures in
    omega (arith, place, block, earlier, before_next n (time_of item))
