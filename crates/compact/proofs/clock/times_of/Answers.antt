use Rattle.std.proofs.Common.{ℕ, ◌<◌, ◌≤◌, List, length, subst, sym, ap, arith}
use Rattle.std.proofs.lemmas.List.{take_all}
use Rattle.step_rules.specs.declared.action.Action.{Action}
use Rattle.std.specs.Prelude.{All}
use Rattle.compact.specs.Clock.{IsClock, IsKnown}
use Rattle.compact.specs.Latest.{AreTimes}
use Rattle.compact.proofs.Timing.{serial_ordered}
use Rattle.compact.proofs.Taking.{none_known, known_more}
use Rattle.compact.proofs.clock.times_of.Goals as goal

pub new-requires : goal.new-requires
new-requires c = serial_ordered c.args.setting.now c.args.actions.now c.requires

pub next-init : goal.next-init
next-init c = subst (λ (l : List ℕ). IsKnown c.args.setting.now c.args.actions.now l c.in_ok-clock.clock) (sym c.new-times.ensures.items) (none_known c.args.setting.now c.args.actions.now c.in_ok-clock.clock c.in_ok-clock.ensures)

pub take-requires-clause-ordered : goal.take-requires-clause-ordered
take-requires-clause-ordered c = serial_ordered c.args.setting.now c.args.actions.now c.requires

pub take-requires-clause-next : goal.take-requires-clause-next
take-requires-clause-next c = omega (arith, ap length c.as_slice-known.ensures.value, c.next.times.ok.0)

pub take-requires-clause-below : goal.take-requires-clause-below
take-requires-clause-below c = subst (λ (l : List ℕ). All (λ (time : ℕ). time < length l) l) (sym c.as_slice-known.ensures.value) c.next.invariant.below

pub take-requires-clause-clock : goal.take-requires-clause-clock
take-requires-clause-clock c = subst (λ (l : List ℕ). IsClock c.args.setting.now c.args.actions.now l c.next.clock) (sym c.as_slice-known.ensures.value) c.next.invariant.kept

pub next-preserved : goal.next-preserved
next-preserved c =
    let inside : length c.next.times.items < length c.args.actions.now = omega (arith, c.next.times.ok.0) in
    subst (λ (l : List ℕ). IsKnown c.args.setting.now c.args.actions.now l c.take.new.self) (sym c.in_ok-push.ensures.items)
    (known_more c.args.setting.now c.args.actions.now c.next.times.items c.as_slice-known.result.now c.in_ok-time.time c.next.clock c.take.new.self inside c.as_slice-known.ensures.value c.next.invariant
    c.in_ok-time.ensures.time c.in_ok-time.ensures.below c.in_ok-time.ensures.clock)

pub returns : goal.returns
returns c =
    let most : length c.next.times.items ≤ length c.args.actions.now = c.next.invariant.within in
    let all : length c.args.actions.now ≤ length c.next.times.items = omega (arith, c.next.times.ok.0) in
    subst (λ (xs : List Action). AreTimes c.args.setting.now xs c.next.times.items) (take_all (length c.next.times.items) c.args.actions.now all) c.next.invariant.times_are
