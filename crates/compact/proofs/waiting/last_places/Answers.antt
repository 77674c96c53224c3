use Rattle.std.proofs.Common.{[], subst, sym}
use Rattle.std.proofs.lemmas.Option.{slice_get-get_or}
use Rattle.std.proofs.lemmas.List.{take_all}
use Rattle.step_rules.specs.declared.action.Action.{Action}
use Rattle.std.specs.Prelude.{List}
use Rattle.compact.specs.Orders.{AreLastPlaces}
use Rattle.compact.proofs.Rows.{place_noted, no_places}
use Rattle.compact.proofs.waiting.last_places.Goals as goal

pub loop-place-init : goal.loop-place-init
loop-place-init c = subst (AreLastPlaces []) (sym c.new-last.ensures) no_places

pub loop-place-preserved : goal.loop-place-preserved
loop-place-preserved c =
    place_noted c.args.actions.now c.loop-place.place _ c.loop-place.last c.note_place.new.last (slice_get-get_or c.args.actions.now c.loop-place.place _ c.loop-place-test.true) c.in_ok-note_place.ensures c.loop-place.invariant

pub returns : goal.returns
returns c = subst (λ (xs : List Action). AreLastPlaces xs c.loop-place.last) (take_all c.loop-place.place c.args.actions.now c.loop-place-test.false) c.loop-place.invariant
