use Rattle.std.proofs.Common.{◌≡◌, ◌++◌, ℕ, List, [], length, Some, ap, ◌∙◌, sym, subst}
use Rattle.std.specs.Prelude.{slice_get}
use Rattle.std.proofs.lemmas.Option.{slice_get-get_or}
use Rattle.trap_parts.specs.declared.parts.ZonePart.{ZonePart}
use Rattle.schedule_text.specs.Progress.{Opens, head_text}
use Rattle.schedule_text.proofs.Placing.{opens_none, head_begins}
use Rattle.schedule_text.proofs.Follows.{head_none}
use Rattle.schedule_text.proofs.BadLines.{refused}
use Rattle.schedule_text.proofs.reader.read_places.Goals as goal

pub loop-zone-init : goal.loop-zone-init
loop-zone-init c =
    let trap = c.args.trap.now in
    let circuit = c.args.circuit.now in
    let none : c.new-lists.result.items ≡ [] = c.new-lists.ensures.items in
    record {
      parts = c.requires.parts ∙ head_none trap circuit c.args.lines.now ∙ ap (λ lists. head_text trap circuit lists ++ c.args.lines.now) (sym none);
      opened = subst (Opens trap circuit) (sym none) (opens_none trap circuit c.requires.fits);
      len = ap length none;
    }

pub read_list-requires-clause-next : goal.read_list-requires-clause-next
read_list-requires-clause-next c =
    let zones : c.zones-zone-items.result.now ≡ c.args.trap.now.zones = c.zones-zone-items.ensures.zones in
    let k : ℕ = c.loop-zone.zone-index in
    let zone = c.zone-item.result in
    ap (slice_get c.args.trap.now.zones) c.loop-zone.invariant.len ∙ ap (λ (all : List ZonePart). slice_get all k) (sym zones) ∙ slice_get-get_or c.zones-zone-items.result.now k zone c.loop-zone-test.true
    ∙ ap (λ (z : ZonePart). Some z) (sym c.zone-item.is)

pub returns-in-None-clause-fault : goal.returns-in-None-clause-fault
returns-in-None-clause-fault c =
    let trap = c.args.trap.now in
    let circuit = c.args.circuit.now in
    let front = head_text trap circuit c.loop-zone.lists.items in
    refused trap circuit front c.loop-zone.rest.now c.args.bytes.now c.bad_line.result c.loop-zone.invariant.parts (head_begins trap circuit c.loop-zone.lists.items c.loop-zone.invariant.opened)
    (rw c.in-None.is at c.in_ok-after.ensures.grown) (c.bad_line.ensures front c.loop-zone.invariant.parts)
