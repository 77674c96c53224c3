use Rattle.std.proofs.Common.{List, ℕ, ◌<◌, ◌||◌, Bool, ap, sym, ◌∙◌, take, length, arith}
use Rattle.std.specs.Str.{bytes_eq}
use Rattle.std.proofs.lemmas.List.Folds.{list_any_more}
use Rattle.trap_parts.specs.declared.parts.ZonePart.{ZonePart}
use Rattle.trap_read.specs.Labels.{has_name, is_zone}
use Rattle.trap_read.proofs.Place.{has_name-added}
use Rattle.trap_read.proofs.labels.names_of.Goals as goal

pub loop-zone-init : goal.loop-zone-init
unfolding has_name
loop-zone-init c = λ name. rw c.new-names.ensures.empty

pub loop-zone-preserved : goal.loop-zone-preserved
loop-zone-preserved c = λ name.
    let zones = c.args.zones.now in
    let i = c.loop-zone.zone-index in
    let h : i < length zones = omega arith in
    let same = c.bytes.ensures ∙ ap (λ (zone : ZonePart). zone.name) c.zone-item.is in
    has_name-added c.bytes.result.now c.loop-zone.names c.insert.new.self c.in_ok-insert.ensures.updates.0 name
    ∙ ap (λ (b : Bool). b || bytes_eq c.bytes.result.now name) (c.loop-zone.invariant name)
    ∙ ap (λ (key : List ℕ). is_zone (take i zones) name || bytes_eq key name) same
    ∙ sym (list_any_more (λ zone. bytes_eq zone.name name) zones i c.zone-item.result h)
