use Rattle.std.proofs.Common.{ℕ, List, ◌++◌, map, IsTrue, subst}
use Rattle.std.specs.Prelude.{All}
use Rattle.std.proofs.lemmas.List.Elements.{All-append, All-map}
use Rattle.trap_parts.specs.Names.{is_name}
use Rattle.trap_parts.specs.declared.parts.ZonePart.{ZonePart}
use Rattle.trap_parts.specs.declared.parts.SegmentPart.{SegmentPart}
use Rattle.samples.proofs.traps.are_named.Goals as goal

all_named : (zones : List ZonePart) (segments : List SegmentPart) (junctions : List (List ℕ))
    → All (λ zone. IsTrue (is_name zone.name)) zones → All (λ segment. IsTrue (is_name segment.name)) segments
    → All (λ name. IsTrue (is_name name)) junctions
    → All (λ name. IsTrue (is_name name))
    (map (λ zone. zone.name) zones ++ map (λ segment. segment.name) segments ++ junctions)
all_named zones segments junctions a b c =
    let P : List ℕ → Type 0 = λ name. IsTrue (is_name name) in
    let zone_name : ZonePart → List ℕ = λ zone. zone.name in
    let segment_name : SegmentPart → List ℕ = λ segment. segment.name in
    All-append P (map zone_name zones ++ map segment_name segments) junctions
    (All-append P (map zone_name zones) (map segment_name segments)
    (All-map P zone_name zones a) (All-map P segment_name segments b)) c

pub returns : goal.returns
returns c h =
    let zones : List ZonePart = c.args.parts.now.zones.items in
    let segments : List SegmentPart = c.args.parts.now.segments.items in
    all_named zones segments c.args.parts.now.junctions.items
    (subst (All (λ zone. IsTrue (is_name zone.name)))
    c.as_slice.ensures.value (c.zones_named.ensures c.if-not-zones_named.false))
    (subst (All (λ segment. IsTrue (is_name segment.name)))
    c.as_slice-2.ensures.value (c.segments_named.ensures c.if-not-segments_named.false))
    (subst (All (λ name. IsTrue (is_name name))) c.as_slice-3.ensures.value (c.junctions_named.ensures h))
