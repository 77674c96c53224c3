-- How many channels a trap has at most.
use Rattle.std.proofs.Common.{◌≡◌, ℕ, ◌+◌, ◌-◌, ◌*◌, ◌<◌, ◌≤◌, true, false, ◌&&◌, List, [], ◌∷◌, ◌++◌, length, map, zero, suc, refl, ap, arith, eqb, inl, inr, length-append}
use Rattle.std.specs.List.{IsDistinct, AllByRecursion, list_any, flat_map, range_with_len}
use Rattle.std.proofs.lemmas.Bool.{eqb-true, ne_eqb, or_cases, eq-eqb, both_ways, cond_both}
use Rattle.std.proofs.lemmas.Map.Made.{IsDistinct-from_AllPairs}
use Rattle.std.proofs.lemmas.Map.Steps.{length-le_from_distinct_below}
use Rattle.qc_base.specs.declared.ids.End.{End}
use Rattle.qc_base.specs.declared.ids.End.TheVariants.{A, B}
use Rattle.trap_parts.specs.declared.parts.SegmentPart.{SegmentPart}
use Rattle.trap_parts.specs.declared.port.Port.TheVariants as ports
use Rattle.trap_parts.specs.declared.port.Link.{Link}
use Rattle.trap_parts.specs.declared.port.Link.TheVariants as links
use Rattle.trap_parts.specs.declared.port.SlotEnd.{SlotEnd}
use Rattle.trap_parts.specs.Parts.{TrapValue, slot_count}
use Rattle.trap_parts.specs.Joins.{links_of, ends_of, arms_of}
use Rattle.trap_model.specs.Channels.{dock_channels, move_channels, moves_from, cross_channels, cross, crossings_of, channels_of}
use Rattle.trap_parts.specs.Build.{same_port, IsTrap}
use Rattle.trap_parts.proofs.Joined.{same_port_decides}
use Rattle.trap_parts.proofs.Known.{IsLink, AreLinks, links_known}

-- each end of a segment has a number
end_number : ℕ → End → ℕ
end_number segment A = 2 * segment
end_number segment B = 2 * segment + 1

number_of : Link → ℕ
number_of (links.Dock zone e segment f) = end_number segment f
number_of (links.Arm segment e junction) = end_number segment e

other_segment : (s t : ℕ) → (eqb s t && true) ≡ false → s ≡ t → ⊥
other_segment s t e same = both_ways (eqb s t && true) e (rw (eq-eqb s t same) refl)

other_end : (s t : ℕ) (e f : End) → same_port (ports.Segment s e) (ports.Segment t f) ≡ false → eqb (end_number s e) (end_number t f) ≡ false
unfolding end_number
other_end s t A A h = let apart = other_segment s t h in ne_eqb (2 * s) (2 * t) (λ same. apart (omega arith))
other_end s t B B h = let apart = other_segment s t h in ne_eqb (2 * s + 1) (2 * t + 1) (λ same. apart (omega arith))
other_end s t A B h = ne_eqb (2 * s) (2 * t + 1) (λ same. absurd (omega arith))
other_end s t B A h = ne_eqb (2 * s + 1) (2 * t) (λ same. absurd (omega arith))

other_links : (s : ℕ) (e : End) (ls : List Link) → AllByRecursion (λ p. same_port (ports.Segment s e) p ≡ false) (flat_map ends_of ls) → AllByRecursion (λ n. eqb (end_number s e) n ≡ false) (map number_of ls)
unfolding number_of
other_links s e [] all = tt
other_links s e (links.Dock zone g t f ∷ ls) all = (other_end s t e f all.1.0, other_links s e ls all.1.1)
other_links s e (links.Arm t f junction ∷ ls) all = (other_end s t e f all.0, other_links s e ls all.1)

distinct_numbers : (ls : List Link) → IsDistinct same_port (flat_map ends_of ls) → IsDistinct eqb (map number_of ls)
unfolding IsDistinct number_of
distinct_numbers [] d = tt
distinct_numbers (links.Dock zone g s e ∷ ls) d = (other_links s e ls d.1.0, distinct_numbers ls d.1.1)
distinct_numbers (links.Arm s e junction ∷ ls) d = (other_links s e ls d.0, distinct_numbers ls d.1)

small_end : (s : ℕ) (e : End) → s < 256 → end_number s e < 512
unfolding end_number
small_end s A h = omega arith
small_end s B h = omega arith

small_number : (trap : TrapValue) (link : Link) → length trap.segments ≤ 256 → IsLink trap link → number_of link < 512
unfolding number_of
small_number trap (links.Dock zone g s e) few known = small_end s e (omega (arith, known.1))
small_number trap (links.Arm s e junction) few known = small_end s e (omega (arith, known.0))

small_numbers : (trap : TrapValue) (ls : List Link) → length trap.segments ≤ 256 → AreLinks trap ls → (q : ℕ) → list_any (eqb q) (map number_of ls) ≡ true → q < 512
small_numbers trap [] few known q e = absurd (both_ways false refl e)
small_numbers trap (link ∷ ls) few known q e =
    elim (or_cases (eqb q (number_of link)) (list_any (eqb q) (map number_of ls)) e) [
      | inl here ↦ let same = eqb-true q (number_of link) here in omega (arith, same, small_number trap link few known.0)
      | inr later ↦ small_numbers trap ls few known.1 q later
    ]

length-map-numbers : (ls : List Link) → length (map number_of ls) ≡ length ls
length-map-numbers [] = refl
length-map-numbers (link ∷ ls) = ap suc (length-map-numbers ls)

-- each join takes an end of a segment, and there are 512
pub few_links : (trap : TrapValue) → IsTrap trap → length (links_of trap) ≤ 512
few_links trap t =
    let distinct = IsDistinct-from_AllPairs same_port_decides (flat_map ends_of (links_of trap)) t.once in
    let numbers = map number_of (links_of trap) in
    omega (arith, length-map-numbers (links_of trap), length-le_from_distinct_below numbers 512 (distinct_numbers (links_of trap) distinct) (small_numbers trap (links_of trap) t.segments (links_known trap)))

few_docks : (trap : TrapValue) (ls : List Link) → length (flat_map (dock_channels trap) ls) ≤ 2 * length ls
few_docks trap [] = omega arith
few_docks trap (links.Dock zone g s e ∷ ls) = omega (arith, few_docks trap ls)
few_docks trap (links.Arm s e junction ∷ ls) = omega (arith, few_docks trap ls)

few_pairs : (place n : ℕ) → length (flat_map move_channels (range_with_len place n)) ≤ 2 * n
few_pairs place zero = omega arith
few_pairs place (suc n) = omega (arith, few_pairs (place + 1) n)

few_moves : (place : ℕ) (segments : List SegmentPart) → length (moves_from place segments) ≤ 2 * slot_count segments
few_moves place [] = omega arith
few_moves place (segment ∷ segments) =
    omega (arith, length-append (flat_map move_channels (range_with_len place (segment.slots - 1))) (moves_from (place + segment.slots) segments), few_pairs place (segment.slots - 1), few_moves (place + segment.slots) segments)

one_cross : (junction : ℕ) (from to : SlotEnd) → length (cross_channels junction from to) ≤ 1
one_cross junction from to = cond_both (eqb from.slot to.slot) [] (cross junction from to ∷ []) (λ c. length c ≤ 1) (λ _. omega arith) (λ _. omega arith)

few_from : (junction : ℕ) (from : SlotEnd) (arms : List SlotEnd) → length (flat_map (cross_channels junction from) arms) ≤ length arms
few_from junction from [] = omega arith
few_from junction from (to ∷ arms) =
    omega (arith, length-append (cross_channels junction from to) (flat_map (cross_channels junction from) arms), one_cross junction from to, few_from junction from arms)

few_crossings : (junction : ℕ) (all arms : List SlotEnd) → length all ≤ 4 → length (flat_map (λ from. flat_map (cross_channels junction from) all) arms) ≤ 4 * length arms
few_crossings junction all [] h = omega arith
few_crossings junction all (from ∷ arms) h =
    omega (arith, length-append (flat_map (cross_channels junction from) all) (flat_map (λ f. flat_map (cross_channels junction f) all) arms), few_from junction from all, few_crossings junction all arms h)

few_all : (trap : TrapValue) (first n : ℕ) → ((junction : ℕ) → junction < first + n → length (arms_of trap junction) ≤ 4) → length (flat_map (crossings_of trap) (range_with_len first n)) ≤ 16 * n
few_all trap first zero h = omega arith
few_all trap first (suc n) h =
    let few = h first (omega arith) in
    let one = few_crossings first (arms_of trap first) (arms_of trap first) few in
    let rest = few_all trap (first + 1) n (λ junction below. h junction (omega arith)) in
    omega (arith, length-append (crossings_of trap first) (flat_map (crossings_of trap) (range_with_len (first + 1) n)), one, rest, few)

-- all the channels have numbers of 32 bits
pub few_channels : (trap : TrapValue) → IsTrap trap → length (channels_of trap) ≤ 2048
few_channels trap t =
    let docks = flat_map (dock_channels trap) (links_of trap) in
    let moves = moves_from (length trap.zones) trap.segments in
    let crossings = flat_map (crossings_of trap) (range_with_len 0 (length trap.junctions)) in
    let arms = few_all trap 0 (length trap.junctions) (λ junction below. (t.arms junction (omega arith)).few) in
    omega (arith, length-append (docks ++ moves) crossings, length-append docks moves, few_docks trap (links_of trap), few_links trap t, few_moves (length trap.zones) trap.segments, t.slots, arms, t.junctions)
