-- Both places of each channel are places of the trap.
use Rattle.std.proofs.Common.{◌≡◌, ℕ, ◌+◌, ◌-◌, ◌<◌, ◌≤◌, List, [], ◌∷◌, ◌++◌, length, get_or, Option, None, Some, zero, suc, arith, eqb}
use Rattle.std.specs.List.{flat_map, range_with_len, filter_map, cons_option}
use Rattle.std.specs.Option.{IfSome, option_map}
use Rattle.std.proofs.lemmas.Bool.{cond_both}
use Rattle.qc_base.specs.declared.ids.End.{End}
use Rattle.qc_base.specs.declared.ids.End.TheVariants.{A, B}
use Rattle.trap_parts.specs.declared.parts.SegmentPart.{SegmentPart}
use Rattle.trap_model.specs.declared.channel.Channel.{Channel}
use Rattle.trap_parts.specs.declared.port.Link.{Link}
use Rattle.trap_parts.specs.declared.port.Link.TheVariants as links
use Rattle.trap_parts.specs.declared.port.SlotEnd.{SlotEnd}
use Rattle.trap_parts.specs.Parts.{TrapValue, slot_count}
use Rattle.trap_model.specs.Trap.{place_count}
use Rattle.trap_parts.specs.Joins.{links_of, slot_end, arms_of, arm_at}
use Rattle.trap_model.specs.Channels.{dock_channels, move_channels, moves_from, cross_channels, cross, crossings_of, channels_of, AreWithin}
use Rattle.trap_parts.specs.Build.{IsTrap}
use Rattle.trap_parts.proofs.Known.{AreLinks, links_known}
use Rattle.trap_model.proofs.Rows.{row_of}

-- both places are below a number
abbrev pub Below : ℕ → Channel → Type 0
Below n c = (c.from.0 < n) × (c.to.0 < n)

abbrev pub AllBelow : ℕ → List Channel → Type 0
AllBelow n [] = Unit {0}
AllBelow n (c ∷ cs) = Below n c × AllBelow n cs

below_append : (n : ℕ) (cs ds : List Channel) → AllBelow n cs → AllBelow n ds → AllBelow n (cs ++ ds)
below_append n [] ds p q = q
below_append n (c ∷ cs) ds p q = (p.0, below_append n cs ds p.1 q)

below_at : (n : ℕ) (cs : List Channel) → AllBelow n cs → (k : ℕ) (d : Channel) → k < length cs → Below n (get_or cs k d)
below_at n [] p k d h = absurd (omega arith)
below_at n (c ∷ cs) p zero d h = p.0
below_at n (c ∷ cs) p (suc k) d h = below_at n cs p.1 k d (omega arith)

slot_below : (trap : TrapValue) (s : ℕ) (e : End) → IsTrap trap → s < length trap.segments → (slot_end trap s e).slot < place_count trap
slot_below trap s A t h = let row = row_of trap s t h in omega (arith, row.some, row.within)
slot_below trap s B t h = let row = row_of trap s t h in omega (arith, row.some, row.within)

docks_below : (trap : TrapValue) (ls : List Link) → IsTrap trap → AreLinks trap ls → AllBelow (place_count trap) (flat_map (dock_channels trap) ls)
docks_below trap [] t known = tt
docks_below trap (links.Arm s e junction ∷ ls) t known = docks_below trap ls t known.1
docks_below trap (links.Dock zone e s f ∷ ls) t known =
    let slot = slot_below trap s f t known.0.1 in
    let here : zone < place_count trap = omega (arith, known.0.0) in
    ((here, slot), ((slot, here), docks_below trap ls t known.1))

pairs_below : (n place count : ℕ) → place + count < n → AllBelow n (flat_map move_channels (range_with_len place count))
pairs_below n place zero h = tt
pairs_below n place (suc count) h = ((omega arith, omega arith), ((omega arith, omega arith), pairs_below n (place + 1) count (omega arith)))

row_below : (n place slots : ℕ) → place + slots ≤ n → AllBelow n (flat_map move_channels (range_with_len place (slots - 1)))
row_below n place zero h = tt
row_below n place (suc slots) h = let same : suc slots - 1 ≡ slots = omega arith in rw same (pairs_below n place slots (omega arith))

moves_below : (n place : ℕ) (segments : List SegmentPart) → place + slot_count segments ≤ n → AllBelow n (moves_from place segments)
moves_below n place [] h = tt
moves_below n place (segment ∷ segments) h =
    below_append n (flat_map move_channels (range_with_len place (segment.slots - 1))) (moves_from (place + segment.slots) segments) (row_below n place segment.slots (omega arith)) (moves_below n (place + segment.slots) segments (omega arith))

abbrev pub ArmsBelow : ℕ → List SlotEnd → Type 0
ArmsBelow n [] = Unit {0}
ArmsBelow n (arm ∷ arms) = (arm.slot < n) × ArmsBelow n arms

cons_below : (n : ℕ) (arm : Option SlotEnd) (arms : List SlotEnd) → IfSome arm (λ a. a.slot < n) → ArmsBelow n arms → ArmsBelow n (cons_option arm arms)
cons_below n None arms p q = q
cons_below n (Some arm) arms p q = (p, q)

arms_below : (trap : TrapValue) (junction : ℕ) (ls : List Link) → IsTrap trap → AreLinks trap ls → ArmsBelow (place_count trap) (filter_map (arm_at trap junction) ls)
arms_below trap junction [] t known = tt
arms_below trap junction (links.Dock zone e s f ∷ ls) t known = arms_below trap junction ls t known.1
arms_below trap junction (links.Arm s e other ∷ ls) t known =
    cons_below (place_count trap) (arm_at trap junction (links.Arm s e other)) (filter_map (arm_at trap junction) ls)
    (cond_both (eqb junction other) (Some s) None (λ o. IfSome (option_map (λ segment. slot_end trap segment e) o) (λ a. a.slot < place_count trap)) (λ _. slot_below trap s e t known.0.0) (λ _. tt))
    (arms_below trap junction ls t known.1)

cross_below : (n junction : ℕ) (from to : SlotEnd) → from.slot < n → to.slot < n → AllBelow n (cross_channels junction from to)
cross_below n junction from to p q = cond_both (eqb from.slot to.slot) [] (cross junction from to ∷ []) (AllBelow n) (λ _. tt) (λ _. ((p, q), tt))

arm_below : (n junction : ℕ) (from : SlotEnd) (arms : List SlotEnd) → from.slot < n → ArmsBelow n arms → AllBelow n (flat_map (cross_channels junction from) arms)
arm_below n junction from [] p q = tt
arm_below n junction from (to ∷ arms) p q =
    below_append n (cross_channels junction from to) (flat_map (cross_channels junction from) arms) (cross_below n junction from to p q.0) (arm_below n junction from arms p q.1)

junction_below : (n junction : ℕ) (all arms : List SlotEnd) → ArmsBelow n all → ArmsBelow n arms → AllBelow n (flat_map (λ from. flat_map (cross_channels junction from) all) arms)
junction_below n junction all [] p q = tt
junction_below n junction all (from ∷ arms) p q =
    below_append n (flat_map (cross_channels junction from) all) (flat_map (λ f. flat_map (cross_channels junction f) all) arms) (arm_below n junction from all q.0 p) (junction_below n junction all arms p q.1)

crossings_below : (trap : TrapValue) (first count : ℕ) → IsTrap trap → AllBelow (place_count trap) (flat_map (crossings_of trap) (range_with_len first count))
crossings_below trap first zero t = tt
crossings_below trap first (suc count) t =
    let arms = arms_below trap first (links_of trap) t (links_known trap) in
    below_append (place_count trap) (crossings_of trap first) (flat_map (crossings_of trap) (range_with_len (first + 1) count)) (junction_below (place_count trap) first (arms_of trap first) (arms_of trap first) arms arms) (crossings_below trap (first + 1) count t)

pub channels_within : (trap : TrapValue) → IsTrap trap → AreWithin trap (channels_of trap)
channels_within trap t =
    let n = place_count trap in
    let docks = flat_map (dock_channels trap) (links_of trap) in
    let moves = moves_from (length trap.zones) trap.segments in
    let crossings = flat_map (crossings_of trap) (range_with_len 0 (length trap.junctions)) in
    let front = below_append n docks moves (docks_below trap (links_of trap) t (links_known trap)) (moves_below n (length trap.zones) trap.segments (omega arith)) in
    below_at n (docks ++ moves ++ crossings) (below_append n (docks ++ moves) crossings front (crossings_below trap 0 (length trap.junctions) t))
