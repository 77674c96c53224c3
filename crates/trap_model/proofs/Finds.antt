-- The first channel that passes a test, part by part of the channels.
use Rattle.std.proofs.Common.{◌≡◌, ℕ, ◌+◌, ◌-◌, ◌<◌, ◌≤◌, Bool, true, false, cond, List, [], ◌∷◌, ◌++◌, length, find, Option, None, Some, zero, suc, refl, ap, ◌∙◌, arith, append_assoc, slice_get, eqb, length-append}
use Rattle.std.specs.List.{position_from, flat_map, range_with_len}
use Rattle.std.specs.Option.{option_and_then, option_or}
use Rattle.std.proofs.lemmas.Bool.{cond_both}
use Rattle.qc_base.specs.declared.ids.End.{End}
use Rattle.trap_parts.specs.declared.parts.SegmentPart.{SegmentPart}
use Rattle.trap_model.specs.declared.channel.Channel.{Channel}
use Rattle.trap_parts.specs.declared.port.Link.{Link}
use Rattle.trap_parts.specs.declared.port.Link.TheVariants as links
use Rattle.trap_parts.specs.declared.port.SlotEnd.{SlotEnd}
use Rattle.trap_parts.specs.Parts.{TrapValue}
use Rattle.trap_parts.specs.Joins.{links_of, slot_end, arms_of}
use Rattle.trap_model.specs.Channels.{split, merge, cross, dock_channels, move_channels, moves_from, cross_channels, crossings_of, channels_of, channel_at}
use Rattle.trap_model.proofs.Slots.{slice_get_right}

found_here : {X : Type 0} (p : X → Bool) (before : List X) (x : X) (xs : List X) (b : Bool)
    → option_and_then (λ k. slice_get (before ++ x ∷ xs) k) (position_from p (length before + 1) xs) ≡ find p xs
    → option_and_then (λ k. slice_get (before ++ x ∷ xs) k) (cond b (Some (length before)) (position_from p (length before + 1) xs)) ≡ cond b (Some x) (find p xs)
found_here p before x xs true e = let at : length before + 0 ≡ length before = omega arith in slice_get_right before (x ∷ xs) 0 (length before) at
found_here p before x xs false e = e

-- what is at the first position is the first that passes
pub found_at : {X : Type 0} (p : X → Bool) (before xs : List X) → option_and_then (λ k. slice_get (before ++ xs) k) (position_from p (length before) xs) ≡ find p xs
found_at p before [] = refl
found_at p before (x ∷ xs) =
    let len : length (before ++ x ∷ []) ≡ length before + 1 = omega (arith, length-append before (x ∷ [])) in
    let rest = rw (append_assoc, len) at (found_at p (before ++ x ∷ []) xs) in
    found_here p before x xs (p x) rest

pub channel_found : (trap : TrapValue) (p : Channel → Bool) → channel_at trap (position_from p 0 (channels_of trap)) ≡ find p (channels_of trap)
channel_found trap p = found_at p [] (channels_of trap)

or_cond : {X : Type 0} (b : Bool) (x : X) (o p : Option X) → cond b (Some x) (option_or o p) ≡ option_or (cond b (Some x) o) p
or_cond true x o p = refl
or_cond false x o p = refl

pub find-append : {X : Type 0} (p : X → Bool) (xs ys : List X) → find p (xs ++ ys) ≡ option_or (find p xs) (find p ys)
find-append p [] ys = refl
find-append p (x ∷ xs) ys = rw (find-append p xs ys) (or_cond (p x) x (find p xs) (find p ys))

pub or_none : {X : Type 0} (o : Option X) → option_or o None ≡ o
or_none None = refl
or_none (Some x) = refl

-- a test that refuses all channels of the joins
pub no_docks : (trap : TrapValue) (p : Channel → Bool) → ((zone : ℕ) (e : End) (s : SlotEnd) → p (split zone e s) ≡ false) → ((zone : ℕ) (e : End) (s : SlotEnd) → p (merge zone e s) ≡ false)
    → (ls : List Link) → find p (flat_map (dock_channels trap) ls) ≡ None
no_docks trap p splits merges [] = refl
no_docks trap p splits merges (links.Arm s e junction ∷ ls) = no_docks trap p splits merges ls
no_docks trap p splits merges (links.Dock zone e s f ∷ ls) = rw (splits zone e (slot_end trap s f), merges zone e (slot_end trap s f)) (no_docks trap p splits merges ls)

pub no_pairs : (p : Channel → Bool) → ((s : ℕ) → find p (move_channels s) ≡ None) → (place n : ℕ) → find p (flat_map move_channels (range_with_len place n)) ≡ None
no_pairs p none place zero = refl
no_pairs p none place (suc n) = rw (find-append p (move_channels place) (flat_map move_channels (range_with_len (place + 1) n)), none place) (no_pairs p none (place + 1) n)

-- one that refuses all moves
pub no_moves : (p : Channel → Bool) → ((s : ℕ) → find p (move_channels s) ≡ None) → (place : ℕ) (segments : List SegmentPart) → find p (moves_from place segments) ≡ None
no_moves p none place [] = refl
no_moves p none place (segment ∷ segments) =
    rw (find-append p (flat_map move_channels (range_with_len place (segment.slots - 1))) (moves_from (place + segment.slots) segments), no_pairs p none place (segment.slots - 1)) (no_moves p none (place + segment.slots) segments)

no_cross : (p : Channel → Bool) (junction : ℕ) (from to : SlotEnd) → p (cross junction from to) ≡ false → find p (cross_channels junction from to) ≡ None
no_cross p junction from to none = cond_both (eqb from.slot to.slot) [] (cross junction from to ∷ []) (λ c. find p c ≡ None) (λ _. refl) (λ _. rw none refl)

no_arm : (p : Channel → Bool) (junction : ℕ) → ((from to : SlotEnd) → p (cross junction from to) ≡ false) → (from : SlotEnd) (arms : List SlotEnd) → find p (flat_map (cross_channels junction from) arms) ≡ None
no_arm p junction none from [] = refl
no_arm p junction none from (to ∷ arms) = rw (find-append p (cross_channels junction from to) (flat_map (cross_channels junction from) arms), no_cross p junction from to (none from to)) (no_arm p junction none from arms)

pub no_junction : (p : Channel → Bool) (junction : ℕ) → ((from to : SlotEnd) → p (cross junction from to) ≡ false) → (all arms : List SlotEnd) → find p (flat_map (λ from. flat_map (cross_channels junction from) all) arms) ≡ None
no_junction p junction none all [] = refl
no_junction p junction none all (from ∷ arms) =
    rw (find-append p (flat_map (cross_channels junction from) all) (flat_map (λ f. flat_map (cross_channels junction f) all) arms), no_arm p junction none from all) (no_junction p junction none all arms)

-- one that refuses all crossings
pub no_crossings : (trap : TrapValue) (p : Channel → Bool) (first n : ℕ) → ((junction : ℕ) → first ≤ junction → junction < first + n → (from to : SlotEnd) → p (cross junction from to) ≡ false) → find p (flat_map (crossings_of trap) (range_with_len first n)) ≡ None
no_crossings trap p first zero none = refl
no_crossings trap p first (suc n) none =
    rw (find-append p (crossings_of trap first) (flat_map (crossings_of trap) (range_with_len (first + 1) n)), no_junction p first (none first (omega arith) (omega arith)) (arms_of trap first) (arms_of trap first))
    (no_crossings trap p (first + 1) n (λ junction h below. none junction (omega arith) (omega arith)))

-- the three parts of the channels
pub find_parts : (trap : TrapValue) (p : Channel → Bool) → find p (channels_of trap)
    ≡ option_or (option_or (find p (flat_map (dock_channels trap) (links_of trap))) (find p (moves_from (length trap.zones) trap.segments))) (find p (flat_map (crossings_of trap) (range_with_len 0 (length trap.junctions))))
find_parts trap p =
    find-append p (flat_map (dock_channels trap) (links_of trap) ++ moves_from (length trap.zones) trap.segments) (flat_map (crossings_of trap) (range_with_len 0 (length trap.junctions)))
    ∙ ap (λ o. option_or o (find p (flat_map (crossings_of trap) (range_with_len 0 (length trap.junctions))))) (find-append p (flat_map (dock_channels trap) (links_of trap)) (moves_from (length trap.zones) trap.segments))
