-- Parts that keep what each trap keeps pass all tests.
use Rattle.std.proofs.Common.{◌≡◌, ◌≢◌, ℕ, ◌+◌, ◌<◌, ◌≤◌, Bool, true, false, not, List, [], ◌∷◌, ◌++◌, length, get_or, find, Option, None, Some, Ok, suc, refl, sym, ◌∙◌, arith, eqb, leb, append_assoc, length-append}
use Rattle.std.specs.Bool.{Decides}
use Rattle.std.specs.List.{All, AllPairs, list_any, filter_map, flat_map}
use Rattle.std.specs.Option.{option_and_then, IsSome}
use Rattle.std.proofs.lemmas.Bool.{le-leb, lt-ltb, and_from, false_from_ne_true, both_ways, ne_eqb}
use Rattle.std.proofs.lemmas.List.{append-nil, get_or_append_left, get_or-append-add, get_or_default}
use Rattle.std.proofs.lemmas.List.Concat.{flat_map-append}
use Rattle.std.proofs.lemmas.List.Folds.{list_any_none}
use Rattle.std.proofs.lemmas.Option.{none-some}
use Rattle.std.proofs.lemmas.Slice.Eq.{bytes_eq-Decides}
use Rattle.std.specs.Str.{bytes_eq}
use Rattle.trap_parts.specs.declared.parts.ZonePart.{ZonePart}
use Rattle.trap_parts.specs.declared.parts.SegmentPart.{SegmentPart}
use Rattle.trap_parts.specs.declared.parts.JoinPart.{JoinPart}
use Rattle.trap_parts.specs.declared.port.Port.{Port}
use Rattle.trap_parts.specs.declared.port.Port.TheVariants as ports
use Rattle.trap_parts.specs.declared.port.Link.{Link}
use Rattle.trap_parts.specs.declared.port.Link.TheVariants as links
use Rattle.trap_parts.specs.declared.fault.Counted.{Counted}
use Rattle.trap_parts.specs.Parts.{TrapValue, names_of, slot_count}
use Rattle.trap_parts.specs.Joins.{port_named, link_of, link_at, links_of, ends_of}
use Rattle.trap_parts.specs.Build.{few, first_double, is_between, hold_ions, are_measured, same_port, is_taken, join_of, joins_from, segments_at, all_differ, are_arms, are_armed, parts_pass, build_of, IsTrap, HasArms}
use Rattle.trap_parts.proofs.Joined.{same_port_decides}
use Rattle.trap_parts.proofs.Sound.{length-arms}

between_from : (low high n : ℕ) → low ≤ n → n ≤ high → is_between low high n ≡ true
between_from low high n p q = and_from (leb low n) (leb n high) (le-leb low n p) (le-leb n high q)

few_from : (what : Counted) (most count : ℕ) → count ≤ most → few what most count ≡ Ok tt
few_from what most count h = rw (le-leb count most h) refl

default_at : {X : Type 0} (xs : List X) (k : ℕ) (d y : X) → k < length xs → get_or xs k y ≡ y → get_or xs k d ≡ y
default_at xs k d y h at = get_or_default xs k d y h ∙ at

-- a list whose members all differ, cut in two: none of the front is one of the back
apart_from : {X : Type 0} (same : X → X → Bool) (decides : (x y : X) → Decides (same x y) (x ≡ y)) (front back : List X) (k : ℕ) (y : X) → AllPairs (λ a b. a ≢ b) (front ++ back) → k < length back → get_or back k y ≡ y → list_any (same y) front ≡ false
apart_from same decides front back k y all h at =
    list_any_none (same y) front (λ i d below. false_from_ne_true (same y (get_or front i d)) (λ e.
    let is : y ≡ get_or front i d = (decides y (get_or front i d)).0 e in
    all i (length front + k) d (omega arith) (omega (arith, length-append front back))
    (get_or_append_left front back d i below ∙ sym is ∙ sym (get_or-append-add front back k d ∙ default_at back k d y h at))))

-- distinct names have no double
no_double : (before names : List (List ℕ)) → AllPairs (λ a b. a ≢ b) (before ++ names) → first_double before names ≡ None
no_double before [] all = refl
no_double before (name ∷ names) all =
    let none = apart_from bytes_eq bytes_eq-Decides before (name ∷ names) 0 name all (omega arith) refl in
    rw none (no_double (before ++ name ∷ []) names (rw append_assoc all))

find_nothing : {X : Type 0} (p : X → Bool) (xs : List X) → All (λ x. p x ≡ false) xs → find p xs ≡ None
find_nothing p [] all = refl
find_nothing p (x ∷ xs) all = let first : p x ≡ false = all 0 x (omega arith) in rw first (find_nothing p xs (λ k d h. all (suc k) d (omega arith)))

holds : (zones : List ZonePart) → All (λ zone. (1 ≤ zone.capacity) × (zone.capacity ≤ 32)) zones → hold_ions zones ≡ Ok tt
holds zones all =
    rw (find_nothing (λ (zone : ZonePart). not (is_between 1 32 zone.capacity)) zones (λ k d h. let b = all k d h in rw (between_from 1 32 (get_or zones k d).capacity b.0 b.1) refl)) refl

measured : (segments : List SegmentPart) → All (λ segment. (1 ≤ segment.slots) × (segment.slots ≤ 16)) segments → All (λ segment. (1 ≤ segment.load) × (segment.load ≤ 16)) segments → are_measured segments ≡ Ok tt
measured [] lengths loads = refl
measured (segment ∷ segments) lengths loads =
    let l = lengths 0 segment (omega arith) in
    let m = loads 0 segment (omega arith) in
    rw (between_from 1 16 segment.slots l.0 l.1, between_from 1 16 segment.load m.0 m.1) (measured segments (λ k d h. lengths (suc k) d (omega arith)) (λ k d h. loads (suc k) d (omega arith)))

second_port : (trap : TrapValue) (first : Port) (second : Option Port) (link : Link) → option_and_then (link_of first) second ≡ Some link → (s : Port) × (second ≡ Some s) × (link_of first s ≡ Some link)
second_port trap first None link e = absurd (none-some link e)
second_port trap first (Some s) link e = (s, refl, e)

both_ports : (trap : TrapValue) (first second : Option Port) (link : Link) → option_and_then (λ f. option_and_then (link_of f) second) first ≡ Some link
    → (f : Port) × (s : Port) × (first ≡ Some f) × (second ≡ Some s) × (link_of f s ≡ Some link)
both_ports trap None second link e = absurd (none-some link e)
both_ports trap (Some f) second link e = let p = second_port trap f second link e in (f, p.0, refl, p.1, p.2)

-- a join that is known and free passes
join_with : (trap : TrapValue) (row : ℕ) (before : List Link) (join : JoinPart) (link : Link) (first second : Port) → port_named trap join.first.name join.first.«end» ≡ Some first → port_named trap join.second.name join.second.«end» ≡ Some second
    → link_of first second ≡ Some link → is_taken before link ≡ false → join_of trap row before join ≡ Ok link
unfolding join_of
join_with trap row before join link first second one two linked free = rw (one, two, linked, free) refl

join_accepted : (trap : TrapValue) (row : ℕ) (before : List Link) (join : JoinPart) (link : Link) → link_at trap join ≡ Some link → is_taken before link ≡ false → join_of trap row before join ≡ Ok link
join_accepted trap row before join link e free =
    let p = both_ports trap (port_named trap join.first.name join.first.«end») (port_named trap join.second.name join.second.«end») link e in
    join_with trap row before join link p.0 p.1 p.2 p.3 p.4 free

-- an end of a link that comes later is free
end_free : (before : List Link) (link : Link) (rest : List Link) (k : ℕ) (p : Port) → AllPairs (λ a b. a ≢ b) (flat_map ends_of (before ++ link ∷ rest)) → k < length (ends_of link) → get_or (ends_of link) k p ≡ p
    → list_any (same_port p) (flat_map ends_of before) ≡ false
end_free before link rest k p all h at =
    let cut = flat_map-append ends_of before (link ∷ rest) in
    let back = flat_map ends_of (link ∷ rest) in
    apart_from same_port same_port_decides (flat_map ends_of before) back k p (rw cut at all) (omega (arith, length-append (ends_of link) (flat_map ends_of rest), h)) (get_or_append_left (ends_of link) (flat_map ends_of rest) p k h ∙ at)

is_free : (before : List Link) (link : Link) (rest : List Link) → AllPairs (λ a b. a ≢ b) (flat_map ends_of (before ++ link ∷ rest)) → is_taken before link ≡ false
is_free before (links.Dock zone e s f) rest all =
    rw (end_free before (links.Dock zone e s f) rest 0 (ports.Zone zone e) all (omega arith) refl, end_free before (links.Dock zone e s f) rest 1 (ports.Segment s f) all (omega arith) refl) refl
is_free before (links.Arm s e junction) rest all = rw (end_free before (links.Arm s e junction) rest 0 (ports.Segment s e) all (omega arith) refl) refl

known_link : (o : Option Link) → IsSome o → (link : Link) × (o ≡ Some link)
known_link (Some link) s = (link, refl)
known_link None s = absurd (both_ways false refl s)

joins_step : (trap : TrapValue) (row : ℕ) (before : List Link) (join : JoinPart) (joins : List JoinPart) (link : Link) (answer : List Link) → join_of trap row before join ≡ Ok link
    → joins_from trap (row + 1) (before ++ link ∷ []) joins ≡ Ok answer → joins_from trap row before (join ∷ joins) ≡ Ok answer
unfolding joins_from
joins_step trap row before join joins link answer one rest = rw one rest

joins_none : (trap : TrapValue) (row : ℕ) (before : List Link) → joins_from trap row before [] ≡ Ok before
unfolding joins_from
joins_none trap row before = refl

joins_accepted : (trap : TrapValue) (row : ℕ) (before : List Link) (joins : List JoinPart) → All (λ join. IsSome (link_at trap join)) joins → AllPairs (λ a b. a ≢ b) (flat_map ends_of (before ++ filter_map (link_at trap) joins))
    → joins_from trap row before joins ≡ Ok (before ++ filter_map (link_at trap) joins)
joins_accepted trap row before [] known once = rw append-nil (joins_none trap row before)
joins_accepted trap row before (join ∷ joins) known once =
    let k = known_link (link_at trap join) (known 0 join (omega arith)) in
    let link = k.0 in
    let rest = filter_map (link_at trap) joins in
    let all : AllPairs (λ a b. a ≢ b) (flat_map ends_of (before ++ link ∷ rest)) = rw k.1 at once in
    let more : AllPairs (λ a b. a ≢ b) (flat_map ends_of ((before ++ link ∷ []) ++ rest)) = rw append_assoc all in
    let one = join_accepted trap row before join link k.1 (is_free before link rest all) in
    let tail = joins_accepted trap (row + 1) (before ++ link ∷ []) joins (λ i d h. known (suc i) d (omega arith)) more in
    rw k.1 (joins_step trap row before join joins link (before ++ link ∷ rest) one (rw append_assoc at tail))

differ_from : (xs : List ℕ) → AllPairs (λ a b. a ≢ b) xs → all_differ xs ≡ true
differ_from [] all = refl
differ_from (x ∷ xs) all =
    let none : list_any (λ y. eqb y x) xs ≡ false = list_any_none (λ y. eqb y x) xs (λ k d h. ne_eqb (get_or xs k d) x (λ same. all 0 (suc k) d (omega arith) (omega arith) (sym same))) in
    rw none (differ_from xs (λ i j d below h. all (suc i) (suc j) d (omega arith) (omega arith)))

arms_accepted : (trap : TrapValue) (junction : ℕ) → HasArms trap junction → are_arms (segments_at junction (links_of trap)) ≡ true
arms_accepted trap junction a =
    let segments = segments_at junction (links_of trap) in
    let len = length-arms trap junction (links_of trap) in
    and_from (is_between 2 4 (length segments)) (all_differ segments) (between_from 2 4 (length segments) (omega (arith, a.some, len)) (omega (arith, a.few, len))) (differ_from segments a.apart)

armed : (trap : TrapValue) (first : ℕ) (names : List (List ℕ)) → ((junction : ℕ) → junction < first + length names → HasArms trap junction) → are_armed (links_of trap) first names ≡ Ok tt
armed trap first [] has = refl
armed trap first (name ∷ names) has = rw (arms_accepted trap first (has first (omega arith))) (armed trap (first + 1) names (λ junction h. has junction (omega arith)))

tests_accepted : (trap : TrapValue) → IsTrap trap → parts_pass trap ≡ Ok tt
unfolding parts_pass
tests_accepted trap t =
    rw (
      lt-ltb 0 (length trap.zones) (omega (arith, t.some)),
      le-leb (length trap.zones) 32 t.zones,
      le-leb (length trap.segments) 256 t.segments,
      le-leb (length trap.junctions) 32 t.junctions,
      no_double [] (names_of trap) t.names,
      holds trap.zones t.capacities,
      measured trap.segments t.lengths t.loads,
      le-leb (slot_count trap.segments) 256 t.slots,
    ) refl

-- Parts that keep what each trap keeps are a trap.
pub accepted : (trap : TrapValue) → IsTrap trap → build_of trap ≡ Ok trap
unfolding build_of
accepted trap t =
    rw (tests_accepted trap t, joins_accepted trap 1 [] trap.joins t.joins t.once, armed trap 0 trap.junctions (λ junction h. t.arms junction (omega arith))) refl
