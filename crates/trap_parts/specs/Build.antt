-- The trap that parts make, or the first test that they fail.
use Rattle.std.specs.Prelude.{◌≡◌, ◌≢◌, ℕ, ◌+◌, ◌<◌, ◌≤◌, ◌==◌, nat_lt, nat_le, Bool, true, false, not, ◌&&◌, IsTrue, List, [], ◌∷◌, ◌++◌, length, find, All, AllPairs, Option, None, Some, IsSome, Result, Ok, Err, if◌then◌else◌}
use Rattle.std.specs.Option.{ok_or}
use Rattle.std.specs.List.{filter_map, flat_map, list_any}
use Rattle.std.specs.Str.{bytes_eq}
use Rattle.trap_parts.specs.declared.parts.ZonePart.{ZonePart}
use Rattle.trap_parts.specs.declared.parts.SegmentPart.{SegmentPart}
use Rattle.trap_parts.specs.declared.parts.JoinPart.{JoinPart}
use Rattle.trap_parts.specs.declared.port.Port.{Port}
use Rattle.trap_parts.specs.declared.port.Port.TheVariants as ports
use Rattle.trap_parts.specs.declared.port.Link.{Link}
use Rattle.trap_parts.specs.declared.fault.Counted.{Counted}
use Rattle.trap_parts.specs.declared.fault.Counted.TheVariants.{Zones, Segments, Junctions, Slots}
use Rattle.trap_parts.specs.declared.fault.TrapFault.{TrapFault}
use Rattle.trap_parts.specs.declared.fault.TrapFault.TheVariants.{NoZone, TooMany, Double, Capacity, Length, Load, Unknown, Pair, EndTaken, Arms, NoMemory}
use Rattle.trap_parts.specs.Names.{is_name}
use Rattle.trap_parts.specs.Parts.{TrapValue, names_of, slot_count}
use Rattle.trap_parts.specs.Joins.{same_end, port_named, link_of, link_at, links_of, ends_of, segment_at, arms_of}

infixl 10 ◌>>=◌
abbrev pub ◌>>=◌ : {A B : Type 0} → Result A TrapFault → (A → Result B TrapFault) → Result B TrapFault
(Ok x) >>= f = f x
(Err e) >>= f = Err e

infixl 10 ◌>>◌
abbrev pub ◌>>◌ : {A B : Type 0} → Result A TrapFault → Result B TrapFault → Result B TrapFault
(Ok x) >> r = r
(Err e) >> r = Err e

-- what a call answered is what is said, unless memory ran out
abbrev pub Fails : {Y : Type 0} → TrapFault → Result Y TrapFault → Type 0
Fails NoMemory said = Unit {0}
Fails e said = said ≡ Err e

abbrev pub Gives : {X Y : Type 0} → (X → Y) → Result X TrapFault → Result Y TrapFault → Type 0
Gives see (Ok x) said = said ≡ Ok (see x)
Gives see (Err e) said = Fails e said

-- each name has the form of one
abbrev pub AreNames : List (List ℕ) → Type 0
AreNames names = All (λ name. IsTrue (is_name name)) names

abbrev pub is_between : ℕ → ℕ → ℕ → Bool
is_between low high number = nat_le low number && nat_le number high

abbrev pub unless : Bool → TrapFault → Result (Unit {0}) TrapFault
unless true fault = Ok tt
unless false fault = Err fault

-- the first that is refused, where one is
abbrev pub none_of : {X : Type 0} → (X → TrapFault) → Option X → Result (Unit {0}) TrapFault
none_of fault None = Ok tt
none_of fault (Some x) = Err (fault x)

-- no more of them than the limit
abbrev pub few : Counted → ℕ → ℕ → Result (Unit {0}) TrapFault
few what most count = unless (nat_le count most) (TooMany what)

-- the first name that occurred before
abbrev pub first_double : List (List ℕ) → List (List ℕ) → Option (List ℕ)
first_double before [] = None
first_double before (name ∷ names) =
    if list_any (bytes_eq name) before then Some name else first_double (before ++ name ∷ []) names

-- each zone has room for 1 to 32 ions
abbrev pub hold_ions : List ZonePart → Result (Unit {0}) TrapFault
hold_ions zones =
    none_of (λ zone. Capacity zone.name) (find (λ zone. not (is_between 1 32 zone.capacity)) zones)

-- each segment has 1 to 16 slots, and then a load of 1 to 16
abbrev pub are_measured : List SegmentPart → Result (Unit {0}) TrapFault
are_measured [] = Ok tt
are_measured (segment ∷ segments) =
    unless (is_between 1 16 segment.slots) (Length segment.name)
    >> unless (is_between 1 16 segment.load) (Load segment.name) >> are_measured segments

abbrev pub same_port : Port → Port → Bool
same_port (ports.Zone zone e) (ports.Zone other f) = zone == other && same_end e f
same_port (ports.Segment segment e) (ports.Segment other f) = segment == other && same_end e f
same_port (ports.Junction junction) (ports.Junction other) = junction == other
same_port (ports.Zone zone e) _ = false
same_port (ports.Segment segment e) _ = false
same_port (ports.Junction junction) _ = false

-- an end of the join is joined before
abbrev pub is_taken : List Link → Link → Bool
is_taken before link = list_any (λ end. list_any (same_port end) (flat_map ends_of before)) (ends_of link)

-- the join of a row, after those before it
unfoldable pub join_of : TrapValue → ℕ → List Link → JoinPart → Result Link TrapFault
join_of trap row before join = do
  first ← ok_or (port_named trap join.first.name join.first.end) (Unknown row)
  second ← ok_or (port_named trap join.second.name join.second.end) (Unknown row)
  link ← ok_or (link_of first second) (Pair row)
  unless (not (is_taken before link)) (EndTaken row)
  Ok link

-- the joins from a row on, after those before it
unfoldable pub joins_from : TrapValue → ℕ → List Link → List JoinPart → Result (List Link) TrapFault
joins_from trap row before [] = Ok before
joins_from trap row before (join ∷ joins) =
    join_of trap row before join >>= (λ link. joins_from trap (row + 1) (before ++ link ∷ []) joins)

-- the segments that have an end at a junction, in file order of the joins
abbrev pub segments_at : ℕ → List Link → List ℕ
segments_at junction links = filter_map (segment_at junction) links

abbrev pub all_differ : List ℕ → Bool
all_differ [] = true
all_differ (x ∷ xs) = not (list_any (λ y. y == x) xs) && all_differ xs

-- 2 to 4 arms, and at most one end of each segment
abbrev pub are_arms : List ℕ → Bool
are_arms segments = is_between 2 4 (length segments) && all_differ segments

-- the junctions from a number on
abbrev pub are_armed : List Link → ℕ → List (List ℕ) → Result (Unit {0}) TrapFault
are_armed links junction [] = Ok tt
are_armed links junction (name ∷ names) =
    unless (are_arms (segments_at junction links)) (Arms name) >> are_armed links (junction + 1) names

-- the tests of the parts by themselves
unfoldable pub parts_pass : TrapValue → Result (Unit {0}) TrapFault
parts_pass trap = do
  unless (nat_lt 0 (length trap.zones)) NoZone
  few Zones 32 (length trap.zones)
  few Segments 256 (length trap.segments)
  few Junctions 32 (length trap.junctions)
  none_of Double (first_double [] (names_of trap))
  hold_ions trap.zones
  are_measured trap.segments
  few Slots 256 (slot_count trap.segments)

-- The trap of the parts, or the first test that they fail: of the parts, of the joins row by row, of the
-- junctions.
unfoldable pub build_of : TrapValue → Result TrapValue TrapFault
build_of trap = do
  parts_pass trap
  links ← joins_from trap 1 [] trap.joins
  are_armed links 0 trap.junctions
  Ok trap

-- the arms of a junction
pub record HasArms (trap : TrapValue) (junction : ℕ) : Type 0 where
  pub some : 2 ≤ length (arms_of trap junction)
  pub few : length (arms_of trap junction) ≤ 4
  pub apart : AllPairs (λ segment other. segment ≢ other) (segments_at junction (links_of trap))

-- What each trap keeps: its limits, its names, and how its parts are joined.
pub record IsTrap (trap : TrapValue) : Type 0 where
  pub some : 1 ≤ length trap.zones
  pub zones : length trap.zones ≤ 32
  pub segments : length trap.segments ≤ 256
  pub slots : slot_count trap.segments ≤ 256
  pub junctions : length trap.junctions ≤ 32
  pub words : AreNames (names_of trap)
  pub names : AllPairs (λ name other. name ≢ other) (names_of trap)
  pub capacities : All (λ zone. (1 ≤ zone.capacity) × (zone.capacity ≤ 32)) trap.zones
  pub lengths : All (λ segment. (1 ≤ segment.slots) × (segment.slots ≤ 16)) trap.segments
  pub loads : All (λ segment. (1 ≤ segment.load) × (segment.load ≤ 16)) trap.segments
  pub joins : All (λ join. IsSome (link_at trap join)) trap.joins
  pub once : AllPairs (λ end other. end ≢ other) (flat_map ends_of (links_of trap))
  pub arms : (junction : ℕ) → junction < length trap.junctions → HasArms trap junction
