-- The parts that the joins of a trap name are there.
use Rattle.std.proofs.Common.{◌≡◌, ℕ, ◌+◌, ◌<◌, Bool, true, false, cond, List, [], ◌∷◌, length, get_or, Option, None, Some, zero, suc, arith, eqb}
use Rattle.std.proofs.lemmas.Option.{none-some, cond_some, same_Some}
use Rattle.std.specs.Option.{option_map, option_or, option_and_then, IfSome}
use Rattle.std.specs.List.{filter_map, position_from, cons_option}
use Rattle.std.specs.Str.{bytes_eq}
use Rattle.qc_base.specs.declared.ids.End.{End}
use Rattle.trap_parts.specs.declared.parts.JoinPart.{JoinPart}
use Rattle.trap_parts.specs.declared.port.Port.{Port}
use Rattle.trap_parts.specs.declared.port.Port.TheVariants as ports
use Rattle.trap_parts.specs.declared.port.Link.{Link}
use Rattle.trap_parts.specs.declared.port.Link.TheVariants as links
use Rattle.trap_parts.specs.Parts.{TrapValue, junction_named}
use Rattle.trap_parts.specs.Joins.{zone_named, segment_named, port_named, link_of, link_at, links_of, segment_at}

-- the part of a port is there
abbrev pub IsPort : TrapValue → Port → Type 0
IsPort trap (ports.Zone zone e) = zone < length trap.zones
IsPort trap (ports.Segment segment e) = segment < length trap.segments
IsPort trap (ports.Junction junction) = junction < length trap.junctions

-- both parts of a join are there
abbrev pub IsLink : TrapValue → Link → Type 0
IsLink trap (links.Dock zone e segment f) = (zone < length trap.zones) × (segment < length trap.segments)
IsLink trap (links.Arm segment e junction) = (segment < length trap.segments) × (junction < length trap.junctions)

one_later : (i n : ℕ) (o : Option ℕ) → IfSome o (λ k. k < (i + 1) + n) → IfSome o (λ k. k < i + suc n)
one_later i n None h = tt
one_later i n (Some k) h = omega arith

at_first : (b : Bool) (i n : ℕ) (o : Option ℕ) → IfSome o (λ k. k < i + suc n) → IfSome (cond b (Some i) o) (λ k. k < i + suc n)
at_first true i n o h = omega arith
at_first false i n o h = h

pub position_within : {X : Type 0} (p : X → Bool) (i : ℕ) (xs : List X) → IfSome (position_from p i xs) (λ k. k < i + length xs)
position_within p i [] = tt
position_within p i (x ∷ xs) =
    at_first (p x) i (length xs) (position_from p (i + 1) xs) (one_later i (length xs) (position_from p (i + 1) xs) (position_within p (i + 1) xs))

port_from : (trap : TrapValue) (e : End) (zone segment : Option ℕ) → IfSome zone (λ k. k < 0 + length trap.zones) → IfSome segment (λ k. k < 0 + length trap.segments)
    → IfSome (option_or (option_map (λ z. ports.Zone z e) zone) (option_map (λ s. ports.Segment s e) segment)) (IsPort trap)
port_from trap e None None p q = tt
port_from trap e None (Some s) p q = omega arith
port_from trap e (Some z) segment p q = omega arith

junction_from : (trap : TrapValue) (junction : Option ℕ) → IfSome junction (λ k. k < 0 + length trap.junctions) → IfSome (option_map (λ j. ports.Junction j) junction) (IsPort trap)
junction_from trap None p = tt
junction_from trap (Some j) p = omega arith

pub port_known : (trap : TrapValue) (name : List ℕ) (end : Option End) → IfSome (port_named trap name end) (IsPort trap)
port_known trap name (Some e) =
    port_from trap e (zone_named trap name) (segment_named trap name) (position_within (λ zone. bytes_eq zone.name name) 0 trap.zones) (position_within (λ segment. bytes_eq segment.name name) 0 trap.segments)
port_known trap name None = junction_from trap (junction_named trap name) (position_within (λ junction. bytes_eq junction name) 0 trap.junctions)

pub link_known : (trap : TrapValue) (first second : Port) → IsPort trap first → IsPort trap second → IfSome (link_of first second) (IsLink trap)
link_known trap (ports.Zone zone e) (ports.Segment segment f) p q = (p, q)
link_known trap (ports.Segment segment f) (ports.Zone zone e) p q = (q, p)
link_known trap (ports.Segment segment e) (ports.Junction junction) p q = (p, q)
link_known trap (ports.Junction junction) (ports.Segment segment e) p q = (q, p)
link_known trap (ports.Zone zone e) (ports.Zone other f) p q = tt
link_known trap (ports.Zone zone e) (ports.Junction junction) p q = tt
link_known trap (ports.Segment segment e) (ports.Segment other f) p q = tt
link_known trap (ports.Junction junction) (ports.Zone zone e) p q = tt
link_known trap (ports.Junction junction) (ports.Junction other) p q = tt

second_known : (trap : TrapValue) (first : Port) (second : Option Port) → IsPort trap first → IfSome second (IsPort trap) → IfSome (option_and_then (link_of first) second) (IsLink trap)
second_known trap first None p q = tt
second_known trap first (Some second) p q = link_known trap first second p q

both_known : (trap : TrapValue) (first second : Option Port) → IfSome first (IsPort trap) → IfSome second (IsPort trap) → IfSome (option_and_then (λ f. option_and_then (link_of f) second) first) (IsLink trap)
both_known trap None second p q = tt
both_known trap (Some first) second p q = second_known trap first second p q

pub join_known : (trap : TrapValue) (join : JoinPart) → IfSome (link_at trap join) (IsLink trap)
join_known trap join =
    both_known trap (port_named trap join.first.name join.first.end) (port_named trap join.second.name join.second.end) (port_known trap join.first.name join.first.end) (port_known trap join.second.name join.second.end)

-- each of the links that are left
abbrev pub AreLinks : TrapValue → List Link → Type 0
AreLinks trap [] = Unit {0}
AreLinks trap (link ∷ rest) = IsLink trap link × AreLinks trap rest

cons_known : (trap : TrapValue) (link : Option Link) (rest : List Link) → IfSome link (IsLink trap) → AreLinks trap rest → AreLinks trap (cons_option link rest)
cons_known trap None rest p q = q
cons_known trap (Some link) rest p q = (p, q)

joins_known : (trap : TrapValue) (joins : List JoinPart) → AreLinks trap (filter_map (link_at trap) joins)
joins_known trap [] = tt
joins_known trap (join ∷ joins) = cons_known trap (link_at trap join) (filter_map (link_at trap) joins) (join_known trap join) (joins_known trap joins)

pub links_known : (trap : TrapValue) → AreLinks trap (links_of trap)
links_known trap = joins_known trap trap.joins

pub known_at : (trap : TrapValue) (rest : List Link) (k : ℕ) (d : Link) → AreLinks trap rest → k < length rest → IsLink trap (get_or rest k d)
known_at trap [] k d p h = absurd (omega arith)
known_at trap (link ∷ rest) zero d p h = p.0
known_at trap (link ∷ rest) (suc k) d p h = known_at trap rest k d p.1 (omega arith)

-- the parts of the join of a zone that is there
pub dock_known : (trap : TrapValue) (ls : List Link) (k : ℕ) (d : Link) (zone : ℕ) (e : End) (segment : ℕ) (f : End) → ls ≡ links_of trap → k < length ls
    → get_or ls k d ≡ links.Dock zone e segment f → IsLink trap (links.Dock zone e segment f)
dock_known trap ls k d zone e segment f same h is =
    let all : AreLinks trap ls = rw same (links_known trap) in
    rw is at (known_at trap ls k d all h)

arm_segment : (trap : TrapValue) (junction segment : ℕ) (link : Link) → IsLink trap link → segment_at junction link ≡ Some segment → segment < length trap.segments
arm_segment trap junction segment (links.Dock zone e other f) p is = absurd (none-some segment is)
arm_segment trap junction segment (links.Arm other e j) p is = let same = (cond_some (eqb junction j) other segment is).1 in rw same at p.0

-- the segment of the join of a junction that is there
pub arm_known : (trap : TrapValue) (ls : List Link) (k : ℕ) (d : Link) (junction segment : ℕ) → ls ≡ links_of trap → k < length ls
    → segment_at junction (get_or ls k d) ≡ Some segment → segment < length trap.segments
arm_known trap ls k d junction segment same h is =
    let all : AreLinks trap ls = rw same (links_known trap) in
    arm_segment trap junction segment (get_or ls k d) (known_at trap ls k d all h) is

some_within : (n : ℕ) (o : Option ℕ) (k : ℕ) → IfSome o (λ j. j < 0 + n) → o ≡ Some k → k < n
some_within n None k p is = absurd (none-some k is)
some_within n (Some j) k p is = let same : j ≡ k = same_Some j k is in omega (arith, p, same)

-- a position is in the list
pub position_at : {X : Type 0} (p : X → Bool) (xs : List X) (k : ℕ) → position_from p 0 xs ≡ Some k → k < length xs
position_at p xs k is = some_within (length xs) (position_from p 0 xs) k (position_within p 0 xs) is
