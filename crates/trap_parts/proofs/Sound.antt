-- Parts that pass all tests keep what each trap keeps.
use Rattle.std.proofs.Common.{◌≡◌, ◌≢◌, ℕ, ◌+◌, ◌<◌, ◌≤◌, true, not, List, [], ◌∷◌, length, get_or, Option, None, Some, Result, Ok, Err, zero, suc, refl, sym, ap, arith, eqb, leb, ltb}
use Rattle.std.specs.List.{list_any, filter_map, cons_option}
use Rattle.std.specs.Option.{option_map}
use Rattle.std.proofs.lemmas.Bool.{and_parts, not-true, leb-true, ltb-true}
use Rattle.std.proofs.lemmas.Bool.Decides.{Decides-eqb}
use Rattle.trap_parts.specs.declared.port.Link.{Link}
use Rattle.trap_parts.specs.declared.port.SlotEnd.{SlotEnd}
use Rattle.trap_parts.specs.declared.fault.Counted.{Counted}
use Rattle.trap_parts.specs.declared.fault.Counted.TheVariants.{Zones, Segments, Junctions, Slots}
use Rattle.trap_parts.specs.declared.fault.TrapFault.{TrapFault}
use Rattle.trap_parts.specs.declared.fault.TrapFault.TheVariants.{NoZone, TooMany, Double}
use Rattle.trap_parts.specs.Parts.{TrapValue, names_of, slot_count}
use Rattle.trap_parts.specs.Joins.{links_of, arm_at, slot_end, segment_at, segment_end}
use Rattle.trap_parts.specs.Build.{◌>>=◌, unless, none_of, few, first_double, hold_ions, are_measured, are_armed, are_arms, all_differ, is_between, segments_at, parts_pass, joins_from, build_of, AreNames, IsTrap, HasArms}
use Rattle.trap_parts.proofs.Passed.{err_ok, then_parts, unless_passes, none_passes, between, capacities_of, lengths_of, loads_of, armed_at}
use Rattle.trap_parts.proofs.Distinct.{names_distinct, all_pairs_none, differs}
use Rattle.trap_parts.proofs.Joined.{links_are, joins_known, joins_once}

few_passes : (what : Counted) (most count : ℕ) → few what most count ≡ Ok tt → count ≤ most
few_passes what most count e = leb-true count most (unless_passes (leb count most) (TooMany what) e)

-- what the tests of the parts by themselves say
pub record PartsPass (trap : TrapValue) : Type 0 where
  pub some : 0 < length trap.zones
  pub zones : length trap.zones ≤ 32
  pub segments : length trap.segments ≤ 256
  pub junctions : length trap.junctions ≤ 32
  pub names : first_double [] (names_of trap) ≡ None
  pub hold : hold_ions trap.zones ≡ Ok tt
  pub measured : are_measured trap.segments ≡ Ok tt
  pub slots : slot_count trap.segments ≤ 256

pub tests_pass : (trap : TrapValue) → parts_pass trap ≡ Ok tt → PartsPass trap
unfolding parts_pass
tests_pass trap e =
    let a = then_parts (unless (ltb 0 (length trap.zones)) NoZone) _ tt e in
    let b = then_parts (few Zones 32 (length trap.zones)) _ tt a.1 in
    let c = then_parts (few Segments 256 (length trap.segments)) _ tt b.1 in
    let d = then_parts (few Junctions 32 (length trap.junctions)) _ tt c.1 in
    let f = then_parts (none_of Double (first_double [] (names_of trap))) _ tt d.1 in
    let g = then_parts (hold_ions trap.zones) _ tt f.1 in
    let h = then_parts (are_measured trap.segments) _ tt g.1 in
    record {
      some = ltb-true 0 (length trap.zones) (unless_passes (ltb 0 (length trap.zones)) NoZone a.0);
      zones = few_passes Zones 32 (length trap.zones) b.0;
      segments = few_passes Segments 256 (length trap.segments) c.0;
      junctions = few_passes Junctions 32 (length trap.junctions) d.0;
      names = none_passes Double (first_double [] (names_of trap)) f.0;
      hold = g.0;
      measured = h.0;
      slots = few_passes Slots 256 (slot_count trap.segments) h.1;
    }

all_differ_at : (xs : List ℕ) → all_differ xs ≡ true → (i j d : ℕ) → i < j → j < length xs → get_or xs i d ≢ get_or xs j d
all_differ_at [] e i j d below h = absurd (omega arith)
all_differ_at (x ∷ xs) e zero zero d below h = absurd (omega arith)
all_differ_at (x ∷ xs) e zero (suc j) d below h =
    let parts = and_parts (not (list_any (λ y. eqb y x) xs)) (all_differ xs) e in
    let none = not-true (list_any (λ y. eqb y x) xs) parts.0 in
    λ same. differs (λ a b. eqb b a) (λ a b. ((λ p. sym ((Decides-eqb b a).0 p)), (λ p. (Decides-eqb b a).1 (sym p)))) x xs none j d (omega arith) (sym same)
all_differ_at (x ∷ xs) e (suc i) zero d below h = absurd (omega arith)
all_differ_at (x ∷ xs) e (suc i) (suc j) d below h =
    all_differ_at xs (and_parts (not (list_any (λ y. eqb y x) xs)) (all_differ xs) e).1 i j d (omega arith) (omega arith)

-- a junction has as many arms as segments that have an end there
arms_step : (f : ℕ → SlotEnd) (o : Option ℕ) (xs : List SlotEnd) (ys : List ℕ) → length xs ≡ length ys → length (cons_option (option_map f o) xs) ≡ length (cons_option o ys)
arms_step f None xs ys e = e
arms_step f (Some s) xs ys e = ap suc e

pub length-arms : (trap : TrapValue) (junction : ℕ) (ls : List Link) → length (filter_map (arm_at trap junction) ls) ≡ length (segments_at junction ls)
length-arms trap junction [] = refl
length-arms trap junction (link ∷ ls) = arms_step (λ segment. slot_end trap segment (segment_end link)) (segment_at junction link) (filter_map (arm_at trap junction) ls) (segments_at junction ls) (length-arms trap junction ls)

has_arms : (trap : TrapValue) (junction : ℕ) → are_arms (segments_at junction (links_of trap)) ≡ true → HasArms trap junction
has_arms trap junction e =
    let segments = segments_at junction (links_of trap) in
    let parts = and_parts (is_between 2 4 (length segments)) (all_differ segments) e in
    let bounds = between 2 4 (length segments) parts.0 in
    record {
      some = omega (arith, bounds.0, length-arms trap junction (links_of trap));
      few = omega (arith, bounds.1, length-arms trap junction (links_of trap));
      apart = λ i j d below h. all_differ_at segments parts.1 i j d below h;
    }

pub links_of_joins : (trap : TrapValue) (ls : List Link) → joins_from trap 1 [] trap.joins ≡ Ok ls → ls ≡ links_of trap
links_of_joins trap ls e = links_are trap 1 [] trap.joins ls e

-- the trap of parts that pass
pub sound : (trap : TrapValue) (ls : List Link) → AreNames (names_of trap) → parts_pass trap ≡ Ok tt → joins_from trap 1 [] trap.joins ≡ Ok ls → are_armed ls 0 trap.junctions ≡ Ok tt → IsTrap trap
sound trap ls words parts joins junctions =
    let p = tests_pass trap parts in
    let same = links_of_joins trap ls joins in
    record {
      some = p.some;
      zones = p.zones;
      segments = p.segments;
      slots = p.slots;
      junctions = p.junctions;
      words = words;
      names = names_distinct [] (names_of trap) (all_pairs_none (λ a b. a ≢ b)) p.names;
      capacities = capacities_of trap.zones p.hold;
      lengths = lengths_of trap.segments p.measured;
      loads = loads_of trap.segments p.measured;
      joins = joins_known trap 1 [] trap.joins ls joins;
      once = rw same at (joins_once trap 1 [] trap.joins ls (all_pairs_none (λ a b. a ≢ b)) joins);
      arms = λ junction h.
          let number : 0 + junction ≡ junction = omega arith in
          has_arms trap junction (rw (number, same) at (armed_at ls 0 trap.junctions junctions junction h));
    }

ok_same : (x y : TrapValue) → ◌≡◌ {A = Result TrapValue TrapFault} (Ok x) (Ok y) → x ≡ y
ok_same x y e = cc

bind_parts : {X Y : Type 0} (first : Result X TrapFault) (next : X → Result Y TrapFault) (y : Y) → (first >>= next) ≡ Ok y → (x : X) × (first ≡ Ok x) × (next x ≡ Ok y)
bind_parts (Ok x) next y e = (x, refl, e)
bind_parts (Err fault) next y e = absurd (err_ok fault y e)

-- what build answers are the parts
pub record IsBuilt (trap answer : TrapValue) : Type 0 where
  pub links : List Link
  pub parts : parts_pass trap ≡ Ok tt
  pub joins : joins_from trap 1 [] trap.joins ≡ Ok links
  pub junctions : are_armed links 0 trap.junctions ≡ Ok tt
  pub same : answer ≡ trap

pub built : (trap answer : TrapValue) → build_of trap ≡ Ok answer → IsBuilt trap answer
unfolding build_of
built trap answer e =
    let a = then_parts (parts_pass trap) _ answer e in
    let b = bind_parts (joins_from trap 1 [] trap.joins) _ answer a.1 in
    let c = then_parts (are_armed b.0 0 trap.junctions) (Ok trap) answer b.2 in
    record { links = b.0; parts = a.0; joins = b.1; junctions = c.0; same = sym (ok_same trap answer c.1) }

-- and they keep what each trap keeps
pub built_trap : (trap answer : TrapValue) → AreNames (names_of trap) → build_of trap ≡ Ok answer → IsTrap answer
built_trap trap answer words e =
    let b = built trap answer e in
    rw b.same (sound trap b.links words b.parts b.joins b.junctions)
