-- What the joins of a trap are, where each passes its tests.
use Rattle.std.proofs.Common.{◌≡◌, ◌≢◌, ℕ, ◌+◌, Bool, true, false, not, List, [], ◌∷◌, ◌++◌, Option, None, Some, Result, Ok, Err, zero, suc, refl, sym, ap, ◌∙◌, arith, append_assoc, eqb}
use Rattle.std.specs.Bool.{Decides}
use Rattle.std.specs.List.{All, AllPairs, list_any, flat_map, filter_map}
use Rattle.std.specs.Option.{ok_or, option_and_then, IsSome}
use Rattle.std.proofs.lemmas.Bool.{or_parts}
use Rattle.std.proofs.lemmas.Bool.Decides.{Decides-eqb, Decides-and}
use Rattle.std.proofs.lemmas.List.{append-nil}
use Rattle.std.proofs.lemmas.List.Concat.{flat_map-append}
use Rattle.qc_base.specs.declared.ids.End.{End}
use Rattle.qc_base.specs.declared.ids.End.TheVariants.{A, B}
use Rattle.trap_parts.specs.declared.parts.JoinPart.{JoinPart}
use Rattle.trap_parts.specs.declared.fault.TrapFault.{TrapFault}
use Rattle.trap_parts.specs.declared.fault.TrapFault.TheVariants.{Unknown, Pair, EndTaken}
use Rattle.trap_parts.specs.declared.port.Port.{Port}
use Rattle.trap_parts.specs.declared.port.Port.TheVariants as ports
use Rattle.trap_parts.specs.declared.port.Link.{Link}
use Rattle.trap_parts.specs.declared.port.Link.TheVariants as links
use Rattle.trap_parts.specs.Parts.{TrapValue}
use Rattle.trap_parts.specs.Joins.{same_end, port_named, link_of, link_at, ends_of}
use Rattle.trap_parts.specs.Build.{◌>>◌, ◌>>=◌, unless, same_port, is_taken, join_of, joins_from}
use Rattle.trap_parts.proofs.Passed.{err_ok}
use Rattle.trap_parts.proofs.Distinct.{distinct_more}

-- a join that passes: it joins what it says, and its ends are free
pub record Passes (trap : TrapValue) (before : List Link) (join : JoinPart) (link : Link) : Type 0 where
  pub joins : link_at trap join ≡ Some link
  pub free : is_taken before link ≡ false

free_if : (taken : Bool) (row : ℕ) (link answer : Link) → (unless (not taken) (EndTaken row) >> Ok link) ≡ Ok answer → (link ≡ answer) × (taken ≡ false)
free_if true row link answer e = absurd (err_ok (EndTaken row) answer e)
free_if false row link answer e = (cc, refl)

free_link : (before : List Link) (row : ℕ) (link answer : Link) → (unless (not (is_taken before link)) (EndTaken row) >> Ok link) ≡ Ok answer → (link ≡ answer) × (is_taken before link ≡ false)
free_link before row link answer e = free_if (is_taken before link) row link answer e

third_passes : (trap : TrapValue) (row : ℕ) (before : List Link) (answer : Link) (link : Option Link)
    → (ok_or link (Pair row) >>= (λ l. unless (not (is_taken before l)) (EndTaken row) >> Ok l)) ≡ Ok answer → (link ≡ Some answer) × (is_taken before answer ≡ false)
third_passes trap row before answer None e = absurd (err_ok (Pair row) answer e)
third_passes trap row before answer (Some link) e = let p = free_link before row link answer e in (ap (λ l. Some l) p.0, rw p.0 at p.1)

second_passes : (trap : TrapValue) (row : ℕ) (before : List Link) (answer : Link) (first : Port) (second : Option Port)
    → (ok_or second (Unknown row) >>= (λ s. ok_or (link_of first s) (Pair row) >>= (λ l. unless (not (is_taken before l)) (EndTaken row) >> Ok l))) ≡ Ok answer
    → (option_and_then (link_of first) second ≡ Some answer) × (is_taken before answer ≡ false)
second_passes trap row before answer first None e = absurd (err_ok (Unknown row) answer e)
second_passes trap row before answer first (Some second) e = third_passes trap row before answer (link_of first second) e

first_passes : (trap : TrapValue) (row : ℕ) (before : List Link) (answer : Link) (first second : Option Port)
    → (ok_or first (Unknown row) >>= (λ f. ok_or second (Unknown row) >>= (λ s. ok_or (link_of f s) (Pair row) >>= (λ l. unless (not (is_taken before l)) (EndTaken row) >> Ok l)))) ≡ Ok answer
    → (option_and_then (λ f. option_and_then (link_of f) second) first ≡ Some answer) × (is_taken before answer ≡ false)
first_passes trap row before answer None second e = absurd (err_ok (Unknown row) answer e)
first_passes trap row before answer (Some first) second e = second_passes trap row before answer first second e

pub join_passes : (trap : TrapValue) (row : ℕ) (before : List Link) (join : JoinPart) (link : Link) → join_of trap row before join ≡ Ok link → Passes trap before join link
unfolding join_of
join_passes trap row before join link e =
    let p = first_passes trap row before link (port_named trap join.first.name join.first.end) (port_named trap join.second.name join.second.end) e in
    record { joins = p.0; free = p.1 }

-- the first join passes, and the rest after it
pub record Goes (trap : TrapValue) (row : ℕ) (before : List Link) (join : JoinPart) (joins : List JoinPart) (answer : List Link) : Type 0 where
  pub link : Link
  pub passes : Passes trap before join link
  pub rest : joins_from trap (row + 1) (before ++ link ∷ []) joins ≡ Ok answer

continues : (trap : TrapValue) (row : ℕ) (before : List Link) (join : JoinPart) (joins : List JoinPart) (answer : List Link) (first : Result Link TrapFault) → join_of trap row before join ≡ first
    → (first >>= (λ link. joins_from trap (row + 1) (before ++ link ∷ []) joins)) ≡ Ok answer → Goes trap row before join joins answer
continues trap row before join joins answer (Ok link) is e = record { link = link; passes = join_passes trap row before join link is; rest = e }
continues trap row before join joins answer (Err fault) is e = absurd (err_ok fault answer e)

pub joins_go : (trap : TrapValue) (row : ℕ) (before : List Link) (join : JoinPart) (joins : List JoinPart) (answer : List Link) → joins_from trap row before (join ∷ joins) ≡ Ok answer → Goes trap row before join joins answer
unfolding joins_from
joins_go trap row before join joins answer e = continues trap row before join joins answer (join_of trap row before join) refl e

pub joins_end : (trap : TrapValue) (row : ℕ) (before answer : List Link) → joins_from trap row before [] ≡ Ok answer → before ≡ answer
unfolding joins_from
joins_end trap row before answer e = cc

-- the answer is the links of the joins
pub links_are : (trap : TrapValue) (row : ℕ) (before : List Link) (joins : List JoinPart) (answer : List Link) → joins_from trap row before joins ≡ Ok answer → answer ≡ before ++ filter_map (link_at trap) joins
links_are trap row before [] answer e = sym (joins_end trap row before answer e) ∙ sym (append-nil before)
links_are trap row before (join ∷ joins) answer e =
    let g = joins_go trap row before join joins answer e in
    let rest = links_are trap (row + 1) (before ++ g.link ∷ []) joins answer g.rest in
    rw g.passes.joins (rest ∙ append_assoc before (g.link ∷ []) (filter_map (link_at trap) joins))

some_is : (o : Option Link) (link : Link) → o ≡ Some link → IsSome o
some_is o link e = rw e refl

-- each join is known
pub joins_known : (trap : TrapValue) (row : ℕ) (before : List Link) (joins : List JoinPart) (answer : List Link) → joins_from trap row before joins ≡ Ok answer → All (λ join. IsSome (link_at trap join)) joins
joins_known trap row before [] answer e k d h = absurd (omega arith)
joins_known trap row before (join ∷ joins) answer e zero d h = let g = joins_go trap row before join joins answer e in some_is (link_at trap join) g.link g.passes.joins
joins_known trap row before (join ∷ joins) answer e (suc k) d h = let g = joins_go trap row before join joins answer e in joins_known trap (row + 1) (before ++ g.link ∷ []) joins answer g.rest k d (omega arith)

same_end_decides : (e f : End) → Decides (same_end e f) (e ≡ f)
same_end_decides A A = (λ _. refl, λ _. refl)
same_end_decides B B = (λ _. refl, λ _. refl)
same_end_decides A B = (λ h. absurd (cc), λ h. absurd (cc))
same_end_decides B A = (λ h. absurd (cc), λ h. absurd (cc))

pub same_port_decides : (p q : Port) → Decides (same_port p q) (p ≡ q)
same_port_decides (ports.Zone z e) (ports.Zone w f) =
    let both = Decides-and (eqb z w) (same_end e f) (Decides-eqb z w) (same_end_decides e f) in
    (λ h. let p = both.0 h in cc (p.0, p.1), λ h. both.1 (cc, cc))
same_port_decides (ports.Segment z e) (ports.Segment w f) =
    let both = Decides-and (eqb z w) (same_end e f) (Decides-eqb z w) (same_end_decides e f) in
    (λ h. let p = both.0 h in cc (p.0, p.1), λ h. both.1 (cc, cc))
same_port_decides (ports.Junction j) (ports.Junction k) = (λ h. let p = (Decides-eqb j k).0 h in cc p, λ h. (Decides-eqb j k).1 (cc))
same_port_decides (ports.Zone z e) (ports.Segment w f) = (λ h. absurd (cc), λ h. absurd (cc))
same_port_decides (ports.Zone z e) (ports.Junction w) = (λ h. absurd (cc), λ h. absurd (cc))
same_port_decides (ports.Segment z e) (ports.Zone w f) = (λ h. absurd (cc), λ h. absurd (cc))
same_port_decides (ports.Segment z e) (ports.Junction w) = (λ h. absurd (cc), λ h. absurd (cc))
same_port_decides (ports.Junction z) (ports.Zone w f) = (λ h. absurd (cc), λ h. absurd (cc))
same_port_decides (ports.Junction z) (ports.Segment w f) = (λ h. absurd (cc), λ h. absurd (cc))

abbrev pub Once : List Link → Type 0
Once ls = AllPairs (λ end other. end ≢ other) (flat_map ends_of ls)

other_sort : (taken : List Port) (segment : ℕ) (f : End) (zone : ℕ) (e : End) → list_any (same_port (ports.Segment segment f)) taken ≡ false → list_any (same_port (ports.Segment segment f)) (taken ++ ports.Zone zone e ∷ []) ≡ false
other_sort [] segment f zone e none = refl
other_sort (p ∷ taken) segment f zone e none =
    let s = ports.Segment segment f in
    let parts = or_parts (same_port s p) (list_any (same_port s) taken) none in
    rw parts.0 (other_sort taken segment f zone e parts.1)

-- a join whose ends are free takes no end again
ends_more : (taken : List Port) (link : Link) → AllPairs (λ a b. a ≢ b) taken → list_any (λ end. list_any (same_port end) taken) (ends_of link) ≡ false → AllPairs (λ a b. a ≢ b) (taken ++ ends_of link)
ends_more taken (links.Arm segment e junction) all none =
    distinct_more same_port same_port_decides taken (ports.Segment segment e) all (or_parts (list_any (same_port (ports.Segment segment e)) taken) false none).0
ends_more taken (links.Dock zone e segment f) all none =
    let z = ports.Zone zone e in
    let s = ports.Segment segment f in
    let parts = or_parts (list_any (same_port z) taken) (list_any (λ end. list_any (same_port end) taken) (s ∷ [])) none in
    let last = (or_parts (list_any (same_port s) taken) false parts.1).0 in
    let first = distinct_more same_port same_port_decides taken z all parts.0 in
    let apart : list_any (same_port s) (taken ++ z ∷ []) ≡ false = other_sort taken segment f zone e last in
    rw (append_assoc taken (z ∷ []) (s ∷ [])) at (distinct_more same_port same_port_decides (taken ++ z ∷ []) s first apart)

pub joins_once : (trap : TrapValue) (row : ℕ) (before : List Link) (joins : List JoinPart) (answer : List Link) → Once before → joins_from trap row before joins ≡ Ok answer → Once answer
joins_once trap row before [] answer once e = rw (joins_end trap row before answer e) at once
joins_once trap row before (join ∷ joins) answer once e =
    let g = joins_go trap row before join joins answer e in
    let more : AllPairs (λ a b. a ≢ b) (flat_map ends_of before ++ ends_of g.link) = ends_more (flat_map ends_of before) g.link once g.passes.free in
    let tail : flat_map ends_of (g.link ∷ []) ≡ ends_of g.link = append-nil (ends_of g.link) in
    let same : flat_map ends_of (before ++ g.link ∷ []) ≡ flat_map ends_of before ++ ends_of g.link = rw (flat_map-append ends_of before (g.link ∷ []), tail) refl in
    joins_once trap (row + 1) (before ++ g.link ∷ []) joins answer (rw same more) g.rest
