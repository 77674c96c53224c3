-- What the tests of build say where they pass.
use Rattle.std.proofs.Common.{◌≡◌, ℕ, ◌+◌, ◌<◌, ◌≤◌, Bool, true, false, not, List, [], ◌∷◌, length, get_or, find, Option, None, Some, Result, Ok, Err, zero, suc, refl, sym, ◌∙◌, arith, leb, inl, inr}
use Rattle.std.specs.List.{All}
use Rattle.std.proofs.lemmas.Bool.{cases_Bool, cond-true, cond-false, and_parts, not-false, leb-true}
use Rattle.std.proofs.lemmas.Option.{none-some}
use Rattle.trap_parts.specs.declared.parts.ZonePart.{ZonePart}
use Rattle.trap_parts.specs.declared.parts.SegmentPart.{SegmentPart}
use Rattle.trap_parts.specs.declared.fault.TrapFault.{TrapFault}
use Rattle.trap_parts.specs.declared.fault.TrapFault.TheVariants.{Capacity, Length, Load, Arms}
use Rattle.trap_parts.specs.declared.port.Link.{Link}
use Rattle.trap_parts.specs.Build.{◌>>◌, unless, none_of, is_between, hold_ions, are_measured, are_armed, are_arms, segments_at}

pub err_ok : {X : Type 0} (fault : TrapFault) (x : X) → Err fault ≡ Ok x → ⊥
err_ok fault x e = cc

-- both steps pass
pub then_parts : {Y : Type 0} (first : Result (Unit {0}) TrapFault) (second : Result Y TrapFault) (y : Y) → (first >> second) ≡ Ok y → (first ≡ Ok tt) × (second ≡ Ok y)
then_parts (Ok x) second y e = (refl, e)
then_parts (Err fault) second y e = absurd (err_ok fault y e)

pub unless_passes : (test : Bool) (fault : TrapFault) → unless test fault ≡ Ok tt → test ≡ true
unless_passes true fault e = refl
unless_passes false fault e = absurd (err_ok fault tt e)

pub none_passes : {X : Type 0} (fault : X → TrapFault) (found : Option X) → none_of fault found ≡ Ok tt → found ≡ None
none_passes fault None e = refl
none_passes fault (Some x) e = absurd (err_ok (fault x) tt e)

pub between : (low high n : ℕ) → is_between low high n ≡ true → (low ≤ n) × (n ≤ high)
between low high n e =
    let parts = and_parts (leb low n) (leb n high) e in
    (leb-true low n parts.0, leb-true n high parts.1)

find_passes : {X : Type 0} (p : X → Bool) (x : X) (xs : List X) → find p (x ∷ xs) ≡ None → (p x ≡ false) × (find p xs ≡ None)
find_passes p x xs e =
    elim (cases_Bool (p x)) [
      | inl stands ↦ absurd (none-some x (sym (sym (cond-true (p x) (Some x) (find p xs) stands) ∙ e)))
      | inr none ↦ (none, sym (cond-false (p x) (Some x) (find p xs) none) ∙ e)
    ]

pub find_none : {X : Type 0} (p : X → Bool) (xs : List X) → find p xs ≡ None → (k : ℕ) (d : X) → k < length xs → p (get_or xs k d) ≡ false
find_none p [] e k d h = absurd (omega arith)
find_none p (x ∷ xs) e zero d h = (find_passes p x xs e).0
find_none p (x ∷ xs) e (suc k) d h = find_none p xs (find_passes p x xs e).1 k d (omega arith)

pub capacities_of : (zones : List ZonePart) → hold_ions zones ≡ Ok tt → All (λ zone. (1 ≤ zone.capacity) × (zone.capacity ≤ 32)) zones
capacities_of zones e k d h =
    let test = λ (zone : ZonePart). not (is_between 1 32 zone.capacity) in
    let none = none_passes (λ (zone : ZonePart). Capacity zone.name) (find test zones) e in
    let zone = get_or zones k d in
    between 1 32 zone.capacity (not-false (is_between 1 32 zone.capacity) (find_none test zones none k d h))

-- the first segment is measured, and the rest
segment_parts : (segment : SegmentPart) (segments : List SegmentPart) → are_measured (segment ∷ segments) ≡ Ok tt
    → (is_between 1 16 segment.slots ≡ true) × (is_between 1 16 segment.load ≡ true) × (are_measured segments ≡ Ok tt)
segment_parts segment segments e =
    let both = then_parts (unless (is_between 1 16 segment.slots) (Length segment.name) >> unless (is_between 1 16 segment.load) (Load segment.name)) (are_measured segments) tt e in
    let each = then_parts (unless (is_between 1 16 segment.slots) (Length segment.name)) (unless (is_between 1 16 segment.load) (Load segment.name)) tt both.0 in
    (unless_passes (is_between 1 16 segment.slots) (Length segment.name) each.0, unless_passes (is_between 1 16 segment.load) (Load segment.name) each.1, both.1)

pub lengths_of : (segments : List SegmentPart) → are_measured segments ≡ Ok tt → All (λ segment. (1 ≤ segment.slots) × (segment.slots ≤ 16)) segments
lengths_of [] e k d h = absurd (omega arith)
lengths_of (segment ∷ segments) e zero d h = between 1 16 segment.slots (segment_parts segment segments e).0
lengths_of (segment ∷ segments) e (suc k) d h = lengths_of segments (segment_parts segment segments e).2 k d (omega arith)

pub loads_of : (segments : List SegmentPart) → are_measured segments ≡ Ok tt → All (λ segment. (1 ≤ segment.load) × (segment.load ≤ 16)) segments
loads_of [] e k d h = absurd (omega arith)
loads_of (segment ∷ segments) e zero d h = between 1 16 segment.load (segment_parts segment segments e).1
loads_of (segment ∷ segments) e (suc k) d h = loads_of segments (segment_parts segment segments e).2 k d (omega arith)

-- each junction from a number on has its arms
pub armed_at : (ls : List Link) (number : ℕ) (names : List (List ℕ)) → are_armed ls number names ≡ Ok tt → (k : ℕ) → k < length names → are_arms (segments_at (number + k) ls) ≡ true
armed_at ls number [] e k h = absurd (omega arith)
armed_at ls number (name ∷ names) e zero h =
    let same : number + 0 ≡ number = omega arith in
    rw same (unless_passes (are_arms (segments_at number ls)) (Arms name) (then_parts (unless (are_arms (segments_at number ls)) (Arms name)) (are_armed ls (number + 1) names) tt e).0)
armed_at ls number (name ∷ names) e (suc k) h =
    let same : number + suc k ≡ (number + 1) + k = omega arith in
    rw same (armed_at ls (number + 1) names (then_parts (unless (are_arms (segments_at number ls)) (Arms name)) (are_armed ls (number + 1) names) tt e).1 k (omega arith))
