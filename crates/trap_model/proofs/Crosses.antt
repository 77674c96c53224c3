-- The crossings are those between different arms of a junction.
use Rattle.std.proofs.Common.{◌≡◌, ℕ, ◌+◌, ◌<◌, ◌≤◌, false, ◌&&◌, List, [], ◌∷◌, length, find, Option, None, Some, zero, suc, refl, sym, ◌∙◌, arith, eqb, inl, inr}
use Rattle.std.specs.List.{flat_map, range_with_len, filter_map}
use Rattle.std.specs.Option.{option_or, option_map, option_and_then}
use Rattle.std.proofs.lemmas.Bool.{cases_lt, cases_eq, cases_Bool, eq-eqb, ne_eqb, and_left, and_right}
use Rattle.trap_model.specs.declared.channel.Channel.{Channel}
use Rattle.trap_parts.specs.declared.port.Link.{Link}
use Rattle.trap_parts.specs.declared.port.Link.TheVariants as links
use Rattle.trap_parts.specs.declared.port.SlotEnd.{SlotEnd}
use Rattle.trap_parts.specs.Parts.{TrapValue}
use Rattle.trap_parts.specs.Joins.{links_of, arms_of, arm_at}
use Rattle.trap_model.specs.Channels.{cross, cross_channels, crossings_of, channel_at, is_cross, cross_of, cross_channel}
use Rattle.trap_parts.proofs.Known.{AreLinks, links_known}
use Rattle.trap_model.proofs.Finds.{channel_found, find_parts, find-append, no_moves, no_docks, no_crossings, no_junction, or_none}

-- no junction of that number: no arms
no_arms : (trap : TrapValue) (junction : ℕ) (ls : List Link) → length trap.junctions ≤ junction → AreLinks trap ls → filter_map (arm_at trap junction) ls ≡ []
no_arms trap junction [] h known = refl
no_arms trap junction (links.Dock zone e s f ∷ ls) h known = no_arms trap junction ls h known.1
no_arms trap junction (links.Arm s e other ∷ ls) h known =
    let apart : eqb junction other ≡ false = ne_eqb junction other (λ same. omega (arith, same, known.0.1)) in
    rw apart (no_arms trap junction ls h known.1)

refused : (junction from to : ℕ) (f t : SlotEnd) → (eqb from f.slot && eqb to t.slot) ≡ false → is_cross junction from to (cross junction f t) ≡ false
refused junction from to f t e = and_right (eqb junction junction) (eqb from f.slot && eqb to t.slot) e

not_crossed : (junction from to : ℕ) (f t : SlotEnd) → (eqb from f.slot && eqb to t.slot) ≡ false → find (is_cross junction from to) (cross_channels junction f t) ≡ None
not_crossed junction from to f t e =
    elim (cases_Bool (eqb f.slot t.slot)) [
      | inl same ↦ rw same refl
      | inr apart ↦ rw (apart, refused junction from to f t e) refl
    ]

skipped : (junction from to : ℕ) (f t : SlotEnd) (o : Option Channel) → (to ≡ t.slot → ⊥) → option_or (find (is_cross junction from to) (cross_channels junction f t)) o ≡ o
skipped junction from to f t o elsewhere =
    rw (not_crossed junction from to f t (and_right (eqb from f.slot) (eqb to t.slot) (ne_eqb to t.slot elsewhere))) refl

-- from an arm to the first arm at a slot
from_arm : (junction from to : ℕ) (f : SlotEnd) (arms : List SlotEnd) → from ≡ f.slot → (from ≡ to → ⊥)
    → find (is_cross junction from to) (flat_map (cross_channels junction f) arms) ≡ option_map (cross junction f) (find (λ arm. eqb to arm.slot) arms)
from_arm junction from to f [] same apart = refl
from_arm junction from to f (t ∷ arms) same apart =
    rw (find-append (is_cross junction from to) (cross_channels junction f t) (flat_map (cross_channels junction f) arms), from_arm junction from to f arms same apart)
    (elim (cases_eq to t.slot) [
      | inl there ↦
          let other : eqb f.slot t.slot ≡ false = ne_eqb f.slot t.slot (λ e. apart (same ∙ e ∙ sym there)) in
          rw (other, eq-eqb junction junction refl, eq-eqb from f.slot same, eq-eqb to t.slot there) refl
      | inr elsewhere ↦
          rw (ne_eqb to t.slot elsewhere) (skipped junction from to f t (option_map (cross junction f) (find (λ arm. eqb to arm.slot) arms)) elsewhere)
    ])

-- from an arm elsewhere
from_other : (junction from to : ℕ) (f : SlotEnd) (arms : List SlotEnd) → (from ≡ f.slot → ⊥) → find (is_cross junction from to) (flat_map (cross_channels junction f) arms) ≡ None
from_other junction from to f [] apart = refl
from_other junction from to f (t ∷ arms) apart =
    rw (find-append (is_cross junction from to) (cross_channels junction f t) (flat_map (cross_channels junction f) arms), not_crossed junction from to f t (and_left (eqb from f.slot) (eqb to t.slot) (ne_eqb from f.slot apart)))
    (from_other junction from to f arms apart)

-- nothing crosses from a slot to itself
no_self : (junction slot : ℕ) (f : SlotEnd) (arms : List SlotEnd) → find (is_cross junction slot slot) (flat_map (cross_channels junction f) arms) ≡ None
no_self junction slot f [] = refl
no_self junction slot f (t ∷ arms) =
    rw (find-append (is_cross junction slot slot) (cross_channels junction f t) (flat_map (cross_channels junction f) arms), no_self junction slot f arms, or_none)
    (elim (cases_eq f.slot t.slot) [
      | inl same ↦ rw (eq-eqb f.slot t.slot same) refl
      | inr apart ↦ elim (cases_eq slot f.slot) [
        | inl here ↦ not_crossed junction slot slot f t (and_right (eqb slot f.slot) (eqb slot t.slot) (ne_eqb slot t.slot (λ e. apart (sym here ∙ e))))
        | inr elsewhere ↦ not_crossed junction slot slot f t (and_left (eqb slot f.slot) (eqb slot t.slot) (ne_eqb slot f.slot elsewhere))
      ]
    ])

no_self_all : (junction slot : ℕ) (all arms : List SlotEnd) → find (is_cross junction slot slot) (flat_map (λ f. flat_map (cross_channels junction f) all) arms) ≡ None
no_self_all junction slot all [] = refl
no_self_all junction slot all (f ∷ arms) =
    rw (find-append (is_cross junction slot slot) (flat_map (cross_channels junction f) all) (flat_map (λ g. flat_map (cross_channels junction g) all) arms), no_self junction slot f all) (no_self_all junction slot all arms)

-- the first arm at the one slot, to the first at the other
arm_step : (junction : ℕ) (f : SlotEnd) (target : Option SlotEnd) (rest : Option SlotEnd) (o : Option Channel) → o ≡ option_and_then (λ out. option_map (cross junction out) target) rest
    → option_or (option_map (cross junction f) target) o ≡ option_map (cross junction f) target
arm_step junction f (Some t) rest o e = refl
arm_step junction f None None o e = e
arm_step junction f None (Some g) o e = e

both_arms : (junction from to : ℕ) (all arms : List SlotEnd) → (from ≡ to → ⊥)
    → find (is_cross junction from to) (flat_map (λ f. flat_map (cross_channels junction f) all) arms) ≡ option_and_then (λ out. option_map (cross junction out) (find (λ arm. eqb to arm.slot) all)) (find (λ arm. eqb from arm.slot) arms)
both_arms junction from to all [] apart = refl
both_arms junction from to all (f ∷ arms) apart =
    let rest = both_arms junction from to all arms apart in
    let o = find (is_cross junction from to) (flat_map (λ g. flat_map (cross_channels junction g) all) arms) in
    rw (find-append (is_cross junction from to) (flat_map (cross_channels junction f) all) (flat_map (λ g. flat_map (cross_channels junction g) all) arms))
    (elim (cases_eq from f.slot) [
      | inl here ↦
          rw (from_arm junction from to f all here apart, eq-eqb from f.slot here) (arm_step junction f (find (λ arm. eqb to arm.slot) all) (find (λ arm. eqb from arm.slot) arms) o rest)
      | inr elsewhere ↦ rw (from_other junction from to f all elsewhere, ne_eqb from f.slot elsewhere) rest
    ])

-- the crossings of one junction
find_in_junction : (trap : TrapValue) (junction from to : ℕ) → find (is_cross junction from to) (crossings_of trap junction) ≡ cross_channel trap junction from to
find_in_junction trap junction from to =
    elim (cases_eq from to) [
      | inl same ↦ rw (same, eq-eqb to to refl) (no_self_all junction to (arms_of trap junction) (arms_of trap junction))
      | inr apart ↦ rw (ne_eqb from to apart) (both_arms junction from to (arms_of trap junction) (arms_of trap junction) apart)
    ]

other_junction : (junction from to other : ℕ) (f t : SlotEnd) → (junction ≡ other → ⊥) → is_cross junction from to (cross other f t) ≡ false
other_junction junction from to other f t apart = and_left (eqb junction other) (eqb from f.slot && eqb to t.slot) (ne_eqb junction other apart)

find_cross : (trap : TrapValue) (junction from to first n : ℕ) → first ≤ junction → junction < first + n → find (is_cross junction from to) (flat_map (crossings_of trap) (range_with_len first n)) ≡ cross_channel trap junction from to
find_cross trap junction from to first zero low high = absurd (omega arith)
find_cross trap junction from to first (suc n) low high =
    let p = is_cross junction from to in
    rw (find-append p (crossings_of trap first) (flat_map (crossings_of trap) (range_with_len (first + 1) n)))
    (elim (cases_eq junction first) [
      | inl here ↦
          rw (no_crossings trap p (first + 1) n (λ other h below f t. other_junction junction from to other f t (λ e. omega (arith, e, here, h))), or_none, sym here) (find_in_junction trap junction from to)
      | inr later ↦
          rw (no_junction p first (λ f t. other_junction junction from to first f t later) (arms_of trap first) (arms_of trap first))
          (find_cross trap junction from to (first + 1) n (omega (arith, later)) (omega arith))
    ])

cross_without : (trap : TrapValue) (junction from to : ℕ) → arms_of trap junction ≡ [] → cross_channel trap junction from to ≡ None
cross_without trap junction from to none =
    elim (cases_Bool (eqb from to)) [
      | inl same ↦ rw same refl
      | inr apart ↦ rw (apart, none) refl
    ]

pub no_cross_channel : (trap : TrapValue) (junction from to : ℕ) → length trap.junctions ≤ junction → cross_channel trap junction from to ≡ None
no_cross_channel trap junction from to h = cross_without trap junction from to (no_arms trap junction (links_of trap) h (links_known trap))

find_crossings : (trap : TrapValue) (junction from to : ℕ) → find (is_cross junction from to) (flat_map (crossings_of trap) (range_with_len 0 (length trap.junctions))) ≡ cross_channel trap junction from to
find_crossings trap junction from to =
    elim (cases_lt junction (length trap.junctions)) [
      | inl there ↦ find_cross trap junction from to 0 (length trap.junctions) (omega arith) (omega (arith, there))
      | inr past ↦
          no_crossings trap (is_cross junction from to) 0 (length trap.junctions) (λ other h below f t. other_junction junction from to other f t (λ e. omega (arith, e, below, past)))
          ∙ sym (no_cross_channel trap junction from to past)
    ]

last_part : {X : Type 0} (a b c : Option X) → a ≡ None → b ≡ None → option_or (option_or a b) c ≡ c
last_part a b c p q = rw (p, q) refl

-- the channel at the number of the crossing
pub cross_leads : (trap : TrapValue) (junction from to : ℕ) → channel_at trap (cross_of trap junction from to) ≡ cross_channel trap junction from to
cross_leads trap junction from to =
    channel_found trap (is_cross junction from to) ∙ find_parts trap (is_cross junction from to)
    ∙ last_part _ _ (find (is_cross junction from to) (flat_map (crossings_of trap) (range_with_len 0 (length trap.junctions)))) (no_docks trap (is_cross junction from to) (λ z e s. refl) (λ z e s. refl) (links_of trap)) (no_moves (is_cross junction from to) (λ s. refl) (length trap.zones) trap.segments)
    ∙ find_crossings trap junction from to
