-- Walks lead back.
use Rattle.std.proofs.Common.{◌≡◌, ℕ, zero, suc, ◌+◌, List, [], ◌∷◌, ◌++◌, Some, None, refl, sym, ap, subst, ◌∙◌, inl, inr}
use Rattle.std.specs.Prelude.{◌⊎◌, ◌-◌, length, slice_get}
use Rattle.std.specs.List.{flat_map, range_with_len}
use Rattle.std.proofs.lemmas.Bool.{cases_eq, ne_eqb, eq-eqb}
use Rattle.std.proofs.lemmas.Option.{same_Some}
use Rattle.qc_base.specs.declared.ids.End.TheVariants.{A, B}
use Rattle.trap_parts.specs.declared.parts.SegmentPart.{SegmentPart}
use Rattle.trap_parts.specs.declared.port.Link.{Link}
use Rattle.trap_parts.specs.declared.port.Link.TheVariants as links
use Rattle.trap_parts.specs.declared.port.SlotEnd.{SlotEnd}
use Rattle.trap_model.specs.declared.channel.Channel.{Channel}
use Rattle.trap_model.specs.declared.channel.Kind.TheVariants.{Move}
use Rattle.trap_parts.specs.Parts.{TrapValue}
use Rattle.trap_parts.specs.Joins.{links_of, slot_end, arms_of}
use Rattle.trap_model.specs.Channels.{channel, split, merge, cross, channels_of, dock_channels, move_channels, moves_from, cross_channels, crossings_of}
use Rattle.route_find.specs.Walks.{Leads, IsWalk, IsReachable}

-- ---- members of lists

abbrev IsIn : {X : Type 0} → List X → X → Type 0
IsIn [] x = ⊥
IsIn (y ∷ ys) x = (y ≡ x) ⊎ IsIn ys x

in_left : {X : Type 0} (xs ys : List X) (x : X) → IsIn xs x → IsIn (xs ++ ys) x
in_left [] ys x h = absurd h
in_left (y ∷ xs) ys x (inl e) = inl e
in_left (y ∷ xs) ys x (inr h) = inr (in_left xs ys x h)

in_right : {X : Type 0} (xs ys : List X) (x : X) → IsIn ys x → IsIn (xs ++ ys) x
in_right [] ys x h = h
in_right (y ∷ xs) ys x h = inr (in_right xs ys x h)

in_either : {X : Type 0} (xs ys : List X) (x : X) → IsIn (xs ++ ys) x → IsIn xs x ⊎ IsIn ys x
in_either [] ys x h = inr h
in_either (y ∷ xs) ys x (inl e) = inl (inl e)
in_either (y ∷ xs) ys x (inr h) = elim (in_either xs ys x h) [ inl there ↦ inl (inr there) | inr there ↦ inr there ]

in_flat : {X Y : Type 0} (f : X → List Y) (xs : List X) (x : X) (y : Y) → IsIn xs x → IsIn (f x) y → IsIn (flat_map f xs) y
in_flat f [] x y h there = absurd h
in_flat f (z ∷ xs) x y (inl e) there = in_left (f z) (flat_map f xs) y (subst (λ w. IsIn (f w) y) (sym e) there)
in_flat f (z ∷ xs) x y (inr h) there = in_right (f z) (flat_map f xs) y (in_flat f xs x y h there)

from_flat : {X Y : Type 0} (f : X → List Y) (xs : List X) (y : Y) → IsIn (flat_map f xs) y → (x : X) × IsIn xs x × IsIn (f x) y
from_flat f [] y h = absurd h
from_flat f (z ∷ xs) y h = elim (in_either (f z) (flat_map f xs) y h) [
  | inl here ↦ (z, inl refl, here)
  | inr there ↦ (let rest = from_flat f xs y there in (rest.0, inr rest.1, rest.2))
]

in_list : {X : Type 0} (xs : List X) (k : ℕ) (x : X) → slice_get xs k ≡ Some x → IsIn xs x
in_list [] k x e = absurd cc
in_list (y ∷ xs) zero x e = inl (same_Some y x e)
in_list (y ∷ xs) (suc k) x e = inr (in_list xs k x e)

number_in : {X : Type 0} (xs : List X) (x : X) → IsIn xs x → (k : ℕ) × (slice_get xs k ≡ Some x)
number_in [] x h = absurd h
number_in (y ∷ xs) x (inl e) = (zero, ap Some e)
number_in (y ∷ xs) x (inr h) = (let rest = number_in xs x h in (suc rest.0, rest.1))

-- ---- each channel has one that leads back

record Back (all : List Channel) (c : Channel) : Type 0 where
  other : Channel
  there : IsIn all other
  starts : other.from.0 ≡ c.to.0
  ends : other.to.0 ≡ c.from.0

among : (some all : List Channel) (c : Channel) → ((d : Channel) → IsIn some d → IsIn all d) → Back some c → Back all c
among some all c more back = record { other = back.other; there = more back.other back.there; starts = back.starts; ends = back.ends }

starts_by : (c d : Channel) → c ≡ d → c.from.0 ≡ d.from.0
starts_by c d e = ap (λ (it : Channel). it.from.0) e

ends_by : (c d : Channel) → c ≡ d → c.to.0 ≡ d.to.0
ends_by c d e = ap (λ (it : Channel). it.to.0) e

dock_back : (trap : TrapValue) (link : Link) (c : Channel) → IsIn (dock_channels trap link) c → Back (dock_channels trap link) c
dock_back trap (links.Arm segment e junction) c h = absurd h
dock_back trap (links.Dock zone e segment f) c (inl is) = record {
  other = merge zone e (slot_end trap segment f);
  there = inr (inl refl);
  starts = ends_by (split zone e (slot_end trap segment f)) c is;
  ends = starts_by (split zone e (slot_end trap segment f)) c is;
}
dock_back trap (links.Dock zone e segment f) c (inr (inl is)) = record {
  other = split zone e (slot_end trap segment f);
  there = inl refl;
  starts = ends_by (merge zone e (slot_end trap segment f)) c is;
  ends = starts_by (merge zone e (slot_end trap segment f)) c is;
}
dock_back trap (links.Dock zone e segment f) c (inr (inr h)) = absurd h

move_back : (place : ℕ) (c : Channel) → IsIn (move_channels place) c → Back (move_channels place) c
move_back place c (inl is) = record {
  other = channel Move (place + 1) A place B None;
  there = inr (inl refl);
  starts = ends_by (channel Move place B (place + 1) A None) c is;
  ends = starts_by (channel Move place B (place + 1) A None) c is;
}
move_back place c (inr (inl is)) = record {
  other = channel Move place B (place + 1) A None;
  there = inl refl;
  starts = ends_by (channel Move (place + 1) A place B None) c is;
  ends = starts_by (channel Move (place + 1) A place B None) c is;
}
move_back place c (inr (inr h)) = absurd h

flat_back : {X : Type 0} (f : X → List Channel) (xs : List X) (c : Channel) → ((x : X) → IsIn (f x) c → Back (f x) c) → IsIn (flat_map f xs) c → Back (flat_map f xs) c
flat_back f xs c back h =
    let at = from_flat f xs c h in
    among (f at.0) (flat_map f xs) c (λ d there. in_flat f xs at.0 d at.1 there) (back at.0 at.2)

moves_back : (place : ℕ) (segments : List SegmentPart) (c : Channel) → IsIn (moves_from place segments) c → Back (moves_from place segments) c
moves_back place [] c h = absurd h
moves_back place (segment ∷ segments) c h =
    let here : List Channel = flat_map move_channels (range_with_len place (segment.slots - 1)) in
    let rest : List Channel = moves_from (place + segment.slots) segments in
    elim (in_either here rest c h) [
      | inl there ↦ among here (here ++ rest) c (λ d. in_left here rest d) (flat_back move_channels (range_with_len place (segment.slots - 1)) c (λ p. move_back p c) there)
      | inr there ↦ among rest (here ++ rest) c (λ d. in_right here rest d) (moves_back (place + segment.slots) segments c there)
    ]

-- a crossing of two arms
crossed : (junction : ℕ) (from to : SlotEnd) (c : Channel) → IsIn (cross_channels junction from to) c → (cross junction from to ≡ c) × IsIn (cross_channels junction to from) (cross junction to from)
crossed junction from to c h = elim (cases_eq from.slot to.slot) [
  | inl same ↦ absurd (rw (eq-eqb from.slot to.slot same) at h)
  | inr apart ↦ (one (cross junction from to) c (rw (ne_eqb from.slot to.slot apart) at h), rw (ne_eqb to.slot from.slot (λ e. apart (sym e))) (inl refl))
] where
  one : (d c : Channel) → IsIn (d ∷ []) c → d ≡ c
  one d c (inl e) = e
  one d c (inr h) = absurd h

crossings_back : (trap : TrapValue) (junction : ℕ) (c : Channel) → IsIn (crossings_of trap junction) c → Back (crossings_of trap junction) c
crossings_back trap junction c h =
    let arms : List SlotEnd = arms_of trap junction in
    let out = from_flat (λ (from : SlotEnd). flat_map (cross_channels junction from) arms) arms c h in
    let into = from_flat (cross_channels junction out.0) arms c out.2 in
    let is = crossed junction out.0 into.0 c into.2 in
    record {
      other = cross junction into.0 out.0;
      there = in_flat (λ (from : SlotEnd). flat_map (cross_channels junction from) arms) arms into.0 (cross junction into.0 out.0) into.1
          (in_flat (cross_channels junction into.0) arms out.0 (cross junction into.0 out.0) out.1 is.1);
      starts = ends_by (cross junction out.0 into.0) c is.0;
      ends = starts_by (cross junction out.0 into.0) c is.0;
    }

channels_back : (trap : TrapValue) (c : Channel) → IsIn (channels_of trap) c → Back (channels_of trap) c
channels_back trap c h =
    let docks : List Channel = flat_map (dock_channels trap) (links_of trap) in
    let steps : List Channel = moves_from (length trap.zones) trap.segments in
    let crossings : List Channel = flat_map (crossings_of trap) (range_with_len 0 (length trap.junctions)) in
    elim (in_either (docks ++ steps) crossings c h) [
      | inr there ↦ among crossings ((docks ++ steps) ++ crossings) c (λ d. in_right (docks ++ steps) crossings d) (flat_back (crossings_of trap) (range_with_len 0 (length trap.junctions)) c (λ j. crossings_back trap j c) there)
      | inl there ↦ among (docks ++ steps) ((docks ++ steps) ++ crossings) c (λ d. in_left (docks ++ steps) crossings d) (elim (in_either docks steps c there) [
        | inl here ↦ among docks (docks ++ steps) c (λ d. in_left docks steps d) (flat_back (dock_channels trap) (links_of trap) c (λ link. dock_back trap link c) here)
        | inr here ↦ among steps (docks ++ steps) c (λ d. in_right docks steps d) (moves_back (length trap.zones) trap.segments c here)
      ])
    ]

pub leads_back : (trap : TrapValue) (from number to : ℕ) → Leads trap from number to → (other : ℕ) × Leads trap to other from
leads_back trap from number to leads =
    let back = channels_back trap leads.channel (in_list (channels_of trap) number leads.channel leads.there) in
    let at = number_in (channels_of trap) back.other back.there in
    (at.0, record { channel = back.other; there = at.1; starts = back.starts ∙ leads.ends; ends = back.ends ∙ leads.starts })

-- ---- walks

joined : (trap : TrapValue) (from through to : ℕ) (walk rest : List ℕ) → IsWalk trap from through walk → IsWalk trap through to rest → IsReachable trap from to
joined trap from through to [] rest leads more = (rest, subst (λ p. IsWalk trap p to rest) (sym leads) more)
joined trap from through to (number ∷ walk) rest (next, (leads, others)) more =
    let after = joined trap next through to walk rest others more in
    (number ∷ after.0, (next, (leads, after.1)))

pub reached_through : (trap : TrapValue) (from through to : ℕ) → IsReachable trap from through → IsReachable trap through to → IsReachable trap from to
reached_through trap from through to (walk, leads) (rest, more) = joined trap from through to walk rest leads more

walk_back : (trap : TrapValue) (from to : ℕ) (walk : List ℕ) → IsWalk trap from to walk → IsReachable trap to from
walk_back trap from to [] leads = ([], sym leads)
walk_back trap from to (number ∷ walk) (next, (leads, others)) =
    let back = leads_back trap from number next leads in
    reached_through trap to next from (walk_back trap next to walk others) (back.0 ∷ [], (from, (back.1, refl)))

pub reached_back : (trap : TrapValue) (from to : ℕ) → IsReachable trap from to → IsReachable trap to from
reached_back trap from to (walk, leads) = walk_back trap from to walk leads
