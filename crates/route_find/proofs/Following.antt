-- A walk that leads nearer to the target by each channel.
use Rattle.std.proofs.Common.{◌≡◌, ℕ, zero, suc, ◌+◌, ◌<◌, List, [], ◌∷◌, ◌++◌, length, get_or, Some, None, refl, sym, ap, subst, ◌∙◌, inl, inr, arith, length-append, append_assoc}
use Rattle.std.proofs.lemmas.List.{append-nil}
use Rattle.std.specs.Prelude.{Option, slice_get, IsSome, unwrap_or, ◌⊎◌}
use Rattle.std.proofs.lemmas.Option.{same_Some, slice_get-get_or, slice_get_within, get_or_from_slice_get}
use Rattle.std.proofs.lemmas.List.Elements.{All-contains}
use Rattle.std.proofs.lemmas.Bool.{false≢true}
use Rattle.trap_parts.specs.Parts.{TrapValue}
use Rattle.trap_model.specs.Trap.{place_count}
use Rattle.trap_model.specs.Channels.{channels_of, AreWithin}
use Rattle.trap_model.specs.declared.channel.Channel.{Channel}
use Rattle.route_find.specs.Walks.{IsWalk, IsShortest, IsDistance}
use Rattle.route_find.specs.Distances.{DistancesValue, distance_at, next_at, LeadsNearer, AreDistances}

-- the route so far leads to the place, and is the front of a shortest walk
pub record IsFollowed (trap : TrapValue) (distances : DistancesValue) (from : ℕ) (route : List ℕ) (place : ℕ) : Type 0 where
  pub joins : (rest : List ℕ) → IsWalk trap place distances.target rest → IsWalk trap from distances.target (route ++ rest)
  pub distance : ℕ
  pub here : distance_at distances place ≡ Some distance
  pub whole : distance_at distances from ≡ Some (length route + distance)

pub followed_start : (trap : TrapValue) (distances : DistancesValue) (from : ℕ) (distance : Option ℕ) → distance_at distances from ≡ distance → IsSome distance → IsFollowed trap distances from [] from
followed_start trap distances from None is some = absurd (false≢true some)
followed_start trap distances from (Some distance) is some = record {
  joins = λ rest leads. leads;
  distance = distance;
  here = is;
  whole = is ∙ ap Some (omega arith);
}

pub followed_more : (trap : TrapValue) (distances : DistancesValue) (from place number : ℕ) (route : List ℕ) (channel : Channel) → AreDistances trap distances → IsFollowed trap distances from route place
    → next_at distances place ≡ Some number → slice_get (channels_of trap) number ≡ Some channel → IsFollowed trap distances from (route ++ number ∷ []) channel.to.0
followed_more trap distances from place number route channel are before next there =
    let nearer : LeadsNearer trap distances place number = are.nearer place number next in
    let same : nearer.leads.channel ≡ channel = same_Some nearer.leads.channel channel (sym nearer.leads.there ∙ there) in
    let ends : channel.to.0 ≡ nearer.after = ap (λ (c : Channel). c.to.0) (sym same) ∙ nearer.leads.ends in
    let less : before.distance ≡ nearer.distance + 1 = same_Some before.distance (nearer.distance + 1) (sym before.here ∙ nearer.here) in
    record {
      joins = λ rest leads. subst (λ (l : List ℕ). IsWalk trap from distances.target l) (sym (append_assoc route (number ∷ []) rest))
          (before.joins (number ∷ rest) (channel.to.0, (record { channel = channel; there = there; starts = ap (λ (c : Channel). c.from.0) (sym same) ∙ nearer.leads.starts; ends = refl }, leads)));
      distance = nearer.distance;
      here = ap (λ p. distance_at distances p) ends ∙ nearer.there;
      whole = before.whole ∙ ap Some (omega (arith, less, length-append route (number ∷ [])));
    }

-- the distance falls
pub followed_less : (trap : TrapValue) (distances : DistancesValue) (place number : ℕ) (channel : Channel) → AreDistances trap distances → next_at distances place ≡ Some number → slice_get (channels_of trap) number ≡ Some channel
    → (distance : ℕ) × ((distance_at distances place ≡ Some (distance + 1)) × (distance_at distances channel.to.0 ≡ Some distance))
followed_less trap distances place number channel are next there =
    let nearer : LeadsNearer trap distances place number = are.nearer place number next in
    let same : nearer.leads.channel ≡ channel = same_Some nearer.leads.channel channel (sym nearer.leads.there ∙ there) in
    let ends : channel.to.0 ≡ nearer.after = ap (λ (c : Channel). c.to.0) (sym same) ∙ nearer.leads.ends in
    (nearer.distance, (nearer.here, ap (λ p. distance_at distances p) ends ∙ nearer.there))

end_distance : (trap : TrapValue) (distances : DistancesValue) (place distance : ℕ) → AreDistances trap distances → distance_at distances place ≡ Some distance → next_at distances place ≡ None → distance ≡ 0
end_distance trap distances place zero are here none = refl
end_distance trap distances place (suc distance) are here none =
    absurd (false≢true (subst (λ (o : Option ℕ). IsSome o) none (are.next place distance (here ∙ ap Some (omega arith)))))

-- at the end the place is the target
pub followed_end : (trap : TrapValue) (distances : DistancesValue) (from place : ℕ) (route : List ℕ) → AreDistances trap distances → IsFollowed trap distances from route place → next_at distances place ≡ None → IsShortest trap from distances.target route
followed_end trap distances from place route are before none =
    let zero_left : before.distance ≡ 0 = end_distance trap distances place before.distance are before.here none in
    let here = subst (λ (o : Option ℕ). IsDistance trap place distances.target o) before.here (are.each place) in
    let whole = subst (λ (o : Option ℕ). IsDistance trap from distances.target o) before.whole (are.each from) in
    record {
      leads = subst (λ (l : List ℕ). IsWalk trap from distances.target l) (append-nil route) (before.joins [] (arrived trap place distances.target here.0 here.1.0.leads (omega (arith, here.1.1, zero_left))));
      least = λ other leads. omega (arith, whole.1.1, whole.1.0.least other leads, zero_left);
    }
  where
    arrived : (trap : TrapValue) (place target : ℕ) (walk : List ℕ) → IsWalk trap place target walk → length walk ≡ 0 → place ≡ target
    arrived trap place target [] leads none = leads
    arrived trap place target (number ∷ rest) leads none = absurd (omega (arith, none))

-- ---- the channel as it is read

pub next_within : (trap : TrapValue) (distances : DistancesValue) (place number : ℕ) (channels : List Channel) → AreDistances trap distances → next_at distances place ≡ Some number → channels ≡ channels_of trap → number < length channels
next_within trap distances place number channels are next is =
    let nearer : LeadsNearer trap distances place number = are.nearer place number next in
    slice_get_within channels number nearer.leads.channel (ap (λ (l : List Channel). slice_get l number) is ∙ nearer.leads.there)

there_at : (trap : TrapValue) (number : ℕ) (channels : List Channel) (d : Channel) → channels ≡ channels_of trap → number < length channels → slice_get (channels_of trap) number ≡ Some (get_or channels number d)
there_at trap number channels d is within = ap (λ (l : List Channel). slice_get l number) (sym is) ∙ slice_get-get_or channels number d within

pub followed_more_at : (trap : TrapValue) (distances : DistancesValue) (from place number : ℕ) (route : List ℕ) (channels : List Channel) (d : Channel) → AreDistances trap distances → IsFollowed trap distances from route place
    → next_at distances place ≡ Some number → channels ≡ channels_of trap → IsFollowed trap distances from (route ++ number ∷ []) (get_or channels number d).to.0
followed_more_at trap distances from place number route channels d are before next is =
    followed_more trap distances from place number route (get_or channels number d) are before next
    (there_at trap number channels d is (next_within trap distances place number channels are next is))

pub followed_falls : (trap : TrapValue) (distances : DistancesValue) (place number : ℕ) (channels : List Channel) (d : Channel) → AreDistances trap distances → next_at distances place ≡ Some number → channels ≡ channels_of trap
    → unwrap_or (distance_at distances (get_or channels number d).to.0) 0 < unwrap_or (distance_at distances place) 0
followed_falls trap distances place number channels d are next is =
    let falls = followed_less trap distances place number (get_or channels number d) are next (there_at trap number channels d is (next_within trap distances place number channels are next is)) in
    omega (arith, ap (λ (o : Option ℕ). unwrap_or o 0) falls.1.0, ap (λ (o : Option ℕ). unwrap_or o 0) falls.1.1)

-- ---- where no walk leads

pub ends_within : (trap : TrapValue) (walk : List ℕ) (from to : ℕ) → AreWithin trap (channels_of trap) → IsWalk trap from to walk → (from ≡ to) ⊎ (to < place_count trap)
ends_within trap [] from to within leads = inl leads
ends_within trap (number ∷ rest) from to within (next, (leads, others)) = elim (ends_within trap rest next to within others) [
  | inl same ↦ (let both = All-contains (λ (c : Channel). (c.from.0 < place_count trap) × (c.to.0 < place_count trap)) (channels_of trap) leads.channel within
      (number, slice_get_within (channels_of trap) number leads.channel leads.there, get_or_from_slice_get (channels_of trap) number leads.channel leads.channel leads.there) in
      inr (omega (arith, both.1, leads.ends, same)))
  | inr below ↦ inr below
]
