-- What a search found are the distances.
use Rattle.std.proofs.Common.{◌≡◌, ℕ, zero, suc, ◌+◌, ◌≤◌, true, List, [], ◌∷◌, length, Some, None, refl, sym, ap, subst, ◌∙◌, arith}
use Rattle.std.specs.Prelude.{Option, slice_get, slice_index, is_some, IsSome}
use Rattle.std.specs.Option.{option_and_then, option_map, option_map_or}
use Rattle.std.proofs.lemmas.Bool.{false≢true}
use Rattle.std.proofs.lemmas.List.{get_or_default}
use Rattle.std.proofs.lemmas.Option.{same_Some, none-some}
use Rattle.trap_parts.specs.Parts.{TrapValue}
use Rattle.trap_model.specs.Channels.{channels_of}
use Rattle.trap_model.specs.declared.channel.Channel.{Channel}
use Rattle.route_find.specs.declared.reach.Reach.{Reach}
use Rattle.route_find.specs.Walks.{IsWalk, IsDistance}
use Rattle.route_find.specs.Distances.{reach_in, LeadsNearer, AreDistances}
use Rattle.route_find.specs.Search.{is_reached, distance_of, IsWithin, Follows, IsSoundBy, IsFound}

abbrev Rows : Type 0
Rows = List (Option Reach)

abbrev Found : TrapValue → ℕ → Rows → Type 0
Found trap target rows = IsFound (channels_of trap) target rows

-- where a channel leads to a reached place, it starts at one, which is at most one channel farther
expanded_at : (trap : TrapValue) (target number next : ℕ) (rows : Rows) (channel : Channel) → Found trap target rows → slice_get (channels_of trap) number ≡ Some channel → channel.to.0 ≡ next → is_reached rows next ≡ true
    → IsWithin rows channel.from.0 (distance_of rows next + 1)
expanded_at trap target number next rows channel found there ends reached =
    let (j, in_queue, is) = found.1.queued.queued next reached in
    let place : slice_index found.0 j ≡ next = get_or_default found.0 j 0 next in_queue ∙ is in
    subst (λ p. IsWithin rows channel.from.0 (distance_of rows p + 1)) place
    (found.1.expanded j in_queue in_queue number channel there (ends ∙ sym place))

-- no walk is shorter than the distance that was found
pub within_walk : (trap : TrapValue) (target : ℕ) (rows : Rows) (walk : List ℕ) (place : ℕ) → Found trap target rows → IsWalk trap place target walk → IsWithin rows place (length walk)
within_walk trap target rows [] place found is = subst (λ p. IsWithin rows p 0) (sym is) (record { reached = found.1.start.0; near = omega (arith, found.1.start.1) })
within_walk trap target rows (number ∷ rest) place found (next, (leads, is)) =
    let after : IsWithin rows next (length rest) = within_walk trap target rows rest next found is in
    let before : IsWithin rows leads.channel.from.0 (distance_of rows next + 1) = expanded_at trap target number next rows leads.channel found leads.there leads.ends after.reached in
    subst (λ p. IsWithin rows p (suc (length rest))) leads.starts (record { reached = before.reached; near = omega (arith, before.near, after.near) })

record HasWalk (trap : TrapValue) (place target distance : ℕ) : Type 0 where
  walk : List ℕ
  leads : IsWalk trap place target walk
  len : length walk ≡ distance

-- a walk has the distance that was found
walk_by : (trap : TrapValue) (target : ℕ) (rows : Rows) (distance place : ℕ) (next : Option ℕ) → Found trap target rows → IsSoundBy (channels_of trap) rows target place distance next
    → ((other : ℕ) → is_reached rows other ≡ true → distance_of rows other + 1 ≡ distance → HasWalk trap other target (distance_of rows other)) → HasWalk trap place target distance
walk_by trap target rows distance place None found sound shorter = record { walk = []; leads = sound.0; len = sym sound.1 }
walk_by trap target rows distance place (Some number) found sound shorter =
    let rest : HasWalk trap sound.channel.to.0 target (distance_of rows sound.channel.to.0) = shorter sound.channel.to.0 sound.reached (sym sound.farther) in
    record {
      walk = number ∷ rest.walk;
      leads = (sound.channel.to.0, (record { channel = sound.channel; there = sound.there; starts = sound.starts; ends = refl }, rest.leads));
      len = omega (arith, rest.len, sound.farther);
    }

-- the row of a reached place
record HasRow (rows : Rows) (place : ℕ) : Type 0 where
  reach : Reach
  is : reach_in rows place ≡ Some reach
  distance : distance_of rows place ≡ reach.distance

row_of : (rows : Rows) (place : ℕ) (row : Option Reach) → reach_in rows place ≡ row → is_some row ≡ true → HasRow rows place
row_of rows place None is some = absurd (false≢true some)
row_of rows place (Some reach) is some = record { reach = reach; is = is; distance = ap (λ (o : Option Reach). option_map_or (λ (r : Reach). r.distance) o 0) is }

walk_within : (trap : TrapValue) (target : ℕ) (rows : Rows) (most place : ℕ) → Found trap target rows → is_reached rows place ≡ true → distance_of rows place ≤ most → HasWalk trap place target (distance_of rows place)
walk_within trap target rows zero place found reached few =
    let row : HasRow rows place = row_of rows place (reach_in rows place) refl reached in
    subst (λ d. HasWalk trap place target d) (sym row.distance)
    (walk_by trap target rows row.reach.distance place row.reach.next found (found.1.sound place row.reach row.is)
    (λ other other_reached one_less. absurd (omega (arith, one_less, few, row.distance))))
walk_within trap target rows (suc most) place found reached few =
    let row : HasRow rows place = row_of rows place (reach_in rows place) refl reached in
    subst (λ d. HasWalk trap place target d) (sym row.distance)
    (walk_by trap target rows row.reach.distance place row.reach.next found (found.1.sound place row.reach row.is)
    (λ other other_reached one_less. walk_within trap target rows most other found other_reached (omega (arith, one_less, few, row.distance))))

distance_is : (trap : TrapValue) (target : ℕ) (rows : Rows) (place : ℕ) (row : Option Reach) → Found trap target rows → reach_in rows place ≡ row → IsDistance trap place target (option_map (λ (reach : Reach). reach.distance) row)
distance_is trap target rows place None found is = λ reached.
    false≢true (sym (ap (λ (o : Option Reach). is_some o) is) ∙ (within_walk trap target rows reached.0 place found reached.1).reached)
distance_is trap target rows place (Some reach) found is =
    let reached : is_reached rows place ≡ true = ap (λ (o : Option Reach). is_some o) is in
    let distance : distance_of rows place ≡ reach.distance = ap (λ (o : Option Reach). option_map_or (λ (r : Reach). r.distance) o 0) is in
    let walk : HasWalk trap place target (distance_of rows place) = walk_within trap target rows (distance_of rows place) place found reached (omega arith) in
    (walk.walk, (record { leads = walk.leads; least = λ other leads. omega (arith, walk.len, (within_walk trap target rows other place found leads).near) }, walk.len ∙ distance))

next_is : (channels : List Channel) (rows : Rows) (target place distance : ℕ) (next : Option ℕ) → IsSoundBy channels rows target place (distance + 1) next → IsSome next
next_is channels rows target place distance None sound = absurd (omega (arith, sound.1))
next_is channels rows target place distance (Some number) sound = refl

next_at_row : (trap : TrapValue) (target : ℕ) (rows : Rows) (place distance : ℕ) (row : Option Reach) → Found trap target rows → reach_in rows place ≡ row → option_map (λ (reach : Reach). reach.distance) row ≡ Some (distance + 1)
    → IsSome (option_and_then (λ (reach : Reach). reach.next) row)
next_at_row trap target rows place distance None found is known = absurd (none-some (distance + 1) known)
next_at_row trap target rows place distance (Some reach) found is known =
    next_is (channels_of trap) rows target place distance reach.next
    (subst (λ d. IsSoundBy (channels_of trap) rows target place d reach.next) (same_Some reach.distance (distance + 1) known) (found.1.sound place reach is))

nearer_at : (trap : TrapValue) (target : ℕ) (rows : Rows) (place number : ℕ) (row : Option Reach) → Found trap target rows → reach_in rows place ≡ row → option_and_then (λ (reach : Reach). reach.next) row ≡ Some number
    → LeadsNearer trap (record { target = target; rows = rows }) place number
nearer_at trap target rows place number None found is known = absurd (none-some number known)
nearer_at trap target rows place number (Some reach) found is known =
    let follows : Follows (channels_of trap) rows place number reach.distance = subst (λ (next : Option ℕ). IsSoundBy (channels_of trap) rows target place reach.distance next) known (found.1.sound place reach is) in
    let row : HasRow rows follows.channel.to.0 = row_of rows follows.channel.to.0 (reach_in rows follows.channel.to.0) refl follows.reached in
    record {
      after = follows.channel.to.0;
      distance = row.reach.distance;
      leads = record { channel = follows.channel; there = follows.there; starts = follows.starts; ends = refl };
      here = ap (λ (o : Option Reach). option_map (λ (r : Reach). r.distance) o) is ∙ ap Some (follows.farther ∙ ap (λ d. d + 1) row.distance);
      there = ap (λ (o : Option Reach). option_map (λ (r : Reach). r.distance) o) row.is;
    }

pub found_distances : (trap : TrapValue) (target : ℕ) (rows : Rows) → Found trap target rows → AreDistances trap (record { target = target; rows = rows })
found_distances trap target rows found = record {
  each = λ place. distance_is trap target rows place (reach_in rows place) found refl;
  next = λ place distance known. next_at_row trap target rows place distance (reach_in rows place) found refl known;
  nearer = λ place number known. nearer_at trap target rows place number (reach_in rows place) found refl known;
}
