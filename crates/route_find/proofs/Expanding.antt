-- One step of the search: the places from which a channel leads to the head of the queue.
use Rattle.std.proofs.Common.{◌≡◌, ℕ, zero, suc, ◌+◌, ◌<◌, ◌≤◌, true, false, List, [], ◌∷◌, ◌++◌, length, get_or, Some, None, refl, sym, ap, subst, ◌∙◌, cond, inl, inr, arith, length-append}
use Rattle.std.specs.Prelude.{Option, slice_get, slice_index, is_some, is_none, Contains, replicate}
use Rattle.std.proofs.Math.ListN.{set, length-set}
use Rattle.std.proofs.lemmas.Bool.{cases_eq, cases_lt, false≢true}
use Rattle.std.proofs.lemmas.List.{get_or_append_left, get_or_at, get_or_default, length-replicate}
use Rattle.std.proofs.lemmas.List.Folds.{sum_by-replicate}
use Rattle.std.proofs.lemmas.List.Elements.{Contains-append_left, Contains-push, Contains-get_or}
use Rattle.std.proofs.lemmas.Option.{same_Some, slice_get_within, slice_get_read, get_or_from_slice_get}
use Rattle.trap_model.specs.declared.channel.Channel.{Channel}
use Rattle.route_find.specs.declared.reach.Reach.{Reach}
use Rattle.route_find.specs.Distances.{reach_in}
use Rattle.route_find.specs.Search.{AreBelow, Ends, AreEnds, is_reached, distance_of, missing, IsWithin, Follows, IsSoundBy, IsSound, IsQueue, IsSearch, first}
use Rattle.route_find.proofs.Rows.{Keeps, kept_reached, kept_distance, kept_within, set_keeps, set_cases, set_distance, set_reached, reach_set_same, reach_set_other, missing_set, reached_within, some_row, no_row}
use Rattle.route_find.proofs.Ends.{below_at}

abbrev Rows : Type 0
Rows = List (Option Reach)

-- the place of the queue at the index
abbrev at : List ℕ → ℕ → ℕ
at queue j = slice_index queue j

-- a place is added to the queue, one channel farther than its head
record IsAdded (channels : List Channel) (target head : ℕ) (queue : List ℕ) (rows : Rows) (place number distance : ℕ) : Type 0 where
  search : IsSearch channels target head queue rows
  some : head < length queue
  within : place < length rows
  new : reach_in rows place ≡ None
  farther : distance ≡ distance_of rows (at queue head) + 1
  channel : Channel
  there : slice_get channels number ≡ Some channel
  starts : channel.from.0 ≡ place
  ends : channel.to.0 ≡ at queue head

abbrev made : ℕ → ℕ → Reach
made distance number = record { distance = distance; next = Some number }

abbrev rows_with : Rows → ℕ → ℕ → ℕ → Rows
rows_with rows place number distance = set rows place (Some (made distance number))

abbrev queue_with : List ℕ → ℕ → List ℕ
queue_with queue place = queue ++ place ∷ []

at_old : (queue : List ℕ) (place j : ℕ) → j < length queue → at (queue_with queue place) j ≡ at queue j
at_old queue place j in_queue = get_or_append_left queue (place ∷ []) 0 j in_queue

at_last : (queue : List ℕ) (place j : ℕ) → j ≡ length queue → at (queue_with queue place) j ≡ place
at_last queue place j last = get_or_at queue place [] 0 j (sym last)

longer : (queue : List ℕ) (place : ℕ) → length (queue_with queue place) ≡ length queue + 1
longer queue place = length-append queue (place ∷ [])

-- the head is reached
head_within : (channels : List Channel) (target head : ℕ) (queue : List ℕ) (rows : Rows) → IsSearch channels target head queue rows → head < length queue → IsWithin rows (at queue head) head
head_within channels target head queue rows search some = search.queued.reached head some

-- the distance of each place of the queue is that before
old_distance : (channels : List Channel) (target head : ℕ) (queue : List ℕ) (rows : Rows) (place number distance j : ℕ) → IsAdded channels target head queue rows place number distance → j < length queue
    → distance_of (rows_with rows place number distance) (at (queue_with queue place) j) ≡ distance_of rows (at queue j)
old_distance channels target head queue rows place number distance j added in_queue =
    ap (λ p. distance_of (rows_with rows place number distance) p) (at_old queue place j in_queue)
    ∙ kept_distance rows (rows_with rows place number distance) (at queue j) (set_keeps rows place (made distance number) added.new) (added.search.queued.reached j in_queue).reached

new_distance : (channels : List Channel) (target head : ℕ) (queue : List ℕ) (rows : Rows) (place number distance j : ℕ) → IsAdded channels target head queue rows place number distance → j ≡ length queue
    → distance_of (rows_with rows place number distance) (at (queue_with queue place) j) ≡ distance
new_distance channels target head queue rows place number distance j added last =
    ap (λ p. distance_of (rows_with rows place number distance) p) (at_last queue place j last) ∙ set_distance rows place (made distance number) added.within

-- no place of the queue is farther than the new one
near_new : (channels : List Channel) (target head : ℕ) (queue : List ℕ) (rows : Rows) (place number distance j : ℕ) → IsAdded channels target head queue rows place number distance → j < length queue → distance_of rows (at queue j) ≤ distance
near_new channels target head queue rows place number distance j added in_queue = omega (arith, added.farther, added.search.near j added.some in_queue)

added_queue : (channels : List Channel) (target head : ℕ) (queue : List ℕ) (rows : Rows) (place number distance : ℕ) → IsAdded channels target head queue rows place number distance
    → IsQueue (queue_with queue place) (rows_with rows place number distance)
added_queue channels target head queue rows place number distance added =
    let kept : Keeps rows (rows_with rows place number distance) = set_keeps rows place (made distance number) added.new in
    let long : length (queue_with queue place) ≡ length queue + 1 = longer queue place in
    record {
      queued = λ other reached. elim (set_cases rows place (made distance number) other reached) [
        | inl same ↦ subst (λ p. Contains (queue_with queue place) p) (sym same) (Contains-push queue place)
        | inr old ↦ Contains-append_left queue (place ∷ []) other (added.search.queued.queued other old)
      ];
      reached = λ j in_queue. elim (cases_lt j (length queue)) [
        | inl old ↦ subst (λ p. IsWithin (rows_with rows place number distance) p j) (sym (at_old queue place j old))
            (kept_within rows (rows_with rows place number distance) (at queue j) j kept (added.search.queued.reached j old))
        | inr past ↦ (let last : j ≡ length queue = omega arith in
            let before : distance_of rows (at queue head) ≤ head = (head_within channels target head queue rows added.search added.some).near in
            record {
              reached = ap (λ p. is_reached (rows_with rows place number distance) p) (at_last queue place j last) ∙ set_reached rows place (made distance number) added.within;
              near = omega (arith, new_distance channels target head queue rows place number distance j added last, added.farther, added.some);
            })
      ];
      ordered = λ i j below in_queue. elim (cases_lt j (length queue)) [
        | inl old ↦ (let first_old : i < length queue = omega arith in
            omega (arith, old_distance channels target head queue rows place number distance i added first_old, old_distance channels target head queue rows place number distance j added old, added.search.queued.ordered i j below old))
        | inr past ↦ (let last : j ≡ length queue = omega arith in
            elim (cases_lt i (length queue)) [
              | inl first_old ↦ omega (arith, old_distance channels target head queue rows place number distance i added first_old, new_distance channels target head queue rows place number distance j added last, near_new channels target head queue rows place number distance i added first_old)
              | inr first_past ↦ (let first_last : i ≡ length queue = omega arith in
                  omega (arith, new_distance channels target head queue rows place number distance i added first_last, new_distance channels target head queue rows place number distance j added last))
            ])
      ];
      few = omega (arith, long, added.search.queued.few, missing_set rows place (made distance number) added.within added.new, length-set rows place (Some (made distance number)));
    }

kept_sound : (channels : List Channel) (old new : Rows) (target place distance : ℕ) (next : Option ℕ) → Keeps old new → IsSoundBy channels old target place distance next → IsSoundBy channels new target place distance next
kept_sound channels old new target place distance None kept sound = sound
kept_sound channels old new target place distance (Some number) kept sound = record {
  channel = sound.channel;
  there = sound.there;
  starts = sound.starts;
  reached = kept_reached old new sound.channel.to.0 kept sound.reached;
  farther = omega (arith, sound.farther, kept_distance old new sound.channel.to.0 kept sound.reached);
}

added_follows : (channels : List Channel) (target head : ℕ) (queue : List ℕ) (rows : Rows) (place number distance : ℕ) → IsAdded channels target head queue rows place number distance
    → Follows channels (rows_with rows place number distance) place number distance
added_follows channels target head queue rows place number distance added =
    let kept : Keeps rows (rows_with rows place number distance) = set_keeps rows place (made distance number) added.new in
    let reached : is_reached rows added.channel.to.0 ≡ true = ap (λ p. is_reached rows p) added.ends ∙ (head_within channels target head queue rows added.search added.some).reached in
    record {
      channel = added.channel;
      there = added.there;
      starts = added.starts;
      reached = kept_reached rows (rows_with rows place number distance) added.channel.to.0 kept reached;
      farther = omega (arith, added.farther, kept_distance rows (rows_with rows place number distance) added.channel.to.0 kept reached, ap (λ p. distance_of rows p) added.ends);
    }

added_sound : (channels : List Channel) (target head : ℕ) (queue : List ℕ) (rows : Rows) (place number distance : ℕ) → IsAdded channels target head queue rows place number distance
    → (other : ℕ) (reach : Reach) → reach_in (rows_with rows place number distance) other ≡ Some reach → IsSound channels (rows_with rows place number distance) target other reach
added_sound channels target head queue rows place number distance added other reach known = elim (cases_eq other place) [
  | inl same ↦ (let is : made distance number ≡ reach = same_Some (made distance number) reach (sym (reach_set_same rows place (made distance number) added.within) ∙ ap (λ p. reach_in (rows_with rows place number distance) p) (sym same) ∙ known) in
      subst (λ (r : Reach). IsSound channels (rows_with rows place number distance) target other r) is
      (subst (λ p. Follows channels (rows_with rows place number distance) p number distance) (sym same) (added_follows channels target head queue rows place number distance added)))
  | inr ne ↦ kept_sound channels rows (rows_with rows place number distance) target other reach.distance reach.next (set_keeps rows place (made distance number) added.new)
      (added.search.sound other reach (sym (reach_set_other rows place other (Some (made distance number)) ne) ∙ known))
]

added_search : (channels : List Channel) (target head : ℕ) (queue : List ℕ) (rows : Rows) (place number distance : ℕ) → IsAdded channels target head queue rows place number distance
    → IsSearch channels target head (queue_with queue place) (rows_with rows place number distance)
added_search channels target head queue rows place number distance added =
    let kept : Keeps rows (rows_with rows place number distance) = set_keeps rows place (made distance number) added.new in
    let long : length (queue_with queue place) ≡ length queue + 1 = longer queue place in
    let head_old = old_distance channels target head queue rows place number distance head added added.some in
    record {
      queued = added_queue channels target head queue rows place number distance added;
      start = (kept_reached rows (rows_with rows place number distance) target kept added.search.start.0, kept_distance rows (rows_with rows place number distance) target kept added.search.start.0 ∙ added.search.start.1);
      sound = added_sound channels target head queue rows place number distance added;
      near = λ j some in_queue. elim (cases_lt j (length queue)) [
        | inl old ↦ omega (arith, head_old, old_distance channels target head queue rows place number distance j added old, added.search.near j added.some old)
        | inr past ↦ (let last : j ≡ length queue = omega arith in omega (arith, head_old, new_distance channels target head queue rows place number distance j added last, added.farther))
      ];
      expanded = λ j below in_queue other channel there ends. (
          let old : j < length queue = omega (arith, added.some) in
          let same : at (queue_with queue place) j ≡ at queue j = at_old queue place j old in
          let before : IsWithin rows channel.from.0 (distance_of rows (at queue j) + 1) = added.search.expanded j below old other channel there (ends ∙ same) in
          let now : IsWithin (rows_with rows place number distance) channel.from.0 (distance_of rows (at queue j) + 1) = kept_within rows (rows_with rows place number distance) channel.from.0 (distance_of rows (at queue j) + 1) kept before in
          record { reached = now.reached; near = omega (arith, now.near, old_distance channels target head queue rows place number distance j added old) });
    }

-- ---- the channels that end at the head

-- the places from which so many of these channels lead are reached
pub record IsExpanding (channels : List Channel) (start : List ℕ) (head distance : ℕ) (queue : List ℕ) (rows : Rows) (numbers : List ℕ) (count : ℕ) : Type 0 where
  pub search : IsSearch channels (first start) head queue rows
  pub first : first queue ≡ first start
  pub some : head < length queue
  pub place : slice_index queue head ≡ slice_index start head
  pub distance_is : distance ≡ distance_of rows (slice_index queue head) + 1
  pub reached : (k : ℕ) (channel : Channel) → k < count → slice_get channels (slice_index numbers k) ≡ Some channel → IsWithin rows channel.from.0 distance

pub expanding_start : (channels : List Channel) (head distance : ℕ) (queue : List ℕ) (rows : Rows) (numbers : List ℕ) → IsSearch channels (first queue) head queue rows → head < length queue
    → distance ≡ distance_of rows (slice_index queue head) + 1 → IsExpanding channels queue head distance queue rows numbers 0
expanding_start channels head distance queue rows numbers search some farther = record {
  search = search;
  first = refl;
  some = some;
  place = refl;
  distance_is = farther;
  reached = λ k channel below. absurd (omega arith);
}

reached_more : (channels : List Channel) (rows : Rows) (numbers : List ℕ) (count distance : ℕ) (channel : Channel) → ((k : ℕ) (c : Channel) → k < count → slice_get channels (slice_index numbers k) ≡ Some c → IsWithin rows c.from.0 distance)
    → slice_get channels (slice_index numbers count) ≡ Some channel → IsWithin rows channel.from.0 distance
    → (k : ℕ) (c : Channel) → k < count + 1 → slice_get channels (slice_index numbers k) ≡ Some c → IsWithin rows c.from.0 distance
reached_more channels rows numbers count distance channel before here within k c below there = elim (cases_eq k count) [
  | inl last ↦ subst (λ (x : Channel). IsWithin rows x.from.0 distance) (same_Some channel c (sym here ∙ ap (λ n. slice_get channels (slice_index numbers n)) (sym last) ∙ there)) within
  | inr other ↦ before k c (omega arith) there
]

-- the place was reached before
pub expanding_old : (channels : List Channel) (start : List ℕ) (head distance : ℕ) (queue : List ℕ) (rows : Rows) (numbers : List ℕ) (count : ℕ) (channel : Channel) → IsExpanding channels start head distance queue rows numbers count
    → slice_get channels (slice_index numbers count) ≡ Some channel → is_reached rows channel.from.0 ≡ true → IsExpanding channels start head distance queue rows numbers (count + 1)
expanding_old channels start head distance queue rows numbers count channel before here reached =
    let (j, in_queue, is) = before.search.queued.queued channel.from.0 reached in
    let near : distance_of rows (slice_index queue j) ≤ distance = omega (arith, before.search.near j before.some in_queue, before.distance_is) in
    record {
      search = before.search;
      first = before.first;
      some = before.some;
      place = before.place;
      distance_is = before.distance_is;
      reached = reached_more channels rows numbers count distance channel before.reached here
          (record { reached = reached; near = subst (λ p. distance_of rows p ≤ distance) (at_is queue j channel.from.0 in_queue is) near });
    }
  where
    at_is : (queue : List ℕ) (j p : ℕ) → j < length queue → get_or queue j p ≡ p → slice_index queue j ≡ p
    at_is queue j p in_queue is = get_or_default queue j 0 p in_queue ∙ is

-- the place is new
pub expanding_new : (channels : List Channel) (start : List ℕ) (head distance : ℕ) (queue : List ℕ) (rows : Rows) (numbers : List ℕ) (count number place : ℕ) (channel : Channel) → IsExpanding channels start head distance queue rows numbers count
    → slice_index numbers count ≡ number → slice_get channels number ≡ Some channel → channel.from.0 ≡ place → channel.to.0 ≡ slice_index start head → place < length rows → reach_in rows place ≡ None
    → IsExpanding channels start head distance (queue ++ place ∷ []) (set rows place (Some (record { distance = distance; next = Some number }))) numbers (count + 1)
expanding_new channels start head distance queue rows numbers count number place channel before read there starts ends within new =
    let added : IsAdded channels (first start) head queue rows place number distance = record {
      search = before.search;
      some = before.some;
      within = within;
      new = new;
      farther = before.distance_is;
      channel = channel;
      there = there;
      starts = starts;
      ends = ends ∙ sym before.place;
    } in
    let kept : Keeps rows (rows_with rows place number distance) = set_keeps rows place (made distance number) new in
    let here : slice_get channels (slice_index numbers count) ≡ Some channel = ap (λ n. slice_get channels n) read ∙ there in
    record {
      search = added_search channels (first start) head queue rows place number distance added;
      first = at_old queue place 0 (omega (arith, before.some)) ∙ before.first;
      some = omega (arith, longer queue place, before.some);
      place = at_old queue place head before.some ∙ before.place;
      distance_is = omega (arith, old_distance channels (first start) head queue rows place number distance head added before.some, before.distance_is);
      reached = reached_more channels (rows_with rows place number distance) numbers count distance channel
          (λ k c below at_k. kept_within rows (rows_with rows place number distance) c.from.0 distance kept (before.reached k c below at_k)) here
          (record {
            reached = ap (λ p. is_reached (rows_with rows place number distance) p) starts ∙ set_reached rows place (made distance number) within;
            near = omega (arith, ap (λ p. distance_of (rows_with rows place number distance) p) starts, set_distance rows place (made distance number) within);
          });
    }

-- all of them
pub expanding_end : (channels : List Channel) (start : List ℕ) (head distance places : ℕ) (queue : List ℕ) (rows : Rows) (numbers : List ℕ) (ends : List (List ℕ)) → IsExpanding channels start head distance queue rows numbers (length numbers)
    → AreEnds channels places (length channels) ends → slice_get ends (slice_index start head) ≡ Some numbers → IsSearch channels (first start) (head + 1) queue rows
expanding_end channels start head distance places queue rows numbers ends done are row =
    record {
      queued = done.search.queued;
      start = done.search.start;
      sound = done.search.sound;
      near = λ j some in_queue. omega (arith, done.search.near j done.some in_queue, done.search.queued.ordered head (head + 1) (omega arith) some);
      expanded = λ j below in_queue number channel there ends_there. elim (cases_eq j head) [
        | inl same ↦ (let to_head : channel.to.0 ≡ slice_index start head = ends_there ∙ ap (λ i. slice_index queue i) same ∙ done.place in
            let within : IsWithin rows channel.from.0 distance = found number channel there to_head in
            record { reached = within.reached; near = omega (arith, within.near, done.distance_is, ap (λ i. distance_of rows (slice_index queue i)) same) })
        | inr other ↦ done.search.expanded j (omega arith) in_queue number channel there ends_there
      ];
    }
  where
    found : (number : ℕ) (channel : Channel) → slice_get channels number ≡ Some channel → channel.to.0 ≡ slice_index start head → IsWithin rows channel.from.0 distance
    found number channel there to_head =
        let (k, in_row, is) = are.all (slice_index start head) number numbers row (slice_get_within channels number channel there) (record { channel = channel; there = there; ends = to_head }) in
        done.reached k channel in_row (ap (λ n. slice_get channels n) (get_or_default numbers k 0 number in_row ∙ is) ∙ there)

-- ---- the numbers as they are read

pub number_at : (channels : List Channel) (places count : ℕ) (ends : List (List ℕ)) (place k : ℕ) (numbers : List ℕ) → AreEnds channels places count ends → slice_get ends place ≡ Some numbers → k < length numbers
    → Ends channels place (slice_index numbers k)
number_at channels places count ends place k numbers are row in_row = are.sound place (slice_index numbers k) numbers row (Contains-get_or numbers k 0 in_row)

-- the channel that is read, where both its places are below the number of rows
record IsRead (channels : List Channel) (place k : ℕ) (numbers : List ℕ) (d : Channel) : Type 0 where
  there : slice_get channels (slice_index numbers k) ≡ Some (get_or channels (slice_index numbers k) d)
  ends : (get_or channels (slice_index numbers k) d).to.0 ≡ place

read_at : (channels : List Channel) (place k : ℕ) (numbers : List ℕ) (d : Channel) → Ends channels place (slice_index numbers k) → IsRead channels place k numbers d
read_at channels place k numbers d ends =
    let same : get_or channels (slice_index numbers k) d ≡ ends.channel = get_or_from_slice_get channels (slice_index numbers k) ends.channel d ends.there in
    record { there = ends.there ∙ ap Some (sym same); ends = ap (λ (c : Channel). c.to.0) same ∙ ends.ends }

pub from_below : (channels : List Channel) (places place k : ℕ) (numbers : List ℕ) (d : Channel) → AreBelow places channels → Ends channels place (slice_index numbers k) → (get_or channels (slice_index numbers k) d).from.0 < places
from_below channels places place k numbers d below ends =
    (below_at places channels (slice_index numbers k) (get_or channels (slice_index numbers k) d) below (read_at channels place k numbers d ends).there).0

pub expanding_old_at : (channels : List Channel) (start : List ℕ) (head distance : ℕ) (queue : List ℕ) (rows : Rows) (numbers : List ℕ) (count : ℕ) (d : Channel) (row : Option Reach) → IsExpanding channels start head distance queue rows numbers count
    → Ends channels (slice_index start head) (slice_index numbers count) → AreBelow (length rows) channels → is_none (get_or rows (get_or channels (slice_index numbers count) d).from.0 row) ≡ false
    → IsExpanding channels start head distance queue rows numbers (count + 1)
expanding_old_at channels start head distance queue rows numbers count d row before ends below some =
    let read : IsRead channels (slice_index start head) count numbers d = read_at channels (slice_index start head) count numbers d ends in
    expanding_old channels start head distance queue rows numbers count (get_or channels (slice_index numbers count) d) before read.there
    (some_row rows (get_or channels (slice_index numbers count) d).from.0 row (from_below channels (length rows) (slice_index start head) count numbers d below ends) some)

pub expanding_new_at : (channels : List Channel) (start : List ℕ) (head distance : ℕ) (queue : List ℕ) (rows : Rows) (numbers : List ℕ) (count : ℕ) (d : Channel) (row : Option Reach) → IsExpanding channels start head distance queue rows numbers count
    → Ends channels (slice_index start head) (slice_index numbers count) → AreBelow (length rows) channels → is_none (get_or rows (get_or channels (slice_index numbers count) d).from.0 row) ≡ true
    → IsExpanding channels start head distance (queue ++ (get_or channels (slice_index numbers count) d).from.0 ∷ [])
    (set rows (get_or channels (slice_index numbers count) d).from.0 (Some (record { distance = distance; next = Some (slice_index numbers count) }))) numbers (count + 1)
expanding_new_at channels start head distance queue rows numbers count d row before ends below none =
    let read : IsRead channels (slice_index start head) count numbers d = read_at channels (slice_index start head) count numbers d ends in
    let within = from_below channels (length rows) (slice_index start head) count numbers d below ends in
    expanding_new channels start head distance queue rows numbers count (slice_index numbers count) (get_or channels (slice_index numbers count) d).from.0 (get_or channels (slice_index numbers count) d) before refl read.there refl read.ends within
    (no_row rows (get_or channels (slice_index numbers count) d).from.0 row within none)

-- the numbers that are read for the place at the head
pub row_here : (channels : List Channel) (target head place places : ℕ) (queue : List ℕ) (rows : Rows) (ends : List (List ℕ)) (row numbers : List ℕ) → IsSearch channels target head queue rows → head < length queue
    → length ends ≡ length rows → place ≡ get_or queue head place → row ≡ get_or ends place row → numbers ≡ row → slice_get ends (slice_index queue head) ≡ Some numbers
row_here channels target head place places queue rows ends row numbers search some same_len read read_row is =
    let here : slice_index queue head ≡ place = get_or_default queue head 0 place some ∙ sym read in
    let within : slice_index queue head < length rows = reached_within rows (slice_index queue head) (search.queued.reached head some).reached in
    ap (λ p. slice_get ends p) here ∙ slice_get_read ends (length ends) place row refl (omega (arith, here, within, same_len)) read_row ∙ ap Some (sym is)

-- ---- before the first step

none_missing : (places : ℕ) → missing (replicate places None) ≡ places
none_missing places = sum_by-replicate (λ (row : Option Reach). cond (is_none row) 1 0) places None ∙ omega arith

none_reached : (places place : ℕ) → is_reached (replicate places None) place ≡ true → ⊥
none_reached zero place reached = false≢true reached
none_reached (suc places) zero reached = false≢true reached
none_reached (suc places) (suc place) reached = none_reached places place reached

none_known : (places place : ℕ) → reach_in (replicate places None) place ≡ None
none_known zero place = refl
none_known (suc places) zero = refl
none_known (suc places) (suc place) = none_known places place

abbrev at_target : Reach
at_target = record { distance = 0; next = None }

abbrev first_rows : ℕ → ℕ → Rows
first_rows places target = set (replicate places None) target (Some at_target)

-- only the target is reached
only_target : (places target other : ℕ) → is_reached (first_rows places target) other ≡ true → other ≡ target
only_target places target other reached = elim (set_cases (replicate places None) target at_target other reached) [
  | inl same ↦ same
  | inr old ↦ absurd (none_reached places other old)
]

pub search_start : (channels : List Channel) (places target : ℕ) → target < places → IsSearch channels target 0 (target ∷ []) (first_rows places target)
search_start channels places target in_places =
    let nothing : Option Reach = None in
    let none : Rows = replicate places None in
    let many : length none ≡ places = length-replicate places nothing in
    let in_rows : target < length none = omega (arith, many) in
    let here : distance_of (first_rows places target) target ≡ 0 = set_distance none target at_target in_rows in
    let reached : is_reached (first_rows places target) target ≡ true = set_reached none target at_target in_rows in
    record {
      queued = record {
        queued = λ place is. (0, (omega arith), sym (only_target places target place is));
        reached = λ j in_queue. elim (cases_eq j 0) [
          | inl same ↦ subst (λ i. IsWithin (first_rows places target) (slice_index (target ∷ []) i) i) (sym same) (record { reached = reached; near = omega (arith, here) })
          | inr other ↦ absurd (omega (arith, in_queue, other))
        ];
        ordered = λ i j below in_queue. (let last : j ≡ 0 = omega (arith, in_queue) in let first : i ≡ 0 = omega (arith, below, last) in
            omega (arith, ap (λ k. distance_of (first_rows places target) (slice_index (target ∷ []) k)) (first ∙ sym last)));
        few = omega (arith, none_missing places, missing_set none target at_target in_rows (none_known places target), length-set none target (Some at_target), many);
      };
      start = (reached, here);
      sound = λ place reach known. (let same : place ≡ target = only_target places target place (ap (λ (o : Option Reach). is_some o) known) in
          let is : at_target ≡ reach = same_Some at_target reach (sym (reach_set_same none target at_target in_rows) ∙ ap (λ p. reach_in (first_rows places target) p) (sym same) ∙ known) in
          subst (λ (r : Reach). IsSound channels (first_rows places target) target place r) is (same, refl));
      near = λ j some in_queue. (let last : j ≡ 0 = omega (arith, in_queue) in omega (arith, ap (λ k. distance_of (first_rows places target) (slice_index (target ∷ []) k)) last));
      expanded = λ j below. absurd (omega (arith, below));
    }
