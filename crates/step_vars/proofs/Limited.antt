-- Places have room, and how many things may happen at a place.
use Rattle.std.proofs.Common.{◌≡◌, ℕ, ◌+◌, ◌<◌, ◌≤◌, Bool, true, false, cond, List, [], ◌∷◌, length, map, zero, suc, refl, sym, ap, ◌∙◌, arith, inl, inr, length-append}
use Rattle.std.specs.Prelude.{All, filter, slice_get}
use Rattle.std.specs.Option.{option_map_or}
use Rattle.std.specs.List.{range_with_len}
use Rattle.std.proofs.lemmas.Bool.{cases_lt, lt-ltb, le-ltb}
use Rattle.std.proofs.lemmas.Option.{slice_get_past}
use Rattle.std.proofs.lemmas.List.FromFn.{length-map-range_with_len}
use Rattle.std.proofs.Math.ListN.{length-map}
use Rattle.trap_parts.specs.declared.parts.ZonePart.{ZonePart}
use Rattle.trap_parts.specs.declared.parts.SegmentPart.{SegmentPart}
use Rattle.trap_model.specs.declared.channel.Channel.{Channel}
use Rattle.trap_parts.specs.Parts.{TrapValue}
use Rattle.trap_model.specs.Trap.{place_count, limit_of}
use Rattle.trap_model.specs.Channels.{channels_of, is_through}
use Rattle.trap_parts.specs.Build.{IsTrap}
use Rattle.trap_model.proofs.Slots.{slot_place}
use Rattle.trap_model.proofs.Moves.{slot_of_place}
use Rattle.step_rules.specs.Setting.{SettingValue}
use Rattle.step_vars.specs.declared.cells.Cell.{Cell}
use Rattle.step_vars.specs.Items.{at_item, use_item, swap_item, act_item}
use Rattle.step_vars.specs.declared.channel_test.NumberedChannel.{NumberedChannel}
use Rattle.step_vars.specs.Lists.{places_of, ions_of, numbered_from, channels_where, numbers_where, touches, pairs_of, ion_count, able_ops}
use Rattle.step_vars.specs.Families.{activities_at, activities_in_zone, pairs_in}
use Rattle.step_vars.proofs.Ranges.{filter_taken, filter_passed}

some_capacity : (zones : List ZonePart) (k rest : ℕ) → All (λ zone. (1 ≤ zone.capacity) × (zone.capacity ≤ 32)) zones → k < length zones → 1 ≤ option_map_or (λ zone. zone.capacity) (slice_get zones k) rest
some_capacity [] k rest all h = absurd (omega arith)
some_capacity (zone ∷ zones) zero rest all h = (all zero zone (omega arith)).0
some_capacity (zone ∷ zones) (suc k) rest all h = some_capacity zones k rest (λ j d below. all (suc j) d (omega arith)) (omega arith)

some_load : (segments : List SegmentPart) (k rest : ℕ) → All (λ segment. (1 ≤ segment.load) × (segment.load ≤ 16)) segments → k < length segments → 1 ≤ option_map_or (λ segment. segment.load) (slice_get segments k) rest
some_load [] k rest all h = absurd (omega arith)
some_load (segment ∷ segments) zero rest all h = (all zero segment (omega arith)).0
some_load (segment ∷ segments) (suc k) rest all h = some_load segments k rest (λ j d below. all (suc j) d (omega arith)) (omega arith)

-- each place has room for an ion
pub limit_some : (trap : TrapValue) → IsTrap trap → (place : ℕ) → place < place_count trap → 1 ≤ limit_of trap place
limit_some trap t place h =
    elim (cases_lt place (length trap.zones)) [
      | inl zone ↦ some_capacity trap.zones place _ t.capacities zone
      | inr past ↦
          let p = slot_place trap place past h in
          rw (slice_get_past trap.zones place past, slot_of_place trap place past p) (some_load trap.segments p.segment 0 t.loads p.there)
    ]

same_step : (k : ℕ) (b : Bool) (c : NumberedChannel) (cs : List NumberedChannel) (channel : Channel) (channels : List Channel)
    → length cs ≡ length channels → length (cond b (c ∷ cs) cs) ≡ length (cond b (channel ∷ channels) channels)
same_step k true c cs channel channels e = ap suc e
same_step k false c cs channel channels e = e

numbered_filtered : (test : Channel → Bool) (k : ℕ) (channels : List Channel)
    → length (filter (λ (c : NumberedChannel). test c.channel) (numbered_from k channels)) ≡ length (filter test channels)
numbered_filtered test k [] = refl
numbered_filtered test k (channel ∷ channels) =
    let rest = filter (λ (c : NumberedChannel). test c.channel) (numbered_from (k + 1) channels) in
    same_step k (test channel) (record { number = k; channel = channel }) rest channel (filter test channels)
    (numbered_filtered test (k + 1) channels)

pub numbers_counted : (setting : SettingValue) (test : Channel → Bool)
    → length (numbers_where test setting) ≡ length (filter test (channels_of setting.trap))
numbers_counted setting test =
    length-map (channels_where test setting) (λ (c : NumberedChannel). c.number)
    ∙ numbered_filtered test 0 (channels_of setting.trap)

uses_counted : (setting : SettingValue) (t p : ℕ) → length (map (λ c. use_item c t) (numbers_where (touches p) setting)) ≡ length (filter (touches p) (channels_of setting.trap))
uses_counted setting t p = length-map (numbers_where (touches p) setting) (λ c. use_item c t) ∙ numbers_counted setting (touches p)

in_zone_counted : (setting : SettingValue) (t p : ℕ) → length (activities_in_zone setting t p) ≡ length (pairs_of (ion_count setting)) + length (able_ops setting p)
in_zone_counted setting t p =
    omega (
      arith,
      length-append (map (λ (pair : Cell). swap_item pair.row pair.col p t) (pairs_in setting)) (map (λ g. act_item g p t) (able_ops setting p)),
      length-map (pairs_in setting) (λ (pair : Cell). swap_item pair.row pair.col p t),
      length-map (able_ops setting p) (λ g. act_item g p t),
    )

pub zone_counted : (setting : SettingValue) (t p : ℕ) → p < length setting.trap.zones
    → length (activities_at setting t p) ≡ length (filter (touches p) (channels_of setting.trap)) + (length (pairs_of (ion_count setting)) + length (able_ops setting p))
zone_counted setting t p h =
    rw (lt-ltb p (length setting.trap.zones) h)
    (length-append (map (λ c. use_item c t) (numbers_where (touches p) setting)) (activities_in_zone setting t p)
    ∙ ap (λ n. n + length (activities_in_zone setting t p)) (uses_counted setting t p)
    ∙ ap (λ n. length (filter (touches p) (channels_of setting.trap)) + n) (in_zone_counted setting t p))

pub slot_counted : (setting : SettingValue) (t p : ℕ) → length setting.trap.zones ≤ p → length (activities_at setting t p) ≡ length (filter (touches p) (channels_of setting.trap))
slot_counted setting t p h =
    rw (le-ltb p (length setting.trap.zones) h)
    (omega (arith, length-append (map (λ c. use_item c t) (numbers_where (touches p) setting)) [], uses_counted setting t p))

-- counting those that pass
pub count_passes : (p : ℕ → Bool) (n k : ℕ) → p k ≡ true → n ≡ length (filter p (range_with_len 0 k)) → n + 1 ≡ length (filter p (range_with_len 0 (k + 1)))
count_passes p n k h e =
    ap (λ m. m + 1) e ∙ sym (ap length (filter_taken p k h) ∙ length-append (filter p (range_with_len 0 k)) (k ∷ []))

pub count_fails : (p : ℕ → Bool) (n k : ℕ) → p k ≡ false → n ≡ length (filter p (range_with_len 0 k)) → n ≡ length (filter p (range_with_len 0 (k + 1)))
count_fails p n k h e = e ∙ ap length (sym (filter_passed p k h))

pub crossing_counted : (setting : SettingValue) (t junction : ℕ) → length (map (λ c. use_item c t) (numbers_where (is_through junction) setting)) ≡ length (filter (is_through junction) (channels_of setting.trap))
crossing_counted setting t junction = length-map (numbers_where (is_through junction) setting) (λ c. use_item c t) ∙ numbers_counted setting (is_through junction)

pub places_counted : (setting : SettingValue) (t i : ℕ) → length (map (λ p. at_item i p t) (places_of setting)) ≡ place_count setting.trap
places_counted setting t i = length-map-range_with_len (λ p. at_item i p t) 0 (place_count setting.trap)

pub ions_counted : (setting : SettingValue) (t p : ℕ) → length (map (λ i. at_item i p t) (ions_of setting)) ≡ ion_count setting
ions_counted setting t p = length-map-range_with_len (λ i. at_item i p t) 0 (ion_count setting)
