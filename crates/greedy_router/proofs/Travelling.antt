-- The travel of one ion: what each action adds, and that it passes its guards.
use Rattle.std.proofs.Common.{◌≡◌, ℕ, ◌+◌, ◌-◌, ◌<◌, ◌≤◌, true, List, [], ◌∷◌, ◌++◌, length, Some, swap, refl, sym, ap, subst, ◌∙◌, arith, get_or-set_same}
use Rattle.std.specs.Prelude.{slice_get}
use Rattle.std.proofs.lemmas.Bool.{false≢true}
use Rattle.std.proofs.lemmas.List.Edits.{length-swap, swapped_from_swap}
use Rattle.std.proofs.lemmas.Option.{slice_get-get_or, slice_get_within, get_or_from_slice_get}
use Rattle.qc_base.specs.declared.ids.Ion.{Ion}
use Rattle.qc_base.specs.declared.ids.OpId.{OpId}
use Rattle.qc_base.specs.declared.ids.PlaceId.{PlaceId}
use Rattle.qc_base.specs.declared.ids.End.TheVariants.{A, B}
use Rattle.trap_parts.specs.Build.{IsTrap}
use Rattle.ion_chain.specs.Transfer.{list_at}
use Rattle.step_rules.specs.declared.action.Action.{Action}
use Rattle.step_rules.specs.declared.action.Action.TheVariants as kinds
use Rattle.step_rules.specs.Setting.{SettingValue}
use Rattle.step_rules.specs.Config.{ConfigValue, IsConfigOf}
use Rattle.step_rules.specs.Guards.{Passes, PassesTransport}
use Rattle.step_rules.specs.Steps.{after}
use Rattle.step_rules.proofs.Moved.{any_limit_small}
use Rattle.greedy_router.specs.declared.played.Played.{Played}
use Rattle.greedy_router.specs.Serial.{config_after, ops_of, IsNext, IsSingle}
use Rattle.greedy_router.specs.Places.{IsMoved}
use Rattle.greedy_router.specs.Traffic.{IsSound, IsPlayed, MayTravel, carries, Goes, Acts, Performs, Carries, Brings}
use Rattle.greedy_router.proofs.Counts.{leaves_a, leaves_b}
use Rattle.greedy_router.proofs.Moves.{moved_then, moved_swap}
use Rattle.greedy_router.proofs.Passing.{swap_passes}
use Rattle.greedy_router.proofs.Turns.{config_more, ops_carry, ops_op, travels_more, sound_carry, sound_op}

-- ---- one more action

-- an action that carries ions has only guards of the trap and the configuration
pub transport : (setting : SettingValue) (config : List (List Ion)) (action : Action) → carries action ≡ true → Passes setting config action → PassesTransport setting.trap config action
transport setting config (kinds.Op zone op) e passes = absurd (false≢true e)
transport setting config (kinds.Split zone end count) e passes = passes
transport setting config (kinds.Move from to) e passes = passes
transport setting config (kinds.Cross junction from to) e passes = passes
transport setting config (kinds.Merge zone end) e passes = passes
transport setting config (kinds.Swap zone index) e passes = passes

pub acts : (setting : SettingValue) (old new : Played) (action : Action) → IsPlayed setting old → MayTravel setting old.actions.items → carries action ≡ true → IsSingle action
    → Passes setting old.config.lists action → new.actions.items ≡ old.actions.items ++ action ∷ [] → new.config.lists ≡ after setting.trap old.config.lists action → IsConfigOf setting.trap new.config
    → Acts setting old new action
acts setting old new action played travels carrying single passes items lists config =
    let actions : List Action = old.actions.items in
    let sound : IsSound setting (actions ++ action ∷ []) =
    sound_carry setting actions action played.sound travels carrying single (subst (λ (l : List (List Ion)). Passes setting l action) played.after passes) in
    record {
      goes = record {
        played = record {
          sound = subst (IsSound setting) (sym items) sound;
          config = config;
          after = lists ∙ ap (λ (l : List (List Ion)). after setting.trap l action) played.after ∙ sym (config_more setting actions action) ∙ ap (config_after setting) (sym items);
        };
        travels = subst (λ (l : List Action). MayTravel setting l) (sym items) (travels_more setting actions action carrying);
        ops = ap ops_of items ∙ ops_carry actions action carrying;
      };
      lists = lists;
    }

pub performs : (setting : SettingValue) (old new : Played) (zone : PlaceId) (op : OpId) → IsPlayed setting old → IsNext setting old.actions.items zone.0 op.0
    → new.actions.items ≡ old.actions.items ++ kinds.Op zone op ∷ [] → new.config ≡ old.config → Performs setting old new op
performs setting old new zone op played next items same =
    let actions : List Action = old.actions.items in
    let lists : new.config.lists ≡ old.config.lists = ap (λ (c : ConfigValue). c.lists) same in
    record {
      played = record {
        sound = subst (IsSound setting) (sym items) (sound_op setting actions zone op played.sound next);
        config = subst (IsConfigOf setting.trap) (sym same) played.config;
        after = lists ∙ played.after ∙ sym (config_more setting actions (kinds.Op zone op)) ∙ ap (config_after setting) (sym items);
      };
      lists = lists;
      ops = ap ops_of items ∙ ops_op actions zone op;
    }

pub goes_then : (setting : SettingValue) (old middle new : Played) → Goes setting old middle → Goes setting middle new → Goes setting old new
goes_then setting old middle new first next = record { played = next.played; travels = next.travels; ops = next.ops ∙ first.ops }

-- ---- to an end of a zone

pub few_ions : (setting : SettingValue) (played : Played) (zone : ℕ) (ions : List Ion) → IsTrap setting.trap → IsPlayed setting played → zone < length setting.trap.zones → ions ≡ list_at played.config.lists zone → length ions ≤ 32
few_ions setting played zone ions sound is there same = omega (arith, ap length same, is.config.within zone (omega arith), any_limit_small setting.trap zone sound)

in_lists : (setting : SettingValue) (played : Played) (zone : ℕ) → IsPlayed setting played → zone < length setting.trap.zones → zone < length played.config.lists
in_lists setting played zone is there = omega (arith, there, is.config.places)

-- the ion goes by the swap to the lower index, or to the upper one
at_lower : (ions : List Ion) (index : ℕ) (ion : Ion) → index + 1 < length ions → slice_get ions (index + 1) ≡ Some ion → slice_get (swap ions index (index + 1)) index ≡ Some ion
at_lower ions index ion h at =
    let new : List Ion = swap ions index (index + 1) in
    let moved = swapped_from_swap ions new index (index + 1) ion (omega arith) h refl in
    slice_get-get_or new index ion (omega (arith, length-swap ions index (index + 1), h)) ∙ ap Some (moved.0 ∙ get_or_from_slice_get ions (index + 1) ion ion at)

at_upper : (ions : List Ion) (index : ℕ) (ion : Ion) → index + 1 < length ions → slice_get ions index ≡ Some ion → slice_get (swap ions index (index + 1)) (index + 1) ≡ Some ion
at_upper ions index ion h at =
    let new : List Ion = swap ions index (index + 1) in
    let moved = swapped_from_swap ions new index (index + 1) ion (omega arith) h refl in
    slice_get-get_or new (index + 1) ion (omega (arith, length-swap ions index (index + 1), h)) ∙ ap Some (moved.1 ∙ get_or_from_slice_get ions index ion ion at)

list_swapped : (setting : SettingValue) (middle new : Played) (zone : PlaceId) (index : ℕ) → zone.0 < length middle.config.lists → Acts setting middle new (kinds.Swap zone index)
    → list_at new.config.lists zone.0 ≡ swap (list_at middle.config.lists zone.0) index (index + 1)
list_swapped setting middle new zone index there did =
    ap (λ (l : List (List Ion)). list_at l zone.0) did.lists ∙ get_or-set_same middle.config.lists zone.0 (swap (list_at middle.config.lists zone.0) index (index + 1)) [] there

swapped : (setting : SettingValue) (old middle new : Played) (ion : ℕ) (zone : PlaceId) (index : ℕ) → zone.0 < length setting.trap.zones → Carries setting old middle ion zone.0 zone.0
    → index + 1 < length (list_at middle.config.lists zone.0) → Acts setting middle new (kinds.Swap zone index) → Carries setting old new ion zone.0 zone.0
swapped setting old middle new ion zone index there before h did =
    let in_config : zone.0 < length middle.config.lists = in_lists setting middle zone.0 before.goes.played there in
    record {
      goes = goes_then setting old middle new before.goes did.goes;
      moved = moved_then old.config.lists middle.config.lists new.config.lists ion zone.0 zone.0 zone.0 before.moved
          (subst (λ (l : List (List Ion)). IsMoved middle.config.lists l ion zone.0 zone.0) (sym did.lists) (moved_swap middle.config.lists zone.0 index ion in_config h));
    }

-- the zone has the ion at that index
pub record IsAt (setting : SettingValue) (old new : Played) (zone : PlaceId) (ion : Ion) (index : ℕ) : Type 0 where
  pub carries : Carries setting old new ion.0 zone.0 zone.0
  pub at : slice_get (list_at new.config.lists zone.0) index ≡ Some ion

pub lower_passes : (setting : SettingValue) (config : List (List Ion)) (zone : PlaceId) (ion : Ion) (index : ℕ) → zone.0 < length setting.trap.zones → slice_get (list_at config zone.0) index ≡ Some ion → 0 < index
    → Passes setting config (kinds.Swap zone (index - 1))
lower_passes setting config zone ion index there at more = swap_passes setting config zone (index - 1) there (omega (arith, more, slice_get_within (list_at config zone.0) index ion at))

pub lower : (setting : SettingValue) (old middle new : Played) (zone : PlaceId) (ion : Ion) (index : ℕ) → zone.0 < length setting.trap.zones → Carries setting old middle ion.0 zone.0 zone.0
    → slice_get (list_at middle.config.lists zone.0) index ≡ Some ion → 0 < index → Acts setting middle new (kinds.Swap zone (index - 1)) → IsAt setting old new zone ion (index - 1)
lower setting old middle new zone ion index there before at more did =
    let ions : List Ion = list_at middle.config.lists zone.0 in
    let is : index ≡ index - 1 + 1 = omega (arith, more) in
    let h : index - 1 + 1 < length ions = omega (arith, more, slice_get_within ions index ion at) in
    record {
      carries = swapped setting old middle new ion.0 zone (index - 1) there before h did;
      at = ap (λ (l : List Ion). slice_get l (index - 1)) (list_swapped setting middle new zone (index - 1) (in_lists setting middle zone.0 before.goes.played there) did)
          ∙ at_lower ions (index - 1) ion h (ap (slice_get ions) (sym is) ∙ at);
    }

pub lowest : (setting : SettingValue) (old new : Played) (zone : PlaceId) (ion : Ion) (index : ℕ) → Carries setting old new ion.0 zone.0 zone.0 → slice_get (list_at new.config.lists zone.0) index ≡ Some ion → index ≤ 0
    → Brings setting old new zone.0 ion A
lowest setting old new zone ion index did at least =
    let ions : List Ion = list_at new.config.lists zone.0 in
    let is : 0 ≡ index = omega (arith, least) in
    record { carries = did; at_end = leaves_a ions ion (ap (slice_get ions) is ∙ at) }

-- its list is as long as before
same_length : (setting : SettingValue) (old new : Played) (ion zone : ℕ) → Carries setting old new ion zone zone → length (list_at new.config.lists zone) ≡ length (list_at old.config.lists zone)
same_length setting old new ion zone did = omega (arith, did.moved.lengths zone)

pub upper_within : (setting : SettingValue) (old middle : Played) (zone : PlaceId) (ion : Ion) (index : ℕ) (ions : List Ion) → Carries setting old middle ion.0 zone.0 zone.0
    → ions ≡ list_at old.config.lists zone.0 → index < length ions - 1 → index + 1 < length (list_at middle.config.lists zone.0)
upper_within setting old middle zone ion index ions before is less = omega (arith, less, ap length is, same_length setting old middle ion.0 zone.0 before)

pub upper : (setting : SettingValue) (old middle new : Played) (zone : PlaceId) (ion : Ion) (index : ℕ) → zone.0 < length setting.trap.zones → Carries setting old middle ion.0 zone.0 zone.0
    → slice_get (list_at middle.config.lists zone.0) index ≡ Some ion → index + 1 < length (list_at middle.config.lists zone.0) → Acts setting middle new (kinds.Swap zone index)
    → IsAt setting old new zone ion (index + 1)
upper setting old middle new zone ion index there before at h did =
    let ions : List Ion = list_at middle.config.lists zone.0 in
    record {
      carries = swapped setting old middle new ion.0 zone index there before h did;
      at = ap (λ (l : List Ion). slice_get l (index + 1)) (list_swapped setting middle new zone index (in_lists setting middle zone.0 before.goes.played there) did) ∙ at_upper ions index ion h at;
    }

pub uppermost : (setting : SettingValue) (old new : Played) (zone : PlaceId) (ion : Ion) (index : ℕ) (ions : List Ion) → Carries setting old new ion.0 zone.0 zone.0
    → slice_get (list_at new.config.lists zone.0) index ≡ Some ion → ions ≡ list_at old.config.lists zone.0 → length ions - 1 ≤ index → Brings setting old new zone.0 ion B
uppermost setting old new zone ion index ions did at is past =
    let new_ions : List Ion = list_at new.config.lists zone.0 in
    record {
      carries = did;
      at_end = leaves_b new_ions ion index (omega (arith, past, ap length is, same_length setting old new ion.0 zone.0 did, slice_get_within new_ions index ion at)) at;
    }
