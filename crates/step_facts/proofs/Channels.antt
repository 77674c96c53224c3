-- The trap's channels by number, and the actions that pass ions through them.
use Rattle.std.proofs.Common.{◌≡◌, ◌≢◌, ℕ, ◌+◌, ◌<◌, Bool, true, false, cond, List, [], ◌∷◌, length, Some, None, refl, sym, ap, subst, ◌∙◌, inl, inr, arith}
use Rattle.std.specs.Prelude.{Contains, IsTrue, Option, option_map, slice_get, if◌then◌else◌, ◌⊎◌, ◌==◌}
use Rattle.std.specs.Option.{option_map_or, option_and_then}
use Rattle.std.proofs.lemmas.Bool.{cases_lt, or_left, or_right, eq-eqb, eqb-true, both_ways}
use Rattle.std.proofs.lemmas.Option.{same_Some, slice_get_within, slice_get_cases, get_or_from_slice_get}
use Rattle.qc_base.specs.declared.ids.End.{End}
use Rattle.qc_base.specs.declared.ids.JunctionId.{JunctionId}
use Rattle.qc_base.specs.declared.ids.Ion.{Ion}
use Rattle.qc_base.specs.declared.ids.End.TheVariants.{A, B}
use Rattle.trap_parts.specs.declared.port.SlotEnd.{SlotEnd}
use Rattle.trap_model.specs.declared.channel.Kind.{Kind}
use Rattle.trap_model.specs.declared.channel.Kind.TheVariants.{Split, Move, Cross, Merge}
use Rattle.trap_parts.specs.Parts.{TrapValue}
use Rattle.trap_model.specs.Trap.{place_count, is_zone, slot_at}
use Rattle.trap_model.specs.Channels.{channels_of, splits, merges, is_through, channel as channel_of, split, merge, cross, same_segment, is_that, is_split, is_merge, is_move, is_cross, channel_at, arm_of, move_channel, cross_channel, number_by}
use Rattle.trap_parts.specs.Build.{IsTrap}
use Rattle.trap_model.specs.declared.channel.Channel.{Channel}
use Rattle.trap_parts.specs.Joins.{joined_slot}
use Rattle.trap_model.proofs.Numbers.{own_number}
use Rattle.trap_model.proofs.Docks.{split_leads, merge_leads}
use Rattle.trap_model.proofs.Moves.{move_leads}
use Rattle.trap_model.proofs.Crosses.{cross_leads, no_cross_channel}
use Rattle.trap_model.proofs.Within.{channels_within}
use Rattle.trap_parts.proofs.Known.{position_at}
use Rattle.step_rules.specs.declared.action.Action.{Action}
use Rattle.step_rules.specs.Setting.{SettingValue}
use Rattle.step_rules.specs.ActionChannel.{channel_for, passing, action_through, action_by}
use Rattle.step_rules.specs.Steps.{place, junction, footprint, Spot}
use Rattle.step_rules.specs.declared.action.Action.TheVariants as actions
use Rattle.step_rules.proofs.Effects.{moving_ends, crossing_ends}
use Rattle.step_rules.proofs.Leading.{leads_through}
use Rattle.step_vars.specs.Lists.{touches}
use Rattle.step_facts.specs.Facts.{IsChannel}
use Rattle.step_facts.specs.OfSchedule.{channel_number}
use Rattle.step_facts.proofs.Lists.{Contains-cons}
use Rattle.step_facts.proofs.ChannelEnds.{channel_between}

-- ---- what a channel joins

pub record Ends (setting : SettingValue) (channel : Channel) : Type 0 where
  pub from : channel.from.0 < place_count setting.trap
  pub to : channel.to.0 < place_count setting.trap
  pub differ : channel.from.0 ≢ channel.to.0

pub channel_ends : (setting : SettingValue) (c : ℕ) (channel : Channel) → IsTrap setting.trap → IsChannel setting c channel → Ends setting channel
channel_ends setting c channel sound is =
    let there : (channel.from.0 < place_count setting.trap) × (channel.to.0 < place_count setting.trap) =
    subst (λ (it : Channel). (it.from.0 < place_count setting.trap) × (it.to.0 < place_count setting.trap)) (get_or_from_slice_get (channels_of setting.trap) c channel channel is)
    (channels_within setting.trap sound c channel (slice_get_within (channels_of setting.trap) c channel is)) in
    record { from = there.0; to = there.1; differ = (channel_between setting.trap c channel sound is).differ }

-- a split leads from a zone, and all others from a slot
pub from_zone : (setting : SettingValue) (c : ℕ) (channel : Channel) → IsTrap setting.trap → IsChannel setting c channel → is_zone setting.trap channel.from.0 ≡ splits channel.kind
from_zone setting c channel sound is = (channel_between setting.trap c channel sound is).from

-- a merge leads into a zone, and all others into a slot
pub to_zone : (setting : SettingValue) (c : ℕ) (channel : Channel) → IsTrap setting.trap → IsChannel setting c channel → is_zone setting.trap channel.to.0 ≡ merges channel.kind
to_zone setting c channel sound is = (channel_between setting.trap c channel sound is).to

-- ---- from a channel to its action

-- the channel at the number of an action is that of the action
leads : (trap : TrapValue) (action : Action) → channel_at trap (channel_number trap action) ≡ channel_for trap action
leads trap (actions.Split zone end count) = split_leads trap zone.0 end
leads trap (actions.Move from to) = move_leads trap from.0 to.0
leads trap (actions.Cross crossed from to) = cross_leads trap crossed.0 from.0 to.0
leads trap (actions.Merge zone end) = merge_leads trap zone.0 end
leads trap (actions.Swap zone index) = refl
leads trap (actions.Op zone op) = refl

number_by_kind : (trap : TrapValue) (kind : Kind) (crossed : Option JunctionId) (channel : Channel) (count c : ℕ) → number_by trap kind crossed channel ≡ Some c
    → channel_number trap (action_by kind crossed channel count) ≡ Some c
number_by_kind trap Split crossed channel count c is = is
number_by_kind trap Move crossed channel count c is = is
number_by_kind trap Cross None channel count c is = absurd cc
number_by_kind trap Cross (Some crossed) channel count c is = is
number_by_kind trap Merge crossed channel count c is = is

pub through_number : (setting : SettingValue) (c : ℕ) (channel : Channel) (count : ℕ) → IsTrap setting.trap → IsChannel setting c channel
    → channel_number setting.trap (action_through channel count) ≡ Some c
through_number setting c channel count sound is = number_by_kind setting.trap channel.kind channel.junction channel count c (own_number setting.trap c channel sound is)

pub through_channel : (setting : SettingValue) (c : ℕ) (channel : Channel) (count : ℕ) → IsTrap setting.trap → IsChannel setting c channel
    → channel_for setting.trap (action_through channel count) ≡ Some channel
through_channel setting c channel count sound is = leads_through setting.trap c count channel sound is

passing_by : (kind : Kind) (crossed : Option JunctionId) (channel : Channel) (count : ℕ) (ions : List Ion)
    → passing (action_by kind crossed channel count) ions ≡ (if splits kind then count else length ions)
passing_by Split crossed channel count ions = refl
passing_by Move crossed channel count ions = refl
passing_by Cross None channel count ions = refl
passing_by Cross (Some crossed) channel count ions = refl
passing_by Merge crossed channel count ions = refl

pub through_passing : (channel : Channel) (count : ℕ) (ions : List Ion) → passing (action_through channel count) ions ≡ (if splits channel.kind then count else length ions)
through_passing channel count ions = passing_by channel.kind channel.junction channel count ions

-- ---- from an action to its channel

number_within : (trap : TrapValue) (action : Action) (c : ℕ) → channel_number trap action ≡ Some c → c < length (channels_of trap)
number_within trap (actions.Split zone end count) c is = position_at (is_split zone.0 end) (channels_of trap) c is
number_within trap (actions.Move from to) c is = position_at (is_move from.0 to.0) (channels_of trap) c is
number_within trap (actions.Cross crossed from to) c is = position_at (is_cross crossed.0 from.0 to.0) (channels_of trap) c is
number_within trap (actions.Merge zone end) c is = position_at (is_merge zone.0 end) (channels_of trap) c is
number_within trap (actions.Swap zone index) c is = absurd cc
number_within trap (actions.Op zone op) c is = absurd cc

-- the number leads to the channel
pub number_leads : (setting : SettingValue) (action : Action) (c : ℕ) → channel_number setting.trap action ≡ Some c
    → (channel : Channel) × IsChannel setting c channel × (channel_for setting.trap action ≡ Some channel)
number_leads setting action c number =
    let at : slice_get (channels_of setting.trap) c ≡ channel_for setting.trap action = ap (channel_at setting.trap) (sym number) ∙ leads setting.trap action in
    elim (slice_get_cases (channels_of setting.trap) c).1 [
      | inl there ↦ (there.0, there.2, sym at ∙ there.2)
      | inr past ↦ absurd (omega (arith, past.0, number_within setting.trap action c number))
    ]

numbered : (trap : TrapValue) (number : Option ℕ) (channel : Channel) → channel_at trap number ≡ Some channel
    → (c : ℕ) × (slice_get (channels_of trap) c ≡ Some channel) × (number ≡ Some c)
numbered trap None channel is = absurd cc
numbered trap (Some c) channel is = (c, is, refl)

pub channel_numbered : (setting : SettingValue) (action : Action) (channel : Channel) → channel_for setting.trap action ≡ Some channel
    → (c : ℕ) × IsChannel setting c channel × (channel_number setting.trap action ≡ Some c)
channel_numbered setting action channel is = numbered setting.trap (channel_number setting.trap action) channel (leads setting.trap action ∙ is)

pub same_place : (p q : ℕ) → place p ≡ place q → p ≡ q
same_place p q e = cc

-- of two places and more spots, a place is one of the two
two_places : (q r : ℕ) (more : List Spot) (p : ℕ) → (Contains more (place p) → ⊥) → Contains (place q ∷ place r ∷ more) (place p) → (q ≡ p) ⊎ (r ≡ p)
two_places q r more p not on_p = elim ((Contains-cons (place q) (place r ∷ more) (place p)).0 on_p) [
  | inl here ↦ inl (same_place q p here)
  | inr later ↦ elim ((Contains-cons (place r) more (place p)).0 later) [
    | inl there ↦ inr (same_place r p there)
    | inr rest ↦ absurd (not rest)
  ]
]

no_place : (j p : ℕ) → Contains (junction j ∷ []) (place p) → ⊥
no_place j p on_p = elim ((Contains-cons (junction j) [] (place p)).0 on_p) [ inl here ↦ absurd cc | inr later ↦ absurd (omega (arith, later.1)) ]

abbrev slot_spots : Option SlotEnd → List Spot
slot_spots slot = option_map_or (λ (s : SlotEnd). place s.slot ∷ []) slot []

split_ends : (zone : ℕ) (end : End) (slot : Option SlotEnd) (channel : Channel) (p : ℕ) → option_map (split zone end) slot ≡ Some channel → Contains (place zone ∷ slot_spots slot) (place p)
    → (channel.from.0 ≡ p) ⊎ (channel.to.0 ≡ p)
split_ends zone end None channel p is on_p = absurd cc
split_ends zone end (Some s) channel p is on_p =
    let same : split zone end s ≡ channel = same_Some (split zone end s) channel is in
    elim (two_places zone s.slot [] p (λ more. absurd (omega (arith, more.1))) on_p) [
      | inl here ↦ inl (ap (λ (c : Channel). c.from.0) (sym same) ∙ here)
      | inr there ↦ inr (ap (λ (c : Channel). c.to.0) (sym same) ∙ there)
    ]

merge_ends : (zone : ℕ) (end : End) (slot : Option SlotEnd) (channel : Channel) (p : ℕ) → option_map (merge zone end) slot ≡ Some channel → Contains (place zone ∷ slot_spots slot) (place p)
    → (channel.from.0 ≡ p) ⊎ (channel.to.0 ≡ p)
merge_ends zone end None channel p is on_p = absurd cc
merge_ends zone end (Some s) channel p is on_p =
    let same : merge zone end s ≡ channel = same_Some (merge zone end s) channel is in
    elim (two_places zone s.slot [] p (λ more. absurd (omega (arith, more.1))) on_p) [
      | inl here ↦ inr (ap (λ (c : Channel). c.to.0) (sym same) ∙ here)
      | inr there ↦ inl (ap (λ (c : Channel). c.from.0) (sym same) ∙ there)
    ]

-- the places of an action that passes ions are those of its channel
pub footprint_ends : (setting : SettingValue) (action : Action) (channel : Channel) (p : ℕ) → channel_for setting.trap action ≡ Some channel
    → Contains (footprint setting.trap action) (place p) → (channel.from.0 ≡ p) ⊎ (channel.to.0 ≡ p)
footprint_ends setting (actions.Split zone end count) channel p is on_p = split_ends zone.0 end (joined_slot setting.trap zone.0 end) channel p is on_p
footprint_ends setting (actions.Move from to) channel p is on_p =
    let ends = moving_ends setting.trap from.0 to.0 channel is in
    elim (two_places from.0 to.0 [] p (λ more. absurd (omega (arith, more.1))) on_p) [ inl here ↦ inl (sym ends.0 ∙ here) | inr there ↦ inr (sym ends.1 ∙ there) ]
footprint_ends setting (actions.Cross crossed from to) channel p is on_p =
    let ends = crossing_ends setting.trap crossed.0 from.0 to.0 channel is in
    elim (two_places from.0 to.0 (junction crossed.0 ∷ []) p (no_place crossed.0 p) on_p) [ inl here ↦ inl (sym ends.0 ∙ here) | inr there ↦ inr (sym ends.1 ∙ there) ]
footprint_ends setting (actions.Merge zone end) channel p is on_p = merge_ends zone.0 end (joined_slot setting.trap zone.0 end) channel p is on_p
footprint_ends setting (actions.Swap zone index) channel p is on_p = absurd cc
footprint_ends setting (actions.Op zone op) channel p is on_p = absurd cc

-- the kind of an action's channel, and its junction
split_kind : (zone : ℕ) (end : End) (slot : Option SlotEnd) (channel : Channel) → option_map (split zone end) slot ≡ Some channel → (channel.kind ≡ Split) × (channel.junction ≡ None)
split_kind zone end None channel is = absurd cc
split_kind zone end (Some s) channel is =
    let same : split zone end s ≡ channel = same_Some (split zone end s) channel is in
    (ap (λ (c : Channel). c.kind) (sym same), ap (λ (c : Channel). c.junction) (sym same))

merge_kind : (zone : ℕ) (end : End) (slot : Option SlotEnd) (channel : Channel) → option_map (merge zone end) slot ≡ Some channel → (channel.kind ≡ Merge) × (channel.junction ≡ None)
merge_kind zone end None channel is = absurd cc
merge_kind zone end (Some s) channel is =
    let same : merge zone end s ≡ channel = same_Some (merge zone end s) channel is in
    (ap (λ (c : Channel). c.kind) (sym same), ap (λ (c : Channel). c.junction) (sym same))

picked_kind : (a b c : Bool) (x y z : Channel) → x.kind ≡ Move → x.junction ≡ None → y.kind ≡ Move → y.junction ≡ None
    → cond a (cond b (Some x) (cond c (Some y) None)) None ≡ Some z → (z.kind ≡ Move) × (z.junction ≡ None)
picked_kind false b c x y z xk xj yk yj is = absurd cc
picked_kind true true c x y z xk xj yk yj is =
    let same = same_Some x z is in
    (ap (λ (it : Channel). it.kind) (sym same) ∙ xk, ap (λ (it : Channel). it.junction) (sym same) ∙ xj)
picked_kind true false true x y z xk xj yk yj is =
    let same = same_Some y z is in
    (ap (λ (it : Channel). it.kind) (sym same) ∙ yk, ap (λ (it : Channel). it.junction) (sym same) ∙ yj)
picked_kind true false false x y z xk xj yk yj is = absurd cc

move_kind : (trap : TrapValue) (from to : ℕ) (channel : Channel) → move_channel trap from to ≡ Some channel → (channel.kind ≡ Move) × (channel.junction ≡ None)
move_kind trap from to channel is =
    picked_kind (same_segment (slot_at trap from) (slot_at trap to)) (to == from + 1) (from == to + 1) (channel_of Move from B to A None) (channel_of Move from A to B None) channel refl refl refl refl is

crossed_arms : (crossed : ℕ) (from to : Option SlotEnd) (channel : Channel) → option_and_then (λ out. option_map (cross crossed out) to) from ≡ Some channel
    → channel.junction ≡ Some (record { 0 = crossed })
crossed_arms crossed None to channel is = absurd cc
crossed_arms crossed (Some out) None channel is = absurd cc
crossed_arms crossed (Some out) (Some into) channel is = ap (λ (c : Channel). c.junction) (sym (same_Some (cross crossed out into) channel is))

unless_same : (b : Bool) (found : Option Channel) (channel : Channel) → cond b None found ≡ Some channel → found ≡ Some channel
unless_same true found channel is = absurd cc
unless_same false found channel is = is

cross_junction : (trap : TrapValue) (crossed from to : ℕ) (channel : Channel) → cross_channel trap crossed from to ≡ Some channel → channel.junction ≡ Some (record { 0 = crossed })
cross_junction trap crossed from to channel is = crossed_arms crossed (arm_of trap crossed from) (arm_of trap crossed to) channel (unless_same (from == to) _ channel is)

-- a crossing has its junction among the spots
pub footprint_junction : (setting : SettingValue) (action : Action) (channel : Channel) (j : ℕ) → channel_for setting.trap action ≡ Some channel
    → IsTrue (is_through j channel) → Contains (footprint setting.trap action) (junction j)
footprint_junction setting (actions.Split zone end count) channel j is through = absurd (both_ways (is_through j channel) (ap (is_that j) (split_kind zone.0 end (joined_slot setting.trap zone.0 end) channel is).1) through)
footprint_junction setting (actions.Move from to) channel j is through = absurd (both_ways (is_through j channel) (ap (is_that j) (move_kind setting.trap from.0 to.0 channel is).1) through)
footprint_junction setting (actions.Cross crossed from to) channel j is through =
    let same : j ≡ crossed.0 = eqb-true j crossed.0 (sym (ap (is_that j) (cross_junction setting.trap crossed.0 from.0 to.0 channel is)) ∙ through) in
    (2, omega arith, ap junction (sym same))
footprint_junction setting (actions.Merge zone end) channel j is through = absurd (both_ways (is_through j channel) (ap (is_that j) (merge_kind zone.0 end (joined_slot setting.trap zone.0 end) channel is).1) through)
footprint_junction setting (actions.Swap zone index) channel j is through = absurd cc
footprint_junction setting (actions.Op zone op) channel j is through = absurd cc

-- it works at the places of the channel, and in its junction
pub through_place : (setting : SettingValue) (c : ℕ) (channel : Channel) (count p : ℕ) → IsTrap setting.trap → IsChannel setting c channel
    → Contains (footprint setting.trap (action_through channel count)) (place p) → touches p channel ≡ true
through_place setting c channel count p sound is on_p =
    elim (footprint_ends setting (action_through channel count) channel p (through_channel setting c channel count sound is) on_p) [
      | inl from ↦ or_left (channel.from.0 == p) (channel.to.0 == p) (eq-eqb channel.from.0 p from)
      | inr to ↦ or_right (channel.from.0 == p) (channel.to.0 == p) (eq-eqb channel.to.0 p to)
    ]

two_spots : (p q j : ℕ) → Contains (place p ∷ place q ∷ []) (junction j) → ⊥
two_spots p q j on_j = elim ((Contains-cons (place p) (place q ∷ []) (junction j)).0 on_j) [
  | inl here ↦ absurd cc
  | inr later ↦ elim ((Contains-cons (place q) [] (junction j)).0 later) [ inl there ↦ absurd cc | inr rest ↦ absurd (omega (arith, rest.1)) ]
]

dock_spots : (zone : ℕ) (slot : Option SlotEnd) (j : ℕ) → Contains (place zone ∷ slot_spots slot) (junction j) → ⊥
dock_spots zone None j on_j = elim ((Contains-cons (place zone) [] (junction j)).0 on_j) [ inl here ↦ absurd cc | inr later ↦ absurd (omega (arith, later.1)) ]
dock_spots zone (Some s) j on_j = two_spots zone s.slot j on_j

same_junction : (i j : ℕ) → junction i ≡ junction j → i ≡ j
same_junction i j e = cc

only_junction : (p q i j : ℕ) → Contains (place p ∷ place q ∷ junction i ∷ []) (junction j) → i ≡ j
only_junction p q i j on_j = elim ((Contains-cons (place p) (place q ∷ junction i ∷ []) (junction j)).0 on_j) [
  | inl here ↦ absurd cc
  | inr later ↦ elim ((Contains-cons (place q) (junction i ∷ []) (junction j)).0 later) [
    | inl there ↦ absurd cc
    | inr rest ↦ elim ((Contains-cons (junction i) [] (junction j)).0 rest) [ inl same ↦ same_junction i j same | inr none ↦ absurd (omega (arith, none.1)) ]
  ]
]

junction_by : (trap : TrapValue) (kind : Kind) (crossed : Option JunctionId) (channel : Channel) (count j : ℕ) → channel.junction ≡ crossed
    → channel_for trap (action_by kind crossed channel count) ≡ Some channel → Contains (footprint trap (action_by kind crossed channel count)) (junction j)
    → (is_through j channel ≡ true) × (j < length trap.junctions)
junction_by trap Split crossed channel count j through is on_j = absurd (dock_spots channel.from.0 (joined_slot trap channel.from.0 channel.from_end) j on_j)
junction_by trap Move crossed channel count j through is on_j = absurd (two_spots channel.from.0 channel.to.0 j on_j)
junction_by trap Cross None channel count j through is on_j = absurd (two_spots channel.from.0 channel.to.0 j on_j)
junction_by trap Cross (Some crossed) channel count j through is on_j =
    let same : crossed.0 ≡ j = only_junction channel.from.0 channel.to.0 crossed.0 j on_j in
    let there : crossed.0 < length trap.junctions = elim (cases_lt crossed.0 (length trap.junctions)) [
      | inl below ↦ below
      | inr past ↦ (let none : cross_channel trap crossed.0 channel.from.0 channel.to.0 ≡ None = no_cross_channel trap crossed.0 channel.from.0 channel.to.0 past in absurd cc)
    ] in
    (ap (is_that j) through ∙ eq-eqb j crossed.0 (sym same), omega (arith, there, same))
junction_by trap Merge crossed channel count j through is on_j = absurd (dock_spots channel.to.0 (joined_slot trap channel.to.0 channel.to_end) j on_j)

pub through_junction : (setting : SettingValue) (c : ℕ) (channel : Channel) (count j : ℕ) → IsTrap setting.trap → IsChannel setting c channel
    → Contains (footprint setting.trap (action_through channel count)) (junction j) → IsTrue (is_through j channel) × (j < length setting.trap.junctions)
through_junction setting c channel count j sound is on_j =
    junction_by setting.trap channel.kind channel.junction channel count j refl (through_channel setting c channel count sound is) on_j

-- a split leads from a zone, and what comes from a slot passes the whole chain
pub passes_whole : (setting : SettingValue) (action : Action) (channel : Channel) (ions : List Ion) → IsTrap setting.trap → channel_for setting.trap action ≡ Some channel
    → is_zone setting.trap channel.from.0 ≡ false → passing action ions ≡ length ions
passes_whole setting (actions.Split zone end count) channel ions sound is slot =
    let c = channel_numbered setting (actions.Split zone end count) channel is in
    let of_zone : is_zone setting.trap channel.from.0 ≡ true =
    from_zone setting c.0 channel sound c.1 ∙ ap splits (split_kind zone.0 end (joined_slot setting.trap zone.0 end) channel is).0 in
    absurd (both_ways (is_zone setting.trap channel.from.0) slot of_zone)
passes_whole setting (actions.Move from to) channel ions sound is slot = refl
passes_whole setting (actions.Cross crossed from to) channel ions sound is slot = refl
passes_whole setting (actions.Merge zone end) channel ions sound is slot = refl
passes_whole setting (actions.Swap zone index) channel ions sound is slot = absurd cc
passes_whole setting (actions.Op zone op) channel ions sound is slot = absurd cc
