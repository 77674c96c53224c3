-- The activities that are listed are those of the setting, and work at places that are there.
use Rattle.std.proofs.Common.{◌≡◌, ℕ, ◌+◌, ◌-◌, ◌<◌, List, [], ◌∷◌, ◌++◌, length, map, get_or, refl, sym, ap, subst, ◌∙◌, inl, inr, arith, append_assoc}
use Rattle.std.specs.Prelude.{All, Contains, filter}
use Rattle.std.specs.List.{flat_map, range_with_len}
use Rattle.std.proofs.lemmas.Bool.{cases_Bool}
use Rattle.std.proofs.lemmas.List.{length-map, get_or-map}
use Rattle.std.proofs.lemmas.List.Elements.{All-get_or, All-contains_itself}
use Rattle.std.proofs.lemmas.Option.{get_or_from_slice_get, slice_get_within}
use Rattle.trap_parts.specs.Build.{IsTrap}
use Rattle.trap_model.specs.Trap.{place_count}
use Rattle.trap_model.specs.Channels.{channels_of}
use Rattle.trap_model.specs.declared.channel.Channel.{Channel}
use Rattle.trap_model.proofs.Within.{channels_within}
use Rattle.step_rules.specs.Setting.{SettingValue}
use Rattle.step_rules.specs.Guards.{is_able_for}
use Rattle.step_vars.specs.declared.cells.Cell.{Cell}
use Rattle.step_vars.specs.Lists.{cell, able_ops, performed}
use Rattle.step_vars.specs.Families.{pairs_in}
use Rattle.step_vars.specs.Numbering.{Numbering}
use Rattle.step_vars.specs.Encoding.{VarsValue, vars_of, numbering_of}
use Rattle.step_vars.proofs.Ranges.{range_step}
use Rattle.step_facts.specs.Activities.{Activity, passage, exchange, operation, IsActivity, passages_of, exchanges_of, operations_of, activities_of}
use Rattle.step_facts.proofs.Bounds.{there-activity}
use Rattle.extract.specs.declared.activity.Activity.{Activity as Listed}
use Rattle.extract.specs.Reading.{seen, place_in, passages_from, exchanges_in, operations_in}

-- ---- the tables of the variables

pub numbering_is : (v : VarsValue) (setting : SettingValue) → v ≡ vars_of setting v.encoding v.steps
    → v.numbering ≡ numbering_of setting v.encoding
unfolding vars_of
numbering_is v setting is = ap (λ (w : VarsValue). w.numbering) is

pub pairs_are : (v : VarsValue) (setting : SettingValue) → v ≡ vars_of setting v.encoding v.steps
    → v.numbering.pairs ≡ pairs_in setting
unfolding numbering_of
pairs_are v setting is = ap (λ (n : Numbering). n.pairs) (numbering_is v setting is)

pub ops_are : (v : VarsValue) (setting : SettingValue) → v ≡ vars_of setting v.encoding v.steps
    → v.numbering.ops ≡ map (λ g. cell g 0) (performed setting.circuit)
unfolding numbering_of
ops_are v setting is = ap (λ (n : Numbering). n.ops) (numbering_is v setting is)

-- ---- zone by zone

-- what is added for one zone more
pub next_zone : {X : Type 0} (f : ℕ → List X) (before now whole : List X) (z n : ℕ) → z < n
    → before ++ flat_map f (range_with_len z (n - z)) ≡ whole → now ≡ before ++ f z
    → now ++ flat_map f (range_with_len (z + 1) (n - (z + 1))) ≡ whole
next_zone f before now whole z n within left added =
    let rest = flat_map f (range_with_len (z + 1) (n - (z + 1))) in
    ap (λ xs. xs ++ rest) added ∙ append_assoc before (f z) rest
    ∙ sym (ap (λ zones. before ++ flat_map f zones) (range_step z n within)) ∙ left

same_for_each : {X : Type 0} (f g : ℕ → List X) (zones : List ℕ) → ((z : ℕ) → f z ≡ g z)
    → flat_map f zones ≡ flat_map g zones
same_for_each f g [] same = refl
same_for_each f g (z ∷ zones) same =
    ap (λ xs. xs ++ flat_map f zones) (same z) ∙ ap (λ xs. g z ++ xs) (same_for_each f g zones same)

-- the operations of a zone, by the rows of the table
same_operations : (setting : SettingValue) (zone : ℕ) (ops : List ℕ)
    → operations_in setting (map (λ g. cell g 0) ops) zone
    ≡ map (λ g. operation g zone) (filter (is_able_for setting zone) ops)
same_operations setting zone [] = refl
same_operations setting zone (op ∷ ops) = elim (cases_Bool (is_able_for setting zone op)) [
  | inl able ↦ rw able (ap (λ rest. operation op zone ∷ rest) (same_operations setting zone ops))
  | inr not_able ↦ rw not_able (same_operations setting zone ops)
]

-- ---- the whole list

pub all_listed : (setting : SettingValue) (channels : List Channel) (pairs ops : List Cell) (zones : ℕ)
    (first second third : List Activity) → channels ≡ channels_of setting.trap → pairs ≡ pairs_in setting
    → ops ≡ map (λ g. cell g 0) (performed setting.circuit) → zones ≡ length setting.trap.zones
    → first ≡ passages_from 0 channels
    → second ≡ first ++ flat_map (exchanges_in pairs) (range_with_len 0 zones)
    → third ≡ second ++ flat_map (operations_in setting ops) (range_with_len 0 zones)
    → third ≡ activities_of setting
all_listed setting channels pairs ops zones first second third of_trap of_ions of_circuit of_zones passages exchanges
    operations =
    let rows : List Cell = map (λ g. cell g 0) (performed setting.circuit) in
    let passing : first ≡ passages_of setting = passages ∙ ap (passages_from 0) of_trap in
    let exchanging : flat_map (exchanges_in pairs) (range_with_len 0 zones) ≡ exchanges_of setting =
    ap (λ these. flat_map (exchanges_in these) (range_with_len 0 zones)) of_ions
    ∙ ap (λ n. flat_map (exchanges_in (pairs_in setting)) (range_with_len 0 n)) of_zones in
    let operating : flat_map (operations_in setting ops) (range_with_len 0 zones) ≡ operations_of setting =
    ap (λ these. flat_map (operations_in setting these) (range_with_len 0 zones)) of_circuit
    ∙ ap (λ n. flat_map (operations_in setting rows) (range_with_len 0 n)) of_zones
    ∙ same_for_each (operations_in setting rows) (λ z. map (λ g. operation g z) (able_ops setting z)) (range_with_len 0 (length setting.trap.zones))
    (λ z. same_operations setting z (performed setting.circuit)) in
    operations ∙ ap (λ xs. xs ++ flat_map (operations_in setting ops) (range_with_len 0 zones)) exchanges
    ∙ ap (λ xs. first ++ flat_map (exchanges_in pairs) (range_with_len 0 zones) ++ xs) operating
    ∙ ap (λ xs. first ++ xs ++ operations_of setting) exchanging
    ∙ ap (λ xs. xs ++ exchanges_of setting ++ operations_of setting) passing

-- ---- where they work

activity-there : (setting : SettingValue) (a : Activity) → IsTrap setting.trap → IsActivity setting a
    → place_in a < place_count setting.trap
activity-there setting (passage number channel) trap is =
    let channels = channels_of setting.trap in
    let within : number < length channels = slice_get_within channels number channel is in
    let P : Channel → Type 0 = λ c. (c.from.0 < place_count setting.trap) × (c.to.0 < place_count setting.trap) in
    let there : P (get_or channels number channel) =
    All-get_or P channels number channel within (channels_within setting.trap trap) in
    (subst P (get_or_from_slice_get channels number channel channel is) there).0
activity-there setting (exchange first second zone) trap is = omega (arith, is.2)
activity-there setting (operation op zone) trap is = omega (arith, is.2)

pub listed_there : (setting : SettingValue) (listed : List Listed) → IsTrap setting.trap
    → map seen listed ≡ activities_of setting
    → All (λ activity. place_in (seen activity) < place_count setting.trap) listed
listed_there setting listed trap is = λ k d within.
    let all : List Activity = map seen listed in
    let below : k < length all = omega (arith, within, length-map listed seen) in
    let in_list : Contains all (get_or all k (seen d)) =
    All-get_or (Contains all) all k (seen d) below (All-contains_itself all) in
    let at_k : get_or all k (seen d) ≡ seen (get_or listed k d) = get_or-map seen listed k d (seen d) within in
    let member : Contains (activities_of setting) (seen (get_or listed k d)) =
    subst (λ xs. Contains xs (seen (get_or listed k d))) is (subst (Contains all) at_k in_list) in
    activity-there setting (seen (get_or listed k d)) trap
    ((there-activity setting (seen (get_or listed k d))).0 member)
