-- What an action does to the places, and that actions on different spots may change places.
use Rattle.std.proofs.Common.{◌≡◌, ◌≢◌, ℕ, ◌+◌, List, [], ◌∷◌, get_or, Bool, true, false, cond, Some, None, refl, sym, ap, subst, ◌∙◌, inl, inr, arith}
use Rattle.std.specs.Prelude.{AllPairs, Contains, IsPermutation, Option, find, swap, slice_set, ◌==◌, option_map, option_and_then}
use Rattle.std.specs.Option.{option_map_or}
use Rattle.std.proofs.lemmas.Bool.{eqb-true, cases_order}
use Rattle.std.proofs.lemmas.Option.{same_Some}
use Rattle.std.proofs.lemmas.List.{get_or-set_other, set_comm, get_or_default}
use Rattle.std.proofs.lemmas.List.Elements.{All-contains_itself}
use Rattle.qc_base.specs.declared.ids.Ion.{Ion}
use Rattle.qc_base.specs.declared.ids.End.{End}
use Rattle.qc_base.specs.declared.ids.End.TheVariants.{A, B}
use Rattle.trap_model.specs.declared.channel.Kind.TheVariants.{Move}
use Rattle.trap_parts.specs.Parts.{TrapValue}
use Rattle.trap_model.specs.Trap.{slot_at}
use Rattle.trap_parts.specs.Joins.{joined_slot, arms_of}
use Rattle.trap_model.specs.Channels.{channel as channel_of, same_segment, split, merge, cross, split_channel, merge_channel, move_channel, cross_channel, arm_of}
use Rattle.trap_model.specs.declared.channel.Channel.{Channel}
use Rattle.trap_parts.specs.declared.port.SlotEnd.{SlotEnd}
use Rattle.ion_chain.specs.declared.transfer.Transfer.{Transfer}
use Rattle.ion_chain.specs.Passing.{leaving, left, joined}
use Rattle.ion_chain.specs.Transfer.{list_at, after_transfer}
use Rattle.ion_chain.proofs.Transfers.{list_at-after_transfer, after_transfer-after_transfer}
use Rattle.step_rules.specs.declared.action.Action.{Action}
use Rattle.step_rules.specs.declared.action.Action.TheVariants as actions
use Rattle.step_rules.specs.ActionChannel.{channel_for, passing, transfer}
use Rattle.step_rules.specs.Steps.{Spot, place, junction, footprint, AreApart, after, after_passing, after_step}
use Rattle.step_rules.proofs.Orders.{any_order}

-- ---- the ends of an action's channel are in its footprint

pub record Inside (spots : List Spot) (channel : Channel) : Type 0 where
  pub from : Contains spots (place channel.from.0)
  pub to : Contains spots (place channel.to.0)

-- a channel between the first two places of a footprint
between : (p q : ℕ) (more : List Spot) (channel : Channel) → p ≡ channel.from.0 → q ≡ channel.to.0 → Inside (place p ∷ place q ∷ more) channel
between p q more channel e f = record { from = (0, omega arith, ap place e); to = (1, omega arith, ap place f) }

back : (p q : ℕ) (more : List Spot) (channel : Channel) → p ≡ channel.to.0 → q ≡ channel.from.0 → Inside (place p ∷ place q ∷ more) channel
back p q more channel e f = record { from = (1, omega arith, ap place f); to = (0, omega arith, ap place e) }

abbrev slot_spots : Option SlotEnd → List Spot
slot_spots slot = option_map_or (λ (s : SlotEnd). place s.slot ∷ []) slot []

split_inside : (zone : ℕ) (end : End) (slot : Option SlotEnd) (channel : Channel) → option_map (split zone end) slot ≡ Some channel → Inside (place zone ∷ slot_spots slot) channel
split_inside zone end None channel e = absurd cc
split_inside zone end (Some s) channel e =
    let is = same_Some (split zone end s) channel e in
    between zone s.slot [] channel (ap (λ (c : Channel). c.from.0) is) (ap (λ (c : Channel). c.to.0) is)

merge_inside : (zone : ℕ) (end : End) (slot : Option SlotEnd) (channel : Channel) → option_map (merge zone end) slot ≡ Some channel → Inside (place zone ∷ slot_spots slot) channel
merge_inside zone end None channel e = absurd cc
merge_inside zone end (Some s) channel e =
    let is = same_Some (merge zone end s) channel e in
    back zone s.slot [] channel (ap (λ (c : Channel). c.to.0) is) (ap (λ (c : Channel). c.from.0) is)

-- one of two channels between the same places
picked : (a b c : Bool) (x y z : Channel) (from to : ℕ) → x.from.0 ≡ from → x.to.0 ≡ to → y.from.0 ≡ from → y.to.0 ≡ to
    → cond a (cond b (Some x) (cond c (Some y) None)) None ≡ Some z → (from ≡ z.from.0) × (to ≡ z.to.0)
picked false b c x y z from to xf xt yf yt e = absurd cc
picked true true c x y z from to xf xt yf yt e =
    let is = same_Some x z e in
    (sym xf ∙ ap (λ (c : Channel). c.from.0) is, sym xt ∙ ap (λ (c : Channel). c.to.0) is)
picked true false true x y z from to xf xt yf yt e =
    let is = same_Some y z e in
    (sym yf ∙ ap (λ (c : Channel). c.from.0) is, sym yt ∙ ap (λ (c : Channel). c.to.0) is)
picked true false false x y z from to xf xt yf yt e = absurd cc

found_in : {X : Type 0} (p : X → Bool) (y : X) (rest : Option X) (x : X) (b : Bool) → p y ≡ b → (rest ≡ Some x → p x ≡ true) → cond b (Some y) rest ≡ Some x → p x ≡ true
found_in p y rest x true is later e = ap p (sym (same_Some y x e)) ∙ is
found_in p y rest x false is later e = later e

found : {X : Type 0} (p : X → Bool) (xs : List X) (x : X) → find p xs ≡ Some x → p x ≡ true
found p [] x e = absurd cc
found p (y ∷ ys) x e = found_in p y (find p ys) x (p y) refl (found p ys x) e

cross_inside : (crossed : ℕ) (from to : Option SlotEnd) (channel : Channel) → option_and_then (λ out. option_map (cross crossed out) to) from ≡ Some channel
    → (out : SlotEnd) × (into : SlotEnd) × (from ≡ Some out) × (to ≡ Some into) × (cross crossed out into ≡ channel)
cross_inside crossed None to channel e = absurd cc
cross_inside crossed (Some out) None channel e = absurd cc
cross_inside crossed (Some out) (Some into) channel e = (out, into, refl, refl, same_Some (cross crossed out into) channel e)

unless_same : (b : Bool) (found : Option Channel) (channel : Channel) → cond b None found ≡ Some channel → found ≡ Some channel
unless_same true found channel e = absurd cc
unless_same false found channel e = e

arm_is : (trap : TrapValue) (crossed slot : ℕ) (arm : SlotEnd) → arm_of trap crossed slot ≡ Some arm → slot ≡ arm.slot
arm_is trap crossed slot arm e = eqb-true slot arm.slot (found (λ (a : SlotEnd). slot == a.slot) (arms_of trap crossed) arm e)

pub crossing_ends : (trap : TrapValue) (crossed from to : ℕ) (channel : Channel) → cross_channel trap crossed from to ≡ Some channel → (from ≡ channel.from.0) × (to ≡ channel.to.0)
crossing_ends trap crossed from to channel e =
    let it = cross_inside crossed (arm_of trap crossed from) (arm_of trap crossed to) channel (unless_same (from == to) _ channel e) in
    (arm_is trap crossed from it.0 it.2 ∙ ap (λ (c : Channel). c.from.0) it.4, arm_is trap crossed to it.1 it.3 ∙ ap (λ (c : Channel). c.to.0) it.4)

pub moving_ends : (trap : TrapValue) (from to : ℕ) (channel : Channel) → move_channel trap from to ≡ Some channel → (from ≡ channel.from.0) × (to ≡ channel.to.0)
moving_ends trap from to channel e =
    picked (same_segment (slot_at trap from) (slot_at trap to)) (to == from + 1) (from == to + 1) (channel_of Move from B to A None) (channel_of Move from A to B None) channel from to refl refl refl refl e

pub inside : (trap : TrapValue) (action : Action) (channel : Channel) → channel_for trap action ≡ Some channel → Inside (footprint trap action) channel
inside trap (actions.Split zone end count) channel e = split_inside zone.0 end (joined_slot trap zone.0 end) channel e
inside trap (actions.Move from to) channel e = let ends = moving_ends trap from.0 to.0 channel e in between from.0 to.0 [] channel ends.0 ends.1
inside trap (actions.Cross crossed from to) channel e = let ends = crossing_ends trap crossed.0 from.0 to.0 channel e in between from.0 to.0 (junction crossed.0 ∷ []) channel ends.0 ends.1
inside trap (actions.Merge zone end) channel e = merge_inside zone.0 end (joined_slot trap zone.0 end) channel e
inside trap (actions.Swap zone index) channel e = absurd cc
inside trap (actions.Op zone op) channel e = absurd cc

-- ---- three sorts of effect

data Effect (trap : TrapValue) (action : Action) : Type 0 where
  passes : (channel : Channel) → Inside (footprint trap action) channel → ((config : List (List Ion)) → after trap config action ≡ after_passing config action channel) → Effect trap action
  swaps : (zone index : ℕ) → Contains (footprint trap action) (place zone) → ((config : List (List Ion)) → after trap config action ≡ slice_set config zone (swap (list_at config zone) index (index + 1))) → Effect trap action
  stays : ((config : List (List Ion)) → after trap config action ≡ config) → Effect trap action

through : (trap : TrapValue) (action : Action) (found : Option Channel) → ((channel : Channel) → found ≡ Some channel → Inside (footprint trap action) channel)
    → ((config : List (List Ion)) → after trap config action ≡ option_map_or (after_passing config action) found config) → Effect trap action
through trap action None within is = stays is
through trap action (Some channel) within is = passes channel (within channel refl) is

effect : (trap : TrapValue) (action : Action) → Effect trap action
effect trap (actions.Split zone end count) = through trap (actions.Split zone end count) (split_channel trap zone.0 end) (inside trap (actions.Split zone end count)) (λ config. refl)
effect trap (actions.Move from to) = through trap (actions.Move from to) (move_channel trap from.0 to.0) (inside trap (actions.Move from to)) (λ config. refl)
effect trap (actions.Cross crossed from to) = through trap (actions.Cross crossed from to) (cross_channel trap crossed.0 from.0 to.0) (inside trap (actions.Cross crossed from to)) (λ config. refl)
effect trap (actions.Merge zone end) = through trap (actions.Merge zone end) (merge_channel trap zone.0 end) (inside trap (actions.Merge zone end)) (λ config. refl)
effect trap (actions.Swap zone index) = swaps zone.0 index (0, omega arith, refl) (λ config. refl)
effect trap (actions.Op zone op) = stays (λ config. refl)

-- ---- each sort with each

differ : (trap : TrapValue) (a b : Action) → AreApart trap a b → (p q : ℕ) → Contains (footprint trap a) (place p) → Contains (footprint trap b) (place q) → p ≢ q
differ trap a b apart p q in_a in_b e = apart (place p) in_a (subst (λ (r : ℕ). Contains (footprint trap b) (place r)) (sym e) in_b)

passes_passes : (config : List (List Ion)) (a b : Action) (c d : Channel) → c.from.0 ≢ d.from.0 → c.to.0 ≢ d.to.0 → c.from.0 ≢ d.to.0 → c.to.0 ≢ d.from.0
    → after_passing (after_passing config a c) b d ≡ after_passing (after_passing config b d) a c
passes_passes config a b c d ff tt' ft tf =
    let s : Transfer = transfer c (passing a (list_at config c.from.0)) in
    let t : Transfer = transfer d (passing b (list_at config d.from.0)) in
    let seen_d : list_at (after_transfer config s) d.from.0 ≡ list_at config d.from.0 = list_at-after_transfer config s d.from.0 ff tf in
    let seen_c : list_at (after_transfer config t) c.from.0 ≡ list_at config c.from.0 = list_at-after_transfer config t c.from.0 (λ e. ff (sym e)) (λ e. ft (sym e)) in
    ap (λ (ions : List Ion). after_transfer (after_transfer config s) (transfer d (passing b ions))) seen_d
    ∙ after_transfer-after_transfer config s t (record { sources = ff; targets = tt'; across = ft; back = tf })
    ∙ sym (ap (λ (ions : List Ion). after_transfer (after_transfer config t) (transfer c (passing a ions))) seen_c)

swaps_passes : (config : List (List Ion)) (zone index : ℕ) (b : Action) (d : Channel) → zone ≢ d.from.0 → zone ≢ d.to.0
    → after_passing (slice_set config zone (swap (list_at config zone) index (index + 1))) b d
    ≡ slice_set (after_passing config b d) zone (swap (list_at (after_passing config b d) zone) index (index + 1))
swaps_passes config zone index b d zf zt =
    let s : List Ion = swap (list_at config zone) index (index + 1) in
    let t : Transfer = transfer d (passing b (list_at config d.from.0)) in
    let source : List Ion = list_at config d.from.0 in
    let gone : List Ion = left d.from_end t.count source in
    let come : List Ion = joined d.to_end (leaving d.from_end t.count source) (list_at config d.to.0) in
    let from_seen : list_at (slice_set config zone s) d.from.0 ≡ source = get_or-set_other config zone d.from.0 s [] (λ e. zf (sym e)) in
    let to_seen : list_at (slice_set config zone s) d.to.0 ≡ list_at config d.to.0 = get_or-set_other config zone d.to.0 s [] (λ e. zt (sym e)) in
    let zone_seen : list_at (after_transfer config t) zone ≡ list_at config zone = list_at-after_transfer config t zone (λ e. zf (sym e)) (λ e. zt (sym e)) in
    rw (from_seen, to_seen, zone_seen)
    (ap (λ ys. slice_set ys d.to.0 come) (set_comm config zone d.from.0 s gone zf) ∙ set_comm (slice_set config d.from.0 gone) zone d.to.0 s come zt)

swaps_swaps : (config : List (List Ion)) (y i z j : ℕ) → y ≢ z
    → slice_set (slice_set config y (swap (list_at config y) i (i + 1))) z (swap (list_at (slice_set config y (swap (list_at config y) i (i + 1))) z) j (j + 1))
    ≡ slice_set (slice_set config z (swap (list_at config z) j (j + 1))) y (swap (list_at (slice_set config z (swap (list_at config z) j (j + 1))) y) i (i + 1))
swaps_swaps config y i z j apart =
    let s : List Ion = swap (list_at config y) i (i + 1) in
    let t : List Ion = swap (list_at config z) j (j + 1) in
    let seen_z : list_at (slice_set config y s) z ≡ list_at config z = get_or-set_other config y z s [] (λ e. apart (sym e)) in
    let seen_y : list_at (slice_set config z t) y ≡ list_at config y = get_or-set_other config z y t [] apart in
    rw (seen_z, seen_y) (set_comm config y z s t apart)

-- the effects of a and b, one after the other
both : (trap : TrapValue) (config : List (List Ion)) (a b : Action) (f g : List (List Ion) → List (List Ion)) → ((c : List (List Ion)) → after trap c a ≡ f c) → ((c : List (List Ion)) → after trap c b ≡ g c)
    → g (f config) ≡ f (g config) → after trap (after trap config a) b ≡ after trap (after trap config b) a
both trap config a b f g is_a is_b same = is_b (after trap config a) ∙ ap g (is_a config) ∙ same ∙ sym (is_a (after trap config b) ∙ ap f (is_b config))

abbrev swapping : ℕ → ℕ → List (List Ion) → List (List Ion)
swapping zone index config = slice_set config zone (swap (list_at config zone) index (index + 1))

commute : (trap : TrapValue) (a b : Action) → AreApart trap a b → Effect trap a → Effect trap b → (config : List (List Ion)) → after trap (after trap config a) b ≡ after trap (after trap config b) a
commute trap a b apart (stays is_a) (stays is_b) config = both trap config a b (λ c. c) (λ c. c) is_a is_b refl
commute trap a b apart (stays is_a) (swaps z j in_b is_b) config = both trap config a b (λ c. c) (swapping z j) is_a is_b refl
commute trap a b apart (stays is_a) (passes d in_b is_b) config = both trap config a b (λ c. c) (λ c. after_passing c b d) is_a is_b refl
commute trap a b apart (swaps y i in_a is_a) (stays is_b) config = both trap config a b (swapping y i) (λ c. c) is_a is_b refl
commute trap a b apart (swaps y i in_a is_a) (swaps z j in_b is_b) config = both trap config a b (swapping y i) (swapping z j) is_a is_b (swaps_swaps config y i z j (differ trap a b apart y z in_a in_b))
commute trap a b apart (swaps y i in_a is_a) (passes d in_b is_b) config =
    both trap config a b (swapping y i) (λ c. after_passing c b d) is_a is_b (swaps_passes config y i b d (differ trap a b apart y d.from.0 in_a in_b.from) (differ trap a b apart y d.to.0 in_a in_b.to))
commute trap a b apart (passes c in_a is_a) (stays is_b) config = both trap config a b (λ x. after_passing x a c) (λ x. x) is_a is_b refl
commute trap a b apart (passes c in_a is_a) (swaps z j in_b is_b) config =
    both trap config a b (λ x. after_passing x a c) (swapping z j) is_a is_b
    (sym (swaps_passes config z j a c (λ e. differ trap a b apart c.from.0 z in_a.from in_b (sym e)) (λ e. differ trap a b apart c.to.0 z in_a.to in_b (sym e))))
commute trap a b apart (passes c in_a is_a) (passes d in_b is_b) config =
    both trap config a b (λ x. after_passing x a c) (λ x. after_passing x b d) is_a is_b
    (passes_passes config a b c d (differ trap a b apart c.from.0 d.from.0 in_a.from in_b.from) (differ trap a b apart c.to.0 d.to.0 in_a.to in_b.to)
    (differ trap a b apart c.from.0 d.to.0 in_a.from in_b.to) (differ trap a b apart c.to.0 d.from.0 in_a.to in_b.from))

-- ---- actions that are apart, in any order

pub in_either_order : (trap : TrapValue) (a b : Action) → AreApart trap a b → (config : List (List Ion)) → after trap (after trap config a) b ≡ after trap (after trap config b) a
in_either_order trap a b apart config = commute trap a b apart (effect trap a) (effect trap b) config

of_step : (trap : TrapValue) (step : List Action) → AllPairs (AreApart trap) step → (config : List (List Ion)) (a b : Action) → Contains step a → Contains step b → after trap (after trap config a) b ≡ after trap (after trap config b) a
of_step trap step apart config a b in_a in_b =
    let i : ℕ = in_a.0 in
    let j : ℕ = in_b.0 in
    let at_i : get_or step i b ≡ a = get_or_default step i b a in_a.1 ∙ in_a.2 in
    let at_j : get_or step j a ≡ b = get_or_default step j a b in_b.1 ∙ in_b.2 in
    elim (cases_order i j) [
      | inl same ↦ (let e : a ≡ b = sym at_i ∙ ap (λ (k : ℕ). get_or step k b) same ∙ in_b.2 in ap (λ (x : Action). after trap (after trap config a) x) (sym e) ∙ ap (λ (x : Action). after trap (after trap config x) a) e)
      | inr other ↦ elim other [
        | inl before ↦ in_either_order trap a b (subst (λ (x : Action). AreApart trap a x) at_j (subst (λ (x : Action). AreApart trap x (get_or step j a)) in_a.2 (apart i j a before in_b.1))) config
        | inr after ↦ sym (in_either_order trap b a (subst (λ (x : Action). AreApart trap b x) at_i (subst (λ (x : Action). AreApart trap x (get_or step i b)) in_b.2 (apart j i b after in_a.1))) config)
      ]
    ]

pub step_in_any_order : (trap : TrapValue) (config : List (List Ion)) (step other : List Action) → AllPairs (AreApart trap) step → IsPermutation step other → after_step trap config other ≡ after_step trap config step
step_in_any_order trap config step other apart moved =
    any_order (after trap) (Contains step) (λ c a b in_a in_b. of_step trap step apart c a b in_a in_b) step other (All-contains_itself step) moved config
