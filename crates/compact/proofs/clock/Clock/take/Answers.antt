use Rattle.std.proofs.Common.{◌≡◌, ℕ, ◌+◌, ◌≤◌, max, List, [], ◌∷◌, ◌++◌, length, take, get_or, Some, refl, sym, ap, subst, ◌∙◌, arith}
use Rattle.std.specs.Prelude.{slice_get, Contains}
use Rattle.std.proofs.lemmas.Option.{slice_get-get_or}
use Rattle.step_rules.specs.declared.action.Action.{Action}
use Rattle.step_rules.specs.declared.action.Action.TheVariants as kinds
use Rattle.qc_base.specs.declared.ids.End.TheVariants.{A}
use Rattle.step_rules.specs.Setting.{SettingValue}
use Rattle.step_rules.specs.Steps.{footprint}
use Rattle.step_rules.specs.Footprint.{spots}
use Rattle.compact.specs.Latest.{IsAt, IsLast}
use Rattle.compact.specs.Levels.{IsGreatest, spot_level}
use Rattle.compact.specs.Orders.{Precedes, AreOrdered, AreOrders, OrdersValue, IsPerformedAt}
use Rattle.compact.specs.Clock.{ClockValue, IsClock}
use Rattle.compact.proofs.Taking.{IsTaken, performs_none, free_below, ready_below, taken_other, taken_op}
use Rattle.compact.proofs.clock.Clock.take.Goals as goal

abbrev no_action : Action
no_action = kinds.Split (record { 0 = 0 }) A 0

pub after-level-requires : goal.after-level-requires
after-level-requires c =
    let setting : SettingValue = c.args.setting.now in
    let actions : List Action = c.args.actions.now in
    let times : List ℕ = c.args.times.now in
    let given : Action = get_or c.args.actions.now (length c.args.times.now) no_action in
    let there : slice_get actions (length times) ≡ Some given = slice_get-get_or actions (length times) no_action c.requires.next in
    let works : spots c.footprint-works.result ≡ footprint setting.trap given = subst (λ (s : SettingValue). spots c.footprint-works.result ≡ footprint s.trap given) c.setting.view_is c.footprint-works.ensures in
    let old : ClockValue = record { spots = c.self.inside.spots; orders = c.self.inside.orders } in
    let kept : IsClock setting actions times old = subst (IsClock setting actions times) (sym c.self.view_is) c.requires.clock in
    let below : c.greatest-free.result ≤ length c.args.times.now = free_below setting actions times given (spots c.footprint-works.result) c.greatest-free.result old works c.greatest-free.ensures c.requires.below kept in
    omega arith

pub after-end-requires : goal.after-end-requires
after-end-requires c =
    let setting : SettingValue = c.args.setting.now in
    let actions : List Action = c.args.actions.now in
    let times : List ℕ = c.args.times.now in
    let given : Action = get_or c.args.actions.now (length c.args.times.now) no_action in
    let there : slice_get actions (length times) ≡ Some given = slice_get-get_or actions (length times) no_action c.requires.next in
    let works : spots c.footprint-works.result ≡ footprint setting.trap given = subst (λ (s : SettingValue). spots c.footprint-works.result ≡ footprint s.trap given) c.setting.view_is c.footprint-works.ensures in
    let old : ClockValue = record { spots = c.self.inside.spots; orders = c.self.inside.orders } in
    let kept : IsClock setting actions times old = subst (IsClock setting actions times) (sym c.self.view_is) c.requires.clock in
    let there_op : slice_get actions (length times) ≡ Some (kinds.Op c.in-Op.zone c.in-Op.op) = there ∙ ap Some c.in-Op.is in
    let now : IsPerformedAt actions c.in-Op.op.0 (length times) = record { zone = c.in-Op.zone; there = there_op } in
    let ready : IsLast (IsAt (take (length times) actions) times) (Precedes setting.circuit c.in-Op.op.0) c.ready-ready.result =
    subst (λ (s : SettingValue). (actions : List Action) (times : List ℕ) → AreOrdered s.circuit actions → AreOrders s.circuit actions times (length times) c.self.inside.orders → IsPerformedAt actions c.in-Op.op.0 (length times)
    → IsLast (IsAt (take (length times) actions) times) (Precedes s.circuit c.in-Op.op.0) c.ready-ready.result) c.setting.view_is c.ready-ready.ensures.ready actions times c.requires.ordered kept.orders now in
    let free : c.greatest-free.result ≤ length c.args.times.now = free_below setting actions times given (spots c.footprint-works.result) c.greatest-free.result old works c.greatest-free.ensures c.requires.below kept in
    let before : c.ready-ready.result ≤ length c.args.times.now = ready_below setting actions times c.in-Op.op.0 c.ready-ready.result ready c.requires.below in
    omega arith

pub returns-in_default : goal.returns-in_default
returns-in_default c =
    let setting : SettingValue = c.args.setting.now in
    let actions : List Action = c.args.actions.now in
    let times : List ℕ = c.args.times.now in
    let given : Action = get_or c.args.actions.now (length c.args.times.now) no_action in
    let there : slice_get actions (length times) ≡ Some given = slice_get-get_or actions (length times) no_action c.requires.next in
    let works : spots c.footprint-works.result ≡ footprint setting.trap given = subst (λ (s : SettingValue). spots c.footprint-works.result ≡ footprint s.trap given) c.setting.view_is c.footprint-works.ensures in
    let greatest : IsGreatest (Contains (spots c.footprint-works.result)) (spot_level c.args.self.now.spots) c.greatest-free.result =
    subst (λ (v : ClockValue). IsGreatest (Contains (spots c.footprint-works.result)) (spot_level v.spots) c.greatest-free.result) c.self.view_is c.greatest-free.ensures in
    let taken : IsTaken setting actions times c.greatest-free.result (record { spots = c.hold.new.self.spots; orders = c.args.self.now.orders }) =
    taken_other setting actions times given (spots c.footprint-works.result) c.greatest-free.result c.after-level.result c.args.self.now c.hold.new.self.spots there
    (performs_none given c.in_default.not-Op) works greatest c.in_ok-hold.ensures.spots c.after-level.ensures c.requires.below c.requires.clock in
    record {
      time = taken.next;
      below = taken.below;
      clock = subst (λ (o : OrdersValue). IsClock setting actions (times ++ c.greatest-free.result ∷ []) (record { spots = c.hold.new.self.spots; orders = o })) (sym c.in_ok-hold.ensures.orders) taken.clock;
    }

pub returns : goal.returns
returns c =
    let setting : SettingValue = c.args.setting.now in
    let actions : List Action = c.args.actions.now in
    let times : List ℕ = c.args.times.now in
    let given : Action = get_or c.args.actions.now (length c.args.times.now) no_action in
    let there : slice_get actions (length times) ≡ Some given = slice_get-get_or actions (length times) no_action c.requires.next in
    let works : spots c.footprint-works.result ≡ footprint setting.trap given = subst (λ (s : SettingValue). spots c.footprint-works.result ≡ footprint s.trap given) c.setting.view_is c.footprint-works.ensures in
    let old : ClockValue = record { spots = c.self.inside.spots; orders = c.self.inside.orders } in
    let kept : IsClock setting actions times old = subst (IsClock setting actions times) (sym c.self.view_is) c.requires.clock in
    let there_op : slice_get actions (length times) ≡ Some (kinds.Op c.in-Op.zone c.in-Op.op) = there ∙ ap Some c.in-Op.is in
    let now : IsPerformedAt actions c.in-Op.op.0 (length times) = record { zone = c.in-Op.zone; there = there_op } in
    let ready : IsLast (IsAt (take (length times) actions) times) (Precedes setting.circuit c.in-Op.op.0) c.ready-ready.result =
    subst (λ (s : SettingValue). (actions : List Action) (times : List ℕ) → AreOrdered s.circuit actions → AreOrders s.circuit actions times (length times) c.self.inside.orders → IsPerformedAt actions c.in-Op.op.0 (length times)
    → IsLast (IsAt (take (length times) actions) times) (Precedes s.circuit c.in-Op.op.0) c.ready-ready.result) c.setting.view_is c.ready-ready.ensures.ready actions times c.requires.ordered kept.orders now in
    let asked : AreOrders setting.circuit actions times (length times + 1) c.ready-ready.new.self =
    subst (λ (s : SettingValue). (actions : List Action) (times : List ℕ) → AreOrdered s.circuit actions → AreOrders s.circuit actions times (length times) c.self.inside.orders → IsPerformedAt actions c.in-Op.op.0 (length times)
    → AreOrders s.circuit actions times (length times + 1) c.ready-ready.new.self) c.setting.view_is c.ready-ready.ensures.orders actions times c.requires.ordered kept.orders now in
    let noted : AreOrders setting.circuit actions (times ++ c.max-time.result ∷ []) (length times + 1) c.note.new.self =
    subst (λ (s : SettingValue). (actions : List Action) (times : List ℕ) (time : ℕ) → AreOrdered s.circuit actions → length c.args.times.now + 1 ≡ length times + 1 → c.after-end.result ≡ time + 1 → AreOrders s.circuit actions times (length c.args.times.now + 1) c.ready-ready.new.self
    → IsPerformedAt actions c.in-Op.op.0 (length times) → AreOrders s.circuit actions (times ++ time ∷ []) (length c.args.times.now + 1) c.note.new.self) c.setting.view_is c.in_ok-note.ensures actions times c.max-time.result c.requires.ordered refl c.after-end.ensures asked now in
    let time : c.max-time.result ≡ max c.ready-ready.result c.greatest-free.result = omega arith in
    let taken : IsTaken setting actions times c.max-time.result (record { spots = c.raise.new.self; orders = c.note.new.self }) =
    taken_op setting actions times c.in-Op.zone c.in-Op.op (spots c.footprint-works.result) c.greatest-free.result c.ready-ready.result c.max-time.result c.after-end.result old c.raise.new.self c.note.new.self c.requires.ordered
    there_op (works ∙ ap (footprint setting.trap) c.in-Op.is) c.greatest-free.ensures c.in_ok-raise.ensures ready time c.after-end.ensures c.requires.below kept noted in
    record { time = taken.next; below = taken.below; clock = taken.clock }
