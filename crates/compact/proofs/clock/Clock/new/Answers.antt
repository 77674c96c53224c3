use Rattle.std.proofs.Common.{[], take, sym, subst}
use Rattle.step_rules.specs.Setting.{SettingValue}
use Rattle.compact.specs.Latest.{IsAt}
use Rattle.compact.specs.Levels.{SpotsValue}
use Rattle.compact.specs.Orders.{AreOrdered, AreOrders}
use Rattle.compact.specs.Clock.{AreSpots}
use Rattle.compact.proofs.SpotLevels.{spots_start}
use Rattle.compact.proofs.clock.Clock.new.Goals as goal

pub new-requires : goal.new-requires
new-requires c = subst (λ (s : SettingValue). AreOrdered s.circuit c.args.actions.now) (sym c.setting.view_is) c.requires

pub returns : goal.returns
returns c = record {
  spots = subst (λ (v : SpotsValue). AreSpots c.args.setting.now.trap (IsAt (take 0 c.args.actions.now) []) v) (sym c.new-2.ensures) (spots_start c.args.setting.now.trap c.args.actions.now);
  orders = subst (λ (s : SettingValue). AreOrders s.circuit c.args.actions.now [] 0 c.in_ok-orders.orders) c.setting.view_is c.in_ok-orders.ensures;
}
