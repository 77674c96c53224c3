use Rattle.std.proofs.Common.{◌∙◌}
use Rattle.clause_families.proofs.KeptLists.{pairs_are, acts_are, orders_are}
use Rattle.clause_families.proofs.tables.Tables.new.Goals as goal

pub returns : goal.returns
returns c =
    let s = c.args.setting.now in
    let v = c.args.vars.now in
    record {
      ions = c.in_ok-ions.ensures;
      places = c.in_ok-places.ensures;
      zones = c.in_ok-zones.ensures;
      junctions = c.in_ok-junctions.ensures;
      channels = c.in_ok-channels.ensures.channels;
      ops = c.in_ok-ops.ensures;
      pairs = c.pairs.ensures ∙ pairs_are s v c.requires;
      acts = c.acts.ensures ∙ acts_are s v c.requires;
      orders = c.orders.ensures ∙ orders_are s v c.requires;
      trap = c.channels.ensures.trap;
      within = c.channels.ensures.within;
    }
