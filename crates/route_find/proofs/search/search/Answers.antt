use Rattle.std.proofs.Common.{◌≡◌, ◌++◌, ◌∷◌, [], List, ℕ, None, Some, ap, ◌∙◌, refl}
use Rattle.std.specs.Prelude.{Option, replicate}
use Rattle.std.proofs.Math.ListN.{length-set}
use Rattle.std.proofs.lemmas.List.{length-replicate}
use Rattle.route_find.specs.declared.reach.Reach.{Reach}
use Rattle.route_find.proofs.Expanding.{search_start}
use Rattle.route_find.proofs.search.search.Goals as goal

pub loop-head-init : goal.loop-head-init
loop-head-init c =
    let nothing : Option Reach = None in
    let rows : c.in_ok-rows.rows.items ≡ replicate c.args.places None = c.in_ok-rows.ensures in
    let queue : c.push.new.self.items ≡ c.args.target ∷ [] = c.in_ok-push.ensures.items ∙ ap (λ (l : List ℕ). l ++ c.args.target ∷ []) c.new-queue.ensures.items in
    rw (queue, rows) (record {
      search = search_start c.args.channels.now c.args.places c.args.target c.requires.target;
      first = refl;
      len = length-set (replicate c.args.places nothing) c.args.target (Some (record { distance = 0; next = None })) ∙ length-replicate c.args.places nothing;
    })
