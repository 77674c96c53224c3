use Rattle.std.proofs.Common.{[], ap, ◌∙◌}
use Rattle.sat_base.specs.Literal.{Literal}
use Rattle.watch_lists.specs.Watched.{list_of, no_watches, with_vars, with_clause}
use Rattle.solver_tests.proofs.tests.watches.a_link_moves_to_another_list.Goals as goal

pub relink-requires-clause-follows : goal.relink-requires-clause-follows
relink-requires-clause-follows g c =
    let one = c.new-one.result in let two = c.new-two.result in let three = c.new-three.result in
    let first = c.in_ok-add_clause.ensures.ok ∙ ap (with_clause one two) (c.in_ok-add_vars.ensures.ok ∙ ap (with_vars 3) c.new-watches.ensures) in
    let both = c.in_ok-add_clause-2.ensures.ok ∙ ap (with_clause one three) first in (
      [],
      (
        [],
        ap (λ w. list_of w one) both
            ∙ ap (λ (x : Literal × Literal × Literal). list_of (with_clause x.0 x.2 (with_clause x.0 x.1 (with_vars 3 no_watches))) x.0) (λ i. (c.new-one.ensures i, c.new-two.ensures i, c.new-three.ensures i)),
      ),
    )
