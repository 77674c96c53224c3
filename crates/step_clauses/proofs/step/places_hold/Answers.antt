use Rattle.std.proofs.Common.{ℕ, ◌<◌, List, sym, subst, ◌∙◌}
use Rattle.std.specs.List.{AllByRecursion}
use Rattle.trap_model.specs.Trap.{place_count}
use Rattle.clause_families.proofs.Every.{all_range}
use Rattle.step_clauses.proofs.step.places_hold.Goals as goal

pub add_few_ions-requires-clause-places : goal.add_few_ions-requires-clause-places
add_few_ions-requires-clause-places c =
    subst (λ (xs : List ℕ). AllByRecursion (λ p. p < place_count c.args.setting.now.trap) xs) (sym (c.deref-4.ensures.value ∙ c.requires.places)) (all_range (place_count c.args.setting.now.trap))
