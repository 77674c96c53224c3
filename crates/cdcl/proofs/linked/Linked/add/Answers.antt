use Rattle.std.proofs.Common.{◌≡◌, List, [], ◌∷◌, ◌++◌, sym, ap, ◌∙◌, subst, append_assoc}
use Rattle.sat_base.specs.Literal.{Literal}
use Rattle.watch_lists.specs.Watched.{Watched}
use Rattle.cdcl.specs.Linked.{IsTied}
use Rattle.cdcl.proofs.Links.{tied_pair}
use Rattle.cdcl.proofs.linked.Linked.add.Goals as goal

pub invariant_of-self-2 : goal.invariant_of-self-2
invariant_of-self-2 c =
    let old = c.self.invariant in
    let ensures = c.in_ok-add_clause.ensures in
    let vars = ap (λ (w : Watched). w.vars) ensures.ok in
    let new = c.add_clause.new.self in
    let literals : c.push_reserved-2.new.self.items ≡ c.self.inside.literals.items ++ c.args.a ∷ c.args.b ∷ [] =
    c.push_reserved-2.ensures.items ∙ ap (λ (xs : List Literal). xs ++ c.args.b ∷ []) (c.push_reserved.ensures.items ∙ ap (λ (xs : List Literal). xs ++ c.args.a ∷ []) c.reserve.ensures.items)
    ∙ append_assoc c.self.inside.literals.items (c.args.a ∷ []) (c.args.b ∷ []) in (
      subst (IsTied new) (sym literals) (tied_pair c.self.inside.watches new c.self.inside.literals.items c.args.a c.args.b old.0 (ap (λ (w : Watched). w.clauses) ensures.ok) vars c.requires.differ ensures.first ensures.second ensures.others),
      old.1 ∙ sym vars,
      old.2,
    )
