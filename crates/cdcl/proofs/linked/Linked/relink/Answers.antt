use Rattle.std.proofs.Common.{sym, ap, ◌∙◌, subst, arith}
use Rattle.std.proofs.lemmas.Option.{slice_get_within}
use Rattle.watch_lists.specs.Chains.{Follows}
use Rattle.watch_lists.specs.Watched.{Watched, IsAdded, list_of}
use Rattle.cdcl.specs.Linked.{Linked}
use Rattle.cdcl.proofs.Links.{tied_moved, follows_split}
use Rattle.cdcl.proofs.linked.Linked.relink.Goals as goal

pub index_mut-requires : goal.index_mut-requires
index_mut-requires c =
    let view = ap (λ (l : Linked). l.watched) c.self.view_is in
    let split = follows_split c.args.before c.args.link (list_of c.self.inside.watches c.args.literal) (subst (λ (w : Watched). Follows c.args.before c.args.link (list_of w c.args.literal)) (sym view) c.requires.follows) in
    let here = subst (λ (w : Watched). IsAdded w c.args.literal) (sym view) c.requires.literal in
    let at = c.self.invariant.0.own c.args.link c.args.literal split.0 split.1.0 (here, split.1.1) in
    let within = slice_get_within c.self.inside.literals.items c.args.link c.args.literal at in
    let len = c.self.inside.literals.ok.0 in
    omega arith

pub invariant_of-self : goal.invariant_of-self
invariant_of-self c =
    let old = c.self.inside.watches in
    let view = ap (λ (l : Linked). l.watched) c.self.view_is in
    let split = follows_split c.args.before c.args.link (list_of old c.args.literal) (subst (λ (w : Watched). Follows c.args.before c.args.link (list_of w c.args.literal)) (sym view) c.requires.follows) in
    let here = subst (λ (w : Watched). IsAdded w c.args.literal) (sym view) c.requires.literal in
    let there = subst (λ (w : Watched). IsAdded w c.args.to) (sym view) c.requires.to in
    let moved = c.relink.ensures.moved in
    let vars = ap (λ (w : Watched). w.vars) moved in (
      tied_moved old c.relink.new.self c.self.inside.literals.items c.args.literal c.args.to c.args.link split.0 split.1.0 c.self.invariant.0 c.each_link_once.ensures.links
          (ap (λ (w : Watched). w.clauses) moved) vars c.requires.differ here there split.1.1 (c.relink.ensures.from c.requires.differ split.0 split.1.0 split.1.1) (c.relink.ensures.to c.requires.differ) c.relink.ensures.others,
      c.self.invariant.1 ∙ sym vars,
      c.self.invariant.2,
    )
