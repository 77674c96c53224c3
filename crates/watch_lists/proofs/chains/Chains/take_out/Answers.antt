use Rattle.std.proofs.Common.{ap, sym, ◌∙◌, subst, ◌+◌, get_or, set, [], ℕ}
use Rattle.watch_lists.specs.Chains.{Chained, Follows, IsIn, count_in}
use Rattle.watch_lists.proofs.Kept.{Kept, seen, first_seen, after_seen, link_seen, next_seen, before_seen, once_seen, less, link_is, out_free, out_one}
use Rattle.watch_lists.proofs.chains.Chains.take_out.Goals as goal

pub get-after-requires : goal.get-after-requires
get-after-requires c = link_seen c.self.inside.heads c.self.inside.followers c.self.invariant c.args.self.now c.self.view_is c.args.at c.args.link c.args.before c.requires.follows

pub set-requires-clause-at : goal.set-requires-clause-at
set-requires-clause-at c =
    before_seen c.self.inside.heads c.self.inside.followers c.self.invariant c.args.self.now c.self.view_is c.args.at c.args.link c.in-Some.before
    (subst (λ o. Follows o c.args.link (get_or c.args.self.now.lists c.args.at [])) c.in-Some.is c.requires.follows)

pub set-requires-clause-no_mark : goal.set-requires-clause-no_mark
set-requires-clause-no_mark c =
    next_seen c.self.inside.heads c.self.inside.followers c.self.invariant c.args.self.now c.self.view_is c.args.at c.args.link c.args.before c.requires.follows c.get-after.result c.get-after.ensures

pub set-requires-in-None-clause-no_mark : goal.set-requires-in-None-clause-no_mark
set-requires-in-None-clause-no_mark c =
    next_seen c.self.inside.heads c.self.inside.followers c.self.invariant c.args.self.now c.self.view_is c.args.at c.args.link c.args.before c.requires.follows c.get-after.result c.get-after.ensures

pub invariant_of-self : goal.invariant_of-self
invariant_of-self c =
    let H = c.self.inside.heads in let S = c.self.inside.followers in
    let all = after_seen H S c.self.invariant c.args.self.now c.self.view_is c.args.at c.args.link c.in-Some.before c.requires.at
    (subst (λ o. Follows o c.args.link (get_or c.args.self.now.lists c.args.at [])) c.in-Some.is c.requires.follows) in
    subst (Kept H) (sym (c.set.ensures ∙ ap (set S c.in-Some.before) c.get-after.ensures)) all.0

pub returns-in-Some-clause-taken : goal.returns-in-Some-clause-taken
returns-in-Some-clause-taken c =
    let H = c.self.inside.heads in let S = c.self.inside.followers in
    let all = after_seen H S c.self.invariant c.args.self.now c.self.view_is c.args.at c.args.link c.in-Some.before c.requires.at
    (subst (λ o. Follows o c.args.link (get_or c.args.self.now.lists c.args.at [])) c.in-Some.is c.requires.follows) in
    ap (seen H) (c.set.ensures ∙ ap (set S c.in-Some.before) c.get-after.ensures) ∙ all.1

pub invariant_of-self-in-None : goal.invariant_of-self-in-None
invariant_of-self-in-None c =
    let H = c.self.inside.heads in let S = c.self.inside.followers in
    let all = first_seen H S c.self.invariant c.args.self.now c.self.view_is c.args.at c.args.link c.requires.at
    (subst (λ o. Follows o c.args.link (get_or c.args.self.now.lists c.args.at [])) c.in-None.is c.requires.follows) in
    subst (λ G. Kept G S) (sym (c.set-in-None.ensures ∙ ap (set H c.args.at) c.get-after.ensures)) all.0

pub returns-in-None-clause-taken : goal.returns-in-None-clause-taken
returns-in-None-clause-taken c =
    let H = c.self.inside.heads in let S = c.self.inside.followers in
    let all = first_seen H S c.self.invariant c.args.self.now c.self.view_is c.args.at c.args.link c.requires.at
    (subst (λ o. Follows o c.args.link (get_or c.args.self.now.lists c.args.at [])) c.in-None.is c.requires.follows) in
    ap (λ G. seen G S) (c.set-in-None.ensures ∙ ap (set H c.args.at) c.get-after.ensures) ∙ all.1

pub returns-in-Some-clause-link : goal.returns-in-Some-clause-link
returns-in-Some-clause-link c =
    let o = once_seen c.self.inside.heads c.self.inside.followers c.self.invariant c.args.self.now c.self.view_is in
    link_is c.args.self.now o c.args.at c.args.link c.args.before c.requires.follows

pub returns-in-Some-clause-free : goal.returns-in-Some-clause-free
returns-in-Some-clause-free c =
    let o = once_seen c.self.inside.heads c.self.inside.followers c.self.invariant c.args.self.now c.self.view_is in
    subst (λ (r : Chained). (other : ℕ) → IsIn c.args.link (get_or r.lists other []) → ⊥) (sym (returns-in-Some-clause-taken c)) (out_free c.args.self.now o c.args.at c.args.link c.args.before c.requires.follows c.requires.at)

pub returns-in-Some-clause-one : goal.returns-in-Some-clause-one
returns-in-Some-clause-one c =
    let o = once_seen c.self.inside.heads c.self.inside.followers c.self.invariant c.args.self.now c.self.view_is in
    ap (λ (r : Chained). count_in r.lists + 1) (returns-in-Some-clause-taken c) ∙ out_one c.args.self.now o c.args.at c.args.link c.args.before c.requires.follows c.requires.at

pub returns-in-None-clause-link : goal.returns-in-None-clause-link
returns-in-None-clause-link c =
    let o = once_seen c.self.inside.heads c.self.inside.followers c.self.invariant c.args.self.now c.self.view_is in
    link_is c.args.self.now o c.args.at c.args.link c.args.before c.requires.follows

pub returns-in-None-clause-free : goal.returns-in-None-clause-free
returns-in-None-clause-free c =
    let o = once_seen c.self.inside.heads c.self.inside.followers c.self.invariant c.args.self.now c.self.view_is in
    subst (λ (r : Chained). (other : ℕ) → IsIn c.args.link (get_or r.lists other []) → ⊥) (sym (returns-in-None-clause-taken c)) (out_free c.args.self.now o c.args.at c.args.link c.args.before c.requires.follows c.requires.at)

pub returns-in-None-clause-one : goal.returns-in-None-clause-one
returns-in-None-clause-one c =
    let o = once_seen c.self.inside.heads c.self.inside.followers c.self.invariant c.args.self.now c.self.view_is in
    ap (λ (r : Chained). count_in r.lists + 1) (returns-in-None-clause-taken c) ∙ out_one c.args.self.now o c.args.at c.args.link c.args.before c.requires.follows c.requires.at

pub returns-in-Some-clause-rest : goal.returns-in-Some-clause-rest
returns-in-Some-clause-rest c = less c.args.self.now (once_seen c.self.inside.heads c.self.inside.followers c.self.invariant c.args.self.now c.self.view_is) c.args.at c.args.link

pub returns-in-None-clause-rest : goal.returns-in-None-clause-rest
returns-in-None-clause-rest c = less c.args.self.now (once_seen c.self.inside.heads c.self.inside.followers c.self.invariant c.args.self.now c.self.view_is) c.args.at c.args.link
