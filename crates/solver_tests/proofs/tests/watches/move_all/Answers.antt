use Rattle.std.proofs.Common.{◌≡◌, ℕ, ◌<◌, ◌*◌, List, [], ◌∷◌, length, slice_get, Some, None, refl, ap, sym, ◌∙◌, subst, arith}
use Rattle.std.specs.Prelude.{Option}
use Rattle.std.specs.Option.{IfSome}
use Rattle.watch_lists.specs.Watched.{Watched, list_of}
use Rattle.solver_tests.proofs.tests.watches.move_all.Goals as goal

abbrev is_none : Option ℕ → Type 0
is_none None = Unit {0}
is_none (Some x) = ⊥

abbrev value : Option ℕ → ℕ
value None = 0
value (Some x) = x

-- a list whose first item is known
begins : (xs : List ℕ) (l : ℕ) → slice_get xs 0 ≡ Some l → (rest : List ℕ) × (xs ≡ l ∷ rest)
begins [] l e = absurd (subst is_none e tt)
begins (x ∷ xs) l e = (xs, ap (λ o. value o ∷ xs) e)

ends : (xs : List ℕ) (o : Option ℕ) → o ≡ slice_get xs 0 → ((l : ℕ) → o ≡ Some l → ⊥) → xs ≡ []
ends [] o e none = refl
ends (x ∷ xs) o e none = absurd (none x e)

pub relink-requires-clause-follows : goal.relink-requires-clause-follows
relink-requires-clause-follows c = begins (list_of c.loop-next.watches c.args.lit) c.in-Some.link (sym c.loop-next.invariant.0 ∙ c.in-Some.is)

pub loop-next-smaller : goal.loop-next-smaller
loop-next-smaller c =
    let s = begins (list_of c.loop-next.watches c.args.lit) c.in-Some.link (sym c.loop-next.invariant.0 ∙ c.in-Some.is) in
    omega (arith, ap length s.1, ap length (c.relink.ensures.from c.requires.differ [] s.0 s.1))

pub loop-next-preserved : goal.loop-next-preserved
loop-next-preserved c =
    let s = begins (list_of c.loop-next.watches c.args.lit) c.in-Some.link (sym c.loop-next.invariant.0 ∙ c.in-Some.is) in let inv = c.loop-next.invariant in
    let vars = ap (λ (w : Watched). w.vars) c.relink.ensures.moved in let clauses = ap (λ (w : Watched). w.clauses) c.relink.ensures.moved in (
      c.next-next.ensures.next c.args.lit [] s.0 (inv.2, s.1) ∙ ap (λ l. slice_get l 0) (sym (c.relink.ensures.from c.requires.differ [] s.0 s.1)),
      subst (λ n. IfSome c.next-next.result (λ l. l < 2 * n)) (sym clauses) c.next-next.ensures.below,
      (inv.2.0, omega (arith, inv.2.1, vars)),
      (inv.3.0, omega (arith, inv.3.1, vars)),
      vars ∙ inv.4,
    )

pub returns-clause-empty : goal.returns-clause-empty
returns-clause-empty c = ends (list_of c.loop-next.watches c.args.lit) c.loop-next.next c.loop-next.invariant.0 c.in_default.not-Some
