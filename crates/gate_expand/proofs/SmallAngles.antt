-- Angles that are not too large.
use Rattle.std.proofs.Common.{◌≡◌, ℕ, ◌-◌, ◌≤◌, List, [], ◌∷◌, ◌++◌, Bool, true, false, cond, Option, Some, None, Ok, All, refl, ap, sym, ◌∙◌, subst, arith}
use Rattle.std.specs.Prelude.{nat_le, nat_lt, is_some}
use Rattle.std.proofs.lemmas.Bool.{false≢true}
use Rattle.std.proofs.lemmas.Bool.Decides.{nat_tests}
use Rattle.std.proofs.lemmas.List.Elements.{All-append, All-cons}
use Rattle.circuit_core.specs.declared.angle.Angle.{Angle}
use Rattle.circuit_core.specs.Angle.{nodes_of}
use Rattle.gate_names.specs.declared.term.Term.{Term}
use Rattle.gate_names.specs.declared.cause.Cause.TheVariants.{AngleLarge}
use Rattle.gate_names.specs.Causes.{◌>>◌, refuse_if}
use Rattle.gate_expand.specs.Angles.{put, put_small, IsSmall, room_left}

-- where there is room, it is small
pub has_room : (nodes : ℕ) (found : Option ℕ) → found ≡ room_left 1000 nodes → is_some found ≡ true → nodes ≤ 1000
has_room nodes found f s = by (nat_le nodes 1000) refl
  where
    by : (b : Bool) → nat_le nodes 1000 ≡ b → nodes ≤ 1000
    by true e = grind (arith, nat_tests)
    by false e = absurd (false≢true (sym (ap (λ (b : Bool). is_some (cond b (Some (1000 - nodes)) None)) e) ∙ sym (ap is_some f) ∙ s))

not_large : (nodes : ℕ) → nodes ≤ 1000 → nat_lt 1000 nodes ≡ false
not_large nodes h = grind (arith, nat_tests)

pub put_is : (angles : List Angle) (term : Term) (angle : Angle) → nodes_of (put angles term) ≤ 1000 → angle ≡ put angles term → put_small angles term ≡ Ok angle
put_is angles term angle few is =
    ap (λ (b : Bool). refuse_if b AngleLarge >> Ok (put angles term)) (not_large (nodes_of (put angles term)) few) ∙ ap Ok (sym is)

-- a small one more
pub small_more : (front now : List Angle) (angle : Angle) → now ≡ front ++ angle ∷ [] → IsSmall angle → All IsSmall front → All IsSmall now
small_more front now angle is small each =
    subst (All IsSmall) (sym is) (All-append IsSmall front (angle ∷ []) each (All-cons IsSmall angle [] small (λ k d h. absurd (omega arith))))
