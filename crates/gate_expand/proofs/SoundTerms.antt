-- Expressions whose reals are short stay such when angles are put for parameters.
use Rattle.std.proofs.Common.{◌≡◌, ℕ, suc, ◌+◌, ◌<◌, List, [], ◌∷◌, length, Option, Some, Result, Ok, All, sym, ◌∙◌, subst, arith, inl, inr}
use Rattle.std.specs.Str.{bytes_eq}
use Rattle.std.proofs.lemmas.Bool.{ltb-false, cases_lt, cond_both}
use Rattle.std.proofs.lemmas.List.{get_or_past}
use Rattle.std.proofs.lemmas.List.Elements.{All-nil, All-cons, All-head, All-append, All-weaker}
use Rattle.circuit_core.specs.declared.angle.Angle.{Angle, roll-Angle, fold-roll-Angle, map-Angle}
use Rattle.circuit_core.specs.declared.angle.Angle.TheOpen.{Angle-F}
use Rattle.circuit_core.specs.declared.words.BinOp.{BinOp}
use Rattle.circuit_core.specs.declared.words.FunName.{FunName}
use Rattle.circuit_core.specs.Angle.{reals_step, reals_of, nodes_of}
use Rattle.circuit_core.specs.Op.{IsAngle}
use Rattle.circuit_core.specs.Reals.{IsShortReal}
use Rattle.circuit_core.proofs.CircuitLabels.{all_parts}
use Rattle.qasm_read.specs.declared.exp.Exp.{Exp, ind-Exp, roll-Exp, fold-roll-Exp, map-Exp}
use Rattle.qasm_read.specs.declared.exp.Exp.TheOpen.{Exp-F}
use Rattle.qasm_read.specs.WellFormed.{IsExpression}
use Rattle.qasm_read.specs.WellFormed.{reals_step as exp_reals_step, reals_of as exp_reals_of}
use Rattle.gate_names.specs.declared.cause.Cause.{Cause}
use Rattle.gate_names.specs.declared.cause.Cause.TheVariants.{Undeclared, AngleLarge}
use Rattle.gate_names.specs.declared.term.Term.{Term, roll-Term, fold-roll-Term, map-Term}
use Rattle.gate_names.specs.declared.term.Term.TheOpen.{Term-F}
use Rattle.gate_names.specs.Causes.{◌>>=◌, found_or}
use Rattle.gate_names.specs.Terms.{position_from, position_of, term_step, term_of, terms_of}
use Rattle.gate_expand.specs.Angles.{put_step, put, is_large, put_small, put_all}
use Rattle.gate_expand.proofs.Sound.{HasReals, IsPut}
use Rattle.gate_expand.proofs.SoundSteps.{same_Ok, then_ok, passed, each_ok}

-- ---- angles by their parts

rolled : (x : Angle-F Angle) → All IsShortReal (reals_step (map-Angle _ _ reals_of x)) → HasReals (roll-Angle x)
rolled x h = subst (All IsShortReal) (sym (fold-roll-Angle (List (List ℕ)) reals_step x)) h

pub pi_reals : HasReals (roll-Angle Angle-F.Pi)
pi_reals = rolled Angle-F.Pi (All-nil IsShortReal)

-- ---- expressions by their parts

put_as : (angles : List Angle) (x : Term-F Term) → HasReals (put_step angles (map-Term _ _ (put angles) x)) → HasReals (put angles (roll-Term x))
put_as angles x h = subst HasReals (sym (fold-roll-Term Angle (put_step angles) x)) h

pub put_real : (text : List ℕ) → IsShortReal text → IsPut (roll-Term (Term-F.Real text))
put_real text h angles fine = put_as angles (Term-F.Real text) (rolled (Angle-F.Real text) (All-cons IsShortReal text [] h (All-nil IsShortReal)))

pub put_int : (n : ℕ) → IsPut (roll-Term (Term-F.Int n))
put_int n angles fine = put_as angles (Term-F.Int n) (rolled (Angle-F.Int n) (All-nil IsShortReal))

pub put_pi : IsPut (roll-Term Term-F.Pi)
put_pi angles fine = put_as angles Term-F.Pi pi_reals

pub put_neg : (a : Term) → IsPut a → IsPut (roll-Term (Term-F.Neg a))
put_neg a h angles fine = put_as angles (Term-F.Neg a) (rolled (Angle-F.Neg (put angles a)) (h angles fine))

pub put_bin : (op : BinOp) (a b : Term) → IsPut a → IsPut b → IsPut (roll-Term (Term-F.Bin op a b))
put_bin op a b ha hb angles fine =
    put_as angles (Term-F.Bin op a b) (rolled (Angle-F.Bin op (put angles a) (put angles b))
    (All-append IsShortReal (reals_of (put angles a)) (reals_of (put angles b)) (ha angles fine) (hb angles fine)))

pub put_fun : (f : FunName) (a : Term) → IsPut a → IsPut (roll-Term (Term-F.Fun f a))
put_fun f a h angles fine = put_as angles (Term-F.Fun f a) (rolled (Angle-F.Fun f (put angles a)) (h angles fine))

pub put_param : (k : ℕ) → IsPut (roll-Term (Term-F.Param k))
put_param k angles fine = put_as angles (Term-F.Param k) (elim (cases_lt k (length angles)) [
  | inl within ↦ fine k (roll-Angle Angle-F.Pi) within
  | inr past ↦ subst HasReals (sym (get_or_past angles k (roll-Angle Angle-F.Pi) past)) pi_reals
])

-- ---- names of parameters as their positions

abbrev IsPutAs : List (List ℕ) → Exp → Type 0
IsPutAs params e = (t : Term) → term_of params e ≡ Ok t → All IsShortReal (exp_reals_of e) → IsPut t

-- one level, with a proof beside each part
step_is : (params : List (List ℕ)) (y : Exp-F ((e : Exp) × IsPutAs params e)) (t : Term)
    → term_step params (map-Exp _ _ (term_of params) (map-Exp _ _ (λ e. e.0) y)) ≡ Ok t
    → All IsShortReal (exp_reals_step (map-Exp _ _ exp_reals_of (map-Exp _ _ (λ e. e.0) y))) → IsPut t
step_is params (Exp-F.Real text) t is h = subst IsPut (same_Ok (roll-Term (Term-F.Real text)) t is) (put_real text (All-head IsShortReal text [] h))
step_is params (Exp-F.Int n) t is h = subst IsPut (same_Ok (roll-Term (Term-F.Int n)) t is) (put_int n)
step_is params Exp-F.Pi t is h = subst IsPut (same_Ok (roll-Term Term-F.Pi) t is) put_pi
step_is params (Exp-F.Neg a) t is h =
    let part = then_ok (term_of params a.0) (λ (x : Term). Ok (roll-Term (Term-F.Neg x))) t is in
    subst IsPut (same_Ok (roll-Term (Term-F.Neg part.0)) t part.2) (put_neg part.0 (a.1 part.0 part.1 h))
step_is params (Exp-F.Bin op a b) t is h =
    let reals = all_parts IsShortReal (exp_reals_of a.0) (exp_reals_of b.0) h in
    let left = then_ok (term_of params a.0) (λ (x : Term). term_of params b.0 >>= λ (y : Term). Ok (roll-Term (Term-F.Bin op x y))) t is in
    let right = then_ok (term_of params b.0) (λ (y : Term). Ok (roll-Term (Term-F.Bin op left.0 y))) t left.2 in
    subst IsPut (same_Ok (roll-Term (Term-F.Bin op left.0 right.0)) t right.2)
    (put_bin op left.0 right.0 (a.1 left.0 left.1 reals.0) (b.1 right.0 right.1 reals.1))
step_is params (Exp-F.Fun f a) t is h =
    let part = then_ok (term_of params a.0) (λ (x : Term). Ok (roll-Term (Term-F.Fun f x))) t is in
    subst IsPut (same_Ok (roll-Term (Term-F.Fun f part.0)) t part.2) (put_fun f part.0 (a.1 part.0 part.1 h))
step_is params (Exp-F.Id name) t is h =
    let part = then_ok (found_or (position_of params name) Undeclared) (λ (k : ℕ). Ok (roll-Term (Term-F.Param k))) t is in
    subst IsPut (same_Ok (roll-Term (Term-F.Param part.0)) t part.2) (put_param part.0)

term_at : (params : List (List ℕ)) (y : Exp-F ((e : Exp) × IsPutAs params e)) → IsPutAs params (roll-Exp (map-Exp _ _ (λ e. e.0) y))
term_at params y t is h =
    let x : Exp-F Exp = map-Exp _ _ (λ e. e.0) y in
    step_is params y t (sym (fold-roll-Exp (Result Term Cause) (term_step params) x) ∙ is)
    (subst (All IsShortReal) (fold-roll-Exp (List (List ℕ)) exp_reals_step x) h)

put_as_term : (params : List (List ℕ)) (e : Exp) → IsPutAs params e
put_as_term params = ind-Exp (IsPutAs params) (λ x y is. subst (λ z. IsPutAs params (roll-Exp z)) is (term_at params y))

pub term_is : (params : List (List ℕ)) (e : Exp) (t : Term) → IsExpression e → term_of params e ≡ Ok t → IsPut t
term_is params e t h is = put_as_term params e t is h.reals

pub terms_are : (params : List (List ℕ)) (exps : List Exp) (terms : List Term) → All IsExpression exps → terms_of params exps ≡ Ok terms
    → All IsPut terms × (length terms ≡ length exps)
terms_are params exps terms all h = each_ok (term_of params) IsExpression IsPut (λ e t is eq. term_is params e t is eq) exps terms all h

-- ---- angles put for all

small_is : (angles : List Angle) → All HasReals angles → (term : Term) (angle : Angle) → IsPut term → put_small angles term ≡ Ok angle → IsAngle angle
small_is angles fine term angle h is =
    let parts = passed (is_large (put angles term)) AngleLarge (Ok (put angles term)) angle is in
    subst IsAngle (same_Ok (put angles term) angle parts.1)
    (record { small = ltb-false 1000 (nodes_of (put angles term)) parts.0; reals = h angles fine })

pub put_are : (angles : List Angle) (params : List Term) (actual : List Angle) → All HasReals angles → All IsPut params
    → put_all angles params ≡ Ok actual → All IsAngle actual × (length actual ≡ length params)
put_are angles params actual fine all h = each_ok (put_small angles) IsPut IsAngle (small_is angles fine) params actual all h

pub reals_are : (angles : List Angle) → All IsAngle angles → All HasReals angles
reals_are angles all = All-weaker IsAngle HasReals (λ angle h. h.reals) angles all

-- ---- positions

pub position_below : (k : ℕ) (names : List (List ℕ)) (name : List ℕ) (place : ℕ) → position_from k names name ≡ Some place → place < k + length names
position_below k [] name place h = absurd cc
position_below k (other ∷ names) name place h =
    cond_both (bytes_eq name other) (Some k) (position_from (k + 1) names name) (λ (o : Option ℕ). o ≡ Some place → place < k + suc (length names))
    (λ e is. (let same : k ≡ place = cc in omega arith))
    (λ e is. omega (arith, position_below (k + 1) names name place is)) h
