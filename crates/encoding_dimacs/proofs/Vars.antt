-- What is known of the variables of a setting, and of the text of its clauses.
use Rattle.std.proofs.Common.{◌≡◌, ℕ, ◌+◌, ◌≤◌, List, ap, sym, ◌∙◌, arith}
use Rattle.std.specs.Prelude.{IsSome}
use Rattle.sat_base.specs.Literal.{Literal}
use Rattle.step_rules.specs.Setting.{SettingValue}
use Rattle.step_vars.specs.declared.encoding.Encoding.{Encoding}
use Rattle.step_vars.specs.Items.{so, goal_item}
use Rattle.step_vars.specs.Numbering.{before, number_of, literal_of}
use Rattle.step_vars.specs.Encoding.{VarsValue, vars_of, numbering_of, goal_literal}
use Rattle.clause_families.proofs.Numbered.{has_goal}
use Rattle.encoding_dimacs.specs.declared.inputs.Inputs.{Inputs}
use Rattle.encoding_dimacs.specs.Dimacs.{dimacs_text, question_of, question_text, setting_in, AreReady, AreVarsOf}

vars_numbering : (v : VarsValue) (s : SettingValue) (e : Encoding) (t : ℕ) → v ≡ vars_of s e t → v.numbering ≡ numbering_of s e
unfolding vars_of
vars_numbering v s e t h = ap (λ (w : VarsValue). w.numbering) h

vars_encoding : (v : VarsValue) (s : SettingValue) (e : Encoding) (t : ℕ) → v ≡ vars_of s e t → v.encoding ≡ e
unfolding vars_of
vars_encoding v s e t h = ap (λ (w : VarsValue). w.encoding) h

pub vars_steps : (v : VarsValue) (s : SettingValue) (e : Encoding) (t : ℕ) → v ≡ vars_of s e t → v.steps ≡ t
unfolding vars_of
vars_steps v s e t h = ap (λ (w : VarsValue). w.steps) h

pub are_vars : (inputs : Inputs) (v : VarsValue) (e : Encoding) (t : ℕ) → AreReady inputs → t ≤ 48
    → v ≡ vars_of (setting_in inputs) e t → AreVarsOf inputs v
are_vars inputs v e t ready short h = record {
  ready = ready;
  steps = record {
    ions = ready.small.ions;
    places = ready.small.places;
    ops = ready.small.ops;
    time = omega (arith, vars_steps v (setting_in inputs) e t h, short);
  };
  same =
      h ∙ ap (λ (kind : Encoding). vars_of (setting_in inputs) kind t) (sym (vars_encoding v (setting_in inputs) e t h))
      ∙ ap (λ (k : ℕ). vars_of (setting_in inputs) v.encoding k) (sym (vars_steps v (setting_in inputs) e t h));
}

-- the goal of a time has a number
pub goal_there : (v : VarsValue) (t : ℕ) → t ≡ v.steps → IsSome (number_of v.numbering (goal_item t))
goal_there v t last = (has_goal v t (omega (arith, last))).number

-- and its literal is that of the setting
pub goal_is : (v : VarsValue) (s : SettingValue) (t : ℕ) → v ≡ vars_of s v.encoding v.steps
    → literal_of v.numbering (so (goal_item t)) ≡ goal_literal s v.encoding t
goal_is v s t h = ap (λ n. literal_of n (so (goal_item t))) (vars_numbering v s v.encoding v.steps h)

pub text_is : (v : VarsValue) (s : SettingValue) (e : Encoding) (t count : ℕ) (clauses : List (List Literal))
    → v ≡ vars_of s e t → count ≡ before v.numbering (t + 1) → clauses ≡ question_of s v.encoding t
    → dimacs_text count clauses ≡ question_text s e t
text_is v s e t count clauses h counted found =
    ap (λ (k : ℕ). dimacs_text k clauses) (counted ∙ ap (λ n. before n (t + 1)) (vars_numbering v s e t h))
    ∙ ap (dimacs_text (before (numbering_of s e) (t + 1)))
    (found ∙ ap (λ (kind : Encoding). question_of s kind t) (vars_encoding v s e t h))
