-- The variables of a setting, and the goals of its parts.
use Rattle.std.proofs.Common.{◌≡◌, ℕ, zero, suc, ◌+◌, ◌<◌, ◌≤◌, refl, sym, ap, ◌∙◌, subst, arith}
use Rattle.std.specs.Option.{IsSome}
use Rattle.sat_base.specs.Literal.{Literal}
use Rattle.step_rules.specs.Setting.{SettingValue}
use Rattle.step_vars.specs.declared.item.Claim.{Claim}
use Rattle.step_vars.specs.declared.encoding.Encoding.{Encoding}
use Rattle.step_vars.specs.Items.{so, goal_item}
use Rattle.step_vars.specs.Numbering.{Numbering, number_of, literal_of, before, sizes_at, part_size, goal_from}
use Rattle.step_vars.specs.Encoding.{VarsValue, IsSmall, numbering_of, vars_of, goal_literal}
use Rattle.step_vars.specs.Certifies.{vars_up_to}

pub numbering_is : (setting : SettingValue) (encoding : Encoding) (steps : ℕ) (vars : VarsValue) → vars ≡ vars_of setting encoding steps → vars.numbering ≡ numbering_of setting encoding
unfolding vars_of
numbering_is setting encoding steps vars e = ap (λ (it : VarsValue). it.numbering) e

pub encoding_is : (setting : SettingValue) (encoding : Encoding) (steps : ℕ) (vars : VarsValue) → vars ≡ vars_of setting encoding steps → vars.encoding ≡ encoding
unfolding vars_of
encoding_is setting encoding steps vars e = ap (λ (it : VarsValue). it.encoding) e

pub steps_are : (setting : SettingValue) (encoding : Encoding) (steps : ℕ) (vars : VarsValue) → vars ≡ vars_of setting encoding steps → vars.steps ≡ steps
unfolding vars_of
steps_are setting encoding steps vars e = ap (λ (it : VarsValue). it.steps) e

-- the same with its own encoding and number of steps
pub as_made : (setting : SettingValue) (encoding : Encoding) (steps : ℕ) (vars : VarsValue) → vars ≡ vars_of setting encoding steps → vars ≡ vars_of setting vars.encoding vars.steps
as_made setting encoding steps vars e =
    e ∙ ap (λ (it : Encoding). vars_of setting it steps) (sym (encoding_is setting encoding steps vars e)) ∙ ap (λ (n : ℕ). vars_of setting vars.encoding n) (sym (steps_are setting encoding steps vars e))

-- fewer steps are small too
pub small_before : (setting : SettingValue) (steps bound : ℕ) → bound ≤ steps → IsSmall setting steps → IsSmall setting bound
small_before setting steps bound le small = record { ions = small.ions; places = small.places; ops = small.ops; time = let most = small.time in omega (arith, most, le) }

-- ---- goals

-- each part has a goal
pub goal_there : (n : Numbering) (t : ℕ) → IsSome (number_of n (goal_item t))
unfolding number_of
goal_there n t = refl

-- it is the last variable
pub goal_last : (n : Numbering) (t : ℕ) → (literal_of n (so (goal_item t))).var ≡ before n (t + 1)
unfolding number_of
goal_last n t =
    let next : before n (t + 1) ≡ before n t + part_size (sizes_at n t) = let e : t + 1 ≡ suc t = omega arith in ap (before n) e in
    let here : before n t + goal_from (sizes_at n t) + 0 + 1 ≡ before n t + part_size (sizes_at n t) = omega arith in
    here ∙ sym next

-- a goal's literal in the words of the setting
pub goal_named : (setting : SettingValue) (encoding : Encoding) (steps : ℕ) (vars : VarsValue) (bound : ℕ) (claim : Claim) (literal : Literal) → vars ≡ vars_of setting encoding steps
    → claim ≡ so (goal_item bound) → literal ≡ literal_of vars.numbering claim → literal ≡ goal_literal setting encoding bound
goal_named setting encoding steps vars bound claim literal made is e =
    e ∙ ap (λ (it : Claim). literal_of vars.numbering it) is ∙ ap (λ (n : Numbering). literal_of n (so (goal_item bound))) (numbering_is setting encoding steps vars made)

-- a count of variables in the words of the setting
pub counted : (setting : SettingValue) (encoding : Encoding) (steps : ℕ) (vars : VarsValue) (bound count : ℕ) → vars ≡ vars_of setting encoding steps → count ≡ before vars.numbering (bound + 1)
    → count ≡ vars_up_to setting encoding bound
counted setting encoding steps vars bound count made e = e ∙ ap (λ (n : Numbering). before n (bound + 1)) (numbering_is setting encoding steps vars made)
