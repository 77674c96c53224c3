-- The lists that the variables keep are those of the setting.
use Rattle.std.proofs.Common.{◌≡◌, ℕ, List, [], ◌∷◌, map, refl, ap, ◌∙◌}
use Rattle.step_rules.specs.Setting.{SettingValue}
use Rattle.step_vars.specs.Lists.{cell, performed, acts_of, orders_of}
use Rattle.step_vars.specs.Families.{pairs_in}
use Rattle.step_vars.specs.Encoding.{VarsValue, vars_of, numbering_of}
use Rattle.clause_families.specs.Clauses.{row_of}

rows_are : (xs : List ℕ) → map row_of (map (λ g. cell g 0) xs) ≡ xs
rows_are [] = refl
rows_are (x ∷ xs) = ap (λ rest. x ∷ rest) (rows_are xs)

pub ops_are : (s : SettingValue) (v : VarsValue) → v ≡ vars_of s v.encoding v.steps → map row_of v.numbering.ops ≡ performed s.circuit
unfolding vars_of numbering_of
ops_are s v e = ap (λ (w : VarsValue). map row_of w.numbering.ops) e ∙ rows_are (performed s.circuit)

pub pairs_are : (s : SettingValue) (v : VarsValue) → v ≡ vars_of s v.encoding v.steps → v.numbering.pairs ≡ pairs_in s
unfolding vars_of numbering_of
pairs_are s v e = ap (λ (w : VarsValue). w.numbering.pairs) e

pub acts_are : (s : SettingValue) (v : VarsValue) → v ≡ vars_of s v.encoding v.steps → v.numbering.acts ≡ acts_of s
unfolding vars_of numbering_of
acts_are s v e = ap (λ (w : VarsValue). w.numbering.acts) e

pub orders_are : (s : SettingValue) (v : VarsValue) → v ≡ vars_of s v.encoding v.steps → v.orders ≡ orders_of s.circuit
unfolding vars_of
orders_are s v e = ap (λ (w : VarsValue). w.orders) e
