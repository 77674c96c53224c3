-- Rows of new variables, and assignments that are changed on one.
use Rattle.std.proofs.Common.{◌≡◌, ℕ, ◌+◌, ◌-◌, ◌<◌, ◌≤◌, true, false, cond, ltb, leb, sym, ◌∙◌, arith}
use Rattle.std.proofs.lemmas.Bool.Decides.{nat_tests}
use Rattle.sat_base.specs.Truth.{Valuation, AgreeExcept}

-- as values, but the count variables from base on say whether their place is below t
abbrev pub counting : Valuation → ℕ → ℕ → ℕ → Valuation
counting values base count t var = cond (leb base var) (cond (ltb var (base + count)) (ltb (var - base) t) (values var)) (values var)

-- each variable of the row says whether its place is below t
abbrev pub RowIs : Valuation → ℕ → ℕ → ℕ → Type 0
RowIs values base count t = (i : ℕ) → i < count → values (base + i) ≡ ltb i t

lt_true : (i t : ℕ) → i < t → ltb i t ≡ true
lt_true i t h = grind (arith, nat_tests)

lt_false : (i t : ℕ) → t ≤ i → ltb i t ≡ false
lt_false i t h = grind (arith, nat_tests)

true_lt : (i t : ℕ) → ltb i t ≡ true → i < t
true_lt i t h = grind (arith, nat_tests)

pub row_true : (values : Valuation) (base count t i : ℕ) → RowIs values base count t → i < count → i < t → values (base + i) ≡ true
row_true values base count t i row within reached = row i within ∙ lt_true i t reached

pub row_false : (values : Valuation) (base count t i : ℕ) → RowIs values base count t → i < count → t ≤ i → values (base + i) ≡ false
row_false values base count t i row within beyond = row i within ∙ lt_false i t beyond

pub row_reached : (values : Valuation) (base count t i : ℕ) → RowIs values base count t → i < count → values (base + i) ≡ true → i < t
row_reached values base count t i row within holds = true_lt i t (sym (row i within) ∙ holds)

pub RowIs-counting : (values : Valuation) (base count t : ℕ) → RowIs (counting values base count t) base count t
RowIs-counting values base count t i within =
    let e : base + i - base ≡ i = omega arith in
    let low : leb base (base + i) ≡ true = grind (arith, nat_tests) in
    let high : ltb (base + i) (base + count) ≡ true = grind (arith, nat_tests) in
    rw (low, high, e)

pub AgreeExcept-counting : (values : Valuation) (base count t : ℕ) → AgreeExcept base (base + count) values (counting values base count t)
AgreeExcept-counting values base count t = record {
  below = λ var h. let low : leb base var ≡ false = grind (arith, nat_tests) in rw low;
  above = λ var h. let high : ltb var (base + count) ≡ false = grind (arith, nat_tests) in
      let low : leb base var ≡ true = grind (arith, nat_tests) in rw (low, high);
}

-- what is below the change stays
pub RowIs-agree : (from end base count t : ℕ) (values other : Valuation) → base + count ≤ from → AgreeExcept from end values other → RowIs values base count t → RowIs other base count t
RowIs-agree from end base count t values other h same row i within = sym (same.below (base + i) (omega arith)) ∙ row i within
