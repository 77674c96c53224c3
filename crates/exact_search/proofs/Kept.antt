-- What lines of a log show stays shown while the log grows.
use Rattle.std.proofs.Common.{◌≡◌, ℕ, zero, suc, ◌+◌, ◌≤◌, List, [], ◌++◌, length, map, take, sym, ap, ◌∙◌, subst, arith, length-append}
use Rattle.std.specs.Prelude.{All}
use Rattle.std.proofs.lemmas.List.{take-append-le}
use Rattle.sat_base.specs.Literal.{Literal}
use Rattle.sat_base.specs.Derivation.{AreGood}
use Rattle.sat_base.specs.Fresh.{AreFresh}
use Rattle.derivation_log.specs.Log.{Derived, Lines}
use Rattle.derivation_log.specs.Printing.{line_of, first_lines, Covers, NameNoLaterAxiom}
use Rattle.step_rules.specs.Setting.{SettingValue}
use Rattle.step_vars.specs.declared.encoding.Encoding.TheVariants.{Counter}
use Rattle.step_vars.specs.Encoding.{encoding_of, parts_of, goal_literal}
use Rattle.step_vars.specs.Certifies.{vars_up_to}
use Rattle.exact_search.specs.Found.{AreFreshLines, HasLines, EndsRefuting, RefutesFewer}

-- the new log has the axioms and the lines of the old one, and perhaps more
pub record Grows (old new : Lines) : Type 0 where
  pub axioms : List (List Literal)
  pub derived : List Derived
  pub more_axioms : new.axioms ≡ old.axioms ++ axioms
  pub more_derived : new.derived ≡ old.derived ++ derived

taken : {X : Type 0} → (k : ℕ) (xs more ys : List X) → k ≤ length xs → ys ≡ xs ++ more → take k ys ≡ take k xs
taken {X} k xs more ys le is = ap (λ (zs : List X). take k zs) is ∙ take-append-le k xs more le

longer : {X : Type 0} → (k : ℕ) (xs more ys : List X) → k ≤ length xs → ys ≡ xs ++ more → k ≤ length ys
longer k xs more ys le is = let all = ap length is in omega (arith, all, length-append xs more)

same_lines : (old new : Lines) (axioms lines : ℕ) → Grows old new → lines ≤ length old.derived → first_lines new axioms lines ≡ first_lines old axioms lines
same_lines old new axioms lines grows le = ap (λ (derived : List Derived). map (line_of axioms) derived) (taken lines old.derived grows.derived new.derived le grows.more_derived)

pub Covers-kept : (old new : Lines) (axioms lines : ℕ) → Grows old new → Covers old axioms lines → Covers new axioms lines
Covers-kept old new axioms lines grows covers = record {
  axioms_there = longer axioms old.axioms grows.axioms new.axioms covers.axioms_there grows.more_axioms;
  lines_there = longer lines old.derived grows.derived new.derived covers.lines_there grows.more_derived;
  hints_there = subst (λ (derived : List Derived). All (λ (it : Derived). NameNoLaterAxiom axioms it.hints) derived)
      (sym (taken lines old.derived grows.derived new.derived covers.lines_there grows.more_derived)) covers.hints_there;
}

pub HasLines-kept : (setting : SettingValue) (bound : ℕ) (old new : Lines) (axioms lines : ℕ) → Grows old new → HasLines setting bound old axioms lines → HasLines setting bound new axioms lines
HasLines-kept setting bound old new axioms lines grows has =
    let same = sym (same_lines old new axioms lines grows has.covers.lines_there) in
    record {
      parts = taken axioms old.axioms grows.axioms new.axioms has.covers.axioms_there grows.more_axioms ∙ has.parts;
      covers = Covers-kept old new axioms lines grows has.covers;
      are = subst (AreFreshLines setting bound) same has.are;
    }

pub RefutesFewer-kept : (setting : SettingValue) (steps : ℕ) (old new : Lines) (axioms lines : ℕ) → Grows old new → RefutesFewer setting steps old axioms lines → RefutesFewer setting steps new axioms lines
RefutesFewer-kept setting zero old new axioms lines grows none = none
RefutesFewer-kept setting (suc bound) old new axioms lines grows has = record {
  over = HasLines-kept setting bound old new axioms lines grows has.over;
  ends = subst (EndsRefuting (goal_literal setting Counter bound)) (sym (same_lines old new axioms lines grows has.over.covers.lines_there)) has.ends;
}
