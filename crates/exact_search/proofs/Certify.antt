-- The lines that refute that there are fewer steps are a certificate of that.
use Rattle.std.proofs.Common.{◌≡◌, ℕ, zero, suc, ◌+◌, ◌<◌, ◌^◌, List, [], length, sym, ap, ◌∙◌, subst, arith}
use Rattle.std.proofs.lemmas.List.{length-take-le, append-nil}
use Rattle.sat_base.specs.declared.certificate.Bound.TheVariants.{Refutes, Nothing}
use Rattle.sat_base.specs.Derivation.{Line}
use Rattle.sat_base.specs.Certificate.{certificate_text}
use Rattle.derivation_log.specs.Log.{Lines}
use Rattle.derivation_log.specs.Printing.{first_lines}
use Rattle.step_rules.specs.Setting.{SettingValue}
use Rattle.step_vars.specs.declared.encoding.Encoding.TheVariants.{Counter}
use Rattle.step_vars.specs.Encoding.{encoding_of, goal_literal}
use Rattle.step_vars.specs.Certifies.{vars_up_to, head_of, asked, Certifies}
use Rattle.exact_search.specs.Found.{HasLines, RefutesFewer}
use Rattle.exact_search.proofs.Ends.{ends_any}

-- as many axioms as the parts have
pub counted : (setting : SettingValue) (bound : ℕ) (log : Lines) (axioms lines : ℕ) → HasLines setting bound log axioms lines → length (encoding_of setting Counter bound) ≡ axioms
counted setting bound log axioms lines has = ap length (sym has.parts) ∙ length-take-le axioms log.axioms has.covers.axioms_there

pub no_line : (log : Lines) (axioms lines : ℕ) → lines ≡ 0 → first_lines log axioms lines ≡ []
no_line log axioms lines none = ap (λ (n : ℕ). first_lines log axioms n) none

pub lines_certify : (setting : SettingValue) (steps : ℕ) (log : Lines) (axioms lines : ℕ) → steps < 2 ^ 32 → RefutesFewer setting steps log axioms lines
    → Certifies setting (certificate_text (head_of Counter (asked steps)) axioms (first_lines log axioms lines)) steps
lines_certify setting zero log axioms lines less none = record {
  encoding = Counter;
  text = ap (λ (all : List Line). certificate_text (head_of Counter Nothing) axioms all) (no_line log axioms lines none.1) ∙ append-nil _;
}
lines_certify setting (suc bound) log axioms lines less has =
    let same = counted setting bound log axioms lines has.over in
    let all = first_lines log axioms lines in
    record {
      encoding = Counter;
      lines = all;
      small = omega (arith, less);
      text = ap (λ (n : ℕ). certificate_text (head_of Counter (Refutes bound)) n all) (sym same);
      form = has.over.are.form;
      good = has.over.are.good;
      refutes = ends_any (goal_literal setting Counter bound) all has.ends;
    }
