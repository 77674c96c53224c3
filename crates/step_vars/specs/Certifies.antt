-- Which bytes are a certificate that no schedule is shorter.
use Rattle.std.specs.Prelude.{◌≡◌, ℕ, zero, suc, ◌+◌, ◌<◌, ◌^◌, List, length}
use Rattle.sat_base.specs.declared.certificate.Head.{Head}
use Rattle.sat_base.specs.declared.certificate.Bound.{Bound}
use Rattle.sat_base.specs.declared.certificate.Bound.TheVariants.{Refutes, Nothing}
use Rattle.sat_base.specs.Derivation.{Line, clauses_of, AreGood, AnyRefutes}
use Rattle.sat_base.specs.Certificate.{head_text, certificate_text, HaveForm}
use Rattle.step_rules.specs.Setting.{SettingValue}
use Rattle.step_vars.specs.declared.encoding.Encoding.{Encoding}
use Rattle.step_vars.specs.declared.encoding.Encoding.TheVariants.{Pairwise, Counter}
use Rattle.step_vars.specs.Numbering.{before}
use Rattle.step_vars.specs.Encoding.{numbering_of, encoding_of, goal_literal}

-- how many variables the parts 0 to t have
abbrev pub vars_up_to : SettingValue → Encoding → ℕ → ℕ
vars_up_to setting encoding t = before (numbering_of setting encoding) (t + 1)

-- the number of an encoding in the head of a certificate
abbrev pub encoding_number : Encoding → ℕ
encoding_number Pairwise = 1
encoding_number Counter = 2

abbrev pub head_of : Encoding → Bound → Head
head_of encoding bound = record { encoding = encoding_number encoding; bound = bound }

-- what is to be refuted where a schedule has so many steps
abbrev pub asked : ℕ → Bound
asked zero = Nothing
asked (suc bound) = Refutes bound

-- The bytes say that they refute the bound, and do: their lines have the form, each is good over the clauses of
-- the parts 0 to the bound, and one of them refutes it. The encoding is the one that the head names.
pub record IsRefutation (setting : SettingValue) (bytes : List ℕ) (bound : ℕ) : Type 0 where
  pub encoding : Encoding
  pub lines : List Line
  pub small : bound < 2 ^ 32
  pub text : bytes
      ≡ certificate_text (head_of encoding (Refutes bound)) (length (encoding_of setting encoding bound)) lines
  pub form : HaveForm (vars_up_to setting encoding bound) (length (encoding_of setting encoding bound) + 1) lines
  pub good : AreGood (vars_up_to setting encoding bound) (encoding_of setting encoding bound) lines
  pub refutes : AnyRefutes (goal_literal setting encoding bound) (clauses_of lines)

-- the bytes say that there is nothing to refute, and no more
pub record RefutesNothing (bytes : List ℕ) : Type 0 where
  pub encoding : Encoding
  pub text : bytes ≡ head_text (head_of encoding Nothing)

-- the bytes certify that no schedule has fewer than so many steps
abbrev pub Certifies : SettingValue → List ℕ → ℕ → Type 0
Certifies setting bytes zero = RefutesNothing bytes
Certifies setting bytes (suc bound) = IsRefutation setting bytes bound
