-- What exact mode puts under the name of the certificate.
use Rattle.std.specs.Prelude.{◌≡◌, ℕ, zero, suc, ◌+◌, ◌<◌, ◌≤◌, ◌^◌, List, [], length, Some}
use Rattle.sat_base.specs.declared.certificate.Bound.{Bound}
use Rattle.sat_base.specs.declared.certificate.Bound.TheVariants.{Refutes, Nothing, Open}
use Rattle.sat_base.specs.Derivation.{Line}
use Rattle.sat_base.specs.Certificate.{head_text, certificate_text}
use Rattle.step_rules.specs.declared.action.Action.{Action}
use Rattle.step_rules.specs.Setting.{SettingValue}
use Rattle.step_rules.specs.Play.{Plays, IsLeast}
use Rattle.step_vars.specs.declared.encoding.Encoding.TheVariants.{Counter}
use Rattle.step_vars.specs.Encoding.{encoding_of, goal_literal}
use Rattle.step_vars.specs.Certifies.{vars_up_to, head_of, Certifies}
use Rattle.schedule_text.specs.Text.{schedule_text}
use Rattle.exact_search.specs.Found.{AreFreshLines, AnyRefutesBound, EndsRefuting}
use Rattle.run_stages.specs.declared.ending.Ending.{Ending}

-- a schedule of at most so many steps plays
pub record PlaysWithin (setting : SettingValue) (max : ℕ) : Type 0 where
  pub schedule : List (List Action)
  pub plays : Plays setting schedule
  pub within : length schedule ≤ max

-- ---- certificates with fresh lines

-- the bytes are the text of a certificate that says this, and has these lines over the parts 0 to a bound
pub record HasFreshLines (setting : SettingValue) (says : Bound) (bound : ℕ) (lines : List Line)
    (bytes : List ℕ) : Type 0 where
  pub text : bytes ≡ certificate_text (head_of Counter says) (length (encoding_of setting Counter bound)) lines
  pub are : AreFreshLines setting bound lines

-- The bytes say that they refute the bound, and do, by fresh lines, no more than the budget: the last of them
-- refutes it, and none before it does.
pub record RefutesByFresh (setting : SettingValue) (bound budget : ℕ) (bytes : List ℕ) : Type 0 where
  pub lines : List Line
  pub are : HasFreshLines setting (Refutes bound) bound lines bytes
  pub few : length lines ≤ budget
  pub ends : EndsRefuting (goal_literal setting Counter bound) lines

-- the bytes refute by fresh lines that there are fewer steps; for no step there is nothing to refute, and no
-- line
abbrev pub RefutesFewerByFresh : SettingValue → (steps budget : ℕ) → List ℕ → Type 0
RefutesFewerByFresh setting zero budget bytes = bytes ≡ head_text (head_of Counter Nothing)
RefutesFewerByFresh setting (suc bound) budget bytes = RefutesByFresh setting bound budget bytes

-- The bytes say that a bound of at most max is open. They have as many lines as the budget, all fresh, which
-- refute each lower bound, and not this one.
pub record LeavesOpen (setting : SettingValue) (max budget : ℕ) (bytes : List ℕ) : Type 0 where
  pub bound : ℕ
  pub within : bound ≤ max
  pub lines : List Line
  pub are : HasFreshLines setting (Open bound) bound lines bytes
  pub spent : length lines ≡ budget
  pub lower : (other : ℕ) → other < bound → AnyRefutesBound setting other lines
  pub left : AnyRefutesBound setting bound lines → ⊥

-- ---- what is put and written

-- No schedule that plays has fewer steps, and it has at most max. The bytes certify that, by fresh lines, no more
-- than the budget.
pub record IsLeastShown (setting : SettingValue) (max budget : ℕ) (schedule : List (List Action)) (bytes : List ℕ)
    : Type 0 where
  pub least : IsLeast setting schedule
  pub within : length schedule ≤ max
  pub certifies : Certifies setting bytes (length schedule)
  pub fresh : RefutesFewerByFresh setting (length schedule) budget bytes

-- the text of a schedule is written, and what is put shows that none that plays has fewer steps
pub record IsLeastWritten (setting : SettingValue) (max budget : ℕ) (ending : Ending) : Type 0 where
  pub schedule : List (List Action)
  pub text_is : ending.text ≡ schedule_text setting schedule
  pub put : List ℕ
  pub put_is : ending.put ≡ Some put
  pub shown : IsLeastShown setting max budget schedule put

-- no schedule of at most max steps plays, and what is put refutes that one does; nothing is written
pub record IsNoneFound (setting : SettingValue) (max budget : ℕ) (ending : Ending) : Type 0 where
  pub none : PlaysWithin setting max → ⊥
  pub text_is : ending.text ≡ []
  pub put : List ℕ
  pub put_is : ending.put ≡ Some put
  pub refutes : RefutesByFresh setting max budget put

-- What is put has as many lines as the budget, and leaves a bound of at most max open; nothing is written.
-- With v variables in the parts 0 to max, such a budget is below 3^v.
pub record IsBudgetSpent (setting : SettingValue) (max budget : ℕ) (ending : Ending) : Type 0 where
  pub few : budget < 3 ^ vars_up_to setting Counter max
  pub text_is : ending.text ≡ []
  pub put : List ℕ
  pub put_is : ending.put ≡ Some put
  pub open_at : LeavesOpen setting max budget put
