-- What the search for a least schedule answers, and what its log then says.
use Rattle.std.specs.Prelude.{◌≡◌, ℕ, zero, suc, ◌+◌, ◌<◌, ◌≤◌, ◌^◌, List, [], ◌∷◌, ◌++◌, length, take, None, Some, Result, Ok, Err}
use Rattle.sat_base.specs.Literal.{Literal}
use Rattle.sat_base.specs.Derivation.{Line, clauses_of, AreGood, Refutes, AnyRefutes}
use Rattle.sat_base.specs.Certificate.{HaveForm}
use Rattle.sat_base.specs.Fresh.{AreFresh}
use Rattle.derivation_log.specs.Log.{Lines}
use Rattle.derivation_log.specs.Printing.{first_lines, Covers}
use Rattle.step_rules.specs.declared.action.Action.{Action}
use Rattle.step_rules.specs.Setting.{SettingValue}
use Rattle.step_rules.specs.Play.{Plays, IsLeast}
use Rattle.step_vars.specs.declared.encoding.Encoding.TheVariants.{Counter}
use Rattle.step_vars.specs.Encoding.{encoding_of, parts_of, goal_literal}
use Rattle.step_vars.specs.Certifies.{vars_up_to}
use Rattle.exact_search.specs.declared.fault.ExactFault.{ExactFault}
use Rattle.exact_search.specs.declared.fault.ExactFault.TheVariants.{TooLarge, NoMemory}
use Rattle.exact_search.specs.declared.found.Found.{Found}
use Rattle.exact_search.specs.declared.found.Found.TheVariants.{Least, NoneWithin, Spent}
use Rattle.exact_search.specs.TooLarge.{too_large}

-- ---- lines over the parts of the encoding

-- the lines of a certificate over the parts 0 to a bound: they have the form, and are good and fresh
pub record AreFreshLines (setting : SettingValue) (bound : ℕ) (lines : List Line) : Type 0 where
  pub form : HaveForm (vars_up_to setting Counter bound) (length (encoding_of setting Counter bound) + 1) lines
  pub good : AreGood (vars_up_to setting Counter bound) (encoding_of setting Counter bound) lines
  pub fresh : AreFresh (parts_of setting Counter) bound [] lines

-- The log's first axioms are the parts 0 to the bound, in order, and its first derived lines, none of whose
-- hints is a later axiom, are those of a certificate over these parts.
pub record HasLines (setting : SettingValue) (bound : ℕ) (log : Lines) (axioms lines : ℕ) : Type 0 where
  pub parts : take axioms log.axioms ≡ encoding_of setting Counter bound
  pub covers : Covers log axioms lines
  pub are : AreFreshLines setting bound (first_lines log axioms lines)

-- one of the lines refutes the bound
abbrev pub AnyRefutesBound : SettingValue → ℕ → List Line → Type 0
AnyRefutesBound setting bound lines = AnyRefutes (goal_literal setting Counter bound) (clauses_of lines)

-- the last of the lines refutes the goal, and none before it does
pub record EndsRefuting (goal : Literal) (lines : List Line) : Type 0 where
  pub before : List Line
  pub last : Line
  pub lines_are : lines ≡ before ++ last ∷ []
  pub refutes : Refutes goal last.clause
  pub first : AnyRefutes goal (clauses_of before) → ⊥

-- the log's first lines refute the bound, the last of them and none before it
pub record HasRefutation (setting : SettingValue) (bound : ℕ) (log : Lines) (axioms lines : ℕ) : Type 0 where
  pub over : HasLines setting bound log axioms lines
  pub ends : EndsRefuting (goal_literal setting Counter bound) (first_lines log axioms lines)

-- the log's first lines refute that there are fewer steps; for no step they are none
abbrev pub RefutesFewer : SettingValue → ℕ → Lines → ℕ → ℕ → Type 0
RefutesFewer setting zero log axioms lines = (axioms ≡ 0) × (lines ≡ 0)
RefutesFewer setting (suc bound) log axioms lines = HasRefutation setting bound log axioms lines

-- ---- what is found

-- A schedule of at most max steps that is least, and lines that show it. No more lines than the budget were
-- derived.
pub record IsLeastFound (setting : SettingValue) (max budget : ℕ) (schedule : List (List Action))
    (log : Lines) (axioms lines : ℕ) : Type 0 where
  pub least : IsLeast setting schedule
  pub within : length schedule ≤ max
  pub fewer : RefutesFewer setting (length schedule) log axioms lines
  pub few : length log.derived ≤ budget

-- No schedule of at most max steps plays, and the lines show it. No more lines than the budget were derived.
pub record IsNoneWithin (setting : SettingValue) (max budget : ℕ) (log : Lines) (lines : ℕ) : Type 0 where
  pub none : (steps : List (List Action)) → Plays setting steps → length steps ≤ max → ⊥
  pub parts : log.axioms ≡ encoding_of setting Counter max
  pub refutation : HasRefutation setting max log (length log.axioms) lines
  pub few : length log.derived ≤ budget

-- As many lines were derived as the budget says. They refute each lower bound, but not this one. With v
-- variables in the parts 0 to max, such a budget is below 3^v.
pub record IsSpent (setting : SettingValue) (max budget : ℕ) (log : Lines) (bound : ℕ) : Type 0 where
  pub within : bound ≤ max
  pub parts : log.axioms ≡ encoding_of setting Counter bound
  pub spent : length log.derived ≡ budget
  pub lines : HasLines setting bound log (length log.axioms) budget
  pub below : (lower : ℕ) → lower < bound
      → AnyRefutesBound setting lower (first_lines log (length log.axioms) budget)
  pub left : AnyRefutesBound setting bound (first_lines log (length log.axioms) budget) → ⊥
  pub few : budget < 3 ^ vars_up_to setting Counter max

abbrev pub IsFound : SettingValue → ℕ → ℕ → Found → Type 0
IsFound setting max budget (Least schedule log axioms lines) =
    IsLeastFound setting max budget schedule log axioms lines
IsFound setting max budget (NoneWithin log lines) = IsNoneWithin setting max budget log lines
IsFound setting max budget (Spent log bound) = IsSpent setting max budget log bound

-- What is answered: the first count above its limit, else what is found. Out of memory says nothing.
abbrev pub Answers : SettingValue → ℕ → ℕ → Result Found ExactFault → Type 0
Answers setting max budget (Ok found) = (too_large setting max ≡ None) × IsFound setting max budget found
Answers setting max budget (Err (TooLarge what count)) = too_large setting max ≡ Some (TooLarge what count)
Answers setting max budget (Err NoMemory) = Unit {0}
