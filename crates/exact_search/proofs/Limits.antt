-- Within the limits of the search.
use Rattle.std.proofs.Common.{◌≡◌, ℕ, ◌≤◌, Bool, true, false, cond, length, Some, None, Err, refl}
use Rattle.std.specs.Prelude.{Option}
use Rattle.std.proofs.Math.Dec.{ltb}
use Rattle.std.proofs.lemmas.Bool.{ltb-false}
use Rattle.trap_model.specs.Trap.{place_count}
use Rattle.step_rules.specs.Setting.{SettingValue}
use Rattle.step_vars.specs.Lists.{ion_count}
use Rattle.step_vars.specs.Encoding.{IsSmall}
use Rattle.exact_search.specs.declared.fault.Count.{Count}
use Rattle.exact_search.specs.declared.fault.Count.TheVariants.{Ions, Places, Ops, Max}
use Rattle.exact_search.specs.declared.fault.ExactFault.{ExactFault}
use Rattle.exact_search.specs.declared.fault.ExactFault.TheVariants.{TooLarge, NoMemory}
use Rattle.exact_search.specs.TooLarge.{above, too_large}
use Rattle.exact_search.specs.Found.{Answers}

some_none : {A : Type 0} → (a : A) → Some a ≡ None → ⊥
some_none a e = cc

limit_by : (b : Bool) (fault : ExactFault) (next : Option ExactFault) → cond b (Some fault) next ≡ None → (b ≡ false) × (next ≡ None)
limit_by true fault next e = absurd (some_none fault e)
limit_by false fault next e = (refl, e)

limit_kept : (what : Count) (limit count : ℕ) (next : Option ExactFault) → above what limit count next ≡ None → (count ≤ limit) × (next ≡ None)
limit_kept what limit count next e = let parts = limit_by (ltb limit count) (TooLarge what count) next e in (ltb-false limit count parts.0, parts.1)

pub within_limits : (setting : SettingValue) (max : ℕ) → too_large setting max ≡ None → IsSmall setting max
within_limits setting max e =
    let ions = limit_kept Ions 16 (ion_count setting) (above Places 48 (place_count setting.trap) (above Ops 200 (length setting.circuit.ops) (above Max 48 max None))) e in
    let places = limit_kept Places 48 (place_count setting.trap) (above Ops 200 (length setting.circuit.ops) (above Max 48 max None)) ions.1 in
    let ops = limit_kept Ops 200 (length setting.circuit.ops) (above Max 48 max None) places.1 in
    let time = limit_kept Max 48 max None ops.1 in
    record { ions = ions.0; places = places.0; ops = ops.0; time = time.0 }

pub too_large_answer : (setting : SettingValue) (max budget : ℕ) (fault : ExactFault) → too_large setting max ≡ Some fault → Answers setting max budget (Err fault)
too_large_answer setting max budget (TooLarge what count) e = e
too_large_answer setting max budget NoMemory e = tt
