use Rattle.std.proofs.Common.{◌≡◌, ℕ, zero, suc, ◌+◌, ◌<◌, true, refl, arith}
use Rattle.trap_parts.specs.declared.parts.Need.{Need}
use Rattle.trap_parts.specs.declared.parts.Need.TheVariants.{One, Two, Read}
use Rattle.trap_model.specs.Trap.{has, is_able}
use Rattle.load_setup.specs.Setup.{zone_part, generated_trap}
use Rattle.load_setup.proofs.laws.zones_are_able.Goals as goal

able : (number : ℕ) (need : Need) → has need (zone_part number) ≡ true
able number One = refl
able number Two = refl
able number Read = refl

able_at : (zone : ℕ) (need : Need) → zone < 6 → is_able generated_trap zone need ≡ true
able_at zero need h = able 0 need
able_at (suc zero) need h = able 1 need
able_at (suc (suc zero)) need h = able 2 need
able_at (suc (suc (suc zero))) need h = able 3 need
able_at (suc (suc (suc (suc zero)))) need h = able 4 need
able_at (suc (suc (suc (suc (suc zero))))) need h = able 5 need
able_at (suc (suc (suc (suc (suc (suc zone)))))) need h = absurd (omega (arith, h))

pub returns : goal.returns
returns c = able_at
