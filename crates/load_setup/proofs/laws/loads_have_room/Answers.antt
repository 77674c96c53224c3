use Rattle.std.proofs.Common.{◌≡◌, ℕ, zero, suc, ◌+◌, ◌≤◌, List, length, slice_get, Some, None, refl, sym, subst, lit≤}
use Rattle.qc_base.specs.declared.ids.Qubit.{Qubit}
use Rattle.trap_model.specs.Trap.{limit_of}
use Rattle.load_setup.specs.Setup.{generated_trap, declared_lists}
use Rattle.load_setup.proofs.laws.loads_have_room.Goals as goal

same_list : (x list : List Qubit) → Some x ≡ Some list → x ≡ list
same_list x list e = cc

free_in : (x list : List Qubit) → Some x ≡ Some list → length x + 2 ≤ 12 → length list + 2 ≤ 12
free_in x list e h = subst (λ (l : List Qubit). length l + 2 ≤ 12) (same_list x list e) h

no_list : (list : List Qubit) → None ≡ Some list → ⊥
no_list list e = cc

free : (zone : ℕ) (list : List Qubit) → slice_get declared_lists zone ≡ Some list → length list + 2 ≤ limit_of generated_trap zone
free zero list e = free_in _ list e (lit≤ tt)
free (suc zero) list e = free_in _ list e (lit≤ tt)
free (suc (suc zero)) list e = free_in _ list e (lit≤ tt)
free (suc (suc (suc zero))) list e = free_in _ list e (lit≤ tt)
free (suc (suc (suc (suc zero)))) list e = free_in _ list e (lit≤ tt)
free (suc (suc (suc (suc (suc zero))))) list e = free_in _ list e (lit≤ tt)
free (suc (suc (suc (suc (suc (suc zone)))))) list e = absurd (no_list list e)

pub returns-clause-placed : goal.returns-clause-placed
returns-clause-placed c seed = refl

pub returns-clause-free : goal.returns-clause-free
returns-clause-free c = free
