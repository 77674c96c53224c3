-- The trap of a file keeps all rules of traps.
use Rattle.std.proofs.Common.{◌≡◌, ℕ, List, Option, Result, Ok, Err, IfOk, refl, subst}
use Rattle.std.specs.Option.{ok_or}
use Rattle.toml.specs.Data.{Members}
use Rattle.trap_parts.specs.declared.fault.TrapFault.{TrapFault}
use Rattle.trap_parts.specs.Parts.{TrapValue, names_of}
use Rattle.trap_parts.specs.Build.{AreNames, build_of, IsTrap}
use Rattle.trap_parts.proofs.Sound.{built_trap}
use Rattle.trap_read.specs.declared.fault.TrapText.{TrapText}
use Rattle.trap_read.specs.declared.fault.TrapText.TheVariants.{Toml}
use Rattle.trap_read.specs.Labels.{given_of, place_passes}
use Rattle.trap_read.specs.TrapFile.{FileValue, table_of, tops_of, top_row, parts_of, as_refusal, file_of, trap_of}
use Rattle.trap_read.proofs.Named.{bind_ok, any_ok, then_ok, parts_ok}

abbrev IsRight : FileValue → Type 0
IsRight file = IsTrap file.0

-- a trap that was built
trap_ok : (parts : TrapValue) (built : Result TrapValue TrapFault) → build_of parts ≡ built → AreNames (names_of parts) → IfOk (as_refusal built) IsTrap
trap_ok parts (Ok trap) e names = built_trap parts trap names e
trap_ok parts (Err fault) e names = tt

file_ok : (members : Members) → IfOk (file_of members) IsRight
unfolding file_of
file_ok members =
    any_ok IsRight (tops_of (top_row members)) _ (λ tops.
    bind_ok (λ parts. AreNames (names_of parts)) IsRight (parts_of tops) _ (parts_ok tops) (λ parts names.
    then_ok IsRight (place_passes parts.zones tops.place) _
    (bind_ok IsTrap IsRight (as_refusal (build_of parts)) _ (trap_ok parts (build_of parts) refl names) (λ trap right. right))))

bytes_ok : (bytes : List ℕ) → IfOk (trap_of bytes) IsRight
unfolding trap_of
bytes_ok bytes = any_ok IsRight (ok_or (table_of bytes) Toml) file_of file_ok

pub right_trap : (bytes : List ℕ) (trap : TrapValue) (given : Option (List (List (List ℕ)))) → trap_of bytes ≡ Ok (trap, given) → IsTrap trap
right_trap bytes trap given e = subst (λ (r : Result FileValue TrapText). IfOk r IsRight) e (bytes_ok bytes)
