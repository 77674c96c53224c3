-- A refusal that is handed on.
use Rattle.std.proofs.Common.{◌≡◌, Result, Err, IsErrAnd}
use Rattle.std.proofs.lemmas.Result.{err_from_is_err_and}
use Rattle.gate_names.specs.declared.cause.Cause.{Cause}
use Rattle.gate_names.specs.declared.cause.Cause.TheVariants as causes
use Rattle.gate_names.specs.Causes.{Gives, Leaves}

leaves_by : {S T : Type 0} (e : Cause) (now : S) (after : T) (said : Result S Cause) (whole : Result T Cause)
    → Leaves (Err e) now said → (said ≡ Err e → whole ≡ Err e) → Leaves (Err e) after whole
leaves_by causes.NoMemory now after said whole h on = tt
leaves_by e now after said whole h on = on h

gives_by : {S X Y : Type 0} (e : Cause) (now : S) (see : X → Y) (said : Result S Cause) (whole : Result Y Cause)
    → Leaves (Err e) now said → (said ≡ Err e → whole ≡ Err e) → Gives see (Err e) whole
gives_by causes.NoMemory now see said whole h on = tt
gives_by e now see said whole h on = on h

left_by : {X Y T : Type 0} (e : Cause) (see : X → Y) (after : T) (said : Result Y Cause) (whole : Result T Cause)
    → Gives see (Err e) said → (said ≡ Err e → whole ≡ Err e) → Leaves (Err e) after whole
left_by causes.NoMemory see after said whole h on = tt
left_by e see after said whole h on = on h

-- of a call that leaves something, by one that leaves something
pub leaves_on : {S T : Type 0} (result : Result (Unit {0}) Cause) (e : Cause) (now : S) (after : T) (said : Result S Cause) (whole : Result T Cause)
    → IsErrAnd result (λ x. x ≡ e) → Leaves (Err e) now said → (said ≡ Err e → whole ≡ Err e) → Leaves result after whole
leaves_on {S} {T} result e now after said whole is h on =
    let p = err_from_is_err_and result is in rw (p.1, p.2) (leaves_by {S = S} {T = T} e now after said whole h on)

-- of a call that leaves something, by one that gives something
pub gives_on : {S X Y : Type 0} (result : Result X Cause) (e : Cause) (now : S) (see : X → Y) (said : Result S Cause) (whole : Result Y Cause)
    → IsErrAnd result (λ x. x ≡ e) → Leaves (Err e) now said → (said ≡ Err e → whole ≡ Err e) → Gives see result whole
gives_on {S} {X} {Y} result e now see said whole is h on =
    let p = err_from_is_err_and result is in rw (p.1, p.2) (gives_by {S = S} {X = X} {Y = Y} e now see said whole h on)

-- of a call that gives something, by one that leaves something
pub left_on : {X Y T : Type 0} (result : Result (Unit {0}) Cause) (e : Cause) (see : X → Y) (after : T) (said : Result Y Cause) (whole : Result T Cause)
    → IsErrAnd result (λ x. x ≡ e) → Gives see (Err e) said → (said ≡ Err e → whole ≡ Err e) → Leaves result after whole
left_on {X} {Y} {T} result e see after said whole is h on =
    let p = err_from_is_err_and result is in rw (p.1, p.2) (left_by {X = X} {Y = Y} {T = T} e see after said whole h on)
