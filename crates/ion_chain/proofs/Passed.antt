-- What the passing rule gives.
use Rattle.std.proofs.Common.{◌≡◌, ℕ, ◌+◌, ◌-◌, List, ◌++◌, length, reverse, take, refl, ap, arith, IsPermutation, append_assoc}
use Rattle.std.proofs.lemmas.List.{reverse-append, reverse-reverse, length-reverse, length-take, take-append-drop}
use Rattle.std.proofs.lemmas.List.Sorted.{IsPermutation-refl, IsPermutation-reverse, IsPermutation-trans, IsPermutation-append, IsPermutation-append_comm}
use Rattle.qc_base.specs.declared.ids.Ion.{Ion}
use Rattle.qc_base.specs.declared.ids.End.{End}
use Rattle.qc_base.specs.declared.ids.End.TheVariants.{A, B}
use Rattle.ion_chain.specs.Passing.{outward, leaving, left, joined}
use Rattle.ion_chain.proofs.Lists.{drop_in_parts}

pub outward-outward : (end : End) (ions : List Ion) → outward end (outward end ions) ≡ ions
outward-outward A ions = reverse-reverse ions
outward-outward B ions = refl

pub length-outward : (end : End) (ions : List Ion) → length (outward end ions) ≡ length ions
length-outward A ions = length-reverse ions
length-outward B ions = refl

pub IsPermutation-outward : (end : End) (ions : List Ion) → IsPermutation ions (outward end ions)
IsPermutation-outward A ions = IsPermutation-reverse ions
IsPermutation-outward B ions = IsPermutation-refl ions

pub length-left : (end : End) (count : ℕ) (source : List Ion) → length (left end count source) ≡ length source - count
length-left end count source =
    rw (length-outward, length-take, length-outward) (omega arith)

-- ions that leave in two parts leave together
pub leaving_in_parts : (end : End) (first later : ℕ) (source : List Ion) → leaving end later (left end first source) ++ leaving end first source ≡ leaving end (first + later) source
leaving_in_parts end first later source =
    let o : List Ion = outward end source in
    let n : ℕ = length source in
    let e : n - first - later ≡ n - (first + later) = omega arith in
    rw (length-left end first source, outward-outward end (take (n - first) o), e) (drop_in_parts (n - (first + later)) (n - first) o (omega arith))

-- ions that come in by two parts come in together
pub joined-joined : (into : End) (first later target : List Ion) → joined into later (joined into first target) ≡ joined into (later ++ first) target
joined-joined A first later target = simp (reverse-reverse, reverse-append, append_assoc)
joined-joined B first later target = simp (reverse-append, append_assoc)

pub all_stay : (end into : End) (count : ℕ) (source target : List Ion) → IsPermutation (source ++ target) (left end count source ++ joined into (leaving end count source) target)
all_stay end into count source target =
    let o : List Ion = outward end source in
    let stay : List Ion = take (length source - count) o in
    let go : List Ion = leaving end count source in
    let cut : (stay ++ go) ++ target ≡ o ++ target = ap (λ (x : List Ion). x ++ target) (take-append-drop (length source - count) o) in
    let read : IsPermutation (source ++ target) (o ++ target) = IsPermutation-append source o target target (IsPermutation-outward end source) (IsPermutation-refl target) in
    let moved : IsPermutation (go ++ target) (outward into target ++ reverse go) =
    IsPermutation-trans (go ++ target) (target ++ go) _ (IsPermutation-append_comm go target)
    (IsPermutation-append target (outward into target) go (reverse go) (IsPermutation-outward into target) (IsPermutation-reverse go)) in
    let came : IsPermutation (go ++ target) (joined into go target) =
    IsPermutation-trans (go ++ target) (outward into target ++ reverse go) _ moved (IsPermutation-outward into (outward into target ++ reverse go)) in
    let both : IsPermutation (stay ++ (go ++ target)) (left end count source ++ joined into go target) =
    IsPermutation-append stay (left end count source) (go ++ target) (joined into go target) (IsPermutation-outward end stay) came in
    IsPermutation-trans (source ++ target) (o ++ target) _ read (rw (← cut, append_assoc) both)
