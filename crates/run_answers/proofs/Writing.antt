-- One text handed over after another.
use Rattle.std.proofs.Common.{◌≡◌, ℕ, suc, ◌+◌, ◌<◌, ◌≤◌, min, false, List, [], ◌∷◌, ◌++◌, length, map, take, drop, get_or, Option, Result, Ok, Err, arith, refl, ap, sym, ◌∙◌, subst, length-append}
use Rattle.std.proofs.lemmas.List.{take-append-le, take-append-drop, take_min, length-take}
use Rattle.std.proofs.Math.Seq.{take-append-add, drop-cons}
use Rattle.std.proofs.lemmas.Grind.{flat_map-append}
use Rattle.std.proofs.lemmas.List.Concat.{flat_map-cons}
use Rattle.std.specs.List.{flat_map}
use Rattle.std.specs.Prelude.{OnOk, OnErr, ◌==◌, codes}
use Rattle.std.proofs.lemmas.Bool.{true≢false}
use Rattle.std.proofs.lemmas.List.Folds.{flat_map-map}
use Rattle.run_answers.specs.declared.piece.Piece.{Piece}
use Rattle.run_answers.specs.Line.{printable, name_text, piece_text, line_text}
use Rattle.qc_base.specs.Sink.{Took, TookPart}
use Rattle.qc_base.proofs.Taking.{Took-then}

pub part_of_first : (before now : Option (List ℕ)) (first second : List ℕ) → TookPart before now first → TookPart before now (first ++ second)
part_of_first before now first second part = record {
  count = part.count;
  fewer = omega (arith, part.fewer, length-append first second);
  taken = rw (take-append-le part.count first second (omega (arith, part.fewer))) part.taken;
}

pub part_of_second : (before mid now : Option (List ℕ)) (first second : List ℕ) → Took before mid first → TookPart mid now second → TookPart before now (first ++ second)
part_of_second before mid now first second took part = record {
  count = length first + part.count;
  fewer = omega (arith, part.fewer, length-append first second);
  taken = rw (take-append-add first second part.count) (Took-then before mid now first (take part.count second) took part.taken);
}

-- where the second fails, or does not
pub on_second : {T E : Type 0} (result : Result T E) (before mid now : Option (List ℕ)) (first second : List ℕ) → Took before mid first → OnErr result (TookPart mid now second) → OnErr result (TookPart before now (first ++ second))
on_second (Ok x) before mid now first second took part = part
on_second (Err e) before mid now first second took part = part_of_second before mid now first second took part

-- the texts of some pieces: of those before a place, of the piece there, and of those after it
parts : {X : Type 0} (f : X → List ℕ) (xs : List X) (k : ℕ) (d : X) → k < length xs → flat_map f xs ≡ flat_map f (take k xs) ++ (f (get_or xs k d) ++ flat_map f (drop (suc k) xs))
parts f xs k d within =
    ap (flat_map f) (sym (take-append-drop k xs)) ∙ flat_map-append f (take k xs) (drop k xs)
    ∙ ap (λ (l : List ℕ). flat_map f (take k xs) ++ l) (ap (flat_map f) (drop-cons xs k d within) ∙ flat_map-cons f (get_or xs k d) (drop (suc k) xs))

-- a piece that fails, where all before it were handed over
pub part_of_pieces : {X : Type 0} (f : X → List ℕ) (xs : List X) (k : ℕ) (d : X) (before mid now : Option (List ℕ)) → k < length xs → Took before mid (flat_map f (take k xs)) → TookPart mid now (f (get_or xs k d))
    → TookPart before now (flat_map f xs)
part_of_pieces f xs k d before mid now within took part =
    let rest = flat_map f (drop (suc k) xs) in
    let whole : TookPart before now (flat_map f (take k xs) ++ (f (get_or xs k d) ++ rest)) = part_of_second before mid now (flat_map f (take k xs)) (f (get_or xs k d) ++ rest) took (part_of_first mid now (f (get_or xs k d)) rest part) in
    subst (TookPart before now) (sym (parts f xs k d within)) whole

-- what holds anyway holds of a fault
pub on_fault : {T E P : Type 0} (result : Result T E) → P → OnErr result P
on_fault (Ok x) holds = tt
on_fault (Err e) holds = holds

pub on_both : {T E : Type 0} (result : Result T E) (before mid now : Option (List ℕ)) (first second : List ℕ) → Took before mid first → OnOk result (Took mid now second) → OnOk result (Took before now (first ++ second))
on_both (Ok x) before mid now first second took more = Took-then before mid now first second took more
on_both (Err e) before mid now first second took more = tt

-- ---- names and lines

-- what a buffer holds once all of a name that is shown was put there
pub name_put : (name buffer : List ℕ) (place count : ℕ) → take place buffer ≡ map printable (take place name) → length (take count name) ≤ place → place ≤ length (take count name) → count ≡ min (length name) 64 → take count buffer ≡ name_text name
name_put name buffer place count put above below is =
    let all : place ≡ count = omega (arith, above, below, is, length-take count name) in
    let shown : take count name ≡ take 64 name = ap (λ (n : ℕ). take n name) (let e : count ≡ min 64 (length name) = omega (arith, is) in e) ∙ take_min 64 name in
    ap (λ (n : ℕ). take n buffer) (sym all) ∙ put ∙ ap (λ (n : ℕ). map printable (take n name)) all ∙ ap (map printable) shown

-- the texts of a line's pieces
pub texts_are : (pieces shown : List Piece) (texts : List (List ℕ)) → shown ≡ pieces → map piece_text pieces ≡ texts → flat_map piece_text shown ≡ flat_map (λ (t : List ℕ). t) texts
texts_are pieces shown texts same is = ap (flat_map piece_text) same ∙ sym (flat_map-map (λ (t : List ℕ). t) piece_text pieces) ∙ ap (flat_map (λ (t : List ℕ). t)) is

-- a line with pieces
pub some_text : (pieces : List Piece) (texts : List (List ℕ)) → map piece_text pieces ≡ texts → (length pieces == 0) ≡ false → (codes "qccd: " ++ flat_map (λ (t : List ℕ). t) texts) ++ codes "\n" ≡ line_text texts
some_text [] texts is some = absurd (true≢false some)
some_text (piece ∷ pieces) texts is some = subst (λ (l : List (List ℕ)). (codes "qccd: " ++ flat_map (λ (t : List ℕ). t) l) ++ codes "\n" ≡ line_text l) is refl
