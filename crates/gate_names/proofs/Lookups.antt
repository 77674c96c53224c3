-- Look-ups in maps, seen through another form of their keys.
use Rattle.std.proofs.Common.{◌≡◌, ℕ, List, [], ◌∷◌, ◌++◌, Bool, cond, Some, None, refl, ap, sym, ◌∙◌, map}
use Rattle.std.specs.Map.{lookup}
use Rattle.std.specs.Str.{bytes_eq}
use Rattle.std.proofs.lemmas.List.{map-append}
use Rattle.indexmap.specs.IndexMap.{IndexMap, insert_entry}
use Rattle.indexmap.proofs.CallerLemmas.{insert_entry-new}

-- the keys seen through a function
pub lookup_map : {K X L : Type 0} (see : K → L) (test : L → Bool) (es : List (K × X)) →
    lookup test (map (λ e. (see e.0, e.1)) es) ≡ lookup (λ k. test (see k)) es
lookup_map see test [] = refl
lookup_map see test (e ∷ es) = ap (λ rest. cond (test (see e.0)) (Some e.1) rest) (lookup_map see test es)

-- a name that was looked up
pub looked_up : {K X : Type 0} (see : K → List ℕ) (es : List (K × X)) (name other : List ℕ) (seen : List (List ℕ × X))
    → other ≡ name → map (λ e. (see e.0, e.1)) es ≡ seen → lookup (λ k. bytes_eq other (see k)) es ≡ lookup (bytes_eq name) seen
looked_up see es name other seen same is =
    ap (λ n. lookup (λ k. bytes_eq n (see k)) es) same ∙ sym (lookup_map see (bytes_eq name) es) ∙ ap (lookup (bytes_eq name)) is

-- a name that was not there goes last
pub declared_last : {K X S : Type 0} (see : K → List ℕ) (m : IndexMap K X S) (k : K) (v : X) (name : List ℕ) (seen : List (List ℕ × X))
    → see k ≡ name → map (λ e. (see e.0, e.1)) m.entries ≡ seen → lookup (bytes_eq name) seen ≡ None
    → map (λ e. (see e.0, e.1)) (insert_entry (λ x y. bytes_eq (see x) (see y)) m.entries k v) ≡ seen ++ (name, v) ∷ []
declared_last see m k v name seen same is none =
    ap (map (λ e. (see e.0, e.1))) (insert_entry-new (λ x y. bytes_eq (see x) (see y)) m k v (looked_up see m.entries name (see k) seen same is ∙ none))
    ∙ map-append (λ e. (see e.0, e.1)) m.entries ((k, v) ∷ [])
    ∙ (λ i. is i ++ (same i, v) ∷ [])
