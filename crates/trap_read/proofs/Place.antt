-- The tests of the table `place` by a set of names.
use Rattle.std.proofs.Common.{◌≡◌, ◌||◌, ℕ, Bool, true, false, cond, List, Bor, refl, ap, ◌∙◌}
use Rattle.std.specs.Str.{bytes_eq}
use Rattle.std.specs.Ordering.{nat_cmp}
use Rattle.std.specs.Cmp.Lexicographic.{slice_cmp}
use Rattle.std.specs.BTreeMap.{is_at}
use Rattle.std.specs.BTreeSet.{BTreeSet, contains}
use Rattle.std.proofs.lemmas.Map.Text.{is_eq-slice_cmp}
use Rattle.toml.specs.Data.{Members, no_members, member}
use Rattle.trap_read.specs.Labels.{keys_pass, has_name}

pub keys_pass-same : (p q : List ℕ → Bool) → ((name : List ℕ) → p name ≡ q name) → (members : Members) → keys_pass p members ≡ keys_pass q members
keys_pass-same p q same no_members = refl
keys_pass-same p q same (member key value members) = rw (same key, keys_pass-same p q same members)

cond_or : (b x : Bool) → cond b true x ≡ (x || b)
cond_or true true = refl
cond_or true false = refl
cond_or false true = refl
cond_or false false = refl

-- after a name is added the set has it, and the names that it had
pub has_name-added : (key : List ℕ) (old new : BTreeSet (Bor (List ℕ)))
    → ((q : Bor (List ℕ)) → contains (λ x y. slice_cmp nat_cmp x.now y.now) new q ≡ cond (is_at (λ known. slice_cmp nat_cmp key known.now) q) true (contains (λ x y. slice_cmp nat_cmp x.now y.now) old q))
    → (name : List ℕ) → has_name new name ≡ (has_name old name || bytes_eq key name)
unfolding has_name
has_name-added key old new added name =
    added (record { ref_ptr = (0, 0); now = name }) ∙ ap (λ b. cond b true (has_name old name)) (is_eq-slice_cmp key name) ∙ cond_or (bytes_eq key name) (has_name old name)
