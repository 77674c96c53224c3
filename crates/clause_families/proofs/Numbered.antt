-- Which items have numbers, and clauses of few claims.
use Rattle.std.proofs.Common.{◌≡◌, ◌≢◌, ℕ, ◌<◌, ◌≤◌, true, Option, Some, None, [], ◌∷◌, refl, arith, inl, inr}
use Rattle.std.specs.Prelude.{IsSome}
use Rattle.std.specs.Option.{option_map}
use Rattle.std.proofs.lemmas.Bool.{cases_lt, lt-ltb, le-ltb}
use Rattle.step_vars.specs.declared.item.Item.{Item}
use Rattle.step_vars.specs.declared.item.Item.TheVariants.{At, Ord, Use, Leave, Swap, Act, Done, Goal}
use Rattle.step_vars.specs.declared.item.Claim.{Claim}
use Rattle.step_vars.specs.Items.{at_item, ord_item, use_item, leave_item, swap_item, act_item, done_item, goal_item, nearer}
use Rattle.step_vars.specs.Numbering.{Numbering, rank, number_of, index_in_block, is_timely}
use Rattle.step_vars.specs.Encoding.{VarsValue}
use Rattle.clause_families.specs.Encoded.{IsEncoded, IsEncodedClause}

mapped_some : (f : ℕ → ℕ) (o : Option ℕ) → IsSome o → IsSome (option_map f o)
mapped_some f None h = h
mapped_some f (Some k) h = refl

number_some : (n : Numbering) (item : Item) → is_timely item ≡ true → IsSome (index_in_block n item) → IsSome (number_of n item)
unfolding number_of
number_some n item timely there = rw timely (mapped_some _ (index_in_block n item) there)

pub has_at : (v : VarsValue) (i p t : ℕ) → i < v.numbering.ions → p < v.numbering.places → t ≤ v.steps → IsEncoded v (at_item i p t)
has_at v i p t hi hp ht = record {
  time = ht;
  number = number_some v.numbering (at_item i p t) refl (rw (lt-ltb i v.numbering.ions hi, lt-ltb p v.numbering.places hp) refl);
}

pub has_ord : (v : VarsValue) (i j t : ℕ) → IsSome (rank v.numbering.pairs i j) → t ≤ v.steps → IsEncoded v (ord_item i j t)
has_ord v i j t h ht = record { time = ht; number = number_some v.numbering (ord_item i j t) refl h }

pub has_use : (v : VarsValue) (c t : ℕ) → c < v.numbering.channels → 0 < t → t ≤ v.steps → IsEncoded v (use_item c t)
has_use v c t hc h0 ht = record {
  time = ht;
  number = number_some v.numbering (use_item c t) (lt-ltb 0 t h0) (rw (lt-ltb c v.numbering.channels hc) refl);
}

pub has_leave : (v : VarsValue) (i c t : ℕ) → i < v.numbering.ions → c < v.numbering.channels → 0 < t → t ≤ v.steps → IsEncoded v (leave_item i c t)
has_leave v i c t hi hc h0 ht = record {
  time = ht;
  number = number_some v.numbering (leave_item i c t) (lt-ltb 0 t h0) (rw (lt-ltb i v.numbering.ions hi, lt-ltb c v.numbering.channels hc) refl);
}

pub has_swap : (v : VarsValue) (i j z t : ℕ) → IsSome (rank v.numbering.pairs i j) → z < v.numbering.zones → 0 < t → t ≤ v.steps → IsEncoded v (swap_item i j z t)
has_swap v i j z t h hz h0 ht = record {
  time = ht;
  number = number_some v.numbering (swap_item i j z t) (lt-ltb 0 t h0) (rw (lt-ltb z v.numbering.zones hz) (mapped_some _ (rank v.numbering.pairs i j) h));
}

pub has_act : (v : VarsValue) (g z t : ℕ) → IsSome (rank v.numbering.acts g z) → 0 < t → t ≤ v.steps → IsEncoded v (act_item g z t)
has_act v g z t h h0 ht = record { time = ht; number = number_some v.numbering (act_item g z t) (lt-ltb 0 t h0) h }

pub has_done : (v : VarsValue) (g t : ℕ) → IsSome (rank v.numbering.ops g 0) → t ≤ v.steps → IsEncoded v (done_item g t)
has_done v g t h ht = record { time = ht; number = number_some v.numbering (done_item g t) refl h }

pub has_goal : (v : VarsValue) (t : ℕ) → t ≤ v.steps → IsEncoded v (goal_item t)
has_goal v t ht = record { time = ht; number = number_some v.numbering (goal_item t) refl refl }

-- ---- numbers of items

-- the ion that an item speaks of, or the first of two
abbrev pub first_number : Item → ℕ
first_number (At i p t) = i.0
first_number (Ord i j t) = i.0
first_number (Use c t) = c
first_number (Leave i c t) = i.0
first_number (Swap i j z t) = i.0
first_number (Act g z t) = g.0
first_number (Done g t) = g.0
first_number (Goal t) = t

-- the place, the second ion, the channel or the zone
abbrev pub second_number : Item → ℕ
second_number (At i p t) = p.0
second_number (Ord i j t) = j.0
second_number (Use c t) = c
second_number (Leave i c t) = c
second_number (Swap i j z t) = j.0
second_number (Act g z t) = z.0
second_number (Done g t) = g.0
second_number (Goal t) = t

-- ---- the order of two ions

apart_below : (i j : ℕ) → j ≤ i → i ≢ j → j < i
apart_below i j h apart = elim (cases_lt j i) [ inl k ↦ k | inr k ↦ absurd (apart (omega arith)) ]

-- the item of the order of two ions, in either direction
pub nearer_item : (v : VarsValue) (i j t : ℕ) → ((a b : ℕ) → a < b → b < v.numbering.ions → IsSome (rank v.numbering.pairs a b)) → i ≢ j → i < v.numbering.ions → j < v.numbering.ions → t ≤ v.steps
    → IsEncoded v (nearer i j t).item
nearer_item v i j t every apart hi hj ht = elim (cases_lt i j) [
  | inl h ↦ rw (lt-ltb i j h) (has_ord v i j t (every i j h hj) ht)
  | inr h ↦ rw (le-ltb i j h) (has_ord v j i t (every j i (apart_below i j h apart) hi) ht)
]

-- ---- clauses of few claims

pub one_claim : (v : VarsValue) (a : Claim) → IsEncoded v a.item → IsEncodedClause v (a ∷ [])
one_claim v a ha = record { items = (ha, tt); differ = (tt, tt) }

pub two_claims : (v : VarsValue) (a b : Claim) → IsEncoded v a.item → IsEncoded v b.item → b.item ≢ a.item → IsEncodedClause v (a ∷ b ∷ [])
two_claims v a b ha hb ba = record { items = (ha, (hb, tt)); differ = ((ba, tt), (tt, tt)) }

pub three_claims : (v : VarsValue) (a b c : Claim) → IsEncoded v a.item → IsEncoded v b.item → IsEncoded v c.item
    → b.item ≢ a.item → c.item ≢ a.item → c.item ≢ b.item → IsEncodedClause v (a ∷ b ∷ c ∷ [])
three_claims v a b c ha hb hc ba ca cb = record { items = (ha, (hb, (hc, tt))); differ = ((ba, (ca, tt)), ((cb, tt), (tt, tt))) }

pub four_claims : (v : VarsValue) (a b c d : Claim) → IsEncoded v a.item → IsEncoded v b.item → IsEncoded v c.item → IsEncoded v d.item
    → b.item ≢ a.item → c.item ≢ a.item → d.item ≢ a.item → c.item ≢ b.item → d.item ≢ b.item → d.item ≢ c.item
    → IsEncodedClause v (a ∷ b ∷ c ∷ d ∷ [])
four_claims v a b c d ha hb hc hd ba ca da cb db dc =
    record { items = (ha, (hb, (hc, (hd, tt)))); differ = ((ba, (ca, (da, tt))), ((cb, (db, tt)), ((dc, tt), (tt, tt)))) }
