-- What each call makes of the chains and of the lists that they are.
use Rattle.std.proofs.Common.{◌≡◌, ℕ, ◌+◌, ◌-◌, ◌<◌, ◌≤◌, ◌^◌, inl, inr, List, [], ◌∷◌, ◌++◌, length, get_or, set, take, drop, replicate, Some, None, refl, sym, ap, ◌∙◌, subst, arith, length-set}
use Rattle.std.specs.Prelude.{Option, if◌then◌else◌}
use Rattle.std.proofs.lemmas.Bool.Decides.{eqb_tells}
use Rattle.std.proofs.Math.Seq.{take-append_seam}
use Rattle.std.specs.Option.{IfSome}
use Rattle.std.proofs.lemmas.List.{get_or-set_same, get_or-set_other, length-append, append_assoc}
use Rattle.watch_lists.specs.Chains.{Chained, OccurOnce, IsIn, without, Follows, count_in, Leads, AreChains, lists_in}
use Rattle.watch_lists.proofs.Leading.{around, leads_same, in-right, in-middle, leads_below, leads_at, leads_small, not_before, not_after, without_middle, count_set, count_padded, lists_are, rows_added, links_added, first_out, after_out, put}

abbrev pub Kept : List (Option ℕ) → List (Option ℕ) → Type 0
Kept H S = AreChains H S (lists_in H S) × (count_in (lists_in H S) ≤ length S) × (length S < 2 ^ 60)

settled : (H S : List (Option ℕ)) (L : List (List ℕ)) → AreChains H S L → count_in L ≤ length S → length S < 2 ^ 60 → Kept H S × (lists_in H S ≡ L)
settled H S L c le small = let e = lists_are H S L c le in (subst (λ M. AreChains H S M × (count_in M ≤ length S) × (length S < 2 ^ 60)) (sym e) (c, le, small), e)

module _ (H S : List (Option ℕ)) (k : Kept H S) where
  abbrev L : List (List ℕ)
  L = lists_in H S

  pub rows_kept : (n : ℕ) → Kept (H ++ replicate n None) S × (lists_in (H ++ replicate n None) S ≡ L ++ replicate n [])
  rows_kept n = let none : Option ℕ = None in let empty : List ℕ = [] in
      settled (H ++ replicate n none) S (L ++ replicate n empty) (rows_added H S L k.0 n) (omega (arith, k.1, count_padded L n)) k.2

  pub links_kept : (n : ℕ) → length (S ++ replicate n None) < 2 ^ 60 → Kept H (S ++ replicate n None) × (lists_in H (S ++ replicate n None) ≡ L)
  links_kept n small = let none : Option ℕ = None in
      settled H (S ++ replicate n none) L (links_added H S L k.0 n) (omega (arith, k.1, length-append S (replicate n none))) small

  pub next_is : (at l : ℕ) (us vs : List ℕ) → get_or L at [] ≡ us ++ l ∷ vs → Leads S (get_or S l None) vs
  next_is at l us vs e = (leads_at S (get_or H at None) us vs l (subst (Leads S (get_or H at None)) e (k.0.leads at))).2

  module _ (at : ℕ) (l : ℕ) where
    -- where a link comes after another or first, both are links, and so is what follows it
    pub link_below : (before : Option ℕ) → Follows before l (get_or L at []) → l < length S
    link_below None there = leads_below S (get_or H at None) (get_or L at []) l (k.0.leads at) (subst (IsIn l) (sym there.1) (inl refl))
    link_below (Some b) there = leads_below S (get_or H at None) (get_or L at []) l (k.0.leads at) (subst (IsIn l) (sym there.1.1) (in-right l there.0 (b ∷ l ∷ there.1.0) (inr (inl refl))))

    pub before_below : (b : ℕ) → Follows (Some b) l (get_or L at []) → b < length S
    before_below b there = leads_below S (get_or H at None) (get_or L at []) b (k.0.leads at) (subst (IsIn b) (sym there.1.1) (in-middle b there.0 (l ∷ there.1.0)))

    pub next_small : (before : Option ℕ) → Follows before l (get_or L at []) → IfSome (get_or S l None) (λ n. n < 2 ^ 64 - 1)
    next_small None there = leads_small S (get_or S l None) there.0 (2 ^ 64 - 1) (next_is at l [] there.0 there.1) (omega (arith, k.2))
    next_small (Some b) there = leads_small S (get_or S l None) there.1.0 (2 ^ 64 - 1)
        (next_is at l (there.0 ++ b ∷ []) there.1.0 (there.1.1 ∙ sym (append_assoc there.0 (b ∷ []) (l ∷ there.1.0)))) (omega (arith, k.2))

  module _ (at : ℕ) (lt : at < length L) (l : ℕ) where
    pub put_kept : l < length S → ((other : ℕ) → IsIn l (get_or L other []) → ⊥) → count_in L < length S
        → Kept (set H at (Some l)) (set S l (get_or H at None)) × (lists_in (set H at (Some l)) (set S l (get_or H at None)) ≡ set L at (l ∷ get_or L at []))
    put_kept small free room =
        let long = length-set S l (get_or H at None) in
        settled (set H at (Some l)) (set S l (get_or H at None)) (set L at (l ∷ get_or L at [])) (put H S L k.0 at lt l small free)
        (omega (arith, room, long, count_set L at (l ∷ get_or L at []) lt)) (omega (arith, long, k.2))

    pub first_kept : Follows None l (get_or L at []) → Kept (set H at (get_or S l None)) S × (lists_in (set H at (get_or S l None)) S ≡ set L at (without l (get_or L at [])))
    first_kept there =
        let vs = there.0 in let h = get_or H at None in
        let chain : Leads S h (l ∷ vs) = subst (Leads S h) there.1 (k.0.leads at) in
        let less : without l (get_or L at []) ≡ vs = ap (without l) there.1 ∙ without_middle l [] vs (not_before S h [] vs l chain) (not_after S h [] vs l chain) in
        let all = settled (set H at (get_or S l None)) S (set L at vs) (first_out H S L k.0 at lt l vs there.1) (omega (arith, k.1, ap length there.1, count_set L at vs lt)) k.2 in
        (all.0, all.1 ∙ ap (set L at) (sym less))

    pub after_kept : (b : ℕ) → Follows (Some b) l (get_or L at []) → Kept H (set S b (get_or S l None)) × (lists_in H (set S b (get_or S l None)) ≡ set L at (without l (get_or L at [])))
    after_kept b there =
        let us = there.0 in let vs = there.1.0 in let h = get_or H at None in let e = there.1.1 in
        let chain : Leads S h (us ++ b ∷ l ∷ vs) = subst (Leads S h) e (k.0.leads at) in
        let split : us ++ b ∷ l ∷ vs ≡ (us ++ b ∷ []) ++ l ∷ vs = sym (append_assoc us (b ∷ []) (l ∷ vs)) in
        let whole : Leads S h ((us ++ b ∷ []) ++ l ∷ vs) = subst (Leads S h) split chain in
        let less : without l (get_or L at []) ≡ us ++ b ∷ vs =
        ap (without l) (e ∙ split) ∙ without_middle l (us ++ b ∷ []) vs (not_before S h (us ++ b ∷ []) vs l whole) (not_after S h (us ++ b ∷ []) vs l whole) ∙ append_assoc us (b ∷ []) vs in
        let long = length-set S b (get_or S l None) in
        let all = settled H (set S b (get_or S l None)) (set L at (us ++ b ∷ vs)) (after_out H S L k.0 at lt l us vs b e)
        (omega (arith, k.1, long, ap length e, length-append us (b ∷ l ∷ vs), length-append us (b ∷ vs), count_set L at (us ++ b ∷ vs) lt)) (omega (arith, long, k.2)) in
        (all.0, all.1 ∙ ap (set L at) (sym less))

  pub head_below : (at : ℕ) → IfSome (get_or H at None) (λ l. l < length S)
  head_below at = leads_small S (get_or H at None) (get_or L at []) (length S) (k.0.leads at) (omega arith)

  pub next_below : (at l : ℕ) (us vs : List ℕ) → get_or L at [] ≡ us ++ l ∷ vs → IfSome (get_or S l None) (λ n. n < length S)
  next_below at l us vs e = leads_small S (get_or S l None) vs (length S) (next_is at l us vs e) (omega arith)

  pub head_small : (at : ℕ) → IfSome (get_or H at None) (λ n. n < 2 ^ 64 - 1)
  head_small at = leads_small S (get_or H at None) (get_or L at []) (2 ^ 64 - 1) (k.0.leads at) (omega (arith, k.2))

-- ---- the same, as callers see it
abbrev pub seen : List (Option ℕ) → List (Option ℕ) → Chained
seen H S = record { lists = lists_in H S; links = length S }

-- the chains are kept, and are seen as these
abbrev pub Becomes : List (Option ℕ) → List (Option ℕ) → Chained → Type 0
Becomes H S new = Kept H S × (seen H S ≡ new)

module _ (H S : List (Option ℕ)) (k : Kept H S) (now : Chained) (v : seen H S ≡ now) (at l : ℕ) where
  pub put_seen : at < length now.lists → l < now.links → ((other : ℕ) → IsIn l (get_or now.lists other []) → ⊥) → count_in now.lists < now.links
      → Becomes (set H at (Some l)) (set S l (get_or H at None)) (record { lists = set now.lists at (l ∷ get_or now.lists at []); links = now.links })
  put_seen = subst (λ (r : Chained). at < length r.lists → l < r.links → ((other : ℕ) → IsIn l (get_or r.lists other []) → ⊥) → count_in r.lists < r.links
      → Becomes (set H at (Some l)) (set S l (get_or H at None)) (record { lists = set r.lists at (l ∷ get_or r.lists at []); links = r.links })) v
      (λ lt small free room. let all = put_kept H S k at lt l small free room in (all.0, λ i. record { lists = all.1 i; links = length-set S l (get_or H at None) i }))

  abbrev taken : Chained
  taken = record { lists = set now.lists at (without l (get_or now.lists at [])); links = now.links }

  pub first_seen : at < length now.lists → Follows None l (get_or now.lists at []) → Becomes (set H at (get_or S l None)) S taken
  first_seen = subst (λ (r : Chained). at < length r.lists → Follows None l (get_or r.lists at [])
      → Becomes (set H at (get_or S l None)) S (record { lists = set r.lists at (without l (get_or r.lists at [])); links = r.links })) v
      (λ lt there. let all = first_kept H S k at lt l there in (all.0, ap (λ M. record { lists = M; links = length S }) all.1))

  pub after_seen : (b : ℕ) → at < length now.lists → Follows (Some b) l (get_or now.lists at []) → Becomes H (set S b (get_or S l None)) taken
  after_seen b = subst (λ (r : Chained). at < length r.lists → Follows (Some b) l (get_or r.lists at [])
      → Becomes H (set S b (get_or S l None)) (record { lists = set r.lists at (without l (get_or r.lists at [])); links = r.links })) v
      (λ lt there. let all = after_kept H S k at lt l b there in (all.0, λ i. record { lists = all.1 i; links = length-set S b (get_or S l None) i }))

  module _ (before : Option ℕ) (there : Follows before l (get_or now.lists at [])) where
    as_kept : Follows before l (get_or (lists_in H S) at [])
    as_kept = subst (λ (r : Chained). Follows before l (get_or r.lists at [])) (sym v) there

    pub link_seen : l < length S
    link_seen = link_below H S k at l before as_kept

    pub next_seen : (next : Option ℕ) → next ≡ get_or S l None → IfSome next (λ n. n < 2 ^ 64 - 1)
    next_seen next e = subst (λ h. IfSome h (λ n. n < 2 ^ 64 - 1)) (sym e) (next_small H S k at l before as_kept)

  pub before_seen : (b : ℕ) → Follows (Some b) l (get_or now.lists at []) → b < length S
  before_seen b there = before_below H S k at l b (as_kept (Some b) there)

-- ---- no link occurs twice
without_none : (l : ℕ) (xs : List ℕ) → IsIn l (without l xs) → ⊥
without_none l [] a = absurd a
without_none l (x ∷ xs) a = elim (eqb_tells x l) [
  | inl h ↦ without_none l xs (subst (IsIn l) (ap (λ b. if b then without l xs else x ∷ without l xs) h.0) a)
  | inr h ↦ elim (subst (IsIn l) (ap (λ b. if b then without l xs else x ∷ without l xs) h.0) a) [ inl e ↦ absurd (h.1 e) | inr more ↦ without_none l xs more ]
]

pub after_split : (before : Option ℕ) (l : ℕ) (xs : List ℕ) → Follows before l xs → (us : List ℕ) × ((vs : List ℕ) × (xs ≡ us ++ l ∷ vs))
after_split None l xs there = ([], (there.0, there.1))
after_split (Some b) l xs there = (there.0 ++ b ∷ [], (there.1.0, there.1.1 ∙ sym (append_assoc there.0 (b ∷ []) (l ∷ there.1.0))))

pub after_in : (before : Option ℕ) (l : ℕ) (xs : List ℕ) → Follows before l xs → IsIn l xs
after_in before l xs there = let s = after_split before l xs there in subst (IsIn l) (sym s.1.1) (in-middle l s.0 s.1.0)

one_place : (S : List (Option ℕ)) (h : Option ℕ) (xs : List ℕ) (l : ℕ) (us vs ws bs : List ℕ) → Leads S h xs → xs ≡ us ++ l ∷ vs → xs ≡ ws ++ l ∷ bs → (us ≡ ws) × (vs ≡ bs)
one_place S h xs l us vs ws bs c e d =
    let rest = leads_same S (Some l) (l ∷ vs) (l ∷ bs) (leads_at S h us vs l (subst (Leads S h) e c)) (leads_at S h ws bs l (subst (Leads S h) d c)) in
    let long : length us ≡ length ws = omega (arith, ap length rest, ap length e, ap length d, length-append us (l ∷ vs), length-append ws (l ∷ bs)) in
    (sym (take-append_seam us (l ∷ vs)) ∙ ap (take (length us)) (sym e ∙ d) ∙ ap (λ n. take n (ws ++ l ∷ bs)) long ∙ take-append_seam ws (l ∷ bs), ap (drop 1) rest)

module _ (H S : List (Option ℕ)) (k : Kept H S) where
  once_kept : OccurOnce (seen H S)
  once_kept = record {
    below = λ l at a. leads_below S (get_or H at None) (get_or (lists_in H S) at []) l (k.0.leads at) a;
    apart = λ l at other a b. k.0.apart at other l a b;
    once = λ l at us vs ws bs e d. one_place S (get_or H at None) (get_or (lists_in H S) at []) l us vs ws bs (k.0.leads at) e d;
  }

  pub once_seen : (now : Chained) → seen H S ≡ now → OccurOnce now
  once_seen now v = subst OccurOnce v once_kept

-- ---- what is known of lists of which no link occurs twice
module _ (now : Chained) (o : OccurOnce now) where
  pub less : (at l : ℕ) (us vs : List ℕ) → get_or now.lists at [] ≡ us ++ l ∷ vs → without l (get_or now.lists at []) ≡ us ++ vs
  less at l us vs e = ap (without l) e ∙ without_middle l us vs
      (λ a. let s = around l us a in
      let cut : get_or now.lists at [] ≡ s.0 ++ l ∷ (s.1.0 ++ l ∷ vs) = e ∙ ap (λ r. r ++ l ∷ vs) s.1.1 ∙ append_assoc s.0 (l ∷ s.1.0) (l ∷ vs) in
      let two = o.once l at us vs s.0 (s.1.0 ++ l ∷ vs) e cut in absurd (omega (arith, ap length two.1, length-append s.1.0 (l ∷ vs))))
      (λ a. let s = around l vs a in
      let cut : get_or now.lists at [] ≡ (us ++ l ∷ s.0) ++ l ∷ s.1.0 = e ∙ ap (λ r. us ++ l ∷ r) s.1.1 ∙ sym (append_assoc us (l ∷ s.0) (l ∷ s.1.0)) in
      let two = o.once l at us vs (us ++ l ∷ s.0) s.1.0 e cut in absurd (omega (arith, ap length two.0, length-append us (l ∷ s.0))))

  module _ (at l : ℕ) (before : Option ℕ) (there : Follows before l (get_or now.lists at [])) where
    pub link_is : l < now.links
    link_is = o.below l at (after_in before l (get_or now.lists at []) there)

    pub out_free : at < length now.lists → (other : ℕ) → IsIn l (get_or (set now.lists at (without l (get_or now.lists at []))) other []) → ⊥
    out_free lt other a = let ys = without l (get_or now.lists at []) in elim (eqb_tells other at) [
      | inl h ↦ without_none l (get_or now.lists at []) (subst (IsIn l) (ap (λ m. get_or (set now.lists at ys) m []) h.1 ∙ get_or-set_same now.lists at ys [] lt) a)
      | inr h ↦ absurd (h.1 (o.apart l other at (subst (IsIn l) (get_or-set_other now.lists at other ys [] h.1) a) (after_in before l (get_or now.lists at []) there)))
    ]

    pub out_one : at < length now.lists → count_in (set now.lists at (without l (get_or now.lists at []))) + 1 ≡ count_in now.lists
    out_one lt =
        let xs = get_or now.lists at [] in let s = after_split before l xs there in let ys = without l xs in
        let shorter : length ys + 1 ≡ length xs = omega (arith, ap length (less at l s.0 s.1.0 s.1.1), ap length s.1.1, length-append s.0 s.1.0, length-append s.0 (l ∷ s.1.0)) in
        omega (arith, shorter, count_set now.lists at ys lt)
