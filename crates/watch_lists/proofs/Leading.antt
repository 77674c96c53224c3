-- Chains and the lists that they are: a link is taken out, put first, and found.
use Rattle.std.proofs.Common.{◌≡◌, ℕ, zero, suc, ◌+◌, ◌<◌, ◌≤◌, ◌⊎◌, inl, inr, List, [], ◌∷◌, ◌++◌, map, length, get_or, set, replicate, slice_get, Some, None, refl, sym, ap, ◌∙◌, subst, arith, length-set}
use Rattle.std.specs.Prelude.{Option, if◌then◌else◌}
use Rattle.std.proofs.lemmas.List.{get_or-set_same, get_or-set_other, get_or-map, ext_get_or, length-map, length-append, length-replicate, append_assoc}
use Rattle.std.proofs.lemmas.Bool.Decides.{eqb_tells}
use Rattle.std.specs.Option.{IfSome}
use Rattle.watch_lists.proofs.Rows.{some_is}
use Rattle.watch_lists.specs.Chains.{IsIn, without, count_in, Leads, AreChains, follow, lists_in}

-- ---- a link in a list
pub in-right : (l : ℕ) (us vs : List ℕ) → IsIn l vs → IsIn l (us ++ vs)
in-right l [] vs h = h
in-right l (u ∷ us) vs h = inr (in-right l us vs h)

pub in-left : (l : ℕ) (us vs : List ℕ) → IsIn l us → IsIn l (us ++ vs)
in-left l [] vs h = absurd h
in-left l (u ∷ us) vs (inl e) = inl e
in-left l (u ∷ us) vs (inr h) = inr (in-left l us vs h)

pub in-middle : (l : ℕ) (us vs : List ℕ) → IsIn l (us ++ l ∷ vs)
in-middle l us vs = in-right l us (l ∷ vs) (inl refl)

pub in-either : (l : ℕ) (us vs : List ℕ) → IsIn l (us ++ vs) → IsIn l us ⊎ IsIn l vs
in-either l [] vs h = inr h
in-either l (u ∷ us) vs (inl e) = inl (inl e)
in-either l (u ∷ us) vs (inr h) = elim (in-either l us vs h) [ inl a ↦ inl (inr a) | inr b ↦ inr b ]

-- the list around a link
pub around : (l : ℕ) (xs : List ℕ) → IsIn l xs → (us : List ℕ) × ((vs : List ℕ) × (xs ≡ us ++ l ∷ vs))
around l [] h = absurd h
around l (x ∷ xs) (inl e) = ([], (xs, ap (λ k. k ∷ xs) e))
around l (x ∷ xs) (inr h) = let on = around l xs h in (x ∷ on.0, (on.1.0, ap (λ r. x ∷ r) on.1.1))

pub without_out : (l : ℕ) (xs : List ℕ) → (IsIn l xs → ⊥) → without l xs ≡ xs
without_out l [] out = refl
without_out l (x ∷ xs) out = elim (eqb_tells x l) [
  | inl h ↦ absurd (out (inl h.1))
  | inr h ↦ ap (λ b. if b then without l xs else x ∷ without l xs) h.0 ∙ ap (λ r. x ∷ r) (without_out l xs (λ a. out (inr a)))
]

pub without_middle : (l : ℕ) (us vs : List ℕ) → (IsIn l us → ⊥) → (IsIn l vs → ⊥) → without l (us ++ l ∷ vs) ≡ us ++ vs
without_middle l [] vs before after = elim (eqb_tells l l) [
  | inl h ↦ ap (λ b. if b then without l vs else l ∷ without l vs) h.0 ∙ without_out l vs after
  | inr h ↦ absurd (h.1 refl)
]
without_middle l (u ∷ us) vs before after = elim (eqb_tells u l) [
  | inl h ↦ absurd (before (inl h.1))
  | inr h ↦ ap (λ b. if b then without l (us ++ l ∷ vs) else u ∷ without l (us ++ l ∷ vs)) h.0 ∙ ap (λ r. u ∷ r) (without_middle l us vs (λ a. before (inr a)) after)
]

-- ---- one chain
abbrev is_none : Option ℕ → Type 0
is_none None = Unit {0}
is_none (Some x) = ⊥

module _ (S : List (Option ℕ)) where
  pub leads_below : (h : Option ℕ) (xs : List ℕ) (l : ℕ) → Leads S h xs → IsIn l xs → l < length S
  leads_below h [] l c a = absurd a
  leads_below h (x ∷ xs) l c (inl e) = subst (λ k. k < length S) e c.1
  leads_below h (x ∷ xs) l c (inr a) = leads_below (get_or S x None) xs l c.2 a

  pub leads_same : (h : Option ℕ) (xs ys : List ℕ) → Leads S h xs → Leads S h ys → xs ≡ ys
  leads_same h [] [] c d = refl
  leads_same h [] (y ∷ ys) c d = absurd (subst is_none (sym c ∙ d.0) tt)
  leads_same h (x ∷ xs) [] c d = absurd (subst is_none (sym d ∙ c.0) tt)
  leads_same h (x ∷ xs) (y ∷ ys) c d =
      let same : x ≡ y = some_is x y (sym c.0 ∙ d.0) in
      let rest = leads_same (get_or S x None) xs ys c.2 (subst (λ k. Leads S (get_or S k None) ys) (sym same) d.2) in
      λ i. same i ∷ rest i

  -- from a link in the chain on, the rest is its chain
  pub leads_at : (h : Option ℕ) (us vs : List ℕ) (l : ℕ) → Leads S h (us ++ l ∷ vs) → Leads S (Some l) (l ∷ vs)
  leads_at h [] vs l c = (refl, c.1, c.2)
  leads_at h (u ∷ us) vs l c = leads_at (get_or S u None) us vs l c.2

  pub not_after : (h : Option ℕ) (us vs : List ℕ) (l : ℕ) → Leads S h (us ++ l ∷ vs) → IsIn l vs → ⊥
  not_after h us vs l c a =
      let s = around l vs a in
      let whole = leads_at h us vs l c in
      let again : Leads S (Some l) (l ∷ s.1.0) = leads_at (Some l) (l ∷ s.0) s.1.0 l (subst (λ r. Leads S (Some l) (l ∷ r)) s.1.1 whole) in
      let same = leads_same (Some l) (l ∷ vs) (l ∷ s.1.0) whole again in
      absurd (omega (arith, ap length same, ap length s.1.1, length-append s.0 (l ∷ s.1.0)))

  pub not_before : (h : Option ℕ) (us vs : List ℕ) (l : ℕ) → Leads S h (us ++ l ∷ vs) → IsIn l us → ⊥
  not_before h us vs l c a =
      let s = around l us a in
      let cut : us ++ l ∷ vs ≡ s.0 ++ l ∷ (s.1.0 ++ l ∷ vs) = ap (λ r. r ++ l ∷ vs) s.1.1 ∙ append_assoc s.0 (l ∷ s.1.0) (l ∷ vs) in
      not_after h s.0 (s.1.0 ++ l ∷ vs) l (subst (Leads S h) cut c) (in-middle l s.1.0 vs)

  -- the chain within as many links as there are
  pub follow_is : (h : Option ℕ) (xs : List ℕ) (n : ℕ) → Leads S h xs → length xs ≤ n → follow S n h ≡ xs
  follow_is h [] n c le = ap (follow S n) c ∙ nowhere n
    where
      nowhere : (n : ℕ) → follow S n None ≡ []
      nowhere zero = refl
      nowhere (suc n) = refl
  follow_is h (x ∷ xs) zero c le = absurd (omega arith)
  follow_is h (x ∷ xs) (suc n) c le = ap (follow S (suc n)) c.0 ∙ ap (λ r. x ∷ r) (follow_is (get_or S x None) xs n c.2 (omega arith))

-- a chain stays where the followers of its links stay
pub leads_stay : (S T : List (Option ℕ)) (h : Option ℕ) (xs : List ℕ) → length S ≤ length T → ((l : ℕ) → l < length S → IsIn l xs → get_or T l None ≡ get_or S l None) → Leads S h xs → Leads T h xs
leads_stay S T h [] le same c = c
leads_stay S T h (x ∷ xs) le same c =
    (c.0, omega (arith, c.1), leads_stay S T (get_or T x None) xs le (λ l lt a. same l lt (inr a)) (subst (λ k. Leads S k xs) (sym (same x c.1 (inl refl))) c.2))

-- the link after the one before it is passed over
pub leads_past : (S : List (Option ℕ)) (h : Option ℕ) (us vs : List ℕ) (b l : ℕ) → Leads S h (us ++ b ∷ l ∷ vs) → (IsIn b us → ⊥) → (IsIn b vs → ⊥) → Leads (set S b (get_or S l None)) h (us ++ b ∷ vs)
leads_past S h [] vs b l c before after =
    let T = set S b (get_or S l None) in let long = length-set S b (get_or S l None) in
    let here : get_or T b None ≡ get_or S l None = get_or-set_same S b (get_or S l None) None c.1 in (
      c.0,
      omega (arith, c.1, long),
      subst (λ k. Leads T k vs) (sym here)
          (leads_stay S T (get_or S l None) vs (omega (arith, long)) (λ k lt a. get_or-set_other S b k (get_or S l None) None (λ e. after (subst (λ m. IsIn m vs) e a))) c.2.2),
    )
leads_past S h (u ∷ us) vs b l c before after =
    let T = set S b (get_or S l None) in let long = length-set S b (get_or S l None) in
    let here : get_or T u None ≡ get_or S u None = get_or-set_other S b u (get_or S l None) None (λ e. before (inl e)) in
    (c.0, omega (arith, c.1, long), subst (λ k. Leads T k (us ++ b ∷ vs)) (sym here) (leads_past S (get_or S u None) us vs b l c.2 (λ a. before (inr a)) after))

pub leads_first : (S : List (Option ℕ)) (h : Option ℕ) (xs : List ℕ) → Leads S h xs → h ≡ slice_get xs 0
leads_first S h [] c = c
leads_first S h (x ∷ xs) c = c.0

pub leads_small : (S : List (Option ℕ)) (h : Option ℕ) (xs : List ℕ) (n : ℕ) → Leads S h xs → length S ≤ n → IfSome h (λ l. l < n)
leads_small S None xs n c le = tt
leads_small S (Some l) [] n c le = absurd (subst is_none (sym c) tt)
leads_small S (Some l) (x ∷ xs) n c le = let same : l ≡ x = some_is l x c.0 in omega (arith, c.1, le)

-- ---- how many links are in the lists
pub count_at : (L : List (List ℕ)) (at : ℕ) → length (get_or L at []) ≤ count_in L
count_at [] at = omega arith
count_at (xs ∷ L) zero = omega arith
count_at (xs ∷ L) (suc at) = omega (arith, count_at L at)

pub count_set : (L : List (List ℕ)) (at : ℕ) (ys : List ℕ) → at < length L → count_in (set L at ys) + length (get_or L at []) ≡ count_in L + length ys
count_set [] at ys lt = absurd (omega arith)
count_set (xs ∷ L) zero ys lt = omega arith
count_set (xs ∷ L) (suc at) ys lt = omega (arith, count_set L at ys (omega arith))

pub count_padded : (L : List (List ℕ)) (n : ℕ) → count_in (L ++ replicate n []) ≡ count_in L
count_padded [] zero = refl
count_padded [] (suc n) = omega (arith, count_padded [] n)
count_padded (xs ∷ L) n = ap (λ k. length xs + k) (count_padded L n)

-- ---- items past the end are the default one
none_in : {X : Type 0} (n at : ℕ) (d : X) → get_or (replicate n d) at d ≡ d
none_in zero at d = refl
none_in (suc n) zero d = refl
none_in (suc n) (suc at) d = none_in n at d

pub padded : {X : Type 0} (xs : List X) (n at : ℕ) (d : X) → get_or (xs ++ replicate n d) at d ≡ get_or xs at d
padded [] n at d = none_in n at d
padded (x ∷ xs) n zero d = refl
padded (x ∷ xs) n (suc at) d = padded xs n at d

-- ---- the chains of lists
module _ (H S : List (Option ℕ)) (L : List (List ℕ)) (c : AreChains H S L) where
  pub lists_are : count_in L ≤ length S → lists_in H S ≡ L
  lists_are le =
      let n = length S in let f = follow S n in
      ext_get_or [] (map f H) L (length-map H f ∙ sym c.rows) (λ at lt.
      get_or-map f H at None [] (omega (arith, lt, length-map H f)) ∙ follow_is S (get_or H at None) (get_or L at []) n (c.leads at) (omega (arith, le, count_at L at)))

  pub rows_added : (n : ℕ) → AreChains (H ++ replicate n None) S (L ++ replicate n [])
  rows_added n = let none : Option ℕ = None in let empty : List ℕ = [] in record {
    rows = length-append L (replicate n empty) ∙ ap (λ k. length L + k) (length-replicate n empty) ∙ ap (λ k. k + n) c.rows ∙ sym (length-append H (replicate n none) ∙ ap (λ k. length H + k) (length-replicate n none));
    leads = λ at. subst (λ (r : Option ℕ × List ℕ). Leads S r.0 r.1) (λ i. (sym (padded H n at none) i, sym (padded L n at empty) i)) (c.leads at);
    apart = λ at other l a b. c.apart at other l (subst (IsIn l) (padded L n at empty) a) (subst (IsIn l) (padded L n other empty) b);
  }

  pub links_added : (n : ℕ) → AreChains H (S ++ replicate n None) L
  links_added n = let none : Option ℕ = None in record {
    rows = c.rows;
    leads = λ at. leads_stay S (S ++ replicate n none) (get_or H at None) (get_or L at []) (omega (arith, length-append S (replicate n none))) (λ l lt a. padded S n l none) (c.leads at);
    apart = c.apart;
  }

  -- lists of which one has lost links keep apart
  fewer : (at : ℕ) (ys : List ℕ) → at < length L → ((l : ℕ) → IsIn l ys → IsIn l (get_or L at [])) → (i : ℕ) (l : ℕ) → IsIn l (get_or (set L at ys) i []) → IsIn l (get_or L i [])
  fewer at ys lt sub i l a = elim (eqb_tells i at) [
    | inl h ↦ subst (λ k. IsIn l (get_or L k [])) (sym h.1) (sub l (subst (IsIn l) (ap (λ k. get_or (set L at ys) k []) h.1 ∙ get_or-set_same L at ys [] lt) a))
    | inr h ↦ subst (IsIn l) (get_or-set_other L at i ys [] h.1) a
  ]

  module _ (at : ℕ) (lt : at < length L) (l : ℕ) where
    pub first_out : (vs : List ℕ) → get_or L at [] ≡ l ∷ vs → AreChains (set H at (get_or S l None)) S (set L at vs)
    first_out vs e =
        let h = get_or S l None in let inside : at < length H = omega (arith, lt, c.rows) in
        let chain : Leads S (get_or H at None) (l ∷ vs) = subst (Leads S (get_or H at None)) e (c.leads at) in
        let sub : (k : ℕ) → IsIn k vs → IsIn k (get_or L at []) = λ k a. subst (IsIn k) (sym e) (inr a) in
        record {
          rows = length-set L at vs ∙ c.rows ∙ sym (length-set H at h);
          leads = λ i. elim (eqb_tells i at) [
            | inl s ↦ subst (λ k. Leads S (get_or (set H at h) k None) (get_or (set L at vs) k [])) (sym s.1)
                (subst (λ (r : Option ℕ × List ℕ). Leads S r.0 r.1) (λ j. (sym (get_or-set_same H at h None inside) j, sym (get_or-set_same L at vs [] lt) j)) chain.2)
            | inr s ↦ subst (λ (r : Option ℕ × List ℕ). Leads S r.0 r.1) (λ j. (sym (get_or-set_other H at i h None s.1) j, sym (get_or-set_other L at i vs [] s.1) j)) (c.leads i)
          ];
          apart = λ i j k a b. c.apart i j k (fewer at vs lt sub i k a) (fewer at vs lt sub j k b);
        }

    pub after_out : (us vs : List ℕ) (b : ℕ) → get_or L at [] ≡ us ++ b ∷ l ∷ vs → AreChains H (set S b (get_or S l None)) (set L at (us ++ b ∷ vs))
    after_out us vs b e =
        let T = set S b (get_or S l None) in let ys = us ++ b ∷ vs in
        let chain : Leads S (get_or H at None) (us ++ b ∷ l ∷ vs) = subst (Leads S (get_or H at None)) e (c.leads at) in
        let here : IsIn b (get_or L at []) = subst (IsIn b) (sym e) (in-middle b us (l ∷ vs)) in
        let sub : (k : ℕ) → IsIn k ys → IsIn k (get_or L at []) = λ k a. subst (IsIn k) (sym e) (elim (in-either k us (b ∷ vs) a) [
          | inl f ↦ in-left k us (b ∷ l ∷ vs) f
          | inr g ↦ in-right k us (b ∷ l ∷ vs) (elim g [ inl same ↦ inl same | inr more ↦ inr (inr more) ])
        ]) in
        record {
          rows = length-set L at ys ∙ c.rows;
          leads = λ i. elim (eqb_tells i at) [
            | inl s ↦ subst (λ k. Leads T (get_or H k None) (get_or (set L at ys) k [])) (sym s.1)
                (subst (Leads T (get_or H at None)) (sym (get_or-set_same L at ys [] lt))
                (leads_past S (get_or H at None) us vs b l chain (not_before S (get_or H at None) us (l ∷ vs) b chain) (λ a. not_after S (get_or H at None) us (l ∷ vs) b chain (inr a))))
            | inr s ↦ subst (Leads T (get_or H i None)) (sym (get_or-set_other L at i ys [] s.1))
                (leads_stay S T (get_or H i None) (get_or L i []) (omega (arith, length-set S b (get_or S l None)))
                (λ k kt a. get_or-set_other S b k (get_or S l None) None (λ same. s.1 (c.apart i at k a (subst (λ m. IsIn m (get_or L at [])) (sym same) here)))) (c.leads i))
          ];
          apart = λ i j k a d. c.apart i j k (fewer at ys lt sub i k a) (fewer at ys lt sub j k d);
        }

    pub put : l < length S → ((other : ℕ) → IsIn l (get_or L other []) → ⊥) → AreChains (set H at (Some l)) (set S l (get_or H at None)) (set L at (l ∷ get_or L at []))
    put small free =
        let inside : at < length H = omega (arith, lt, c.rows) in let h : Option ℕ = Some l in
        let T = set S l (get_or H at None) in let ys = l ∷ get_or L at [] in
        let stay : (i : ℕ) → Leads T (get_or H i None) (get_or L i []) = λ i.
        leads_stay S T (get_or H i None) (get_or L i []) (omega (arith, length-set S l (get_or H at None)))
        (λ k kt a. get_or-set_other S l k (get_or H at None) None (λ same. free i (subst (λ m. IsIn m (get_or L i [])) same a))) (c.leads i) in
        -- a link of the new lists is l in the one list, or was there
        let was : (i k : ℕ) → IsIn k (get_or (set L at ys) i []) → ((i ≡ at) × (k ≡ l)) ⊎ IsIn k (get_or L i []) = λ i k a. elim (eqb_tells i at) [
          | inl s ↦ let b : IsIn k (l ∷ get_or L at []) = subst (IsIn k) (ap (λ m. get_or (set L at ys) m []) s.1 ∙ get_or-set_same L at ys [] lt) a in
              elim b [ inl same ↦ inl (s.1, sym same) | inr old ↦ inr (subst (λ m. IsIn k (get_or L m [])) (sym s.1) old) ]
          | inr s ↦ inr (subst (IsIn k) (get_or-set_other L at i ys [] s.1) a)
        ] in
        record {
          rows = length-set L at ys ∙ c.rows ∙ sym (length-set H at h);
          leads = λ i. elim (eqb_tells i at) [
            | inl s ↦ subst (λ k. Leads T (get_or (set H at h) k None) (get_or (set L at ys) k [])) (sym s.1)
                (subst (λ (r : Option ℕ × List ℕ). Leads T r.0 r.1) (λ j. (sym (get_or-set_same H at h None inside) j, sym (get_or-set_same L at ys [] lt) j))
                (refl, omega (arith, small, length-set S l (get_or H at None)), subst (λ k. Leads T k (get_or L at [])) (sym (get_or-set_same S l (get_or H at None) None small)) (stay at)))
            | inr s ↦ subst (λ (r : Option ℕ × List ℕ). Leads T r.0 r.1) (λ j. (sym (get_or-set_other H at i h None s.1) j, sym (get_or-set_other L at i ys [] s.1) j)) (stay i)
          ];
          apart = λ i j k a b. elim (was i k a) [
            | inl one ↦ elim (was j k b) [ inl two ↦ one.0 ∙ sym two.0 | inr two ↦ absurd (free j (subst (λ m. IsIn m (get_or L j [])) one.1 two)) ]
            | inr one ↦ elim (was j k b) [ inl two ↦ absurd (free i (subst (λ m. IsIn m (get_or L i [])) two.1 one)) | inr two ↦ c.apart i j k one two ]
          ];
        }
