-- Readers of lists.
use Rattle.std.proofs.Common.{◌≡◌, ℕ, zero, suc, ◌<◌, ◌≤◌, Bool, true, false, cond, List, [], ◌∷◌, ◌++◌, length, Option, Some, None, refl, sym, ap, ◌∙◌, append_assoc, arith, inl, inr}
use Rattle.std.specs.Option.{option_or}
use Rattle.std.proofs.lemmas.Bool.{cond-true}
use Rattle.std.proofs.lemmas.List.{append-nil}
use Rattle.qasm_tokens.specs.declared.token.PlacedToken.{PlacedToken}
use Rattle.qasm_tokens.specs.declared.token.Token.TheVariants as token
use Rattle.qasm_tokens.specs.declared.token.Sign.{Sign}
use Rattle.qasm_tokens.specs.declared.token.Sign.TheVariants.{Comma, LeftParenthesis, RightParenthesis}
use Rattle.qasm_read.specs.Forms.{Form, ◌▸◌, just, sign, each, commas, parameters}
use Rattle.qasm_read.specs.Reading.{State, Reader, ◌>>=◌, comes, skip_at, with_front, repeat, repeat_at, commas_at, some_in_parentheses, within, parameters_at, made, after_sign, closed}
use Rattle.qasm_read.proofs.Readers.{at, is_sign-same, bind_some, along, or-none, or_assoc, Took, Took-then, Took-not_longer, Reads, anything, one_token, reads_sign, reads_after_sign, reads_closed, Allows}

-- ---- a reader takes a token at least

abbrev pub Shortens : {X : Type 0} → Reader X → Type 0
Shortens {X} read = (st : State) (x : X) (after : State) → read st ≡ Some (x, after) → length after.placed < length st.placed

none_if : {A : Type 0} (o : Option A) → ((x : A) → o ≡ Some x → ⊥) → o ≡ None
none_if None h = refl
none_if (Some x) h = absurd (h x refl)

none_at_end : {X : Type 0} (read : Reader X) → Shortens read → (st : State) → length st.placed ≤ 0 → read st ≡ None
none_at_end read short st e = none_if (read st) (λ x h. absurd (omega (arith, short st x.0 x.1 h)))

same_bind : {A B : Type 0} (o : Option A) (f g : A → Option B) → ((x : A) → o ≡ Some x → f x ≡ g x) → (o >>= f) ≡ (o >>= g)
same_bind None f g h = refl
same_bind (Some x) f g h = h x refl

-- so often as there are tokens is often enough
enough : {X : Type 0} (more : State → Bool) (read : Reader X) (short : Shortens read) (m n : ℕ) (st : State) → length st.placed ≤ m → length st.placed ≤ n → repeat more read m st ≡ repeat more read n st
enough more read short zero zero st p q = refl
enough more read short zero (suc n) st p q = rw (none_at_end read short st p) refl
enough more read short (suc m) zero st p q = rw (none_at_end read short st q) refl
enough more read short (suc m) (suc n) st p q =
    ap (λ r. cond (more st) r (Some ([], st)))
    (same_bind (read st) (λ x. with_front (x.0 ∷ []) (repeat more read m x.1)) (λ x. with_front (x.0 ∷ []) (repeat more read n x.1))
    (λ x e. ap (λ r. with_front (x.0 ∷ []) r) (enough more read short m n x.1 (omega (arith, short st x.0 x.1 e)) (omega (arith, short st x.0 x.1 e)))))

-- one step
pub repeat_is : {X : Type 0} (more : State → Bool) (read : Reader X) → Shortens read → (st : State) → repeat_at more read st ≡ cond (more st) (read st >>= λ x. with_front (x.0 ∷ []) (repeat_at more read x.1)) (Some ([], st))
unfolding repeat_at
repeat_is more read short st =
    enough more read short (length st.placed) (suc (length st.placed)) st (omega arith) (omega arith)
    ∙ ap (λ r. cond (more st) r (Some ([], st)))
    (same_bind (read st) (λ x. with_front (x.0 ∷ []) (repeat more read (length st.placed) x.1)) (λ x. with_front (x.0 ∷ []) (repeat more read (length x.1.placed) x.1))
    (λ x e. ap (λ r. with_front (x.0 ∷ []) r) (enough more read short (length st.placed) (length x.1.placed) x.1 (omega (arith, short st x.0 x.1 e)) (omega arith))))

-- ---- for the loops

regroup : {X : Type 0} (front : List X) (x : X) (r : Option (List X × State)) → with_front front (with_front (x ∷ []) r) ≡ with_front (front ++ x ∷ []) r
regroup front x None = refl
regroup front x (Some y) = ap (λ zs. Some (zs, y.1)) (sym (append_assoc front (x ∷ []) y.0))

pub repeat_more : {X : Type 0} (more : State → Bool) (read : Reader X) → Shortens read → (front : List X) (st after : State) (x : X) → more st ≡ true → read st ≡ Some (x, after) → with_front front (repeat_at more read st) ≡ with_front (front ++ x ∷ []) (repeat_at more read after)
repeat_more more read short front st after x m e = rw (repeat_is more read short st, m, e) (regroup front x (repeat_at more read after))

pub repeat_none : {X : Type 0} (more : State → Bool) (read : Reader X) → Shortens read → (front : List X) (st : State) → more st ≡ true → read st ≡ None → with_front front (repeat_at more read st) ≡ None
repeat_none more read short front st m e = rw (repeat_is more read short st, m, e) refl

pub repeat_end : {X : Type 0} (more : State → Bool) (read : Reader X) → Shortens read → (front : List X) (st : State) → more st ≡ false → with_front front (repeat_at more read st) ≡ Some (front, st)
repeat_end more read short front st m = rw (repeat_is more read short st, m) (ap (λ zs. Some (zs, st)) (append-nil front))

-- ---- each

pub took_none : (st : State) → Took (just []) st st
took_none st = record { large = None; front = []; spelled = (refl, refl); parts = refl; marks = sym (or-none st.large) }

at_last : {Y : Type 0} (G : Y → Form) (st : State) (ys : List Y) (after : State) (b : Bool) (r : Option (List Y × State)) → cond b r (Some ([], st)) ≡ Some (ys, after) → (r ≡ Some (ys, after) → Took (each G ys) st after) → Took (each G ys) st after
at_last G st ys after true r e k = k e
at_last {Y} G st ys after false r e k = along (λ (p : List Y × State). Took (each G p.0) st p.1) ([], st) (ys, after) e (took_none st)

front_found : {Y : Type 0} (G : Y → Form) (y : Y) (st mid : State) (r : Option (List Y × State)) (ys : List Y) (after : State) → Took (G y) st mid → ((zs : List Y) (end : State) → r ≡ Some (zs, end) → Took (each G zs) mid end) → with_front (y ∷ []) r ≡ Some (ys, after) → Took (each G ys) st after
front_found {Y} G y st mid r ys after first rest e =
    let z = bind_some r (λ x. Some (y ∷ x.0, x.1)) (ys, after) e in
    along (λ (p : List Y × State). Took (each G p.0) st p.1) (y ∷ z.0.0, z.0.1) (ys, after) z.2 (Took-then (G y) (each G z.0.0) st mid z.0.1 first (rest z.0.0 z.0.1 z.1))

repeat_found : {Y : Type 0} (more : State → Bool) (G : Y → Form) (g : Reader Y) → ((st : State) (y : Y) (after : State) → g st ≡ Some (y, after) → Took (G y) st after) → (n : ℕ) (st : State) (ys : List Y) (after : State) → repeat more g n st ≡ Some (ys, after) → Took (each G ys) st after
repeat_found more G g found zero st ys after e = at_last G st ys after (more st) None e (λ f. absurd cc)
repeat_found more G g found (suc n) st ys after e =
    at_last G st ys after (more st) (g st >>= λ x. with_front (x.0 ∷ []) (repeat more g n x.1)) e
    (λ f. let y = bind_some (g st) (λ x. with_front (x.0 ∷ []) (repeat more g n x.1)) (ys, after) f in
    front_found G y.0.0 st y.0.1 (repeat more g n y.0.1) ys after (found st y.0.0 y.0.1 y.1) (λ zs end h. repeat_found more G g found n y.0.1 zs end h) y.2)

-- When there is more, a member comes, and it may be followed by another member or by the end.
pub record Goes {Y : Type 0} (more : State → Bool) (G : Y → Form) (EndG End : List PlacedToken → Type 0) : Type 0 where
  pub starts : (y : Y) (large before : Option ℕ) (front rest : List PlacedToken) → G y large front → more (at (front ++ rest) before) ≡ true
  pub stops : (before : Option ℕ) (rest : List PlacedToken) → End rest → more (at rest before) ≡ false
  pub another : (y : Y) (large : Option ℕ) (front rest : List PlacedToken) → G y large front → EndG (front ++ rest)
  pub last : (rest : List PlacedToken) → End rest → EndG rest

next_ends : {Y : Type 0} (more : State → Bool) (G : Y → Form) (EndG End : List PlacedToken → Type 0) → Goes more G EndG End → (ys : List Y) (large : Option ℕ) (back rest : List PlacedToken) → each G ys large back → End rest → EndG (back ++ rest)
next_ends more G EndG End goes [] large [] rest t end = goes.last rest end
next_ends more G EndG End goes [] large (p ∷ back) rest t end = absurd (let e = t.1 in cc)
next_ends more G EndG End goes (y ∷ ys) large back rest t end = rw (t.parts, append_assoc) (goes.another y t.large_front t.front (t.back ++ rest) t.first)

repeat_only : {Y : Type 0} (more : State → Bool) (G : Y → Form) (EndG End : List PlacedToken → Type 0) (g : Reader Y) → Reads G EndG g → Shortens g → Goes more G EndG End → (ys : List Y) (large before : Option ℕ) (front rest : List PlacedToken) → each G ys large front → End rest → repeat_at more g (at (front ++ rest) before) ≡ Some (ys, at rest (option_or before large))
repeat_only more G EndG End g rg short goes [] large before [] rest t end = rw (repeat_is more g short (at rest before), goes.stops before rest end, t.0, or-none before) refl
repeat_only more G EndG End g rg short goes [] large before (p ∷ front) rest t end = absurd (let e = t.1 in cc)
repeat_only more G EndG End g rg short goes (y ∷ ys) large before front rest t end =
    rw (t.parts, append_assoc, t.earlier, ← or_assoc, repeat_is more g short (at (t.front ++ (t.back ++ rest)) before), goes.starts y t.large_front before t.front (t.back ++ rest) t.first)
    (rw (rg.only y t.large_front before t.front (t.back ++ rest) t.first (next_ends more G EndG End goes ys t.large_back t.back rest t.second end))
    (rw (repeat_only more G EndG End g rg short goes ys t.large_back (option_or before t.large_front) t.back rest t.second end) refl))

pub reads_repeat : {Y : Type 0} (more : State → Bool) (G : Y → Form) (EndG End : List PlacedToken → Type 0) (g : Reader Y) → Reads G EndG g → Shortens g → Goes more G EndG End → Reads (each G) End (repeat_at more g)
unfolding repeat_at
reads_repeat more G EndG End g rg short goes = record {
  found = λ st ys after e. repeat_found more G g rg.found (length st.placed) st ys after e;
  only = λ ys large before front rest t end. repeat_only more G EndG End g rg short goes ys large before front rest t end;
}

-- ---- with commas between

pub Shortens-after_sign : {X : Type 0} (s : Sign) (F : X → Form) (f : Reader X) → ((st : State) (x : X) (after : State) → f st ≡ Some (x, after) → Took (F x) st after) → Shortens (after_sign s f)
Shortens-after_sign s F f found st x after e =
    let u = bind_some (skip_at s st) (λ u. f u.1) (x, after) e in
    let t = (reads_sign s).found st u.0.0 u.0.1 u.1 in
    let o = one_token (token.Sign s) t.front t.spelled.1 in
    let parts : st.placed ≡ o.0 ∷ u.0.1.placed = t.parts ∙ ap (λ fs. fs ++ u.0.1.placed) o.1 in
    rw parts (omega (arith, Took-not_longer (F x) u.0.1 after (found u.0.1 x after u.2)))

-- that sign doesn't come next
abbrev pub without : Sign → List PlacedToken → Type 0
without s rest = comes s (at rest None) ≡ false

abbrev pub both : (List PlacedToken → Type 0) → (List PlacedToken → Type 0) → List PlacedToken → Type 0
both A B rest = A rest × B rest

sign_comes : (s : Sign) (large : Option ℕ) (before : Option ℕ) (front rest : List PlacedToken) → sign s large front → comes s (at (front ++ rest) before) ≡ true
sign_comes s large before front rest t =
    let o = one_token (token.Sign s) front t.1 in rw (o.1) (is_sign-same s o.0.token o.2)

pub sign_allowed : (End : List PlacedToken → Type 0) (s : Sign) → Allows End s → (large : Option ℕ) (front rest : List PlacedToken) → sign s large front → End (front ++ rest)
sign_allowed End s allows large front rest t = let o = one_token (token.Sign s) front t.1 in rw o.1 (allows o.0 rest o.2)

continues : {X : Type 0} (F : X → Form) (EndF : List PlacedToken → Type 0) → Allows EndF Comma → Goes (comes Comma) (λ x. sign Comma ▸ F x) EndF (both EndF (without Comma))
continues F EndF allows = record {
  starts = λ y large before front rest t. rw (t.parts, append_assoc) (sign_comes Comma t.large_front before t.front (t.back ++ rest) t.first);
  stops = λ before rest end. end.1;
  another = λ y large front rest t. rw (t.parts, append_assoc) (sign_allowed EndF Comma allows t.large_front t.front (t.back ++ rest) t.first);
  last = λ rest end. end.0;
}

reads_tail : {X : Type 0} (F : X → Form) (EndF : List PlacedToken → Type 0) (f : Reader X) → Reads F EndF f → Allows EndF Comma → Reads (each (λ x. sign Comma ▸ F x)) (both EndF (without Comma)) (repeat_at (comes Comma) (after_sign Comma f))
reads_tail F EndF f rf allows = reads_repeat (comes Comma) (λ x. sign Comma ▸ F x) EndF (both EndF (without Comma)) (after_sign Comma f) (reads_after_sign Comma F EndF f rf) (Shortens-after_sign Comma F f rf.found) (continues F EndF allows)

commas_only : {X : Type 0} (F : X → Form) (EndF : List PlacedToken → Type 0) (f : Reader X) → Reads F EndF f → Allows EndF Comma → (xs : List X) (large before : Option ℕ) (front rest : List PlacedToken) → commas F xs large front → both EndF (without Comma) rest → commas_at f (at (front ++ rest) before) ≡ Some (xs, at rest (option_or before large))
commas_only F EndF f rf allows [] large before front rest t end = absurd t
commas_only F EndF f rf allows (x ∷ xs) large before front rest t end =
    rw (t.parts, append_assoc, t.earlier, ← or_assoc)
    (rw (rf.only x t.large_front before t.front (t.back ++ rest) t.first (next_ends (comes Comma) (λ y. sign Comma ▸ F y) EndF (both EndF (without Comma)) (continues F EndF allows) xs t.large_back t.back rest t.second end))
    (rw ((reads_tail F EndF f rf allows).only xs t.large_back (option_or before t.large_front) t.back rest t.second end) refl))

commas_front : {X : Type 0} (F : X → Form) (x : X) (st mid : State) (r : Option (List X × State)) (ys : List X) (after : State) → Took (F x) st mid → ((zs : List X) (end : State) → r ≡ Some (zs, end) → Took (each (λ y. sign Comma ▸ F y) zs) mid end) → with_front (x ∷ []) r ≡ Some (ys, after) → Took (commas F ys) st after
commas_front {X} F x st mid r ys after first rest e =
    let z = bind_some r (λ q. Some (x ∷ q.0, q.1)) (ys, after) e in
    along (λ (p : List X × State). Took (commas F p.0) st p.1) (x ∷ z.0.0, z.0.1) (ys, after) z.2 (Took-then (F x) (each (λ y. sign Comma ▸ F y) z.0.0) st mid z.0.1 first (rest z.0.0 z.0.1 z.1))

pub reads_commas : {X : Type 0} (F : X → Form) (EndF : List PlacedToken → Type 0) (f : Reader X) → Reads F EndF f → Allows EndF Comma → Reads (commas F) (both EndF (without Comma)) (commas_at f)
reads_commas F EndF f rf allows = record {
  found = λ st xs after e.
      let x = bind_some (f st) (λ x. with_front (x.0 ∷ []) (repeat_at (comes Comma) (after_sign Comma f) x.1)) (xs, after) e in
      commas_front F x.0.0 st x.0.1 (repeat_at (comes Comma) (after_sign Comma f) x.0.1) xs after (rf.found st x.0.0 x.0.1 x.1) (λ zs end h. (reads_tail F EndF f rf allows).found x.0.1 zs end h) x.2;
  only = λ xs large before front rest t end. commas_only F EndF f rf allows xs large before front rest t end;
}

-- ---- in parentheses

pub reads_some : {X : Type 0} (F : X → Form) (EndF : List PlacedToken → Type 0) (f : Reader X) → Reads F EndF f → Allows EndF Comma → Allows (both EndF (without Comma)) RightParenthesis → Reads (λ xs. sign LeftParenthesis ▸ commas F xs ▸ sign RightParenthesis) anything (some_in_parentheses f)
reads_some F EndF f rf allows ends = reads_after_sign LeftParenthesis (λ xs. commas F xs ▸ sign RightParenthesis) anything (closed RightParenthesis (commas_at f)) (reads_closed RightParenthesis (commas F) (both EndF (without Comma)) (commas_at f) (reads_commas F EndF f rf allows) ends)

-- what comes after an opening parenthesis
abbrev inner : {X : Type 0} → (X → Form) → List X → Form
inner F [] = sign RightParenthesis
inner F (x ∷ xs) = commas F (x ∷ xs) ▸ sign RightParenthesis

-- a form doesn't begin with that sign
abbrev pub Avoids : {X : Type 0} → (X → Form) → Sign → Type 0
Avoids {X} F s = (x : X) (large : Option ℕ) (front rest : List PlacedToken) → F x large front → without s (front ++ rest)

some_inner : {X : Type 0} (F : X → Form) (xs : List X) (st after : State) → Took (commas F xs ▸ sign RightParenthesis) st after → Took (inner F xs) st after
some_inner F [] st after t = absurd t.spelled.first
some_inner F (x ∷ xs) st after t = t

within_found : {X : Type 0} (F : X → Form) (EndF : List PlacedToken → Type 0) (f : Reader X) → Reads F EndF f → Allows EndF Comma → Allows (both EndF (without Comma)) RightParenthesis → (st : State) (xs : List X) (after : State) (b : Bool) → cond b (made (λ u. []) (skip_at RightParenthesis) st) (closed RightParenthesis (commas_at f) st) ≡ Some (xs, after) → Took (inner F xs) st after
within_found {X} F EndF f rf allows ends st xs after true e =
    let u = bind_some (skip_at RightParenthesis st) (λ u. Some ([], u.1)) (xs, after) e in
    along (λ (p : List X × State). Took (inner F p.0) st p.1) ([], u.0.1) (xs, after) u.2 ((reads_sign RightParenthesis).found st u.0.0 u.0.1 u.1)
within_found F EndF f rf allows ends st xs after false e = some_inner F xs st after ((reads_closed RightParenthesis (commas F) (both EndF (without Comma)) (commas_at f) (reads_commas F EndF f rf allows) ends).found st xs after e)

within_only : {X : Type 0} (F : X → Form) (EndF : List PlacedToken → Type 0) (f : Reader X) → Reads F EndF f → Allows EndF Comma → Allows (both EndF (without Comma)) RightParenthesis → Avoids F RightParenthesis → (xs : List X) (large before : Option ℕ) (front rest : List PlacedToken) → inner F xs large front → anything rest → within f (at (front ++ rest) before) ≡ Some (xs, at rest (option_or before large))
within_only F EndF f rf allows ends avoids [] large before front rest t end =
    let st : State = at (front ++ rest) before in
    cond-true (comes RightParenthesis st) (made (λ u. []) (skip_at RightParenthesis) st) (closed RightParenthesis (commas_at f) st) (sign_comes RightParenthesis large before front rest t)
    ∙ ap (λ r. r >>= λ u. Some ([], u.1)) ((reads_sign RightParenthesis).only tt large before front rest t tt)
within_only F EndF f rf allows ends avoids (x ∷ xs) large before front rest t end =
    let off : comes RightParenthesis (at (front ++ rest) before) ≡ false = rw (t.parts, append_assoc, t.first.parts, append_assoc) (avoids x t.first.large_front t.first.front (t.first.back ++ (t.back ++ rest)) t.first.first) in
    rw off ((reads_closed RightParenthesis (commas F) (both EndF (without Comma)) (commas_at f) (reads_commas F EndF f rf allows) ends).only (x ∷ xs) large before front rest t end)

reads_within : {X : Type 0} (F : X → Form) (EndF : List PlacedToken → Type 0) (f : Reader X) → Reads F EndF f → Allows EndF Comma → Allows (both EndF (without Comma)) RightParenthesis → Avoids F RightParenthesis → Reads (inner F) anything (within f)
reads_within F EndF f rf allows ends avoids = record {
  found = λ st xs after e. within_found F EndF f rf allows ends st xs after (comes RightParenthesis st) e;
  only = λ xs large before front rest t end. within_only F EndF f rf allows ends avoids xs large before front rest t end;
}

opened : {X : Type 0} (F : X → Form) (xs : List X) (st after : State) → Took (sign LeftParenthesis ▸ inner F xs) st after → Took (parameters F xs) st after
opened F [] st after t = record { large = t.large; front = t.front; spelled = inr t.spelled; parts = t.parts; marks = t.marks }
opened F (x ∷ xs) st after t = t

parameters_found : {X : Type 0} (F : X → Form) (f : Reader X) → Reads (inner F) anything (within f) → (st : State) (xs : List X) (after : State) (b : Bool) → cond b (after_sign LeftParenthesis (within f) st) (Some ([], st)) ≡ Some (xs, after) → Took (parameters F xs) st after
parameters_found F f rf st xs after true e = opened F xs st after ((reads_after_sign LeftParenthesis (inner F) anything (within f) rf).found st xs after e)
parameters_found {X} F f rf st xs after false e = along (λ (p : List X × State). Took (parameters F p.0) st p.1) ([], st) (xs, after) e (record { large = None; front = []; spelled = inl (refl, refl); parts = refl; marks = sym (or-none st.large) })

after_comes : {X : Type 0} (f : Reader X) (xs : List X) (large before : Option ℕ) (front rest : List PlacedToken) (F : X → Form) → Reads (inner F) anything (within f) → (sign LeftParenthesis ▸ inner F xs) large front → parameters_at f (at (front ++ rest) before) ≡ Some (xs, at rest (option_or before large))
after_comes {X} f xs large before front rest F rf t =
    let on : comes LeftParenthesis (at (front ++ rest) before) ≡ true = rw (t.parts, append_assoc) (sign_comes LeftParenthesis t.large_front before t.front (t.back ++ rest) t.first) in
    let st : State = at (front ++ rest) before in
    cond-true (comes LeftParenthesis st) (after_sign LeftParenthesis (within f) st) (Some ([], st)) on
    ∙ (reads_after_sign LeftParenthesis (inner F) anything (within f) rf).only xs large before front rest t tt

nothing_comes : {X : Type 0} (f : Reader X) (large before : Option ℕ) (front rest : List PlacedToken) → just [] large front → without LeftParenthesis rest → parameters_at f (at (front ++ rest) before) ≡ Some ([], at rest (option_or before large))
nothing_comes f large before [] rest t end = rw (t.0, or-none before, end) refl
nothing_comes f large before (p ∷ front) rest t end = absurd (let e = t.1 in cc)

parameters_only : {X : Type 0} (F : X → Form) (f : Reader X) → Reads (inner F) anything (within f) → (xs : List X) (large before : Option ℕ) (front rest : List PlacedToken) → parameters F xs large front → without LeftParenthesis rest → parameters_at f (at (front ++ rest) before) ≡ Some (xs, at rest (option_or before large))
parameters_only F f rf [] large before front rest t end = elim t [ inl n ↦ nothing_comes f large before front rest n end | inr p ↦ after_comes f [] large before front rest F rf p ]
parameters_only F f rf (x ∷ xs) large before front rest t end = after_comes f (x ∷ xs) large before front rest F rf t

pub reads_parameters : {X : Type 0} (F : X → Form) (EndF : List PlacedToken → Type 0) (f : Reader X) → Reads F EndF f → Allows EndF Comma → Allows (both EndF (without Comma)) RightParenthesis → Avoids F RightParenthesis → Reads (parameters F) (without LeftParenthesis) (parameters_at f)
reads_parameters F EndF f rf allows ends avoids = record {
  found = λ st xs after e. parameters_found F f (reads_within F EndF f rf allows ends avoids) st xs after (comes LeftParenthesis st) e;
  only = λ xs large before front rest t end. parameters_only F f (reads_within F EndF f rf allows ends avoids) xs large before front rest t end;
}
