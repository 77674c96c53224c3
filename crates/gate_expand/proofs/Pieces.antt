-- Operations that come from pieces, one part after another.
use Rattle.std.proofs.Common.{◌≡◌, ◌⊎◌, inl, inr, zero, suc, List, [], ◌∷◌, ◌++◌, refl, sym, ◌∙◌, arith, All, AllPairs, append-nil}
use Rattle.std.specs.Prelude.{flat_map}
use Rattle.std.proofs.lemmas.List.Concat.{flat_map-append}
use Rattle.std.proofs.lemmas.List.Elements.{All-nil, All-cons, All-head, All-tail, All-append, All-weaker, Contains-append_left, Contains-append_right}
use Rattle.std.proofs.lemmas.List.Kept.{AllPairs-cons}
use Rattle.circuit_core.specs.declared.op.Op.{Op}
use Rattle.gate_expand.specs.Origins.{Piece, ops_in, IsBefore, ComeFrom}

-- ---- pairs

no_pairs : {X : Type 0} (R : X → X → Type 0) → AllPairs R []
no_pairs R i j d lt within = absurd (omega arith)

later_pairs : {X : Type 0} (R : X → X → Type 0) (x : X) (xs : List X) → AllPairs R (x ∷ xs) → AllPairs R xs
later_pairs R x xs h i j d lt within = h (suc i) (suc j) d (omega arith) (omega arith)

first_pairs : {X : Type 0} (R : X → X → Type 0) (x : X) (xs : List X) → AllPairs R (x ∷ xs) → All (R x) xs
first_pairs R x xs h k d within = h zero (suc k) d (omega arith) (omega arith)

pairs_append : {X : Type 0} (R : X → X → Type 0) (xs ys : List X) → AllPairs R xs → AllPairs R ys → All (λ (x : X). All (R x) ys) xs → AllPairs R (xs ++ ys)
pairs_append R [] ys left right cross = right
pairs_append {X} R (x ∷ xs) ys left right cross =
    AllPairs-cons R x (xs ++ ys)
    (All-append (R x) xs ys (first_pairs R x xs left) (All-head (λ (x : X). All (R x) ys) x xs cross))
    (pairs_append R xs ys (later_pairs R x xs left) right (All-tail (λ (x : X). All (R x) ys) x xs cross))

-- ---- none, one and more

pub none_come : (P : Piece → Type 0) → ((piece : Piece) → P piece → ⊥) → ComeFrom P []
none_come P never = record {
  pieces = [];
  whole = refl;
  each = All-nil P;
  all = λ piece is. absurd (never piece is);
  order = no_pairs IsBefore;
}

pub one_comes : (P : Piece → Type 0) (one : Piece) → P one → ((piece : Piece) → P piece → piece ≡ one) → ComeFrom P one.ops
one_comes P one is only = record {
  pieces = one ∷ [];
  whole = sym (append-nil one.ops);
  each = All-cons P one [] is (All-nil P);
  all = λ piece h. (0, omega arith, sym (only piece h));
  order = AllPairs-cons IsBefore one [] (All-nil (IsBefore one)) (no_pairs IsBefore);
}

parts : (ops more left right : List Op) → ops ≡ left → more ≡ right → ops ++ more ≡ left ++ right
parts ops more left right a b = (λ i. a i ++ b i)

pub both_come : (P Q R : Piece → Type 0) (ops more : List Op) → ComeFrom P ops → ComeFrom Q more
    → ((piece : Piece) → P piece → R piece) → ((piece : Piece) → Q piece → R piece) → ((piece : Piece) → R piece → P piece ⊎ Q piece)
    → ((first second : Piece) → P first → Q second → IsBefore first second) → ComeFrom R (ops ++ more)
both_come P Q R ops more left right p q either before = record {
  pieces = left.pieces ++ right.pieces;
  whole = parts ops more (flat_map ops_in left.pieces) (flat_map ops_in right.pieces) left.whole right.whole
      ∙ sym (flat_map-append ops_in left.pieces right.pieces);
  each = All-append R left.pieces right.pieces (All-weaker P R p left.pieces left.each) (All-weaker Q R q right.pieces right.each);
  all = λ piece is. elim (either piece is) [
    | inl a ↦ Contains-append_left left.pieces right.pieces piece (left.all piece a)
    | inr b ↦ Contains-append_right left.pieces right.pieces piece (right.all piece b)
  ];
  order = pairs_append IsBefore left.pieces right.pieces left.order right.order
      (λ k d below l e under. before _ _ (left.each k d below) (right.each l e under));
}

pub same_come : (P R : Piece → Type 0) (ops : List Op) → ComeFrom P ops → ((piece : Piece) → P piece → R piece) → ((piece : Piece) → R piece → P piece) → ComeFrom R ops
same_come P R ops from there back = record {
  pieces = from.pieces;
  whole = from.whole;
  each = All-weaker P R there from.pieces from.each;
  all = λ piece is. from.all piece (back piece is);
  order = from.order;
}
