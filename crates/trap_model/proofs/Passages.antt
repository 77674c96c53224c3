-- One passage more.
use Rattle.std.proofs.Common.{◌≡◌, ℕ, ◌+◌, ◌-◌, ◌≤◌, max, Bool, false, drop, take, zero, suc, refl, List, [], ◌∷◌, ◌++◌, length, inl, inr, arith}
use Rattle.std.proofs.lemmas.Bool.{cases_order, or_parts}
use Rattle.std.proofs.lemmas.List.{length_push, get_or_push, get_or_append_left, drop-drop}
use Rattle.std.specs.List.{list_any}
use Rattle.trap_model.specs.declared.channel.Channel.{Channel}
use Rattle.trap_model.specs.declared.tables.Passage.{Passage}
use Rattle.trap_model.specs.Channels.{is_through}
use Rattle.trap_model.specs.Tables.{IsPassage, ArePassages}

pub passages_more : (channels : List Channel) (n : ℕ) (passages : List Passage) (passage : Passage) → ArePassages channels n passages → IsPassage channels n passage
    → ArePassages channels (n + 1) (passages ++ passage ∷ [])
passages_more channels n passages passage all one = record {
  count = omega (arith, length_push passages passage, all.count);
  each = λ k d h. elim (cases_order k n) [
    | inl same ↦ rw (get_or_push passages passage d k (omega (arith, all.count, same))) (rw (same) one)
    | inr side ↦ elim side [
      | inl below ↦ rw (get_or_append_left passages (passage ∷ []) d k (omega (arith, all.count, below))) (all.each k d below)
      | inr above ↦ absurd (omega (arith, above, h))
    ]
  ];
}

none_later : {X : Type 0} (q : X → Bool) (n : ℕ) (xs : List X) → list_any q xs ≡ false → list_any q (drop n xs) ≡ false
none_later q zero xs e = e
none_later q (suc n) [] e = refl
none_later q (suc n) (x ∷ xs) e = none_later q n xs (or_parts (q x) (list_any q xs) e).1

-- from where the crossings begin to where they end
pub passage_between : (channels : List Channel) (junction first last top : ℕ) → top ≡ max last first → first ≤ length channels → last ≤ length channels
    → list_any (is_through junction) (take first channels) ≡ false → list_any (is_through junction) (drop last channels) ≡ false
    → IsPassage channels junction (record { first = first; «end» = top })
passage_between channels junction first last top is low high before after =
    let number : last + (top - last) ≡ top = omega (arith, is) in
    let rest : list_any (is_through junction) (drop (top - last) (drop last channels)) ≡ false = none_later (is_through junction) (top - last) (drop last channels) after in
    record {
      ordered = omega (arith, is);
      within = omega (arith, is);
      before = before;
      after = rw (drop-drop, number) at rest;
    }
