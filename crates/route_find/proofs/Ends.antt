-- The numbers of the channels that end at each place, one channel after another.
use Rattle.std.proofs.Common.{◌≡◌, ◌≢◌, ℕ, ◌+◌, ◌<◌, List, [], ◌∷◌, ◌++◌, length, get_or, Some, refl, sym, ap, subst, ◌∙◌, inl, inr, arith}
use Rattle.std.specs.Prelude.{slice_get, Contains, replicate}
use Rattle.std.proofs.Math.ListN.{set, length-set}
use Rattle.std.proofs.lemmas.Bool.{cases_eq}
use Rattle.std.proofs.lemmas.List.{length-replicate, get_or-replicate}
use Rattle.std.proofs.lemmas.List.Elements.{All-contains, Contains-append_left, Contains-push, Contains-push_cases}
use Rattle.std.proofs.lemmas.Option.{slice_get-get_or, slice_get_within, slice_get_read, get_or_from_slice_get, same_Some}
use Rattle.trap_model.specs.declared.channel.Channel.{Channel}
use Rattle.route_find.specs.Search.{AreBelow, Ends, AreEnds}
use Rattle.route_find.proofs.Rows.{slice_get_set_same, slice_get_set_other}

-- both places of a channel are below the number
pub below_at : (places : ℕ) (channels : List Channel) (number : ℕ) (channel : Channel) → AreBelow places channels → slice_get channels number ≡ Some channel → (channel.from.0 < places) × (channel.to.0 < places)
below_at places channels number channel below there =
    All-contains (λ (c : Channel). (c.from.0 < places) × (c.to.0 < places)) channels channel below
    (number, slice_get_within channels number channel there, get_or_from_slice_get channels number channel channel there)

abbrev none : List ℕ
none = []

no_ends : (places place : ℕ) (row : List ℕ) → slice_get (replicate places []) place ≡ Some row → [] ≡ row
no_ends places place row there =
    let in_rows : place < places = omega (arith, slice_get_within (replicate places []) place row there, length-replicate places none) in
    sym (get_or-replicate places place none row in_rows) ∙ get_or_from_slice_get (replicate places []) place row row there

nothing : {X : Type 0} (number : ℕ) → Contains none number → X
nothing number (k, in_row, rest) = absurd (omega (arith, in_row))

pub ends_none : (channels : List Channel) (places : ℕ) (ends : List (List ℕ)) → ends ≡ replicate places [] → AreEnds channels places 0 ends
ends_none channels places ends is = subst (AreEnds channels places 0) (sym is) (record {
  len = length-replicate places none;
  sound = λ place number row there has. nothing number (subst (λ (l : List ℕ). Contains l number) (sym (no_ends places place row there)) has);
  all = λ place number row there below. absurd (omega arith);
})

-- the next channel is added to the list of the place where it ends
pub ends_more : (channels : List Channel) (places count : ℕ) (ends : List (List ℕ)) (channel : Channel) (row : List ℕ)
    → AreEnds channels places count ends → slice_get channels count ≡ Some channel → slice_get ends channel.to.0 ≡ Some row
    → AreEnds channels places (count + 1) (set ends channel.to.0 (row ++ count ∷ []))
ends_more channels places count ends channel row before here at = record {
  len = length-set ends channel.to.0 (row ++ count ∷ []) ∙ before.len;
  sound = λ place number found there has. elim (cases_eq place channel.to.0) [
    | inl same ↦ (let is : row ++ count ∷ [] ≡ found = grown place found there same in
        elim (Contains-push_cases row count number (subst (λ (l : List ℕ). Contains l number) (sym is) has)) [
          | inl old ↦ before.sound place number row (ap (λ p. slice_get ends p) same ∙ at) old
          | inr new ↦ record { channel = channel; there = ap (λ n. slice_get channels n) (sym new) ∙ here; ends = sym same }
        ])
    | inr ne ↦ before.sound place number found (sym (slice_get_set_other ends channel.to.0 place (row ++ count ∷ []) ne) ∙ there) has
  ];
  all = λ place number found there below ends_there. elim (cases_eq place channel.to.0) [
    | inl same ↦ subst (λ (l : List ℕ). Contains l number) (grown place found there same) (elim (cases_eq number count) [
      | inl last ↦ subst (λ n. Contains (row ++ count ∷ []) n) (sym last) (Contains-push row count)
      | inr earlier ↦ Contains-append_left row (count ∷ []) number (before.all place number row (ap (λ p. slice_get ends p) same ∙ at) (omega arith) ends_there)
    ])
    | inr ne ↦ before.all place number found (sym (slice_get_set_other ends channel.to.0 place (row ++ count ∷ []) ne) ∙ there)
        (earlier place number ne ends_there below) ends_there
  ];
} where
  grown : (place : ℕ) (found : List ℕ) → slice_get (set ends channel.to.0 (row ++ count ∷ [])) place ≡ Some found → place ≡ channel.to.0 → row ++ count ∷ [] ≡ found
  grown place found there same =
      same_Some (row ++ count ∷ []) found (sym (slice_get_set_same ends channel.to.0 (row ++ count ∷ []) (slice_get_within ends channel.to.0 row at)) ∙ ap (λ p. slice_get (set ends channel.to.0 (row ++ count ∷ [])) p) (sym same) ∙ there)

  earlier : (place number : ℕ) → place ≢ channel.to.0 → Ends channels place number → number < count + 1 → number < count
  earlier place number ne ends_there below = elim (cases_eq number count) [
    | inl last ↦ absurd (ne (sym ends_there.ends ∙ ap (λ (c : Channel). c.to.0) (same_Some ends_there.channel channel (sym ends_there.there ∙ ap (λ n. slice_get channels n) last ∙ here))))
    | inr other ↦ omega arith
  ]

-- the same, where the channel is read from the list
pub ends_more_at : (channels : List Channel) (places count : ℕ) (ends : List (List ℕ)) (d : Channel) (row : List ℕ)
    → AreEnds channels places count ends → AreBelow places channels → count < length channels → row ≡ get_or ends (get_or channels count d).to.0 row
    → AreEnds channels places (count + 1) (set ends (get_or channels count d).to.0 (row ++ count ∷ []))
ends_more_at channels places count ends d row before below in_list read =
    let here : slice_get channels count ≡ Some (get_or channels count d) = slice_get-get_or channels count d in_list in
    let within : (get_or channels count d).to.0 < places = (below_at places channels count (get_or channels count d) below here).1 in
    ends_more channels places count ends (get_or channels count d) row before here
    (slice_get_read ends (length ends) (get_or channels count d).to.0 row refl (omega (arith, within, before.len)) read)
