-- Contents that are read piece by piece.
use Rattle.std.proofs.Common.{◌≡◌, ℕ, ◌+◌, ◌<◌, ◌≤◌, Bool, true, false, List, [], ◌++◌, length, take, drop, Some, None, refl, sym, ap, ◌∙◌, subst, arith, append_assoc, length-append}
use Rattle.std.specs.Prelude.{Option, IsTrue}
use Rattle.std.proofs.lemmas.List.{append-nil, take-append-drop, length-take-le}
use Rattle.std.proofs.Math.Seq.{take-append_seam}
use Rattle.qc_base.specs.Shelf.{ShelfFacts, IsContent}
use Rattle.qc_base.proofs.Reading.{IsFront, IsPlaced, front_continues, front_is_whole}
use Rattle.derivation_check.specs.declared.cert_fault.CertFault.{CertFault}
use Rattle.derivation_check.specs.Faults.{Task, HasFault}
use Rattle.derivation_check.specs.Progress.{Progress, WasFed, IsAfter}
use Rattle.verify_core.specs.Reading.{BeginsContent, IsFeeding, WasFedAll, HasFaultLater}

same_some : (a b : List ℕ) (found : Option (List ℕ)) → found ≡ Some a → found ≡ Some b → a ≡ b
same_some a b found p q = cc

-- where the content is there, it begins with its front
pub front_begins : (shelf : ShelfFacts) (name bytes : List ℕ) (from count : ℕ) (buf : List ℕ) → IsFront shelf name bytes → IsPlaced shelf name from count buf → BeginsContent shelf name bytes
front_begins shelf name bytes from count buf front placed = λ known.
    let told = placed known in
    let here = front known told.0 told.1 in
    let whole : bytes ++ drop (length bytes) told.0 ≡ told.0 =
    ap (λ (xs : List ℕ). xs ++ drop (length bytes) told.0) here ∙ take-append-drop (length bytes) told.0 in
    (drop (length bytes) told.0, told.1 ∙ ap (λ (xs : List ℕ). Some xs) (sym whole))

-- and its front is what it begins with
pub begins_front : (shelf : ShelfFacts) (name bytes : List ℕ) → BeginsContent shelf name bytes → IsFront shelf name bytes
begins_front shelf name bytes begins = λ known content is.
    let found = begins known in
    let whole = same_some (bytes ++ found.0) content (shelf.contents name) found.1 is in
    sym (take-append_seam bytes found.0) ∙ ap (λ (xs : List ℕ). take (length bytes) xs) whole

whole_by : (known : Bool) (found : Option (List ℕ)) (bytes : List ℕ) → (IsTrue known → (rest : List ℕ) × (found ≡ Some (bytes ++ rest)))
    → (rest : List ℕ) × (IsTrue known → found ≡ Some (bytes ++ rest))
whole_by true found bytes begins = let has = begins refl in (has.0, λ known. has.1)
whole_by false found bytes begins = ([], λ known. absurd (cc))

-- some content begins with these bytes
pub whole_content : (shelf : ShelfFacts) (name bytes : List ℕ) → BeginsContent shelf name bytes → (rest : List ℕ) × IsContent shelf name (bytes ++ rest)
whole_content shelf name bytes begins = whole_by shelf.known (shelf.contents name) bytes begins

-- a shelf that known has one content under a name
pub one_content : (shelf : ShelfFacts) (name bytes other : List ℕ) → IsTrue shelf.known → shelf.contents name ≡ Some other → IsContent shelf name bytes → bytes ≡ other
one_content shelf name bytes other known is content = let here = content known in same_some bytes other (shelf.contents name) here is

-- ---- feeding a checker the bytes of a content

-- the checker was fed these bytes and more, which all are of the content
pub record FeedsOn (shelf : ShelfFacts) (name : List ℕ) (task : Task) (head bytes : List ℕ) (checker : Progress) (from : ℕ) : Type 0 where
  pub more : List ℕ
  pub fed : WasFed task (bytes ++ more) checker
  pub no_fault : checker.stopped ≡ None
  pub at_place : from ≡ length (head ++ (bytes ++ more))
  pub front : IsFront shelf name (head ++ (bytes ++ more))

-- at first there are no more
pub feeds_first : (shelf : ShelfFacts) (name : List ℕ) (task : Task) (head bytes : List ℕ) (checker : Progress) (from : ℕ) → IsFeeding shelf name task head bytes checker from
    → FeedsOn shelf name task head bytes checker from
feeds_first shelf name task head bytes checker from is =
    let none = sym (append-nil bytes) in
    let place = is.at_place in
    record {
      more = [];
      fed = subst (λ (xs : List ℕ). WasFed task xs checker) none is.fed;
      no_fault = is.no_fault;
      at_place = place ∙ sym (length-append head bytes) ∙ ap (λ (xs : List ℕ). length (head ++ xs)) none;
      front = subst (λ (xs : List ℕ). IsFront shelf name (head ++ xs)) none (begins_front shelf name (head ++ bytes) is.content);
    }

-- the bytes that a read placed come after those
after_all : (head bytes more piece : List ℕ) → (head ++ (bytes ++ more)) ++ piece ≡ head ++ (bytes ++ (more ++ piece))
after_all head bytes more piece = append_assoc head (bytes ++ more) piece ∙ ap (λ (xs : List ℕ). head ++ xs) (append_assoc bytes more piece)

pub front_after : (shelf : ShelfFacts) (name : List ℕ) (task : Task) (head bytes : List ℕ) (checker : Progress) (from count : ℕ) (buf : List ℕ) → (feeds : FeedsOn shelf name task head bytes checker from)
    → count ≤ length buf → IsPlaced shelf name from count buf → IsFront shelf name (head ++ (bytes ++ (feeds.more ++ take count buf)))
front_after shelf name task head bytes checker from count buf feeds bound placed =
    let so_far = head ++ (bytes ++ feeds.more) in
    subst (IsFront shelf name) (after_all head bytes feeds.more (take count buf))
    (front_continues shelf name so_far buf count feeds.front bound (subst (λ (n : ℕ). IsPlaced shelf name n count buf) feeds.at_place placed))

pub feeds_more : (shelf : ShelfFacts) (name : List ℕ) (task : Task) (head bytes : List ℕ) (old new : Progress) (from next count : ℕ) (buf : List ℕ) → FeedsOn shelf name task head bytes old from
    → count ≤ length buf → IsPlaced shelf name from count buf → ((bytes : List ℕ) → WasFed task bytes old → WasFed task (bytes ++ take count buf) new) → new.stopped ≡ None → next ≡ from + count
    → FeedsOn shelf name task head bytes new next
feeds_more shelf name task head bytes old new from next count buf feeds bound placed fed no_fault is =
    let piece = take count buf in
    let all = head ++ (bytes ++ feeds.more) in
    let size : length piece ≡ count = length-take-le count buf bound in
    let whole = ap length (after_all head bytes feeds.more piece) in
    let place = feeds.at_place in
    record {
      more = feeds.more ++ piece;
      fed = subst (λ (xs : List ℕ). WasFed task xs new) (append_assoc bytes feeds.more piece) (fed (bytes ++ feeds.more) feeds.fed);
      no_fault = no_fault;
      at_place = let e : from + count ≡ length (all ++ piece) = omega (arith, place, size, length-append all piece) in is ∙ e ∙ whole;
      front = front_after shelf name task head bytes old from count buf feeds bound placed;
    }

pub feeds_all : (shelf : ShelfFacts) (name : List ℕ) (task : Task) (head bytes : List ℕ) (checker : Progress) (from count : ℕ) (buf : List ℕ) → FeedsOn shelf name task head bytes checker from
    → count ≡ 0 → 0 < length buf → IsPlaced shelf name from count buf → WasFedAll shelf name task head bytes checker
feeds_all shelf name task head bytes checker from count buf feeds none room placed = record {
  more = feeds.more;
  fed = feeds.fed;
  no_fault = feeds.no_fault;
  content = front_is_whole shelf name (head ++ (bytes ++ feeds.more)) buf count feeds.front none room (subst (λ (n : ℕ). IsPlaced shelf name n count buf) feeds.at_place placed);
}

fault_at : (task : Task) (bytes : List ℕ) (checker : Progress) (fault : CertFault) → checker.stopped ≡ Some fault → WasFed task bytes checker → HasFault task bytes fault
fault_at task bytes checker fault is fed = subst (IsAfter task bytes checker) is fed

pub feeds_fault : (shelf : ShelfFacts) (name : List ℕ) (task : Task) (head bytes : List ℕ) (old new : Progress) (from count : ℕ) (buf : List ℕ) (fault : CertFault) → FeedsOn shelf name task head bytes old from
    → count ≤ length buf → IsPlaced shelf name from count buf → ((bytes : List ℕ) → WasFed task bytes old → WasFed task (bytes ++ take count buf) new) → new.stopped ≡ Some fault
    → HasFaultLater shelf name task head bytes fault
feeds_fault shelf name task head bytes old new from count buf fault feeds bound placed fed stopped =
    let piece = take count buf in
    record {
      more = feeds.more ++ piece;
      is = fault_at task (bytes ++ (feeds.more ++ piece)) new fault stopped (subst (λ (xs : List ℕ). WasFed task xs new) (append_assoc bytes feeds.more piece) (fed (bytes ++ feeds.more) feeds.fed));
      content = front_begins shelf name (head ++ (bytes ++ (feeds.more ++ piece))) from count buf (front_after shelf name task head bytes old from count buf feeds bound placed) placed;
    }
