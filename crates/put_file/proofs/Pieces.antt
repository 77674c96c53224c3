-- What puts make of a shelf, one after another.
use Rattle.std.proofs.Common.{◌≡◌, ℕ, zero, suc, ◌≤◌, ◌+◌, ◌-◌, List, [], ◌++◌, length, take, drop, Some, refl, sym, ap, ◌∙◌, subst, arith}
use Rattle.std.proofs.Math.Nat.{le_trans}
use Rattle.std.proofs.Math.Seq.{take-add, take-append_seam, drop-append_seam}
use Rattle.std.proofs.lemmas.List.{length-append, length-take-le, length-drop, drop-drop, take_all}
use Rattle.std.specs.Prelude.{IsTrue}
use Rattle.qc_base.specs.Shelf.{ShelfFacts, Puts, OnlyPuts, SameCounts}

-- where its contents are known, these are the bytes of the shelf under the name
abbrev pub HasBytes : ShelfFacts → ShelfFacts → List ℕ → List ℕ → Type 0
HasBytes old now name bytes = IsTrue old.known → now.contents name ≡ Some bytes

pub first_piece : (old now : ShelfFacts) (name piece : List ℕ) → (IsTrue old.known → Puts (old.contents name) (now.contents name) 0 piece) → HasBytes old now name piece
first_piece old now name piece puts = λ known. (puts known).first refl

pub next_piece : (old mid now : ShelfFacts) (name front piece : List ℕ) (from : ℕ) → OnlyPuts name old mid → HasBytes old mid name front → from ≡ length front
    → (IsTrue mid.known → Puts (mid.contents name) (now.contents name) from piece) → HasBytes old now name (front ++ piece)
next_piece old mid now name front piece from keeps has at puts = λ known. (puts (subst IsTrue (sym keeps.as_known) known)).next front (has known) at

pub next_bytes : (old mid now : ShelfFacts) (name bytes : List ℕ) (done end : ℕ) → done ≤ length bytes → done ≤ end → OnlyPuts name old mid → HasBytes old mid name (take done bytes)
    → (IsTrue mid.known → Puts (mid.contents name) (now.contents name) done (take (end - done) (drop done bytes))) → HasBytes old now name (take end bytes)
next_bytes old mid now name bytes done end within more keeps has puts =
    let all : done + (end - done) ≡ end = omega (arith, more) in
    let whole : take end bytes ≡ take done bytes ++ take (end - done) (drop done bytes) = ap (λ (n : ℕ). take n bytes) (sym all) ∙ take-add done (end - done) bytes in
    subst (λ (b : List ℕ). HasBytes old now name b) (sym whole)
    (next_piece old mid now name (take done bytes) (take (end - done) (drop done bytes)) done keeps has (sym (length-take-le done bytes within)) puts)

-- where a piece is the front of what is left of a text, the bytes up to its end are those before it and the piece
piece_taken : (text piece left : List ℕ) (done : ℕ) → drop done text ≡ piece ++ left → take (done + length piece) text ≡ take done text ++ piece
piece_taken text piece left done parts =
    take-add done (length piece) text
    ∙ (ap (λ (rest : List ℕ). take done text ++ take (length piece) rest) parts
    ∙ ap (λ (front : List ℕ). take done text ++ front) (take-append_seam piece left))

pub piece_left : (text piece left : List ℕ) (done : ℕ) → drop done text ≡ piece ++ left → left ≡ drop (done + length piece) text
piece_left text piece left done parts =
    sym (sym (drop-drop (length piece) done text) ∙ (ap (λ (rest : List ℕ). drop (length piece) rest) parts ∙ drop-append_seam piece left))

-- the text has the bytes of the piece
pub piece_within : (text piece left : List ℕ) (done : ℕ) → done ≤ length text → drop done text ≡ piece ++ left → done + length piece ≤ length text
piece_within text piece left done within parts =
    omega (arith, ap (λ (rest : List ℕ). length rest) parts, length-drop done text, length-append piece left)

-- the first piece begins the content, and each other is appended to what was put before it
pub next_printed : (old mid now : ShelfFacts) (name text piece left : List ℕ) (done : ℕ) → done ≤ length text → OnlyPuts name old mid
    → (1 ≤ done → HasBytes old mid name (take done text)) → drop done text ≡ piece ++ left
    → (IsTrue mid.known → Puts (mid.contents name) (now.contents name) done piece) → HasBytes old now name (take (done + length piece) text)
next_printed old mid now name text piece left zero within keeps has parts puts =
    subst (λ (bytes : List ℕ). HasBytes old now name bytes) (sym (piece_taken text piece left zero parts))
    (λ known. (puts (subst IsTrue (sym keeps.as_known) known)).first refl)
next_printed old mid now name text piece left (suc done) within keeps has parts puts =
    subst (λ (bytes : List ℕ). HasBytes old now name bytes) (sym (piece_taken text piece left (suc done) parts))
    (next_piece old mid now name (take (suc done) text) piece (suc done) keeps (has (omega arith)) (sym (length-take-le (suc done) text within)) puts)

-- where nothing is left, all bytes are there
pub all_printed : (old now : ShelfFacts) (name text : List ℕ) (done : ℕ) → 1 ≤ length text → done ≤ length text → drop done text ≡ []
    → (1 ≤ done → HasBytes old now name (take done text)) → HasBytes old now name text
all_printed old now name text done some within end has =
    let all : length text ≤ done = omega (arith, ap (λ (rest : List ℕ). length rest) end, length-drop done text) in
    subst (λ (bytes : List ℕ). HasBytes old now name bytes) (take_all done text all) (has (omega (arith, some, all)))

pub puts_on : (name : List ℕ) (old mid now : ShelfFacts) → OnlyPuts name old mid → OnlyPuts name mid now → OnlyPuts name old now
puts_on name old mid now first second = record {
  as_known = second.as_known ∙ first.as_known;
  others = λ other differs. second.others other differs ∙ first.others other differs;
  later = λ other. le_trans (first.later other) (second.later other);
  puts_later = λ other. le_trans (first.puts_later other) (second.puts_later other);
}

pub same_on : (old mid now : ShelfFacts) → SameCounts old mid → SameCounts mid now → SameCounts old now
same_on old mid now first second = record { reads = second.reads ∙ first.reads; puts = second.puts ∙ first.puts }
