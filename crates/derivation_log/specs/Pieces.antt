-- Taking a text in pieces.
use Rattle.std.specs.Prelude.{◌≡◌, ℕ, ◌≤◌, List, [], ◌++◌, length, Option, MatchOption}
use Rattle.std.specs.Borrow.{MutBor, Bor, Fml}
use Rattle.std.specs.Io.BufRead.{Rests}
use Rattle.derivation_log.specs.declared.printer.Printer.{Printer}
use Rattle.derivation_log.specs.contracts.printer.Printer.{the_row}
use mir.Syntax.{named}

-- the piece is the first 1 to 65,536 bytes of the text, and the others are left
pub record IsPiece (text piece left : List ℕ) : Type 0 where
  pub parts : text ≡ piece ++ left
  pub some : 1 ≤ length piece
  pub few : length piece ≤ 65536

-- Once the piece is used, its bytes are gone from the text; where there is none, the text was at its end and
-- still is. (`named 1` is the place of the printer's lifetime in the signature.)
abbrev pub TakesPiece : MutBor Printer → Option (Bor (List ℕ)) → Fml
TakesPiece printer result =
    Rests (the_row (record { mir = named 1; lft = [] })) printer
    (λ left. MatchOption result ((printer.now ≡ []) × (left ≡ [])) (λ piece. IsPiece printer.now piece.now left))
