-- Lines of a few pieces.
use Rattle.std.specs.Prelude.{ℕ, ◌&&◌, nat_le, if◌then◌else◌, List, [], ◌∷◌, ◌++◌, map, take, codes, decimal}
use Rattle.std.specs.List.{flat_map}
use Rattle.run_answers.specs.declared.piece.Piece.{Piece}
use Rattle.run_answers.specs.declared.piece.Piece.TheVariants.{Text, Number, Name}

-- a byte of a name as it is written: a printable one as it is, and any other as a question mark
abbrev pub printable : ℕ → ℕ
printable byte = if nat_le 32 byte && nat_le byte 126 then byte else 63

-- a name as it is written: its first 64 bytes
abbrev pub name_text : List ℕ → List ℕ
name_text name = map printable (take 64 name)

-- the text of a piece
abbrev pub piece_text : Piece → List ℕ
piece_text (Text text) = text.now
piece_text (Number number) = decimal number
piece_text (Name name) = name_text name.now

-- the line of these texts: one after another, after the program's name and with a line end; without texts
-- there is none
abbrev pub line_text : List (List ℕ) → List ℕ
line_text [] = []
line_text (text ∷ texts) = codes "qccd: " ++ flat_map (λ t. t) (text ∷ texts) ++ codes "\n"
