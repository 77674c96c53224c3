-- The files of a shelf in memory, one of which is changed or added.
use Rattle.std.proofs.Common.{◌≡◌, ◌≢◌, ℕ, ◌+◌, ◌<◌, ◌≤◌, Bool, true, false, cond, ltb, List, [], ◌∷◌, ◌++◌, length, get_or, Option, Some, None, max, refl, sym, ap, subst, ◌∙◌, arith, length-append}
use Rattle.std.specs.Prelude.{position}
use Rattle.std.specs.List.{position_or_len, slice_get}
use Rattle.std.specs.Option.{option_or}
use Rattle.std.specs.Str.{bytes_eq}
use Rattle.std.proofs.Math.ListN.{set}
use Rattle.std.proofs.lemmas.List.{length-set}
use Rattle.std.proofs.lemmas.Bool.Decides.{nat_tests}
use Rattle.std.proofs.lemmas.Slice.Eq.{bytes_eq-Decides}
use Rattle.std.proofs.lemmas.List.Quantifiers.{position-Some}
use Rattle.std.proofs.lemmas.List.Folds.{find-set, find_past, find-append, find_at}
use Rattle.std.proofs.lemmas.Option.{slice_get-get_or, slice_get_past}
use Rattle.std.proofs.lemmas.Grind.{common_steps}
use Rattle.qc_base.specs.MemShelf.{HeldFile, content_in, room_in, file_of, content_of, put_into, HasNoRoom, with_room, added, after_put, Changes}

-- whether a file has the name
abbrev pub named : List ℕ → HeldFile → Bool
named name file = bytes_eq file.name name

not_true : (b : Bool) → (b ≡ true → ⊥) → b ≡ false
not_true true h = absurd (h refl)
not_true false h = refl

other_name : (file : HeldFile) (name other : List ℕ) → file.name ≡ name → other ≢ name → named other file ≡ false
other_name file name other is apart = not_true (named other file) (λ same. apart (sym ((bytes_eq-Decides file.name other).0 same) ∙ is))

own_name : (file : HeldFile) (name : List ℕ) → file.name ≡ name → named name file ≡ true
own_name file name is = (bytes_eq-Decides file.name name).1 is

at_first : (p : HeldFile → Bool) (files : List HeldFile) (place : ℕ) → position p files ≡ Some place → position_or_len p files ≡ place
at_first p files place at = grind (arith, common_steps)

not_inside : (a b : ℕ) → cond (ltb a b) (Some a) None ≡ None → b ≤ a
not_inside a b e = grind (arith, nat_tests)

-- the file at the first place of that name
pub found_at : (files : List HeldFile) (name : List ℕ) (place : ℕ) (d : HeldFile) → position (named name) files ≡ Some place → file_of files name ≡ Some (get_or files place d)
found_at files name place d at =
    let inside : place < length files = (position-Some (named name) files place d at).0 in
    find_at (named name) files ∙ ap (slice_get files) (at_first (named name) files place at) ∙ slice_get-get_or files place d inside

-- it has the name
pub name_at : (files : List HeldFile) (name : List ℕ) (place : ℕ) (d : HeldFile) → position (named name) files ≡ Some place → (get_or files place d).name ≡ name
name_at files name place d at = (bytes_eq-Decides (get_or files place d).name name).0 (position-Some (named name) files place d at).1

pub found_none : (files : List HeldFile) (name : List ℕ) → position (named name) files ≡ None → file_of files name ≡ None
found_none files name none =
    let past : length files ≤ position_or_len (named name) files = not_inside (position_or_len (named name) files) (length files) none in
    find_at (named name) files ∙ slice_get_past files (position_or_len (named name) files) past

pub changed_at : (files : List HeldFile) (name : List ℕ) (place : ℕ) (file d : HeldFile) → position (named name) files ≡ Some place → file.name ≡ name
    → Changes name file files (set files place file)
changed_at files name place file d at is =
    let before = position-Some (named name) files place d at in
    record {
      found = find-set (named name) files place file (sym (at_first (named name) files place at)) before.0 (own_name file name is);
      others = λ other apart. find_past (named other) files place file d (other_name (get_or files place d) name other (name_at files name place d at) apart) (other_name file name other is apart);
      count = rw (length-set, found_at files name place d at) (omega arith);
    }

last_is : (found : Option HeldFile) → option_or found None ≡ found
last_is None = refl
last_is (Some other) = refl

pub changed_end : (files : List HeldFile) (name : List ℕ) (file : HeldFile) → position (named name) files ≡ None → file.name ≡ name
    → Changes name file files (files ++ file ∷ [])
changed_end files name file none is =
    let own : named name file ≡ true = own_name file name is in
    let before : file_of files name ≡ None = found_none files name none in
    record {
      found = find-append (named name) files (file ∷ []) ∙ simp (own, before) refl;
      others = λ other apart.
          let apart_is : named other file ≡ false = other_name file name other is apart in
          find-append (named other) files (file ∷ []) ∙ simp apart_is (last_is (file_of files other));
      count = rw before (length-append files (file ∷ []));
    }

pub changed_twice : (name : List ℕ) (first second : HeldFile) (a b c : List HeldFile) → Changes name first a b → Changes name second b c → Changes name second a c
changed_twice name first second a b c p q = record {
  found = q.found;
  others = λ other apart. q.others other apart ∙ p.others other apart;
  count = let known : length c ≡ length b + 0 = rw p.found at q.count in known ∙ omega (arith, p.count);
}

-- ---- a file that is given room, or a piece

-- a put from 0 begins the content
pub put_first : (before : Option (List ℕ)) (piece : List ℕ) → put_into before 0 piece ≡ piece
put_first None piece = refl
put_first (Some content) piece = refl

-- the file of a name, by its place
pub file_at : (files : List HeldFile) (name : List ℕ) (place : ℕ) (file : HeldFile) → position (named name) files ≡ Some place → file ≡ get_or files place file → file_of files name ≡ Some file
file_at files name place file at is = found_at files name place file at ∙ ap (λ (f : HeldFile). Some f) (sym is)

own_name_at : (files : List HeldFile) (name : List ℕ) (place : ℕ) (file : HeldFile) → position (named name) files ≡ Some place → file ≡ get_or files place file → file.name ≡ name
own_name_at files name place file at is = ap (λ (f : HeldFile). f.name) is ∙ name_at files name place file at

pub grown_at : (files : List HeldFile) (name : List ℕ) (place bytes : ℕ) (file after : HeldFile) → position (named name) files ≡ Some place → file ≡ get_or files place file
    → after ≡ record file { room = max file.room bytes } → Changes name (with_room files name bytes) files (set files place after)
grown_at files name place bytes file after at here is =
    let own = own_name_at files name place file at here in
    let found = file_at files name place file at here in
    let same : after ≡ with_room files name bytes =
    is ∙ ap (λ (n : List ℕ). record { name = n; content = file.content; room = max file.room bytes }) own
    ∙ sym (ap (λ (f : Option HeldFile). record { name = name; content = content_in f; room = max (room_in f) bytes }) found) in
    let P : HeldFile → Type 0 = λ f. Changes name f files (set files place after) in
    subst P same (changed_at files name place after file at (ap (λ (f : HeldFile). f.name) is ∙ own))

pub grown_end : (files : List HeldFile) (name : List ℕ) (bytes : ℕ) (file : HeldFile) → position (named name) files ≡ None
    → file ≡ record { name = name; content = None; room = bytes } → Changes name (with_room files name bytes) files (files ++ file ∷ [])
grown_end files name bytes file none is =
    let room_is : bytes ≡ max 0 bytes = omega arith in
    let same : file ≡ with_room files name bytes =
    is ∙ ap (λ (room : ℕ). record { name = name; content = None; room = room }) room_is
    ∙ sym (ap (λ (f : Option HeldFile). record { name = name; content = content_in f; room = max (room_in f) bytes }) (found_none files name none)) in
    let P : HeldFile → Type 0 = λ f. Changes name f files (files ++ file ∷ []) in
    subst P same (changed_end files name file none (ap (λ (f : HeldFile). f.name) is))

pub put_at : (files : List HeldFile) (name piece : List ℕ) (place from : ℕ) (file after : HeldFile) → position (named name) files ≡ Some place → file ≡ get_or files place file
    → after ≡ record file { content = Some (put_into file.content from piece) } → Changes name (after_put files name from piece) files (set files place after)
put_at files name piece place from file after at here is =
    let own = own_name_at files name place file at here in
    let found = file_at files name place file at here in
    let same : after ≡ after_put files name from piece =
    is ∙ ap (λ (n : List ℕ). record { name = n; content = Some (put_into file.content from piece); room = file.room }) own
    ∙ sym (ap (λ (f : Option HeldFile). record { name = name; content = Some (put_into (content_in f) from piece); room = room_in f }) found) in
    let P : HeldFile → Type 0 = λ f. Changes name f files (set files place after) in
    subst P same (changed_at files name place after file at (ap (λ (f : HeldFile). f.name) is ∙ own))

-- a file that is given room for its content, and the content then
pub added_by : (a b c : List HeldFile) (name content : List ℕ) → Changes name (with_room a name (length content)) a b → Changes name (after_put b name 0 content) b c
    → Changes name (added a name content) a c
added_by a b c name content first second =
    let start : put_into (content_of b name) 0 content ≡ content = put_first (content_of b name) content in
    let same : after_put b name 0 content ≡ added a name content =
    ap (λ (x : List ℕ). record { name = name; content = Some x; room = room_in (file_of b name) }) start
    ∙ ap (λ (f : Option HeldFile). record { name = name; content = Some content; room = room_in f }) first.found in
    let P : HeldFile → Type 0 = λ f. Changes name f a c in
    subst P same (changed_twice name (with_room a name (length content)) (after_put b name 0 content) a b c first second)

-- there is room for it
pub has_room : (a b : List HeldFile) (name content : List ℕ) → Changes name (with_room a name (length content)) a b → HasNoRoom (file_of b name) 0 content → ⊥
has_room a b name content first past =
    let over = rw first.found at past in
    let start : put_into (content_of a name) 0 content ≡ content = put_first (content_of a name) content in
    let same = ap length start in
    omega (arith, over, same)
