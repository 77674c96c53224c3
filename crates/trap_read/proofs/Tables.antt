-- The table of the bytes, from what `toml` says.
use Rattle.toml.specs.declared.value.Value.{Value}
use Rattle.toml.specs.View.{members_view}
use Rattle.std.proofs.Common.{◌∷◌, [], map, String, Global, string_bytes, ◌≡◌, ℕ, Bool, true, false, cond, List, Option, Some, None, refl, ap, ◌∙◌}
use Rattle.std.specs.Str.{IsUtf8, is_utf8}
use Rattle.std.proofs.lemmas.Str.{IsUtf8-from_is_utf8, is_utf8-from_IsUtf8}
use Rattle.toml.specs.Data.{Members}
use Rattle.toml.specs.Parse.{parse_document}
use Rattle.trap_read.specs.TrapFile.{table_of}
use Rattle.trap_read.specs.Keys.{keys_of}

pub table_of-text : (bytes : List ℕ) (t : Members) → IsUtf8 bytes → parse_document bytes ≡ Some t → table_of bytes ≡ Some t
table_of-text bytes t u e = ap (λ b. cond b (parse_document bytes) None) (is_utf8-from_IsUtf8 bytes u) ∙ e

none_unless : (b : Bool) (o : Option Members) → (b ≡ true → o ≡ None) → cond b o None ≡ None
none_unless true o h = h refl
none_unless false o h = refl

pub table_of-none : (bytes : List ℕ) → (IsUtf8 bytes → parse_document bytes ≡ None) → table_of bytes ≡ None
table_of-none bytes h = none_unless (is_utf8 bytes) (parse_document bytes) (λ e. h (IsUtf8-from_is_utf8 bytes e))

pub keys_of-view : (es : List (String Global × Value)) → keys_of (members_view es) ≡ map string_bytes (map (λ e. e.0) es)
keys_of-view [] = refl
keys_of-view (e ∷ es) = ap (λ ks. string_bytes e.0 ∷ ks) (keys_of-view es)
