-- Calls that are made again after they were interrupted.
use Rattle.std.proofs.Common.{ℕ, List, Option, Some, None, Result, Ok, Err, IsErr, sym}
use Rattle.std.specs.Io.KnownBytes.{Keeps, ReadConsumes, WriteAppends}

read_kept : {E : Type 0} (a b c : Option (List ℕ)) (outcome : Result ℕ E) (buf : List ℕ) → Keeps a b → ReadConsumes b c outcome buf → ReadConsumes a c outcome buf
read_kept None None c outcome buf p q = q
read_kept None (Some ys) c (Ok n) buf p q = (tt, q.1)
read_kept None (Some ys) c (Err e) buf p q = tt
read_kept (Some xs) None c outcome buf p q = absurd p
read_kept (Some xs) (Some ys) c outcome buf p q = rw (sym p) q

pub read_again : {E F : Type 0} (a b c : Option (List ℕ)) (first : Result ℕ E) (second : Result ℕ F) (before buf : List ℕ) → IsErr first → ReadConsumes a b first before → ReadConsumes b c second buf → ReadConsumes a c second buf
read_again a b c (Ok n) second before buf failed p q = absurd cc
read_again a b c (Err e) second before buf failed p q = read_kept a b c second buf p q

write_kept : {E : Type 0} (a b c : Option (List ℕ)) (outcome : Result ℕ E) (piece : List ℕ) → Keeps a b → WriteAppends b c outcome piece → WriteAppends a c outcome piece
write_kept None None c outcome piece p q = q
write_kept None (Some ys) c (Ok n) piece p q = tt
write_kept None (Some ys) c (Err e) piece p q = tt
write_kept (Some xs) None c outcome piece p q = absurd p
write_kept (Some xs) (Some ys) c outcome piece p q = rw (sym p) q

pub write_again : {E F : Type 0} (a b c : Option (List ℕ)) (first : Result ℕ E) (second : Result ℕ F) (piece : List ℕ) → IsErr first → WriteAppends a b first piece → WriteAppends b c second piece → WriteAppends a c second piece
write_again a b c (Ok n) second piece failed p q = absurd cc
write_again a b c (Err e) second piece failed p q = write_kept a b c second piece p q
