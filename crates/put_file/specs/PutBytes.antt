-- ---- working notions of private functions: the bytes that are put
use Rattle.std.specs.Prelude.{ℕ, List}
use Rattle.put_file.specs.declared.put.Bytes.{Bytes}
use Rattle.put_file.specs.declared.put.Bytes.TheVariants as bytes

-- what is put
abbrev pub bytes_in : Bytes → List ℕ
bytes_in (bytes.Text text) = text
bytes_in (bytes.Lines certificate) = certificate
