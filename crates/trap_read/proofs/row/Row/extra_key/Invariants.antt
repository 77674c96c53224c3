use Rattle.std.proofs.Common.{◌≡◌, not, find, map, string_bytes}
use Rattle.trap_read.specs.Keys.{has_key, row_view, extra_key}
use Rattle.trap_read.proofs.row.Row.extra_key.Given as goal

-- the first among the keys that are left is the first of all
abbrev pub invariant-loop-key : goal.invariant-loop-key
invariant-loop-key l =
    find (λ key. not (has_key l.fn.self.section key)) (map string_bytes l.key-iterator) ≡ extra_key (row_view l.fn.self)
