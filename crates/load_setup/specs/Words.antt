-- Words by a linear congruential generator.
use Rattle.std.specs.Prelude.{ℕ, ◌+◌, ◌*◌, ◌/◌, ◌%◌, ◌^◌}

-- the state after that one
unfoldable pub next_state : ℕ → ℕ
next_state state = (state * 6364136223846793005 + 1442695040888963407) % 2 ^ 64

-- the word of a state: its upper bits
abbrev pub word_of : ℕ → ℕ
word_of state = state / 2 ^ 33

-- the first word after a state
abbrev pub word_after : ℕ → ℕ
word_after state = word_of (next_state state)
