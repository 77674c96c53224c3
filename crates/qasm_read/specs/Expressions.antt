-- How an expression is read: token by token, in frames.
use Rattle.std.specs.Prelude.{◌≡◌, ℕ, ◌<◌, List, [], ◌∷◌, length, Option, Some, None, Result, Ok, Err, cond}
use Rattle.std.specs.Option.{option_or}
use Rattle.circuit_core.specs.declared.words.BinOp.{BinOp}
use Rattle.circuit_core.specs.declared.words.FunName.{FunName}
use Rattle.qasm_read.specs.declared.exp.Exp.{Exp, roll-Exp}
use Rattle.qasm_read.specs.declared.exp.Exp.TheOpen.{Exp-F}
use Rattle.qasm_read.specs.declared.frame.Frame.{Frame}
use Rattle.qasm_read.specs.declared.frame.Frame.TheVariants.{Function, Left}
use Rattle.qasm_read.specs.declared.start.Start.TheVariants as start
use Rattle.qasm_read.specs.declared.stop.Stop.{Stop}
use Rattle.qasm_read.specs.declared.stop.Stop.TheVariants.{NoMemory, OtherForm}
use Rattle.qasm_tokens.specs.declared.token.PlacedToken.{PlacedToken}
use Rattle.qasm_tokens.specs.declared.token.Sign.TheVariants.{LeftParenthesis, RightParenthesis}
use Rattle.qasm_read.specs.declared.tree.Tree.{Tree}
use Rattle.qasm_read.specs.Forms.{place_of}
use Rattle.qasm_read.specs.Reading.{State, Reader, ◌>>=◌, is_sign}
use Rattle.qasm_read.specs.Trees.{leaf}
use Rattle.qasm_read.specs.Frames.{strength_of, put_in, reduced}
use Rattle.qasm_read.specs.Starts.{start_of, operator_of}

-- an expression is wanted; a parenthesis is wanted after a function; an expression is there
pub data Mode : Type 0 where
  wanted : List Frame → Mode
  opening : FunName → List Frame → Mode
  there : List Frame → Option Tree → Mode

-- at the end the frames have to be gone
abbrev pub at_end : List Frame × Option Tree → Option (Option Tree × List PlacedToken)
at_end x = elim x.0 [ [] ↦ Some (x.1, []) | f ∷ frames ↦ None ]

-- the expression, and the tokens after it
unfoldable pub run : List PlacedToken → Mode → Option (Option Tree × List PlacedToken)
run [] (wanted frames) = None
run [] (opening f frames) = None
run [] (there frames tree) = at_end (reduced 1 frames tree)
run (p ∷ rest) (wanted frames) = elim (start_of p.token) [
  | start.Frame f ↦ run rest (wanted (f ∷ frames))
  | start.Function f ↦ run rest (opening f frames)
  | start.Whole e ↦ run rest (there frames (leaf e))
  | start.Nothing ↦ None
]
run (p ∷ rest) (opening f frames) =
    cond (is_sign LeftParenthesis p.token) (run rest (wanted (Function f ∷ frames))) None
run (p ∷ rest) (there frames tree) = elim (operator_of p.token) [
  | Some op ↦ run rest
      (wanted (Left op (reduced (strength_of op) frames tree).1 ∷ (reduced (strength_of op) frames tree).0))
  | None ↦ elim (reduced 1 frames tree).0 [
    | [] ↦ Some ((reduced 1 frames tree).1, p ∷ rest)
    | f ∷ outer ↦ cond (is_sign RightParenthesis p.token)
        (run rest (there outer (put_in f (reduced 1 frames tree).1))) None
  ]
]

abbrev pub next_operator : State → Option BinOp
next_operator st = elim st.placed [ [] ↦ None | p ∷ rest ↦ operator_of p.token ]

-- What a function returned and left continues as the tokens do in that mode, unless memory ran out.
abbrev pub Continues : Result (Option Tree) Stop → State → Mode → State → List Frame → Type 0
Continues (Ok tree) before mode now frames =
    (run before.placed mode ≡ run now.placed (there frames tree)) × (now.large ≡ before.large)
    × (length now.placed < length before.placed)
Continues (Err NoMemory) before mode now frames = Unit {0}
Continues (Err OtherForm) before mode now frames = run before.placed mode ≡ None

abbrev pub tree_at : Reader (Option Tree)
tree_at st = run st.placed (wanted []) >>= λ x. Some (x.0, record { placed = x.1; large = st.large })

-- a large expression is read as pi, and its place is kept: there is no program then
abbrev pub kept : Option ℕ → Option Tree × State → Exp × State
kept place x = elim x.0 [
  | Some tree ↦ (tree.exp, x.1)
  | None ↦ (roll-Exp Exp-F.Pi, record { placed = x.1.placed; large = option_or x.1.large place })
]

unfoldable pub exp_at : Reader Exp
exp_at st = tree_at st >>= λ x. Some (kept (place_of st.placed) x)
