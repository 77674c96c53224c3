-- Steps of reading an expression.
use Rattle.std.proofs.Common.{◌≡◌, ℕ, ◌<◌, Bool, true, false, cond, List, [], ◌∷◌, length, Option, Some, None, Result, Ok, Err, nat_le, refl, sym, ap, subst, ◌∙◌, arith}
use Rattle.std.specs.Prelude.{IsErrAnd}
use Rattle.std.proofs.lemmas.Option.{cond_some}
use Rattle.std.proofs.lemmas.Result.{err_from_is_err_and}
use Rattle.circuit_core.specs.declared.words.BinOp.{BinOp}
use Rattle.circuit_core.specs.declared.words.FunName.{FunName}
use Rattle.qasm_read.specs.declared.exp.Exp.{Exp}
use Rattle.qasm_read.specs.declared.frame.Frame.{Frame}
use Rattle.qasm_read.specs.declared.frame.Frame.TheVariants.{Function, Left}
use Rattle.qasm_read.specs.declared.start.Start.{Start}
use Rattle.qasm_read.specs.declared.start.Start.TheVariants as start
use Rattle.qasm_read.specs.declared.stop.Stop.{Stop}
use Rattle.qasm_read.specs.declared.stop.Stop.TheVariants.{NoMemory, OtherForm}
use Rattle.qasm_tokens.specs.declared.token.PlacedToken.{PlacedToken}
use Rattle.qasm_tokens.specs.declared.token.Token.{Token}
use Rattle.qasm_tokens.specs.declared.token.Sign.{Sign}
use Rattle.qasm_tokens.specs.declared.token.Sign.TheVariants.{LeftParenthesis, RightParenthesis}
use Rattle.qasm_read.specs.declared.tree.Tree.{Tree}
use Rattle.qasm_read.specs.Reading.{Gives, State, is_sign, next_at, skip_at}
use Rattle.qasm_read.specs.Trees.{leaf}
use Rattle.qasm_read.specs.Frames.{strength_of, hold_of, put_in, taken, reduced}
use Rattle.qasm_read.specs.Starts.{start_of, operator_of}
use Rattle.qasm_read.specs.Expressions.{Mode, tree_at, Continues, wanted, opening, there, at_end, run, next_operator}
use Rattle.qasm_read.proofs.Readers.{some_is}

-- ---- errors that are handed on

by_cause : {X : Type 0} (e : Stop) (st : State) (read : Option (X × State)) (before : State) (mode : Mode) (now : State) (frames : List Frame) → Gives {X = X} (Err e) st read → (read ≡ None → run before.placed mode ≡ None) → Continues (Err e) before mode now frames
by_cause NoMemory st read before mode now frames given none = tt
by_cause OtherForm st read before mode now frames given none = none given

pub stops : {X : Type 0} (result : Result (Option Tree) Stop) (e : Stop) (st : State) (read : Option (X × State)) (before : State) (mode : Mode) (now : State) (frames : List Frame) → IsErrAnd result (λ x. x ≡ e) → Gives {X = X} (Err e) st read → (read ≡ None → run before.placed mode ≡ None) → Continues result before mode now frames
stops {X} result e st read before mode now frames is given none = let p = err_from_is_err_and result is in rw (p.1, p.2) (by_cause {X = X} e st read before mode now frames given none)

-- ---- frames

one_more : (strength : ℕ) (f g : Frame) (rest frames : List Frame) (tree : Option Tree) (b : Bool) → ◌≡◌ {A = Option Frame × List Frame} (Some f, rest) (cond b (Some g, frames) (None, g ∷ frames)) → cond b (reduced strength frames (put_in g tree)) (g ∷ frames, tree) ≡ reduced strength rest (put_in f tree)
one_more strength f g rest frames tree true e =
    let h : Some f ≡ Some g = ap (λ (p : Option Frame × List Frame). p.0) e in
    let k : rest ≡ frames = ap (λ (p : Option Frame × List Frame). p.1) e in
    let q : f ≡ g = some_is h in
    rw (k, q) refl
one_more strength f g rest frames tree false e = let h : Some f ≡ None = ap (λ (p : Option Frame × List Frame). p.0) e in absurd cc

pub reduced_some : (strength : ℕ) (frames rest : List Frame) (f : Frame) (tree : Option Tree) → (Some f, rest) ≡ taken strength frames → reduced strength frames tree ≡ reduced strength rest (put_in f tree)
unfolding reduced
reduced_some strength [] rest f tree e = let h : Some f ≡ None = ap (λ (p : Option Frame × List Frame). p.0) e in absurd cc
reduced_some strength (g ∷ frames) rest f tree e = one_more strength f g rest frames tree (nat_le strength (hold_of g)) e

no_more : (strength : ℕ) (g : Frame) (rest frames : List Frame) (tree : Option Tree) (b : Bool) → ◌≡◌ {A = Option Frame × List Frame} (None, rest) (cond b (Some g, frames) (None, g ∷ frames)) → cond b (reduced strength frames (put_in g tree)) (g ∷ frames, tree) ≡ (rest, tree)
no_more strength g rest frames tree true e = let h : None ≡ Some g = ap (λ (p : Option Frame × List Frame). p.0) e in absurd cc
no_more strength g rest frames tree false e = ap (λ (p : Option Frame × List Frame). (p.1, tree)) (sym e)

pub reduced_none : (strength : ℕ) (frames rest : List Frame) (tree : Option Tree) → (None, rest) ≡ taken strength frames → reduced strength frames tree ≡ (rest, tree)
unfolding reduced
reduced_none strength [] rest tree e = ap (λ (p : Option Frame × List Frame). (p.1, tree)) (sym e)
reduced_none strength (g ∷ frames) rest tree e = no_more strength g rest frames tree (nat_le strength (hold_of g)) e

-- ---- tokens

-- the token that was taken, and what it was taken from
pub record Taken (st : State) (t : Token) (after : State) : Type 0 where
  pub at : ℕ
  pub parts : st.placed ≡ record { at = at; token = t } ∷ after.placed
  pub large : after.large ≡ st.large

next_taken : (placed : List PlacedToken) (large : Option ℕ) (t : Token) (after : State) → next_at (record { placed = placed; large = large }) ≡ Some (t, after) → Taken (record { placed = placed; large = large }) t after
next_taken [] large t after e = absurd cc
next_taken (p ∷ rest) large t after e =
    let q : (p.token, record { placed = rest; large = large }) ≡ (t, after) = some_is e in
    subst (λ (r : Token × State). Taken (record { placed = p ∷ rest; large = large }) r.0 r.1) q (record { at = p.at; parts = refl; large = refl })

pub taken_by : (st : State) (t : Token) (after : State) → next_at st ≡ Some (t, after) → Taken st t after
taken_by st t after e = next_taken st.placed st.large t after e

none_left : (placed : List PlacedToken) (large : Option ℕ) → next_at (record { placed = placed; large = large }) ≡ None → placed ≡ []
none_left [] large e = refl
none_left (p ∷ rest) large e = absurd cc

-- ---- where an expression is wanted

abbrev pub Outcome : Type 0
Outcome = Option (Option Tree × List PlacedToken)

abbrev pub begun : List PlacedToken → List Frame → Start → Outcome
begun rest frames s = elim s [
  | start.Frame f ↦ run rest (wanted (f ∷ frames))
  | start.Function f ↦ run rest (opening f frames)
  | start.Whole e ↦ run rest (there frames (leaf e))
  | start.Nothing ↦ None
]

pub wanted_is : (p : PlacedToken) (rest : List PlacedToken) (frames : List Frame) → run (p ∷ rest) (wanted frames) ≡ begun rest frames (start_of p.token)
unfolding run
wanted_is p rest frames = refl

wanted_step : (st after : State) (t : Token) (s : Start) (frames : List Frame) → next_at st ≡ Some (t, after) → start_of t ≡ s → run st.placed (wanted frames) ≡ begun after.placed frames s
wanted_step st after t s frames e is = let k = taken_by st t after e in ap (λ (ts : List PlacedToken). run ts (wanted frames)) k.parts ∙ wanted_is (record { at = k.at; token = t }) after.placed frames ∙ ap (λ (x : Start). begun after.placed frames x) is

pub wanted_none : (st : State) (frames : List Frame) → next_at st ≡ None → run st.placed (wanted frames) ≡ None
unfolding run
wanted_none st frames e = rw (none_left st.placed st.large e) refl

pub wanted_frame : (st after : State) (t : Token) (f : Frame) (frames : List Frame) → next_at st ≡ Some (t, after) → start_of t ≡ start.Frame f → run st.placed (wanted frames) ≡ run after.placed (wanted (f ∷ frames))
wanted_frame st after t f frames e s = wanted_step st after t (start.Frame f) frames e s

pub wanted_whole : (st after : State) (t : Token) (w : Exp) (frames : List Frame) → next_at st ≡ Some (t, after) → start_of t ≡ start.Whole w → run st.placed (wanted frames) ≡ run after.placed (there frames (leaf w))
wanted_whole st after t w frames e s = wanted_step st after t (start.Whole w) frames e s

pub wanted_nothing : (st after : State) (t : Token) (frames : List Frame) → next_at st ≡ Some (t, after) → start_of t ≡ start.Nothing → run st.placed (wanted frames) ≡ None
wanted_nothing st after t frames e s = wanted_step st after t start.Nothing frames e s

open_parts : (placed : List PlacedToken) (large : Option ℕ) (after : State) (f : FunName) (frames : List Frame) → skip_at LeftParenthesis (record { placed = placed; large = large }) ≡ Some (tt, after) → run placed (opening f frames) ≡ run after.placed (wanted (Function f ∷ frames))
unfolding run
open_parts [] large after f frames e = absurd cc
open_parts (p ∷ rest) large after f frames e =
    let g = cond_some (is_sign LeftParenthesis p.token) (tt, record { placed = rest; large = large }) (tt, after) e in
    rw g.0 (ap (λ (q : Unit {0} × State). run q.1.placed (wanted (Function f ∷ frames))) g.1)

refused : {A B : Type 0} (b : Bool) (x : A) (y : Option B) → cond b (Some x) None ≡ None → cond b y None ≡ None
refused true x y e = absurd cc
refused false x y e = refl

open_none : (placed : List PlacedToken) (large : Option ℕ) (f : FunName) (frames : List Frame) → skip_at LeftParenthesis (record { placed = placed; large = large }) ≡ None → run placed (opening f frames) ≡ None
unfolding run
open_none [] large f frames e = refl
open_none (p ∷ rest) large f frames e = refused (is_sign LeftParenthesis p.token) (tt, record { placed = rest; large = large }) (run rest (wanted (Function f ∷ frames))) e

pub wanted_function : (st mid after : State) (t : Token) (f : FunName) (frames : List Frame) → next_at st ≡ Some (t, mid) → start_of t ≡ start.Function f → skip_at LeftParenthesis mid ≡ Some (tt, after) → run st.placed (wanted frames) ≡ run after.placed (wanted (Function f ∷ frames))
wanted_function st mid after t f frames e s skipped = wanted_step st mid t (start.Function f) frames e s ∙ open_parts mid.placed mid.large after f frames skipped

pub wanted_unopened : (st mid : State) (t : Token) (f : FunName) (frames : List Frame) → next_at st ≡ Some (t, mid) → start_of t ≡ start.Function f → skip_at LeftParenthesis mid ≡ None → run st.placed (wanted frames) ≡ None
wanted_unopened st mid t f frames e s skipped = wanted_step st mid t (start.Function f) frames e s ∙ open_none mid.placed mid.large f frames skipped

-- ---- after an expression

abbrev pub closing : PlacedToken → List PlacedToken → List Frame × Option Tree → Outcome
closing p rest x = elim x.0 [
  | [] ↦ Some (x.1, p ∷ rest)
  | f ∷ outer ↦ cond (is_sign RightParenthesis p.token) (run rest (there outer (put_in f x.1))) None
]

abbrev pub followed : PlacedToken → List PlacedToken → List Frame → Option Tree → Option BinOp → Outcome
followed p rest frames tree o = elim o [
  | Some op ↦ run rest (wanted (Left op (reduced (strength_of op) frames tree).1 ∷ (reduced (strength_of op) frames tree).0))
  | None ↦ closing p rest (reduced 1 frames tree)
]

pub there_is : (p : PlacedToken) (rest : List PlacedToken) (frames : List Frame) (tree : Option Tree) → run (p ∷ rest) (there frames tree) ≡ followed p rest frames tree (operator_of p.token)
unfolding run
there_is p rest frames tree = refl

pub none_is : (frames : List Frame) (tree : Option Tree) → run [] (there frames tree) ≡ at_end (reduced 1 frames tree)
unfolding run
none_is frames tree = refl

there_step : (placed : List PlacedToken) (large : Option ℕ) (t : Token) (after : State) (op : BinOp) (frames outer : List Frame) (tree left : Option Tree) → next_operator (record { placed = placed; large = large }) ≡ Some op → next_at (record { placed = placed; large = large }) ≡ Some (t, after) → (outer, left) ≡ reduced (strength_of op) frames tree → run placed (there frames tree) ≡ run after.placed (wanted (Left op left ∷ outer))
there_step [] large t after op frames outer tree left o e r = absurd cc
there_step (p ∷ rest) large t after op frames outer tree left o e r =
    let q : (p.token, record { placed = rest; large = large }) ≡ (t, after) = some_is e in
    there_is p rest frames tree ∙ ap (λ (x : Option BinOp). followed p rest frames tree x) o
    ∙ ap (λ (x : List Frame × Option Tree). run rest (wanted (Left op x.1 ∷ x.0))) (sym r)
    ∙ ap (λ (x : Token × State). run x.1.placed (wanted (Left op left ∷ outer))) q

pub there_operator : (st : State) (t : Token) (after : State) (op : BinOp) (frames outer : List Frame) (tree left : Option Tree) → next_operator st ≡ Some op → next_at st ≡ Some (t, after) → (outer, left) ≡ reduced (strength_of op) frames tree → run st.placed (there frames tree) ≡ run after.placed (wanted (Left op left ∷ outer))
there_operator st t after op frames outer tree left o e r = there_step st.placed st.large t after op frames outer tree left o e r

-- no operator comes, and that is what the frames give
leaves : (p : PlacedToken) (rest : List PlacedToken) (frames : List Frame) (tree : Option Tree) (x : List Frame × Option Tree) → operator_of p.token ≡ None → x ≡ reduced 1 frames tree → run (p ∷ rest) (there frames tree) ≡ closing p rest x
leaves p rest frames tree x o r = there_is p rest frames tree ∙ ap (λ (y : Option BinOp). followed p rest frames tree y) o ∙ ap (λ (y : List Frame × Option Tree). closing p rest y) (sym r)

leaves_end : (frames : List Frame) (tree : Option Tree) (x : List Frame × Option Tree) → x ≡ reduced 1 frames tree → run [] (there frames tree) ≡ at_end x
leaves_end frames tree x r = none_is frames tree ∙ ap (λ (y : List Frame × Option Tree). at_end y) (sym r)

done_parts : (placed : List PlacedToken) (large : Option ℕ) (frames : List Frame) (tree inner : Option Tree) → next_operator (record { placed = placed; large = large }) ≡ None → ([], inner) ≡ reduced 1 frames tree → run placed (there frames tree) ≡ Some (inner, placed)
done_parts [] large frames tree inner o r = leaves_end frames tree ([], inner) r
done_parts (p ∷ rest) large frames tree inner o r = leaves p rest frames tree ([], inner) o r

pub there_done : (st : State) (frames : List Frame) (tree inner : Option Tree) → next_operator st ≡ None → ([], inner) ≡ reduced 1 frames tree → run st.placed (there frames tree) ≡ Some (inner, st.placed)
there_done st frames tree inner o r = done_parts st.placed st.large frames tree inner o r

closed_parts : (placed : List PlacedToken) (large : Option ℕ) (after : State) (frames outer : List Frame) (f : Frame) (tree inner : Option Tree) → next_operator (record { placed = placed; large = large }) ≡ None → (f ∷ outer, inner) ≡ reduced 1 frames tree → skip_at RightParenthesis (record { placed = placed; large = large }) ≡ Some (tt, after) → run placed (there frames tree) ≡ run after.placed (there outer (put_in f inner))
closed_parts [] large after frames outer f tree inner o r e = absurd cc
closed_parts (p ∷ rest) large after frames outer f tree inner o r e =
    let g = cond_some (is_sign RightParenthesis p.token) (tt, record { placed = rest; large = large }) (tt, after) e in
    leaves p rest frames tree (f ∷ outer, inner) o r
    ∙ ap (λ b. cond b (run rest (there outer (put_in f inner))) None) g.0
    ∙ ap (λ (q : Unit {0} × State). run q.1.placed (there outer (put_in f inner))) g.1

pub there_closed : (st after : State) (frames outer : List Frame) (f : Frame) (tree inner : Option Tree) → next_operator st ≡ None → (f ∷ outer, inner) ≡ reduced 1 frames tree → skip_at RightParenthesis st ≡ Some (tt, after) → run st.placed (there frames tree) ≡ run after.placed (there outer (put_in f inner))
there_closed st after frames outer f tree inner o r e = closed_parts st.placed st.large after frames outer f tree inner o r e

unclosed_parts : (placed : List PlacedToken) (large : Option ℕ) (frames outer : List Frame) (f : Frame) (tree inner : Option Tree) → next_operator (record { placed = placed; large = large }) ≡ None → (f ∷ outer, inner) ≡ reduced 1 frames tree → skip_at RightParenthesis (record { placed = placed; large = large }) ≡ None → run placed (there frames tree) ≡ None
unclosed_parts [] large frames outer f tree inner o r e = leaves_end frames tree (f ∷ outer, inner) r
unclosed_parts (p ∷ rest) large frames outer f tree inner o r e = leaves p rest frames tree (f ∷ outer, inner) o r ∙ refused (is_sign RightParenthesis p.token) (tt, record { placed = rest; large = large }) (run rest (there outer (put_in f inner))) e

pub there_unclosed : (st : State) (frames outer : List Frame) (f : Frame) (tree inner : Option Tree) → next_operator st ≡ None → (f ∷ outer, inner) ≡ reduced 1 frames tree → skip_at RightParenthesis st ≡ None → run st.placed (there frames tree) ≡ None
there_unclosed st frames outer f tree inner o r e = unclosed_parts st.placed st.large frames outer f tree inner o r e

-- ---- from a step on

pub continues_from : (result : Result (Option Tree) Stop) (before mid : State) (mode next : Mode) (now : State) (frames : List Frame) → run before.placed mode ≡ run mid.placed next → mid.large ≡ before.large → length mid.placed < length before.placed → Continues result mid next now frames → Continues result before mode now frames
continues_from (Ok tree) before mid mode next now frames same large fewer c = (same ∙ c.0, c.1 ∙ large, omega (arith, c.2))
continues_from (Err NoMemory) before mid mode next now frames same large fewer c = tt
continues_from (Err OtherForm) before mid mode next now frames same large fewer c = same ∙ c

pub taken_fewer : (st : State) (t : Token) (after : State) → next_at st ≡ Some (t, after) → length after.placed < length st.placed
taken_fewer st t after e = let k = taken_by st t after e in rw k.parts (omega arith)

-- ---- the whole expression

pub tree_found : (st now : State) (tree : Option Tree) → run st.placed (wanted []) ≡ Some (tree, now.placed) → now.large ≡ st.large → tree_at st ≡ Some (tree, now)
tree_found st now tree e large = rw (e, ← large) refl

pub tree_none : (st : State) → run st.placed (wanted []) ≡ None → tree_at st ≡ None
tree_none st e = rw e refl

tree_cause : {X : Type 0} (e : Stop) (mid : State) (read : Option (X × State)) (st now : State) → Gives {X = X} (Err e) mid read → (read ≡ None → run st.placed (wanted []) ≡ None) → Gives {X = Option Tree} (Err e) now (tree_at st)
tree_cause NoMemory mid read st now given none = tt
tree_cause OtherForm mid read st now given none = tree_none st (none given)

pub tree_stops : {X : Type 0} (result : Result (Option Tree) Stop) (e : Stop) (mid : State) (read : Option (X × State)) (st now : State) → IsErrAnd result (λ x. x ≡ e) → Gives {X = X} (Err e) mid read → (read ≡ None → run st.placed (wanted []) ≡ None) → Gives result now (tree_at st)
tree_stops {X} result e mid read st now is given none = let p = err_from_is_err_and result is in rw (p.1, p.2) (tree_cause {X = X} e mid read st now given none)

-- a sign that was taken
skip_taken : (s : Sign) (placed : List PlacedToken) (large : Option ℕ) (after : State) → skip_at s (record { placed = placed; large = large }) ≡ Some (tt, after) → (after.large ≡ large) × (length after.placed < length placed)
skip_taken s [] large after e = absurd cc
skip_taken s (p ∷ rest) large after e =
    let g = cond_some (is_sign s p.token) (tt, record { placed = rest; large = large }) (tt, after) e in
    subst (λ (q : Unit {0} × State). (q.1.large ≡ large) × (length q.1.placed < length (p ∷ rest))) g.1 (refl, omega arith)

pub skip_large : (s : Sign) (st after : State) → skip_at s st ≡ Some (tt, after) → after.large ≡ st.large
skip_large s st after e = (skip_taken s st.placed st.large after e).0
