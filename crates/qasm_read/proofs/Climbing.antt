-- What spells an expression is read as that expression.
use Rattle.std.proofs.Common.{◌≡◌, ℕ, ◌<◌, ◌≤◌, cond, List, [], ◌∷◌, ◌++◌, Option, Some, None, refl, sym, ap, ◌∙◌, append_assoc, arith}
use Rattle.std.proofs.lemmas.Bool.{le-leb, lt-leb}
use Rattle.circuit_core.specs.declared.words.BinOp.{BinOp}
use Rattle.circuit_core.specs.declared.words.BinOp.TheVariants.{Add, Sub, Mul, Div, Pow}
use Rattle.circuit_core.specs.declared.words.FunName.{FunName}
use Rattle.circuit_core.specs.declared.words.FunName.TheVariants as function
use Rattle.qasm_read.specs.declared.exp.Exp.{Exp, roll-Exp}
use Rattle.qasm_read.specs.declared.exp.Exp.TheOpen.{Exp-F}
use Rattle.qasm_read.specs.declared.frame.Frame.{Frame}
use Rattle.qasm_read.specs.declared.frame.Frame.TheVariants.{Parenthesis, Function, Minus, Left}
use Rattle.qasm_read.specs.declared.start.Start.TheVariants as start
use Rattle.qasm_tokens.specs.declared.token.PlacedToken.{PlacedToken}
use Rattle.qasm_tokens.specs.declared.token.Token.{Token}
use Rattle.qasm_tokens.specs.declared.token.Token.TheVariants as token
use Rattle.qasm_tokens.specs.declared.token.Keyword.TheVariants as word
use Rattle.qasm_tokens.specs.declared.token.Sign.TheVariants.{LeftParenthesis, RightParenthesis, Minus as MinusSign}
use Rattle.qasm_read.specs.declared.tree.Tree.{Tree}
use Rattle.qasm_read.specs.Forms.{tokens_of}
use Rattle.qasm_read.specs.Grammar.{Level, expression, term, factor, power, atom, whole_of, left_of, right_of, sign_of, word_of, enclosed, Spells, real, whole, pi, named, applied, in_parentheses, negated, joined, an_atom, a_power, a_factor, a_term}
use Rattle.qasm_read.specs.Reading.{◌>>=◌, next_at}
use Rattle.qasm_read.specs.Trees as trees
use Rattle.qasm_read.specs.Frames.{strength_of, left_hold, hold_of, put_in, reduced}
use Rattle.qasm_read.specs.Starts.{start_of, operator_of}
use Rattle.qasm_read.specs.Expressions.{wanted, there, run, next_operator, tree_at}
use Rattle.qasm_read.proofs.Readers.{at, one_token, skip_front}
use Rattle.qasm_read.proofs.Runs.{wanted_frame, wanted_whole, wanted_function, there_operator, there_closed, there_done}
use Rattle.qasm_read.proofs.Images.{image, image_real, image_int, image_pi, image_id, image_neg, image_fun, image_bin}

-- ---- levels as numbers

-- the frames that an expression of a level leaves open hold so strongly at least
abbrev pub floor_of : Level → ℕ
floor_of expression = 2
floor_of term = 3
floor_of factor = 4
floor_of power = 4
floor_of atom = 5

-- an expression of a level is in frames that hold less strongly than that
abbrev pub ceiling_of : Level → ℕ
ceiling_of expression = 2
ceiling_of term = 3
ceiling_of factor = 5
ceiling_of power = 5
ceiling_of atom = 5

pub ceiling_whole : (op : BinOp) → ceiling_of (whole_of op) ≡ strength_of op
ceiling_whole Add = refl
ceiling_whole Sub = refl
ceiling_whole Mul = refl
ceiling_whole Div = refl
ceiling_whole Pow = refl

pub ceiling_left : (op : BinOp) → ceiling_of (left_of op) ≡ strength_of op
ceiling_left Add = refl
ceiling_left Sub = refl
ceiling_left Mul = refl
ceiling_left Div = refl
ceiling_left Pow = refl

pub floor_left : (op : BinOp) → floor_of (left_of op) ≡ strength_of op
floor_left Add = refl
floor_left Sub = refl
floor_left Mul = refl
floor_left Div = refl
floor_left Pow = refl

pub floor_whole : (op : BinOp) → floor_of (whole_of op) ≡ left_hold op
floor_whole Add = refl
floor_whole Sub = refl
floor_whole Mul = refl
floor_whole Div = refl
floor_whole Pow = refl

floor_right : (op : BinOp) → left_hold op ≤ floor_of (right_of op)
floor_right Add = omega arith
floor_right Sub = omega arith
floor_right Mul = omega arith
floor_right Div = omega arith
floor_right Pow = omega arith

pub hold_right : (op : BinOp) → left_hold op < ceiling_of (right_of op)
hold_right Add = omega arith
hold_right Sub = omega arith
hold_right Mul = omega arith
hold_right Div = omega arith
hold_right Pow = omega arith

-- ---- frames

-- each of them holds so strongly at least
abbrev pub Holding : ℕ → List Frame → Type 0
Holding n [] = Unit {0}
Holding n (f ∷ frames) = (n ≤ hold_of f) × Holding n frames

-- the innermost one holds less strongly
abbrev pub Weak : ℕ → List Frame → Type 0
Weak n [] = Unit {0}
Weak n (f ∷ frames) = hold_of f < n

abbrev pub put_all : List Frame → Option Tree → Option Tree
put_all [] tree = tree
put_all (f ∷ frames) tree = put_all frames (put_in f tree)

Holding-less : (m n : ℕ) (frames : List Frame) → m ≤ n → Holding n frames → Holding m frames
Holding-less m n [] le h = tt
Holding-less m n (f ∷ frames) le h = (omega (arith, h.0), Holding-less m n frames le h.1)

Holding-last : (n : ℕ) (frames : List Frame) (f : Frame) → Holding n frames → n ≤ hold_of f → Holding n (frames ++ f ∷ [])
Holding-last n [] f h le = (le, tt)
Holding-last n (g ∷ frames) f h le = (h.0, Holding-last n frames f h.1 le)

pub Weak-more : (m n : ℕ) (frames : List Frame) → m ≤ n → Weak m frames → Weak n frames
Weak-more m n [] le h = tt
Weak-more m n (f ∷ frames) le h = omega arith

put_last : (frames : List Frame) (f : Frame) (tree : Option Tree) → put_all (frames ++ f ∷ []) tree ≡ put_in f (put_all frames tree)
put_last [] f tree = refl
put_last (g ∷ frames) f tree = put_last frames f (put_in g tree)

reduced_through : (n : ℕ) (inner outer : List Frame) (tree : Option Tree) → Holding n inner → reduced n (inner ++ outer) tree ≡ reduced n outer (put_all inner tree)
unfolding reduced
reduced_through n [] outer tree h = refl
reduced_through n (f ∷ inner) outer tree h = ap (λ b. cond b (reduced n (inner ++ outer) (put_in f tree)) (f ∷ (inner ++ outer), tree)) (le-leb n (hold_of f) h.0) ∙ reduced_through n inner outer (put_in f tree) h.1

pub reduced_stops : (n : ℕ) (frames : List Frame) (tree : Option Tree) → Weak n frames → reduced n frames tree ≡ (frames, tree)
unfolding reduced
reduced_stops n [] tree h = refl
reduced_stops n (f ∷ frames) tree h = ap (λ b. cond b (reduced n frames (put_in f tree)) (f ∷ frames, tree)) (lt-leb n (hold_of f) h)

-- ---- tokens in parts

first_parts : (t : Token) (ts : List Token) (front : List PlacedToken) → tokens_of front ≡ t ∷ ts → (p : PlacedToken) × (more : List PlacedToken) × (front ≡ p ∷ more) × (p.token ≡ t) × (tokens_of more ≡ ts)
first_parts t ts [] e = absurd cc
first_parts t ts (p ∷ more) e = (p, more, refl, cc, cc)

cons_same : (t u : Token) (ts us : List Token) → t ≡ u → ts ≡ us → t ∷ ts ≡ u ∷ us
cons_same t u ts us e f = cc

pub split_parts : (xs ys : List Token) (front : List PlacedToken) → tokens_of front ≡ xs ++ ys → (a : List PlacedToken) × (b : List PlacedToken) × (front ≡ a ++ b) × (tokens_of a ≡ xs) × (tokens_of b ≡ ys)
split_parts [] ys front e = ([], front, refl, refl, e)
split_parts (x ∷ xs) ys front e =
    let f = first_parts x (xs ++ ys) front e in
    let s = split_parts xs ys f.1 f.4 in
    (f.0 ∷ s.0, s.1, f.2 ∙ ap (λ (ts : List PlacedToken). f.0 ∷ ts) s.2, cons_same f.0.token x (tokens_of s.0) xs f.3 s.3, s.4)

-- ---- what has been read when an expression has

pub record Reached (level : Level) (e : Exp) (tokens : List Token) : Type 0 where
  pub frames : List Frame
  pub tree : Option Tree
  pub holding : Holding (floor_of level) frames
  pub whole_tree : put_all frames tree ≡ image e
  pub runs : (front : List PlacedToken) → tokens_of front ≡ tokens → (outer : List Frame) → Weak (ceiling_of level) outer → (rest : List PlacedToken) → run (front ++ rest) (wanted outer) ≡ run rest (there (frames ++ outer) tree)

took : (p : PlacedToken) (rest : List PlacedToken) (t : Token) → p.token ≡ t → next_at (at (p ∷ rest) None) ≡ Some (t, at rest None)
took p rest t e = ap (λ (u : Token). Some (u, at rest None)) e

reached_whole : (t : Token) (e : Exp) → start_of t ≡ start.Whole e → trees.leaf e ≡ image e → Reached atom e (t ∷ [])
reached_whole t e begins is = record {
  frames = [];
  tree = trees.leaf e;
  holding = tt;
  whole_tree = is;
  runs = λ front spelled outer weak rest.
      let o = one_token t front spelled in
      ap (λ (ts : List PlacedToken). run (ts ++ rest) (wanted outer)) o.1 ∙ wanted_whole (at (o.0 ∷ rest) None) (at rest None) t e outer (took o.0 rest t o.2) begins;
}

raise : (low high : Level) (e : Exp) (tokens : List Token) → floor_of high ≤ floor_of low → ceiling_of high ≤ ceiling_of low → Reached low e tokens → Reached high e tokens
raise low high e tokens f c r = record {
  frames = r.frames;
  tree = r.tree;
  holding = Holding-less (floor_of high) (floor_of low) r.frames f r.holding;
  whole_tree = r.whole_tree;
  runs = λ front spelled outer weak rest. r.runs front spelled outer (Weak-more (ceiling_of high) (ceiling_of low) outer c weak) rest;
}

-- an expression, and the parenthesis that closes the frame around it
close_runs : (e : Exp) (tokens : List Token) (f : Frame) → hold_of f ≡ 0 → Reached expression e tokens → (front : List PlacedToken) → tokens_of front ≡ tokens ++ token.Sign RightParenthesis ∷ [] → (outer : List Frame) (rest : List PlacedToken) → run (front ++ rest) (wanted (f ∷ outer)) ≡ run rest (there outer (put_in f (image e)))
close_runs e tokens f unheld r front spelled outer rest =
    let s = split_parts tokens (token.Sign RightParenthesis ∷ []) front spelled in
    let o = one_token (token.Sign RightParenthesis) s.1 s.4 in
    let parts : front ++ rest ≡ s.0 ++ (o.0 ∷ rest) = ap (λ (ts : List PlacedToken). ts ++ rest) (s.2 ∙ ap (λ (ts : List PlacedToken). s.0 ++ ts) o.1) ∙ append_assoc s.0 (o.0 ∷ []) rest in
    let weak : Weak 2 (f ∷ outer) = omega arith in
    let still : Weak 1 (f ∷ outer) = omega arith in
    let all : (f ∷ outer, image e) ≡ reduced 1 (r.frames ++ (f ∷ outer)) r.tree = sym (reduced_through 1 r.frames (f ∷ outer) r.tree (Holding-less 1 2 r.frames (omega arith) r.holding) ∙ reduced_stops 1 (f ∷ outer) (put_all r.frames r.tree) still ∙ ap (λ (t : Option Tree). (f ∷ outer, t)) r.whole_tree) in
    ap (λ (ts : List PlacedToken). run ts (wanted (f ∷ outer))) parts
    ∙ r.runs s.0 s.3 (f ∷ outer) weak (o.0 ∷ rest)
    ∙ there_closed (at (o.0 ∷ rest) None) (at rest None) (r.frames ++ (f ∷ outer)) outer f r.tree (image e) (ap operator_of o.2) all (skip_front RightParenthesis o.0 rest None o.2)

word_starts : (f : FunName) → start_of (word_of f) ≡ start.Function f
word_starts function.Sin = refl
word_starts function.Cos = refl
word_starts function.Tan = refl
word_starts function.Exp = refl
word_starts function.Ln = refl
word_starts function.Sqrt = refl

pub sign_operates : (op : BinOp) → operator_of (sign_of op) ≡ Some op
sign_operates Add = refl
sign_operates Sub = refl
sign_operates Mul = refl
sign_operates Div = refl
sign_operates Pow = refl

reached_applied : (f : FunName) (e : Exp) (tokens : List Token) → Reached expression e tokens → Reached atom (roll-Exp (Exp-F.Fun f e)) (word_of f ∷ enclosed tokens)
reached_applied f e tokens r = record {
  frames = [];
  tree = trees.applied f (image e);
  holding = tt;
  whole_tree = image_fun f e;
  runs = λ front spelled outer weak rest.
      let a = first_parts (word_of f) (enclosed tokens) front spelled in
      let b = first_parts (token.Sign LeftParenthesis) (tokens ++ token.Sign RightParenthesis ∷ []) a.1 a.4 in
      let later = b.1 ++ rest in
      let parts : front ≡ a.0 ∷ b.0 ∷ b.1 = a.2 ∙ ap (λ (ts : List PlacedToken). a.0 ∷ ts) b.2 in
      ap (λ (ts : List PlacedToken). run (ts ++ rest) (wanted outer)) parts
      ∙ wanted_function (at (a.0 ∷ b.0 ∷ later) None) (at (b.0 ∷ later) None) (at later None) (word_of f) f outer (took a.0 (b.0 ∷ later) (word_of f) a.3) (word_starts f) (skip_front LeftParenthesis b.0 later None b.3)
      ∙ close_runs e tokens (Function f) refl r b.1 b.4 outer rest;
}

reached_enclosed : (e : Exp) (tokens : List Token) → Reached expression e tokens → Reached atom e (enclosed tokens)
reached_enclosed e tokens r = record {
  frames = [];
  tree = image e;
  holding = tt;
  whole_tree = refl;
  runs = λ front spelled outer weak rest.
      let a = first_parts (token.Sign LeftParenthesis) (tokens ++ token.Sign RightParenthesis ∷ []) front spelled in
      ap (λ (ts : List PlacedToken). run (ts ++ rest) (wanted outer)) a.2
      ∙ wanted_frame (at (a.0 ∷ (a.1 ++ rest)) None) (at (a.1 ++ rest) None) (token.Sign LeftParenthesis) Parenthesis outer (took a.0 (a.1 ++ rest) (token.Sign LeftParenthesis) a.3) refl
      ∙ close_runs e tokens Parenthesis refl r a.1 a.4 outer rest;
}

moved : (frames : List Frame) (f : Frame) (outer : List Frame) (tree : Option Tree) (rest : List PlacedToken) → run rest (there (frames ++ (f ∷ outer)) tree) ≡ run rest (there ((frames ++ f ∷ []) ++ outer) tree)
moved frames f outer tree rest = ap (λ (fs : List Frame). run rest (there fs tree)) (sym (append_assoc frames (f ∷ []) outer))

reached_negated : (e : Exp) (tokens : List Token) → Reached factor e tokens → Reached factor (roll-Exp (Exp-F.Neg e)) (token.Sign MinusSign ∷ tokens)
reached_negated e tokens r = record {
  frames = r.frames ++ Minus ∷ [];
  tree = r.tree;
  holding = Holding-last 4 r.frames Minus r.holding (omega arith);
  whole_tree = put_last r.frames Minus r.tree ∙ ap (λ (t : Option Tree). trees.negated t) r.whole_tree ∙ image_neg e;
  runs = λ front spelled outer weak rest.
      let a = first_parts (token.Sign MinusSign) tokens front spelled in
      ap (λ (ts : List PlacedToken). run (ts ++ rest) (wanted outer)) a.2
      ∙ wanted_frame (at (a.0 ∷ (a.1 ++ rest)) None) (at (a.1 ++ rest) None) (token.Sign MinusSign) Minus outer (took a.0 (a.1 ++ rest) (token.Sign MinusSign) a.3) refl
      ∙ r.runs a.1 a.4 (Minus ∷ outer) (omega arith) rest
      ∙ moved r.frames Minus outer r.tree rest;
}

reached_joined : (op : BinOp) (a b : Exp) (left right : List Token) → Reached (left_of op) a left → Reached (right_of op) b right → Reached (whole_of op) (roll-Exp (Exp-F.Bin op a b)) (left ++ sign_of op ∷ right)
reached_joined op a b left right ra rb =
    let f : Frame = Left op (image a) in
    record {
      frames = rb.frames ++ f ∷ [];
      tree = rb.tree;
      holding = Holding-last (floor_of (whole_of op)) rb.frames f (Holding-less (floor_of (whole_of op)) (floor_of (right_of op)) rb.frames (omega (arith, floor_whole op, floor_right op)) rb.holding) (omega (arith, floor_whole op));
      whole_tree = put_last rb.frames f rb.tree ∙ ap (λ (t : Option Tree). trees.joined op (image a) t) rb.whole_tree ∙ image_bin op a b;
      runs = λ front spelled outer weak rest.
          let s = split_parts left (sign_of op ∷ right) front spelled in
          let o = first_parts (sign_of op) right s.1 s.4 in
          let later = o.1 ++ rest in
          let parts : front ++ rest ≡ s.0 ++ (o.0 ∷ later) = ap (λ (ts : List PlacedToken). ts ++ rest) (s.2 ∙ ap (λ (ts : List PlacedToken). s.0 ++ ts) o.2) ∙ append_assoc s.0 (o.0 ∷ o.1) rest in
          let weak_left : Weak (ceiling_of (left_of op)) outer = Weak-more (ceiling_of (whole_of op)) (ceiling_of (left_of op)) outer (omega (arith, ceiling_whole op, ceiling_left op)) weak in
          let weak_op : Weak (strength_of op) outer = Weak-more (ceiling_of (whole_of op)) (strength_of op) outer (omega (arith, ceiling_whole op)) weak in
          let holds : Holding (strength_of op) ra.frames = Holding-less (strength_of op) (floor_of (left_of op)) ra.frames (omega (arith, floor_left op)) ra.holding in
          let all : (outer, image a) ≡ reduced (strength_of op) (ra.frames ++ outer) ra.tree = sym (reduced_through (strength_of op) ra.frames outer ra.tree holds ∙ reduced_stops (strength_of op) outer (put_all ra.frames ra.tree) weak_op ∙ ap (λ (t : Option Tree). (outer, t)) ra.whole_tree) in
          let within : Weak (ceiling_of (right_of op)) (f ∷ outer) = hold_right op in
          ap (λ (ts : List PlacedToken). run ts (wanted outer)) parts
          ∙ ra.runs s.0 s.3 outer weak_left (o.0 ∷ later)
          ∙ there_operator (at (o.0 ∷ later) None) (sign_of op) (at later None) op (ra.frames ++ outer) outer ra.tree (image a) (ap operator_of o.3 ∙ sign_operates op) (took o.0 later (sign_of op) o.3) all
          ∙ rb.runs o.1 o.4 (f ∷ outer) within rest
          ∙ moved rb.frames f outer rb.tree rest;
    }

pub climb : (level : Level) (e : Exp) (tokens : List Token) → Spells level e tokens → Reached level e tokens
climb _ _ _ (real r) = reached_whole (token.Real r) (roll-Exp (Exp-F.Real r)) refl (image_real r)
climb _ _ _ (whole n) = reached_whole (token.Integer n) (roll-Exp (Exp-F.Int n)) refl (image_int n)
climb _ _ _ pi = reached_whole (token.Keyword word.Pi) (roll-Exp Exp-F.Pi) refl image_pi
climb _ _ _ (named n) = reached_whole (token.Identifier n) (roll-Exp (Exp-F.Id n)) refl (image_id n)
climb _ _ _ (applied f e tokens h) = reached_applied f e tokens (climb expression e tokens h)
climb _ _ _ (in_parentheses e tokens h) = reached_enclosed e tokens (climb expression e tokens h)
climb _ _ _ (negated e tokens h) = reached_negated e tokens (climb factor e tokens h)
climb _ _ _ (joined op a b left right h k) = reached_joined op a b left right (climb (left_of op) a left h) (climb (right_of op) b right k)
climb _ _ _ (an_atom e tokens h) = raise atom power e tokens (omega arith) (omega arith) (climb atom e tokens h)
climb _ _ _ (a_power e tokens h) = raise power factor e tokens (omega arith) (omega arith) (climb power e tokens h)
climb _ _ _ (a_factor e tokens h) = raise factor term e tokens (omega arith) (omega arith) (climb factor e tokens h)
climb _ _ _ (a_term e tokens h) = raise term expression e tokens (omega arith) (omega arith) (climb term e tokens h)

-- the whole of it, where no operator follows
pub read_whole : (e : Exp) (front rest : List PlacedToken) (large : Option ℕ) → Spells expression e (tokens_of front) → next_operator (at rest None) ≡ None → tree_at (at (front ++ rest) large) ≡ Some (image e, at rest large)
read_whole e front rest large h off =
    let r = climb expression e (tokens_of front) h in
    let all : ([], image e) ≡ reduced 1 (r.frames ++ []) r.tree = sym (reduced_through 1 r.frames [] r.tree (Holding-less 1 2 r.frames (omega arith) r.holding) ∙ reduced_stops 1 [] (put_all r.frames r.tree) tt ∙ ap (λ (t : Option Tree). ([], t)) r.whole_tree) in
    ap (λ o. o >>= λ x. Some (x.0, at x.1 large)) (r.runs front refl [] tt rest ∙ there_done (at rest None) (r.frames ++ []) r.tree (image e) off all)
