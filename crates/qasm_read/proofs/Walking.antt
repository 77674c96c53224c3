-- What is read as an expression spells it.
use Rattle.std.proofs.Common.{◌≡◌, ℕ, ◌<◌, ◌≤◌, Bool, true, false, cond, leb, List, [], ◌∷◌, ◌++◌, Option, Some, None, refl, sym, ap, subst, ◌∙◌, append_assoc, arith}
use Rattle.std.proofs.lemmas.Bool.{leb-true, leb-false}
use Rattle.std.proofs.lemmas.List.{append-nil}
use Rattle.circuit_core.specs.declared.words.BinOp.{BinOp}
use Rattle.circuit_core.specs.declared.words.BinOp.TheVariants.{Add, Sub, Mul, Div, Pow}
use Rattle.circuit_core.specs.declared.words.FunName.{FunName}
use Rattle.circuit_core.specs.declared.words.FunName.TheVariants as function
use Rattle.qasm_read.specs.declared.exp.Exp.{Exp, roll-Exp}
use Rattle.qasm_read.specs.declared.exp.Exp.TheOpen.{Exp-F}
use Rattle.qasm_read.specs.declared.frame.Frame.{Frame}
use Rattle.qasm_read.specs.declared.frame.Frame.TheVariants.{Parenthesis, Function, Minus, Left}
use Rattle.qasm_tokens.specs.declared.token.PlacedToken.{PlacedToken}
use Rattle.qasm_tokens.specs.declared.token.Token.{Token}
use Rattle.qasm_tokens.specs.declared.token.Token.TheVariants as token
use Rattle.qasm_tokens.specs.declared.token.Keyword.TheVariants as word
use Rattle.qasm_tokens.specs.declared.token.Sign.TheVariants as signs
use Rattle.qasm_read.specs.declared.tree.Tree.{Tree}
use Rattle.qasm_read.specs.Forms.{tokens_of}
use Rattle.qasm_read.specs.Grammar.{Level, expression, term, factor, power, atom, whole_of, left_of, right_of, sign_of, word_of, enclosed, Spells, real, whole, pi, named, applied, in_parentheses, negated, joined, an_atom, a_power, a_factor, a_term}
use Rattle.qasm_read.specs.Reading.{is_sign}
use Rattle.qasm_read.specs.Trees as trees
use Rattle.qasm_read.specs.Frames.{strength_of, left_hold, hold_of, put_in, reduced}
use Rattle.qasm_read.specs.Starts.{start_of, operator_of}
use Rattle.qasm_read.specs.Expressions.{Mode, wanted, opening, there, at_end, run}
use Rattle.qasm_read.proofs.Readers.{is_sign-true, some_is, along}
use Rattle.qasm_read.proofs.Runs.{begun, closing, followed}
use Rattle.qasm_read.proofs.Images.{image, image_real, image_int, image_pi, image_id, image_neg, image_fun, image_bin}
use Rattle.qasm_read.proofs.Climbing.{floor_of, ceiling_of, ceiling_whole, floor_whole, Weak, Weak-more}

-- ---- from level to level

to_expression : (level : Level) (e : Exp) (ts : List Token) → Spells level e ts → Spells expression e ts
to_expression expression e ts h = h
to_expression term e ts h = a_term e ts h
to_expression factor e ts h = a_term e ts (a_factor e ts h)
to_expression power e ts h = a_term e ts (a_factor e ts (a_power e ts h))
to_expression atom e ts h = a_term e ts (a_factor e ts (a_power e ts (an_atom e ts h)))

to_term : (level : Level) (e : Exp) (ts : List Token) → 2 < ceiling_of level → Spells level e ts → Spells term e ts
to_term expression e ts lt h = absurd (omega arith)
to_term term e ts lt h = h
to_term factor e ts lt h = a_factor e ts h
to_term power e ts lt h = a_factor e ts (a_power e ts h)
to_term atom e ts lt h = a_factor e ts (a_power e ts (an_atom e ts h))

to_factor : (level : Level) (e : Exp) (ts : List Token) → 3 < ceiling_of level → Spells level e ts → Spells factor e ts
to_factor expression e ts lt h = absurd (omega arith)
to_factor term e ts lt h = absurd (omega arith)
to_factor factor e ts lt h = h
to_factor power e ts lt h = a_power e ts h
to_factor atom e ts lt h = a_power e ts (an_atom e ts h)

to_right : (op : BinOp) (level : Level) (e : Exp) (ts : List Token) → left_hold op < ceiling_of level → Spells level e ts → Spells (right_of op) e ts
to_right Add level e ts lt h = to_term level e ts lt h
to_right Sub level e ts lt h = to_term level e ts lt h
to_right Mul level e ts lt h = to_factor level e ts lt h
to_right Div level e ts lt h = to_factor level e ts lt h
to_right Pow level e ts lt h = to_factor level e ts (omega arith) h

low_term : (level : Level) (e : Exp) (ts : List Token) → 3 ≤ floor_of level → Spells level e ts → Spells term e ts
low_term expression e ts le h = absurd (omega arith)
low_term term e ts le h = h
low_term factor e ts le h = a_factor e ts h
low_term power e ts le h = a_factor e ts (a_power e ts h)
low_term atom e ts le h = a_factor e ts (a_power e ts (an_atom e ts h))

low_atom : (level : Level) (e : Exp) (ts : List Token) → 5 ≤ floor_of level → Spells level e ts → Spells atom e ts
low_atom expression e ts le h = absurd (omega arith)
low_atom term e ts le h = absurd (omega arith)
low_atom factor e ts le h = absurd (omega arith)
low_atom power e ts le h = absurd (omega arith)
low_atom atom e ts le h = h

to_left : (op : BinOp) (level : Level) (e : Exp) (ts : List Token) → strength_of op ≤ floor_of level → Spells level e ts → Spells (left_of op) e ts
to_left Add level e ts le h = to_expression level e ts h
to_left Sub level e ts le h = to_expression level e ts h
to_left Mul level e ts le h = low_term level e ts le h
to_left Div level e ts le h = low_term level e ts le h
to_left Pow level e ts le h = low_atom level e ts le h

-- ---- what the frames stand for

-- the tokens that these frames stand for, from the outermost on
abbrev Opened : List Frame → List Token → Type 0
Opened [] ts = ts ≡ []
Opened (Parenthesis ∷ frames) ts = (us : List Token) × Opened frames us × (ts ≡ us ++ (token.Sign signs.LeftParenthesis ∷ []))
Opened (Function f ∷ frames) ts = (us : List Token) × Opened frames us × (ts ≡ us ++ (word_of f ∷ token.Sign signs.LeftParenthesis ∷ []))
Opened (Minus ∷ frames) ts = (us : List Token) × Opened frames us × (ts ≡ us ++ (token.Sign signs.Minus ∷ []))
Opened (Left op left ∷ frames) ts = (us : List Token) × (vs : List Token) × (e : Exp) × Opened frames us × Spells (left_of op) e vs × (left ≡ image e) × Weak (ceiling_of (whole_of op)) frames × (ts ≡ us ++ (vs ++ sign_of op ∷ []))

-- frames and an expression in them
record Stood (frames : List Frame) (tree : Option Tree) (ts : List Token) : Type 0 where
  before : List Token
  own : List Token
  e : Exp
  level : Level
  opened : Opened frames before
  spells : Spells level e own
  tree_is : tree ≡ image e
  parts : ts ≡ before ++ own
  weak : Weak (ceiling_of level) frames

low_hold : (f : Frame) → hold_of f < 5
low_hold Parenthesis = omega arith
low_hold (Function f) = omega arith
low_hold Minus = omega arith
low_hold (Left Add left) = omega arith
low_hold (Left Sub left) = omega arith
low_hold (Left Mul left) = omega arith
low_hold (Left Div left) = omega arith
low_hold (Left Pow left) = omega arith

all_weak : (frames : List Frame) → Weak 5 frames
all_weak [] = tt
all_weak (f ∷ frames) = low_hold f

record PutIn (f : Frame) (frames : List Frame) (tree : Option Tree) (ts : List Token) : Type 0 where
  stood : Stood frames (put_in f tree) ts
  high : hold_of f ≤ floor_of stood.level

-- a frame is put around the expression
put_stood : (f : Frame) (frames : List Frame) (tree : Option Tree) (ts : List Token) → Stood (f ∷ frames) tree ts → 0 < hold_of f → PutIn f frames tree ts
put_stood Parenthesis frames tree ts s holds = absurd (omega arith)
put_stood (Function f) frames tree ts s holds = absurd (omega arith)
put_stood Minus frames tree ts s holds = record {
  stood = record {
    before = s.opened.0;
    own = token.Sign signs.Minus ∷ s.own;
    e = roll-Exp (Exp-F.Neg s.e);
    level = factor;
    opened = s.opened.1;
    spells = negated s.e s.own (to_factor s.level s.e s.own (let w = s.weak in omega arith) s.spells);
    tree_is = ap (λ (t : Option Tree). trees.negated t) s.tree_is ∙ image_neg s.e;
    parts = s.parts ∙ ap (λ (us : List Token). us ++ s.own) s.opened.2 ∙ append_assoc s.opened.0 (token.Sign signs.Minus ∷ []) s.own;
    weak = all_weak frames;
  };
  high = omega arith;
}
put_stood (Left op left) frames tree ts s holds = record {
  stood = record {
    before = s.opened.0;
    own = s.opened.1 ++ (sign_of op ∷ s.own);
    e = roll-Exp (Exp-F.Bin op s.opened.2 s.e);
    level = whole_of op;
    opened = s.opened.3;
    spells = joined op s.opened.2 s.e s.opened.1 s.own s.opened.4 (to_right op s.level s.e s.own s.weak s.spells);
    tree_is = ap (λ (t : Option Tree). trees.joined op t tree) s.opened.5 ∙ ap (λ (t : Option Tree). trees.joined op (image s.opened.2) t) s.tree_is ∙ image_bin op s.opened.2 s.e;
    parts = s.parts ∙ ap (λ (us : List Token). us ++ s.own) s.opened.7 ∙ append_assoc s.opened.0 (s.opened.1 ++ sign_of op ∷ []) s.own ∙ ap (λ (us : List Token). s.opened.0 ++ us) (append_assoc s.opened.1 (sign_of op ∷ []) s.own);
    weak = s.opened.6;
  };
  high = omega (arith, floor_whole op);
}

-- what is left when all frames that hold so strongly are put around the expression
record Rests (n : ℕ) (frames : List Frame) (tree : Option Tree) (ts : List Token) : Type 0 where
  stood : Stood frames tree ts
  high : n ≤ floor_of stood.level
  low : Weak n frames

rests_by : (n : ℕ) (f : Frame) (frames : List Frame) (tree : Option Tree) (ts : List Token) (b : Bool) → leb n (hold_of f) ≡ b → 0 < n → (s : Stood (f ∷ frames) tree ts) → n ≤ floor_of s.level
    → ((s : Stood frames (put_in f tree) ts) → n ≤ floor_of s.level → Rests n (reduced n frames (put_in f tree)).0 (reduced n frames (put_in f tree)).1 ts)
    → Rests n (cond b (reduced n frames (put_in f tree)) (f ∷ frames, tree)).0 (cond b (reduced n frames (put_in f tree)) (f ∷ frames, tree)).1 ts
rests_by n f frames tree ts true is pos s high more =
    let le = leb-true n (hold_of f) is in
    let p = put_stood f frames tree ts s (omega arith) in
    more p.stood (omega (arith, p.high))
rests_by n f frames tree ts false is pos s high more = record { stood = s; high = high; low = leb-false n (hold_of f) is }

rests : (n : ℕ) → 0 < n → (frames : List Frame) (tree : Option Tree) (ts : List Token) (s : Stood frames tree ts) → n ≤ floor_of s.level → Rests n (reduced n frames tree).0 (reduced n frames tree).1 ts
unfolding reduced
rests n pos [] tree ts s high = record { stood = s; high = high; low = tt }
rests n pos (f ∷ frames) tree ts s high = rests_by n f frames tree ts (leb n (hold_of f)) refl pos s high (λ s high. rests n pos frames (put_in f tree) ts s high)

-- ---- the whole

-- the tokens so far, in a mode
abbrev Fits : Mode → List Token → Type 0
Fits (wanted frames) ts = Opened frames ts
Fits (opening f frames) ts = (us : List Token) × Opened frames us × (ts ≡ us ++ (word_of f ∷ []))
Fits (there frames tree) ts = (us : List Token) × (vs : List Token) × (e : Exp) × Opened frames us × Spells atom e vs × (tree ≡ image e) × (ts ≡ us ++ vs)

-- an expression that the tokens so far and those of the front spell
pub record Got (ts : List Token) (placed : List PlacedToken) (tree : Option Tree) (rest : List PlacedToken) : Type 0 where
  pub e : Exp
  pub front : List PlacedToken
  pub spells : Spells expression e (ts ++ tokens_of front)
  pub tree_is : tree ≡ image e
  pub parts : placed ≡ front ++ rest

got_more : (ts : List Token) (p : PlacedToken) (t : Token) (placed : List PlacedToken) (tree : Option Tree) (rest : List PlacedToken) → p.token ≡ t → Got (ts ++ t ∷ []) placed tree rest → Got ts (p ∷ placed) tree rest
got_more ts p t placed tree rest e g = record {
  e = g.e;
  front = p ∷ g.front;
  spells = subst (λ (us : List Token). Spells expression g.e us) (append_assoc ts (t ∷ []) (tokens_of g.front) ∙ ap (λ (u : Token). ts ++ (u ∷ tokens_of g.front)) (sym e)) g.spells;
  tree_is = g.tree_is;
  parts = ap (λ (ps : List PlacedToken). p ∷ ps) g.parts;
}

got_here : (ts : List Token) (frames : List Frame) (tree : Option Tree) (placed : List PlacedToken) → frames ≡ [] → Stood frames tree ts → Got ts placed tree placed
got_here ts frames tree placed none s =
    let own : ts ≡ s.own = s.parts ∙ ap (λ (us : List Token). us ++ s.own) (subst (λ (fs : List Frame). Opened fs s.before) none s.opened) in
    record {
      e = s.e;
      front = [];
      spells = subst (λ (us : List Token). Spells expression s.e us) (sym own ∙ sym (append-nil ts)) (to_expression s.level s.e s.own s.spells);
      tree_is = s.tree_is;
      parts = refl;
    }

abbrev atom_stood : (frames : List Frame) (tree : Option Tree) (ts : List Token) → Fits (there frames tree) ts → Stood frames tree ts
atom_stood frames tree ts f = record { before = f.0; own = f.1; e = f.2; level = atom; opened = f.3; spells = f.4; tree_is = f.5; parts = f.6; weak = all_weak frames }

-- what is known of the tokens after
abbrev Onward : List PlacedToken → Option Tree → List PlacedToken → Type 0
Onward rest tree left = (mode : Mode) (ts : List Token) → Fits mode ts → run rest mode ≡ Some (tree, left) → Got ts rest tree left

at_last : (ts : List Token) (frames : List Frame) (tree : Option Tree) (found : Option Tree) (left : List PlacedToken) → Stood frames tree ts → at_end (frames, tree) ≡ Some (found, left) → Got ts [] found left
at_last ts [] tree found left s e = along (λ (x : Option Tree × List PlacedToken). Got ts [] x.0 x.1) (tree, []) (found, left) e (got_here ts [] tree [] refl s)
at_last ts (f ∷ frames) tree found left s e = absurd cc

-- ---- an expression is wanted

leaf_there : (frames : List Frame) (ts : List Token) (t : Token) (e : Exp) → Opened frames ts → Spells atom e (t ∷ []) → trees.leaf e ≡ image e → Fits (there frames (trees.leaf e)) (ts ++ t ∷ [])
leaf_there frames ts t e opened spells is = (ts, t ∷ [], e, opened, spells, is, refl)

walk_word : (f : FunName) (frames : List Frame) (ts : List Token) (rest : List PlacedToken) (tree : Option Tree) (left : List PlacedToken) → Onward rest tree left → Opened frames ts → run rest (opening f frames) ≡ Some (tree, left) → Got (ts ++ word_of f ∷ []) rest tree left
walk_word f frames ts rest tree left on opened e = on (opening f frames) (ts ++ word_of f ∷ []) (ts, opened, refl) e

walk_wanted : (t : Token) (frames : List Frame) (ts : List Token) (rest : List PlacedToken) (tree : Option Tree) (left : List PlacedToken) → Onward rest tree left → Opened frames ts → begun rest frames (start_of t) ≡ Some (tree, left) → Got (ts ++ t ∷ []) rest tree left
walk_wanted (token.Sign signs.Minus) frames ts rest tree left on opened e = on (wanted (Minus ∷ frames)) (ts ++ token.Sign signs.Minus ∷ []) (ts, opened, refl) e
walk_wanted (token.Sign signs.LeftParenthesis) frames ts rest tree left on opened e = on (wanted (Parenthesis ∷ frames)) (ts ++ token.Sign signs.LeftParenthesis ∷ []) (ts, opened, refl) e
walk_wanted (token.Identifier n) frames ts rest tree left on opened e = on (there frames (trees.leaf (roll-Exp (Exp-F.Id n)))) (ts ++ token.Identifier n ∷ []) (leaf_there frames ts (token.Identifier n) (roll-Exp (Exp-F.Id n)) opened (named n) (image_id n)) e
walk_wanted (token.Integer n) frames ts rest tree left on opened e = on (there frames (trees.leaf (roll-Exp (Exp-F.Int n)))) (ts ++ token.Integer n ∷ []) (leaf_there frames ts (token.Integer n) (roll-Exp (Exp-F.Int n)) opened (whole n) (image_int n)) e
walk_wanted (token.Real r) frames ts rest tree left on opened e = on (there frames (trees.leaf (roll-Exp (Exp-F.Real r)))) (ts ++ token.Real r ∷ []) (leaf_there frames ts (token.Real r) (roll-Exp (Exp-F.Real r)) opened (real r) (image_real r)) e
walk_wanted (token.Keyword word.Pi) frames ts rest tree left on opened e = on (there frames (trees.leaf (roll-Exp Exp-F.Pi))) (ts ++ token.Keyword word.Pi ∷ []) (leaf_there frames ts (token.Keyword word.Pi) (roll-Exp Exp-F.Pi) opened pi image_pi) e
walk_wanted (token.Keyword word.Sin) frames ts rest tree left on opened e = walk_word function.Sin frames ts rest tree left on opened e
walk_wanted (token.Keyword word.Cos) frames ts rest tree left on opened e = walk_word function.Cos frames ts rest tree left on opened e
walk_wanted (token.Keyword word.Tan) frames ts rest tree left on opened e = walk_word function.Tan frames ts rest tree left on opened e
walk_wanted (token.Keyword word.Exp) frames ts rest tree left on opened e = walk_word function.Exp frames ts rest tree left on opened e
walk_wanted (token.Keyword word.Ln) frames ts rest tree left on opened e = walk_word function.Ln frames ts rest tree left on opened e
walk_wanted (token.Keyword word.Sqrt) frames ts rest tree left on opened e = walk_word function.Sqrt frames ts rest tree left on opened e
walk_wanted other frames ts rest tree left on opened e = absurd cc

walk_opening : (p : PlacedToken) (f : FunName) (frames : List Frame) (ts : List Token) (rest : List PlacedToken) (tree : Option Tree) (left : List PlacedToken) → Onward rest tree left → Fits (opening f frames) ts → (b : Bool) → is_sign signs.LeftParenthesis p.token ≡ b → cond b (run rest (wanted (Function f ∷ frames))) None ≡ Some (tree, left) → Got ts (p ∷ rest) tree left
walk_opening p f frames ts rest tree left on fits true is e =
    got_more ts p (token.Sign signs.LeftParenthesis) rest tree left (is_sign-true signs.LeftParenthesis p.token is)
    (on (wanted (Function f ∷ frames)) (ts ++ token.Sign signs.LeftParenthesis ∷ [])
    (fits.0, fits.1, ap (λ (us : List Token). us ++ token.Sign signs.LeftParenthesis ∷ []) fits.2 ∙ append_assoc fits.0 (word_of f ∷ []) (token.Sign signs.LeftParenthesis ∷ [])) e)
walk_opening p f frames ts rest tree left on fits false is e = absurd cc

-- ---- an expression is there

operates : (t : Token) (op : BinOp) → operator_of t ≡ Some op → t ≡ sign_of op
operates (token.Sign signs.Plus) op e = ap sign_of (some_is e)
operates (token.Sign signs.Minus) op e = ap sign_of (some_is e)
operates (token.Sign signs.Star) op e = ap sign_of (some_is e)
operates (token.Sign signs.Slash) op e = ap sign_of (some_is e)
operates (token.Sign signs.Caret) op e = ap sign_of (some_is e)
operates other op e = absurd cc

strong : (op : BinOp) → 0 < strength_of op
strong Add = omega arith
strong Sub = omega arith
strong Mul = omega arith
strong Div = omega arith
strong Pow = omega arith

weaker_than_atoms : (op : BinOp) → strength_of op ≤ 5
weaker_than_atoms Add = omega arith
weaker_than_atoms Sub = omega arith
weaker_than_atoms Mul = omega arith
weaker_than_atoms Div = omega arith
weaker_than_atoms Pow = omega arith

left_fits : (op : BinOp) (frames : List Frame) (tree : Option Tree) (ts : List Token) → Rests (strength_of op) frames tree ts → Opened (Left op tree ∷ frames) (ts ++ sign_of op ∷ [])
left_fits op frames tree ts r =
    let s = r.stood in (
      s.before,
      s.own,
      s.e,
      s.opened,
      to_left op s.level s.e s.own r.high s.spells,
      s.tree_is,
      Weak-more (strength_of op) (ceiling_of (whole_of op)) frames (omega (arith, ceiling_whole op)) r.low,
      ap (λ (us : List Token). us ++ sign_of op ∷ []) s.parts ∙ append_assoc s.before s.own (sign_of op ∷ []),
    )

-- a parenthesis closes the innermost frame
closed_fits : (f : Frame) (outer : List Frame) (tree : Option Tree) (ts : List Token) → hold_of f < 1 → Stood (f ∷ outer) tree ts → Fits (there outer (put_in f tree)) (ts ++ token.Sign signs.RightParenthesis ∷ [])
closed_fits Parenthesis outer tree ts low s =
    let inner = to_expression s.level s.e s.own s.spells in (
      s.opened.0,
      enclosed s.own,
      s.e,
      s.opened.1,
      in_parentheses s.e s.own inner,
      s.tree_is,
      ap (λ (us : List Token). us ++ token.Sign signs.RightParenthesis ∷ []) (s.parts ∙ ap (λ (us : List Token). us ++ s.own) s.opened.2 ∙ append_assoc s.opened.0 (token.Sign signs.LeftParenthesis ∷ []) s.own)
          ∙ append_assoc s.opened.0 (token.Sign signs.LeftParenthesis ∷ s.own) (token.Sign signs.RightParenthesis ∷ []),
    )
closed_fits (Function f) outer tree ts low s =
    let inner = to_expression s.level s.e s.own s.spells in (
      s.opened.0,
      word_of f ∷ enclosed s.own,
      roll-Exp (Exp-F.Fun f s.e),
      s.opened.1,
      applied f s.e s.own inner,
      ap (λ (t : Option Tree). trees.applied f t) s.tree_is ∙ image_fun f s.e,
      ap (λ (us : List Token). us ++ token.Sign signs.RightParenthesis ∷ []) (s.parts ∙ ap (λ (us : List Token). us ++ s.own) s.opened.2 ∙ append_assoc s.opened.0 (word_of f ∷ token.Sign signs.LeftParenthesis ∷ []) s.own)
          ∙ append_assoc s.opened.0 (word_of f ∷ token.Sign signs.LeftParenthesis ∷ s.own) (token.Sign signs.RightParenthesis ∷ []),
    )
closed_fits Minus outer tree ts low s = absurd (omega arith)
closed_fits (Left Add left) outer tree ts low s = absurd (omega arith)
closed_fits (Left Sub left) outer tree ts low s = absurd (omega arith)
closed_fits (Left Mul left) outer tree ts low s = absurd (omega arith)
closed_fits (Left Div left) outer tree ts low s = absurd (omega arith)
closed_fits (Left Pow left) outer tree ts low s = absurd (omega arith)

walk_closed : (p : PlacedToken) (f : Frame) (outer : List Frame) (tree : Option Tree) (ts : List Token) (rest : List PlacedToken) (found : Option Tree) (left : List PlacedToken) → Onward rest found left → hold_of f < 1 → Stood (f ∷ outer) tree ts → (b : Bool) → is_sign signs.RightParenthesis p.token ≡ b → cond b (run rest (there outer (put_in f tree))) None ≡ Some (found, left) → Got ts (p ∷ rest) found left
walk_closed p f outer tree ts rest found left on low s true is e =
    got_more ts p (token.Sign signs.RightParenthesis) rest found left (is_sign-true signs.RightParenthesis p.token is) (on (there outer (put_in f tree)) (ts ++ token.Sign signs.RightParenthesis ∷ []) (closed_fits f outer tree ts low s) e)
walk_closed p f outer tree ts rest found left on low s false is e = absurd cc

walk_out : (p : PlacedToken) (frames : List Frame) (tree : Option Tree) (ts : List Token) (rest : List PlacedToken) (found : Option Tree) (left : List PlacedToken) → Onward rest found left → Rests 1 frames tree ts → closing p rest (frames, tree) ≡ Some (found, left) → Got ts (p ∷ rest) found left
walk_out p [] tree ts rest found left on r e = along (λ (x : Option Tree × List PlacedToken). Got ts (p ∷ rest) x.0 x.1) (tree, p ∷ rest) (found, left) e (got_here ts [] tree (p ∷ rest) refl r.stood)
walk_out p (f ∷ outer) tree ts rest found left on r e = walk_closed p f outer tree ts rest found left on r.low r.stood (is_sign signs.RightParenthesis p.token) refl e

walk_there : (p : PlacedToken) (frames : List Frame) (tree : Option Tree) (ts : List Token) (rest : List PlacedToken) (found : Option Tree) (left : List PlacedToken) → Onward rest found left → Fits (there frames tree) ts → (o : Option BinOp) → operator_of p.token ≡ o → followed p rest frames tree o ≡ Some (found, left) → Got ts (p ∷ rest) found left
walk_there p frames tree ts rest found left on fits (Some op) is e =
    let r = rests (strength_of op) (strong op) frames tree ts (atom_stood frames tree ts fits) (weaker_than_atoms op) in
    let x = reduced (strength_of op) frames tree in
    got_more ts p (sign_of op) rest found left (operates p.token op is) (on (wanted (Left op x.1 ∷ x.0)) (ts ++ sign_of op ∷ []) (left_fits op x.0 x.1 ts r) e)
walk_there p frames tree ts rest found left on fits None is e =
    let r = rests 1 (omega arith) frames tree ts (atom_stood frames tree ts fits) (omega arith) in
    let x = reduced 1 frames tree in
    walk_out p x.0 x.1 ts rest found left on r e

-- ---- all tokens

ended : (mode : Mode) (ts : List Token) (tree : Option Tree) (left : List PlacedToken) → Fits mode ts → run [] mode ≡ Some (tree, left) → Got ts [] tree left
unfolding run
ended (wanted frames) ts tree left fits e = absurd cc
ended (opening f frames) ts tree left fits e = absurd cc
ended (there frames there_tree) ts tree left fits e =
    let r = rests 1 (omega arith) frames there_tree ts (atom_stood frames there_tree ts fits) (omega arith) in
    let x = reduced 1 frames there_tree in
    at_last ts x.0 x.1 tree left r.stood e

stepped : (p : PlacedToken) (rest : List PlacedToken) (mode : Mode) (ts : List Token) (tree : Option Tree) (left : List PlacedToken) → Onward rest tree left → Fits mode ts → run (p ∷ rest) mode ≡ Some (tree, left) → Got ts (p ∷ rest) tree left
unfolding run
stepped p rest (wanted frames) ts tree left on fits e = got_more ts p p.token rest tree left refl (walk_wanted p.token frames ts rest tree left on fits e)
stepped p rest (opening f frames) ts tree left on fits e = walk_opening p f frames ts rest tree left on fits (is_sign signs.LeftParenthesis p.token) refl e
stepped p rest (there frames there_tree) ts tree left on fits e = walk_there p frames there_tree ts rest tree left on fits (operator_of p.token) refl e

pub walk : (placed : List PlacedToken) (mode : Mode) (ts : List Token) (tree : Option Tree) (left : List PlacedToken) → Fits mode ts → run placed mode ≡ Some (tree, left) → Got ts placed tree left
walk [] mode ts tree left fits e = ended mode ts tree left fits e
walk (p ∷ rest) mode ts tree left fits e = stepped p rest mode ts tree left (λ mode ts fits e. walk rest mode ts tree left fits e) fits e

pub walk_whole : (placed : List PlacedToken) (tree : Option Tree) (left : List PlacedToken) → run placed (wanted []) ≡ Some (tree, left) → Got [] placed tree left
walk_whole placed tree left e = walk placed (wanted []) [] tree left refl e
