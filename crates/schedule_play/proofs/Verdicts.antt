-- A schedule has at most one first fault, and one that plays has none.
use Rattle.std.proofs.Common.{◌≡◌, ℕ, zero, suc, ◌+◌, ◌<◌, ◌≤◌, List, [], ◌∷◌, ◌++◌, length, take, get_or, Bool, true, false, Some, refl, sym, ap, subst, ◌∙◌, inl, inr, arith}
use Rattle.std.specs.Prelude.{slice_get, if◌then◌else◌, ◌||◌}
use Rattle.std.specs.List.{list_any}
use Rattle.std.proofs.lemmas.Bool.{cases_Bool, cases_order, false_from_ne_true}
use Rattle.std.proofs.lemmas.Option.{none-some, same_Some, slice_get_within, get_or_from_slice_get}
use Rattle.std.proofs.lemmas.List.{length-take-le, get_or-take}
use Rattle.qc_base.specs.Counting.{how_many}
use Rattle.qc_base.specs.declared.ids.Ion.{Ion}
use Rattle.qc_base.specs.declared.ids.OpId.{OpId}
use Rattle.step_rules.specs.declared.action.Action.{Action}
use Rattle.step_rules.specs.declared.action.Action.TheVariants as actions
use Rattle.step_rules.specs.declared.action.Rule.{Rule}
use Rattle.step_rules.specs.Placement.{start_of}
use Rattle.step_rules.specs.Setting.{SettingValue}
use Rattle.step_rules.specs.Steps.{AreApart, IsLegal, after_step}
use Rattle.step_rules.specs.Guards.{Passes, guards, first_broken}
use Rattle.step_rules.specs.Play.{AreLegal, performs, actions_of, PerformsIn, Plays, after_steps, is_done}
use Rattle.schedule_play.specs.declared.fault.PlayFault.{PlayFault}
use Rattle.schedule_play.specs.declared.fault.PlayFault.TheVariants as faults
use Rattle.schedule_play.specs.Faults.{PerformsAt, config_before, SharesSpot, IsShared, IsOwedAt, IsEarly, Causes, rank, IsFirst, LeavesOut, IsFault}
use Rattle.schedule_play.specs.Judging.{Before, before_of, config_at, was_done, Owes, Fits, GoWell}
use Rattle.schedule_play.proofs.Lists.{slice_take, is_there}
use Rattle.schedule_play.proofs.Done.{DoneAt, done_at, at_done}
use Rattle.schedule_play.proofs.Causes.{one_action, performs_one, well_none_caused, out_undone}
use Rattle.schedule_play.proofs.Played.{count, how_many-append, actions-append, count_last, op_of}

-- ---- the causes of one rank at one place are one

same_op : (a b : OpId) → a.0 ≡ b.0 → a ≡ b
same_op a b e = ap (λ (n : ℕ). record { 0 = n }) e

same_broken : (s t m n : ℕ) (p q : Rule) → s ≡ t → m ≡ n → p ≡ q → faults.Broken s m p ≡ faults.Broken t n q
same_broken s t m n p q a b c = cc

same_shared : (s t m n k l : ℕ) → s ≡ t → m ≡ n → k ≡ l → faults.Shared s m k ≡ faults.Shared t n l
same_shared s t m n k l a b c = cc

same_early : (s t : ℕ) (p q x y : OpId) → s ≡ t → p ≡ q → x ≡ y → faults.Early s p x ≡ faults.Early t q y
same_early s t p q x y a b c = cc

same_twice : (s t : ℕ) (p q : OpId) → s ≡ t → p ≡ q → faults.Twice s p ≡ faults.Twice t q
same_twice s t p q a b = cc

same_shared_by : (setting : SettingValue) (steps : List (List Action)) (time place m n : ℕ) → IsShared setting.trap steps time place m → IsShared setting.trap steps time place n → m ≡ n
same_shared_by setting steps time place m n a b =
    let same : a.action ≡ b.action = one_action steps time place a.action b.action a.there b.there in
    let up : b.first < a.first → ⊥ = λ h. a.least b.first h (subst (SharesSpot setting.trap steps time b.first) (sym same) b.meets) in
    let down : a.first < b.first → ⊥ = λ h. b.least a.first h (subst (SharesSpot setting.trap steps time a.first) same a.meets) in
    elim (cases_order a.first b.first) [
      | inl one ↦ a.number_is ∙ ap (λ (k : ℕ). k + 1) one ∙ sym b.number_is
      | inr other ↦ elim other [
        | inl less ↦ absurd (down less)
        | inr more ↦ absurd (up more)
      ]
    ]

-- the operation that the action at a place performs
one_op : (steps : List (List Action)) (time place m n : ℕ) → PerformsAt steps m time place → PerformsAt steps n time place → m ≡ n
one_op steps time place m n a b =
    let same : a.action ≡ b.action = one_action steps time place a.action b.action a.there b.there in
    performs_one b.action m n (ap (performs m) (sym same) ∙ a.is) b.is

one_needs : (setting : SettingValue) (steps : List (List Action)) (time place m n p q : ℕ) → m ≡ n → IsEarly setting steps time place m p → IsEarly setting steps time place n q → p ≡ q
one_needs setting steps time place m n p q same a b =
    let up : p ≤ q = a.least q (subst (λ (k : ℕ). IsOwedAt setting steps time k q) (sym same) b.owed) in
    let down : q ≤ p = b.least p (subst (λ (k : ℕ). IsOwedAt setting steps time k p) same a.owed) in
    omega arith

same_cause : (setting : SettingValue) (steps : List (List Action)) (time place : ℕ) (a b : PlayFault) → Causes setting steps time place a → Causes setting steps time place b → rank a ≡ rank b → a ≡ b
same_cause setting steps time place (faults.Broken s m p) (faults.Broken t n q) a b e =
    let same : a.2.action ≡ b.2.action = one_action steps time place a.2.action b.2.action a.2.there b.2.there in
    let rule : p ≡ q = same_Some p q (sym a.2.broken ∙ ap (λ (x : Action). first_broken (guards setting (config_before setting steps time) x)) same ∙ b.2.broken) in
    same_broken s t m n p q (a.0 ∙ sym b.0) (a.1 ∙ sym b.1) rule
same_cause setting steps time place (faults.Shared s m k) (faults.Shared t n l) a b e =
    same_shared s t m n k l (a.0 ∙ sym b.0) (same_shared_by setting steps time place m n a.2 b.2) (a.1 ∙ sym b.1)
same_cause setting steps time place (faults.Early s p x) (faults.Early t q y) a b e =
    let op : p.0 ≡ q.0 = one_op steps time place p.0 q.0 a.1.here b.1.here in
    same_early s t p q x y (a.0 ∙ sym b.0) (same_op p q op) (same_op x y (one_needs setting steps time place p.0 q.0 x.0 y.0 op a.1 b.1))
same_cause setting steps time place (faults.Twice s p) (faults.Twice t q) a b e =
    same_twice s t p q (a.0 ∙ sym b.0) (same_op p q (one_op steps time place p.0 q.0 a.1.here b.1.here))
same_cause setting steps time place (faults.Broken s m p) (faults.Shared t n l) a b e = absurd (omega (arith, e))
same_cause setting steps time place (faults.Broken s m p) (faults.Early t q y) a b e = absurd (omega (arith, e))
same_cause setting steps time place (faults.Broken s m p) (faults.Twice t q) a b e = absurd (omega (arith, e))
same_cause setting steps time place (faults.Broken s m p) (faults.Missing q) a b e = absurd b
same_cause setting steps time place (faults.Broken s m p) faults.NoMemory a b e = absurd b
same_cause setting steps time place (faults.Shared s m k) (faults.Broken t n q) a b e = absurd (omega (arith, e))
same_cause setting steps time place (faults.Shared s m k) (faults.Early t q y) a b e = absurd (omega (arith, e))
same_cause setting steps time place (faults.Shared s m k) (faults.Twice t q) a b e = absurd (omega (arith, e))
same_cause setting steps time place (faults.Shared s m k) (faults.Missing q) a b e = absurd b
same_cause setting steps time place (faults.Shared s m k) faults.NoMemory a b e = absurd b
same_cause setting steps time place (faults.Early s p x) (faults.Broken t n q) a b e = absurd (omega (arith, e))
same_cause setting steps time place (faults.Early s p x) (faults.Shared t n l) a b e = absurd (omega (arith, e))
same_cause setting steps time place (faults.Early s p x) (faults.Twice t q) a b e = absurd (omega (arith, e))
same_cause setting steps time place (faults.Early s p x) (faults.Missing q) a b e = absurd b
same_cause setting steps time place (faults.Early s p x) faults.NoMemory a b e = absurd b
same_cause setting steps time place (faults.Twice s p) (faults.Broken t n q) a b e = absurd (omega (arith, e))
same_cause setting steps time place (faults.Twice s p) (faults.Shared t n l) a b e = absurd (omega (arith, e))
same_cause setting steps time place (faults.Twice s p) (faults.Early t q y) a b e = absurd (omega (arith, e))
same_cause setting steps time place (faults.Twice s p) (faults.Missing q) a b e = absurd b
same_cause setting steps time place (faults.Twice s p) faults.NoMemory a b e = absurd b
same_cause setting steps time place (faults.Missing p) (faults.Broken t n q) a b e = absurd a
same_cause setting steps time place (faults.Missing p) (faults.Shared t n l) a b e = absurd a
same_cause setting steps time place (faults.Missing p) (faults.Early t q y) a b e = absurd a
same_cause setting steps time place (faults.Missing p) (faults.Twice t q) a b e = absurd a
same_cause setting steps time place (faults.Missing p) (faults.Missing q) a b e = absurd a
same_cause setting steps time place (faults.Missing p) faults.NoMemory a b e = absurd a
same_cause setting steps time place faults.NoMemory (faults.Broken t n q) a b e = absurd a
same_cause setting steps time place faults.NoMemory (faults.Shared t n l) a b e = absurd a
same_cause setting steps time place faults.NoMemory (faults.Early t q y) a b e = absurd a
same_cause setting steps time place faults.NoMemory (faults.Twice t q) a b e = absurd a
same_cause setting steps time place faults.NoMemory (faults.Missing q) a b e = absurd a
same_cause setting steps time place faults.NoMemory faults.NoMemory a b e = absurd a

-- ---- the first fault is one

same_place : (setting : SettingValue) (steps : List (List Action)) (a b : PlayFault) (one : IsFirst setting steps a) (other : IsFirst setting steps b) → one.time ≡ other.time → one.place ≡ other.place → a ≡ b
same_place setting steps a b one other time place =
    let there : Causes setting steps one.time one.place b =
    subst (λ (n : ℕ). Causes setting steps n one.place b) (sym time) (subst (λ (n : ℕ). Causes setting steps other.time n b) (sym place) other.cause) in
    let here : Causes setting steps other.time other.place a =
    subst (λ (n : ℕ). Causes setting steps n other.place a) time (subst (λ (n : ℕ). Causes setting steps one.time n a) place one.cause) in
    let up : rank a ≤ rank b = one.first b there in
    let down : rank b ≤ rank a = other.first a here in
    same_cause setting steps one.time one.place a b one.cause there (omega (arith, up, down))

one_first : (setting : SettingValue) (steps : List (List Action)) (a b : PlayFault) → IsFirst setting steps a → IsFirst setting steps b → a ≡ b
one_first setting steps a b one other = elim (cases_order one.time other.time) [
  | inl time ↦ elim (cases_order one.place other.place) [
    | inl place ↦ same_place setting steps a b one other time place
    | inr apart ↦ elim apart [
      | inl less ↦ absurd (other.none_before one.time one.place a (inr (time, less)) one.cause)
      | inr more ↦ absurd (one.none_before other.time other.place b (inr (sym time, more)) other.cause)
    ]
  ]
  | inr apart ↦ elim apart [
    | inl less ↦ absurd (other.none_before one.time one.place a (inl less) one.cause)
    | inr more ↦ absurd (one.none_before other.time other.place b (inl more) other.cause)
  ]
]

one_missing : (setting : SettingValue) (steps : List (List Action)) (a b : OpId) → LeavesOut setting steps a.0 → LeavesOut setting steps b.0 → faults.Missing a ≡ faults.Missing b
one_missing setting steps a b one other =
    let up : a.0 ≤ b.0 = one.least b.0 other.left_out in
    let down : b.0 ≤ a.0 = other.least a.0 one.left_out in
    ap faults.Missing (same_op a b (omega (arith, up, down)))

-- a fault is a cause at a place, or an operation that is left out
data Sort (setting : SettingValue) (steps : List (List Action)) (fault : PlayFault) : Type 0 where
  at_place : IsFirst setting steps fault → Sort setting steps fault
  leaving : (op : OpId) → fault ≡ faults.Missing op → LeavesOut setting steps op.0 → Sort setting steps fault

sort : (setting : SettingValue) (steps : List (List Action)) (fault : PlayFault) → IsFault setting steps fault → Sort setting steps fault
sort setting steps (faults.Broken step number rule) is = at_place is
sort setting steps (faults.Shared step first second) is = at_place is
sort setting steps (faults.Early step op needs) is = at_place is
sort setting steps (faults.Twice step op) is = at_place is
sort setting steps (faults.Missing op) is = leaving op refl is
sort setting steps faults.NoMemory is = at_place is

one_of_sorts : (setting : SettingValue) (steps : List (List Action)) (a b : PlayFault) → Sort setting steps a → Sort setting steps b → a ≡ b
one_of_sorts setting steps a b (at_place x) (at_place y) = one_first setting steps a b x y
one_of_sorts setting steps a b (at_place x) (leaving op is y) = absurd (y.none x.time x.place a x.cause)
one_of_sorts setting steps a b (leaving op is x) (at_place y) = absurd (x.none y.time y.place b y.cause)
one_of_sorts setting steps a b (leaving op is x) (leaving other again y) = is ∙ one_missing setting steps op other x y ∙ sym again

pub one_verdict : (setting : SettingValue) (steps : List (List Action)) (a b : PlayFault) → IsFault setting steps a → IsFault setting steps b → a ≡ b
one_verdict setting steps a b one other = one_of_sorts setting steps a b (sort setting steps a one) (sort setting steps b other)

-- ---- a schedule that plays has no fault

abbrev ones : Bool → ℕ
ones b = if b then 1 else 0

some_more : (b rest : Bool) (n : ℕ) → (rest ≡ true → 1 ≤ n) → (b || rest) ≡ true → 1 ≤ ones b + n
some_more true rest n more e = omega arith
some_more false rest n more e = let it = more e in omega arith

none_more : (b rest : Bool) (n : ℕ) → (rest ≡ false → n ≡ 0) → (b || rest) ≡ false → ones b + n ≡ 0
none_more true rest n more e = absurd cc
none_more false rest n more e = let it = more e in omega arith

some_count : {A : Type 0} (test : A → Bool) (xs : List A) → list_any test xs ≡ true → 1 ≤ how_many test xs
some_count test [] e = absurd cc
some_count test (x ∷ xs) e = some_more (test x) (list_any test xs) (how_many test xs) (some_count test xs) e

none_count : {A : Type 0} (test : A → Bool) (xs : List A) → list_any test xs ≡ false → how_many test xs ≡ 0
none_count test [] e = refl
none_count test (x ∷ xs) e = none_more (test x) (list_any test xs) (how_many test xs) (none_count test xs) e

split_at : {X : Type 0} (xs : List X) (x : X) (k : ℕ) → slice_get xs k ≡ Some x → (rest : List X) × (xs ≡ take k xs ++ x ∷ rest)
split_at {X} [] x k e = absurd (none-some x e)
split_at {X} (y ∷ ys) x zero e = (ys, ap (λ (z : X). z ∷ ys) (same_Some y x e))
split_at {X} (y ∷ ys) x (suc k) e = let it = split_at ys x k e in (it.0, ap (λ (l : List X). y ∷ l) it.1)

-- an operation that was performed before is performed twice
twice_count : (steps : List (List Action)) (time place k : ℕ) (step : List Action) (action : Action) → slice_get steps time ≡ Some step → slice_get step place ≡ Some action → performs k action ≡ true → was_done (before_of (take time steps) (take place step)) k ≡ true
    → 2 ≤ count k steps
twice_count steps time place k step action at in_step is done =
    let outer = split_at steps step time at in
    let inner = split_at step action place in_step in
    let front : List (List Action) = take time steps in
    let first : List Action = take place step in
    let before : 1 ≤ count k (front ++ first ∷ []) = some_count (performs k) (actions_of (front ++ first ∷ [])) done in
    let this : ones (performs k action) ≡ 1 = ap ones is in
    let whole : count k steps ≡ count k front + how_many (performs k) (step ++ actions_of outer.0) =
    ap (count k) outer.1 ∙ ap (how_many (performs k)) (actions-append front (step ∷ outer.0)) ∙ how_many-append (performs k) (actions_of front) (step ++ actions_of outer.0) in
    let part : how_many (performs k) step ≡ how_many (performs k) first + (ones (performs k action) + how_many (performs k) inner.0) = ap (how_many (performs k)) inner.1 ∙ how_many-append (performs k) first (action ∷ inner.0) in
    omega (arith, count_last k front first, how_many-append (performs k) step (actions_of outer.0))

legal_at : (setting : SettingValue) (config : List (List Ion)) (steps : List (List Action)) (time : ℕ) (step : List Action) → AreLegal setting config steps → slice_get steps time ≡ Some step → IsLegal setting (after_steps setting.trap config (take time steps)) step
legal_at setting config [] time step legal at = absurd (none-some step at)
legal_at setting config (first ∷ steps) zero step legal at = subst (IsLegal setting config) (same_Some first step at) legal.0
legal_at setting config (first ∷ steps) (suc time) step legal at = legal_at setting (after_step setting.trap config first) steps time step legal.1 at

-- the action passes, and works on nothing that those before it work on
plays_fits : (setting : SettingValue) (steps : List (List Action)) (time place : ℕ) (step : List Action) (action : Action) → Plays setting steps → slice_get steps time ≡ Some step → slice_get step place ≡ Some action → Fits setting (before_of (take time steps) (take place step)) action
plays_fits setting steps time place step action plays at in_step =
    let legal = legal_at setting (start_of setting.trap setting.placement) steps time step plays.legal at in
    let within : place < length step = slice_get_within step place action in_step in
    record {
      passes = subst (Passes setting (config_at setting (before_of (take time steps) (take place step)))) (get_or_from_slice_get step place action action in_step) (legal.passes place action within);
      apart = λ k d h.
          let below : k < place = omega (arith, length-take-le place step (omega arith)) in
          subst (λ (a : Action). AreApart setting.trap a action) (sym (get_or-take place step k d below))
          (subst (AreApart setting.trap (get_or step k d)) (get_or_from_slice_get step place action d in_step) (legal.apart k place d below within));
    }

plays_owes : (setting : SettingValue) (steps : List (List Action)) (time place op needs : ℕ) (step : List Action) (action : Action) → Plays setting steps → slice_get steps time ≡ Some step → slice_get step place ≡ Some action → performs op action ≡ true
    → Owes setting (before_of (take time steps) (take place step)) op needs → ⊥
plays_owes setting steps time place op needs step action plays at in_step is owes = elim (cases_Bool (is_done steps needs)) [
  | inl done ↦ (let it : DoneAt steps needs = done_at steps needs done in
      let first : PerformsIn steps needs it.time = record { step = it.step; action = it.action; at_time = it.at_time; in_step = is_there it.step it.action it.place it.in_step; is = it.is } in
      let second : PerformsIn steps op time = record { step = step; action = action; at_time = at; in_step = is_there step action place in_step; is = is } in
      let earlier : it.time < time = plays.performed.in_order needs op owes.forced it.time time first second in
      let there : is_done (take time steps) needs ≡ true = at_done (take time steps) it.time it.place needs it.step it.action (slice_take time steps it.step it.time earlier it.at_time) it.in_step it.is in
      let free = owes.undone in
      cc)
  | inr undone ↦ (let none : count needs steps ≡ 0 = none_count (performs needs) (actions_of steps) undone in absurd (omega (arith, plays.performed.once needs owes.performed)))
]

-- all is well with a schedule that plays
plays_well : (setting : SettingValue) (steps : List (List Action)) → Plays setting steps → GoWell setting steps
plays_well setting steps plays time place step action at in_step =
    let before : Before = before_of (take time steps) (take place step) in
    let fits : Fits setting before action = plays_fits setting steps time place step action plays at in_step in
    record {
      passes = fits.passes;
      apart = fits.apart;
      none_owed = λ op needs is owes. plays_owes setting steps time place op needs step action plays at in_step is owes;
      first = λ op is. false_from_ne_true (was_done before op) (λ done.
          (let performed = op_of setting (config_at setting before) op action is fits.passes in
          let twice = twice_count steps time place op step action at in_step is done in
          omega (arith, plays.performed.once op performed)));
    }

of_no_sort : (setting : SettingValue) (steps : List (List Action)) (fault : PlayFault) → Sort setting steps fault → Plays setting steps → ⊥
of_no_sort setting steps fault (at_place x) plays = well_none_caused setting steps (plays_well setting steps plays) x.time x.place fault x.cause
of_no_sort setting steps fault (leaving op is x) plays =
    let none : count op.0 steps ≡ 0 = none_count (performs op.0) (actions_of steps) (out_undone steps op.0 x.left_out.undone) in
    omega (arith, plays.performed.once op.0 x.left_out.performed)

pub not_both : (setting : SettingValue) (steps : List (List Action)) (fault : PlayFault) → IsFault setting steps fault → Plays setting steps → ⊥
not_both setting steps fault is plays = of_no_sort setting steps fault (sort setting steps fault is) plays
