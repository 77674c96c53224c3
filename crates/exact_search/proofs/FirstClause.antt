-- The first clause of the encoding is no line.
use Rattle.std.proofs.Common.{◌≡◌, ℕ, zero, suc, ◌+◌, ◌-◌, ◌*◌, ◌<◌, ◌≤◌, ◌^◌, Bool, true, false, cond, List, [], ◌∷◌, ◌++◌, inl, length, map, Some, None, refl, sym, ap, ◌∙◌, subst, arith}
use Rattle.std.specs.Prelude.{Contains, Option, nat_lt, ◌&&◌, ◌==◌}
use Rattle.std.specs.Option.{option_map, option_map_or}
use Rattle.std.proofs.Math.Nat.{one-le-pow, one-le-mul}
use Rattle.std.specs.List.{flat_map, range_with_len, position_from}
use Rattle.std.proofs.lemmas.Bool.{eq-eqb, lt-ltb}
use Rattle.sat_base.specs.Literal.{Literal}
use Rattle.sat_base.specs.Derivation.{Line, Refutes}
use Rattle.sat_base.specs.Certificate.{HaveForm}
use Rattle.sat_base.specs.Fresh.{AreFresh}
use Rattle.trap_model.specs.Trap.{place_count}
use Rattle.trap_parts.specs.Build.{IsTrap}
use Rattle.step_rules.specs.Setting.{SettingValue}
use Rattle.step_vars.specs.declared.encoding.Encoding.{Encoding}
use Rattle.step_vars.specs.declared.item.Claim.{Claim}
use Rattle.step_vars.specs.declared.cells.Cell.{Cell}
use Rattle.step_vars.specs.Items.{so, not_so, at_item, done_item, goal_item}
use Rattle.step_vars.specs.Lists.{ion_count, starts_at, performed, cell, places_of, pairs_of}
use Rattle.step_vars.specs.Numbering.{Numbering, number_of, literal_of, before, first_sizes, part_size, dones_from, rank, is_cell}
use Rattle.step_vars.specs.Families.{start_place, start_places, start_order, start_orders, start_undone, goal_needs_all}
use Rattle.step_vars.specs.Encoding.{numbering_of, layer_of, goal_of, part_of, parts_of, encoding_of, goal_literal, start_clauses, clause_of, clauses_of}
use Rattle.step_vars.specs.Certifies.{vars_up_to}
use Rattle.exact_search.proofs.Fewer.{fewer_with, none_without}
use Rattle.exact_search.proofs.Deciding.{before_grows}
use Rattle.step_vars.proofs.OfSetting.{goal_last}

-- part 0 begins with a clause of one literal, of a variable before the goal
pub record BeginsWithOne (setting : SettingValue) (encoding : Encoding) : Type 0 where
  pub literal : Literal
  pub rest : List (List Literal)
  pub is : part_of setting encoding 0 ≡ (literal ∷ []) ∷ rest
  pub from_1 : 1 ≤ literal.var
  pub below : literal.var < before (numbering_of setting encoding) 1

pub few_after_one : (setting : SettingValue) (encoding : Encoding) (bound number : ℕ) (lines : List Line) → BeginsWithOne setting encoding → HaveForm (vars_up_to setting encoding bound) number lines
    → AreFresh (parts_of setting encoding) bound [] lines → length lines < 3 ^ vars_up_to setting encoding bound
few_after_one setting encoding bound number lines one form fresh =
    let n = numbering_of setting encoding in
    let clause = one.literal ∷ [] in
    let is_in : Contains (part_of setting encoding 0) clause = subst (λ (part : List (List Literal)). Contains part clause) (sym one.is) (0, omega arith, refl) in
    let no_goal : (bound : ℕ) → Refutes (goal_literal setting encoding bound) clause → ⊥ = λ bound refutes.
    let same = ap (λ (it : Literal). it.var) (refutes one.literal (inl refl)) in
    let low = one.below in
    omega (arith, same, low, goal_last n bound, before_grows n 1 (bound + 1) (omega arith)) in
    let first = one.from_1 in
    let low = one.below in
    let high = before_grows n 1 (bound + 1) (omega arith) in
    fewer_with (parts_of setting encoding) bound (vars_up_to setting encoding bound) number lines clause is_in no_goal
    (record { distinct = (tt, tt); within = ((first, omega (arith, low, high)), tt) }) form fresh

-- ---- where there is an ion, the first clause is of its first place

at_first : (n : Numbering) (ions places : ℕ) (positive : Bool) → n.ions ≡ suc ions → n.places ≡ suc places → (literal_of n (record { item = at_item 0 0 0; positive = positive })).var ≡ 1
unfolding number_of
at_first n ions places positive some also =
    let var : Bool → Bool → ℕ = λ a b. option_map_or (λ k. k) (option_map (λ k. before n 0 + 0 + k + 1) (cond (a && b) (Some (0 * n.places + 0)) None)) 0 in
    let last : 0 + 0 + (0 * n.places + 0) + 1 ≡ 1 = omega arith in
    ap (λ (a : Bool). var a (nat_lt 0 n.places)) (lt-ltb 0 n.ions (omega (arith, some))) ∙ ap (λ (b : Bool). var true b) (lt-ltb 0 n.places (omega (arith, also))) ∙ last

ions_before_goal : (n : Numbering) (ions places : ℕ) → n.ions ≡ suc ions → n.places ≡ suc places → 1 < before n 1
ions_before_goal n ions places some also =
    let e : before n 1 ≡ 0 + part_size (first_sizes n) = refl in
    let product : n.ions * n.places ≡ suc ions * suc places = ap (λ (a : ℕ). a * n.places) some ∙ ap (λ (b : ℕ). suc ions * b) also in
    let positive : 1 ≤ suc ions * suc places = one-le-mul {a = suc ions} {b = suc places} (omega arith) (omega arith) in
    omega (arith, e, product, positive)

start_with_ion : (setting : SettingValue) (ions places : ℕ) → ion_count setting ≡ suc ions → place_count setting.trap ≡ suc places
    → (more : List (List Claim)) × (start_places setting ≡ start_place setting 0 0 ∷ more)
start_with_ion setting ions places some also =
    let all : ℕ → ℕ → List (List Claim) = λ a b. flat_map (λ i. map (start_place setting i) (range_with_len 0 b)) (range_with_len 0 a) in (
      map (start_place setting 0) (range_with_len (0 + 1) places) ++ flat_map (λ i. map (start_place setting i) (range_with_len 0 (suc places))) (range_with_len (0 + 1) ions),
      ap (λ (a : ℕ). all a (place_count setting.trap)) some ∙ ap (λ (b : ℕ). all (suc ions) b) also,
    )

part_zero : (setting : SettingValue) (encoding : Encoding) → part_of setting encoding 0
    ≡ clauses_of (numbering_of setting encoding) (start_clauses setting) ++ clauses_of (numbering_of setting encoding) (goal_needs_all setting 0)
unfolding layer_of goal_of
part_zero setting encoding = refl

fields : (setting : SettingValue) (encoding : Encoding) → ((numbering_of setting encoding).ions ≡ ion_count setting) × ((numbering_of setting encoding).places ≡ place_count setting.trap)
    × ((numbering_of setting encoding).ops ≡ map (λ g. cell g 0) (performed setting.circuit))
unfolding numbering_of
fields setting encoding = (refl, refl, refl)

with_ion : (setting : SettingValue) (encoding : Encoding) (ions places : ℕ) → ion_count setting ≡ suc ions → place_count setting.trap ≡ suc places → BeginsWithOne setting encoding
with_ion setting encoding ions places some also =
    let n = numbering_of setting encoding in
    let parts = fields setting encoding in
    let start = start_with_ion setting ions places some also in
    let claim : Claim = record { item = at_item 0 0 0; positive = starts_at setting 0 0 } in
    let all : List (List Claim) → List (List Literal) = λ first. clauses_of n (first ++ start_orders setting ++ start_undone setting) ++ clauses_of n (goal_needs_all setting 0) in
    let first = at_first n ions places claim.positive (parts.0 ∙ some) (parts.1 ∙ also) in
    record {
      literal = literal_of n claim;
      rest = map (clause_of n) (start.0 ++ start_orders setting ++ start_undone setting) ++ clauses_of n (goal_needs_all setting 0);
      is = part_zero setting encoding ∙ ap all start.1;
      from_1 = omega (arith, first);
      below = omega (arith, first, ions_before_goal n ions places (parts.0 ∙ some) (parts.1 ∙ also));
    }

-- ---- where there is none, but an operation, it is that this one is not done

rank_first : (g : ℕ) (cells : List Cell) → rank (cell g 0 ∷ cells) g 0 ≡ Some 0
unfolding rank
rank_first g cells = ap (λ (b : Bool). cond (b && (0 == 0)) (Some 0) (position_from (is_cell g 0) (0 + 1) cells)) (eq-eqb g g refl)

done_first : (n : Numbering) (g : ℕ) (cells : List Cell) (positive : Bool) → n.ops ≡ cell g 0 ∷ cells
    → (literal_of n (record { item = done_item g 0; positive = positive })).var ≡ 0 + dones_from (first_sizes n) + 0 + 1
unfolding number_of
done_first n g cells positive is =
    let var : Option ℕ → ℕ = λ index. option_map_or (λ k. k) (option_map (λ k. before n 0 + dones_from (first_sizes n) + k + 1) index) 0 in
    ap (λ (ops : List Cell). var (rank ops g 0)) is ∙ ap var (rank_first g cells)

ops_before_goal : (n : Numbering) (g : ℕ) (cells : List Cell) → n.ops ≡ cell g 0 ∷ cells → dones_from (first_sizes n) + 1 < before n 1
ops_before_goal n g cells is =
    let e : before n 1 ≡ 0 + part_size (first_sizes n) = refl in
    let some = ap length is in
    omega (arith, e, some)

no_places : (setting : SettingValue) → ion_count setting ≡ 0 → start_places setting ≡ []
no_places setting none = ap (λ (a : ℕ). flat_map (λ i. map (start_place setting i) (places_of setting)) (range_with_len 0 a)) none

no_orders : (setting : SettingValue) → ion_count setting ≡ 0 → start_orders setting ≡ []
no_orders setting none = ap (λ (a : ℕ). map (start_order setting) (pairs_of a)) none

with_op : (setting : SettingValue) (encoding : Encoding) (g : ℕ) (gs : List ℕ) → ion_count setting ≡ 0 → performed setting.circuit ≡ g ∷ gs → BeginsWithOne setting encoding
with_op setting encoding g gs none some =
    let n = numbering_of setting encoding in
    let parts = fields setting encoding in
    let claim : Claim = not_so (done_item g 0) in
    let undone : ℕ → List Claim = λ h. not_so (done_item h 0) ∷ [] in
    let ops : n.ops ≡ cell g 0 ∷ map (λ h. cell h 0) gs = parts.2 ∙ ap (map (λ h. cell h 0)) some in
    let all : List (List Claim) → List (List Claim) → List (List Claim) → List (List Literal) = λ a b d. clauses_of n (a ++ b ++ d) ++ clauses_of n (goal_needs_all setting 0) in
    let first = done_first n g (map (λ h. cell h 0) gs) false ops in
    record {
      literal = literal_of n claim;
      rest = map (clause_of n) (map undone gs) ++ clauses_of n (goal_needs_all setting 0);
      is = part_zero setting encoding ∙ ap (λ a. all a (start_orders setting) (start_undone setting)) (no_places setting none)
          ∙ ap (λ b. all [] b (start_undone setting)) (no_orders setting none) ∙ ap (λ (hs : List ℕ). all [] [] (map undone hs)) some;
      from_1 = omega (arith, first);
      below = omega (arith, first, ops_before_goal n g (map (λ h. cell h 0) gs) ops);
    }

no_part : (setting : SettingValue) (encoding : Encoding) → ion_count setting ≡ 0 → performed setting.circuit ≡ [] → part_of setting encoding 0 ≡ []
no_part setting encoding none empty =
    let n = numbering_of setting encoding in
    let undone : ℕ → List Claim = λ h. not_so (done_item h 0) ∷ [] in
    let goals : ℕ → List Claim = λ g. not_so (goal_item 0) ∷ so (done_item g 0) ∷ [] in
    let all : List (List Claim) → List (List Claim) → List (List Claim) → List (List Claim) → List (List Literal) = λ a b d e. clauses_of n (a ++ b ++ d) ++ clauses_of n e in
    part_zero setting encoding ∙ ap (λ a. all a (start_orders setting) (start_undone setting) (goal_needs_all setting 0)) (no_places setting none)
    ∙ ap (λ b. all [] b (start_undone setting) (goal_needs_all setting 0)) (no_orders setting none) ∙ ap (λ (hs : List ℕ). all [] [] (map undone hs) (map goals hs)) empty

-- ---- all settings

by_ops : (setting : SettingValue) (encoding : Encoding) (bound : ℕ) (lines : List Line) (gs : List ℕ) → ion_count setting ≡ 0 → performed setting.circuit ≡ gs
    → HaveForm (vars_up_to setting encoding bound) (length (encoding_of setting encoding bound) + 1) lines → AreFresh (parts_of setting encoding) bound [] lines → length lines < 3 ^ vars_up_to setting encoding bound
by_ops setting encoding bound lines [] none is form fresh =
    let empty = ap length (none_without (parts_of setting encoding) bound (vars_up_to setting encoding bound) lines (no_part setting encoding none is) form fresh) in
    omega (arith, empty, one-le-pow (vars_up_to setting encoding bound) 3 (omega arith))
by_ops setting encoding bound lines (g ∷ gs) none is form fresh =
    few_after_one setting encoding bound (length (encoding_of setting encoding bound) + 1) lines (with_op setting encoding g gs none is) form fresh

by_ions : (setting : SettingValue) (encoding : Encoding) (bound : ℕ) (lines : List Line) (ions places : ℕ) → ion_count setting ≡ ions → place_count setting.trap ≡ suc places
    → HaveForm (vars_up_to setting encoding bound) (length (encoding_of setting encoding bound) + 1) lines → AreFresh (parts_of setting encoding) bound [] lines → length lines < 3 ^ vars_up_to setting encoding bound
by_ions setting encoding bound lines zero places is also form fresh = by_ops setting encoding bound lines (performed setting.circuit) is refl form fresh
by_ions setting encoding bound lines (suc ions) places is also form fresh =
    few_after_one setting encoding bound (length (encoding_of setting encoding bound) + 1) lines (with_ion setting encoding ions places is also) form fresh

pub fresh_lines_few : (setting : SettingValue) (encoding : Encoding) (bound : ℕ) (lines : List Line) → IsTrap setting.trap
    → HaveForm (vars_up_to setting encoding bound) (length (encoding_of setting encoding bound) + 1) lines → AreFresh (parts_of setting encoding) bound [] lines → length lines < 3 ^ vars_up_to setting encoding bound
fresh_lines_few setting encoding bound lines is_trap form fresh =
    let some = is_trap.some in
    let places : place_count setting.trap ≡ suc (place_count setting.trap - 1) = omega (arith, some) in
    by_ions setting encoding bound lines (ion_count setting) (place_count setting.trap - 1) refl places form fresh
