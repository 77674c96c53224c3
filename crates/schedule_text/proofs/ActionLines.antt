-- The lines of each kind of action: equal ones are of one action, and have one rest.
use Rattle.std.proofs.Common.{◌≡◌, ℕ, ◌^◌, ◌<◌, List, ◌++◌, length, sym, ap, ◌∙◌}
use Rattle.std.specs.Prelude.{decimal, codes}
use Rattle.std.proofs.lemmas.Fmt.{decimal_injective}
use Rattle.qc_base.specs.declared.ids.End.{End}
use Rattle.qc_base.specs.declared.ids.JunctionId.{JunctionId}
use Rattle.qc_base.specs.declared.ids.OpId.{OpId}
use Rattle.qc_base.specs.declared.ids.PlaceId.{PlaceId}
use Rattle.qc_base.proofs.Words.{free_decimal, same_rest}
use Rattle.circuit_core.specs.Circuit.{IsCircuit}
use Rattle.circuit_core.specs.OpText.{op_text}
use Rattle.trap_parts.specs.Parts.{TrapValue}
use Rattle.trap_model.specs.Trap.{place_count, place_text}
use Rattle.trap_parts.specs.Build.{IsTrap}
use Rattle.step_rules.specs.declared.action.Action.TheVariants as actions
use Rattle.step_rules.specs.Setting.{SettingValue}
use Rattle.schedule_text.specs.Text.{at, ion_words, op_line, end_text, split_line, move_line, cross_line, merge_line, swap_line, performed_line}
use Rattle.schedule_text.proofs.Names.{place_free, junction_text, junction_free, junction_one}
use Rattle.schedule_text.proofs.Lines.{one_word, two_words, three_words, word_and_two, number_first}
use Rattle.schedule_text.proofs.LineWords.{space_sign, end_sign, space, line_end, same_junction, same_op, place_is, end_free, end_is, small_number, op_at, few_ops}

pub one_split : (trap : TrapValue) (zone other : PlaceId) (end also : End) (count number : ℕ) (rest more : List ℕ) → IsTrap trap
    → zone.0 < place_count trap → other.0 < place_count trap → count < 2 ^ 32 → number < 2 ^ 32
    → split_line trap zone.0 end count ++ rest ≡ split_line trap other.0 also number ++ more → (actions.Split zone end count ≡ actions.Split other also number) × (rest ≡ more)
one_split trap zone other end also count number rest more t hz ho hc hn e =
    let words =
    three_words (place_text trap zone.0) (place_text trap other.0) (end_text end) (end_text also) (decimal count) (decimal number) rest more
    (place_free trap zone.0 32 t hz space) (place_free trap other.0 32 t ho space) (end_free 32 end space) (end_free 32 also space)
    (free_decimal 10 count end_sign (small_number count hc)) (free_decimal 10 number end_sign (small_number number hn)) (same_rest (codes "split ") _ _ e) in
    let place : zone ≡ other = place_is trap zone other t hz ho words.0 in
    let channel : end ≡ also = end_is end also words.1 in
    let amount : count ≡ number = decimal_injective count number (small_number count hc) (small_number number hn) words.2 in
    (cc, words.3)

pub one_move : (trap : TrapValue) (from to start target : PlaceId) (rest more : List ℕ) → IsTrap trap
    → from.0 < place_count trap → to.0 < place_count trap → start.0 < place_count trap → target.0 < place_count trap
    → move_line trap from.0 to.0 ++ rest ≡ move_line trap start.0 target.0 ++ more → (actions.Move from to ≡ actions.Move start target) × (rest ≡ more)
one_move trap from to start target rest more t hf ht hs hg e =
    let words =
    two_words (place_text trap from.0) (place_text trap start.0) (place_text trap to.0) (place_text trap target.0) rest more
    (place_free trap from.0 32 t hf space) (place_free trap start.0 32 t hs space) (place_free trap to.0 10 t ht line_end) (place_free trap target.0 10 t hg line_end) (same_rest (codes "move ") _ _ e) in
    let first : from ≡ start = place_is trap from start t hf hs words.0 in
    let second : to ≡ target = place_is trap to target t ht hg words.1 in
    (cc, words.2)

pub one_cross : (trap : TrapValue) (junction other : JunctionId) (from to start target : PlaceId) (rest more : List ℕ) → IsTrap trap → junction.0 < length trap.junctions → other.0 < length trap.junctions
    → from.0 < place_count trap → to.0 < place_count trap → start.0 < place_count trap → target.0 < place_count trap
    → cross_line trap junction.0 from.0 to.0 ++ rest ≡ cross_line trap other.0 start.0 target.0 ++ more → (actions.Cross junction from to ≡ actions.Cross other start target) × (rest ≡ more)
one_cross trap junction other from to start target rest more t hj ho hf ht hs hg e =
    let words =
    word_and_two (junction_text trap junction.0) (junction_text trap other.0) (place_text trap from.0) (place_text trap start.0) (place_text trap to.0) (place_text trap target.0) rest more
    (junction_free trap junction.0 32 t hj space) (junction_free trap other.0 32 t ho space)
    (place_free trap from.0 32 t hf space) (place_free trap start.0 32 t hs space) (place_free trap to.0 10 t ht line_end) (place_free trap target.0 10 t hg line_end) (same_rest (codes "cross ") _ _ e) in
    let through : junction ≡ other = same_junction junction other (junction_one trap junction.0 other.0 t hj ho words.0) in
    let first : from ≡ start = place_is trap from start t hf hs words.1 in
    let second : to ≡ target = place_is trap to target t ht hg words.2 in
    (cc, words.3)

pub one_merge : (trap : TrapValue) (zone other : PlaceId) (end also : End) (rest more : List ℕ) → IsTrap trap → zone.0 < place_count trap → other.0 < place_count trap
    → merge_line trap zone.0 end ++ rest ≡ merge_line trap other.0 also ++ more → (actions.Merge zone end ≡ actions.Merge other also) × (rest ≡ more)
one_merge trap zone other end also rest more t hz ho e =
    let words =
    two_words (place_text trap zone.0) (place_text trap other.0) (end_text end) (end_text also) rest more
    (place_free trap zone.0 32 t hz space) (place_free trap other.0 32 t ho space) (end_free 10 end line_end) (end_free 10 also line_end) (same_rest (codes "merge ") _ _ e) in
    let place : zone ≡ other = place_is trap zone other t hz ho words.0 in
    let channel : end ≡ also = end_is end also words.1 in
    (cc, words.2)

pub one_swap : (trap : TrapValue) (zone other : PlaceId) (index number : ℕ) (rest more : List ℕ) → IsTrap trap → zone.0 < place_count trap → other.0 < place_count trap → index < 2 ^ 32 → number < 2 ^ 32
    → swap_line trap zone.0 index ++ rest ≡ swap_line trap other.0 number ++ more → (actions.Swap zone index ≡ actions.Swap other number) × (rest ≡ more)
one_swap trap zone other index number rest more t hz ho hi hn e =
    let words =
    two_words (place_text trap zone.0) (place_text trap other.0) (decimal index) (decimal number) rest more
    (place_free trap zone.0 32 t hz space) (place_free trap other.0 32 t ho space)
    (free_decimal 10 index end_sign (small_number index hi)) (free_decimal 10 number end_sign (small_number number hn)) (same_rest (codes "swap ") _ _ e) in
    let place : zone ≡ other = place_is trap zone other t hz ho words.0 in
    let same : index ≡ number = decimal_injective index number (small_number index hi) (small_number number hn) words.1 in
    (cc, words.2)

one_op : (setting : SettingValue) (a b : ℕ) (rest more : List ℕ) → IsCircuit setting.circuit → a < length setting.circuit.ops → b < length setting.circuit.ops
    → at (op_line setting.circuit setting.placement a) setting.circuit.ops a ++ rest ≡ at (op_line setting.circuit setting.placement b) setting.circuit.ops b ++ more → (a ≡ b) × (rest ≡ more)
one_op setting a b rest more c ha hb e =
    let first = op_at setting a ha in
    let second = op_at setting b hb in
    let fits = few_ops setting.circuit a c ha in
    let also = few_ops setting.circuit b c hb in
    let printed = ap (λ (text : List ℕ). text ++ rest) (sym first.line_is) ∙ e ∙ ap (λ (text : List ℕ). text ++ more) second.line_is in
    let number : a ≡ b =
    decimal_injective a b fits also
    (number_first (decimal a) (decimal b) (ion_words setting.placement first.op) (ion_words setting.placement second.op) (op_text setting.circuit first.op) (op_text setting.circuit second.op) rest more
    (free_decimal 32 a space_sign fits) (free_decimal 32 b space_sign also) printed) in
    let after = e ∙ ap (λ (k : ℕ). at (op_line setting.circuit setting.placement k) setting.circuit.ops k ++ more) (sym number) in
    (number, same_rest (at (op_line setting.circuit setting.placement a) setting.circuit.ops a) rest more after)

pub one_performed : (setting : SettingValue) (zone other : PlaceId) (op also : OpId) (rest more : List ℕ) → IsTrap setting.trap → IsCircuit setting.circuit
    → zone.0 < place_count setting.trap → other.0 < place_count setting.trap → op.0 < length setting.circuit.ops → also.0 < length setting.circuit.ops
    → performed_line setting zone.0 op.0 ++ rest ≡ performed_line setting other.0 also.0 ++ more → (actions.Op zone op ≡ actions.Op other also) × (rest ≡ more)
one_performed setting zone other op also rest more t c hz ho hp ha e =
    let words =
    one_word (place_text setting.trap zone.0) (place_text setting.trap other.0) (at (op_line setting.circuit setting.placement op.0) setting.circuit.ops op.0) (at (op_line setting.circuit setting.placement also.0) setting.circuit.ops also.0) rest more
    (place_free setting.trap zone.0 32 t hz space) (place_free setting.trap other.0 32 t ho space) (same_rest (codes "op ") _ _ e) in
    let numbers = one_op setting op.0 also.0 rest more c hp ha words.1 in
    let place : zone ≡ other = place_is setting.trap zone other t hz ho words.0 in
    let same : op ≡ also = same_op op also numbers.0 in
    (cc, numbers.1)
