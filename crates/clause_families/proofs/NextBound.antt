-- Lists with helpers, one after another: what is added before out of memory is a prefix.
use Rattle.std.proofs.Common.{◌≡◌, ℕ, ◌+◌, ◌<◌, List, [], ◌∷◌, ◌++◌, drop, get_or, length, ap, sym, ◌∙◌}
use Rattle.std.proofs.lemmas.List.{append-nil, drop_more}
use Rattle.at_most.proofs.Emitted.{Emitted, emitted_same, emitted_within}
use Rattle.sat_base.specs.Literal.{Literal}
use Rattle.at_most.specs.AtMost.{AddsPrefix}
use Rattle.step_vars.specs.declared.item.Bound.{Bound}
use Rattle.step_vars.specs.declared.encoding.Encoding.{Encoding}
use Rattle.step_vars.specs.Numbering.{Numbering}
use Rattle.step_vars.specs.Limits.{limited, fresh_for}
use Rattle.step_vars.specs.Encoding.{literals_of, bounds_of}

pub bounds_step : (n : Numbering) (encoding : Encoding) (next : ℕ) (it : Bound) (rest : List Bound)
    → bounds_of n encoding next (it ∷ rest) ≡ bounds_of n encoding next (it ∷ []) ++ bounds_of n encoding (next + fresh_for encoding (length it.items) it.limit) rest
bounds_step n encoding next it rest =
    ap (λ x. x ++ bounds_of n encoding (next + fresh_for encoding (length it.items) it.limit) rest) (sym (append-nil (limited encoding (literals_of n it.items) it.limit next)))

-- a prefix of the clauses of the next list is added too
pub bound_within : (n : Numbering) (encoding : Encoding) (bounds : List Bound) (i next : ℕ) (it : Bound) (old now new all : List (List Literal)) → i < length bounds → it ≡ get_or bounds i it
    → Emitted old now all (bounds_of n encoding next (drop i bounds)) → AddsPrefix now new (bounds_of n encoding next (it ∷ [])) → AddsPrefix old new all
bound_within n encoding bounds i next it old now new all within found emitted h =
    let split : drop i bounds ≡ it ∷ drop (i + 1) bounds = drop_more bounds i it within ∙ ap (λ x. x ∷ drop (i + 1) bounds) (sym found) in
    let later = bounds_of n encoding (next + fresh_for encoding (length it.items) it.limit) (drop (i + 1) bounds) in
    emitted_within old now new all (bounds_of n encoding next (it ∷ [])) later
    (emitted_same old now all (bounds_of n encoding next (drop i bounds)) (bounds_of n encoding next (it ∷ []) ++ later) emitted (ap (bounds_of n encoding next) split ∙ bounds_step n encoding next it (drop (i + 1) bounds))) h
