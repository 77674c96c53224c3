-- What the loops over members after commas do.
use Rattle.std.proofs.Common.{◌≡◌, true, List, [], ◌∷◌, ◌++◌, Option, Some, None, Result, Err, refl}
use Rattle.std.specs.Prelude.{IsErrAnd}
use Rattle.std.proofs.lemmas.Result.{err_from_is_err_and}
use Rattle.qasm_read.specs.declared.stop.Stop.{Stop}
use Rattle.qasm_read.specs.declared.stop.Stop.TheVariants.{NoMemory, OtherForm}
use Rattle.qasm_tokens.specs.declared.token.Sign.TheVariants.{Comma}
use Rattle.qasm_read.specs.Grammar.{argument, body_item}
use Rattle.qasm_read.specs.Forms.{name}
use Rattle.qasm_read.specs.Reading.{State, Reader, Gives, comes, skip_at, after_sign, with_front, repeat_at, name_at, argument_at, body_item_at}
use Rattle.qasm_read.specs.Expressions.{exp_at}
use Rattle.qasm_read.proofs.Readers.{anything, reads_name}
use Rattle.qasm_read.proofs.Lists.{Shortens, Shortens-after_sign, repeat_more, repeat_none}
use Rattle.qasm_read.proofs.Arguments.{reads_argument}
use Rattle.qasm_read.proofs.StatementLaws.{Shortens-takes, reads_item, item_takes}
use Rattle.qasm_read.proofs.ExpressionLaws.{cut_expression, reads_expressions}

abbrev pub further : {X : Type 0} → Reader X → Reader (List X)
further f = repeat_at (comes Comma) (after_sign Comma f)

pub commas_more : {X : Type 0} (f : Reader X) → Shortens (after_sign Comma f) → (front : List X) (st mid after : State) (x : X) → comes Comma st ≡ true → skip_at Comma st ≡ Some (tt, mid) → f mid ≡ Some (x, after) → with_front front (further f st) ≡ with_front (front ++ x ∷ []) (further f after)
commas_more f short front st mid after x on skipped read = repeat_more (comes Comma) (after_sign Comma f) short front st after x on (rw (skipped, read) refl)

pub commas_none : {X : Type 0} (f : Reader X) → Shortens (after_sign Comma f) → (front : List X) (st mid : State) → comes Comma st ≡ true → skip_at Comma st ≡ Some (tt, mid) → f mid ≡ None → with_front front (further f st) ≡ None
commas_none f short front st mid on skipped read = repeat_none (comes Comma) (after_sign Comma f) short front st on (rw (skipped, read) refl)

by_cause : {X Y : Type 0} (e : Stop) (st now : State) (read : Option (X × State)) (whole : Option (Y × State)) → Gives {X = X} (Err e) st read → (read ≡ None → whole ≡ None) → Gives {X = Y} (Err e) now whole
by_cause NoMemory st now read whole given none = tt
by_cause OtherForm st now read whole given none = none given

-- an error that is handed on
pub handed_on : {X Y : Type 0} (result : Result Y Stop) (e : Stop) (st now : State) (read : Option (X × State)) (whole : Option (Y × State)) → IsErrAnd result (λ x. x ≡ e) → Gives {X = X} (Err e) st read → (read ≡ None → whole ≡ None) → Gives result now whole
handed_on {X} {Y} result e st now read whole is given none = let p = err_from_is_err_and result is in rw (p.1, p.2) (by_cause {X = X} {Y = Y} e st now read whole given none)

pub short_name : Shortens (after_sign Comma name_at)
short_name = Shortens-after_sign Comma name name_at reads_name.found

pub short_argument : Shortens (after_sign Comma argument_at)
short_argument = Shortens-after_sign Comma argument argument_at reads_argument.found

pub short_exp : Shortens (after_sign Comma exp_at)
short_exp = Shortens-after_sign Comma cut_expression exp_at reads_expressions.reads.found

pub short_item : Shortens (body_item_at exp_at)
short_item = Shortens-takes (body_item cut_expression) anything (body_item_at exp_at) (reads_item reads_expressions) (item_takes cut_expression)
