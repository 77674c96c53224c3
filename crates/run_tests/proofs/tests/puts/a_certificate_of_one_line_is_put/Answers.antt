use Rattle.std.proofs.Common.{◌≡◌, List, [], ◌∷◌, ◌++◌, ap, ◌∙◌}
use Rattle.sat_base.specs.Literal.{Literal}
use Rattle.derivation_log.specs.Log.{Lines, log_of}
use Rattle.derivation_log.proofs.Small.{both, resolves}
use Rattle.run_tests.proofs.tests.puts.a_certificate_of_one_line_is_put.Goals as goal

pub derive-requires-clause-resolves : goal.derive-requires-clause-resolves
derive-requires-clause-resolves g c =
    let added : Lines → List Literal → Lines = λ log clause. log_of (log.axioms ++ clause ∷ []) log.derived in
    let first : c.axiom.new.self ≡ log_of ((c.new.result ∷ c.new-2.result ∷ []) ∷ []) [] = c.in_ok-first.ensures.added ∙ ap (λ (log : Lines). added log (c.new.result ∷ c.new-2.result ∷ [])) c.new-log.ensures in
    let second : c.axiom-2.new.self ≡ log_of ((c.new.result ∷ c.new-2.result ∷ []) ∷ (c.new-3.result ∷ []) ∷ []) [] = c.in_ok-second.ensures.added ∙ ap (λ (log : Lines). added log (c.new-3.result ∷ [])) first in
    let literals : log_of ((c.new.result ∷ c.new-2.result ∷ []) ∷ (c.new-3.result ∷ []) ∷ []) [] ≡ log_of both [] = λ i. log_of ((c.new.ensures i ∷ c.new-2.ensures i ∷ []) ∷ (c.new-3.ensures i ∷ []) ∷ []) [] in
    resolves c.axiom-2.new.self (second ∙ literals)
