-- What is said of exact mode, in pieces: its limits and its certificates.
use Rattle.std.specs.Prelude.{ℕ, List, [], ◌∷◌, codes, decimal}
use Rattle.derivation_check.specs.declared.cert_fault.CertFault.{CertFault}
use Rattle.derivation_check.specs.declared.cert_fault.CertFault.TheVariants as certs
use Rattle.run_answers.specs.declared.large.Large.{Large}
use Rattle.run_answers.specs.declared.large.Large.TheVariants as larges

-- the word for a count that has a limit
abbrev pub large_word : Large → List ℕ
large_word larges.Ions = codes "ions"
large_word larges.Places = codes "places"
large_word larges.Operations = codes "operations"
large_word larges.Steps = codes "steps"

-- a count above its limit
abbrev pub large_said : Large → ℕ → List (List ℕ)
large_said what count = codes "too large: " ∷ decimal count ∷ codes " " ∷ large_word what ∷ []

-- a certificate that is refused
abbrev pub cert_said : CertFault → List (List ℕ)
cert_said (certs.Line n) = codes "certificate line " ∷ decimal n ∷ []
cert_said (certs.Bad n) = codes "certificate line " ∷ decimal n ∷ codes " is no resolution" ∷ []
cert_said certs.NotRefuting = codes "certificate refutes nothing asked" ∷ []
cert_said certs.Endless = codes "certificate is endless" ∷ []
cert_said certs.NoMemory = codes "no memory" ∷ []
