-- What was found of files that are read one after another.
use Rattle.std.proofs.Common.{◌≡◌, ◌≢◌, List, ℕ, ◌≤◌, Option, Some, Result, Ok, Err, refl, sym, ap, ◌∙◌, subst, inl, inr, arith}
use Rattle.std.specs.Prelude.{IsTrue, Bool, false, nat_le, ◌<◌, length, if◌then◌else◌}
use Rattle.std.proofs.lemmas.Bool.{cases_Bool, leb-true, le-leb}
use Rattle.qc_base.specs.Causes.{Rose}
use Rattle.qc_base.specs.Shelf.{ShelfFacts, SameCounts, OnlyReads}
use Rattle.circuit_core.specs.Circuit.{CircuitValue}
use Rattle.trap_parts.specs.Parts.{TrapValue}
use Rattle.placement.specs.Placing.{Table}
use Rattle.request_words.specs.declared.file.File.{File}
use Rattle.run_answers.specs.declared.answer.Answer.{Answer}
use Rattle.run_answers.specs.declared.answer.Answer.TheVariants as answers
use Rattle.run_stages.specs.declared.inputs.Inputs.{Inputs}
use Rattle.run_stages.specs.Found.{IsFoundAs}
use Rattle.run_stages.specs.Stages.{Is, Then}
use Rattle.run_stages.specs.Prepare.{limit_of, bytes_of, CircuitOf, TrapOf, inputs_of}
use Rattle.run_stages.specs.Loading.{Reached, Loads, LoadsBoth, Counts, CountsAll}
use Rattle.run_stages.proofs.Stages.{reached_ok, reached_err}

-- ---- counts that rose

rose_later : (a b c : ℕ) → Rose a b → b ≤ c → Rose a c
rose_later a b c rose more = omega (arith, rose, more)

rose_from : (a b c : ℕ) → a ≤ b → Rose b c → Rose a c
rose_from a b c more rose = omega (arith, rose, more)

-- ---- what was found, before another read and after one

pub found_before : (before middle now : ShelfFacts) (name : List ℕ) (found : Option (List ℕ)) → OnlyReads middle now → IsFoundAs before middle name found → IsFoundAs before now name found
found_before before middle now name found more (inl held) = inl held
found_before before middle now name found more (inr none) = inr (none.0, rose_later (before.read_faults name) (middle.read_faults name) (now.read_faults name) none.1 (more.later name))

pub found_after : (before middle now : ShelfFacts) (name : List ℕ) (found : Option (List ℕ)) → OnlyReads before middle → IsFoundAs middle now name found → IsFoundAs before now name found
found_after before middle now name found first (inl held) =
    inl (λ known. held (subst IsTrue (sym first.as_known) known) ∙ ap (λ (contents : List ℕ → Option (List ℕ)). contents name) first.same)
found_after before middle now name found first (inr none) =
    inr (none.0, rose_from (before.read_faults name) (middle.read_faults name) (now.read_faults name) (first.later name) none.1)

-- a file that isn't read is what the shelf holds
pub not_read : (before now : ShelfFacts) (name : List ℕ) → IsFoundAs before now name (before.contents name)
not_read before now name = inl (λ known. refl)

-- ---- one file

-- a content within the limit, and one above it
pub in_limit : (file : File) (bytes shown : List ℕ) → shown ≡ bytes → length bytes ≤ limit_of file → Ok shown ≡ bytes_of file (Some bytes)
in_limit file bytes shown same fits =
    ap (λ (b : List ℕ). Ok b) same ∙ sym (ap (λ (b : Bool). if b then Ok bytes else Err (answers.Long file)) (le-leb (length bytes) (limit_of file) fits))

above : (a b : ℕ) → b < a → nat_le a b ≡ false
above a b more = elim (cases_Bool (nat_le a b)) [
  | inl fits ↦ absurd (let few : a ≤ b = leb-true a b fits in omega (arith, few, more))
  | inr not ↦ not
]

pub above_limit : (file : File) (bytes : List ℕ) → limit_of file < length bytes → Err (answers.Long file) ≡ bytes_of file (Some bytes)
above_limit file bytes more = sym (ap (λ (b : Bool). if b then Ok bytes else Err (answers.Long file)) (above (length bytes) (limit_of file) more))

pub loads_long : (before now : ShelfFacts) (name : List ℕ) (file : File) (limit : ℕ) → limit ≡ limit_of file
    → (content : List ℕ) × (IsTrue before.known → before.contents name ≡ Some content) × (limit < length content)
    → Loads before now name (λ content. Is (bytes_of file content)) (Err (answers.Long file))
loads_long before now name file limit same long = record {
  content = Some long.0;
  is_found = inl (λ known. sym (long.1 known));
  reached = inr (above_limit file long.0 (subst (λ (n : ℕ). n < length long.0) same long.2));
}

pub loads_whole : (before now : ShelfFacts) (name : List ℕ) (file : File) (limit : ℕ) (bytes shown : List ℕ) → limit ≡ limit_of file → shown ≡ bytes
    → (IsTrue before.known → before.contents name ≡ Some bytes) → length bytes ≤ limit → Loads before now name (λ content. Is (bytes_of file content)) (Ok shown)
loads_whole before now name file limit bytes shown same is whole fits = record {
  content = Some bytes;
  is_found = inl (λ known. sym (whole known));
  reached = inr (in_limit file bytes shown is (subst (λ (n : ℕ). length bytes ≤ n) same fits));
}

pub loads_none : {X : Type 0} (before now : ShelfFacts) (name : List ℕ) (stage : Option (List ℕ) → Result X Answer → Type 0) → Loads before now name stage (Err answers.NoMemory)
loads_none before now name stage = record { content = before.contents name; is_found = inl (λ known. refl); reached = inl refl }

same_file : {X : Type 0} (a b : File) → ◌≡◌ {A = Result X Answer} (Err (answers.ReadFault a)) (Err (answers.ReadFault b)) → b ≡ a
same_file a b e = cc

pub counts_failed : {X : Type 0} (file : File) (name : List ℕ) (before now : ShelfFacts) → Rose (before.read_faults name) (now.read_faults name) → Counts {X = X} file name before now (Err (answers.ReadFault file))
counts_failed {X} file name before now rose = record {
  failed = λ which e. (same_file {X = X} file which e, rose);
  stays = λ none. absurd (none file refl);
}

pub loads_ok : {X : Type 0} (before now : ShelfFacts) (name : List ℕ) (file : File) (next : List ℕ → Result X Answer → Type 0) (bytes : List ℕ) (r : Result X Answer)
    → Loads before now name (λ content. Is (bytes_of file content)) (Ok bytes) → Reached (next bytes) r → Loads before now name (λ content. Then (Is (bytes_of file content)) next) r
loads_ok before now name file next bytes r loads reached = record {
  content = loads.content;
  is_found = loads.is_found;
  reached = reached_ok (Is (bytes_of file loads.content)) next bytes r loads.reached reached;
}

pub loads_err : {X : Type 0} (before now : ShelfFacts) (name : List ℕ) (file : File) (next : List ℕ → Result X Answer → Type 0) (answer : Answer)
    → Loads before now name (λ content. Is (bytes_of file content)) (Err answer) → Loads before now name (λ content. Then (Is (bytes_of file content)) next) (Err answer)
loads_err before now name file next answer loads = record {
  content = loads.content;
  is_found = loads.is_found;
  reached = reached_err (Is (bytes_of file loads.content)) next answer loads.reached;
}

-- ---- the circuit's file and then the trap's

-- what the circuit and the trap together are
abbrev Pair : Option (List ℕ) → CircuitValue → Result Inputs Answer → Type 0
Pair trap_file circuit = Then (TrapOf trap_file) (λ file. Is (Ok (inputs_of circuit file)))

pub both_ok : (before middle now : ShelfFacts) (circuit_name trap_name : List ℕ) (circuit : CircuitValue) (file : TrapValue × Option Table) (inputs : Inputs)
    → OnlyReads before middle → OnlyReads middle now → Loads before middle circuit_name CircuitOf (Ok circuit) → Loads middle now trap_name TrapOf (Ok file) → inputs ≡ inputs_of circuit file
    → LoadsBoth before now circuit_name trap_name (Ok inputs)
both_ok before middle now circuit_name trap_name circuit file inputs first second one two same =
    record {
      circuit_file = one.content;
      trap_file = two.content;
      circuit_found = found_before before middle now circuit_name one.content second one.is_found;
      trap_found = found_after before middle now trap_name two.content first two.is_found;
      reached = reached_ok (CircuitOf one.content) (Pair two.content) circuit (Ok inputs) one.reached
          (reached_ok (TrapOf two.content) (λ file. Is (Ok (inputs_of circuit file))) file (Ok inputs) two.reached (inr (ap (λ (i : Inputs). Ok i) same)));
    }

pub both_trap_err : (before middle now : ShelfFacts) (circuit_name trap_name : List ℕ) (circuit : CircuitValue) (answer : Answer)
    → OnlyReads before middle → OnlyReads middle now → Loads before middle circuit_name CircuitOf (Ok circuit) → Loads middle now trap_name TrapOf (Err answer)
    → LoadsBoth before now circuit_name trap_name (Err answer)
both_trap_err before middle now circuit_name trap_name circuit answer first second one two = record {
  circuit_file = one.content;
  trap_file = two.content;
  circuit_found = found_before before middle now circuit_name one.content second one.is_found;
  trap_found = found_after before middle now trap_name two.content first two.is_found;
  reached = reached_ok (CircuitOf one.content) (Pair two.content) circuit (Err answer) one.reached
      (reached_err (TrapOf two.content) (λ file. Is (Ok (inputs_of circuit file))) answer two.reached);
}

pub both_circuit_err : (before now : ShelfFacts) (circuit_name trap_name : List ℕ) (answer : Answer) → Loads before now circuit_name CircuitOf (Err answer) → LoadsBoth before now circuit_name trap_name (Err answer)
both_circuit_err before now circuit_name trap_name answer one = record {
  circuit_file = one.content;
  trap_file = before.contents trap_name;
  circuit_found = one.is_found;
  trap_found = not_read before now trap_name;
  reached = reached_err (CircuitOf one.content) (Pair (before.contents trap_name)) answer one.reached;
}

-- ---- the counts

pub same_counts : (before middle now : ShelfFacts) → SameCounts before middle → SameCounts middle now → SameCounts before now
same_counts before middle now first second = record { reads = second.reads ∙ first.reads; puts = second.puts ∙ first.puts }

-- no answer was given that a file could not be read
pub no_fault : {X : Type 0} (x : X) (file : File) → ◌≢◌ {A = Result X Answer} (Ok x) (Err (answers.ReadFault file))
no_fault x file e = cc

pub same_err : {X : Type 0} (a b : Answer) → ◌≡◌ {A = Result X Answer} (Err a) (Err b) → a ≡ b
same_err a b e = cc

read_fault : {X Y : Type 0} (a : Answer) (file : File) → ◌≡◌ {A = Result X Answer} (Err a) (Err (answers.ReadFault file)) → ◌≡◌ {A = Result Y Answer} (Err a) (Err (answers.ReadFault file))
read_fault a file e = cc

-- the names of which one is that of the file
pub counts_as : {X Y : Type 0} (names : File → Option (List ℕ)) (file : File) (name : List ℕ) (before now : ShelfFacts) (answer : Answer) → names file ≡ Some name
    → Counts {X = X} file name before now (Err answer) → CountsAll {X = Y} names before now (Err answer)
counts_as {X} {Y} names file name before now answer named counts = record {
  failed = λ which e.
      let one = counts.failed which (read_fault {X = Y} {Y = X} answer which e) in
      record { name = name; named = ap names one.0 ∙ named; rose = one.1 };
  stays = λ none. counts.stays (λ which e. none which (read_fault {X = X} {Y = Y} answer which e));
}

-- after a read that succeeded
pub counts_after : {X Y : Type 0} (names : File → Option (List ℕ)) (before middle now : ShelfFacts) (answer : Answer) → SameCounts before middle
    → CountsAll {X = X} names middle now (Err answer) → CountsAll {X = Y} names before now (Err answer)
counts_after {X} {Y} names before middle now answer same counts = record {
  failed = λ which e.
      let one = counts.failed which (read_fault {X = Y} {Y = X} answer which e) in
      record { name = one.name; named = one.named; rose = subst (λ (faults : List ℕ → ℕ). Rose (faults one.name) (now.read_faults one.name)) same.reads one.rose };
  stays = λ none. same_counts before middle now same (counts.stays (λ which e. none which (read_fault {X = X} {Y = Y} answer which e)));
}

pub counts_ok : {X : Type 0} (names : File → Option (List ℕ)) (before now : ShelfFacts) (x : X) → SameCounts before now → CountsAll {X = X} names before now (Ok x)
counts_ok names before now x same = record { failed = λ which e. absurd (no_fault x which e); stays = λ none. same }

-- an answer of another kind
pub counts_other : {X : Type 0} (names : File → Option (List ℕ)) (before now : ShelfFacts) (answer : Answer) → ((file : File) → answer ≢ answers.ReadFault file) → SameCounts before now
    → CountsAll {X = X} names before now (Err answer)
counts_other {X} names before now answer other same = record { failed = λ which e. absurd (other which (same_err {X = X} answer (answers.ReadFault which) e)); stays = λ none. same }

-- more names
pub counts_with : {X Y : Type 0} (few names : File → Option (List ℕ)) (before now : ShelfFacts) (answer : Answer) → ((file : File) (name : List ℕ) → few file ≡ Some name → names file ≡ Some name)
    → CountsAll {X = X} few before now (Err answer) → CountsAll {X = Y} names before now (Err answer)
counts_with {X} {Y} few names before now answer more counts = record {
  failed = λ which e.
      let one = counts.failed which (read_fault {X = Y} {Y = X} answer which e) in
      record { name = one.name; named = more which one.name one.named; rose = one.rose };
  stays = λ none. counts.stays (λ which e. none which (read_fault {X = X} {Y = Y} answer which e));
}
