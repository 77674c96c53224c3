-- The answer is what the words and the files come to.
use Rattle.std.proofs.Common.{◌≡◌, ◌≢◌, List, ℕ, Option, Some, None, Result, Ok, Err, refl, sym, ap, ◌∙◌, subst, inl, inr, ◌⊎◌, ◌≤◌, arith}
use Rattle.std.proofs.Math.Nat.{le_trans}
use Rattle.std.specs.Prelude.{IsTrue, true, false}
use Rattle.std.proofs.lemmas.Bool.{false≢true}
use Rattle.std.specs.Option.{option_and_then}
use Rattle.qc_base.specs.Causes.{Rose}
use Rattle.qc_base.specs.Shelf.{Contents, ShelfFacts, SameCounts, OnlyReads}
use Rattle.qc_base.specs.Sink.{Took, TookPart}
use Rattle.request_words.specs.declared.file.File.{File}
use Rattle.request_words.specs.declared.file.File.TheVariants as files
use Rattle.run_answers.specs.Answer.{cites_names, fault_line}
use Rattle.run_answers.specs.declared.answer.Answer.{Answer}
use Rattle.run_answers.specs.declared.answer.Answer.TheVariants as answers
use Rattle.run_stages.specs.Work.{Work, make, fewest, judged, reported, verified, loaded, Ends, AnswersWork, AnswersTo}
use Rattle.run_stages.specs.Found.{Found, name_in, put_name, held, IsFoundUnder, IsFound, FailsToRead, FailsToPut}
use Rattle.run_stages.specs.Prepare.{Prepares}
use Rattle.run_stages.specs.declared.ending.Ending.{Ending}
use Rattle.program_run.specs.Run.{SinkFacts, Devices, Holds, KeepsFiles, IsWhole, IsPut, FailedToPut, FailedToWrite, IsQuiet, Concludes, KeepsCounts, NoneFailed, IsReported, Runs}
use Rattle.run_stages.specs.Kinds.{IsRefusal, ends_search}
use Rattle.program_run.specs.Preparing.{IsEnd, IsFinished, names_of}
use Rattle.run_stages.specs.Loading.{IsDoneBy, IsOutcome, IsOnly, Finishes}
use Rattle.run_stages.proofs.Reading.{same_counts}

pub end_of : (work : Work) (answer : Answer) (ending : Ending) → Ends work answer ending → IsEnd answer
end_of (make setting) answer ending ends = inl ends.0
end_of (fewest setting max budget) answer ending (inl least) = inl least.0
end_of (fewest setting max budget) answer ending (inr (inl none)) = inr (subst (λ (a : Answer). IsTrue (ends_search a)) (sym none.0) refl)
end_of (fewest setting max budget) answer ending (inr (inr spent)) = inr (subst (λ (a : Answer). IsTrue (ends_search a)) (sym spent.0) refl)
end_of (judged setting steps) answer ending ends = inl ends.0
end_of (reported setting steps) answer ending ends = inl ends.0
end_of (verified setting steps) answer ending ends = inl ends.0
end_of (loaded seed) answer ending ends = inl ends.0

answers_work : (work : Work) (answer : Answer) (ending : Ending) → Ends work answer ending → AnswersWork work answer
answers_work (make setting) answer ending ends = ends.0
answers_work (fewest setting max budget) answer ending (inl least) = inl (least.0, record { schedule = least.1.schedule; plays = least.1.shown.least.plays; within = least.1.shown.within })
answers_work (fewest setting max budget) answer ending (inr (inl none)) = inr (inl (none.0, none.1.none))
answers_work (fewest setting max budget) answer ending (inr (inr spent)) = inr (inr (spent.0, spent.1.few))
answers_work (judged setting steps) answer ending ends = ends.0
answers_work (reported setting steps) answer ending ends = ends.0
answers_work (verified setting steps) answer ending ends = ends.0
answers_work (loaded seed) answer ending ends = ends.0

-- the answer of an ending is one to the outcome that ends so
answers_outcome : (ending : Ending) (outcome : Result Work Answer) → IsOutcome ending outcome → AnswersTo outcome ending.answer
answers_outcome ending outcome is = subst (λ (o : Result Work Answer). AnswersTo o ending.answer) (sym is.is) (answers_work is.work ending.answer ending is.ends)

-- ---- where no read failed, what was found is what the shelf holds

held_under : (before now : ShelfFacts) (name : Option (List ℕ)) (found : Option (List ℕ)) → IsTrue before.known → ((n : List ℕ) → name ≡ Some n → Rose (before.read_faults n) (now.read_faults n) → ⊥)
    → IsFoundUnder before now name found → found ≡ option_and_then before.contents name
held_under before now None found known none is = is
held_under before now (Some name) found known none (inl is) = is known
held_under before now (Some name) found known none (inr failed) = absurd (none name refl failed.1)

same_found : (a b : Found) → a.circuit ≡ b.circuit → a.trap ≡ b.trap → a.schedule ≡ b.schedule → a.certificate ≡ b.certificate → a ≡ b
same_found a b circuit trap schedule certificate =
    ap (λ (c : Option (List ℕ)). record { circuit = c; trap = a.trap; schedule = a.schedule; certificate = a.certificate }) circuit
    ∙ ap (λ (t : Option (List ℕ)). record { circuit = b.circuit; trap = t; schedule = a.schedule; certificate = a.certificate }) trap
    ∙ ap (λ (s : Option (List ℕ)). record { circuit = b.circuit; trap = b.trap; schedule = s; certificate = a.certificate }) schedule
    ∙ ap (λ (k : Option (List ℕ)). record { circuit = b.circuit; trap = b.trap; schedule = b.schedule; certificate = k }) certificate

pub found_is_held : (before now : ShelfFacts) (words : List (List ℕ)) (found : Found) → IsTrue before.known
    → ((file : File) → FailsToRead (name_in words) file before.read_faults now.read_faults → ⊥) → IsFound before now (name_in words) found → found ≡ held before.contents words
found_is_held before now words found known none is =
    let one : found.circuit ≡ (held before.contents words).circuit =
    held_under before now (name_in words files.Circuit) found.circuit known (λ n named rose. none files.Circuit (record { name = n; named = named; rose = rose })) is.circuit in
    let two : found.trap ≡ (held before.contents words).trap =
    held_under before now (name_in words files.Trap) found.trap known (λ n named rose. none files.Trap (record { name = n; named = named; rose = rose })) is.trap in
    let three : found.schedule ≡ (held before.contents words).schedule =
    held_under before now (name_in words files.Schedule) found.schedule known (λ n named rose. none files.Schedule (record { name = n; named = named; rose = rose })) is.schedule in
    let four : found.certificate ≡ (held before.contents words).certificate =
    held_under before now (name_in words files.Certificate) found.certificate known (λ n named rose. none files.Certificate (record { name = n; named = named; rose = rose })) is.certificate in
    same_found found (held before.contents words) one two three four

unless_memory : (found : Found) (words : List (List ℕ)) (answer : Answer) → Finishes (Prepares found words) (Err answer) → answer ≢ answers.NoMemory → Prepares found words (Err answer)
unless_memory found words answer (inl e) memory = absurd (memory e)
unless_memory found words answer (inr is) memory = is

-- ---- devices that failed

rose_before : (a b c : ℕ) → a ≤ b → Rose b c → Rose a c
rose_before a b c more rose = omega (arith, rose, more)

rose_after : (a b c : ℕ) → Rose a b → b ≤ c → Rose a c
rose_after a b c rose more = omega (arith, rose, more)

fails_later : (words : List (List ℕ)) (file : File) (before middle now : ShelfFacts) → KeepsFiles (put_name words) middle now
    → FailsToRead (name_in words) file before.read_faults middle.read_faults → FailsToRead (name_in words) file before.read_faults now.read_faults
fails_later words file before middle now files failed = record {
  name = failed.name;
  named = failed.named;
  rose = rose_after (before.read_faults failed.name) (middle.read_faults failed.name) (now.read_faults failed.name) failed.rose (files.later failed.name);
}

-- a put that failed, seen from before
pub put_failed : (name : Option (List ℕ)) (before middle now : ShelfFacts) → OnlyReads before middle → FailsToPut name middle.put_faults now.put_faults → FailsToPut name before.put_faults now.put_faults
put_failed name before middle now reads failed = record {
  put = failed.put;
  named = failed.named;
  rose = rose_before (before.put_faults failed.put) (middle.put_faults failed.put) (now.put_faults failed.put) (reads.puts_later failed.put) failed.rose;
}

none_cut : (before now middle : Devices) (words : List (List ℕ)) (ending : Ending) → OnlyReads before.shelf middle.shelf → middle.out ≡ before.out → NoneFailed words before now
    → FailedToPut (put_name words) middle now ⊎ ((ending.answer ≡ answers.Ok) × FailedToWrite (put_name words) ending middle now) → ⊥
none_cut before now middle words ending reads out quiet (inl failed) = quiet.puts (put_failed (put_name words) before.shelf middle.shelf now.shelf reads failed.put)
none_cut before now middle words ending reads out quiet (inr failed) = quiet.out (subst (λ (o : SinkFacts). Rose o.faults now.out.faults) out failed.1.rose)

-- ---- the answer

-- the answer where the words and the files came to work
pub settled_ok : (before now middle : Devices) (words : List (List ℕ)) (found : Found) (ending : Ending) (result : Answer) (outcome : Result Work Answer)
    → IsFound before.shelf middle.shelf (name_in words) found → (IsTrue before.shelf.known → IsOnly (Prepares found words) (Ok ending)) → IsFinished (put_name words) ending middle now result → OnlyReads before.shelf middle.shelf
    → middle.out ≡ before.out → IsTrue before.shelf.known → Prepares (held before.shelf.contents words) words outcome → NoneFailed words before now → AnswersTo outcome result ⊎ (result ≡ answers.NoMemory)
settled_ok before now middle words found ending result outcome is only finished reads out known held_is quiet =
    let none : (file : File) → FailsToRead (name_in words) file before.shelf.read_faults middle.shelf.read_faults → ⊥ =
    λ file failed. quiet.reads file (fails_later words file before.shelf middle.shelf now.shelf finished.files failed) in
    let same = found_is_held before.shelf middle.shelf words found known none is in
    let comes = subst (λ (f : Found). Prepares f words outcome) (sym same) held_is in
    elim finished.either [
      | inl ends ↦ inl (subst (AnswersTo outcome) (sym ends) (answers_outcome ending outcome (only known outcome comes)))
      | inr other ↦ elim other [
        | inl cut ↦ absurd (none_cut before now middle words ending reads out quiet (finished.part cut))
        | inr memory ↦ inr memory
      ]
    ]

is_refused : (answer : Answer) (outcome : Result Work Answer) → outcome ≡ Err answer → AnswersTo outcome answer
is_refused answer outcome e = subst (λ (o : Result Work Answer). AnswersTo o answer) (sym e) refl

-- the answer where they came to a refusal
pub settled_err : (before now : ShelfFacts) (words : List (List ℕ)) (found : Found) (answer : Answer) (outcome : Result Work Answer)
    → IsFound before now (name_in words) found → (IsTrue before.known → IsOnly (Prepares found words) (Err answer))
    → IsTrue before.known → Prepares (held before.contents words) words outcome
    → ((file : File) → FailsToRead (name_in words) file before.read_faults now.read_faults → ⊥)
    → AnswersTo outcome answer ⊎ (answer ≡ answers.NoMemory)
settled_err before now words found answer outcome is only known held_is none =
    let same = found_is_held before now words found known none is in
    let comes = subst (λ (f : Found). Prepares f words outcome) (sym same) held_is in
    elim (only known) [
      | inl memory ↦ inr memory
      | inr refused ↦ inl (is_refused answer outcome (refused outcome comes))
    ]

-- ---- why the answer comes, and what was put and written

holds_from : (name put : Option (List ℕ)) (before middle now : ShelfFacts) → OnlyReads before middle → Holds middle now name put → Holds before now name put
holds_from name None before middle now reads holds = holds ∙ reads.same
holds_from None (Some bytes) before middle now reads holds = holds
holds_from (Some name) (Some bytes) before middle now reads holds = λ known. holds (subst IsTrue (sym reads.as_known) known)

whole_from : (name : Option (List ℕ)) (ending : Ending) (before middle now : Devices) → OnlyReads before.shelf middle.shelf → middle.out ≡ before.out → IsWhole name ending middle now → IsWhole name ending before now
whole_from name ending before middle now reads out whole = record {
  holds = holds_from name ending.put before.shelf middle.shelf now.shelf reads whole.holds;
  taken = subst (λ (o : SinkFacts). Took o.taken now.out.taken ending.text) out whole.taken;
}

put_from : (name : Option (List ℕ)) (ending : Ending) (before middle now : Devices) → OnlyReads before.shelf middle.shelf → middle.out ≡ before.out → IsPut name ending middle now → IsPut name ending before now
put_from name ending before middle now reads out put = record { holds = holds_from name ending.put before.shelf middle.shelf now.shelf reads put.holds; out = put.out ∙ out }

part_from : (words : List (List ℕ)) (answer : Answer) (ending : Ending) (before middle now : Devices) → OnlyReads before.shelf middle.shelf → SameCounts before.shelf middle.shelf → middle.out ≡ before.out
    → FailedToPut (put_name words) middle now ⊎ ((answer ≡ answers.Ok) × FailedToWrite (put_name words) ending middle now)
    → FailedToPut (put_name words) before now ⊎ ((answer ≡ answers.Ok) × FailedToWrite (put_name words) ending before now)
part_from words answer ending before middle now reads counts out (inl failed) = inl (record { put = put_failed (put_name words) before.shelf middle.shelf now.shelf reads failed.put; out = failed.out ∙ out })
part_from words answer ending before middle now reads counts out (inr failed) = inr (
  failed.0,
  record {
    holds = holds_from (put_name words) ending.put before.shelf middle.shelf now.shelf reads failed.1.holds;
    counts = same_counts before.shelf middle.shelf now.shelf counts failed.1.counts;
    taken = subst (λ (o : SinkFacts). TookPart o.taken now.out.taken ending.text) out failed.1.taken;
    rose = subst (λ (o : SinkFacts). Rose o.faults now.out.faults) out failed.1.rose;
  },
)

-- an answer that isn't the ending's, nor that a device failed
no_other : {P : Type 0} (ending : Ending) (answer : Answer) → (answer ≡ ending.answer → P) → answer ≢ answers.WriteFault → answer ≢ answers.NoMemory
    → (answer ≡ ending.answer) ⊎ ((answer ≡ answers.WriteFault) ⊎ (answer ≡ answers.NoMemory)) → P
no_other ending answer here write memory (inl ends) = here ends
no_other ending answer here write memory (inr (inl cut)) = absurd (write cut)
no_other ending answer here write memory (inr (inr none)) = absurd (memory none)

ok_ends : (work : Work) (ending : Ending) (answer : Answer) → answer ≡ answers.Ok → answer ≡ ending.answer → Ends work ending.answer ending → Ends work answers.Ok ending
ok_ends work ending answer ok same ends = subst (λ (a : Answer). Ends work a ending) (sym same ∙ ok) ends

search_no_write : (answer : Answer) → IsTrue (ends_search answer) → answer ≢ answers.WriteFault
search_no_write answer search e = let is : false ≡ true = subst (λ (a : Answer). IsTrue (ends_search a)) e search in false≢true is

search_no_memory : (answer : Answer) → IsTrue (ends_search answer) → answer ≢ answers.NoMemory
search_no_memory answer search e = let is : false ≡ true = subst (λ (a : Answer). IsTrue (ends_search a)) e search in false≢true is

refusal_no_end : (answer : Answer) → IsRefusal answer → IsEnd answer → ⊥
refusal_no_end answer refusal (inl ok) = refusal.ok ok
refusal_no_end answer refusal (inr search) = let is : ends_search answer ≡ true = search in false≢true (sym refusal.search ∙ is)

-- a refusal that is an ending's is out of memory
refused_memory : (work : Work) (ending : Ending) (answer : Answer) → Ends work ending.answer ending → IsRefusal answer
    → (answer ≡ ending.answer) ⊎ ((answer ≡ answers.WriteFault) ⊎ (answer ≡ answers.NoMemory)) → answer ≡ answers.NoMemory
refused_memory work ending answer ends refusal (inl same) = absurd (refusal_no_end answer refusal (subst IsEnd (sym same) (end_of work ending.answer ending ends)))
refused_memory work ending answer ends refusal (inr (inl cut)) = absurd (refusal.write cut)
refused_memory work ending answer ends refusal (inr (inr memory)) = memory

ok_no_write : answers.Ok ≢ answers.WriteFault
ok_no_write e = cc

ok_no_memory : answers.Ok ≢ answers.NoMemory
ok_no_memory e = cc

quiet_from : (before middle now : Devices) → OnlyReads before.shelf middle.shelf → middle.out ≡ before.out → IsQuiet middle now → IsQuiet before now
quiet_from before middle now reads out quiet = record { contents = quiet.contents ∙ reads.same; out = quiet.out ∙ out }

pub concludes_ok : (found : Found) (words : List (List ℕ)) (ending : Ending) (before middle now : Devices) (answer : Answer) → IsDoneBy (Prepares found words) ending → OnlyReads before.shelf middle.shelf
    → SameCounts before.shelf middle.shelf → middle.out ≡ before.out → IsFinished (put_name words) ending middle now answer → Concludes found words before now answer
concludes_ok found words ending before middle now answer done reads counts out finished =
    record {
      ok = λ e. record {
        ending = ending;
        done = record {
          work = done.work;
          is = done.is;
          ends = no_other ending answer (λ same. ok_ends done.work ending answer e same done.ends) (λ cut. ok_no_write (sym e ∙ cut)) (λ none. ok_no_memory (sym e ∙ none)) finished.either;
        };
        whole = whole_from (put_name words) ending before middle now reads out (finished.whole e);
      };
      put = λ search. record {
        ending = ending;
        done = record {
          work = done.work;
          is = done.is;
          ends = no_other ending answer (λ same. subst (λ (a : Answer). Ends done.work a ending) (sym same) done.ends) (search_no_write answer search) (search_no_memory answer search) finished.either;
        };
        put = put_from (put_name words) ending before middle now reads out (finished.put search);
      };
      part = λ e. record {
        answer = ending.answer;
        ending = ending;
        done = record { work = done.work; is = done.is; ends = done.ends };
        part = part_from words ending.answer ending before middle now reads counts out (finished.part e);
      };
      refused = λ refusal other. absurd (other (refused_memory done.work ending answer done.ends refusal finished.either));
      quiet = λ refusal. quiet_from before middle now reads out (finished.quiet (refused_memory done.work ending answer done.ends refusal finished.either));
    }

pub concludes_err : (found : Found) (words : List (List ℕ)) (before now : Devices) (answer : Answer) → Finishes (Prepares found words) (Err answer) → IsRefusal answer → IsQuiet before now
    → Concludes found words before now answer
concludes_err found words before now answer finishes refusal quiet = record {
  ok = λ e. absurd (refusal.ok e);
  put = λ search. absurd (refusal_no_end answer refusal (inr search));
  part = λ e. absurd (refusal.write e);
  refused = λ same memory. unless_memory found words answer finishes memory;
  quiet = λ same. quiet;
}

-- ---- files and counts over the whole run

pub files_from : (name : Option (List ℕ)) (before middle now : ShelfFacts) → OnlyReads before middle → KeepsFiles name middle now → KeepsFiles name before now
files_from name before middle now reads files = record {
  as_known = files.as_known ∙ reads.as_known;
  all = λ none. files.all none ∙ reads.same;
  others = λ put other named differs. files.others put other named differs ∙ ap (λ (contents : Contents). contents other) reads.same;
  later = λ other. le_trans (reads.later other) (files.later other);
  puts_later = λ other. le_trans (reads.puts_later other) (files.puts_later other);
}

pub files_read : (name : Option (List ℕ)) (before now : ShelfFacts) → OnlyReads before now → KeepsFiles name before now
files_read name before now reads = record {
  as_known = reads.as_known;
  all = λ none. reads.same;
  others = λ put other named differs. ap (λ (contents : Contents). contents other) reads.same;
  later = reads.later;
  puts_later = reads.puts_later;
}

end_no_write : (answer : Answer) → IsEnd answer → answer ≢ answers.WriteFault
end_no_write answer (inl ok) e = ok_no_write (sym ok ∙ e)
end_no_write answer (inr search) e = search_no_write answer search e

memory_no_write : answers.NoMemory ≢ answers.WriteFault
memory_no_write e = cc

pub counts_kept : (words : List (List ℕ)) (ending : Ending) (before middle now : Devices) (answer : Answer) → IsEnd ending.answer → OnlyReads before.shelf middle.shelf → SameCounts before.shelf middle.shelf
    → IsFinished (put_name words) ending middle now answer → KeepsCounts words answer before.shelf now.shelf
counts_kept words ending before middle now answer is_end reads counts finished = λ no_read no_put.
    let kept : answer ≢ answers.WriteFault → SameCounts before.shelf now.shelf = λ other. same_counts before.shelf middle.shelf now.shelf counts ((finished.counts other).0) in
    elim finished.either [
      | inl same ↦ kept (λ cut. end_no_write ending.answer is_end (sym same ∙ cut))
      | inr other ↦ elim other [
        | inl cut ↦ elim (finished.part cut) [
          | inl failed ↦ absurd (no_put cut (put_failed (put_name words) before.shelf middle.shelf now.shelf reads failed.put))
          | inr failed ↦ same_counts before.shelf middle.shelf now.shelf counts failed.1.counts
        ]
        | inr memory ↦ kept (λ cut. memory_no_write (sym memory ∙ cut))
      ]
    ]

-- ---- a run that came to work

found_under_later : (name found : Option (List ℕ)) (before middle now : ShelfFacts) → ((n : List ℕ) → middle.read_faults n ≤ now.read_faults n) → IsFoundUnder before middle name found → IsFoundUnder before now name found
found_under_later None found before middle now later is = is
found_under_later (Some name) found before middle now later (inl held) = inl held
found_under_later (Some name) found before middle now later (inr failed) =
    inr (failed.0, rose_after (before.read_faults name) (middle.read_faults name) (now.read_faults name) failed.1 (later name))

found_later : (names : File → Option (List ℕ)) (found : Found) (before middle now : ShelfFacts) → ((name : List ℕ) → middle.read_faults name ≤ now.read_faults name) → IsFound before middle names found → IsFound before now names found
found_later names found before middle now later is = record {
  circuit = found_under_later (names files.Circuit) found.circuit before middle now later is.circuit;
  trap = found_under_later (names files.Trap) found.trap before middle now later is.trap;
  schedule = found_under_later (names files.Schedule) found.schedule before middle now later is.schedule;
  certificate = found_under_later (names files.Certificate) found.certificate before middle now later is.certificate;
}

-- the answers of a run that came to work
abbrev pub IsLast : Answer → Type 0
IsLast answer = IsEnd answer ⊎ ((answer ≡ answers.WriteFault) ⊎ (answer ≡ answers.NoMemory))

pub last_of : (work : Work) (ending : Ending) (answer : Answer) → Ends work ending.answer ending → (answer ≡ ending.answer) ⊎ ((answer ≡ answers.WriteFault) ⊎ (answer ≡ answers.NoMemory)) → IsLast answer
last_of work ending answer ends (inl same) = inl (subst IsEnd (sym same) (end_of work ending.answer ending ends))
last_of work ending answer ends (inr other) = inr other

-- what holds of the answers of such a run alone
holds_last : (P : Answer → Type 0) → ((answer : Answer) → IsTrue (ends_search answer) → P answer) → P answers.Ok → P answers.WriteFault → P answers.NoMemory → (answer : Answer) → IsLast answer → P answer
holds_last P search ok cut memory answer (inl (inl e)) = subst P (sym e) ok
holds_last P search ok cut memory answer (inl (inr ends)) = search answer ends
holds_last P search ok cut memory answer (inr (inl e)) = subst P (sym e) cut
holds_last P search ok cut memory answer (inr (inr e)) = subst P (sym e) memory

no_true : IsTrue false → ⊥
no_true is = let e : false ≡ true = is in false≢true e

search_cites_none : (answer : Answer) → IsTrue (ends_search answer) → IsTrue (cites_names answer) → ⊥
search_cites_none (answers.NoneWithin max) search cites = no_true cites
search_cites_none (answers.Budget budget) search cites = no_true cites
search_cites_none answers.Ok search cites = no_true search
search_cites_none answers.Usage search cites = no_true search
search_cites_none (answers.ReadFault file) search cites = no_true search
search_cites_none (answers.Long file) search cites = no_true search
search_cites_none (answers.Qasm fault) search cites = no_true search
search_cites_none (answers.Expand fault) search cites = no_true search
search_cites_none (answers.Trap fault) search cites = no_true search
search_cites_none (answers.Place fault) search cites = no_true search
search_cites_none (answers.Room fault) search cites = no_true search
search_cites_none (answers.TooLarge what count) search cites = no_true search
search_cites_none (answers.Text line) search cites = no_true search
search_cites_none (answers.Illegal fault) search cites = no_true search
search_cites_none (answers.Cert fault) search cites = no_true search
search_cites_none answers.WriteFault search cites = no_true search
search_cites_none answers.NoMemory search cites = no_true search

cites_none : (answer : Answer) → IsLast answer → IsTrue (cites_names answer) → ⊥
cites_none = holds_last (λ a. IsTrue (cites_names a) → ⊥) search_cites_none no_true no_true no_true

search_no_usage : (answer : Answer) → IsTrue (ends_search answer) → answer ≢ answers.Usage
search_no_usage answer search e = no_true (subst (λ (a : Answer). IsTrue (ends_search a)) e search)

search_no_read_fault : (file : File) (answer : Answer) → IsTrue (ends_search answer) → answer ≢ answers.ReadFault file
search_no_read_fault file answer search e = no_true (subst (λ (a : Answer). IsTrue (ends_search a)) e search)

-- the end of a run that came to work, and what was before
pub record CameToWork (words : List (List ℕ)) (before middle now : Devices) (ending : Ending) (answer : Answer) : Type 0 where
  pub found : Found
  pub is_found : IsFound before.shelf middle.shelf (name_in words) found
  pub done : IsDoneBy (Prepares found words) ending
  pub only : IsTrue before.shelf.known → IsOnly (Prepares found words) (Ok ending)
  pub reads : OnlyReads before.shelf middle.shelf
  pub counts : SameCounts before.shelf middle.shelf
  pub out : middle.out ≡ before.out
  pub finished : IsFinished (put_name words) ending middle now answer

pub last_answer : (words : List (List ℕ)) (before middle now : Devices) (ending : Ending) (answer : Answer) → CameToWork words before middle now ending answer → IsLast answer
last_answer words before middle now ending answer came = last_of came.done.work ending answer came.done.ends came.finished.either

pub ran_ok : (words : List (List ℕ)) (before middle now : Devices) (ending : Ending) (answer : Answer) → CameToWork words before middle now ending answer
    → IsReported before.err now.err (fault_line (names_of None) answer) → Runs words before now answer
ran_ok words before middle now ending answer came line = record {
  found = came.found;
  is_found = found_later (name_in words) came.found before.shelf middle.shelf now.shelf came.finished.files.later came.is_found;
  concludes = concludes_ok came.found words ending before middle now answer came.done came.reads came.counts came.out came.finished;
  names = names_of None;
  named = λ cites. absurd (cites_none answer (last_answer words before middle now ending answer came) cites);
  line = line;
}

pub settles_ok : (words : List (List ℕ)) (before middle now : Devices) (ending : Ending) (answer : Answer) → CameToWork words before middle now ending answer
    → (outcome : Result Work Answer) → IsTrue before.shelf.known → Prepares (held before.shelf.contents words) words outcome → NoneFailed words before now → AnswersTo outcome answer ⊎ (answer ≡ answers.NoMemory)
settles_ok words before middle now ending answer came outcome known held_is none =
    settled_ok before now middle words came.found ending answer outcome came.is_found came.only came.finished came.reads came.out known held_is none

pub keeps_ok : (words : List (List ℕ)) (before middle now : Devices) (ending : Ending) (answer : Answer) → CameToWork words before middle now ending answer → KeepsCounts words answer before.shelf now.shelf
keeps_ok words before middle now ending answer came =
    counts_kept words ending before middle now answer (end_of came.done.work ending.answer ending came.done.ends) came.reads came.counts came.finished

pub keeps_out_ok : (words : List (List ℕ)) (before middle now : Devices) (ending : Ending) (answer : Answer) → CameToWork words before middle now ending answer → answer ≢ answers.WriteFault
    → now.out.faults ≡ before.out.faults
keeps_out_ok words before middle now ending answer came other = (came.finished.counts other).1 ∙ ap (λ (o : SinkFacts). o.faults) came.out

pub files_ok : (words : List (List ℕ)) (before middle now : Devices) (ending : Ending) (answer : Answer) → CameToWork words before middle now ending answer → KeepsFiles (put_name words) before.shelf now.shelf
files_ok words before middle now ending answer came = files_from (put_name words) before.shelf middle.shelf now.shelf came.reads came.finished.files

ok_no_usage : answers.Ok ≢ answers.Usage
ok_no_usage e = cc

cut_no_usage : answers.WriteFault ≢ answers.Usage
cut_no_usage e = cc

memory_no_usage : answers.NoMemory ≢ answers.Usage
memory_no_usage e = cc

pub no_usage : (answer : Answer) → IsLast answer → answer ≢ answers.Usage
no_usage = holds_last (λ a. a ≢ answers.Usage) search_no_usage ok_no_usage cut_no_usage memory_no_usage

ok_no_read : (file : File) → answers.Ok ≢ answers.ReadFault file
ok_no_read file e = cc

cut_no_read : (file : File) → answers.WriteFault ≢ answers.ReadFault file
cut_no_read file e = cc

memory_no_read : (file : File) → answers.NoMemory ≢ answers.ReadFault file
memory_no_read file e = cc

pub no_read_fault : (answer : Answer) (file : File) → IsLast answer → answer ≢ answers.ReadFault file
no_read_fault answer file = holds_last (λ a. a ≢ answers.ReadFault file) (search_no_read_fault file) (ok_no_read file) (cut_no_read file) (memory_no_read file) answer
