-- What a transfer leaves as it was.
use Rattle.std.proofs.Common.{◌≡◌, ◌≢◌, ℕ, List, [], slice_set, sym, ◌∙◌}
use Rattle.std.proofs.lemmas.List.{get_or-set_other}
use Rattle.qc_base.specs.declared.ids.Ion.{Ion}
use Rattle.ion_chain.specs.declared.transfer.Transfer.{Transfer}
use Rattle.ion_chain.specs.Passing.{leaving, left, joined}
use Rattle.ion_chain.specs.Transfer.{list_at, after_transfer, AreApart}
use Rattle.ion_chain.proofs.Lists.{sets_commute}

pub list_at-after_transfer : (lists : List (List Ion)) (t : Transfer) (place : ℕ) → t.from.0 ≢ place → t.to.0 ≢ place → list_at (after_transfer lists t) place ≡ list_at lists place
list_at-after_transfer lists t place from to =
    let source : List Ion = left t.from_end t.count (list_at lists t.from.0) in
    get_or-set_other (slice_set lists t.from.0 source) t.to.0 place (joined t.to_end (leaving t.from_end t.count (list_at lists t.from.0)) (list_at lists t.to.0)) [] (λ e. to (sym e))
    ∙ get_or-set_other lists t.from.0 place source [] (λ e. from (sym e))

pub after_transfer-after_transfer : (lists : List (List Ion)) (first second : Transfer) → AreApart first second → after_transfer (after_transfer lists first) second ≡ after_transfer (after_transfer lists second) first
after_transfer-after_transfer lists s t apart =
    let gone : Transfer → List Ion = λ x. left x.from_end x.count (list_at lists x.from.0) in
    let come : Transfer → List Ion = λ x. joined x.to_end (leaving x.from_end x.count (list_at lists x.from.0)) (list_at lists x.to.0) in
    let source_t : list_at (after_transfer lists s) t.from.0 ≡ list_at lists t.from.0 = list_at-after_transfer lists s t.from.0 apart.sources apart.back in
    let target_t : list_at (after_transfer lists s) t.to.0 ≡ list_at lists t.to.0 = list_at-after_transfer lists s t.to.0 apart.across apart.targets in
    let source_s : list_at (after_transfer lists t) s.from.0 ≡ list_at lists s.from.0 = list_at-after_transfer lists t s.from.0 (λ e. apart.sources (sym e)) (λ e. apart.across (sym e)) in
    let target_s : list_at (after_transfer lists t) s.to.0 ≡ list_at lists s.to.0 = list_at-after_transfer lists t s.to.0 (λ e. apart.back (sym e)) (λ e. apart.targets (sym e)) in
    rw (source_t, target_t, source_s, target_s) (sets_commute lists s.from.0 s.to.0 t.from.0 t.to.0 (gone s) (come s) (gone t) (come t) apart.sources apart.across apart.back apart.targets)
