use Rattle.std.proofs.Common.{◌≡◌, ◌≢◌, ℕ, ◌<◌, List, [], length, map, slice_set, slice_index_or, sym, ap, ◌∙◌}
use Rattle.std.proofs.lemmas.List.{get_or-map, get_or-set_other}
use Rattle.std.proofs.Math.Seq.{map-set_same}
use Rattle.ion_chain.specs.declared.transfer.Transfer.{Transfer}
use Rattle.ion_chain.specs.ChainValue.{ChainValue, ions_of, room_of}
use Rattle.ion_chain.specs.Passing.{leaving, left, joined}
use Rattle.ion_chain.specs.Transfer.{after_transfer}
use Rattle.ion_chain.proofs.Lists.{map_around, set_around}
use Rattle.ion_chain.proofs.transfer.Transfer.perform.Goals as goal

-- what is seen of the row that was found at a place
seen_at : {Y : Type 0} (f : ChainValue → Y) (rows : List ChainValue) (place : ℕ) (row : ChainValue) (blank : Y) → place < length rows → row ≡ slice_index_or rows place row → slice_index_or (map f rows) place blank ≡ f row
seen_at f rows place row blank within found = get_or-map f rows place row blank within ∙ ap f (sym found)

lists_after : (rows : List ChainValue) (t : Transfer) (blank source target source' target' : ChainValue)
    → t.from.0 ≢ t.to.0 → t.from.0 < length rows → t.to.0 < length rows → source ≡ slice_index_or rows t.from.0 source → target ≡ slice_index_or (slice_set rows t.from.0 blank) t.to.0 target
    → source'.ions ≡ left t.from_end t.count source.ions → target'.ions ≡ joined t.to_end (leaving t.from_end t.count source.ions) target.ions
    → map ions_of (slice_set (slice_set (slice_set rows t.from.0 blank) t.to.0 target') t.from.0 source') ≡ after_transfer (map ions_of rows) t
lists_after rows t blank source target source' target' apart from_within to_within source_is target_is gone come =
    let gone_from : slice_index_or (map ions_of rows) t.from.0 [] ≡ source.ions = seen_at ions_of rows t.from.0 source [] from_within source_is in
    let there : target ≡ slice_index_or rows t.to.0 target = target_is ∙ get_or-set_other rows t.from.0 t.to.0 blank target (λ e. apart (sym e)) in
    let come_to : slice_index_or (map ions_of rows) t.to.0 [] ≡ target.ions = seen_at ions_of rows t.to.0 target [] to_within there in
    map_around ions_of rows t.from.0 t.to.0 blank source' target' apart ∙ rw (gone_from, come_to, gone, come)

rooms_after : (rows : List ChainValue) (from to : ℕ) (blank source target source' target' : ChainValue)
    → from ≢ to → source ≡ slice_index_or rows from source → target ≡ slice_index_or (slice_set rows from blank) to target
    → room_of source' ≡ room_of source → room_of target' ≡ room_of target
    → map room_of (slice_set (slice_set (slice_set rows from blank) to target') from source') ≡ map room_of rows
rooms_after rows from to blank source target source' target' apart source_is target_is same_source same_target =
    let there : target ≡ slice_index_or (slice_set rows from source') to target =
    target_is ∙ get_or-set_other rows from to blank target (λ e. apart (sym e)) ∙ sym (get_or-set_other rows from to source' target (λ e. apart (sym e))) in
    ap (map room_of) (set_around rows from to blank source' target' apart)
    ∙ map-set_same room_of (slice_set rows from source') to target' target (same_target ∙ ap room_of there)
    ∙ map-set_same room_of rows from source' source (same_source ∙ ap room_of source_is)

pub returns-clause-ions : goal.returns-clause-ions
returns-clause-ions c =
    lists_after c.args.chains.now.items c.args.self c.lift-source.new.self c.lift-source.result c.index_mut-2.result.now c.pass.new.self c.pass.new.other
    c.requires.apart c.requires.from c.requires.to (cc) (c.index_mut-2.ensures.value) c.pass.ensures.left c.pass.ensures.joined

pub returns-clause-room : goal.returns-clause-room
returns-clause-room c =
    rooms_after c.args.chains.now.items c.args.self.from.0 c.args.self.to.0 c.lift-source.new.self c.lift-source.result c.index_mut-2.result.now c.pass.new.self c.pass.new.other
    c.requires.apart (cc) (c.index_mut-2.ensures.value) c.pass.ensures.room c.pass.ensures.other_room
