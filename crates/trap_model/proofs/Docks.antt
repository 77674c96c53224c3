-- The split and the merge of a zone's end are those of its join.
use Rattle.std.proofs.Common.{◌≡◌, ℕ, Bool, true, false, cond, ◌&&◌, List, [], ◌∷◌, length, find, Option, None, Some, refl, ◌∙◌, eqb}
use Rattle.std.specs.List.{flat_map}
use Rattle.std.specs.Option.{option_or, option_map}
use Rattle.std.proofs.lemmas.Bool.{and_parts, eqb-true}
use Rattle.qc_base.specs.declared.ids.End.{End}
use Rattle.qc_base.specs.declared.ids.End.TheVariants.{A, B}
use Rattle.trap_model.specs.declared.channel.Channel.{Channel}
use Rattle.trap_parts.specs.declared.port.Link.{Link}
use Rattle.trap_parts.specs.declared.port.Link.TheVariants as links
use Rattle.trap_parts.specs.declared.port.SlotEnd.{SlotEnd}
use Rattle.trap_parts.specs.Parts.{TrapValue}
use Rattle.trap_parts.specs.Joins.{same_end, links_of, slot_end, docked, first_of}
use Rattle.trap_model.specs.Channels.{split, merge, dock_channels, channel_at, is_split, is_merge, split_at, merge_at, split_channel, merge_channel}
use Rattle.trap_model.proofs.Finds.{channel_found, find_parts, no_moves, no_crossings, or_none}

same_end_is : (e f : End) → same_end e f ≡ true → e ≡ f
same_end_is A A h = refl
same_end_is B B h = refl
same_end_is A B h = absurd (cc)
same_end_is B A h = absurd (cc)

-- the first dock of the end, by either channel of it
dock_step : (make : ℕ → End → SlotEnd → Channel) (zone other : ℕ) (e f : End) (slot : SlotEnd) (rest : Option SlotEnd) (b : Bool) → (b ≡ true → (zone ≡ other) × (e ≡ f))
    → cond b (Some (make other f slot)) (option_map (make zone e) rest) ≡ option_map (make zone e) (option_or (cond b (Some slot) None) rest)
dock_step make zone other e f slot rest true is = let p = is refl in rw (p.0, p.1) refl
dock_step make zone other e f slot rest false is = refl

same_dock : (zone other : ℕ) (e f : End) → (eqb zone other && same_end e f) ≡ true → (zone ≡ other) × (e ≡ f)
same_dock zone other e f h = let p = and_parts (eqb zone other) (same_end e f) h in (eqb-true zone other p.0, same_end_is e f p.1)

find_split : (trap : TrapValue) (zone : ℕ) (e : End) (ls : List Link) → find (is_split zone e) (flat_map (dock_channels trap) ls) ≡ option_map (split zone e) (first_of (docked trap zone e) ls)
find_split trap zone e [] = refl
find_split trap zone e (links.Arm s f junction ∷ ls) = find_split trap zone e ls
find_split trap zone e (links.Dock other f s g ∷ ls) =
    rw (find_split trap zone e ls) (dock_step split zone other e f (slot_end trap s g) (first_of (docked trap zone e) ls) (eqb zone other && same_end e f) (same_dock zone other e f))

find_merge : (trap : TrapValue) (zone : ℕ) (e : End) (ls : List Link) → find (is_merge zone e) (flat_map (dock_channels trap) ls) ≡ option_map (merge zone e) (first_of (docked trap zone e) ls)
find_merge trap zone e [] = refl
find_merge trap zone e (links.Arm s f junction ∷ ls) = find_merge trap zone e ls
find_merge trap zone e (links.Dock other f s g ∷ ls) =
    rw (find_merge trap zone e ls) (dock_step merge zone other e f (slot_end trap s g) (first_of (docked trap zone e) ls) (eqb zone other && same_end e f) (same_dock zone other e f))

first_part : {X : Type 0} (a b c : Option X) → b ≡ None → c ≡ None → option_or (option_or a b) c ≡ a
first_part a b c p q = rw (p, q, or_none, or_none) refl

-- the channel at the number of the split
pub split_leads : (trap : TrapValue) (zone : ℕ) (e : End) → channel_at trap (split_at trap zone e) ≡ split_channel trap zone e
split_leads trap zone e =
    channel_found trap (is_split zone e) ∙ find_parts trap (is_split zone e)
    ∙ first_part (find (is_split zone e) (flat_map (dock_channels trap) (links_of trap))) _ _ (no_moves (is_split zone e) (λ s. refl) (length trap.zones) trap.segments) (no_crossings trap (is_split zone e) 0 (length trap.junctions) (λ junction h below from to. refl))
    ∙ find_split trap zone e (links_of trap)

pub merge_leads : (trap : TrapValue) (zone : ℕ) (e : End) → channel_at trap (merge_at trap zone e) ≡ merge_channel trap zone e
merge_leads trap zone e =
    channel_found trap (is_merge zone e) ∙ find_parts trap (is_merge zone e)
    ∙ first_part (find (is_merge zone e) (flat_map (dock_channels trap) (links_of trap))) _ _ (no_moves (is_merge zone e) (λ s. refl) (length trap.zones) trap.segments) (no_crossings trap (is_merge zone e) 0 (length trap.junctions) (λ junction h below from to. refl))
    ∙ find_merge trap zone e (links_of trap)
