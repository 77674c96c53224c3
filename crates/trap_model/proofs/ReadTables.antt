-- What is in a table that is made number by number.
use Rattle.std.proofs.Common.{◌≡◌, ℕ, ◌+◌, ◌<◌, ◌≤◌, List, length, get_or, map, None, Some, Bool, refl, sym, ap, ◌∙◌, arith, find, [], ◌∷◌, inl, inr}
use Rattle.std.specs.List.{range_with_len, position_from}
use Rattle.std.proofs.lemmas.Bool.{cases_Bool, cond-true, cond-false, ne_eqb}
use Rattle.std.proofs.lemmas.Option.{none-some}
use Rattle.std.proofs.lemmas.List.FromFn.{length-map-range_with_len, get_or-map-range_with_len}
use Rattle.qc_base.specs.declared.ids.End.{End}
use Rattle.trap_model.specs.declared.channel.Channel.{Channel}
use Rattle.trap_parts.specs.declared.port.Link.{Link}
use Rattle.trap_parts.specs.declared.port.Link.TheVariants as links
use Rattle.trap_parts.specs.Parts.{TrapValue}
use Rattle.trap_parts.specs.Joins.{links_of, docked, first_of, joined_slot}
use Rattle.trap_model.specs.Channels.{channels_of, channel_at}
use Rattle.trap_parts.proofs.Known.{AreLinks, links_known}
use Rattle.trap_model.proofs.Finds.{channel_found}

pub table_length : {X : Type 0} (f : ℕ → X) (table : List X) (n : ℕ) → table ≡ map f (range_with_len 0 n) → length table ≡ n
table_length f table n is = ap length is ∙ length-map-range_with_len f 0 n

pub table_read : {X : Type 0} (f : ℕ → X) (table : List X) (n k : ℕ) (x : X) → table ≡ map f (range_with_len 0 n) → k < length table → x ≡ get_or table k x → x ≡ f k
table_read f table n k x is h read =
    rw is at read ∙ get_or-map-range_with_len f 0 n k k x (omega (arith, table_length f table n is, h)) (omega arith)

no_find : {X : Type 0} (p : X → Bool) (i : ℕ) (xs : List X) → find p xs ≡ None → position_from p i xs ≡ None
no_find p i [] e = refl
no_find p i (x ∷ xs) e =
    elim (cases_Bool (p x)) [
      | inl here ↦ absurd (none-some x (sym e ∙ cond-true (p x) (Some x) (find p xs) here))
      | inr not ↦ cond-false (p x) (Some i) (position_from p (i + 1) xs) not ∙ no_find p (i + 1) xs (sym (cond-false (p x) (Some x) (find p xs) not) ∙ e)
    ]

-- no channel, no number
pub no_number : (trap : TrapValue) (p : Channel → Bool) → channel_at trap (position_from p 0 (channels_of trap)) ≡ None → position_from p 0 (channels_of trap) ≡ None
no_number trap p e = no_find p 0 (channels_of trap) (sym (channel_found trap p) ∙ e)

not_docked : (trap : TrapValue) (zone : ℕ) (e : End) (ls : List Link) → length trap.zones ≤ zone → AreLinks trap ls → first_of (docked trap zone e) ls ≡ None
not_docked trap zone e [] h known = refl
not_docked trap zone e (links.Arm s f junction ∷ ls) h known = not_docked trap zone e ls h known.1
not_docked trap zone e (links.Dock other f s g ∷ ls) h known =
    rw (ne_eqb zone other (λ same. omega (arith, same, known.0.0))) (not_docked trap zone e ls h known.1)

-- what isn't a zone is joined with nothing
pub no_joined : (trap : TrapValue) (zone : ℕ) (e : End) → length trap.zones ≤ zone → joined_slot trap zone e ≡ None
no_joined trap zone e h = not_docked trap zone e (links_of trap) h (links_known trap)
