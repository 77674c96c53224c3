-- What is said where a trap has no room for a circuit, in pieces.
use Rattle.std.specs.Prelude.{ℕ, List, [], ◌∷◌, codes, decimal}
use Rattle.greedy_router.specs.declared.has_room.RoomFault.{RoomFault}
use Rattle.greedy_router.specs.declared.has_room.RoomFault.TheVariants as rooms
use Rattle.run_answers.specs.Line.{name_text}
use Rattle.run_answers.specs.Names.{Names, zone_name}

abbrev pub room_said : Names → RoomFault → List (List ℕ)
room_said names (rooms.Tight zone free) =
    codes "zone " ∷ name_text (zone_name names zone) ∷ codes " has " ∷ decimal free ∷ codes " free" ∷ []
room_said names (rooms.Apart zone) = codes "zone " ∷ name_text (zone_name names zone) ∷ codes " is apart" ∷ []
room_said names (rooms.NoAble op) = codes "no zone for operation " ∷ decimal op.0 ∷ []
room_said names rooms.NoMemory = codes "no memory" ∷ []
