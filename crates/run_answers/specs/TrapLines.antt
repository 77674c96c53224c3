-- What is said of the faults of a trap's file, in pieces.
use Rattle.std.specs.Prelude.{ℕ, List, [], ◌∷◌, ◌++◌, codes, decimal}
use Rattle.trap_parts.specs.declared.fault.Counted.{Counted}
use Rattle.trap_parts.specs.declared.fault.Counted.TheVariants as counts
use Rattle.trap_parts.specs.declared.fault.TrapFault.{TrapFault}
use Rattle.trap_parts.specs.declared.fault.TrapFault.TheVariants as traps
use Rattle.trap_read.specs.declared.fault.Section.{Section}
use Rattle.trap_read.specs.declared.fault.Section.TheVariants as sections
use Rattle.trap_read.specs.declared.fault.KeyAt.{KeyAt}
use Rattle.trap_read.specs.declared.fault.TrapText.{TrapText}
use Rattle.trap_read.specs.declared.fault.TrapText.TheVariants as texts
use Rattle.run_answers.specs.Line.{name_text}

-- the section of a key, and the row where the section has rows
abbrev pub section_said : Section → ℕ → List (List ℕ)
section_said sections.Top row = codes "top" ∷ []
section_said sections.Zone row = codes "zone " ∷ decimal row ∷ []
section_said sections.Segment row = codes "segment " ∷ decimal row ∷ []
section_said sections.Junction row = codes "junction " ∷ decimal row ∷ []
section_said sections.Join row = codes "join " ∷ decimal row ∷ []
section_said sections.Place row = codes "place" ∷ []

-- what is wrong with a key
abbrev pub key_said : KeyAt → List ℕ → List (List ℕ)
key_said at what = codes "trap: " ∷ section_said at.section at.row
    ++ codes " key " ∷ name_text at.key ∷ codes ": " ∷ what ∷ []

-- the word for what there are too many of
abbrev pub counted_word : Counted → List ℕ
counted_word counts.Zones = codes "zones"
counted_word counts.Segments = codes "segments"
counted_word counts.Junctions = codes "junctions"
counted_word counts.Slots = codes "slots"

-- parts that are no trap
abbrev pub build_said : TrapFault → List (List ℕ)
build_said traps.NoZone = codes "trap: no zone" ∷ []
build_said (traps.TooMany what) = codes "trap: too many " ∷ counted_word what ∷ []
build_said (traps.Double name) = codes "trap: name " ∷ name_text name ∷ codes " twice" ∷ []
build_said (traps.Capacity zone) = codes "trap: capacity of zone " ∷ name_text zone ∷ []
build_said (traps.Length segment) = codes "trap: length of segment " ∷ name_text segment ∷ []
build_said (traps.Load segment) = codes "trap: load of segment " ∷ name_text segment ∷ []
build_said (traps.Unknown row) = codes "trap: join " ∷ decimal row ∷ codes " unknown" ∷ []
build_said (traps.Pair row) = codes "trap: join " ∷ decimal row ∷ codes " pair" ∷ []
build_said (traps.EndTaken row) = codes "trap: join " ∷ decimal row ∷ codes " taken" ∷ []
build_said (traps.Arms junction) = codes "trap: arms of junction " ∷ name_text junction ∷ []
build_said traps.NoMemory = codes "no memory" ∷ []

-- a file that is not the description of a trap
abbrev pub trap_said : TrapText → List (List ℕ)
trap_said texts.Toml = codes "trap: not TOML" ∷ []
trap_said (texts.Extra key) = key_said key (codes "unknown")
trap_said (texts.Missing key) = key_said key (codes "missing")
trap_said (texts.Kind key) = key_said key (codes "wrong kind")
trap_said (texts.Range key) = key_said key (codes "out of range")
trap_said (texts.Trap fault) = build_said fault
trap_said texts.NoMemory = codes "no memory" ∷ []
