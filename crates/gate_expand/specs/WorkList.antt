-- ---- for private functions: what is left to be done of bodies, from the outermost on.
use Rattle.std.specs.Prelude.{◌≡◌, ℕ, ◌+◌, ◌-◌, ◌*◌, List, [], ◌∷◌, length, drop, slice_get, Option, Some, None, Result, Ok, Err}
use Rattle.qc_base.specs.declared.ids.Qubit.{Qubit}
use Rattle.circuit_core.specs.declared.angle.Angle.{Angle}
use Rattle.circuit_core.specs.declared.op.Cond.{Cond}
use Rattle.circuit_core.specs.declared.op.Op.{Op}
use Rattle.circuit_core.specs.declared.op.Op.TheVariants as op
use Rattle.gate_names.specs.declared.gate.Gate.{Gate}
use Rattle.gate_names.specs.declared.gate.Gate.TheVariants.{Body}
use Rattle.gate_names.specs.declared.gate.Item.{Item}
use Rattle.gate_names.specs.declared.cause.Cause.{Cause}
use Rattle.gate_names.specs.declared.cause.Cause.TheVariants as causes
use Rattle.gate_names.specs.Causes.{◌>>=◌}
use Rattle.gate_expand.specs.Making.{MadeValue, Maker}
use Rattle.gate_expand.specs.Expansion.{performed, items_made, gate_at_made}

pub record FrameValue : Type 0 where
  pub gate : ℕ
  pub next : ℕ
  pub angles : List Angle
  pub qubits : List Qubit

-- U where there are three angles
abbrev pub universal_of : Option Cond → List Angle → Qubit → Option Op
universal_of cond (theta ∷ phi ∷ lambda ∷ []) qubit = Some (op.U theta phi lambda qubit cond)
universal_of cond angles qubit = None

abbrev pub body_of : Option Gate → List Item
body_of (Some (Body params qubits items)) = items
body_of other = []

-- the whole gate of a frame
abbrev pub entered : List Gate → Option Cond → FrameValue → Maker
entered gates cond frame =
    gate_at_made (performed gates cond frame.gate) cond (slice_get gates frame.gate) frame.angles frame.qubits

-- the rest of its body
abbrev pub frame_made : List Gate → Option Cond → FrameValue → Maker
frame_made gates cond frame =
    items_made (performed gates cond frame.gate) frame.angles frame.qubits
    (drop frame.next (body_of (slice_get gates frame.gate)))

-- the rests of all bodies, the innermost first
abbrev pub frames_made : List Gate → Option Cond → List FrameValue → Maker
frames_made gates cond [] made = Ok made
frames_made gates cond (frame ∷ frames) made = frames_made gates cond frames made >>= frame_made gates cond frame

-- a whole gate, and then those
abbrev pub entered_first : List Gate → Option Cond → FrameValue → List FrameValue → Maker
entered_first gates cond frame frames made = entered gates cond frame made >>= frames_made gates cond frames

-- what a call left makes what is said, unless memory ran out
abbrev pub LeavesWork : List Gate → Option Cond → Result (Unit {0}) Cause → List FrameValue → MadeValue
    → Result MadeValue Cause → Type 0
LeavesWork gates cond (Ok done) frames made said = said ≡ frames_made gates cond frames made
LeavesWork gates cond (Err causes.NoMemory) frames made said = Unit {0}
LeavesWork gates cond (Err e) frames made said = said ≡ Err e

-- the frame at its next item
abbrev pub advanced : FrameValue → FrameValue
advanced frame = record { gate = frame.gate; next = frame.next + 1; angles = frame.angles; qubits = frame.qubits }

-- how much may be made at most
abbrev pub work_left : MadeValue → ℕ
work_left made = 2 * (100000 - made.applications) + (10000 - length made.ops)

-- and done at most
abbrev pub weight : List FrameValue → MadeValue → ℕ
weight frames made = work_left made + length frames
