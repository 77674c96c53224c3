-- What is made is sound: operations on qubits, bits and classical registers that are there, within the limits.
use Rattle.std.proofs.Common.{◌≡◌, ℕ, zero, suc, ◌+◌, ◌<◌, ◌≤◌, List, [], ◌∷◌, ◌++◌, length, map, slice_get, nat_le, nat_lt, ◌==◌, Option, Some, None, IfSome, Result, Ok, All, sym, subst, arith, length-append}
use Rattle.std.proofs.lemmas.Bool.{cond_both, ltb-false, leb-false}
use Rattle.std.proofs.lemmas.List.{length-map}
use Rattle.std.proofs.lemmas.List.Elements.{All-nil, All-head, All-tail, All-push}
use Rattle.qc_base.specs.declared.ids.Qubit.{Qubit}
use Rattle.circuit_core.specs.declared.angle.Angle.{Angle}
use Rattle.circuit_core.specs.declared.op.Cond.{Cond}
use Rattle.circuit_core.specs.declared.op.Op.{Op}
use Rattle.circuit_core.specs.declared.op.Op.TheVariants as op
use Rattle.circuit_core.specs.Circuit.{all_nodes}
use Rattle.circuit_core.specs.Op.{IsAngle, IsOp}
use Rattle.gate_names.specs.declared.cause.Cause.{Cause}
use Rattle.gate_names.specs.declared.cause.Cause.TheVariants.{TooMany, WideOp}
use Rattle.gate_names.specs.declared.cause.Counted.TheVariants.{Applications, Ops, Nodes}
use Rattle.gate_names.specs.declared.gate.Gate.{Gate}
use Rattle.gate_names.specs.declared.gate.Gate.TheVariants.{Universal, ControlledNot, Opaque, Body}
use Rattle.gate_names.specs.declared.gate.Item.{Item}
use Rattle.gate_names.specs.declared.gate.Item.TheVariants.{Call, Barrier}
use Rattle.gate_expand.specs.declared.resolved.Resolved.{Resolved}
use Rattle.gate_expand.specs.declared.resolved.Resolved.TheVariants as resolved
use Rattle.gate_names.specs.declared.term.Term.{Term}
use Rattle.gate_names.specs.Causes.{◌>>=◌, ◌>>◌, refuse_if}
use Rattle.gate_expand.specs.Angles.{put_all}
use Rattle.gate_names.specs.Gates.{param_count, qubit_count}
use Rattle.gate_expand.specs.Making.{MadeValue, Maker, counted, with_op}
use Rattle.gate_expand.specs.Expansion.{op_of, with_made, op_made, qubits_at, Performing, applied, item_made, items_made, gate_made, gate_at_made, performed}
use Rattle.gate_expand.specs.Arguments.{qubit_at, wire_at}
use Rattle.gate_expand.specs.Operations.{spread, measure_made, reset_made, call_made, resolved_made}
use Rattle.gate_expand.proofs.Sound.{AreApart, IsQubit, HasReals, IsPut, Takes, IsItem, IsSoundGate, IsMade, Keeps, PerformsSoundly, IsResolved}
use Rattle.gate_expand.proofs.SoundSteps.{same_Ok, never_ok, then_ok, next_ok, passed, passed_last, all_here}
use Rattle.gate_expand.proofs.SoundApart.{one_apart, qubits_apart}
use Rattle.gate_expand.proofs.SoundTerms.{put_are, reals_are}

module _ (count bits cregs : ℕ) where
  -- ---- one operation, one application

  pub with_op_keeps : (it : Op) → IsOp count bits cregs it → Keeps count bits cregs (with_op it)
  with_op_keeps it is made now sound h =
      let then : MadeValue = record { ops = made.ops ++ it ∷ []; applications = made.applications } in
      let both = next_ok (refuse_if (nat_le 10000 (length made.ops)) (TooMany Ops) >> refuse_if (nat_lt 1000000 (all_nodes (made.ops ++ it ∷ []))) (TooMany Nodes)) (Ok then) now h in
      let first = passed (nat_le 10000 (length made.ops)) (TooMany Ops) (refuse_if (nat_lt 1000000 (all_nodes (made.ops ++ it ∷ []))) (TooMany Nodes)) both.0.0 both.0.1 in
      let few : length made.ops < 10000 = leb-false 10000 (length made.ops) first.0 in
      let nodes = passed_last (nat_lt 1000000 (all_nodes (made.ops ++ it ∷ []))) (TooMany Nodes) both.0.0 first.1 in
      subst (IsMade count bits cregs) (same_Ok then now both.1) (record {
        few = omega (arith, length-append made.ops (it ∷ []));
        each = All-push (IsOp count bits cregs) made.ops it sound.each is;
        nodes = ltb-false 1000000 (all_nodes (made.ops ++ it ∷ [])) nodes;
      })

  counted_keeps : Keeps count bits cregs counted
  counted_keeps made now sound h =
      let then : MadeValue = record { ops = made.ops; applications = made.applications + 1 } in
      let first = passed (nat_le 100000 made.applications) (TooMany Applications) (Ok then) now h in
      subst (IsMade count bits cregs) (same_Ok then now first.1) (record { few = sound.few; each = sound.each; nodes = sound.nodes })

  -- ---- one at each index

  spread_keeps : (make : ℕ → Maker) (index times : ℕ) → ((k : ℕ) → index ≤ k → k < index + times → Keeps count bits cregs (make k))
      → Keeps count bits cregs (spread make index times)
  spread_keeps make index zero each made now sound h = subst (IsMade count bits cregs) (same_Ok made now h) sound
  spread_keeps make index (suc times) each made now sound h =
      let first = then_ok (make index made) (spread make (index + 1) times) now h in
      spread_keeps make (index + 1) times (λ k low high. each k (omega arith) (omega arith)) first.0 now
      (each index (omega arith) (omega arith) made first.0 sound first.1) first.2

  -- ---- gates without a body

  abbrev IsOpSaid : Option Op → Type 0
  IsOpSaid said = IfSome said (IsOp count bits cregs)

  nothing_said : (said : Option Op) → ◌≡◌ {A = Result (Option Op) Cause} (Ok None) (Ok said) → IsOpSaid said
  nothing_said said h = subst IsOpSaid (same_Ok None said h) tt

  module _ (condition : Option Cond) (fits : IfSome condition (λ (cond : Cond). cond.creg.0 < cregs)) where
    op_is : (gate : Gate) (gates : List Gate) (angles : List Angle) (qubits : List Qubit) (said : Option Op) → IsSoundGate gates gate → length angles ≡ param_count gate
        → length qubits ≡ qubit_count gate → All IsAngle angles → AreApart (IsQubit count) qubits → op_of condition gate angles qubits ≡ Ok said → IsOpSaid said
    op_is Universal gates (theta ∷ phi ∷ lambda ∷ []) (qubit ∷ []) said sound params width all apart h =
        subst IsOpSaid (same_Ok (Some (op.U theta phi lambda qubit condition)) said h) (record {
          some = omega arith;
          qubits = apart.each;
          differ = apart.differ;
          bit = tt;
          cond = fits;
          angles = all;
          gate = tt;
        })
    op_is ControlledNot gates angles (control ∷ target ∷ []) said sound params width all apart h =
        subst IsOpSaid (same_Ok (Some (op.Cx control target condition)) said h) (record {
          some = omega arith;
          qubits = apart.each;
          differ = apart.differ;
          bit = tt;
          cond = fits;
          angles = All-nil IsAngle;
          gate = tt;
        })
    op_is (Opaque name params qubits) gates angles (first ∷ []) said sound same width all apart h =
        subst IsOpSaid (same_Ok (Some (op.Opaque name angles first None condition)) said h) (record {
          some = omega arith;
          qubits = apart.each;
          differ = apart.differ;
          bit = tt;
          cond = fits;
          angles = all;
          gate = (sound.0, omega (arith, sound.1, same, width));
        })
    op_is (Opaque name params qubits) gates angles (first ∷ second ∷ []) said sound same width all apart h =
        subst IsOpSaid (same_Ok (Some (op.Opaque name angles first (Some second) condition)) said h) (record {
          some = omega arith;
          qubits = apart.each;
          differ = apart.differ;
          bit = tt;
          cond = fits;
          angles = all;
          gate = (sound.0, omega (arith, sound.1, same, width));
        })
    op_is (Opaque name params qubits) gates angles (first ∷ second ∷ third ∷ more) said sound same width all apart h = absurd (never_ok WideOp said h)
    op_is gate gates angles qubits said sound same width all apart h = nothing_said said h

    op_keeps : (said : Option Op) → IsOpSaid said → Keeps count bits cregs (with_made said)
    op_keeps None is made now sound h = subst (IsMade count bits cregs) (same_Ok made now h) sound
    op_keeps (Some it) is made now sound h = with_op_keeps it is made now sound h

    op_made_keeps : (gate : Gate) (gates : List Gate) (angles : List Angle) (qubits : List Qubit) → IsSoundGate gates gate → length angles ≡ param_count gate
        → length qubits ≡ qubit_count gate → All IsAngle angles → AreApart (IsQubit count) qubits → Keeps count bits cregs (op_made condition gate angles qubits)
    op_made_keeps gate gates angles qubits sound params width all apart made now fine h =
        let step = then_ok (op_of condition gate angles qubits) (λ (said : Option Op). with_made said made) now h in
        op_keeps step.0 (op_is gate gates angles qubits step.0 sound params width all apart step.1) made now fine step.2

    -- ---- applications

    module _ (gates : List Gate) (perform : Performing) (performs : PerformsSoundly count bits cregs gates perform) where
      pub applied_keeps : (gate : ℕ) (params : List Term) (angles : List Angle) (qubits : List Qubit) → Takes gates gate (length params) (length qubits)
          → All IsPut params → All HasReals angles → AreApart (IsQubit count) qubits → Keeps count bits cregs (applied perform gate params angles qubits)
      applied_keeps gate params angles qubits takes all fine apart made now sound h =
          let first = then_ok (counted made) (λ (now : MadeValue). put_all angles params >>= λ (actual : List Angle). perform gate actual qubits now) now h in
          let second = then_ok (put_all angles params) (λ (actual : List Angle). perform gate actual qubits first.0) now first.2 in
          let put = put_are angles params second.0 fine all second.1 in
          performs gate second.0 qubits (subst (λ (n : ℕ). Takes gates gate n (length qubits)) (sym put.1) takes) put.0 apart
          first.0 now (counted_keeps made first.0 sound first.1) second.2

      module _ (angles : List Angle) (qubits : List Qubit) (all : All IsAngle angles) (apart : AreApart (IsQubit count) qubits) where
        item_keeps : (item : Item) → IsItem gates (length qubits) item → Keeps count bits cregs (item_made perform angles qubits item)
        item_keeps (Call gate params positions) is =
            applied_keeps gate params angles (qubits_at qubits positions)
            (subst (λ (n : ℕ). Takes gates gate (length params) n) (sym (length-map positions _)) is.0)
            is.1 (reals_are angles all) (qubits_apart count qubits positions apart is.2)
        item_keeps (Barrier positions) is =
            let these = qubits_apart count qubits positions apart is.1 in
            with_op_keeps (op.Barrier (qubits_at qubits positions)) (record {
              some = subst (λ (n : ℕ). 1 ≤ n) (sym (length-map positions _)) is.0;
              qubits = these.each;
              differ = these.differ;
              bit = tt;
              cond = tt;
              angles = All-nil IsAngle;
              gate = tt;
            })

        items_keep : (items : List Item) → All (IsItem gates (length qubits)) items → Keeps count bits cregs (items_made perform angles qubits items)
        items_keep [] are made now sound h = subst (IsMade count bits cregs) (same_Ok made now h) sound
        items_keep (item ∷ items) are made now sound h =
            let first = then_ok (item_made perform angles qubits item made) (items_made perform angles qubits items) now h in
            items_keep items (All-tail (IsItem gates (length qubits)) item items are) first.0 now
            (item_keeps item (All-head (IsItem gates (length qubits)) item items are) made first.0 sound first.1) first.2

        gate_keeps : (gate : Gate) → IsSoundGate gates gate → length angles ≡ param_count gate → length qubits ≡ qubit_count gate
            → Keeps count bits cregs (gate_made perform condition gate angles qubits)
        gate_keeps (Body params width items) sound same fit = items_keep items (subst (λ (n : ℕ). All (IsItem gates n) items) (sym fit) sound)
        gate_keeps gate sound same fit = op_made_keeps gate gates angles qubits sound same fit all apart

    -- ---- performing by numbers

    module _ (gates : List Gate) (sound_gates : All (IsSoundGate gates) gates) where
      at_keeps : (perform : Performing) → PerformsSoundly count bits cregs gates perform → (gate : ℕ) (angles : List Angle) (qubits : List Qubit)
          → Takes gates gate (length angles) (length qubits) → All IsAngle angles → AreApart (IsQubit count) qubits
          → Keeps count bits cregs (gate_at_made perform condition (slice_get gates gate) angles qubits)
      at_keeps perform performs gate angles qubits takes all apart =
          subst (λ (o : Option Gate). Keeps count bits cregs (gate_at_made perform condition o angles qubits)) (sym takes.there)
          (gate_keeps gates perform performs angles qubits all apart takes.gate
          (all_here (IsSoundGate gates) gates gate takes.gate sound_gates takes.there) takes.params_fit takes.qubits_fit)

      pub performed_keeps : (bound : ℕ) → PerformsSoundly count bits cregs gates (performed gates condition bound)
      unfolding performed
      performed_keeps zero gate angles qubits takes all apart made now sound h = subst (IsMade count bits cregs) (same_Ok made now h) sound
      performed_keeps (suc last) gate angles qubits takes all apart made now sound h =
          cond_both (gate == last) (gate_at_made (performed gates condition last) condition (slice_get gates gate) angles qubits made)
          (performed gates condition last gate angles qubits made) (λ (r : Result MadeValue Cause). r ≡ Ok now → IsMade count bits cregs now)
          (λ e is. at_keeps (performed gates condition last) (performed_keeps last) gate angles qubits takes all apart made now sound is)
          (λ e is. performed_keeps last gate angles qubits takes all apart made now sound is) h

      -- ---- operations of the file

      pub resolved_keeps : (it : Resolved) → IsResolved gates count bits it → Keeps count bits cregs (resolved_made gates condition it)
      resolved_keeps (resolved.Application gate params wires times) is =
          spread_keeps (call_made gates condition gate params wires) 0 times (λ index low high.
          applied_keeps gates (performed gates condition (length gates)) (performed_keeps (length gates)) gate params [] (map (qubit_at index) wires)
          (subst (λ (n : ℕ). Takes gates gate (length params) n) (sym (length-map wires (qubit_at index))) is.0)
          is.1 (All-nil HasReals) (is.2 index (omega arith)))
      resolved_keeps (resolved.Measure qubits places creg times) is =
          spread_keeps (measure_made condition qubits places) 0 times (λ index low high.
          (let there = is index (omega arith) in
          let one = one_apart (IsQubit count) (qubit_at index qubits) there.0 in
          with_op_keeps (op.Measure (qubit_at index qubits) (record { 0 = wire_at index places }) condition) (record {
            some = omega arith;
            qubits = one.each;
            differ = one.differ;
            bit = there.1;
            cond = fits;
            angles = All-nil IsAngle;
            gate = tt;
          })))
      resolved_keeps (resolved.Reset qubits times) is =
          spread_keeps (reset_made condition qubits) 0 times (λ index low high.
          (let one = one_apart (IsQubit count) (qubit_at index qubits) (is index (omega arith)) in
          with_op_keeps (op.Reset (qubit_at index qubits) condition) (record {
            some = omega arith;
            qubits = one.each;
            differ = one.differ;
            bit = tt;
            cond = fits;
            angles = All-nil IsAngle;
            gate = tt;
          })))
