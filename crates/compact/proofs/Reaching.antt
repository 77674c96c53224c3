-- When all that reaches a wire is done, all that has to come before an operation on it is.
use Rattle.std.proofs.Common.{◌≡◌, ℕ, ◌<◌, Some, refl, sym, subst, ◌∙◌, inl, inr}
use Rattle.std.specs.Prelude.{slice_get, ◌⊎◌}
use Rattle.std.proofs.lemmas.Option.{same_Some}
use Rattle.qc_base.specs.declared.ids.OpId.{OpId}
use Rattle.qc_base.specs.declared.ids.PlaceId.{PlaceId}
use Rattle.circuit_core.specs.declared.op.Op.{Op}
use Rattle.circuit_core.specs.Circuit.{CircuitValue}
use Rattle.circuit_core.specs.Order.{Wire, IsWire, IsBarrierAt, Share, Forced, by_wire, by_barrier}
use Rattle.circuit_core.proofs.Forcing.{forced_before}
use Rattle.step_rules.specs.declared.action.Action.{Action}
use Rattle.step_rules.specs.declared.action.Action.TheVariants as kinds
use Rattle.compact.specs.Latest.{IsLast}
use Rattle.compact.specs.Levels.{WiresValue, wire_level, IsGreatest, AreRaised}
use Rattle.compact.specs.Orders.{Performs, Precedes, IsOnWire, IsBeforeBarrier, Reaches, AreWires}
use Rattle.compact.proofs.Last.{Touch, last_same, last_greatest, lifted_last}

-- ---- what an action performs

pub record Performing (which : ℕ → Type 0) (action : Action) : Type 0 where
  pub zone : PlaceId
  pub op : OpId
  pub is : action ≡ kinds.Op zone op
  pub holds : which op.0

pub performing : (which : ℕ → Type 0) (action : Action) → Performs which action → Performing which action
performing which (kinds.Op zone op) it = record { zone = zone; op = op; is = refl; holds = it }
performing which action it = absurd it

pub performed : (which : ℕ → Type 0) (action : Action) (zone : PlaceId) (op : OpId) → action ≡ kinds.Op zone op → which op.0 → Performs which action
performed which action zone op is it = subst (Performs which) (sym is) it

-- an action that is noted performs that operation
pub record IsNotedOp (noted : Action → ℕ → Type 0) (number : ℕ) : Type 0 where
  pub zone : PlaceId
  pub op : OpId
  pub time : ℕ
  pub there : noted (kinds.Op zone op) time
  pub is : op.0 ≡ number

pub noted_op : (noted : Action → ℕ → Type 0) (action : Action) (time : ℕ) (zone : PlaceId) (op : OpId) → noted action time → action ≡ kinds.Op zone op → IsNotedOp noted op.0
noted_op noted action time zone op there is = record { zone = zone; op = op; time = time; there = subst (λ (a : Action). noted a time) is there; is = refl }

-- the same operations are performed by what is noted
pub performs_map : (noted : Action → ℕ → Type 0) (first second : ℕ → Type 0) → ((number : ℕ) → IsNotedOp noted number → first number → second number)
    → (action : Action) (time : ℕ) → noted action time → Performs first action → Performs second action
performs_map noted first second f action time there it =
    let one : Performing first action = performing first action it in
    performed second action one.zone one.op one.is (f one.op.0 (noted_op noted action time one.zone one.op there one.is) one.holds)

-- ---- the last barrier before an operation

pub record LastBarrier (circuit : CircuitValue) (i j : ℕ) : Type 0 where
  pub barrier : ℕ
  pub is_barrier : IsBarrierAt circuit barrier
  pub forced : Forced circuit i barrier
  pub before : barrier < j
  pub share : Share circuit barrier j

pub last_part : (circuit : CircuitValue) (i j : ℕ) → Forced circuit i j → Share circuit i j ⊎ LastBarrier circuit i j
last_part circuit _ _ (by_wire i j before share) = inl share
last_part circuit _ _ (by_barrier i k j barrier first second) = elim (last_part circuit k j second) [
  | inl share ↦ inr (record { barrier = k; is_barrier = barrier; forced = first; before = forced_before circuit k j second; share = share })
  | inr rest ↦ (let last : LastBarrier circuit k j = rest in
      inr (record { barrier = last.barrier; is_barrier = last.is_barrier; forced = by_barrier i k last.barrier barrier first last.forced; before = last.before; share = last.share }))
]

shared : (circuit : CircuitValue) (wire : Wire) (i j : ℕ) (op : Op) → IsOnWire circuit wire i → slice_get circuit.ops j ≡ Some op → IsWire circuit op wire → Share circuit i j
shared circuit wire i j op on there is = record { first = on.op; second = op; wire = wire; at_i = on.there; at_j = there; of_first = on.is_wire; of_second = is }

first_on : (circuit : CircuitValue) (i j : ℕ) (share : Share circuit i j) → IsOnWire circuit share.wire i
first_on circuit i j share = record { op = share.first; there = share.at_i; is_wire = share.of_first }

second_on : (circuit : CircuitValue) (i j : ℕ) (op : Op) → slice_get circuit.ops j ≡ Some op → (share : Share circuit i j) → IsWire circuit op share.wire
second_on circuit i j op there share = subst (λ (o : Op). IsWire circuit o share.wire) (same_Some share.second op (sym share.at_j ∙ there)) share.of_second

pub wire_of : (circuit : CircuitValue) (wire : Wire) (j : ℕ) (op : Op) → slice_get circuit.ops j ≡ Some op → IsOnWire circuit wire j → IsWire circuit op wire
wire_of circuit wire j op there on = subst (λ (o : Op). IsWire circuit o wire) (same_Some on.op op (sym on.there ∙ there)) on.is_wire

-- ---- the greatest level of an operation's wires

-- what is counted on the wires of an operation is what has to come before it
pub record AreSides (circuit : CircuitValue) (noted : Action → ℕ → Type 0) (direct barriers : ℕ → Type 0) (j : ℕ) : Type 0 where
  pub before : (i : ℕ) → IsNotedOp noted i → direct i → Share circuit i j → i < j
  pub barrier_before : (k : ℕ) → barriers k → IsBarrierAt circuit k → Share circuit k j → (k < j) ⊎ (k ≡ j)
  pub counted : (i : ℕ) → IsNotedOp noted i → Forced circuit i j → direct i
  pub passed : (k : ℕ) → IsBarrierAt circuit k → Forced circuit k j → barriers k

reaches_forced : (circuit : CircuitValue) (noted : Action → ℕ → Type 0) (direct barriers : ℕ → Type 0) (j : ℕ) (op : Op) (wire : Wire) → slice_get circuit.ops j ≡ Some op → IsWire circuit op wire → AreSides circuit noted direct barriers j
    → (i : ℕ) → IsNotedOp noted i → Reaches circuit direct barriers wire i → Forced circuit i j
reaches_forced circuit noted direct barriers j op wire there is sides i is_noted (inl on) =
    let share : Share circuit i j = shared circuit wire i j op on.1 there is in
    by_wire i j (sides.before i is_noted on.0 share) share
reaches_forced circuit noted direct barriers j op wire there is sides i is_noted (inr it) =
    let to_barrier : IsBeforeBarrier circuit barriers wire i = it in
    let share : Share circuit to_barrier.barrier j = shared circuit wire to_barrier.barrier j op to_barrier.on there is in
    elim (sides.barrier_before to_barrier.barrier to_barrier.counted to_barrier.is_barrier share) [
      | inl before ↦ by_barrier i to_barrier.barrier j to_barrier.is_barrier to_barrier.forced (by_wire to_barrier.barrier j before share)
      | inr same ↦ subst (λ (k : ℕ). Forced circuit i k) same to_barrier.forced
    ]

forced_reaches : (circuit : CircuitValue) (noted : Action → ℕ → Type 0) (direct barriers : ℕ → Type 0) (j : ℕ) (op : Op) → slice_get circuit.ops j ≡ Some op → AreSides circuit noted direct barriers j
    → (action : Action) (time : ℕ) → noted action time → Precedes circuit j action → Touch (IsWire circuit op) (λ (wire : Wire). Performs (Reaches circuit direct barriers wire)) action
forced_reaches circuit noted direct barriers j op there sides action time is_noted it =
    let one : Performing (λ (number : ℕ). Forced circuit number j) action = performing (λ (number : ℕ). Forced circuit number j) action it in
    let i : ℕ = one.op.0 in
    let its : IsNotedOp noted i = noted_op noted action time one.zone one.op is_noted one.is in
    elim (last_part circuit i j one.holds) [
      | inl shares ↦ (let share : Share circuit i j = shares in
          record {
            which = share.wire;
            is_on = second_on circuit i j op there share;
            it_touches = performed (Reaches circuit direct barriers share.wire) action one.zone one.op one.is (inl (sides.counted i its one.holds, first_on circuit i j share));
          })
      | inr last ↦ (let barrier : LastBarrier circuit i j = last in
          let forced : Forced circuit barrier.barrier j = by_wire barrier.barrier j barrier.before barrier.share in
          record {
            which = barrier.share.wire;
            is_on = second_on circuit barrier.barrier j op there barrier.share;
            it_touches = performed (Reaches circuit direct barriers barrier.share.wire) action one.zone one.op one.is (inr (record {
              barrier = barrier.barrier;
              counted = sides.passed barrier.barrier barrier.is_barrier forced;
              is_barrier = barrier.is_barrier;
              on = first_on circuit barrier.barrier j barrier.share;
              forced = barrier.forced;
            }));
          })
    ]

-- that level is when all that has to come before the operation is done
pub ready_at : (circuit : CircuitValue) (noted : Action → ℕ → Type 0) (direct barriers : ℕ → Type 0) (levels : WiresValue) (j : ℕ) (op : Op) (greatest : ℕ) → slice_get circuit.ops j ≡ Some op
    → IsGreatest (IsWire circuit op) (wire_level levels) greatest → AreWires circuit direct barriers noted levels → AreSides circuit noted direct barriers j → IsLast noted (Precedes circuit j) greatest
ready_at circuit noted direct barriers levels j op greatest there is each sides =
    let touches : Wire → Action → Type 0 = λ wire. Performs (Reaches circuit direct barriers wire) in
    last_same noted (Touch (IsWire circuit op) touches) (Precedes circuit j) greatest
    (last_greatest (IsWire circuit op) (wire_level levels) noted touches greatest is each)
    (λ action time is_noted it.
    let touch : Touch (IsWire circuit op) touches action = it in
    performs_map noted (Reaches circuit direct barriers touch.which) (λ (number : ℕ). Forced circuit number j)
    (λ i its reaches. reaches_forced circuit noted direct barriers j op touch.which there touch.is_on sides i its reaches) action time is_noted touch.it_touches)
    (forced_reaches circuit noted direct barriers j op there sides)

-- ---- the wires of an operation are raised

-- what is counted now: what was, and of these operations those that are noted, by the operation of that number
pub record AreLifted (circuit : CircuitValue) (noted : Action → ℕ → Type 0) (direct barriers direct_now barriers_now added : ℕ → Type 0) (n : ℕ) : Type 0 where
  pub direct_kept : (i : ℕ) → direct i → direct_now i
  pub barriers_kept : (k : ℕ) → barriers k → barriers_now k
  pub new : (i : ℕ) → IsNotedOp noted i → added i → (direct_now i × (i ≡ n)) ⊎ (barriers_now n × IsBarrierAt circuit n × Forced circuit i n)
  pub direct_old : (i : ℕ) → IsNotedOp noted i → direct_now i → direct i ⊎ ((i ≡ n) × added i)
  pub barriers_old : (i k : ℕ) → IsNotedOp noted i → barriers_now k → IsBarrierAt circuit k → Forced circuit i k → barriers k ⊎ ((k ≡ n) × added i)

reaches_more : (circuit : CircuitValue) (noted : Action → ℕ → Type 0) (direct barriers direct_now barriers_now added : ℕ → Type 0) (n : ℕ) (wire : Wire) (i : ℕ) → AreLifted circuit noted direct barriers direct_now barriers_now added n
    → Reaches circuit direct barriers wire i → Reaches circuit direct_now barriers_now wire i
reaches_more circuit noted direct barriers direct_now barriers_now added n wire i lifted (inl on) = inl (lifted.direct_kept i on.0, on.1)
reaches_more circuit noted direct barriers direct_now barriers_now added n wire i lifted (inr it) =
    let to_barrier : IsBeforeBarrier circuit barriers wire i = it in
    inr (record { barrier = to_barrier.barrier; counted = lifted.barriers_kept to_barrier.barrier to_barrier.counted; is_barrier = to_barrier.is_barrier; on = to_barrier.on; forced = to_barrier.forced })

reaches_new : (circuit : CircuitValue) (noted : Action → ℕ → Type 0) (direct barriers direct_now barriers_now added : ℕ → Type 0) (n : ℕ) (wire : Wire) (i : ℕ) → AreLifted circuit noted direct barriers direct_now barriers_now added n
    → IsOnWire circuit wire n → IsNotedOp noted i → added i → Reaches circuit direct_now barriers_now wire i
reaches_new circuit noted direct barriers direct_now barriers_now added n wire i lifted on its it = elim (lifted.new i its it) [
  | inl one ↦ inl (one.0, subst (IsOnWire circuit wire) (sym one.1) on)
  | inr one ↦ inr (record { barrier = n; counted = one.0; is_barrier = one.1; on = on; forced = one.2 })
]

-- it was counted, or it is of the added ones and the operation is on the wire
reaches_old : (circuit : CircuitValue) (noted : Action → ℕ → Type 0) (direct barriers direct_now barriers_now added : ℕ → Type 0) (n : ℕ) (wire : Wire) (i : ℕ) → AreLifted circuit noted direct barriers direct_now barriers_now added n
    → IsNotedOp noted i → Reaches circuit direct_now barriers_now wire i → Reaches circuit direct barriers wire i ⊎ (added i × IsOnWire circuit wire n)
reaches_old circuit noted direct barriers direct_now barriers_now added n wire i lifted its (inl on) = elim (lifted.direct_old i its on.0) [
  | inl old ↦ inl (inl (old, on.1))
  | inr one ↦ inr (one.1, subst (IsOnWire circuit wire) one.0 on.1)
]
reaches_old circuit noted direct barriers direct_now barriers_now added n wire i lifted its (inr it) =
    let to_barrier : IsBeforeBarrier circuit barriers_now wire i = it in
    elim (lifted.barriers_old i to_barrier.barrier its to_barrier.counted to_barrier.is_barrier to_barrier.forced) [
      | inl old ↦ inl (inr (record { barrier = to_barrier.barrier; counted = old; is_barrier = to_barrier.is_barrier; on = to_barrier.on; forced = to_barrier.forced }))
      | inr one ↦ inr (one.1, subst (IsOnWire circuit wire) one.0 to_barrier.on)
    ]

performs_either : (first second : ℕ → Type 0) (action : Action) → Performs first action ⊎ Performs second action → Performs (λ (i : ℕ). first i ⊎ second i) action
performs_either first second action (inl a) =
    let one : Performing first action = performing first action a in
    performed (λ (i : ℕ). first i ⊎ second i) action one.zone one.op one.is (inl one.holds)
performs_either first second action (inr b) =
    let one : Performing second action = performing second action b in
    performed (λ (i : ℕ). first i ⊎ second i) action one.zone one.op one.is (inr one.holds)

either_performs : (first second : ℕ → Type 0) (action : Action) → Performs (λ (i : ℕ). first i ⊎ second i) action → Performs first action ⊎ Performs second action
either_performs first second action it =
    let one : Performing (λ (i : ℕ). first i ⊎ second i) action = performing (λ (i : ℕ). first i ⊎ second i) action it in
    elim one.holds [
      | inl a ↦ inl (performed first action one.zone one.op one.is a)
      | inr b ↦ inr (performed second action one.zone one.op one.is b)
    ]

pub wires_lifted : (circuit : CircuitValue) (noted : Action → ℕ → Type 0) (direct barriers direct_now barriers_now added : ℕ → Type 0) (n : ℕ) (op : Op) (old new : WiresValue) (level : ℕ) → slice_get circuit.ops n ≡ Some op
    → AreRaised (IsWire circuit op) (wire_level old) (wire_level new) level → IsLast noted (Performs added) level → AreLifted circuit noted direct barriers direct_now barriers_now added n
    → AreWires circuit direct barriers noted old → AreWires circuit direct_now barriers_now noted new
wires_lifted circuit noted direct barriers direct_now barriers_now added n op old new level there raised its lifted each =
    let touches : Wire → Action → Type 0 = λ wire. Performs (Reaches circuit direct barriers wire) in
    let now : Wire → Action → Type 0 = λ wire. Performs (Reaches circuit direct_now barriers_now wire) in
    lifted_last (IsWire circuit op) (wire_level old) (wire_level new) noted level touches now (Performs added) raised its
    (λ wire on action time is_noted it.
    performs_map noted (λ (i : ℕ). Reaches circuit direct barriers wire i ⊎ added i) (Reaches circuit direct_now barriers_now wire)
    (λ i its one. elim one [
      | inl old ↦ reaches_more circuit noted direct barriers direct_now barriers_now added n wire i lifted old
      | inr new ↦ reaches_new circuit noted direct barriers direct_now barriers_now added n wire i lifted (record { op = op; there = there; is_wire = on }) its new
    ]) action time is_noted (performs_either (Reaches circuit direct barriers wire) added action it))
    (λ wire on action time is_noted it.
    either_performs (Reaches circuit direct barriers wire) added action
    (performs_map noted (Reaches circuit direct_now barriers_now wire) (λ (i : ℕ). Reaches circuit direct barriers wire i ⊎ added i)
    (λ i its one. elim (reaches_old circuit noted direct barriers direct_now barriers_now added n wire i lifted its one) [
      | inl old ↦ inl old
      | inr new ↦ inr new.0
    ]) action time is_noted it))
    (λ wire off action time is_noted it.
    performs_map noted (Reaches circuit direct barriers wire) (Reaches circuit direct_now barriers_now wire)
    (λ i its one. reaches_more circuit noted direct barriers direct_now barriers_now added n wire i lifted one) action time is_noted it)
    (λ wire off action time is_noted it.
    performs_map noted (Reaches circuit direct_now barriers_now wire) (Reaches circuit direct barriers wire)
    (λ i its one. elim (reaches_old circuit noted direct barriers direct_now barriers_now added n wire i lifted its one) [
      | inl old ↦ old
      | inr new ↦ absurd (off (wire_of circuit wire n op there new.1))
    ]) action time is_noted it)
    each

-- the same barriers are counted
pub wires_same : (circuit : CircuitValue) (noted : Action → ℕ → Type 0) (direct barriers barriers_now : ℕ → Type 0) (levels : WiresValue) → ((k : ℕ) → IsBarrierAt circuit k → barriers k → barriers_now k)
    → ((k : ℕ) → IsBarrierAt circuit k → barriers_now k → barriers k) → AreWires circuit direct barriers noted levels → AreWires circuit direct barriers_now noted levels
wires_same circuit noted direct barriers barriers_now levels to back each wire =
    let changed : (first second : ℕ → Type 0) → ((k : ℕ) → IsBarrierAt circuit k → first k → second k) → (i : ℕ) → Reaches circuit direct first wire i → Reaches circuit direct second wire i = λ first second f i it. elim it [
      | inl on ↦ inl on
      | inr at ↦ (let to_barrier : IsBeforeBarrier circuit first wire i = at in
          inr (record { barrier = to_barrier.barrier; counted = f to_barrier.barrier to_barrier.is_barrier to_barrier.counted; is_barrier = to_barrier.is_barrier; on = to_barrier.on; forced = to_barrier.forced }))
    ] in
    last_same noted (Performs (Reaches circuit direct barriers wire)) (Performs (Reaches circuit direct barriers_now wire)) (wire_level levels wire) (each wire)
    (performs_map noted (Reaches circuit direct barriers wire) (Reaches circuit direct barriers_now wire) (λ i its. changed barriers barriers_now to i))
    (performs_map noted (Reaches circuit direct barriers_now wire) (Reaches circuit direct barriers wire) (λ i its. changed barriers_now barriers back i))
