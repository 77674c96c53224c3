-- The gates that are there from the start are sound.
use Rattle.std.proofs.Common.{◌≡◌, ℕ, List, [], ◌∷◌, length, slice_get, nat_lt, ◌==◌, not, ◌&&◌, Bool, true, false, Option, Some, None, All, refl}
use Rattle.std.specs.List.{list_all, AllByRecursion}
use Rattle.std.proofs.lemmas.Bool.{and_parts, ltb-true, eqb-true, not-true, false≢true}
use Rattle.std.proofs.lemmas.List.Elements.{All-nil, All-cons, All-from_recursion}
use Rattle.circuit_core.specs.declared.words.BinOp.TheVariants.{Add, Sub, Div}
use Rattle.gate_names.specs.declared.gate.Gate.{Gate}
use Rattle.gate_names.specs.declared.gate.Gate.TheVariants.{Universal, ControlledNot, Opaque, Body}
use Rattle.gate_names.specs.declared.gate.Item.{Item}
use Rattle.gate_names.specs.declared.gate.Item.TheVariants.{Call, Barrier}
use Rattle.gate_names.specs.declared.term.Term.{Term}
use Rattle.gate_names.specs.Gates.{param_count, qubit_count}
use Rattle.gate_names.specs.Declarations.{repeats_position}
use Rattle.gate_names.specs.Library.{param, int, pi, minus, plus, less, over, built_in, u3_gate, u2_gate, u1_gate, cx_gate, id_gate, u_gate, p_gate, x_gate, y_gate, z_gate, h_gate, s_gate, sdg_gate, t_gate, tdg_gate, sx_gate, sxdg_gate, rx_gate, ry_gate, rz_gate, cz_gate, cy_gate, ch_gate, swap_gate, ccx_gate, cswap_gate, crx_gate, cry_gate, crz_gate, cu1_gate, cp_gate, cu3_gate, rxx_gate, rzz_gate}
use Rattle.gate_expand.proofs.Sound.{IsBelow, IsPut, Takes, IsItem, IsSoundGate}
use Rattle.gate_expand.proofs.SoundApart.{positions_apart}
use Rattle.gate_expand.proofs.SoundTerms.{put_int, put_pi, put_neg, put_bin, put_param}

-- ---- numbers and positions, as tests

abbrev counts_fit : Option Gate → ℕ → ℕ → Bool
counts_fit None params qubits = false
counts_fit (Some it) params qubits = (params == param_count it) && (qubits == qubit_count it)

abbrev item_fits : List Gate → ℕ → Item → Bool
item_fits gates count (Call number params positions) =
    counts_fit (slice_get gates number) (length params) (length positions)
    && (list_all (λ k. nat_lt k count) positions && not (repeats_position positions))
item_fits gates count (Barrier positions) = false

abbrev items_of : Gate → List Item
items_of Universal = []
items_of ControlledNot = []
items_of (Opaque name params qubits) = []
items_of (Body params qubits items) = items

abbrev gate_fits : List Gate → Gate → Bool
gate_fits gates Universal = true
gate_fits gates ControlledNot = true
gate_fits gates (Opaque name params qubits) = false
gate_fits gates (Body params qubits items) = list_all (item_fits gates qubits) items

-- ---- and expressions, as facts

abbrev ItemTerms : Item → Type 0
ItemTerms (Call number params positions) = AllByRecursion IsPut params
ItemTerms (Barrier positions) = Unit {0}

abbrev GateTerms : Gate → Type 0
GateTerms it = AllByRecursion ItemTerms (items_of it)

-- ---- both together

module _ (gates : List Gate) where
  takes_from : (number params qubits : ℕ) → counts_fit (slice_get gates number) params qubits ≡ true → Takes gates number params qubits
  takes_from number params qubits h = by (slice_get gates number) refl h
    where
      by : (o : Option Gate) → slice_get gates number ≡ o → counts_fit o params qubits ≡ true → Takes gates number params qubits
      by None none fits = absurd (false≢true fits)
      by (Some it) there fits =
          let parts = and_parts (params == param_count it) (qubits == qubit_count it) fits in
          record { gate = it; there = there; params_fit = eqb-true params (param_count it) parts.0; qubits_fit = eqb-true qubits (qubit_count it) parts.1 }

  below_from : (count : ℕ) (positions : List ℕ) → list_all (λ k. nat_lt k count) positions ≡ true → All (IsBelow count) positions
  below_from count [] h = All-nil (IsBelow count)
  below_from count (k ∷ positions) h =
      let parts = and_parts (nat_lt k count) (list_all (λ k. nat_lt k count) positions) h in
      All-cons (IsBelow count) k positions (ltb-true k count parts.0) (below_from count positions parts.1)

  item_from : (count : ℕ) (it : Item) → item_fits gates count it ≡ true → ItemTerms it → IsItem gates count it
  item_from count (Call number params positions) h terms =
      let parts = and_parts (counts_fit (slice_get gates number) (length params) (length positions)) (list_all (λ k. nat_lt k count) positions && not (repeats_position positions)) h in
      let places = and_parts (list_all (λ k. nat_lt k count) positions) (not (repeats_position positions)) parts.1 in (
        takes_from number (length params) (length positions) parts.0,
        All-from_recursion IsPut params terms,
        positions_apart count positions (below_from count positions places.0) (not-true (repeats_position positions) places.1),
      )
  item_from count (Barrier positions) h terms = absurd (false≢true h)

  items_from : (count : ℕ) (items : List Item) → list_all (item_fits gates count) items ≡ true → AllByRecursion ItemTerms items → All (IsItem gates count) items
  items_from count [] h terms = All-nil (IsItem gates count)
  items_from count (it ∷ items) h terms =
      let parts = and_parts (item_fits gates count it) (list_all (item_fits gates count) items) h in
      All-cons (IsItem gates count) it items (item_from count it parts.0 terms.0) (items_from count items parts.1 terms.1)

  gate_from : (it : Gate) → gate_fits gates it ≡ true → GateTerms it → IsSoundGate gates it
  gate_from Universal h terms = tt
  gate_from ControlledNot h terms = tt
  gate_from (Opaque name params qubits) h terms = absurd (false≢true h)
  gate_from (Body params qubits items) h terms = items_from qubits items h terms

  gates_from : (these : List Gate) → list_all (gate_fits gates) these ≡ true → AllByRecursion GateTerms these → All (IsSoundGate gates) these
  gates_from [] h terms = All-nil (IsSoundGate gates)
  gates_from (it ∷ these) h terms =
      let parts = and_parts (gate_fits gates it) (list_all (gate_fits gates) these) h in
      All-cons (IsSoundGate gates) it these (gate_from it parts.0 terms.0) (gates_from these parts.1 terms.1)

-- ---- the expressions of the library

minus_put : (a : Term) → IsPut a → IsPut (minus a)
minus_put a h = put_neg a h

plus_put : (a b : Term) → IsPut a → IsPut b → IsPut (plus a b)
plus_put a b ha hb = put_bin Add a b ha hb

less_put : (a b : Term) → IsPut a → IsPut b → IsPut (less a b)
less_put a b ha hb = put_bin Sub a b ha hb

over_put : (a : Term) (n : ℕ) → IsPut a → IsPut (over a n)
over_put a n h = put_bin Div a (int n) h (put_int n)

u3_terms : AllByRecursion ItemTerms (items_of u3_gate.gate)
u3_terms = ((put_param 0, (put_param 1, (put_param 2, tt))), tt)

u2_terms : AllByRecursion ItemTerms (items_of u2_gate.gate)
u2_terms = ((over_put pi 2 put_pi, (put_param 0, (put_param 1, tt))), tt)

u1_terms : AllByRecursion ItemTerms (items_of u1_gate.gate)
u1_terms = ((put_int 0, (put_int 0, (put_param 0, tt))), tt)

cx_terms : AllByRecursion ItemTerms (items_of cx_gate.gate)
cx_terms = (tt, tt)

id_terms : AllByRecursion ItemTerms (items_of id_gate.gate)
id_terms = ((put_int 0, (put_int 0, (put_int 0, tt))), tt)

u_terms : AllByRecursion ItemTerms (items_of u_gate.gate)
u_terms = ((put_param 0, (put_param 1, (put_param 2, tt))), tt)

p_terms : AllByRecursion ItemTerms (items_of p_gate.gate)
p_terms = ((put_int 0, (put_int 0, (put_param 0, tt))), tt)

x_terms : AllByRecursion ItemTerms (items_of x_gate.gate)
x_terms = ((put_pi, (put_int 0, (put_pi, tt))), tt)

y_terms : AllByRecursion ItemTerms (items_of y_gate.gate)
y_terms = ((put_pi, (over_put pi 2 put_pi, (over_put pi 2 put_pi, tt))), tt)

z_terms : AllByRecursion ItemTerms (items_of z_gate.gate)
z_terms = ((put_pi, tt), tt)

h_terms : AllByRecursion ItemTerms (items_of h_gate.gate)
h_terms = ((put_int 0, (put_pi, tt)), tt)

s_terms : AllByRecursion ItemTerms (items_of s_gate.gate)
s_terms = ((over_put pi 2 put_pi, tt), tt)

sdg_terms : AllByRecursion ItemTerms (items_of sdg_gate.gate)
sdg_terms = ((over_put (minus pi) 2 (minus_put pi put_pi), tt), tt)

t_terms : AllByRecursion ItemTerms (items_of t_gate.gate)
t_terms = ((over_put pi 4 put_pi, tt), tt)

tdg_terms : AllByRecursion ItemTerms (items_of tdg_gate.gate)
tdg_terms = ((over_put (minus pi) 4 (minus_put pi put_pi), tt), tt)

sx_terms : AllByRecursion ItemTerms (items_of sx_gate.gate)
sx_terms = (tt, (tt, (tt, tt)))

sxdg_terms : AllByRecursion ItemTerms (items_of sxdg_gate.gate)
sxdg_terms = (tt, (tt, (tt, tt)))

rx_terms : AllByRecursion ItemTerms (items_of rx_gate.gate)
rx_terms = ((put_param 0, (over_put (minus pi) 2 (minus_put pi put_pi), (over_put pi 2 put_pi, tt))), tt)

ry_terms : AllByRecursion ItemTerms (items_of ry_gate.gate)
ry_terms = ((put_param 0, (put_int 0, (put_int 0, tt))), tt)

rz_terms : AllByRecursion ItemTerms (items_of rz_gate.gate)
rz_terms = ((put_param 0, tt), tt)

cz_terms : AllByRecursion ItemTerms (items_of cz_gate.gate)
cz_terms = (tt, (tt, (tt, tt)))

cy_terms : AllByRecursion ItemTerms (items_of cy_gate.gate)
cy_terms = (tt, (tt, (tt, tt)))

ch_terms : AllByRecursion ItemTerms (items_of ch_gate.gate)
ch_terms = (tt, (tt, (tt, (tt, (tt, (tt, (tt, (tt, (tt, (tt, (tt, tt)))))))))))

swap_terms : AllByRecursion ItemTerms (items_of swap_gate.gate)
swap_terms = (tt, (tt, (tt, tt)))

ccx_terms : AllByRecursion ItemTerms (items_of ccx_gate.gate)
ccx_terms = (tt, (tt, (tt, (tt, (tt, (tt, (tt, (tt, (tt, (tt, (tt, (tt, (tt, (tt, (tt, tt)))))))))))))))

cswap_terms : AllByRecursion ItemTerms (items_of cswap_gate.gate)
cswap_terms = (tt, (tt, (tt, tt)))

crx_terms : AllByRecursion ItemTerms (items_of crx_gate.gate)
crx_terms = ((over_put pi 2 put_pi, tt), (tt, ((over_put (minus (param 0)) 2 (minus_put (param 0) (put_param 0)), (put_int 0, (put_int 0, tt))), (tt, ((over_put (param 0) 2 (put_param 0), (over_put (minus pi) 2 (minus_put pi put_pi), (put_int 0, tt))), tt)))))

cry_terms : AllByRecursion ItemTerms (items_of cry_gate.gate)
cry_terms = ((over_put (param 0) 2 (put_param 0), tt), (tt, ((over_put (minus (param 0)) 2 (minus_put (param 0) (put_param 0)), tt), (tt, tt))))

crz_terms : AllByRecursion ItemTerms (items_of crz_gate.gate)
crz_terms = ((over_put (param 0) 2 (put_param 0), tt), (tt, ((over_put (minus (param 0)) 2 (minus_put (param 0) (put_param 0)), tt), (tt, tt))))

cu1_terms : AllByRecursion ItemTerms (items_of cu1_gate.gate)
cu1_terms = ((over_put (param 0) 2 (put_param 0), tt), (tt, ((over_put (minus (param 0)) 2 (minus_put (param 0) (put_param 0)), tt), (tt, ((over_put (param 0) 2 (put_param 0), tt), tt)))))

cp_terms : AllByRecursion ItemTerms (items_of cp_gate.gate)
cp_terms = ((over_put (param 0) 2 (put_param 0), tt), (tt, ((over_put (minus (param 0)) 2 (minus_put (param 0) (put_param 0)), tt), (tt, ((over_put (param 0) 2 (put_param 0), tt), tt)))))

cu3_terms : AllByRecursion ItemTerms (items_of cu3_gate.gate)
cu3_terms = ((over_put (plus (param 2) (param 1)) 2 (plus_put (param 2) (param 1) (put_param 2) (put_param 1)), tt), ((over_put (less (param 2) (param 1)) 2 (less_put (param 2) (param 1) (put_param 2) (put_param 1)), tt), (tt, ((over_put (minus (param 0)) 2 (minus_put (param 0) (put_param 0)), (put_int 0, (over_put (minus (plus (param 1) (param 2))) 2 (minus_put (plus (param 1) (param 2)) (plus_put (param 1) (param 2) (put_param 1) (put_param 2))), tt))), (tt, ((over_put (param 0) 2 (put_param 0), (put_param 1, (put_int 0, tt))), tt))))))

rxx_terms : AllByRecursion ItemTerms (items_of rxx_gate.gate)
rxx_terms = (tt, (tt, (tt, ((put_param 0, tt), (tt, (tt, (tt, tt)))))))

rzz_terms : AllByRecursion ItemTerms (items_of rzz_gate.gate)
rzz_terms = (tt, ((put_param 0, tt), (tt, tt)))

-- ---- all of them

built_in_fit : list_all (gate_fits built_in) built_in ≡ true
built_in_fit = refl

built_in_terms : AllByRecursion GateTerms built_in
built_in_terms = (tt, (tt, (u3_terms, (u2_terms, (u1_terms, (cx_terms, (id_terms, (u_terms, (p_terms, (x_terms, (y_terms, (z_terms, (h_terms, (s_terms, (sdg_terms, (t_terms, (tdg_terms, (sx_terms, (sxdg_terms, (rx_terms, (ry_terms, (rz_terms, (cz_terms, (cy_terms, (ch_terms, (swap_terms, (ccx_terms, (cswap_terms, (crx_terms, (cry_terms, (crz_terms, (cu1_terms, (cp_terms, (cu3_terms, (rxx_terms, (rzz_terms, tt))))))))))))))))))))))))))))))))))))

pub built_in_sound : All (IsSoundGate built_in) built_in
built_in_sound = gates_from built_in built_in built_in_fit built_in_terms
