-- The gates that are there from the start: U, CX and the library `qelib1.inc`. The bodies are this project's own.
-- A gate is known by its number, and a parameter or a qubit of a body by its position.
use Rattle.std.specs.Prelude.{ℕ, List, [], ◌∷◌, map, codes}
use Rattle.circuit_core.specs.declared.words.BinOp.TheVariants.{Add, Sub, Div}
use Rattle.gate_names.specs.declared.gate.Gate.{Gate}
use Rattle.gate_names.specs.declared.gate.Gate.TheVariants.{Universal, ControlledNot, Body}
use Rattle.gate_names.specs.declared.gate.Item.{Item}
use Rattle.gate_names.specs.declared.gate.Item.TheVariants.{Call}
use Rattle.gate_names.specs.declared.term.Term.{Term, roll-Term}
use Rattle.gate_names.specs.declared.term.Term.TheOpen.{Term-F}

-- ---- how bodies are written here

abbrev pub param : ℕ → Term
param k = roll-Term (Term-F.Param k)

abbrev pub int : ℕ → Term
int n = roll-Term (Term-F.Int n)

abbrev pub pi : Term
pi = roll-Term Term-F.Pi

abbrev pub minus : Term → Term
minus e = roll-Term (Term-F.Neg e)

abbrev pub plus : Term → Term → Term
plus d e = roll-Term (Term-F.Bin Add d e)

abbrev pub less : Term → Term → Term
less d e = roll-Term (Term-F.Bin Sub d e)

abbrev pub over : Term → ℕ → Term
over e n = roll-Term (Term-F.Bin Div e (int n))

-- the positions of a gate's qubits
abbrev pub a : ℕ
a = 0

abbrev pub b : ℕ
b = 1

abbrev pub c : ℕ
c = 2

-- a gate of the library: its name, and how it is declared
pub record LibraryGate : Type 0 where
  pub name : List ℕ
  pub gate : Gate

-- a gate with so many parameters and qubits and this body
abbrev pub gate : List ℕ → ℕ → ℕ → List Item → LibraryGate
gate name params qubits items = record { name = name; gate = Body params qubits items }

-- ---- the numbers of the gates

abbrev pub U : ℕ
U = 0

abbrev pub CX : ℕ
CX = 1

abbrev pub u3 : ℕ
u3 = 2

abbrev pub u2 : ℕ
u2 = 3

abbrev pub u1 : ℕ
u1 = 4

abbrev pub cx : ℕ
cx = 5

abbrev pub id : ℕ
id = 6

abbrev pub u : ℕ
u = 7

abbrev pub p : ℕ
p = 8

abbrev pub x : ℕ
x = 9

abbrev pub y : ℕ
y = 10

abbrev pub z : ℕ
z = 11

abbrev pub h : ℕ
h = 12

abbrev pub s : ℕ
s = 13

abbrev pub sdg : ℕ
sdg = 14

abbrev pub t : ℕ
t = 15

abbrev pub tdg : ℕ
tdg = 16

abbrev pub sx : ℕ
sx = 17

abbrev pub sxdg : ℕ
sxdg = 18

abbrev pub rx : ℕ
rx = 19

abbrev pub ry : ℕ
ry = 20

abbrev pub rz : ℕ
rz = 21

abbrev pub cz : ℕ
cz = 22

abbrev pub cy : ℕ
cy = 23

abbrev pub ch : ℕ
ch = 24

abbrev pub swap : ℕ
swap = 25

abbrev pub ccx : ℕ
ccx = 26

abbrev pub cswap : ℕ
cswap = 27

abbrev pub crx : ℕ
crx = 28

abbrev pub cry : ℕ
cry = 29

abbrev pub crz : ℕ
crz = 30

abbrev pub cu1 : ℕ
cu1 = 31

abbrev pub cp : ℕ
cp = 32

abbrev pub cu3 : ℕ
cu3 = 33

abbrev pub rxx : ℕ
rxx = 34

abbrev pub rzz : ℕ
rzz = 35

-- the number of the library's first gate
abbrev pub first_library_gate : ℕ
first_library_gate = 2

-- ---- their bodies

-- gate u3(theta,phi,lambda) q { U(theta,phi,lambda) q; }
abbrev pub u3_gate : LibraryGate
u3_gate = gate (codes "u3") 3 1 (Call U (param 0 ∷ param 1 ∷ param 2 ∷ []) (a ∷ []) ∷ [])

-- gate u2(phi,lambda) q { U(pi/2,phi,lambda) q; }
abbrev pub u2_gate : LibraryGate
u2_gate = gate (codes "u2") 2 1 (Call U (over pi 2 ∷ param 0 ∷ param 1 ∷ []) (a ∷ []) ∷ [])

-- gate u1(lambda) q { U(0,0,lambda) q; }
abbrev pub u1_gate : LibraryGate
u1_gate = gate (codes "u1") 1 1 (Call U (int 0 ∷ int 0 ∷ param 0 ∷ []) (a ∷ []) ∷ [])

-- gate cx c,t { CX c,t; }
abbrev pub cx_gate : LibraryGate
cx_gate = gate (codes "cx") 0 2 (Call CX [] (a ∷ b ∷ []) ∷ [])

-- gate id a { U(0,0,0) a; }
abbrev pub id_gate : LibraryGate
id_gate = gate (codes "id") 0 1 (Call U (int 0 ∷ int 0 ∷ int 0 ∷ []) (a ∷ []) ∷ [])

-- gate u(theta,phi,lambda) q { U(theta,phi,lambda) q; }
abbrev pub u_gate : LibraryGate
u_gate = gate (codes "u") 3 1 (Call U (param 0 ∷ param 1 ∷ param 2 ∷ []) (a ∷ []) ∷ [])

-- gate p(lambda) q { U(0,0,lambda) q; }
abbrev pub p_gate : LibraryGate
p_gate = gate (codes "p") 1 1 (Call U (int 0 ∷ int 0 ∷ param 0 ∷ []) (a ∷ []) ∷ [])

-- gate x a { u3(pi,0,pi) a; }
abbrev pub x_gate : LibraryGate
x_gate = gate (codes "x") 0 1 (Call u3 (pi ∷ int 0 ∷ pi ∷ []) (a ∷ []) ∷ [])

-- gate y a { u3(pi,pi/2,pi/2) a; }
abbrev pub y_gate : LibraryGate
y_gate = gate (codes "y") 0 1 (Call u3 (pi ∷ over pi 2 ∷ over pi 2 ∷ []) (a ∷ []) ∷ [])

-- gate z a { u1(pi) a; }
abbrev pub z_gate : LibraryGate
z_gate = gate (codes "z") 0 1 (Call u1 (pi ∷ []) (a ∷ []) ∷ [])

-- gate h a { u2(0,pi) a; }
abbrev pub h_gate : LibraryGate
h_gate = gate (codes "h") 0 1 (Call u2 (int 0 ∷ pi ∷ []) (a ∷ []) ∷ [])

-- gate s a { u1(pi/2) a; }
abbrev pub s_gate : LibraryGate
s_gate = gate (codes "s") 0 1 (Call u1 (over pi 2 ∷ []) (a ∷ []) ∷ [])

-- gate sdg a { u1(-pi/2) a; }
abbrev pub sdg_gate : LibraryGate
sdg_gate = gate (codes "sdg") 0 1 (Call u1 (over (minus pi) 2 ∷ []) (a ∷ []) ∷ [])

-- gate t a { u1(pi/4) a; }
abbrev pub t_gate : LibraryGate
t_gate = gate (codes "t") 0 1 (Call u1 (over pi 4 ∷ []) (a ∷ []) ∷ [])

-- gate tdg a { u1(-pi/4) a; }
abbrev pub tdg_gate : LibraryGate
tdg_gate = gate (codes "tdg") 0 1 (Call u1 (over (minus pi) 4 ∷ []) (a ∷ []) ∷ [])

-- gate sx a { sdg a; h a; sdg a; }
abbrev pub sx_gate : LibraryGate
sx_gate = gate (codes "sx") 0 1 (Call sdg [] (a ∷ []) ∷ Call h [] (a ∷ []) ∷ Call sdg [] (a ∷ []) ∷ [])

-- gate sxdg a { s a; h a; s a; }
abbrev pub sxdg_gate : LibraryGate
sxdg_gate = gate (codes "sxdg") 0 1 (Call s [] (a ∷ []) ∷ Call h [] (a ∷ []) ∷ Call s [] (a ∷ []) ∷ [])

-- gate rx(theta) a { u3(theta,-pi/2,pi/2) a; }
abbrev pub rx_gate : LibraryGate
rx_gate = gate (codes "rx") 1 1 (Call u3 (param 0 ∷ over (minus pi) 2 ∷ over pi 2 ∷ []) (a ∷ []) ∷ [])

-- gate ry(theta) a { u3(theta,0,0) a; }
abbrev pub ry_gate : LibraryGate
ry_gate = gate (codes "ry") 1 1 (Call u3 (param 0 ∷ int 0 ∷ int 0 ∷ []) (a ∷ []) ∷ [])

-- gate rz(phi) a { u1(phi) a; }
abbrev pub rz_gate : LibraryGate
rz_gate = gate (codes "rz") 1 1 (Call u1 (param 0 ∷ []) (a ∷ []) ∷ [])

-- gate cz a,b { h b; cx a,b; h b; }
abbrev pub cz_gate : LibraryGate
cz_gate = gate (codes "cz") 0 2 (Call h [] (b ∷ []) ∷ Call cx [] (a ∷ b ∷ []) ∷ Call h [] (b ∷ []) ∷ [])

-- gate cy a,b { sdg b; cx a,b; s b; }
abbrev pub cy_gate : LibraryGate
cy_gate = gate (codes "cy") 0 2 (Call sdg [] (b ∷ []) ∷ Call cx [] (a ∷ b ∷ []) ∷ Call s [] (b ∷ []) ∷ [])

-- gate ch a,b { h b; sdg b; cx a,b; h b; t b; cx a,b; t b; h b; s b; x b; s a; }
abbrev pub ch_gate : LibraryGate
ch_gate = gate (codes "ch") 0 2
    (Call h [] (b ∷ []) ∷ Call sdg [] (b ∷ []) ∷ Call cx [] (a ∷ b ∷ []) ∷ Call h [] (b ∷ [])
    ∷ Call t [] (b ∷ []) ∷ Call cx [] (a ∷ b ∷ []) ∷ Call t [] (b ∷ []) ∷ Call h [] (b ∷ [])
    ∷ Call s [] (b ∷ []) ∷ Call x [] (b ∷ []) ∷ Call s [] (a ∷ []) ∷ [])

-- gate swap a,b { cx a,b; cx b,a; cx a,b; }
abbrev pub swap_gate : LibraryGate
swap_gate = gate (codes "swap") 0 2
    (Call cx [] (a ∷ b ∷ []) ∷ Call cx [] (b ∷ a ∷ []) ∷ Call cx [] (a ∷ b ∷ []) ∷ [])

-- gate ccx a,b,c { h c; cx b,c; tdg c; cx a,c; t c; cx b,c; tdg c; cx a,c; t b; t c; h c; cx a,b; t a; tdg b; cx a,b; }
abbrev pub ccx_gate : LibraryGate
ccx_gate = gate (codes "ccx") 0 3
    (Call h [] (c ∷ []) ∷ Call cx [] (b ∷ c ∷ []) ∷ Call tdg [] (c ∷ []) ∷ Call cx [] (a ∷ c ∷ [])
    ∷ Call t [] (c ∷ []) ∷ Call cx [] (b ∷ c ∷ []) ∷ Call tdg [] (c ∷ []) ∷ Call cx [] (a ∷ c ∷ [])
    ∷ Call t [] (b ∷ []) ∷ Call t [] (c ∷ []) ∷ Call h [] (c ∷ []) ∷ Call cx [] (a ∷ b ∷ [])
    ∷ Call t [] (a ∷ []) ∷ Call tdg [] (b ∷ []) ∷ Call cx [] (a ∷ b ∷ []) ∷ [])

-- gate cswap a,b,c { cx c,b; ccx a,b,c; cx c,b; }
abbrev pub cswap_gate : LibraryGate
cswap_gate = gate (codes "cswap") 0 3
    (Call cx [] (c ∷ b ∷ []) ∷ Call ccx [] (a ∷ b ∷ c ∷ []) ∷ Call cx [] (c ∷ b ∷ []) ∷ [])

-- gate crx(lambda) a,b { u1(pi/2) b; cx a,b; u3(-lambda/2,0,0) b; cx a,b; u3(lambda/2,-pi/2,0) b; }
abbrev pub crx_gate : LibraryGate
crx_gate = gate (codes "crx") 1 2
    (Call u1 (over pi 2 ∷ []) (b ∷ []) ∷ Call cx [] (a ∷ b ∷ [])
    ∷ Call u3 (over (minus (param 0)) 2 ∷ int 0 ∷ int 0 ∷ []) (b ∷ []) ∷ Call cx [] (a ∷ b ∷ [])
    ∷ Call u3 (over (param 0) 2 ∷ over (minus pi) 2 ∷ int 0 ∷ []) (b ∷ []) ∷ [])

-- gate cry(lambda) a,b { ry(lambda/2) b; cx a,b; ry(-lambda/2) b; cx a,b; }
abbrev pub cry_gate : LibraryGate
cry_gate = gate (codes "cry") 1 2
    (Call ry (over (param 0) 2 ∷ []) (b ∷ []) ∷ Call cx [] (a ∷ b ∷ [])
    ∷ Call ry (over (minus (param 0)) 2 ∷ []) (b ∷ []) ∷ Call cx [] (a ∷ b ∷ []) ∷ [])

-- gate crz(lambda) a,b { rz(lambda/2) b; cx a,b; rz(-lambda/2) b; cx a,b; }
abbrev pub crz_gate : LibraryGate
crz_gate = gate (codes "crz") 1 2
    (Call rz (over (param 0) 2 ∷ []) (b ∷ []) ∷ Call cx [] (a ∷ b ∷ [])
    ∷ Call rz (over (minus (param 0)) 2 ∷ []) (b ∷ []) ∷ Call cx [] (a ∷ b ∷ []) ∷ [])

-- gate cu1(lambda) a,b { u1(lambda/2) a; cx a,b; u1(-lambda/2) b; cx a,b; u1(lambda/2) b; }
abbrev pub cu1_gate : LibraryGate
cu1_gate = gate (codes "cu1") 1 2
    (Call u1 (over (param 0) 2 ∷ []) (a ∷ []) ∷ Call cx [] (a ∷ b ∷ [])
    ∷ Call u1 (over (minus (param 0)) 2 ∷ []) (b ∷ []) ∷ Call cx [] (a ∷ b ∷ [])
    ∷ Call u1 (over (param 0) 2 ∷ []) (b ∷ []) ∷ [])

-- gate cp(lambda) a,b { p(lambda/2) a; cx a,b; p(-lambda/2) b; cx a,b; p(lambda/2) b; }
abbrev pub cp_gate : LibraryGate
cp_gate = gate (codes "cp") 1 2
    (Call p (over (param 0) 2 ∷ []) (a ∷ []) ∷ Call cx [] (a ∷ b ∷ [])
    ∷ Call p (over (minus (param 0)) 2 ∷ []) (b ∷ []) ∷ Call cx [] (a ∷ b ∷ [])
    ∷ Call p (over (param 0) 2 ∷ []) (b ∷ []) ∷ [])

-- gate cu3(theta,phi,lambda) c,t { u1((lambda+phi)/2) c; u1((lambda-phi)/2) t; cx c,t;
--   u3(-theta/2,0,-(phi+lambda)/2) t; cx c,t; u3(theta/2,phi,0) t; }
abbrev pub cu3_gate : LibraryGate
cu3_gate = gate (codes "cu3") 3 2
    (Call u1 (over (plus (param 2) (param 1)) 2 ∷ []) (a ∷ [])
    ∷ Call u1 (over (less (param 2) (param 1)) 2 ∷ []) (b ∷ []) ∷ Call cx [] (a ∷ b ∷ [])
    ∷ Call u3 (over (minus (param 0)) 2 ∷ int 0 ∷ over (minus (plus (param 1) (param 2))) 2 ∷ []) (b ∷ [])
    ∷ Call cx [] (a ∷ b ∷ []) ∷ Call u3 (over (param 0) 2 ∷ param 1 ∷ int 0 ∷ []) (b ∷ []) ∷ [])

-- gate rxx(theta) a,b { h a; h b; cx a,b; rz(theta) b; cx a,b; h b; h a; }
abbrev pub rxx_gate : LibraryGate
rxx_gate = gate (codes "rxx") 1 2
    (Call h [] (a ∷ []) ∷ Call h [] (b ∷ []) ∷ Call cx [] (a ∷ b ∷ []) ∷ Call rz (param 0 ∷ []) (b ∷ [])
    ∷ Call cx [] (a ∷ b ∷ []) ∷ Call h [] (b ∷ []) ∷ Call h [] (a ∷ []) ∷ [])

-- gate rzz(theta) a,b { cx a,b; rz(theta) b; cx a,b; }
abbrev pub rzz_gate : LibraryGate
rzz_gate = gate (codes "rzz") 1 2
    (Call cx [] (a ∷ b ∷ []) ∷ Call rz (param 0 ∷ []) (b ∷ []) ∷ Call cx [] (a ∷ b ∷ []) ∷ [])

-- the gates of the library, in order
abbrev pub library : List LibraryGate
library =
    u3_gate ∷ u2_gate ∷ u1_gate ∷ cx_gate ∷ id_gate ∷ u_gate ∷ p_gate ∷ x_gate ∷ y_gate ∷ z_gate
    ∷ h_gate ∷ s_gate ∷ sdg_gate ∷ t_gate ∷ tdg_gate ∷ sx_gate ∷ sxdg_gate ∷ rx_gate ∷ ry_gate
    ∷ rz_gate ∷ cz_gate ∷ cy_gate ∷ ch_gate ∷ swap_gate ∷ ccx_gate ∷ cswap_gate ∷ crx_gate ∷ cry_gate
    ∷ crz_gate ∷ cu1_gate ∷ cp_gate ∷ cu3_gate ∷ rxx_gate ∷ rzz_gate ∷ []

abbrev pub library_names : List (List ℕ)
library_names = map (λ entry. entry.name) library

-- all gates that are there from the start, by their numbers
abbrev pub built_in : List Gate
built_in = Universal ∷ ControlledNot ∷ map (λ entry. entry.gate) library
