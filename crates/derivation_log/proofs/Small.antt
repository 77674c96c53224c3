-- A log of two clauses that resolve.
use Rattle.std.proofs.Common.{◌≡◌, ◌≢◌, ℕ, List, [], ◌∷◌, inl, inr, refl, sym, ap, ◌∙◌, subst, arith}
use Rattle.sat_base.specs.Literal.{Literal, positive_of, negative_of}
use Rattle.sat_base.specs.Resolution.{Step, Resolve}
use Rattle.derivation_log.specs.declared.line_id.LineId.{LineId}
use Rattle.derivation_log.specs.Log.{Lines, log_of, axiom_id, chain_of}

-- the clauses -2 1 and -1
abbrev pub both : List (List Literal)
both = (negative_of 2 ∷ positive_of 1 ∷ []) ∷ (negative_of 1 ∷ []) ∷ []

abbrev pub chain : List LineId
chain = axiom_id 1 ∷ axiom_id 2 ∷ []

different : (a b : Literal) → a ≡ b → a.var ≢ b.var → ⊥
different a b e ne = ne (ap (λ (l : Literal). l.var) e)

two_not_one : (a b : ℕ) → a ≡ 2 → b ≡ 1 → a ≢ b
two_not_one a b is_two is_one e = omega arith

step : Step (record { clause = negative_of 2 ∷ positive_of 1 ∷ []; taken = [] }) (negative_of 1 ∷ []) (record { clause = negative_of 2 ∷ []; taken = negative_of 1 ∷ [] })
step = record {
  pivot = negative_of 1;
  clash = record {
    has = inl refl;
    against = inr (inl refl);
    only = λ literal has against. elim has [ inl e ↦ sym e | inr none ↦ absurd none ];
  };
  new_variable = tt;
  joined = record {
    parts = λ literal has. elim has [
      | inl e ↦ inl (inl e, λ same. different (negative_of 2) (positive_of 1) (e ∙ same) (two_not_one 2 1 refl refl))
      | inr none ↦ absurd none
    ];
    keeps = λ literal has other. elim has [
      | inl e ↦ inl e
      | inr h ↦ elim h [ inl e ↦ absurd (other (sym e)) | inr none ↦ absurd none ]
    ];
    gets = λ literal has other. elim has [ inl e ↦ absurd (other (sym e)) | inr none ↦ absurd none ];
  };
  counted = refl;
}

pub resolves : (log : Lines) → log ≡ log_of both [] → Resolve (chain_of log chain)
resolves log is = subst (λ (log : Lines). Resolve (chain_of log chain)) (sym is)
    (negative_of 2 ∷ [], (record { clause = negative_of 2 ∷ []; taken = negative_of 1 ∷ [] }, step, (λ literal has. has, λ literal has. has)))
