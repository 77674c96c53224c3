-- How far the clauses are added.
use Rattle.std.proofs.Common.{◌≡◌, Result, Ok, Err, List, [], ◌∷◌, ◌++◌, refl, sym, ap, ◌∙◌, append_assoc}
use Rattle.std.specs.Prelude.{OnErr, OnOk}
use Rattle.std.proofs.lemmas.List.{append-nil}
use Rattle.sat_base.specs.Literal.{Literal}
use Rattle.sat_base.specs.Clauses.{HasDistinctVariables, HaveDistinctVariables}
use Rattle.at_most.specs.AtMost.{AddsPrefix}

-- a prefix of all was added, and the rest is still to be
pub record Emitted (old now all rest : List (List Literal)) : Type 0 where
  pub prefix : List (List Literal)
  pub parts : all ≡ prefix ++ rest
  pub added : now ≡ old ++ prefix

pub emitted_none : (old all : List (List Literal)) → Emitted old old all all
emitted_none old all = record { prefix = []; parts = refl; added = sym (append-nil old) }

-- the part more is added too
pub emitted_more : (old now now' all more rest : List (List Literal)) → Emitted old now all (more ++ rest) → now' ≡ now ++ more → Emitted old now' all rest
emitted_more old now now' all more rest e step =
    record {
      prefix = e.prefix ++ more;
      parts = e.parts ∙ sym (append_assoc e.prefix more rest);
      added = step ∙ ap (λ x. x ++ more) e.added ∙ append_assoc old e.prefix more;
    }

pub emitted_all : (old now all : List (List Literal)) → Emitted old now all [] → now ≡ old ++ all
emitted_all old now all e = e.added ∙ ap (λ x. old ++ x) (sym (append-nil e.prefix) ∙ sym e.parts)

pub emitted_prefix : (old now all rest : List (List Literal)) → Emitted old now all rest → AddsPrefix old now all
emitted_prefix old now all rest e = record { prefix = e.prefix; rest = rest; parts = e.parts; kept = e.added }

-- the rest, written in another form
pub emitted_same : (old now all rest rest' : List (List Literal)) → Emitted old now all rest → rest ≡ rest' → Emitted old now all rest'
emitted_same old now all rest rest' e same = record { prefix = e.prefix; parts = e.parts ∙ ap (λ x. e.prefix ++ x) same; added = e.added }

-- a prefix of the part more is added too
pub emitted_within : (old now now' all more rest : List (List Literal)) → Emitted old now all (more ++ rest) → AddsPrefix now now' more → AddsPrefix old now' all
emitted_within old now now' all more rest e step =
    record {
      prefix = e.prefix ++ step.prefix;
      rest = step.rest ++ rest;
      parts = e.parts ∙ ap (λ x. e.prefix ++ (x ++ rest)) step.parts ∙ ap (λ x. e.prefix ++ x) (append_assoc step.prefix step.rest rest) ∙ sym (append_assoc e.prefix step.prefix (step.rest ++ rest));
      kept = step.kept ∙ ap (λ x. x ++ step.prefix) e.added ∙ append_assoc old e.prefix step.prefix;
    }

-- the last part is added too
pub emitted_last : (old now now' all more : List (List Literal)) → Emitted old now all more → now' ≡ now ++ more → now' ≡ old ++ all
emitted_last old now now' all more e step = step ∙ ap (λ x. x ++ more) e.added ∙ append_assoc old e.prefix more ∙ ap (λ x. old ++ x) (sym e.parts)

pub emitted_within_last : (old now now' all more : List (List Literal)) → Emitted old now all more → AddsPrefix now now' more → AddsPrefix old now' all
emitted_within_last old now now' all more e step = emitted_within old now now' all more [] (emitted_same old now all more (more ++ []) e (sym (append-nil more))) step

-- what holds in any case holds where there is an error
pub on_err : {T E : Type 0} (result : Result T E) (P : Type 0) → P → OnErr result P
on_err (Ok value) P p = tt
on_err (Err fault) P p = p

-- what follows on each side
pub on_err_also : {T E : Type 0} (result : Result T E) (P Q : Type 0) → (P → Q) → OnErr result P → OnErr result Q
on_err_also (Ok value) P Q then p = tt
on_err_also (Err fault) P Q then p = then p

pub on_ok_also : {T E : Type 0} (result : Result T E) (P Q : Type 0) → (P → Q) → OnOk result P → OnOk result Q
on_ok_also (Ok value) P Q then p = then p
on_ok_also (Err fault) P Q then p = tt

-- the next clause is one of all
next_distinct : (prefix rest : List (List Literal)) (clause : List Literal) → HaveDistinctVariables (prefix ++ clause ∷ rest) → HasDistinctVariables clause
next_distinct [] rest clause all = all.0
next_distinct (c ∷ prefix) rest clause all = next_distinct prefix rest clause all.1

pub HasDistinctVariables-next : (old now all rest : List (List Literal)) (clause : List Literal) → Emitted old now all (clause ∷ rest) → HaveDistinctVariables all → HasDistinctVariables clause
HasDistinctVariables-next old now all rest clause e distinct = next_distinct e.prefix rest clause (rw e.parts at distinct)
