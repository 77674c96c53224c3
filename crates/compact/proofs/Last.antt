-- The last step of the actions that matter.
use Rattle.std.proofs.Common.{◌≡◌, ℕ, ◌+◌, ◌<◌, ◌≤◌, max, List, [], ◌∷◌, ◌++◌, length, refl, sym, ap, subst, ◌∙◌, inl, inr, arith}
use Rattle.std.specs.Prelude.{◌⊎◌}
use Rattle.std.proofs.lemmas.Bool.{cases_lt}
use Rattle.step_rules.specs.declared.action.Action.{Action}
use Rattle.compact.specs.Latest.{IsAt, IsEndedBy, IsLast}
use Rattle.compact.specs.Levels.{IsLevelOf, IsGreatest, AreRaised}
use Rattle.compact.proofs.Places.{pushed, pushed_old, pushed_last}

pub none_last : (noted : Action → ℕ → Type 0) (matters : Action → Type 0) → ((action : Action) (time : ℕ) → noted action time → matters action → ⊥) → IsLast noted matters 0
none_last noted matters none = record { done = λ action time there it. absurd (none action time there it); ended = inl refl }

-- what matters is the same
pub last_same : (noted : Action → ℕ → Type 0) (first second : Action → Type 0) (level : ℕ) → IsLast noted first level
    → ((action : Action) (time : ℕ) → noted action time → first action → second action) → ((action : Action) (time : ℕ) → noted action time → second action → first action) → IsLast noted second level
last_same noted first second level its to back = record {
  done = λ action time there it. its.done action time there (back action time there it);
  ended = elim its.ended [
    | inl none ↦ inl none
    | inr last ↦ (let it : IsEndedBy noted first level = last in
        inr (record { action = it.action; time = it.time; is_noted = it.is_noted; it_matters = to it.action it.time it.is_noted it.it_matters; is_last = it.is_last }))
  ];
}

-- what is noted is the same
pub last_noted : (noted now : Action → ℕ → Type 0) (matters : Action → Type 0) (level : ℕ) → IsLast noted matters level
    → ((action : Action) (time : ℕ) → noted action time → now action time) → ((action : Action) (time : ℕ) → now action time → noted action time) → IsLast now matters level
last_noted noted now matters level its to back = record {
  done = λ action time there it. its.done action time (back action time there) it;
  ended = elim its.ended [
    | inl none ↦ inl none
    | inr last ↦ (let it : IsEndedBy noted matters level = last in
        inr (record { action = it.action; time = it.time; is_noted = to it.action it.time it.is_noted; it_matters = it.it_matters; is_last = it.is_last }))
  ];
}

-- what matters is either
pub last_either : (noted : Action → ℕ → Type 0) (first second : Action → Type 0) (l m n : ℕ) → IsLast noted first l → IsLast noted second m → n ≡ max l m → IsLast noted (λ (action : Action). first action ⊎ second action) n
last_either noted first second l m n of_first of_second e = record {
  done = λ action time there it. elim it [
    | inl a ↦ (let below : time < l = of_first.done action time there a in omega arith)
    | inr b ↦ (let below : time < m = of_second.done action time there b in omega arith)
  ];
  ended = elim (cases_lt l m) [
    | inl less ↦ elim of_second.ended [
      | inl none ↦ inl (omega arith)
      | inr last ↦ (let it : IsEndedBy noted second m = last in
          inr (record { action = it.action; time = it.time; is_noted = it.is_noted; it_matters = inr it.it_matters; is_last = omega (arith, it.is_last) }))
    ]
    | inr more ↦ elim of_first.ended [
      | inl none ↦ inl (omega arith)
      | inr last ↦ (let it : IsEndedBy noted first l = last in
          inr (record { action = it.action; time = it.time; is_noted = it.is_noted; it_matters = inl it.it_matters; is_last = omega (arith, it.is_last) }))
    ]
  ];
}

-- a spot or a wire that matters, with what touches it
pub record Touch {W : Type 0} (on : W → Type 0) (touches : W → Action → Type 0) (action : Action) : Type 0 where
  pub which : W
  pub is_on : on which
  pub it_touches : touches which action

pub last_greatest : {W : Type 0} (on : W → Type 0) (level : W → ℕ) (noted : Action → ℕ → Type 0) (touches : W → Action → Type 0) (greatest : ℕ) → IsGreatest on level greatest
    → ((which : W) → IsLast noted (touches which) (level which)) → IsLast noted (Touch on touches) greatest
last_greatest {W} on level noted touches greatest is each = record {
  done = λ action time there it.
      let touch : Touch on touches action = it in
      let below : time < level touch.which = (each touch.which).done action time there touch.it_touches in
      let above : level touch.which ≤ greatest = is.above touch.which touch.is_on in
      omega arith;
  ended = elim is.reached [
    | inl none ↦ inl none
    | inr at ↦ (let reached : IsLevelOf on level greatest = at in
        let its : IsLast noted (touches reached.which) (level reached.which) = each reached.which in
        elim its.ended [
          | inl none ↦ inl (sym reached.is_level ∙ none)
          | inr last ↦ (let it : IsEndedBy noted (touches reached.which) (level reached.which) = last in
              inr (record {
                action = it.action;
                time = it.time;
                is_noted = it.is_noted;
                it_matters = record { which = reached.which; is_on = reached.is_on; it_touches = it.it_matters };
                is_last = it.is_last ∙ reached.is_level;
              }))
        ])
  ];
}

-- ---- one action more

pub record IsOneMore (noted now : Action → ℕ → Type 0) (action : Action) (time : ℕ) : Type 0 where
  pub old : (other : Action) (t : ℕ) → noted other t → now other t
  pub last : now action time
  pub cases : (other : Action) (t : ℕ) → now other t → noted other t ⊎ ((action ≡ other) × (time ≡ t))

pub one_more_at : (actions : List Action) (times : List ℕ) (action : Action) (time : ℕ) → length times ≡ length actions → IsOneMore (IsAt actions times) (IsAt (actions ++ action ∷ []) (times ++ time ∷ [])) action time
one_more_at actions times action time len = record {
  old = λ other t at. record {
    position = at.position;
    is_action = pushed_old actions action other at.position at.is_action;
    is_time = pushed_old times time t at.position at.is_time;
  };
  last = record { position = length actions; is_action = pushed_last actions action (length actions) refl; is_time = pushed_last times time (length actions) (sym len) };
  cases = λ other t at. elim (pushed actions action other at.position at.is_action) [
    | inl old ↦ elim (pushed times time t at.position at.is_time) [
      | inl there ↦ inl (record { position = at.position; is_action = old.1; is_time = there.1 })
      | inr last ↦ absurd (omega (arith, old.0, last.0))
    ]
    | inr new ↦ elim (pushed times time t at.position at.is_time) [
      | inl there ↦ absurd (omega (arith, new.0, there.0))
      | inr last ↦ inr (new.1, last.1)
    ]
  ];
}

pub last_past : (noted now : Action → ℕ → Type 0) (action : Action) (time : ℕ) (matters : Action → Type 0) (level : ℕ) → IsOneMore noted now action time → IsLast noted matters level → (matters action → ⊥) → IsLast now matters level
last_past noted now action time matters level more its not = record {
  done = λ other t there it. elim (more.cases other t there) [
    | inl old ↦ its.done other t old it
    | inr new ↦ absurd (not (subst matters (sym new.0) it))
  ];
  ended = elim its.ended [
    | inl none ↦ inl none
    | inr last ↦ (let it : IsEndedBy noted matters level = last in
        inr (record { action = it.action; time = it.time; is_noted = more.old it.action it.time it.is_noted; it_matters = it.it_matters; is_last = it.is_last }))
  ];
}

pub last_with : (noted now : Action → ℕ → Type 0) (action : Action) (time : ℕ) (matters : Action → Type 0) (level next : ℕ) → IsOneMore noted now action time → IsLast noted matters level → matters action → next ≡ max level (time + 1)
    → IsLast now matters next
last_with noted now action time matters level next more its matters_now e = record {
  done = λ other t there it. elim (more.cases other t there) [
    | inl old ↦ (let below : t < level = its.done other t old it in omega arith)
    | inr new ↦ omega (arith, new.1)
  ];
  ended = elim (cases_lt level (time + 1)) [
    | inl less ↦ inr (record { action = action; time = time; is_noted = more.last; it_matters = matters_now; is_last = omega arith })
    | inr most ↦ elim its.ended [
      | inl none ↦ absurd (omega arith)
      | inr last ↦ (let it : IsEndedBy noted matters level = last in
          inr (record { action = it.action; time = it.time; is_noted = more.old it.action it.time it.is_noted; it_matters = it.it_matters; is_last = omega (arith, it.is_last) }))
    ]
  ];
}

-- the levels of what the action touches are raised
pub raised_last : {W : Type 0} (on : W → Type 0) (old new : W → ℕ) (noted now : Action → ℕ → Type 0) (action : Action) (time level : ℕ) (touches : W → Action → Type 0) → IsOneMore noted now action time → AreRaised on old new level → level ≡ time + 1
    → ((which : W) → on which → touches which action) → ((which : W) → touches which action → on which) → ((which : W) → IsLast noted (touches which) (old which)) → (which : W) → IsLast now (touches which) (new which)
raised_last on old new noted now action time level touches more raised e to back each which = elim (raised which) [
  | inl up ↦ last_with noted now action time (touches which) (old which) (new which) more (each which) (to which up.0) (up.1 ∙ ap (λ (l : ℕ). max (old which) l) e)
  | inr same ↦ subst (IsLast now (touches which)) (sym same.1) (last_past noted now action time (touches which) (old which) more (each which) (λ it. same.0 (back which it)))
]

-- more matters where the levels are raised to its own
pub lifted_last : {W : Type 0} (on : W → Type 0) (old new : W → ℕ) (noted : Action → ℕ → Type 0) (level : ℕ) (touches now : W → Action → Type 0) (added : Action → Type 0) → AreRaised on old new level → IsLast noted added level
    → ((which : W) → on which → (action : Action) (time : ℕ) → noted action time → touches which action ⊎ added action → now which action)
    → ((which : W) → on which → (action : Action) (time : ℕ) → noted action time → now which action → touches which action ⊎ added action)
    → ((which : W) → (on which → ⊥) → (action : Action) (time : ℕ) → noted action time → touches which action → now which action)
    → ((which : W) → (on which → ⊥) → (action : Action) (time : ℕ) → noted action time → now which action → touches which action)
    → ((which : W) → IsLast noted (touches which) (old which)) → (which : W) → IsLast noted (now which) (new which)
lifted_last on old new noted level touches now added raised its on_to on_back off_to off_back each which = elim (raised which) [
  | inl up ↦ last_same noted (λ (action : Action). touches which action ⊎ added action) (now which) (new which)
      (last_either noted (touches which) added (old which) level (new which) (each which) its up.1) (on_to which up.0) (on_back which up.0)
  | inr same ↦ subst (IsLast noted (now which)) (sym same.1) (last_same noted (touches which) (now which) (old which) (each which) (off_to which same.0) (off_back which same.0))
]
