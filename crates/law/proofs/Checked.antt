-- Plan finds no fault exactly in a sound game, and otherwise its first.
use Rattle.std.proofs.Common.{◌≡◌, ℕ, ◌<◌, ◌≤◌, Bool, true, false, cond, not, ◌&&◌, ◌||◌, eqb, ltb, ◌⊎◌, Some, None, Option, sym, refl, ap, ◌∙◌, subst, inl, inr, ⊎_elim, arith}
use Rattle.std.proofs.lemmas.Bool.{cases_Bool, cases_lt, cond-false, and_cases, and_parts, and_left, and_right, or_cases, or_parts, or_from, not-true, not-false, not_from_true, both_ways, eqb-true, eqb-false, ltb-true, ltb-false, ne_eqb, le-ltb}
use Rattle.game.specs.Meaning.{Meaning, Lawful, feasible, Step}
use Rattle.game.specs.Search.{some_below, first_below, first_of}
use Rattle.law.specs.declared.Fault.{Fault}
use Rattle.law.specs.declared.Fault.TheVariants.{Size, NoStart, Stuck, KeepsTurn, PublicStart}
use Rattle.law.specs.Checks.{keeps, keeps_turn, label_fault, state_fault, first_fault, StateSound, Sound, FirstAt, FaultIs}
use Rattle.game.proofs.Searches.{some_decides, none_some, first_none, first_is, first_all, first_of_none, first_of_all, first_of_is}
use Rattle.game.proofs.Meanings.{start_inside, step_inside, label_low, step_feasible, feasible_step}

some_same : {A : Type 0} (x y : A) → ◌≡◌ {A = Option A} (Some x) (Some y) → x ≡ y
some_same x y e = cc

none_cond : {A : Type 0} (c : Bool) (x : A) (o : Option A) → cond c (Some x) o ≡ None → (c ≡ false) × (o ≡ None)
none_cond true x o e = absurd (none_some e refl)
none_cond false x o e = (refl, e)

cond_none : {A : Type 0} (c : Bool) (x : A) (o : Option A) → c ≡ false → o ≡ None → cond c (Some x) o ≡ None
cond_none c x o e f = cond-false c (Some x) o e ∙ f

some_cond : {A : Type 0} (c : Bool) (x : A) (o : Option A) (y : A) → cond c (Some x) o ≡ Some y → ((c ≡ true) × (x ≡ y)) ⊎ ((c ≡ false) × (o ≡ Some y))
some_cond true x o y e = inl (refl, some_same x y e)
some_cond false x o y e = inr (refl, e)

no_label : (s : ℕ) (o : Option ℕ) → label_fault s o ≡ None → o ≡ None
no_label s None e = refl
no_label s (Some l) e = absurd (none_some e refl)

keeps_no : (a c : Bool) → cond a c (not c) ≡ false → c ≡ not a
keeps_no true c e = e
keeps_no false true e = refl
keeps_no false false e = absurd (both_ways true e refl)

keeps_yes : (a c : Bool) → cond a c (not c) ≡ true → c ≡ a
keeps_yes true c e = e
keeps_yes false true e = sym e
keeps_yes false false e = refl

no_keeps : (a c : Bool) → c ≡ not a → cond a c (not c) ≡ false
no_keeps true c e = e
no_keeps false true e = refl
no_keeps false false e = absurd (both_ways false refl e)

module _ (m : Meaning) (ok : Lawful m) where
  sized : (eqb m.size 0 || ltb 4096 m.size) ≡ false → (0 < m.size) × (m.size ≤ 4096)
  sized e =
      let both = or_parts (eqb m.size 0) _ e in
      (⊎_elim (λ lt. lt) (λ ge. absurd (eqb-false m.size 0 both.0 (omega arith))) (cases_lt 0 m.size), ltb-false 4096 m.size both.1)

  started : not (some_below m.start m.size) ≡ false → (s : ℕ) × (m.start s ≡ true)
  started e = let any = (some_decides m.start m.size).0 (not-false _ e) in (any.0, any.2)

  -- the tests that find a state's fault
  abbrev public_start : ℕ → Bool
  public_start s = m.start s && m.public s

  abbrev stuck : ℕ → Bool
  stuck s = not (m.end s) && not (some_below (feasible m s) m.ceiling)

  start_kiosk : (s : ℕ) → public_start s ≡ false → m.start s ≡ true → m.public s ≡ false
  start_kiosk s e st = ⊎_elim (λ no'. absurd (both_ways _ no' st)) (λ no'. no') (and_cases (m.start s) (m.public s) e)

  not_stuck : (s : ℕ) → stuck s ≡ false → m.end s ≡ false → (l : ℕ) × (t : ℕ) × Step m s l t
  not_stuck s e ne =
      let has = not-false _ (⊎_elim (λ no'. absurd (both_ways _ ne (not-false _ no'))) (λ no'. no') (and_cases (not (m.end s)) _ e)) in
      let l = (some_decides (feasible m s) m.ceiling).0 has in
      let to = feasible_step m ok s l.0 l.2 in
      (l.0, to.0, to.1)

  alternates : (s l t : ℕ) → keeps_turn m s l ≡ false → Step m s l t → m.public t ≡ not (m.public s)
  alternates s l t e st =
      ⊎_elim
      (λ nf. absurd (both_ways _ nf (step_feasible m ok s l t st)))
      (λ nk. keeps_no (m.public s) (m.public t) (ap (keeps m s) (sym st.1) ∙ nk))
      (and_cases (feasible m s l) (keeps m s (m.next s l)) e)

  state_sound : (s : ℕ) → state_fault m s ≡ None → StateSound m s
  state_sound s e =
      let one = none_cond (public_start s) _ _ e in
      let two = none_cond (stuck s) _ _ one.1 in
      record {
        kiosk_start = start_kiosk s one.0;
        has_move = not_stuck s two.0;
        turn_alternates = λ l t st. alternates s l t (first_none (keeps_turn m s) m.ceiling (no_label s _ two.1) l (label_low m ok s l t st.1)) st;
      }

  sound_state : (s : ℕ) → StateSound m s → state_fault m s ≡ None
  sound_state s h =
      cond_none (public_start s) _ _
      (⊎_elim (λ st. and_right (m.start s) (m.public s) (h.kiosk_start st)) (λ ns. and_left (m.start s) (m.public s) ns) (cases_Bool (m.start s)))
      (cond_none (stuck s) _ _
      (⊎_elim (λ en. and_left (not (m.end s)) _ (not_from_true _ en))
      (λ ne. let go = h.has_move ne in and_right (not (m.end s)) _ (not_from_true _ ((some_decides (feasible m s) m.ceiling).1 (go.0, label_low m ok s go.0 go.1 go.2.1, step_feasible m ok s go.0 go.1 go.2))))
      (cases_Bool (m.end s)))
      (ap (label_fault s) (first_all (keeps_turn m s) m.ceiling (λ l low'. ⊎_elim
      (λ f. let to = feasible_step m ok s l f in and_right (feasible m s l) _ (ap (keeps m s) to.1.1 ∙ no_keeps (m.public s) (m.public to.0) (h.turn_alternates l to.0 to.1)))
      (λ nf. and_left (feasible m s l) _ nf)
      (cases_Bool (feasible m s l))))))

  pub no_fault_sound : first_fault m ≡ None → Sound m
  unfolding first_fault
  no_fault_sound e =
      let one = none_cond (eqb m.size 0 || ltb 4096 m.size) _ _ e in
      let two = none_cond (not (some_below m.start m.size)) _ _ one.1 in
      let sizes = sized one.0 in
      let sound : (s : ℕ) → s < m.size → StateSound m s = λ s lt. state_sound s (first_of_none (state_fault m) m.size two.1 s lt) in
      record {
        some_state = sizes.0;
        few_states = sizes.1;
        some_start = started two.0;
        kiosk_starts = λ s st. (sound s (start_inside m ok s st)).kiosk_start st;
        has_moves = λ s lt. (sound s lt).has_move;
        turns_alternate = λ s l t st. (sound s (step_inside m ok s l t st)).turn_alternates l t st;
      }

  pub sound_no_fault : Sound m → first_fault m ≡ None
  unfolding first_fault
  sound_no_fault h =
      cond_none (eqb m.size 0 || ltb 4096 m.size) _ _
      (or_from _ _ (ne_eqb m.size 0 (λ z. omega (arith, h.some_state))) (le-ltb 4096 m.size h.few_states))
      (cond_none (not (some_below m.start m.size)) _ _
      (not_from_true _ ((some_decides m.start m.size).1 (h.some_start.0, start_inside m ok _ h.some_start.1, h.some_start.1)))
      (first_of_all (state_fault m) m.size (λ s lt. sound_state s (record { kiosk_start = h.kiosk_starts s; has_move = h.has_moves s lt; turn_alternates = h.turns_alternate s }))))

  -- the fault of a state, the first that has one
  state_fault_is : (s : ℕ) (f : Fault) → FirstAt m s → state_fault m s ≡ Some f → FaultIs m f
  state_fault_is s f here e = ⊎_elim public_fault (λ h. ⊎_elim (stuck_fault h.0) (λ g. turn_fault h.0 (first_below (keeps_turn m s) m.ceiling) refl g.1) (some_cond (stuck s) _ _ f h.1)) (some_cond (public_start s) _ _ f e)
    where
      public_fault : (public_start s ≡ true) × (PublicStart s ≡ f) → FaultIs m f
      public_fault h = let both = and_parts (m.start s) (m.public s) h.0 in subst (FaultIs m) h.1 (here, both.0, both.1)

      stuck_fault : public_start s ≡ false → (stuck s ≡ true) × (Stuck s ≡ f) → FaultIs m f
      stuck_fault kiosk h =
          let both = and_parts (not (m.end s)) _ h.0 in
          subst (FaultIs m) h.1 (
            here,
            start_kiosk s kiosk,
            not-true _ both.0,
            λ l t st.
                both_ways _ (not-true _ both.1) ((some_decides (feasible m s) m.ceiling).1 (l, label_low m ok s l t st.1, step_feasible m ok s l t st)),
          )

      turn_fault : public_start s ≡ false → (o : Option ℕ) → first_below (keeps_turn m s) m.ceiling ≡ o → label_fault s o ≡ Some f → FaultIs m f
      turn_fault kiosk None found g = absurd (none_some refl g)
      turn_fault kiosk (Some l) found g =
          let low = first_is (keeps_turn m s) m.ceiling l found in
          let both = and_parts (feasible m s l) _ low.passes in
          let to = feasible_step m ok s l both.0 in
          let same : KeepsTurn s l ≡ f = some_same _ _ g in
          subst (FaultIs m) same (here, start_kiosk s kiosk, (to.0, to.1, keeps_yes (m.public s) (m.public to.0) (sym (ap (keeps m s) to.1.1) ∙ both.1)), λ l' t lt st. alternates s l' t (low.lowest l' lt) st)

  pub fault_is : (f : Fault) → first_fault m ≡ Some f → FaultIs m f
  unfolding first_fault
  fault_is f e = ⊎_elim size_fault (λ one. ⊎_elim (start_fault one.0) (λ two. state_by_state one.0 two.0 two.1) (some_cond (not (some_below m.start m.size)) _ _ f one.1)) (some_cond (eqb m.size 0 || ltb 4096 m.size) _ _ f e)
    where
      size_fault : ((eqb m.size 0 || ltb 4096 m.size) ≡ true) × (Size ≡ f) → FaultIs m f
      size_fault h = subst (FaultIs m) h.1 (⊎_elim (λ z. inl (eqb-true m.size 0 z)) (λ big. inr (ltb-true 4096 m.size big)) (or_cases (eqb m.size 0) _ h.0))

      start_fault : (eqb m.size 0 || ltb 4096 m.size) ≡ false → (not (some_below m.start m.size) ≡ true) × (NoStart ≡ f) → FaultIs m f
      start_fault fine h =
          let sizes = sized fine in
          subst (FaultIs m) h.1 (
            sizes.0,
            sizes.1,
            λ s. ⊎_elim
                (λ st. absurd (both_ways _ (not-true _ h.0) ((some_decides m.start m.size).1 (s, start_inside m ok s st, st))))
                (λ ns. ns)
                (cases_Bool (m.start s)),
          )

      state_by_state : (eqb m.size 0 || ltb 4096 m.size) ≡ false → not (some_below m.start m.size) ≡ false → first_of (state_fault m) m.size ≡ Some f → FaultIs m f
      state_by_state fine begun e =
          let at = first_of_is (state_fault m) m.size f e in
          state_fault_is at.0 f (record { few_states = (sized fine).1; some_start = started begun; state = at.1; lower = λ j lt. state_sound j (at.3 j lt) }) at.2
