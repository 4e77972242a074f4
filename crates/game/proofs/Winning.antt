-- No strategy does better than the ranks, and the choices do as well.
use Rattle.std.proofs.Common.{◌≡◌, ℕ, zero, suc, ◌+◌, ◌<◌, ◌≤◌, Bool, true, false, not, ◌&&◌, List, [], ◌∷◌, length, is_some, Some, None, Option, sym, refl, ap, ◌∙◌, inl, inr, ⊎_elim, arith}
use Rattle.std.proofs.lemmas.Bool.{cases_Bool, cond-true, cond-false, and_parts, and_from, both_ways, not-true, not_from_false, or_left, or_right, or_cases}
use Rattle.game.specs.Meaning.{Meaning, Lawful, done, Step}
use Rattle.game.specs.Ranks.{Bars, leads_to, lowest_label, within, rank, is, choice, choice_at, witness, LowestOfBest}
use Rattle.game.specs.Strategies.{Move, at, Play, Strategy, Follows, Stops, WinsWithin, opening}
use Rattle.game.specs.Final.{Unblocked, TakesWitness, Final, NoneEndless}
use Rattle.game.proofs.Meanings.{label_low}
use Rattle.game.proofs.Searches.{is_eq, eq_is, reaches_from, reaches_to, none_some, same_some, option_cases, first_is, first_none, first_some, first_same}
use Rattle.game.proofs.Layers.{l_kiosk, l_public, within_to, within_done, ranked, rank_within}
use Rattle.game.proofs.Rules.{only_solution, not_done, goes_on, kiosk_best, kiosk_to, public_worst, public_to, zero_done, done_zero}

module _ (m : Meaning) (ok : Lawful m) (b : Bars) where
  pub follows_play : (w : Strategy m b) (s : ℕ) (h : List Move) → Follows m b w s h → Play m s h
  follows_play w s [] f = tt
  follows_play w s (x ∷ h) f = (follows_play w s h f.0, f.1)

  kiosk_done : (s : ℕ) → m.goal s ≡ true → m.public s ≡ false → done m s ≡ true
  kiosk_done s g kio = and_from _ _ g (or_left _ _ (not_from_false _ kio))

  end_done : (s : ℕ) → m.goal s ≡ true → m.end s ≡ true → done m s ≡ true
  end_done s g en = and_from _ _ g (or_right (not (m.public s)) _ en)

  pub done_goal : (s : ℕ) → done m s ≡ true → m.goal s ≡ true
  done_goal s d = (and_parts _ _ d).0

  -- a play that stops at a goal stops where it is done
  pub stop_done : (w : Strategy m b) (s : ℕ) (h : List Move) → Stops m b w s h → m.goal (at s h) ≡ true → done m (at s h) ≡ true
  stop_done w s h (inl en) g = end_done _ g en
  stop_done w s h (inr r) g = kiosk_done _ g r.0

  -- what stands after a play that follows a winning strategy
  data Turn (w : Strategy m b) (s : ℕ) (h : List Move) : Type 0 where
    t_done : done m (at s h) ≡ true → Turn w s h
    t_kiosk : m.public (at s h) ≡ false → (l t : ℕ) → w.names s h ≡ Some l → b l ≡ false → Step m (at s h) l t → Turn w s h
    t_public : m.public (at s h) ≡ true → (l t : ℕ) → Step m (at s h) l t → Turn w s h

  module _ (unblocked : Unblocked m) (w : Strategy m b) (n s : ℕ) (win : WinsWithin m b w n s) where
    turn : (h : List Move) → Follows m b w s h → Turn w s h
    turn h f =
        ⊎_elim
        (λ en. t_done (end_done _ (win.at_goal h f (inl en)) en))
        (λ ne. ⊎_elim
        (λ pub'. let go = unblocked (at s h) pub' ne in t_public pub' go.0 go.1 go.2)
        (λ kio. ⊎_elim
        (λ rests. t_done (kiosk_done _ (win.at_goal h f (inr (kio, rests))) kio))
        (λ told. let can' = w.legal s h told.0 (follows_play w s h f) kio told.1 in t_kiosk kio told.0 can'.1.0 told.1 can'.0 can'.1.1)
        (option_cases (w.names s h)))
        (cases_Bool (m.public (at s h))))
        (cases_Bool (m.end (at s h)))

    -- after the play h, what is left of n bounds the rank
    bounded : (k : ℕ) (h : List Move) → Follows m b w s h → n ≤ length h + k → within m b k (at s h) ≡ true
    bounded zero h f le = go (turn h f)
      where
        go : Turn w s h → within m b 0 (at s h) ≡ true
        go (t_done d) = within_done m ok b 0 (at s h) d
        go (t_kiosk kio l t told free st) = absurd (omega (arith, win.short (record { label = l; to = t } ∷ h) (f, st, λ _. told)))
        go (t_public pub' l t st) = absurd (omega (arith, win.short (record { label = l; to = t } ∷ h) (f, st, λ kio. absurd (both_ways _ kio pub'))))
    bounded (suc k) h f le = go (bounded k) (turn h f)
      where
        go : ((h : List Move) → Follows m b w s h → n ≤ length h + k → within m b k (at s h) ≡ true) → Turn w s h → within m b (suc k) (at s h) ≡ true
        go ih (t_done d) = within_done m ok b (suc k) (at s h) d
        go ih (t_kiosk kio l t told free st) =
            within_to m ok b k (at s h) (l_kiosk kio l t free st (ih (record { label = l; to = t } ∷ h) (f, st, λ _. told) (omega arith)))
        go ih (t_public pub' l t st) =
            within_to m ok b k (at s h) (l_public pub' l t st (λ l t st. ih (record { label = l; to = t } ∷ h) (f, st, λ kio. absurd (both_ways _ kio pub')) (omega arith)))

    -- NO STRATEGY DOES BETTER: a state from which one wins within n has a rank, of n at most
    pub no_strategy_better : (r : ℕ) × (rank m b s ≡ Some r) × (r ≤ n)
    no_strategy_better = ranked m ok b n s (bounded n [] tt (omega arith))

  pub record Chosen (s l : ℕ) : Type 0 where
    pub rest : ℕ
    pub to : ℕ
    pub from : rank m b s ≡ Some (suc rest)
    pub free : b l ≡ false
    pub step : Step m s l to
    pub rank_to : rank m b to ≡ Some rest

  choice_kiosk : (s l : ℕ) → choice m b s ≡ Some l → (m.public s ≡ false) × (choice_at m b s (rank m b s) ≡ Some l)
  unfolding choice
  choice_kiosk s l e =
      ⊎_elim
      (λ pub'. absurd (none_some (cond-true (m.public s) None (choice_at m b s (rank m b s)) pub') e))
      (λ kio. (kio, sym (cond-false (m.public s) None (choice_at m b s (rank m b s)) kio) ∙ e))
      (cases_Bool (m.public s))

  kiosk_choice : (s : ℕ) → m.public s ≡ false → choice m b s ≡ choice_at m b s (rank m b s)
  unfolding choice
  kiosk_choice s kio = cond-false (m.public s) None (choice_at m b s (rank m b s)) kio

  pub public_choice : (s : ℕ) → m.public s ≡ true → choice m b s ≡ None
  unfolding choice
  public_choice s pub' = cond-true (m.public s) None (choice_at m b s (rank m b s)) pub'

  pub choice_is : (s l : ℕ) → choice m b s ≡ Some l → Chosen s l
  choice_is s l e = go (rank m b s) refl (choice_kiosk s l e).1
    where
      go : (o : Option ℕ) → rank m b s ≡ o → choice_at m b s o ≡ Some l → Chosen s l
      go None eo e = absurd (none_some refl e)
      go (Some zero) eo e = absurd (none_some refl e)
      go (Some (suc q)) eo e =
          let found = first_is (λ l. not (b l) && leads_to (m.next s l) (λ t. is (rank m b t) q)) m.ceiling l e in
          let both = and_parts _ _ found.passes in
          let to = reaches_to (m.next s l) (λ t. is (rank m b t) q) both.1 in
          record { rest = q; to = to.0; from = eo; free = not-true _ both.0; step = (goes_on m ok b s q eo, to.1); rank_to = is_eq (rank m b to.0) q to.2 }

  -- the choice is the lowest unbarred label into the layer below
  pub choice_layer : (s q : ℕ) → m.public s ≡ false → rank m b s ≡ Some (suc q) → choice m b s ≡ lowest_label m b (within m b q) s
  choice_layer s q kio e =
      kiosk_choice s kio ∙ ap (choice_at m b s) e ∙ first_same _ _ m.ceiling (λ l lt. each l (b l) refl (m.next s l) refl)
    where
      nd : done m s ≡ false
      nd = ⊎_elim (λ d. absurd (not_done m ok b s q e d)) (λ f. f) (cases_Bool (done m s))

      same : (l t : ℕ) → b l ≡ false → m.next s l ≡ Some t → is (rank m b t) q ≡ within m b q t
      same l t free to =
          ⊎_elim
          (λ w.
          let got = ranked m ok b q t w in
          let (q', eq, best, fair) = kiosk_best m ok b s (suc q) nd kio e in
          let le : q' ≤ got.0 = fair l t got.0 free (goes_on m ok b s q e, to) got.1 in
          let is' : got.0 ≡ q = omega (arith, got.2) in
          eq_is (rank m b t) q (got.1 ∙ ap Some is') ∙ sym w)
          (λ nw. ⊎_elim (λ yes'. absurd (both_ways _ nw (rank_within m ok b t q (is_eq (rank m b t) q yes')))) (λ no'. no' ∙ sym nw) (cases_Bool (is (rank m b t) q)))
          (cases_Bool (within m b q t))

      each : (l : ℕ) (x : Bool) → b l ≡ x → (o : Option ℕ) → m.next s l ≡ o → (not x && leads_to o (λ t. is (rank m b t) q)) ≡ (not x && leads_to o (within m b q))
      each l true eb o eo = refl
      each l false eb None eo = refl
      each l false eb (Some t) eo = same l t eb eo

  -- THE CHOICE is the lowest of the best labels
  pub choice_lowest : (s l : ℕ) → choice m b s ≡ Some l → LowestOfBest m b s l
  choice_lowest s l e = go (rank m b s) refl (choice_kiosk s l e).1
    where
      kio : m.public s ≡ false
      kio = (choice_kiosk s l e).0

      go : (o : Option ℕ) → rank m b s ≡ o → choice_at m b s o ≡ Some l → LowestOfBest m b s l
      go None eo e = absurd (none_some refl e)
      go (Some zero) eo e = absurd (none_some refl e)
      go (Some (suc q)) eo e =
          let found = first_is (λ l. not (b l) && leads_to (m.next s l) (λ t. is (rank m b t) q)) m.ceiling l e in
          let both = and_parts _ _ found.passes in
          let to' = reaches_to (m.next s l) (λ t. is (rank m b t) q) both.1 in
          record {
            free = not-true _ both.0;
            to = to'.0;
            step = (goes_on m ok b s q eo, to'.1);
            cost = q;
            reached = is_eq (rank m b to'.0) q to'.2;
            least = λ l' t' r' free' st' er. let up = kiosk_to m ok b s l' t' r' kio free' st' er in omega (arith, same_some up.1 eo, up.2);
            lowest = λ l' t' lt free' st' er. both_ways _ (found.lowest l' lt) (and_from _ _ (not_from_false _ free') (reaches_from (m.next s l') (λ t. is (rank m b t) q) t' st'.1 (eq_is (rank m b t') q er)));
          }

  -- a ranked kiosk state that is not done has a choice
  pub choice_has : (s r : ℕ) → done m s ≡ false → m.public s ≡ false → rank m b s ≡ Some r → (l : ℕ) × (choice m b s ≡ Some l)
  choice_has s r nd kio e =
      let (q, same, best, fair) = kiosk_best m ok b s r nd kio e in
      let found = first_some (λ l. not (b l) && leads_to (m.next s l) (λ t. is (rank m b t) q)) m.ceiling best.0 (label_low m ok s best.0 best.1 best.3.1)
      (and_from _ _ (not_from_false _ best.2) (reaches_from (m.next s best.0) (λ t. is (rank m b t) q) best.1 best.3.1 (eq_is (rank m b best.1) q best.4))) in
      (found.0, kiosk_choice s kio ∙ ap (choice_at m b s) (e ∙ ap Some same) ∙ found.1)

  pub choice_done : (s r : ℕ) → m.public s ≡ false → rank m b s ≡ Some r → choice m b s ≡ None → done m s ≡ true
  choice_done s r kio e no' = ⊎_elim (λ d. d) (λ nd. absurd (none_some no' (choice_has s r nd kio e).1)) (cases_Bool (done m s))

  -- the strategy that plays the choices
  unfoldable pub choices : Strategy m b
  choices = record {
    names = λ s h. choice m b (at s h);
    legal = λ s h l play kio e. let c = choice_is (at s h) l e in (c.free, (c.to, c.step));
  }

  -- every public move from a ranked state goes down
  pub public_down : (s r l t : ℕ) → m.public s ≡ true → rank m b s ≡ Some r → Step m s l t → (p : ℕ) × (rank m b t ≡ Some p) × (p < r)
  public_down s r l t pub' e st =
      let open' : done m s ≡ false = ⊎_elim (λ d. absurd (⊎_elim (λ np. both_ways _ (not-true _ np) pub') (λ en. both_ways _ st.0 en) (or_cases (not (m.public s)) _ (and_parts _ _ d).1))) (λ nd. nd) (cases_Bool (done m s)) in
      let (q, same, worst, all) = public_worst m ok b s r open' pub' e in
      let top = all l t st in
      (top.0, top.1, omega (arith, top.2))

  pub choice_down : (s r l t : ℕ) → rank m b s ≡ Some r → choice m b s ≡ Some l → Step m s l t → (p : ℕ) × (rank m b t ≡ Some p) × (p < r)
  choice_down s r l t e c st =
      let is' = choice_is s l c in
      (is'.rest, ap (rank m b) (same_some st.1 is'.step.1) ∙ is'.rank_to, omega (arith, same_some e is'.from))

  goes_down : (s r : ℕ) → rank m b s ≡ Some r → (h : List Move) → Follows m b choices s h → (q : ℕ) × (rank m b (at s h) ≡ Some q) × (q + length h ≤ r)
  unfolding choices
  goes_down s r e [] f = (r, e, omega arith)
  goes_down s r e (x ∷ h) f =
      let (q, eq, le) = goes_down s r e h f.0 in
      let down : (p : ℕ) × (rank m b x.to ≡ Some p) × (p < q) =
      ⊎_elim (λ pub'. public_down (at s h) q x.label x.to pub' eq f.1) (λ kio. choice_down (at s h) q x.label x.to eq (f.2 kio) f.1) (cases_Bool (m.public (at s h))) in
      (down.0, down.1, omega (arith, down.2))

  -- THE CHOICES WIN within the rank
  pub choices_win : (s r : ℕ) → rank m b s ≡ Some r → WinsWithin m b choices r s
  unfolding choices
  choices_win s r e = record {
    short = λ h f. omega (arith, (goes_down s r e h f).2);
    at_goal = λ h f stop. done_goal (at s h) (stop_is h (goes_down s r e h f).0 (goes_down s r e h f).1 stop);
  }
    where
      ended : (s q : ℕ) → rank m b s ≡ Some q → m.end s ≡ true → done m s ≡ true
      ended s zero e en = zero_done m ok b s e
      ended s (suc q) e en = absurd (both_ways _ (goes_on m ok b s q e) en)

      stop_is : (h : List Move) (q : ℕ) → rank m b (at s h) ≡ Some q → Stops m b choices s h → done m (at s h) ≡ true
      stop_is h q e (inl en) = ended (at s h) q e en
      stop_is h q e (inr rests) = choice_done (at s h) q rests.0 e rests.1

  -- Witnesses
  pub witness_is : (s l : ℕ) → m.end s ≡ false → witness m b s ≡ Some l → (t : ℕ) × (Step m s l t) × (rank m b t ≡ None)
  unfolding witness
  witness_is s l ne e =
      let found = first_is (λ l. leads_to (m.next s l) (λ t. not (is_some (rank m b t)))) m.ceiling l e in
      let to = reaches_to (m.next s l) (λ t. not (is_some (rank m b t))) found.passes in
      (to.0, (ne, to.1), no_rank (rank m b to.0) to.2)
    where
      no_rank : (o : Option ℕ) → not (is_some o) ≡ true → o ≡ None
      no_rank None e = refl
      no_rank (Some r) e = absurd (both_ways false refl e)

  pub witness_has : Unblocked m → (s : ℕ) → m.public s ≡ true → m.end s ≡ false → rank m b s ≡ None → (l : ℕ) × (witness m b s ≡ Some l)
  unfolding witness
  witness_has unblocked s pub' ne un =
      ⊎_elim
      (λ none.
      let one = unblocked s pub' ne in
      absurd (both_ways _ (ap is_some un) (public_to m ok b s one.0 one.1 pub' one.2
      (λ l t st. ranked_if (rank m b t) (ap (λ o. leads_to o (λ t. not (is_some (rank m b t)))) (sym st.1) ∙ first_none (λ l. leads_to (m.next s l) (λ t. not (is_some (rank m b t)))) m.ceiling none l (label_low m ok s l t st.1))))))
      (λ some. some)
      (option_cases (witness m b s))
    where
      ranked_if : (o : Option ℕ) → not (is_some o) ≡ false → is_some o ≡ true
      ranked_if None e = absurd (both_ways true e refl)
      ranked_if (Some r) e = refl

  lost : (w : Strategy m b) (s : ℕ) → rank m b s ≡ None → (h : List Move) → Follows m b w s h → TakesWitness m b s h → rank m b (at s h) ≡ None
  lost w s un [] f sp = un
  lost w s un (x ∷ h) f sp =
      let ih = lost w s un h f.0 sp.0 in
      ⊎_elim
      (λ pub'.
      let sl = witness_is (at s h) x.label f.1.0 (sp.1 pub' f.1.0 ih) in
      ap (rank m b) (same_some f.1.1 sl.1.1) ∙ sl.2)
      (λ kio.
      let can' = w.legal s h x.label (follows_play w s h f.0) kio (f.2 kio) in
      ⊎_elim (λ e. e)
      (λ some. absurd (none_some ih (kiosk_to m ok b (at s h) x.label x.to some.0 kio can'.0 f.1 some.1).1))
      (option_cases (rank m b x.to)))
      (cases_Bool (m.public (at s h)))

  pub witness_wins : (w : Strategy m b) (s : ℕ) → rank m b s ≡ None → (h : List Move) → Follows m b w s h → TakesWitness m b s h → Stops m b w s h → m.goal (at s h) ≡ false
  witness_wins w s un h f sp stop =
      ⊎_elim
      (λ g. absurd (none_some (lost w s un h f sp) (done_zero m ok b (at s h) (stop_done w s h stop g))))
      (λ ng. ng)
      (cases_Bool (m.goal (at s h)))

-- a strategy that wins within some number leaves no endless play that follows it
opening_long : (f : ℕ → Move) (n : ℕ) → length (opening f n) ≡ n
opening_long f zero = refl
opening_long f (suc n) = ap suc (opening_long f n)

pub no_endless : {m : Meaning} {b : Bars} {w : Strategy m b} {k s : ℕ} → WinsWithin m b w k s → (f : ℕ → Move) → ((n : ℕ) → Follows m b w s (opening f n)) → ⊥
no_endless {k = k} win f follows = omega (arith, win.short (opening f (suc k)) (follows (suc k)), opening_long f (suc k))

pub none_endless : (m : Meaning) (b : Bars) → NoneEndless m b
none_endless m b w k s win = no_endless win

pub final : (m : Meaning) → Lawful m → Unblocked m → (b : Bars) → Final m b
unfolding choices
final m ok unblocked b = record {
  only_solution = only_solution m ok b;
  has_choice = λ s r nd kio e. choice_has m ok b s r nd kio e;
  lowest_choice = choice_lowest m ok b;
  choices_win = (choices m ok b, λ s h. refl, choices_win m ok b);
  none_better = λ w k s win. no_strategy_better m ok b unblocked w k s win;
  has_witness = λ s pub' ne un. let l = witness_has m ok b unblocked s pub' ne un in (l.0, l.1, witness_is m ok b s l.0 ne l.1);
  lost_for_good = witness_wins m ok b;
}
