-- The ranks meet the rules, and nothing else does.
use Rattle.std.proofs.Common.{◌≡◌, ℕ, zero, suc, ◌<◌, ◌≤◌, Bool, true, false, ◌⊎◌, is_some as option_is_some, Some, None, Option, sym, refl, ap, ◌∙◌, inl, inr, ⊎_elim, arith}
use Rattle.std.proofs.lemmas.Bool.{cases_Bool, cases_lt, cases_eq, both_ways}
use Rattle.game.specs.Meaning.{Meaning, Lawful, done, Step}
use Rattle.game.specs.Search.{some_below}
use Rattle.game.specs.Ranks.{Bars, leads_to, within, rank, is, Rules, OnlySolution}
use Rattle.game.proofs.Meanings.{label_low}
use Rattle.game.proofs.Searches.{some_is, is_some, is_eq, eq_is, reaches_from, reaches_to, some_decides, none_some, same_some, option_cases}
use Rattle.game.proofs.Layers.{Layer, l_done, l_kiosk, l_public, within_of, within_to, within_done, done_within, within_more, ranked, rank_is, rank_within}

module _ (m : Meaning) (ok : Lawful m) (b : Bars) where
  pub within_le : (k j s : ℕ) → k ≤ j → within m b k s ≡ true → within m b j s ≡ true
  within_le k zero s h e = let z : k ≡ 0 = omega arith in ap (λ n. within m b n s) (sym z) ∙ e
  within_le k (suc j) s h e =
      ⊎_elim
      (λ lt. within_more m ok b j s (within_le k j s (omega arith) e))
      (λ ge. let z : suc j ≡ k = omega arith in ap (λ n. within m b n s) z ∙ e)
      (cases_lt k (suc j))

  -- a rank is at most what any layer gives
  pub least : (s r k : ℕ) → rank m b s ≡ Some r → within m b k s ≡ true → r ≤ k
  least s r k e w = let got = ranked m ok b k s w in omega (arith, same_some got.1 e, got.2)

  pub zero_done : (s : ℕ) → rank m b s ≡ Some 0 → done m s ≡ true
  zero_done s e = done_within m ok b s (rank_within m ok b s 0 e)

  pub done_zero : (s : ℕ) → done m s ≡ true → rank m b s ≡ Some 0
  done_zero s d = let got = ranked m ok b 0 s (within_done m ok b 0 s d) in let z : got.0 ≡ 0 = omega (arith, got.2) in got.1 ∙ ap Some z

  -- a rank above 0 comes from the layer below
  pub above : (s q : ℕ) → rank m b s ≡ Some (suc q) → Layer m b (within m b q) s
  above s q e = within_of m ok b q s (rank_within m ok b s (suc q) e)

  pub not_done : (s q : ℕ) → rank m b s ≡ Some (suc q) → done m s ≡ true → ⊥
  not_done s q e d = let z : suc q ≡ 0 = same_some e (done_zero s d) in omega arith

  pub goes_on : (s q : ℕ) → rank m b s ≡ Some (suc q) → m.end s ≡ false
  goes_on s q e = go (above s q e)
    where
      go : Layer m b (within m b q) s → m.end s ≡ false
      go (l_done d) = absurd (not_done s q e d)
      go (l_kiosk kio l t free st w) = st.0
      go (l_public pub' l t st each) = st.0

  pub kiosk_to : (s l t q : ℕ) → m.public s ≡ false → b l ≡ false → Step m s l t → rank m b t ≡ Some q → (r : ℕ) × (rank m b s ≡ Some r) × (r ≤ suc q)
  kiosk_to s l t q kio free st e = ranked m ok b (suc q) s (within_to m ok b q s (l_kiosk kio l t free st (rank_within m ok b t q e)))

  pub kiosk_best : (s r : ℕ) → done m s ≡ false → m.public s ≡ false → rank m b s ≡ Some r → (q : ℕ) × (r ≡ suc q) × ((l : ℕ) × (t : ℕ) × (b l ≡ false) × (Step m s l t) × (rank m b t ≡ Some q)) × ((l t p : ℕ) → b l ≡ false → Step m s l t → rank m b t ≡ Some p → q ≤ p)
  kiosk_best s zero nd kio e = absurd (both_ways _ nd (zero_done s e))
  kiosk_best s (suc q) nd kio e = go (above s q e)
    where
      fair : (l t p : ℕ) → b l ≡ false → Step m s l t → rank m b t ≡ Some p → q ≤ p
      fair l t p free st f = let got = kiosk_to s l t p kio free st f in omega (arith, same_some got.1 e, got.2)

      go : Layer m b (within m b q) s → (q' : ℕ) × (suc q ≡ suc q') × ((l : ℕ) × (t : ℕ) × (b l ≡ false) × (Step m s l t) × (rank m b t ≡ Some q')) × ((l t p : ℕ) → b l ≡ false → Step m s l t → rank m b t ≡ Some p → q' ≤ p)
      go (l_done d) = absurd (both_ways _ nd d)
      go (l_public pub' l t st each) = absurd (both_ways _ kio pub')
      go (l_kiosk kio' l t free st w) =
          let got = ranked m ok b q t w in
          let same : got.0 ≡ q = omega (arith, fair l t got.0 free st got.1, got.2) in
          (q, refl, (l, t, free, st, got.1 ∙ ap Some same), fair)

  pub public_worst : (s r : ℕ) → done m s ≡ false → m.public s ≡ true → rank m b s ≡ Some r → (q : ℕ) × (r ≡ suc q) × ((l : ℕ) × (t : ℕ) × (Step m s l t) × (rank m b t ≡ Some q)) × ((l t : ℕ) → Step m s l t → (p : ℕ) × (rank m b t ≡ Some p) × (p ≤ q))
  public_worst s zero nd pub' e = absurd (both_ways _ nd (zero_done s e))
  public_worst s (suc q) nd pub' e = go (above s q e)
    where
      test : ℕ → Bool
      test l = leads_to (m.next s l) (λ t. is (rank m b t) q)

      go : Layer m b (within m b q) s → (q' : ℕ) × (suc q ≡ suc q') × ((l : ℕ) × (t : ℕ) × (Step m s l t) × (rank m b t ≡ Some q')) × ((l t : ℕ) → Step m s l t → (p : ℕ) × (rank m b t ≡ Some p) × (p ≤ q'))
      go (l_done d) = absurd (both_ways _ nd d)
      go (l_kiosk kio l t free st w) = absurd (both_ways _ kio pub')
      go (l_public pub'' l t st each) =
          let all : (l t : ℕ) → Step m s l t → (p : ℕ) × (rank m b t ≡ Some p) × (p ≤ q) = λ l t st. ranked m ok b q t (each l t st) in
          ⊎_elim
          (λ yes'.
          let any = (some_decides test m.ceiling).0 yes' in
          let to = reaches_to (m.next s any.0) (λ t. is (rank m b t) q) any.2 in
          (q, refl, (any.0, to.0, (st.0, to.1), is_eq (rank m b to.0) q to.2), all))
          (λ no'.
          let less : (l t p : ℕ) → Step m s l t → rank m b t ≡ Some p → p < q = λ l t p st f.
          let top = all l t st in
          let eq : top.0 ≡ p = same_some top.1 f in
          ⊎_elim
          (λ same. absurd (both_ways _ no' ((some_decides test m.ceiling).1 (l, label_low m ok s l t st.1, reaches_from (m.next s l) (λ t. is (rank m b t) q) t st.1 (eq_is (rank m b t) q (f ∙ ap Some same))))))
          (λ ne. ⊎_elim (λ lt. lt) (λ ge. absurd (ne (omega (arith, top.2)))) (cases_lt p q))
          (cases_eq p q) in
          let one = all l t st in
          absurd (lower q e (λ l t st. let top = all l t st in (top.0, top.1, less l t top.0 st top.1)) (less l t one.0 st one.1)))
          (cases_Bool (some_below test m.ceiling))
        where
          lower : (q : ℕ) → rank m b s ≡ Some (suc q) → ((l t : ℕ) → Step m s l t → (p : ℕ) × (rank m b t ≡ Some p) × (p < q)) → {p : ℕ} → p < q → ⊥
          lower zero e all h = omega arith
          lower (suc q) e all h = let k : suc (suc q) ≤ suc q = least s (suc (suc q)) (suc q) e (within_to m ok b q s (l_public pub' l t st (λ l t st. let top = all l t st in within_le top.0 q t (omega (arith, top.2)) (rank_within m ok b t top.0 top.1)))) in omega arith

  pub public_to : (s l t : ℕ) → m.public s ≡ true → Step m s l t → ((l' t' : ℕ) → Step m s l' t' → option_is_some (rank m b t') ≡ true) → option_is_some (rank m b s) ≡ true
  public_to s l t pub' st all =
      let top = ranked m ok b (suc m.size) s (within_to m ok b m.size s (l_public pub' l t st
      (λ l t st. let has = is_some (rank m b t) (all l t st) in
      within_le has.0 m.size t (omega (arith, (rank_is m ok b t has.0 has.1).below)) (rank_within m ok b t has.0 has.1)))) in
      some_is top.1

  pub end_none : (s : ℕ) → done m s ≡ false → m.end s ≡ true → rank m b s ≡ None
  end_none s nd en =
      ⊎_elim (λ e. e) (λ some. absurd (go some.0 some.1)) (option_cases (rank m b s))
    where
      go : (r : ℕ) → rank m b s ≡ Some r → ⊥
      go zero e = both_ways _ nd (zero_done s e)
      go (suc q) e = both_ways _ (goes_on s q e) en

  pub meets : Rules m b (rank m b)
  meets = record {
    at_done = done_zero;
    at_end = end_none;
    kiosk_some = λ s r nd ne kio e. kiosk_best s r nd kio e;
    kiosk_has = λ s l t q nd kio free st e. some_is (kiosk_to s l t q kio free st e).1;
    public_some = λ s r nd ne pub' e. public_worst s r nd pub' e;
    public_has = λ s l t nd pub' st all. public_to s l t pub' st all;
  }

  pub data Kind (s : ℕ) : Type 0 where
    is_done : done m s ≡ true → Kind s
    is_end : done m s ≡ false → m.end s ≡ true → Kind s
    is_kiosk : done m s ≡ false → m.end s ≡ false → m.public s ≡ false → Kind s
    is_public : done m s ≡ false → m.end s ≡ false → m.public s ≡ true → Kind s

  pub kind : (s : ℕ) → Kind s
  kind s =
      ⊎_elim is_done (λ nd. ⊎_elim (is_end nd) (λ ne. ⊎_elim (is_public nd ne) (is_kiosk nd ne) (cases_Bool (m.public s))) (cases_Bool (m.end s))) (cases_Bool (done m s))

  module _ (ρ : ℕ → Option ℕ) (rules : Rules m b ρ) where
    -- what ρ ranks is in the layer
    into : (k s j : ℕ) → j ≤ k → ρ s ≡ Some j → within m b k s ≡ true
    into zero s j h e = go (kind s)
      where
        go : Kind s → within m b 0 s ≡ true
        go (is_done d) = within_done m ok b 0 s d
        go (is_end nd en) = absurd (none_some (rules.at_end s nd en) e)
        go (is_kiosk nd ne kio) = absurd (omega (arith, (rules.kiosk_some s j nd ne kio e).1))
        go (is_public nd ne pub') = absurd (omega (arith, (rules.public_some s j nd ne pub' e).1))
    into (suc k) s j h e = go (into k) (kind s)
      where
        go : ((s j : ℕ) → j ≤ k → ρ s ≡ Some j → within m b k s ≡ true) → Kind s → within m b (suc k) s ≡ true
        go ih (is_done d) = within_done m ok b (suc k) s d
        go ih (is_end nd en) = absurd (none_some (rules.at_end s nd en) e)
        go ih (is_kiosk nd ne kio) =
            let (q, same, best, _) = rules.kiosk_some s j nd ne kio e in
            within_to m ok b k s (l_kiosk kio best.0 best.1 best.2 best.3 (ih best.1 q (omega arith) best.4))
        go ih (is_public nd ne pub') =
            let (q, same, worst, all) = rules.public_some s j nd ne pub' e in
            within_to m ok b k s (l_public pub' worst.0 worst.1 worst.2 (λ l t st. let got = all l t st in ih t got.0 (omega (arith, got.2)) got.1))

    -- what is in the layer has a rank by ρ
    outof : (k s : ℕ) → within m b k s ≡ true → (j : ℕ) × (ρ s ≡ Some j) × (j ≤ k)
    outof zero s w = (0, rules.at_done s (done_within m ok b s w), omega arith)
    outof (suc k) s w = go (outof k) (kind s) (within_of m ok b k s w)
      where
        go : ((s : ℕ) → within m b k s ≡ true → (j : ℕ) × (ρ s ≡ Some j) × (j ≤ k)) → Kind s → Layer m b (within m b k) s → (j : ℕ) × (ρ s ≡ Some j) × (j ≤ suc k)
        go ih (is_done d) y = (0, rules.at_done s d, omega arith)
        go ih (is_end nd en) (l_done d) = absurd (both_ways _ nd d)
        go ih (is_end nd en) (l_kiosk kio l t free st e) = absurd (both_ways _ st.0 en)
        go ih (is_end nd en) (l_public pub' l t st each) = absurd (both_ways _ st.0 en)
        go ih (is_kiosk nd ne kio) (l_done d) = absurd (both_ways _ nd d)
        go ih (is_kiosk nd ne kio) (l_kiosk kio' l t free st e) =
            let (p, f, h) = ih t e in
            let has = is_some (ρ s) (rules.kiosk_has s l t p nd kio free st f) in
            let (q, same, best, fair) = rules.kiosk_some s has.0 nd ne kio has.1 in
            (has.0, has.1, omega (arith, fair l t p free st f))
        go ih (is_kiosk nd ne kio) (l_public pub' l t st each) = absurd (both_ways _ kio pub')
        go ih (is_public nd ne pub') (l_done d) = absurd (both_ways _ nd d)
        go ih (is_public nd ne pub') (l_kiosk kio l t free st e) = absurd (both_ways _ kio pub')
        go ih (is_public nd ne pub') (l_public pub'' l t st each) =
            let has = is_some (ρ s) (rules.public_has s l t nd pub' st (λ l t st. some_is (ih t (each l t st)).1)) in
            let (q, same, worst, all) = rules.public_some s has.0 nd ne pub' has.1 in
            let (p, f, h) = ih worst.1 (each worst.0 worst.1 worst.2) in
            (has.0, has.1, omega (arith, same_some f worst.3))

    -- the rules have one solution
    pub agrees : (s : ℕ) → ρ s ≡ rank m b s
    agrees s = go (option_cases (ρ s)) (option_cases (rank m b s))
      where
        go : (ρ s ≡ None) ⊎ ((j : ℕ) × (ρ s ≡ Some j)) → (rank m b s ≡ None) ⊎ ((j : ℕ) × (rank m b s ≡ Some j)) → ρ s ≡ rank m b s
        go (inl a) (inl c) = cc
        go (inl a) (inr c) = absurd (none_some a (outof c.0 s (rank_within m ok b s c.0 c.1)).1)
        go (inr a) (inl c) = absurd (none_some c (ranked m ok b a.0 s (into a.0 s a.0 (omega arith) a.1)).1)
        go (inr a) (inr c) =
            let up = ranked m ok b a.0 s (into a.0 s a.0 (omega arith) a.1) in
            let down = outof c.0 s (rank_within m ok b s c.0 c.1) in
            let same : a.0 ≡ c.0 = omega (arith, up.2, down.2, same_some up.1 c.1, same_some down.1 a.1) in
            a.1 ∙ ap Some same ∙ sym c.1

pub only_solution : (m : Meaning) → Lawful m → (b : Bars) → OnlySolution m b
only_solution m ok b = record { meets = meets m ok b; only = λ ρ rules s. agrees m ok b ρ rules s }
