-- The layers of the ranks, and what a rank is.
use Rattle.std.proofs.Common.{◌≡◌, ℕ, zero, suc, ◌<◌, ◌≤◌, Bool, true, false, cond, not, ◌&&◌, ◌||◌, ◌⊎◌, is_some as option_is_some, Some, None, Option, sym, refl, ap, ◌∙◌, inl, inr, ⊎_elim, arith}
use Rattle.std.proofs.lemmas.Bool.{cases_Bool, cases_lt, cond-true, cond-false, and_parts, and_from, or_cases, or_left, or_right, not-true, not_from_false, both_ways}
use Rattle.game.specs.Meaning.{Meaning, Lawful, done, Step}
use Rattle.game.specs.Search.{count_below}
use Rattle.game.specs.Ranks.{Bars, leads_to, none_or, kiosk_can, public_must, within, rank}
use Rattle.game.proofs.Meanings.{label_low}
use Rattle.game.proofs.Searches.{reaches_to, is_some, some_decides, all_decides, none_some, Lowest, first_is, first_some, count_le, count_same}

-- one layer over the states that pass p
pub data Layer (m : Meaning) (b : Bars) (p : ℕ → Bool) (s : ℕ) : Type 0 where
  l_done : done m s ≡ true → Layer m b p s
  l_kiosk : m.public s ≡ false → (l t : ℕ) → b l ≡ false → Step m s l t → p t ≡ true → Layer m b p s
  l_public : m.public s ≡ true → (l t : ℕ) → Step m s l t → ((l' t' : ℕ) → Step m s l' t' → p t' ≡ true) → Layer m b p s

abbrev pub layer : Meaning → Bars → (ℕ → Bool) → ℕ → Bool
layer m b p s = done m s || (not (m.end s) && cond (m.public s) (public_must m p s) (kiosk_can m b p s))

only_from : (o : Option ℕ) (p : ℕ → Bool) → ((t : ℕ) → o ≡ Some t → p t ≡ true) → none_or o p ≡ true
only_from None p h = refl
only_from (Some t) p h = h t refl

module _ (m : Meaning) (ok : Lawful m) (b : Bars) where
  pub layer_of : (p : ℕ → Bool) (s : ℕ) → layer m b p s ≡ true → Layer m b p s
  layer_of p s e =
      ⊎_elim l_done
      (λ f.
      let parts = and_parts (not (m.end s)) _ f in
      let on = not-true (m.end s) parts.0 in
      ⊎_elim
      (λ pub'.
      let both = and_parts _ _ (sym (cond-true (m.public s) (public_must m p s) (kiosk_can m b p s) pub') ∙ parts.1) in
      let any = (some_decides (λ l. option_is_some (m.next s l)) m.ceiling).0 both.0 in
      let to = is_some (m.next s any.0) any.2 in
      l_public pub' any.0 to.0 (on, to.1)
      (λ l t st. ap (λ o. none_or o p) (sym st.1) ∙ (all_decides (λ l. none_or (m.next s l) p) m.ceiling).0 both.1 l (label_low m ok s l t st.1)))
      (λ kio.
      let any = (some_decides (λ l. not (b l) && leads_to (m.next s l) p) m.ceiling).0 (sym (cond-false (m.public s) (public_must m p s) (kiosk_can m b p s) kio) ∙ parts.1) in
      let both = and_parts _ _ any.2 in
      let to = reaches_to (m.next s any.0) p both.1 in
      l_kiosk kio any.0 to.0 (not-true _ both.0) (on, to.1) to.2)
      (cases_Bool (m.public s)))
      (or_cases (done m s) _ e)

  pub layer_to : (p : ℕ → Bool) (s : ℕ) → Layer m b p s → layer m b p s ≡ true
  layer_to p s (l_done e) = or_left _ _ e
  layer_to p s (l_kiosk kio l t free st e) =
      or_right (done m s) _ (and_from _ _ (not_from_false _ st.0) (cond-false (m.public s) (public_must m p s) (kiosk_can m b p s) kio ∙
      (some_decides (λ l. not (b l) && leads_to (m.next s l) p) m.ceiling).1 (l, label_low m ok s l t st.1, and_from _ _ (not_from_false _ free) (ap (λ o. leads_to o p) st.1 ∙ e))))
  layer_to p s (l_public pub' l t st each) =
      or_right (done m s) _ (and_from _ _ (not_from_false _ st.0) (cond-true (m.public s) (public_must m p s) (kiosk_can m b p s) pub' ∙
      and_from _ _
      ((some_decides (λ l. option_is_some (m.next s l)) m.ceiling).1 (l, label_low m ok s l t st.1, ap option_is_some st.1))
      ((all_decides (λ l. none_or (m.next s l) p) m.ceiling).1 (λ l' h. only_from (m.next s l') p (λ t' e. each l' t' (st.0, e))))))

  layer_map : (p q : ℕ → Bool) → ((t : ℕ) → p t ≡ true → q t ≡ true) → (s : ℕ) → Layer m b p s → Layer m b q s
  layer_map p q f s (l_done e) = l_done e
  layer_map p q f s (l_kiosk kio l t free st e) = l_kiosk kio l t free st (f t e)
  layer_map p q f s (l_public pub' l t st each) = l_public pub' l t st (λ l' t' st'. f t' (each l' t' st'))

  pub within_of : (k s : ℕ) → within m b (suc k) s ≡ true → Layer m b (within m b k) s
  unfolding within
  within_of k s e = layer_of (within m b k) s e

  pub within_to : (k s : ℕ) → Layer m b (within m b k) s → within m b (suc k) s ≡ true
  unfolding within
  within_to k s e = layer_to (within m b k) s e

  pub within_done : (k s : ℕ) → done m s ≡ true → within m b k s ≡ true
  unfolding within
  within_done zero s e = e
  within_done (suc k) s e = or_left _ _ e

  pub done_within : (s : ℕ) → within m b 0 s ≡ true → done m s ≡ true
  unfolding within
  done_within s e = e

  pub within_more : (k s : ℕ) → within m b k s ≡ true → within m b (suc k) s ≡ true
  within_more zero s e = within_done 1 s (done_within s e)
  within_more (suc k) s e = within_to (suc k) s (layer_map (within m b k) (within m b (suc k)) (λ t. within_more k t) s (within_of k s e))

  -- nothing is new after layer j
  abbrev pub Stable : ℕ → Type 0
  Stable j = (s : ℕ) → within m b (suc j) s ≡ true → within m b j s ≡ true

  pub stays : (j : ℕ) → Stable j → (k s : ℕ) → within m b k s ≡ true → within m b j s ≡ true
  stays j h zero s e = within_done j s (done_within s e)
  stays j h (suc k) s e = h s (within_to j s (layer_map (within m b k) (within m b j) (λ t. stays j h k t) s (within_of k s e)))

  pub nowhere : (p : ℕ → Bool) (s : ℕ) → m.size ≤ s → Layer m b p s → ⊥
  nowhere p s h (l_done e) = both_ways _ (ok.outside s h).no_goal (and_parts _ _ e).0
  nowhere p s h (l_kiosk kio l t free st e) = none_some ((ok.outside s h).no_move l) st.1
  nowhere p s h (l_public pub' l t st each) = none_some ((ok.outside s h).no_move l) st.1

  grows : (j : ℕ) → ((i : ℕ) × (i < j) × Stable i) ⊎ (j ≤ count_below (within m b j) m.size)
  grows zero = inr (omega arith)
  grows (suc j) =
      ⊎_elim
      (λ old. inl (old.0, omega (arith, old.1), old.2))
      (λ big. ⊎_elim
      (λ more. inr (omega arith))
      (λ same. inl (
        j,
        omega arith,
        λ s e. ⊎_elim
            (λ in'. count_same (within m b j) (within m b (suc j)) m.size (within_more j) same s in' e)
            (λ out. absurd (nowhere (within m b j) s out (within_of j s e)))
            (cases_lt s m.size),
      ))
      (cases_lt (count_below (within m b j) m.size) (count_below (within m b (suc j)) m.size)))
      (grows j)

  settled : (i : ℕ) × (i < suc m.size) × Stable i
  settled = ⊎_elim (λ h. h) (λ big. absurd (omega (arith, count_le (within m b (suc m.size)) m.size))) (grows (suc m.size))

  -- THE INTERFACE OF RANKS: within k is 'has a rank, of k at most'
  pub ranked : (k s : ℕ) → within m b k s ≡ true → (r : ℕ) × (rank m b s ≡ Some r) × (r ≤ k)
  unfolding rank
  ranked k s e =
      let end' = settled in
      let got = first_some (λ j. within m b j s) (suc m.size) end'.0 end'.1 (stays end'.0 end'.2 k s e) in
      let is' = first_is (λ j. within m b j s) (suc m.size) got.0 got.1 in
      (got.0, got.1, ⊎_elim (λ lt. absurd (both_ways _ (is'.lowest k lt) e)) (λ ge. ge) (cases_lt k got.0))

  pub rank_is : (s r : ℕ) → rank m b s ≡ Some r → Lowest (λ j. within m b j s) (suc m.size) r
  unfolding rank
  rank_is s r e = first_is (λ j. within m b j s) (suc m.size) r e

  pub unranked : (s : ℕ) → rank m b s ≡ None → (k : ℕ) → within m b k s ≡ true → ⊥
  unranked s e k h = none_some e (ranked k s h).1

  pub rank_within : (s r : ℕ) → rank m b s ≡ Some r → within m b r s ≡ true
  rank_within s r e = (rank_is s r e).passes
