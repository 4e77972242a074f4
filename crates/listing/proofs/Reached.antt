-- A state is reached exactly if a play by the choices leads there.
use Rattle.std.proofs.Common.{◌≡◌, ℕ, zero, suc, ◌<◌, ◌≤◌, Bool, true, false, not, ◌&&◌, ◌⊎◌, List, [], ◌∷◌, length, Some, None, sym, refl, ap, ◌∙◌, subst, inl, inr, ⊎_elim, arith}
use Rattle.std.proofs.lemmas.Bool.{cases_Bool, cases_lt, cond-true, cond-false, and_parts, and_from, or_cases, or_left, or_right, not-true, not_from_false, both_ways}
use Rattle.game.specs.Meaning.{Meaning, Lawful, Step}
use Rattle.game.specs.Search.{count_below}
use Rattle.game.specs.Ranks.{is}
use Rattle.game.specs.Strategies.{Move, at}
use Rattle.game.proofs.Meanings.{label_low, step_inside, start_inside}
use Rattle.game.proofs.Searches.{is_eq, eq_is, some_decides, none_some, count_le, count_same}
use Rattle.law.specs.Answers.{Ranking}
use Rattle.listing.specs.Reach.{may_take, follow, joins, reached_within, reached, ByChoices, Reaches}

module _ (m : Meaning) (ρ : Ranking) where
  -- a move of a play by the choices
  abbrev pub Taken : ℕ → ℕ → ℕ → Type 0
  Taken s l t = Step m s l t × (m.public s ≡ false → ρ.choice s ≡ Some l)

  pub follow_taken : (s l t : ℕ) → follow m ρ s l ≡ Some t → Taken s l t
  follow_taken s l t e =
      ⊎_elim
      (λ may.
      let both = and_parts (not (m.end s)) _ may in (
        (not-true (m.end s) both.0, sym (cond-true (may_take m ρ s l) (m.next s l) None may) ∙ e),
        λ kio. ⊎_elim (λ pub'. absurd (both_ways _ kio pub')) (λ c. is_eq (ρ.choice s) l c) (or_cases (m.public s) _ both.1),
      ))
      (λ not'. absurd (none_some (cond-false (may_take m ρ s l) (m.next s l) None not') e))
      (cases_Bool (may_take m ρ s l))

  pub taken_follow : (s l t : ℕ) → Taken s l t → follow m ρ s l ≡ Some t
  taken_follow s l t x =
      let may : may_take m ρ s l ≡ true = and_from _ _ (not_from_false _ x.0.0)
      (⊎_elim (λ pub'. or_left _ _ pub') (λ kio. or_right (m.public s) _ (eq_is (ρ.choice s) l (x.1 kio))) (cases_Bool (m.public s))) in
      cond-true (may_take m ρ s l) (m.next s l) None may ∙ x.0.1

  -- one move more leads from a state reached to another
  pub reaches_start : (s : ℕ) → m.start s ≡ true → Reaches m ρ s
  reaches_start s e = record { from = s; starts = e; play = []; by_choices = tt; there = refl }

  pub reaches_more : (s l t : ℕ) → Reaches m ρ s → follow m ρ s l ≡ Some t → Reaches m ρ t
  reaches_more s l t r e =
      let x : Taken (at r.from r.play) l t = subst (λ u. Taken u l t) (sym r.there) (follow_taken s l t e) in
      record { from = r.from; starts = r.starts; play = record { label = l; to = t } ∷ r.play; by_choices = (r.by_choices, x.0, x.1); there = refl }

  -- what the next layer holds: the starts, and what a move leads to
  abbrev pub Next : (ℕ → Bool) → ℕ → Type 0
  Next p t = (m.start t ≡ true) ⊎ ((s : ℕ) × (l : ℕ) × (p s ≡ true) × (follow m ρ s l ≡ Some t))

module _ (m : Meaning) (ok : Lawful m) (ρ : Ranking) where
  pub within_of : (k t : ℕ) → reached_within m ρ (suc k) t ≡ true → Next m ρ (reached_within m ρ k) t
  unfolding reached_within
  within_of k t e =
      ⊎_elim inl
      (λ f.
      let any = (some_decides (λ s. joins m ρ s t && reached_within m ρ k s) m.size).0 f in
      let both = and_parts _ _ any.2 in
      let by = (some_decides (λ l. is (follow m ρ any.0 l) t) m.ceiling).0 both.0 in
      inr (any.0, by.0, both.1, is_eq (follow m ρ any.0 by.0) t by.2))
      (or_cases (m.start t) _ e)

  pub within_to : (k t : ℕ) → Next m ρ (reached_within m ρ k) t → reached_within m ρ (suc k) t ≡ true
  unfolding reached_within
  within_to k t (inl e) = or_left _ _ e
  within_to k t (inr (s, l, p, e)) =
      let x = follow_taken m ρ s l t e in
      or_right (m.start t) _ ((some_decides (λ s. joins m ρ s t && reached_within m ρ k s) m.size).1
      (s, step_inside m ok s l t x.0, and_from _ _ ((some_decides (λ l. is (follow m ρ s l) t) m.ceiling).1 (l, label_low m ok s l t x.0.1, eq_is (follow m ρ s l) t e)) p))

  within_start : (k t : ℕ) → m.start t ≡ true → reached_within m ρ k t ≡ true
  unfolding reached_within
  within_start zero t e = e
  within_start (suc k) t e = or_left _ _ e

  start_within : (t : ℕ) → reached_within m ρ 0 t ≡ true → m.start t ≡ true
  unfolding reached_within
  start_within t e = e

  next_map : (p q : ℕ → Bool) → ((s : ℕ) → p s ≡ true → q s ≡ true) → (t : ℕ) → Next m ρ p t → Next m ρ q t
  next_map p q f t (inl e) = inl e
  next_map p q f t (inr (s, l, e, g)) = inr (s, l, f s e, g)

  within_more : (k t : ℕ) → reached_within m ρ k t ≡ true → reached_within m ρ (suc k) t ≡ true
  within_more zero t e = within_start 1 t (start_within t e)
  within_more (suc k) t e = within_to (suc k) t (next_map (reached_within m ρ k) (reached_within m ρ (suc k)) (within_more k) t (within_of k t e))

  within_le : (k j t : ℕ) → k ≤ j → reached_within m ρ k t ≡ true → reached_within m ρ j t ≡ true
  within_le k zero t h e = let z : k ≡ 0 = omega arith in ap (λ n. reached_within m ρ n t) (sym z) ∙ e
  within_le k (suc j) t h e =
      ⊎_elim
      (λ lt. within_more j t (within_le k j t (omega arith) e))
      (λ ge. let z : suc j ≡ k = omega arith in ap (λ n. reached_within m ρ n t) z ∙ e)
      (cases_lt k (suc j))

  -- nothing is new after layer j
  abbrev pub Stable : ℕ → Type 0
  Stable j = (t : ℕ) → reached_within m ρ (suc j) t ≡ true → reached_within m ρ j t ≡ true

  stays : (j : ℕ) → Stable j → (k t : ℕ) → reached_within m ρ k t ≡ true → reached_within m ρ j t ≡ true
  stays j h zero t e = within_start j t (start_within t e)
  stays j h (suc k) t e = h t (within_to j t (next_map (reached_within m ρ k) (reached_within m ρ j) (stays j h k) t (within_of k t e)))

  next_inside : (p : ℕ → Bool) (t : ℕ) → Next m ρ p t → t < m.size
  next_inside p t (inl e) = start_inside m ok t e
  next_inside p t (inr (s, l, e, f)) = ok.inside s l t (follow_taken m ρ s l t f).0.1

  grows : (j : ℕ) → ((i : ℕ) × (i < j) × Stable i) ⊎ (j ≤ count_below (reached_within m ρ j) m.size)
  grows zero = inr (omega arith)
  grows (suc j) =
      ⊎_elim
      (λ old. inl (old.0, omega (arith, old.1), old.2))
      (λ big. ⊎_elim
      (λ more. inr (omega arith))
      (λ same. inl (j, omega arith, λ t e. count_same (reached_within m ρ j) (reached_within m ρ (suc j)) m.size (within_more j) same t (next_inside (reached_within m ρ j) t (within_of j t e)) e))
      (cases_lt (count_below (reached_within m ρ j) m.size) (count_below (reached_within m ρ (suc j)) m.size)))
      (grows j)

  settled : (i : ℕ) × (i < suc m.size) × Stable i
  settled = ⊎_elim (λ h. h) (λ big. absurd (omega (arith, count_le (reached_within m ρ (suc m.size)) m.size))) (grows (suc m.size))

  -- what some layer holds is reached
  pub within_reached : (k t : ℕ) → reached_within m ρ k t ≡ true → reached m ρ t ≡ true
  unfolding reached
  within_reached k t e = let last = settled in within_le last.0 m.size t (omega (arith, last.1)) (stays last.0 last.2 k t e)

  -- what the starts and every move stay in holds all that is reached
  pub closed : (p : ℕ → Bool) → ((t : ℕ) → m.start t ≡ true → p t ≡ true) → ((s l t : ℕ) → p s ≡ true → follow m ρ s l ≡ Some t → p t ≡ true) → (t : ℕ) → reached m ρ t ≡ true → p t ≡ true
  unfolding reached
  closed p starts moves t e = go m.size t e
    where
      go : (k t : ℕ) → reached_within m ρ k t ≡ true → p t ≡ true
      go zero t e = starts t (start_within t e)
      go (suc k) t e = ⊎_elim (λ s. starts t s) (λ x. moves x.0 x.1 t (go k x.0 x.2) x.3) (within_of k t e)

  within_reaches : (k t : ℕ) → reached_within m ρ k t ≡ true → Reaches m ρ t
  within_reaches zero t e = reaches_start m ρ t (start_within t e)
  within_reaches (suc k) t e =
      ⊎_elim (reaches_start m ρ t) (λ x. reaches_more m ρ x.0 x.1 t (within_reaches k x.0 x.2) x.3) (within_of k t e)

  play_within : (s : ℕ) → m.start s ≡ true → (h : List Move) → ByChoices m ρ s h → reached_within m ρ (length h) (at s h) ≡ true
  play_within s e [] by = within_start 0 s e
  play_within s e (x ∷ h) by =
      within_to (length h) x.to (inr (at s h, x.label, play_within s e h by.0, taken_follow m ρ (at s h) x.label x.to (by.1, by.2)))

  pub reached_reaches : (t : ℕ) → reached m ρ t ≡ true → Reaches m ρ t
  unfolding reached
  reached_reaches t e = within_reaches m.size t e

  pub reaches_reached : (t : ℕ) → Reaches m ρ t → reached m ρ t ≡ true
  reaches_reached t r = ap (reached m ρ) (sym r.there) ∙ within_reached (length r.play) (at r.from r.play) (play_within r.from r.starts r.play r.by_choices)

  pub reached_inside : (t : ℕ) → reached m ρ t ≡ true → t < m.size
  unfolding reached
  reached_inside t e = go m.size t e
    where
      go : (k t : ℕ) → reached_within m ρ k t ≡ true → t < m.size
      go zero t e = start_inside m ok t (start_within t e)
      go (suc k) t e = next_inside (reached_within m ρ k) t (within_of k t e)

  pub reached_start : (s : ℕ) → m.start s ≡ true → reached m ρ s ≡ true
  reached_start s e = reaches_reached s (reaches_start m ρ s e)

  pub reached_more : (s l t : ℕ) → reached m ρ s ≡ true → follow m ρ s l ≡ Some t → reached m ρ t ≡ true
  reached_more s l t r e = reaches_reached t (reaches_more m ρ s l t (reached_reaches s r) e)
