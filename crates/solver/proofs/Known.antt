-- The ranks below a bound, and when none is missing.
use Rattle.std.proofs.Common.{◌≡◌, ℕ, zero, suc, ◌<◌, ◌≤◌, Bool, true, false, cond, not, ◌&&◌, ◌||◌, eqb, List, is_some, Some, None, Option, sym, refl, ap, ◌∙◌, ⊎_elim, arith}
use mathlib.Core.Path.{fun_ext}
use Rattle.std.proofs.lemmas.Bool.{cases_Bool, cond-true, cond-false, both_ways, lt-ltb, le-ltb, ne_eqb}
use Rattle.game.specs.Meaning.{Meaning, Lawful, done}
use Rattle.game.specs.Search.{or_else}
use Rattle.game.specs.Ranks.{Bars, leads_to, lowest_label, public_must, kiosk_can, within, rank, choice, choice_at}
use Rattle.game.proofs.Searches.{some_first, same_first, first_none, first_some, first_is, option_cases}
use Rattle.game.proofs.Layers.{Layer, l_done, l_kiosk, l_public, stays, nowhere, within_of, within_done, within_more, ranked}
use Rattle.game.proofs.Rules.{within_le}
use Rattle.game.proofs.Winning.{choice_layer, public_choice}
use Rattle.law.specs.Answers.{ranking}
use Rattle.solver.specs.declared.Cell.{Cell}
use Rattle.solver.specs.Cells.{Solved, ranking_in}
use Rattle.solver.specs.Known.{under, known, cell, cell_of, picked, settled, Filled}

pub rank_of_cell : (m : Meaning) (b : Bars) (s : ℕ) (o : Option ℕ) → (cell_of m b s o).rank ≡ o
rank_of_cell m b s None = refl
rank_of_cell m b s (Some zero) = refl
rank_of_cell m b s (Some (suc q)) = refl

shape : (k : ℕ) (e pu mu ca : Bool) (o : Option ℕ) → ca ≡ is_some o → cond e None (cond pu (cond mu (Some (cell k None)) None) (picked k o)) ≡ cond (not e && cond pu mu ca) (Some (cell k (cond pu None o))) None
shape k true pu mu ca o h = refl
shape k false true true ca o h = refl
shape k false true false ca o h = refl
shape k false false mu true (Some l) h = refl
shape k false false mu true None h = absurd (both_ways true h refl)
shape k false false mu false (Some l) h = absurd (both_ways false refl h)
shape k false false mu false None h = refl

module _ (m : Meaning) (ok : Lawful m) (b : Bars) where
  -- a rank below q + 1 is there exactly in layer q
  pub known_within : (q s : ℕ) → is_some (known m b (suc q) s) ≡ within m b q s
  known_within q s =
      ⊎_elim
      (λ w. ap is_some (first_some (λ j. within m b j s) (suc q) q (omega arith) w).1 ∙ sym w)
      (λ nw. ⊎_elim
      (λ none. ap is_some none ∙ sym nw)
      (λ some. let is = first_is (λ j. within m b j s) (suc q) some.0 some.1 in absurd (both_ways _ nw (within_le m ok b some.0 q s (omega (arith, is.below)) is.passes)))
      (option_cases (known m b (suc q) s)))
      (cases_Bool (within m b q s))

  -- below k, the cells of both stages tell the same
  pub under_known : (k s : ℕ) → under (known m b k s) k ≡ is_some (known m b k s)
  under_known k s =
      ⊎_elim
      (λ none. ap (λ o. under o k) none ∙ sym (ap is_some none))
      (λ some. ap (λ o. under o k) some.1 ∙ lt-ltb some.0 k (first_is (λ j. within m b j s) k some.0 some.1).below ∙ sym (ap is_some some.1))
      (option_cases (known m b k s))

  pub under_next : (k s : ℕ) → under (known m b (suc k) s) k ≡ is_some (known m b k s)
  under_next k s =
      ⊎_elim
      (λ none. ap (λ o. under (or_else o (cond (within m b k s) (Some k) None)) k) none ∙ ⊎_elim
      (λ w. ap (λ o. under o k) (cond-true (within m b k s) (Some k) None w) ∙ le-ltb k k (omega arith))
      (λ nw. ap (λ o. under o k) (cond-false (within m b k s) (Some k) None nw))
      (cases_Bool (within m b k s)) ∙ sym (ap is_some none))
      (λ some. ap (λ o. under (or_else o (cond (within m b k s) (Some k) None)) k) some.1 ∙ lt-ltb some.0 k (first_is (λ j. within m b j s) k some.0 some.1).below ∙ sym (ap is_some some.1))
      (option_cases (known m b k s))

  -- what a round finds of a state that had no rank
  pub finds : (k s : ℕ) (p : ℕ → Bool) → ((q : ℕ) → k ≡ suc q → p ≡ within m b q) → known m b k s ≡ None → settled m b p k s ≡ cond (within m b k s) (Some (cell_of m b s (Some k))) None
  unfolding within
  finds zero s p is none = refl
  finds (suc q) s p is none =
      let nd : done m s ≡ false = ⊎_elim (λ d. absurd (both_ways _ (first_none (λ j. within m b j s) (suc q) none 0 (omega arith)) (within_done m ok b 0 s d))) (λ f. f) (cases_Bool (done m s)) in
      ap (λ x. settled m b x (suc q) s) (is q refl) ∙
      cond-false (eqb (suc q) 0) _ _ (ne_eqb (suc q) 0 (λ z. omega arith)) ∙
      shape (suc q) (m.end s) (m.public s) (public_must m (within m b q) s) (kiosk_can m b (within m b q) s) (lowest_label m b (within m b q) s) (some_first (λ l. not (b l) && leads_to (m.next s l) (within m b q)) m.ceiling) ∙
      ap (λ d. cond (d || (not (m.end s) && cond (m.public s) (public_must m (within m b q) s) (kiosk_can m b (within m b q) s))) (Some (cell (suc q) (cond (m.public s) None (lowest_label m b (within m b q) s)))) None) (sym nd)

  pub outside : (k s : ℕ) → m.size ≤ s → within m b k s ≡ true → ⊥
  outside k s ge w = nowhere m ok b (within m b k) s ge (within_of m ok b k s (within_more m ok b k s w))

  pub none_outside : (k s : ℕ) → m.size ≤ s → known m b k s ≡ None
  none_outside k s ge = ⊎_elim (λ e. e) (λ some. absurd (outside some.0 s ge (first_is (λ j. within m b j s) k some.0 some.1).passes)) (option_cases (known m b k s))

  -- once every ranked state has a rank below k, no rank is missing
  pub agree : (k s : ℕ) → ((i : ℕ) → within m b i s ≡ true → (j : ℕ) × (j < k) × (within m b j s ≡ true)) → known m b k s ≡ rank m b s
  unfolding rank
  agree k s h =
      ⊎_elim
      (λ none. ⊎_elim
      (λ un. none ∙ sym un)
      (λ some. let got = h some.0 (first_is (λ j. within m b j s) (suc m.size) some.0 some.1).passes in absurd (both_ways _ (first_none (λ j. within m b j s) k none got.0 got.1) got.2))
      (option_cases (rank m b s)))
      (λ some.
      let got = ranked m ok b some.0 s (first_is (λ j. within m b j s) k some.0 some.1).passes in
      some.1 ∙ ap Some (same_first (λ j. within m b j s) k (suc m.size) some.0 got.0 some.1 got.1) ∙ sym got.1)
      (option_cases (known m b k s))

  never : ((s : ℕ) → within m b 0 s ≡ true → ⊥) → (i s : ℕ) → within m b i s ≡ true → ⊥
  never no' zero s w = no' s w
  never no' (suc i) s w = go (never no' i) (within_of m ok b i s w)
    where
      go : ((s : ℕ) → within m b i s ≡ true → ⊥) → Layer m b (within m b i) s → ⊥
      go ih (l_done d) = no' s (within_done m ok b 0 s d)
      go ih (l_kiosk kio l t free st e) = ih t e
      go ih (l_public pub' l t st each) = ih t (each l t st)

  pub soon : (k : ℕ) → ((s : ℕ) → within m b k s ≡ true → is_some (known m b k s) ≡ true) → (s i : ℕ) → within m b i s ≡ true → (j : ℕ) × (j < suc k) × (within m b j s ≡ true)
  soon zero old s i w = absurd (never (λ t w. both_ways false refl (old t w)) i s w)
  soon (suc q) old s i w = (q, omega arith, stays m ok b q (λ t w. sym (known_within q t) ∙ old t w) i s w)

  cell_is : (s : ℕ) (o : Option ℕ) → rank m b s ≡ o → cell_of m b s o ≡ record { rank = o; choice = choice m b s }
  unfolding choice
  cell_is s None e = ap (λ c. record { rank = None; choice = c }) (sym (no_choice (m.public s) (ap (choice_at m b s) e)))
    where
      no_choice : {o : Option ℕ} (t : Bool) → o ≡ None → cond t None o ≡ None
      no_choice true h = refl
      no_choice false h = h
  cell_is s (Some zero) e = ap (λ c. record { rank = Some 0; choice = c }) (sym (no_choice (m.public s) (ap (choice_at m b s) e)))
    where
      no_choice : {o : Option ℕ} (t : Bool) → o ≡ None → cond t None o ≡ None
      no_choice true h = refl
      no_choice false h = h
  cell_is s (Some (suc q)) e =
      ap (λ c. record { rank = Some (suc q); choice = c }) (⊎_elim
      (λ pub'. cond-true (m.public s) None (lowest_label m b (within m b q) s) pub' ∙ sym (public_choice m ok b s pub'))
      (λ kio. cond-false (m.public s) None (lowest_label m b (within m b q) s) kio ∙ sym (choice_layer m ok b s q kio e))
      (cases_Bool (m.public s)))

  -- cells that hold every rank are solved
  pub filled_solved : (cells : List Cell) → Filled m b cells → Solved m b cells
  filled_solved cells filled s = filled s ∙ cell_is s (rank m b s) refl

-- solved cells say the ranks and choices
pub solved_ranking : (m : Meaning) (b : Bars) (cells : List Cell) → Solved m b cells → ranking_in cells ≡ ranking m b
solved_ranking m b cells h i = record { rank = fun_ext (λ s. ap (λ c. c.rank) (h s)) i; choice = fun_ext (λ s. ap (λ c. c.choice) (h s)) i }
