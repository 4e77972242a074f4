-- What the laws of every game give at once.
use Rattle.std.proofs.Common.{◌≡◌, ℕ, ◌<◌, ◌≤◌, true, is_some as option_is_some, Some, ap, ⊎_elim}
use Rattle.std.proofs.lemmas.Bool.{cases_lt, and_parts, and_from, not-true, not_from_false, both_ways}
use Rattle.game.specs.Meaning.{Meaning, Lawful, feasible, Step}
use Rattle.game.proofs.Searches.{none_some, is_some}

module _ (m : Meaning) (ok : Lawful m) where
  pub inside : (s : ℕ) → ((m.size ≤ s) → ⊥) → s < m.size
  inside s h = ⊎_elim (λ lt. lt) (λ ge. absurd (h ge)) (cases_lt s m.size)

  pub start_inside : (s : ℕ) → m.start s ≡ true → s < m.size
  start_inside s e = inside s (λ ge. both_ways _ (ok.outside s ge).no_start e)

  pub public_inside : (s : ℕ) → m.public s ≡ true → s < m.size
  public_inside s e = inside s (λ ge. both_ways _ (ok.outside s ge).kiosk e)

  pub step_inside : (s l t : ℕ) → Step m s l t → s < m.size
  step_inside s l t st = inside s (λ ge. none_some ((ok.outside s ge).no_move l) st.1)

  pub label_low : (s l t : ℕ) → m.next s l ≡ Some t → l < m.ceiling
  label_low s l t e = ⊎_elim (λ h. h) (λ h. absurd (none_some (ok.labels s l h) e)) (cases_lt l m.ceiling)

  pub step_feasible : (s l t : ℕ) → Step m s l t → feasible m s l ≡ true
  step_feasible s l t st = and_from _ _ (not_from_false _ st.0) (ap option_is_some st.1)

  pub feasible_step : (s l : ℕ) → feasible m s l ≡ true → (t : ℕ) × Step m s l t
  feasible_step s l e = let both = and_parts _ _ e in let to = is_some (m.next s l) both.1 in (to.0, (not-true _ both.0, to.1))
