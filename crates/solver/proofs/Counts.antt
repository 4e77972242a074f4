-- How many pass, with one more.
use Rattle.std.proofs.Common.{◌≡◌, ℕ, zero, suc, ◌+◌, ◌<◌, Bool, true, false, cond, ap, ◌∙◌, ⊎_elim, arith}
use Rattle.std.proofs.lemmas.Bool.{cases_lt, cond-true, cond-false}
use Rattle.game.specs.Search.{count_below}
use Rattle.game.proofs.Searches.{one_small, count_le, count_equal}

-- one that does not pass leaves room
pub many_below : (p : ℕ → Bool) (n s : ℕ) → s < n → p s ≡ false → count_below p n < n
many_below p zero s lt e = absurd (omega arith)
many_below p (suc n) s lt e =
    ⊎_elim
    (λ less. omega (arith, many_below p n s less e, one_small (p n)))
    (λ ge. let same : n ≡ s = omega arith in omega (arith, count_le p n, cond-false {A = ℕ} (p n) 1 0 (ap p same ∙ e)))
    (cases_lt s n)

-- one more passes
pub many_more : (p q : ℕ → Bool) (n s : ℕ) → s < n → p s ≡ false → q s ≡ true → ((u : ℕ) → (u ≡ s → ⊥) → p u ≡ q u) → count_below q n ≡ count_below p n + 1
many_more p q zero s lt e f h = absurd (omega arith)
many_more p q (suc n) s lt e f h =
    ⊎_elim
    (λ less. omega (arith, many_more p q n s less e f h, ap {B = ℕ} (λ x. cond x 1 0) (h n (λ z. omega arith))))
    (λ ge.
    let same : n ≡ s = omega arith in
    omega (arith, count_equal p q n (λ u lt'. h u (λ z. omega arith)), cond-false {A = ℕ} (p n) 1 0 (ap p same ∙ e), cond-true {A = ℕ} (q n) 1 0 (ap q same ∙ f)))
    (cases_lt s n)
