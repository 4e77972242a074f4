-- The lines of a listing, one after another.
use Rattle.std.proofs.Common.{◌≡◌, ℕ, zero, suc, ◌+◌, ◌≤◌, cond, List, ◌++◌, length, drop, Ok, Err, sym, ap, ◌∙◌, ⊎_elim, add-one, arith, length-append}
use Rattle.std.proofs.lemmas.Bool.{cases_lt, le-leb}
use Rattle.game.specs.Meaning.{Meaning}
use Rattle.law.specs.Answers.{Ranking}
use Rattle.text.specs.Places.{Written}
use Rattle.text.proofs.Places.{over_front}
use Rattle.listing.specs.declared.ListFault.TheVariants.{Room}
use Rattle.listing.specs.Lines.{line_of, lines_below}
use Rattle.listing.specs.Answers.{put_whole}

module _ (m : Meaning) (ρ : Ranking) where
  pub lines_more : (n : ℕ) → lines_below m ρ (n + 1) ≡ lines_below m ρ n ++ line_of m ρ n
  lines_more n = ap (lines_below m ρ) (add-one n)

  pub lines_longer : (n : ℕ) → length (lines_below m ρ (suc n)) ≡ length (lines_below m ρ n) + length (line_of m ρ n)
  lines_longer n = length-append (lines_below m ρ n) (line_of m ρ n)

  -- the first lines are no longer than all
  pub lines_fit : (i n : ℕ) → i ≤ n → length (lines_below m ρ i) ≤ length (lines_below m ρ n)
  lines_fit i zero h = let z : i ≡ 0 = omega arith in omega (arith, ap (λ k. length (lines_below m ρ k)) z)
  lines_fit i (suc n) h =
      ⊎_elim
      (λ lt. omega (arith, lines_fit i n (omega arith), lines_longer n))
      (λ ge. let z : i ≡ suc n = omega arith in omega (arith, ap (λ k. length (lines_below m ρ k)) z))
      (cases_lt i (suc n))

-- a text that fits, written at the front
pub put_in : (text o p : List ℕ) (e : ℕ) → Written o 0 text e p → (Ok e, p) ≡ put_whole text o
put_in text o p e w =
    let ends : e ≡ length text = omega (arith, w.ends) in
    ap (λ n. (Ok n, p)) ends ∙ ap (λ x. (Ok (length text), x)) (w.whole ∙ over_front text o) ∙ sym (ap (λ b. cond b (Ok (length text), text ++ drop (length text) o) (Err Room, o)) (le-leb (length text) (length o) (omega (arith, w.room))))
