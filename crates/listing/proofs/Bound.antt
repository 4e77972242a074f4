-- No listing is longer than 53,258 bytes.
use Rattle.std.proofs.Common.{◌≡◌, ℕ, zero, suc, ◌*◌, ◌<◌, ◌≤◌, Bool, true, false, cond, [], length, Some, None, codes, Option, refl, arith, length-append}
use Rattle.game.specs.Meaning.{Meaning, Lawful}
use Rattle.game.specs.Search.{first_below, highest}
use Rattle.game.specs.Ranks.{Bars}
use Rattle.game.proofs.Searches.{first_is, highest_le, none_some}
use Rattle.game.proofs.Layers.{rank_is}
use Rattle.game.proofs.Meanings.{label_low}
use Rattle.game.proofs.Winning.{choice_is}
use Rattle.law.specs.Answers.{Ranking, ranking, verdict, lost_start, start_rank}
use Rattle.text.specs.Lines.{count_line}
use Rattle.text.proofs.Lines.{count_le, line_le}
use Rattle.listing.specs.Lines.{longest, has_line, entry_with, entry_text, line_of, lines_below, text_after, listing_text}
use Rattle.listing.proofs.Texts.{lines_longer}

module _ (m : Meaning) (ρ : Ranking) (few : m.size ≤ 4096) (labels : (s l : ℕ) → ρ.choice s ≡ Some l → l < 64) (ranks : (s r : ℕ) → ρ.rank s ≡ Some r → r ≤ 4096) where
  line_short : (s : ℕ) → s < 4096 → length (line_of m ρ s) ≤ 13
  line_short s in' = go (has_line m ρ s) (ρ.choice s) (ρ.rank s) (λ l e. labels s l e) (λ r e. ranks s r e)
    where
      go : (b : Bool) (o p : Option ℕ) → ((l : ℕ) → o ≡ Some l → l < 64) → ((r : ℕ) → p ≡ Some r → r ≤ 4096) → length (entry_text (cond b (entry_with s o p) None)) ≤ 13
      go false o p low small = omega arith
      go true None p low small = omega arith
      go true (Some l) None low small = omega arith
      go true (Some l) (Some r) low small =
          let a : l < 64 = low l refl in
          let b : r ≤ 4096 = small r refl in
          line_le 4 2 4 [] s l r (omega arith) (omega arith) (omega arith) (omega arith) (omega arith) (omega arith) (omega arith) (omega arith) (omega arith)

  lines_short : (n : ℕ) → n ≤ 4096 → length (lines_below m ρ n) ≤ n * 13
  lines_short zero h = omega arith
  lines_short (suc n) h = omega (arith, lines_longer m ρ n, line_short n (omega arith), lines_short n (omega arith))

  -- THE LONGEST LISTING
  pub listing_short : length (listing_text m ρ) ≤ longest
  listing_short = go (first_below (lost_start m ρ.rank) m.size) (λ s e. (first_is (lost_start m ρ.rank) m.size s e).below)
    where
      top : ℕ
      top = highest (start_rank m ρ.rank) m.size

      started : (b : Bool) (s r : ℕ) → cond b (ρ.rank s) None ≡ Some r → r ≤ 4096
      started true s r e = ranks s r e
      started false s r e = absurd (none_some refl e)

      low : top ≤ 4096
      low = highest_le (start_rank m ρ.rank) m.size 4096 (λ s r lt e. started (m.start s) s r e)

      go : (o : Option ℕ) → ((s : ℕ) → o ≡ Some s → s < m.size) → length (text_after m ρ (verdict o top)) ≤ longest
      go None in' =
          omega (arith, low, count_le 4 (codes "HELD ") top (omega arith) (omega (arith, low)) (omega (arith, low)), length-append (count_line (codes "HELD ") top) (lines_below m ρ m.size), lines_short m.size few)
      go (Some s) in' =
          let lt : s < m.size = in' s refl in
          omega (arith, count_le 4 (codes "LOST ") s (omega arith) (omega arith) (omega arith))

-- in every lawful game of at most 4,096 states, under any bars
pub plan_short : (m : Meaning) → Lawful m → m.size ≤ 4096 → (b : Bars) → length (listing_text m (ranking m b)) ≤ longest
plan_short m ok few b =
    listing_short m (ranking m b) few
    (λ s l e. let c = choice_is m ok b s l e in omega (arith, label_low m ok s l c.to c.step.1, ok.few))
    (λ s r e. omega (arith, (rank_is m ok b s r e).below))
