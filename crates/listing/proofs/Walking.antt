-- A walk that queues each state it reaches marks exactly those that are reached.
use Rattle.std.proofs.Common.{◌≡◌, ℕ, zero, suc, ◌+◌, ◌<◌, ◌≤◌, Bool, true, false, List, [], ◌∷◌, ◌++◌, length, get_or, set, replicate, Some, sym, refl, ap, ◌∙◌, subst, ⊎_elim, arith, length-append, get_or-set_other, get_or-set_same}
use Rattle.std.proofs.Math.Bool.{Bool-set}
use Rattle.std.proofs.Math.ListN.{get_or-append}
use Rattle.std.proofs.Math.Logic.{∥∥₁_elim, ∥∥₁_map}
use Rattle.std.proofs.Math.Seq.{get_or-append_seam}
use Rattle.std.proofs.lemmas.Bool.{cases_Bool, cases_lt, cases_eq, both_ways}
use Rattle.std.proofs.lemmas.Grind.{merely, not_there}
use Rattle.game.specs.Meaning.{Meaning, Lawful}
use Rattle.game.specs.Search.{count_below}
use Rattle.game.proofs.Searches.{count_le, count_same}
use Rattle.law.specs.Answers.{Ranking}
use Rattle.listing.specs.Reach.{Reaches, follow, reached}
use Rattle.listing.specs.Walks.{marked, Walking, Later, Followed, Marked}
use Rattle.listing.proofs.Reached.{closed, reached_inside, reached_reaches, reaches_reached}

-- one more passes
count_more : (p q : ℕ → Bool) (n t : ℕ) → ((k : ℕ) → p k ≡ true → q k ≡ true) → t < n → p t ≡ false → q t ≡ true → count_below p n < count_below q n
count_more p q n t h lt no' yes' =
    ⊎_elim (λ less. less) (λ ge. absurd (both_ways (p t) no' (count_same p q n h ge t lt yes'))) (cases_lt (count_below p n) (count_below q n))

-- one that does not pass leaves room
count_room : (p : ℕ → Bool) (n t : ℕ) → t < n → p t ≡ false → count_below p n < n
count_room p n t lt no' = omega (arith, count_more p (λ _. true) n t (λ k e. refl) lt no' refl, count_le (λ _. true) n)

-- no place of a blank table is marked
pub blank : (n t : ℕ) → marked (replicate n false) t ≡ false
blank zero t = refl
blank (suc n) zero = refl
blank (suc n) (suc t) = blank n t

-- A state is put into the queue.
module _ (q : List ℕ) (s : List Bool) (t : ℕ) (place : t < length s) where
  mark_here : marked (set s t true) t ≡ true
  mark_here = get_or-set_same s t true false place

  mark_other : (u : ℕ) → (u ≡ t → ⊥) → marked (set s t true) u ≡ marked s u
  mark_other u ne = get_or-set_other s t u true false ne

  mark_grows : (u : ℕ) → marked s u ≡ true → marked (set s t true) u ≡ true
  mark_grows u e = ⊎_elim (λ same. ap (marked (set s t true)) same ∙ mark_here) (λ ne. mark_other u ne ∙ e) (cases_eq u t)

  longer : length (q ++ t ∷ []) ≡ length q + 1
  longer = length-append q (t ∷ [])

  keeps : (j : ℕ) → j < length q → get_or (q ++ t ∷ []) j 0 ≡ get_or q j 0
  keeps j lt = get_or-append q (t ∷ []) 0 j lt

  pushed_later : {P : Type 0} (p : P) → Later p q s p (q ++ t ∷ []) (set s t true)
  pushed_later p = record { same = refl; keeps = keeps; grows = mark_grows; longer = omega (arith, longer) }

  pushed_on : (m : Meaning) (ρ : Ranking) → t < m.size → Reaches m ρ t → marked s t ≡ false → Walking m ρ q s → Walking m ρ (q ++ t ∷ []) (set s t true)
  pushed_on m ρ in' r new w = record {
    sound = λ u e. ⊎_elim (λ same. subst (Reaches m ρ) (sym same) r) (λ ne. w.sound u (sym (mark_other u ne) ∙ e)) (cases_eq u t);
    counted = omega (arith, longer, w.counted, count_more (marked s) (marked (set s t true)) m.size t mark_grows in' new mark_here);
    lined = λ j lt. ⊎_elim
        (λ less. ap (marked (set s t true)) (keeps j less) ∙ mark_grows (get_or q j 0) (w.lined j less))
        (λ ge. let same : j ≡ length q = omega (arith, longer) in ap (λ x. marked (set s t true) (get_or (q ++ t ∷ []) x 0)) same ∙ ap (marked (set s t true)) (get_or-append_seam q t [] 0) ∙ mark_here)
        (cases_lt j (length q));
    stands = λ u e. ⊎_elim
        (λ same. (length q, omega (arith, longer), get_or-append_seam q t [] 0 ∙ sym same))
        (λ ne. let at = w.stands u (sym (mark_other u ne) ∙ e) in (at.0, omega (arith, longer, at.1), keeps at.0 at.1 ∙ at.2))
        (cases_eq u t);
  }

-- What follows from a fact that merely holds.
merely_same : {P : Type 0} {a b : Bool} → ∥ P ∥₁ → (P → a ≡ b) → a ≡ b
merely_same {P} {a} {b} w f = ∥∥₁_elim w (Bool-set a b) f

merely_less : {P : Type 0} {a b : ℕ} → ∥ P ∥₁ → (P → a < b) → a < b
merely_less {P} {a} {b} w f = ⊎_elim (λ lt. lt) (λ ge. absurd (not_there w (λ p. omega (arith, f p)))) (cases_lt a b)

-- what a visit of a new state leaves
pub record Visited {P : Type 0} (m : Meaning) (ρ : Ranking) (plan : P) (q : List ℕ) (s : List Bool) (t : ℕ) (q' : List ℕ) : Type 0 where
  pub walking : ∥ Walking m ρ q' (set s t true) ∥₁
  pub later : Later plan q s plan q' (set s t true)
  pub here : marked (set s t true) t ≡ true

module _ (m : Meaning) (ok : Lawful m) (ρ : Ranking) (q : List ℕ) (s : List Bool) (walk : ∥ Walking m ρ q s ∥₁) where
  pub walk_few : length q ≤ m.size
  walk_few = let few : length q < m.size + 1 = merely_less walk (λ w. omega (arith, w.counted, count_le (marked s) m.size)) in omega arith

  -- a state that is not seen yet finds room
  pub walk_room : (t : ℕ) → reached m ρ t ≡ true → marked s t ≡ false → length q < m.size
  walk_room t is new = merely_less walk (λ w. omega (arith, w.counted, count_room (marked s) m.size t (reached_inside m ok ρ t is) new))

  pub visited : {P : Type 0} (plan : P) → m.size ≤ 4096 → length s ≡ 4096 → (t : ℕ) → reached m ρ t ≡ true → marked s t ≡ false → (q' : List ℕ) → q' ≡ q ++ t ∷ [] → Visited m ρ plan q s t q'
  visited plan few marks t is new q' push =
      let in' = reached_inside m ok ρ t is in
      let place : t < length s = omega (arith, in', few, marks) in
      record {
        walking = subst (λ (q : List ℕ). ∥ Walking m ρ q (set s t true) ∥₁) (sym push) (∥∥₁_map walk (λ w. pushed_on q s t place m ρ in' (reached_reaches m ok ρ t is) new w));
        later = subst (λ (q' : List ℕ). Later plan q s plan q' (set s t true)) (sym push) (pushed_later q s t place plan);
        here = mark_here q s t place;
      }

  pub walk_sound : (j : ℕ) → j < length q → reached m ρ (get_or q j 0) ≡ true
  walk_sound j lt = merely_same walk (λ w. reaches_reached m ok ρ (get_or q j 0) (w.sound (get_or q j 0) (w.lined j lt)))

  -- a walk that has followed all that it queued has reached all
  pub walked : ((t : ℕ) → m.start t ≡ true → marked s t ≡ true) → ((j : ℕ) → j < length q → Followed m ρ s (get_or q j 0)) → Marked m ρ s
  walked starts done t = merely_same walk (λ w. by w)
    where
      moves : Walking m ρ q s → (u l t : ℕ) → marked s u ≡ true → follow m ρ u l ≡ Some t → marked s t ≡ true
      moves w u l t e f = let at = w.stands u e in done at.0 at.1 l t (ap (λ x. follow m ρ x l) at.2 ∙ f)

      by : Walking m ρ q s → marked s t ≡ reached m ρ t
      by w = ⊎_elim
          (λ r. closed m ok ρ (marked s) starts (moves w) t r ∙ sym r)
          (λ no'. ⊎_elim (λ e. absurd (both_ways _ no' (reaches_reached m ok ρ t (w.sound t e)))) (λ e. e ∙ sym no') (cases_Bool (marked s t)))
          (cases_Bool (reached m ρ t))

-- an empty walk
pub walk_none : (m : Meaning) (ρ : Ranking) (s : List Bool) → ((t : ℕ) → marked s t ≡ false) → ∥ Walking m ρ [] s ∥₁
walk_none m ρ s none = merely (record {
  sound = λ t e. absurd (both_ways _ (none t) e);
  counted = omega arith;
  lined = λ j lt. absurd (omega arith);
  stands = λ t e. absurd (both_ways _ (none t) e);
})
