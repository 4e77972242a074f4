-- What searches and tests of the library find, in the words of the theory.
use Rattle.std.proofs.Common.{◌≡◌, ℕ, zero, suc, ◌+◌, ◌<◌, ◌≤◌, max, [], ◌∷◌, ◌++◌, Bool, true, false, Some, None, Option, ◌==◌, unwrap_or, refl, sym, ap, ◌∙◌, ⊎_elim, arith}
use Rattle.std.proofs.lemmas.Bool.{cases_lt, eq-eqb, ne_eqb}
use Rattle.std.specs.List.{fold, range_with_len}
use Rattle.std.proofs.lemmas.List.Sums.{fold-append}
use Rattle.std.specs.Option.{MatchOption, IsSomeAnd, option_map}
use Rattle.game.specs.Search.{all_below, highest}
use Rattle.game.specs.Ranks.{leads_to, none_or}
use Rattle.game.proofs.Searches.{all_decides, all_fails}

-- a test of the value, if there is one
pub if_some : (o : Option ℕ) (p : ℕ → Bool) (r : Bool) (P : ℕ → Type 0) → MatchOption o (r ≡ false) P → ((x : ℕ) → P x → r ≡ p x) → r ≡ leads_to o p
if_some None p r P h is = h
if_some (Some x) p r P h is = is x h

pub or_none : (o : Option ℕ) (p : ℕ → Bool) (r : Bool) (P : ℕ → Type 0) → MatchOption o (r ≡ true) P → ((x : ℕ) → P x → r ≡ p x) → r ≡ none_or o p
or_none None p r P h is = h
or_none (Some x) p r P h is = is x h

-- a map of the value, if there is one
pub map_some : {A : Type 0} (o : Option ℕ) (f : ℕ → A) (r : Option A) (P : ℕ → A → Type 0) → MatchOption o (r ≡ None) (λ x. IsSomeAnd r (P x)) → ((x : ℕ) (y : A) → P x y → y ≡ f x) → r ≡ option_map f o
map_some None f r P h is = h
map_some (Some x) f None P h is = absurd h
map_some (Some x) f (Some y) P h is = ap Some (is x y h)

-- what it is that all below x pass, and no more than can be below n
pub record Passes (q : ℕ → Bool) (n x : ℕ) : Type 0 where
  pub few : x ≤ n
  pub passes : all_below q x ≡ true
  pub value : (x == n) ≡ all_below q n

-- all below i pass: the first from i on that does not, and else n
pub stop_in : (q : ℕ → Bool) (i n : ℕ) (r : Option ℕ) → i ≤ n → all_below q i ≡ true → MatchOption r ((k : ℕ) → i ≤ k → k < n → q k ≡ true) (λ j. (i ≤ j) × (j < n) × (q j ≡ false) × ((k : ℕ) → i ≤ k → k < j → q k ≡ true)) → Passes q n (unwrap_or r n)
stop_in q i n None le e h = record { few = omega arith; passes = all; value = eq-eqb n n refl ∙ sym all }
  where
    all : all_below q n ≡ true
    all = (all_decides q n).1 (λ k lt. ⊎_elim (λ less. (all_decides q i).0 e k less) (λ ge. h k ge lt) (cases_lt k i))
stop_in q i n (Some j) le e h = record {
  few = omega (arith, h.1);
  passes = (all_decides q j).1 (λ k lt. ⊎_elim (λ less. (all_decides q i).0 e k less) (λ ge. h.3 k ge lt) (cases_lt k i));
  value = ne_eqb j n (λ z. omega (arith, h.1)) ∙ sym (all_fails q j n h.1 h.2);
}

-- one number more at the end of a range
range_more : (a n : ℕ) → range_with_len a (suc n) ≡ range_with_len a n ++ (a + n) ∷ []
range_more a zero = ap (λ x. x ∷ []) (let z : a ≡ a + 0 = omega arith in z)
range_more a (suc n) = ap (λ xs. a ∷ xs) (range_more (a + 1) n ∙ ap (λ x. range_with_len (a + 1) n ++ x ∷ []) (let z : a + 1 + n ≡ a + suc n = omega arith in z))

-- the highest value, as one number after the other is looked at
pub highest_in : (f : ℕ → Option ℕ) (n : ℕ) → fold (λ top s. max top (unwrap_or (f s) 0)) 0 (range_with_len 0 n) ≡ highest f n
highest_in f zero = refl
highest_in f (suc n) =
    let h : ℕ → ℕ → ℕ = λ top s. max top (unwrap_or (f s) 0) in
    let more : range_with_len 0 (suc n) ≡ range_with_len 0 n ++ n ∷ [] = range_more 0 n ∙ ap (λ x. range_with_len 0 n ++ x ∷ []) (let z : 0 + n ≡ n = omega arith in z) in
    ap (fold h 0) more ∙ fold-append h 0 (range_with_len 0 n) (n ∷ []) ∙ ap (λ x. max x (unwrap_or (f n) 0)) (highest_in f n) ∙ omega arith
