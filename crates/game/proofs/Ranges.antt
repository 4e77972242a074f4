-- What `any`, `find` and `find_map` answer over the numbers below a bound.
use Rattle.std.proofs.Common.{◌≡◌, ℕ, zero, suc, ◌+◌, ◌-◌, ◌<◌, ◌≤◌, Bool, true, false, cond, ◌||◌, Some, None, Option, Bor, sym, refl, ap, ◌∙◌, subst, add-one, zero-add, arith}
use Rattle.std.proofs.Math.Bool.{or-false, or_assoc, or_comm}
use Rattle.std.proofs.lemmas.Iterator.Adapters.{option_map_id}
use denote.Param.Members.{Mut}
use Rattle.std.specs.declared.ops.Range.{Range}
use Rattle.std.specs.Prelude.{IfSome, IsSomeAnd}
use Rattle.std.specs.Fn.{Called, CalledAt}
use Rattle.std.specs.Iterator.{ChecksAny, FindsItem}
use Rattle.std.specs.Iterator.Runs.{SomeRun, AllItemsGive, IsFirstToGive}
use Rattle.std.specs.List.{range_with_len, list_any}
use Rattle.std.specs.Option.{MatchOption, option_map}
use Rattle.std.proofs.iter.Yields.{nat_range_steps}
use Rattle.std.proofs.iter.runs.Sources.{range_runs}
use Rattle.std.proofs.lemmas.Iterator.{YieldsList-from_range, first_from_Range}
use Rattle.std.proofs.lemmas.Iterator.Search.{any_from_yields_List}
use Rattle.game.specs.Search.{some_below, first_below, first_of}
use Rattle.game.proofs.Searches.{first_all, found, first_of_all, first_of_found}

-- the numbers below a, and n more
some_on : (p : ℕ → Bool) (a n : ℕ) → (list_any p (range_with_len a n) || some_below p a) ≡ some_below p (a + n)
some_on p a zero = let e : a ≡ a + 0 = omega arith in ap (some_below p) e
some_on p a (suc n) =
    let e : a + 1 + n ≡ a + suc n = omega arith in
    let rest : Bool = list_any p (range_with_len (a + 1) n) in
    ap (λ t. t || some_below p a) (or_comm (p a) rest) ∙ or_assoc rest (p a) (some_below p a) ∙ ap (λ k. rest || some_below p k) (sym (add-one a)) ∙ some_on p (a + 1) n ∙ ap (some_below p) e

-- the first number of a range that passes
first_in : (p : ℕ → Bool) (n : ℕ) (r : Option ℕ) → MatchOption r ((k : ℕ) → 0 ≤ k → k < n → p k ≡ false) (λ i. (0 ≤ i) × (i < n) × (p i ≡ true) × ((k : ℕ) → 0 ≤ k → k < i → p k ≡ false)) → r ≡ first_below p n
first_in p n None h = sym (first_all p n (λ k lt. h k (omega arith) lt))
first_in p n (Some i) h = found p i n (first_all p i (λ k lt. h.3 k (omega arith) lt)) h.2 h.1

at_is : (o : Option ℕ) (k : ℕ) → option_map (λ x. x) o ≡ Some k → o ≡ Some k
at_is o k is = sym (option_map_id o) ∙ is

module _ {F : Type 0} (f : F) (e n : ℕ) (end' : e ≡ n) where
  pub any_below : {g : Mut F (ℕ × Unit {0}) Bool} (p : ℕ → Bool) (u : Range ℕ) (r : Bool) → ChecksAny nat_range_steps g (record { start = 0; end = e }) f r u → ((x : ℕ) (b : Bool) (f' : F) → Called g f (x, tt) b f' → (f' ≡ f) × (b ≡ p x)) → r ≡ some_below p n
  any_below p u r ran calls =
      let long : e - 0 ≡ n = omega arith in
      any_from_yields_List p u f r ran (YieldsList-from_range 0 e n refl long) calls ∙ sym (or-false _) ∙ some_on p 0 n ∙ ap (some_below p) (zero-add n)

  pub find_below : {g : Mut F (Bor ℕ × Unit {0}) Bool} (p : ℕ → Bool) (u : Range ℕ) (r : Option ℕ) → FindsItem nat_range_steps g (record { start = 0; end = e }) f r u → ((x : ℕ) (b : Bool) (f' : F) → CalledAt g f x b f' → (f' ≡ f) × (b ≡ p x)) → r ≡ first_below p n
  find_below p u r ran calls = first_in p e r (first_from_Range _ u f r (λ k. p k ≡ true) (λ k. p k ≡ false) ran (λ x q k. sym (calls x true q k).1) (λ x q k. ((calls x false q k).0, sym (calls x false q k).1))) ∙ ap (first_below p) end'

  -- what `find_map` ensures, over a range
  pub find_map_below : {A : Type 0} {g : Mut F (ℕ × Unit {0}) (Option A)} (h : ℕ → Option A) (r : Option A) → SomeRun nat_range_steps (record { start = 0; end = e }) (λ p. MatchOption r ((p.whole ≡ true) × AllItemsGive p g f None) (λ y. (i : ℕ) × (i < p.len) × (p.len ≡ i + 1) × IsFirstToGive p g f (Some y) None i)) → ((x : ℕ) (o : Option A) (f' : F) → Called g f (x, tt) o f' → (f' ≡ f) × (o ≡ h x)) → r ≡ first_of h n
  find_map_below {g = g} h None (p, from, ends) calls =
      let (w, each) = ends in
      let went = range_runs p p.seen in
      let begin' : p.from.start ≡ 0 = ap (λ s. s.start) from in
      let stop : p.from.end ≡ e = ap (λ s. s.end) from in
      let long : p.len ≡ n = omega (arith, went.1 w) in
      sym (first_of_all h n (λ k lt.
      let here : p.at k ≡ Some k = at_is _ k (went.3 k (omega arith) ∙ ap Some (omega arith)) in
      sym (calls k None f (subst (λ o. IfSome o (λ x. Called g f (x, tt) None f)) here (each (λ a r f' c. (calls a.0 r f' c).0) k))).1))
  find_map_below {g = g} h (Some y) (p, from, ends) calls =
      let (i, lt, long, first) = ends in
      let went = range_runs p p.seen in
      let begin' : p.from.start ≡ 0 = ap (λ s. s.start) from in
      let stop : p.from.end ≡ e = ap (λ s. s.end) from in
      let here : (k : ℕ) → k < p.len → p.at k ≡ Some k = λ k lt. at_is _ k (went.3 k lt ∙ ap Some (omega arith)) in
      let (hit, miss) = first (λ a r f' c. (calls a.0 r f' c).0) in
      let before : (k : ℕ) → k < i → h k ≡ None = λ k lt. sym (calls k None f (subst (λ o. IsSomeAnd o (λ x. Called g f (x, tt) None f)) (here k (omega arith)) (miss k lt))).1 in
      first_of_found h i n y (first_of_all h i before) (sym (calls i (Some y) f (subst (λ o. IsSomeAnd o (λ x. Called g f (x, tt) (Some y) f)) (here i lt) hit)).1) (omega (arith, went.0))
