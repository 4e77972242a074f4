-- What the tests below a bound tell.
use Rattle.std.proofs.Common.{◌≡◌, ℕ, zero, suc, ◌+◌, ◌<◌, ◌≤◌, Bool, true, false, cond, ◌⊎◌, is_some as option_is_some, Some, None, Decides, Option, unwrap_or, sym, refl, ap, ◌∙◌, inl, inr, ⊎_elim, add-one, arith}
use Rattle.std.proofs.lemmas.Bool.Decides.{Decides-below_and, Decides-below_or}
use Rattle.std.proofs.lemmas.Bool.{eqb-true, eq-eqb, and_from, or_from, cases_Bool, cases_lt, cond-true, cond-false, false≢true, both_ways}
use Rattle.game.specs.Ranks.{is, leads_to}
use Rattle.game.specs.Search.{some_below, all_below, first_below, first_of, count_below, highest, or_else}

pub some_decides : (p : ℕ → Bool) (n : ℕ) → Decides (some_below p n) ((k : ℕ) × (k < n) × (p k ≡ true))
some_decides p n = Decides-below_or p (λ k. p k ≡ true) (some_below p) (λ k. (λ e. e, λ e. e)) refl (λ _. refl) n

pub all_decides : (p : ℕ → Bool) (n : ℕ) → Decides (all_below p n) ((k : ℕ) → k < n → p k ≡ true)
all_decides p n = Decides-below_and p (λ k. p k ≡ true) (all_below p) (λ k. (λ e. e, λ e. e)) refl (λ _. refl) n

pub option_cases : {A : Type 0} (o : Option A) → (o ≡ None) ⊎ ((x : A) × (o ≡ Some x))
option_cases None = inl refl
option_cases (Some x) = inr (x, refl)

pub none_some : {A : Type 0} {o : Option A} {x : A} → o ≡ None → o ≡ Some x → ⊥
none_some e f = let z : ◌≡◌ {A = ℕ} 0 1 = cc in omega arith

pub same_some : {A : Type 0} {o : Option A} {x y : A} → o ≡ Some x → o ≡ Some y → x ≡ y
same_some e f = cc

-- k is the lowest number below n that passes p
pub record Lowest (p : ℕ → Bool) (n k : ℕ) : Type 0 where
  pub passes : p k ≡ true
  pub below : k < n
  pub lowest : (j : ℕ) → j < k → p j ≡ false

pub first_none : (p : ℕ → Bool) (n : ℕ) → first_below p n ≡ None → (j : ℕ) → j < n → p j ≡ false
first_none p zero e j h = absurd (omega arith)
first_none p (suc n) e j h =
    ⊎_elim
    (λ none. ⊎_elim
    (λ yes'. absurd (none_some e (ap (λ o. or_else o (cond (p n) (Some n) None)) none ∙ cond-true (p n) (Some n) None yes')))
    (λ no'. ⊎_elim (λ lt. first_none p n none j lt) (λ ge. let same : j ≡ n = omega arith in ap p same ∙ no') (cases_lt j n))
    (cases_Bool (p n)))
    (λ some. absurd (none_some e (ap (λ o. or_else o (cond (p n) (Some n) None)) some.1)))
    (option_cases (first_below p n))

pub first_is : (p : ℕ → Bool) (n k : ℕ) → first_below p n ≡ Some k → Lowest p n k
first_is p zero k e = absurd (none_some refl e)
first_is p (suc n) k e =
    ⊎_elim
    (λ none. ⊎_elim
    (λ yes'.
    let same : n ≡ k = same_some (ap (λ o. or_else o (cond (p n) (Some n) None)) none ∙ cond-true (p n) (Some n) None yes') e in
    record { passes = ap p (sym same) ∙ yes'; below = omega arith; lowest = λ j h. first_none p n none j (omega arith) })
    (λ no'. absurd (none_some (ap (λ o. or_else o (cond (p n) (Some n) None)) none ∙ cond-false (p n) (Some n) None no') e))
    (cases_Bool (p n)))
    (λ some.
    let same : some.0 ≡ k = same_some (ap (λ o. or_else o (cond (p n) (Some n) None)) some.1) e in
    let less = first_is p n k (some.1 ∙ ap Some same) in
    record { passes = less.passes; below = omega (arith, less.below); lowest = less.lowest })
    (option_cases (first_below p n))

pub first_some : (p : ℕ → Bool) (n k : ℕ) → k < n → p k ≡ true → (j : ℕ) × (first_below p n ≡ Some j) × (j ≤ k)
first_some p n k h e =
    ⊎_elim
    (λ none. absurd (both_ways (p k) (first_none p n none k h) e))
    (λ some. (some.0, some.1, ⊎_elim (λ lt. absurd (both_ways (p k) ((first_is p n some.0 some.1).lowest k lt) e)) (λ ge. ge) (cases_lt k some.0)))
    (option_cases (first_below p n))

pub one_le : (b c : Bool) → (b ≡ true → c ≡ true) → cond b 1 0 ≤ cond c 1 0
one_le true true h = omega arith
one_le true false h = absurd (false≢true (h refl))
one_le false true h = omega arith
one_le false false h = omega arith

pub one_same : (b c : Bool) → (b ≡ true → c ≡ true) → cond c 1 0 ≤ cond b 1 0 → c ≡ true → b ≡ true
one_same true c h le e = refl
one_same false true h le e = absurd (omega arith)
one_same false false h le e = e

pub one_small : (b : Bool) → cond b 1 0 ≤ 1
one_small true = omega arith
one_small false = omega arith

pub count_le : (p : ℕ → Bool) (n : ℕ) → count_below p n ≤ n
count_le p zero = omega arith
count_le p (suc n) = omega (arith, count_le p n, one_small (p n))

pub count_mono : (p q : ℕ → Bool) (n : ℕ) → ((k : ℕ) → p k ≡ true → q k ≡ true) → count_below p n ≤ count_below q n
count_mono p q zero h = omega arith
count_mono p q (suc n) h = omega (arith, count_mono p q n h, one_le (p n) (q n) (h n))

pub count_same : (p q : ℕ → Bool) (n : ℕ) → ((k : ℕ) → p k ≡ true → q k ≡ true) → count_below q n ≤ count_below p n → (k : ℕ) → k < n → q k ≡ true → p k ≡ true
count_same p q zero h le k lt e = absurd (omega arith)
count_same p q (suc n) h le k lt e =
    let rest = count_mono p q n h in
    let top = one_le (p n) (q n) (h n) in
    ⊎_elim
    (λ less. count_same p q n h (omega arith) k less e)
    (λ ge. let same : k ≡ n = omega arith in ap p same ∙ one_same (p n) (q n) (h n) (omega arith) (ap q (sym same) ∙ e))
    (cases_lt k n)

-- equal tests have one lowest number
pub first_same : (p q : ℕ → Bool) (n : ℕ) → ((k : ℕ) → k < n → p k ≡ q k) → first_below p n ≡ first_below q n
first_same p q zero h = refl
first_same p q (suc n) h = ap (λ o. or_else o (cond (p n) (Some n) None)) (first_same p q n (λ k lt. h k (omega arith))) ∙ ap (λ t. or_else (first_below q n) (cond t (Some n) None)) (h n (omega arith))

-- What is said of a value that may be missing.

pub some_is : {A : Type 0} {o : Option A} {x : A} → o ≡ Some x → option_is_some o ≡ true
some_is e = ap option_is_some e

pub is_some : {A : Type 0} (o : Option A) → option_is_some o ≡ true → (x : A) × (o ≡ Some x)
is_some None e = absurd (both_ways false refl e)
is_some (Some x) e = (x, refl)

pub is_eq : (o : Option ℕ) (q : ℕ) → is o q ≡ true → o ≡ Some q
is_eq None q e = absurd (both_ways false refl e)
is_eq (Some r) q e = ap Some (eqb-true r q e)

pub eq_is : (o : Option ℕ) (q : ℕ) → o ≡ Some q → is o q ≡ true
eq_is o q e = ap (λ x. is x q) e ∙ eq-eqb q q refl

pub reaches_from : (o : Option ℕ) (p : ℕ → Bool) (t : ℕ) → o ≡ Some t → p t ≡ true → leads_to o p ≡ true
reaches_from o p t e f = ap (λ x. leads_to x p) e ∙ f

pub reaches_to : (o : Option ℕ) (p : ℕ → Bool) → leads_to o p ≡ true → (t : ℕ) × (o ≡ Some t) × (p t ≡ true)
reaches_to None p e = absurd (both_ways false refl e)
reaches_to (Some t) p e = (t, refl, e)

or_none : {A : Type 0} (a b : Option A) → or_else a b ≡ None → (a ≡ None) × (b ≡ None)
or_none None b e = (refl, e)
or_none (Some x) b e = absurd (none_some e refl)

pub first_of_none : {A : Type 0} (f : ℕ → Option A) (n : ℕ) → first_of f n ≡ None → (k : ℕ) → k < n → f k ≡ None
first_of_none f zero e k h = absurd (omega arith)
first_of_none f (suc n) e k h =
    let both = or_none (first_of f n) (f n) e in
    ⊎_elim (λ lt. first_of_none f n both.0 k lt) (λ ge. let same : k ≡ n = omega arith in ap f same ∙ both.1) (cases_lt k n)

pub first_of_is : {A : Type 0} (f : ℕ → Option A) (n : ℕ) (x : A) → first_of f n ≡ Some x → (k : ℕ) × (k < n) × (f k ≡ Some x) × ((j : ℕ) → j < k → f j ≡ None)
first_of_is f zero x e = absurd (none_some refl e)
first_of_is f (suc n) x e =
    ⊎_elim
    (λ none. (n, omega arith, sym (ap (λ o. or_else o (f n)) none) ∙ e, first_of_none f n none))
    (λ some.
    let same : first_of f n ≡ Some x = some.1 ∙ sym (ap (λ o. or_else o (f n)) some.1) ∙ e in
    let at = first_of_is f n x same in
    let lt = at.1 in
    (at.0, omega (arith, lt), at.2, at.3))
    (option_cases (first_of f n))

pub first_of_all : {A : Type 0} (f : ℕ → Option A) (n : ℕ) → ((k : ℕ) → k < n → f k ≡ None) → first_of f n ≡ None
first_of_all f zero h = refl
first_of_all f (suc n) h = ap (λ o. or_else o (f n)) (first_of_all f n (λ k lt. h k (omega arith))) ∙ h n (omega arith)

-- no number below n passes
pub first_all : (p : ℕ → Bool) (n : ℕ) → ((k : ℕ) → k < n → p k ≡ false) → first_below p n ≡ None
first_all p n h = ⊎_elim (λ e. e) (λ some. let is' = first_is p n some.0 some.1 in absurd (both_ways _ (h some.0 is'.below) is'.passes)) (option_cases (first_below p n))

pub highest_ge : (f : ℕ → Option ℕ) (n k r : ℕ) → k < n → f k ≡ Some r → r ≤ highest f n
highest_ge f zero k r h e = absurd (omega arith)
highest_ge f (suc n) k r h e =
    ⊎_elim
    (λ lt. omega (arith, highest_ge f n k r lt e))
    (λ ge. let same : n ≡ k = omega arith in let top : unwrap_or (f n) 0 ≡ r = ap (λ i. unwrap_or (f i) 0) same ∙ ap (λ o. unwrap_or o 0) e in omega arith)
    (cases_lt k n)

pub highest_le : (f : ℕ → Option ℕ) (n top : ℕ) → ((k r : ℕ) → k < n → f k ≡ Some r → r ≤ top) → highest f n ≤ top
highest_le f zero top h = omega arith
highest_le f (suc n) top h =
    let rest = highest_le f n top (λ k r lt e. h k r (omega arith) e) in
    let here : unwrap_or (f n) 0 ≤ top = go (f n) refl in
    omega arith
  where
    go : (o : Option ℕ) → f n ≡ o → unwrap_or o 0 ≤ top
    go None e = omega arith
    go (Some r) e = h n r (omega arith) e

-- One number more, as a loop goes on.

pub none_more : (p : ℕ → Bool) (i : ℕ) → first_below p i ≡ None → p i ≡ false → first_below p (i + 1) ≡ None
none_more p i e f = ap (first_below p) (add-one i) ∙ ap (λ o. or_else o (cond (p i) (Some i) None)) e ∙ cond-false (p i) (Some i) None f

pub found : (p : ℕ → Bool) (i n : ℕ) → first_below p i ≡ None → p i ≡ true → i < n → Some i ≡ first_below p n
found p i n e t h =
    let got = first_some p n i h t in
    let is = first_is p n got.0 got.1 in
    let same : got.0 ≡ i = ⊎_elim (λ lt. absurd (both_ways _ (first_none p i e got.0 lt) is.passes)) (λ ge. omega (arith, got.2)) (cases_lt got.0 i) in
    sym (got.1 ∙ ap Some same)

pub all_more : (p : ℕ → Bool) (i : ℕ) → all_below p i ≡ true → p i ≡ true → all_below p (i + 1) ≡ true
all_more p i e f = ap (all_below p) (add-one i) ∙ and_from (p i) _ f e

pub all_fails : (p : ℕ → Bool) (i n : ℕ) → i < n → p i ≡ false → all_below p n ≡ false
all_fails p i n h f = ⊎_elim (λ t. absurd (both_ways _ f ((all_decides p n).0 t i h))) (λ no'. no') (cases_Bool (all_below p n))

pub some_none_more : (p : ℕ → Bool) (i : ℕ) → some_below p i ≡ false → p i ≡ false → some_below p (i + 1) ≡ false
some_none_more p i e f = ap (some_below p) (add-one i) ∙ or_from (p i) (some_below p i) f e

pub some_found : (p : ℕ → Bool) (i n : ℕ) → i < n → p i ≡ true → true ≡ some_below p n
some_found p i n h e = sym ((some_decides p n).1 (i, h, e))

pub first_of_more : {A : Type 0} (f : ℕ → Option A) (i : ℕ) → first_of f i ≡ None → f i ≡ None → first_of f (i + 1) ≡ None
first_of_more f i e n = ap (first_of f) (add-one i) ∙ ap (λ o. or_else o (f i)) e ∙ n

pub first_of_found : {A : Type 0} (f : ℕ → Option A) (i n : ℕ) (x : A) → first_of f i ≡ None → f i ≡ Some x → i < n → Some x ≡ first_of f n
first_of_found f i zero x e s h = absurd (omega arith)
first_of_found f i (suc n) x e s h =
    ⊎_elim
    (λ lt. sym (ap (λ o. or_else o (f n)) (sym (first_of_found f i n x e s lt))))
    (λ ge. let same : i ≡ n = omega arith in sym (ap (λ o. or_else o (f n)) (ap (first_of f) (sym same) ∙ e) ∙ ap f (sym same) ∙ s))
    (cases_lt i n)

pub count_equal : (p q : ℕ → Bool) (n : ℕ) → ((k : ℕ) → k < n → p k ≡ q k) → count_below p n ≡ count_below q n
count_equal p q zero h = refl
count_equal p q (suc n) h = ap (λ t. cond t 1 0 + count_below p n) (h n (omega arith)) ∙ ap (λ r. cond (q n) 1 0 + r) (count_equal p q n (λ k lt. h k (omega arith)))

pub some_first : (p : ℕ → Bool) (n : ℕ) → some_below p n ≡ option_is_some (first_below p n)
some_first p n =
    ⊎_elim
    (λ none. ⊎_elim (λ yes'. let got = (some_decides p n).0 yes' in absurd (both_ways _ (first_none p n none got.0 got.1) got.2)) (λ no'. no' ∙ sym (ap option_is_some none)) (cases_Bool (some_below p n)))
    (λ some. let is = first_is p n some.0 some.1 in (some_decides p n).1 (some.0, is.below, is.passes) ∙ sym (ap option_is_some some.1))
    (option_cases (first_below p n))

pub same_first : (p : ℕ → Bool) (n n' r j : ℕ) → first_below p n ≡ Some r → first_below p n' ≡ Some j → r ≡ j
same_first p n n' r j e f =
    let a = first_is p n r e in
    let c = first_is p n' j f in
    ⊎_elim
    (λ lt. absurd (both_ways _ (c.lowest r lt) a.passes))
    (λ ge. ⊎_elim (λ lt. absurd (both_ways _ (a.lowest j lt) c.passes)) (λ le. omega arith) (cases_lt j r))
    (cases_lt r j)
