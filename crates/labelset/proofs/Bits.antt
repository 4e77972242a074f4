-- The bits of a set of labels.
use Rattle.std.proofs.Common.{◌≡◌, ℕ, zero, suc, ◌+◌, ◌*◌, ◌-◌, ◌/◌, ◌%◌, ◌^◌, ◌<◌, ◌≤◌, Bool, true, false, cond, ◌||◌, max, eqb, bit_and, bit_or, w64, sym, refl, ap, ◌∙◌, ⊎_elim, one-mul, zero-mul, arith}
use lib.Count.{ones}
use Rattle.std.proofs.Math.Nat.{pow-succ'}
use Rattle.std.specs.Int.{bit_at, bit_not}
use Rattle.std.proofs.lemmas.Nat.{and_le_l, ones-le, ones_cat, shr_split, pow_pos, mod_below, div_below}
use Rattle.std.proofs.lemmas.Nat.Bits.{bit_at_or, bit_at_above, bit_at_cat_low, bit_at_cat_high, bit_at-lt, same_from_bits_below, bit_at_set_same, bit_at_set_other, bit_at_clear_same, bit_at_clear_other}
use Rattle.std.proofs.lemmas.Bool.{cases_eq, cases_lt, eqb-true, eqb-false, eq-eqb, ne_eqb, cond-true, cond-false}
use Rattle.game.specs.Ranks.{bits, set_label}
use Rattle.game.specs.Search.{count_below}
use Rattle.game.proofs.Searches.{count_equal}
use Rattle.labelset.specs.Bits.{has_bit}

bit_mod : (n k j : ℕ) → j < k → has_bit (n % 2 ^ k) j ≡ has_bit n j
bit_mod n k j lt = ap (λ b. eqb b 1) (sym (bit_at_cat_low (n / 2 ^ k) k (n % 2 ^ k) j lt)) ∙ ap (λ x. has_bit x j) (shr_split n k)

small_ones : (h : ℕ) → h < 2 → ones h ≡ cond (eqb (h % 2) 1) 1 0
unfolding ones
small_ones zero lt = refl
small_ones (suc zero) lt = refl
small_ones (suc (suc h)) lt = absurd (omega arith)

pub ones_many : (k n : ℕ) → n < 2 ^ k → ones n ≡ count_below (has_bit n) k
ones_many zero n lt = omega (arith, ones-le 0 n lt)
ones_many (suc k) n lt =
    let h = n / 2 ^ k in
    let r = n % 2 ^ k in
    let small : r < 2 ^ k = mod_below n (2 ^ k) (pow_pos k) in
    let top : h < 2 = div_below n (2 ^ k) 2 (pow_pos k) (rw (sym (pow-succ' 2 k)) lt) in
    ap ones (sym (shr_split n k)) ∙ ones_cat k h r small ∙ ap (λ x. x + ones r) (small_ones h top) ∙ ap (λ x. cond (has_bit n k) 1 0 + x) (ones_many k r small ∙ count_equal (has_bit r) (has_bit n) k (λ j lt. bit_mod n k j lt))

-- the number of the labels below n: it has n bits at most, and they are those labels
pub bits_lt : (b : ℕ → Bool) (n : ℕ) → bits b n < 2 ^ n
bits_lt b zero = omega arith
bits_lt b (suc n) = let top : cond (b n) (2 ^ n) 0 ≤ 2 ^ n = small (b n) in omega (arith, bits_lt b n, pow-succ' 2 n)
  where
    small : (t : Bool) → cond t (2 ^ n) 0 ≤ 2 ^ n
    small true = omega arith
    small false = omega arith

as_product : (t : Bool) (w : ℕ) → cond t w 0 ≡ cond t 1 0 * w
as_product true w = sym (one-mul w)
as_product false w = sym (zero-mul w)

one_bit : (t : Bool) → has_bit (cond t 1 0) 0 ≡ t
one_bit true = refl
one_bit false = refl

pub bits_has : (b : ℕ → Bool) (n k : ℕ) → k < n → has_bit (bits b n) k ≡ b k
bits_has b zero k lt = absurd (omega arith)
bits_has b (suc n) k lt =
    ap (λ x. has_bit (x + bits b n) k) (as_product (b n) (2 ^ n)) ∙
    ⊎_elim
    (λ less. ap (λ x. eqb x 1) (bit_at_cat_low (cond (b n) 1 0) n (bits b n) k less) ∙ bits_has b n k less)
    (λ more.
    let same : n ≡ k = omega arith in
    let none : k - n ≡ 0 = omega arith in
    ap (λ x. eqb x 1) (bit_at_cat_high (cond (b n) 1 0) n (bits b n) k (bits_lt b n) more) ∙ ap (has_bit (cond (b n) 1 0)) none ∙ one_bit (b n) ∙ ap b same)
    (cases_lt k n)

max_bit : (p q : ℕ) → p < 2 → q < 2 → eqb (max p q) 1 ≡ (eqb p 1 || eqb q 1)
max_bit zero zero h k = refl
max_bit zero (suc zero) h k = refl
max_bit (suc zero) zero h k = refl
max_bit (suc zero) (suc zero) h k = refl
max_bit zero (suc (suc q)) h k = absurd (omega (arith, k))
max_bit (suc zero) (suc (suc q)) h k = absurd (omega (arith, k))
max_bit (suc (suc p)) q h k = absurd (omega (arith, h))

-- the bits of an or
pub has_bit_or : (a b x : ℕ) → has_bit (bit_or a b) x ≡ (has_bit a x || has_bit b x)
has_bit_or a b x = ap (λ n. eqb n 1) (bit_at_or a b x) ∙ max_bit (bit_at a x) (bit_at b x) (bit_at-lt a x) (bit_at-lt b x)

same_bit : (p q : ℕ) → p < 2 → q < 2 → eqb p 1 ≡ eqb q 1 → p ≡ q
same_bit p q h k e = ⊎_elim (λ one. omega (arith, one, eqb-true q 1 (sym e ∙ eq-eqb p 1 one))) (λ none. omega (arith, eqb-false q 1 (sym e ∙ ne_eqb p 1 none))) (cases_eq p 1)

-- no label at or above 64 is in a set of 64 bits
pub high_bit : (set l : ℕ) → set < 2 ^ 64 → 64 ≤ l → has_bit set l ≡ false
high_bit set l fits high = ap (λ b. eqb b 1) (bit_at_above set 64 l fits high)

-- a number whose bits are those of b is b's number
pub whole_set : (n : ℕ) (b : ℕ → Bool) → n < 2 ^ 64 → ((l : ℕ) → l < 64 → has_bit n l ≡ b l) → n ≡ bits b 64
whole_set n b fits each = same_from_bits_below 64 n (bits b 64) fits (bits_lt b 64) (λ l lt. same_bit (bit_at n l) (bit_at (bits b 64) l) (bit_at-lt n l) (bit_at-lt (bits b 64) l) (each l lt ∙ sym (bits_has b 64 l lt)))

-- a label at or above 64 changes nothing
pub high_label : (set x : ℕ) (member : Bool) → 64 ≤ x → (l : ℕ) → l < 64 → has_bit set l ≡ set_label (has_bit set) x member l
high_label set x member high l low = sym (cond-false (eqb x l) member (has_bit set l) (ne_eqb x l (λ e. omega arith)))

-- a set that has label x as `member` says, and each other label as the set s has it
changed : (n s x : ℕ) (member : Bool) → has_bit n x ≡ member → ((l : ℕ) → (l ≡ x → ⊥) → has_bit n l ≡ has_bit s l) → (l : ℕ) → has_bit n l ≡ set_label (has_bit s) x member l
changed n s x member here other l =
    ⊎_elim
    (λ same. ap (has_bit n) same ∙ here ∙ sym (cond-true (eqb x l) member (has_bit s l) (eq-eqb x l (sym same))))
    (λ apart. other l apart ∙ sym (cond-false (eqb x l) member (has_bit s l) (ne_eqb x l (λ e. apart (sym e)))))
    (cases_eq l x)

pub put_in : (set x : ℕ) → x < 64 → (l : ℕ) → has_bit (bit_or set (1 * 2 ^ x % 2 ^ 64)) l ≡ set_label (has_bit set) x true l
put_in set x low = changed _ set x true (ap (λ b. eqb b 1) (bit_at_set_same w64 set x low)) (λ l apart. ap (λ b. eqb b 1) (bit_at_set_other w64 set x low l apart))

pub taken_out : (set x : ℕ) → x < 64 → set < 2 ^ 64 → (l : ℕ) → has_bit (bit_and set (bit_not w64 (1 * 2 ^ x % 2 ^ 64))) l ≡ set_label (has_bit set) x false l
taken_out set x low fits =
    let rest : ℕ = bit_and set (bit_not w64 (1 * 2 ^ x % 2 ^ 64)) in
    let small : rest < 2 ^ 64 = omega (arith, and_le_l set (bit_not w64 (1 * 2 ^ x % 2 ^ 64))) in
    changed rest set x false (ap (λ b. eqb b 1) (bit_at_clear_same w64 set x low)) (λ l apart. ⊎_elim
    (λ lt. ap (λ b. eqb b 1) (bit_at_clear_other w64 set x low l lt apart))
    (λ high. high_bit rest l small high ∙ sym (high_bit set l fits high))
    (cases_lt l 64))

-- the labels of a set's number after such a change
pub changed_has : (set x : ℕ) (member : Bool) → set < 2 ^ 64 → x < 64 → (l : ℕ) → has_bit (bits (set_label (has_bit set) x member) 64) l ≡ set_label (has_bit set) x member l
changed_has set x member fits low l =
    let b : ℕ → Bool = set_label (has_bit set) x member in
    ⊎_elim
    (λ lt. bits_has b 64 l lt)
    (λ high. high_bit (bits b 64) l (bits_lt b 64) high ∙ sym (high_bit set l fits high) ∙ sym (cond-false (eqb x l) member (has_bit set l) (ne_eqb x l (λ e. omega arith))))
    (cases_lt l 64)
