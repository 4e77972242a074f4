-- The laws of every game hold of Fibonacci Nim.
use Rattle.std.specs.Prelude.{◌≡◌, ℕ, ◌+◌, ◌-◌, ◌*◌, ◌/◌, ◌<◌, ◌≤◌, Bool, true, false, cond, ◌&&◌, Some, None, Option, ◌≢◌, nat_le, nat_lt, refl}
use Rattle.std.proofs.Common.{sym, subst, arith, mul_comm, lit≤}
use Rattle.std.proofs.lemmas.Bool.{and_parts, and_from, and_left, ltb-true, leb-true, le-leb, lt-ltb, le-ltb, cond-true, cond-false}
use Rattle.std.proofs.lemmas.Nat.{div_below, mul-add-lt, mod_below, mul-le}
use Rattle.std.proofs.lemmas.Option.{cond_some}
use Rattle.game.specs.Meaning.{Lawful}
use Rattle.nim.specs.Nims.{nim_meaning, nim_size, nim_next, playable, number_of, is_state, State, may_take, player_of, remaining_of, taken_of}

above_zero : (t : Bool) (s x : ℕ) → s < cond t x 0 → (t ≡ true) × (s < x)
above_zero true s x h = (refl, h)
above_zero false s x h = absurd (omega arith)

pub state_true : (n s : ℕ) → is_state n s ≡ true → State n s
state_true n s h =
    let p = above_zero (playable n) s (2 * (n + 1) * n) (ltb-true s (nim_size n) h) in
    let q = and_parts (nat_le 2 n) (nat_le n 44) p.0 in
    record { low = leb-true 2 n q.0; high = leb-true n 44 q.1; below = p.1 }

pub size_is : (n : ℕ) → 2 ≤ n → n ≤ 44 → nim_size n ≡ 2 * (n + 1) * n
size_is n low high = cond-true _ _ _ (and_from (nat_le 2 n) (nat_le n 44) (le-leb 2 n low) (le-leb n 44 high))

pub true_state : (n s : ℕ) → State n s → is_state n s ≡ true
true_state n s i = lt-ltb s (nim_size n) (subst (λ (x : ℕ). s < x) (sym (size_is n i.low i.high)) i.below)

pub player_le : (n s : ℕ) → State n s → player_of n s ≤ 1
player_le n s i =
    let q : s / n < 2 * (n + 1) = div_below s n (2 * (n + 1)) (omega (arith, i.low)) i.below in
    let p : s / n / (n + 1) < 2 = div_below (s / n) (n + 1) 2 (omega arith) q in
    omega arith

-- every player, remainder and taking has a number below the size
pub number_below : (n j r p : ℕ) → j ≤ 1 → r ≤ n → 1 ≤ p → p ≤ n → number_of n j r p < 2 * (n + 1) * n
number_below n j r p who few some most =
    let turn : j * (n + 1) ≤ 1 * (n + 1) = mul-le j (n + 1) 1 (n + 1) who (omega arith) in
    let rows : j * (n + 1) + r < 2 * (n + 1) = omega arith in
    let place : (j * (n + 1) + r) * n + (p - 1) < n * (2 * (n + 1)) = mul-add-lt (j * (n + 1) + r) n (p - 1) (2 * (n + 1)) rows (omega arith) in
    omega (arith, place, mul_comm n (2 * (n + 1)))

may_parts : (n r p a : ℕ) → may_take n r p a ≡ true → (1 ≤ a) × (a < n) × (a ≤ r)
may_parts n r p a h =
    let x = and_parts (nat_le 1 a) _ h in
    let y = and_parts (nat_lt a n) _ x.1 in
    let z = and_parts (nat_le a r) _ y.1 in
    (leb-true 1 a x.0, ltb-true a n y.0, leb-true a r z.0)

next_below : (n s a t : ℕ) → nim_next n s a ≡ Some t → t < nim_size n
next_below n s a t h =
    let to : ℕ = number_of n (1 - player_of n s) (remaining_of n s - a) a in
    let p = cond_some (is_state n s && may_take n (remaining_of n s) (taken_of n s) a) to t h in
    let both = and_parts (is_state n s) _ p.0 in
    let i = state_true n s both.0 in
    let m = may_parts n (remaining_of n s) (taken_of n s) a both.1 in
    let r : remaining_of n s < n + 1 = mod_below (s / n) (n + 1) (omega arith) in
    let below : to < 2 * (n + 1) * n = number_below n (1 - player_of n s) (remaining_of n s - a) a (omega arith) (omega arith) m.0 (omega (arith, m.1)) in
    subst (λ (x : ℕ). x < nim_size n) p.1 (subst (λ (x : ℕ). to < x) (sym (size_is n i.low i.high)) below)

high_label : (n s l : ℕ) → 44 ≤ l → (is_state n s && may_take n (remaining_of n s) (taken_of n s) l) ≢ true
high_label n s l h e =
    let both = and_parts (is_state n s) _ e in
    let i = state_true n s both.0 in
    let m = may_parts n (remaining_of n s) (taken_of n s) l both.1 in
    omega (arith, i.high, m.1)

none_unless : (b : Bool) (o : Option ℕ) → (b ≢ true) → cond b o None ≡ None
none_unless true o h = absurd (h refl)
none_unless false o h = refl

pub nim_lawful : (n : ℕ) → Lawful (nim_meaning n)
nim_lawful n = record {
  few = lit≤ tt;
  labels = λ s l h. none_unless _ _ (high_label n s l h);
  inside = next_below n;
  outside = λ s h.
      let no = le-ltb s (nim_size n) h in
      record {
        kiosk = and_left _ _ no;
        no_start = and_left _ _ no;
        no_end = and_left _ _ no;
        no_goal = and_left _ _ no;
        no_move = λ l. cond-false _ _ _ (and_left _ _ no);
      };
}
