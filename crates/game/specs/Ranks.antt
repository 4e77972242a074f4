-- Ranks, choices and loss witnesses. A rank bounds how many moves the kiosk needs to a done state, whatever the public does.
use Rattle.std.specs.Prelude.{◌≡◌, ℕ, zero, suc, ◌+◌, ◌^◌, ◌<◌, ◌≤◌, Bool, true, false, cond, not, ◌&&◌, ◌||◌, is_some, Some, None, Option, ◌==◌, ◌≢◌}
use Rattle.game.specs.Meaning.{Meaning, done, Step}
use Rattle.game.specs.Search.{some_below, all_below, first_below}

-- which labels are barred to the kiosk
abbrev pub Bars : Type 0
Bars = ℕ → Bool

-- the barred labels below n as the bits of a number
abbrev pub bits : Bars → ℕ → ℕ
bits b zero = 0
bits b (suc n) = cond (b n) (2 ^ n) 0 + bits b n

-- the set b with label x in it, or out of it
abbrev pub set_label : Bars → ℕ → Bool → Bars
set_label b x member l = cond (x == l) member (b l)

-- there is a next state, and it passes
abbrev pub leads_to : Option ℕ → (ℕ → Bool) → Bool
leads_to None p = false
leads_to (Some t) p = p t

-- there is no next state, or it passes
abbrev pub none_or : Option ℕ → (ℕ → Bool) → Bool
none_or None p = true
none_or (Some t) p = p t

-- the kiosk has an unbarred label to a state that passes
abbrev pub kiosk_can : Meaning → Bars → (ℕ → Bool) → ℕ → Bool
kiosk_can m b p s = some_below (λ l. not (b l) && leads_to (m.next s l) p) m.ceiling

-- the public has a label, and each leads to a state that passes
abbrev pub public_must : Meaning → (ℕ → Bool) → ℕ → Bool
public_must m p s = some_below (λ l. is_some (m.next s l)) m.ceiling && all_below (λ l. none_or (m.next s l) p) m.ceiling

-- s has a rank of k at most: the k-th layer of the attractor of the done states
unfoldable pub within : Meaning → Bars → ℕ → ℕ → Bool
within m b zero s = done m s
within m b (suc k) s = done m s || (not (m.end s) && cond (m.public s) (public_must m (within m b k) s) (kiosk_can m b (within m b k) s))

-- the rank of s, or none: the first layer that holds it (no layer after the size-th holds more)
unfoldable pub rank : Meaning → Bars → ℕ → Option ℕ
rank m b s = first_below (λ k. within m b k s) (suc m.size)

abbrev pub is : Option ℕ → ℕ → Bool
is None q = false
is (Some r) q = r == q

-- the lowest unbarred label from s to a state that passes
abbrev pub lowest_label : Meaning → Bars → (ℕ → Bool) → ℕ → Option ℕ
lowest_label m b p s = first_below (λ l. not (b l) && leads_to (m.next s l) p) m.ceiling

-- the lowest unbarred label that leads to a rank one below
abbrev pub choice_at : Meaning → Bars → ℕ → Option ℕ → Option ℕ
choice_at m b s None = None
choice_at m b s (Some zero) = None
choice_at m b s (Some (suc q)) = lowest_label m b (λ t. is (rank m b t) q) s

-- the choice at s: a ranked kiosk state that is not done has one
unfoldable pub choice : Meaning → Bars → ℕ → Option ℕ
choice m b s = cond (m.public s) None (choice_at m b s (rank m b s))

-- the lowest label from s to a state that ρ gives no rank
abbrev pub witness_by : Meaning → (ℕ → Option ℕ) → ℕ → Option ℕ
witness_by m ρ s = first_below (λ l. leads_to (m.next s l) (λ t. not (is_some (ρ t)))) m.ceiling

-- the loss witness of s: the lowest label to a state without rank
unfoldable pub witness : Meaning → Bars → ℕ → Option ℕ
witness m b s = witness_by m (rank m b) s

-- THE RULES OF RANKS, for any assignment ρ of numbers or none to states.
pub record Rules (m : Meaning) (b : Bars) (ρ : ℕ → Option ℕ) : Type 0 where
  -- a done state has rank 0
  pub at_done : (s : ℕ) → done m s ≡ true → ρ s ≡ Some 0
  -- an end that is not done has none
  pub at_end : (s : ℕ) → done m s ≡ false → m.end s ≡ true → ρ s ≡ None
  -- a kiosk state has one more than the least behind an unbarred feasible label, if some such label leads to a rank
  pub kiosk_some : (s r : ℕ) → done m s ≡ false → m.end s ≡ false → m.public s ≡ false → ρ s ≡ Some r → (q : ℕ) × (r ≡ suc q) × ((l : ℕ) × (t : ℕ) × (b l ≡ false) × (Step m s l t) × (ρ t ≡ Some q)) × ((l t p : ℕ) → b l ≡ false → Step m s l t → ρ t ≡ Some p → q ≤ p)
  pub kiosk_has : (s l t q : ℕ) → done m s ≡ false → m.public s ≡ false → b l ≡ false → Step m s l t → ρ t ≡ Some q → is_some (ρ s) ≡ true
  -- a public state has one more than the highest behind its feasible labels, if it has some and all lead to ranks
  pub public_some : (s r : ℕ) → done m s ≡ false → m.end s ≡ false → m.public s ≡ true → ρ s ≡ Some r → (q : ℕ) × (r ≡ suc q) × ((l : ℕ) × (t : ℕ) × (Step m s l t) × (ρ t ≡ Some q)) × ((l t : ℕ) → Step m s l t → (p : ℕ) × (ρ t ≡ Some p) × (p ≤ q))
  pub public_has : (s l t : ℕ) → done m s ≡ false → m.public s ≡ true → Step m s l t → ((l' t' : ℕ) → Step m s l' t' → is_some (ρ t') ≡ true) → is_some (ρ s) ≡ true

-- The ranks meet their rules, and no other assignment does.
pub record OnlySolution (m : Meaning) (b : Bars) : Type 0 where
  pub meets : Rules m b (rank m b)
  pub only : (ρ : ℕ → Option ℕ) → Rules m b ρ → (s : ℕ) → ρ s ≡ rank m b s

-- The choice at a kiosk state that is not done: the lowest among the unbarred feasible labels that lead to the least rank.
pub record LowestOfBest (m : Meaning) (b : Bars) (s l : ℕ) : Type 0 where
  pub free : b l ≡ false
  pub to : ℕ
  pub step : Step m s l to
  pub cost : ℕ
  pub reached : rank m b to ≡ Some cost
  -- no unbarred feasible label leads to a lower rank
  pub least : (l' t' r' : ℕ) → b l' ≡ false → Step m s l' t' → rank m b t' ≡ Some r' → cost ≤ r'
  -- and no lower one leads to the same
  pub lowest : (l' t' : ℕ) → l' < l → b l' ≡ false → Step m s l' t' → rank m b t' ≢ Some cost
