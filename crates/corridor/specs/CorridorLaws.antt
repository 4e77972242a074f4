-- The laws of every game hold of a corridor.
use Rattle.std.specs.Prelude.{◌≡◌, ℕ, ◌+◌, ◌<◌, ◌≤◌, false, Some, ◌==◌, nat_lt}
use Rattle.std.proofs.Common.{subst, arith, lit≤}
use Rattle.std.proofs.lemmas.Bool.{and_parts, and_left, and_right, ne_eqb, ltb-true, le-ltb, cond-false}
use Rattle.std.proofs.lemmas.Option.{cond_some}
use Rattle.game.specs.Meaning.{Lawful}
use Rattle.corridor.specs.Corridors.{corridor_meaning, step_on}

-- a next room is a room
step_inside : (n s l t : ℕ) → step_on n s l ≡ Some t → t < n
step_inside n s l t h =
    let p = cond_some _ (s + 1) t h in
    let rooms = (and_parts (l == 0) _ p.0).1 in
    subst (λ (x : ℕ). x < n) p.1 (ltb-true (s + 1) n (and_parts (nat_lt s n) _ rooms).1)

not_zero : (l : ℕ) → 1 ≤ l → (l == 0) ≡ false
not_zero l h = ne_eqb l 0 (λ e. omega arith)

pub corridor_lawful : (n : ℕ) → Lawful (corridor_meaning n)
corridor_lawful n = record {
  few = lit≤ tt;
  labels = λ s l h. cond-false _ _ _ (and_left _ _ (not_zero l h));
  inside = step_inside n;
  outside = λ s h.
      let no = le-ltb s n h in
      record {
        kiosk = and_left _ _ no;
        no_start = and_left _ _ no;
        no_end = and_left _ _ no;
        no_goal = and_left _ _ no;
        no_move = λ l. cond-false _ _ _ (and_right (l == 0) _ (and_left _ _ no));
      };
}
