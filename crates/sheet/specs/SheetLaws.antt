-- The laws of every game hold of a sheet.
use Rattle.std.specs.Prelude.{◌≡◌, ℕ, ◌<◌, Bool, true, false, cond, List, length, Some, None, Option, nat_lt, slice_index_or, refl}
use Rattle.std.proofs.Common.{ap, subst, lit≤}
use Rattle.std.proofs.lemmas.Bool.{ltb-true, le-ltb, and_left, and_right, cond-false}
use Rattle.std.proofs.lemmas.Option.{cond_some, none-some}
use Rattle.game.specs.Meaning.{Lawful}
use Rattle.sheet.specs.declared.Row.{Row}
use Rattle.sheet.specs.declared.Move.{Move}
use Rattle.sheet.specs.Sheets.{zero_row, moves_of, target_of, below, sheet_meaning}

-- a value under a test
pub under : (b : Bool) (o : Option ℕ) (t : ℕ) → cond b o None ≡ Some t → (b ≡ true) × (o ≡ Some t)
under true o t h = (refl, h)
under false o t h = absurd (none-some t h)

-- a target that is a state
pub under_below : (n t : ℕ) (o : Option ℕ) → below n o ≡ Some t → (o ≡ Some t) × (t < n)
under_below n t None h = absurd (none-some t h)
under_below n t (Some u) h = let p = cond_some (nat_lt u n) u t h in (ap Some p.1, subst (λ (x : ℕ). x < n) p.1 (ltb-true u n p.0))

pub sheet_lawful : (rows : List Row) (moves : List Move) → Lawful (sheet_meaning rows moves)
sheet_lawful rows moves = record {
  few = lit≤ tt;
  labels = λ s l h. cond-false _ _ _ (and_right (nat_lt s (length rows)) (nat_lt l 64) (le-ltb l 64 h));
  inside = λ s l t h. (under_below (length rows) t (target_of l (moves_of moves (slice_index_or rows s zero_row))) (under _ _ t h).1).1;
  outside = λ s h.
      let no = le-ltb s (length rows) h in
      record {
        kiosk = and_left _ _ no;
        no_start = and_left _ _ no;
        no_end = and_left _ _ no;
        no_goal = and_left _ _ no;
        no_move = λ l. cond-false _ _ _ (and_left _ _ no);
      };
}
