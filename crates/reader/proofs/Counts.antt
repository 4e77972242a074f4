-- The rows count their moves.

use Rattle.std.proofs.Common.{◌≡◌, ℕ, zero, suc, ◌+◌, ◌<◌, ◌≤◌, cond, eqb, ltb, List, [], ◌∷◌, length, get_or, take, set, sum_by, sym, refl, ap, ◌∙◌, arith, length-set}
use Rattle.std.proofs.lemmas.Grind.{common_steps}
use Rattle.std.proofs.lemmas.List.Sums.{sum_by-cons, sum_by_more}
use Rattle.std.proofs.lemmas.Bool.Decides.{nat_tests}
use Rattle.sheet.specs.declared.Row.{Row}
use Rattle.sheet.specs.declared.Move.{Move}
use Rattle.format.specs.declared.Arc.{Arc}
use Rattle.format.specs.Tables.{move_of, own, lower}
use Rattle.sheet.specs.Sheets.{zero_row}
use Rattle.reader.specs.Stored.{storing, numbered, count_one, count_of, with_first}

plus : ℕ → Row → Row
plus n r = record { flags = r.flags; place = r.place; len = r.len; first = r.first; count = r.count + n }

with_count : Row → ℕ → Row
with_count r n = record { flags = r.flags; place = r.place; len = r.len; first = r.first; count = n }

own_cons : (a : Arc) (as' : List Arc) (i : ℕ) → own i (a ∷ as') ≡ cond (eqb a.source i) 1 0 + own i as'
own_cons a as' i = sum_by-cons (λ x. cond (eqb x.source i) 1 0) a as'

lower_cons : (a : Arc) (as' : List Arc) (i : ℕ) → lower i (a ∷ as') ≡ cond (ltb a.source i) 1 0 + lower i as'
lower_cons a as' i = sum_by-cons (λ x. cond (ltb x.source i) 1 0) a as'

rows_counted : (k : ℕ) (rows : List Row) (ms : List Move) (arcs : List Arc) (i : ℕ) → i < length rows → get_or (storing k rows ms arcs).1 i zero_row ≡ plus (own i arcs) (get_or rows i zero_row)
unfolding plus with_count
rows_counted k rows ms [] i h = ap (with_count (get_or rows i zero_row)) (let z : (get_or rows i zero_row).count ≡ (get_or rows i zero_row).count + 0 = omega arith in z)
rows_counted k rows ms (a ∷ as') i h =
    let s = a.source in
    let r = get_or rows i zero_row in
    let ih = rows_counted (k + 1) (count_one rows s) (set ms k (move_of a)) as' i (rw length-set h) in
    ih ∙ grind (arith, common_steps, own_cons)

pub length_storing : (k : ℕ) (rows : List Row) (ms : List Move) (arcs : List Arc) → length (storing k rows ms arcs).1 ≡ length rows
length_storing k rows ms [] = refl
length_storing k rows ms (a ∷ as') = length_storing (k + 1) (count_one rows a.source) (set ms k (move_of a)) as' ∙ length-set _ _ _

lower_none : (arcs : List Arc) → lower 0 arcs ≡ 0
lower_none [] = refl
lower_none (a ∷ as') = let ih = lower_none as' in grind (arith, nat_tests, lower_cons)

lower_more : (i : ℕ) (arcs : List Arc) → lower (i + 1) arcs ≡ lower i arcs + own i arcs
lower_more i [] = refl
lower_more i (a ∷ as') = let ih = lower_more i as' in grind (arith, nat_tests, lower_cons a as' (i + 1), lower_cons a as' i, own_cons a as' i)

numbered_at : (f : ℕ) (rows : List Row) (i : ℕ) → i < length rows → get_or (numbered f rows) i zero_row ≡ with_first (f + sum_by count_of (take i rows)) (get_or rows i zero_row)
numbered_at f [] i h = absurd (omega arith)
numbered_at f (r ∷ rs) zero h = grind arith
numbered_at f (r ∷ rs) (suc i) h =
    numbered_at (f + r.count) rs i (omega arith)
    ∙ ap (λ k. with_first k (get_or rs i zero_row)) (omega (arith, sum_by-cons count_of r (take i rs)))

module _ (k : ℕ) (rows : List Row) (ms : List Move) (arcs : List Arc) (none : (i : ℕ) → (get_or rows i zero_row).count ≡ 0) where
  count_at : (i : ℕ) → i < length rows → (get_or (storing k rows ms arcs).1 i zero_row).count ≡ own i arcs
  unfolding plus
  count_at i h = ap (λ (r : Row). r.count) (rows_counted k rows ms arcs i h) ∙ omega (arith, none i)

  before : (i : ℕ) → i ≤ length rows → sum_by count_of (take i (storing k rows ms arcs).1) ≡ lower i arcs
  before zero h = sym (lower_none arcs)
  before (suc i) h =
      let e : suc i ≡ i + 1 = omega arith in
      rw e (omega (arith, sum_by_more count_of (storing k rows ms arcs).1 i zero_row (omega (arith, length_storing k rows ms arcs)), before i (omega arith), count_at i (omega arith), lower_more i arcs))

pub counts : (k : ℕ) (rows : List Row) (ms : List Move) (arcs : List Arc) → ((i : ℕ) → (get_or rows i zero_row).count ≡ 0) → (i : ℕ) → i < length rows → get_or (numbered 0 (storing k rows ms arcs).1) i zero_row ≡ record { flags = (get_or rows i zero_row).flags; place = (get_or rows i zero_row).place; len = (get_or rows i zero_row).len; first = lower i arcs; count = own i arcs }
unfolding plus
counts k rows ms arcs none i h =
    grind (arith, numbered_at 0 (storing k rows ms arcs).1 i (omega (arith, length_storing k rows ms arcs)), rows_counted k rows ms arcs i h, before k rows ms arcs none i (omega arith), none i)
