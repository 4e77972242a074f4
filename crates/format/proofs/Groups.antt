-- Moves in order are the moves of one source, and those of higher sources behind them.

use Rattle.std.proofs.Common.{◌≡◌, ℕ, ◌+◌, ◌<◌, ◌≤◌, Bool, true, false, cond, ◌&&◌, eqb, ltb, leb, ◌⊎◌, List, [], ◌∷◌, ◌++◌, map, length, Some, None, count_by, sym, refl, ap, ◌∙◌, subst, inl, inr, ⊎_elim, arith}
use Rattle.std.specs.List.{AllByRecursion}
use Rattle.std.proofs.lemmas.List.Sums.{sum_by-cons, sum_by-append}
use Rattle.std.proofs.lemmas.List.{length-map}
use Rattle.std.proofs.ByRecursion.{All-append, All-weaker}
use Rattle.std.proofs.lemmas.Bool.{cases_eq, eq-eqb, ne_eqb, lt-ltb, le-ltb, le-leb, ltb-true, leb-true, eqb-true, and_parts, and_from, or_left, or_right, or_cases}
use Rattle.sheet.specs.declared.Move.{Move}
use Rattle.format.specs.declared.Arc.{Arc}
use Rattle.format.specs.Format.{ArcFits, above_last, Rising}
use Rattle.format.specs.Tables.{move_of, arc_of, own, lower}
use Rattle.format.specs.Writing.{moves_sound}

-- the moves fit, and rise from the pair of `i` and `low` on
abbrev pub From : ℕ → ℕ → ℕ → List Arc → Type 0
From size i low [] = Unit {0}
From size i low (a ∷ as') = ((i < a.source) ⊎ ((i ≡ a.source) × (low ≤ a.label))) × ArcFits size a × From size a.source (a.label + 1) as'

pub from_fits : (size i low : ℕ) (arcs : List Arc) → From size i low arcs → AllByRecursion (ArcFits size) arcs
from_fits size i low [] f = tt
from_fits size i low (a ∷ as') f = (f.1, from_fits size a.source (a.label + 1) as' f.2)

above_from : (l a : Arc) → (l.source < a.source) ⊎ ((l.source ≡ a.source) × (l.label + 1 ≤ a.label)) → above_last (Some l) a ≡ true
above_from l a h =
    ⊎_elim
    (λ (t : l.source < a.source). or_left (ltb l.source a.source) _ (lt-ltb l.source a.source t))
    (λ (t : (l.source ≡ a.source) × (l.label + 1 ≤ a.label)).
    let u = t.1 in
    or_right (ltb l.source a.source) _ (and_from (eqb l.source a.source) (ltb l.label a.label) (eq-eqb l.source a.source t.0) (lt-ltb l.label a.label (omega (arith, u)))))
    h

from_above : (l a : Arc) → above_last (Some l) a ≡ true → (l.source < a.source) ⊎ ((l.source ≡ a.source) × (l.label + 1 ≤ a.label))
from_above l a h =
    ⊎_elim
    (λ (t : ltb l.source a.source ≡ true). inl (ltb-true l.source a.source t))
    (λ (t : (eqb l.source a.source && ltb l.label a.label) ≡ true).
    let p = and_parts (eqb l.source a.source) (ltb l.label a.label) t in
    let v = ltb-true l.label a.label p.1 in
    inr (eqb-true l.source a.source p.0, omega (arith, v)))
    (or_cases (ltb l.source a.source) _ h)

rising_after : (size : ℕ) (l : Arc) (arcs : List Arc) → From size l.source (l.label + 1) arcs → Rising (Some l) arcs
rising_after size l [] f = tt
rising_after size l (a ∷ as') f = (above_from l a f.0, rising_after size a as' f.2)

pub from_rising : (size i low : ℕ) (arcs : List Arc) → From size i low arcs → Rising None arcs
from_rising size i low [] f = tt
from_rising size i low (a ∷ as') f = (refl, rising_after size a as' f.2)

after_rising : (size : ℕ) (l : Arc) (arcs : List Arc) → AllByRecursion (ArcFits size) arcs → Rising (Some l) arcs → From size l.source (l.label + 1) arcs
after_rising size l [] f r = tt
after_rising size l (a ∷ as') f r = (from_above l a r.0, f.0, after_rising size a as' f.1 r.1)

at_zero : (a : Arc) → (0 < a.source) ⊎ ((0 ≡ a.source) × (0 ≤ a.label))
at_zero a = ⊎_elim (λ (e : a.source ≡ 0). inr (sym e, omega arith)) (λ ne. inl (omega (arith, ne))) (cases_eq a.source 0)

pub rising_from : (size : ℕ) (arcs : List Arc) → AllByRecursion (ArcFits size) arcs → Rising None arcs → From size 0 0 arcs
rising_from size [] f r = tt
rising_from size (a ∷ as') f r = (at_zero a, f.0, after_rising size a as' f.1 r.1)

from_less : (i low : ℕ) (a : Arc) → (i + 1 < a.source) ⊎ ((i + 1 ≡ a.source) × (0 ≤ a.label)) → (i < a.source) ⊎ ((i ≡ a.source) × (low ≤ a.label))
from_less i low a h = ⊎_elim (λ (t : i + 1 < a.source). inl (omega (arith, t))) (λ (t : (i + 1 ≡ a.source) × (0 ≤ a.label)). let e = t.0 in inl (omega (arith, e))) h

from_lower : (size i low : ℕ) (arcs : List Arc) → From size (i + 1) 0 arcs → From size i low arcs
from_lower size i low [] f = tt
from_lower size i low (a ∷ as') f = (from_less i low a f.0, f.1, f.2)

low_source : (i low : ℕ) (a : Arc) → (i < a.source) ⊎ ((i ≡ a.source) × (low ≤ a.label)) → i ≤ a.source
low_source i low a h = ⊎_elim (λ (t : i < a.source). omega (arith, t)) (λ (t : (i ≡ a.source) × (low ≤ a.label)). let e = t.0 in omega (arith, e)) h

pub from_sources : (size i low : ℕ) (arcs : List Arc) → From size i low arcs → AllByRecursion (λ (a : Arc). i ≤ a.source) arcs
from_sources size i low [] f = tt
from_sources size i low (a ∷ as') f =
    let l = low_source i low a f.0 in
    (l, All-weaker (λ (b : Arc). a.source ≤ b.source) (λ (b : Arc). i ≤ b.source) (λ b h. omega (arith, h, l)) as' (from_sources size a.source (a.label + 1) as' f.2))

-- the moves of one source, and those behind them

sound_parts : (size low : ℕ) (m : Move) (ms : List Move) → moves_sound size low (m ∷ ms) ≡ true → (low ≤ m.label) × (m.label < 64) × (m.target < size) × (moves_sound size (m.label + 1) ms ≡ true)
sound_parts size low m ms h =
    let a = and_parts (leb low m.label) _ h in
    let b = and_parts (ltb m.label 64) _ a.1 in
    let c = and_parts (ltb m.target size) _ b.1 in
    (leb-true low m.label a.0, ltb-true m.label 64 b.0, ltb-true m.target size c.0, c.1)

sound_from : (size low : ℕ) (m : Move) (ms : List Move) → low ≤ m.label → m.label < 64 → m.target < size → moves_sound size (m.label + 1) ms ≡ true → moves_sound size low (m ∷ ms) ≡ true
sound_from size low m ms a b c d =
    and_from (leb low m.label) _ (le-leb low m.label a)
    (and_from (ltb m.label 64) _ (lt-ltb m.label 64 b) (and_from (ltb m.target size) _ (lt-ltb m.target size c) d))

pub from_front : (size i low : ℕ) (ms : List Move) (rest : List Arc) → i < size → moves_sound size low ms ≡ true → From size (i + 1) 0 rest → From size i low (map (arc_of i) ms ++ rest)
from_front size i low [] rest l s f = from_lower size i low rest f
from_front size i low (m ∷ ms) rest l s f =
    let p = sound_parts size low m ms s in
    (inr (refl, p.0), (l, p.1, p.2), from_front size i (m.label + 1) ms rest l p.3 f)

abbrev pub Front : ℕ → ℕ → ℕ → List Arc → Type 0
Front size i low arcs = (ms : List Move) × (rest : List Arc) × (arcs ≡ map (arc_of i) ms ++ rest) × (moves_sound size low ms ≡ true) × From size (i + 1) 0 rest

from_more : (size i : ℕ) (a : Arc) → i < a.source → (i + 1 < a.source) ⊎ ((i + 1 ≡ a.source) × (0 ≤ a.label))
from_more size i a l = ⊎_elim (λ (e : i + 1 ≡ a.source). inr (e, omega arith)) (λ ne. inl (omega (arith, ne, l))) (cases_eq (i + 1) a.source)

pub front : (size i low : ℕ) (arcs : List Arc) → From size i low arcs → Front size i low arcs
front size i low [] f = ([], [], refl, refl, tt)
front size i low (a ∷ as') f =
    ⊎_elim
    (λ (l : i < a.source). ([], a ∷ as', refl, refl, (from_more size i a l, f.1, f.2)))
    (λ (t : (i ≡ a.source) × (low ≤ a.label)).
    let e = t.0 in
    let g = front size i (a.label + 1) as' (subst (λ k. From size k (a.label + 1) as') (sym e) f.2) in
    let m = move_of a in (
      m ∷ g.0,
      g.1,
      ap (λ x. a ∷ x) g.2 ∙ ap (λ k. record { source = k; label = a.label; target = a.target } ∷ (map (arc_of i) g.0 ++ g.1)) (sym e),
      sound_from size low m g.0 t.1 f.1.1 f.1.2 g.3,
      g.4,
    ))
    f.0

-- counting

count_none : (p : Arc → Bool) (xs : List Arc) → AllByRecursion (λ x. p x ≡ false) xs → count_by p xs ≡ 0
count_none p [] h = refl
count_none p (x ∷ xs) h = sum_by-cons (λ x. cond (p x) 1 0) x xs ∙ ap (λ b. cond b 1 0 + count_by p xs) h.0 ∙ omega (arith, count_none p xs h.1)

count_all : (p : Arc → Bool) (xs : List Arc) → AllByRecursion (λ x. p x ≡ true) xs → count_by p xs ≡ length xs
count_all p [] h = refl
count_all p (x ∷ xs) h = sum_by-cons (λ x. cond (p x) 1 0) x xs ∙ ap (λ b. cond b 1 0 + count_by p xs) h.0 ∙ omega (arith, count_all p xs h.1)

all_from : (i : ℕ) (ms : List Move) → AllByRecursion (λ (a : Arc). a.source ≡ i) (map (arc_of i) ms)
all_from i [] = tt
all_from i (m ∷ ms) = (refl, all_from i ms)

module _ (i : ℕ) (done : List Arc) (ms : List Move) (rest : List Arc) (d : AllByRecursion (λ (a : Arc). a.source < i) done) (r : AllByRecursion (λ (a : Arc). i < a.source) rest) where
  mid : List Arc
  mid = map (arc_of i) ms

  pub own_split : own i (done ++ (map (arc_of i) ms ++ rest)) ≡ length ms
  own_split =
      let p : Arc → Bool = λ a. eqb a.source i in
      let s = map (arc_of i) ms in
      let a = count_none p done (All-weaker (λ (x : Arc). x.source < i) (λ x. p x ≡ false) (λ x h. ne_eqb x.source i (λ e. omega (arith, h, e))) done d) in
      let b = count_all p s (All-weaker (λ (x : Arc). x.source ≡ i) (λ x. p x ≡ true) (λ x h. eq-eqb x.source i h) s (all_from i ms)) in
      let c = count_none p rest (All-weaker (λ (x : Arc). i < x.source) (λ x. p x ≡ false) (λ x h. ne_eqb x.source i (λ e. omega (arith, h, e))) rest r) in
      let x = sum_by-append (λ a. cond (p a) 1 0) done (s ++ rest) in
      let y = sum_by-append (λ a. cond (p a) 1 0) s rest in
      omega (arith, a, b, c, x, y, length-map ms (arc_of i))

  pub lower_split : lower i (done ++ (map (arc_of i) ms ++ rest)) ≡ length done
  lower_split =
      let p : Arc → Bool = λ a. ltb a.source i in
      let s = map (arc_of i) ms in
      let a = count_all p done (All-weaker (λ (x : Arc). x.source < i) (λ x. p x ≡ true) (λ x h. lt-ltb x.source i h) done d) in
      let b = count_none p s (All-weaker (λ (x : Arc). x.source ≡ i) (λ x. p x ≡ false) (λ x h. le-ltb x.source i (omega (arith, h))) s (all_from i ms)) in
      let c = count_none p rest (All-weaker (λ (x : Arc). i < x.source) (λ x. p x ≡ false) (λ x h. le-ltb x.source i (omega (arith, h))) rest r) in
      let x = sum_by-append (λ a. cond (p a) 1 0) done (s ++ rest) in
      let y = sum_by-append (λ a. cond (p a) 1 0) s rest in
      omega (arith, a, b, c, x, y)

  pub done_more : AllByRecursion (λ (a : Arc). a.source < i + 1) (done ++ map (arc_of i) ms)
  done_more =
      let s = map (arc_of i) ms in
      All-append (λ (a : Arc). a.source < i + 1) done s
      (All-weaker (λ (a : Arc). a.source < i) (λ (a : Arc). a.source < i + 1) (λ x h. omega (arith, h)) done d)
      (All-weaker (λ (a : Arc). a.source ≡ i) (λ (a : Arc). a.source < i + 1) (λ x h. omega (arith, h)) s (all_from i ms))

pub moves_back : (i : ℕ) (ms : List Move) → map move_of (map (arc_of i) ms) ≡ ms
moves_back i [] = refl
moves_back i (m ∷ ms) = ap (λ l. m ∷ l) (moves_back i ms)
