-- The tables of a sheet stand for its game.
use Rattle.std.proofs.Common.{◌≡◌, ℕ, zero, suc, ◌+◌, ◌<◌, ◌≤◌, Bool, true, false, cond, ◌&&◌, eqb, ltb, ◌⊎◌, List, [], ◌∷◌, map, length, get_or, take, drop, Some, None, Ok, Err, Option, Result, sym, refl, ap, ◌∙◌, subst, inl, inr, ⊎_elim, zero-add, arith}
use lib.Bits.{bit_and}
use Rattle.std.specs.List.{ContainsAt, AllByRecursion}
use Rattle.std.proofs.lemmas.List.Sums.{sum_by-cons}
use Rattle.std.proofs.lemmas.List.{length-map, take_at}
use Rattle.std.proofs.ByRecursion.{all-has, All-weaker}
use Rattle.std.proofs.lemmas.Bool.{cases_order, cases_Bool, cases_lt, eq-eqb, ne_eqb, eqb-true, lt-ltb, le-ltb, le-leb, and_parts, and_from, and_left, and_right, cond-true, cond-false}
use Rattle.records.specs.declared.SheetFault.{SheetFault}
use Rattle.sheet.specs.declared.Row.{Row}
use Rattle.sheet.specs.declared.Move.{Move}
use Rattle.sheet.specs.Sheets.{zero_row, has_flag, target_of, below, sheet_next, sheet_meaning}
use Rattle.sheet.specs.Sheets as tables
use Rattle.format.specs.declared.Arc.{Arc}
use Rattle.format.specs.declared.Counts.{Counts}
use Rattle.format.specs.Format.{State, Sheet, ArcFits, Fits}
use Rattle.format.specs.Tables.{move_of, own, lower, placed, counted, rows_of, moves_of}
use Rattle.format.specs.Laws.{ReadExactly}
use Rattle.format.specs.Games.{no_state, flagged, arc, GameOf, ReadsGame}
use Rattle.format.proofs.Fields.{ok_same}
use Rattle.format.proofs.Groups.{From, from_sources, rising_from}
use Rattle.format.proofs.Tables.{length_rows}

-- Rows

flags_at : (ss : List State) (i at : ℕ) (arcs : List Arc) (k : ℕ) → (get_or (counted i arcs (placed at ss)) k zero_row).flags ≡ (get_or ss k no_state).flags
flags_at [] i at arcs k = refl
flags_at (s ∷ ss) i at arcs zero = refl
flags_at (s ∷ ss) i at arcs (suc k) = flags_at ss (i + 1) (at + 4 + length s.name) arcs k

first_at : (ss : List State) (i at : ℕ) (arcs : List Arc) (k : ℕ) → k < length ss → (get_or (counted i arcs (placed at ss)) k zero_row).first ≡ lower (i + k) arcs
first_at [] i at arcs k h = absurd (omega arith)
first_at (s ∷ ss) i at arcs zero h = let z : i ≡ i + 0 = omega arith in ap (λ n. lower n arcs) z
first_at (s ∷ ss) i at arcs (suc k) h =
    let z : i + 1 + k ≡ i + suc k = omega arith in
    first_at ss (i + 1) (at + 4 + length s.name) arcs k (omega (arith, h)) ∙ ap (λ n. lower n arcs) z

count_at : (ss : List State) (i at : ℕ) (arcs : List Arc) (k : ℕ) → k < length ss → (get_or (counted i arcs (placed at ss)) k zero_row).count ≡ own (i + k) arcs
count_at [] i at arcs k h = absurd (omega arith)
count_at (s ∷ ss) i at arcs zero h = let z : i ≡ i + 0 = omega arith in ap (λ n. own n arcs) z
count_at (s ∷ ss) i at arcs (suc k) h =
    let z : i + 1 + k ≡ i + suc k = omega arith in
    count_at ss (i + 1) (at + 4 + length s.name) arcs k (omega (arith, h)) ∙ ap (λ n. own n arcs) z

-- Moves by source and label

abbrev is_arc : ℕ → ℕ → Arc → Bool
is_arc i l a = eqb a.source i && eqb a.label l

-- where the first move with the source and the label leads
abbrev arc_target : ℕ → ℕ → List Arc → Option ℕ
arc_target i l [] = None
arc_target i l (a ∷ as') = cond (is_arc i l a) (Some a.target) (arc_target i l as')

arc_none : (i l : ℕ) (arcs : List Arc) → AllByRecursion (λ (a : Arc). i < a.source) arcs → arc_target i l arcs ≡ None
arc_none i l [] h = refl
arc_none i l (a ∷ as') h =
    let up = h.0 in
    cond-false _ _ _ (and_left (eqb a.source i) (eqb a.label l) (ne_eqb a.source i (λ e. omega (arith, up, e)))) ∙ arc_none i l as' h.1

arc_here : (i l t : ℕ) (a : Arc) → a.source ≡ i → a.label ≡ l → a.target ≡ t → a ≡ arc i l t
arc_here i l t a e f g = ap (λ (x : ℕ). arc x a.label a.target) e ∙ ap (λ (x : ℕ). arc i x a.target) f ∙ ap (λ (x : ℕ). arc i l x) g

arc_has : (i l t : ℕ) (arcs : List Arc) → arc_target i l arcs ≡ Some t → ContainsAt arcs (arc i l t)
arc_has i l t [] h = let z : ◌≡◌ {A = ℕ} 0 1 = cc in absurd (omega arith)
arc_has i l t (a ∷ as') h =
    ⊎_elim
    (λ (yes : is_arc i l a ≡ true).
    let p = and_parts (eqb a.source i) (eqb a.label l) yes in
    let some : Some a.target ≡ Some t = sym (cond-true _ _ _ yes) ∙ h in
    let to : a.target ≡ t = cc in
    (0, omega arith, λ d. arc_here i l t a (eqb-true _ _ p.0) (eqb-true _ _ p.1) to))
    (λ (no : is_arc i l a ≡ false). let r = arc_has i l t as' (sym (cond-false _ _ _ no) ∙ h) in let k = r.1 in (suc r.0, omega (arith, k), r.2))
    (cases_Bool (is_arc i l a))

-- a move at or above the pair of i and low
abbrev Reaches : ℕ → ℕ → Arc → Type 0
Reaches i low a = (i < a.source) ⊎ ((i ≡ a.source) × (low ≤ a.label))

reaches_before : (i low : ℕ) (l a : Arc) → Reaches i low l → Reaches l.source (l.label + 1) a → Reaches i low a
reaches_before i low l a h g =
    ⊎_elim
    (λ (x : i < l.source). ⊎_elim (λ (y : l.source < a.source). inl (omega (arith, x, y))) (λ (y : (l.source ≡ a.source) × (l.label + 1 ≤ a.label)). let e = y.0 in inl (omega (arith, x, e))) g)
    (λ (x : (i ≡ l.source) × (low ≤ l.label)).
    let e = x.0 in
    let f = x.1 in
    ⊎_elim (λ (y : l.source < a.source). inl (omega (arith, e, y))) (λ (y : (l.source ≡ a.source) × (l.label + 1 ≤ a.label)). let u = y.0 in let v = y.1 in inr (e ∙ u, omega (arith, f, v))) g)
    h

from_reaches : (size i low : ℕ) (arcs : List Arc) → From size i low arcs → AllByRecursion (Reaches i low) arcs
from_reaches size i low [] f = tt
from_reaches size i low (a ∷ as') f =
    (f.0, All-weaker (Reaches a.source (a.label + 1)) (Reaches i low) (λ x h. reaches_before i low a x f.0 h) as' (from_reaches size a.source (a.label + 1) as' f.2))

-- no later move has the same source and label
later_other : (a : Arc) (i l : ℕ) (t : ℕ) → Reaches a.source (a.label + 1) (arc i l t) → is_arc i l a ≡ false
later_other a i l t h =
    ⊎_elim
    (λ (x : a.source < i). and_left (eqb a.source i) (eqb a.label l) (ne_eqb a.source i (λ e. omega (arith, x, e))))
    (λ (x : (a.source ≡ i) × (a.label + 1 ≤ l)). let y = x.1 in and_right (eqb a.source i) (eqb a.label l) (ne_eqb a.label l (λ e. omega (arith, y, e))))
    h

has_arc : (size j low i l t : ℕ) (arcs : List Arc) → From size j low arcs → ContainsAt arcs (arc i l t) → arc_target i l arcs ≡ Some t
has_arc size j low i l t [] f h = let k = h.1 in absurd (omega (arith, k))
has_arc size j low i l t (a ∷ as') f (zero, k, e) =
    let same : a ≡ arc i l t = e a in
    ap (λ (x : Arc). cond (is_arc i l x) (Some x.target) (arc_target i l as')) same ∙ cond-true _ _ _ (and_from (eqb i i) (eqb l l) (eq-eqb i i refl) (eq-eqb l l refl))
has_arc size j low i l t (a ∷ as') f (suc k, h, e) =
    let there : ContainsAt as' (arc i l t) = (k, omega (arith, h), e) in
    let up = all-has (Reaches a.source (a.label + 1)) as' (arc i l t) (from_reaches size a.source (a.label + 1) as' f.2) there in
    cond-false _ _ _ (later_other a i l t up) ∙ has_arc size a.source (a.label + 1) i l t as' f.2 there

-- A row's moves are those with its source

own_cons : (i : ℕ) (a : Arc) (arcs : List Arc) → own i (a ∷ arcs) ≡ cond (eqb a.source i) 1 0 + own i arcs
own_cons i a arcs = sum_by-cons (λ (x : Arc). cond (eqb x.source i) 1 0) a arcs

lower_cons : (i : ℕ) (a : Arc) (arcs : List Arc) → lower i (a ∷ arcs) ≡ cond (ltb a.source i) 1 0 + lower i arcs
lower_cons i a arcs = sum_by-cons (λ (x : Arc). cond (ltb x.source i) 1 0) a arcs

none_lower : (i : ℕ) (arcs : List Arc) → AllByRecursion (λ (a : Arc). i ≤ a.source) arcs → lower i arcs ≡ 0
none_lower i [] h = refl
none_lower i (a ∷ as') h = lower_cons i a as' ∙ ap (λ b. cond b 1 0 + lower i as') (le-ltb a.source i h.0) ∙ omega (arith, none_lower i as' h.1)

none_own : (i : ℕ) (arcs : List Arc) → AllByRecursion (λ (a : Arc). i < a.source) arcs → own i arcs ≡ 0
none_own i [] h = refl
none_own i (a ∷ as') h = let up = h.0 in own_cons i a as' ∙ ap (λ b. cond b 1 0 + own i as') (ne_eqb a.source i (λ e. omega (arith, up, e))) ∙ omega (arith, none_own i as' h.1)

own_inside : (i : ℕ) (arcs : List Arc) → lower i arcs + own i arcs ≤ length arcs
own_inside i [] = omega arith
own_inside i (a ∷ as') =
    let ih = own_inside i as' in
    let o = own_cons i a as' in
    let w = lower_cons i a as' in
    ⊎_elim
    (λ (e : a.source ≡ i). let x = eq-eqb a.source i e in let y = le-ltb a.source i (omega (arith, e)) in let o1 = o ∙ ap (λ b. cond b 1 0 + own i as') x in let w1 = w ∙ ap (λ b. cond b 1 0 + lower i as') y in omega (arith, ih, o1, w1))
    (λ ne.
    let x = ne_eqb a.source i (λ e. ⊎_elim (λ (p : a.source < i). omega (arith, p, e)) (λ (p : i < a.source). omega (arith, p, e)) ne) in
    let o1 = o ∙ ap (λ b. cond b 1 0 + own i as') x in
    ⊎_elim (λ (b : ltb a.source i ≡ true). let w1 = w ∙ ap (λ b. cond b 1 0 + lower i as') b in omega (arith, ih, o1, w1)) (λ (b : ltb a.source i ≡ false). let w1 = w ∙ ap (λ b. cond b 1 0 + lower i as') b in omega (arith, ih, o1, w1)) (cases_Bool (ltb a.source i)))
    (cases_order a.source i)

-- the first move of i's row with the label
abbrev Found : ℕ → ℕ → List Arc → Type 0
Found i l arcs = target_of l (take (own i arcs) (drop (lower i arcs) (map move_of arcs))) ≡ arc_target i l arcs

-- one move more, of the source i, of a lower one, or of a higher one
module _ (i l : ℕ) (a : Arc) (as' : List Arc) (above : AllByRecursion (λ (x : Arc). a.source ≤ x.source) as') where
  abbrev got : ℕ → ℕ → Option ℕ
  got k n = target_of l (take k (drop n (move_of a ∷ map move_of as')))

  target_own : Found i l as' → a.source ≡ i → Found i l (a ∷ as')
  target_own ih e =
      let up : AllByRecursion (λ (x : Arc). i ≤ x.source) as' = subst (λ k. AllByRecursion (λ (x : Arc). k ≤ x.source) as') e above in
      let low : lower i (a ∷ as') ≡ 0 = none_lower i (a ∷ as') (omega (arith, e), up) in
      let more : own i (a ∷ as') ≡ suc (own i as') = own_cons i a as' ∙ ap (λ b. cond b 1 0 + own i as') (eq-eqb a.source i e) ∙ omega arith in
      let rest : target_of l (take (own i as') (map move_of as')) ≡ arc_target i l as' = ap (λ n. target_of l (take (own i as') (drop n (map move_of as')))) (sym (none_lower i as' up)) ∙ ih in
      let test : eqb a.label l ≡ is_arc i l a = ap (λ b. b && eqb a.label l) (sym (eq-eqb a.source i e)) in
      ap (got (own i (a ∷ as'))) low ∙ ap (λ k. got k 0) more ∙ ap (cond (eqb a.label l) (Some a.target)) rest ∙ ap (λ b. cond b (Some a.target) (arc_target i l as')) test

  target_lower : Found i l as' → a.source < i → Found i l (a ∷ as')
  target_lower ih lt =
      let other = ne_eqb a.source i (λ e. omega (arith, lt, e)) in
      let low : lower i (a ∷ as') ≡ suc (lower i as') = lower_cons i a as' ∙ ap (λ b. cond b 1 0 + lower i as') (lt-ltb a.source i lt) ∙ omega arith in
      let same : own i (a ∷ as') ≡ own i as' = own_cons i a as' ∙ ap (λ b. cond b 1 0 + own i as') other ∙ omega arith in
      ap (got (own i (a ∷ as'))) low ∙ ap (λ k. got k (suc (lower i as'))) same ∙ ih ∙ sym (cond-false _ _ _ (and_left (eqb a.source i) (eqb a.label l) other))

  target_higher : i < a.source → Found i l (a ∷ as')
  target_higher lt =
      let up : AllByRecursion (λ (x : Arc). i < x.source) (a ∷ as') = (lt, All-weaker (λ (x : Arc). a.source ≤ x.source) (λ (x : Arc). i < x.source) (λ x h. omega (arith, h, lt)) as' above) in
      ap (λ k. got k (lower i (a ∷ as'))) (none_own i (a ∷ as') up) ∙ sym (arc_none i l (a ∷ as') up)

own_targets : (size i l j low : ℕ) (arcs : List Arc) → From size j low arcs → Found i l arcs
own_targets size i l j low [] f = refl
own_targets size i l j low (a ∷ as') f =
    let above = from_sources size a.source (a.label + 1) as' f.2 in
    let ih = own_targets size i l a.source (a.label + 1) as' f.2 in
    ⊎_elim (target_own i l a as' above ih) (⊎_elim (target_lower i l a as' above ih) (target_higher i l a as' above)) (cases_order a.source i)

-- The game

no_some : (o : Option ℕ) → ((t : ℕ) → o ≡ Some t → ⊥) → o ≡ None
no_some None h = refl
no_some (Some t) h = absurd (h t refl)

all_below : (n : ℕ) (o : Option ℕ) → ((t : ℕ) → o ≡ Some t → t < n) → below n o ≡ o
all_below n None h = refl
all_below n (Some t) h = cond-true _ _ _ (lt-ltb t n (h t refl))

module _ (s : Sheet) (fits : Fits s) where
  abbrev size : ℕ
  size = length s.states

  rising : From size 0 0 s.moves
  rising = rising_from size s.moves fits.3 fits.4

  inside : (i l t : ℕ) → arc_target i l s.moves ≡ Some t → ArcFits size (arc i l t)
  inside i l t h = all-has (ArcFits size) s.moves (arc i l t) fits.3 (arc_has i l t s.moves h)

  -- the moves of a row, and the first with the label
  row_target : (i l : ℕ) → i < size → target_of l (tables.moves_of (moves_of s) (get_or (rows_of s) i zero_row)) ≡ arc_target i l s.moves
  row_target i l h =
      let row = get_or (rows_of s) i zero_row in
      let arcs = s.moves in
      let f : row.first ≡ lower i arcs = first_at s.states 0 5 arcs i h ∙ ap (λ n. lower n arcs) (zero-add i) in
      let c : row.count ≡ own i arcs = count_at s.states 0 5 arcs i h ∙ ap (λ n. own n arcs) (zero-add i) in
      let within : row.first + row.count ≤ length (moves_of s) = omega (arith, f, c, own_inside i arcs, length-map arcs move_of) in
      ap (target_of l) (cond-true _ _ _ (le-leb (row.first + row.count) (length (moves_of s)) within))
      ∙ ap (λ n. target_of l (take row.count (drop n (moves_of s)))) f
      ∙ ap (λ n. target_of l (take n (drop (lower i arcs) (moves_of s)))) c
      ∙ own_targets size i l 0 0 arcs rising

  next_is : (i l : ℕ) → sheet_next (rows_of s) (moves_of s) i l ≡ arc_target i l s.moves
  next_is i l = ap (λ n. cond (ltb i n && ltb l 64) (below n found) None) (length_rows s) ∙ go
    where
      found : Option ℕ
      found = target_of l (tables.moves_of (moves_of s) (get_or (rows_of s) i zero_row))

      nowhere : (ltb i size && ltb l 64) ≡ false → ((t : ℕ) → arc_target i l s.moves ≡ Some t → ⊥) → cond (ltb i size && ltb l 64) (below size found) None ≡ arc_target i l s.moves
      nowhere out none = cond-false _ _ _ out ∙ sym (no_some _ none)

      go : cond (ltb i size && ltb l 64) (below size found) None ≡ arc_target i l s.moves
      go =
          ⊎_elim
          (λ (a : i < size). ⊎_elim
          (λ (b : l < 64). cond-true _ _ _ (and_from _ _ (lt-ltb i size a) (lt-ltb l 64 b)) ∙ ap (below size) (row_target i l a) ∙ all_below size _ (λ t h. (inside i l t h).2))
          (λ (b : 64 ≤ l). nowhere (and_right (ltb i size) (ltb l 64) (le-ltb l 64 b)) (λ t h. let x = (inside i l t h).1 in omega (arith, x, b)))
          (cases_lt l 64))
          (λ (a : size ≤ i). nowhere (and_left (ltb i size) (ltb l 64) (le-ltb i size a)) (λ t h. let x = (inside i l t h).0 in omega (arith, x, a)))
          (cases_lt i size)

  fact : (flag i : ℕ) → has_flag (rows_of s) flag i ≡ flagged s flag i
  fact flag i =
      ap (λ n. ltb i n && eqb (bit_and (get_or (rows_of s) i zero_row).flags flag) flag) (length_rows s)
      ∙ ap (λ x. ltb i size && eqb (bit_and x flag) flag) (flags_at s.states 0 5 s.moves i)

  pub game_of : GameOf s (sheet_meaning (rows_of s) (moves_of s))
  game_of = record {
    states = length_rows s;
    labels = refl;
    public = fact 1;
    start = fact 2;
    end = fact 4;
    goal = fact 8;
    moves = λ i l t h. next_is i l ∙ has_arc size 0 0 i l t s.moves rising h;
    no_others = λ i l t h. arc_has i l t s.moves (sym (next_is i l) ∙ h);
  }

-- the tables that a reading fills, cut to what it counts
pub reads_game : (n m : ℕ) (bs : List ℕ) (r : Result Counts SheetFault) (rows : List Row) (ms : List Move) → ReadExactly n m bs (r, rows, ms) → ReadsGame n m bs (r, rows, ms)
reads_game n m bs (Ok c) rows ms e =
    let s = e.0.0 in
    let is = e.0.1 in
    let same = e.0.2 in
    let counts : c ≡ record { states = length s.states; moves = length s.moves } = ok_same _ _ (ap (λ (t : Result Counts SheetFault × List Row × List Move). t.0) same) in
    let states : take c.states rows ≡ rows_of s =
    ap (λ (k : Counts). take k.states rows) counts
    ∙ ap (λ (t : Result Counts SheetFault × List Row × List Move). take (length s.states) t.1) same
    ∙ take_at (rows_of s) _ (length s.states) (length_rows s) in
    let moves : take c.moves ms ≡ moves_of s =
    ap (λ (k : Counts). take k.moves ms) counts
    ∙ ap (λ (t : Result Counts SheetFault × List Row × List Move). take (length s.moves) t.2) same
    ∙ take_at (moves_of s) _ (length s.moves) (length-map s.moves move_of) in
    (s, is, subst (λ (x : List Row). GameOf s (sheet_meaning x (take c.moves ms))) (sym states) (subst (λ (x : List Move). GameOf s (sheet_meaning (rows_of s) x)) (sym moves) (game_of s is.0)))
reads_game n m bs (Err f) rows ms e = tt
