-- Rows that are sound one behind the other.

use Rattle.std.proofs.Common.{◌≡◌, ℕ, zero, suc, ◌+◌, ◌-◌, ◌≤◌, Bool, true, false, cond, eqb, ◌⊎◌, List, [], ◌∷◌, ◌++◌, map, length, take, drop, replicate, Some, None, Option, sym, refl, ap, ◌∙◌, subst, inl, inr, ⊎_elim, arith}
use Rattle.std.specs.List.{AllByRecursion}
use Rattle.std.proofs.lemmas.List.{drop-take, take-take, length-take-le}
use Rattle.std.proofs.lemmas.List.Sums.{sum_by-cons}
use Rattle.std.proofs.lemmas.Bool.{cond-true, eq-eqb, eqb-true, eqb-false}
use Rattle.records.specs.Fields.{all_printable}
use Rattle.sheet.specs.declared.Row.{Row}
use Rattle.sheet.specs.declared.Move.{Move}
use Rattle.format.specs.Format.{State}
use Rattle.format.specs.Tables.{state_in, name_in, moves_in, relocated}
use Rattle.format.specs.Writing.{moves_sound, row_sound, first_unsound}
use Rattle.format.specs.Judgement.{NameInside, MovesInside, counts_of}
use Rattle.format.proofs.Tables.{passed, passes, Sound, sound_row}

-- the first move behind the rows
abbrev pub behind : ℕ → List Row → ℕ
behind first [] = first
behind first (r ∷ rs) = behind (first + r.count) rs

pub behind_counts : (first : ℕ) (rows : List Row) → behind first rows ≡ first + counts_of rows
behind_counts first [] = omega arith
behind_counts first (r ∷ rs) = behind_counts (first + r.count) rs ∙ omega (arith, sum_by-cons (λ (x : Row). x.count) r rs)

pub behind_relocated : (at first : ℕ) (rows : List Row) → behind first (relocated at rows) ≡ behind first rows
behind_relocated at first [] = refl
behind_relocated at first (r ∷ rs) = behind_relocated (at + 4 + r.len) (first + r.count) rs

-- a part of the front of a list
window : (c f t : ℕ) (ms : List Move) → f + c ≤ t → take c (drop f (take t ms)) ≡ take c (drop f ms)
window c f t ms h =
    let m = t - f in
    let e : t ≡ f + m = omega arith in
    ap (λ k. take c (drop f (take k ms))) e ∙ ap (take c) (drop-take f m ms) ∙ take-take c m (drop f ms) (omega arith)

cons_same : {A : Type 0} (x y : A) (xs ys : List A) → ◌≡◌ {A = List A} (x ∷ xs) (y ∷ ys) → (x ≡ y) × (xs ≡ ys)
cons_same x y xs ys h = (cc, cc)

-- a list of tests stopped at `k`
stopped : (b : Bool) (o : Option ℕ) (i k : ℕ) → cond b o (Some i) ≡ Some k → ((b ≡ true) × (o ≡ Some k)) ⊎ ((b ≡ false) × (k ≡ i))
stopped true o i k h = inl (refl, h)
stopped false o i k h = inr (refl, cc)

no_row : (k : ℕ) → ◌≡◌ {A = Option ℕ} None (Some k) → ⊥
no_row k h = let z : ◌≡◌ {A = ℕ} 0 1 = cc in absurd (omega arith)

module _ (size : ℕ) where
  pub sound_passes : (names : List ℕ) (ms : List Move) (first : ℕ) (r : Row) → Sound size names ms first r → row_sound size names ms first r ≡ true
  sound_passes names ms first r s = passes size names ms first r s.flagged s.short s.inside s.plain s.begins s.reaches s.moves

  -- each row is sound behind those before it
  abbrev pub Chain : List ℕ → List Move → ℕ → List Row → Type 0
  Chain names ms first [] = Unit {0}
  Chain names ms first (r ∷ rs) = Sound size names ms first r × Chain names ms (first + r.count) rs

  pub chain_of : (names : List ℕ) (ms : List Move) (rows : List Row) (i first : ℕ) → first_unsound i first size names ms rows ≡ None → Chain names ms first rows × (behind first rows ≡ length ms)
  chain_of names ms [] i first h = (tt, eqb-true first (length ms) (passed (eqb first (length ms)) None i h).0)
  chain_of names ms (r ∷ rs) i first h =
      let p = passed (row_sound size names ms first r) (first_unsound (i + 1) (first + r.count) size names ms rs) i h in
      let c = chain_of names ms rs (i + 1) (first + r.count) p.1 in
      ((sound_row size names ms first r p.0, c.0), c.1)

  pub chain_none : (names : List ℕ) (ms : List Move) (rows : List Row) (i first : ℕ) → Chain names ms first rows → behind first rows ≡ length ms → first_unsound i first size names ms rows ≡ None
  chain_none names ms [] i first c e = cond-true (eqb first (length ms)) _ _ (eq-eqb first (length ms) e)
  chain_none names ms (r ∷ rs) i first c e =
      cond-true (row_sound size names ms first r) _ _ (sound_passes names ms first r c.0)
      ∙ chain_none names ms rs (i + 1) (first + r.count) c.1 e

  pub chain_take : (names : List ℕ) (ms : List Move) (k : ℕ) (rows : List Row) (first : ℕ) → Chain names ms first rows → Chain names ms first (take k rows)
  chain_take names ms zero rows first c = tt
  chain_take names ms (suc k) [] first c = tt
  chain_take names ms (suc k) (r ∷ rs) first c = (c.0, chain_take names ms k rs (first + r.count) c.1)

  pub chain_last : (names : List ℕ) (ms : List Move) (rows : List Row) (r : Row) (first : ℕ) → Chain names ms first (rows ++ r ∷ []) → Sound size names ms (behind first rows) r
  chain_last names ms [] r first c = c.0
  chain_last names ms (q ∷ rs) r first c = chain_last names ms rs r (first + q.count) c.1

  pub chain_within : (names : List ℕ) (ms : List Move) (rows : List Row) (first : ℕ) → first ≤ length ms → Chain names ms first rows → (first ≤ behind first rows) × (behind first rows ≤ length ms)
  chain_within names ms [] first h c = (omega arith, h)
  chain_within names ms (r ∷ rs) first h c =
      let i = chain_within names ms rs (first + r.count) c.0.reaches c.1 in
      ((let a = i.0 in omega (arith, a)), i.1)

  pub chain_names : (names : List ℕ) (ms : List Move) (rows : List Row) (first : ℕ) → Chain names ms first rows → AllByRecursion (NameInside names) rows
  chain_names names ms [] first c = tt
  chain_names names ms (r ∷ rs) first c = (c.0.inside, chain_names names ms rs (first + r.count) c.1)

  pub chain_moves : (names : List ℕ) (ms : List Move) (rows : List Row) (first : ℕ) → Chain names ms first rows → AllByRecursion (MovesInside ms) rows
  chain_moves names ms [] first c = tt
  chain_moves names ms (r ∷ rs) first c =
      let b = c.0.begins in
      let e = c.0.reaches in
      (omega (arith, b, e), chain_moves names ms rs (first + r.count) c.1)

  -- where the names lie does not matter, nor what else the move table holds
  pub chain_elsewhere : (names bs : List ℕ) (ms ns : List Move) (rows : List Row) (first at : ℕ) → Chain bs ns first (relocated at rows) → map (state_in bs) (relocated at rows) ≡ map (state_in names) rows → map (moves_in ns) rows ≡ map (moves_in ms) rows → AllByRecursion (NameInside names) rows → AllByRecursion (MovesInside ms) rows → Chain names ms first rows
  chain_elsewhere names bs ms ns [] first at c e m a b = tt
  chain_elsewhere names bs ms ns (r ∷ rs) first at c e m a b =
      let q : Row = record { flags = r.flags; place = at + 4; len = r.len; first = r.first; count = r.count } in
      let s = c.0 in
      let d = cons_same (state_in bs q) (state_in names r) (map (state_in bs) (relocated (at + 4 + r.len) rs)) (map (state_in names) rs) e in
      let n = cons_same (moves_in ns r) (moves_in ms r) (map (moves_in ns) rs) (map (moves_in ms) rs) m in
      let w : name_in bs q ≡ name_in names r = ap (λ (x : State). x.name) d.0 in
      let f = s.begins in
      let l = a.0 in
      let k = b.0 in (
        record {
          flagged = s.flagged;
          short = s.short;
          inside = l;
          plain = ap all_printable (sym w) ∙ s.plain;
          begins = f;
          reaches = omega (arith, f, k);
          moves =
              ap (λ i. moves_sound size 0 (take r.count (drop i ms))) (sym f)
              ∙ ap (moves_sound size 0) (sym n.0)
              ∙ ap (λ i. moves_sound size 0 (take r.count (drop i ns))) f
              ∙ s.moves;
        },
        chain_elsewhere names bs ms ns rs (first + r.count) (at + 4 + r.len) c.1 d.1 n.1 a.1 b.1,
      )

  -- moves behind the rows may be cut off
  pub chain_cut : (names : List ℕ) (ms : List Move) (t : ℕ) (rows : List Row) (first : ℕ) → first ≤ length ms → Chain names ms first rows → behind first rows ≤ t → t ≤ length ms → Chain names (take t ms) first rows × (map (moves_in (take t ms)) rows ≡ map (moves_in ms) rows)
  chain_cut names ms t [] first h c l u = (tt, refl)
  chain_cut names ms t (r ∷ rs) first h c l u =
      let s = c.0 in
      let w = (chain_within names ms rs (first + r.count) s.reaches c.1).0 in
      let f = s.begins in
      let i = chain_cut names ms t rs (first + r.count) s.reaches c.1 l u in (
        (
          record {
            flagged = s.flagged;
            short = s.short;
            inside = s.inside;
            plain = s.plain;
            begins = f;
            reaches = omega (arith, w, l, length-take-le t ms u);
            moves = ap (moves_sound size 0) (window r.count first t ms (omega (arith, w, l))) ∙ s.moves;
          },
          i.0,
        ),
        ap (λ x. x ∷ map (moves_in (take t ms)) rs) (window r.count r.first t ms (omega (arith, f, w, l))) ∙ ap (λ x. moves_in ms r ∷ x) i.1,
      )

  -- a row without name and moves, behind rows that have the first `t` moves
  abbrev pub blank : ℕ → Row
  blank t = record { flags = 0; place = 0; len = 0; first = t; count = 0 }

  blank_sound : (names : List ℕ) (ms : List Move) (t : ℕ) → t ≤ length ms → Sound size names ms t (blank t)
  blank_sound names ms t h = record {
    flagged = refl;
    short = omega arith;
    inside = omega arith;
    plain = refl;
    begins = refl;
    reaches = omega arith;
    moves = refl;
  }

  chain_blank : (names : List ℕ) (ms : List Move) (t k first : ℕ) → first ≡ t → t ≤ length ms → Chain names ms first (replicate k (blank t)) × (behind first (replicate k (blank t)) ≡ t)
  chain_blank names ms t zero first e h = (tt, e)
  chain_blank names ms t (suc k) first e h =
      let i = chain_blank names ms t k (first + 0) (omega arith) h in
      ((subst (λ x. Sound size names ms x (blank t)) (sym e) (blank_sound names ms t h), i.0), i.1)

  pub chain_padded : (names : List ℕ) (ms : List Move) (t k : ℕ) (rows : List Row) (first : ℕ) → Chain names ms first rows → behind first rows ≡ t → t ≤ length ms → Chain names ms first (rows ++ replicate k (blank t)) × (behind first (rows ++ replicate k (blank t)) ≡ t)
  chain_padded names ms t k [] first c e h = chain_blank names ms t k first e h
  chain_padded names ms t k (r ∷ rs) first c e h =
      let i = chain_padded names ms t k rs (first + r.count) c.1 e h in
      ((c.0, i.0), i.1)

  -- the rows before the one that the search stops at, that one, and the rest; or all rows, with moves left over
  abbrev pub Stop : List ℕ → List Move → ℕ → List Row → ℕ → ℕ → Type 0
  Stop names ms first rows i k =
      (good : List Row) × (bad : List Row) × (rows ≡ good ++ bad) × (k ≡ i + length good) × Chain names ms first good
      × (((r : Row) × (rest : List Row) × (bad ≡ r ∷ rest) × (row_sound size names ms (behind first good) r ≡ false))
      ⊎ ((bad ≡ []) × (behind first good ≡ length ms → ⊥)))

  pub stop_of : (names : List ℕ) (ms : List Move) (rows : List Row) (i first k : ℕ) → first_unsound i first size names ms rows ≡ Some k → Stop names ms first rows i k
  stop_of names ms [] i first k h =
      ⊎_elim
      (λ (t : (eqb first (length ms) ≡ true) × (None ≡ Some k)). absurd (no_row k t.1))
      (λ (t : (eqb first (length ms) ≡ false) × (k ≡ i)). ([], [], refl, (let e = t.1 in omega (arith, e)), tt, inr (refl, eqb-false first (length ms) t.0)))
      (stopped (eqb first (length ms)) None i k h)
  stop_of names ms (r ∷ rs) i first k h =
      let o = first_unsound (i + 1) (first + r.count) size names ms rs in
      ⊎_elim
      (λ (t : (row_sound size names ms first r ≡ true) × (o ≡ Some k)).
      let s = stop_of names ms rs (i + 1) (first + r.count) k t.1 in
      let e = s.3 in
      (r ∷ s.0, s.1, ap (λ x. r ∷ x) s.2, omega (arith, e), (sound_row size names ms first r t.0, s.4), s.5))
      (λ (t : (row_sound size names ms first r ≡ false) × (k ≡ i)).
      let e = t.1 in
      ([], r ∷ rs, refl, omega (arith, e), tt, inl (r, rs, refl, t.0)))
      (stopped (row_sound size names ms first r) o i k h)
