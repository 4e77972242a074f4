-- The state behind a label is the target of the first move with that label.
use Rattle.std.proofs.Common.{◌≡◌, ℕ, zero, suc, ◌+◌, ◌<◌, Bool, true, false, cond, ◌&&◌, eqb, ltb, leb, List, [], ◌∷◌, length, get_or, take, drop, Some, Option, sym, refl, ap, ◌∙◌, ⊎_elim, arith, length-drop, length-take}
use Rattle.std.proofs.lemmas.List.{get_or-take, get_or-drop}
use Rattle.std.proofs.lemmas.Bool.{eq-eqb, ne_eqb, eqb-true, eqb-false, ltb-true, lt-ltb, leb-true, le-leb, and_parts, and_from, cases_Bool, cond-true, cond-false}
use Rattle.std.proofs.lemmas.Option.{none-some}
use Rattle.sheet.specs.declared.Row.{Row}
use Rattle.sheet.specs.declared.Move.{Move}
use Rattle.sheet.specs.SheetLaws.{under, under_below}
use Rattle.sheet.specs.Sheets.{zero_row, zero_move, target_of, moves_of, below, sheet_next, Leads, NextIs}

-- the move at `place` is the first with the label, and its target is t
record First (l : ℕ) (vs : List Move) (t : ℕ) : Type 0 where
  pub place : ℕ
  pub inside : place < length vs
  pub labelled : (get_or vs place zero_move).label ≡ l
  pub target : (get_or vs place zero_move).target ≡ t
  pub first : (i : ℕ) → i < place → (get_or vs i zero_move).label ≡ l → ⊥

later : (l : ℕ) (v : Move) (vs : List Move) (t : ℕ) → (v.label ≡ l → ⊥) → First l vs t → First l (v ∷ vs) t
later l v vs t ne f = record {
  place = suc f.place;
  inside = omega (arith, f.inside);
  labelled = f.labelled;
  target = f.target;
  first = before;
}
  where
    before : (i : ℕ) → i < suc f.place → (get_or (v ∷ vs) i zero_move).label ≡ l → ⊥
    before zero h e = ne e
    before (suc i) h e = f.first i (omega arith) e

found_first : (l : ℕ) (vs : List Move) (t : ℕ) → target_of l vs ≡ Some t → First l vs t
found_first l [] t h = absurd (none-some t h)
found_first l (v ∷ vs) t h =
    ⊎_elim
    (λ here.
    let same : Some v.target ≡ Some t = sym (cond-true _ _ _ here) ∙ h in
    record {
      place = 0;
      inside = omega arith;
      labelled = eqb-true v.label l here;
      target = cc;
      first = λ i lt _. absurd (omega arith);
    })
    (λ no. later l v vs t (eqb-false v.label l no) (found_first l vs t (sym (cond-false _ _ _ no) ∙ h)))
    (cases_Bool (eqb v.label l))

first_found : (l : ℕ) (vs : List Move) (t i : ℕ) → i < length vs → (get_or vs i zero_move).label ≡ l → (get_or vs i zero_move).target ≡ t → ((k : ℕ) → k < i → (get_or vs k zero_move).label ≡ l → ⊥) → target_of l vs ≡ Some t
first_found l [] t i h e to before = absurd (omega arith)
first_found l (v ∷ vs) t zero h e to before = cond-true _ _ _ (eq-eqb v.label l e) ∙ ap Some to
first_found l (v ∷ vs) t (suc i) h e to before = cond-false _ _ _ (ne_eqb v.label l (before 0 (omega arith))) ∙ first_found l vs t i (omega arith) e to (λ k lt. before (suc k) (omega arith))

-- a row that reaches outside has no moves
under_moves : (b : Bool) (l : ℕ) (vs : List Move) (t : ℕ) → target_of l (cond b vs []) ≡ Some t → (b ≡ true) × (target_of l vs ≡ Some t)
under_moves true l vs t h = (refl, h)
under_moves false l vs t h = absurd (none-some t h)

module _ (rows : List Row) (moves : List Move) (s l : ℕ) where
  abbrev row : Row
  row = get_or rows s zero_row

  abbrev own : List Move
  own = take row.count (drop row.first moves)

  own_at : (i : ℕ) → i < row.count → get_or own i zero_move ≡ get_or moves (row.first + i) zero_move
  own_at i h = get_or-take row.count (drop row.first moves) i zero_move h ∙ get_or-drop row.first moves i zero_move

  leading : (t : ℕ) → sheet_next rows moves s l ≡ Some t → Leads rows moves s l t
  leading t h =
      let p = under (ltb s (length rows) && ltb l 64) _ t h in
      let both = and_parts (ltb s (length rows)) (ltb l 64) p.0 in
      let q = under_below (length rows) t (target_of l (moves_of moves row)) p.1 in
      let w = under_moves (leb (row.first + row.count) (length moves)) l own t q.0 in
      let f = found_first l own t w.1 in
      let few : f.place < row.count = omega (arith, f.inside, length-take row.count (drop row.first moves)) in
      record {
        state = ltb-true s (length rows) both.0;
        label = ltb-true l 64 both.1;
        within = leb-true (row.first + row.count) (length moves) w.0;
        place = f.place;
        own = few;
        labelled = sym (ap (λ (v : Move). v.label) (own_at f.place few)) ∙ f.labelled;
        target = sym (ap (λ (v : Move). v.target) (own_at f.place few)) ∙ f.target;
        first = λ i lt e. f.first i lt (ap (λ (v : Move). v.label) (own_at i (omega arith)) ∙ e);
        inside = q.1;
      }

  led : (t : ℕ) → Leads rows moves s l t → sheet_next rows moves s l ≡ Some t
  led t d =
      let i : ℕ = d.place in
      let long : i < length own = omega (arith, d.own, d.within, length-take row.count (drop row.first moves), length-drop row.first moves) in
      let found : target_of l own ≡ Some t = first_found l own t i long (ap (λ (v : Move). v.label) (own_at i d.own) ∙ d.labelled) (ap (λ (v : Move). v.target) (own_at i d.own) ∙ d.target) (λ k lt e. d.first k lt (sym (ap (λ (v : Move). v.label) (own_at k (omega (arith, d.own)))) ∙ e)) in
      let mine : moves_of moves row ≡ own = cond-true _ _ _ (le-leb (row.first + row.count) (length moves) d.within) in
      cond-true _ _ _ (and_from (ltb s (length rows)) (ltb l 64) (lt-ltb s (length rows) d.state) (lt-ltb l 64 d.label)) ∙ (ap (λ (vs : List Move). below (length rows) (target_of l vs)) mine ∙ (ap (below (length rows)) found ∙ cond-true _ _ _ (lt-ltb t (length rows) d.inside)))

  pub next_is : (r : Option ℕ) → r ≡ sheet_next rows moves s l → NextIs rows moves s l r
  next_is r e = record { only = λ t h. leading t (sym e ∙ h); all = λ t d. e ∙ led t d }
