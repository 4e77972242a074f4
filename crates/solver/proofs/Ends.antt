-- From one layer to the next.
use Rattle.std.proofs.Common.{◌≡◌, ℕ, suc, ◌+◌, ◌*◌, ◌/◌, ◌%◌, ◌<◌, ◌≤◌, ◌⊎◌, Bool, true, false, cond, List, [], ◌∷◌, ◌++◌, length, get_or, set, is_some, Some, None, Option, sym, refl, ap, ◌∙◌, subst, inl, inr, ⊎_elim, arith, length-append, length-set, get_or-set_other, get_or-set_same}
use Rattle.std.proofs.lemmas.Bool.{cases_Bool, cases_lt, cases_eq, cond-true, cond-false, and_from, or_left, or_right, both_ways, not_from_false}
use Rattle.std.proofs.lemmas.List.{get_or_push, get_or_append_left}
use Rattle.game.specs.Meaning.{Meaning, Lawful, done}
use Rattle.game.specs.Search.{or_else}
use Rattle.game.specs.Ranks.{Bars, none_or, within, rank}
use Rattle.game.proofs.Searches.{first_some, first_is, all_decides, option_cases}
use Rattle.game.proofs.Layers.{rank_within, within_done, ranked}
use Rattle.game.proofs.Meanings.{label_low}
use Rattle.game.proofs.Rules.{kiosk_best, public_worst}
use Rattle.solver.specs.declared.Cell.{Cell}
use Rattle.solver.specs.declared.work.Work.{Work}
use Rattle.solver.specs.Cells.{empty}
use Rattle.solver.specs.Known.{known, cell_of, Filled}
use Rattle.solver.proofs.Known.{rank_of_cell, agree, soon, outside}
use Rattle.game.proofs.Searches.{same_first}
use Rattle.solver.specs.Arcs.{usable, arc}
use Rattle.solver.specs.Run.{Touched, ranked_below, Pointed, has_cell, Run, Moved, Running, At, Followed}
use Rattle.solver.proofs.Rounds.{known_more}
use Rattle.solver.proofs.Counts.{many_below, many_more}

pub stays : {m : Meaning} {b : Bars} {k : ℕ} {v : Work} → Moved m b k v v
stays = record { grows = λ s h. h; keeps = λ j lt. refl; longer = omega arith; added = λ s e. inl e; lent = refl }

pub then : {m : Meaning} {b : Bars} {k : ℕ} {u v w : Work} → Moved m b k u v → Moved m b k v w → Moved m b k u w
then x y = record {
  grows = λ s h. y.grows s (x.grows s h);
  keeps = λ j lt. y.keeps j (omega (arith, x.longer)) ∙ x.keeps j lt;
  longer = omega (arith, x.longer, y.longer);
  added = λ s e. ⊎_elim
      (λ old. ⊎_elim (λ e'. inl e') (λ st. inr (st.0, st.1, omega (arith, st.2, y.longer), y.keeps st.0 st.2 ∙ st.3)) (x.added s old))
      (λ st. inr (st.0, omega (arith, st.1, x.longer), st.2, st.3))
      (y.added s e);
  lent = y.lent ∙ x.lent;
}

pub has_room : {m : Meaning} {b : Bars} {k s : ℕ} {cells : List Cell} {queue pointers : List ℕ} → Run m b k cells queue pointers → s < m.size → has_cell cells s ≡ false → length queue < m.size
has_room {m} {b} {k} {s} {cells} run lt e = omega (arith, run.counted, many_below (has_cell cells) m.size s lt e)

-- s gets the rank k, and stands in the queue
module _ {m : Meaning} {b : Bars} {k s : ℕ} (v w : Work) {pointers : List ℕ} (run : Run m b k v.cells.now v.queue.items pointers) (lt : s < m.size) (none : has_cell v.cells.now s ≡ false) (some : known m b (suc k) s ≡ Some k) (sets : w.cells.now ≡ set v.cells.now s (cell_of m b s (Some k))) (pushes : w.queue.items ≡ v.queue.items ++ s ∷ []) (lent : w.cells.ghost_name ≡ v.cells.ghost_name) where
  here : get_or w.cells.now s empty ≡ cell_of m b s (Some k)
  here = ap (λ c. get_or c s empty) sets ∙ get_or-set_same v.cells.now s (cell_of m b s (Some k)) empty (omega (arith, run.room))

  other : (u : ℕ) → (u ≡ s → ⊥) → get_or w.cells.now u empty ≡ get_or v.cells.now u empty
  other u ne = ap (λ c. get_or c u empty) sets ∙ get_or-set_other v.cells.now s u (cell_of m b s (Some k)) empty ne

  at : (u : ℕ) → u ≡ s → Touched m b k w.cells.now u
  at u e = subst (Touched m b k w.cells.now) (sym e) (here ∙ ap (cell_of m b s) (sym some))

  more : length w.queue.items ≡ length v.queue.items + 1
  more = ap (λ (x : _). length x) pushes ∙ length-append v.queue.items (s ∷ [])

  last : get_or w.queue.items (length v.queue.items) 0 ≡ s
  last = ap (λ (x : List ℕ). get_or x (length v.queue.items) 0) pushes ∙ get_or_push v.queue.items s 0 (length v.queue.items) refl

  front : (j : ℕ) → j < length v.queue.items → get_or w.queue.items j 0 ≡ get_or v.queue.items j 0
  front j less = ap (λ (x : List ℕ). get_or x j 0) pushes ∙ get_or_append_left v.queue.items (s ∷ []) 0 j less

  pub entered : Run m b k w.cells.now w.queue.items pointers × Moved m b k v w × Touched m b k w.cells.now s
  entered = (
    record {
      mid = λ u. ⊎_elim (λ e. inr (at u e)) (λ ne. ⊎_elim (λ h. inl (other u ne ∙ h)) (λ h. inr (other u ne ∙ h)) (run.mid u)) (cases_eq u s);
      pointed = run.pointed;
      counted = omega (arith, more, run.counted, many_more (has_cell v.cells.now) (has_cell w.cells.now) m.size s lt none (ap (λ c. is_some c.rank) here ∙ ap is_some (rank_of_cell m b s (Some k))) (λ u ne. sym (ap (λ c. is_some c.rank) (other u ne))));
      inside = λ j less. ⊎_elim
          (λ e. subst (λ x. x < m.size) (sym (ap (λ i. get_or w.queue.items i 0) e ∙ last)) lt)
          (λ ne. let old : j < length v.queue.items = omega (arith, more, ⊎_elim {C = (j < length v.queue.items) ⊎ (length v.queue.items < j)} (λ h. inl h) (λ h. inr (omega arith)) (cases_lt j (length v.queue.items))) in subst (λ x. x < m.size) (sym (front j old)) (run.inside j old))
          (cases_eq j (length v.queue.items));
      room = omega (arith, run.room, ap (λ (x : List Cell). length x) sets, length-set v.cells.now s (cell_of m b s (Some k)));
    },
    record {
      grows = λ u h. ⊎_elim (λ e. at u e) (λ ne. other u ne ∙ h) (cases_eq u s);
      keeps = front;
      longer = omega (arith, more);
      added = λ u h. ⊎_elim
          (λ e. inr (length v.queue.items, omega arith, omega (arith, more), last ∙ sym e))
          (λ ne. inl (ap (λ c. c.rank) (sym (other u ne)) ∙ h))
          (cases_eq u s);
      lent = lent;
    },
    at s refl,
  )

module _ (m : Meaning) (ok : Lawful m) (b : Bars) where
  -- a rank as it becomes known
  rank_known : (k s : ℕ) → known m b (suc k) s ≡ Some k → rank m b s ≡ Some k
  unfolding rank
  rank_known k s e =
      let got = ranked m ok b k s (first_is (λ j. within m b j s) (suc k) k e).passes in
      got.1 ∙ ap Some (sym (same_first (λ j. within m b j s) (suc k) (suc m.size) k got.0 e got.1))

  known_rank : (k s : ℕ) → rank m b s ≡ Some k → known m b (suc k) s ≡ Some k
  unfolding rank
  known_rank k s e =
      let got = first_some (λ j. within m b j s) (suc k) k (omega arith) (rank_within m ok b s k e) in
      got.1 ∙ ap Some (same_first (λ j. within m b j s) (suc k) (suc m.size) got.0 k got.1 e)

  arc_of : (s l t : ℕ) → m.next s l ≡ Some t → usable m b s l ≡ true → s < m.size → (e : ℕ) × (e < m.size * 64) × (arc m b e ≡ Some t) × (e / 64 ≡ s)
  arc_of s l t to free lt =
      let few : l < 64 = omega (arith, label_low m ok s l t to, ok.few) in
      let div : (s * 64 + l) / 64 ≡ s = omega arith in
      let rem : (s * 64 + l) % 64 ≡ l = omega arith in
      (s * 64 + l, omega arith, ap (λ x. cond (usable m b x ((s * 64 + l) % 64)) (m.next x ((s * 64 + l) % 64)) None) div ∙ ap (λ y. cond (usable m b s y) (m.next s y) None) rem ∙ cond-true (usable m b s l) _ _ free ∙ to, div)

  -- a state of rank q + 1 has an arc to one of rank q
  pub arc_down : (q s : ℕ) → known m b (suc (suc q)) s ≡ Some (suc q) → (e : ℕ) × (t : ℕ) × (e < m.size * 64) × (arc m b e ≡ Some t) × (e / 64 ≡ s) × (known m b (suc q) t ≡ Some q)
  arc_down q s e =
      let is' = first_is (λ j. within m b j s) (suc (suc q)) (suc q) e in
      let nd : done m s ≡ false = ⊎_elim (λ d. absurd (both_ways _ (is'.lowest 0 (omega arith)) (within_done m ok b 0 s d))) (λ f. f) (cases_Bool (done m s)) in
      let lt : s < m.size = ⊎_elim (λ h. h) (λ ge. absurd (outside m ok b (suc q) s ge is'.passes)) (cases_lt s m.size) in
      let r = rank_known (suc q) s e in
      ⊎_elim
      (λ pub'.
      let w = public_worst m ok b s (suc q) nd pub' r in
      let same : w.0 ≡ q = omega (arith, w.1) in
      let a = arc_of s w.2.0 w.2.1 w.2.2.1 (and_from _ _ (not_from_false _ w.2.2.0) (or_left _ _ pub')) lt in
      (a.0, w.2.1, a.1, a.2, a.3, known_rank q w.2.1 (w.2.3 ∙ ap Some same)))
      (λ kio.
      let w = kiosk_best m ok b s (suc q) nd kio r in
      let same : w.0 ≡ q = omega (arith, w.1) in
      let a = arc_of s w.2.0 w.2.1 w.2.3.1 (and_from _ _ (not_from_false _ w.2.3.0) (or_right (m.public s) _ (not_from_false _ w.2.2))) lt in
      (a.0, w.2.1, a.1, a.2, a.3, known_rank q w.2.1 (w.2.4 ∙ ap Some same)))
      (cases_Bool (m.public s))

  pub pointed_more : (k : ℕ) (ptr : List ℕ) → Pointed m b k ptr → Pointed m b (suc k) ptr
  pointed_more k ptr p s = ((p s).0, (all_decides (λ l. none_or (m.next s l) (ranked_below m b (suc k))) (get_or ptr s 0)).1 (λ l lt. up (m.next s l) ((all_decides (λ l. none_or (m.next s l) (ranked_below m b k)) (get_or ptr s 0)).0 (p s).1 l lt)))
    where
      up : (o : Option ℕ) → none_or o (ranked_below m b k) ≡ true → none_or o (ranked_below m b (suc k)) ≡ true
      up None e = refl
      up (Some t) e = ap is_some (known_more m ok b k t e) ∙ e

  told : (k s : ℕ) (cells : List Cell) → Touched m b k cells s → (get_or cells s empty).rank ≡ known m b (suc k) s
  told k s cells h = ap (λ c. c.rank) h ∙ rank_of_cell m b s (known m b (suc k) s)

  -- and ends
  ends : {q lo : ℕ} {v w : Work} → At m b q lo v → Running m b (suc q) w → Moved m b (suc q) v w → ((j : ℕ) → lo ≤ j → j < length v.queue.items → Followed m b (suc q) w.cells.now (get_or v.queue.items j 0) 0) → At m b (suc q) (length v.queue.items) w
  ends {q} {lo} {v} {w} at run mv all = record {
    holds = holds';
    pointed = pointed_more (suc q) w.pointers run.pointed;
    counted = run.counted;
    inside = run.inside;
    room = run.room;
    layer = λ s e. ⊎_elim
        (λ old. absurd (late s (sym (told q s v.cells.now (at.holds s)) ∙ old)))
        (λ st. st)
        (mv.added s (told (suc q) s w.cells.now (holds' s) ∙ e));
  }
    where
      late : (s : ℕ) → known m b (suc q) s ≡ Some (suc q) → ⊥
      late s e = omega (arith, (first_is (λ j. within m b j s) (suc q) (suc q) e).below)

      new' : (s : ℕ) → known m b (suc q) s ≡ None → (t : Bool) → within m b (suc q) s ≡ t → get_or w.cells.now s empty ≡ cell_of m b s (known m b (suc q) s) → Touched m b (suc q) w.cells.now s
      new' s none true yes' h =
          let d = arc_down q s (ap (λ o. or_else o (cond (within m b (suc q) s) (Some (suc q)) None)) none ∙ cond-true (within m b (suc q) s) _ _ yes') in
          let st = at.layer d.1 d.5 in
          subst (Touched m b (suc q) w.cells.now) d.4 (all st.0 st.1 st.2 d.0 d.2 (d.3 ∙ ap Some (sym st.3)) (omega arith))
      new' s none false no' h = h ∙ ap (cell_of m b s) (none ∙ sym (ap (λ o. or_else o (cond (within m b (suc q) s) (Some (suc q)) None)) none ∙ cond-false (within m b (suc q) s) _ _ no'))

      holds' : (s : ℕ) → Touched m b (suc q) w.cells.now s
      holds' s = ⊎_elim
          (λ h. ⊎_elim
          (λ none. new' s none (within m b (suc q) s) refl h)
          (λ some. h ∙ ap (cell_of m b s) (sym (known_more m ok b (suc q) s (ap is_some some.1))))
          (option_cases (known m b (suc q) s)))
          (λ h. h)
          (run.mid s)

-- the round for the rank after q begins
pub opens : {m : Meaning} {b : Bars} {q k lo : ℕ} {w : Work} → k ≡ suc q → At m b q lo w → Running m b k w
opens {m} {b} {q} {k} {lo} {w} is' at = subst (λ x. Running m b x w) (sym is') (record { mid = λ s. inl (at.holds s); pointed = at.pointed; counted = at.counted; inside = at.inside; room = at.room })

pub closes : {m : Meaning} (ok : Lawful m) {b : Bars} {q k lo : ℕ} {v w : Work} → k ≡ suc q → At m b q lo v → Running m b k w → Moved m b k v w → ((j : ℕ) → lo ≤ j → j < length v.queue.items → Followed m b k w.cells.now (get_or v.queue.items j 0) 0) → At m b k (length v.queue.items) w
closes {m} ok {b} {q} {k} {lo} {v} {w} is' at run mv all =
    subst (λ x. At m b x (length v.queue.items) w) (sym is')
    (ends m ok b at (subst (λ x. Running m b x w) is' run) (subst (λ x. Moved m b x v w) is' mv) (λ j le lt. subst (λ x. Followed m b x w.cells.now (get_or v.queue.items j 0) 0) is' (all j le lt)))

-- no state has rank k: none has a greater one
pub last_layer : {m : Meaning} (ok : Lawful m) {b : Bars} {k lo : ℕ} {w : Work} → At m b k lo w → length w.queue.items ≤ lo → Filled m b w.cells.now
last_layer {m} ok {b} {k} {lo} at le s = at.holds s ∙ ap (cell_of m b s) (agree m ok b (suc k) s (soon m ok b k old s))
  where
    old : (s : ℕ) → within m b k s ≡ true → is_some (known m b k s) ≡ true
    old s w = ⊎_elim
        (λ none. let st = at.layer s (ap (λ o. or_else o (cond (within m b k s) (Some k) None)) none ∙ cond-true (within m b k s) _ _ w) in absurd (omega (arith, st.1, st.2)))
        (λ some. ap is_some some.1)
        (option_cases (known m b k s))
