-- The round for rank 0.
use Rattle.std.proofs.Common.{◌≡◌, ℕ, zero, suc, ◌+◌, ◌<◌, ◌≤◌, Bool, true, false, List, [], ◌∷◌, ◌++◌, length, get_or, set, replicate, is_some, Some, None, sym, refl, ap, ◌∙◌, subst, inl, ⊎_elim, arith, get_or-set_other}
use Rattle.std.proofs.lemmas.Bool.{cases_Bool, cases_lt, cases_eq, cond-true, cond-false, both_ways}
use Rattle.game.specs.Meaning.{Meaning, Lawful, done}
use Rattle.game.specs.Search.{count_below}
use Rattle.game.specs.Ranks.{Bars, within}
use Rattle.game.proofs.Layers.{within_done, done_within}
use Rattle.solver.specs.declared.work.Work.{Work}
use Rattle.solver.specs.Cells.{empty}
use Rattle.solver.specs.Known.{known, cell, cell_of}
use Rattle.solver.proofs.Known.{rank_of_cell, none_outside}
use Rattle.solver.specs.Arcs.{Linked}
use Rattle.solver.specs.Run.{Touched, passed, ranked_below, Pointed, has_cell, Run, Moved, At, Begun}
use Rattle.solver.proofs.Lists.{get_or-replicate_any}
use Rattle.solver.proofs.Ends.{has_room, entered}

many_none : (p : ℕ → Bool) (n : ℕ) → ((u : ℕ) → p u ≡ false) → count_below p n ≡ 0
many_none p zero h = refl
many_none p (suc n) h = omega (arith, many_none p n h, cond-false {A = ℕ} (p n) 1 0 (h n))

zero_pointed : (m : Meaning) (b : Bars) (k : ℕ) (pointers : List ℕ) → ((s : ℕ) → get_or pointers s 0 ≡ 0) → Pointed m b k pointers
zero_pointed m b k pointers h s = subst (λ y. (y ≤ m.ceiling) × (passed m (ranked_below m b k) s y ≡ true)) (sym (h s)) (omega arith, refl)

-- no arc is in lists that are empty
pub none_linked : {m : Meaning} {b : Bars} (i n : ℕ) → Linked m b 0 (replicate i None) (replicate n None)
none_linked i n = record { first = λ t lt. get_or-replicate_any i None t; after = λ e t lt at. absurd (omega arith) }

module _ {m : Meaning} (ok : Lawful m) where
  first_known : (b : Bars) (s : ℕ) → done m s ≡ true → known m b 1 s ≡ Some 0
  first_known b s d = cond-true (within m b 0 s) (Some 0) None (within_done m ok b 0 s d)

  first_unknown : (b : Bars) (s : ℕ) → done m s ≡ false → known m b 1 s ≡ None
  first_unknown b s d = cond-false (within m b 0 s) (Some 0) None (⊎_elim (λ w. absurd (both_ways _ d (done_within m ok b s w))) (λ f. f) (cases_Bool (within m b 0 s)))

  pub begun_start : {w : Work} → m.size ≤ length w.cells.now → ((s : ℕ) → get_or w.cells.now s empty ≡ empty) → w.queue.items ≡ [] → ((s : ℕ) → get_or w.pointers s 0 ≡ 0) → Begun m 0 w
  begun_start {w} room blank no' zeros =
      let none : length w.queue.items ≡ 0 = ap (λ (x : List ℕ). length x) no' in
      record {
        run = λ b. record {
          mid = λ s. inl (blank s);
          pointed = zero_pointed m b 0 [] (λ s. refl);
          counted = none ∙ sym (many_none (has_cell w.cells.now) m.size (λ u. ap (λ c. is_some c.rank) (blank u)));
          inside = λ j lt. absurd (omega arith);
          room = room;
        };
        told = λ b s lt. absurd (omega arith);
        rest = λ s le. blank s;
        fresh = λ s e. absurd (both_ways true (sym (ap is_some e) ∙ ap (λ c. is_some c.rank) (blank s)) refl);
        zeros = zeros;
      }

  begun_none : {s : ℕ} {w : Work} → Begun m s w → has_cell w.cells.now s ≡ false
  begun_none {s} h = ap (λ c. is_some c.rank) (h.rest s (omega arith))

  pub begun_room : {s : ℕ} {w : Work} → Begun m s w → s < m.size → length w.queue.items < m.size
  begun_room h lt = has_room (h.run (λ _. false)) lt (begun_none h)

  pub begun_not : {s : ℕ} {v w : Work} → Begun m s v → done m s ≡ false → w ≡ v → Begun m (s + 1) w
  begun_not {s} {v} {w} h d same = subst (Begun m (s + 1)) (sym same) (record {
    run = h.run;
    told = λ b u lt. ⊎_elim
        (λ e. h.rest u (omega arith) ∙ ap (cell_of m b u) (sym (first_unknown b u (ap (done m) e ∙ d))))
        (λ ne. h.told b u (⊎_elim (λ l. l) (λ ge. absurd (ne (omega arith))) (cases_lt u s)))
        (cases_eq u s);
    rest = λ u le. h.rest u (omega arith);
    fresh = h.fresh;
    zeros = h.zeros;
  })

  pub begun_done : {s : ℕ} (v w : Work) → Begun m s v → s < m.size → done m s ≡ true → w.cells.now ≡ set v.cells.now s (cell 0 None) → w.queue.items ≡ v.queue.items ++ s ∷ [] → w.pointers ≡ v.pointers → w.cells.ghost_name ≡ v.cells.ghost_name → Begun m (s + 1) w
  begun_done {s} v w h lt d sets pushes points lent = record {
    run = λ b. (at b).0;
    told = λ b u less. ⊎_elim
        (λ e. subst (Touched m b 0 w.cells.now) (sym e) (at b).2)
        (λ ne. (at b).1.grows u (h.told b u (⊎_elim (λ l. l) (λ ge. absurd (ne (omega arith))) (cases_lt u s))))
        (cases_eq u s);
    rest = λ u le. ap (λ x. get_or x u empty) sets ∙ get_or-set_other v.cells.now s u (cell 0 None) empty (λ e. omega arith) ∙ h.rest u (omega arith);
    fresh = λ u e. ⊎_elim
        (λ old. let st = h.fresh u old in (st.0, st.1, omega (arith, st.2, (at (λ _. false)).1.longer), (at (λ _. false)).1.keeps st.0 st.2 ∙ st.3))
        (λ st. (st.0, omega arith, st.2, st.3))
        ((at (λ _. false)).1.added u e);
    zeros = λ u. ap (λ x. get_or {A = ℕ} x u 0) points ∙ h.zeros u;
  }
    where
      at : (b : Bars) → Run m b 0 w.cells.now w.queue.items [] × Moved m b 0 v w × Touched m b 0 w.cells.now s
      at b = entered v w (h.run b) lt (begun_none h) (first_known b s d) sets pushes lent

  pub begun_at : {w : Work} (b : Bars) → Begun m m.size w → At m b 0 0 w
  begun_at {w} b h = record {
    holds = all;
    pointed = zero_pointed m b 1 w.pointers h.zeros;
    counted = (h.run b).counted;
    inside = (h.run b).inside;
    layer = λ s e. h.fresh s (ap (λ c. c.rank) (all s) ∙ rank_of_cell m b s (known m b 1 s) ∙ e);
    room = (h.run b).room;
  }
    where
      all : (s : ℕ) → Touched m b 0 w.cells.now s
      all s = ⊎_elim (λ lt. h.told b s lt) (λ ge. h.rest s ge ∙ ap (cell_of m b s) (sym (none_outside m ok b 1 s ge))) (cases_lt s m.size)
