-- What a round does to cells, queue and pointers.
use Rattle.std.proofs.Common.{◌≡◌, ℕ, suc, ◌<◌, true, false, cond, List, length, get_or, set, is_some, Some, None, Option, sym, refl, ap, ◌∙◌, subst, ⊎_elim, get_or-set_other, get_or-set_same}
use mathlib.Core.Path.{fun_ext}
use Rattle.std.proofs.lemmas.Bool.{cases_Bool, cases_eq, cond-true, cond-false, both_ways}
use Rattle.game.specs.Meaning.{Meaning, Lawful}
use Rattle.game.specs.Search.{or_else}
use Rattle.game.specs.Ranks.{Bars, within}
use Rattle.game.proofs.Searches.{none_some, same_some}
use Rattle.solver.specs.declared.Cell.{Cell}
use Rattle.solver.specs.Known.{under, low, known, cell_of, settled}
use Rattle.solver.proofs.Known.{rank_of_cell, known_within, under_known, under_next, finds}
use Rattle.solver.specs.Run.{Touched, Mid, ranked_below, Points, has_cell, Run}

or_none : {A : Type 0} (o q : Option A) → or_else o q ≡ None → o ≡ None
or_none None q e = refl
or_none (Some x) q e = absurd (none_some e refl)

module _ (m : Meaning) (ok : Lawful m) (b : Bars) where
  -- a rank below k is a rank below k + 1
  pub known_more : (k s : ℕ) → is_some (known m b k s) ≡ true → known m b (suc k) s ≡ known m b k s
  known_more k s e = keep (known m b k s) e
    where
      keep : (o : Option ℕ) → is_some o ≡ true → or_else o (cond (within m b k s) (Some k) None) ≡ o
      keep None e = absurd (both_ways false refl e)
      keep (Some r) e = refl

  mid_under : (k t : ℕ) (cells : List Cell) → Mid m b k cells → low cells k t ≡ ranked_below m b k t
  mid_under k t cells h =
      ⊎_elim
      (λ e. ap (λ c. under c.rank k) e ∙ ap (λ o. under o k) (rank_of_cell m b t (known m b k t)) ∙ under_known m ok b k t)
      (λ e. ap (λ c. under c.rank k) e ∙ ap (λ o. under o k) (rank_of_cell m b t (known m b (suc k) t)) ∙ under_next m ok b k t)
      (h t)

  pub low_ranked : (k : ℕ) (cells : List Cell) → Mid m b k cells → low cells k ≡ ranked_below m b k
  low_ranked k cells h = fun_ext (λ t. mid_under k t cells h)

  ranked_within : (q : ℕ) → ranked_below m b (suc q) ≡ within m b q
  ranked_within q = fun_ext (λ t. known_within m ok b q t)

  mid_none : (k s : ℕ) (cells : List Cell) → Mid m b k cells → has_cell cells s ≡ false → known m b k s ≡ None
  mid_none k s cells h e =
      ⊎_elim
      (λ f. none (known m b k s) (ap is_some (sym (ap (λ c. c.rank) f ∙ rank_of_cell m b s (known m b k s))) ∙ e))
      (λ f. or_none (known m b k s) _ (none (known m b (suc k) s) (ap is_some (sym (ap (λ c. c.rank) f ∙ rank_of_cell m b s (known m b (suc k) s))) ∙ e)))
      (h s)
    where
      none : (o : Option ℕ) → is_some o ≡ false → o ≡ None
      none None e = refl
      none (Some r) e = absurd (both_ways true e refl)

  found : (k s : ℕ) (cells : List Cell) → Mid m b k cells → has_cell cells s ≡ false → settled m b (low cells k) k s ≡ cond (within m b k s) (Some (cell_of m b s (Some k))) None
  found k s cells h e = finds m ok b k s (low cells k) (λ q is'. low_ranked k cells h ∙ ap (ranked_below m b) is' ∙ ranked_within q) (mid_none k s cells h e)

  known_none : (k s : ℕ) → known m b k s ≡ None → known m b (suc k) s ≡ cond (within m b k s) (Some k) None
  known_none k s e = ap (λ o. or_else o (cond (within m b k s) (Some k) None)) e

-- what a round finds at a state, where cells, queue and pointers are as they are within it
module _ {m : Meaning} (ok : Lawful m) {b : Bars} {k : ℕ} {cells : List Cell} {queue pointers : List ℕ} (run : Run m b k cells queue pointers) where
  -- a cell that has a rank stays
  pub had : (s : ℕ) → has_cell cells s ≡ true → Touched m b k cells s
  had s e =
      ⊎_elim
      (λ f. f ∙ ap (cell_of m b s) (sym (known_more m ok b k s (ap is_some (sym (ap (λ c. c.rank) f ∙ rank_of_cell m b s (known m b k s))) ∙ e))))
      (λ f. f)
      (run.mid s)

  -- a cell without rank that gets none, where cells' are the cells
  pub still : (s : ℕ) {cells' : List Cell} → cells' ≡ cells → has_cell cells s ≡ false → settled m b (low cells' k) k s ≡ None → Touched m b k cells s
  still s same e none' =
      let none = ap (λ x. settled m b (low x k) k s) (sym same) ∙ none' in
      let nw : within m b k s ≡ false = ⊎_elim (λ w. absurd (none_some none (found m ok b k s cells run.mid e ∙ cond-true (within m b k s) _ _ w))) (λ f. f) (cases_Bool (within m b k s)) in
      ⊎_elim (λ f. f ∙ ap (cell_of m b s) (mid_none m ok b k s cells run.mid e ∙ sym (known_none m ok b k s (mid_none m ok b k s cells run.mid e) ∙ cond-false (within m b k s) _ _ nw))) (λ f. f) (run.mid s)

  -- one that gets rank k
  pub gets : (s : ℕ) {cells' : List Cell} {c : Cell} → cells' ≡ cells → has_cell cells s ≡ false → settled m b (low cells' k) k s ≡ Some c → (c ≡ cell_of m b s (Some k)) × (known m b (suc k) s ≡ Some k)
  gets s same e some' =
      let some = ap (λ x. settled m b (low x k) k s) (sym same) ∙ some' in
      let w : within m b k s ≡ true = ⊎_elim (λ w. w) (λ nw. absurd (none_some (found m ok b k s cells run.mid e ∙ cond-false (within m b k s) _ _ nw) some)) (cases_Bool (within m b k s)) in
      (same_some some (found m ok b k s cells run.mid e ∙ cond-true (within m b k s) _ _ w), known_none m ok b k s (mid_none m ok b k s cells run.mid e) ∙ cond-true (within m b k s) _ _ w)

  -- the labels below the pointer lead to ranks below k
  pub low_pointed : (s : ℕ) {cells' : List Cell} → cells' ≡ cells → Points m (low cells' k) s (get_or pointers s 0)
  low_pointed s same = subst (λ q. Points m q s (get_or pointers s 0)) (sym (low_ranked m ok b k cells run.mid) ∙ ap (λ x. low x k) (sym same)) (run.pointed s)

  -- the pointer of s moves on
  pub repointed : {s x : ℕ} {cells' : List Cell} {pointers' : List ℕ} → s < length pointers → cells' ≡ cells → Points m (low cells' k) s x → pointers' ≡ set pointers s x → Run m b k cells queue pointers'
  repointed {s} {x} {cells'} {pointers'} lt same points is' = record {
    mid = run.mid;
    pointed = λ u. ⊎_elim
        (λ here. subst (λ y. Points m (ranked_below m b k) u y) (sym (ap (λ v. get_or v u 0) is' ∙ ap (λ v. get_or (set pointers s x) v 0) here ∙ get_or-set_same pointers s x 0 lt)) (subst (λ v. Points m (ranked_below m b k) v x) (sym here) (subst (λ q. Points m q s x) (ap (λ z. low z k) same ∙ low_ranked m ok b k cells run.mid) points)))
        (λ ne. subst (λ y. Points m (ranked_below m b k) u y) (sym (ap (λ v. get_or v u 0) is' ∙ get_or-set_other pointers s u x 0 ne)) (run.pointed u))
        (cases_eq u s);
    counted = run.counted;
    inside = run.inside;
    room = run.room;
  }
