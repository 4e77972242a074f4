-- Along the list of the arcs into a state.
use Rattle.std.proofs.Common.{◌≡◌, ℕ, suc, ◌*◌, ◌/◌, ◌%◌, ◌<◌, true, List, get_or, is_some, Some, None, Option, sym, ap, ◌∙◌, subst, ⊎_elim, arith}
use Rattle.std.proofs.lemmas.Bool.{cases_Bool, cases_lt, cases_eq, cond-true, cond-false}
use Rattle.game.specs.Meaning.{Meaning, Lawful}
use Rattle.game.specs.Search.{some_below}
use Rattle.game.specs.Ranks.{Bars}
use Rattle.game.proofs.Searches.{some_decides, none_some}
use Rattle.game.proofs.Meanings.{label_low}
use Rattle.game.proofs.Searches.{eq_is, is_eq}
use Rattle.solver.specs.declared.Cell.{Cell}
use Rattle.solver.specs.declared.work.Work.{Work}
use Rattle.solver.specs.Links.{code_of}
use Rattle.solver.specs.Arcs.{usable, arc, into, latest, Linked}
use Rattle.solver.specs.Run.{Touched, Moved, Followed}
use Rattle.solver.proofs.Lists.{latest_above, latest_is}

-- o is the end of the list, or an arc into t
abbrev pub Stop : Meaning → Bars → ℕ → Option ℕ → Type 0
Stop m b t o = (d : ℕ) → o ≡ Some d → (arc m b d ≡ Some t) × (d < m.size * 64)

module _ {m : Meaning} (ok : Lawful m) (b : Bars) where
  pub arc_next : (d t : ℕ) → arc m b d ≡ Some t → m.next (d / 64) (d % 64) ≡ Some t
  arc_next d t h =
      ⊎_elim
      (λ y. sym (cond-true (usable m b (d / 64) (d % 64)) _ _ y) ∙ h)
      (λ n. absurd (none_some (cond-false (usable m b (d / 64) (d % 64)) _ _ n) h))
      (cases_Bool (usable m b (d / 64) (d % 64)))

  pub arc_moves : (d t : ℕ) → arc m b d ≡ Some t → some_below (λ l. is_some (m.next (d / 64) l)) m.ceiling ≡ true
  arc_moves d t h = let to = arc_next d t h in (some_decides (λ l. is_some (m.next (d / 64) l)) m.ceiling).1 (d % 64, label_low m ok (d / 64) (d % 64) t to, ap is_some to)

module _ {m : Meaning} {b : Bars} {heads links : List (Option ℕ)} (t : ℕ) (linked : Linked m b (m.size * 64) heads links) where
  pub walk_starts : (k : ℕ) (cells : List Cell) (o : Option ℕ) → t < m.size → o ≡ get_or heads t None → Followed m b k cells t (code_of o) × Stop m b t o
  walk_starts k cells o lt is' =
      let first : o ≡ latest (into m b t) (m.size * 64) = is' ∙ linked.first t lt in (
        (λ d less at le. absurd (omega (arith, ap code_of first, latest_above (into m b t) (m.size * 64) d less (eq_is (arc m b d) t at)))),
        (λ d e. let got = latest_is (into m b t) (m.size * 64) d (sym first ∙ e) in (is_eq (arc m b d) t got.0, got.1)),
      )

  pub walk_less : (d : ℕ) (o : Option ℕ) → arc m b d ≡ Some t → d < m.size * 64 → o ≡ get_or links d None → code_of o < suc d
  walk_less d None at lt is' = omega arith
  walk_less d (Some e) at lt is' = omega (arith, latest_is (into m b t) d e (sym (is' ∙ linked.after d t lt at)))

  pub walk_goes : (k d : ℕ) (o : Option ℕ) {v w : Work} → arc m b d ≡ Some t → d < m.size * 64 → o ≡ get_or links d None → Moved m b k v w → Touched m b k w.cells.now (d / 64) → Followed m b k v.cells.now t (suc d) → Followed m b k w.cells.now t (code_of o) × Stop m b t o
  walk_goes k d o {v} {w} at lt is' mv here old =
      let after : o ≡ latest (into m b t) d = is' ∙ linked.after d t lt at in (
        (λ e less to le. ⊎_elim
            (λ below. absurd (omega (arith, ap code_of after, latest_above (into m b t) d e below (eq_is (arc m b e) t to))))
            (λ above. ⊎_elim
            (λ same. subst (λ x. Touched m b k w.cells.now (x / 64)) (sym same) here)
            (λ ne. mv.grows (e / 64) (old e less to (⊎_elim (λ gt. gt) (λ ge. absurd (ne (omega arith))) (cases_lt d e))))
            (cases_eq e d))
            (cases_lt e d)),
        (λ e eq. let got = latest_is (into m b t) d e (sym after ∙ eq) in (is_eq (arc m b e) t got.0, omega (arith, got.1))),
      )
