-- Lists of arcs.
use Rattle.std.proofs.Common.{◌≡◌, ℕ, zero, suc, ◌+◌, ◌/◌, ◌%◌, ◌<◌, ◌≤◌, Bool, true, false, List, length, get_or, set, replicate, Some, None, Option, sym, refl, ap, ◌∙◌, subst, ⊎_elim, add-one, arith, get_or-set_other, get_or-set_same}
use Rattle.std.proofs.lemmas.Bool.{cases_Bool, cases_lt, cases_eq, cond-true, cond-false, both_ways, and_left, not_from_true, ne_eqb}
use Rattle.game.specs.Meaning.{Meaning, Lawful}
use Rattle.game.specs.Ranks.{Bars, is}
use Rattle.game.proofs.Searches.{none_some, same_some, eq_is}
use Rattle.solver.specs.declared.preds.Predecessors.{Predecessors}
use Rattle.solver.specs.Links.{code_of}
use Rattle.solver.specs.Arcs.{usable, arc, into, latest, Linked}

-- all that pass are at or below it
pub latest_above : (p : ℕ → Bool) (n d : ℕ) → d < n → p d ≡ true → d < code_of (latest p n)
latest_above p zero d h e = absurd (omega arith)
latest_above p (suc n) d h e =
    ⊎_elim
    (λ t. omega (arith, ap code_of (cond-true (p n) (Some n) (latest p n) t)))
    (λ f. ⊎_elim
    (λ lt. omega (arith, ap code_of (cond-false (p n) (Some n) (latest p n) f), latest_above p n d lt e))
    (λ ge. let same : d ≡ n = omega arith in absurd (both_ways _ f (ap p (sym same) ∙ e)))
    (cases_lt d n))
    (cases_Bool (p n))

-- and it is one that does
pub latest_is : (p : ℕ → Bool) (n d : ℕ) → latest p n ≡ Some d → (p d ≡ true) × (d < n)
latest_is p zero d e = absurd (none_some refl e)
latest_is p (suc n) d e =
    ⊎_elim
    (λ t. let same : n ≡ d = same_some (cond-true (p n) (Some n) (latest p n) t) e in (ap p (sym same) ∙ t, omega arith))
    (λ f. let got = latest_is p n d (sym (cond-false (p n) (Some n) (latest p n) f) ∙ e) in (got.0, omega (arith, got.1)))
    (cases_Bool (p n))

latest_now : (p : ℕ → Bool) (n : ℕ) → p n ≡ true → latest p (n + 1) ≡ Some n
latest_now p n t = ap (latest p) (add-one n) ∙ cond-true (p n) (Some n) (latest p n) t

latest_past : (p : ℕ → Bool) (n : ℕ) → p n ≡ false → latest p (n + 1) ≡ latest p n
latest_past p n f = ap (latest p) (add-one n) ∙ cond-false (p n) (Some n) (latest p n) f

module _ {m : Meaning} (ok : Lawful m) (b : Bars) where
  pub arc_inside : (e t : ℕ) → arc m b e ≡ Some t → t < m.size
  arc_inside e t h =
      ⊎_elim
      (λ y. ok.inside (e / 64) (e % 64) t (sym (cond-true (usable m b (e / 64) (e % 64)) _ _ y) ∙ h))
      (λ n. absurd (none_some (cond-false (usable m b (e / 64) (e % 64)) _ _ n) h))
      (cases_Bool (usable m b (e / 64) (e % 64)))

  pub no_arc_end : (d s : ℕ) → d / 64 ≡ s → m.end s ≡ true → arc m b d ≡ None
  no_arc_end d s is' e = cond-false (usable m b (d / 64) (d % 64)) _ _ (and_left _ _ (not_from_true _ (ap m.end is' ∙ e)))

  pub no_arc_high : (d : ℕ) → m.ceiling ≤ d % 64 → arc m b d ≡ None
  no_arc_high d le = ⊎_elim (λ y. cond-true (usable m b (d / 64) (d % 64)) _ _ y ∙ ok.labels (d / 64) (d % 64) le) (λ n. cond-false (usable m b (d / 64) (d % 64)) _ _ n) (cases_Bool (usable m b (d / 64) (d % 64)))

module _ {m : Meaning} (ok : Lawful m) {b : Bars} where
  one_none : {e : ℕ} {heads links : List (Option ℕ)} → Linked m b e heads links → arc m b e ≡ None → Linked m b (e + 1) heads links
  one_none {e} h none = record {
    first = λ u lt. h.first u lt ∙ sym (latest_past (into m b u) e (ap (λ o. is o u) none));
    after = λ d u lt at. h.after d u (⊎_elim (λ less. less) (λ ge. let same : d ≡ e = omega arith in absurd (none_some none (ap (arc m b) (sym same) ∙ at))) (cases_lt d e)) at;
  }

  one_some : {e t : ℕ} {heads links : List (Option ℕ)} → m.size ≤ length heads → e < length links → Linked m b e heads links → arc m b e ≡ Some t → Linked m b (e + 1) (set heads t (Some e)) (set links e (get_or heads t None))
  one_some {e} {t} {heads} {links} room in' h some = record {
    first = λ u lt. ⊎_elim
        (λ same. ap (λ x. get_or (set heads t (Some e)) x None) same ∙ get_or-set_same heads t (Some e) None (omega (arith, arc_inside ok b e t some)) ∙ sym (ap (λ x. latest (into m b x) (e + 1)) same ∙ latest_now (into m b t) e (eq_is (arc m b e) t some)))
        (λ ne. get_or-set_other heads t u (Some e) None ne ∙ h.first u lt ∙ sym (latest_past (into m b u) e (ap (λ o. is o u) some ∙ ne_eqb t u (λ z. ne (sym z)))))
        (cases_eq u t);
    after = λ d u lt at. ⊎_elim
        (λ same.
        let to : u ≡ t = same_some at (ap (arc m b) same ∙ some) in
        ap (λ x. get_or (set links e (get_or heads t None)) x None) same ∙ get_or-set_same links e (get_or heads t None) None in' ∙ h.first t (arc_inside ok b e t some) ∙ ap (λ x. latest (into m b x) e) (sym to) ∙ ap (latest (into m b u)) (sym same))
        (λ ne. get_or-set_other links e d (get_or heads t None) None ne ∙ h.after d u (⊎_elim (λ less. less) (λ ge. absurd (ne (omega arith))) (cases_lt d e)) at)
        (cases_eq d e);
  }

  -- the next arc leads nowhere, or is put into the list of the state that it leads to
  pub link_none : {e n : ℕ} {preds preds' : Predecessors} → Linked m b e preds.heads preds.links → arc m b e ≡ None → preds' ≡ preds → n ≡ e + 1 → Linked m b n preds'.heads preds'.links
  link_none {e} {n} {preds} {preds'} h none same next = rw (next, same) (one_none h none)

  pub link_some : {e t n : ℕ} (preds : Predecessors) {preds' new : Predecessors} → m.size ≤ 4096 → e < 262144 → Linked m b e preds.heads preds.links → arc m b e ≡ Some t → preds' ≡ new → new.heads ≡ set preds.heads t (Some e) → new.links ≡ set preds.links e (get_or preds.heads t None) → n ≡ e + 1 → Linked m b n preds'.heads preds'.links
  link_some {e} {t} {n} preds {preds'} {new} few in' h some same hs ls next = rw (next, same, hs, ls) (one_some (omega (arith, preds.states)) (omega (arith, preds.arcs)) h some)

  -- arcs that lead nowhere
  pub link_nones : (k : ℕ) {e n : ℕ} {heads links : List (Option ℕ)} → Linked m b e heads links → ((d : ℕ) → e ≤ d → d < e + k → arc m b d ≡ None) → n ≡ e + k → Linked m b n heads links
  link_nones zero {e} {n} {heads} {links} h none to = subst (λ x. Linked m b x heads links) (let z : e ≡ n = omega arith in z) h
  link_nones (suc k) {e} {n} {heads} {links} h none to =
      subst (λ x. Linked m b x heads links) (let z : e + k + 1 ≡ n = omega arith in z)
      (one_none (link_nones k h (λ d le lt. none d le (omega arith)) refl) (none (e + k) (omega arith) (omega arith)))

-- equal items, read anywhere
pub get_or-replicate_any : {A : Type 0} (n : ℕ) (x : A) (t : ℕ) → get_or (replicate n x) t x ≡ x
get_or-replicate_any zero x t = refl
get_or-replicate_any (suc n) x zero = refl
get_or-replicate_any (suc n) x (suc t) = get_or-replicate_any n x t
