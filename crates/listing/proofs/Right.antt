-- The lines of a listing are right.
use Rattle.std.proofs.Common.{◌≡◌, ℕ, true, false, not, List, [], ◌∷◌, is_some, Some, None, Option, sym, refl, ap, ◌∙◌, ⊎_elim, arith}
use Rattle.std.proofs.lemmas.Bool.{cases_Bool, cond-true, and_parts, and_from, not-true, not_from_false, both_ways}
use Rattle.game.specs.Meaning.{Meaning, Lawful}
use Rattle.game.specs.Search.{first_below, highest}
use Rattle.game.specs.Ranks.{Bars, rank}
use Rattle.game.specs.Strategies.{Move, at, Strategy, Follows}
use Rattle.game.specs.Final.{PlaysChoices}
use Rattle.game.proofs.Meanings.{start_inside}
use Rattle.game.proofs.Searches.{option_cases, first_none}
use Rattle.game.proofs.Winning.{public_down, choice_down, choice_has}
use Rattle.law.specs.Answers.{ranking, plan_verdict, verdict, lost_start, start_rank}
use Rattle.law.specs.declared.Verdict.TheVariants.{Held}
use Rattle.listing.specs.Reach.{reached, ByChoices}
use Rattle.listing.specs.Lines.{has_line, entry_with, entry_text}
use Rattle.listing.specs.Plays.{Due, Says, Right}
use Rattle.listing.proofs.Bound.{plan_short}
use Rattle.listing.proofs.Reached.{reached_reaches, reaches_reached}

module _ (m : Meaning) (ok : Lawful m) (b : Bars) where
  -- plays by the choices are those that follow a strategy which plays the choices
  follows_by : (w : Strategy m b) → PlaysChoices m b w → (s : ℕ) (h : List Move) → Follows m b w s h → ByChoices m (ranking m b) s h
  follows_by w plays s [] f = tt
  follows_by w plays s (x ∷ h) f = (follows_by w plays s h f.0, f.1, λ kio. sym (plays s h) ∙ f.2 kio)

  by_follows : (w : Strategy m b) → PlaysChoices m b w → (s : ℕ) (h : List Move) → ByChoices m (ranking m b) s h → Follows m b w s h
  by_follows w plays s [] f = tt
  by_follows w plays s (x ∷ h) f = (by_follows w plays s h f.0, f.1, λ kio. plays s h ∙ f.2 kio)

  line_due : (w : Strategy m b) → PlaysChoices m b w → (s : ℕ) → has_line m (ranking m b) s ≡ true → Due m b w s
  line_due w plays s e =
      let both = and_parts (reached m (ranking m b) s) _ e in
      let open' = and_parts (not (m.public s)) _ both.1 in
      let r = reached_reaches m ok (ranking m b) s both.0 in
      record {
        visited = record { from = r.from; starts = r.starts; play = r.play; follows = by_follows w plays r.from r.play r.by_choices; there = r.there };
        kiosk = not-true _ open'.0;
        not_done = not-true _ open'.1;
      }

  due_line : (w : Strategy m b) → PlaysChoices m b w → (s : ℕ) → Due m b w s → has_line m (ranking m b) s ≡ true
  due_line w plays s d =
      let v = d.visited in
      and_from _ _
      (reaches_reached m ok (ranking m b) s (record { from = v.from; starts = v.starts; play = v.play; by_choices = follows_by w plays v.from v.play v.follows; there = v.there }))
      (and_from _ _ (not_from_false _ d.kiosk) (not_from_false _ d.not_done))

  -- after HELD every start has a rank
  held_none : (o : Option ℕ) (n top : ℕ) → verdict o n ≡ Held top → o ≡ None
  held_none None n top e = refl
  held_none (Some s) n top e = let z : ◌≡◌ {A = ℕ} 0 1 = cc in absurd (omega arith)

  start_ranked : (top : ℕ) → plan_verdict m (rank m b) ≡ Held top → (s : ℕ) → m.start s ≡ true → (r : ℕ) × (rank m b s ≡ Some r)
  start_ranked top e s st =
      let none = held_none (first_below (lost_start m (rank m b)) m.size) (highest (start_rank m (rank m b)) m.size) top e in
      let no' : lost_start m (rank m b) s ≡ false = first_none (lost_start m (rank m b)) m.size none s (start_inside m ok s st) in
      ⊎_elim
      (λ un. absurd (both_ways _ no' (and_from _ _ st (ap (λ o. not (is_some o)) un))))
      (λ some. some)
      (option_cases (rank m b s))

  -- and so has every state that plays by the choices reach
  play_ranked : (s : ℕ) (h : List Move) → ByChoices m (ranking m b) s h → (r : ℕ) × (rank m b s ≡ Some r) → (r : ℕ) × (rank m b (at s h) ≡ Some r)
  play_ranked s [] by has = has
  play_ranked s (x ∷ h) by has =
      let (r, e) = play_ranked s h by.0 has in
      ⊎_elim
      (λ pub'. let down = public_down m ok b (at s h) r x.label x.to pub' e by.1 in (down.0, down.1))
      (λ kio. let down = choice_down m ok b (at s h) r x.label x.to e (by.2 kio) by.1 in (down.0, down.1))
      (cases_Bool (m.public (at s h)))

  line_says : (top s : ℕ) → plan_verdict m (rank m b) ≡ Held top → has_line m (ranking m b) s ≡ true → Says m b s
  line_says top s held e =
      let both = and_parts (reached m (ranking m b) s) _ e in
      let open' = and_parts (not (m.public s)) _ both.1 in
      let v = reached_reaches m ok (ranking m b) s both.0 in
      let top' = play_ranked v.from v.play v.by_choices (start_ranked top held v.from v.starts) in
      let has : rank m b s ≡ Some top'.0 = ap (rank m b) (sym v.there) ∙ top'.1 in
      let c = choice_has m ok b s top'.0 (not-true _ open'.1) (not-true _ open'.0) has in
      record {
        label = c.0;
        moves = top'.0;
        chosen = c.1;
        ranked = has;
        text = ap entry_text (cond-true (has_line m (ranking m b) s) _ _ e ∙ ap (λ o. entry_with s o (rank m b s)) c.1 ∙ ap (entry_with s (Some c.0)) has);
      }

  pub right : Right m b
  right = record { exactly = λ w plays s. (line_due w plays s, due_line w plays s); says = line_says; short = λ few. plan_short m ok few b }
