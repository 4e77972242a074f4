-- What is printed, by what each call says.
use Rattle.std.proofs.Common.{◌≡◌, ℕ, ◌^◌, ◌<◌, ◌≤◌, Bool, true, false, cond, ◌&&◌, leb, List, [], ◌∷◌, ◌++◌, length, drop, Some, None, Ok, Err, codes, Option, Result, sym, refl, ap, ◌∙◌, subst, zero-add, arith}
use Rattle.std.specs.Result.{result_ok}
use Rattle.std.proofs.lemmas.Bool.{le-leb}
use Rattle.game.specs.Meaning.{Meaning, Lawful}
use Rattle.law.specs.declared.Verdict.{Verdict}
use Rattle.law.specs.declared.Call.TheVariants.{Plan}
use Rattle.law.specs.declared.Answer.TheVariants.{Planned}
use Rattle.law.specs.Checks.{first_fault}
use Rattle.law.specs.Answers.{ranking}
use Rattle.law.specs.Log.{Log, accepted, barred, stands}
use Rattle.law.specs.Law.{answer}
use Rattle.law.proofs.Laws.{accepted_plan}
use Rattle.law.proofs.Checked.{no_fault_sound}
use Rattle.text.specs.Places.{placed}
use Rattle.text.proofs.Lines.{line_le}
use Rattle.watch.specs.declared.Memory.{Memory}
use Rattle.watch.specs.Lived.{Lived, entry}
use Rattle.listing.specs.declared.ListFault.{ListFault}
use Rattle.listing.specs.declared.ListFault.TheVariants.{Room, NoPlan}
use Rattle.listing.specs.Answers.{put_whole, listed}
use Rattle.listing.specs.Lines.{longest, listing_text}
use Rattle.listing.proofs.Bound.{plan_short}
use Rattle.planner.specs.Printed.{no_bars, refusal_line, plan_text, game_text, shown}

-- a text placed at the front
pub placed_shown : (text out : List ℕ) → placed 0 text out ≡ shown text out
placed_shown text out = ap (λ n. cond (leb n (length out)) (Some n, text ++ drop n out) (None, out)) (zero-add (length text))

put_shown : (text out : List ℕ) (p : Result ℕ ListFault × List ℕ) → p ≡ put_whole text out → ◌≡◌ {A = Option ℕ × List ℕ} (result_ok p.0, p.1) (shown text out)
put_shown text out p e = ap (λ q. (result_ok q.0, q.1)) e ∙ go (leb (length text) (length out))
  where
    go : (t : Bool) → ◌≡◌ {A = Option ℕ × List ℕ} (result_ok (cond {A = Result ℕ ListFault × List ℕ} t (Ok (length text), text ++ drop (length text) out) (Err Room, out)).0, (cond {A = Result ℕ ListFault × List ℕ} t (Ok (length text), text ++ drop (length text) out) (Err Room, out)).1) (cond t (Some (length text), text ++ drop (length text) out) (None, out))
    go true = refl
    go false = refl

-- no line of a refusal is long
pub refusal_short : (n a b : ℕ) → n < 2 ^ 64 → a < 2 ^ 64 → b < 2 ^ 64 → length (refusal_line n a b) ≤ longest
refusal_short n a b hn ha hb =
    let pos : 0 < 20 = omega arith in
    omega (arith, line_le 20 20 20 (codes "REFUSED ") n a b pos pos pos (omega arith) (omega arith) (omega arith) hn ha hb)

module _ (m : Meaning) (ok : Lawful m) (v : Verdict) (d : Memory) (old : Lived m (entry Plan (Planned v) ∷ []) d) where
  -- a plan that was accepted found no fault
  no_fault : first_fault m ≡ None
  unfolding answer
  no_fault = accepted_plan m ok no_bars (first_fault m) (sym (ap accepted old.kept.1))

  few : m.size ≤ 4096
  few = (no_fault_sound m ok no_fault).few_states

  -- its listing is what is printed of the game
  pub plan_lists : (r : Result ℕ ListFault) (out out' : List ℕ) → ((L : Log) → Lived m L d → ◌≡◌ {A = Result ℕ ListFault × List ℕ} (r, out') (listed m (ranking m (barred L)) (stands L) out)) → ◌≡◌ {A = Option ℕ × List ℕ} (result_ok r, out') (shown (game_text m) out)
  plan_lists r out out' lists =
      put_shown (listing_text m (ranking m no_bars)) out (r, out')
      (lists (entry Plan (Planned v) ∷ []) old ∙ ap (λ t. cond (true && t) (put_whole (listing_text m (ranking m no_bars)) out) (Err NoPlan, out)) (le-leb m.size 4096 few))
      ∙ ap (λ o. shown (plan_text m o) out) (sym no_fault)

  pub lists_short : length (game_text m) ≤ longest
  lists_short = subst (λ o. length (plan_text m o) ≤ longest) (sym no_fault) (plan_short m ok few no_bars)
