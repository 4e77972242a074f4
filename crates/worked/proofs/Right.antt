-- The answers of a list in which every answer is right.
use Rattle.std.proofs.Common.{◌≡◌, List, [], ◌∷◌, length, refl, ap, ◌∙◌, arith}
use Rattle.game.specs.Meaning.{Meaning}
use Rattle.law.specs.declared.Call.{Call}
use Rattle.law.specs.declared.Answer.{Answer}
use Rattle.law.specs.Log.{Log}
use Rattle.law.specs.Law.{answer, Kept}
use Rattle.watch.specs.Lived.{entry, logged}
use Rattle.worked.specs.Cases.{answers_after}

kept_before : (m : Meaning) (qs : List Call) (rs : List Answer) (L : Log) → Kept m (logged qs rs L) → Kept m L
kept_before m [] rs L k = k
kept_before m (q ∷ qs) [] L k = k
kept_before m (q ∷ qs) (r ∷ rs) L k = (kept_before m qs rs (entry q r ∷ L) k).0

pub kept_answers : (m : Meaning) (qs : List Call) (rs : List Answer) (L : Log) → length rs ≡ length qs → Kept m (logged qs rs L) → rs ≡ answers_after m L qs
kept_answers m [] [] L e k = refl
kept_answers m [] (r ∷ rs) L e k = absurd (omega (arith, e))
kept_answers m (q ∷ qs) [] L e k = absurd (omega (arith, e))
kept_answers m (q ∷ qs) (r ∷ rs) L e k =
    let this : r ≡ answer m L q = (kept_before m qs rs (entry q r ∷ L) k).1 in
    ap (λ x. r ∷ x) (kept_answers m qs rs (entry q r ∷ L) (omega (arith, e)) k)
    ∙ ap (λ x. x ∷ answers_after m (entry q x ∷ L) qs) this
