-- The answers of a watch that had room for all of them.
use Rattle.std.proofs.Common.{◌≡◌, ℕ, List, IfOk, Ok, Err, Option, Result, ap, ◌∙◌, subst}
use Rattle.game.specs.Meaning.{Meaning}
use Rattle.law.specs.declared.Call.{Call}
use Rattle.law.specs.declared.Answer.{Answer}
use Rattle.console.specs.Conversation.{Answered, Conversation, calls_in, readable, transcript}

-- what is told of the lines and the answers is the conversation
pub conversed : {S E : Type 0} (bytes : S → List ℕ) (m : Meaning) (input : List ℕ) (calls : List Call) (lines : List (Option Call)) (answers told : List Answer) (r : Result S E)
    → calls ≡ readable (calls_in input) → Answered m calls answers → lines ≡ calls_in input → told ≡ answers → IfOk r (λ t. bytes t ≡ transcript lines told)
    → IfOk r (λ t. Conversation m input (bytes t))
conversed bytes m input calls lines answers told (Ok t) p all q same e =
    record {
      answers = answers;
      answered = subst (λ (qs : List Call). Answered m qs answers) p all;
      told = e ∙ (ap (transcript lines) same ∙ ap (λ (ls : List (Option Call)). transcript ls answers) q);
    }
conversed bytes m input calls lines answers told (Err x) p all q same e = tt
