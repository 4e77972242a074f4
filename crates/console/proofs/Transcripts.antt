-- What is made of the lines one by one: the calls, and the transcript.
use Rattle.std.proofs.Common.{◌≡◌, ℕ, ◌+◌, ◌<◌, true, false, T, List, [], ◌∷◌, ◌++◌, length, get_or, drop, is_some, Some, None, codes, Option, sym, refl, ap, ◌∙◌, subst, arith}
use Rattle.std.proofs.lemmas.List.{at_drop_more}
use Rattle.std.specs.List.{filter_map}
use Rattle.law.specs.declared.Call.{Call}
use Rattle.law.specs.declared.Answer.{Answer}
use Rattle.law.specs.Texts.{answer_text}
use Rattle.console.specs.Conversation.{readable, transcript}

pub readable_is : (lines : List (Option Call)) → filter_map (λ line. line) lines ≡ readable lines
readable_is [] = refl
readable_is (None ∷ lines) = readable_is lines
readable_is (Some q ∷ lines) = ap (λ (qs : List Call). q ∷ qs) (readable_is lines)

unreadable : (o : Option Call) (lines : List (Option Call)) (rest : List Answer) → is_some o ≡ false
    → transcript (o ∷ lines) rest ≡ codes "unreadable\n" ++ transcript lines rest
unreadable None lines rest e = refl
unreadable (Some q) lines rest e = absurd (subst T e tt)

told : (o : Option Call) (lines : List (Option Call)) (a : Answer) (more : List Answer) → is_some o ≡ true
    → transcript (o ∷ lines) (a ∷ more) ≡ (answer_text a ++ codes "\n") ++ transcript lines more
told None lines a more e = absurd (subst T (sym e) tt)
told (Some q) lines a more e = refl

untold : (o : Option Call) (lines : List (Option Call)) (rest : List Answer) → is_some o ≡ true → length rest ≡ 0 → transcript (o ∷ lines) rest ≡ []
untold None lines rest e none = absurd (subst T (sym e) tt)
untold (Some q) lines [] e none = refl
untold (Some q) lines (a ∷ more) e none = absurd (omega arith)

-- at line i, with the answers that are left
pub transcript_none : (lines : List (Option Call)) (rest : List Answer) (i : ℕ) → i < length lines → is_some (get_or lines i None) ≡ false
    → transcript (drop i lines) rest ≡ codes "unreadable\n" ++ transcript (drop (i + 1) lines) rest
transcript_none lines rest i h e =
    at_drop_more (λ (ls : List (Option Call)). transcript ls rest) lines i None h ∙ unreadable (get_or lines i None) (drop (i + 1) lines) rest e

pub transcript_some : (lines : List (Option Call)) (rest : List Answer) (a : Answer) (more : List Answer) (i : ℕ) → i < length lines → rest ≡ a ∷ more → is_some (get_or lines i None) ≡ true
    → transcript (drop i lines) rest ≡ (answer_text a ++ codes "\n") ++ transcript (drop (i + 1) lines) more
transcript_some lines rest a more i h next e =
    ap (transcript (drop i lines)) next
    ∙ (at_drop_more (λ (ls : List (Option Call)). transcript ls (a ∷ more)) lines i None h ∙ told (get_or lines i None) (drop (i + 1) lines) a more e)

-- no answer is left for a call
pub transcript_out : (lines : List (Option Call)) (rest : List Answer) (i : ℕ) → i < length lines → length rest ≡ 0 → is_some (get_or lines i None) ≡ true
    → transcript (drop i lines) rest ≡ []
transcript_out lines rest i h none e =
    at_drop_more (λ (ls : List (Option Call)). transcript ls rest) lines i None h ∙ untold (get_or lines i None) (drop (i + 1) lines) rest e none
