-- A listing in a buffer that has room for it.
use Rattle.std.proofs.Common.{◌≡◌, ℕ, ◌≤◌, Bool, true, false, cond, List, [], ◌++◌, length, take, drop, Some, None, Ok, Err, Option, Result, sym, refl, ap, ◌∙◌}
use Rattle.std.proofs.lemmas.Bool.{le-leb}
use Rattle.std.proofs.lemmas.List.{take_at}
use Rattle.std.specs.Result.{result_unwrap_or}
use Rattle.game.specs.Meaning.{Meaning}
use Rattle.law.specs.declared.Fault.{Fault}
use Rattle.law.specs.declared.Verdict.{Verdict}
use Rattle.law.specs.Answers.{Ranking, plan_answer}
use Rattle.listing.specs.declared.ListFault.{ListFault}
use Rattle.listing.specs.declared.ListFault.TheVariants.{Room}
use Rattle.listing.specs.Answers.{listed, put_whole}

whole : (text out after : List ℕ) (r : Result ℕ ListFault) → length text ≤ length out → ◌≡◌ {A = Result ℕ ListFault × List ℕ} (r, after) (put_whole text out) → take (result_unwrap_or r 0) after ≡ text
whole text out after r fits put =
    let e : ◌≡◌ {A = Result ℕ ListFault × List ℕ} (r, after) (Ok (length text), text ++ drop (length text) out) =
    put ∙ ap (λ b. cond {A = Result ℕ ListFault × List ℕ} b (Ok (length text), text ++ drop (length text) out) (Err Room, out)) (le-leb (length text) (length out) fits) in
    ap (λ (p : Result ℕ ListFault × List ℕ). take (result_unwrap_or p.0 0) p.1) e ∙ take_at text (drop (length text) out) (length text) refl

-- what is left of the buffer, cut to the listing's length, is the listing
pub cut : (items text out after more : List ℕ) (r : Result ℕ ListFault) (n len : ℕ) → items ≡ take n (take len (after ++ more)) → length after ≡ len → length text ≤ length out
    → ◌≡◌ {A = Result ℕ ListFault × List ℕ} (r, after) (put_whole text out) → n ≡ result_unwrap_or r 0 → items ≡ text
cut items text out after more r n len is long fits put end =
    is ∙ (ap (take n) (take_at after more len long) ∙ (ap (λ (k : ℕ). take k after) end ∙ whole text out after r fits put))

-- where no plan stands, nothing of the buffer is left
pub nothing : (m : Meaning) (ρ : Ranking) (planned : Bool) (items out after whole : List ℕ) (r : Result ℕ ListFault) (n : ℕ) → items ≡ take n whole
    → ◌≡◌ {A = Result ℕ ListFault × List ℕ} (r, after) (listed m ρ planned out) → n ≡ result_unwrap_or r 0 → planned ≡ false → items ≡ []
nothing m ρ true items out after whole r n is put end none = cc
nothing m ρ false items out after whole r n is put end none =
    is ∙ (ap (λ (k : ℕ). take k whole) end ∙ ap (λ (p : Result ℕ ListFault × List ℕ). take (result_unwrap_or p.0 0) whole) put)

-- an accepted plan found no fault
pub no_fault : (o : Option Fault) (v w : Verdict) (r : Result Verdict Fault) → r ≡ plan_answer o v → r ≡ Ok w → o ≡ None
no_fault None v w r value is = refl
no_fault (Some f) v w r value is = let refused : ◌≡◌ {A = Result Verdict Fault} (Err f) (Ok w) = sym value ∙ is in cc
