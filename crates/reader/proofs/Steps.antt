-- One state more.

use Rattle.std.proofs.Common.{◌≡◌, ℕ, suc, ◌+◌, ◌-◌, ◌<◌, List, [], ◌∷◌, ◌++◌, Ok, Err, Result, sym, refl, ap, ◌∙◌, append_assoc, arith}
use Rattle.std.proofs.lemmas.List.{take_more_set}
use Rattle.std.proofs.lemmas.List.Sums.{sum_by-append, sum_by-cons}
use Rattle.records.specs.declared.SheetFault.{SheetFault}
use Rattle.records.specs.Records.{next}
use Rattle.sheet.specs.declared.Row.{Row}
use Rattle.format.specs.Reading.{prepend, state_row, states_from}

prepend_prepend : {A E : Type 0} (xs ys : List A) (r : Result (List A × ℕ) E) → prepend xs (prepend ys r) ≡ prepend (xs ++ ys) r
prepend_prepend xs ys (Ok p) = ap (λ l. Ok (l, p.1)) (sym (append_assoc xs ys p.0))
prepend_prepend xs ys (Err e) = refl

prepend_next : (pre : List Row) (go : ℕ → Result (List Row × ℕ) SheetFault) (r : Result (Row × ℕ) SheetFault) → prepend pre (next r (λ p. prepend (p.0 ∷ []) (go p.1))) ≡ next r (λ p. prepend (pre ++ p.0 ∷ []) (go p.1))
prepend_next pre go (Ok p) = prepend_prepend pre (p.0 ∷ []) (go p.1)
prepend_next pre go (Err e) = refl

-- the states from number `i` on are the next one and those behind it
pub states_step : (pre : List Row) (size i : ℕ) (bs : List ℕ) (at : ℕ) → i < size → prepend pre (states_from (size - i) bs at (i + 1)) ≡ next (state_row bs at (i + 1)) (λ p. prepend (pre ++ p.0 ∷ []) (states_from (size - (i + 1)) bs p.1 (i + 1 + 1)))
states_step pre size i bs at lt =
    let e : size - i ≡ suc (size - (i + 1)) = omega arith in
    ap (λ k. prepend pre (states_from k bs at (i + 1))) e
    ∙ prepend_next pre (λ nx. states_from (size - (i + 1)) bs nx (i + 1 + 1)) (state_row bs at (i + 1))

-- what the loop over the states takes
pub ruleset states_steps = (states_step, take_more_set, sum_by-append, sum_by-cons)
