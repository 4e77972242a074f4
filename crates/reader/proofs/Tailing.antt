-- One move more, or the end.

use Rattle.std.proofs.Common.{◌≡◌, ℕ, suc, ◌+◌, ◌-◌, ◌<◌, ◌≤◌, List, set, Some, None, Ok, Err, Option, Result, refl, ap, ◌∙◌, arith}
use Rattle.std.proofs.lemmas.List.{set-get_or}
use Rattle.std.proofs.lemmas.List.Sums.{sum_by-set}
use Rattle.records.specs.declared.SheetFault.{SheetFault}
use Rattle.records.specs.declared.SheetFault.TheVariants.{Room}
use Rattle.records.specs.Records.{next}
use Rattle.sheet.specs.declared.Move.{Move}
use Rattle.sheet.specs.declared.Row.{Row}
use Rattle.format.specs.declared.Arc.{Arc}
use Rattle.format.specs.Reading.{tail_at, onward, moves_from}
use Rattle.format.specs.Tables.{move_of}
use Rattle.reader.specs.Stored.{Stored, stored, count_one}

module _ (k : ℕ) (rows : List Row) (ms : List Move) where
  -- goes on behind a move, and leaves the tables at the end
  abbrev pub behind : Option (Arc × ℕ) → (Arc → ℕ → Result Stored SheetFault) → Result Stored SheetFault
  behind (Some p) go = go p.0 p.1
  behind None go = Ok (k, rows, ms)

  stored_from : (at : ℕ) (go : Arc → ℕ → Result (List Arc × ℕ) SheetFault) (a : Arc) (nx : ℕ) (r : Result (List Arc × ℕ) SheetFault) → go a nx ≡ r → stored k rows ms (onward at (Some (a, nx)) go) ≡ stored (k + 1) (count_one rows a.source) (set ms k (move_of a)) (go a nx)
  stored_from at go a nx (Ok p) e = rw e refl
  stored_from at go a nx (Err f) e = rw e refl

  stored_next : (at : ℕ) (go : Arc → ℕ → Result (List Arc × ℕ) SheetFault) (r : Result (Option (Arc × ℕ)) SheetFault) → stored k rows ms (next r (λ t. onward at t go)) ≡ next r (λ t. behind t (λ a nx. stored (k + 1) (count_one rows a.source) (set ms k (move_of a)) (go a nx)))
  stored_next at go (Ok (Some (a, nx))) = stored_from at go a nx (go a nx) refl
  stored_next at go (Ok None) = refl
  stored_next at go (Err e) = refl

  module _ (n size : ℕ) (last : Option Arc) (bs : List ℕ) (at : ℕ) where
    pub moves_more : k < n → stored k rows ms (moves_from (n - k) size last bs at k) ≡ next (tail_at size last bs at k) (λ t. behind t (λ a nx. stored (k + 1) (count_one rows a.source) (set ms k (move_of a)) (moves_from (n - (k + 1)) size (Some a) bs nx (k + 1))))
    moves_more lt =
        let e : n - k ≡ suc (n - (k + 1)) = omega arith in
        ap (λ room. stored k rows ms (moves_from room size last bs at k)) e
        ∙ stored_next at (λ a nx. moves_from (n - (k + 1)) size (Some a) bs nx (k + 1)) (tail_at size last bs at k)

    pub moves_full : n ≤ k → stored k rows ms (moves_from (n - k) size last bs at k) ≡ next (tail_at size last bs at k) (λ t. behind t (λ a nx. Err (Room (size + 1 + k) at)))
    moves_full le =
        let e : n - k ≡ 0 = omega arith in
        ap (λ room. stored k rows ms (moves_from room size last bs at k)) e
        ∙ stored_next at (λ _ _. Err (Room (size + 1 + k) at)) (tail_at size last bs at k)

-- what the loop over the moves takes
pub ruleset moves_steps = (moves_more, moves_full, set-get_or, sum_by-set)
