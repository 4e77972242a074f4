use Rattle.std.proofs.Common.{◌≡◌, ℕ, zero, suc, ◌+◌, Bool, true, false, cond, not, eqb, ltb, List, [], ◌∷◌, length, Some, None, Option, slice_index_or, refl, sym, ap, ◌∙◌, subst, rules, tests, arith}
use Rattle.std.specs.List.{prefix_len, position}
use Rattle.std.specs.Option.{option_map}
use Rattle.std.proofs.lemmas.Bool.{ltb-true, ltb-false, lt-ltb, le-ltb}
use Rattle.std.proofs.lemmas.Iterator.{YieldsList-from_slice}
use Rattle.std.proofs.lemmas.Iterator.Search.{position_from_yields_List}
use Rattle.sheet.specs.declared.Move.{Move}
use Rattle.sheet.specs.Sheets.{target_of, zero_move}
use Rattle.sheet.proofs.target_of.Goals as goal

-- the target at a place, if there is one
abbrev target_at : List Move → Option ℕ → Option ℕ
target_at ms o = option_map (λ n. (slice_index_or ms n zero_move).target) o

-- one place more before it and one move more behind it
later : (c : Bool) (n k : ℕ) → ltb n k ≡ c → ltb (suc n) (suc k) ≡ c
later true n k h = lt-ltb (suc n) (suc k) (omega (arith, ltb-true n k h))
later false n k h = le-ltb (suc n) (suc k) (omega (arith, ltb-false n k h))

one_more : (b c : Bool) (m : Move) (ms : List Move) (n k : ℕ) (t : Option ℕ) → k ≡ suc n → ltb n (length ms) ≡ c → target_at ms (cond c (Some n) None) ≡ t
    → target_at (m ∷ ms) (let j = cond (not b) k zero in cond (ltb j (suc (length ms))) (Some j) None) ≡ cond b (Some m.target) t
one_more true c m ms n k t is e h = ap (λ (x : Bool). target_at (m ∷ ms) (cond x (Some zero) None)) (lt-ltb zero (suc (length ms)) (omega arith))
one_more false c m ms n k t is e h = subst (λ (j : ℕ). target_at (m ∷ ms) (cond (ltb j (suc (length ms))) (Some j) None) ≡ t) (sym is) (further c e h)
  where
    further : (c : Bool) → ltb n (length ms) ≡ c → target_at ms (cond c (Some n) None) ≡ t → target_at (m ∷ ms) (cond (ltb (suc n) (suc (length ms))) (Some (suc n)) None) ≡ t
    further true e h = ap (λ (x : Bool). target_at (m ∷ ms) (cond x (Some (suc n)) None)) (later true n (length ms) e) ∙ h
    further false e h = ap (λ (x : Bool). target_at (m ∷ ms) (cond x (Some (suc n)) None)) (later false n (length ms) e) ∙ h

placed : (l : ℕ) (ms : List Move) → target_at ms (position (λ (x : Move). eqb x.label l) ms) ≡ target_of l ms
placed l [] = refl
placed l (m ∷ ms) =
    let n : ℕ = prefix_len (λ (x : Move). not (eqb x.label l)) ms in
    one_more (eqb m.label l) (ltb n (length ms)) m ms n (1 + n) (target_of l ms) (omega arith) refl (placed l ms)

pub returns-in_err-place : goal.returns-in_err-place
returns-in_err-place c =
    let ms = c.args.moves.now in
    let at = position_from_yields_List (λ (x : Move). eqb x.label c.args.label) _ _ _ c.position.ensures.ran (YieldsList-from_slice ms cc) (λ x b q k. search (rules, tests)) in
    c.from_residual.ensures ∙ ap (target_at ms) (sym c.in_err-place.was ∙ at) ∙ placed c.args.label ms

pub returns : goal.returns
returns c =
    let ms = c.args.moves.now in
    let at = position_from_yields_List (λ (x : Move). eqb x.label c.args.label) _ _ _ c.position.ensures.ran (YieldsList-from_slice ms cc) (λ x b q k. search (rules, tests)) in
    ap (target_at ms) (sym c.in_ok-place.was ∙ at) ∙ placed c.args.label ms
