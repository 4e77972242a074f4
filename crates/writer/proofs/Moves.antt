-- Sound moves: each fits, and the labels rise.

use Rattle.std.proofs.Common.{◌≡◌, ℕ, zero, suc, ◌+◌, ◌<◌, ◌≤◌, Bool, true, false, ◌&&◌, ltb, leb, List, [], ◌∷◌, length, get_or, sym, refl, ap, ◌∙◌, subst, arith, add-one}
use Rattle.std.specs.List.{list_all, IsAllAdjacentAnswer}
use Rattle.std.proofs.lemmas.Bool.{and_from, and_left, and_right, ltb-true, ltb-false, le-leb, lt-leb}
use Rattle.sheet.specs.declared.Move.{Move}
use Rattle.sheet.specs.Sheets.{zero_move}
use Rattle.format.specs.Writing.{moves_sound}
use Rattle.writer.specs.Parts.{move_fits}

-- labels rise strictly from `low` on
abbrev pub rises : ℕ → List Move → Bool
rises low [] = true
rises low (m ∷ ms) = leb low m.label && rises (m.label + 1) ms

five : (a b c d e : Bool) → (a && (b && (c && (d && e)))) ≡ (((b && c) && d) && (a && e))
five true true true d e = refl
five true true false d e = refl
five true false c d e = refl
five false b c d e = sym (and_right ((b && c) && d) false refl)

pub sound_split : (size low : ℕ) (ms : List Move) → moves_sound size low ms ≡ (list_all (move_fits size) ms && rises low ms)
sound_split size low [] = refl
sound_split size low (m ∷ ms) =
    ap (λ x. leb low m.label && (ltb m.label 64 && (ltb m.target size && x))) (sound_split size (m.label + 1) ms)
    ∙ five (leb low m.label) (ltb m.label 64) (ltb m.target size) (list_all (move_fits size) ms) (rises (m.label + 1) ms)

-- whether the label at `k` is below the next
abbrev pair : List Move → ℕ → Bool
pair ms k = ltb (get_or ms k zero_move).label (get_or ms (suc k) zero_move).label

all_rise : (low : ℕ) (m : Move) (ms : List Move) → low ≤ m.label → ((k : ℕ) → suc k < length (m ∷ ms) → pair (m ∷ ms) k ≡ true) → rises low (m ∷ ms) ≡ true
all_rise low m [] h p = and_from (leb low m.label) true (le-leb low m.label h) refl
all_rise low m (n ∷ ns) h p =
    let up : m.label < n.label = ltb-true m.label n.label (p 0 (omega arith)) in
    and_from (leb low m.label) _ (le-leb low m.label h) (all_rise (m.label + 1) n ns (omega (arith, up)) (λ k lt. p (suc k) (omega (arith, lt))))

some_falls : (low k : ℕ) (ms : List Move) → suc k < length ms → pair ms k ≡ false → rises low ms ≡ false
some_falls low k [] h p = absurd (omega (arith, h))
some_falls low k (m ∷ []) h p = absurd (omega (arith, h))
some_falls low zero (m ∷ n ∷ ns) h p =
    let down : n.label ≤ m.label = ltb-false m.label n.label p in
    and_right (leb low m.label) _ (and_left (leb (m.label + 1) n.label) _ (lt-leb (m.label + 1) n.label (omega (arith, down))))
some_falls low (suc k) (m ∷ n ∷ ns) h p = and_right (leb low m.label) _ (some_falls (m.label + 1) k (n ∷ ns) (omega (arith, h)) p)

pub rises_is : (ms : List Move) (r : Bool) → IsAllAdjacentAnswer (λ x y b. b ≡ ltb x.label y.label) ms r → r ≡ rises 0 ms
rises_is [] true h = refl
rises_is (m ∷ ms) true h = sym (all_rise 0 m ms (omega arith) (λ k lt. subst (λ j. ltb (get_or (m ∷ ms) k zero_move).label (get_or (m ∷ ms) j zero_move).label ≡ true) (add-one k) (sym (h k zero_move (omega (arith, lt))))))
rises_is ms false h = sym (some_falls 0 h.0 ms (omega (arith, h.1)) (subst (λ j. ltb (get_or ms h.0 zero_move).label (get_or ms j zero_move).label ≡ false) (add-one h.0) (sym (h.2 zero_move))))
