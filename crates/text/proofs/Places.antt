use Rattle.std.proofs.Common.{◌≡◌, ℕ, ◌+◌, ◌≤◌, Bool, true, false, cond, leb, List, ◌++◌, length, take, drop, Some, None, Option, sym, refl, ap, subst, ◌∙◌, append_assoc, arith, length-append, length-drop, length-take, leb-true}
use Rattle.std.specs.Option.{unwrap_or}
use Rattle.std.proofs.lemmas.Bool.{le-leb}
use Rattle.std.proofs.lemmas.List.{drop-drop, take_at, drop_at}
use Rattle.text.specs.Places.{over, placed, Written}

-- A text that fits is put in its place.
pub placed_in : (at : ℕ) (text out : List ℕ) → at + length text ≤ length out → placed at text out ≡ (Some (at + length text), over at text out)
placed_in at text out room = rw (le-leb (at + length text) (length out) room)

-- An output keeps its length.
pub length_over : (at : ℕ) (text out : List ℕ) → at + length text ≤ length out → length (over at text out) ≡ length out
length_over at text out room = simp (length-append, length-take, length-drop) (omega arith)

-- A text at the front.
pub over_front : (text out : List ℕ) → over 0 text out ≡ text ++ drop (length text) out
over_front text out = let e : 0 + length text ≡ length text = omega arith in ap (λ (k : ℕ). text ++ drop k out) e

-- A text behind another: both at once.
pub over_then : (at : ℕ) (xs ys out : List ℕ) (e : ℕ) → e ≡ at + length xs → e ≤ length out → over e ys (over at xs out) ≡ over at (xs ++ ys) out
over_then at xs ys out e ends room =
    let p = take at out ++ xs in
    let l : length p ≡ e = simp (length-append, length-take) (omega arith) in
    let s : over at xs out ≡ p ++ drop e out = sym (append_assoc (take at out) xs (drop (at + length xs) out)) ∙ ap (λ (k : ℕ). p ++ drop k out) (sym ends) in
    let t : take e (over at xs out) ≡ p = ap (take e) s ∙ take_at p (drop e out) e l in
    let d : drop e (over at xs out) ≡ drop e out = ap (drop e) s ∙ drop_at p (drop e out) e l in
    let r : drop (e + length ys) (over at xs out) ≡ drop (e + length ys) out = sym (drop-drop (length ys) e (over at xs out)) ∙ ap (drop (length ys)) d ∙ drop-drop (length ys) e out in
    let n : e + length ys ≡ at + length (xs ++ ys) = simp length-append (omega arith) in
    ap (λ (x : List ℕ). x ++ (ys ++ drop (e + length ys) (over at xs out))) t
    ∙ ap (λ (x : List ℕ). p ++ (ys ++ x)) (r ∙ ap (λ (k : ℕ). drop k out) n)
    ∙ append_assoc (take at out) xs (ys ++ drop (at + length (xs ++ ys)) out)
    ∙ ap (λ (x : List ℕ). take at out ++ x) (sym (append_assoc xs ys (drop (at + length (xs ++ ys)) out)))

-- The same, step by step.
pub written_then : {o m p xs ys : List ℕ} {at e end : ℕ} → Written o at xs e m → Written m e ys end p → Written o at (xs ++ ys) end p
written_then {o} {m} {p} {xs} {ys} {at} {e} {end} v w =
    let kept : length m ≡ length o = ap length v.whole ∙ length_over at xs o (omega (arith, v.ends, v.room)) in
    record {
      ends = simp length-append (omega (arith, v.ends, w.ends));
      room = omega (arith, kept, w.room);
      whole = w.whole ∙ ap (over e ys) v.whole ∙ over_then at xs ys o e v.ends v.room;
    }

-- A put that answers an end has written its text.
pub placed_written : (at : ℕ) (xs o : List ℕ) {e : ℕ} {p : List ℕ} → ◌≡◌ {A = Option ℕ × List ℕ} (Some e, p) (placed at xs o) → Written o at xs e p
placed_written at xs o {e} {p} done = by (leb (at + length xs) (length o)) refl done
  where
    by : (b : Bool) → leb (at + length xs) (length o) ≡ b → ◌≡◌ {A = Option ℕ × List ℕ} (Some e, p) (cond b (Some (at + length xs), over at xs o) (None, o)) → Written o at xs e p
    by true fits same =
        let some : ◌≡◌ {A = Option ℕ} (Some e) (Some (at + length xs)) = ap (λ q. q.0) same in
        let ends : e ≡ at + length xs = cc in
        record { ends = ends; room = omega (arith, leb-true _ _ fits); whole = ap (λ q. q.1) same }
    by false full same =
        let none : ◌≡◌ {A = Option ℕ} (Some e) None = ap (λ q. q.0) same in
        let no : ◌≡◌ {A = ℕ} 0 1 = cc in
        absurd (omega arith)

-- A put that answered an end, to which the place has moved.
pub put_written : (at : ℕ) (xs o : List ℕ) {r : Option ℕ} {p : List ℕ} {e n : ℕ} → ◌≡◌ {A = Option ℕ × List ℕ} (r, p) (placed at xs o) → n ≡ unwrap_or r at → r ≡ Some e → Written o at xs n p
put_written at xs o {r} {p} {e} {n} done moved some =
    let end : n ≡ e = moved ∙ ap (λ r. unwrap_or r at) some in
    subst (λ n. Written o at xs n p) (sym end) (placed_written at xs o (ap (λ (r : Option ℕ). (r, p)) (sym some) ∙ done))
