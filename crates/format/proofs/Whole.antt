-- A whole sheet stands in the bytes exactly if it is read.

use Rattle.std.proofs.Common.{◌≡◌, ℕ, zero, suc, ◌+◌, ◌-◌, ◌*◌, ◌<◌, ◌≤◌, true, cond, ◌&&◌, eqb, ltb, leb, ◌⊎◌, List, [], ◌∷◌, ◌++◌, length, drop, Some, None, Ok, Err, Option, Result, sym, refl, ap, ◌∙◌, subst, inl, inr, ⊎_elim, append_assoc, arith, length-append, length-drop}
use Rattle.std.specs.List.{flat_map, AllByRecursion}
use Rattle.std.proofs.lemmas.List.{drop_all, append-nil}
use Rattle.std.proofs.lemmas.Bool.{le-leb, ltb-true, leb-true, eqb-true, eq-eqb, cond-true, and_parts, or_cases}
use Rattle.records.specs.declared.RecordFault.{RecordFault}
use Rattle.records.specs.declared.SheetFault.{SheetFault}
use Rattle.records.specs.declared.SheetFault.TheVariants.{Excess, Room}
use Rattle.records.specs.declared.Expect.TheVariants as expects
use Rattle.records.specs.Records.{Item, move, end, next, record_at}
use Rattle.sheet.specs.declared.Row.{Row}
use Rattle.format.specs.declared.Arc.{Arc}
use Rattle.format.specs.Format.{State, Sheet, head_bytes, state_bytes, move_bytes, end_bytes, StateFits, ArcFits, above_last, Rising}
use Rattle.format.specs.Tables.{placed}
use Rattle.format.specs.Reading.{in_sheet, size_of, row_of, head_size, state_row, prepend, states_from, tail_judged, tail_at, onward, moves_from, reading}
use Rattle.format.specs.Laws.{Encodes}
use Rattle.format.proofs.Fields.{next_ok, next_inv, choose_inv, ok_same, skip}
use Rattle.format.proofs.Records.{head_there, head_here, state_there, state_here, move_there, end_there, MoveHere, EndHere, tail_here}

pub sheet_inv : {A : Type 0} (r : Result A RecordFault) (x : A) → in_sheet r ≡ Ok x → r ≡ Ok x
sheet_inv (Ok a) x h = cc
sheet_inv (Err e) x h = let z : ◌≡◌ {A = ℕ} 0 1 = cc in absurd (omega arith)

pub prepend_inv : {A E : Type 0} (xs : List A) (r : Result (List A × ℕ) E) (ys : List A) (nx : ℕ) → prepend xs r ≡ Ok (ys, nx) → (zs : List A) × (r ≡ Ok (zs, nx)) × (ys ≡ xs ++ zs)
prepend_inv {A} xs (Ok p) ys nx h =
    let e : ◌≡◌ {A = List A × ℕ} (xs ++ p.0, p.1) (ys, nx) = cc in
    (p.0, ap (λ k. Ok (p.0, k)) (ap (λ (t : List A × ℕ). t.1) e), sym (ap (λ (t : List A × ℕ). t.0) e))
prepend_inv xs (Err e) ys nx h = let z : ◌≡◌ {A = ℕ} 0 1 = cc in absurd (omega arith)

-- states

pub states_there : (bs rest : List ℕ) (ss : List State) (at n : ℕ) → AllByRecursion StateFits ss → drop at bs ≡ flat_map state_bytes ss ++ rest → states_from (length ss) bs at n ≡ Ok (placed at ss, at + length (flat_map state_bytes ss))
states_there bs rest [] at n f h = let z : at ≡ at + 0 = omega arith in ap (λ k. Ok ([], k)) z
states_there bs rest (s ∷ ss) at n f h =
    let w = state_bytes s in
    let ws = flat_map state_bytes ss in
    let row : Row = record { flags = s.flags; place = at + 4; len = length s.name; first = 0; count = 0 } in
    let nx = at + 4 + length s.name in
    let h1 : drop at bs ≡ w ++ (ws ++ rest) = h ∙ append_assoc w ws rest in
    let k : nx ≡ at + length w = omega arith in
    let d : drop nx bs ≡ ws ++ rest = ap (λ i. drop i bs) k ∙ skip bs at w (ws ++ rest) h1 in
    let q : state_row bs at n ≡ Ok (row, nx) = ap (λ x. next (in_sheet x) (λ p. Ok (row_of p.0, p.1))) (state_there bs at n s (ws ++ rest) f.0 h1) in
    let far : nx + length ws ≡ at + length (w ++ ws) = omega (arith, length-append w ws) in
    next_ok (λ p. prepend (p.0 ∷ []) (states_from (length ss) bs p.1 (n + 1))) q
    ∙ ap (prepend (row ∷ [])) (states_there bs rest ss nx (n + 1) f.1 d)
    ∙ ap (λ i. Ok (row ∷ placed nx ss, i)) far

abbrev pub StatesHere : List ℕ → ℕ → ℕ → List Row → ℕ → Type 0
StatesHere bs k at rows nx = (ss : List State) × (length ss ≡ k) × (rows ≡ placed at ss) × AllByRecursion StateFits ss × (drop at bs ≡ flat_map state_bytes ss ++ drop nx bs)

pub states_here : (bs : List ℕ) (k at n : ℕ) (rows : List Row) (nx : ℕ) → states_from k bs at n ≡ Ok (rows, nx) → StatesHere bs k at rows nx
states_here bs zero at n rows nx h =
    let e : ◌≡◌ {A = List Row × ℕ} ([], at) (rows, nx) = ok_same _ _ h in
    ([], refl, sym (ap (λ (t : List Row × ℕ). t.0) e), tt, ap (λ (t : List Row × ℕ). drop t.1 bs) e)
states_here bs (suc k) at n rows nx h =
    let a = next_inv (state_row bs at n) (λ p. prepend (p.0 ∷ []) (states_from k bs p.1 (n + 1))) (rows, nx) h in
    let z = prepend_inv (a.0.0 ∷ []) (states_from k bs a.0.1 (n + 1)) rows nx a.2 in
    let b = next_inv (in_sheet (record_at expects.State bs at n)) (λ q. Ok (row_of q.0, q.1)) a.0 a.1 in
    let s = state_here bs at n b.0 (sheet_inv (record_at expects.State bs at n) b.0 b.1) in
    let st = s.0 in
    let row : Row = record { flags = st.flags; place = at + 4; len = length st.name; first = 0; count = 0 } in
    let to = at + 4 + length st.name in
    let e : ◌≡◌ {A = Row × ℕ} (row, to) a.0 = ok_same _ _ (sym (ap (λ (q : Item × ℕ). Ok (row_of q.0, q.1)) s.1) ∙ b.2) in
    let er : a.0.0 ≡ row = sym (ap (λ (t : Row × ℕ). t.0) e) in
    let ex : a.0.1 ≡ to = sym (ap (λ (t : Row × ℕ). t.1) e) in
    let i = states_here bs k to (n + 1) z.0 nx (ap (λ x. states_from k bs x (n + 1)) (sym ex) ∙ z.1) in (
      st ∷ i.0,
      ap suc i.1,
      z.2 ∙ ap (λ x. x ∷ z.0) er ∙ ap (λ x. row ∷ x) i.2,
      (s.2, i.3),
      s.3 ∙ ap (λ x. state_bytes st ++ x) i.4 ∙ sym (append_assoc (state_bytes st) (flat_map state_bytes i.0) (drop nx bs)),
    )

-- moves

key : Arc → ℕ
key a = a.source * 64 + a.label

above_key : (size : ℕ) (l a : Arc) → l.label < 64 → above_last (Some l) a ≡ true → key l < key a
unfolding key
above_key size l a b h =
    ⊎_elim
    (λ (t : ltb l.source a.source ≡ true). let u = ltb-true l.source a.source t in omega (arith, u))
    (λ (t : (eqb l.source a.source && ltb l.label a.label) ≡ true).
    let p = and_parts (eqb l.source a.source) (ltb l.label a.label) t in
    let u = eqb-true l.source a.source p.0 in
    let v = ltb-true l.label a.label p.1 in
    omega (arith, u, v))
    (or_cases (ltb l.source a.source) _ h)

few_above : (size : ℕ) (l : Arc) (arcs : List Arc) → ArcFits size l → AllByRecursion (ArcFits size) arcs → Rising (Some l) arcs → key l + 1 + length arcs ≤ size * 64
unfolding key
few_above size l [] fl f r = omega (arith, fl)
few_above size l (a ∷ as') fl f r =
    let i = few_above size a as' f.0 f.1 r.1 in
    let k = above_key size l a fl.1 r.0 in
    omega (arith, i, k)

pub few : (size : ℕ) (arcs : List Arc) → AllByRecursion (ArcFits size) arcs → Rising None arcs → length arcs ≤ size * 64
unfolding key
few size [] f r = omega arith
few size (a ∷ as') f r = let i = few_above size a as' f.0 f.1 r.1 in omega (arith, i)

module _ (size : ℕ) (bs : List ℕ) (low : 1 ≤ size) (high : size ≤ 4096) where
  pub tail_move : (last : Option Arc) (at k : ℕ) (a : Arc) (rest : List ℕ) → ArcFits size a → above_last last a ≡ true → drop at bs ≡ move_bytes a ++ rest → tail_at size last bs at k ≡ Ok (Some (a, at + 7))
  tail_move last at k a rest f t h =
      let n = size + 1 + k in
      next_ok (λ p. tail_judged last bs at n k p.0 p.1) (ap in_sheet (move_there bs at n size a rest high f h))
      ∙ cond-true (above_last last a) _ _ t

  tail_end : (last : Option Arc) (at k : ℕ) → k < 4294967296 → drop at bs ≡ end_bytes k → tail_at size last bs at k ≡ Ok None
  tail_end last at k l h =
      let n = size + 1 + k in
      let far : length bs - at ≡ 6 = sym (length-drop at bs) ∙ ap length h in
      next_ok (λ p. tail_judged last bs at n k p.0 p.1) (ap in_sheet (end_there bs at n size k [] l (h ∙ sym (append-nil (end_bytes k)))))
      ∙ cond-true (eqb k k) _ _ (eq-eqb k k refl)
      ∙ cond-true (eqb (at + 6) (length bs)) _ _ (eq-eqb (at + 6) (length bs) (omega arith))

  pub moves_there : (room : ℕ) (last : Option Arc) (at k : ℕ) (arcs : List Arc) → length arcs ≤ room → AllByRecursion (ArcFits size) arcs → Rising last arcs → k + length arcs < 4294967296 → drop at bs ≡ flat_map move_bytes arcs ++ end_bytes (k + length arcs) → (nx : ℕ) × (moves_from room size last bs at k ≡ Ok (arcs, nx))
  moves_there zero last at k [] r f s l h =
      let z : k + 0 ≡ k = omega arith in
      (at, next_ok (λ t. onward at t (λ _ _. Err (Room (size + 1 + k) at))) (tail_end last at k (omega arith) (h ∙ ap end_bytes z)))
  moves_there zero last at k (a ∷ as') r f s l h = absurd (omega arith)
  moves_there (suc room) last at k [] r f s l h =
      let z : k + 0 ≡ k = omega arith in
      (at, next_ok (λ t. onward at t (λ a nx. moves_from room size (Some a) bs nx (k + 1))) (tail_end last at k (omega arith) (h ∙ ap end_bytes z)))
  moves_there (suc room) last at k (a ∷ as') r f s l h =
      let w = move_bytes a in
      let more = flat_map move_bytes as' ++ end_bytes (k + length (a ∷ as')) in
      let h1 : drop at bs ≡ w ++ more = h ∙ append_assoc w (flat_map move_bytes as') _ in
      let z : k + length (a ∷ as') ≡ k + 1 + length as' = omega arith in
      let d : drop (at + 7) bs ≡ flat_map move_bytes as' ++ end_bytes (k + 1 + length as') = skip bs at w more h1 ∙ ap (λ c. flat_map move_bytes as' ++ end_bytes c) z in
      let i = moves_there room (Some a) (at + 7) (k + 1) as' (omega arith) f.1 s.1 (omega arith) d in (
        i.0,
        next_ok (λ t. onward at t (λ x nx. moves_from room size (Some x) bs nx (k + 1))) (tail_move last at k a more f.0 s.0 h1)
            ∙ ap (prepend (a ∷ [])) i.1,
      )

  abbrev pub TailHere : Option Arc → ℕ → ℕ → Option (Arc × ℕ) → Type 0
  TailHere last at k o =
      ((a : Arc) × (o ≡ Some (a, at + 7)) × ArcFits size a × (above_last last a ≡ true) × (drop at bs ≡ move_bytes a ++ drop (at + 7) bs))
      ⊎ ((o ≡ None) × (drop at bs ≡ end_bytes k))

  pub tail_inv : (last : Option Arc) (at k : ℕ) (o : Option (Arc × ℕ)) → tail_at size last bs at k ≡ Ok o → TailHere last at k o
  tail_inv last at k o h =
      let n = size + 1 + k in
      let a = next_inv (in_sheet (record_at (expects.Tail size) bs at n)) (λ p. tail_judged last bs at n k p.0 p.1) o h in
      let q = a.0 in
      ⊎_elim
      (λ (m : MoveHere bs at n size q).
      let j : tail_judged last bs at n k (move m.0.source m.0.label m.0.target) (at + 7) ≡ Ok o = sym (ap (λ (p : Item × ℕ). tail_judged last bs at n k p.0 p.1) m.1) ∙ a.2 in
      let c = choose_inv (above_last last m.0) (Ok (Some (m.0, at + 7))) _ o j in
      inl (m.0, sym (ok_same _ _ c.1), m.2, c.0, m.3))
      (λ (e : EndHere bs at n q).
      let j : tail_judged last bs at n k (end e.0) (at + 6) ≡ Ok o = sym (ap (λ (p : Item × ℕ). tail_judged last bs at n k p.0 p.1) e.1) ∙ a.2 in
      let c = choose_inv (eqb e.0 k) (cond (eqb (at + 6) (length bs)) (Ok None) (Err (Excess n (at + 6)))) _ o j in
      let d = choose_inv (eqb (at + 6) (length bs)) (Ok None) _ o c.1 in
      let ec = eqb-true e.0 k c.0 in
      let el = eqb-true (at + 6) (length bs) d.0 in
      let z : drop (at + 6) bs ≡ [] = drop_all (at + 6) bs (omega (arith, el)) in
      inr (sym (ok_same _ _ d.1), e.2 ∙ ap (λ x. end_bytes e.0 ++ x) z ∙ append-nil (end_bytes e.0) ∙ ap end_bytes ec))
      (tail_here bs at n size q low (sheet_inv (record_at (expects.Tail size) bs at n) q a.1))

  abbrev pub MovesHere : ℕ → Option Arc → ℕ → ℕ → List Arc → Type 0
  MovesHere room last at k arcs = (length arcs ≤ room) × AllByRecursion (ArcFits size) arcs × Rising last arcs × (drop at bs ≡ flat_map move_bytes arcs ++ end_bytes (k + length arcs))

  moves_none : (room : ℕ) (last : Option Arc) (at k : ℕ) (arcs : List Arc) (nx : ℕ) → ◌≡◌ {A = Result (List Arc × ℕ) SheetFault} (Ok ([], at)) (Ok (arcs, nx)) → drop at bs ≡ end_bytes k → MovesHere room last at k arcs
  moves_none room last at k arcs nx h d =
      let e : [] ≡ arcs = ap (λ (t : List Arc × ℕ). t.0) (ok_same _ _ h) in
      let z : k ≡ k + 0 = omega arith in
      subst (λ (as' : List Arc). (length as' ≤ room) × AllByRecursion (ArcFits size) as' × Rising last as' × (drop at bs ≡ flat_map move_bytes as' ++ end_bytes (k + length as'))) e
      (omega arith, tt, tt, d ∙ ap end_bytes z)

  no_room : (a : Arc) (f : SheetFault) (y : List Arc × ℕ) → ◌≡◌ {A = Result (List Arc × ℕ) SheetFault} (Err f) (Ok y) → ⊥
  no_room a f y h = let z : ◌≡◌ {A = ℕ} 0 1 = cc in absurd (omega arith)

  pub moves_here : (room : ℕ) (last : Option Arc) (at k : ℕ) (arcs : List Arc) (nx : ℕ) → moves_from room size last bs at k ≡ Ok (arcs, nx) → MovesHere room last at k arcs
  moves_here zero last at k arcs nx h =
      let go = λ (a : Arc) (x : ℕ). Err (Room (size + 1 + k) at) in
      let t = next_inv (tail_at size last bs at k) (λ t. onward at t go) (arcs, nx) h in
      ⊎_elim
      (λ m. absurd (no_room m.0 _ (arcs, nx) (sym (ap (λ o. onward at o go) m.1) ∙ t.2)))
      (λ e. moves_none zero last at k arcs nx (sym (ap (λ o. onward at o go) e.0) ∙ t.2) e.1)
      (tail_inv last at k t.0 t.1)
  moves_here (suc room) last at k arcs nx h =
      let go = λ (a : Arc) (x : ℕ). moves_from room size (Some a) bs x (k + 1) in
      let t = next_inv (tail_at size last bs at k) (λ t. onward at t go) (arcs, nx) h in
      ⊎_elim
      (λ m.
      let a = m.0 in
      let z = prepend_inv (a ∷ []) (moves_from room size (Some a) bs (at + 7) (k + 1)) arcs nx (sym (ap (λ o. onward at o go) m.1) ∙ t.2) in
      let i = moves_here room (Some a) (at + 7) (k + 1) z.0 nx z.1 in
      let c : k + 1 + length z.0 ≡ k + length (a ∷ z.0) = omega arith in
      subst (λ (as' : List Arc). (length as' ≤ suc room) × AllByRecursion (ArcFits size) as' × Rising last as' × (drop at bs ≡ flat_map move_bytes as' ++ end_bytes (k + length as'))) (sym z.2) (
        (let l = i.0 in omega (arith, l)),
        (m.2, i.1),
        (m.3, i.2),
        m.4 ∙ ap (λ x. move_bytes a ++ x) (i.3 ∙ ap (λ x. flat_map move_bytes z.0 ++ end_bytes x) c) ∙ sym (append_assoc (move_bytes a) (flat_map move_bytes z.0) _),
      ))
      (λ e. moves_none (suc room) last at k arcs nx (sym (ap (λ o. onward at o go) e.0) ∙ t.2) e.1)
      (tail_inv last at k t.0 t.1)

-- sheets

pub head_read : (bs : List ℕ) (size : ℕ) (rest : List ℕ) → 1 ≤ size → size ≤ 4096 → bs ≡ head_bytes size ++ rest → head_size bs ≡ Ok (size, 5)
head_read bs size rest low high h = ap (λ x. next (in_sheet x) (λ p. Ok (size_of p.0, p.1))) (head_there bs 0 0 size rest low high h)

pub encoded_read : (n m : ℕ) (bs : List ℕ) (s : Sheet) → Encodes n m bs s → reading n m bs ≡ Ok (placed 5 s.states, s.moves)
encoded_read n m bs s t =
    let f = t.0 in
    let size = length s.states in
    let w = flat_map state_bytes s.states in
    let mv = flat_map move_bytes s.moves ++ end_bytes (length s.moves) in
    let here : bs ≡ head_bytes size ++ (w ++ mv) = sym t.1 in
    let low = f.0 in
    let high = f.1 in
    let at = 5 + length w in
    let d : drop 5 bs ≡ w ++ mv = ap (drop 5) here in
    let st = states_there bs mv s.states 5 1 f.2 d in
    let z : length s.moves ≡ 0 + length s.moves = omega arith in
    let e : drop at bs ≡ flat_map move_bytes s.moves ++ end_bytes (0 + length s.moves) = skip bs 5 w mv d ∙ ap (λ k. flat_map move_bytes s.moves ++ end_bytes k) z in
    let c = few size s.moves f.3 f.4 in
    let ms = moves_there size bs low high m None at 0 s.moves t.3 f.3 f.4 (omega (arith, c, high)) e in
    next_ok _ (head_read bs size (w ++ mv) low high here)
    ∙ cond-true (leb size n) _ _ (le-leb size n t.2)
    ∙ next_ok (λ q. next (moves_from m size None bs q.1 0) (λ a. Ok (q.0, a.0))) st
    ∙ next_ok (λ a. Ok (placed 5 s.states, a.0)) ms.1

pub read_encoded : (n m : ℕ) (bs : List ℕ) (rows : List Row) (arcs : List Arc) → reading n m bs ≡ Ok (rows, arcs) → (s : Sheet) × Encodes n m bs s × (rows ≡ placed 5 s.states) × (arcs ≡ s.moves)
read_encoded n m bs rows arcs h =
    let a = next_inv (head_size bs) _ (rows, arcs) h in
    let b = next_inv (in_sheet (record_at expects.Head bs 0 0)) (λ p. Ok (size_of p.0, p.1)) a.0 a.1 in
    let hd = head_here bs 0 0 b.0 (sheet_inv (record_at expects.Head bs 0 0) b.0 b.1) in
    let size = hd.0 in
    let e : ◌≡◌ {A = ℕ × ℕ} (size, 5) a.0 = ok_same _ _ (sym (ap (λ (q : Item × ℕ). Ok (size_of q.0, q.1)) hd.1) ∙ b.2) in
    let body = λ (x : ℕ × ℕ). cond (leb x.0 n) (next (states_from x.0 bs x.1 1) (λ s. next (moves_from m x.0 None bs s.1 0) (λ y. Ok (s.0, y.0)))) (Err (Room 0 0)) in
    let c : body (size, 5) ≡ Ok (rows, arcs) = ap body e ∙ a.2 in
    let d = choose_inv (leb size n) (next (states_from size bs 5 1) (λ s. next (moves_from m size None bs s.1 0) (λ y. Ok (s.0, y.0)))) _ (rows, arcs) c in
    let s = next_inv (states_from size bs 5 1) (λ s. next (moves_from m size None bs s.1 0) (λ y. Ok (s.0, y.0))) (rows, arcs) d.1 in
    let y = next_inv (moves_from m size None bs s.0.1 0) (λ y. Ok (s.0.0, y.0)) (rows, arcs) s.2 in
    let ss = states_here bs size 5 1 s.0.0 s.0.1 s.1 in
    let ms = moves_here size bs hd.2 hd.3 m None s.0.1 0 y.0.0 y.0.1 y.1 in
    let p : ◌≡◌ {A = List Row × List Arc} (s.0.0, y.0.0) (rows, arcs) = ok_same _ _ y.2 in
    let room = leb-true size n d.0 in
    let n1 : length ss.0 ≡ size = ss.1 in
    let z : 0 + length y.0.0 ≡ length y.0.0 = omega arith in
    let whole : head_bytes (length ss.0) ++ (flat_map state_bytes ss.0 ++ (flat_map move_bytes y.0.0 ++ end_bytes (length y.0.0))) ≡ bs =
    ap (λ k. head_bytes k ++ (flat_map state_bytes ss.0 ++ (flat_map move_bytes y.0.0 ++ end_bytes (length y.0.0)))) n1
    ∙ sym (hd.4 ∙ ap (λ x. head_bytes size ++ x) (ss.4 ∙ ap (λ x. flat_map state_bytes ss.0 ++ x) (ms.3 ∙ ap (λ k. flat_map move_bytes y.0.0 ++ end_bytes k) z))) in (
      record { states = ss.0; moves = y.0.0 },
      (
        ((let l = hd.2 in omega (arith, l, n1)), (let l = hd.3 in omega (arith, l, n1)), ss.3, subst (λ k. AllByRecursion (ArcFits k) y.0.0) (sym n1) ms.1, ms.2),
        whole,
        omega (arith, n1, room),
        ms.0,
      ),
      sym (ap (λ (t : List Row × List Arc). t.0) p) ∙ ss.2,
      sym (ap (λ (t : List Row × List Arc). t.1) p),
    )
