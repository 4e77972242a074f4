-- Each refusal of a reading has its reason.

use Rattle.std.proofs.Common.{◌≡◌, ℕ, zero, suc, ◌+◌, ◌-◌, ◌<◌, ◌≤◌, Bool, true, false, cond, eqb, leb, List, [], ◌∷◌, ◌++◌, map, length, get_or, take, drop, replicate, Some, None, Ok, Err, Option, Result, sym, refl, ap, ◌∙◌, subst, inl, inr, ⊎_elim, append_assoc, arith, length-append, length-drop}
use Rattle.std.specs.List.{flat_map, AllByRecursion}
use Rattle.std.proofs.lemmas.Grind.{flat_map-append}
use Rattle.std.proofs.lemmas.List.Folds.{flat_map-map}
use Rattle.std.proofs.ByRecursion.{All-append, All-push}
use Rattle.std.proofs.lemmas.List.{append-nil, map-append, length-map, length-replicate, length_push, flat_map_more, take_at, take-take, take-append-drop, drop-take, length-take-le}
use Rattle.std.proofs.lemmas.Bool.{leb-true, leb-false, eqb-true, eqb-false, cond-true, cond-false, cases_Bool, cases_lt, both_ways}
use Rattle.records.specs.declared.RecordFault.{RecordFault}
use Rattle.records.specs.declared.RecordFault.TheVariants.{Byte, Mark, Field}
use Rattle.records.specs.declared.SheetFault.{SheetFault}
use Rattle.records.specs.declared.SheetFault.TheVariants.{Record, Order, Count, Excess, Room}
use Rattle.records.specs.declared.Expect.TheVariants as expects
use Rattle.records.specs.Faults.{index_of}
use Rattle.records.specs.Records.{Item, move, end, next, record_at}
use Rattle.sheet.specs.declared.Row.{Row}
use Rattle.format.specs.declared.Arc.{Arc}
use Rattle.format.specs.Format.{State, Sheet, Fits, encode, head_bytes, state_bytes, move_bytes, end_bytes, StateFits, ArcFits, above_last, Rising}
use Rattle.format.specs.Reading.{in_sheet, size_of, row_of, head_size, state_row, prepend, states_from, tail_judged, tail_at, onward, moves_from, reading, filled, read_result}
use Rattle.format.specs.Games.{no_state}
use Rattle.format.specs.Blame.{records_of, Good, Starts, NoSheet, TooShort, TooLarge, Blames, Blamed}
use Rattle.format.proofs.Fields.{next_ok, next_inv, choose_inv, ok_same}
use Rattle.format.proofs.Records.{head_here, state_there, state_here, move_there, MoveHere, EndHere, tail_here}
use Rattle.format.proofs.Whole.{sheet_inv, prepend_inv, states_there, states_here, tail_move, tail_inv, head_read, encoded_read}
use Rattle.format.proofs.Local.{Bytes, Alike, alike_less, alike_drop, Done, ok_err, err_ok, err_same, choose_err, Reason, Kind, lift, record_wrong, end_same}

-- the records of a sheet are its bytes

pub encode_records : (s : Sheet) → flat_map (λ r. r) (records_of s) ≡ encode s
encode_records s =
    let h = head_bytes (length s.states) in
    let e = end_bytes (length s.moves) in
    let a = map state_bytes s.states in
    let b = map move_bytes s.moves in
    ap (λ x. h ++ x) (flat_map-append (λ r. r) a (b ++ (e ∷ [])))
    ∙ ap (λ x. h ++ (x ++ flat_map (λ r. r) (b ++ (e ∷ [])))) (flat_map-map (λ r. r) state_bytes s.states)
    ∙ ap (λ x. h ++ (flat_map state_bytes s.states ++ x)) (flat_map-append (λ r. r) b (e ∷ []) ∙ ap (λ x. x ++ (e ++ [])) (flat_map-map (λ r. r) move_bytes s.moves) ∙ ap (λ x. flat_map move_bytes s.moves ++ x) (append-nil e))

records_count : (s : Sheet) → length (records_of s) ≡ length s.states + 1 + length s.moves + 1
records_count s =
    let a = map state_bytes s.states in
    let b = map move_bytes s.moves in
    let e = end_bytes (length s.moves) ∷ [] in
    omega (arith, length-append a (b ++ e), length-append b e, length-map s.states state_bytes, length-map s.moves move_bytes)

-- the records before those that are still to come
records_front : (h : List ℕ) (xs ys : List (List ℕ)) (i : ℕ) → i ≡ suc (length xs) → flat_map (λ r. r) (take i (h ∷ (xs ++ ys))) ≡ h ++ flat_map (λ r. r) xs
records_front h xs ys i e = ap (λ k. flat_map (λ r. r) (take k (h ∷ (xs ++ ys)))) e ∙ ap (λ x. h ++ flat_map (λ r. r) x) (take_at xs ys (length xs) refl)

blanks : (k : ℕ) → AllByRecursion StateFits (replicate k no_state)
blanks zero = tt
blanks (suc k) = ((refl, omega arith, refl), blanks k)

module _ (bs : List ℕ) where
  inside : (at : ℕ) (w rest : List ℕ) → at ≤ length bs → drop at bs ≡ w ++ rest → at + length w ≤ length bs
  inside at w rest l h = let far : length (w ++ rest) ≡ length bs - at = ap length (sym h) ∙ length-drop at bs in omega (arith, far, length-append w rest)

  take_grow : (at to : ℕ) (w : List ℕ) → to ≡ at + length w → drop at bs ≡ w ++ drop to bs → take to bs ≡ take at bs ++ w
  take_grow at to w e h =
      let n = length w in
      ap (λ k. take k bs) e
      ∙ sym (take-append-drop at (take (at + n) bs))
      ∙ ap (λ x. x ++ drop at (take (at + n) bs)) (take-take at (at + n) bs (omega arith))
      ∙ ap (λ x. take at bs ++ x) (drop-take at n bs ∙ ap (take n) h ∙ take_at w (drop to bs) n refl)

  -- what was read so far are the records of a sheet

  good_none : Good 0 0 bs
  good_none = (omega arith, (record { states = no_state ∷ []; moves = [] }, (omega arith, omega arith, (blanks 1), tt, tt), omega arith, refl))

  good_states : (size at i : ℕ) (ss : List State) → 1 ≤ size → size ≤ 4096 → length ss ≤ size → i ≡ suc (length ss) → AllByRecursion StateFits ss → at ≤ length bs → head_bytes size ++ flat_map state_bytes ss ≡ take at bs → Good i at bs
  good_states size at i ss low high few n f l h =
      let pad = replicate (size - length ss) no_state in
      let s : Sheet = record { states = ss ++ pad; moves = [] } in
      let len : length (ss ++ pad) ≡ size = omega (arith, length-append ss pad, length-replicate (size - length ss) no_state) in
      let rest = map state_bytes pad ++ (end_bytes 0 ∷ []) in
      let hd = head_bytes (length (ss ++ pad)) in
      let split : map state_bytes (ss ++ pad) ++ (end_bytes 0 ∷ []) ≡ map state_bytes ss ++ rest = ap (λ x. x ++ (end_bytes 0 ∷ [])) (map-append state_bytes ss pad) ∙ append_assoc (map state_bytes ss) (map state_bytes pad) (end_bytes 0 ∷ []) in
      let m = length-map ss state_bytes in (
        l,
        (
          s,
          (omega (arith, len), omega (arith, len), All-append StateFits ss pad f (blanks (size - length ss)), tt, tt),
          (let c = records_count s in omega (arith, c, len)),
          ap (λ x. flat_map (λ r. r) (take i (hd ∷ x))) split
              ∙ records_front hd (map state_bytes ss) rest i (omega (arith, m))
              ∙ ap (λ x. hd ++ x) (flat_map-map (λ r. r) state_bytes ss)
              ∙ ap (λ k. head_bytes k ++ flat_map state_bytes ss) len
              ∙ h,
        ),
      )

  good_moves : (at i : ℕ) (ss : List State) (arcs : List Arc) → i ≡ length ss + 1 + length arcs → Fits (record { states = ss; moves = arcs }) → at ≤ length bs → (head_bytes (length ss) ++ flat_map state_bytes ss) ++ flat_map move_bytes arcs ≡ take at bs → Good i at bs
  good_moves at i ss arcs n f l h =
      let s : Sheet = record { states = ss; moves = arcs } in
      let hd = head_bytes (length ss) in
      let a = map state_bytes ss in
      let b = map move_bytes arcs in
      let e = end_bytes (length arcs) ∷ [] in
      let m : length (a ++ b) ≡ length ss + length arcs = omega (arith, length-append a b, length-map ss state_bytes, length-map arcs move_bytes) in (
        l,
        (
          s,
          f,
          (let c = records_count s in omega (arith, c)),
          ap (λ x. flat_map (λ r. r) (take i (hd ∷ x))) (sym (append_assoc a b e))
              ∙ records_front hd (a ++ b) e i (omega (arith, m))
              ∙ ap (λ x. hd ++ x) (flat_map-append (λ r. r) a b)
              ∙ ap (λ x. hd ++ (x ++ flat_map (λ r. r) b)) (flat_map-map (λ r. r) state_bytes ss)
              ∙ ap (λ x. hd ++ (flat_map state_bytes ss ++ x)) (flat_map-map (λ r. r) move_bytes arcs)
              ∙ sym (append_assoc hd (flat_map state_bytes ss) (flat_map move_bytes arcs))
              ∙ h,
        ),
      )

  -- the record at fault is the first that is refused
  abbrev Reasoned : ℕ → SheetFault → (Bool → List ℕ → Type 0) → Type 0
  Reasoned lo f T = (i : ℕ) × (at : ℕ) × Good i at bs × Reason bs i at lo f T

  lift_all : (lo to : ℕ) (f : SheetFault) (T U : Bool → List ℕ → Type 0) → lo ≤ to → ((t : Bool) (cs : List ℕ) → Alike to bs cs → U t cs → T t cs) → Reasoned to f T → Reasoned lo f U
  lift_all lo to f T U l g r = (r.0, r.1, r.2, lift bs r.0 r.1 lo to f T U l g r.3)

  -- states

  abbrev row_from : Result (Item × ℕ) RecordFault → Result (Row × ℕ) SheetFault
  row_from r = next (in_sheet r) (λ p. Ok (row_of p.0, p.1))

  abbrev rows_then : ℕ → List ℕ → ℕ → Result (Item × ℕ) RecordFault → Result (List Row × ℕ) SheetFault
  rows_then k cs n r = next (row_from r) (λ p. prepend (p.0 ∷ []) (states_from k cs p.1 (n + 1)))

  row_done : (cs : List ℕ) (at n : ℕ) → Done (state_row cs at n) → Done (record_at expects.State cs at n)
  row_done cs at n d =
      let p = next_inv (in_sheet (record_at expects.State cs at n)) (λ p. Ok (row_of p.0, p.1)) d.0 d.1 in
      (p.0, sheet_inv (record_at expects.State cs at n) p.0 p.1)

  prepend_err : {A E : Type 0} (xs : List A) (r : Result (List A × ℕ) E) (e : E) → prepend xs r ≡ Err e → r ≡ Err e
  prepend_err xs (Ok p) e h = ok_err _ e h
  prepend_err xs (Err d) e h = ap (λ x. Err x) (err_same d e h)

  module _ (size : ℕ) (low : 1 ≤ size) (high : size ≤ 4096) where
    abbrev Rows : ℕ → ℕ → ℕ → Bool → List ℕ → Type 0
    Rows k at n t cs = Done (states_from k cs at n)

    -- behind the states `ss`, of which the last ends at `at`
    abbrev Behind : List State → ℕ → ℕ → ℕ → Type 0
    Behind ss k at n = (length ss + k ≡ size) × (n ≡ suc (length ss)) × AllByRecursion StateFits ss × (at ≤ length bs) × (head_bytes size ++ flat_map state_bytes ss ≡ take at bs)

    abbrev StatesWrong : SheetFault → ℕ → Type 0
    StatesWrong f k = (at n : ℕ) (ss : List State) → Behind ss k at n → states_from k bs at n ≡ Err f → Reasoned at f (Rows k at n)

    behind_good : (ss : List State) (k at n : ℕ) → Behind ss k at n → Good n at bs
    behind_good ss k at n b = let e = b.0 in good_states size at n ss low high (omega (arith, e)) b.1 b.2 b.3 b.4

    behind_more : (ss : List State) (k at n : ℕ) (s : State) → StateFits s → drop at bs ≡ state_bytes s ++ drop (at + 4 + length s.name) bs → Behind ss (suc k) at n → Behind (ss ++ s ∷ []) k (at + 4 + length s.name) (n + 1)
    behind_more ss k at n s f h b =
        let w = state_bytes s in
        let to = at + 4 + length s.name in
        let e : to ≡ at + length w = omega arith in
        let c = b.0 in
        let i = b.1 in
        let l = inside at w (drop to bs) b.3 h in
        let p = length_push ss s in (
          omega (arith, c, p),
          omega (arith, i, p),
          All-push StateFits ss s b.2 f,
          omega (arith, l),
          sym (flat_map_more state_bytes (head_bytes size) ss s) ∙ ap (λ x. x ++ w) b.4 ∙ sym (take_grow at to w e h),
        )

    state_split : (f : SheetFault) (k : ℕ) → StatesWrong f k → (at n : ℕ) (ss : List State) → Behind ss (suc k) at n → (r : Result (Item × ℕ) RecordFault) → record_at expects.State bs at n ≡ r → rows_then k bs n r ≡ Err f → Reasoned at f (Rows (suc k) at n)
    state_split f k ih at n ss b (Err e) h m =
        let r : Reasoned at (Record e) (Rows (suc k) at n) = (
          n,
          at,
          behind_good ss (suc k) at n b,
          lift bs n at at at (Record e) (λ t cs. Done (record_at expects.State cs at n)) (Rows (suc k) at n) (omega arith)
              (λ t cs a u.
              let p = next_inv (state_row cs at n) (λ p. prepend (p.0 ∷ []) (states_from k cs p.1 (n + 1))) u.0 u.1 in
              row_done cs at n (p.0, p.1))
              (record_wrong bs at n e expects.State b.3 h),
        ) in
        subst (λ x. Reasoned at x (Rows (suc k) at n)) (err_same _ _ m) r
    state_split f k ih at n ss b (Ok q) h m =
        let s = state_here bs at n q h in
        let st = s.0 in
        let to = at + 4 + length st.name in
        let e : to ≡ at + length (state_bytes st) = omega arith in
        let m1 : prepend (row_of q.0 ∷ []) (states_from k bs q.1 (n + 1)) ≡ Err f = m in
        let m2 : states_from k bs to (n + 1) ≡ Err f = ap (λ (x : Item × ℕ). states_from k bs x.1 (n + 1)) (sym s.1) ∙ prepend_err (row_of q.0 ∷ []) (states_from k bs q.1 (n + 1)) f m1 in
        lift_all at to f (Rows k to (n + 1)) (Rows (suc k) at n) (omega arith)
        (λ t cs a u.
        let d = alike_drop bs cs (state_bytes st) at to e a s.3 in
        let j = state_there cs at n st (drop to cs) s.2 d in
        let z = prepend_inv (_ ∷ []) (states_from k cs to (n + 1)) u.0.0 u.0.1 (sym (ap (rows_then k cs n) j) ∙ u.1) in
        ((z.0, u.0.1), z.1))
        (ih to (n + 1) (ss ++ st ∷ []) (behind_more ss k at n st s.2 s.3 b) m2)

    states_wrong : (f : SheetFault) (k : ℕ) → StatesWrong f k
    states_wrong f zero at n ss b h = ok_err _ f h
    states_wrong f (suc k) at n ss b h = state_split f k (states_wrong f k) at n ss b (record_at expects.State bs at n) refl h

    -- moves

    -- behind the moves `arcs`, of which the last ends at `at`: the sheet may go on with any that rise above `last`
    record After (last : Option Arc) (at k : ℕ) : Type 0 where
      ss : List State
      arcs : List Arc
      sized : length ss ≡ size
      counted : length arcs ≡ k
      reached : at ≤ length bs
      stands : (head_bytes size ++ flat_map state_bytes ss) ++ flat_map move_bytes arcs ≡ take at bs
      fits : (more : List Arc) → AllByRecursion (ArcFits size) more → Rising last more → Fits (record { states = ss; moves = arcs ++ more })

    after_fits : (last : Option Arc) (at k : ℕ) (b : After last at k) → Fits (record { states = b.ss; moves = b.arcs })
    after_fits last at k b = subst (λ x. Fits (record { states = b.ss; moves = x })) (append-nil b.arcs) (b.fits [] tt tt)

    after_good : (last : Option Arc) (at k : ℕ) → After last at k → Good (size + 1 + k) at bs
    after_good last at k b =
        let n = b.sized in
        let c = b.counted in
        good_moves at (size + 1 + k) b.ss b.arcs (omega (arith, n, c)) (after_fits last at k b) b.reached
        (ap (λ x. (head_bytes x ++ flat_map state_bytes b.ss) ++ flat_map move_bytes b.arcs) n ∙ b.stands)

    after_more : (last : Option Arc) (at k : ℕ) (a : Arc) → ArcFits size a → above_last last a ≡ true → drop at bs ≡ move_bytes a ++ drop (at + 7) bs → After last at k → After (Some a) (at + 7) (k + 1)
    after_more last at k a f t h b =
        let w = move_bytes a in
        let c = b.counted in
        let l = inside at w (drop (at + 7) bs) b.reached h in
        let p = length_push b.arcs a in
        record {
          ss = b.ss;
          arcs = b.arcs ++ a ∷ [];
          sized = b.sized;
          counted = omega (arith, c, p);
          reached = omega (arith, l);
          stands = sym (flat_map_more move_bytes (head_bytes size ++ flat_map state_bytes b.ss) b.arcs a) ∙ ap (λ x. x ++ w) b.stands ∙ sym (take_grow at (at + 7) w refl h);
          fits = λ more fm rm. subst (λ x. Fits (record { states = b.ss; moves = x })) (sym (append_assoc b.arcs (a ∷ []) more)) (b.fits (a ∷ more) (f, fm) (t, rm));
        }

    -- a move or an end that is refused

    abbrev Tail : Option Arc → ℕ → ℕ → Bool → List ℕ → Type 0
    Tail last at k t cs = Done (tail_at size last cs at k)

    -- a record in whose place no sheet goes on, since a test of what stands there fails in all bytes that begin alike
    refused_here : (last : Option Arc) (at k to : ℕ) (f : SheetFault) (b : Bool) (r : List ℕ → Result (Option (Arc × ℕ)) SheetFault) → index_of f ≡ size + 1 + k → Kind bs f at to → at ≤ to → to ≤ length bs → b ≡ false → ((cs : List ℕ) → Alike to bs cs → tail_at size last cs at k ≡ cond b (r cs) (Err f)) → Reason bs (size + 1 + k) at at f (Tail last at k)
    refused_here last at k to f b r i d l m t e = (i, to, l, m, d, λ _ cs al _ u. both_ways b t (choose_inv b (r cs) f u.0 (sym (e cs al) ∙ u.1)).0)

    move_order : (last : Option Arc) (at k : ℕ) (a : Arc) → ArcFits size a → above_last last a ≡ false → drop at bs ≡ move_bytes a ++ drop (at + 7) bs → at ≤ length bs → Reason bs (size + 1 + k) at at (Order (size + 1 + k) at) (Tail last at k)
    move_order last at k a f t h l =
        let n = size + 1 + k in
        let r = inside at (move_bytes a) (drop (at + 7) bs) l h in
        refused_here last at k (at + 7) (Order n at) (above_last last a) (λ _. Ok (Some (a, at + 7))) refl (refl, refl) (omega arith) (omega (arith, r)) t
        (λ cs al. next_ok (λ p. tail_judged last cs at n k p.0 p.1) (ap in_sheet (move_there cs at n size a (drop (at + 7) cs) high f (alike_drop bs cs (move_bytes a) at (at + 7) refl al h))))

    end_count : (last : Option Arc) (at k count : ℕ) → eqb count k ≡ false → record_at (expects.Tail size) bs at (size + 1 + k) ≡ Ok (end count, at + 6) → drop at bs ≡ end_bytes count ++ drop (at + 6) bs → at ≤ length bs → Reason bs (size + 1 + k) at at (Count (size + 1 + k) at) (Tail last at k)
    end_count last at k count t e h l =
        let n = size + 1 + k in
        let r = inside at (end_bytes count) (drop (at + 6) bs) l h in
        refused_here last at k (at + 6) (Count n at) (eqb count k) (λ cs. cond (eqb (at + 6) (length cs)) (Ok None) (Err (Excess n (at + 6)))) refl (refl, refl) (omega arith) (omega (arith, r)) t
        (λ cs al. next_ok (λ p. tail_judged last cs at n k p.0 p.1) (ap in_sheet (end_same bs cs at n size count al h ∙ e)))

    end_excess : (last : Option Arc) (at k : ℕ) → eqb (at + 6) (length bs) ≡ false → drop at bs ≡ end_bytes k ++ drop (at + 6) bs → After last at k → Reason bs (size + 1 + k) at at (Excess (size + 1 + k) (at + 6)) (Tail last at k)
    end_excess last at k t h b =
        let s : Sheet = record { states = b.ss; moves = b.arcs } in
        let hd = head_bytes (length b.ss) in
        let st = flat_map state_bytes b.ss in
        let mv = flat_map move_bytes b.arcs in
        let r = inside at (end_bytes k) (drop (at + 6) bs) b.reached h in
        let ne = eqb-false (at + 6) (length bs) t in
        let n = b.sized in
        let c = b.counted in
        let whole : encode s ≡ take (at + 6) bs =
        ap (λ x. hd ++ (st ++ (mv ++ end_bytes x))) c
        ∙ sym (append_assoc hd st (mv ++ end_bytes k))
        ∙ sym (append_assoc (hd ++ st) mv (end_bytes k))
        ∙ ap (λ x. ((head_bytes x ++ st) ++ mv) ++ end_bytes k) n
        ∙ ap (λ x. x ++ end_bytes k) b.stands
        ∙ sym (take_grow at (at + 6) (end_bytes k) refl h) in (
          refl,
          at,
          omega arith,
          b.reached,
          (s, after_fits last at k b, whole, omega (arith, r, ne), (let z = records_count s in omega (arith, z, n, c))),
          λ _ _ _ x _. x,
        )

    abbrev judged_from : Option Arc → List ℕ → ℕ → ℕ → Result (Item × ℕ) RecordFault → Result (Option (Arc × ℕ)) SheetFault
    judged_from last cs at k r = next (in_sheet r) (λ p. tail_judged last cs at (size + 1 + k) k p.0 p.1)

    tail_split : (f : SheetFault) (last : Option Arc) (at k : ℕ) → After last at k → (r : Result (Item × ℕ) RecordFault) → record_at (expects.Tail size) bs at (size + 1 + k) ≡ r → judged_from last bs at k r ≡ Err f → Reason bs (size + 1 + k) at at f (Tail last at k)
    tail_split f last at k b (Err e) h m =
        let n = size + 1 + k in
        let r : Reason bs n at at (Record e) (Tail last at k) =
        lift bs n at at at (Record e) (λ t cs. Done (record_at (expects.Tail size) cs at n)) (Tail last at k) (omega arith)
        (λ t cs a u.
        let p = next_inv (in_sheet (record_at (expects.Tail size) cs at n)) (λ p. tail_judged last cs at n k p.0 p.1) u.0 u.1 in
        (p.0, sheet_inv (record_at (expects.Tail size) cs at n) p.0 p.1))
        (record_wrong bs at n e (expects.Tail size) b.reached h) in
        subst (λ x. Reason bs n at at x (Tail last at k)) (err_same _ _ m) r
    tail_split f last at k b (Ok q) h m =
        let n = size + 1 + k in
        let said = λ (p : Item × ℕ). tail_judged last bs at n k p.0 p.1 in
        ⊎_elim
        (λ (v : MoveHere bs at n size q).
        let a = v.0 in
        let j : said (move a.source a.label a.target, at + 7) ≡ Err f = sym (ap said v.1) ∙ m in
        let c = choose_err (above_last last a) (Some (a, at + 7)) _ f j in
        subst (λ x. Reason bs n at at x (Tail last at k)) (sym c.1) (move_order last at k a v.2 c.0 v.3 b.reached))
        (λ (v : EndHere bs at n q).
        let count = v.0 in
        let rest = cond (eqb (at + 6) (length bs)) (Ok None) (Err (Excess n (at + 6))) in
        let j : said (end count, at + 6) ≡ Err f = sym (ap said v.1) ∙ m in
        ⊎_elim
        (λ (t : eqb count k ≡ true).
        let same = eqb-true count k t in
        let c = choose_err (eqb (at + 6) (length bs)) None _ f (sym (cond-true (eqb count k) rest _ t) ∙ j) in
        subst (λ x. Reason bs n at at x (Tail last at k)) (sym c.1) (end_excess last at k c.0 (v.2 ∙ ap (λ x. end_bytes x ++ drop (at + 6) bs) same) b))
        (λ (t : eqb count k ≡ false).
        subst (λ x. Reason bs n at at x (Tail last at k)) (err_same _ _ (sym (cond-false (eqb count k) rest _ t) ∙ j)) (end_count last at k count t (h ∙ ap (λ x. Ok x) v.1) v.2 b.reached))
        (cases_Bool (eqb count k)))
        (tail_here bs at n size q low h)

    -- the moves from here on; `t` says that the table has room for them
    abbrev Moves : ℕ → Option Arc → ℕ → ℕ → Bool → List ℕ → Type 0
    Moves room last at k t cs = (m : ℕ) × (t ≡ true → m ≤ room) × Done (moves_from m size last cs at k)

    moves_done : (cs : List ℕ) (m : ℕ) (last : Option Arc) (at k : ℕ) → Done (moves_from m size last cs at k) → Done (tail_at size last cs at k)
    moves_done cs zero last at k d =
        let p = next_inv (tail_at size last cs at k) (λ t. onward at t (λ _ _. Err (Room (size + 1 + k) at))) d.0 d.1 in
        (p.0, p.1)
    moves_done cs (suc m) last at k d =
        let p = next_inv (tail_at size last cs at k) (λ t. onward at t (λ a nx. moves_from m size (Some a) cs nx (k + 1))) d.0 d.1 in
        (p.0, p.1)

    -- behind a move that is read the table has room for one less
    moves_less : (cs : List ℕ) (m room : ℕ) (t : Bool) (last : Option Arc) (at k : ℕ) (a : Arc) → tail_at size last cs at k ≡ Ok (Some (a, at + 7)) → (t ≡ true → m ≤ suc room) → Done (moves_from m size last cs at k) → Moves room (Some a) (at + 7) (k + 1) t cs
    moves_less cs zero room t last at k a e l d = err_ok d.0 _ (sym (next_ok (λ o. onward at o (λ _ _. Err (Room (size + 1 + k) at))) e) ∙ d.1)
    moves_less cs (suc m) room t last at k a e l d =
        let z = prepend_inv (a ∷ []) (moves_from m size (Some a) cs (at + 7) (k + 1)) d.0.0 d.0.1 (sym (next_ok (λ o. onward at o (λ x nx. moves_from m size (Some x) cs nx (k + 1))) e) ∙ d.1) in
        (m, (λ q. let w = l q in omega (arith, w)), ((z.0, d.0.1), z.1))

    move_alike : (cs : List ℕ) (last : Option Arc) (at k : ℕ) (a : Arc) → ArcFits size a → above_last last a ≡ true → drop at bs ≡ move_bytes a ++ drop (at + 7) bs → Alike (at + 7) bs cs → tail_at size last cs at k ≡ Ok (Some (a, at + 7))
    move_alike cs last at k a f t h al = tail_move size cs low high last at k a (drop (at + 7) cs) f t (alike_drop bs cs (move_bytes a) at (at + 7) refl al h)

    move_room : (last : Option Arc) (at k : ℕ) (a : Arc) → ArcFits size a → above_last last a ≡ true → drop at bs ≡ move_bytes a ++ drop (at + 7) bs → After last at k → Reasoned at (Room (size + 1 + k) at) (Moves zero last at k)
    move_room last at k a f t h b =
        let n = size + 1 + k in
        let g = after_more last at k a f t h b in
        let e : size + 1 + (k + 1) ≡ n + 1 = omega arith in (
          n,
          at,
          after_good last at k b,
          (
            refl,
            at + 7,
            omega arith,
            g.reached,
            (refl, subst (λ i. Good i (at + 7) bs) e (after_good (Some a) (at + 7) (k + 1) g)),
            λ q cs al c u.
                let none = u.1 c in
                let z : u.0 ≡ zero = omega (arith, none) in
                let x = subst (λ m. Done (moves_from m size last cs at k)) z u.2 in
                err_ok x.0 _ (sym (next_ok (λ o. onward at o (λ _ _. Err (Room n at))) (move_alike cs last at k a f t h al)) ∙ x.1),
          ),
        )

    abbrev MovesWrong : SheetFault → ℕ → Type 0
    MovesWrong f room = (last : Option Arc) (at k : ℕ) → After last at k → moves_from room size last bs at k ≡ Err f → Reasoned at f (Moves room last at k)

    moves_refused : (f g : SheetFault) (room : ℕ) (last : Option Arc) (at k : ℕ) → After last at k → tail_at size last bs at k ≡ Err g → g ≡ f → Reasoned at f (Moves room last at k)
    moves_refused f g room last at k b h e =
        let n = size + 1 + k in
        let r = tail_split g last at k b (record_at (expects.Tail size) bs at n) refl h in
        subst (λ x. Reasoned at x (Moves room last at k)) e
        (n, at, after_good last at k b, lift bs n at at at g (Tail last at k) (Moves room last at k) (omega arith) (λ t cs a u. moves_done cs u.0 last at k u.2) r)

    moves_end : (f : SheetFault) (last : Option Arc) (at k : ℕ) → After last at k → (r : Result (Option (Arc × ℕ)) SheetFault) → tail_at size last bs at k ≡ r → next r (λ t. onward at t (λ _ _. Err (Room (size + 1 + k) at))) ≡ Err f → Reasoned at f (Moves zero last at k)
    moves_end f last at k b (Err g) h m = moves_refused f g zero last at k b h (err_same _ _ m)
    moves_end f last at k b (Ok o) h m =
        let go = λ (t : Option (Arc × ℕ)). onward at t (λ _ _. Err (Room (size + 1 + k) at)) in
        ⊎_elim
        (λ v. subst (λ x. Reasoned at x (Moves zero last at k)) (err_same _ _ (sym (ap go v.1) ∙ m)) (move_room last at k v.0 v.2 v.3 v.4 b))
        (λ v. ok_err _ f (sym (ap go v.0) ∙ m))
        (tail_inv size bs low high last at k o h)

    moves_split : (f : SheetFault) (room : ℕ) → MovesWrong f room → (last : Option Arc) (at k : ℕ) → After last at k → (r : Result (Option (Arc × ℕ)) SheetFault) → tail_at size last bs at k ≡ r → next r (λ t. onward at t (λ a nx. moves_from room size (Some a) bs nx (k + 1))) ≡ Err f → Reasoned at f (Moves (suc room) last at k)
    moves_split f room ih last at k b (Err g) h m = moves_refused f g (suc room) last at k b h (err_same _ _ m)
    moves_split f room ih last at k b (Ok o) h m =
        let go = λ (t : Option (Arc × ℕ)). onward at t (λ a nx. moves_from room size (Some a) bs nx (k + 1)) in
        ⊎_elim
        (λ v.
        let a = v.0 in
        let e = prepend_err (a ∷ []) (moves_from room size (Some a) bs (at + 7) (k + 1)) f (sym (ap go v.1) ∙ m) in
        lift_all at (at + 7) f (Moves room (Some a) (at + 7) (k + 1)) (Moves (suc room) last at k) (omega arith)
        (λ t cs al u. moves_less cs u.0 room t last at k a (move_alike cs last at k a v.2 v.3 v.4 al) u.1 u.2)
        (ih (Some a) (at + 7) (k + 1) (after_more last at k a v.2 v.3 v.4 b) e))
        (λ v. ok_err _ f (sym (ap go v.0) ∙ m))
        (tail_inv size bs low high last at k o h)

    moves_wrong : (f : SheetFault) (room : ℕ) → MovesWrong f room
    moves_wrong f zero last at k b h = moves_end f last at k b (tail_at size last bs at k) refl h
    moves_wrong f (suc room) last at k b h = moves_split f room (moves_wrong f room) last at k b (tail_at size last bs at k) refl h

  -- the whole reading

  -- what the bytes give behind the states, and behind the first record
  abbrev with_moves : List Row → Result (List Arc × ℕ) SheetFault → Result (List Row × List Arc) SheetFault
  with_moves rows r = next r (λ a. Ok (rows, a.0))

  abbrev with_states : ℕ → ℕ → List ℕ → Result (List Row × ℕ) SheetFault → Result (List Row × List Arc) SheetFault
  with_states m size cs r = next r (λ s. with_moves s.0 (moves_from m size None cs s.1 0))

  abbrev body : ℕ → ℕ → List ℕ → ℕ × ℕ → Result (List Row × List Arc) SheetFault
  body n m cs h = cond (leb h.0 n) (with_states m h.0 cs (states_from h.0 cs h.1 1)) (Err (Room 0 0))

  abbrev sized_from : Result (Item × ℕ) RecordFault → Result (ℕ × ℕ) SheetFault
  sized_from r = next (in_sheet r) (λ p. Ok (size_of p.0, p.1))

  -- the bytes are a sheet's; `t` says that it fits the tables
  abbrev Sheets : ℕ → ℕ → Bool → List ℕ → Type 0
  Sheets n m t cs = (rows : ℕ) × (arcs : ℕ) × (t ≡ true → (rows ≤ n) × (arcs ≤ m)) × Done (reading rows arcs cs)

  body_inv : (n m : ℕ) (cs : List ℕ) (size : ℕ) → head_size cs ≡ Ok (size, 5) → Done (reading n m cs) → (size ≤ n) × (s : List Row × ℕ) × (states_from size cs 5 1 ≡ Ok s) × Done (moves_from m size None cs s.1 0)
  body_inv n m cs size e d =
      let c = choose_inv (leb size n) (with_states m size cs (states_from size cs 5 1)) _ d.0 (sym (next_ok (body n m cs) e) ∙ d.1) in
      let s = next_inv (states_from size cs 5 1) (λ s. with_moves s.0 (moves_from m size None cs s.1 0)) d.0 c.1 in
      let y = next_inv (moves_from m size None cs s.0.1 0) (λ a. Ok (s.0.0, a.0)) d.0 s.2 in
      (leb-true size n c.0, s.0, s.1, (y.0, y.1))

  module _ (n m size : ℕ) (low : 1 ≤ size) (high : size ≤ 4096) (first : bs ≡ head_bytes size ++ drop 5 bs) where
    head_alike : (cs : List ℕ) → Alike 5 bs cs → head_size cs ≡ Ok (size, 5)
    head_alike cs a = head_read cs size (drop 5 cs) low high (alike_drop bs cs (head_bytes size) 0 5 refl a first)

    begun : Behind size low high [] size 5 1
    begun =
        let l = inside 0 (head_bytes size) (drop 5 bs) (omega arith) first in
        (omega arith, refl, tt, omega (arith, l), append-nil (head_bytes size) ∙ sym (take_grow 0 5 (head_bytes size) refl first))

    rows_room : leb size n ≡ false → Reasoned 0 (Room 0 0) (Sheets n m)
    rows_room t =
        let l = leb-false size n t in (
          0,
          0,
          good_none,
          (
            refl,
            5,
            omega arith,
            begun.3,
            (refl, behind_good size low high [] size 5 1 begun),
            λ q cs al c u.
                let x = (body_inv u.0 u.1 cs size (head_alike cs al) u.3).0 in
                let y = (u.2 c).0 in
                omega (arith, x, y, l),
          ),
        )

    states_refused : (f g : SheetFault) → states_from size bs 5 1 ≡ Err g → g ≡ f → Reasoned 0 f (Sheets n m)
    states_refused f g h e =
        subst (λ x. Reasoned 0 x (Sheets n m)) e
        (lift_all 0 5 g (Rows size low high size 5 1) (Sheets n m) (omega arith)
        (λ t cs al u. let p = body_inv u.0 u.1 cs size (head_alike cs al) u.3 in (p.1, p.2))
        (states_wrong size low high g size 5 1 [] begun h))

    moves_after : (f : SheetFault) (rows : List Row) (nx : ℕ) → states_from size bs 5 1 ≡ Ok (rows, nx) → (r : Result (List Arc × ℕ) SheetFault) → moves_from m size None bs nx 0 ≡ r → with_moves rows r ≡ Err f → Reasoned 0 f (Sheets n m)
    moves_after f rows nx h (Ok a) e w = ok_err _ f w
    moves_after f rows nx h (Err g) e w =
        let s = states_here bs size 5 1 rows nx h in
        let ss = s.0 in
        let j = flat_map state_bytes ss in
        let there = λ (cs rest : List ℕ) (d : drop 5 cs ≡ j ++ rest). sym (ap (λ k. states_from k cs 5 1) s.1) ∙ states_there cs rest ss 5 1 s.3 d in
        let to : nx ≡ 5 + length j = ap (λ (t : List Row × ℕ). t.1) (ok_same _ _ (sym h ∙ there bs (drop nx bs) s.4)) in
        let l = inside 5 j (drop nx bs) begun.3 s.4 in
        let len = s.1 in
        let after : After size low high None nx 0 = record {
          ss = ss;
          arcs = [];
          sized = s.1;
          counted = refl;
          reached = omega (arith, to, l);
          stands = append-nil (head_bytes size ++ j) ∙ ap (λ x. x ++ j) (sym (append-nil (head_bytes size)) ∙ begun.4) ∙ sym (take_grow 5 nx j to s.4);
          fits = λ more fm rm. (omega (arith, len), omega (arith, len), s.3, subst (λ k. AllByRecursion (ArcFits k) more) (sym len) fm, rm);
        } in
        subst (λ x. Reasoned 0 x (Sheets n m)) (err_same _ _ w)
        (lift_all 0 nx g (Moves size low high m None nx 0) (Sheets n m) (omega arith)
        (λ t cs al u.
        let p = body_inv u.0 u.1 cs size (head_alike cs (alike_less 5 nx bs cs (omega (arith, to)) al)) u.3 in
        let d = alike_drop bs cs j 5 nx to al s.4 in
        let q : p.1.1 ≡ nx = ap (λ (t : List Row × ℕ). t.1) (ok_same _ _ (sym p.2 ∙ there cs (drop nx cs) d)) ∙ sym to in
        (u.1, (λ c. (u.2 c).1), subst (λ x. Done (moves_from u.1 size None cs x 0)) q p.3))
        (moves_wrong size low high g m None nx 0 after e))

    states_after : (f : SheetFault) (r : Result (List Row × ℕ) SheetFault) → states_from size bs 5 1 ≡ r → with_states m size bs r ≡ Err f → Reasoned 0 f (Sheets n m)
    states_after f (Err g) h w = states_refused f g h (err_same _ _ w)
    states_after f (Ok s) h w = moves_after f s.0 s.1 h (moves_from m size None bs s.1 0) refl w

    sheet_after : (f : SheetFault) (b : Bool) → leb size n ≡ b → cond b (with_states m size bs (states_from size bs 5 1)) (Err (Room 0 0)) ≡ Err f → Reasoned 0 f (Sheets n m)
    sheet_after f true h w = states_after f (states_from size bs 5 1) refl w
    sheet_after f false h w = subst (λ x. Reasoned 0 x (Sheets n m)) (err_same _ _ w) (rows_room h)

  sheet_split : (n m : ℕ) (f : SheetFault) (r : Result (Item × ℕ) RecordFault) → record_at expects.Head bs 0 0 ≡ r → next (sized_from r) (body n m bs) ≡ Err f → Reasoned 0 f (Sheets n m)
  sheet_split n m f (Err e) h w =
      subst (λ x. Reasoned 0 x (Sheets n m)) (err_same _ _ w) (
        0,
        0,
        good_none,
        lift bs 0 0 0 0 (Record e) (λ t cs. Done (record_at expects.Head cs 0 0)) (Sheets n m) (omega arith)
            (λ t cs a u.
            let p = next_inv (head_size cs) (body u.0 u.1 cs) u.3.0 u.3.1 in
            let q = next_inv (in_sheet (record_at expects.Head cs 0 0)) (λ p. Ok (size_of p.0, p.1)) p.0 p.1 in
            (q.0, sheet_inv (record_at expects.Head cs 0 0) q.0 q.1))
            (record_wrong bs 0 0 e expects.Head (omega arith) h),
      )
  sheet_split n m f (Ok q) h w =
      let hd = head_here bs 0 0 q h in
      sheet_after n m hd.0 hd.2 hd.3 hd.4 f (leb hd.0 n) refl (sym (ap (λ (x : Item × ℕ). body n m bs (size_of x.0, x.1)) hd.1) ∙ w)

  reading_wrong : (n m : ℕ) (f : SheetFault) → reading n m bs ≡ Err f → Reasoned 0 f (Sheets n m)
  reading_wrong n m f h = sheet_split n m f (record_at expects.Head bs 0 0) refl h

  -- each fault

  starts_alike : (k : ℕ) (s : Sheet) → k ≤ length bs → Starts k bs s → Alike k bs (encode s)
  starts_alike k s l t =
      let e = t.1.1 in
      let n = length-take-le k bs l in
      let far : length (encode s) ≡ length (take k bs) + length t.1.0 = ap length e ∙ length-append (take k bs) t.1.0 in
      (l, omega (arith, far, n), ap (take k) e ∙ take_at (take k bs) t.1.0 k n)

  sheet_there : (n m : ℕ) (s : Sheet) → Fits s → Sheets n m false (encode s)
  sheet_there n m s f = (length s.states, length s.moves, (λ c. let z : ◌≡◌ {A = ℕ} 0 1 = cc in absurd (omega arith)), (_, encoded_read (length s.states) (length s.moves) (encode s) s (f, refl, omega arith, omega arith)))

  good_at : (i j at o : ℕ) → j ≡ i → o ≡ at → Good i at bs → Good j o bs
  good_at i j at o e h g = subst (λ x. Good x o bs) (sym e) (subst (λ x. Good i x bs) (sym h) g)

  no_sheet : (n m k j : ℕ) → k ≡ j → k ≤ length bs → ((t : Bool) (cs : List ℕ) → Alike k bs cs → Unit {0} → Sheets n m t cs → ⊥) → NoSheet j bs
  no_sheet n m k j e l g = subst (λ x. NoSheet x bs) e (l, λ s t. g false (encode s) (starts_alike k s l t) tt (sheet_there n m s t.0))

  too_short : (n m k : ℕ) → Bytes bs → k ≤ length bs → ((t : Bool) (cs : List ℕ) → Alike k bs cs → Bytes bs × (length cs ≤ length bs) → Sheets n m t cs → ⊥) → TooShort k bs
  too_short n m k all l g = (
    l,
    λ s t.
        ⊎_elim
        (λ (p : length bs < length (encode s)). p)
        (λ (p : length (encode s) ≤ length bs). absurd (g false (encode s) (starts_alike k s l t) (all, p) (sheet_there n m s t.0)))
        (cases_lt (length bs) (length (encode s))),
  )

  too_large : (n m k : ℕ) → k ≤ length bs → ((t : Bool) (cs : List ℕ) → Alike k bs cs → t ≡ true → Sheets n m t cs → ⊥) → TooLarge n m k bs
  too_large n m k l g s t =
      ⊎_elim
      (λ (p : n < length s.states). inl p)
      (λ (p : length s.states ≤ n).
      ⊎_elim
      (λ (q : m < length s.moves). inr q)
      (λ (q : length s.moves ≤ m). absurd (g true (encode s) (starts_alike k s l t) refl (n, m, (λ _. (omega arith, omega arith)), (_, encoded_read n m (encode s) s (t.0, refl, p, q)))))
      (cases_lt m (length s.moves)))
      (cases_lt n (length s.states))

  blames : (n m : ℕ) (f : SheetFault) → Bytes bs → Reasoned 0 f (Sheets n m) → Blames n m bs f
  blames n m (Record (Byte b)) all r =
      let q = r.3 in
      (r.1, good_at r.0 b.index r.1 r.1 q.0 refl r.2, q.4.0, q.4.1, subst (λ x. TooShort x bs) q.4.2 (too_short n m q.1 all q.3 q.5))
  blames n m (Record (Mark i o)) all r =
      let q = r.3 in
      (good_at r.0 i r.1 o q.0 q.4.0 r.2, no_sheet n m q.1 (o + 2) q.4.1 q.3 q.5)
  blames n m (Record (Field i o)) all r =
      let q = r.3 in
      let w = q.4.2 in
      (r.1, good_at r.0 i r.1 r.1 q.0 refl r.2, q.4.0, q.4.1, (w.0, w.1, no_sheet n m q.1 (o + w.0) w.2 q.3 q.5))
  blames n m (Order i o) all r =
      let q = r.3 in
      (good_at r.0 i r.1 o q.0 q.4.0 r.2, no_sheet n m q.1 (o + 7) q.4.1 q.3 q.5)
  blames n m (Count i o) all r =
      let q = r.3 in
      (good_at r.0 i r.1 o q.0 q.4.0 r.2, no_sheet n m q.1 (o + 6) q.4.1 q.3 q.5)
  blames n m (Excess i o) all r = r.3.4
  blames n m (Room i o) all r =
      let q = r.3 in
      (good_at r.0 i r.1 o q.0 q.4.0 r.2, (q.1, q.4.1, too_large n m q.1 q.3 q.5))

reading_blamed : (n m : ℕ) (bs : List ℕ) → Bytes bs → (p : Result (List Row × List Arc) SheetFault) → reading n m bs ≡ p → Blamed n m bs (filled n m p).0
reading_blamed n m bs all (Ok p) h = tt
reading_blamed n m bs all (Err f) h = blames bs n m f all (reading_wrong bs n m f h)

pub blamed : (n m : ℕ) (bs : List ℕ) → ((i : ℕ) → get_or bs i 0 < 256) → Blamed n m bs (read_result n m bs).0
blamed n m bs all = reading_blamed n m bs all (reading n m bs) refl
