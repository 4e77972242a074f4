-- Reading and writing undo one another, and no two sheets have the same bytes.

use Rattle.std.proofs.Common.{◌≡◌, ℕ, ◌+◌, ◌-◌, ◌≤◌, Bool, true, false, cond, ◌&&◌, leb, List, ◌++◌, map, length, take, drop, replicate, IfOk, Some, None, Ok, Err, Option, Result, sym, refl, ap, ◌∙◌, subst, arith}
use Rattle.std.proofs.lemmas.List.{length-map, take_at}
use Rattle.std.proofs.lemmas.Bool.{le-leb, and_from, cond-true, leb-true, and_parts}
use Rattle.records.specs.declared.SheetFault.{SheetFault}
use Rattle.sheet.specs.declared.Row.{Row}
use Rattle.sheet.specs.declared.Move.{Move}
use Rattle.format.specs.declared.Arc.{Arc}
use Rattle.format.specs.declared.Counts.{Counts}
use Rattle.format.specs.declared.WriteFault.TheVariants.{Size, Room}
use Rattle.format.specs.Format.{Sheet, Fits, encode}
use Rattle.format.specs.Tables.{rows_of, moves_of, placed, counted, sheet_in, state_in, relocated, move_of}
use Rattle.sheet.specs.Sheets.{zero_row, zero_move}
use Rattle.format.specs.Reading.{reading, filled, read_result}
use Rattle.format.specs.Writing.{first_unsound, write_result, unless, fitted, over}
use Rattle.format.specs.Laws.{Encodes, loaded, ReadExactly, Unique, WritesBack, ReadsBack, Restores}
use Rattle.format.proofs.Fields.{ok_same}
use Rattle.format.proofs.Whole.{encoded_read, read_encoded}
use Rattle.format.proofs.Tables.{sheet_back, tables_back, length_rows, length_placed}

filled_loaded : (n m : ℕ) (s : Sheet) → filled n m (Ok (placed 5 s.states, s.moves)) ≡ loaded s n m
filled_loaded n m s =
    let l = length_placed 5 s.states in
    ap (λ k. (Ok (record { states = k; moves = length s.moves }), rows_of s ++ replicate (n - k) zero_row, moves_of s ++ replicate (m - length s.moves) zero_move)) l

encoded_loaded : (n m : ℕ) (bs : List ℕ) (s : Sheet) → Encodes n m bs s → read_result n m bs ≡ loaded s n m
encoded_loaded n m bs s t = ap (filled n m) (encoded_read n m bs s t) ∙ filled_loaded n m s

read_encodes : (n m : ℕ) (bs : List ℕ) (p : Result (List Row × List Arc) SheetFault) → reading n m bs ≡ p → IfOk (filled n m p).0 (λ _. (s : Sheet) × Encodes n m bs s × (filled n m p ≡ loaded s n m))
read_encodes n m bs (Ok p) h =
    let r = read_encoded n m bs p.0 p.1 h in
    (r.0, r.1, ap (filled n m) (sym h) ∙ encoded_loaded n m bs r.0 r.1)
read_encodes n m bs (Err e) h = tt

pub exactly : (n m : ℕ) (bs : List ℕ) → ReadExactly n m bs (read_result n m bs)
exactly n m bs = (read_encodes n m bs (reading n m bs) refl, encoded_loaded n m bs)

pub read_inside : (n m : ℕ) (bs : List ℕ) (r : Result Counts SheetFault) (rows : List Row) (ms : List Move) → ReadExactly n m bs (r, rows, ms) → IfOk r (λ c. (c.states ≤ n) × (c.moves ≤ m))
read_inside n m bs (Ok c) rows ms e =
    let p = e.0 in
    let q : c ≡ record { states = length p.0.states; moves = length p.0.moves } = ok_same _ _ (ap (λ (t : Result Counts SheetFault × List Row × List Move). t.0) p.2) in
    subst (λ (x : Counts). (x.states ≤ n) × (x.moves ≤ m)) (sym q) (p.1.2, p.1.3)
read_inside n m bs (Err f) rows ms e = tt

-- both sheets are what the bytes give, once the tables are long enough
pub unique : (bs : List ℕ) → Unique bs
unique bs s t f g e h =
    let n = length s.states + length t.states in
    let m = length s.moves + length t.moves in
    let a = encoded_read n m bs s (f, e, omega arith, omega arith) in
    let b = encoded_read n m bs t (g, h, omega arith, omega arith) in
    let q : ◌≡◌ {A = List Row × List Arc} (placed 5 s.states, s.moves) (placed 5 t.states, t.moves) = ok_same _ _ (sym a ∙ b) in
    sym (sheet_back s f).0
    ∙ ap (λ (x : List ℕ). sheet_in x (rows_of s) (moves_of s)) (e ∙ sym h)
    ∙ ap (λ (p : List Row × List Arc). sheet_in (encode t) (counted 0 p.1 p.0) (map move_of p.1)) q
    ∙ (sheet_back t g).0

-- what the writer makes of sound tables
pub written_sound : (rows : List Row) (ms : List Move) (names out : List ℕ) → 1 ≤ length rows → length rows ≤ 4096 → first_unsound 0 0 (length rows) names ms rows ≡ None → write_result rows ms names out ≡ fitted (encode (sheet_in names rows ms)) out
written_sound rows ms names out low high good =
    cond-true (leb 1 (length rows) && leb (length rows) 4096) _ _ (and_from _ _ (le-leb 1 (length rows) low) (le-leb (length rows) 4096 high))
    ∙ ap (λ o. unless o (encode (sheet_in names rows ms)) out) good

writes_sheet_back : (bs : List ℕ) (s : Sheet) (out : List ℕ) → Fits s → encode s ≡ bs → length bs ≤ length out → write_result (rows_of s) (moves_of s) bs out ≡ (Ok (length bs), over bs out)
writes_sheet_back bs s out f e l =
    let b = sheet_back s f in
    let n = length_rows s in
    let low : 1 ≤ length (rows_of s) = (let q = f.0 in omega (arith, q, n)) in
    let high : length (rows_of s) ≤ 4096 = (let q = f.1 in omega (arith, q, n)) in
    let good : first_unsound 0 0 (length (rows_of s)) bs (moves_of s) (rows_of s) ≡ None = ap (λ x. first_unsound 0 0 (length (rows_of s)) x (moves_of s) (rows_of s)) (sym e) ∙ b.1 in
    written_sound (rows_of s) (moves_of s) bs out low high good
    ∙ ap (λ x. fitted (encode (sheet_in x (rows_of s) (moves_of s))) out) (sym e)
    ∙ ap (λ x. fitted (encode x) out) b.0
    ∙ ap (λ x. fitted x out) e
    ∙ cond-true (leb (length bs) (length out)) _ _ (le-leb (length bs) (length out) l)

writes_loaded_back : (n m : ℕ) (bs : List ℕ) (s : Sheet) → Encodes n m bs s → WritesBack bs (loaded s n m)
writes_loaded_back n m bs s t out l =
    let a : take (length s.states) (rows_of s ++ replicate (n - length s.states) zero_row) ≡ rows_of s = take_at (rows_of s) _ _ (length_rows s) in
    let b : take (length s.moves) (moves_of s ++ replicate (m - length s.moves) zero_move) ≡ moves_of s = take_at (moves_of s) _ _ (length-map s.moves move_of) in
    ap (λ x. write_result x (take (length s.moves) (moves_of s ++ replicate (m - length s.moves) zero_move)) bs out) a
    ∙ ap (λ x. write_result (rows_of s) x bs out) b
    ∙ writes_sheet_back bs s out t.0 t.1 l

writes_filled_back : (n m : ℕ) (bs : List ℕ) (p : Result (List Row × List Arc) SheetFault) → reading n m bs ≡ p → WritesBack bs (filled n m p)
writes_filled_back n m bs (Ok p) h =
    let r = read_encodes n m bs (Ok p) h in
    subst (λ (t : Result Counts SheetFault × List Row × List Move). WritesBack bs t) (sym r.2) (writes_loaded_back n m bs r.0 r.1)
writes_filled_back n m bs (Err e) h = tt

pub writes_back : (n m : ℕ) (bs : List ℕ) → WritesBack bs (read_result n m bs)
writes_back n m bs = writes_filled_back n m bs (reading n m bs) refl

-- reading what was written

pub reads_back : (names : List ℕ) (rows : List Row) (ms : List Move) → 1 ≤ length rows → length rows ≤ 4096 → first_unsound 0 0 (length rows) names ms rows ≡ None → ReadsBack rows ms names (encode (sheet_in names rows ms))
reads_back names rows ms low high good =
    let s = sheet_in names rows ms in
    let t = tables_back names rows ms low high good in
    let b = sheet_back s t.0 in
    let nr : length s.states ≡ length rows = length-map rows (state_in names) in
    let nm : length s.moves ≡ length ms = sym (length-map s.moves move_of) ∙ ap length t.2 in (
      λ n m h k.
          encoded_loaded n m (encode s) s (t.0, refl, omega (arith, nr, h), omega (arith, nm, k))
          ∙ ap (λ i. (Ok (record { states = i; moves = length s.moves }), rows_of s ++ replicate (n - i) zero_row, moves_of s ++ replicate (m - length s.moves) zero_move)) nr
          ∙ ap (λ i. (Ok (record { states = length rows; moves = i }), rows_of s ++ replicate (n - length rows) zero_row, moves_of s ++ replicate (m - i) zero_move)) nm
          ∙ ap (λ i. (Ok (record { states = length rows; moves = length ms }), i ++ replicate (n - length rows) zero_row, moves_of s ++ replicate (m - length ms) zero_move)) t.1
          ∙ ap (λ i. (Ok (record { states = length rows; moves = length ms }), relocated 5 rows ++ replicate (n - length rows) zero_row, i ++ replicate (m - length ms) zero_move)) t.2,
      ap (map (state_in (encode s))) (sym t.1) ∙ ap (λ (x : Sheet). x.states) b.0,
    )

fitted_restores : (rows : List Row) (ms : List Move) (names bs out : List ℕ) (b : Bool) → b ≡ leb (length bs) (length out) → ReadsBack rows ms names bs → Restores rows ms names (cond b (Ok (length bs), over bs out) (Err Room, out))
fitted_restores rows ms names bs out true h r = subst (λ x. ReadsBack rows ms names x) (sym (take_at bs (drop (length bs) out) (length bs) refl)) r
fitted_restores rows ms names bs out false h r = tt

unless_restores : (rows : List Row) (ms : List Move) (names out : List ℕ) → 1 ≤ length rows → length rows ≤ 4096 → (o : Option ℕ) → first_unsound 0 0 (length rows) names ms rows ≡ o → Restores rows ms names (unless o (encode (sheet_in names rows ms)) out)
unless_restores rows ms names out low high None h = fitted_restores rows ms names (encode (sheet_in names rows ms)) out _ refl (reads_back names rows ms low high h)
unless_restores rows ms names out low high (Some i) h = tt

sized_restores : (rows : List Row) (ms : List Move) (names out : List ℕ) (b : Bool) → b ≡ (leb 1 (length rows) && leb (length rows) 4096) → Restores rows ms names (cond b (unless (first_unsound 0 0 (length rows) names ms rows) (encode (sheet_in names rows ms)) out) (Err Size, out))
sized_restores rows ms names out true h =
    let p = and_parts (leb 1 (length rows)) (leb (length rows) 4096) (sym h) in
    unless_restores rows ms names out (leb-true _ _ p.0) (leb-true _ _ p.1) (first_unsound 0 0 (length rows) names ms rows) refl
sized_restores rows ms names out false h = tt

pub restores : (rows : List Row) (ms : List Move) (names out : List ℕ) → Restores rows ms names (write_result rows ms names out)
restores rows ms names out = sized_restores rows ms names out _ refl
