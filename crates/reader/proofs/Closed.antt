-- The tables that the reader fills are those of the sheet.

use Rattle.std.proofs.Common.{◌≡◌, ℕ, zero, suc, ◌+◌, ◌-◌, ◌<◌, ◌≤◌, true, cond, leb, List, [], ◌∷◌, ◌++◌, map, length, get_or, drop, set, replicate, None, Ok, Err, Result, sym, refl, ap, ◌∙◌, append_assoc, arith}
use Rattle.std.proofs.lemmas.List.{set_at, drop-replicate, length-replicate, ext_get_or, length_push}
use Rattle.std.proofs.lemmas.Bool.{cond-true}
use Rattle.records.specs.declared.SheetFault.{SheetFault}
use Rattle.records.specs.declared.SheetFault.TheVariants.{Room}
use Rattle.records.specs.Records.{next}
use Rattle.sheet.specs.declared.Move.{Move}
use Rattle.sheet.specs.declared.Row.{Row}
use Rattle.format.specs.declared.Arc.{Arc}
use Rattle.format.specs.Format.{State}
use Rattle.format.specs.Tables.{move_of, own, lower, placed, counted}
use Rattle.sheet.specs.Sheets.{zero_row, zero_move}
use Rattle.format.specs.Reading.{head_size, states_from, moves_from, reading, filled, read_result}
use Rattle.format.proofs.Fields.{next_ok}
use Rattle.format.proofs.Whole.{read_encoded, states_here}
use Rattle.format.proofs.Laws.{exactly, read_inside, unique, writes_back}
use Rattle.format.proofs.Games.{reads_game}
use Rattle.format.proofs.Blame.{blamed}
use Rattle.format.proofs.Tables.{length_placed, length_counted}
use Rattle.reader.specs.Stored.{Tables, storing, stored, numbered, count_one, tables_after, ended}
use Rattle.reader.proofs.Counts.{counts, length_storing}

-- the moves come one after the other
moves_stored : (rows : List Row) (pre : List Move) (k room : ℕ) (arcs : List Arc) → length pre ≡ k → length arcs ≤ room → ((storing k rows (pre ++ replicate room zero_move) arcs).0 ≡ k + length arcs) × ((storing k rows (pre ++ replicate room zero_move) arcs).2 ≡ pre ++ (map move_of arcs ++ replicate (room - length arcs) zero_move))
moves_stored rows pre k room [] l h = let z : room ≡ room - 0 = omega arith in let y : k ≡ k + 0 = omega arith in (y, ap (λ n. pre ++ replicate n zero_move) z)
moves_stored rows pre k zero (a ∷ as') l h = absurd (omega arith)
moves_stored rows pre k (suc room) (a ∷ as') l h =
    let m = move_of a in
    let e : set (pre ++ zero_move ∷ replicate room zero_move) k m ≡ (pre ++ m ∷ []) ++ replicate room zero_move = set_at pre zero_move (replicate room zero_move) m k l ∙ sym (append_assoc pre (m ∷ []) (replicate room zero_move)) in
    let i = moves_stored (count_one rows a.source) (pre ++ m ∷ []) (k + 1) room as' (length_push pre m ∙ omega (arith, l)) (omega arith) in
    let z : suc room - length (a ∷ as') ≡ room - length as' = omega arith in (
      ap (λ x. (storing (k + 1) (count_one rows a.source) x as').0) e ∙ i.0 ∙ omega arith,
      ap (λ x. (storing (k + 1) (count_one rows a.source) x as').2) e ∙ i.1 ∙ append_assoc pre (m ∷ []) _ ∙ ap (λ n. pre ++ (m ∷ (map move_of as' ++ replicate n zero_move))) (sym z),
    )

getD_counted : (j : ℕ) (arcs : List Arc) (rows : List Row) (i : ℕ) → i < length rows → get_or (counted j arcs rows) i zero_row ≡ record { flags = (get_or rows i zero_row).flags; place = (get_or rows i zero_row).place; len = (get_or rows i zero_row).len; first = lower (j + i) arcs; count = own (j + i) arcs }
getD_counted j arcs [] i h = absurd (omega arith)
getD_counted j arcs (r ∷ rs) zero h = grind arith
getD_counted j arcs (r ∷ rs) (suc i) h = let ih = getD_counted (j + 1) arcs rs i (omega arith) in grind arith

uncounted : (at : ℕ) (ss : List State) (i : ℕ) → (get_or (placed at ss) i zero_row).count ≡ 0
uncounted at [] i = refl
uncounted at (s ∷ ss) zero = refl
uncounted at (s ∷ ss) (suc i) = uncounted (at + 4 + length s.name) ss i

length_numbered : (f : ℕ) (rows : List Row) → length (numbered f rows) ≡ length rows
length_numbered f [] = refl
length_numbered f (r ∷ rs) = ap suc (length_numbered (f + r.count) rs)

-- a row's first move counts the moves with a lower source, and its number those with its own
numbered_counted : (k : ℕ) (rows : List Row) (ms : List Move) (arcs : List Arc) → ((i : ℕ) → (get_or rows i zero_row).count ≡ 0) → numbered 0 (storing k rows ms arcs).1 ≡ counted 0 arcs rows
numbered_counted k rows ms arcs none =
    let n = length_numbered 0 (storing k rows ms arcs).1 ∙ length_storing k rows ms arcs in
    ext_get_or zero_row (numbered 0 (storing k rows ms arcs).1) (counted 0 arcs rows) (n ∙ sym (length_counted 0 arcs rows))
    (λ i h.
    let lt : i < length rows = omega (arith, h, n) in
    let z : 0 + i ≡ i = omega arith in
    counts k rows ms arcs none i lt ∙ sym (rw z at (getD_counted 0 arcs rows i lt)))

module _ (n m : ℕ) (bs : List ℕ) where
  -- the tables that the reader leaves
  left : ℕ → List Row → List Arc → Tables
  left size st arcs =
      let s = storing 0 st (replicate m zero_move) arcs in
      (record { states = size; moves = s.0 }, numbered 0 s.1 ++ drop size (replicate n zero_row), s.2)

  whole : (size : ℕ) (st : List Row) (arcs : List Arc) → length st ≡ size → ((i : ℕ) → (get_or st i zero_row).count ≡ 0) → length arcs ≤ m → ended n m (Ok (left size st arcs)) ≡ filled n m (Ok (st, arcs))
  unfolding left
  whole size st arcs l none h =
      let mv = moves_stored st [] 0 m arcs refl h in
      let e = numbered_counted 0 st (replicate m zero_move) arcs none in
      grind (arith, mv, e, drop-replicate)

  read_left : (h : ℕ × ℕ) (s : List Row × ℕ) (a : List Arc × ℕ) → head_size bs ≡ Ok h → leb h.0 n ≡ true → states_from h.0 bs h.1 1 ≡ Ok s → moves_from m h.0 None bs s.1 0 ≡ Ok a → ended n m (Ok (left h.0 s.0 a.0)) ≡ filled n m (Ok (s.0, a.0))
  read_left h s a eh et es em =
      let rd : reading n m bs ≡ Ok (s.0, a.0) = next_ok _ eh ∙ cond-true (leb h.0 n) _ _ et ∙ next_ok (λ q. next (moves_from m h.0 None bs q.1 0) (λ y. Ok (q.0, y.0))) es ∙ next_ok (λ y. Ok (s.0, y.0)) em in
      let t = read_encoded n m bs s.0 a.0 rd in
      let ss = states_here bs h.0 h.1 1 s.0 s.1 es in
      let l : length s.0 ≡ h.0 = ap length ss.2 ∙ length_placed h.1 ss.0 ∙ ss.1 in
      let none : (i : ℕ) → (get_or s.0 i zero_row).count ≡ 0 = λ i. ap (λ x. (get_or x i zero_row).count) t.2 ∙ uncounted 5 t.0.states i in
      let few : length a.0 ≤ m = (let q = t.1.3 in omega (arith, q, ap length t.3)) in
      whole h.0 s.0 a.0 l none few

  -- a refusal of any part is that of the whole, and what all parts read fills the tables
  parted : (n' m' : ℕ) (r : Result (ℕ × ℕ) SheetFault) (ss : ℕ × ℕ → Result (List Row × ℕ) SheetFault) (as' : ℕ → ℕ × ℕ → List Row × ℕ → Result (List Arc × ℕ) SheetFault) → n' ≡ n → m' ≡ m → ((h : ℕ × ℕ) (s : List Row × ℕ) (a : List Arc × ℕ) → r ≡ Ok h → leb h.0 n ≡ true → ss h ≡ Ok s → as' m h s ≡ Ok a → ended n m (Ok (left h.0 s.0 a.0)) ≡ filled n m (Ok (s.0, a.0))) → ended n m (next r (λ h. cond (leb h.0 n') (next (ss h) (λ s. next (stored 0 s.0 (replicate m zero_move) (as' m' h s)) (λ t. Ok (record { states = h.0; moves = t.0 }, numbered 0 t.1 ++ drop h.0 (replicate n zero_row), t.2)))) (Err (Room 0 0)))) ≡ filled n m (next r (λ h. cond (leb h.0 n) (next (ss h) (λ s. next (as' m h s) (λ a. Ok (s.0, a.0)))) (Err (Room 0 0))))
  unfolding left
  parted n' m' r ss as' en em k = grind (arith, k)

  pub closed : ended n m (tables_after (replicate n zero_row) (replicate m zero_move) bs) ≡ read_result n m bs
  closed = parted (length (replicate n zero_row)) (length (replicate m zero_move)) (head_size bs) (λ h. states_from h.0 bs h.1 1) (λ room h s. moves_from room h.0 None bs s.1 0) (length-replicate n zero_row) (length-replicate m zero_move) read_left

-- what a reading promises by its one equality
pub ruleset read_laws = (exactly, read_inside, reads_game, blamed, unique, writes_back)
