-- Tables that a reading gives, row by row, and how long their sheet is.

use Rattle.std.proofs.Common.{◌≡◌, ℕ, zero, suc, ◌+◌, ◌-◌, ◌*◌, ◌<◌, ◌≤◌, List, [], ◌∷◌, ◌++◌, map, length, get_or, take, drop, None, sum_by, sym, refl, ap, ◌∙◌, subst, append_assoc, arith, length-append}
use Rattle.std.specs.List.{flat_map, AllByRecursion}
use Rattle.std.proofs.lemmas.Grind.{flat_map-append}
use Rattle.std.proofs.lemmas.List.Sums.{sum_by-cons}
use Rattle.std.proofs.lemmas.List.Folds.{flat_map-map}
use Rattle.std.proofs.lemmas.List.{length-map, drop-drop, take_more, take-append-drop, length-take-le, append-nil}
use borrow.Rule.Slice.PartMut.{put_mid}
use Rattle.sheet.specs.declared.Row.{Row}
use Rattle.sheet.specs.declared.Move.{Move}
use Rattle.sheet.specs.Sheets.{zero_row}
use Rattle.format.specs.declared.Arc.{Arc}
use Rattle.format.specs.Format.{head_bytes, state_bytes, move_bytes, end_bytes, encode}
use Rattle.format.specs.Tables.{state_in, arc_of, arcs_of, move_of}
use Rattle.format.specs.Writing.{row_sound, first_unsound, over}
use Rattle.format.specs.Judgement.{counts_of}
use Rattle.format.proofs.Whole.{few}
use Rattle.format.proofs.Tables as tables
use Rattle.format.proofs.Tables.{passed, sound_row, name_length, tables_back}
use Rattle.writer.proofs.Over.{Filled, room, more}
use Rattle.writer.specs.declared.Sound.{Sound}
use Rattle.writer.specs.Parts.{rows_bytes, moves_bytes, Named, name_len}
use Rattle.writer.specs.Judged.{sheet_of, states_bytes, arcs_bytes}

counts_of-cons : (r : Row) (rs : List Row) → counts_of (r ∷ rs) ≡ r.count + counts_of rs
counts_of-cons r rs = sum_by-cons (λ (x : Row). x.count) r rs

-- each row is sound behind the rows before it
pub sound_at : (size i first k : ℕ) (names : List ℕ) (ms : List Move) (rows : List Row) → first_unsound i first size names ms rows ≡ None → k < length rows → tables.Sound size names ms (first + counts_of (take k rows)) (get_or rows k zero_row)
sound_at size i first k names ms [] h lt = absurd (omega (arith, lt))
sound_at size i first zero names ms (r ∷ rs) h lt =
    let p = passed (row_sound size names ms first r) (first_unsound (i + 1) (first + r.count) size names ms rs) i h in
    let e : first ≡ first + 0 = omega arith in
    subst (λ n. tables.Sound size names ms n r) e (sound_row size names ms first r p.0)
sound_at size i first (suc k) names ms (r ∷ rs) h lt =
    let p = passed (row_sound size names ms first r) (first_unsound (i + 1) (first + r.count) size names ms rs) i h in
    let e : first + r.count + counts_of (take k rs) ≡ first + counts_of (r ∷ take k rs) = omega (arith, counts_of-cons r (take k rs)) in
    subst (λ n. tables.Sound size names ms n (get_or rs k zero_row)) e (sound_at size (i + 1) (first + r.count) k names ms rs p.1 (omega (arith, lt)))

-- the name of each sound row fits
pub named : (size i first : ℕ) (names : List ℕ) (ms : List Move) (rows : List Row) → first_unsound i first size names ms rows ≡ None → AllByRecursion (Named names) rows
named size i first names ms [] h = tt
named size i first names ms (r ∷ rs) h =
    let p = passed (row_sound size names ms first r) (first_unsound (i + 1) (first + r.count) size names ms rs) i h in
    let s = sound_row size names ms first r p.0 in
    ((s.short, s.inside), named size (i + 1) (first + r.count) names ms rs p.1)

-- and its record takes 20 bytes at most
pub rows_length : (names : List ℕ) (rows : List Row) → AllByRecursion (Named names) rows → length (rows_bytes names rows) ≤ 20 * length rows
rows_length names [] h = omega arith
rows_length names (r ∷ rs) h =
    let i = rows_length names rs h.1 in
    let n = name_length names r h.0.1 in
    let l = h.0.0 in
    omega (arith, i, n, l, length-append (state_bytes (state_in names r)) (rows_bytes names rs))

arcs_of-append : (i : ℕ) (xs ys : List Row) (ms : List Move) → arcs_of i (xs ++ ys) ms ≡ arcs_of i xs ms ++ arcs_of (i + length xs) ys (drop (counts_of xs) ms)
arcs_of-append i [] ys ms = let e : i ≡ i + 0 = omega arith in ap (λ k. arcs_of k ys ms) e
arcs_of-append i (x ∷ xs) ys ms =
    let own = map (arc_of i) (take x.count ms) in
    let later = drop x.count ms in
    let e : i + 1 + length xs ≡ i + length (x ∷ xs) = omega arith in
    ap (λ l. own ++ l) (arcs_of-append (i + 1) xs ys later)
    ∙ sym (append_assoc own (arcs_of (i + 1) xs later) (arcs_of (i + 1 + length xs) ys (drop (counts_of xs) later)))
    ∙ ap (λ k. (own ++ arcs_of (i + 1) xs later) ++ arcs_of k ys (drop (counts_of xs) later)) e
    ∙ ap (λ l. (own ++ arcs_of (i + 1) xs later) ++ arcs_of (i + length (x ∷ xs)) ys l) (drop-drop (counts_of xs) x.count ms ∙ ap (λ k. drop k ms) (sym (counts_of-cons x xs)))

module _ (rows : List Row) (ms : List Move) where
  -- the records of the moves of the rows before `i`
  abbrev pub before : ℕ → List ℕ
  before i = flat_map move_bytes (arcs_of 0 (take i rows) ms)

  -- the moves of the row `i`
  abbrev pub own_moves : ℕ → List Move
  own_moves i = take (get_or rows i zero_row).count (drop (counts_of (take i rows)) ms)

  pub before_more : (i : ℕ) → i < length rows → before (i + 1) ≡ before i ++ moves_bytes i (own_moves i)
  before_more i lt =
      let r = get_or rows i zero_row in
      let n : 0 + length (take i rows) ≡ i = omega (arith, length-take-le i rows (omega (arith, lt))) in
      ap (λ l. flat_map move_bytes (arcs_of 0 l ms)) (take_more rows i zero_row lt)
      ∙ ap (flat_map move_bytes) (arcs_of-append 0 (take i rows) (r ∷ []) ms ∙ ap (λ k. arcs_of 0 (take i rows) ms ++ (map (arc_of k) (own_moves i) ++ [])) n ∙ ap (λ l. arcs_of 0 (take i rows) ms ++ l) (append-nil (map (arc_of i) (own_moves i))))
      ∙ flat_map-append move_bytes (arcs_of 0 (take i rows) ms) (map (arc_of i) (own_moves i))
      ∙ ap (λ l. before i ++ l) (flat_map-map move_bytes (arc_of i) (own_moves i))

  pub before_within : (i : ℕ) → length (before i) ≤ length (flat_map move_bytes (arcs_of 0 rows ms))
  before_within i =
      let later = arcs_of (0 + length (take i rows)) (drop i rows) (drop (counts_of (take i rows)) ms) in
      let e = ap (λ l. length (flat_map move_bytes (arcs_of 0 l ms))) (sym (take-append-drop i rows)) ∙ ap (λ l. length (flat_map move_bytes l)) (arcs_of-append 0 (take i rows) (drop i rows) ms) ∙ ap length (flat_map-append move_bytes (arcs_of 0 (take i rows) ms) later) ∙ length-append (before i) (flat_map move_bytes later) in
      omega (arith, e)

arcs_length : (arcs : List Arc) → length (flat_map move_bytes arcs) ≡ 7 * length arcs
arcs_length [] = refl
arcs_length (a ∷ as') = omega (arith, length-append (move_bytes a) (flat_map move_bytes as'), arcs_length as')

-- tables that a reading gives
module _ (s : Sound) where
  abbrev rows : List Row
  rows = s.tables.rows.now

  abbrev ms : List Move
  ms = s.tables.moves.now

  abbrev names : List ℕ
  names = s.tables.names.now

  -- their sheet's records of states
  abbrev pub states : List ℕ
  states = states_bytes s.tables

  -- and of moves
  abbrev pub arcs : List ℕ
  arcs = arcs_bytes s.tables

  abbrev pub start : List ℕ
  start = head_bytes (length rows)

  abbrev pub stop : List ℕ
  stop = end_bytes (length ms)

  pub arcs_count : length (arcs_of 0 rows ms) ≡ length ms
  arcs_count = let t = tables_back names rows ms s.some s.few s.good in sym (length-map (arcs_of 0 rows ms) move_of) ∙ ap length t.2

  pub few_moves : length ms ≤ 262144
  few_moves =
      let t = tables_back names rows ms s.some s.few s.good in
      let f = few (length (map (state_in names) rows)) (arcs_of 0 rows ms) t.0.3 t.0.4 in
      let n = length-map rows (state_in names) in
      omega (arith, f, n, arcs_count)

  -- the name of the row `i`
  pub name_fits : (i : ℕ) → i < length rows → Named names (get_or rows i zero_row)
  name_fits i lt = let q = sound_at (length rows) 0 0 i names ms rows s.good lt in (q.short, q.inside)

  -- the moves of the row `i`, as it names them
  pub own_row : (i : ℕ) → i < length rows → let r : Row = get_or rows i zero_row in (r.first + r.count ≤ length ms) × (before rows ms i ++ moves_bytes i (take ((r.first + r.count) - r.first) (drop r.first ms)) ≡ before rows ms (i + 1))
  own_row i lt =
      let r = get_or rows i zero_row in
      let q = sound_at (length rows) 0 0 i names ms rows s.good lt in
      let b : r.first ≡ counts_of (take i rows) = let f = q.begins in omega (arith, f) in
      let n : (r.first + r.count) - r.first ≡ r.count = omega arith in
      let e = ap (λ k. take k (drop r.first ms)) n ∙ ap (λ k. take r.count (drop k ms)) b in
      let w = q.reaches in
      (omega (arith, b, w), ap (λ l. before rows ms i ++ moves_bytes i l) e ∙ sym (before_more rows ms i lt))

  names_told : (i first size : ℕ) (rs : List Row) → first_unsound i first size names ms rs ≡ None → (length (rows_bytes names rs) ≡ 4 * length rs + sum_by name_len rs) × (sum_by name_len rs ≤ 16 * length rs)
  names_told i first size [] h = (refl, omega arith)
  names_told i first size (r ∷ rs) h =
      let p = passed (row_sound size names ms first r) (first_unsound (i + 1) (first + r.count) size names ms rs) i h in
      let q = sound_row size names ms first r p.0 in
      let short = q.short in
      let n = name_length names r q.inside in
      let ih = names_told (i + 1) (first + r.count) size rs p.1 in
      let c = sum_by-cons name_len r rs in (
        omega (arith, ih.0, n, c, length-append (state_bytes (state_in names r)) (rows_bytes names rs)),
        omega (arith, ih.1, short, c),
      )

  pub few_names : sum_by name_len rows ≤ 65536
  few_names = let n = (names_told 0 0 (length rows) rows s.good).1 in let few = s.few in omega (arith, n, few)

  pub encode_length : length (encode (sheet_of s.tables)) ≡ 11 + 4 * length rows + sum_by name_len rows + 7 * length ms
  encode_length =
      let w = flat_map state_bytes (map (state_in names) rows) in
      let e = end_bytes (length (arcs_of 0 rows ms)) in
      let n = ap length (flat_map-map state_bytes (state_in names) rows) in
      omega (arith, length-append w (arcs ++ e), length-append arcs e, arcs_length (arcs_of 0 rows ms), arcs_count, n, (names_told 0 0 (length rows) rows s.good).0)

  pub encode_is : ((start ++ states) ++ arcs) ++ stop ≡ encode (sheet_of s.tables)
  encode_is =
      append_assoc (start ++ states) arcs stop
      ∙ append_assoc start states (arcs ++ stop)
      ∙ ap (λ k. start ++ (states ++ (arcs ++ end_bytes k))) (sym arcs_count)
      ∙ ap (λ k. head_bytes k ++ (states ++ (arcs ++ end_bytes (length (arcs_of 0 rows ms))))) (sym (length-map rows (state_in names)))
      ∙ ap (λ l. head_bytes (length (map (state_in names) rows)) ++ (l ++ (arcs ++ end_bytes (length (arcs_of 0 rows ms))))) (sym (flat_map-map state_bytes (state_in names) rows))

  -- an output that has room for the sheet has room for each of its parts
  module _ (out : List ℕ) (fits : length (encode (sheet_of s.tables)) ≤ length out) where
    pub stop_fits : length (((start ++ states) ++ arcs) ++ stop) ≤ length out
    stop_fits = omega (arith, fits, ap length encode_is)

    pub arcs_fit : length ((start ++ states) ++ arcs) ≤ length out
    arcs_fit = omega (arith, stop_fits, length-append ((start ++ states) ++ arcs) stop)

    pub states_fit : length (start ++ states) ≤ length out
    states_fit = omega (arith, arcs_fit, length-append (start ++ states) arcs)

    -- the head is written first
    module _ {at : ℕ} {now : List ℕ} (head : at ≡ length start) (begun : now ≡ over start out) where
      started : Filled start at out now
      started = record { counted = head; written = begun }

      pub states_room : length states ≤ length (take (length now - at) (drop at now))
      states_room = room start states out now at started states_fit

      -- the states behind it
      module _ {n : ℕ} {last : List ℕ} (told : n ≡ length states) (behind : last ≡ over states (take (length now - at) (drop at now))) where
        abbrev at_moves : ℕ
        at_moves = at + n

        abbrev told_out : List ℕ
        told_out = put_mid at (length now - at) now last

        stated : Filled (start ++ states) at_moves out told_out
        stated = more start states (start ++ states) out now last at n started refl states_fit told behind

        pub arcs_room : length arcs ≤ length (take (length told_out - at_moves) (drop at_moves told_out))
        arcs_room = room (start ++ states) arcs out told_out at_moves stated arcs_fit

        -- the moves behind them
        module _ {n' : ℕ} {last' : List ℕ} (told' : n' ≡ length arcs) (behind' : last' ≡ over arcs (take (length told_out - at_moves) (drop at_moves told_out))) where
          abbrev at_end : ℕ
          at_end = at_moves + n'

          abbrev moved_out : List ℕ
          moved_out = put_mid at_moves (length told_out - at_moves) told_out last'

          moved : Filled ((start ++ states) ++ arcs) at_end out moved_out
          moved = more (start ++ states) arcs ((start ++ states) ++ arcs) out told_out last' at_moves n' stated refl arcs_fit told' behind'

          pub stop_room : length stop ≤ length (take (length moved_out - at_end) (drop at_end moved_out))
          stop_room = room ((start ++ states) ++ arcs) stop out moved_out at_end moved stop_fits

          -- and the end
          pub whole : {k : ℕ} {end : List ℕ} → k ≡ length stop → end ≡ over stop (take (length moved_out - at_end) (drop at_end moved_out)) → put_mid at_end (length moved_out - at_end) moved_out end ≡ over (encode (sheet_of s.tables)) out
          whole {k} {end} ended closed = (more ((start ++ states) ++ arcs) stop (((start ++ states) ++ arcs) ++ stop) out moved_out end at_end k moved refl stop_fits ended closed).written ∙ ap (λ w. over w out) encode_is
