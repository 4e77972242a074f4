-- A sheet and its tables stand for one another.

use Rattle.std.proofs.Common.{◌≡◌, ℕ, suc, ◌+◌, ◌-◌, ◌<◌, ◌≤◌, Bool, true, false, cond, eqb, leb, List, [], ◌∷◌, ◌++◌, map, length, take, drop, Some, None, Option, sym, refl, ap, ◌∙◌, subst, append_assoc, arith, length-append, length-drop}
use Rattle.std.specs.List.{flat_map, AllByRecursion}
use Rattle.std.proofs.lemmas.List.{length-map, map-append, take_at, drop_at, drop-drop, drop_all, length-take-le, take-append-drop}
use Rattle.std.proofs.ByRecursion.{All-weaker}
use Rattle.std.proofs.lemmas.Bool.{eq-eqb, le-leb, leb-true, eqb-true, and_parts, and_from, cond-true}
use Rattle.records.specs.Fields.{are_flags, all_printable}
use Rattle.sheet.specs.declared.Row.{Row}
use Rattle.sheet.specs.declared.Move.{Move}
use Rattle.format.specs.declared.Arc.{Arc}
use Rattle.format.specs.Format.{State, Sheet, state_bytes, StateFits, ArcFits, Fits, encode}
use Rattle.format.specs.Tables.{move_of, arc_of, own, lower, placed, counted, name_in, state_in, arcs_of, sheet_in, relocated, rows_of, moves_of}
use Rattle.format.specs.Writing.{moves_sound, name_sound, moves_next, row_sound, first_unsound}
use Rattle.format.proofs.Fields.{skip}
use Rattle.format.proofs.Groups.{From, front, from_front, from_sources, from_fits, from_rising, rising_from, own_split, lower_split, done_more, moves_back}

-- from a sheet to its tables, and back

nothing : (size i low : ℕ) (arcs : List Arc) → size ≡ i + 0 → From size i low arcs → arcs ≡ []
nothing size i low [] e f = refl
nothing size i low (a ∷ as') e f = let l = (from_sources size i low (a ∷ as') f).0 in let h = f.1.0 in absurd (omega (arith, l, h, e))

higher : (size i : ℕ) (arcs : List Arc) → From size (i + 1) 0 arcs → AllByRecursion (λ (a : Arc). i < a.source) arcs
higher size i arcs f = All-weaker (λ (a : Arc). i + 1 ≤ a.source) (λ (a : Arc). i < a.source) (λ x h. omega (arith, h)) arcs (from_sources size (i + 1) 0 arcs f)

pub passes : (size : ℕ) (names : List ℕ) (ms : List Move) (first : ℕ) (r : Row) → are_flags r.flags ≡ true → r.len ≤ 16 → r.place + r.len ≤ length names → all_printable (name_in names r) ≡ true → r.first ≡ first → first + r.count ≤ length ms → moves_sound size 0 (take r.count (drop first ms)) ≡ true → row_sound size names ms first r ≡ true
passes size names ms first r a b c d e f g =
    and_from (name_sound names r) (moves_next size ms first r)
    (and_from (are_flags r.flags) _ a
    (and_from (leb r.len 16) _ (le-leb r.len 16 b)
    (and_from (leb (r.place + r.len) (length names)) _ (le-leb (r.place + r.len) (length names) c) d)))
    (and_from (eqb r.first first) _ (eq-eqb r.first first e)
    (and_from (leb (first + r.count) (length ms)) _ (le-leb (first + r.count) (length ms) f) g))

module _ (bs : List ℕ) (size : ℕ) (all : List Arc) where
  abbrev Laid : ℕ → ℕ → List Row → List Arc → List State → Type 0
  Laid i first rows left ss =
      (arcs_of i rows (map move_of left) ≡ left) × (map (state_in bs) rows ≡ ss) × (first_unsound i first size bs (map move_of all) rows ≡ None)

  laid : (ss : List State) (i at : ℕ) (done left : List Arc) (rest : List ℕ) → all ≡ done ++ left → AllByRecursion (λ (a : Arc). a.source < i) done → From size i 0 left → size ≡ i + length ss → AllByRecursion StateFits ss → drop at bs ≡ flat_map state_bytes ss ++ rest → Laid i (length done) (counted i all (placed at ss)) left ss
  laid [] i at done left rest e d f n s h =
      let z = nothing size i 0 left n f in
      let l : length done ≡ length (map move_of all) = omega (arith, length-map all move_of, ap length e, length-append done left, ap length z) in
      (sym z, refl, cond-true (eqb (length done) (length (map move_of all))) _ _ (eq-eqb (length done) (length (map move_of all)) l))
  laid (st ∷ ss) i at done left rest e d f n s h =
      let g = front size i 0 left f in
      let ms = g.0 in
      let mid = map (arc_of i) ms in
      let then = g.1 in
      let up = higher size i then g.4 in
      let e1 : all ≡ done ++ (mid ++ then) = e ∙ ap (λ x. done ++ x) g.2 in
      let o : own i all ≡ length ms = ap (own i) e1 ∙ own_split i done ms then d up in
      let lo : lower i all ≡ length done = ap (lower i) e1 ∙ lower_split i done ms then d up in
      let ml : map move_of left ≡ ms ++ map move_of then = ap (map move_of) g.2 ∙ map-append move_of mid then ∙ ap (λ x. x ++ map move_of then) (moves_back i ms) in
      let tk : take (own i all) (map move_of left) ≡ ms = ap (λ k. take k (map move_of left)) o ∙ ap (take (length ms)) ml ∙ take_at ms (map move_of then) (length ms) refl in
      let dr : drop (own i all) (map move_of left) ≡ map move_of then = ap (λ k. drop k (map move_of left)) o ∙ ap (drop (length ms)) ml ∙ drop_at ms (map move_of then) (length ms) refl in
      let w = st.name in
      let ws = flat_map state_bytes ss in
      let nx = at + 4 + length w in
      let row : Row = record { flags = st.flags; place = at + 4; len = length w; first = lower i all; count = own i all } in
      let rows = counted (i + 1) all (placed nx ss) in
      let h1 : drop at bs ≡ state_bytes st ++ (ws ++ rest) = h ∙ append_assoc (state_bytes st) ws rest in
      let hn : drop (at + 4) bs ≡ w ++ (ws ++ rest) = skip bs at (83 ∷ 84 ∷ st.flags ∷ length w ∷ []) (w ++ (ws ++ rest)) h1 in
      let hd : drop nx bs ≡ ws ++ rest = skip bs (at + 4) w (ws ++ rest) hn in
      let nm : name_in bs row ≡ w = ap (take (length w)) hn ∙ take_at w (ws ++ rest) (length w) refl in
      let far : length bs - at ≡ 4 + length w + length (ws ++ rest) = sym (length-drop at bs) ∙ ap length h1 ∙ omega (arith, length-append w (ws ++ rest)) in
      let done2 = done ++ mid in
      let l2 : length done2 ≡ length done + own i all = omega (arith, length-append done mid, length-map ms (arc_of i), o) in
      let ih = laid ss (i + 1) nx done2 then rest (e1 ∙ sym (append_assoc done mid then)) (done_more i done ms then d up) g.4 (omega arith) s.1 hd in
      let md : drop (length done) (map move_of all) ≡ map move_of left = ap (λ x. drop (length done) (map move_of x)) e ∙ ap (drop (length done)) (map-append move_of done left) ∙ drop_at (map move_of done) (map move_of left) (length done) (length-map done move_of) in
      let fit : length done + own i all ≤ length (map move_of all) = omega (arith, length-map all move_of, ap length e1, length-append done (mid ++ then), length-append mid then, length-map ms (arc_of i), o) in
      let snd : moves_sound size 0 (take (own i all) (drop (length done) (map move_of all))) ≡ true = ap (λ x. moves_sound size 0 (take (own i all) x)) md ∙ ap (moves_sound size 0) tk ∙ g.3 in
      let ok : row_sound size bs (map move_of all) (length done) row ≡ true = passes size bs (map move_of all) (length done) row s.0.0 s.0.1 (omega (arith, far)) (ap all_printable nm ∙ s.0.2) lo fit snd in (
        ap (λ x. map (arc_of i) x ++ arcs_of (i + 1) rows (drop (own i all) (map move_of left))) tk
            ∙ ap (λ x. mid ++ arcs_of (i + 1) rows x) dr
            ∙ ap (λ x. mid ++ x) ih.0
            ∙ sym g.2,
        ap (λ (x : List ℕ). record { flags = st.flags; name = x } ∷ map (state_in bs) rows) nm ∙ ap (λ x. st ∷ x) ih.1,
        cond-true (row_sound size bs (map move_of all) (length done) row) _ _ ok
            ∙ ap (λ k. first_unsound (i + 1) k size bs (map move_of all) rows) (sym l2)
            ∙ ih.2,
      )

pub length_placed : (at : ℕ) (ss : List State) → length (placed at ss) ≡ length ss
length_placed at [] = refl
length_placed at (s ∷ ss) = ap suc (length_placed (at + 4 + length s.name) ss)

pub length_counted : (i : ℕ) (arcs : List Arc) (rows : List Row) → length (counted i arcs rows) ≡ length rows
length_counted i arcs [] = refl
length_counted i arcs (r ∷ rs) = ap suc (length_counted (i + 1) arcs rs)

pub length_rows : (s : Sheet) → length (rows_of s) ≡ length s.states
length_rows s = length_counted 0 s.moves (placed 5 s.states) ∙ length_placed 5 s.states

pub sheet_back : (s : Sheet) → Fits s → (sheet_in (encode s) (rows_of s) (moves_of s) ≡ s) × (first_unsound 0 0 (length (rows_of s)) (encode s) (moves_of s) (rows_of s) ≡ None)
sheet_back s f =
    let size = length s.states in
    let z : size ≡ 0 + size = omega arith in
    let l = laid (encode s) size s.moves s.states 0 5 [] s.moves _ refl tt (rising_from size s.moves f.3 f.4) z f.2 refl in (
      ap (λ (x : List Arc). record { states = map (state_in (encode s)) (rows_of s); moves = x }) l.0
          ∙ ap (λ (x : List State). record { states = x; moves = s.moves }) l.1,
      ap (λ k. first_unsound 0 0 k (encode s) (moves_of s) (rows_of s)) (length_rows s) ∙ l.2,
    )

-- from tables to their sheet, and back

pub passed : (b : Bool) (o : Option ℕ) (i : ℕ) → cond b o (Some i) ≡ None → (b ≡ true) × (o ≡ None)
passed true o i h = (refl, h)
passed false o i h = let z : ◌≡◌ {A = ℕ} 0 1 = cc in absurd (omega arith)

pub record Sound (size : ℕ) (names : List ℕ) (ms : List Move) (first : ℕ) (r : Row) : Type 0 where
  pub flagged : are_flags r.flags ≡ true
  pub short : r.len ≤ 16
  pub inside : r.place + r.len ≤ length names
  pub plain : all_printable (name_in names r) ≡ true
  pub begins : r.first ≡ first
  pub reaches : first + r.count ≤ length ms
  pub moves : moves_sound size 0 (take r.count (drop first ms)) ≡ true

pub sound_row : (size : ℕ) (names : List ℕ) (ms : List Move) (first : ℕ) (r : Row) → row_sound size names ms first r ≡ true → Sound size names ms first r
sound_row size names ms first r h =
    let a = and_parts (name_sound names r) (moves_next size ms first r) h in
    let b = and_parts (are_flags r.flags) _ a.0 in
    let c = and_parts (leb r.len 16) _ b.1 in
    let d = and_parts (leb (r.place + r.len) (length names)) _ c.1 in
    let e = and_parts (eqb r.first first) _ a.1 in
    let f = and_parts (leb (first + r.count) (length ms)) _ e.1 in
    record {
      flagged = b.0;
      short = leb-true _ _ c.0;
      inside = leb-true _ _ d.0;
      plain = d.1;
      begins = eqb-true _ _ e.0;
      reaches = leb-true _ _ f.0;
      moves = f.1;
    }

pub name_length : (names : List ℕ) (r : Row) → r.place + r.len ≤ length names → length (name_in names r) ≡ r.len
name_length names r h = length-take-le r.len (drop r.place names) (rw length-drop (omega arith))

module _ (size : ℕ) (names : List ℕ) (ms : List Move) where
  abbrev Told : ℕ → ℕ → ℕ → List Row → Type 0
  Told i first at rows =
      From size i 0 (arcs_of i rows (drop first ms))
      × (map move_of (arcs_of i rows (drop first ms)) ≡ drop first ms)
      × AllByRecursion StateFits (map (state_in names) rows)
      × ((all done : List Arc) → all ≡ done ++ arcs_of i rows (drop first ms) → AllByRecursion (λ (a : Arc). a.source < i) done → length done ≡ first
      → counted i all (placed at (map (state_in names) rows)) ≡ relocated at rows)

  told : (rows : List Row) (i first at : ℕ) → first_unsound i first size names ms rows ≡ None → size ≡ i + length rows → Told i first at rows
  told [] i first at h n =
      let e = eqb-true first (length ms) (passed (eqb first (length ms)) None i h).0 in
      (tt, sym (drop_all first ms (omega (arith, e))), tt, λ all done a b c. refl)
  told (r ∷ rs) i first at h n =
      let p = passed (row_sound size names ms first r) (first_unsound (i + 1) (first + r.count) size names ms rs) i h in
      let s = sound_row size names ms first r p.0 in
      let ih = told rs (i + 1) (first + r.count) (at + 4 + r.len) p.1 (omega arith) in
      let mid = take r.count (drop first ms) in
      let dd : drop r.count (drop first ms) ≡ drop (first + r.count) ms = drop-drop r.count first ms in
      let then = arcs_of (i + 1) rs (drop (first + r.count) ms) in
      let lm : length mid ≡ r.count = length-take-le r.count (drop first ms) (let q = s.reaches in omega (arith, q, length-drop first ms)) in
      let ae : arcs_of i (r ∷ rs) (drop first ms) ≡ map (arc_of i) mid ++ then = ap (λ x. map (arc_of i) mid ++ arcs_of (i + 1) rs x) dd in
      let ln = name_length names r s.inside in (
        subst (λ (x : List Arc). From size i 0 x) (sym ae) (from_front size i 0 mid then (omega arith) s.moves ih.0),
        ap (map move_of) ae
            ∙ map-append move_of (map (arc_of i) mid) then
            ∙ ap (λ x. x ++ map move_of then) (moves_back i mid)
            ∙ ap (λ x. mid ++ x) (ih.1 ∙ sym dd)
            ∙ take-append-drop r.count (drop first ms),
        ((s.flagged, (let q = s.short in omega (arith, q, ln)), s.plain), ih.2),
        λ all done a b c.
            let up = higher size i then ih.0 in
            let e1 : all ≡ done ++ (map (arc_of i) mid ++ then) = a ∙ ap (λ x. done ++ x) ae in
            let o : own i all ≡ r.count = ap (own i) e1 ∙ own_split i done mid then b up ∙ lm in
            let lo : lower i all ≡ r.first = ap (lower i) e1 ∙ lower_split i done mid then b up ∙ c ∙ sym s.begins in
            let l2 : length (done ++ map (arc_of i) mid) ≡ first + r.count = omega (arith, length-append done (map (arc_of i) mid), length-map mid (arc_of i), lm, c) in
            let more = ih.3 all (done ++ map (arc_of i) mid) (e1 ∙ sym (append_assoc done (map (arc_of i) mid) then)) (done_more i done mid then b up) l2 in
            ap (λ k. record { flags = r.flags; place = at + 4; len = k; first = lower i all; count = own i all } ∷ counted (i + 1) all (placed (at + 4 + k) (map (state_in names) rs))) ln
            ∙ ap (λ k. record { flags = r.flags; place = at + 4; len = r.len; first = k; count = own i all } ∷ counted (i + 1) all (placed (at + 4 + r.len) (map (state_in names) rs))) lo
            ∙ ap (λ k. record { flags = r.flags; place = at + 4; len = r.len; first = r.first; count = k } ∷ counted (i + 1) all (placed (at + 4 + r.len) (map (state_in names) rs))) o
            ∙ ap (λ x. record { flags = r.flags; place = at + 4; len = r.len; first = r.first; count = r.count } ∷ x) more,
      )

pub tables_back : (names : List ℕ) (rows : List Row) (ms : List Move) → 1 ≤ length rows → length rows ≤ 4096 → first_unsound 0 0 (length rows) names ms rows ≡ None → Fits (sheet_in names rows ms) × (rows_of (sheet_in names rows ms) ≡ relocated 5 rows) × (moves_of (sheet_in names rows ms) ≡ ms)
tables_back names rows ms low high h =
    let size = length rows in
    let z : size ≡ 0 + size = omega arith in
    let t = told size names ms rows 0 0 5 h z in
    let n : length (map (state_in names) rows) ≡ size = length-map rows (state_in names) in (
      (omega (arith, n), omega (arith, n), t.2, subst (λ k. AllByRecursion (ArcFits k) (arcs_of 0 rows ms)) (sym n) (from_fits size 0 0 (arcs_of 0 rows ms) t.0), from_rising size 0 0 (arcs_of 0 rows ms) t.0),
      t.3 (arcs_of 0 rows ms) [] refl tt refl,
      t.1,
    )
