-- The writer takes the tables that a reading gives, and names the first row that no reading gives.

use Rattle.std.proofs.Common.{◌≡◌, ℕ, ◌+◌, ◌≤◌, Bool, true, false, cond, ◌&&◌, leb, List, [], ◌∷◌, ◌++◌, map, length, take, drop, replicate, IfOk, Some, None, Ok, Err, Option, Result, sym, refl, ap, ◌∙◌, subst, inl, inr, ⊎_elim, append_assoc, arith, length-append}
use Rattle.std.specs.List.{AllByRecursion}
use Rattle.std.proofs.lemmas.List.{append-nil, length-map, length_push, length-replicate, length-take-le, map-append, take_at, take-map}
use Rattle.std.proofs.lemmas.Bool.{and_cases, and_parts, both_ways, leb-false, leb-true}
use Rattle.sheet.specs.declared.Row.{Row}
use Rattle.sheet.specs.declared.Move.{Move}
use Rattle.format.specs.declared.Arc.{Arc}
use Rattle.format.specs.declared.WriteFault.{WriteFault}
use Rattle.format.specs.declared.WriteFault.TheVariants.{Size, Room}
use Rattle.format.specs.Format.{State, Sheet, encode}
use Rattle.format.specs.Tables.{arc_of, arcs_of, moves_in, moves_of, relocated, rows_of, sheet_in, state_in}
use Rattle.format.specs.Writing.{row_sound, first_unsound, fitted, over, unless, write_result}
use Rattle.format.specs.Judgement.{Begins, FirstUnread, Gives, Judges, MovesInside, WriteExactly, counts_of}
use Rattle.format.proofs.Tables.{length_rows, sheet_back, tables_back}
use Rattle.format.proofs.Laws.{written_sound}
use Rattle.format.proofs.Chains.{Chain, behind, behind_counts, behind_relocated, blank, chain_cut, chain_elsewhere, chain_last, chain_moves, chain_names, chain_none, chain_of, chain_padded, chain_take, chain_within, sound_passes, stop_of}

-- Rows at another place

relocated_front : (at : ℕ) (rows more : List Row) → take (length rows) (relocated at (rows ++ more)) ≡ relocated at rows
relocated_front at [] more = refl
relocated_front at (r ∷ rs) more =
    ap (λ x. record { flags = r.flags; place = at + 4; len = r.len; first = r.first; count = r.count } ∷ x) (relocated_front (at + 4 + r.len) rs more)

relocated_moves : (at : ℕ) (ms : List Move) (rows : List Row) → AllByRecursion (MovesInside ms) (relocated at rows) → AllByRecursion (MovesInside ms) rows
relocated_moves at ms [] a = tt
relocated_moves at ms (r ∷ rs) a = (a.0, relocated_moves (at + 4 + r.len) ms rs a.1)

relocated_arcs : (at i : ℕ) (rows : List Row) (ms : List Move) → arcs_of i (relocated at rows) ms ≡ arcs_of i rows ms
relocated_arcs at i [] ms = refl
relocated_arcs at i (r ∷ rs) ms = ap (λ x. map (arc_of i) (take r.count ms) ++ x) (relocated_arcs (at + 4 + r.len) (i + 1) rs (drop r.count ms))

-- Some reading begins with rows that are sound: the rest are blank

begins_before : (names : List ℕ) (ms : List Move) (rows good bad : List Row) → rows ≡ good ++ bad → 1 ≤ length rows → length rows ≤ 4096 → Chain (length rows) names ms 0 good → (s : Sheet) × Begins (length rows) names ms good s
begins_before names ms rows good bad e low high c =
    let size = length rows in
    let t = behind 0 good in
    let u : t ≤ length ms = (chain_within size names ms good 0 (omega arith) c).1 in
    let more = replicate (length bad) (blank size t) in
    let all = good ++ more in
    let cut = take t ms in
    let l : length cut ≡ t = length-take-le t ms u in
    let n : length all ≡ size = omega (arith, length-append good more, length-replicate (length bad) (blank size t), ap length e, length-append good bad) in
    let d = chain_cut size names ms t good 0 (omega arith) c (omega arith) u in
    let p = chain_padded size names cut t (length bad) good 0 d.0 refl (omega (arith, l)) in
    let h : first_unsound 0 0 (length all) names cut all ≡ None = ap (λ k. first_unsound 0 0 k names cut all) n ∙ chain_none size names cut all 0 0 p.0 (p.1 ∙ sym l) in
    let b = tables_back names all cut (omega (arith, n, low)) (omega (arith, n, high)) h in (
      sheet_in names all cut,
      record {
        fits = b.0;
        sized = length-map all (state_in names) ∙ n;
        rows_read = ap (take (length good)) b.1 ∙ relocated_front 5 good more;
        names_read =
            ap (take (length good)) (map-append (state_in names) good more)
            ∙ take_at (map (state_in names) good) (map (state_in names) more) (length good) (length-map good (state_in names));
        moves_read = ap (λ x. map (moves_in x) good) b.2 ∙ d.1;
        names_inside = chain_names size names ms good 0 c;
        moves_inside = chain_moves size names ms good 0 c;
      },
    )

-- Rows that a reading begins with are sound

begins_chain : (size : ℕ) (names : List ℕ) (ms : List Move) (rows : List Row) (s : Sheet) → Begins size names ms rows s → Chain size names ms 0 rows
begins_chain size names ms rows s b =
    let bs = encode s in
    let k = length rows in
    let f = sheet_back s b.fits in
    let n : length (rows_of s) ≡ size = length_rows s ∙ b.sized in
    let c = (chain_of size bs (moves_of s) (rows_of s) 0 0 (ap (λ x. first_unsound 0 0 x bs (moves_of s) (rows_of s)) (sym n) ∙ f.1)).0 in
    let d = subst (λ (x : List Row). Chain size bs (moves_of s) 0 x) b.rows_read (chain_take size bs (moves_of s) k (rows_of s) 0 c) in
    let e : map (state_in bs) (relocated 5 rows) ≡ map (state_in names) rows =
    ap (map (state_in bs)) (sym b.rows_read)
    ∙ sym (take-map (state_in bs) k (rows_of s))
    ∙ ap (λ (x : Sheet). take k x.states) f.0
    ∙ b.names_read in
    chain_elsewhere size names bs ms (moves_of s) rows 0 5 d e b.moves_read b.names_inside b.moves_inside

pub first_unread : (names : List ℕ) (ms : List Move) (rows : List Row) (k : ℕ) → 1 ≤ length rows → length rows ≤ 4096 → first_unsound 0 0 (length rows) names ms rows ≡ Some k → FirstUnread names ms rows k
first_unread names ms rows k low high h =
    let size = length rows in
    let s = stop_of size names ms rows 0 0 k h in
    let good = s.0 in
    let at = s.3 in
    let e : k ≡ length good = omega (arith, at) in
    let whole = ap length s.2 ∙ length-append good s.1 in
    let t : take k rows ≡ good = ap (λ j. take j rows) e ∙ ap (take (length good)) s.2 ∙ take_at good s.1 (length good) refl in (
      subst (λ (x : List Row). (q : Sheet) × Begins size names ms x q) (sym t) (begins_before names ms rows good s.1 s.2 low high s.4),
      ⊎_elim
          (λ (u : (r : Row) × (rest : List Row) × (s.1 ≡ r ∷ rest) × (row_sound size names ms (behind 0 good) r ≡ false)).
          let r = u.0 in
          let next : take (k + 1) rows ≡ good ++ r ∷ [] =
          ap (λ j. take (j + 1) rows) e
          ∙ ap (take (length good + 1)) (s.2 ∙ ap (λ x. good ++ x) u.2 ∙ sym (append_assoc good (r ∷ []) u.1))
          ∙ take_at (good ++ r ∷ []) u.1 (length good + 1) (length_push good r) in
          inl (
            omega (arith, e, whole, ap length u.2),
            λ q b.
                both_ways (row_sound size names ms (behind 0 good) r) u.3
                (sound_passes size names ms (behind 0 good) r
                (chain_last size names ms good r 0 (begins_chain size names ms (good ++ r ∷ []) q (subst (λ (x : List Row). Begins size names ms x q) next b)))),
          ))
          (λ (u : (s.1 ≡ []) × (behind 0 good ≡ length ms → ⊥)).
          let all : rows ≡ good = s.2 ∙ ap (λ x. good ++ x) u.0 ∙ append-nil good in
          let most = (chain_within size names ms good 0 (omega arith) s.4).1 in
          let not_all = u.1 in
          inr (e ∙ ap length (sym all), omega (arith, most, not_all, behind_counts 0 good, ap counts_of all)))
          s.5,
    )

-- Tables that a reading gives

gives_sound : (names : List ℕ) (ms : List Move) (rows : List Row) → 1 ≤ length rows → length rows ≤ 4096 → first_unsound 0 0 (length rows) names ms rows ≡ None → Gives names ms rows (sheet_in names rows ms)
gives_sound names ms rows low high h =
    let t = tables_back names rows ms low high h in
    record {
      fits = t.0;
      rows_read = t.1;
      names_read = refl;
      moves_read = t.2;
      names_inside = chain_names (length rows) names ms rows 0 (chain_of (length rows) names ms rows 0 0 h).0;
    }

sound_given : (names : List ℕ) (ms : List Move) (rows : List Row) (s : Sheet) → Gives names ms rows s → first_unsound 0 0 (length rows) names ms rows ≡ None
sound_given names ms rows s g =
    let bs = encode s in
    let ns = moves_of s in
    let size = length rows in
    let f = sheet_back s g.fits in
    let n : length (rows_of s) ≡ size = length_rows s ∙ ap length g.names_read ∙ length-map rows (state_in names) in
    let c = chain_of size bs ns (rows_of s) 0 0 (ap (λ x. first_unsound 0 0 x bs ns (rows_of s)) (sym n) ∙ f.1) in
    let d = subst (λ (x : List Row). Chain size bs ns 0 x) g.rows_read c.0 in
    let e : map (state_in bs) (relocated 5 rows) ≡ map (state_in names) rows = ap (map (state_in bs)) (sym g.rows_read) ∙ ap (λ (x : Sheet). x.states) f.0 ∙ g.names_read in
    let i = subst (λ (x : List Move). AllByRecursion (MovesInside x) rows) g.moves_read (relocated_moves 5 ns rows (chain_moves size bs ns (relocated 5 rows) 0 d)) in
    let last : behind 0 rows ≡ length ms = sym (behind_relocated 5 0 rows) ∙ ap (behind 0) (sym g.rows_read) ∙ c.1 ∙ ap length g.moves_read in
    chain_none size names ms rows 0 0 (chain_elsewhere size names bs ms ns rows 0 5 d e (ap (λ x. map (moves_in x) rows) g.moves_read) g.names_inside i) last

sheet_given : (names : List ℕ) (ms : List Move) (rows : List Row) (s : Sheet) → Gives names ms rows s → sheet_in names rows ms ≡ s
sheet_given names ms rows s g =
    let f = sheet_back s g.fits in
    let arcs : arcs_of 0 rows ms ≡ s.moves =
    sym (relocated_arcs 5 0 rows ms)
    ∙ ap (λ x. arcs_of 0 x ms) (sym g.rows_read)
    ∙ ap (arcs_of 0 (rows_of s)) (sym g.moves_read)
    ∙ ap (λ (x : Sheet). x.moves) f.0 in
    ap (λ (x : List State). record { states = x; moves = arcs_of 0 rows ms }) (sym g.names_read)
    ∙ ap (λ (x : List Arc). record { states = s.states; moves = x }) arcs

given_written : (rows : List Row) (ms : List Move) (names out : List ℕ) (s : Sheet) → Gives names ms rows s → write_result rows ms names out ≡ fitted (encode s) out
given_written rows ms names out s g =
    let n : length s.states ≡ length rows = ap length g.names_read ∙ length-map rows (state_in names) in
    let low = g.fits.0 in
    let high = g.fits.1 in
    written_sound rows ms names out (omega (arith, n, low)) (omega (arith, n, high)) (sound_given names ms rows s g)
    ∙ ap (λ x. fitted (encode x) out) (sheet_given names ms rows s g)

-- What each answer says

abbrev Said : List Row → List Move → List ℕ → List ℕ → Result ℕ WriteFault × List ℕ → Type 0
Said rows ms names out t = Judges rows ms names out t.0

fitted_judges : (rows : List Row) (ms : List Move) (names out : List ℕ) (s : Sheet) → Gives names ms rows s → (b : Bool) → leb (length (encode s)) (length out) ≡ b → Said rows ms names out (cond b (Ok (length (encode s)), over (encode s) out) (Err Room, out))
fitted_judges rows ms names out s g true h = (s, g, refl, leb-true (length (encode s)) (length out) h)
fitted_judges rows ms names out s g false h = (s, g, leb-false (length (encode s)) (length out) h)

unless_judges : (rows : List Row) (ms : List Move) (names out : List ℕ) → 1 ≤ length rows → length rows ≤ 4096 → (o : Option ℕ) → first_unsound 0 0 (length rows) names ms rows ≡ o → Said rows ms names out (unless o (encode (sheet_in names rows ms)) out)
unless_judges rows ms names out low high None h = fitted_judges rows ms names out (sheet_in names rows ms) (gives_sound names ms rows low high h) (leb (length (encode (sheet_in names rows ms))) (length out)) refl
unless_judges rows ms names out low high (Some k) h = (low, high, first_unread names ms rows k low high h)

sized_judges : (rows : List Row) (ms : List Move) (names out : List ℕ) (b : Bool) → (leb 1 (length rows) && leb (length rows) 4096) ≡ b → Said rows ms names out (cond b (unless (first_unsound 0 0 (length rows) names ms rows) (encode (sheet_in names rows ms)) out) (Err Size, out))
sized_judges rows ms names out true h =
    let p = and_parts (leb 1 (length rows)) (leb (length rows) 4096) h in
    unless_judges rows ms names out (leb-true _ _ p.0) (leb-true _ _ p.1) (first_unsound 0 0 (length rows) names ms rows) refl
sized_judges rows ms names out false h =
    ⊎_elim
    (λ (t : leb 1 (length rows) ≡ false). inl (leb-false 1 (length rows) t))
    (λ (t : leb (length rows) 4096 ≡ false). inr (leb-false (length rows) 4096 t))
    (and_cases (leb 1 (length rows)) (leb (length rows) 4096) h)

pub write_inside : (rows : List Row) (ms : List Move) (names out : List ℕ) (r : Result ℕ WriteFault) (after : List ℕ) → WriteExactly rows ms names out (r, after) → IfOk r (λ len. len ≤ length out)
write_inside rows ms names out (Ok len) after e = e.0.3
write_inside rows ms names out (Err f) after e = tt

pub write_exactly : (rows : List Row) (ms : List Move) (names out : List ℕ) → WriteExactly rows ms names out (write_result rows ms names out)
write_exactly rows ms names out = (sized_judges rows ms names out (leb 1 (length rows) && leb (length rows) 4096) refl, given_written rows ms names out)
