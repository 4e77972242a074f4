-- A record stands in the bytes exactly if it is read.

use Rattle.std.proofs.Common.{◌≡◌, ℕ, ◌+◌, ◌-◌, ◌<◌, ◌≤◌, true, false, cond, leb, ◌⊎◌, List, [], ◌∷◌, ◌++◌, length, drop, Ok, Err, codes, sym, refl, ap, ◌∙◌, inl, inr, ⊎_elim, arith, length-append, length-drop}
use Rattle.std.specs.Str.{bytes_eq}
use Rattle.std.proofs.lemmas.Slice.Eq.{bytes_eq-Decides}
use Rattle.std.proofs.lemmas.Bool.{lt-ltb, le-leb, ltb-true, leb-true, cond-true, cond-false, and_parts, and_from, cases_Bool}
use Rattle.records.specs.declared.RecordFault.TheVariants.{Mark}
use Rattle.records.specs.declared.Expect.{Expect}
use Rattle.records.specs.declared.Expect.TheVariants as expects
use Rattle.records.specs.Fields.{byte_at, u16_at, u32_at, part_at, judged, within, below, are_flags, all_printable}
use Rattle.records.specs.Records.{Item, head, state, move, end, head_at, state_at, move_at, end_at, marked_by, record_at}
use Rattle.format.specs.declared.Arc.{Arc}
use Rattle.format.specs.Format.{State, u16_bytes, u32_bytes, head_bytes, state_bytes, move_bytes, end_bytes, StateFits, ArcFits}
use Rattle.format.proofs.Fields.{next_ok, next_inv, choose_inv, ok_same, field_ok, field_inv, field_here, skip, byte_there, byte_here, u16_there, u16_here, u32_there, u32_here, part_there, part_here}

within_from : (low high v : ℕ) → low ≤ v → v ≤ high → within low high v ≡ true
within_from low high v h k = and_from (leb low v) (leb v high) (le-leb low v h) (le-leb v high k)

within_parts : (low high v : ℕ) → within low high v ≡ true → (low ≤ v) × (v ≤ high)
within_parts low high v h = let p = and_parts (leb low v) (leb v high) h in (leb-true low v p.0, leb-true v high p.1)

module _ (bs : List ℕ) (at n : ℕ) where
  inside : (w rest : List ℕ) → 0 < length w → drop at bs ≡ w ++ rest → at + length w ≤ length bs
  inside w rest p h = let far : length (w ++ rest) ≡ length bs - at = ap length (sym h) ∙ length-drop at bs in omega (arith, far, length-append w rest)

  -- the mark stands there, and the record goes on behind it
  pub mark_there : (e : Expect) (a b : ℕ) (rest : List ℕ) → drop at bs ≡ a ∷ b ∷ rest → (record_at e bs at n ≡ marked_by e (a ∷ b ∷ []) bs at n) × (drop (at + 2) bs ≡ rest)
  mark_there e a b rest h =
      let l = inside (a ∷ b ∷ []) rest (omega arith) h in (
        next_ok (λ m. marked_by e m bs at n) (field_ok (λ _. true) at n (part_there bs at n (a ∷ b ∷ []) rest (omega arith) h) refl),
        skip bs at (a ∷ b ∷ []) rest h,
      )

  mark_here : (e : Expect) (q : Item × ℕ) → record_at e bs at n ≡ Ok q → (m : List ℕ) × (marked_by e m bs at n ≡ Ok q) × (drop at bs ≡ m ++ drop (at + 2) bs)
  mark_here e q h =
      let a = next_inv (judged (λ _. true) at n (part_at 2 bs at n)) (λ m. marked_by e m bs at n) q h in
      let p = part_here 2 bs at n a.0 (field_inv (λ _. true) at n (part_at 2 bs at n) a.0 a.1).0 in
      (a.0, a.2, p.1)

  -- head

  pub head_there : (size : ℕ) (rest : List ℕ) → 1 ≤ size → size ≤ 4096 → drop at bs ≡ head_bytes size ++ rest → record_at expects.Head bs at n ≡ Ok (head size, at + 5)
  head_there size rest low high h =
      let m = mark_there expects.Head 83 72 (1 ∷ (u16_bytes size ++ rest)) h in
      let k : at + 2 + 1 ≡ at + 3 = omega arith in
      let d : drop (at + 3) bs ≡ u16_bytes size ++ rest = ap (λ i. drop i bs) (sym k) ∙ skip bs (at + 2) (1 ∷ []) (u16_bytes size ++ rest) m.1 in
      m.0
      ∙ next_ok _ (field_ok (within 1 1) (at + 2) n (byte_there bs (at + 2) n 1 _ m.1) refl)
      ∙ next_ok _ (field_ok (within 1 4096) (at + 3) n (u16_there bs (at + 3) n size rest (omega arith) d) (within_from 1 4096 size low high))

  pub head_here : (q : Item × ℕ) → record_at expects.Head bs at n ≡ Ok q → (size : ℕ) × (q ≡ (head size, at + 5)) × (1 ≤ size) × (size ≤ 4096) × (drop at bs ≡ head_bytes size ++ drop (at + 5) bs)
  head_here q h =
      let m = mark_here expects.Head q h in
      let ch = choose_inv (bytes_eq m.0 (codes "SH")) (head_at bs at n) _ q m.1 in
      let im : m.0 ≡ codes "SH" = (bytes_eq-Decides m.0 (codes "SH")).0 ch.0 in
      let v = field_here (within 1 1) (at + 2) n (byte_at bs (at + 2) n) _ q ch.1 in
      let iv = within_parts 1 1 v.0 v.2 in
      let ev : v.0 ≡ 1 = omega (arith, iv) in
      let s = field_here (within 1 4096) (at + 3) n (u16_at bs (at + 3) n) _ q v.3 in
      let is' = within_parts 1 4096 s.0 s.2 in
      let k : at + 2 + 1 ≡ at + 3 = omega arith in
      let j : at + 3 + 2 ≡ at + 5 = omega arith in (
        s.0,
        sym (ok_same _ _ s.3),
        is'.0,
        is'.1,
        m.2
            ∙ ap (λ x. x ++ drop (at + 2) bs) im
            ∙ ap (λ x. 83 ∷ 72 ∷ x) (byte_here bs (at + 2) n v.0 v.1 ∙ ap (λ x. x ∷ drop (at + 2 + 1) bs) ev ∙ ap (λ i. 1 ∷ drop i bs) k)
            ∙ ap (λ x. 83 ∷ 72 ∷ 1 ∷ x) (u16_here bs (at + 3) n s.0 s.1 ∙ ap (λ i. u16_bytes s.0 ++ drop i bs) j),
      )

  -- state

  pub state_there : (s : State) (rest : List ℕ) → StateFits s → drop at bs ≡ state_bytes s ++ rest → record_at expects.State bs at n ≡ Ok (state s.flags (at + 4) s.name, at + 4 + length s.name)
  state_there s rest f h =
      let w = s.name in
      let l = length w in
      let m = mark_there expects.State 83 84 (s.flags ∷ l ∷ (w ++ rest)) h in
      let k : at + 2 + 1 ≡ at + 3 = omega arith in
      let j : at + 3 + 1 ≡ at + 4 = omega arith in
      let d : drop (at + 3) bs ≡ l ∷ (w ++ rest) = ap (λ i. drop i bs) (sym k) ∙ skip bs (at + 2) (s.flags ∷ []) _ m.1 in
      let e : drop (at + 4) bs ≡ w ++ rest = ap (λ i. drop i bs) (sym j) ∙ skip bs (at + 3) (l ∷ []) _ d in
      let i = inside (83 ∷ 84 ∷ s.flags ∷ l ∷ []) (w ++ rest) (omega arith) h in
      m.0
      ∙ next_ok _ (field_ok are_flags (at + 2) n (byte_there bs (at + 2) n s.flags _ m.1) f.0)
      ∙ next_ok _ (field_ok (within 0 16) (at + 3) n (byte_there bs (at + 3) n l _ d) (within_from 0 16 l (omega arith) f.1))
      ∙ next_ok _ (field_ok all_printable (at + 4) n (part_there bs (at + 4) n w rest (omega arith) e) f.2)

  pub state_here : (q : Item × ℕ) → record_at expects.State bs at n ≡ Ok q → (s : State) × (q ≡ (state s.flags (at + 4) s.name, at + 4 + length s.name)) × StateFits s × (drop at bs ≡ state_bytes s ++ drop (at + 4 + length s.name) bs)
  state_here q h =
      let m = mark_here expects.State q h in
      let ch = choose_inv (bytes_eq m.0 (codes "ST")) (state_at bs at n) _ q m.1 in
      let im : m.0 ≡ codes "ST" = (bytes_eq-Decides m.0 (codes "ST")).0 ch.0 in
      let f = field_here are_flags (at + 2) n (byte_at bs (at + 2) n) _ q ch.1 in
      let l = field_here (within 0 16) (at + 3) n (byte_at bs (at + 3) n) _ q f.3 in
      let w = field_here all_printable (at + 4) n (part_at l.0 bs (at + 4) n) _ q l.3 in
      let pw = part_here l.0 bs (at + 4) n w.0 w.1 in
      let k : at + 2 + 1 ≡ at + 3 = omega arith in
      let j : at + 3 + 1 ≡ at + 4 = omega arith in
      let e = sym pw.0 in (
        record { flags = f.0; name = w.0 },
        sym (ok_same _ _ w.3) ∙ ap (λ i. (state f.0 (at + 4) w.0, at + 4 + i)) e,
        (f.2, (let b = (within_parts 0 16 l.0 l.2).1 in omega (arith, b, pw.0)), w.2),
        m.2
            ∙ ap (λ x. x ++ drop (at + 2) bs) im
            ∙ ap (λ x. 83 ∷ 84 ∷ x) (byte_here bs (at + 2) n f.0 f.1 ∙ ap (λ i. f.0 ∷ drop i bs) k)
            ∙ ap (λ x. 83 ∷ 84 ∷ f.0 ∷ x) (byte_here bs (at + 3) n l.0 l.1 ∙ ap (λ i. l.0 ∷ drop i bs) j)
            ∙ ap (λ x. 83 ∷ 84 ∷ f.0 ∷ l.0 ∷ x) pw.1
            ∙ ap (λ i. 83 ∷ 84 ∷ f.0 ∷ i ∷ (w.0 ++ drop (at + 4 + i) bs)) e,
      )

  -- move

  pub move_there : (size : ℕ) (a : Arc) (rest : List ℕ) → size ≤ 4096 → ArcFits size a → drop at bs ≡ move_bytes a ++ rest → record_at (expects.Tail size) bs at n ≡ Ok (move a.source a.label a.target, at + 7)
  move_there size a rest high f h =
      let s = a.source in
      let l = a.label in
      let t = a.target in
      let m = mark_there (expects.Tail size) 77 86 (u16_bytes s ++ (l ∷ (u16_bytes t ++ rest))) h in
      let k : at + 2 + 2 ≡ at + 4 = omega arith in
      let j : at + 4 + 1 ≡ at + 5 = omega arith in
      let d : drop (at + 4) bs ≡ l ∷ (u16_bytes t ++ rest) = ap (λ i. drop i bs) (sym k) ∙ skip bs (at + 2) (u16_bytes s) _ m.1 in
      let e : drop (at + 5) bs ≡ u16_bytes t ++ rest = ap (λ i. drop i bs) (sym j) ∙ skip bs (at + 4) (l ∷ []) _ d in
      m.0
      ∙ next_ok _ (field_ok (below size) (at + 2) n (u16_there bs (at + 2) n s _ (omega (arith, f)) m.1) (lt-ltb s size f.0))
      ∙ next_ok _ (field_ok (within 0 63) (at + 4) n (byte_there bs (at + 4) n l _ d) (within_from 0 63 l (omega arith) (omega (arith, f))))
      ∙ next_ok _ (field_ok (below size) (at + 5) n (u16_there bs (at + 5) n t rest (omega (arith, f)) e) (lt-ltb t size f.2))

  pub end_there : (size count : ℕ) (rest : List ℕ) → count < 4294967296 → drop at bs ≡ end_bytes count ++ rest → record_at (expects.Tail size) bs at n ≡ Ok (end count, at + 6)
  end_there size count rest l h =
      let m = mark_there (expects.Tail size) 90 90 (u32_bytes count ++ rest) h in
      m.0 ∙ next_ok _ (field_ok (λ _. true) (at + 2) n (u32_there bs (at + 2) n count rest l m.1) refl)

  fields_here : (size : ℕ) (q : Item × ℕ) → 1 ≤ size → move_at size bs at n ≡ Ok q → (a : Arc) × (q ≡ (move a.source a.label a.target, at + 7)) × ArcFits size a × (drop (at + 2) bs ≡ (u16_bytes a.source ++ (a.label ∷ u16_bytes a.target)) ++ drop (at + 7) bs)
  fields_here size q low h =
      let s = field_here (below size) (at + 2) n (u16_at bs (at + 2) n) _ q h in
      let l = field_here (within 0 63) (at + 4) n (byte_at bs (at + 4) n) _ q s.3 in
      let t = field_here (below size) (at + 5) n (u16_at bs (at + 5) n) _ q l.3 in
      let k : at + 2 + 2 ≡ at + 4 = omega arith in
      let j : at + 4 + 1 ≡ at + 5 = omega arith in
      let i : at + 5 + 2 ≡ at + 7 = omega arith in
      let ws = ltb-true s.0 size s.2 in
      let wl = (within_parts 0 63 l.0 l.2).1 in
      let wt = ltb-true t.0 size t.2 in (
        record { source = s.0; label = l.0; target = t.0 },
        sym (ok_same _ _ t.3),
        (omega (arith, ws), omega (arith, wl), omega (arith, wt)),
        u16_here bs (at + 2) n s.0 s.1
            ∙ ap (λ x. u16_bytes s.0 ++ drop x bs) k
            ∙ ap (λ x. u16_bytes s.0 ++ x) (byte_here bs (at + 4) n l.0 l.1 ∙ ap (λ x. l.0 ∷ drop x bs) j)
            ∙ ap (λ x. u16_bytes s.0 ++ (l.0 ∷ x)) (u16_here bs (at + 5) n t.0 t.1 ∙ ap (λ x. u16_bytes t.0 ++ drop x bs) i),
      )

  last_here : (q : Item × ℕ) → end_at bs at n ≡ Ok q → (count : ℕ) × (q ≡ (end count, at + 6)) × (drop (at + 2) bs ≡ u32_bytes count ++ drop (at + 6) bs)
  last_here q h =
      let c = field_here (λ _. true) (at + 2) n (u32_at bs (at + 2) n) _ q h in
      let k : at + 2 + 4 ≡ at + 6 = omega arith in
      (c.0, sym (ok_same _ _ c.3), u32_here bs (at + 2) n c.0 c.1 ∙ ap (λ x. u32_bytes c.0 ++ drop x bs) k)

  -- a move or the end

  abbrev pub MoveHere : ℕ → Item × ℕ → Type 0
  MoveHere size q = (a : Arc) × (q ≡ (move a.source a.label a.target, at + 7)) × ArcFits size a × (drop at bs ≡ move_bytes a ++ drop (at + 7) bs)

  abbrev pub EndHere : Item × ℕ → Type 0
  EndHere q = (count : ℕ) × (q ≡ (end count, at + 6)) × (drop at bs ≡ end_bytes count ++ drop (at + 6) bs)

  pub tail_here : (size : ℕ) (q : Item × ℕ) → 1 ≤ size → record_at (expects.Tail size) bs at n ≡ Ok q → MoveHere size q ⊎ EndHere q
  tail_here size q low h =
      let m = mark_here (expects.Tail size) q h in
      let mv = bytes_eq m.0 (codes "MV") in
      let rest = cond (bytes_eq m.0 (codes "ZZ")) (end_at bs at n) (Err (Mark n at)) in
      ⊎_elim
      (λ (t : mv ≡ true).
      let im : m.0 ≡ codes "MV" = (bytes_eq-Decides m.0 (codes "MV")).0 t in
      let s = fields_here size q low (sym (cond-true mv (move_at size bs at n) rest t) ∙ m.1) in
      inl (s.0, s.1, s.2, m.2 ∙ ap (λ x. x ++ drop (at + 2) bs) im ∙ ap (λ x. 77 ∷ 86 ∷ x) s.3))
      (λ (t : mv ≡ false).
      let ch = choose_inv (bytes_eq m.0 (codes "ZZ")) (end_at bs at n) _ q (sym (cond-false mv (move_at size bs at n) rest t) ∙ m.1) in
      let im : m.0 ≡ codes "ZZ" = (bytes_eq-Decides m.0 (codes "ZZ")).0 ch.0 in
      let s = last_here q ch.1 in
      inr (s.0, s.1, m.2 ∙ ap (λ x. x ++ drop (at + 2) bs) im ∙ ap (λ x. 90 ∷ 90 ∷ x) s.2))
      (cases_Bool mv)
