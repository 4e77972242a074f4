-- A record that is refused is refused in all bytes that begin alike.

use Rattle.std.proofs.Common.{◌≡◌, ℕ, ◌+◌, ◌*◌, ◌<◌, ◌≤◌, Bool, true, false, cond, ◌&&◌, ltb, leb, List, ◌++◌, length, get_or, take, drop, Ok, Err, codes, Result, sym, refl, ap, ◌∙◌, subst, ⊎_elim, arith}
use Rattle.std.specs.Str.{bytes_eq}
use Rattle.std.proofs.lemmas.List.{get_or-take, take-take, take_at, take-append-drop, drop-take, drop-drop}
use Rattle.std.proofs.lemmas.Bool.{lt-ltb, le-leb, ltb-true, ltb-false, leb-true, leb-false, cond-true, and_parts, and_from, cases_lt, both_ways}
use Rattle.records.specs.declared.ByteFault.{ByteFault}
use Rattle.records.specs.declared.RecordFault.{RecordFault}
use Rattle.records.specs.declared.RecordFault.TheVariants.{Byte, Mark, Field}
use Rattle.records.specs.declared.SheetFault.{SheetFault}
use Rattle.records.specs.declared.SheetFault.TheVariants.{Record, Order, Count, Excess, Room}
use Rattle.records.specs.declared.Expect.{Expect}
use Rattle.records.specs.declared.Expect.TheVariants as expects
use Rattle.records.specs.Faults.{index_of}
use Rattle.records.specs.Fields.{byte_at, u16_at, u32_at, part_at, is_byte, judged, within, below, are_flags, all_printable}
use Rattle.records.specs.Records.{Item, head, state, move, end, next, head_at, state_at, move_at, end_at, marked_by, record_at}
use Rattle.format.specs.Format.{Sheet, Fits, encode, u32_bytes, end_bytes}
use Rattle.format.specs.Blame.{records_of, Good}
use Rattle.format.proofs.Fields.{field_here, choose_inv, ok_same}
use Rattle.format.proofs.Records.{mark_there}

-- bytes that begin alike

abbrev pub Alike : ℕ → List ℕ → List ℕ → Type 0
Alike k bs cs = (k ≤ length bs) × (k ≤ length cs) × (take k cs ≡ take k bs)

pub alike_less : (j k : ℕ) (bs cs : List ℕ) → j ≤ k → Alike k bs cs → Alike j bs cs
alike_less j k bs cs h a =
    let l = a.0 in
    let r = a.1 in
    (omega (arith, l), omega (arith, r), sym (take-take j k cs h) ∙ ap (take j) a.2 ∙ take-take j k bs h)

alike_getD : (k j : ℕ) (bs cs : List ℕ) → j < k → Alike k bs cs → get_or cs j 0 ≡ get_or bs j 0
alike_getD k j bs cs h a = sym (get_or-take k cs j 0 h) ∙ ap (λ x. get_or x j 0) a.2 ∙ get_or-take k bs j 0 h

alike_part : (o w : ℕ) (bs cs : List ℕ) → Alike (o + w) bs cs → take w (drop o cs) ≡ take w (drop o bs)
alike_part o w bs cs a = sym (drop-take o w cs) ∙ ap (drop o) a.2 ∙ drop-take o w bs

-- what stands in one stands in the other
pub alike_drop : (bs cs w : List ℕ) (at to : ℕ) → to ≡ at + length w → Alike to bs cs → drop at bs ≡ w ++ drop to bs → drop at cs ≡ w ++ drop to cs
alike_drop bs cs w at to e a h =
    let b = subst (λ x. Alike x bs cs) e a in
    let p : take (length w) (drop at cs) ≡ w = alike_part at (length w) bs cs b ∙ ap (take (length w)) h ∙ take_at w (drop to bs) (length w) refl in
    sym (take-append-drop (length w) (drop at cs))
    ∙ ap (λ x. x ++ drop (length w) (drop at cs)) p
    ∙ ap (λ x. w ++ x) (drop-drop (length w) at cs ∙ ap (λ x. drop x cs) (sym e))

-- results

abbrev pub Done : {A E : Type 0} → Result A E → Type 0
Done {A} r = (x : A) × (r ≡ Ok x)

pub ok_err : {A E : Type 0} {C : Type 0} (x : A) (e : E) → ◌≡◌ {A = Result A E} (Ok x) (Err e) → C
ok_err x e h = let z : ◌≡◌ {A = ℕ} 0 1 = cc in absurd (omega arith)

pub err_ok : {A E : Type 0} {C : Type 0} (x : A) (e : E) → ◌≡◌ {A = Result A E} (Err e) (Ok x) → C
err_ok x e h = let z : ◌≡◌ {A = ℕ} 0 1 = cc in absurd (omega arith)

pub err_same : {A E : Type 0} (e f : E) → ◌≡◌ {A = Result A E} (Err e) (Err f) → e ≡ f
err_same e f h = cc

pub choose_err : {A E : Type 0} (b : Bool) (x : A) (e f : E) → cond b (Ok x) (Err e) ≡ Err f → (b ≡ false) × (f ≡ e)
choose_err true x e f h = ok_err x f h
choose_err false x e f h = (refl, sym (err_same e f h))

-- a field of `w` bytes at `o` depends on these alone

-- the numbers are bytes
abbrev pub Bytes : List ℕ → Type 0
Bytes bs = (i : ℕ) → get_or bs i 0 < 256

record Local {A : Type 0} (F : List ℕ → Result A ByteFault) (o w i : ℕ) : Type 0 where
  reach : (bs : List ℕ) (v : A) → F bs ≡ Ok v → o + w ≤ length bs
  same : (bs cs : List ℕ) → Alike (o + w) bs cs → F cs ≡ F bs
  short : (bs : List ℕ) (e : ByteFault) → F bs ≡ Err e → (e ≡ record { index = i; offset = o }) × (Bytes bs → length bs < o + w)

byte_local : (o i : ℕ) → Local (λ bs. byte_at bs o i) o 1 i
byte_local o i = record {
  reach = λ bs v h. let p = ltb-true o (length bs) (choose_inv (ltb o (length bs)) (Ok (get_or bs o 0)) _ v h).0 in omega (arith, p);
  same =
      λ bs cs a.
      let l = a.0 in
      let r = a.1 in
      cond-true (ltb o (length cs)) _ _ (lt-ltb o (length cs) (omega (arith, r)))
      ∙ ap (λ x. Ok x) (alike_getD (o + 1) o bs cs (omega arith) a)
      ∙ sym (cond-true (ltb o (length bs)) _ _ (lt-ltb o (length bs) (omega (arith, l))));
  short =
      λ bs e h.
      let p = choose_err (ltb o (length bs)) (get_or bs o 0) _ e h in
      let q = ltb-false o (length bs) p.0 in
      (p.1, λ _. omega (arith, q));
}

byte_reach : (bs : List ℕ) (j : ℕ) → is_byte bs j ≡ true → j < length bs
byte_reach bs j h = ltb-true j (length bs) (and_parts (ltb j (length bs)) (ltb (get_or bs j 0) 256) h).0

byte_same : (k j : ℕ) (bs cs : List ℕ) → j < k → Alike k bs cs → is_byte cs j ≡ is_byte bs j
byte_same k j bs cs h a =
    let l = a.0 in
    let r = a.1 in
    ap (λ b. b && ltb (get_or cs j 0) 256) (lt-ltb j (length cs) (omega (arith, r)) ∙ sym (lt-ltb j (length bs) (omega (arith, l))))
    ∙ ap (λ x. ltb j (length bs) && ltb x 256) (alike_getD k j bs cs h a)

byte_is : (bs : List ℕ) (j : ℕ) → Bytes bs → j < length bs → is_byte bs j ≡ true
byte_is bs j a h = and_from (ltb j (length bs)) (ltb (get_or bs j 0) 256) (lt-ltb j (length bs) h) (lt-ltb (get_or bs j 0) 256 (a j))

u16_local : (o i : ℕ) → Local (λ bs. u16_at bs o i) o 2 i
u16_local o i = record {
  reach =
      λ bs v h.
      let p = choose_inv (is_byte bs o && is_byte bs (o + 1)) (Ok (get_or bs o 0 + 256 * get_or bs (o + 1) 0)) _ v h in
      let q = byte_reach bs (o + 1) (and_parts (is_byte bs o) (is_byte bs (o + 1)) p.0).1 in
      omega (arith, q);
  same =
      λ bs cs a.
      let g0 = alike_getD (o + 2) o bs cs (omega arith) a in
      let g1 = alike_getD (o + 2) (o + 1) bs cs (omega arith) a in
      let b0 = byte_same (o + 2) o bs cs (omega arith) a in
      let b1 = byte_same (o + 2) (o + 1) bs cs (omega arith) a in
      let t : (is_byte cs o && is_byte cs (o + 1)) ≡ (is_byte bs o && is_byte bs (o + 1)) = cc in
      let v : get_or cs o 0 + 256 * get_or cs (o + 1) 0 ≡ get_or bs o 0 + 256 * get_or bs (o + 1) 0 = omega (arith, g0, g1) in
      ap (λ x. cond x (Ok (get_or cs o 0 + 256 * get_or cs (o + 1) 0)) (Err (record { index = i; offset = o }))) t
      ∙ ap (λ x. cond (is_byte bs o && is_byte bs (o + 1)) (Ok x) (Err (record { index = i; offset = o }))) v;
  short =
      λ bs e h.
      let c = is_byte bs o && is_byte bs (o + 1) in
      let p = choose_err c (get_or bs o 0 + 256 * get_or bs (o + 1) 0) _ e h in (
        p.1,
        λ a.
            ⊎_elim
            (λ (l : length bs < o + 2). l)
            (λ (l : o + 2 ≤ length bs). absurd (both_ways c p.0 (and_from _ _ (byte_is bs o a (omega arith)) (byte_is bs (o + 1) a (omega arith)))))
            (cases_lt (length bs) (o + 2)),
      );
}

u32_local : (o i : ℕ) → Local (λ bs. u32_at bs o i) o 4 i
u32_local o i = record {
  reach =
      λ bs v h.
      let p = choose_inv ((is_byte bs o && is_byte bs (o + 1)) && (is_byte bs (o + 2) && is_byte bs (o + 3))) (Ok (get_or bs o 0 + 256 * get_or bs (o + 1) 0 + 65536 * (get_or bs (o + 2) 0 + 256 * get_or bs (o + 3) 0))) _ v h in
      let q = (and_parts (is_byte bs o && is_byte bs (o + 1)) (is_byte bs (o + 2) && is_byte bs (o + 3)) p.0).1 in
      let r = byte_reach bs (o + 3) (and_parts (is_byte bs (o + 2)) (is_byte bs (o + 3)) q).1 in
      omega (arith, r);
  same =
      λ bs cs a.
      let g0 = alike_getD (o + 4) o bs cs (omega arith) a in
      let g1 = alike_getD (o + 4) (o + 1) bs cs (omega arith) a in
      let g2 = alike_getD (o + 4) (o + 2) bs cs (omega arith) a in
      let g3 = alike_getD (o + 4) (o + 3) bs cs (omega arith) a in
      let b0 = byte_same (o + 4) o bs cs (omega arith) a in
      let b1 = byte_same (o + 4) (o + 1) bs cs (omega arith) a in
      let b2 = byte_same (o + 4) (o + 2) bs cs (omega arith) a in
      let b3 = byte_same (o + 4) (o + 3) bs cs (omega arith) a in
      let t : ((is_byte cs o && is_byte cs (o + 1)) && (is_byte cs (o + 2) && is_byte cs (o + 3))) ≡ ((is_byte bs o && is_byte bs (o + 1)) && (is_byte bs (o + 2) && is_byte bs (o + 3))) = cc in
      let v : get_or cs o 0 + 256 * get_or cs (o + 1) 0 + 65536 * (get_or cs (o + 2) 0 + 256 * get_or cs (o + 3) 0) ≡ get_or bs o 0 + 256 * get_or bs (o + 1) 0 + 65536 * (get_or bs (o + 2) 0 + 256 * get_or bs (o + 3) 0) = omega (arith, g0, g1, g2, g3) in
      ap (λ x. cond x (Ok (get_or cs o 0 + 256 * get_or cs (o + 1) 0 + 65536 * (get_or cs (o + 2) 0 + 256 * get_or cs (o + 3) 0))) (Err (record { index = i; offset = o }))) t
      ∙ ap (λ x. cond ((is_byte bs o && is_byte bs (o + 1)) && (is_byte bs (o + 2) && is_byte bs (o + 3))) (Ok x) (Err (record { index = i; offset = o }))) v;
  short =
      λ bs e h.
      let c = (is_byte bs o && is_byte bs (o + 1)) && (is_byte bs (o + 2) && is_byte bs (o + 3)) in
      let p = choose_err c (get_or bs o 0 + 256 * get_or bs (o + 1) 0 + 65536 * (get_or bs (o + 2) 0 + 256 * get_or bs (o + 3) 0)) _ e h in (
        p.1,
        λ a.
            ⊎_elim
            (λ (l : length bs < o + 4). l)
            (λ (l : o + 4 ≤ length bs).
            absurd (both_ways c p.0 (and_from _ _ (and_from _ _ (byte_is bs o a (omega arith)) (byte_is bs (o + 1) a (omega arith))) (and_from _ _ (byte_is bs (o + 2) a (omega arith)) (byte_is bs (o + 3) a (omega arith))))))
            (cases_lt (length bs) (o + 4)),
      );
}

part_local : (len o i : ℕ) → Local (λ bs. part_at len bs o i) o len i
part_local len o i = record {
  reach = λ bs v h. leb-true (o + len) (length bs) (choose_inv (leb (o + len) (length bs)) (Ok (take len (drop o bs))) _ v h).0;
  same =
      λ bs cs a.
      cond-true (leb (o + len) (length cs)) _ _ (le-leb (o + len) (length cs) a.1)
      ∙ ap (λ x. Ok x) (alike_part o len bs cs a)
      ∙ sym (cond-true (leb (o + len) (length bs)) _ _ (le-leb (o + len) (length bs) a.0));
  short =
      λ bs e h.
      let p = choose_err (leb (o + len) (length bs)) (take len (drop o bs)) _ e h in
      (p.1, λ _. leb-false (o + len) (length bs) p.0);
}

-- why a fault is named: the bytes up to `k` decide it

module _ (bs : List ℕ) where
  -- where the record at fault begins, and where the bytes that decide end
  abbrev pub Kind : SheetFault → ℕ → ℕ → Type 0
  Kind (Record (Byte b)) at k = (at ≤ b.offset) × (b.offset ≤ at + 5) × (k ≡ b.offset)
  Kind (Record (Mark i o)) at k = (o ≡ at) × (k ≡ o + 2)
  Kind (Record (Field i o)) at k = (at + 2 ≤ o) × (o ≤ at + 5) × ((w : ℕ) × (w ≤ 16) × (k ≡ o + w))
  Kind (Order i o) at k = (o ≡ at) × (k ≡ o + 7)
  Kind (Count i o) at k = (o ≡ at) × (k ≡ o + 6)
  Kind (Excess i o) at k = (s : Sheet) × Fits s × (encode s ≡ take o bs) × (o < length bs) × (i + 1 ≡ length (records_of s))
  Kind (Room i o) at k = (o ≡ at) × Good (i + 1) k bs

  -- which bytes `cs` are refused too; `t` says that only sheets that fit the tables are meant
  abbrev pub Case : SheetFault → Bool → List ℕ → Type 0
  Case (Record (Byte b)) t cs = Bytes bs × (length cs ≤ length bs)
  Case (Record (Mark i o)) t cs = Unit {0}
  Case (Record (Field i o)) t cs = Unit {0}
  Case (Order i o) t cs = Unit {0}
  Case (Count i o) t cs = Unit {0}
  Case (Excess i o) t cs = ⊥
  Case (Room i o) t cs = t ≡ true

  -- the record `i` at `at` is at fault, and none of the bytes that begin alike go on as `T` says
  abbrev pub Reason : ℕ → ℕ → ℕ → SheetFault → (Bool → List ℕ → Type 0) → Type 0
  Reason i at lo f T =
      (index_of f ≡ i) × (k : ℕ) × (lo ≤ k) × (k ≤ length bs) × Kind f at k
      × ((t : Bool) (cs : List ℕ) → Alike k bs cs → Case f t cs → T t cs → ⊥)

  pub lift : (i at lo to : ℕ) (f : SheetFault) (T U : Bool → List ℕ → Type 0) → lo ≤ to → ((t : Bool) (cs : List ℕ) → Alike to bs cs → U t cs → T t cs) → Reason i at to f T → Reason i at lo f U
  lift i at lo to f T U l g r =
      let k = r.1 in
      let h = r.2 in (
        r.0,
        k,
        omega (arith, h),
        r.3,
        r.4,
        λ t cs a c u. r.5 t cs a c (g t cs (alike_less to k bs cs h a) u),
      )

  -- a field that is taken and judged, and what comes behind it
  module _ {A B : Type 0} (F : List ℕ → Result A ByteFault) (o w i at : ℕ) (L : Local F o w i) (good : A → Bool) (K : A → List ℕ → Result B RecordFault) (e : RecordFault) (small : w ≤ 16) (from : at ≤ o) (upto : o ≤ at + 5) (unmarked : (v : A) → good v ≡ false → at + 2 ≤ o) (reached : o ≤ length bs) where
    abbrev Goes : List ℕ → Result B RecordFault
    Goes cs = next (judged good o i (F cs)) (λ v. K v cs)

    goes_inv : (cs : List ℕ) → Done (Goes cs) → (v : A) × (F cs ≡ Ok v) × (good v ≡ true) × Done (K v cs)
    goes_inv cs d =
        let p = field_here good o i (F cs) (λ v. K v cs) d.0 d.1 in
        (p.0, p.1, p.2, (d.0, p.3))

    step_short : (b : ByteFault) → F bs ≡ Err b → Byte b ≡ e → Reason i at o (Record e) (λ t cs. Done (Goes cs))
    step_short b h m =
        let s = L.short bs b h in
        let r : Reason i at o (Record (Byte (record { index = i; offset = o }))) (λ t cs. Done (Goes cs)) = (
          refl,
          o,
          omega arith,
          reached,
          (from, upto, refl),
          λ t cs a c u.
              let v = goes_inv cs u in
              let x = L.reach cs v.0 v.1 in
              let y = s.1 c.0 in
              let z = c.1 in
              omega (arith, x, y, z),
        ) in
        subst (λ x. Reason i at o (Record x) (λ t cs. Done (Goes cs))) (ap (λ x. Byte x) (sym s.0) ∙ m) r

    step_judged : (v : A) → F bs ≡ Ok v → (b : Bool) → good v ≡ b → ((good v ≡ true) → o + w ≤ length bs → K v bs ≡ Err e → Reason i at (o + w) (Record e) (λ t cs. Done (K v cs))) → next (cond b (Ok v) (Err (Field i o))) (λ v. K v bs) ≡ Err e → Reason i at o (Record e) (λ t cs. Done (Goes cs))
    step_judged v h true g more m =
        lift i at o (o + w) (Record e) (λ t cs. Done (K v cs)) (λ t cs. Done (Goes cs)) (omega arith)
        (λ t cs a u.
        let p = goes_inv cs u in
        let q : v ≡ p.0 = ok_same _ _ (sym (L.same bs cs a ∙ h) ∙ p.1) in
        subst (λ x. Done (K x cs)) (sym q) p.3)
        (more g (L.reach bs v h) m)
    step_judged v h false g more m =
        let r : Reason i at o (Record (Field i o)) (λ t cs. Done (Goes cs)) = (
          refl,
          o + w,
          omega arith,
          L.reach bs v h,
          (unmarked v g, upto, (w, small, refl)),
          λ t cs a c u.
              let p = goes_inv cs u in
              let q : v ≡ p.0 = ok_same _ _ (sym (L.same bs cs a ∙ h) ∙ p.1) in
              both_ways (good v) g (ap good q ∙ p.2),
        ) in
        subst (λ x. Reason i at o (Record x) (λ t cs. Done (Goes cs))) (err_same _ _ m) r

    step_taken : (r : Result A ByteFault) → F bs ≡ r → ((v : A) → F bs ≡ Ok v → good v ≡ true → o + w ≤ length bs → K v bs ≡ Err e → Reason i at (o + w) (Record e) (λ t cs. Done (K v cs))) → next (judged good o i r) (λ v. K v bs) ≡ Err e → Reason i at o (Record e) (λ t cs. Done (Goes cs))
    step_taken (Ok v) h more m = step_judged v h (good v) refl (more v h) m
    step_taken (Err b) h more m = step_short b h (err_same _ _ m)

    step : (to : ℕ) → to ≡ o + w → ((v : A) → F bs ≡ Ok v → good v ≡ true → to ≤ length bs → K v bs ≡ Err e → Reason i at to (Record e) (λ t cs. Done (K v cs))) → Goes bs ≡ Err e → Reason i at o (Record e) (λ t cs. Done (Goes cs))
    step to q more m = step_taken (F bs) refl (subst (λ x. (v : A) → F bs ≡ Ok v → good v ≡ true → x ≤ length bs → K v bs ≡ Err e → Reason i at x (Record e) (λ t cs. Done (K v cs))) q more) m

  -- each record

  module _ (at i : ℕ) (e : RecordFault) where
    abbrev Refused : ℕ → (List ℕ → Result (Item × ℕ) RecordFault) → Type 0
    Refused lo R = R bs ≡ Err e → Reason i at lo (Record e) (λ t cs. Done (R cs))

    head_wrong : at + 2 ≤ length bs → Refused (at + 2) (λ cs. head_at cs at i)
    head_wrong l =
        step (λ cs. byte_at cs (at + 2) i) (at + 2) 1 i at (byte_local (at + 2) i) (within 1 1) (λ _ cs. next (judged (within 1 4096) (at + 3) i (u16_at cs (at + 3) i)) (λ size. Ok (head size, at + 5))) e (omega arith) (omega arith) (omega arith) (λ _ _. omega arith) l
        (at + 3) (omega arith)
        (λ v _ _ l1.
        step (λ cs. u16_at cs (at + 3) i) (at + 3) 2 i at (u16_local (at + 3) i) (within 1 4096) (λ size cs. Ok (head size, at + 5)) e (omega arith) (omega arith) (omega arith) (λ _ _. omega arith) l1
        (at + 5) (omega arith)
        (λ size _ _ _ m. ok_err _ e m))

    state_wrong : at + 2 ≤ length bs → Refused (at + 2) (λ cs. state_at cs at i)
    state_wrong l =
        step (λ cs. byte_at cs (at + 2) i) (at + 2) 1 i at (byte_local (at + 2) i) are_flags (λ flags cs. next (judged (within 0 16) (at + 3) i (byte_at cs (at + 3) i)) (λ len. next (judged all_printable (at + 4) i (part_at len cs (at + 4) i)) (λ name. Ok (state flags (at + 4) name, at + 4 + len)))) e (omega arith) (omega arith) (omega arith) (λ _ _. omega arith) l
        (at + 3) (omega arith)
        (λ flags _ _ l1.
        step (λ cs. byte_at cs (at + 3) i) (at + 3) 1 i at (byte_local (at + 3) i) (within 0 16) (λ len cs. next (judged all_printable (at + 4) i (part_at len cs (at + 4) i)) (λ name. Ok (state flags (at + 4) name, at + 4 + len))) e (omega arith) (omega arith) (omega arith) (λ _ _. omega arith) l1
        (at + 4) (omega arith)
        (λ len _ g l2.
        let b = leb-true len 16 (and_parts (leb 0 len) (leb len 16) g).1 in
        step (λ cs. part_at len cs (at + 4) i) (at + 4) len i at (part_local len (at + 4) i) all_printable (λ name cs. Ok (state flags (at + 4) name, at + 4 + len)) e b (omega arith) (omega arith) (λ _ _. omega arith) l2
        (at + 4 + len) refl
        (λ name _ _ _ m. ok_err _ e m)))

    move_wrong : (size : ℕ) → at + 2 ≤ length bs → Refused (at + 2) (λ cs. move_at size cs at i)
    move_wrong size l =
        step (λ cs. u16_at cs (at + 2) i) (at + 2) 2 i at (u16_local (at + 2) i) (below size) (λ source cs. next (judged (within 0 63) (at + 4) i (byte_at cs (at + 4) i)) (λ label. next (judged (below size) (at + 5) i (u16_at cs (at + 5) i)) (λ target. Ok (move source label target, at + 7)))) e (omega arith) (omega arith) (omega arith) (λ _ _. omega arith) l
        (at + 4) (omega arith)
        (λ source _ _ l1.
        step (λ cs. byte_at cs (at + 4) i) (at + 4) 1 i at (byte_local (at + 4) i) (within 0 63) (λ label cs. next (judged (below size) (at + 5) i (u16_at cs (at + 5) i)) (λ target. Ok (move source label target, at + 7))) e (omega arith) (omega arith) (omega arith) (λ _ _. omega arith) l1
        (at + 5) (omega arith)
        (λ label _ _ l2.
        step (λ cs. u16_at cs (at + 5) i) (at + 5) 2 i at (u16_local (at + 5) i) (below size) (λ target cs. Ok (move source label target, at + 7)) e (omega arith) (omega arith) (omega arith) (λ _ _. omega arith) l2
        (at + 7) (omega arith)
        (λ target _ _ _ m. ok_err _ e m)))

    end_wrong : at + 2 ≤ length bs → Refused (at + 2) (λ cs. end_at cs at i)
    end_wrong l =
        step (λ cs. u32_at cs (at + 2) i) (at + 2) 4 i at (u32_local (at + 2) i) (λ _. true) (λ count cs. Ok (end count, at + 6)) e (omega arith) (omega arith) (omega arith) (λ _ _. omega arith) l
        (at + 6) (omega arith)
        (λ count _ _ _ m. ok_err _ e m)

    mark_wrong : at + 2 ≤ length bs → Refused (at + 2) (λ cs. Err (Mark i at))
    mark_wrong l m =
        let r : Reason i at (at + 2) (Record (Mark i at)) (λ t cs. Done {A = Item × ℕ} {E = RecordFault} (Err (Mark i at))) = (refl, at + 2, omega arith, l, (refl, refl), λ t cs a c u. err_ok u.0 _ u.1) in
        subst (λ x. Reason i at (at + 2) (Record x) (λ t cs. Done {A = Item × ℕ} {E = RecordFault} (Err (Mark i at)))) (err_same _ _ m) r

    either : (b : Bool) (R S : List ℕ → Result (Item × ℕ) RecordFault) → Refused (at + 2) R → Refused (at + 2) S → Refused (at + 2) (λ cs. cond b (R cs) (S cs))
    either true R S r s = r
    either false R S r s = s

    marked_wrong : (x : Expect) (m : List ℕ) → at + 2 ≤ length bs → Refused (at + 2) (λ cs. marked_by x m cs at i)
    marked_wrong expects.Head m l = either (bytes_eq m (codes "SH")) (λ cs. head_at cs at i) (λ cs. Err (Mark i at)) (head_wrong l) (mark_wrong l)
    marked_wrong expects.State m l = either (bytes_eq m (codes "ST")) (λ cs. state_at cs at i) (λ cs. Err (Mark i at)) (state_wrong l) (mark_wrong l)
    marked_wrong (expects.Tail size) m l =
        either (bytes_eq m (codes "MV")) (λ cs. move_at size cs at i) (λ cs. cond (bytes_eq m (codes "ZZ")) (end_at cs at i) (Err (Mark i at)))
        (move_wrong size l)
        (either (bytes_eq m (codes "ZZ")) (λ cs. end_at cs at i) (λ cs. Err (Mark i at)) (end_wrong l) (mark_wrong l))

    pub record_wrong : (x : Expect) → at ≤ length bs → Refused at (λ cs. record_at x cs at i)
    record_wrong x l =
        step (λ cs. part_at 2 cs at i) at 2 i at (part_local 2 at i) (λ _. true) (λ m cs. marked_by x m cs at i) e (omega arith) (omega arith) (omega arith) (λ _ h. absurd (both_ways true h refl)) l
        (at + 2) refl
        (λ m _ _ l1. marked_wrong x m l1)

-- the end of a sheet is read alike
pub end_same : (bs cs : List ℕ) (at n size count : ℕ) → Alike (at + 6) bs cs → drop at bs ≡ end_bytes count ++ drop (at + 6) bs → record_at (expects.Tail size) cs at n ≡ record_at (expects.Tail size) bs at n
end_same bs cs at n size count a h =
    let d = alike_drop bs cs (end_bytes count) at (at + 6) refl a h in
    let b = (mark_there bs at n (expects.Tail size) 90 90 (u32_bytes count ++ drop (at + 6) bs) h).0 in
    let c = (mark_there cs at n (expects.Tail size) 90 90 (u32_bytes count ++ drop (at + 6) cs) d).0 in
    let u : u32_at cs (at + 2) n ≡ u32_at bs (at + 2) n = (u32_local (at + 2) n).same bs cs (alike_less (at + 2 + 4) (at + 6) bs cs (omega arith) a) in
    c ∙ ap (λ r. next (judged (λ _. true) (at + 2) n r) (λ count. Ok (end count, at + 6))) u ∙ sym b
