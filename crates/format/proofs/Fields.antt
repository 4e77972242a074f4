-- A field stands in the bytes exactly if it is read.

use Rattle.std.proofs.Common.{◌≡◌, ℕ, ◌+◌, ◌-◌, ◌*◌, ◌/◌, ◌%◌, ◌<◌, ◌≤◌, Bool, true, false, cond, ◌&&◌, ltb, leb, List, [], ◌∷◌, ◌++◌, length, get_or, take, drop, Ok, Err, Result, sym, refl, ap, ◌∙◌, mod-lt, mod-eq_of_lt, div-lt_iff_lt-mul, arith, length-append, length-drop}
use native.Mathlib.Nat.{add-mul-mod_self_left, add-mul-div_left, div-eq_of_lt, mod-add-div}
use Rattle.std.proofs.lemmas.List.{get_or-drop, drop-drop, drop_more, drop_at, take_at, take-append-drop, length-take-le}
use Rattle.std.proofs.lemmas.Bool.{lt-ltb, le-leb, ltb-true, leb-true, cond-true, and_parts, and_from}
use Rattle.records.specs.declared.ByteFault.{ByteFault}
use Rattle.records.specs.declared.RecordFault.{RecordFault}
use Rattle.records.specs.Fields.{byte_at, u16_at, u32_at, part_at, is_byte, judged}
use Rattle.records.specs.Records.{next}
use Rattle.format.specs.Format.{u16_bytes, u32_bytes}

-- results

pub next_ok : {A B E : Type 0} {r : Result A E} {a : A} (f : A → Result B E) → r ≡ Ok a → next r f ≡ f a
next_ok f h = ap (λ r. next r f) h

pub next_inv : {A B E : Type 0} (r : Result A E) (f : A → Result B E) (x : B) → next r f ≡ Ok x → (a : A) × (r ≡ Ok a) × (f a ≡ Ok x)
next_inv (Ok a) f x h = (a, refl, h)
next_inv (Err e) f x h = let z : ◌≡◌ {A = ℕ} 0 1 = cc in absurd (omega arith)

pub choose_inv : {A E : Type 0} (b : Bool) (r : Result A E) (e : E) (x : A) → cond b r (Err e) ≡ Ok x → (b ≡ true) × (r ≡ Ok x)
choose_inv true r e x h = (refl, h)
choose_inv false r e x h = let z : ◌≡◌ {A = ℕ} 0 1 = cc in absurd (omega arith)

pub ok_same : {A E : Type 0} (x y : A) → ◌≡◌ {A = Result A E} (Ok x) (Ok y) → x ≡ y
ok_same x y h = cc

pub field_ok : {A : Type 0} {r : Result A ByteFault} {v : A} (ok : A → Bool) (at n : ℕ) → r ≡ Ok v → ok v ≡ true → judged ok at n r ≡ Ok v
field_ok {v = v} ok at n h t = ap (judged ok at n) h ∙ cond-true (ok v) _ _ t

pub field_inv : {A : Type 0} (ok : A → Bool) (at n : ℕ) (r : Result A ByteFault) (v : A) → judged ok at n r ≡ Ok v → (r ≡ Ok v) × (ok v ≡ true)
field_inv ok at n (Ok w) v h = let p = choose_inv (ok w) (Ok w) _ v h in (ap (λ x. Ok x) (ok_same w v p.1), ap ok (sym (ok_same w v p.1)) ∙ p.0)
field_inv ok at n (Err e) v h = let z : ◌≡◌ {A = ℕ} 0 1 = cc in absurd (omega arith)

-- a field that was taken and judged, and what came of it
pub field_here : {A B : Type 0} (ok : A → Bool) (at n : ℕ) (r : Result A ByteFault) (f : A → Result B RecordFault) (x : B) → next (judged ok at n r) f ≡ Ok x → (v : A) × (r ≡ Ok v) × (ok v ≡ true) × (f v ≡ Ok x)
field_here ok at n r f x h =
    let a = next_inv (judged ok at n r) f x h in
    let b = field_inv ok at n r a.0 a.1 in
    (a.0, b.0, b.1, a.2)

-- numbers

low_byte : (a b : ℕ) → a < 256 → (a + 256 * b) % 256 ≡ a
low_byte a b h = add-mul-mod_self_left a 256 b ∙ mod-eq_of_lt h

high_byte : (a b : ℕ) → a < 256 → (a + 256 * b) / 256 ≡ b
high_byte a b h = add-mul-div_left a b (omega arith) ∙ ap (λ k. k + b) (div-eq_of_lt h) ∙ omega arith

low_half : (a b : ℕ) → a < 65536 → (a + 65536 * b) % 65536 ≡ a
low_half a b h = add-mul-mod_self_left a 65536 b ∙ mod-eq_of_lt h

high_half : (a b : ℕ) → a < 65536 → (a + 65536 * b) / 65536 ≡ b
high_half a b h = add-mul-div_left a b (omega arith) ∙ ap (λ k. k + b) (div-eq_of_lt h) ∙ omega arith

u16_bytes_of : (a b : ℕ) → a < 256 → u16_bytes (a + 256 * b) ≡ a ∷ b ∷ []
u16_bytes_of a b h = ap (λ x. x ∷ (a + 256 * b) / 256 ∷ []) (low_byte a b h) ∙ ap (λ x. a ∷ x ∷ []) (high_byte a b h)

u32_bytes_of : (a b c d : ℕ) → a < 256 → b < 256 → c < 256 → u32_bytes (a + 256 * b + 65536 * (c + 256 * d)) ≡ a ∷ b ∷ c ∷ d ∷ []
u32_bytes_of a b c d h k l =
    let x = a + 256 * b in
    let y = c + 256 * d in
    let s : x < 65536 = omega arith in
    ap (λ v. u16_bytes v ++ u16_bytes ((x + 65536 * y) / 65536)) (low_half x y s)
    ∙ ap (λ v. u16_bytes x ++ u16_bytes v) (high_half x y s)
    ∙ ap (λ v. v ++ u16_bytes y) (u16_bytes_of a b h)
    ∙ ap (λ v. a ∷ b ∷ v) (u16_bytes_of c d l)

high_small : (n : ℕ) → n < 65536 → n / 256 < 256
high_small n h = (div-lt_iff_lt-mul {k = 256} {x = n} {y = 256} (omega arith)).1 (omega arith)

high_part : (n : ℕ) → n < 4294967296 → n / 65536 < 65536
high_part n h = (div-lt_iff_lt-mul {k = 65536} {x = n} {y = 65536} (omega arith)).1 (omega arith)

-- a field stands there exactly if it is read

module _ (bs : List ℕ) (at : ℕ) where
  pub skip : (w rest : List ℕ) → drop at bs ≡ w ++ rest → drop (at + length w) bs ≡ rest
  skip w rest h = sym (drop-drop (length w) at bs) ∙ ap (drop (length w)) h ∙ drop_at w rest (length w) refl

  reach : (xs : List ℕ) → drop at bs ≡ xs → length xs ≡ length bs - at
  reach xs here = ap length (sym here) ∙ length-drop at bs

  byte_fits : (b : ℕ) (rest : List ℕ) → drop at bs ≡ b ∷ rest → (at < length bs) × (get_or bs at 0 ≡ b) × (drop (at + 1) bs ≡ rest)
  byte_fits b rest h =
      let z : at + 0 ≡ at = omega arith in (
        omega (arith, reach (b ∷ rest) h),
        ap (λ k. get_or bs k 0) (sym z) ∙ sym (get_or-drop at bs 0 0) ∙ ap (λ l. get_or l 0 0) h,
        skip (b ∷ []) rest h,
      )

  one : at < length bs → drop at bs ≡ get_or bs at 0 ∷ drop (at + 1) bs
  one h = drop_more bs at 0 h

pub byte_there : (bs : List ℕ) (at n b : ℕ) (rest : List ℕ) → drop at bs ≡ b ∷ rest → byte_at bs at n ≡ Ok b
byte_there bs at n b rest h =
    let p = byte_fits bs at b rest h in
    cond-true (ltb at (length bs)) _ _ (lt-ltb at (length bs) p.0) ∙ ap (λ x. Ok x) p.1

pub byte_here : (bs : List ℕ) (at n b : ℕ) → byte_at bs at n ≡ Ok b → drop at bs ≡ b ∷ drop (at + 1) bs
byte_here bs at n b h =
    let p = choose_inv (ltb at (length bs)) (Ok (get_or bs at 0)) _ b h in
    one bs at (ltb-true at (length bs) p.0) ∙ ap (λ x. x ∷ drop (at + 1) bs) (ok_same _ _ p.1)

byte_small : (bs : List ℕ) (at b : ℕ) (rest : List ℕ) → b < 256 → drop at bs ≡ b ∷ rest → is_byte bs at ≡ true
byte_small bs at b rest l h =
    let p = byte_fits bs at b rest h in
    and_from (ltb at (length bs)) (ltb (get_or bs at 0) 256) (lt-ltb at (length bs) p.0) (lt-ltb (get_or bs at 0) 256 (omega (arith, p.1)))

byte_is : (bs : List ℕ) (at : ℕ) → is_byte bs at ≡ true → (get_or bs at 0 < 256) × (drop at bs ≡ get_or bs at 0 ∷ drop (at + 1) bs)
byte_is bs at h =
    let p = and_parts (ltb at (length bs)) (ltb (get_or bs at 0) 256) h in
    (ltb-true (get_or bs at 0) 256 p.1, one bs at (ltb-true at (length bs) p.0))

pub u16_there : (bs : List ℕ) (at n v : ℕ) (rest : List ℕ) → v < 65536 → drop at bs ≡ u16_bytes v ++ rest → u16_at bs at n ≡ Ok v
u16_there bs at n v rest l h =
    let p = byte_fits bs at (v % 256) (v / 256 ∷ rest) h in
    let q = byte_fits bs (at + 1) (v / 256) rest p.2 in
    let t = byte_small bs at (v % 256) (v / 256 ∷ rest) (mod-lt v (omega arith)) h in
    let u = byte_small bs (at + 1) (v / 256) rest (high_small v l) p.2 in
    cond-true (is_byte bs at && is_byte bs (at + 1)) _ _ (and_from _ _ t u)
    ∙ ap (λ x. Ok (x + 256 * get_or bs (at + 1) 0)) p.1
    ∙ ap (λ x. Ok (v % 256 + 256 * x)) q.1
    ∙ ap (λ x. Ok x) (mod-add-div v 256)

pub u16_here : (bs : List ℕ) (at n v : ℕ) → u16_at bs at n ≡ Ok v → drop at bs ≡ u16_bytes v ++ drop (at + 2) bs
u16_here bs at n v h =
    let p = choose_inv (is_byte bs at && is_byte bs (at + 1)) (Ok (get_or bs at 0 + 256 * get_or bs (at + 1) 0)) _ v h in
    let t = and_parts (is_byte bs at) (is_byte bs (at + 1)) p.0 in
    let a = byte_is bs at t.0 in
    let b = byte_is bs (at + 1) t.1 in
    let k : at + 1 + 1 ≡ at + 2 = omega arith in
    a.1
    ∙ ap (λ x. get_or bs at 0 ∷ x) b.1
    ∙ ap (λ x. get_or bs at 0 ∷ get_or bs (at + 1) 0 ∷ drop x bs) k
    ∙ ap (λ x. x ++ drop (at + 2) bs) (sym (u16_bytes_of (get_or bs at 0) (get_or bs (at + 1) 0) a.0) ∙ ap u16_bytes (ok_same _ _ p.1))

pub u32_there : (bs : List ℕ) (at n v : ℕ) (rest : List ℕ) → v < 4294967296 → drop at bs ≡ u32_bytes v ++ rest → u32_at bs at n ≡ Ok v
u32_there bs at n v rest l h =
    let x = v % 65536 in
    let y = v / 65536 in
    let lx : x < 65536 = mod-lt v (omega arith) in
    let ly : y < 65536 = high_part v l in
    let p = byte_fits bs at (x % 256) (x / 256 ∷ (u16_bytes y ++ rest)) h in
    let q = byte_fits bs (at + 1) (x / 256) (u16_bytes y ++ rest) p.2 in
    let k : at + 1 + 1 ≡ at + 2 = omega arith in
    let hr : drop (at + 2) bs ≡ u16_bytes y ++ rest = ap (λ i. drop i bs) (sym k) ∙ q.2 in
    let r = byte_fits bs (at + 2) (y % 256) (y / 256 ∷ rest) hr in
    let m : at + 2 + 1 ≡ at + 3 = omega arith in
    let hs : drop (at + 3) bs ≡ y / 256 ∷ rest = ap (λ i. drop i bs) (sym m) ∙ r.2 in
    let s = byte_fits bs (at + 3) (y / 256) rest hs in
    let tp = byte_small bs at _ _ (mod-lt x (omega arith)) h in
    let tq = byte_small bs (at + 1) _ _ (high_small x lx) p.2 in
    let tr = byte_small bs (at + 2) _ _ (mod-lt y (omega arith)) hr in
    let ts = byte_small bs (at + 3) _ _ (high_small y ly) hs in
    cond-true ((is_byte bs at && is_byte bs (at + 1)) && (is_byte bs (at + 2) && is_byte bs (at + 3))) _ _ (and_from _ _ (and_from _ _ tp tq) (and_from _ _ tr ts))
    ∙ ap (λ i. Ok (i + 256 * get_or bs (at + 1) 0 + 65536 * (get_or bs (at + 2) 0 + 256 * get_or bs (at + 3) 0))) p.1
    ∙ ap (λ i. Ok (x % 256 + 256 * i + 65536 * (get_or bs (at + 2) 0 + 256 * get_or bs (at + 3) 0))) q.1
    ∙ ap (λ i. Ok (x % 256 + 256 * (x / 256) + 65536 * (i + 256 * get_or bs (at + 3) 0))) r.1
    ∙ ap (λ i. Ok (x % 256 + 256 * (x / 256) + 65536 * (y % 256 + 256 * i))) s.1
    ∙ ap (λ i. Ok (i + 65536 * (y % 256 + 256 * (y / 256)))) (mod-add-div x 256)
    ∙ ap (λ i. Ok (x + 65536 * i)) (mod-add-div y 256)
    ∙ ap (λ i. Ok i) (mod-add-div v 65536)

pub u32_here : (bs : List ℕ) (at n v : ℕ) → u32_at bs at n ≡ Ok v → drop at bs ≡ u32_bytes v ++ drop (at + 4) bs
u32_here bs at n v h =
    let p = choose_inv ((is_byte bs at && is_byte bs (at + 1)) && (is_byte bs (at + 2) && is_byte bs (at + 3))) (Ok (get_or bs at 0 + 256 * get_or bs (at + 1) 0 + 65536 * (get_or bs (at + 2) 0 + 256 * get_or bs (at + 3) 0))) _ v h in
    let t = and_parts (is_byte bs at && is_byte bs (at + 1)) (is_byte bs (at + 2) && is_byte bs (at + 3)) p.0 in
    let t1 = and_parts (is_byte bs at) (is_byte bs (at + 1)) t.0 in
    let t2 = and_parts (is_byte bs (at + 2)) (is_byte bs (at + 3)) t.1 in
    let a = byte_is bs at t1.0 in
    let b = byte_is bs (at + 1) t1.1 in
    let c = byte_is bs (at + 2) t2.0 in
    let d = byte_is bs (at + 3) t2.1 in
    let k : at + 1 + 1 ≡ at + 2 = omega arith in
    let m : at + 2 + 1 ≡ at + 3 = omega arith in
    let q : at + 3 + 1 ≡ at + 4 = omega arith in
    let b1 = get_or bs at 0 in
    let b2 = get_or bs (at + 1) 0 in
    let b3 = get_or bs (at + 2) 0 in
    let b4 = get_or bs (at + 3) 0 in
    a.1
    ∙ ap (λ x. b1 ∷ x) (b.1 ∙ ap (λ i. b2 ∷ drop i bs) k)
    ∙ ap (λ x. b1 ∷ b2 ∷ x) (c.1 ∙ ap (λ i. b3 ∷ drop i bs) m)
    ∙ ap (λ x. b1 ∷ b2 ∷ b3 ∷ x) (d.1 ∙ ap (λ i. b4 ∷ drop i bs) q)
    ∙ ap (λ x. x ++ drop (at + 4) bs) (sym (u32_bytes_of b1 b2 b3 b4 a.0 b.0 c.0) ∙ ap u32_bytes (ok_same _ _ p.1))

pub part_there : (bs : List ℕ) (at n : ℕ) (w rest : List ℕ) → at ≤ length bs → drop at bs ≡ w ++ rest → part_at (length w) bs at n ≡ Ok w
part_there bs at n w rest l h =
    cond-true (leb (at + length w) (length bs)) _ _ (le-leb (at + length w) (length bs) (omega (arith, reach bs at (w ++ rest) h, length-append w rest)))
    ∙ ap (λ y. Ok (take (length w) y)) h
    ∙ ap (λ y. Ok y) (take_at w rest (length w) refl)

pub part_here : (len : ℕ) (bs : List ℕ) (at n : ℕ) (w : List ℕ) → part_at len bs at n ≡ Ok w → (length w ≡ len) × (drop at bs ≡ w ++ drop (at + len) bs) × (at + len ≤ length bs)
part_here len bs at n w h =
    let p = choose_inv (leb (at + len) (length bs)) (Ok (take len (drop at bs))) _ w h in
    let l = leb-true (at + len) (length bs) p.0 in
    let e = ok_same _ _ p.1 in (
      ap length (sym e) ∙ length-take-le len (drop at bs) (rw length-drop (omega (arith, l))),
      sym (take-append-drop len (drop at bs)) ∙ ap (λ x. x ++ drop len (drop at bs)) e ∙ ap (λ x. w ++ x) (drop-drop len at bs),
      l,
    )
