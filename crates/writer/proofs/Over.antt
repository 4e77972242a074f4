-- Bytes written over a list, one part behind another.

use Rattle.std.proofs.Common.{◌≡◌, ℕ, ◌+◌, ◌-◌, ◌<◌, ◌≤◌, List, [], ◌++◌, length, take, drop, get_or, sym, ap, ◌∙◌, append_assoc, arith, length-append, length-drop}
use borrow.Rule.Slice.PartMut.{put_mid, post_of}
use Rattle.std.proofs.lemmas.List.{take_at, drop_at, drop-drop, drop_all, take_all, append-nil, take_more, flat_map_more}
use Rattle.std.specs.List.{flat_map}
use Rattle.std.proofs.lemmas.List.Folds.{length-flat_map-take}
use Rattle.format.specs.Writing.{over, put}

-- a tail lent on: the record stands from `at` on, and nothing else changes
put_from_tail : (w out last : List ℕ) (at : ℕ) → at + length w ≤ length out → last ≡ over w (take (length out - at) (drop at out)) → put_mid at (length out - at) out last ≡ put at w out
put_from_tail w out last at h q =
    let n : length (drop at out) ≡ length out - at = length-drop at out in
    let t : take (length out - at) (drop at out) ≡ drop at out = take_all (length out - at) (drop at out) (omega arith) in
    let z : post_of at (length out - at) out ≡ [] = drop_all (length out - at) (drop at out) (omega arith) in
    let s : last ≡ w ++ drop (at + length w) out = q ∙ ap (over w) t ∙ ap (λ x. w ++ x) (drop-drop (length w) at out) in
    ap (λ x. take at out ++ (last ++ x)) z ∙ ap (λ x. take at out ++ x) (append-nil last ∙ s)

-- behind what stands at the front
put_behind : (w v out : List ℕ) → length (w ++ v) ≤ length out → put (length w) v (over w out) ≡ over (w ++ v) out
put_behind w v out h =
    let n = length w in
    let t : take n (over w out) ≡ w = take_at w (drop n out) n (omega arith) in
    let d : drop (n + length v) (over w out) ≡ drop (n + length v) out = sym (drop-drop (length v) n (over w out)) ∙ ap (drop (length v)) (drop_at w (drop n out) n (omega arith)) ∙ drop-drop (length v) n out in
    ap (λ x. x ++ (v ++ drop (n + length v) (over w out))) t
    ∙ ap (λ x. w ++ (v ++ x)) (d ∙ ap (λ k. drop k out) (sym (length-append w v)))
    ∙ sym (append_assoc w v (drop (length (w ++ v)) out))

-- so far `w` is written, which makes `at` bytes
pub record Filled (w : List ℕ) (at : ℕ) (before out : List ℕ) : Type 0 where
  pub counted : at ≡ length w
  pub written : out ≡ over w before

same_length : (w before out : List ℕ) (at : ℕ) → Filled w at before out → length w ≤ length before → length out ≡ length before
same_length w before out at f h =
    let n : length (over w before) ≡ length w + length (drop (length w) before) = length-append w (drop (length w) before) in
    omega (arith, ap length f.written, n, length-drop (length w) before)

-- what is lent on has room for what comes behind
pub room : (w v before out : List ℕ) (at : ℕ) → Filled w at before out → length (w ++ v) ≤ length before → length v ≤ length (take (length out - at) (drop at out))
room w v before out at f h =
    let c = f.counted in
    let n = same_length w before out at f (omega (arith, h, length-append w v)) in
    let l : length (drop at out) ≡ length out - at = length-drop at out in
    let t : take (length out - at) (drop at out) ≡ drop at out = take_all (length out - at) (drop at out) (omega arith) in
    omega (arith, c, l, n, ap length t, length-append w v)

-- `v` behind it, by one that was lent the rest, makes `next`
pub more : (w v next before out last : List ℕ) (at n : ℕ) → Filled w at before out → w ++ v ≡ next → length next ≤ length before → n ≡ length v → last ≡ over v (take (length out - at) (drop at out)) → Filled next (at + n) before (put_mid at (length out - at) out last)
more w v next before out last at n f e h m q =
    let c = f.counted in
    let j : length w + length v ≡ length next = sym (length-append w v) ∙ ap length e in
    let l = same_length w before out at f (omega (arith, h, j)) in
    record {
      counted = omega (arith, c, m, j);
      written = put_from_tail v out last at (omega (arith, c, l, h, j)) q ∙ ap (λ k. put k v out) c ∙ ap (put (length w) v) f.written ∙ put_behind w v before (omega (arith, h, ap length e)) ∙ ap (λ x. over x before) e;
    }

-- the bytes of the items so far
module _ {X : Type 0} (f : X → List ℕ) (xs : List X) (d : X) (i at : ℕ) (before out : List ℕ) (lt : i < length xs) (so_far : Filled (flat_map f (take i xs)) at before out) (fits : length (flat_map f xs) ≤ length before) where
  abbrev item : List ℕ
  item = f (get_or xs i d)

  within : length (flat_map f (take i xs) ++ item) ≤ length before
  within = omega (arith, fits, length-flat_map-take f xs i d lt, length-append (flat_map f (take i xs)) item)

  one_more : flat_map f (take i xs) ++ item ≡ flat_map f (take (i + 1) xs)
  one_more = flat_map_more f [] (take i xs) (get_or xs i d) ∙ ap (flat_map f) (sym (take_more xs i d lt))

  pub room_next : length item ≤ length (take (length out - at) (drop at out))
  room_next = room (flat_map f (take i xs)) item before out at so_far within

  pub reach_next : at + length item ≤ length out
  reach_next =
      let n = same_length (flat_map f (take i xs)) before out at so_far (omega (arith, within, length-append (flat_map f (take i xs)) item)) in
      omega (arith, so_far.counted, within, n, length-append (flat_map f (take i xs)) item)

  pub more_next : (last : List ℕ) (n : ℕ) → n ≡ length item → last ≡ over item (take (length out - at) (drop at out)) → Filled (flat_map f (take (i + 1) xs)) (at + n) before (put_mid at (length out - at) out last)
  more_next last n e q = more (flat_map f (take i xs)) item (flat_map f (take (i + 1) xs)) before out last at n so_far one_more (omega (arith, within, ap length one_more)) e q

  -- by a copy
  pub copied_next : (last : List ℕ) (end : ℕ) → end ≡ at + length item → last ≡ item → Filled (flat_map f (take (i + 1) xs)) end before (put_mid at (end - at) out last)
  copied_next last end e q =
      let w = flat_map f (take i xs) in
      let c = so_far.counted in
      let k : end - at ≡ length item = omega (arith, e) in
      record {
        counted = omega (arith, c, e, length-append w item, ap length one_more);
        written =
            ap (λ x. put_mid at (end - at) out x) q
            ∙ ap (λ j. put_mid at j out item) k
            ∙ ap (λ x. take at out ++ (item ++ x)) (drop-drop (length item) at out)
            ∙ ap (λ j. put j item out) c
            ∙ ap (put (length w) item) so_far.written
            ∙ put_behind w item before within
            ∙ ap (λ x. over x before) one_more;
      }
