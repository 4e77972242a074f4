use Rattle.std.proofs.Common.{◌≡◌, ℕ, ◌+◌, List, ◌++◌, length, ap, ◌∙◌, arith}
use Rattle.text.specs.declared.page.Page.{Page}
use Rattle.text.specs.Pages.{Room, Adds}
use Rattle.text.proofs.Places.{length_over, written_then}

-- One text behind another.
pub adds_then : {p q r : Page} {xs ys : List ℕ} → Adds p xs q → Adds q ys r → Adds p (xs ++ ys) r
adds_then v w = record { same = w.same ∙ v.same; written = written_then v.written w.written }

-- A page keeps its length, and has less room behind what is written.
pub adds_length : {p q : Page} {xs : List ℕ} → Adds p xs q → length q.out.now ≡ length p.out.now
adds_length {p} {q} {xs} v = ap length v.written.whole ∙ length_over p.at xs p.out.now (omega (arith, v.written.ends, v.written.room))

pub adds_room : {p q : Page} {xs : List ℕ} (k : ℕ) → Adds p xs q → Room p (length xs + k) → Room q k
adds_room k v room = omega (arith, adds_length v, v.written.ends, room)
