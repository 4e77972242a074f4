-- A list with commas, written label by label.
use Rattle.std.proofs.Common.{◌≡◌, ℕ, ◌+◌, ◌<◌, Bool, true, false, List, [], ◌∷◌, ◌++◌, length, codes, decimal, sym, refl, ap, ◌∙◌, add-one, arith}
use Rattle.std.proofs.lemmas.Fmt.{decimal_nonempty}
use Rattle.labelset.specs.Bits.{has_bit}
use Rattle.law.specs.Texts.{with_label, labels_below}

-- what comes before one label more
abbrev pub comma_after : List ℕ → List ℕ
comma_after [] = []
comma_after (c ∷ cs) = codes ","

with_comma : (t : List ℕ) (l : ℕ) → t ++ (comma_after t ++ decimal l) ≡ with_label t true l
with_comma [] l = refl
with_comma (c ∷ cs) l = refl

some_comma : (t : List ℕ) → 0 < length t → comma_after t ≡ codes ","
some_comma [] h = absurd (omega arith)
some_comma (c ∷ cs) h = refl

comma_now : (t : List ℕ) (l : ℕ) → l < 64 → comma_after (with_label t true l) ≡ codes ","
comma_now [] l h = some_comma (decimal l) (decimal_nonempty l (omega arith))
comma_now (c ∷ cs) l h = refl

-- where this label is in the set, or is not, what is below the next one
labels_more : (set l : ℕ) (b : Bool) → b ≡ has_bit set l → with_label (labels_below set l) b l ≡ labels_below set (l + 1)
labels_more set l b e = rw add-one (ap (λ (x : Bool). with_label (labels_below set l) x l) e)

pub labels_with : (set l : ℕ) (comma : List ℕ) → comma ≡ comma_after (labels_below set l) → true ≡ has_bit set l
    → labels_below set l ++ (comma ++ decimal l) ≡ labels_below set (l + 1)
labels_with set l comma p e =
    ap (λ (c : List ℕ). labels_below set l ++ (c ++ decimal l)) p ∙ (with_comma (labels_below set l) l ∙ labels_more set l true e)

pub labels_without : (set l : ℕ) → false ≡ has_bit set l → labels_below set l ≡ labels_below set (l + 1)
labels_without set l e = labels_more set l false e

pub comma_with : (set l : ℕ) → l < 64 → true ≡ has_bit set l → codes "," ≡ comma_after (labels_below set (l + 1))
comma_with set l h e = sym (ap comma_after (sym (labels_more set l true e)) ∙ comma_now (labels_below set l) l h)
