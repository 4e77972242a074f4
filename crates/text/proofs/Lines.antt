use Rattle.std.proofs.Common.{◌≡◌, ℕ, suc, ◌+◌, ◌-◌, ◌*◌, ◌^◌, ◌<◌, ◌≤◌, max, List, [], ◌∷◌, ◌++◌, length, get_or, take, drop, codes, decimal, fold, refl, sym, ap, arith, length-append, length-take, take_all}
use Rattle.std.proofs.lemmas.Fmt.{length-decimal-le}
use Rattle.std.proofs.lemmas.List.Sums.{sum_by-cons, sum_by_more_le}
use mir.Val.{Fits}
use mir.Syntax.{w64}
use Rattle.text.specs.Lines.{spaced, digits_of, number_line, count_line, line}

-- Further numbers behind a text.
abbrev pub spaced_on : List ℕ → List ℕ → List ℕ
spaced_on text ns = fold (λ text m. text ++ codes " " ++ decimal m) text ns

pub length_spaced_on : (text ns : List ℕ) → length (spaced_on text ns) ≡ length text + (digits_of ns + length ns)
length_spaced_on text [] = omega arith
length_spaced_on text (n ∷ ns) =
    omega (arith, length_spaced_on (text ++ codes " " ++ decimal n) ns, length-append (text ++ codes " ") (decimal n), length-append text (codes " "), sum_by-cons (λ m. length (decimal m)) n ns)

-- Numbers are as long as their digits, and a blank or a line feed behind each.
pub length_spaced : (ns : List ℕ) → length (spaced ns) + 1 ≡ digits_of ns + max 1 (length ns)
length_spaced [] = refl
length_spaced (n ∷ ns) = omega (arith, length_spaced_on (decimal n) ns, sum_by-cons (λ m. length (decimal m)) n ns)

-- The length of a line.
pub length_line : (lead ns : List ℕ) → length (number_line lead ns) ≡ length lead + (digits_of ns + max 1 (length ns))
length_line lead ns = omega (arith, length-append lead (spaced ns ++ codes "\n"), length-append (spaced ns) (codes "\n"), length_spaced ns)

-- The first numbers, a blank and the next fit where all do.
pub next_fits : (text ns : List ℕ) (i : ℕ) → i < length ns → length (spaced_on text (take i ns)) + (1 + length (decimal (get_or ns i 0))) ≤ length (spaced_on text ns)
next_fits text ns i lt =
    omega (arith, length_spaced_on text (take i ns), length_spaced_on text ns, length-take i ns, sum_by_more_le (λ m. length (decimal m)) ns i 0 lt)

-- Numbers of 64 bits have at most 20 digits each.
pub digits_few : (ns : List ℕ) → ((k : ℕ) → Fits w64 (get_or ns k 0)) → digits_of ns ≤ 20 * length ns
digits_few [] small = omega arith
digits_few (n ∷ ns) small =
    let first = (small 0).fits in
    omega (arith, sum_by-cons (λ m. length (decimal m)) n ns, length-decimal-le 20 n (omega arith) (omega (arith, first)) first, digits_few ns (λ k. small (suc k)))

-- A line of one number below a power of ten.
pub count_le : (k : ℕ) (lead : List ℕ) (n : ℕ) → 0 < k → n < 10 ^ k → n < 2 ^ 64 → length (count_line lead n) ≤ length lead + (k + 1)
count_le k lead n some below small = omega (arith, length_line lead (n ∷ []), length-decimal-le k n some below small)

-- A line of three numbers, each below a power of ten.
pub line_le : (i j k : ℕ) (lead : List ℕ) (a b c : ℕ) → 0 < i → 0 < j → 0 < k → a < 10 ^ i → b < 10 ^ j → c < 10 ^ k → a < 2 ^ 64 → b < 2 ^ 64 → c < 2 ^ 64 → length (line lead a b c) ≤ length lead + (i + j + k + 3)
line_le i j k lead a b c pi pj pk la lb lc sa sb sc =
    omega (arith, length_line lead (a ∷ b ∷ c ∷ []), length-decimal-le i a pi la sa, length-decimal-le j b pj lb sb, length-decimal-le k c pk lc sc)

-- The first number and the others.
pub spaced_split : (ns : List ℕ) → 1 ≤ length ns → spaced ns ≡ spaced_on (decimal (get_or ns 0 0)) (take (length ns - 1) (drop 1 ns))
spaced_split [] some = absurd (omega arith)
spaced_split (n ∷ ns) some = ap (spaced_on (decimal n)) (sym (take_all (length (n ∷ ns) - 1) ns (omega arith)))
