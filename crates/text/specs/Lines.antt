use Rattle.std.specs.Prelude.{ℕ, List, [], ◌∷◌, ◌++◌, codes, length, decimal, fold, sum_by}

-- Numbers with a blank between each two: the first, and each further one behind a blank.
abbrev pub spaced : List ℕ → List ℕ
spaced [] = []
spaced (n ∷ ns) = fold (λ text m. text ++ codes " " ++ decimal m) (decimal n) ns

-- How many digits numbers have.
abbrev pub digits_of : List ℕ → ℕ
digits_of ns = sum_by (λ n. length (decimal n)) ns

-- A line of numbers behind the bytes that lead it.
abbrev pub number_line : List ℕ → List ℕ → List ℕ
number_line lead ns = lead ++ (spaced ns ++ codes "\n")

-- A line of one number behind the bytes that lead it.
abbrev pub count_line : List ℕ → ℕ → List ℕ
count_line lead n = number_line lead (n ∷ [])

-- A line of three numbers, a blank between each two, behind the bytes that lead it.
abbrev pub line : List ℕ → ℕ → ℕ → ℕ → List ℕ
line lead a b c = number_line lead (a ∷ b ∷ c ∷ [])
