-- The lines of a text are its parts between line feeds, without an empty part at the end.
use Rattle.std.proofs.Common.{◌≡◌, ℕ, ◌-◌, Bool, true, false, not, cond, eqb, List, [], ◌∷◌, ◌++◌, map, length, take, Some, None, Option, Bor, sym, refl, ap, ◌∙◌, append_assoc, append-nil, length-append, arith}
use Rattle.std.specs.List.{slice_split, slice_get, onto_first}
use Rattle.std.specs.Option.{option_copied, MatchOption}
use Rattle.std.proofs.lemmas.List.{map-append, take_at}
use Rattle.law.specs.declared.Call.{Call}
use Rattle.console.specs.Calls.{call_of}
use Rattle.console.specs.Conversation.{lines_after, last_line, calls_in}

abbrev pub parts : List ℕ → List (List ℕ)
parts text = slice_split (λ c. eqb c 10) text

-- the parts, where the front of the first one was read before
abbrev led : List ℕ → List (List ℕ) → List (List ℕ)
led front [] = front ∷ []
led front (p ∷ ps) = (front ++ p) ∷ ps

-- something stands behind the last line feed
abbrev pub unended : Bool → List ℕ → Bool
unended b [] = b
unended b (c ∷ cs) = unended (not (eqb c 10)) cs

-- the part behind it, where nothing does
abbrev pub left_over : Bool → List (List ℕ)
left_over true = []
left_over false = [] ∷ []

led_onto : (c : ℕ) (ps : List (List ℕ)) → led [] (onto_first c ps) ≡ onto_first c ps
led_onto c [] = refl
led_onto c (p ∷ ps) = refl

led_at : (c : ℕ) (b : Bool) (ps : List (List ℕ)) → led [] (cond b ([] ∷ ps) (onto_first c ps)) ≡ cond b ([] ∷ ps) (onto_first c ps)
led_at c true ps = refl
led_at c false ps = led_onto c ps

led_none : (text : List ℕ) → led [] (parts text) ≡ parts text
led_none [] = refl
led_none (c ∷ cs) = led_at c (eqb c 10) (parts cs)

led_more : (front : List ℕ) (c : ℕ) (ps : List (List ℕ)) → led (front ++ (c ∷ [])) ps ≡ led front (onto_first c ps)
led_more front c [] = refl
led_more front c (p ∷ ps) = ap (λ (l : List ℕ). l ∷ ps) (append_assoc front (c ∷ []) p)

-- one byte more: a line feed, or one more of the line at hand
step : (front : List ℕ) (c : ℕ) (cs : List ℕ) (b : Bool) → lines_after [] cs ++ left_over (unended false cs) ≡ led [] (parts cs)
    → lines_after (front ++ (c ∷ [])) cs ++ left_over (unended true cs) ≡ led (front ++ (c ∷ [])) (parts cs)
    → cond b (front ∷ lines_after [] cs) (lines_after (front ++ (c ∷ [])) cs) ++ left_over (unended (not b) cs) ≡ led front (cond b ([] ∷ parts cs) (onto_first c (parts cs)))
step front c cs true feed more = (λ i. sym (append-nil front) i ∷ (feed ∙ led_none cs) i)
step front c cs false feed more = more ∙ led_more front c (parts cs)

last_more : (front : List ℕ) (c : ℕ) → last_line (front ++ (c ∷ [])) ++ [] ≡ (front ++ (c ∷ [])) ∷ []
last_more [] c = refl
last_more (x ∷ xs) c = refl

lines_led : (front : List ℕ) (b : Bool) (text : List ℕ) → last_line front ++ left_over b ≡ front ∷ [] → lines_after front text ++ left_over (unended b text) ≡ led front (parts text)
lines_led front b [] h = h ∙ ap (λ (l : List ℕ). l ∷ []) (sym (append-nil front))
lines_led front b (c ∷ cs) h =
    step front c cs (eqb c 10) (lines_led [] false cs refl) (lines_led (front ++ (c ∷ [])) true cs (last_more front c))

pub lines_parts : (text : List ℕ) → lines_after [] text ++ left_over (unended false text) ≡ parts text
lines_parts text = lines_led [] false text refl ∙ led_none text

-- the last byte settles whether something stands behind the last line feed
last : ℕ → List ℕ → ℕ
last c [] = c
last c (d ∷ ds) = last d ds

unended_last : (b : Bool) (c : ℕ) (cs : List ℕ) → unended b (c ∷ cs) ≡ not (eqb (last c cs) 10)
unfolding last
unended_last b c [] = refl
unended_last b c (d ∷ ds) = unended_last (not (eqb c 10)) d ds

at_last : (c : ℕ) (cs : List ℕ) → slice_get (c ∷ cs) (length cs) ≡ Some (last c cs)
unfolding last
at_last c [] = refl
at_last c (d ∷ ds) = at_last d ds

-- what a test tells of the last byte
pub tested : (o : Option (Bor ℕ)) (r : Bool) (Told : Bor ℕ → Type 0) → ((c : Bor ℕ) → Told c → r ≡ eqb c.now 10) → MatchOption o (r ≡ true) Told
    → MatchOption o (r ≡ true) (λ c. r ≡ eqb c.now 10)
tested None r Told tells e = e
tested (Some c) r Told tells e = tells c e

pub ended : (text : List ℕ) (o : Option (Bor ℕ)) (r : Bool) → option_copied o ≡ slice_get text (length text - 1) → MatchOption o (r ≡ true) (λ x. r ≡ eqb x.now 10)
    → unended false text ≡ not r
ended [] None r e h = ap not (sym h)
ended [] (Some x) r e h = absurd (let f : Some x.now ≡ None = e in cc)
ended (c ∷ cs) None r e h = absurd (let f : None ≡ Some (last c cs) = e ∙ ap (slice_get (c ∷ cs)) (omega arith) ∙ at_last c cs in cc)
ended (c ∷ cs) (Some x) r e h =
    let f : Some x.now ≡ Some (last c cs) = e ∙ ap (slice_get (c ∷ cs)) (omega arith) ∙ at_last c cs in
    let same : x.now ≡ last c cs = cc in
    unended_last false c cs ∙ ap not (ap (λ (y : ℕ). eqb y 10) (sym same) ∙ sym h)

-- what is read of the parts, where one more than the lines is read, and where not
read : (text : List ℕ) (r : Bool) → unended false text ≡ not r → calls_in text ++ map call_of (left_over (not r)) ≡ map call_of (parts text)
read text r e =
    ap (λ (b : Bool). calls_in text ++ map call_of (left_over b)) (sym e)
    ∙ (sym (map-append call_of (lines_after [] text) (left_over (unended false text))) ∙ ap (map call_of) (lines_parts text))

pub all_read : (text : List ℕ) (found : List (Option Call)) → unended false text ≡ true → found ≡ map call_of (parts text) → found ≡ calls_in text
all_read text found e is = is ∙ (sym (read text false e) ∙ append-nil (calls_in text))

pub one_more_read : (text : List ℕ) (found before : List (Option Call)) (n : ℕ) → unended false text ≡ false → before ≡ map call_of (parts text) → n ≡ length before → found ≡ take (n - 1) before → found ≡ calls_in text
one_more_read text found before n e is long cut =
    let whole : before ≡ calls_in text ++ (call_of [] ∷ []) = is ∙ sym (read text true e) in
    let one_less : length (calls_in text) ≡ n - 1 = omega (arith, long ∙ ap length whole, length-append (calls_in text) (call_of [] ∷ [])) in
    cut ∙ (ap (take (n - 1)) whole ∙ take_at (calls_in text) (call_of [] ∷ []) (n - 1) one_less)
