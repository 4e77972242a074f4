-- A text up to its first line feed.
use Rattle.std.proofs.Common.{◌≡◌, ℕ, Bool, true, false, cond, ltb, List, length, take, Some, None, Option, sym, refl, ap, ◌∙◌, take_all, arith}
use Rattle.std.specs.List.{position, position_or_len, before_first}
use Rattle.std.specs.Option.{unwrap_or}
use borrow.Author.Tests.{ltb-false}

by_test : (p : ℕ → Bool) (text : List ℕ) (b : Bool) → ltb (position_or_len p text) (length text) ≡ b
    → take (unwrap_or (cond b (Some (position_or_len p text)) None) (length text)) text ≡ before_first p text
by_test p text true e = refl
by_test p text false e = take_all (length text) text (omega arith) ∙ sym (take_all (position_or_len p text) text (omega (arith, ltb-false _ _ e)))

pub up_to_first : (p : ℕ → Bool) (text : List ℕ) (o : Option ℕ) (n : ℕ) → o ≡ position p text → n ≡ unwrap_or o (length text) → take n text ≡ before_first p text
up_to_first p text o n e is =
    ap (λ (k : ℕ). take k text) (is ∙ ap (λ (x : Option ℕ). unwrap_or x (length text)) e) ∙ by_test p text (ltb (position_or_len p text) (length text)) refl
