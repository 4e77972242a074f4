-- A list that is made part by part: what is done, and then what is left, is the whole.
use Rattle.std.proofs.Common.{◌≡◌, List, [], ◌++◌, sym, ap, ◌∙◌, append_assoc, append-nil}

-- a part more is done, and the rest is less by that part
pub carried : {X : Type 0} (done part more rest whole after : List X) → after ≡ done ++ part → rest ≡ part ++ more → done ++ rest ≡ whole → after ++ more ≡ whole
carried done part more rest whole after p q e =
    ap (λ (xs : List _). xs ++ more) p ∙ (append_assoc done part more ∙ (ap (λ (xs : List _). done ++ xs) (sym q) ∙ e))

-- nothing is left
pub settled : {X : Type 0} (done rest whole : List X) → rest ≡ [] → done ++ rest ≡ whole → done ≡ whole
settled done rest whole q e = sym (append-nil done) ∙ (ap (λ (xs : List _). done ++ xs) (sym q) ∙ e)
