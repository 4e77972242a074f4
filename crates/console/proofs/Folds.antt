-- What try_fold answers with an Option, where the closure computes a step.
use Rattle.std.proofs.Common.{◌≡◌, List, [], ◌∷◌, Some, None, Option, sym, ap, ◌∙◌, subst}
use denote.Param.Members.{Mut}
use Rattle.std.specs.declared.ops.ControlFlow.{ControlFlow}
use Rattle.std.specs.ControlFlow.{continue_value}
use Rattle.std.specs.Fn.{Called}
use Rattle.std.specs.Iterator.{AlwaysYields, YieldsThen, TryFoldTurn}
use Rattle.std.specs.List.{FoldsTo}
use Rattle.std.specs.Option.{MatchOption}

module _ {B C : Type 0} (step : B → C → Option B) where
  -- the steps over all items, as long as each gives a total
  abbrev pub on_from : Option B → List C → Option B
  on_from None ys = None
  on_from (Some b) [] = Some b
  on_from (Some b) (y ∷ ys) = on_from (step b y) ys

  module _ {S A F : Type 0} (E : Type 0) (steps : S → Option A → S → Type 0) (v : A → C) (g : Mut F (B × (A × Unit {0})) (Option B)) (f : F) (u : S)
      (k : (b : B) (x : A) (w : Option B) (q : F) → Called g f (b, (x, tt)) w q → (q ≡ f) × (w ≡ step b (v x))) (r : Option B) where
    abbrev branches : Option B → ControlFlow E B → Type 0
    branches w c = w ≡ continue_value c

    abbrev Ends : Option A → F → B → Type 0
    Ends o j b = MatchOption o (r ≡ Some b) (λ x. (w : Option B) × (h : F) × (e : E) × Called g j (b, (x, tt)) w h × (w ≡ None) × (r ≡ None))

    turn : (j : F) (b : B) (x : A) (y : C) (w : Option B) (q : F) → j ≡ f → v x ≡ y → Called g j (b, (x, tt)) w q → (q ≡ f) × (w ≡ step b y)
    turn j b x y w q same is called =
        let t = k b x w q (subst (λ z. Called g z (b, (x, tt)) w q) same called) in
        (t.0, t.1 ∙ ap (step b) is)

    ended : (ys : List C) (s : S) (o : Option A) (j : F) (b : B) → AlwaysYields steps v s ys → steps s o u → j ≡ f → Ends o j b → r ≡ on_from (Some b) ys
    ended [] s None j b e st same end = end
    ended [] s (Some x) j b e st same end = absurd (e x u st)
    ended (y ∷ ys) s None j b e st same end = absurd (e.0 u st)
    ended (y ∷ ys) s (Some x) j b e st same (w, h, d, called, none, is) =
        is ∙ ap (λ (z : Option B). on_from z ys) (sym none ∙ (turn j b x y w h same (e.1 x u st).0 called).1)

    pub folded : (ys : List C) (xs : List A) (o : Option A) (s : S) (j j' : F) (b b' : B) → AlwaysYields steps v s ys → YieldsThen steps s xs o u → j ≡ f
        → FoldsTo {P = F × B} (TryFoldTurn g branches) (j, b) xs (j', b') → Ends o j' b' → r ≡ on_from (Some b) ys
    folded ys [] o s j j' b b' e y same c end =
        subst (λ (z : B). r ≡ on_from (Some z) ys) (ap (λ (p : F × B). p.1) (sym c))
        (ended ys s o j' b' e (subst (λ z. steps z o u) (sym y.1) y.2) (ap (λ (p : F × B). p.0) (sym c) ∙ same) end)
    folded [] (x ∷ xs) o s j j' b b' e y same c end = absurd (e x y.1.0 y.1.1)
    folded (z ∷ ys) (x ∷ xs) o s j j' b b' e y same c end =
        let came = e.1 x y.1.0 y.1.1 in
        let t = turn j b x z c.1.0 c.0.0 same came.0 c.1.1 in
        folded ys xs o y.1.0 c.0.0 j' c.0.1 b' came.1 (y.0, y.1.2, y.2) t.0 c.2 end
        ∙ ap (λ (w : Option B). on_from w ys) (sym c.1.2 ∙ t.1)
