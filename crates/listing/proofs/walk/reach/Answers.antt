use Rattle.std.proofs.Common.{◌≡◌, ℕ, ◌<◌, ◌≤◌, List, length, get_or, true, Some, sym, refl, ap, ◌∙◌, subst, ⊎_elim, arith}
use Rattle.std.proofs.lemmas.Bool.{cases_lt}
use Rattle.solver.specs.Cells.{ranking_in}
use Rattle.listing.specs.Reach.{follow, reached}
use Rattle.listing.specs.Walks.{Followed, Walking}
use Rattle.listing.proofs.Walking.{blank, walk_none, walk_few, walk_sound, walked}
use Rattle.listing.proofs.walk.reach.Goals as goal

pub invariant_of-walk : goal.invariant_of-walk
invariant_of-walk g c =
    let p = c.args.plan in
    let m = g.G.Game.meaning p.game.now in
    let ρ = ranking_in p.cells.now in
    record { marks = refl; walking = subst (λ (q : List _). ∥ Walking m ρ q _ ∥₁) (sym c.new.ensures) (walk_none m ρ _ (blank 4096)) }

pub expand-requires : goal.expand-requires
expand-requires g c =
    let w = c.loop-s.walk in
    let m = g.G.Game.meaning w.plan.game.now in
    let ok = g.G.Game.lawful w.plan.game.now in
    let ρ = ranking_in w.plan.cells.now in
    let here = walk_sound m ok ρ w.queue.items w.seen w.walking c.loop-s.head (omega (arith, c.in-Some.ensures.lookup.3.0, ap (λ (q : List ℕ). length q) c.deref.ensures.0)) in
    subst (λ s. reached m ρ s ≡ true) (sym (c.from.ensures ∙ c.in-Some.ensures.lookup.4 (omega arith) 0 ∙ ap (λ (q : List ℕ). get_or q c.loop-s.head 0) c.deref.ensures.0)) here

pub overflow_add-head : goal.overflow_add-head
overflow_add-head g c =
    let w = c.loop-s.walk in
    let few = walk_few (g.G.Game.meaning w.plan.game.now) (g.G.Game.lawful w.plan.game.now) (ranking_in w.plan.cells.now) w.queue.items w.seen w.walking in
    omega (arith, c.loop-s.invariant.within, few, w.plan.few)

pub loop-s-smaller : goal.loop-s-smaller
loop-s-smaller g c =
    let w = c.loop-s.walk in
    let few = walk_few (g.G.Game.meaning w.plan.game.now) (g.G.Game.lawful w.plan.game.now) (ranking_in w.plan.cells.now) w.queue.items w.seen w.walking in
    omega (arith, c.in-Some.ensures.lookup.3.0, ap (λ (q : List ℕ). length q) c.deref.ensures.0, few, w.plan.few)

pub loop-s-preserved : goal.loop-s-preserved
loop-s-preserved g c =
    let meaning = g.G.Game.meaning in
    let w = c.loop-s.walk in
    let m = meaning w.plan.game.now in
    let ρ = ranking_in w.plan.cells.now in
    let after = c.expand.new.self in
    let later = c.expand.ensures.later in
    let lt : c.loop-s.head < length w.queue.items = omega (arith, c.in-Some.ensures.lookup.3.0, ap (λ (q : List ℕ). length q) c.deref.ensures.0) in
    let value : c.from.result ≡ get_or w.queue.items c.loop-s.head 0 = c.from.ensures ∙ c.in-Some.ensures.lookup.4 (omega arith) 0 ∙ ap (λ (q : List ℕ). get_or q c.loop-s.head 0) c.deref.ensures.0 in
    record {
      same = later.same ∙ c.loop-s.invariant.same;
      starts = λ t st. later.grows t (c.loop-s.invariant.starts t (subst (λ p. (meaning p.game.now).start t ≡ true) later.same st));
      done = λ j lt'. subst (λ p. Followed (meaning p.game.now) (ranking_in p.cells.now) after.seen (get_or after.queue.items j 0)) (sym later.same)
          (⊎_elim
          (λ less. λ l t f. later.grows t (c.loop-s.invariant.done j less l t (subst (λ x. follow m ρ x l ≡ Some t) (later.keeps j (omega (arith, lt))) f)))
          (λ ge.
          let same : j ≡ c.loop-s.head = omega arith in
          subst (Followed m ρ after.seen) (sym (ap (λ x. get_or after.queue.items x 0) same ∙ later.keeps c.loop-s.head lt ∙ sym value)) c.expand.ensures.followed)
          (cases_lt j c.loop-s.head));
      within = omega (arith, lt, later.longer);
    }

pub invariant_of-result : goal.invariant_of-result
invariant_of-result g c =
    let w = c.loop-s.walk in
    let m = g.G.Game.meaning w.plan.game.now in
    let ok = g.G.Game.lawful w.plan.game.now in
    let end : length w.queue.items ≤ c.loop-s.head = omega (arith, c.in_default.ensures.lookup.3, ap (λ (q : List ℕ). length q) c.deref.ensures.0) in
    record {
      marks = w.marks;
      marked = walked m ok (ranking_in w.plan.cells.now) w.queue.items w.seen w.walking c.loop-s.invariant.starts (λ j lt. c.loop-s.invariant.done j (omega (arith, end)));
    }
