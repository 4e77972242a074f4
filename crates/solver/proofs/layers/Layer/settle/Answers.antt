use Rattle.std.proofs.Common.{◌≡◌, ℕ, ◌<◌, ◌/◌, List, length, get_or, sym, ap, ◌∙◌, subst, ⊎_elim, arith}
use Rattle.std.proofs.lemmas.Bool.{cases_lt}
use Rattle.labelset.specs.Bits.{has_bit}
use Rattle.solver.specs.Run.{Followed}
use Rattle.solver.proofs.Ends.{stays, then, opens, closes}
use Rattle.solver.proofs.layers.Layer.settle.Goals as goal

pub loop-i-init : goal.loop-i-init
loop-i-init g c = record { run = opens (omega (arith, c.args.self.now.late)) c.requires; moved = stays; followed = λ j le lt. absurd (omega arith) }

pub walk-requires-clause-target : goal.walk-requires-clause-target
walk-requires-clause-target g c =
    let lt : c.loop-i.i < length c.loop-i.work.queue.items = omega (arith, c.loop-i.invariant.moved.longer, c.len-hi.ensures.value, c.loop-i-test.true) in
    subst (λ x. x < (g.G.Game.meaning c.args.self.now.board.now.game.now).size) (sym (c.from.ensures ∙ ap (λ (q : List ℕ). get_or q c.loop-i.i 0) c.deref.ensures.0)) (c.loop-i.invariant.run.inside c.loop-i.i lt)

pub loop-i-preserved : goal.loop-i-preserved
loop-i-preserved g c = record {
  run = c.walk.ensures.run;
  moved = then c.loop-i.invariant.moved c.walk.ensures.moved;
  followed = λ j le lt. ⊎_elim
      (λ less. λ d in' at z. c.walk.ensures.moved.grows (d / 64) (c.loop-i.invariant.followed j le less d in' at z))
      (λ ge.
      let here : j ≡ c.loop-i.i = omega arith in
      let same : c.from.result ≡ get_or c.args.work.now.queue.items j 0 = c.from.ensures ∙ ap (λ (q : List ℕ). get_or q c.loop-i.i 0) c.deref.ensures.0 ∙ c.loop-i.invariant.moved.keeps c.loop-i.i (omega (arith, c.len-hi.ensures.value, c.loop-i-test.true)) ∙ ap (λ x. get_or c.args.work.now.queue.items x 0) (sym here) in
      subst (λ x. Followed (g.G.Game.meaning c.args.self.now.board.now.game.now) (has_bit c.args.self.now.board.now.bars) c.args.self.now.rank c.walk.new.work.cells.now x 0) same c.walk.ensures.followed)
      (cases_lt j c.loop-i.i);
}

pub returns : goal.returns
returns g c = record {
  lent = c.loop-i.invariant.moved.lent;
  from = c.len-hi.ensures.value;
  at = rw c.len-hi.ensures.value (closes (g.G.Game.lawful c.args.self.now.board.now.game.now) (omega (arith, c.args.self.now.late)) c.requires c.loop-i.invariant.run c.loop-i.invariant.moved (λ j le lt. c.loop-i.invariant.followed j le (omega (arith, c.loop-i-test.false, c.len-hi.ensures.value))));
}
