use Rattle.std.proofs.Common.{ℕ, ◌+◌, ◌-◌, ◌*◌, ◌%◌, ◌<◌, ◌≤◌, Some, None, slice_set, slice_index_or, sym, ap, ◌∙◌, arith}
use Rattle.solver.specs.Arcs.{arc}
use Rattle.labelset.specs.Bits.{has_bit}
use Rattle.solver.proofs.Lists.{link_none, link_some, link_nones, no_arc_end, no_arc_high}
use Rattle.solver.proofs.board.Board.link_state.Goals as goal
use Rattle.solver.proofs.board.Board.link_state.Goals.{in-Some, in_default}

pub returns-then-is_end : goal.returns-then-is_end
returns-then-is_end g c =
    let ok = g.G.Game.lawful c.args.self.now.game.now in
    link_nones ok 64 c.requires.before (λ d le lt. no_arc_end ok (has_bit c.args.self.now.bars) d c.args.s (omega arith) (sym c.is_end.ensures ∙ c.if-is_end.true)) (omega arith)

pub loop-l-preserved : goal.loop-l-preserved
loop-l-preserved g c =
    let ok = g.G.Game.lawful c.args.self.now.game.now in
    let low : c.loop-l.l < 64 = omega (arith, c.labels-l-end.ensures, c.loop-l-test.true, ok.few) in
    let m = g.G.Game.meaning c.args.self.now.game.now in
    let e : ℕ → ℕ = λ l. c.args.s * 64 + l in
    let arc_at = c.follow.ensures ∙ ap (λ l. arc m (has_bit c.args.self.now.bars) (e l)) c.from.ensures in
    elim c.match-follow.branch [
      | in-Some w ↦ link_some ok c.loop-l.preds c.args.self.now.few (omega (arith, c.args.self.now.few, c.requires.state)) c.loop-l.invariant (sym arc_at ∙ w.in-Some.is) w.preds-is (w.put.ensures.heads ∙ ap (λ l. slice_set c.loop-l.preds.heads w.in-Some.t (Some (e l))) c.from.ensures) (w.put.ensures.links ∙ ap (λ l. slice_set c.loop-l.preds.links (e l) (slice_index_or c.loop-l.preds.heads w.in-Some.t None)) c.from.ensures) (omega arith)
      | in_default w ↦ link_none ok c.loop-l.invariant (sym arc_at ∙ w.in_default.is) w.preds-is (omega arith)
    ]

pub returns : goal.returns
returns g c =
    let ok = g.G.Game.lawful c.args.self.now.game.now in
    let l : ℕ = c.loop-l.l in
    let few : l ≤ 64 = omega (arith, c.labels-l-end.ensures, c.loop-l.auto.l-end, ok.few) in
    let top : (g.G.Game.meaning c.args.self.now.game.now).ceiling ≤ l = omega (arith, c.labels-l-end.ensures, c.loop-l-test.false) in
    link_nones ok (64 - l) c.loop-l.invariant (λ d le lt. no_arc_high ok (has_bit c.args.self.now.bars) d (let z : l ≤ d % 64 = omega arith in omega (arith, z, top))) (omega arith)
