use Rattle.std.proofs.Common.{◌<◌, false, set, sym, ap, ◌∙◌, arith}
use Rattle.solver.proofs.Begins.{begun_room, begun_done, begun_not}
use Rattle.solver.proofs.board.Board.begin.Goals as goal
use Rattle.solver.proofs.board.Board.begin.Goals.{then-is_done, else-is_done}

pub enter-requires-clause-room : goal.enter-requires-clause-room
enter-requires-clause-room g c = omega (arith, c.size-s-end.ensures, c.loop-s-test.true, (c.loop-s.invariant.begun.run (λ _. false)).room)

pub enter-requires-clause-seat : goal.enter-requires-clause-seat
enter-requires-clause-seat g c = omega (arith, c.args.self.now.few, begun_room (g.G.Game.lawful c.args.self.now.game.now) c.loop-s.invariant.begun (omega (arith, c.size-s-end.ensures, c.loop-s-test.true)))

pub loop-s-preserved : goal.loop-s-preserved
loop-s-preserved g c =
    let ok = g.G.Game.lawful c.args.self.now.game.now in
    let here : c.loop-s.s < (g.G.Game.meaning c.args.self.now.game.now).size = omega (arith, c.size-s-end.ensures, c.loop-s-test.true) in
    elim c.if-is_done.branch [
      | then-is_done w ↦ rw w.work-is (record {
        begun = begun_done ok c.loop-s.work w.enter.new.self c.loop-s.invariant.begun here (sym c.is_done.ensures ∙ w.if-is_done.true) (w.enter.ensures.cells ∙ ap (set c.loop-s.work.cells.now c.loop-s.s) w.ranked.ensures) w.enter.ensures.queue w.enter.ensures.pointers w.enter.ensures.lent;
        lent = w.enter.ensures.lent ∙ c.loop-s.invariant.lent;
      })
      | else-is_done w ↦ record { begun = begun_not ok c.loop-s.invariant.begun (sym c.is_done.ensures ∙ w.if-is_done.false) w.work-is; lent = ap (λ x. x.cells.ghost_name) w.work-is ∙ c.loop-s.invariant.lent }
    ]
