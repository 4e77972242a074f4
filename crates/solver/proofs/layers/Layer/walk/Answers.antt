use Rattle.std.proofs.Common.{ap, subst}
use Rattle.labelset.specs.Bits.{has_bit}
use Rattle.solver.specs.Links.{code_of}
use Rattle.solver.specs.Run.{Followed}
use Rattle.solver.proofs.Ends.{stays, then}
use Rattle.solver.proofs.Walks.{arc_moves, walk_starts, walk_less, walk_goes}
use Rattle.solver.proofs.layers.Layer.walk.Goals as goal

pub loop-next-init : goal.loop-next-init
loop-next-init g c =
    let st = walk_starts c.args.t c.args.self.now.linked c.args.self.now.rank c.args.work.now.cells.now c.first-next.result c.requires.target c.first-next.ensures in
    record { run = c.requires.run; moved = stays; followed = st.0; stop = st.1 }

pub reach-requires-clause-moves : goal.reach-requires-clause-moves
reach-requires-clause-moves g c = arc_moves (g.G.Game.lawful c.args.self.now.board.now.game.now) (has_bit c.args.self.now.board.now.bars) c.in-Some.e c.args.t (c.loop-next.invariant.stop c.in-Some.e c.in-Some.is).0

pub loop-next-smaller : goal.loop-next-smaller
loop-next-smaller g c =
    let at = c.loop-next.invariant.stop c.in-Some.e c.in-Some.is in
    rw c.in-Some.is (walk_less c.args.t c.args.self.now.linked c.in-Some.e c.after-next.result at.0 at.1 c.after-next.ensures)

pub loop-next-preserved : goal.loop-next-preserved
loop-next-preserved g c =
    let b = has_bit c.args.self.now.board.now.bars in
    let at = c.loop-next.invariant.stop c.in-Some.e c.in-Some.is in
    let go = walk_goes c.args.t c.args.self.now.linked c.args.self.now.rank c.in-Some.e c.after-next.result at.0 at.1 c.after-next.ensures c.reach.ensures.moved c.reach.ensures.touched (subst (Followed (g.G.Game.meaning c.args.self.now.board.now.game.now) b c.args.self.now.rank c.loop-next.work.cells.now c.args.t) (ap code_of c.in-Some.is) c.loop-next.invariant.followed) in
    record { run = c.reach.ensures.run; moved = then c.loop-next.invariant.moved c.reach.ensures.moved; followed = go.0; stop = go.1 }
