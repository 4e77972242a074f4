use Rattle.std.proofs.Common.{arith, length-set}
use Rattle.solver.specs.Cells.{ranking_in}
use Rattle.listing.proofs.Reached.{reached_inside}
use Rattle.listing.proofs.Walking.{visited, walk_room}
use Rattle.listing.proofs.walk.Walk.visit.Goals as goal

pub bounds-self-t : goal.bounds-self-t
bounds-self-t g c =
    let p = c.args.self.now.plan in
    omega (arith, reached_inside (g.G.Game.meaning p.game.now) (g.G.Game.lawful p.game.now) (ranking_in p.cells.now) c.args.t c.requires, p.few)

pub bounds-self-t-2 : goal.bounds-self-t-2
bounds-self-t-2 g c =
    let p = c.args.self.now.plan in
    omega (arith, reached_inside (g.G.Game.meaning p.game.now) (g.G.Game.lawful p.game.now) (ranking_in p.cells.now) c.args.t c.requires, p.few)

pub overflow_cast-t : goal.overflow_cast-t
overflow_cast-t g c =
    let p = c.args.self.now.plan in
    omega (arith, reached_inside (g.G.Game.meaning p.game.now) (g.G.Game.lawful p.game.now) (ranking_in p.cells.now) c.args.t c.requires, p.few)

pub push-requires : goal.push-requires
push-requires g c =
    let walk = c.args.self.now in
    omega (arith, walk.plan.few, walk_room (g.G.Game.meaning walk.plan.game.now) (g.G.Game.lawful walk.plan.game.now) (ranking_in walk.plan.cells.now) walk.queue.items walk.seen walk.walking c.args.t c.requires c.if-self-t.false)

pub invariant_of-self : goal.invariant_of-self
invariant_of-self g c =
    let walk = c.args.self.now in
    let v = visited (g.G.Game.meaning walk.plan.game.now) (g.G.Game.lawful walk.plan.game.now) (ranking_in walk.plan.cells.now) walk.queue.items walk.seen walk.walking walk.plan walk.plan.few walk.marks c.args.t c.requires c.if-self-t.false c.push.new.self.items c.push.ensures.items in
    record { marks = simp length-set walk.marks; walking = v.walking }

pub returns : goal.returns
returns g c =
    let walk = c.args.self.now in
    let v = visited (g.G.Game.meaning walk.plan.game.now) (g.G.Game.lawful walk.plan.game.now) (ranking_in walk.plan.cells.now) walk.queue.items walk.seen walk.walking walk.plan walk.plan.few walk.marks c.args.t c.requires c.if-self-t.false c.push.new.self.items c.push.ensures.items in
    record { later = v.later; here = v.here }
