use Rattle.std.proofs.Common.{◌≡◌, true, false, set, sym, refl, ap, ◌∙◌, inl, arith}
use Rattle.solver.specs.Run.{has_cell}
use Rattle.solver.proofs.Rounds.{had, still, gets, low_pointed, repointed}
use Rattle.solver.proofs.Ends.{stays, has_room, entered}
use Rattle.solver.proofs.layers.Layer.reach.Goals as goal

pub returns-then-is_some : goal.returns-then-is_some
returns-then-is_some g c =
    let told : has_cell c.args.work.now.cells.now c.args.s ≡ true = cc in
    record { run = c.requires.run; moved = stays; touched = had (g.G.Game.lawful c.args.self.now.board.now.game.now) c.requires.run c.args.s told }

pub ripe-cell-requires-clause-pointer : goal.ripe-cell-requires-clause-pointer
ripe-cell-requires-clause-pointer g c = low_pointed (g.G.Game.lawful c.args.self.now.board.now.game.now) c.requires.run c.args.s c.cells-2.ensures

pub enter-requires-clause-seat : goal.enter-requires-clause-seat
enter-requires-clause-seat g c =
    let none : has_cell c.args.work.now.cells.now c.args.s ≡ false = cc in
    omega (arith, c.args.self.now.board.now.few, has_room c.requires.run c.requires.state none)

pub returns-in-Some : goal.returns-in-Some
returns-in-Some g c =
    let ok = g.G.Game.lawful c.args.self.now.board.now.game.now in
    let none : has_cell c.args.work.now.cells.now c.args.s ≡ false = cc in
    let run = repointed ok c.requires.run (omega (arith, c.requires.state, c.args.self.now.board.now.few, c.args.work.now.places)) c.cells-2.ensures c.ripe-cell.ensures.pointer c.enter.ensures.pointers in
    let got = gets ok c.requires.run c.args.s c.cells-2.ensures none (sym c.ripe-cell.ensures.value ∙ c.in-Some.is) in
    let e = entered c.args.work.now c.enter.new.self run c.requires.state none got.1 (c.enter.ensures.cells ∙ ap (set c.args.work.now.cells.now c.args.s) got.0) c.enter.ensures.queue c.enter.ensures.lent in
    record { run = e.0; moved = e.1; touched = e.2 }

pub returns-in_default : goal.returns-in_default
returns-in_default g c =
    let ok = g.G.Game.lawful c.args.self.now.board.now.game.now in
    let none : has_cell c.args.work.now.cells.now c.args.s ≡ false = cc in
    record {
      run = repointed ok c.requires.run (omega (arith, c.requires.state, c.args.self.now.board.now.few, c.args.work.now.places)) c.cells-2.ensures c.ripe-cell.ensures.pointer refl;
      moved = record { grows = λ s h. h; keeps = λ j lt. refl; longer = omega arith; added = λ s e. inl e; lent = refl };
      touched = still ok c.requires.run c.args.s c.cells-2.ensures none (sym c.ripe-cell.ensures.value ∙ c.in_default.is);
    }
