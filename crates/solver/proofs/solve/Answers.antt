use Rattle.std.proofs.Common.{length, refl, sym, arith}
use Rattle.std.proofs.lemmas.Bool.{both_ways, and_from, le-leb}
use Rattle.labelset.specs.Bits.{has_bit}
use Rattle.solver.proofs.Known.{filled_solved}
use Rattle.solver.proofs.solve.Goals as goal

pub returns-then-size-cells : goal.returns-then-size-cells
returns-then-size-cells g c =
    let size = (g.G.Game.meaning c.args.game.now).size in record {
      answer = sym (and_from _ _ (le-leb size 4096 (omega (arith, c.size-size.ensures, c.if-size-le-MOST.true))) (le-leb size (length c.args.cells.now) (omega (arith, c.size-size.ensures, c.if-size-cells.true))));
      solved = λ _. filled_solved (g.G.Game.meaning c.args.game.now) (g.G.Game.lawful c.args.game.now) (has_bit c.args.bars) c.fill.new.cells c.fill.ensures;
      too_large = λ e. absurd (both_ways _ e refl);
    }
