use Rattle.std.proofs.Common.{ℕ, List, Result, sym, subst}
use Rattle.format.specs.declared.WriteFault.{WriteFault}
use Rattle.format.specs.Judgement.{WriteExactly}
use Rattle.format.specs.Laws.{Restores}
use Rattle.format.proofs.Judgement.{write_exactly, write_inside}
use Rattle.format.proofs.Laws.{restores}
use Rattle.writer.proofs.write.Goals as goal

pub returns : goal.returns
returns c =
    let rows = c.args.rows.now in
    let ms = c.args.moves.now in
    let names = c.args.names.now in
    let out = c.args.out.now in
    let v = c.write.ensures in
    let e = subst (λ (t : Result ℕ WriteFault × List ℕ). WriteExactly rows ms names out t) (sym v) (write_exactly rows ms names out) in
    record {
      value = v;
      exactly = e;
      inside = write_inside rows ms names out _ _ e;
      restored = subst (λ (t : Result ℕ WriteFault × List ℕ). Restores rows ms names t) (sym v) (restores rows ms names out);
    }
