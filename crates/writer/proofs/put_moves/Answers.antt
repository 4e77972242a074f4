use Rattle.std.proofs.Common.{arith}
use Rattle.sheet.specs.Sheets.{zero_move}
use Rattle.format.specs.Format.{move_bytes}
use Rattle.format.specs.Tables.{arc_of}
use Rattle.writer.proofs.Over.{room_next, more_next}
use Rattle.writer.proofs.put_moves.Goals as goal

pub put_move-at-requires : goal.put_move-at-requires
put_move-at-requires c = room_next (λ m. move_bytes (arc_of c.args.source m)) c.args.moves.now zero_move c.loop-m.m-index c.loop-m.at c.args.out.now c.loop-m.out (omega arith) c.loop-m.invariant c.requires

pub loop-m-preserved : goal.loop-m-preserved
loop-m-preserved c = more_next (λ m. move_bytes (arc_of c.args.source m)) c.args.moves.now zero_move c.loop-m.m-index c.loop-m.at c.args.out.now c.loop-m.out (omega arith) c.loop-m.invariant c.requires _ _ c.put_move-at.ensures.value c.put_move-at.ensures.after
