use Rattle.std.proofs.Common.{arith}
use Rattle.sheet.specs.Sheets.{zero_row}
use Rattle.format.specs.Format.{state_bytes}
use Rattle.format.specs.Tables.{state_in}
use Rattle.writer.proofs.Over.{room_next, more_next}
use Rattle.writer.proofs.Rows.{name_fits}
use Rattle.writer.proofs.Sound.put_states.Goals as goal

pub put_state-at-requires : goal.put_state-at-requires
put_state-at-requires c =
    let t = c.args.self.now.tables in
    record {
      named = name_fits c.args.self.now c.loop-row.row-index (omega arith);
      fits = room_next (λ r. state_bytes (state_in t.names.now r)) t.rows.now zero_row c.loop-row.row-index c.loop-row.at c.args.out.now c.loop-row.out (omega arith) c.loop-row.invariant c.requires;
    }

pub loop-row-preserved : goal.loop-row-preserved
loop-row-preserved c =
    let t = c.args.self.now.tables in
    more_next (λ r. state_bytes (state_in t.names.now r)) t.rows.now zero_row c.loop-row.row-index c.loop-row.at c.args.out.now c.loop-row.out (omega arith) c.loop-row.invariant c.requires _ _ c.put_state-at.ensures.value c.put_state-at.ensures.after
