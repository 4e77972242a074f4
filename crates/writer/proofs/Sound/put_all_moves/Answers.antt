use Rattle.std.proofs.Common.{◌+◌, ◌-◌, length, get_or, take, drop, ap, arith, rules}
use Rattle.sheet.specs.declared.Row.{Row}
use Rattle.sheet.specs.Sheets.{zero_row}
use Rattle.writer.specs.Parts.{moves_bytes}
use Rattle.writer.proofs.Over.{room, more}
use Rattle.writer.proofs.Rows.{before, before_within, few_moves, own_row}
use Rattle.writer.proofs.Sound.put_all_moves.Goals as goal

pub overflow_add-end : goal.overflow_add-end
overflow_add-end c =
    let own = own_row c.args.self.now c.loop-i.i (omega arith) in
    let few = few_moves c.args.self.now in
    omega (arith, own.0, few)

pub offset_bounds-moves-row : goal.offset_bounds-moves-row
offset_bounds-moves-row c =
    let own = own_row c.args.self.now c.loop-i.i (omega arith) in
    let few = few_moves c.args.self.now in
    omega (arith, own.0, few)

pub slice_bounds-put_moves-end : goal.slice_bounds-put_moves-end
slice_bounds-put_moves-end c =
    let own = (own_row c.args.self.now c.loop-i.i (omega arith)).0 in
    search rules

pub put_moves-at-requires : goal.put_moves-at-requires
put_moves-at-requires c =
    let s = c.args.self.now in
    let rows = s.tables.rows.now in
    let ms = s.tables.moves.now in
    let i = c.loop-i.i in
    let r : Row = get_or rows i zero_row in
    let v = moves_bytes i (take ((r.first + r.count) - r.first) (drop r.first ms)) in
    let own = own_row s i (omega arith) in
    room (before rows ms i) v c.args.out.now c.loop-i.out c.loop-i.at c.loop-i.invariant (omega (arith, ap length own.1, before_within rows ms (i + 1), c.requires))

pub loop-i-preserved : goal.loop-i-preserved
loop-i-preserved c =
    let s = c.args.self.now in
    let rows = s.tables.rows.now in
    let ms = s.tables.moves.now in
    let i = c.loop-i.i in
    let r : Row = get_or rows i zero_row in
    let v = moves_bytes i (take ((r.first + r.count) - r.first) (drop r.first ms)) in
    let own = own_row s i (omega arith) in
    more (before rows ms i) v (before rows ms (i + 1)) c.args.out.now c.loop-i.out _ c.loop-i.at _ c.loop-i.invariant own.1 (omega (arith, before_within rows ms (i + 1), c.requires)) c.put_moves-at.ensures.value c.put_moves-at.ensures.after
