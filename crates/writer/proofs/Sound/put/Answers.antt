use Rattle.std.proofs.Common.{arith}
use Rattle.writer.proofs.Rows.{few_moves, states_room, arcs_room, stop_room, whole}
use Rattle.writer.proofs.Sound.put.Goals as goal

pub put_states-at-requires : goal.put_states-at-requires
put_states-at-requires c = states_room c.args.self.now c.args.out.now c.requires c.put_head-at.ensures.value c.put_head-at.ensures.after

pub put_all_moves-at-requires : goal.put_all_moves-at-requires
put_all_moves-at-requires c =
    arcs_room c.args.self.now c.args.out.now c.requires c.put_head-at.ensures.value c.put_head-at.ensures.after c.put_states-at.ensures.value c.put_states-at.ensures.after

pub overflow_cast-moves : goal.overflow_cast-moves
overflow_cast-moves c = omega (arith, few_moves c.args.self.now)

pub put_end-requires : goal.put_end-requires
put_end-requires c =
    stop_room c.args.self.now c.args.out.now c.requires c.put_head-at.ensures.value c.put_head-at.ensures.after c.put_states-at.ensures.value c.put_states-at.ensures.after c.put_all_moves-at.ensures.value c.put_all_moves-at.ensures.after

pub returns : goal.returns
returns c =
    whole c.args.self.now c.args.out.now c.requires c.put_head-at.ensures.value c.put_head-at.ensures.after c.put_states-at.ensures.value c.put_states-at.ensures.after c.put_all_moves-at.ensures.value c.put_all_moves-at.ensures.after c.put_end.ensures.value c.put_end.ensures.after
