use Rattle.std.proofs.Common.{get_or, refl, ap, ◌∙◌, subst, rules, arith}
use Rattle.labelset.specs.Bits.{has_bit}
use Rattle.solver.specs.Cells.{empty}
use Rattle.solver.specs.Known.{Filled}
use Rattle.solver.proofs.Lists.{get_or-replicate_any}
use Rattle.solver.proofs.Begins.{none_linked, begun_start, begun_at}
use Rattle.solver.proofs.Ends.{last_layer}
use Rattle.solver.proofs.fill.Goals as goal

pub link_all-requires : goal.link_all-requires
link_all-requires g c = none_linked 4096 262144

pub begin-requires : goal.begin-requires
begin-requires g c = begun_start (g.G.Game.lawful c.args.board.now.game.now) (omega (arith, c.requires, c.fill.ensures.len)) (λ s. ap (λ x. get_or x s empty) (c.fill.ensures.after (λ y e. e)) ∙ get_or-replicate_any _ empty s) c.new.ensures (get_or-replicate_any 4096 0)

pub loop-from-init : goal.loop-from-init
loop-from-init g c = record { at = begun_at (g.G.Game.lawful c.args.board.now.game.now) (has_bit c.args.board.now.bars) c.begin.ensures.begun; lent = refl; low = omega arith }

pub invariant_of-layer : goal.invariant_of-layer
invariant_of-layer g c = record { late = omega arith; linked = c.link_all.ensures }

pub returns : goal.returns
returns g c = subst (Filled (g.G.Game.meaning c.args.board.now.game.now) (has_bit c.args.board.now.bars)) (search rules) (last_layer (g.G.Game.lawful c.args.board.now.game.now) c.loop-from.invariant.at (omega (arith, c.len.ensures.value, c.loop-from-test.false)))
