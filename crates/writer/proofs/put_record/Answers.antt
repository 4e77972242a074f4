use Rattle.std.proofs.Common.{ℕ, List, [], Bor, refl, arith, rules}
use Rattle.writer.proofs.Over.{reach_next, copied_next}
use Rattle.writer.proofs.put_record.Goals as goal

pub slice_bounds-copy_from_slice-end : goal.slice_bounds-copy_from_slice-end
slice_bounds-copy_from_slice-end c =
    let none : Bor (List ℕ) = record { ref_ptr = (0, 0); now = [] } in
    let h = reach_next (λ p. p.now) c.args.parts.now none c.loop-part.part-index c.loop-part.at c.args.out.now c.loop-part.out (omega arith) c.loop-part.invariant c.requires in
    search rules

pub loop-part-preserved : goal.loop-part-preserved
loop-part-preserved c =
    let none : Bor (List ℕ) = record { ref_ptr = (0, 0); now = [] } in
    copied_next (λ p. p.now) c.args.parts.now none c.loop-part.part-index c.loop-part.at c.args.out.now c.loop-part.out (omega arith) c.loop-part.invariant c.requires _ _ refl c.copy_from_slice.ensures.after
