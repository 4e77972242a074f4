use Rattle.std.proofs.Common.{ap, sym, ◌∙◌, arith, rules}
use Rattle.std.proofs.Output.{has_written_append, has_written_of_eq, has_written_to_eq}
use Rattle.law.proofs.Commas.{comma_after, labels_with, labels_without, comma_with}
use Rattle.law.proofs.display.BarsDisplay.fmt.Goals as goal
use Rattle.law.proofs.display.BarsDisplay.fmt.Goals.{then-contains+in_ok-write, else-contains}

pub loop-label-preserved : goal.loop-label-preserved
loop-label-preserved g c =
    let so_far = c.loop-label.invariant in
    elim c.if-contains.branch [
      | then-contains+in_ok-write w ↦
          let has = sym w.if-contains.true ∙ c.contains.ensures in (
            ap (λ x. x.now) w.comma-is ∙ comma_with c.args.self.now.0 c.loop-label.label-counter (omega arith) has,
            λ p. has_written_of_eq _ _ _ _ _ (labels_with _ _ _ so_far.0 has) (has_written_append _ _ _ _ _ _ (so_far.1 p) (search rules)),
          )
      | else-contains w ↦
          let same = labels_without _ _ (sym w.if-contains.false ∙ c.contains.ensures) in (
            ap (λ x. x.now) w.comma-is ∙ (so_far.0 ∙ ap comma_after same),
            λ p. has_written_of_eq _ _ _ _ _ same (has_written_to_eq _ _ _ _ _ w.f-is (so_far.1 p)),
          )
    ]
