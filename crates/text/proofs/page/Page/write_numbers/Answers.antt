use Rattle.std.proofs.Common.{◌≡◌, ℕ, ◌+◌, ◌-◌, List, ◌++◌, length, get_or, take, drop, codes, decimal, ap, subst, sym, arith}
use Rattle.std.proofs.lemmas.List.Sums.{fold_more}
use Rattle.text.specs.Pages.{Adds}
use Rattle.text.proofs.Lines.{spaced_on, spaced_split, length_spaced_on, next_fits}
use Rattle.text.proofs.Pages.{adds_room, adds_then}
use Rattle.text.proofs.page.Page.write_numbers.Goals as goal

pub write_number-requires : goal.write_number-requires
write_number-requires c =
    let ns : List ℕ = c.args.numbers.now in
    omega (arith, ap length (spaced_split ns c.in-len1-up.len_at_least), length_spaced_on (decimal (get_or ns 0 0)) (take (length ns - 1) (drop 1 ns)), c.requires)

pub write-requires : goal.write-requires
write-requires c =
    let ns : List ℕ = c.args.numbers.now in
    let next = next_fits (decimal (get_or ns 0 0)) (take (length ns - 1) (drop 1 ns)) c.loop-n.n-index c.loop-n-test.true in
    adds_room 1 c.loop-n.invariant (omega (arith, next, ap length (spaced_split ns c.in-len1-up.len_at_least), c.requires))

pub write_number-requires-in-loop-n : goal.write_number-requires-in-loop-n
write_number-requires-in-loop-n c =
    let ns : List ℕ = c.args.numbers.now in
    let more : List ℕ = take (length ns - 1) (drop 1 ns) in
    let next = next_fits (decimal (get_or ns 0 0)) more c.loop-n.n-index c.loop-n-test.true in
    adds_room _ c.write.ensures (adds_room (1 + length (decimal (get_or more c.loop-n.n-index 0))) c.loop-n.invariant (omega (arith, next, ap length (spaced_split ns c.in-len1-up.len_at_least), c.requires)))

pub loop-n-preserved : goal.loop-n-preserved
loop-n-preserved c =
    let ns : List ℕ = c.args.numbers.now in
    let more : List ℕ = take (length ns - 1) (drop 1 ns) in
    let step : spaced_on (decimal (get_or ns 0 0)) (take (c.loop-n.n-index + 1) more) ≡ spaced_on (decimal (get_or ns 0 0)) (take c.loop-n.n-index more) ++ codes " " ++ decimal (get_or more c.loop-n.n-index 0) =
    fold_more (λ text m. text ++ codes " " ++ decimal m) (decimal (get_or ns 0 0)) more c.loop-n.n-index 0 c.loop-n-test.true in
    subst (λ x. Adds c.args.self.now x c.write_number-in-loop-n.new.self) (sym step) (adds_then (adds_then c.loop-n.invariant c.write.ensures) c.write_number-in-loop-n.ensures)
