use Rattle.std.proofs.Common.{◌≡◌, ℕ, ◌*◌, ◌%◌, ◌^◌, ◌<◌, bit_and, bit_or, w64, sym, ap, ◌∙◌, arith}
use Rattle.std.specs.Int.{bit_not}
use Rattle.std.proofs.lemmas.Nat.{and_le_l, or_lt}
use Rattle.game.specs.Ranks.{set_label}
use Rattle.labelset.specs.Bits.{has_bit}
use Rattle.labelset.proofs.Bits.{whole_set, high_label, put_in, taken_out}
use Rattle.labelset.proofs.put.Goals as goal

pub returns-then-label-ge-LABELS-clause-value : goal.returns-then-label-ge-LABELS-clause-value
returns-then-label-ge-LABELS-clause-value c = whole_set c.args.set (set_label (has_bit c.args.set) c.args.label c.args.member) c.ranges.set.fits (high_label c.args.set c.args.label c.args.member c.if-label-ge-LABELS.true)

pub returns-then-member : goal.returns-then-member
returns-then-member c =
    let bit : ℕ = 1 * 2 ^ c.args.label % 2 ^ 64 in
    let fits : bit_or c.args.set bit < 2 ^ 64 = or_lt 64 c.args.set bit c.ranges.set.fits (omega arith) in
    let each : (l : ℕ) → has_bit (bit_or c.args.set bit) l ≡ set_label (has_bit c.args.set) c.args.label c.args.member l =
    λ l. put_in c.args.set c.args.label c.if-label-ge-LABELS.false l ∙ ap (λ t. set_label (has_bit c.args.set) c.args.label t l) (sym c.if-member.true) in
    record { value = whole_set _ (set_label (has_bit c.args.set) c.args.label c.args.member) fits (λ l _. each l); labels = λ _. each }

pub returns-else-member : goal.returns-else-member
returns-else-member c =
    let rest : ℕ = bit_and c.args.set (bit_not w64 (1 * 2 ^ c.args.label % 2 ^ 64)) in
    let fits : rest < 2 ^ 64 = omega (arith, and_le_l c.args.set (bit_not w64 (1 * 2 ^ c.args.label % 2 ^ 64)), c.ranges.set.fits) in
    let each : (l : ℕ) → has_bit rest l ≡ set_label (has_bit c.args.set) c.args.label c.args.member l =
    λ l. taken_out c.args.set c.args.label c.if-label-ge-LABELS.false c.ranges.set.fits l ∙ ap (λ t. set_label (has_bit c.args.set) c.args.label t l) (sym c.if-member.false) in
    record { value = whole_set _ (set_label (has_bit c.args.set) c.args.label c.args.member) fits (λ l _. each l); labels = λ _. each }
