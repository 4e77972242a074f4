use Rattle.std.proofs.Common.{◌≡◌, Option, IfSome, sym, refl, subst, rules}
use Rattle.nim.specs.declared.Turn.{Turn}
use Rattle.nim.specs.Nims.{is_state}
use Rattle.nim.specs.Turns.{IsTurn, turn_at}
use Rattle.nim.proofs.Numbers.{possible}
use Rattle.nim.proofs.Nim.turn.Goals as goal

pub returns-clause-possible : goal.returns-clause-possible
returns-clause-possible c =
    let n = c.args.self.now.matches in
    let s = c.args.state in
    let value : c.then.result ≡ turn_at n s = search rules in
    subst (λ (o : Option Turn). IfSome o (IsTurn n)) (sym value) (possible n s (is_state n s) refl)
