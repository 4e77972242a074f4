use Rattle.std.proofs.Common.{◌≡◌, ℕ, ◌+◌, ◌<◌, length, get_or, take, drop, sym, ap, ◌∙◌, subst, arith, length-set}
use Rattle.std.proofs.lemmas.List.{drop-set-lt, drop-drop, get_or-take, length-take-le}
use Rattle.law.specs.declared.Call.TheVariants.{Plan}
use Rattle.watch.specs.Lived.{Extends}
use Rattle.watch.proofs.Steps.{turn}
use Rattle.watch.proofs.Watch.carry_out.Goals as goal

pub loop-i-preserved : goal.loop-i-preserved
loop-i-preserved g c =
    let meaning = g.G.Game.meaning in
    let was = c.loop-i.invariant in
    let i : ℕ = c.loop-i.i in
    let calls = c.args.calls.now in
    let long : length (take c.min-n.result calls) ≡ c.min-n.result = length-take-le c.min-n.result calls (omega (arith, c.min-n.ensures)) in
    let within : i < c.min-n.result = omega (arith, c.loop-i-test.true) in
    let here : i < length calls = omega (arith, c.min-n.ensures) in
    let room : i < length c.loop-i.answers = omega (arith, c.min-n.ensures, c.loop-i.auto.answers) in
    record {
      same = c.ask.ensures.same ∙ was.same;
      long = length-set _ _ _ ∙ was.long;
      rest = drop-set-lt (i + 1) c.loop-i.answers i c.ask.result (omega arith) ∙ sym (drop-drop 1 i c.loop-i.answers) ∙ ap (drop 1) was.rest ∙ drop-drop 1 i c.args.answers.now;
      lived = turn (meaning c.args.self.now.game) c.args.self.now.memory c.loop-i.self.memory c.ask.new.self.memory calls c.loop-i.answers i Plan c.ask.result here room was.lived
          (subst (λ q. Extends (meaning c.args.self.now.game) c.loop-i.self.memory q c.ask.result c.ask.new.self.memory) (get_or-take c.min-n.result calls i Plan within)
          (subst (λ x. Extends (meaning x) c.loop-i.self.memory (get_or (take c.min-n.result calls) i Plan) c.ask.result c.ask.new.self.memory) was.same c.ask.ensures.extends));
    }
