use Rattle.std.proofs.Common.{◌≡◌, ℕ, Bool, true, false, not, is_some, Some, None, Ok, Err, Option, rules}
use Rattle.game.specs.Meaning.{Meaning, done}
use Rattle.law.specs.declared.Fault.{Fault}
use Rattle.law.specs.declared.Fault.TheVariants.{RunOver, OtherTurn, NoPlan, NoRank}
use Rattle.law.specs.Answers.{Ranking, refuse_if, chosen_move, reply_answer}
use Rattle.watch.specs.Memory.{position_at, ranking_of}
use Rattle.watch.proofs.Watch.judge_reply.Goals as goal

-- a position that is refused refuses the reply
refused : (m : Meaning) (ρ : Ranking) (planned : Bool) (o : Option ℕ) (f : Fault) → Err f ≡ position_at m o false → Err f ≡ reply_answer m ρ planned o
refused m ρ planned None f h = cc
refused m ρ planned (Some p) f h = go (done m p) (m.public p) h
  where
    go : (over public : Bool) → Err f ≡ refuse_if over RunOver (refuse_if public OtherTurn (Ok p)) → Err f ≡ refuse_if over RunOver (refuse_if public OtherTurn (refuse_if (not planned) NoPlan (refuse_if (not (is_some (ρ.rank p))) NoRank (chosen_move m ρ p (ρ.choice p)))))
    go true public h = cc
    go false true h = cc
    go false false h = cc

pub returns-in_err-p : goal.returns-in_err-p
returns-in_err-p g c =
    let d = c.args.self.now.memory in
    let h = refused (g.G.Game.meaning c.args.self.now.game) (ranking_of d) d.planned d.position c.in_err-p.field-0.0 c.in_err-p.ensures in
    search rules
