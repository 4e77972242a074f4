use Rattle.std.proofs.Common.{◌≡◌, length, drop}
use Rattle.law.specs.Log.{Log}
use Rattle.watch.specs.Lived.{Lived, log_of}
use Rattle.watch.proofs.Watch.carry_out.Given as goal

-- the calls so far have extended every list, and the answers from here on are as they were
abbrev pub invariant-loop-i : goal.invariant-loop-i
invariant-loop-i g l = record {
  same : l.self.game ≡ l.initial.self.game;
  long : length l.answers ≡ length l.initial.answers;
  rest : drop l.i l.answers ≡ drop l.i l.initial.answers;
  lived : (L : Log) → Lived (g.G.Game.meaning l.initial.self.game) L l.initial.self.memory → Lived (g.G.Game.meaning l.initial.self.game) (log_of l.i l.calls l.answers L) l.self.memory;
}
