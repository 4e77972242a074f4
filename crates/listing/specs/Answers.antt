-- What the listing answers, and what its output then holds.
use Rattle.std.specs.Prelude.{ℕ, Bool, cond, ◌&&◌, List, ◌++◌, length, drop, Ok, Err, Result, nat_le}
use Rattle.game.specs.Meaning.{Meaning}
use Rattle.law.specs.Answers.{Ranking}
use Rattle.listing.specs.declared.ListFault.{ListFault}
use Rattle.listing.specs.declared.ListFault.TheVariants.{NoPlan, Room}
use Rattle.listing.specs.Lines.{listing_text}

-- the number of a refusal
abbrev pub number_of : ListFault → ℕ
number_of NoPlan = 21
number_of Room = 7

-- a text at the front of an output, and its length; or the output as found, where it does not fit
abbrev pub put_whole : List ℕ → List ℕ → Result ℕ ListFault × List ℕ
put_whole text out = cond (nat_le (length text) (length out)) (Ok (length text), text ++ drop (length text) out) (Err Room, out)

-- the listing of a plan that stands, which no game of more than 4,096 states has
abbrev pub listed : Meaning → Ranking → Bool → List ℕ → Result ℕ ListFault × List ℕ
listed m ρ planned out = cond (planned && nat_le m.size 4096) (put_whole (listing_text m ρ) out) (Err NoPlan, out)
