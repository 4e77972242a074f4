-- What is printed is true.
use Rattle.std.proofs.Common.{◌≡◌, ℕ, ◌<◌, ◌⊎◌, List, get_or, take, Some, None, Ok, Err, Option, Result, refl, ap, inl, inr, arith}
use Rattle.game.specs.Meaning.{Meaning, Lawful}
use Rattle.game.specs.Ranks.{rank}
use Rattle.law.specs.declared.Fault.{Fault}
use Rattle.law.specs.Checks.{first_fault}
use Rattle.law.specs.Answers.{plan_verdict}
use Rattle.law.proofs.Checked.{no_fault_sound, fault_is}
use Rattle.law.proofs.Laws.{verdict_is}
use Rattle.listing.proofs.Right.{right}
use Rattle.sheet.specs.declared.Row.{Row}
use Rattle.sheet.specs.declared.Move.{Move}
use Rattle.sheet.specs.Sheets.{sheet_meaning}
use Rattle.sheet.specs.SheetLaws.{sheet_lawful}
use Rattle.records.specs.declared.SheetFault.{SheetFault}
use Rattle.format.specs.declared.Counts.{Counts}
use Rattle.format.specs.Reading.{read_result}
use Rattle.format.specs.Laws.{ReadExactly}
use Rattle.format.proofs.Laws.{exactly}
use Rattle.format.specs.Blame.{Blamed}
use Rattle.format.proofs.Games.{reads_game}
use Rattle.format.proofs.Blame.{blamed}
use Rattle.planner.specs.Printed.{no_bars, plan_text, reading_text, bytes_text}
use Rattle.planner.specs.Told.{Faulty, Planned, Told}

-- of a game
fault_told : (m : Meaning) → Lawful m → (o : Option Fault) → first_fault m ≡ o → Faulty m (plan_text m o) ⊎ Planned m (plan_text m o)
fault_told m ok (Some f) e = inl (record { fault = f; is = fault_is m ok f e; says = refl })
fault_told m ok None e =
    let sound = no_fault_sound m ok e in
    inr (record { sound = sound; verdict = plan_verdict m (rank m no_bars); is = verdict_is m ok no_bars sound; says = refl; lines = right m ok no_bars })

-- of bytes
read_told : (n k : ℕ) (bs : List ℕ) (r : Result Counts SheetFault) (rows : List Row) (ms : List Move) → ReadExactly n k bs (r, rows, ms) → Blamed n k bs r → Told n k bs (reading_text r rows ms)
read_told n k bs (Ok c) rows ms e b =
    let g = reads_game n k bs (Ok c) rows ms e in
    let states = take c.states rows in
    let moves = take c.moves ms in
    let m = sheet_meaning states moves in
    inr (record { sheet = g.0; encoded = g.1; game = m; game_of = g.2; told = fault_told m (sheet_lawful states moves) (first_fault m) refl })
read_told n k bs (Err f) rows ms e b =
    inl (record {
      no_sheet = λ s is. let z = ap (λ (t : Result Counts SheetFault × List Row × List Move). t.0) (e.1 s is) in let no' : ◌≡◌ {A = ℕ} 0 1 = cc in omega arith;
      fault = f;
      blamed = b;
      says = refl;
    })

pub told : (n k : ℕ) (bs : List ℕ) → ((i : ℕ) → get_or bs i 0 < 256) → Told n k bs (bytes_text n k bs)
unfolding bytes_text
told n k bs small = let t = read_result n k bs in read_told n k bs t.0 t.1 t.2 (exactly n k bs) (blamed n k bs small)
