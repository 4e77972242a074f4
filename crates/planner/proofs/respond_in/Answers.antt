use Rattle.std.proofs.Common.{◌≡◌, ℕ, ◌<◌, ◌≤◌, List, length, get_or, take, Ok, Err, Option, Result, ap, ◌∙◌, subst, rules}
use Rattle.sheet.specs.declared.Row.{Row}
use Rattle.sheet.specs.declared.Move.{Move}
use Rattle.sheet.specs.Sheets.{sheet_meaning}
use Rattle.records.specs.declared.SheetFault.{SheetFault}
use Rattle.records.specs.Faults.{number_of, index_of}
use Rattle.format.specs.declared.Counts.{Counts}
use Rattle.format.specs.Reading.{read_result}
use Rattle.listing.specs.Lines.{longest}
use Rattle.planner.specs.Printed.{bytes_text, reading_text, game_text, refusal_line, shown}
use Rattle.planner.proofs.Told.{told}
use Rattle.planner.proofs.respond_in.Goals as goal

-- what is printed, by what the reading left
printed_of : (n k : ℕ) (bs : List ℕ) (r : Result Counts SheetFault) (rows : List Row) (ms : List Move) → ◌≡◌ {A = Result Counts SheetFault × List Row × List Move} (r, rows, ms) (read_result n k bs) → reading_text r rows ms ≡ bytes_text n k bs
unfolding bytes_text
printed_of n k bs r rows ms e = ap (λ (t : Result Counts SheetFault × List Row × List Move). reading_text t.0 t.1 t.2) e

-- the same text, and the same bound of its length
carried : (text text' out out' : List ℕ) (r : Option ℕ) → text ≡ text' → ◌≡◌ {A = Option ℕ × List ℕ} (r, out') (shown text out) → length text ≤ longest → (◌≡◌ {A = Option ℕ × List ℕ} (r, out') (shown text' out)) × (length text' ≤ longest)
carried text text' out out' r same value short = (value ∙ ap (λ t. shown t out) same, subst (λ t. length t ≤ longest) same short)

pub returns-in-Ok : goal.returns-in-Ok
returns-in-Ok c =
    let n = length c.args.rows.now in
    let small : (i : ℕ) → get_or c.args.bytes.now i 0 < 256 = λ i. search rules in
    let k = length c.args.moves.now in
    let counts = c.in-Ok.counts in
    let sheet = c.in_use.result in
    let same : game_text (sheet_meaning sheet.rows.now sheet.moves.now) ≡ bytes_text n k c.args.bytes.now =
    ap (λ rows. game_text (sheet_meaning rows sheet.moves.now)) c.in_use.ensures.rows
    ∙ ap (λ moves. game_text (sheet_meaning (take counts.states c.read.new.rows) moves)) c.in_use.ensures.moves
    ∙ printed_of n k c.args.bytes.now (Ok counts) c.read.new.rows c.read.new.moves c.in-Ok.ensures.value in
    let both = carried _ (bytes_text n k c.args.bytes.now) c.args.out.now c.plan_game.new.out c.plan_game.result same c.plan_game.ensures.value c.plan_game.ensures.short in
    record { value = both.0; told = told n k c.args.bytes.now small; short = both.1 }

pub returns-in-Err : goal.returns-in-Err
returns-in-Err c =
    let n = length c.args.rows.now in
    let small : (i : ℕ) → get_or c.args.bytes.now i 0 < 256 = λ i. search rules in
    let k = length c.args.moves.now in
    let fault = c.in-Err.fault in
    let same : refusal_line c.number.result c.index.result c.offset.result ≡ bytes_text n k c.args.bytes.now =
    ap (λ x. refusal_line x c.index.result c.offset.result) c.number.ensures
    ∙ ap (λ x. refusal_line (number_of fault) x c.offset.result) c.index.ensures
    ∙ ap (λ x. refusal_line (number_of fault) (index_of fault) x) c.offset.ensures
    ∙ printed_of n k c.args.bytes.now (Err fault) c.read.new.rows c.read.new.moves c.in-Err.ensures.value in
    let both = carried _ (bytes_text n k c.args.bytes.now) c.args.out.now c.put_refusal.new.out c.put_refusal.result same c.put_refusal.ensures.value c.put_refusal.ensures.short in
    record { value = both.0; told = told n k c.args.bytes.now small; short = both.1 }
