use Rattle.std.specs.Prelude.{ℕ, List}
use Rattle.text.specs.declared.line.Line.{Line}
use Rattle.text.specs.Lines.{number_line}

-- The bytes of a line.
abbrev pub text_of : Line → List ℕ
text_of l = number_line l.lead.now l.numbers.now
