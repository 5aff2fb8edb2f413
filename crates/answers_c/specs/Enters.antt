-- What entering a line came to, as C is told. Assumes nothing.
use Rattle.std.specs.Prelude.{length, Result, Ok, Err}
use Rattle.layout.specs.declared.refusals.Refusal.{Refusal}
use Rattle.layout.specs.Refusals.{refusal_number}
use Rattle.line.specs.declared.offers.Line.{Line}
use Rattle.line.specs.Offers.{line_of}
use Rattle.answers_c.specs.declared.enters.Entered.{Entered}

-- the answer, and how many wait in the line that is left, the line as it was where entering is refused
abbrev pub entered_said : Line → Result Line Refusal → Entered
entered_said line (Ok left) = record { answer = 0; waiting = length (line_of left) }
entered_said line (Err refusal) =
    record { answer = refusal_number refusal; waiting = length (line_of line) }
