-- What a write with a line came to, as C is told. Assumes nothing.
use Rattle.std.specs.Prelude.{length}
use Rattle.model.specs.Calls.{outcome_number}
use Rattle.line.specs.Offers.{line_of}
use Rattle.mapper.specs.Writes.{LineTold}
use Rattle.answers_c.specs.declared.line_writes.LineWritten.{LineWritten}

-- the mapper's numbers, document 01's number for the outcome, and how many wait in the line that is left
abbrev pub line_written_said : LineTold → LineWritten
line_written_said all =
    record {
      answer = all.told.answer;
      rounds = all.told.rounds;
      stores = all.told.stores;
      outcome = outcome_number all.told.outcome;
      placed = all.placed;
      waiting = length (line_of all.line);
    }
