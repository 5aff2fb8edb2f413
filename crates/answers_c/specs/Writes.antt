-- What a write came to, as C is told. Assumes nothing.
use Rattle.model.specs.Calls.{outcome_number}
use Rattle.mapper.specs.Writes.{WriteTold}
use Rattle.answers_c.specs.declared.writes.Written.{Written}

-- the mapper's numbers, and document 01's number for the outcome
abbrev pub written_said : WriteTold → Written
written_said told =
    record {
      answer = told.answer;
      rounds = told.rounds;
      stores = told.stores;
      outcome = outcome_number told.outcome;
    }
