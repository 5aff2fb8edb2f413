-- What a write takes, as C is told. Assumes nothing.
use Rattle.model.specs.Needs.{Needed}
use Rattle.answers_c.specs.declared.needs.Needs.{Needs}

-- the mapper's count in the fields of the C struct
abbrev pub needs_said : Needed → Needs
needs_said needed =
    record {
      answer = needed.answer;
      rounds = needed.rounds;
      stores = needed.stores;
      random_blocks = needed.random_blocks;
    }
