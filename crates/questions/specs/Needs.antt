-- What a write takes now, as the call tells it. Assumes nothing.
use Rattle.std.specs.Prelude.{Result, Ok, Err}
use Rattle.model.specs.Needs.{Needed, refused_needs}
use Rattle.layout.specs.declared.refusals.Refusal.{Refusal}
use Rattle.layout.specs.Refusals.{refusal_number}
use Rattle.questions.specs.declared.needs.Needs as declared

-- what an answer says
abbrev pub needed_of : Result declared.Needs Refusal → Needed
needed_of (Err refusal) = refused_needs (refusal_number refusal)
needed_of (Ok r) =
    record {
      answer = 0;
      rounds = r.rounds;
      stores = r.stores;
      random_blocks = r.random_blocks;
    }
