-- How long an offer waits, as C is told. Assumes nothing.
use Rattle.questions.specs.Waits.{Wait}
use Rattle.answers_c.specs.declared.waits.Waited.{Waited}

-- the mapper's numbers in the fields of the C struct
abbrev pub wait_said : Wait → Waited
wait_said wait = record { answer = wait.answer; rounds = wait.rounds }
