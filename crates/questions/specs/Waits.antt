-- How long an offer waits (document 02, K12), as the call tells it. Assumes nothing.
use Rattle.std.specs.Prelude.{cond, ℕ, eqb, Result, Ok, Err}
use Rattle.model.specs.Blocks.{Bytes}
use Rattle.model.specs.Layout.{geometry_in}
use Rattle.model.specs.Refusals.{drive_refusal}
use Rattle.model.specs.Waits.{wait_rounds}
use Rattle.layout.specs.declared.refusals.Refusal.{Refusal}
use Rattle.layout.specs.Refusals.{refusal_number}

-- the answer, and the round in which the first one waiting is placed
pub record Wait : Type 0 where
  pub answer : ℕ
  pub rounds : ℕ

abbrev pub refused_wait : (answer : ℕ) → Wait
refused_wait answer = record { answer = answer; rounds = 0 }

abbrev pub told_wait : (rounds : ℕ) → Wait
told_wait rounds = record { answer = 0; rounds = rounds }

-- what an answer says
abbrev pub wait_of : Result ℕ Refusal → Wait
wait_of (Err refusal) = refused_wait (refusal_number refusal)
wait_of (Ok rounds) = told_wait rounds

-- 1 to 3 and 0, or 0 and the rounds
unfoldable pub wait_in : (disk : Bytes) → Wait
wait_in disk =
    cond (eqb (drive_refusal disk) 0) (told_wait (wait_rounds (geometry_in disk) disk))
    (refused_wait (drive_refusal disk))
