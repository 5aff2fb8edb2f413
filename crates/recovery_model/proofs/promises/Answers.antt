-- `promises` meets its contract: the promise is a theorem. Assumes nothing.
use Rattle.recovery_model.proofs.Theorems.Recovery.{recovery}
use Rattle.recovery_model.proofs.promises.Goals as goal

pub returns : goal.returns
returns c = record { recovery = recovery }
