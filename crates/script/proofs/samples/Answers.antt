-- The samples are computed, and numbers in decimal have laws.
use Rattle.script.proofs.Laws.Samples.{output_samples, input_samples}
use Rattle.script.proofs.Laws.Decimals.{is_digits-decimal, digits_value-decimal}
use Rattle.script.proofs.samples.Goals as goal

pub returns-clause-output : goal.returns-clause-output
returns-clause-output c = output_samples

pub returns-clause-input : goal.returns-clause-input
returns-clause-input c = input_samples

pub returns-clause-decimals : goal.returns-clause-decimals
returns-clause-decimals c = record { digits = is_digits-decimal; spelt = digits_value-decimal }
