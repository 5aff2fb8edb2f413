-- `promises` meets its contract: each promise is one of the theorems. Assumes nothing.
use Rattle.model.proofs.Theorems.Figures.{figures}
use Rattle.model.proofs.Theorems.Limits.{limits}
use Rattle.model.proofs.Theorems.RoundFigures.{round_figures}
use Rattle.model.proofs.Theorems.LargerFigures.{larger_figures}
use Rattle.model.proofs.Theorems.OrderFigures.{order_figures}
use Rattle.model.proofs.Theorems.Refusals.{refusals}
use Rattle.model.proofs.Theorems.Noninterference.{noninterference}
use Rattle.model.proofs.Theorems.ReadAfterWrite.{read_after_write}
use Rattle.model.proofs.Theorems.BufferBounds.{buffer_bounds}
use Rattle.model.proofs.Theorems.Questions.{questions}
use Rattle.model.proofs.Theorems.TreeCheck.{tree_check}
use Rattle.model.proofs.Theorems.LineOfOffers.{line_of_offers}
use Rattle.model.proofs.Theorems.Waiting.{waiting}
use Rattle.model.proofs.promises.Goals as goal

pub returns-clause-figures : goal.returns-clause-figures
returns-clause-figures c = figures

pub returns-clause-limits : goal.returns-clause-limits
returns-clause-limits c = limits

pub returns-clause-round_figures : goal.returns-clause-round_figures
returns-clause-round_figures c = round_figures

pub returns-clause-larger_figures : goal.returns-clause-larger_figures
returns-clause-larger_figures c = larger_figures

pub returns-clause-order_figures : goal.returns-clause-order_figures
returns-clause-order_figures c = order_figures

pub returns-clause-refusals : goal.returns-clause-refusals
returns-clause-refusals c = refusals

pub returns-clause-noninterference : goal.returns-clause-noninterference
returns-clause-noninterference c = noninterference

pub returns-clause-read_after_write : goal.returns-clause-read_after_write
returns-clause-read_after_write c = read_after_write

pub returns-clause-buffer_bounds : goal.returns-clause-buffer_bounds
returns-clause-buffer_bounds c = buffer_bounds

pub returns-clause-questions : goal.returns-clause-questions
returns-clause-questions c = questions

pub returns-clause-tree_check : goal.returns-clause-tree_check
returns-clause-tree_check c = tree_check

pub returns-clause-line : goal.returns-clause-line
returns-clause-line c = line_of_offers

pub returns-clause-waiting : goal.returns-clause-waiting
returns-clause-waiting c = waiting
