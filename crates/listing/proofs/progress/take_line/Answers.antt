-- By what the line says.
use Rattle.std.proofs.Common.{ap}
use Rattle.script.specs.Lines.{meaning_of}
use Rattle.listing.proofs.Laws.Steps.{took_good, took_bad}
use Rattle.listing.proofs.progress.take_line.Goals as goal

pub returns-in-Some : goal.returns-in-Some
returns-in-Some c = took_good (ap meaning_of c.in-Some.is) c.report_line-put.ensures c.args.feed

pub returns-in-None : goal.returns-in-None
returns-in-None c = took_bad (ap meaning_of c.in-None.is) c.args.feed
