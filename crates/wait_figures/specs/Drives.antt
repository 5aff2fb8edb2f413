-- The drive of the rows: slots 0 to 6 are live, slot 7 is not. Assumes nothing.
use Rattle.std.specs.Prelude.{Option, replicate}
use Rattle.model.specs.Blocks.{Bytes}
use Rattle.figure_lines.specs.declared.lines.Put.{Put}
use Rattle.figure_lines.specs.Counts.{puts_said}
use Rattle.line_cases.specs.Cases.{case_from}
use Rattle.line_cases.specs.declared.cases.Start.{Start}

-- P 1, H 7, M 8 and eight writes, with a line of numbers 0 to 6, each at place 0
abbrev pub live_start : Start
live_start =
    record {
      publics = 1;
      hidden = 7;
      slots = 8;
      entry = 0;
      plain = 0;
      writes = 8;
      last = 0;
      line = 30065827888;
    }

-- on a disk, with an entry put or none
abbrev pub live_made : Option Put → (disk : Bytes) → Bytes
live_made put disk = puts_said put (case_from live_start disk).disk

abbrev pub live_drive : Option Put → Bytes
live_drive put = live_made put (replicate 896 0)
