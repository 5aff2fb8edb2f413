-- The rows so far that agree are counted.
use Rattle.std.proofs.Common.{◌≡◌, ◌≤◌, take, count_by}
use Rattle.figure_lines.proofs.rows.run_rows.Given as goal

abbrev pub invariant-loop-row : goal.invariant-loop-row
invariant-loop-row g l =
    record {
      few : l.agreed ≤ l.row-index;
      counted : l.agreed ≡ count_by g.R.Row.agrees (take l.row-index l.rows);
    }
