-- Demand 3 (document 03: NothingShows): one claim about two whole lists of calls. Assumes nothing.
use Rattle.std.specs.Prelude.{◌≡◌, List}
use Rattle.model.specs.Blocks.{Bytes}
use Rattle.model.specs.View.{view_of, Alike}
use Rattle.model.specs.Runs.{Call, public_parts, bare_calls, disk_after_all, seen_of_all}
use Rattle.model.specs.Simulator.{simulator_of, lengths_of_all, told, reports_of}

-- what is seen on one drive
pub record Simulated (disk : Bytes) (calls : List Call) : Type 0 where
  -- answers, rounds and stores are the simulator's, fed the starting view and lengths alone
  pub by_simulator :
      reports_of (seen_of_all disk calls) ≡ told (simulator_of (view_of disk)) (lengths_of_all (public_parts calls))
  -- all of it is what the same list gives with every offer and hidden call taken out
  pub without_offers : seen_of_all disk calls ≡ seen_of_all disk (bare_calls calls)

-- what is seen on two drives
pub record SameSeen (disk other : Bytes) (calls others : List Call) : Type 0 where
  -- all that is seen after each public call, views included
  pub same_seen : seen_of_all disk calls ≡ seen_of_all other others
  pub here : Simulated disk calls
  pub there : Simulated other others
  pub alike_after : Alike (disk_after_all disk calls) (disk_after_all other others)

abbrev pub Noninterference : Type 0
Noninterference =
    (disk other : Bytes) (calls others : List Call) → Alike disk other →
    public_parts calls ≡ public_parts others →
    SameSeen disk other calls others
