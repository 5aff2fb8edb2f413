-- No write, one write more, and all of them.
use Rattle.std.proofs.Common.{◌≡◌, ℕ, ◌+◌, min, refl, ap, ◌∙◌, add-one, arith}
use Rattle.model.specs.Blocks.{Bytes}
use Rattle.model.specs.Calls.{nothing}
use Rattle.model.specs.Promises.Limits.{listed_on}
use Rattle.figures.specs.Drives.{disk_written_on}
use Rattle.figures.proofs.drives.write_times.Goals as goal

-- one write more
written_more :
    {disk after : Bytes} {number : ℕ} (i last : ℕ) (start : Bytes) → disk ≡ disk_written_on i last start →
    number ≡ min i last → after ≡ listed_on disk 7 number nothing → after ≡ disk_written_on (i + 1) last start
unfolding disk_written_on
written_more i last start so_far next more = rw add-one (cc)

pub loop-i-init : goal.loop-i-init
unfolding disk_written_on
loop-i-init c = refl

pub loop-i-preserved : goal.loop-i-preserved
loop-i-preserved c =
    written_more c.loop-i.i c.args.last c.args.disk.now c.loop-i.invariant c.min.ensures c.write_line.ensures

pub returns : goal.returns
returns c =
    let all : c.loop-i.i ≡ c.args.times = omega arith in
    c.loop-i.invariant ∙ ap (λ (n : ℕ). disk_written_on n c.args.last c.args.disk.now) all
