-- `clear_at` meets its contract: the part is so many zeros. Assumes nothing.
use mathlib.Core.Path.{◌≡◌, ◌∙◌}
use Prim.Native.Nat.{ℕ, ◌+◌, ◌-◌}
use native.Mathlib.Omega.{arith}
use lib.ListN.{length, replicate, take, drop, length-replicate, length-drop}
use lib.Seq.{length-take-le}
use Rattle.stores.proofs.Laws.Copies.{part_over}
use Rattle.stores.proofs.copies.clear_at.Goals as goal

pub returns : goal.returns
returns c =
    let a = c.args in
    let e : length (take (a.at + a.count - a.at) (drop a.at a.target.now)) ≡ a.count =
    length-take-le (a.at + a.count - a.at) (drop a.at a.target.now)
    (simp length-drop (omega arith)) ∙ omega arith in
    rw (c.fill.ensures.after (λ y h. h), e)
    (part_over a.at a.count a.target.now (replicate a.count 0) (length-replicate {A = ℕ} a.count 0))
