-- A part of a list, and a list written over another from an index on. Assumes nothing.
use Rattle.std.specs.Prelude.{List, ◌++◌, ℕ, ◌+◌, length, take, drop}

module _ {A : Type 0} where
  -- so many elements from an index on
  unfoldable pub part : (from size : ℕ) → List A → List A
  part from size xs = take size (drop from xs)

  -- the old list with the new one in it from an index on
  unfoldable pub over : (from : ℕ) → (new old : List A) → List A
  over from new old = take from old ++ new ++ drop (from + length new) old
