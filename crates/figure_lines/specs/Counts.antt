-- What is read of bytes and lists that may be too short, and put there.
-- Assumes nothing.
use Rattle.std.specs.Prelude.{Bool, true, ◌&&◌, cond, List, [], ◌∷◌, ℕ, ◌/◌, eqb, ltb, length}
use Rattle.std.specs.Prelude.{Option, Some, None}
use Rattle.model.specs.Blocks.{Bytes, entry_at, set_entry}
use Rattle.figure_lines.specs.declared.lines.Put.{Put}

-- an entry, or 0 where there is none
abbrev pub entry_or : (index : ℕ) → Bytes → ℕ
entry_or index bytes = cond (ltb index (length bytes / 4)) (entry_at index bytes) 0

-- an entry that the disk does not have is not put
abbrev pub puts : (index value : ℕ) → (disk : Bytes) → Bytes
puts index value disk = cond (ltb index (length disk / 4)) (set_entry index value disk) disk

-- the entry that is said, or none
abbrev pub puts_said : Option Put → (disk : Bytes) → Bytes
puts_said None disk = disk
puts_said (Some put) disk = puts put.0 put.1 disk

-- whether a list has what was stored in front, and else 99
unfoldable pub is_listed : (stored list : List ℕ) → Bool
is_listed stored [] = true
is_listed [] (entry ∷ list) = eqb 99 entry && is_listed [] list
is_listed (address ∷ stored) (entry ∷ list) = eqb address entry && is_listed stored list
