-- Demand 2 (document 03: ReadsBack): a good read in either volume shows the block last placed under its
-- number, or the caller's blank; and what every call keeps. Assumes nothing.
use Rattle.std.specs.Prelude.{◌≡◌, Bool, cond, ◌&&◌, ◌≢◌, List, [], ◌∷◌, ℕ, ◌<◌, eqb, length, take}
use Rattle.std.proofs.Math.Option.{Option, none, some}
use Rattle.model.specs.Geometry.{Geometry, tree_capacity}
use Rattle.model.specs.Blocks.{Bytes}
use Rattle.model.specs.Layout.{geometry_in}
use Rattle.model.specs.HiddenTree.{walk, damaged}
use Rattle.model.specs.HiddenHalf.{HiddenWrite}
use Rattle.model.specs.Refusals.{format_refusal, drive_refusal, public_read_refusal, hidden_read_refusal}
use Rattle.model.specs.Calls.{formatted, public_read, hidden_read, outcome_number, Offered, one}
use Rattle.model.specs.Calls.{offered_writes, Written, written, or_else}
use Rattle.model.specs.Invariants.{PublicInvariant, BitmapInvariant, HiddenInvariant}
use Rattle.model.specs.Runs.{Call, read_public, ask_hidden, write, disk_after, disk_after_all}

-- ---- the block last placed under a number ----

abbrev pub public_after : (number : ℕ) → (before : Option Bytes) → (disk : Bytes) → Call → Option Bytes
public_after number before disk (read_public other blank) = before
public_after number before disk (ask_hidden asked) = before
public_after number before disk (write other content random list offer) =
    cond (eqb other number && eqb (written disk other content random (length list) offer).answer 0)
    (some content) before

unfoldable pub last_public : (number : ℕ) → (before : Option Bytes) → (disk : Bytes) → List Call → Option Bytes
last_public number before disk [] = before
last_public number before disk (call ∷ calls) =
    last_public number (public_after number before disk call) (disk_after disk call) calls

-- what a number shows once hidden writes are placed, one after another
unfoldable pub shown_after :
    (writes : List HiddenWrite) → (number : ℕ) → (before : Option Bytes) → Option Bytes
shown_after [] number before = before
shown_after (next ∷ later) number before =
    shown_after later number (cond (eqb next.number number) (some next.content) before)

-- what a write placed: of the hidden writes that it brought to its rounds the first so many
abbrev pub placed_writes : Written → (disk : Bytes) → Offered → List HiddenWrite
placed_writes result disk offer = take result.placed (offered_writes (geometry_in disk) offer)

abbrev pub hidden_after : (number : ℕ) → (before : Option Bytes) → (disk : Bytes) → Call → Option Bytes
hidden_after number before disk (read_public other blank) = before
hidden_after number before disk (ask_hidden asked) = before
hidden_after number before disk (write other content random list offer) =
    shown_after (placed_writes (written disk other content random (length list) offer) disk offer) number before

unfoldable pub last_hidden : (number : ℕ) → (before : Option Bytes) → (disk : Bytes) → List Call → Option Bytes
last_hidden number before disk [] = before
last_hidden number before disk (call ∷ calls) =
    last_hidden number (hidden_after number before disk call) (disk_after disk call) calls

-- ---- what holds of a drive ----

-- a drive of a geometry whose two volumes are sound
pub record Sound (g : Geometry) (disk : Bytes) : Type 0 where
  pub geometry : geometry_in disk ≡ g
  pub accepted : drive_refusal disk ≡ 0
  pub public_sound : PublicInvariant g disk
  pub bitmap_sound : BitmapInvariant g disk
  pub hidden_sound : HiddenInvariant g disk

-- on it every good number is read, and no walk is damaged
pub record Readable (g : Geometry) (disk : Bytes) : Type 0 where
  pub public_answer :
      (number : ℕ) (blank : Bytes) → number < g.publics → length blank ≡ g.block_size →
      public_read_refusal disk number blank ≡ 0
  pub hidden_answer :
      (number : ℕ) (blank : Bytes) → number < g.hidden → length blank ≡ g.block_size →
      hidden_read_refusal disk number blank ≡ 0
  pub no_damage : (number : ℕ) → number < tree_capacity g → (walk g disk number).end ≢ damaged

-- reads after a list of calls: the block last placed, else what the drive showed before
pub record ReadsBack (g : Geometry) (disk : Bytes) (calls : List Call) : Type 0 where
  pub sound : Sound g (disk_after_all disk calls)
  pub readable : Readable g (disk_after_all disk calls)
  pub public_shown :
      (number : ℕ) (blank : Bytes) → number < g.publics → length blank ≡ g.block_size →
      public_read (disk_after_all disk calls) number blank ≡
      or_else (last_public number none disk calls) (public_read disk number blank)
  pub hidden_shown_lem :
      (number : ℕ) (blank : Bytes) → number < g.hidden → length blank ≡ g.block_size →
      hidden_read (disk_after_all disk calls) number blank ≡
      or_else (last_hidden number none disk calls) (hidden_read disk number blank)

-- whether a write is done and says placed
abbrev pub is_placed : Written → Bool
is_placed result = eqb result.answer 0 && eqb (outcome_number result.outcome) 1

-- a write says placed exactly if it placed some hidden write
pub record ToldPlaced (result : Written) : Type 0 where
  pub placed_told : result.placed ≢ 0 → outcome_number result.outcome ≡ 1
  pub told_placed : outcome_number result.outcome ≡ 1 → result.placed ≢ 0

pub record ReadAfterWrite : Type 0 where
  -- what is counted as placed is what the outcome tells
  pub told :
      (disk : Bytes) (number : ℕ) (content random : Bytes) (room : ℕ) (offer : Offered) →
      ToldPlaced (written disk number content random room offer)
  -- so document 01's hidden block counts once its write says placed
  pub one_placed :
      (disk : Bytes) (number : ℕ) (content random : Bytes) (room : ℕ) (offer : HiddenWrite) (asked : ℕ)
      (before : Option Bytes) →
      let result = written disk number content random room (one offer) in
      shown_after (placed_writes result disk (one offer)) asked before ≡
      cond (is_placed result) (cond (eqb offer.number asked) (some offer.content) before) before
  -- each invariant is kept by every call, from any drive that has it
  pub public_kept :
      (g : Geometry) (disk : Bytes) (call : Call) → geometry_in disk ≡ g → drive_refusal disk ≡ 0 →
      PublicInvariant g disk → PublicInvariant g (disk_after disk call)
  pub bitmap_kept :
      (g : Geometry) (disk : Bytes) (call : Call) → geometry_in disk ≡ g → drive_refusal disk ≡ 0 →
      PublicInvariant g disk → BitmapInvariant g disk → BitmapInvariant g (disk_after disk call)
  pub hidden_kept :
      (g : Geometry) (disk : Bytes) (call : Call) → geometry_in disk ≡ g → drive_refusal disk ≡ 0 →
      HiddenInvariant g disk → HiddenInvariant g (disk_after disk call)
  -- a formatted drive is sound, and shows the blank everywhere
  pub fresh_sound :
      (disk : Bytes) (g : Geometry) → format_refusal disk g ≡ 0 → Sound g (formatted disk g)
  pub fresh_public :
      (disk : Bytes) (g : Geometry) (number : ℕ) (blank : Bytes) → format_refusal disk g ≡ 0 →
      number < g.publics →
      length blank ≡ g.block_size → public_read (formatted disk g) number blank ≡ blank
  pub fresh_hidden :
      (disk : Bytes) (g : Geometry) (number : ℕ) (blank : Bytes) → format_refusal disk g ≡ 0 →
      number < g.hidden →
      length blank ≡ g.block_size → hidden_read (formatted disk g) number blank ≡ blank
  -- from any sound drive on, a fresh one among them
  pub reads_back : (g : Geometry) (disk : Bytes) (calls : List Call) → Sound g disk → ReadsBack g disk calls
  -- demand 2 in its own words (document 03: ReadsBack): after any calls on a freshly formatted drive a good
  -- number of either volume is read, and shows the block last placed under it, or the caller's blank
  pub public_from_fresh :
      (disk : Bytes) (g : Geometry) (calls : List Call) (number : ℕ) (blank : Bytes) →
      format_refusal disk g ≡ 0 → number < g.publics → length blank ≡ g.block_size →
      (public_read_refusal (disk_after_all (formatted disk g) calls) number blank ≡ 0) ×
      (public_read (disk_after_all (formatted disk g) calls) number blank ≡
      or_else (last_public number none (formatted disk g) calls) blank)
  pub hidden_from_fresh :
      (disk : Bytes) (g : Geometry) (calls : List Call) (number : ℕ) (blank : Bytes) →
      format_refusal disk g ≡ 0 → number < g.hidden → length blank ≡ g.block_size →
      (hidden_read_refusal (disk_after_all (formatted disk g) calls) number blank ≡ 0) ×
      (hidden_read (disk_after_all (formatted disk g) calls) number blank ≡
      or_else (last_hidden number none (formatted disk g) calls) blank)
