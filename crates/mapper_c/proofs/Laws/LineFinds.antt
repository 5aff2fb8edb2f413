-- Laws of the find through a line for C: an answer shows what the find shows, and a block that it names lies
-- wholly on the disk or among the lent blocks; so of a line by value, and of a lent one. Assumes nothing.
use mathlib.Core.Path.{◌≡◌, refl, sym, ap, ◌∙◌, subst}
use mathlib.Core.List.{List}
use Prim.Native.Nat.{ℕ, ◌+◌, ◌*◌, ◌≤◌}
use native.Mathlib.Omega.{arith}
use lib.ListN.{length}
use Rattle.model.specs.Blocks.{Bytes}
use Rattle.model.specs.Layout.{geometry_in}
use Rattle.model.specs.Line as model
use Rattle.model.specs.Calls.{line_read}
use Rattle.line.specs.declared.offers.Offer.{Offer}
use Rattle.line.specs.declared.offers.Line.{Line}
use Rattle.line.specs.Offers.{offers_of, line_of}
use Rattle.lent_line.specs.Lent.{loaded_line}
use Rattle.lent_line.proofs.Laws.Lent.{loaded_line_is}
use Rattle.reads.specs.Finds.{refused_find, blank_find, block_find}
use Rattle.line_calls.specs.Finds.{LineFind, drive_find, lent_find, line_find, shown_line_find, FoundInside}
use Rattle.line_calls.proofs.Laws.Finds.{shown_line_find-line_find, inside_line_find}
use Rattle.answers_c.specs.declared.finds.Found.{Found}
use Rattle.answers_c.specs.Finds.{found_line_of}
use Rattle.mapper_c.specs.LineFinds.{found_in_line, shown_in_line, LineFound}
use Rattle.mapper_c.proofs.Laws.Finds.{shown_by-found_of, WholeOnDisk, whole_block}

-- ---- any find ----

shown_in_line-found_line_of :
    (find : LineFind) (disk blank blocks : Bytes) →
    shown_in_line (found_line_of find) disk blank blocks ≡ shown_line_find find disk blank blocks
unfolding shown_in_line
shown_in_line-found_line_of (drive_find (refused_find fault)) disk blank blocks =
    shown_by-found_of (refused_find fault) disk blank
shown_in_line-found_line_of (drive_find blank_find) disk blank blocks =
    shown_by-found_of blank_find disk blank
shown_in_line-found_line_of (drive_find (block_find address)) disk blank blocks =
    shown_by-found_of (block_find address) disk blank
shown_in_line-found_line_of (lent_find place) disk blank blocks = refl

block_on_disk :
    (find : LineFind) (disk blocks : Bytes) → FoundInside find disk blocks →
    WholeOnDisk (found_line_of find) disk
block_on_disk (drive_find find) disk blocks inside kind = whole_block find disk inside kind
block_on_disk (lent_find place) disk blocks inside kind = absurd (omega (arith, kind))

-- an answer of kind 3 names a whole block of the lent ones
abbrev WholeLent : Found → (disk blocks : Bytes) → Type 0
WholeLent answer disk blocks =
    answer.kind ≡ 3 → (answer.address + 1) * (geometry_in disk).block_size ≤ length blocks

block_among_lent :
    (find : LineFind) (disk blocks : Bytes) → FoundInside find disk blocks →
    WholeLent (found_line_of find) disk blocks
block_among_lent (drive_find (refused_find fault)) disk blocks inside kind = absurd (omega (arith, kind))
block_among_lent (drive_find blank_find) disk blocks inside kind = absurd (omega (arith, kind))
block_among_lent (drive_find (block_find address)) disk blocks inside kind = absurd (omega (arith, kind))
block_among_lent (lent_find place) disk blocks inside kind = inside.inside

-- ---- a line by value, and a lent one ----

pub held_found :
    (disk : Bytes) (number : ℕ) (blank blocks : Bytes) (line : List model.Offer) (answer : Found) →
    answer ≡ found_in_line disk number blank blocks line →
    LineFound (found_in_line disk number blank blocks line) (line_read disk number blank blocks line) disk
    blank blocks answer
held_found disk number blank blocks line answer same =
    let find : LineFind = line_find disk number blank blocks line in
    let inside : FoundInside find disk blocks = inside_line_find disk number blank blocks line in
    record {
      found_is = same;
      shows =
          ap (λ (r : Found). shown_in_line r disk blank blocks) same
          ∙ shown_in_line-found_line_of find disk blank blocks
          ∙ shown_line_find-line_find disk number blank blocks line;
      on_disk =
          subst (λ (r : Found). WholeOnDisk r disk) (sym same) (block_on_disk find disk blocks inside);
      among_lent =
          subst (λ (r : Found). WholeLent r disk blocks) (sym same)
          (block_among_lent find disk blocks inside);
    }

pub found_of_held :
    (disk : Bytes) (number : ℕ) (blank blocks : Bytes) (lent : List Offer) (waiting : ℕ) (held : Line)
    (answer : Found) → held ≡ loaded_line waiting lent →
    LineFound (found_in_line disk number blank blocks (line_of held))
    (line_read disk number blank blocks (line_of held)) disk blank blocks answer →
    LineFound (found_in_line disk number blank blocks (model.handed_over waiting (offers_of lent)))
    (line_read disk number blank blocks (model.handed_over waiting (offers_of lent))) disk blank blocks answer
found_of_held disk number blank blocks lent waiting held answer loaded =
    subst (λ (line : List model.Offer). LineFound (found_in_line disk number blank blocks line)
    (line_read disk number blank blocks line) disk blank blocks answer)
    (ap line_of loaded ∙ loaded_line_is waiting lent)
