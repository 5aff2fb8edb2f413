-- Laws of a line that is gathered offer by offer from two runs of numbers: what holds whenever the loop's
-- test is reached, a turn and its end. Assumes nothing.
use mathlib.Core.Path.{◌≡◌, sym, ap, ◌∙◌}
use mathlib.Core.List.{List, [], ◌∷◌, ◌++◌}
use Prim.Native.Nat.{ℕ, ◌+◌, ◌<◌, min}
use native.Mathlib.Numerals.{add-one}
use native.Mathlib.Omega.{arith}
use lib.ListN.{length, take, get_or}
use Rattle.std.proofs.lemmas.List.{take_min}
use Rattle.model.specs.Line as model
use Rattle.line.specs.declared.offers.Offer.{Offer}
use Rattle.line.specs.declared.offers.Line.{Line}
use Rattle.line.specs.Offers.{offer_of, line_of, pushed}
use Rattle.line.specs.Gathered.{offers_by}
use Rattle.line.proofs.Laws.Offers.{pushed_room, length-pushed, line_of-pushed_room}
use Rattle.line.proofs.Laws.Runs.{take_of-take}
use Rattle.line.proofs.Laws.Turns.{length-offers_by, take-offers_by_more}

-- the first so many offers stand in the line
pub record Gathering (numbers places : List ℕ) (line : Line) (i : ℕ) : Type 0 where
  pub whole : length line.offers ≡ 16
  pub count : line.waiting ≡ i
  pub line_is : line_of line ≡ take i (offers_by numbers places)

module _ (numbers places : List ℕ) (line : Line) (i : ℕ)
    (gathering : Gathering numbers places line i) where
  pub gathering_next :
      (next : Offer) → i < 16 → i < length numbers → i < length places →
      next.number.0 ≡ get_or numbers i 0 → next.place ≡ get_or places i 0 →
      Gathering numbers places (pushed line next) (i + 1)
  gathering_next next few low inside number place =
      let room : line.waiting < 16 = omega (arith, gathering.count) in
      let same : offer_of next ≡ record { number = get_or numbers i 0; place = get_or places i 0 } =
      (λ k. record { number = number k; place = place k }) in
      record {
        whole = length-pushed line next gathering.whole;
        count = ap (λ (l : Line). l.waiting) (pushed_room line next room) ∙ omega (arith, gathering.count);
        line_is =
            line_of-pushed_room line next gathering.whole room
            ∙ ap (λ (xs : List model.Offer). xs ++ (offer_of next ∷ [])) gathering.line_is
            ∙ ap (λ (offer : model.Offer). take i (offers_by numbers places) ++ (offer ∷ [])) same
            ∙ sym (rw add-one (take-offers_by_more numbers places i low inside));
      }

  -- the runs have ended, or so many are gathered
  pub gathered_all :
      (waiting : ℕ) → i ≡ min (min (min (length numbers) 16) waiting) (length places) →
      line_of line ≡ model.handed_over waiting (offers_by numbers places)
  gathered_all waiting all =
      let offers = offers_by numbers places in
      let some : i ≡ min (min waiting 16) (length offers) =
      omega (arith, all, length-offers_by numbers places) in
      gathering.line_is ∙ ap (λ (n : ℕ). take n offers) some ∙ take_min (min waiting 16) offers
      ∙ sym (take_of-take offers waiting 16)
