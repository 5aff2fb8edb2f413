-- Laws for callers: the line that a lent one hands over, and a lent line after a save, as the model has them.
-- Assumes nothing.
use mathlib.Core.Path.{◌≡◌, refl, sym, ap, ◌∙◌}
use mathlib.Core.List.{List, [], ◌∷◌, ◌++◌}
use Prim.Native.Nat.{ℕ, ◌+◌, ◌≤◌, ◌<◌, min}
use native.Mathlib.Omega.{arith}
use lib.ListN.{length, take, drop, set, replicate, length-set, length-take, take-append-drop}
use lib.Seq.{take_all}
use Rattle.laws.specs.Lists.{over}
use Rattle.laws.proofs.Lists.{over_is, over_nil, over_one, over_append, length_over, take_over}
use Rattle.model.specs.Line as model
use Rattle.line.specs.declared.offers.Offer.{Offer}
use Rattle.line.specs.declared.offers.Line.{Line}
use Rattle.line.specs.Offers.{offers_of, line_of, no_offer, no_line}
use Rattle.line.proofs.Laws.Offers.{pushed_room}
use Rattle.line.proofs.Laws.Runs.{take_of-take, offers_of-length, offers_of-take, offers_of_over}
use Rattle.lent_line.specs.Lent.{most_of, pushed_all, loaded_line, saved_offers}

take-most_of :
    {A : Type 0} (xs : List A) (lent waiting : ℕ) →
    take (most_of lent waiting) xs ≡ take lent (take waiting (take 16 xs))
take-most_of xs lent waiting =
    let least : most_of lent waiting ≡ min (min lent waiting) 16 = omega arith in
    ap (λ (k : ℕ). take k xs) least ∙ sym (take_of-take xs (min lent waiting) 16)
    ∙ sym (take_of-take (take 16 xs) lent waiting)

-- ---- the line that is handed over ----

pushed_all_over :
    (offers : List Offer) (line : Line) → length line.offers ≡ 16 → line.waiting + length offers ≤ 16 →
    pushed_all offers line ≡
    record { offers = over line.waiting offers line.offers; waiting = line.waiting + length offers }
unfolding pushed_all
pushed_all_over [] line whole room =
    let inside : line.waiting ≤ length line.offers = omega (arith, room, whole) in
    let none : line.waiting ≡ line.waiting + 0 = omega arith in
    λ i. record { offers = sym (over_nil line.waiting line.offers inside) i; waiting = none i }
pushed_all_over (offer ∷ later) line whole room =
    let free : line.waiting < 16 = omega (arith, room) in
    let inside : line.waiting < length line.offers = omega (arith, free, whole) in
    let one : line.waiting + 1 ≤ length line.offers = omega (arith, free, whole) in
    let fits : line.waiting + 1 + length later ≤ length line.offers = omega (arith, room, whole) in
    let next : Line =
    record { offers = set line.offers line.waiting offer; waiting = line.waiting + 1 } in
    let more : next.waiting + length later ≤ 16 = omega (arith, room) in
    let count : line.waiting + 1 + length later ≡ line.waiting + length (offer ∷ later) = omega arith in
    let put : over (line.waiting + 1) later (set line.offers line.waiting offer) ≡
    over line.waiting (offer ∷ later) line.offers =
    ap (over (line.waiting + 1) later) (sym (over_one line.offers line.waiting offer inside))
    ∙ over_append (offer ∷ []) line.offers line.waiting one later fits in
    ap (pushed_all later) (pushed_room line offer free)
    ∙ pushed_all_over later next (length-set line.offers line.waiting offer ∙ whole) more
    ∙ (λ i. record { offers = put i; waiting = count i })

-- a line loaded from no more than 16 offers has them in its front
loaded_front :
    (offers : List Offer) → length offers ≤ 16 →
    pushed_all offers no_line ≡
    record { offers = over 0 offers (replicate 16 no_offer); waiting = 0 + length offers }
loaded_front offers few = pushed_all_over offers no_line refl (omega (arith, few))

length_first : (lent : List Offer) (waiting : ℕ) → length (take (most_of (length lent) waiting) lent) ≤ 16
length_first lent waiting = omega (arith, length-take (most_of (length lent) waiting) lent)

pub loaded_line_is :
    (waiting : ℕ) (lent : List Offer) →
    line_of (loaded_line waiting lent) ≡ model.handed_over waiting (offers_of lent)
unfolding loaded_line
loaded_line_is waiting lent =
    let most : ℕ = most_of (length lent) waiting in
    let first : List Offer = take most lent in
    let blank : List Offer = replicate 16 no_offer in
    let few : length first ≤ 16 = length_first lent waiting in
    let long : length (offers_of blank) ≡ 16 = offers_of-length blank in
    let fits : length (offers_of first) ≤ length (offers_of blank) =
    omega (arith, few, long, offers_of-length first) in
    let whole : length (over 0 (offers_of first) (offers_of blank)) ≡ 16 =
    length_over (offers_of first) (offers_of blank) 0 (omega (arith, fits)) ∙ long in
    let count : 0 + length first ≡ length (offers_of first) = omega (arith, offers_of-length first) in
    ap line_of (loaded_front first few)
    ∙ ap (λ (xs : List model.Offer). take (0 + length first) (take 16 xs)) (offers_of_over 0 first blank)
    ∙ ap (take (0 + length first))
    (take_all 16 (over 0 (offers_of first) (offers_of blank)) (omega (arith, whole)))
    ∙ ap (λ (n : ℕ). take n (over 0 (offers_of first) (offers_of blank))) count
    ∙ take_over (offers_of first) (offers_of blank) fits ∙ offers_of-take most lent
    ∙ take-most_of (offers_of lent) (length lent) waiting
    ∙ take_all (length lent) (take waiting (take 16 (offers_of lent)))
    (omega (
      arith,
      length-take waiting (take 16 (offers_of lent)),
      length-take 16 (offers_of lent),
      offers_of-length lent,
    ))

-- ---- a lent line after a save ----

saved_offers_is :
    (line : Line) (lent : List Offer) → length (line_of line) ≤ length lent →
    offers_of (saved_offers line lent) ≡ over 0 (line_of line) (offers_of lent)
unfolding saved_offers
saved_offers_is line lent room =
    let most : ℕ = most_of (length lent) line.waiting in
    offers_of_over 0 (take most line.offers) lent
    ∙ ap (λ (xs : List model.Offer). over 0 xs (offers_of lent))
    (offers_of-take most line.offers ∙ take-most_of (offers_of line.offers) (length lent) line.waiting
    ∙ take_all (length lent) (line_of line) room)

-- a line that is saved as it was loaded changes nothing
saved_offers_loaded :
    (waiting : ℕ) (lent : List Offer) → saved_offers (loaded_line waiting lent) lent ≡ lent
unfolding saved_offers loaded_line
saved_offers_loaded waiting lent =
    let most : ℕ = most_of (length lent) waiting in
    let first : List Offer = take most lent in
    let blank : List Offer = replicate 16 no_offer in
    let few : length first ≤ 16 = length_first lent waiting in
    let count : most_of (length lent) (0 + length first) ≡ length first =
    omega (arith, few, length-take most lent) in
    let long : 0 + length first ≡ most = omega (arith, length-take most lent) in
    ap (λ (line : Line). over 0 (take (most_of (length lent) line.waiting) line.offers) lent)
    (loaded_front first few)
    ∙ ap (λ (n : ℕ). over 0 (take n (over 0 first blank)) lent) count
    ∙ ap (λ (xs : List Offer). over 0 xs lent) (take_over first blank few) ∙ over_is 0 first lent
    ∙ ap (λ (n : ℕ). first ++ drop n lent) long ∙ take-append-drop most lent

-- ---- loaded, worked on and saved ----

-- what is handed over fits into the lent line
pub handed_fits :
    (waiting : ℕ) (lent : List Offer) →
    (length (model.handed_over waiting (offers_of lent)) ≤ 16) ×
    (length (model.handed_over waiting (offers_of lent)) ≤ length lent)
handed_fits waiting lent =
    let all : ℕ = length (model.handed_over waiting (offers_of lent)) in
    let first = length-take waiting (take 16 (offers_of lent)) in
    let few : all ≤ 16 = omega (arith, first, length-take 16 (offers_of lent)) in
    let fits : all ≤ length lent =
    omega (arith, first, length-take 16 (offers_of lent), offers_of-length lent) in
    (few, fits)

-- what stays of a line stands in front of the lent one, if it fits
pub saved_left :
    (lent saved : List Offer) (line : Line) (left : List model.Offer) → saved ≡ saved_offers line lent →
    line_of line ≡ left → length left ≤ length lent → offers_of saved ≡ over 0 left (offers_of lent)
saved_left lent saved line left saved-is left_is fits =
    let room : length (line_of line) ≤ length lent =
    omega (arith, fits, ap (length {A = model.Offer}) left_is) in
    ap offers_of saved-is ∙ saved_offers_is line lent room
    ∙ ap (λ (xs : List model.Offer). over 0 xs (offers_of lent)) left_is

-- a line that stays as it was loaded leaves the lent one as it was
pub saved_kept :
    (lent saved : List Offer) (waiting : ℕ) (held line : Line) → held ≡ loaded_line waiting lent →
    saved ≡ saved_offers line lent → line ≡ held → saved ≡ lent
saved_kept lent saved waiting held line loaded saved-is same =
    saved-is ∙ ap (λ (l : Line). saved_offers l lent) (same ∙ loaded) ∙ saved_offers_loaded waiting lent
