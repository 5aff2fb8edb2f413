-- The refusals of the calls with a line: the chains of entering and of a read through a line answer their
-- conditions. Assumes nothing.
use mathlib.Core.Path.{◌≡◌, refl, sym, ap, ◌∙◌}
use mathlib.Core.Logic.{◌≢◌, ⊎_elim}
use mathlib.Core.List.Memᴰ
use mathlib.Core.List.{List, [], ◌∷◌, ◌++◌}
use mathlib.Core.Option.{Option, none, some}
use Prim.Native.Nat.{ℕ}
use lib.ListN.{length}
use Rattle.laws.specs.Checks.{first_of}
use Rattle.laws.proofs.Cases.{eq_cases, none_is_not_some}
use Rattle.laws.proofs.Decides.{decides_same}
use Rattle.model.specs.Geometry.{Geometry}
use Rattle.model.specs.Blocks.{Bytes, block_at}
use Rattle.model.specs.Layout.{geometry_in}
use Rattle.model.specs.HiddenTree.{walk, damaged}
use Rattle.model.specs.Refusals.{drive_checks, hidden_checks, walk_checks}
use Rattle.model.specs.Line.{Offer, line_offer_refusal, room_checks, enter_refusal, good_block, waiting_for}
use Rattle.model.specs.Calls.{disk_checks, line_read_refusal}
use Rattle.model.specs.Conditions.{Condition, Answers, condition, drive_conditions, hidden_conditions}
use Rattle.model.specs.Conditions.{offer_conditions, NoneOf, room_conditions, WaitsUnder}
use Rattle.model.specs.Conditions.{line_read_conditions}
use Rattle.model.proofs.Laws.Accepted.{AcceptedHidden, accepted_of_hidden_write}
use Rattle.model.proofs.Laws.Accepted.{hidden_write_refusal_of_accepted}
use Rattle.model.proofs.Laws.LineWaits.{good_block_good, good_block_bad, waiting_for_same}
use Rattle.model.proofs.Laws.LineWaits.{waiting_for_other}
use Rattle.model.proofs.Refusals.Answers.{judges_append, answers_of_judges, answers_append_false}
use Rattle.model.proofs.Refusals.Drive.{judges_drive}
use Rattle.model.proofs.Refusals.Hidden.{judges_hidden, decides_damaged}
use Rattle.model.proofs.Laws.LentBlocks.{inside_of_whole, whole_of_inside}
use Rattle.model.proofs.Refusals.Offers.{judges_offer, judges_room}

-- ---- entering ----

pub answers_enter :
    (disk : Bytes) (offer : Offer) (blocks : Bytes) (line : List Offer) (room : ℕ) →
    Answers
    (drive_conditions disk ++
    (offer_conditions (geometry_in disk) blocks offer ++ room_conditions line offer.number room))
    (enter_refusal disk offer blocks line room)
unfolding enter_refusal
answers_enter disk offer blocks line room =
    let g = geometry_in disk in
    let own = hidden_checks g offer.number (length (block_at g.block_size blocks offer.place)) in
    let later = room_checks line offer.number room in
    let met = offer_conditions g blocks offer in
    let full = room_conditions line offer.number room in
    answers_of_judges (drive_checks disk ++ (own ++ later)) (drive_conditions disk ++ (met ++ full))
    (judges_append (drive_checks disk) (own ++ later) (drive_conditions disk) (met ++ full) (judges_drive disk)
    (λ p. judges_append own later met full (judges_offer g blocks offer)
    (λ q. judges_room line offer.number room)))

-- ---- what waits ----

module _ (g : Geometry) (blocks : Bytes) (number : ℕ) where
  -- an offer whose block waits is good
  good_of_some : (offer : Offer) (block : Bytes) → good_block g blocks offer ≡ some block →
      AcceptedHidden g offer.number (length (block_at g.block_size blocks offer.place))
  good_of_some offer block e =
      ⊎_elim (accepted_of_hidden_write g offer.number (block_at g.block_size blocks offer.place))
      (λ ne. none_is_not_some block (sym (good_block_bad g blocks offer ne) ∙ e))
      (eq_cases (line_offer_refusal g blocks offer) 0)

  -- the block that waits is that of the number's first offer
  pub waits_of_some :
      (line : List Offer) (block : Bytes) → waiting_for g blocks line number ≡ some block →
      WaitsUnder g blocks line number
  unfolding waiting_for
  waits_of_some [] block e = none_is_not_some block e
  waits_of_some (first ∷ later) block e =
      ⊎_elim same (other (waits_of_some later block)) (eq_cases first.number number)
    where
      same : first.number ≡ number → WaitsUnder g blocks (first ∷ later) number
      same z =
          let good = good_of_some first block (sym (waiting_for_same g blocks first later number z) ∙ e) in
          record {
            offer = first;
            earlier = [];
            later = later;
            line_is = refl;
            first_is = λ offer m. absurd (Memᴰ.not-nil m);
            number_is = z;
            number_inside = rw z at good.number_inside;
            block_inside = inside_of_whole g.block_size blocks first.place good.block_sized;
          }

      other : (waiting_for g blocks later number ≡ some block → WaitsUnder g blocks later number) →
          first.number ≢ number → WaitsUnder g blocks (first ∷ later) number
      other behind ne =
          let waits = behind (sym (waiting_for_other g blocks first later number ne) ∙ e) in
          record {
            offer = waits.offer;
            earlier = first ∷ waits.earlier;
            later = waits.later;
            line_is = ap (λ (xs : List Offer). first ∷ xs) waits.line_is;
            first_is = λ offer m. ⊎_elim (λ z p. ne (ap (λ (o : Offer). o.number) (sym z) ∙ p))
                (λ n. waits.first_is offer n) (Memᴰ.cases_cons m);
            number_is = waits.number_is;
            number_inside = waits.number_inside;
            block_inside = waits.block_inside;
          }

  waiting_for_skip :
      (earlier rest : List Offer) → NoneOf number earlier →
      waiting_for g blocks (earlier ++ rest) number ≡ waiting_for g blocks rest number
  waiting_for_skip [] rest h = refl
  waiting_for_skip (first ∷ earlier) rest h =
      waiting_for_other g blocks first (earlier ++ rest) number (h first (Memᴰ.head refl))
      ∙ waiting_for_skip earlier rest (λ offer m. h offer (Memᴰ.tail m))

  pub some_of_waits :
      (line : List Offer) (waits : WaitsUnder g blocks line number) →
      waiting_for g blocks line number ≡ some (block_at g.block_size blocks waits.offer.place)
  some_of_waits line waits =
      let offer = waits.offer in
      let block = block_at g.block_size blocks offer.place in
      let good : AcceptedHidden g offer.number (length block) =
      record {
        number_inside = rw waits.number_is waits.number_inside;
        block_sized = whole_of_inside g.block_size blocks offer.place waits.block_inside;
      } in
      ap (λ (xs : List Offer). waiting_for g blocks xs number) waits.line_is
      ∙ waiting_for_skip waits.earlier (offer ∷ waits.later) waits.first_is
      ∙ waiting_for_same g blocks offer waits.later number waits.number_is
      ∙ good_block_good g blocks offer (hidden_write_refusal_of_accepted g offer.number block good)

  -- where no block waits the line has none
  pub none_of_unwaited :
      (line : List Offer) → (WaitsUnder g blocks line number → ⊥) → waiting_for g blocks line number ≡ none
  none_of_unwaited line unwaited = by (waiting_for g blocks line number) refl
    where
      by : (waits : Option Bytes) → waiting_for g blocks line number ≡ waits →
          waiting_for g blocks line number ≡ none
      by none e = e
      by (some block) e = absurd (unwaited (waits_of_some line block e))

-- ---- the read ----

module _ (disk : Bytes) (number : ℕ) (blank blocks : Bytes) (line : List Offer) where
  abbrev g : Geometry
  g = geometry_in disk

  abbrev own : List Condition
  own = hidden_conditions g number (length blank)

  -- by what waits
  answers_by :
      (waits : Option Bytes) → waiting_for g blocks line number ≡ waits →
      Answers (drive_conditions disk ++ (own ++ line_read_conditions g disk number blocks line))
      (first_of (drive_checks disk ++ (hidden_checks g number (length blank) ++ disk_checks waits g disk number)))
  unfolding disk_checks walk_checks
  answers_by none e =
      let checks = hidden_checks g number (length blank) in
      let last = line_read_conditions g disk number blocks line in
      answers_of_judges (drive_checks disk ++ (checks ++ walk_checks g disk number))
      (drive_conditions disk ++ (own ++ last))
      (judges_append (drive_checks disk) (checks ++ walk_checks g disk number) (drive_conditions disk)
      (own ++ last) (judges_drive disk)
      (λ p. judges_append checks (walk_checks g disk number) own last (judges_hidden g number (length blank))
      (λ q. (
        refl,
        decides_same (decides_damaged (walk g disk number).end)
            (λ d. (λ waits. none_is_not_some _ (sym e ∙ some_of_waits g blocks number line waits), d))
            (λ h. h.1),
        λ r. tt,
      ))))
  answers_by (some block) e =
      let checks = hidden_checks g number (length blank) in
      answers_append_false (drive_conditions disk ++ (own ++ []))
      (condition 12 ((WaitsUnder g blocks line number → ⊥) × ((walk g disk number).end ≡ damaged))) _
      (λ h. h.0 (waits_of_some g blocks number line block e))
      (answers_of_judges (drive_checks disk ++ (checks ++ [])) (drive_conditions disk ++ (own ++ []))
      (judges_append (drive_checks disk) (checks ++ []) (drive_conditions disk) (own ++ []) (judges_drive disk)
      (λ p. judges_append checks [] own [] (judges_hidden g number (length blank)) (λ q. tt))))

  pub answers_line_read :
      Answers
      (drive_conditions disk ++
      (hidden_conditions g number (length blank) ++ line_read_conditions g disk number blocks line))
      (line_read_refusal disk number blank blocks line)
  unfolding line_read_refusal
  answers_line_read = answers_by (waiting_for g blocks line number) refl
