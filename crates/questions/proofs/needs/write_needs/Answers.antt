-- `write_needs` meets its contract: the drive's refusal, the number's, 7, or what the rounds take. Assumes
-- nothing.
use mathlib.Core.Path.{sym, refl, ap, ◌∙◌}
use Rattle.std.specs.Prelude.{Err}
use Rattle.model.specs.Refusals.{round_count}
use Rattle.model.proofs.Laws.Chains.{accepted_of_place, needs_of_drive, needs_of_place, needs_of_full}
use Rattle.model.proofs.Laws.Chains.{needs_of_some}
use Rattle.model.proofs.Laws.Suffices.{needs_of_suffices}
use Rattle.layout.specs.Geometries.{geometry_of}
use Rattle.layout.proofs.Laws.Opened.{opened_head}
use Rattle.layout.proofs.Laws.PublicMap.{entry_of_placed}
use Rattle.layout.proofs.Laws.Refusals.{refusal-some, handed_on}
use Rattle.checks.proofs.Laws.Counts.{FoundAs, round_is_found, no_round_found}
use Rattle.questions.specs.Needs.{needed_of}
use Rattle.questions.proofs.needs.write_needs.Goals.{In_ok-rounds}
use Rattle.questions.proofs.needs.write_needs.Goals as goal

pub returns-in_err-g-clause-needed : goal.returns-in_err-g-clause-needed
returns-in_err-g-clause-needed c =
    let refused = c.in_err-g.ensures in
    ap needed_of (handed_on c.from_residual.ensures.1)
    ∙ needs_of_drive c.args.disk.now c.args.number.0 refused.fault_is refused.fault_some

pub returns-in_err-check_place-clause-needed : goal.returns-in_err-check_place-clause-needed
returns-in_err-check_place-clause-needed c =
    let opened = c.in_ok-g.ensures in
    ap needed_of (handed_on c.from_residual-in_err-check_place.ensures.1)
    ∙ needs_of_place c.args.disk.now c.args.number.0 opened.accepted (geometry_of c.in_ok-g.g) opened.same
    c.in_err-check_place.ensures (refusal-some c.in_err-check_place.field-0.0)

pub round_count-requires-clause-disk_bound : goal.round_count-requires-clause-disk_bound
round_count-requires-clause-disk_bound c = opened_head c.in_ok-g.ensures

pub returns-in_err-rounds-clause-needed : goal.returns-in_err-rounds-clause-needed
returns-in_err-rounds-clause-needed c =
    let opened = c.in_ok-g.ensures in
    let none = no_round_found c.round_count.ensures _ c.ok_or.ensures.value c.in_err-rounds.was in
    ap needed_of (handed_on c.from_residual-in_err-rounds.ensures.1 ∙ ap Err none.1)
    ∙ needs_of_full c.args.disk.now c.args.number.0 opened.accepted (geometry_of c.in_ok-g.g) opened.same
    c.in_ok-check_place.ensures refl none.0

-- the rounds are counted, and there is one
found :
    (c : In_ok-rounds) → FoundAs (round_count (geometry_of c.in_ok-g.g) c.args.disk.now) c.in_ok-rounds.rounds
found c = round_is_found c.round_count.ensures _ c.ok_or.ensures.value c.in_ok-rounds.was

pub write_store_count-stores-requires : goal.write_store_count-stores-requires
write_store_count-stores-requires c =
    let disk = c.args.disk.now in
    let g = geometry_of c.in_ok-g.g in
    let opened = c.in_ok-g.ensures in
    let counted = found (goal.at.write_store_count-stores-requires c).In_ok-rounds in
    let placed = accepted_of_place g disk c.args.number.0 g.block_size (sym c.in_ok-check_place.ensures) in
    record {
      writable =
          record {
            drive = opened.drive;
            head_inside = opened_head opened;
            number_inside = placed.number_inside;
            old = entry_of_placed g disk c.args.number.0 placed.in_place;
          };
      rounds_are = counted.counted;
      some_rounds = counted.some_rounds;
    }

pub returns : goal.returns
returns c =
    let opened = c.in_ok-g.ensures in
    let counted = found (goal.at.returns c).In_ok-rounds in
    let told = needs_of_some c.args.disk.now c.args.number.0 opened.accepted (geometry_of c.in_ok-g.g)
    opened.same c.in_ok-check_place.ensures refl counted.counted c.write_store_count-stores.ensures
    counted.some_rounds in
    record { needed = told; enough = needs_of_suffices c.args.disk.now c.args.number.0 told }
