-- `open_write` meets its contract: the drive's refusal, the number's, that of the rounds, or the geometry of
-- the drive. Assumes nothing.
use mathlib.Core.Path.{sym, refl}
use lib.ListN.{length}
use Rattle.model.proofs.Laws.Chains.{accepted_of_place, write_refusal_drive, write_refusal_place}
use Rattle.model.proofs.Laws.Chains.{write_refusal_rounds}
use Rattle.layout.specs.Geometries.{geometry_of}
use Rattle.layout.proofs.Laws.Opened.{opened_head}
use Rattle.layout.proofs.Laws.PublicMap.{entry_of_placed}
use Rattle.layout.proofs.Laws.Refusals.{refusal-some, handed_on}
use Rattle.questions.proofs.needs.open_write.Goals as goal

pub returns-in_err-g : goal.returns-in_err-g
returns-in_err-g c =
    let a = c.args in
    let refused = c.in_err-g.ensures in
    rw (handed_on c.from_residual.ensures.1)
    (record {
      fault_is =
          write_refusal_drive a.disk.now a.number.0 a.content.now (length a.random.now) (length a.list.now)
          refused.fault_is refused.fault_some;
      fault_some = refused.fault_some;
    })

pub returns-in_err-check_place : goal.returns-in_err-check_place
returns-in_err-check_place c =
    let a = c.args in
    let opened = c.in_ok-g.ensures in
    let some = refusal-some c.in_err-check_place.field-0.0 in
    rw (handed_on c.from_residual-in_err-check_place.ensures.1)
    (record {
      fault_is =
          write_refusal_place a.disk.now a.number.0 a.content.now (length a.random.now) (length a.list.now)
          opened.accepted (geometry_of c.in_ok-g.g) opened.same c.in_err-check_place.ensures some;
      fault_some = some;
    })

pub check_rounds-requires : goal.check_rounds-requires
check_rounds-requires c =
    let a = c.args in
    let g = geometry_of c.in_ok-g.g in
    let placed = accepted_of_place g a.disk.now a.number.0 (length a.content.now)
    (sym c.in_ok-check_place.ensures) in
    let opened = c.in_ok-g.ensures in
    record {
      drive = opened.drive;
      head_inside = opened_head opened;
      number_inside = placed.number_inside;
      old = entry_of_placed g a.disk.now a.number.0 placed.in_place;
    }

pub returns-in_err-check_rounds : goal.returns-in_err-check_rounds
returns-in_err-check_rounds c =
    let a = c.args in
    let opened = c.in_ok-g.ensures in
    rw (handed_on c.from_residual-in_err-check_rounds.ensures.1)
    (record {
      fault_is =
          write_refusal_rounds a.disk.now a.number.0 a.content.now (length a.random.now) (length a.list.now)
          opened.accepted (geometry_of c.in_ok-g.g) opened.same c.in_ok-check_place.ensures refl
          c.in_err-check_rounds.ensures;
      fault_some = refusal-some c.in_err-check_rounds.field-0.0;
    })

pub returns : goal.returns
returns c =
    let a = c.args in
    let opened = c.in_ok-g.ensures in
    record {
      accepted =
          sym (write_refusal_rounds a.disk.now a.number.0 a.content.now (length a.random.now)
          (length a.list.now) opened.accepted (geometry_of c.in_ok-g.g) opened.same
          c.in_ok-check_place.ensures refl c.in_ok-check_rounds.ensures);
      same = opened.same;
      drive = opened.drive;
    }
