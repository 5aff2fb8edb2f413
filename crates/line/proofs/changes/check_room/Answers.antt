-- `check_room` meets its contract: one law for each way through its tests. Assumes nothing.
use Rattle.std.proofs.Common.{◌≡◌, true, false, ◌∙◌, arith, rules}
use Rattle.std.specs.Prelude.{is_some}
use Rattle.line.specs.Offers.{line_of}
use Rattle.line.proofs.Laws.Entering.{room_known, room_most, room_full, room_left}
use Rattle.line.proofs.Laws.Numbers.{is_waiting_in-found}
use Rattle.line.proofs.changes.check_room.Goals as goal

pub returns-then-is_some : goal.returns-then-is_some
returns-then-is_some c =
    let a = c.args in
    let found = c.find_number in
    let some : is_some found.result ≡ true = search rules in
    room_known (line_of a.line) a.number.0 a.room
    (is_waiting_in-found (line_of a.line) a.number.0 found.result found.ensures ∙ some)

pub returns-then-most-ge16 : goal.returns-then-most-ge16
returns-then-most-ge16 c =
    let a = c.args in
    let found = c.find_number in
    let none : is_some found.result ≡ false = search rules in
    room_most (line_of a.line) a.number.0 a.room
    (is_waiting_in-found (line_of a.line) a.number.0 found.result found.ensures ∙ none) (omega arith)

pub returns-then-room-most : goal.returns-then-room-most
returns-then-room-most c =
    let a = c.args in
    let found = c.find_number in
    let none : is_some found.result ≡ false = search rules in
    room_full (line_of a.line) a.number.0 a.room
    (is_waiting_in-found (line_of a.line) a.number.0 found.result found.ensures ∙ none) (omega arith)

pub returns : goal.returns
returns c =
    let a = c.args in
    let found = c.find_number in
    let none : is_some found.result ≡ false = search rules in
    room_left (line_of a.line) a.number.0 a.room
    (is_waiting_in-found (line_of a.line) a.number.0 found.result found.ensures ∙ none) (omega arith)
    (omega arith)
