-- `pddm_enter` meets its contract: the line by value is loaded from the lent one, and what entering answers
-- is saved in it. Assumes nothing.
use Rattle.std.proofs.Common.{refl}
use Rattle.mapper_c.proofs.Laws.LineEnters.{saved_entered, saved_refused, entered_of_held}
use Rattle.mapper_c.proofs.line_enters.pddm_enter.Goals as goal

pub returns-in-Ok : goal.returns-in-Ok
returns-in-Ok c =
    let lent = c.args.line.now in
    let held = c.load_lent-held in
    let enter = c.enter_line-entered in
    let saved = c.save_lent.new.line in
    rw c.entered_as-told.ensures
    (entered_of_held lent c.args.waiting held.result enter.result saved held.ensures enter.ensures
    (saved_entered lent c.args.waiting held.result held.ensures enter.result saved _ c.in-Ok.is
    c.save_lent.ensures))

pub returns-in-Err : goal.returns-in-Err
returns-in-Err c =
    let lent = c.args.line.now in
    let held = c.load_lent-held in
    let enter = c.enter_line-entered in
    rw c.entered_as-told.ensures
    (entered_of_held lent c.args.waiting held.result enter.result lent held.ensures enter.ensures
    (saved_refused lent c.args.waiting held.result held.ensures enter.result lent _ c.in-Err.is refl))
