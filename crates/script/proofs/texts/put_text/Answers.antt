-- The part of the buffer is the text.
use Rattle.std.proofs.Common.{◌+◌, ◌-◌, length, refl, arith}
use Rattle.std.proofs.lemmas.Slice.{put_mid-paste}
use Rattle.script.proofs.Laws.Texts.{put_of_paste}
use Rattle.script.proofs.texts.put_text.Goals as goal

pub returns : goal.returns
returns c =
    let out = c.args.out.now in
    let at = c.args.at in
    let text = c.args.text.now in
    put_of_paste out at text _
    (put_mid-paste at (at + length text - at) out c.copy_from_slice.new.self text (length text)
    c.copy_from_slice.ensures.after (omega arith) refl)
