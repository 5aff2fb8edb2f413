-- Five figures are compared, each with that of the model.
use Rattle.std.proofs.Common.{◌≡◌, Bool, ◌&&◌, eqb, ap, ◌∙◌}
use Rattle.model.specs.Promises.Figures.{geometry}
use Rattle.questions.specs.Drives.{size_for}
use Rattle.answers_c.specs.declared.drives.Size.{Size}
use Rattle.answers_c.specs.Drives.{size_said}
use Rattle.figures.specs.Layouts.{size_agrees}
use Rattle.figures.proofs.layouts.SizeRowRow.run.Goals as goal

-- five figures, each by itself
all_five :
    {a b c d e p q r s t : Bool} → a ≡ p → b ≡ q → c ≡ r → d ≡ s → e ≡ t →
    (a && b && c && d && e) ≡ (p && q && r && s && t)
all_five a_is b_is c_is d_is e_is = cc

pub returns : goal.returns
unfolding size_agrees
returns c =
    let row = c.args.self in
    let g = geometry row.0 row.1 row.2 row.3 row.4 in
    let size_is : c.from-size.result ≡ size_said (size_for g) =
    c.from-size.ensures ∙ ap size_said c.drive_size.ensures in
    all_five (c.print_count-answered.ensures ∙ ap (λ (size : Size). eqb row.6 size.answer) size_is)
    (c.print_count-counted.ensures ∙ ap (λ (size : Size). eqb row.7 size.blocks) size_is)
    (c.print_figure-filled.ensures ∙ ap (λ (size : Size). eqb row.8 size.bytes) size_is)
    (c.print_count-started.ensures ∙ ap (eqb row.9) c.start_of.ensures)
    (c.print_count-placed.ensures ∙ ap (eqb row.10) c.place_of.ensures)
