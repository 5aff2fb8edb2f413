-- 0 where the disk is refused, and else where the walk of its drive read the node.
use Rattle.std.proofs.Common.{sym, ap, ◌∙◌, eq-eqb, ne_eqb}
use Rattle.laws.proofs.Cases.{cond_true, cond_false}
use Rattle.model.specs.Geometry.{Geometry}
use Rattle.model.specs.Refusals.{drive_refusal}
use Rattle.layout.proofs.Laws.Opened.{opened_refused, opened_good}
use Rattle.hidden_map.specs.Nodes.{read_at}
use Rattle.figures.specs.Trees.{address_told, node_on}
use Rattle.figures.proofs.trees.node_on.Goals as goal

pub returns-in-Err : goal.returns-in-Err
unfolding node_on
returns-in-Err c =
    let disk = c.args.disk.now in
    let refused =
    opened_refused (drive_refusal disk) disk c.open_drive.result c.open_drive.ensures c.in-Err.is in
    sym (cond_false _ _ (ne_eqb _ _ (λ z. refused.fault_some (refused.fault_is ∙ z))))

pub returns-in-Ok : goal.returns-in-Ok
unfolding node_on
returns-in-Ok c =
    let a = c.args in
    let good =
    opened_good (drive_refusal a.disk.now) a.disk.now c.open_drive.result c.open_drive.ensures c.in-Ok.is in
    c.address_at.ensures
    ∙ ap address_told
    (c.walk-trail.ensures.nodes_are a.level
    ∙ ap (λ (g : Geometry). read_at g a.disk.now a.number a.level) good.same)
    ∙ sym (cond_true _ _ (eq-eqb _ _ good.accepted))
