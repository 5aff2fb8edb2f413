-- `walk` meets its contract: the numbers that it hands on are those of its geometry, and the root stands just
-- before the data area. Assumes nothing.
use Rattle.std.proofs.Common.{◌-◌, arith}
use Rattle.layout.specs.Geometries.{geometry_of}
use Rattle.hidden_map.proofs.Laws.Trees.{tree_of_drive}
use Rattle.hidden_map.proofs.Laws.Walks.{walked_root}
use Rattle.hidden_map.proofs.walks.walk.Goals as goal

pub returns : goal.returns
returns c =
    let g = geometry_of c.args.g in
    let disk = c.args.disk.now in
    let a = c.area_of-area in
    let walked = c.walk_from-end in
    let from = walked.ensures g (tree_of_drive g disk c.requires a.result a.ensures) in
    walked_root g disk c.args.number.0 (a.result.start.0 - 1) walked.result c.no_nodes-nodes.result
    walked.new.nodes (omega (arith, a.ensures.start_is)) c.no_nodes-nodes.ensures
    (rw a.ensures.height_is at from)
