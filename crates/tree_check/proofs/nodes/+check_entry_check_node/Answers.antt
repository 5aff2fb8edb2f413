-- `check_entry` and `check_node` meet their contracts: each way through an entry is a law of what is met
-- there, the node below taken from the walk of the owner; a node's one entry, its first half and the rest
-- have a law each. Assumes nothing.
use Rattle.std.proofs.Common.{ℕ, ◌-◌, ◌/◌, ◌≢◌, refl, sym, ap, ◌∙◌, arith, rules}
use Rattle.std.proofs.Math.Option.{none}
use Rattle.std.specs.Prelude.{Some, None, IsSome}
use Rattle.std.specs.Prelude as code
use Rattle.model.specs.Geometry.{block_width}
use Rattle.model.specs.Blocks.{block_at}
use Rattle.model.specs.TreeCheck.{met_at}
use Rattle.model.proofs.Tree.Keys.{entries_in_positive}
use Rattle.model.proofs.Laws.Branches.{entries_in_high}
use Rattle.model.proofs.Laws.TreeHalves.{fault_one, fault_first_half, fault_rest, fault_node}
use Rattle.layout.specs.Geometries.{geometry_of}
use Rattle.layout.specs.Refusals.{refusal_number, answer_number}
use Rattle.layout.proofs.Laws.Refusals.{refusal-some, handed_on}
use Rattle.layout.specs.declared.numbers.DiskAddress.{DiskAddress}
use Rattle.hidden_map.specs.Nodes.{node_of}
use Rattle.tree_check.proofs.Laws.Nodes.{Judged, fault_unmapped, fault_own, fault_data}
use Rattle.tree_check.proofs.Laws.Nodes.{is_read, fault_below, node_below, start_lt}
use Rattle.tree_check.proofs.nodes.+check_entry_check_node.Goals as goal
use Rattle.tree_check.proofs.nodes.+check_entry_check_node.Goals.{check_entry-After-test_entry}

-- ---- an entry ----

-- the entry is not 0, and its tests are made
judged_of :
    (t : ℕ) (c : check_entry-After-test_entry t) →
    let a = c.args in
    Judged (geometry_of a.g) a.disk.now a.level a.first.0 a.place a.node.0 c.read_entry-entry.result.0
    c.first_below-start.result c.test_entry.result
judged_of t c =
    record {
      node_of = c.requires.node_of;
      place_lt = c.requires.place_bound;
      read = record { entry_is = c.read_entry-entry.ensures; start_is = c.first_below-start.ensures };
      not_zero = c.if-entry-eq0.false;
      told = c.test_entry.ensures;
    }

pub check_entry-returns-then-entry-eq0 : goal.check_entry-returns-then-entry-eq0
check_entry-returns-then-entry-eq0 t c =
    fault_unmapped (geometry_of c.args.g) c.args.disk.now
    (record { entry_is = c.read_entry-entry.ensures; start_is = refl }) c.if-entry-eq0.true

pub check_entry-returns-in_err-nodes : goal.check_entry-returns-in_err-nodes
check_entry-returns-in_err-nodes t c =
    let told = c.in_err-nodes in
    rw (handed_on c.from_residual.ensures.1)
    (fault_own (judged_of t (goal.at.check_entry-returns-in_err-nodes t c).After-test_entry)
    told.field-0.0 told.was)

pub check_entry-returns-then-level-eq0 : goal.check_entry-returns-then-level-eq0
check_entry-returns-then-level-eq0 t c =
    fault_data (judged_of t (goal.at.check_entry-returns-then-level-eq0 t c).After-test_entry)
    c.in_ok-nodes.nodes c.in_ok-nodes.was c.if-level-eq0.true

-- a node that was read is there to take
some_read : (node : code.Option DiskAddress) → node_of node ≢ none → IsSome node
some_read (Some address) ne = search rules
some_read None ne = absurd (ne refl)

pub check_entry-unwrap-below-requires : goal.check_entry-unwrap-below-requires
check_entry-unwrap-below-requires t c =
    let judged = judged_of t (goal.at.check_entry-unwrap-below-requires t c).After-test_entry in
    some_read c.node_at.result
    (λ z. is_read judged c.in_ok-nodes.nodes c.in_ok-nodes.was c.if-level-eq0.false
    (sym c.node_at.ensures ∙ z))

pub check_entry-overflow_cast-start : goal.check_entry-overflow_cast-start
check_entry-overflow_cast-start t c =
    let judged = judged_of t (goal.at.check_entry-overflow_cast-start t c).After-test_entry in
    omega (arith, start_lt judged c.in_ok-nodes.nodes c.in_ok-nodes.was)

pub check_entry-check_node-requires : goal.check_entry-check_node-requires
check_entry-check_node-requires t c =
    let g = geometry_of c.args.g in
    let lower = c.args.level - 1 in
    let judged = judged_of t (goal.at.check_entry-check_node-requires t c).After-test_entry in
    let fits = c.requires.node_of.drive.fits in (
      omega (arith, c.decreases, entries_in_high g fits lower),
      record {
        node_of =
            node_below judged c.in_ok-nodes.nodes c.in_ok-nodes.was c.if-level-eq0.false
            c.unwrap-below.result.0 (sym c.node_at.ensures ∙ ap node_of c.unwrap-below.ensures);
        some_left = omega (arith, entries_in_positive g fits lower);
        within = omega arith;
      },
    )

pub check_entry-returns : goal.check_entry-returns
check_entry-returns t c =
    let a = c.args in
    let g = geometry_of a.g in
    let below = c.unwrap-below in
    fault_below (judged_of t (goal.at.check_entry-returns t c).After-test_entry)
    c.in_ok-nodes.nodes c.in_ok-nodes.was c.if-level-eq0.false below.result.0
    (sym c.node_at.ensures ∙ ap node_of below.ensures) (answer_number c.check_node.result)
    (fault_node g a.disk.now (a.level - 1) c.first_below-start.result
    (block_at (block_width g) a.disk.now below.result.0) c.entries_in-count.result c.entries_in-count.ensures
    (answer_number c.check_node.result) c.check_node.ensures)

-- ---- a node ----

pub check_node-returns-then-remaining-eq1 : goal.check_node-returns-then-remaining-eq1
check_node-returns-then-remaining-eq1 t c =
    let a = c.args in
    let g = geometry_of a.g in
    fault_one g a.disk.now
    (met_at g a.disk.now a.level a.first.0 (block_at (block_width g) a.disk.now a.node.0))
    (answer_number c.check_entry.result) a.remaining a.place c.if-remaining-eq1.true c.check_entry.ensures

pub check_node-returns-in_err-check_node : goal.check_node-returns-in_err-check_node
check_node-returns-in_err-check_node t c =
    let a = c.args in
    let g = geometry_of a.g in
    let fault = c.in_err-check_node.field-0.0 in
    rw (handed_on c.from_residual.ensures.1)
    (fault_first_half g a.disk.now
    (met_at g a.disk.now a.level a.first.0 (block_at (block_width g) a.disk.now a.node.0))
    a.remaining (a.remaining / 2) a.place (omega arith) (refusal_number fault)
    c.in_err-check_node.ensures (refusal-some fault))

pub check_node-returns : goal.check_node-returns
check_node-returns t c =
    let a = c.args in
    let g = geometry_of a.g in
    fault_rest g a.disk.now
    (met_at g a.disk.now a.level a.first.0 (block_at (block_width g) a.disk.now a.node.0))
    a.remaining (a.remaining / 2) a.place (omega arith) 0
    c.in_ok-check_node.ensures refl (answer_number c.check_node-2.result) c.check_node-2.ensures
