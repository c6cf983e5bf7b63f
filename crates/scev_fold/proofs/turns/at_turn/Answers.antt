use Rattle.std.proofs.lemmas.Result.{err_from_is_err_and}
use Rattle.scev_tree.specs.Tree.{width_of}
use Rattle.scev_arena.specs.Meaning.{tree_of}
use Rattle.scev_sums.specs.Answers.{IsAt}
use Rattle.scev_fold.proofs.AtTurn.{none_told, found_told, refusal_told, value_found}
use Rattle.scev_fold.proofs.turns.at_turn.Goals as goal

pub returns-then-is_hindered-clause-tree : goal.returns-then-is_hindered-clause-tree
returns-then-is_hindered-clause-tree c =
    let nodes = c.args.arena.now in
    none_told (IsAt nodes (width_of (tree_of nodes c.args.id))) c.args.nest.now c.args.l.0 (tree_of nodes c.args.count)
    (tree_of nodes c.args.id) c.is_hindered.ensures c.if-is_hindered.true

pub returns-in_err-found-clause-tree : goal.returns-in_err-found-clause-tree
returns-in_err-found-clause-tree c =
    let nodes = c.args.arena.now in
    let new = c.tree_at_turn.new.arena in
    refusal_told (IsAt new (width_of (tree_of nodes c.args.id))) c.args.nest.now c.args.l.0 (tree_of nodes c.args.count)
    (tree_of nodes c.args.id) c.is_hindered.ensures c.if-is_hindered.false c.from_residual.result
    c.in_err-found.ensures.tree
    (err_from_is_err_and c.from_residual.result c.from_residual.ensures.1)

pub returns-clause-tree : goal.returns-clause-tree
returns-clause-tree c =
    let nodes = c.args.arena.now in
    let new = c.tree_at_turn.new.arena in
    found_told (IsAt new (width_of (tree_of nodes c.args.id))) c.args.nest.now c.args.l.0 (tree_of nodes c.args.count)
    (tree_of nodes c.args.id) c.is_hindered.ensures c.if-is_hindered.false c.in_ok-found.found
    c.in_ok-found.ensures.tree

pub returns-clause-value : goal.returns-clause-value
returns-clause-value c =
    let nodes = c.args.arena.now in
    value_found nodes c.tree_at_turn.new.arena (width_of (tree_of nodes c.args.id)) c.args.nest.now c.args.l.0
    c.args.count c.args.id c.in_ok-found.found c.len.ensures.arena c.requires.count c.requires.tree
    c.is_hindered.ensures c.if-is_hindered.false c.in_ok-found.ensures.tree
