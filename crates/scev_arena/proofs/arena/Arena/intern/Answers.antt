use Rattle.std.proofs.Common.{sym, ◌∙◌, subst}
use Rattle.indexmap.specs.IndexMap.{keys}
use Rattle.scev_arena.specs.Standing.{MayStand}
use Rattle.scev_arena.proofs.MeasuresKept.{names_measured}
use Rattle.scev_arena.proofs.Interned.{interned}
use Rattle.scev_arena.proofs.arena.Arena.intern.Goals as goal

pub node_measure-measure-requires : goal.node_measure-measure-requires
node_measure-measure-requires c =
    names_measured (keys c.self.inside.nodes) c.as_slice.result.now c.args.n
    (c.as_slice.ensures ∙ c.values.ensures.rest ∙ c.self.invariant.1)
    (subst (λ l. MayStand l c.args.n) (sym c.self.view_is) c.requires)

pub invariant_of-self-2 : goal.invariant_of-self-2
invariant_of-self-2 c =
    let done = interned c.self.inside.nodes.entries c.insert_full.new.self.entries c.args.self.now c.args.n
    c.as_slice.result.now c.node_measure-measure.result c.in_ok-place.place c.self.invariant c.self.view_is c.requires
    (c.as_slice.ensures ∙ c.values.ensures.rest) c.node_measure-measure.ensures c.in_ok-place.ensures.entries
    c.in_ok-place.ensures.index in
    (done.arena, done.measures)

pub returns-clause-place : goal.returns-clause-place
returns-clause-place c =
    (interned c.self.inside.nodes.entries c.insert_full.new.self.entries c.args.self.now c.args.n
    c.as_slice.result.now c.node_measure-measure.result c.in_ok-place.place c.self.invariant c.self.view_is c.requires
    (c.as_slice.ensures ∙ c.values.ensures.rest) c.node_measure-measure.ensures c.in_ok-place.ensures.entries
    c.in_ok-place.ensures.index).there

pub returns-clause-grows : goal.returns-clause-grows
returns-clause-grows c =
    (interned c.self.inside.nodes.entries c.insert_full.new.self.entries c.args.self.now c.args.n
    c.as_slice.result.now c.node_measure-measure.result c.in_ok-place.place c.self.invariant c.self.view_is c.requires
    (c.as_slice.ensures ∙ c.values.ensures.rest) c.node_measure-measure.ensures c.in_ok-place.ensures.entries
    c.in_ok-place.ensures.index).grows

pub returns-clause-arena : goal.returns-clause-arena
returns-clause-arena c =
    (interned c.self.inside.nodes.entries c.insert_full.new.self.entries c.args.self.now c.args.n
    c.as_slice.result.now c.node_measure-measure.result c.in_ok-place.place c.self.invariant c.self.view_is c.requires
    (c.as_slice.ensures ∙ c.values.ensures.rest) c.node_measure-measure.ensures c.in_ok-place.ensures.entries
    c.in_ok-place.ensures.index).arena
