use Rattle.std.proofs.Common.{arith}
use Rattle.scev_arena.specs.Meaning.{tree_of}
use Rattle.scev_minima.proofs.Divided.{no_quotient}
use Rattle.scev_minima.proofs.quotients.quotient.Goals as goal

pub returns-in_default-clause-parts : goal.returns-in_default-clause-parts
returns-in_default-clause-parts c =
    let nodes = c.args.arena.now in
    let read = c.atom_at-kind.result in
    no_quotient nodes (tree_of nodes c.args.id) c.in_ok-alone.field-0 read.0 read.1.bits read.2.now
    c.in_ok-alone.ensures.atom c.atom_at-kind.ensures.is c.in_default.is-0 (λ e. omega arith)

pub returns-in_default-2-clause-parts : goal.returns-in_default-2-clause-parts
returns-in_default-2-clause-parts c =
    let nodes = c.args.arena.now in
    let read = c.atom_at-kind.result in
    no_quotient nodes (tree_of nodes c.args.id) c.in_ok-alone.field-0 read.0 read.1.bits read.2.now
    c.in_ok-alone.ensures.atom c.atom_at-kind.ensures.is c.in_default.is-0 (λ e. omega arith)
