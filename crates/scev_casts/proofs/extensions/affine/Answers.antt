use Rattle.std.proofs.Common.{arith}
use Rattle.scev_casts.proofs.Extending.{not_affine}
use Rattle.scev_casts.proofs.extensions.affine.Goals as goal

pub returns-in_default-clause-parts : goal.returns-in_default-clause-parts
returns-in_default-clause-parts c =
    not_affine c.args.arena.now c.atom_at-kind.result.2.now c.in_default.field-0-0 c.atom_at-kind.result.1.bits
    c.in_ok-alone.ensures.atom c.atom_at-kind.ensures.is c.in_default.is-0
    (λ two. absurd (omega (arith, two, c.in_default.len_below)))

pub returns-in_default-2-clause-parts : goal.returns-in_default-2-clause-parts
returns-in_default-2-clause-parts c =
    not_affine c.args.arena.now c.atom_at-kind.result.2.now c.in_default.field-0-0 c.atom_at-kind.result.1.bits
    c.in_ok-alone.ensures.atom c.atom_at-kind.ensures.is c.in_default.is-0
    (λ two. absurd (omega (arith, two, c.in_default.len_at_least)))
