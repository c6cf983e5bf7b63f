use Rattle.std.proofs.Common.{◌<◌, ℕ, subst, arith}
use Rattle.scev_tree.specs.declared.kind.Kind.TheVariants as kind
use Rattle.scev_casts.proofs.Extending.{extension_told}
use Rattle.scev_casts.proofs.extensions.make_sext.Goals as goal

pub returns-clause-value : goal.returns-clause-value
returns-clause-value c =
    extension_told c.args.arena.now c.extended_when.new.arena kind.Sext c.args.to.bits c.args.no_wrap c.args.id
    c.extended_when.result c.width.ensures.arena c.requires.tree tt
    (subst (λ (w : ℕ). 0 < w) c.width.ensures.width (omega (arith, c.width.result.at_least_one))) c.requires.width
    c.extended_when.ensures.tree
