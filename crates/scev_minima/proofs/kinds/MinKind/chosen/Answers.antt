use Rattle.std.proofs.Common.{sym, ap, ◌∙◌}
use Rattle.scev_forms.specs.Minima as forms
use Rattle.scev_minima.specs.Kinds.{kind_of}
use Rattle.scev_minima.proofs.kinds.MinKind.chosen.Goals as goal

pub returns-in-Umax : goal.returns-in-Umax
returns-in-Umax c =
    c.max.ensures ∙ sym (ap (λ k. forms.chosen (kind_of k) c.args.w.bits c.args.a c.args.b) c.in-Umax.is)

pub returns-in-Umin : goal.returns-in-Umin
returns-in-Umin c =
    c.min.ensures ∙ sym (ap (λ k. forms.chosen (kind_of k) c.args.w.bits c.args.a c.args.b) c.in-Umin.is)
