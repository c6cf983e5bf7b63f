use Rattle.std.proofs.Common.{◌≡◌, ℕ, List, Some, length, slice_get, refl, sym, ap, ◌∙◌, subst, inl, inr, arith}
use Rattle.std.proofs.lemmas.Bool.{cases_lt, false≢true}
use Rattle.std.proofs.lemmas.Option.{same_Some, slice_get_read, slice_get_within}
use Rattle.scev_base.specs.declared.ids.BlockId.{BlockId}
use Rattle.scev_base.specs.declared.ids.ValueId.{ValueId}
use Rattle.ir_model.specs.declared.function.Function.{Function}
use Rattle.ir_rules.specs.Uses.{Use, uses, IsBroken}
use Rattle.ssa_check.proofs.check.check_uses.Goals as goal

pub returns-then-branch-clause-refused : goal.returns-then-branch-clause-refused
returns-then-branch-clause-refused c value block e =
    let f = c.args.f.now in
    let items = c.as_slice-read-items.result.now in
    let i = c.loop-read.read-index in
    let use_ = c.read-item.result in
    let all : items ≡ uses f = c.as_slice-read-items.ensures ∙ c.in_ok-reads.ensures ∙ ap uses c.in_ok-sizes.ensures in
    let there = slice_get_read items (length items) i use_ refl c.loop-read-test.true c.read-item.is in
    let broken : IsBroken f use_ =
    subst (λ (g : Function). IsBroken g use_) c.loop-read.invariant.function
    (c.in_ok-is_broken.ensures.broken.0 c.if-branch.true) in
    let its_value : c.read.inside.value ≡ value = cc e in
    let its_block : c.read.inside.spot.user ≡ block = cc e in (
      use_,
      record {
        at = i;
        is = subst (λ (us : List Use). slice_get us i ≡ Some use_) all there;
        broken = broken;
        first = λ k other earlier at. c.loop-read.invariant.defined k other earlier
            (subst (λ (us : List Use). slice_get us k ≡ Some other) (sym all) at);
      },
      sym (ap (λ (u : Use). u.value) c.read.view_is) ∙ ap (λ (v : ValueId). v.0) its_value,
      sym (ap (λ (u : Use). u.user) c.read.view_is) ∙ ap (λ (b : BlockId). b.0) its_block,
    )

pub loop-read-preserved : goal.loop-read-preserved
loop-read-preserved c =
    let f = c.args.f.now in
    let items = c.as_slice-read-items.result.now in
    let i = c.loop-read.read-index in
    let use_ = c.read-item.result in
    let there = slice_get_read items (length items) i use_ refl c.loop-read-test.true c.read-item.is in
    record {
      function = c.in_ok-is_broken.ensures.same ∙ c.loop-read.invariant.function;
      defined = λ k other within at broken.
          elim (cases_lt k i) [
            | inl earlier ↦ c.loop-read.invariant.defined k other earlier at broken
            | inr past ↦
                let last : k ≡ i = omega (arith, within, past) in
                let same : other ≡ use_ =
                same_Some other use_ (sym at ∙ ap (λ (j : ℕ). slice_get items j) last ∙ there) in
                let here : IsBroken c.loop-read.avoiding use_ =
                subst (λ (g : Function). IsBroken g use_) (sym c.loop-read.invariant.function)
                (subst (IsBroken f) same broken) in
                false≢true (sym c.if-branch.false ∙ c.in_ok-is_broken.ensures.broken.1 here)
          ];
    }

pub returns-clause-accepted : goal.returns-clause-accepted
returns-clause-accepted c k use_ at =
    let f = c.args.f.now in
    let items = c.as_slice-read-items.result.now in
    let all : items ≡ uses f = c.as_slice-read-items.ensures ∙ c.in_ok-reads.ensures ∙ ap uses c.in_ok-sizes.ensures in
    let there = subst (λ (us : List Use). slice_get us k ≡ Some use_) (sym all) at in
    let within = slice_get_within items k use_ there in
    c.loop-read.invariant.defined k use_ (omega (arith, within, c.loop-read-test.false)) there
