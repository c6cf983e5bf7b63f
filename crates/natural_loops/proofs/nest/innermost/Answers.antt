use Rattle.std.proofs.Common.{◌≡◌, ℕ, ◌+◌, List, [], ◌∷◌, ◌++◌, Option, None, length, get_or, sym, ap, ◌∙◌, subst, inl}
use Rattle.std.proofs.Common.{inr, arith, rules}
use Rattle.std.specs.Option.{option_map}
use Rattle.std.proofs.lemmas.Bool.{cases_lt}
use Rattle.std.proofs.lemmas.List.{length_push, get_or_past}
use Rattle.scev_base.specs.declared.ids.LoopId.{LoopId}
use Rattle.ir_model.specs.declared.function.Function.{Function}
use Rattle.ir_model.specs.WellMade.{IsWellMade}
use Rattle.natural_loops.specs.Table.{RegionParts, IsInnermost}
use Rattle.natural_loops.proofs.Nests.{innermost_of, innermost_past, below_pushed, mapped}
use Rattle.natural_loops.proofs.nest.innermost.Goals as goal

pub loop-b-preserved : goal.loop-b-preserved
loop-b-preserved c =
    let f : Function = c.args.c.now.function in
    let regions : List RegionParts = c.args.regions.now in
    let n = c.loop-b.b in
    let id : ℕ → LoopId = λ k. record { 0 = k } in
    let least : Option LoopId = option_map id c.smallest-least.result in
    let old : List (Option LoopId) = c.loop-b.innermost in
    let new : List (Option LoopId) = c.push.new.self in
    let inv = c.loop-b.invariant in
    let mapped : c.map.result ≡ least =
    mapped id _ (λ x y says. search rules) c.smallest-least.result c.map.result c.map.ensures.cases in
    let pushed : new ≡ old ++ least ∷ [] =
    c.in_ok-push.ensures.ok ∙ ap (λ (one : Option LoopId). old ++ one ∷ []) mapped in
    let here : IsInnermost regions n least = innermost_of f regions c.requires n c.smallest-least.result
    (c.smallest-least.ensures.exact f c.requires) in
    record {
      size = ap (λ (xs : List (Option LoopId)). length xs) pushed ∙ length_push old least
          ∙ ap (λ (k : ℕ). k + 1) inv.size;
      each = below_pushed (IsInnermost regions) None old new n least pushed inv.size inv.each here;
    }

pub returns : goal.returns
returns c b =
    let f : Function = c.args.c.now.function in
    let regions : List RegionParts = c.args.regions.now in
    let made : IsWellMade f = subst IsWellMade c.function.ensures.value c.function.ensures.well_made in
    let found : List (Option LoopId) = c.loop-b.innermost in
    let count : c.len-b-end.result ≡ length f.labels = c.len-b-end.ensures ∙ ap (λ (g : Function). length g.labels)
    c.function.ensures.value in
    elim (cases_lt b c.loop-b.b) [
      | inl less ↦ c.loop-b.invariant.each b less
      | inr past ↦
          let none : get_or found b None ≡ None = get_or_past found b None
          (omega (arith, past, c.loop-b.invariant.size)) in
          subst (IsInnermost regions b) (sym none)
          (innermost_past f regions c.requires made.ids made.some_block b
          (omega (arith, past, count, c.loop-b-test.false)))
    ]
