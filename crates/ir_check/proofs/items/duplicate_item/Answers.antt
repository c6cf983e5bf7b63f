use Rattle.std.proofs.Common.{◌≡◌, ◌+◌, ℕ, suc, true, false, length, arith, refl, sym, ap, ◌∙◌, List, Bor, ◌++◌, ◌∷◌}
use Rattle.std.proofs.Common.{[], cond, Bool}
use Rattle.std.specs.List.{list_any}
use Rattle.std.specs.Str.{bytes_eq}
use Rattle.std.proofs.lemmas.Option.{slice_get_read}
use Rattle.std.proofs.lemmas.Bool.{not-true, not-false}
use Rattle.ir_check.proofs.ItemWalks.{nameless, named_again, newly_named}
use Rattle.ir_check.proofs.items.duplicate_item.Goals.{in-Some+in_ok-is_new-in-Some+else-not-is_new, in-None}
use Rattle.ir_check.proofs.items.duplicate_item.Goals as goal

pub returns-then-not-is_new : goal.returns-then-not-is_new
returns-then-not-is_new c =
    let items = c.args.items.now in
    let here = slice_get_read items (length items) c.loop-at.at c.index-items-at.result refl c.loop-at-test.true
    c.index-items-at.is in
    let is = c.in_ok-is_new-in-Some.ensures.added in
    let again : list_any (λ (k : Bor (List ℕ)). bytes_eq c.in-Some.name.now k.now) c.loop-at.names.keys ≡ true =
    not-false _ (sym is ∙ c.if-not-is_new.true) in
    named_again items c.loop-at.at c.index-items-at.result c.loop-at.names.keys here c.in-Some.name
    c.in-Some.ensures again ∙ c.loop-at.invariant

pub loop-at-preserved : goal.loop-at-preserved
loop-at-preserved c =
    let items = c.args.items.now in
    let here = slice_get_read items (length items) c.loop-at.at c.index-items-at.result refl c.loop-at-test.true
    c.index-items-at.is in
    let next : c.loop-at.at + 1 ≡ suc c.loop-at.at = omega arith in
    rw next (elim c.match-name_of.branch [
      | in-Some+in_ok-is_new-in-Some+else-not-is_new w ↦ (
          let name = w.in-Some.name in
          let keys = c.loop-at.names.keys in
          let is = w.in_ok-is_new-in-Some.ensures.added in
          let new : list_any (λ (k : Bor (List ℕ)). bytes_eq name.now k.now) keys ≡ false =
          not-true _ (sym is ∙ w.if-not-is_new.false) in
          let more : c.match-name_of.names.keys ≡ keys ++ name ∷ [] = ap (λ s. s.keys) w.names-is
          ∙ (w.in_ok-is_new-in-Some.ensures.keys ∙ ap (λ (b : Bool). cond b keys (keys ++ name ∷ [])) new) in
          rw more (sym (newly_named items c.loop-at.at c.index-items-at.result keys here name w.in-Some.ensures new)
          ∙ c.loop-at.invariant)
          )
      | in-None w ↦ (
          let same : c.match-name_of.names.keys ≡ c.loop-at.names.keys = ap (λ s. s.keys) w.names-is in
          rw same (sym (nameless items c.loop-at.at c.index-items-at.result c.loop-at.names.keys here
          w.in-None.ensures) ∙ c.loop-at.invariant)
          )
    ])
