use Rattle.std.proofs.Common.{◌≡◌, length, refl, sym, ap, ◌∙◌, subst, arith}
use Rattle.poly_terms.proofs.ResultLemmas.{still_ok}
use Rattle.scev_tree.specs.Tree.{Terms, no_terms, polynomial, atom, of_atom, parts_of}
use Rattle.scev_tree.specs.declared.kind.Kind.TheVariants as kind
use Rattle.scev_arena.specs.declared.node.Node.TheVariants as node
use Rattle.scev_arena.specs.Meaning.{meanings, terms_at}
use Rattle.scev_forms.specs.Polynomials.{terms_sum}
use Rattle.scev_forms.specs.Sums.{Whole, Again, beside}
use Rattle.scev_walk.proofs.Places.{atom_is}
use Rattle.scev_sums.specs.Answers.{AreTreesOfAt, trees_at}
use Rattle.scev_sums.specs.Levels.{IsGathering}
use Rattle.scev_sums.proofs.Beside.{grown_goes_on, are_trees, have_width, as_many_parts}
use Rattle.scev_sums.proofs.Beside.{beside_none, beside_one, beside_many}
use Rattle.scev_sums.proofs.Growth.{same_trees_go_on, same_terms_go_on, polynomial_goes_on}
use Rattle.scev_sums.proofs.sums.beside.Goals as goal

pub intern-requires : goal.intern-requires
intern-requires c =
    let nodes = c.args.arena.now in
    let w = c.args.w.bits in
    let parts = c.in_ok-from_slice-in_default.field-0 in
    let is : parts ≡ c.args.parts.now = c.in_ok-from_slice-in_default.ensures in
    let held = subst (AreTreesOfAt nodes w) (sym is) c.requires.parts in (
      are_trees nodes w parts held,
      (
        omega (arith, as_many_parts nodes w parts, ap length is, c.in_default.len_at_least),
        have_width nodes w parts held,
      ),
    )

pub whole_of-requires-in_default-clause-others : goal.whole_of-requires-in_default-clause-others
whole_of-requires-in_default-clause-others c =
    polynomial_goes_on c.args.arena.now c.intern.new.self
    (grown_goes_on c.args.arena.now c.intern.new.self _ c.in_ok-atom-in_default.atom
    c.in_ok-atom-in_default.ensures.grows)
    c.args.w.bits c.args.others.now c.requires.others

pub returns-in-empty-clause-gathering : goal.returns-in-empty-clause-gathering
returns-in-empty-clause-gathering c =
    let nodes = c.args.arena.now in
    let new = c.whole_of.new.arena in
    let w = c.args.w.bits in
    let others = terms_at (meanings nodes) c.args.others.now in
    let trees = trees_at nodes c.args.parts.now in
    still_ok c.whole_of.result
    (λ given. (terms : Terms) → IsGathering new w terms given (Whole (polynomial w (terms_sum w no_terms others))))
    (λ given. (terms : Terms) → IsGathering new w terms given (beside w c.args.l.0 trees others))
    (λ given h terms. subst (IsGathering new w terms given)
    (beside_none w c.args.l.0 others nodes c.args.parts.now c.in-empty.len_below) (h terms))
    c.whole_of.ensures.whole

pub returns-in_ok-more-in-len1-2-clause-gathering :
    goal.returns-in_ok-more-in-len1-2-clause-gathering
returns-in_ok-more-in-len1-2-clause-gathering c = λ terms.
    let nodes = c.args.arena.now in
    let others = terms_at (meanings nodes) c.args.others.now in
    let more = c.in_ok-more-in-len1-2.ensures in
    let mine = terms_at (meanings nodes) c.terms_of.result.now in (
      beside_one c.args.w.bits c.args.l.0 others nodes c.args.parts.now c.args.others.now mine c.in-len1.len_at_least
          c.in-len1.len_below (sym c.is_empty.ensures ∙ c.if-is_empty.false) refl c.terms_of.ensures.terms
          ∙ ap Again (sym more.sum),
      more.polynomial,
    )

pub returns-in_ok-rec-in_default-clause-gathering :
    goal.returns-in_ok-rec-in_default-clause-gathering
returns-in_ok-rec-in_default-clause-gathering c =
    let old = c.args.arena.now in
    let nodes = c.intern.new.self in
    let new = c.whole_of-in_default.new.arena in
    let w = c.args.w.bits in
    let l = c.args.l.0 in
    let id = c.in_ok-atom-in_default.atom in
    let items = c.in_ok-from_slice-in_default.field-0 in
    let parts = c.args.parts.now in
    let grows = grown_goes_on old nodes _ id c.in_ok-atom-in_default.ensures.grows in
    let others = terms_at (meanings old) c.args.others.now in
    let later = terms_at (meanings nodes) c.args.others.now in
    let stays : later ≡ others = same_terms_go_on old nodes grows w c.args.others.now c.requires.others.over in
    let rec = terms_at (meanings nodes) c.as_slice.result.now in
    let trees : trees_at nodes items ≡ trees_at old parts =
    ap (trees_at nodes) c.in_ok-from_slice-in_default.ensures
    ∙ same_trees_go_on old nodes grows w parts c.requires.parts in
    let is : polynomial w rec ≡ of_atom w (atom (kind.Rec c.args.l) w (parts_of (trees_at old parts))) =
    ap (λ ts. polynomial w (terms_at (meanings nodes) ts)) c.as_slice.ensures
    ∙ c.in_ok-rec-in_default.ensures.atom
    ∙ ap (of_atom w) (atom_is nodes id (node.Atom (kind.Rec c.args.l) c.args.w items) c.intern.ensures.arena
    c.in_ok-atom-in_default.ensures.place (kind.Rec c.args.l) c.args.w items refl)
    ∙ ap (λ ts. of_atom w (atom (kind.Rec c.args.l) w (parts_of ts))) trees in
    let whole = ap (λ ts. Whole (polynomial w (terms_sum w rec ts))) stays
    ∙ beside_many w l others old parts rec c.in_default.len_at_least is in
    still_ok c.whole_of-in_default.result
    (λ given. (terms : Terms) → IsGathering new w terms given (Whole (polynomial w (terms_sum w rec later))))
    (λ given. (terms : Terms) → IsGathering new w terms given (beside w l (trees_at old parts) others))
    (λ given h terms. subst (IsGathering new w terms given) whole (h terms))
    c.whole_of-in_default.ensures.whole
