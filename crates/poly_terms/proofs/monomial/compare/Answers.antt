use Rattle.std.proofs.Common.{◌≡◌, length, refl, Equal}
use Rattle.std.proofs.lemmas.Cmp.{ranked}
use Rattle.poly_terms.proofs.MonomialLemmas.{ordered_by_ids, of_one_length}
use Rattle.poly_terms.proofs.monomial.compare.Goals as goal

pub returns-in-Equal : goal.returns-in-Equal
returns-in-Equal c =
    let xs = c.args.left.now in
    let ys = c.args.right.now in
    let o = c.cmp-in-Equal.result in
    let e : length xs ≡ length ys = ranked (length xs) (length ys) Equal c.in-Equal.ensures in
    of_one_length xs ys o e (ordered_by_ids _ (λ x y. ranked x.0 y.0 _ refl) xs ys o c.cmp-in-Equal.ensures)
