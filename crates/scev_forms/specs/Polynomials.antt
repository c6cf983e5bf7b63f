-- Sums and products of polynomials: coefficients of one monomial are added, and those that become 0 go.
use Rattle.std.specs.Prelude.{ℕ, ◌*◌}
use Rattle.scev_tree.specs.Tree.{Tree, Terms, Factors, polynomial, no_terms, term}
use Rattle.scev_tree.specs.Canonical.{joined_factors, with_term}

abbrev pub terms_of : Tree → Terms
terms_of (polynomial w terms) = terms

-- the sum modulo 2^w
unfoldable pub terms_sum : ℕ → Terms → Terms → Terms
terms_sum w no_terms others = others
terms_sum w (term factors n terms) others = with_term w factors n (terms_sum w terms others)

-- the product with one monomial and its coefficient
unfoldable pub terms_multiple : ℕ → Factors → ℕ → Terms → Terms
terms_multiple w _ n no_terms = no_terms
terms_multiple w factors n (term others m terms) =
    with_term w (joined_factors factors others) (n * m) (terms_multiple w factors n terms)

-- the product modulo 2^w
unfoldable pub terms_product : ℕ → Terms → Terms → Terms
terms_product w no_terms others = no_terms
terms_product w (term factors n terms) others =
    terms_sum w (terms_multiple w factors n others) (terms_product w terms others)
