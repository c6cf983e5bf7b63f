-- Lists of terms in order.
use Rattle.std.proofs.Common.{◌≡◌, ℕ, List, [], ◌∷◌, ◌++◌, sym, subst}
use Rattle.scev_base.specs.declared.ids.ExprId.{ExprId}
use Rattle.poly_terms.specs.declared.term.Term.{Term}
use Rattle.poly_terms.specs.Monomials.{Precedes}
use Rattle.poly_terms.specs.Terms.{AllBehind, IsInOrder, AreReduced}
use Rattle.poly_terms.proofs.MonomialLemmas.{before_again}

pub behind_again : (first second : List ExprId) (ts : List Term) → Precedes first second → AllBehind second ts → AllBehind first ts
behind_again first second [] h all = tt
behind_again first second (t ∷ ts) h all =
    (before_again first second t.ids h all.0, behind_again first second ts h all.1)

-- A term before the first of a list in order is before each.
pub before_all : (ids : List ExprId) (t : Term) (ts : List Term) → Precedes ids t.ids → IsInOrder (t ∷ ts) → AllBehind ids (t ∷ ts)
before_all ids t ts h ordered = (h, behind_again ids t.ids ts h ordered.0)

pub behind_front : (ids : List ExprId) (ss ts : List Term) → AllBehind ids (ss ++ ts) → AllBehind ids ss
behind_front ids [] ts h = tt
behind_front ids (s ∷ ss) ts h = (h.0, behind_front ids ss ts h.1)

pub behind_back : (ids : List ExprId) (ss ts : List Term) → AllBehind ids (ss ++ ts) → AllBehind ids ts
behind_back ids [] ts h = h
behind_back ids (s ∷ ss) ts h = behind_back ids ss ts h.1

pub behind_both : (ids : List ExprId) (ss ts : List Term) → AllBehind ids ss → AllBehind ids ts → AllBehind ids (ss ++ ts)
behind_both ids [] ts h h' = h'
behind_both ids (s ∷ ss) ts h h' = (h.0, behind_both ids ss ts h.1 h')

pub order_front : (ss ts : List Term) → IsInOrder (ss ++ ts) → IsInOrder ss
order_front [] ts h = tt
order_front (s ∷ ss) ts h = (behind_front s.ids ss ts h.0, order_front ss ts h.1)

pub order_back : (ss ts : List Term) → IsInOrder (ss ++ ts) → IsInOrder ts
order_back [] ts h = h
order_back (s ∷ ss) ts h = order_back ss ts h.1

-- A list stays in order without one of its terms.
pub order_without : (ss ts : List Term) (t : Term) → IsInOrder (ss ++ t ∷ ts) → IsInOrder (ss ++ ts)
order_without [] ts t h = h.1
order_without (s ∷ ss) ts t h = (
  behind_both s.ids ss ts (behind_front s.ids ss (t ∷ ts) h.0) (behind_back s.ids ss (t ∷ ts) h.0).1,
  order_without ss ts t h.1,
)

-- A term that was the next may go to the end, before any list that goes on from it, with another coefficient.
pub order_with : (ss ts rest : List Term) (t u : Term) → u.ids ≡ t.ids → IsInOrder (ss ++ t ∷ ts) → IsInOrder (ss ++ rest) → AllBehind t.ids rest → IsInOrder ((ss ++ u ∷ []) ++ rest)
order_with [] ts rest t u e h h' all = (subst (λ ids. AllBehind ids rest) (sym e) all, h')
order_with (s ∷ ss) ts rest t u e h h' all =
    let next : Precedes s.ids u.ids = subst (Precedes s.ids) (sym e) (behind_back s.ids ss (t ∷ ts) h.0).0 in (
      behind_both s.ids (ss ++ u ∷ []) rest (behind_both s.ids ss (u ∷ []) (behind_front s.ids ss rest h'.0) (next, tt)) (behind_back s.ids ss rest h'.0),
      order_with ss ts rest t u e h.1 h'.1 all,
    )

-- Each of both lists is reduced, and so is the whole.
pub reduced_both : (bits : ℕ) (ss ts : List Term) → AreReduced bits ss → AreReduced bits ts → AreReduced bits (ss ++ ts)
reduced_both bits [] ts h h' = h'
reduced_both bits (s ∷ ss) ts h h' = (h.0, h.1, h.2, reduced_both bits ss ts h.3 h')
