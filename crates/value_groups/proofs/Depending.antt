-- Rows of what instructions read.
use Rattle.std.proofs.Common.{◌≡◌, ◌↔◌, ℕ, ◌+◌, ◌<◌, ◌++◌, List, [], ◌∷◌, length, get_or, Contains, None}
use Rattle.std.proofs.Common.{refl, sym, ap, ◌∙◌, subst, inl, inr, arith}
use Rattle.std.proofs.lemmas.Bool.{cases_eq, cases_lt}
use Rattle.std.proofs.lemmas.List.{get_or_append_left, get_or_past, get_or_push, get_or_read, length_push}
use Rattle.std.proofs.lemmas.List.Elements.{All-contains, Contains-append_left, Contains-append_right}
use Rattle.std.proofs.lemmas.List.Elements.{Contains-append_cases, Contains-push, Contains-push_cases}
use Rattle.flow_graph.specs.Graph.{IsClosed}
use Rattle.value_view.specs.declared.reading.Reading.{Reading}
use Rattle.value_exprs.specs.View.{View, number_of_loop, reads_of}
use Rattle.value_exprs.specs.WellMade.{IsListed, IsWellMade}
use Rattle.value_groups.specs.Groups.{IsDependence}
use Rattle.value_groups.specs.Reads.{IsReadBy, IsReadLeaving}

abbrev pub blank : Reading
blank = record { register = record { 0 = 0 }; place = None }

-- ---- one row

-- these are the registers on which what has these readings depends
abbrev pub AreReads : View → List Reading → List ℕ → Type 0
AreReads view reads row = (x : ℕ) → Contains row x ↔ IsReadBy view reads x

pub AreReads_none : (view : View) → AreReads view [] []
AreReads_none view x = (
  (λ there. absurd (omega (arith, there.1))),
  (λ read. absurd (omega (arith, read.1.1))),
)

-- one more reading
pub AreReads_more : (view : View) (reads : List Reading) (reading : Reading) (row more : List ℕ)
    → AreReads view reads row
    → ((x : ℕ) → Contains more x ↔ IsReadLeaving view reading.register.0 (number_of_loop reading.place) x)
    → AreReads view (reads ++ reading ∷ []) ((row ++ reading.register.0 ∷ []) ++ more)
AreReads_more view reads reading row more to left x =
    let first : List ℕ = row ++ reading.register.0 ∷ [] in (
      (λ there.
          elim (Contains-append_cases first more x there) [
            | inl own ↦
                elim (Contains-push_cases row reading.register.0 x own) [
                  | inl before ↦
                      let read = (to x).0 before in
                      (read.0, Contains-append_left reads (reading ∷ []) read.0 read.1, read.2)
                  | inr e ↦ (reading, Contains-push reads reading, inl e)
                ]
            | inr leaving ↦ (reading, Contains-push reads reading, inr ((left x).0 leaving))
          ]),
      (λ read.
          elim (Contains-push_cases reads reading read.0 read.1) [
            | inl before ↦ Contains-append_left first more x
                (Contains-append_left row (reading.register.0 ∷ []) x ((to x).1 (read.0, before, read.2)))
            | inr e ↦
                elim (read.2) [
                  | inl is ↦ Contains-append_left first more x
                      (subst (Contains first) (ap (λ (one : Reading). one.register.0) e ∙ is)
                      (Contains-push row reading.register.0))
                  | inr leaving ↦ Contains-append_right first more x
                      ((left x).1 (subst (λ (one : Reading). IsReadLeaving view one.register.0
                      (number_of_loop one.place) x) (sym e) leaving))
                ]
          ]),
    )

-- ---- all rows

-- a row of a slice of all of them
pub row_is : (view : View) (rows : List (List Reading)) (i : ℕ) (item row : List Reading) → rows ≡ view.reads
    → i < length rows → item ≡ get_or rows i item → row ≡ item → row ≡ reads_of view i
row_is view rows i item row are low read is =
    is ∙ (get_or_read rows i item low read [] ∙ ap (λ (all : List (List Reading)). get_or all i []) are)

-- these are the rows of so many values
pub record AreRowsBelow (view : View) (graph : List (List ℕ)) (n : ℕ) : Type 0 where
  pub size : length graph ≡ n
  pub rows : (v : ℕ) → v < n → AreReads view (reads_of view v) (get_or graph v [])

pub AreRowsBelow_none : (view : View) → AreRowsBelow view [] 0
AreRowsBelow_none view = record { size = refl; rows = λ v below. absurd (omega (arith, below)) }

pub AreRowsBelow_more : (view : View) (graph : List (List ℕ)) (n : ℕ) (row : List ℕ)
    → AreReads view (reads_of view n) row → AreRowsBelow view graph n → AreRowsBelow view (graph ++ row ∷ []) (n + 1)
AreRowsBelow_more view graph n row is to = record {
  size = length_push graph row ∙ ap (λ (k : ℕ). k + 1) to.size;
  rows = λ v below.
      elim (cases_eq v n) [
        | inl e ↦ rw (e, get_or_push graph row [] n to.size) is
        | inr other ↦
            let low : v < n = omega (arith, below, other) in
            rw (get_or_append_left graph (row ∷ []) [] v (omega (arith, low, to.size))) (to.rows v low)
      ];
}

pub IsDependence_all : (view : View) (graph : List (List ℕ)) → IsWellMade view
    → AreRowsBelow view graph (length view.reads) → IsDependence view graph
IsDependence_all view graph made to = record {
  size = to.size ∙ made.sizes.0;
  arcs = λ v.
      elim (cases_lt v (length view.reads)) [
        | inl low ↦ to.rows v low
        | inr past ↦ rw (get_or_past graph v [] (omega (arith, past, to.size)), get_or_past view.reads v [] past)
            (AreReads_none view)
      ];
}

pub IsClosed_all : (view : View) (graph : List (List ℕ)) → IsWellMade view → IsDependence view graph → IsClosed graph
IsClosed_all view graph made is a b arc =
    let depends = (is.arcs a b).0 arc in
    let size = is.size in
    elim (depends.2) [
      | inl e ↦
          let within = All-contains (λ (one : Reading). (one.register.0 < length view.rows) × IsListed view one.place)
          (reads_of view a) depends.0 (made.places a) depends.1 in
          omega (arith, within.0, e, size)
      | inr leaving ↦
          let within = made.conditions leaving.0 (record { 0 = b }) leaving.2 in
          omega (arith, within, size)
    ]
