-- Two loops are one in the other, or apart.
use Rattle.std.proofs.Common.{◌≡◌, ◌⊎◌, ℕ, List, ◌++◌, Contains, refl, ◌∙◌, subst, inl, inr}
use Rattle.std.proofs.lemmas.Bool.{cases_eq}
use Rattle.std.proofs.lemmas.List.Elements.{Contains-append_left, Contains-append_right, Contains-append_cases}
use Rattle.ir_model.specs.declared.function.Function.{Function}
use Rattle.ir_model.specs.Shapes.{entry}
use Rattle.ir_model.specs.Walks.{Edge, Trail}
use Rattle.ir_model.specs.Walks.Trail.{begins, enters}
use Rattle.loop_regions.specs.Loops.{Loop, IsRegion, IsLoop}
use Rattle.ssa_check.proofs.Trails.{newest, reaches, trail_to}
use Rattle.ssa_check.proofs.Dominance.{dominates_one_way}
use Rattle.natural_loops.proofs.Walking.{Inside, inside_join}
use Rattle.natural_loops.proofs.Trailing.{inside_weaker, block_before, entry_outside}
use Rattle.natural_loops.proofs.Bodies.{header_dominates}

-- the blocks of both, with the header of the second
abbrev together : Loop → Loop → Loop
together inner outer = record { header = outer.header; blocks = inner.blocks ++ outer.blocks }

module _ (f : Function) where
  -- one header has one loop
  pub same_loop : (l k : Loop) → IsLoop f l → IsLoop f k → l.header ≡ k.header → (b : ℕ) → Contains l.blocks b
      → Contains k.blocks b
  same_loop l k first second same b held = second.largest l first.region same b held

  -- two regions are one, where the second has the header of the first
  together_region : (inner outer : Loop) → IsRegion f inner → IsRegion f outer → Contains outer.blocks inner.header
      → IsRegion f (together inner outer)
  together_region inner outer first second held =
      let P : ℕ → Type 0 = Contains (inner.blocks ++ outer.blocks) in
      let of_inner : (b : ℕ) → Contains inner.blocks b → P b =
      λ b there. Contains-append_left inner.blocks outer.blocks b there in
      let of_outer : (b : ℕ) → Contains outer.blocks b → P b =
      λ b there. Contains-append_right inner.blocks outer.blocks b there in
      let middle = inner.header in
      let out : (a : ℕ) → P a → Inside f P a middle =
      λ a there.
      elim (Contains-append_cases inner.blocks outer.blocks a there) [
        | inl early ↦
            inside_weaker f (Contains inner.blocks) P of_inner a middle
            (first.connected a middle early first.header)
        | inr late ↦
            inside_weaker f (Contains outer.blocks) P of_outer a middle (second.connected a middle late held)
      ] in
      let home : (b : ℕ) → P b → Inside f P middle b =
      λ b there.
      elim (Contains-append_cases inner.blocks outer.blocks b there) [
        | inl early ↦
            inside_weaker f (Contains inner.blocks) P of_inner middle b
            (first.connected middle b first.header early)
        | inr late ↦
            inside_weaker f (Contains outer.blocks) P of_outer middle b (second.connected middle b held late)
      ] in
      record {
        header = of_outer outer.header second.header;
        reachable = λ b there.
            elim (Contains-append_cases inner.blocks outer.blocks b there) [
              | inl early ↦ first.reachable b early
              | inr late ↦ second.reachable b late
            ];
        connected = λ a b from to. inside_join f P a middle b (of_inner middle first.header) (out a from) (home b to);
        entered = λ a b reachable outside there edge.
            let past : Contains outer.blocks a → ⊥ = λ within. outside (of_outer a within) in
            elim (Contains-append_cases inner.blocks outer.blocks b there) [
              | inl early ↦
                  let at : b ≡ middle =
                  first.entered a b reachable (λ within. outside (of_inner a within)) early edge in
                  at ∙ second.entered a middle reachable past held (subst (λ (k : ℕ). Edge f a k) at edge)
              | inr late ↦ second.entered a b reachable past late edge
            ];
      }

  -- a loop that has the header of another one has its blocks
  pub header_inside : (inner outer : Loop) → IsLoop f inner → IsLoop f outer → Contains outer.blocks inner.header
      → (b : ℕ) → Contains inner.blocks b → Contains outer.blocks b
  header_inside inner outer first second held b there =
      second.largest (together inner outer) (together_region inner outer first.region second.region held) refl b
      (Contains-append_left inner.blocks outer.blocks b there)

  module _ (never : (a : ℕ) → Edge f a (entry f.blocks) → ⊥) where
    -- a trail to a block of two regions has come through the header of one, inside the other
    common_header : (l k : Loop) → IsRegion f l → IsRegion f k → {xs : List ℕ} → Trail f xs
        → Contains l.blocks (newest xs) → Contains k.blocks (newest xs)
        → Contains l.blocks k.header ⊎ Contains k.blocks l.header
    common_header l k first second begins held also = absurd (entry_outside f never l first held)
    common_header l k first second (enters {b} {to} {trail} before edge) held also =
        elim (cases_eq to l.header) [
          | inl e ↦ inr (subst (λ (c : ℕ). Contains k.blocks c) e also)
          | inr apart ↦
              elim (cases_eq to k.header) [
                | inl e ↦ inl (subst (λ (c : ℕ). Contains l.blocks c) e held)
                | inr other ↦
                    let reachable = reaches f b trail before in
                    common_header l k first second before
                    (block_before f l first b to reachable edge held apart)
                    (block_before f k second b to reachable edge also other)
              ]
        ]

    -- of two loops that have a block in common one has the header of the other
    pub nested : (l k : Loop) → IsLoop f l → IsLoop f k → (b : ℕ) → Contains l.blocks b → Contains k.blocks b
        → Contains l.blocks k.header ⊎ Contains k.blocks l.header
    nested l k first second b held also =
        let trail = trail_to f b (first.region.reachable b held) in
        common_header l k first.region second.region trail.1 held also

    -- where each has the header of the other, they have one header
    pub one_header : (l k : Loop) → IsLoop f l → IsLoop f k → Contains l.blocks k.header → Contains k.blocks l.header
        → l.header ≡ k.header
    one_header l k first second held also =
        elim (cases_eq l.header k.header) [
          | inl same ↦ same
          | inr apart ↦
              let reachable = first.region.reachable k.header held in
              let forth = header_dominates f never l first.region k.header held in
              let back = header_dominates f never k second.region l.header also in
              absurd (dominates_one_way f l.header k.header apart reachable forth back)
        ]
