-- Marked blocks, listed block by block.
use Rattle.std.proofs.Common.{◌≡◌, ◌≢◌, ◌==◌, ℕ, ◌+◌, ◌<◌, ◌≤◌, ◌⊎◌, Bool, true, false, List, [], ◌∷◌, ◌++◌, length, get_or, set, Some, All, AllPairs, Contains, position, eqb-true, refl, sym, ap, ◌∙◌, subst, inl, inr, arith, length-set, get_or-set_same, get_or-set_other}
use Rattle.std.proofs.lemmas.Bool.{cases_eq, both_ways, eq-eqb, ne_eqb, lt-ltb}
use Rattle.std.proofs.lemmas.List.{get_or_default}
use Rattle.std.proofs.lemmas.List.Elements.{All-push, All-contains, All-get_or, All-weaker, Contains-append_left, Contains-push}
use Rattle.std.proofs.lemmas.List.Quantifiers.{all_pairs_push}
use Rattle.std.proofs.lemmas.List.Sums.{position_or_len_is}
use Rattle.std.proofs.lemmas.Option.{same_Some}
use Rattle.scev_base.specs.declared.ids.BlockId.{BlockId}
use Rattle.ir_model.specs.declared.function.Block.{Block}
use Rattle.ir_model.specs.declared.function.Function.{Function}
use Rattle.flow_graph.specs.TextOrder.{StandsBefore}
use Rattle.flow_graph.specs.Graph.{IsMarked}
use Rattle.loop_regions.specs.TextOrder.{AreListed}
use Rattle.flow_graph.proofs.ArcLemmas.{find_is}
use Rattle.flow_graph.proofs.SearchLemmas.{marked_within}

abbrev pub id_at : List Block → ℕ → ℕ
id_at blocks i = (get_or blocks i (record { id = record { 0 = 0 }; instrs = [] })).id.0

-- the first block with a number
pub position_is : (blocks : List Block) (b i : ℕ) → i < length blocks → id_at blocks i ≡ b → ((k : ℕ) → k < i → id_at blocks k ≢ b) → position (λ block. block.id.0 == b) blocks ≡ Some i
position_is blocks b i within here before =
    let d : Block = record { id = record { 0 = 0 }; instrs = [] } in
    let place = position_or_len_is (λ block. block.id.0 == b) blocks i d (omega (arith, within)) (λ k h. ne_eqb (id_at blocks k) b (before k h)) (λ _. eq-eqb (id_at blocks i) b here) in
    rw (place, lt-ltb i (length blocks) within) refl

-- The marks that are left, and the list, behind so many blocks.
pub record AreListedTo (f : Function) (old new : List Bool) (headers : List BlockId) (n : ℕ) : Type 0 where
  pub size : length new ≡ length old
  pub left : (b : ℕ) → IsMarked new b → IsMarked old b × ((k : ℕ) → k < n → id_at f.blocks k ≢ b)
  pub done : (b : ℕ) → IsMarked old b → IsMarked new b ⊎ Contains headers (record { 0 = b })
  pub each : All (λ h. IsMarked old h.0 × (i : ℕ) × (i < n) × (position (λ block. block.id.0 == h.0) f.blocks ≡ Some i)) headers
  pub ordered : AllPairs (λ a b. StandsBefore f a.0 b.0) headers

later : (f : Function) (old : List Bool) (headers : List BlockId) (n : ℕ) → All (λ h. IsMarked old h.0 × (i : ℕ) × (i < n) × (position (λ block. block.id.0 == h.0) f.blocks ≡ Some i)) headers → All (λ h. IsMarked old h.0 × (i : ℕ) × (i < n + 1) × (position (λ block. block.id.0 == h.0) f.blocks ≡ Some i)) headers
later f old headers n each =
    All-weaker (λ (h : BlockId). IsMarked old h.0 × (i : ℕ) × (i < n) × (position (λ block. block.id.0 == h.0) f.blocks ≡ Some i)) (λ (h : BlockId). IsMarked old h.0 × (i : ℕ) × (i < n + 1) × (position (λ block. block.id.0 == h.0) f.blocks ≡ Some i)) (λ h w. (w.0, w.1, omega (arith, w.2), w.3)) headers each

-- a block without a mark
pub AreListedTo_skip : (f : Function) (old new : List Bool) (headers : List BlockId) (n b : ℕ) → n < length f.blocks → id_at f.blocks n ≡ b → get_or new b false ≡ false → AreListedTo f old new headers n → AreListedTo f old new headers (n + 1)
AreListedTo_skip f old new headers n b within is unmarked to = record {
  size = to.size;
  left = λ c h. (
    (to.left c h).0,
    λ k low e.
        elim (cases_eq k n) [
          | inl last ↦
              let same : b ≡ c = sym is ∙ ap (λ (j : ℕ). id_at f.blocks j) (sym last) ∙ e in
              both_ways (get_or new b false) unmarked (subst (IsMarked new) (sym same) h)
          | inr apart ↦ (to.left c h).1 k (omega (arith, low, apart)) e
        ],
  );
  done = to.done;
  each = later f old headers n to.each;
  ordered = to.ordered;
}

unset_cases : (marks : List Bool) (b c : ℕ) → b < length marks → IsMarked (set marks b false) c → (c ≡ b → ⊥) × IsMarked marks c
unset_cases marks b c within h =
    elim (cases_eq c b) [
      | inl e ↦
          let none : get_or (set marks b false) b false ≡ false = get_or-set_same marks b false false within in
          absurd (both_ways (get_or (set marks b false) b false) none (subst (IsMarked (set marks b false)) e h))
      | inr apart ↦ (apart, sym (get_or-set_other marks b c false false apart) ∙ h)
    ]

-- a block with a mark, which is taken away
pub AreListedTo_push : (f : Function) (old new : List Bool) (headers : List BlockId) (n : ℕ) (h : BlockId) → n < length f.blocks → id_at f.blocks n ≡ h.0 → get_or new h.0 false ≡ true → AreListedTo f old new headers n → AreListedTo f old (set new h.0 false) (headers ++ h ∷ []) (n + 1)
AreListedTo_push f old new headers n h within is marked to =
    let b = h.0 in
    let inside : b < length new = marked_within new b marked in
    let open_b = to.left b marked in
    let place : position (λ block. block.id.0 == b) f.blocks ≡ Some n = position_is f.blocks b n within is open_b.1 in
    let Q : BlockId → Type 0 = λ g. IsMarked old g.0 × (i : ℕ) × (i < n + 1) × (position (λ block. block.id.0 == g.0) f.blocks ≡ Some i) in
    let P : BlockId → Type 0 = λ g. IsMarked old g.0 × (i : ℕ) × (i < n) × (position (λ block. block.id.0 == g.0) f.blocks ≡ Some i) in
    record {
      size = length-set new b false ∙ to.size;
      left = λ c g.
          let was = unset_cases new b c inside g in
          let open_c = to.left c was.1 in (
            open_c.0,
            λ k low e.
                elim (cases_eq k n) [
                  | inl last ↦ was.0 (sym e ∙ ap (λ (j : ℕ). id_at f.blocks j) last ∙ is)
                  | inr apart ↦ open_c.1 k (omega (arith, low, apart)) e
                ],
          );
      done = λ c g.
          elim (to.done c g) [
            | inl left ↦
                elim (cases_eq c b) [
                  | inl e ↦ inr (subst (λ (j : ℕ). Contains (headers ++ h ∷ []) (record { 0 = j })) (sym e) (Contains-push headers h))
                  | inr apart ↦ inl (get_or-set_other new b c false false apart ∙ left)
                ]
            | inr there ↦ inr (Contains-append_left headers (h ∷ []) (record { 0 = c }) there)
          ];
      each = All-push Q headers h (later f old headers n to.each) (open_b.0, n, omega arith, place);
      ordered = all_pairs_push (λ (x y : BlockId). StandsBefore f x.0 y.0) headers h to.ordered (λ k d low i j at_i at_j.
          let before = All-get_or P headers k d low to.each in
          let i_is : before.1 ≡ i = same_Some before.1 i (sym before.3 ∙ at_i) in
          let j_is : n ≡ j = same_Some n j (sym place ∙ at_j) in
          omega (arith, i_is, j_is, before.2));
    }

pub AreListed_end : (f : Function) (old new : List Bool) (headers : List BlockId) (n : ℕ) → length f.blocks ≤ n → AreListedTo f old new headers n → AreListed f old headers
AreListed_end f old new headers n end to = record {
  only = λ b there. (All-contains (λ (h : BlockId). IsMarked old h.0 × (i : ℕ) × (i < n) × (position (λ block. block.id.0 == h.0) f.blocks ≡ Some i)) headers (record { 0 = b }) to.each there).0;
  each = λ b block h found.
      elim (to.done b h) [
        | inl left ↦
            let is = find_is (λ (x : Block). x.id.0 == b) f.blocks block found in
            let id : block.id.0 ≡ b = eqb-true block.id.0 b is.1 in
            let place = get_or_default f.blocks is.0.0 (record { id = record { 0 = 0 }; instrs = [] }) block is.0.1 ∙ is.0.2 in
            absurd ((to.left b left).1 is.0.0 (omega (arith, is.0.1, end)) (ap (λ (x : Block). x.id.0) place ∙ id))
        | inr there ↦ there
      ];
  ordered = to.ordered;
}
