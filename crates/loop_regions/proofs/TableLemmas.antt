-- The table of loops by the numbers of their blocks, made header by header.
use Rattle.std.proofs.Common.{◌≡◌, ℕ, zero, suc, ◌<◌, List, [], ◌∷◌, ◌++◌, length, set, replicate, Option, Some, None, IfNone, Contains, slice_get, sym, ap, ◌∙◌, inl, inr}
use Rattle.std.proofs.lemmas.Bool.{cases_eq}
use Rattle.std.proofs.lemmas.List.Elements.{Contains-push_cases}
use Rattle.std.proofs.lemmas.Option.{none-some, same_Some}
use Rattle.scev_base.specs.declared.ids.BlockId.{BlockId}
use Rattle.scev_base.specs.declared.ids.LoopId.{LoopId}
use Rattle.loop_regions.specs.Table.{AreNumbered}
use Rattle.flow_graph.proofs.ListLemmas.{slice_get-set_same, slice_get-set_other, slice_get_push, slice_get-append}

-- where a block has no loop, it is no header
pub none_holds : (headers : List BlockId) (innermost : List (Option LoopId)) → AreNumbered headers innermost → (b : BlockId) (found : Option LoopId) → slice_get innermost b.0 ≡ Some found → IfNone found (Contains headers b → ⊥)
none_holds headers innermost numbered b None there = λ header.
    let other = numbered.complete b header in
    let same = other.1 in
    absurd (cc)
none_holds headers innermost numbered b (Some l) there = tt

pub none_missing : (headers : List BlockId) (innermost : List (Option LoopId)) → AreNumbered headers innermost → (b : BlockId) → slice_get innermost b.0 ≡ None → Contains headers b → ⊥
none_missing headers innermost numbered b there header =
    let other = numbered.complete b header in
    none-some (Some other.0) (sym there ∙ other.1)

-- a list of Nones has no loop
no_loop : (n i : ℕ) (l : LoopId) → slice_get (replicate {A = Option LoopId} n None) i ≡ Some (Some l) → ⊥
no_loop zero i l there = cc
no_loop (suc n) zero l there = cc
no_loop (suc n) (suc i) l there = no_loop n i l there

same_block : (a b : BlockId) → a.0 ≡ b.0 → a ≡ b
same_block a b e = ap (λ n. record { 0 = n }) e

-- one more header
pub AreNumbered_more : (headers : List BlockId) (innermost : List (Option LoopId)) (h : BlockId) (n : ℕ) → length headers ≡ n → h.0 < length innermost → AreNumbered headers innermost → AreNumbered (headers ++ h ∷ []) (set innermost h.0 (Some (record { 0 = n })))
AreNumbered_more headers innermost h n count within numbered =
    let last : LoopId = record { 0 = n } in
    let at_h = slice_get-set_same innermost h.0 (Some last) within in
    record {
      found = λ b l there.
          elim (cases_eq b.0 h.0) [
            | inl same ↦
                let is_h : b ≡ h = same_block b h same in
                let is_last : last ≡ l = same_Some last l (same_Some (Some last) (Some l) (sym at_h ∙ ap (λ n. slice_get (set innermost h.0 (Some last)) n) (sym same) ∙ there)) in
                ap (λ (k : LoopId). slice_get (headers ++ h ∷ []) k.0) (sym is_last) ∙ ap (λ k. slice_get (headers ++ h ∷ []) k) (sym count) ∙ slice_get_push headers h ∙ ap Some (sym is_h)
            | inr apart ↦
                slice_get-append headers (h ∷ []) l.0 b (numbered.found b l (sym (slice_get-set_other innermost h.0 b.0 (Some last) apart) ∙ there))
          ];
      complete = λ b header.
          elim (cases_eq b.0 h.0) [
            | inl same ↦ (last, ap (λ n. slice_get (set innermost h.0 (Some last)) n) same ∙ at_h)
            | inr apart ↦
                elim (Contains-push_cases headers h b header) [
                  | inl before ↦
                      let old = numbered.complete b before in
                      (old.0, slice_get-set_other innermost h.0 b.0 (Some last) apart ∙ old.1)
                  | inr is_h ↦ absurd (apart (ap (λ (a : BlockId). a.0) (sym is_h)))
                ]
          ];
    }
