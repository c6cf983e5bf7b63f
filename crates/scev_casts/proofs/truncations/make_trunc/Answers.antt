use Rattle.std.proofs.Common.{◌≡◌, ℕ, ◌%◌, ◌^◌, Option, Some, None, option_map, refl, ap, ◌∙◌, arith}
use Rattle.scev_tree.specs.Tree.{width_of}
use Rattle.scev_arena.specs.Meaning.{tree_of}
use Rattle.scev_forms.specs.Casts.{truncated}
use Rattle.scev_forms.proofs.TruncatedValues.{truncation_value}
use Rattle.scev_sums.specs.Values.{value_at}
use Rattle.scev_sums.proofs.Making.{canonical_at, value_told}
use Rattle.scev_casts.proofs.truncations.make_trunc.Goals as goal

-- what is mapped to something is there
mapped : {A B : Type 0} (f : A → B) (o : Option A) (b : B)
    → option_map f o ≡ Some b
    → (a : A) × (o ≡ Some a) × (f a ≡ b)
mapped f (Some a) b e = (a, refl, cc)
mapped f None b e = absurd cc

pub returns-clause-value : goal.returns-clause-value
returns-clause-value c =
    let nodes = c.args.arena.now in
    let id = c.args.id in
    let w = c.args.to.bits in
    let parents = c.args.nest.now in
    let value = λ (held : ℕ → Option ℕ) (turns : ℕ → ℕ). option_map (λ n. n % 2 ^ w) (value_at nodes id held turns) in
    let tree = canonical_at nodes (width_of (tree_of nodes id)) id c.len.ensures.arena (c.requires.tree, refl) in
    value_told c.truncated.new.arena w value (truncated parents w (tree_of nodes id)) c.truncated.result
    (λ out held turns n done is.
    let before = mapped (λ n. n % 2 ^ w) (value_at nodes id held turns) n is in
    truncation_value parents w (tree_of nodes id) out held turns before.0 (omega (arith, c.args.to.at_least_one))
    c.requires.width tree.1 done before.1
    ∙ ap Some before.2)
    c.truncated.ensures.tree
