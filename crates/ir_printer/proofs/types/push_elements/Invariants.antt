use Rattle.std.proofs.Common.{◌≡◌, ◌++◌, codes, take, decimal, replicate}
use Rattle.std.specs.List.{flat_map}
use Rattle.ir_printer.proofs.types.push_elements.Given as goal

abbrev pub invariant-loop-dim : goal.invariant-loop-dim
invariant-loop-dim l = l.out.items
    ≡ l.initial.out.items ++ flat_map (λ d. codes "[" ++ (decimal d ++ codes " x ")) (take l.dim-index l.dims)

abbrev pub invariant-loop : goal.invariant-loop
invariant-loop l = l.out.items ≡ l.initial.out.items ++ replicate l.index 93
