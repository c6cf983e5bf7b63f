use Rattle.std.proofs.Common.{◌≡◌, ℕ, take, true, nat_eq}
use Rattle.std.specs.List.{list_all}
use Rattle.indexmap.specs.IndexMap.{get}
use Rattle.ir_check.proofs.AgreeingEntries.{first_in, fits_first}
use Rattle.ir_check.proofs.entries.entries_agree.Given as goal

-- the map has the first operand from each block so far, and the entries so far have those
abbrev pub invariant-loop-entry : goal.invariant-loop-entry
invariant-loop-entry l = record {
  noted : (q : ℕ) → get nat_eq l.firsts q ≡ first_in (take l.entry-index l.entries) q;
  agree : list_all (fits_first l.kind l.entries) (take l.entry-index l.entries) ≡ true;
}
