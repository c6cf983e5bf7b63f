-- Gathering one more thing, as a loop does.
use Rattle.std.proofs.Common.{◌≡◌, ℕ, List, [], ◌∷◌, ◌++◌, map, true, false, Ok, Err, refl, sym, ap, ◌∙◌, append_assoc}
use Rattle.std.specs.List.{flat_map}
use Rattle.std.proofs.lemmas.List.{append-nil, map-append}
use Rattle.ir_model.specs.declared.op.Case.{Case}
use Rattle.ir_text.specs.Mentions.{Mention}
use Rattle.ir_model.specs.Sites.{Site, UsesBlock}
use Rattle.ir_text.specs.Sites.{bare_case}
use Rattle.ir_lex.specs.Tokenized.{Tokenized}
use Rattle.ir_parts.specs.declared.fault.ItemFault.{ItemFault}
use Rattle.ir_parts.specs.Reading.{left_from, go_on, pure, punctuation_at, ◌▷◌, ReadsAs, Passes}
use Rattle.ir_parts.specs.Places.{mentions_at}
use Rattle.ir_parts.specs.MetadataReading.{attachments_at}
use Rattle.ir_parts.specs.ListReading.{begins_part, all_parts_at}
use Rattle.ir_parts.proofs.Loops.{faults_on}
use Rattle.ir_parts.proofs.ListLoops.{PartsRead, parts_no_more, parts_end, parts_no_end}
use Rattle.ir_body.specs.Telling.{Telling}
use Rattle.ir_body.specs.Gathered.{gathered, gathering}
use Rattle.ir_body.specs.Views.{bare_cases, cases_sites, case_sites}
use Rattle.ir_body.proofs.Told.{mentions_append}

pub gathered_more : {A : Type 0} (ps : List (A × List Mention)) (x : A) (ms : List Mention)
    → gathered (ps ++ (x, ms) ∷ []) ≡ ((gathered ps).0 ++ x ∷ [], (gathered ps).1 ++ ms)
gathered_more [] x ms = ap (λ (ms : List Mention). (x ∷ [], ms)) (append-nil ms)
gathered_more {A} (p ∷ ps) x ms =
    ap (λ (q : List A × List Mention). (p.0 ∷ q.0, p.1 ++ q.1)) (gathered_more ps x ms)
    ∙ ap (λ (ms : List Mention). (p.0 ∷ ((gathered ps).0 ++ x ∷ []), ms)) (sym (append_assoc p.1 (gathered ps).1 ms))

-- one more case
pub one_more_case : (t : Tokenized) (cases : List Case) (next : Case) (found : List (Case × List Mention))
    → ◌≡◌ {A = List Case × List Mention} (bare_cases cases, mentions_at t (cases_sites cases)) (gathered found)
    → ◌≡◌ {A = List Case × List Mention}
    (bare_cases (cases ++ next ∷ []), mentions_at t (cases_sites (cases ++ next ∷ [])))
    (gathered (found ++ (bare_case next, mentions_at t (case_sites next)) ∷ []))
one_more_case t cases next found e =
    ap (λ (bare : List Case). (bare, mentions_at t (cases_sites (cases ++ next ∷ []))))
    (map-append bare_case cases (next ∷ []))
    ∙ (ap (λ (ms : List Mention). (bare_cases cases ++ bare_case next ∷ [], ms))
    (ap (mentions_at t) (map-append (λ (c : Case). UsesBlock c.to.0) cases (next ∷ []))
    ∙ mentions_append t (cases_sites cases) (case_sites next))
    ∙ (ap (λ (p : List Case × List Mention). (p.0 ++ bare_case next ∷ [], p.1 ++ mentions_at t (case_sites next))) e
    ∙ sym (gathered_more found (bare_case next) (mentions_at t (case_sites next)))))

-- ---- things that are seen without ids, each with its mentions

module _ {A : Type 0} (t : Tokenized) (bare : A → A) (sites : A → List Site) where
  abbrev pub seen : A → A × List Mention
  seen x = (bare x, mentions_at t (sites x))

  pub gathered_seen : (xs : List A) → gathered (map seen xs) ≡ (map bare xs, mentions_at t (flat_map sites xs))
  gathered_seen [] = refl
  gathered_seen (x ∷ xs) =
      ap (λ (p : List A × List Mention). (bare x ∷ p.0, mentions_at t (sites x) ++ p.1)) (gathered_seen xs)
      ∙ ap (λ (ms : List Mention). (bare x ∷ map bare xs, ms))
      (sym (mentions_append t (sites x) (flat_map sites xs)))

-- ---- such things behind commas, and attachments

module _ {A : Type 0} (item : Telling A) (t : Tokenized) (from : ℕ) (bare : A → A) (sites : A → List Site) where
  -- the list, seen without ids, with its mentions
  abbrev all_seen : List A → List A × List Mention
  all_seen xs = (map bare xs, mentions_at t (flat_map sites xs))

  -- one more is refused
  pub gathered_no_more : (fault : ItemFault) (at : ℕ) (earlier : List A)
      → PartsRead item t from at (map (seen t bare sites) earlier) → true ≡ begins_part (left_from t at)
      → ReadsAs (seen t bare sites) t (Err fault) ((punctuation_at 44 ▷ item) (left_from t at))
      → ReadsAs all_seen t (Err fault) (gathering (all_parts_at item) (left_from t from))
  gathered_no_more fault at earlier loop passed read =
      faults_on (λ (ps : List (A × List Mention)). ps) all_seen t fault (all_parts_at item (left_from t from))
      (λ ps. pure (gathered ps))
      (parts_no_more item t from (seen t bare sites) (λ (ps : List (A × List Mention)). ps) fault at
      (map (seen t bare sites) earlier) loop passed read)

  -- there is no other one, and attachments are read
  pub gathered_end : (at behind : ℕ) (earlier : List A)
      → PartsRead item t from at (map (seen t bare sites) earlier) → false ≡ begins_part (left_from t at)
      → Passes t (Ok behind) (attachments_at (left_from t at))
      → gathering (all_parts_at item) (left_from t from) ≡ Ok (all_seen earlier, left_from t behind)
  gathered_end at behind earlier loop failed read =
      ap (λ r. go_on r (λ ps. pure (gathered ps)))
      (parts_end item t from at behind (map (seen t bare sites) earlier) loop failed read)
      ∙ ap (λ (p : List A × List Mention). Ok (p, left_from t behind)) (gathered_seen t bare sites earlier)

  -- or they are refused
  pub gathered_no_end : (fault : ItemFault) (at : ℕ) (earlier : List A)
      → PartsRead item t from at (map (seen t bare sites) earlier) → false ≡ begins_part (left_from t at)
      → Passes t (Err fault) (attachments_at (left_from t at))
      → ReadsAs all_seen t (Err fault) (gathering (all_parts_at item) (left_from t from))
  gathered_no_end fault at earlier loop failed read =
      faults_on (λ (ps : List (A × List Mention)). ps) all_seen t fault (all_parts_at item (left_from t from))
      (λ ps. pure (gathered ps))
      (parts_no_end item t from (λ (ps : List (A × List Mention)). ps) fault at (map (seen t bare sites) earlier) loop
      failed read)
