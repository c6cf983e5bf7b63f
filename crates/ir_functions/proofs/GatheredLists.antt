-- What is made of things that were read one after another, as a loop has it.
use Rattle.std.proofs.Common.{◌≡◌, ℕ, List, [], ◌∷◌, ◌++◌, Result, Ok, Err, sym, ap, ◌∙◌}
use Rattle.std.specs.List.{flat_map}
use Rattle.std.proofs.lemmas.List.{append-nil}
use Rattle.std.proofs.lemmas.List.Concat.{flat_map-append}
use Rattle.ir_text.specs.Tokens.{Lexeme}
use Rattle.ir_text.specs.Mentions.{Mention}
use Rattle.ir_model.specs.Sites.{Site}
use Rattle.ir_lex.specs.Tokenized.{Tokenized}
use Rattle.ir_parts.specs.declared.fault.ItemFault.{ItemFault}
use Rattle.ir_parts.specs.Reading.{Read, go_on, pure, ReadsAs}
use Rattle.ir_parts.specs.Reading as reading
use Rattle.ir_parts.specs.Places.{mentions_at}
use Rattle.ir_parts.proofs.Loops.{faults_on}
use Rattle.ir_body.specs.Telling.{give, behind, made}
use Rattle.ir_body.specs.Gathered.{gathered}
use Rattle.ir_body.proofs.GatheredLoops.{gathered_more}
use Rattle.ir_body.proofs.Told.{mentions_append}

module _ {A Y : Type 0} (make : List A → Y) where
  -- what is made of the things, and their mentions
  abbrev pub made_of : List (A × List Mention) → Y × List Mention
  made_of found = (make (gathered found).0, (gathered found).1)

  -- one more thing
  pub made_more : (put : Y → A → Y) → ((xs : List A) (x : A) → make (xs ++ x ∷ []) ≡ put (make xs) x)
      → (found : List (A × List Mention)) (x : A) (ms before : List Mention) (y : Y)
      → ◌≡◌ {A = Y × List Mention} (y, before) (made_of found)
      → ◌≡◌ {A = Y × List Mention} (put y x, before ++ ms) (made_of (found ++ (x, ms) ∷ []))
  made_more put step found x ms before y e =
      ap (λ (p : Y × List Mention). (put p.0 x, p.1 ++ ms)) e
      ∙ (ap (λ (y : Y). (y, (gathered found).1 ++ ms)) (sym (step (gathered found).0 x))
      ∙ ap (λ (q : List A × List Mention). (make q.0, q.1)) (sym (gathered_more found x ms)))

  -- all of them
  pub made_read : (r : Read (List (A × List Mention))) (ts rest : List Lexeme) (found : List (A × List Mention))
      (seen : Y × List Mention)
      → r ts ≡ Ok (found, rest) → seen ≡ made_of found → made make (reading.made gathered r) ts ≡ Ok (seen, rest)
  made_read r ts rest found seen read same =
      ap (λ (read : Result (List (A × List Mention) × List Lexeme) ℕ).
      go_on {A = List A × List Mention} {B = Y × List Mention} (go_on read (λ xs. pure (gathered xs)))
      (λ x rest. behind x.1 (give (make x.0) rest))) read
      ∙ (ap (λ (ms : List Mention). Ok ((make (gathered found).0, ms), rest)) (append-nil (gathered found).1)
      ∙ ap (λ (p : Y × List Mention). Ok (p, rest)) (sym same))

  -- or none, where one is refused
  pub made_faults : {X Z : Type 0} (view : X → List (A × List Mention)) (other : Z → Y × List Mention)
      (r : Read (List (A × List Mention))) (t : Tokenized) (fault : ItemFault) (ts : List Lexeme)
      → ReadsAs view t (Err fault) (r ts)
      → ReadsAs other t (Err fault) (made make (reading.made gathered r) ts)
  made_faults view other r t fault ts e =
      faults_on (λ (p : List A × List Mention). p) other t fault (reading.made gathered r ts)
      (λ x rest. behind x.1 (give (make x.0) rest))
      (faults_on view (λ (p : List A × List Mention). p) t fault (r ts) (λ xs. pure (gathered xs)) e)

-- the sites of one more thing
pub sites_more : {X : Type 0} (t : Tokenized) (sites : X → List Site) (xs : List X) (x : X)
    → mentions_at t (flat_map sites (xs ++ x ∷ [])) ≡ mentions_at t (flat_map sites xs) ++ mentions_at t (sites x)
sites_more t sites xs x =
    ap (mentions_at t) (flat_map-append sites xs (x ∷ []) ∙ ap (λ (s : List Site). flat_map sites xs ++ s)
    (append-nil (sites x)))
    ∙ mentions_append t (flat_map sites xs) (sites x)
