use Rattle.std.proofs.Common.{◌≡◌, Bool, ◌||◌, true, false, List, [], ◌∷◌, ◌++◌, refl, sym, ap, ◌∙◌, arith}
use Rattle.std.specs.List.{list_any}
use Rattle.std.proofs.lemmas.Result.{err_from_is_err_and}
use Rattle.ir_parts.specs.declared.ending.Run.{Run}
use Rattle.ir_parts.specs.Reading.{left_from, go_on, pure}
use Rattle.ir_parts.specs.WordsReading.{begins_piece, piece_at, pieces_at, last_ending, of_pieces, joined, run_at}
use Rattle.ir_parts.proofs.Loops.{repeat_forth, repeat_faults, repeat_ends, faults_on}
use Rattle.ir_parts.proofs.runs.run.Goals as goal

-- one more piece
or_false : (b : Bool) → (b || false) ≡ b
or_false true = refl
or_false false = refl

regroup : (a b c : Bool) → (a || (b || c)) ≡ ((a || b) || c)
regroup true b c = refl
regroup false b c = refl

any_more : (pieces : List Run) (next : Run)
    → list_any (λ (piece : Run). piece.external) (pieces ++ next ∷ [])
    ≡ (list_any (λ (piece : Run). piece.external) pieces || next.external)
any_more [] next = or_false next.external
any_more (piece ∷ pieces) next =
    ap (λ b. piece.external || b) (any_more pieces next)
    ∙ regroup piece.external (list_any (λ (piece : Run). piece.external) pieces) next.external

last_more : (pieces : List Run) (next : Run) → last_ending (pieces ++ next ∷ []) ≡ next.ending
last_more [] next = refl
last_more (piece ∷ []) next = refl
last_more (piece ∷ other ∷ pieces) next = last_more (other ∷ pieces) next

one_more : (pieces : List Run) (next : Run) → joined (of_pieces pieces) next ≡ of_pieces (pieces ++ next ∷ [])
one_more pieces next = rw (any_more pieces next, last_more pieces next) refl

pub pieces-preserved : goal.pieces-preserved
pieces-preserved c =
    let so_far = c.pieces.invariant.reading in
    record {
      reading = (
        so_far.0 ++ c.in_ok-next.next ∷ [],
        c.joined-so_far.ensures ∙ (ap (λ (run : Run). joined run c.in_ok-next.next) so_far.1 ∙
            one_more so_far.0 c.in_ok-next.next),
        repeat_forth begins_piece piece_at c.args.tokens.now so_far.0 c.pieces.at c.in_ok-next.behind c.in_ok-next.next
            (pieces_at (left_from c.args.tokens.now c.args.from)) c.pieces-test.ensures c.in_ok-next.ensures.value
            c.in_ok-next.ensures.forth so_far.2,
      );
      forth = omega (arith, c.in_ok-next.ensures.forth, c.pieces.invariant.forth);
      within = c.in_ok-next.ensures.forth.1;
    }

pub returns-in_err-next-clause-value : goal.returns-in_err-next-clause-value
unfolding run_at
returns-in_err-next-clause-value c =
    let p = err_from_is_err_and c.from_residual.result c.from_residual.ensures.1 in
    let so_far = c.pieces.invariant.reading in
    rw (p.1, p.2) (faults_on (λ (pieces : List Run). pieces) (λ (run : Run). run) c.args.tokens.now
    c.in_err-next.field-0.0 (pieces_at (left_from c.args.tokens.now c.args.from)) (λ pieces. pure (of_pieces pieces))
    (repeat_faults begins_piece piece_at (λ (run : Run). run) (λ (pieces : List Run). pieces) c.args.tokens.now
    c.in_err-next.field-0.0 so_far.0 (left_from c.args.tokens.now c.pieces.at)
    (pieces_at (left_from c.args.tokens.now c.args.from)) (sym c.pieces-test.ensures) c.in_err-next.ensures.value
    so_far.2))

pub returns-clause-value : goal.returns-clause-value
unfolding run_at
returns-clause-value c =
    let so_far = c.pieces.invariant.reading in
    ap (λ r. go_on r (λ pieces. pure (of_pieces pieces)))
    (repeat_ends begins_piece piece_at so_far.0 (left_from c.args.tokens.now c.pieces.at)
    (pieces_at (left_from c.args.tokens.now c.args.from)) (sym c.pieces-test.ensures) so_far.2)
    ∙ ap (λ run. pure run (left_from c.args.tokens.now c.pieces.at)) (sym so_far.1)
