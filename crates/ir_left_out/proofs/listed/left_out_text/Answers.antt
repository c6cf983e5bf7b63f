use Rattle.std.proofs.Common.{◌≡◌, ℕ, suc, ◌-◌, ◌≤◌, arith, ap}
use Rattle.std.specs.Prelude.{slice_get}
use Rattle.ir_text.specs.PassedOn.{left_out_words}
use Rattle.ir_grammar.specs.Spelled.{left_out}
use Rattle.ir_left_out.proofs.listed.left_out_text.Goals as goal

-- the words stand behind the first seven
behind_seven : (number : ℕ) → 7 ≤ number → slice_get left_out number ≡ slice_get left_out_words (number - 7)
behind_seven (suc (suc (suc (suc (suc (suc (suc number))))))) least =
    let same : number ≡ suc (suc (suc (suc (suc (suc (suc number)))))) - 7 = omega arith in
    ap (slice_get left_out_words) same
behind_seven _ least = absurd (omega (arith, least))

pub returns-in_default : goal.returns-in_default
returns-in_default c = rw (behind_seven c.args.number (omega (arith, c.in_default))) c.left_out_word.ensures
