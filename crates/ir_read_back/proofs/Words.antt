-- The fixed words and signs of a printed text are words and signs.
use Rattle.std.proofs.Common.{IsTrue, codes, refl}
use Rattle.scev_base.specs.declared.pred.Pred.{Pred}
use Rattle.scev_base.specs.declared.pred.Pred.TheVariants as pred
use Rattle.ir_model.specs.declared.op.BinOp.{BinOp}
use Rattle.ir_model.specs.declared.op.BinOp.TheVariants as binary
use Rattle.ir_text.specs.Bytes.{is_letter, is_digit, begins_word, goes_on_word, is_sign}
use Rattle.ir_text.specs.Names.{is_word}
use Rattle.ir_grammar.specs.Operations.{binary_text, pred_text}

pub define_is_word : IsTrue (is_word (codes "define"))
unfolding is_word begins_word goes_on_word is_letter is_digit
define_is_word = refl

pub phi_is_word : IsTrue (is_word (codes "phi"))
unfolding is_word begins_word goes_on_word is_letter is_digit
phi_is_word = refl

pub nuw_is_word : IsTrue (is_word (codes "nuw"))
unfolding is_word begins_word goes_on_word is_letter is_digit
nuw_is_word = refl

pub nsw_is_word : IsTrue (is_word (codes "nsw"))
unfolding is_word begins_word goes_on_word is_letter is_digit
nsw_is_word = refl

pub icmp_is_word : IsTrue (is_word (codes "icmp"))
unfolding is_word begins_word goes_on_word is_letter is_digit
icmp_is_word = refl

pub br_is_word : IsTrue (is_word (codes "br"))
unfolding is_word begins_word goes_on_word is_letter is_digit
br_is_word = refl

pub label_is_word : IsTrue (is_word (codes "label"))
unfolding is_word begins_word goes_on_word is_letter is_digit
label_is_word = refl

pub ret_is_word : IsTrue (is_word (codes "ret"))
unfolding is_word begins_word goes_on_word is_letter is_digit
ret_is_word = refl

pub exact_is_word : IsTrue (is_word (codes "exact"))
unfolding is_word begins_word goes_on_word is_letter is_digit
exact_is_word = refl

pub disjoint_is_word : IsTrue (is_word (codes "disjoint"))
unfolding is_word begins_word goes_on_word is_letter is_digit
disjoint_is_word = refl

pub nneg_is_word : IsTrue (is_word (codes "nneg"))
unfolding is_word begins_word goes_on_word is_letter is_digit
nneg_is_word = refl

pub to_is_word : IsTrue (is_word (codes "to"))
unfolding is_word begins_word goes_on_word is_letter is_digit
to_is_word = refl

pub select_is_word : IsTrue (is_word (codes "select"))
unfolding is_word begins_word goes_on_word is_letter is_digit
select_is_word = refl

pub i1_is_word : IsTrue (is_word (codes "i1"))
unfolding is_word begins_word goes_on_word is_letter is_digit
i1_is_word = refl

pub freeze_is_word : IsTrue (is_word (codes "freeze"))
unfolding is_word begins_word goes_on_word is_letter is_digit
freeze_is_word = refl

pub alloca_is_word : IsTrue (is_word (codes "alloca"))
unfolding is_word begins_word goes_on_word is_letter is_digit
alloca_is_word = refl

pub load_is_word : IsTrue (is_word (codes "load"))
unfolding is_word begins_word goes_on_word is_letter is_digit
load_is_word = refl

pub store_is_word : IsTrue (is_word (codes "store"))
unfolding is_word begins_word goes_on_word is_letter is_digit
store_is_word = refl

pub ptr_is_word : IsTrue (is_word (codes "ptr"))
unfolding is_word begins_word goes_on_word is_letter is_digit
ptr_is_word = refl

pub getelementptr_is_word : IsTrue (is_word (codes "getelementptr"))
unfolding is_word begins_word goes_on_word is_letter is_digit
getelementptr_is_word = refl

pub inbounds_is_word : IsTrue (is_word (codes "inbounds"))
unfolding is_word begins_word goes_on_word is_letter is_digit
inbounds_is_word = refl

pub call_is_word : IsTrue (is_word (codes "call"))
unfolding is_word begins_word goes_on_word is_letter is_digit
call_is_word = refl

pub switch_is_word : IsTrue (is_word (codes "switch"))
unfolding is_word begins_word goes_on_word is_letter is_digit
switch_is_word = refl

pub void_is_word : IsTrue (is_word (codes "void"))
unfolding is_word begins_word goes_on_word is_letter is_digit
void_is_word = refl

pub unreachable_is_word : IsTrue (is_word (codes "unreachable"))
unfolding is_word begins_word goes_on_word is_letter is_digit
unreachable_is_word = refl

pub true_is_word : IsTrue (is_word (codes "true"))
unfolding is_word begins_word goes_on_word is_letter is_digit
true_is_word = refl

pub false_is_word : IsTrue (is_word (codes "false"))
unfolding is_word begins_word goes_on_word is_letter is_digit
false_is_word = refl

pub null_is_word : IsTrue (is_word (codes "null"))
unfolding is_word begins_word goes_on_word is_letter is_digit
null_is_word = refl

pub undef_is_word : IsTrue (is_word (codes "undef"))
unfolding is_word begins_word goes_on_word is_letter is_digit
undef_is_word = refl

pub poison_is_word : IsTrue (is_word (codes "poison"))
unfolding is_word begins_word goes_on_word is_letter is_digit
poison_is_word = refl

pub x_is_word : IsTrue (is_word (codes "x"))
unfolding is_word begins_word goes_on_word is_letter is_digit
x_is_word = refl

pub align_is_word : IsTrue (is_word (codes "align"))
unfolding is_word begins_word goes_on_word is_letter is_digit
align_is_word = refl

pub declare_is_word : IsTrue (is_word (codes "declare"))
unfolding is_word begins_word goes_on_word is_letter is_digit
declare_is_word = refl

pub global_is_word : IsTrue (is_word (codes "global"))
unfolding is_word begins_word goes_on_word is_letter is_digit
global_is_word = refl

pub constant_is_word : IsTrue (is_word (codes "constant"))
unfolding is_word begins_word goes_on_word is_letter is_digit
constant_is_word = refl

pub zext_is_word : IsTrue (is_word (codes "zext"))
unfolding is_word begins_word goes_on_word is_letter is_digit
zext_is_word = refl

pub sext_is_word : IsTrue (is_word (codes "sext"))
unfolding is_word begins_word goes_on_word is_letter is_digit
sext_is_word = refl

pub trunc_is_word : IsTrue (is_word (codes "trunc"))
unfolding is_word begins_word goes_on_word is_letter is_digit
trunc_is_word = refl

pub binary_text_is_word : (op : BinOp) → IsTrue (is_word (binary_text op))
unfolding is_word begins_word goes_on_word is_letter is_digit
binary_text_is_word binary.Add = refl
binary_text_is_word binary.Sub = refl
binary_text_is_word binary.Mul = refl
binary_text_is_word binary.Shl = refl
binary_text_is_word binary.Udiv = refl
binary_text_is_word binary.Sdiv = refl
binary_text_is_word binary.Lshr = refl
binary_text_is_word binary.Ashr = refl
binary_text_is_word binary.Urem = refl
binary_text_is_word binary.Srem = refl
binary_text_is_word binary.And = refl
binary_text_is_word binary.Xor = refl
binary_text_is_word binary.Or = refl

pub pred_text_is_word : (op : Pred) → IsTrue (is_word (pred_text op))
unfolding is_word begins_word goes_on_word is_letter is_digit
pred_text_is_word pred.Eq = refl
pred_text_is_word pred.Ne = refl
pred_text_is_word pred.Ugt = refl
pred_text_is_word pred.Uge = refl
pred_text_is_word pred.Ult = refl
pred_text_is_word pred.Ule = refl
pred_text_is_word pred.Sgt = refl
pred_text_is_word pred.Sge = refl
pred_text_is_word pred.Slt = refl
pred_text_is_word pred.Sle = refl

pub comma_is_sign : IsTrue (is_sign 44)
unfolding is_sign
comma_is_sign = refl

pub equals_is_sign : IsTrue (is_sign 61)
unfolding is_sign
equals_is_sign = refl

pub opening_bracket_is_sign : IsTrue (is_sign 91)
unfolding is_sign
opening_bracket_is_sign = refl

pub closing_bracket_is_sign : IsTrue (is_sign 93)
unfolding is_sign
closing_bracket_is_sign = refl

pub opening_parenthesis_is_sign : IsTrue (is_sign 40)
unfolding is_sign
opening_parenthesis_is_sign = refl

pub closing_parenthesis_is_sign : IsTrue (is_sign 41)
unfolding is_sign
closing_parenthesis_is_sign = refl

pub opening_brace_is_sign : IsTrue (is_sign 123)
unfolding is_sign
opening_brace_is_sign = refl

pub closing_brace_is_sign : IsTrue (is_sign 125)
unfolding is_sign
closing_brace_is_sign = refl
