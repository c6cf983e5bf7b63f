use Rattle.scev_forms.proofs.Extensions.{is_extension, extension_is_canonical, extension_value}
use Rattle.scev_forms.proofs.laws.extensions_keep_the_value.Goals as goal

pub returns-clause-canonical : goal.returns-clause-canonical
returns-clause-canonical c k w tree out is some most canonical h =
    extension_is_canonical k w tree out (is_extension k is) most canonical h

pub returns-clause-value : goal.returns-clause-value
returns-clause-value c k w tree out held turns n is some most canonical h value =
    extension_value held turns k w tree out n (is_extension k is) most canonical h value
