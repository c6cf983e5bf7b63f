use Rattle.scev_forms.proofs.Extensions.{is_extension}
use Rattle.scev_forms.proofs.WithinRange.{within_is_canonical, within_value}
use Rattle.scev_forms.proofs.laws.extensions_within_range_keep_the_value.Goals as goal

pub returns-clause-canonical : goal.returns-clause-canonical
returns-clause-canonical c k w no_wrap tree out is some most canonical h =
    within_is_canonical k w tree out (is_extension k is) some most canonical no_wrap h

pub returns-clause-value : goal.returns-clause-value
returns-clause-value c k w no_wrap tree out held turns n is some most canonical h stays value =
    within_value k w tree out (is_extension k is) some most canonical held turns no_wrap n h stays value
