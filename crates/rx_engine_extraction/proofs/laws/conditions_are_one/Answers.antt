use Rattle.rx_engine_extraction.proofs.AgreeingBounds.{one_bounds}
use Rattle.rx_engine_extraction.proofs.AgreeingTexts.{conditions_alike, refused_or_extracted}
use Rattle.rx_engine_extraction.proofs.laws.conditions_are_one.Goals as goal

pub returns-clause-one : goal.returns-clause-one
returns-clause-one c =
    conditions_alike c.one_token_list.ensures c.one_tree.ensures c.one_typing.ensures c.declared_are_finite.ensures c.typed_declarations_are_finite.ensures.finite
    c.one_size_each.ensures.some c.one_size_each.ensures.one
    (one_bounds c.one_typing.ensures c.typed_declarations_are_finite.ensures.finite c.functions_without_bounds_declare_none.ensures.none
    c.least_bounds_are_missing.ensures.missing c.least_bounds_are_missing.ensures.one) c.passed_or_faulty.ensures.fronted c.passed_or_faulty.ensures.accepted

pub returns-clause-none : goal.returns-clause-none
returns-clause-none c =
    refused_or_extracted c.one_token_list.ensures c.one_tree.ensures c.one_typing.ensures c.declared_are_finite.ensures c.typed_declarations_are_finite.ensures.finite
    c.one_size_each.ensures.some c.one_size_each.ensures.one
    (one_bounds c.one_typing.ensures c.typed_declarations_are_finite.ensures.finite c.functions_without_bounds_declare_none.ensures.none
    c.least_bounds_are_missing.ensures.missing c.least_bounds_are_missing.ensures.one) c.passed_or_faulty.ensures.fronted c.passed_or_faulty.ensures.accepted
