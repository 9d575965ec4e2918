-- Each kind of part by its induction.
use Rattle.rx_parse_laws.proofs.SameWords.{told}
use Rattle.rx_parse_laws.proofs.ItemsAgain.{file_again, item_again, derives_same, lifetimes_again, bounds_again, bound_lifetime_again, bound_lifetimes_again, struct_field_again, variant_again, parameter_again, result_again}
use Rattle.rx_parse_laws.proofs.laws.items_speak_of_words.Goals as goal

pub returns-clause-programs : goal.returns-clause-programs
returns-clause-programs c = λ h ts us x e d. told (file_again d us e)

pub returns-clause-items : goal.returns-clause-items
returns-clause-items c = λ h ts us x e d. told (item_again d us e)

pub returns-clause-derives : goal.returns-clause-derives
returns-clause-derives c = λ ts us ds e d. derives_same d us e

pub returns-clause-lifetimes : goal.returns-clause-lifetimes
returns-clause-lifetimes c = λ ts us x e d. told (lifetimes_again d us e)

pub returns-clause-bounds : goal.returns-clause-bounds
returns-clause-bounds c = λ ts us x e d. told (bounds_again d us e)

pub returns-clause-bound : goal.returns-clause-bound
returns-clause-bound c = λ h ts us x e d. told (bound_lifetime_again d us e)

pub returns-clause-bound_lifetimes : goal.returns-clause-bound_lifetimes
returns-clause-bound_lifetimes c = λ ts us x e d. told (bound_lifetimes_again d us e)

pub returns-clause-fields : goal.returns-clause-fields
returns-clause-fields c = λ h ts us x e d. told (struct_field_again d us e)

pub returns-clause-variants : goal.returns-clause-variants
returns-clause-variants c = λ h ts us x e d. told (variant_again d us e)

pub returns-clause-parameters : goal.returns-clause-parameters
returns-clause-parameters c = λ h ts us x e d. told (parameter_again d us e)

pub returns-clause-results : goal.returns-clause-results
returns-clause-results c = λ h ts us x e d. told (result_again d us e)
