use Rattle.rx_repair.proofs.Typed.{fits_with}
use Rattle.rx_repair.proofs.Building.{sites_make}
use Rattle.rx_repair.proofs.renaming_laws.typed_functions_fit.Goals as goal

pub returns : goal.returns
returns c = λ p names t few meant typed f among P items.
    let signed = c.signatures_are_well_formed.ensures p names t few meant typed in
    fits_with p names t few (λ ds declares. c.declared_are_well_formed.ensures p names ds few meant declares) signed typed f among P
    (sites_make p names t few meant typed signed (c.sizes_are_sized.ensures p names typed.declared typed.sizes typed.declares typed.is_sizes) c.sites_stand_in_order.ensures f among) items
