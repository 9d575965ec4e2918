-- What a site has of its own, in code.
use Rattle.rx_typed.specs.PlainSignature.{plain-Signature}
use Rattle.rx_lower_lifetimes.specs.declared.numbering.Own.{Own}
use Rattle.rx_lower_lifetimes.specs.Numbered as numbered

abbrev pub plain-Own : Own → numbered.Own
plain-Own Own.Nothing = numbered.none
plain-Own (Own.Region n) = numbered.region n
plain-Own (Own.Signature s) = numbered.signed (plain-Signature s)
