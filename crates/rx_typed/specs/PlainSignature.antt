-- The signature of a signature of the code.
use Rattle.std.specs.Prelude.{map}
use Rattle.rx_typed.specs.Regions.{regions_of, region-Ty}
use Rattle.rx_typed.specs.Renaming as renaming
use Rattle.rx_typed.specs.declared.renaming.Signature.{Signature}

abbrev pub plain-Signature : Signature → renaming.Signature
plain-Signature s = record { params = regions_of (map region-Ty s.params); answer = region-Ty s.answer; bounds = s.bounds }
