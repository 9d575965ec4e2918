-- What a way through a place stands at: a type, the parts of a variant, or nothing, with other lifetimes.
use Rattle.std.specs.Prelude.{map}
use Rattle.rx_typed.specs.Regions.{RegionTyp, region_tuple, regions_of, region-Ty}
use Rattle.rx_typed.specs.declared.places.Form.{Form}
use Rattle.rx_typed.specs.declared.places.Form.TheVariants as form
use Rattle.rx_typed.specs.declared.places.Standing.{Standing}
use Rattle.rx_typed.specs.Renaming.{renamed, unit_region, argument}

abbrev pub form_type : Form → RegionTyp
form_type (form.Type t) = region-Ty t.now
form_type (form.Parts ts) = region_tuple (regions_of (map region-Ty ts.now))
form_type form.Nothing = unit_region

abbrev pub stands : Standing → RegionTyp
stands s = renamed (argument s.arguments) (form_type s.form)
