-- The equations of plain types, as the tactics take them.
use Rattle.std.proofs.Common.{◌≡◌, Bool, true, false, ◌||◌, refl}
use Rattle.rx_typed.specs.PlainTypes.{typ_integer, typ_boolean, typ_tuple, typ_shared, typ_mut, typ_item}
use Rattle.rx_typed.specs.Regions.{region_of_integer, region_of_boolean, region_of_tuple, region_of_shared}
use Rattle.rx_typed.specs.Regions.{region_of_mut, region_of_item}

pub or_false : (b : Bool) → (b || false) ≡ b
or_false true = refl
or_false false = refl

pub or_true : (b : Bool) → (b || true) ≡ true
or_true true = refl
or_true false = refl

pub ruleset typ_rules = (typ_integer, typ_boolean, typ_tuple, typ_shared, typ_mut, typ_item)

pub ruleset region_rules = (
  region_of_integer,
  region_of_boolean,
  region_of_tuple,
  region_of_shared,
  region_of_mut,
  region_of_item,
  or_false,
  or_true,
)
