-- What stands at an item's number, plainly.
use Rattle.std.proofs.Common.{◌≡◌, ℕ, List, [], ◌∷◌, refl, map, slice_get, option_map}
use Rattle.std.proofs.lemmas.Option.{slice_get-map}
use Rattle.rx_tree.specs.declared.tree.Item.{Item}
use Rattle.rx_tree.specs.PlainOf.{plain-Item, plain-Param}
use Rattle.rx_tree.specs.declared.tree.Param.{Param}
use Rattle.rx_typeck_typed.specs.Programs.{is_nothing}
use Rattle.rx_typed.specs.declared.declarations.Decl.{Decl}
use Rattle.rx_typed.specs.PlainTypes.{plain-Decl, declarations}

pub item_at : (is : List Item) (i : ℕ) → slice_get (map plain-Item is) i ≡ option_map plain-Item (slice_get is i)
item_at is i = slice_get-map plain-Item is i

pub declared_at : (ds : List Decl) (i : ℕ) → slice_get (declarations ds) i ≡ option_map plain-Decl (slice_get ds i)
declared_at ds i = slice_get-map plain-Decl ds i

pub nothing_mapped : (xs : List Param) → is_nothing (map plain-Param xs) ≡ is_nothing xs
nothing_mapped [] = refl
nothing_mapped (x ∷ xs) = refl
