-- Types of a new program that are the text's by other numbers of items: what both declare, and a variable of each. (Rust Reference, "Types",
-- "Items".)
use Rattle.std.specs.Prelude.{◌≡◌, ℕ, Some, option_map, slice_get}
use Rattle.rx_facts_tables.specs.Places.{Frame}
use Rattle.rx_facts_tables.specs.Initialised.{IsFixed}
use Rattle.rx_engine_simulation.specs.Sights.{How, sight, Renaming, sight_of}
use Rattle.rx_engine_simulation.specs.Places.{IsDirect}
use Rattle.rx_engine_blocks.specs.Renumbering.{Renumbering, shape_at, declared_at}
use Rattle.rx_engine_initial.specs.Variables.{Sides, type_at}

-- the frames of a function of the text, and of one of the new program
pub record DeclaresAlike (r : Renumbering) (F F' : Frame) : Type 0 where
  pub items : (i : ℕ) → slice_get F'.declared (r.items i) ≡ option_map (declared_at r) (slice_get F.declared i)
  pub sizes : (i : ℕ) → F'.sizes (r.items i) ≡ F.sizes i

abbrev pub SameTyp : Renumbering → Sides → ℕ → ℕ → Type 0
SameTyp r S x y = type_at S.frame.types y ≡ option_map (shape_at r) (type_at S.frame_there.types x)

-- a variable of the text, and one of the new function; where this isn't declared `mut`, the text's isn't
pub record SameVariable (r : Renumbering) (S : Sides) (x y : ℕ) : Type 0 where
  pub typ : SameTyp r S x y
  pub fixed : IsFixed S.muts y → IsFixed S.muts_there x

-- what is in slots of both is of one type
abbrev pub TypedScope : Renumbering → Sides → Renaming → Type 0
TypedScope r S N = (x y : ℕ) (w : How) → sight_of N x ≡ Some (sight y w) → IsDirect w → SameTyp r S x y
