-- What a part of a text says of the place where it resolves (Rust Reference, "Scopes", "Loop labels"): a name that it doesn't bind itself means
-- a variable there, and a jump that leaves it leads to a loop there.
use Rattle.std.specs.Prelude.{◌≡◌, ℕ, false, Option, Some, List}
use Rattle.rx_tree.specs.declared.tree.Ident.{Ident}
use Rattle.rx_resolve_names.specs.Scopes.{Variables}
use Rattle.rx_resolve_names.specs.Meant.{Around, target, to_loop}
use Rattle.rx_hoist_extraction.specs.Names.{is_among}
use Rattle.rx_hoist_extraction.specs.Run.{numbered}
use Rattle.rx_hoist_extraction.specs.Moved.{leaves}
use Rattle.rx_engine_names.specs.Moves.{labels_of}
use Rattle.rx_engine_names.specs.Within.{Claims}
use Rattle.rx_engine_names.specs.HandsOver.{MeansOne}

-- of each name that is not bound in the part, and of each jump to loop k round it, counted from inside
abbrev pub told : (List ℕ → Type 0) → (Option Ident → ℕ → Type 0) → Claims
told Q J = record {
  name = λ x. Unit {0};
  variable = λ own x. is_among x own ≡ false → Q x;
  broken = λ own ls l. (k : ℕ) → leaves l ls ≡ Some k → J l k;
  continued = λ own ls l. (k : ℕ) → leaves l ls ≡ Some k → J l k;
  returned = Unit {0};
  annotation = λ y. Unit {0};
  block = λ own ls b. Unit {0};
}

-- a jump with this label leads to loop k, which stands there
abbrev pub LeadsThere : List Around → Option Ident → ℕ → Type 0
LeadsThere around l k = (n : ℕ) × (target l around ≡ to_loop n) × (leaves l (numbered 1 (labels_of around)) ≡ Some k)

abbrev pub found : Variables → List Around → Claims
found sc around = told (λ x. MeansOne sc x) (λ l k. LeadsThere around l k)
