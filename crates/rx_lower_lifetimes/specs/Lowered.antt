-- The lifetimes of a function.
use Rattle.std.specs.Prelude.{ℕ, ◌+◌, List, [], ◌++◌, map, Option, Some, slice_get}
use Rattle.rx_core.specs.declared.types.Bound.{Bound}
use Rattle.rx_core.specs.declared.types.Ty.{Ty}
use Rattle.rx_typed.specs.declared.declarations.Decl.{Decl}
use Rattle.rx_typed.specs.declared.declarations.Decl.TheVariants as decl
use Rattle.rx_typed.specs.Regions.{RegionTyp}
use Rattle.rx_typed.specs.Tree as tree
use Rattle.rx_lower_walks.specs.Actions.{Action}
use Rattle.rx_lower_walks.specs.Pieces.{graph}
use Rattle.rx_lower_walks.specs.Text.{actions_of}
use Rattle.rx_lower_lifetimes.specs.Values.{Open, KnownTypes, Held, lifetimes_of, held_by, result_type}
use Rattle.rx_lower_lifetimes.specs.Variables.{Written, open_types}
use Rattle.rx_lower_lifetimes.specs.Positions.{all_own}
use Rattle.rx_lower_lifetimes.specs.Numbered.{all_open, all_numbered, opened, Own, all_owned}

-- what is declared, the function's item, its typed tree, and the types of its variables
pub record Function : Type 0 where
  pub items : List Decl
  pub item : ℕ
  pub body : tree.Function
  pub variables : List Open

abbrev pub known : Function → KnownTypes
known F = record { items = F.items; variables = F.variables }

-- the actions of its sites, and the temporaries that they fill
abbrev pub actions : Function → List Action
actions F = actions_of (graph F.body)

abbrev pub temporaries : Function → List Held
temporaries F = held_by (known F) [] (actions F)

abbrev pub parameters : Option Decl → List Ty
parameters (Some (decl.Func l ps t bs)) = ps
parameters _ = []

abbrev pub bounds_of : Option Decl → List Bound
bounds_of (Some (decl.Func l ps t bs)) = bs
bounds_of _ = []

pub record Lifetimes : Type 0 where
  -- of the variables by number, then of the temporaries
  pub types : List RegionTyp
  -- those that sites fill, in the order of the first site that fills each
  pub temporaries : List tree.Temporary
  -- what each site has of its own
  pub owned : List Own
  -- the variables of the parameters
  pub params : List ℕ
  pub answer : RegionTyp
  pub bounds : List Bound
  -- how many lifetimes the function has of its own, and how many there are
  pub own : ℕ
  pub regions : ℕ

-- by the types of variables, the temporaries and the actions
abbrev pub lifetimes_by : List Decl → ℕ → List tree.Parameter → List Open → List Held → List Action → Lifetimes
lifetimes_by D f ps V H us =
    let own = lifetimes_of (slice_get D f) in
    let behind = own + all_open (V ++ opened H) in
    record {
      types = all_numbered own (V ++ opened H);
      temporaries = map (λ h. h.temporary) H;
      owned = all_owned D behind us;
      params = map (λ p. p.variable) ps;
      answer = result_type (slice_get D f);
      bounds = bounds_of (slice_get D f);
      own = own;
      regions = behind + all_own D us;
    }

abbrev pub lifetimes : Function → Lifetimes
lifetimes F = lifetimes_by F.items F.item F.body.params F.variables (temporaries F) (actions F)

-- the function, by the types of its variables without lifetimes and those that its `let`s write
abbrev pub function_of : List Decl → ℕ → tree.Function → List (Option Ty) → List Written → Function
function_of D f b raws ws = record {
  items = D;
  item = f;
  body = b;
  variables = open_types (lifetimes_of (slice_get D f)) b.params (parameters (slice_get D f)) ws 0 raws;
}
