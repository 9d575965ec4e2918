-- Which lifetimes of a function may be left out, and the function without them (Rust Reference, "Lifetime elision in functions"): each
-- that says nothing that elision doesn't tell.
use Rattle.std.specs.Prelude.{◌≡◌, ℕ, suc, ◌==◌, Bool, true, not, ◌&&◌, ◌||◌, if◌then◌else◌, List, [], ◌∷◌, ◌++◌, map, filter, Option, Some, None}
use Rattle.std.specs.Str.{bytes_eq}
use Rattle.rx_tree.specs.declared.tree.Ident.{Ident}
use Rattle.rx_tree.specs.declared.tree.BoundLifetime.{BoundLifetime}
use Rattle.rx_tree.specs.Lists.{statements, tail}
use Rattle.rx_tree.specs.Plain.{TypeTree, Parameter, Body, Function}
use Rattle.rx_hoist_extraction.specs.Names.{Names, is_among}
use Rattle.rx_hoist_extraction.specs.NewFunction.{copied_lifetimes}
use Rattle.rx_hoist_extraction.specs.OwnLifetimes.{in_parameters, lifetimes_if_any, idents}
use Rattle.rx_compact_lifetimes.specs.declared.rewriting.Rewriting.{Rewriting}
use Rattle.rx_compact_lifetimes.specs.Rewritten.{rewritten_optional, rewritten_parameter}

-- ---- where a lifetime stands

-- in a bound: as the one that outlives, or as one that it outlives
abbrev pub bounding : BoundLifetime → List Ident → Names
bounding l [] = []
bounding l (x ∷ xs) = l.name.name ∷ idents (x ∷ xs)

abbrev pub in_bounds : List BoundLifetime → Names
in_bounds [] = []
in_bounds (l ∷ ls) = bounding l l.bounds ++ in_bounds ls

-- in a type of the body
abbrev pub in_body : Body → Names
in_body b = idents (copied_lifetimes (record { statements = statements b; tail = tail b }))

-- how often among these
abbrev pub times : List ℕ → List (Option Ident) → ℕ
times x [] = 0
times x (None ∷ ls) = times x ls
times x (Some y ∷ ls) = if bytes_eq x y.name then suc (times x ls) else times x ls

-- each of these that is written is this one
abbrev pub are_all : List ℕ → List (Option Ident) → Bool
are_all x [] = true
are_all x (None ∷ ls) = are_all x ls
are_all x (Some y ∷ ls) = bytes_eq x y.name && are_all x ls

-- ---- which may be left out

-- `single`: the types of the parameters have one lifetime, so what a result leaves out is that
abbrev pub result_allows : Bool → List (Option Ident) → List ℕ → Bool
result_allows single result x = (times x result == 0) || (single && are_all x result)

-- it stands in no bound and not in the body, whose names are given, once in the parameters, and the result doesn't name it or is told
-- by elision
abbrev pub may_go : Bool → Names → Function → List ℕ → Bool
may_go single body f x = not (is_among x (in_bounds f.lifetimes)) && (not (is_among x body)
    && ((times x (in_parameters f.params) == 1) && result_allows single (lifetimes_if_any f.result) x))

abbrev pub goes : Bool → Names → Function → BoundLifetime → Bool
goes single body f l = may_go single body f l.name.name

-- ---- the function without these

abbrev pub left_out : BoundLifetime → Rewriting
left_out l = record { name = l.name.name; becomes = None }

abbrev pub elisions : Bool → Names → Function → List Rewriting
elisions single body f = map left_out (filter (goes single body f) f.lifetimes)

abbrev pub stays : Bool → Names → Function → BoundLifetime → Bool
stays single body f l = not (goes single body f l)

-- the parts of a signature without them, where the body names these
pub record IsElided (single : Bool) (body : Names) (f : Function) (ls : List BoundLifetime) (ps : List Parameter) (result : Option TypeTree) : Type 0 where
  pub lifetimes : ls ≡ filter (stays single body f) f.lifetimes
  pub params : ps ≡ map (rewritten_parameter (elisions single body f)) f.params
  pub answer : result ≡ rewritten_optional (elisions single body f) f.result

abbrev pub elided_by : List Rewriting → List BoundLifetime → Function → Function
elided_by rs ls f = record f { lifetimes = ls; params = map (rewritten_parameter rs) f.params; result = rewritten_optional rs f.result }

abbrev pub elided : Bool → Function → Function
elided single f = elided_by (elisions single (in_body f.body) f) (filter (stays single (in_body f.body) f) f.lifetimes) f
