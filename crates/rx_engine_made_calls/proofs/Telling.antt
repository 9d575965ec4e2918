-- A context, and entries, that an assignment has.
use Rattle.std.proofs.Common.{if◌then◌else◌, ◌≡◌, Bool, true, false, [], ◌∷◌, ◌++◌, map, Option, Some, List, refl, ap, ◌∙◌, length, suc}
use Rattle.rx_typed.specs.Types.{Typ}
use Rattle.rx_hoist_extraction.specs.Plan.{Variable}
use Rattle.rx_hoist_extraction.specs.Values.{types_of, variables_held, Value}
use Rattle.rx_typeck_solver.specs.Facts.{Assignment}
use Rattle.rx_typeck_solver.specs.Solver.{same_subject}
use Rattle.rx_typeck_solver.proofs.Base.{same_subject_true}
use Rattle.rx_engine_blocks.specs.Renumbering.{shape_at, Renumbering}
use Rattle.rx_engine_holes.specs.Entries.{with_entries, Context, Entries, Has}
use Rattle.rx_engine_made_calls.specs.Contexts.{Tells}

pub has_first : (W : Assignment) (a b : Entries) → Has W (a ++ b) → Has W a × Has W b
has_first W [] b h = (tt, h)
has_first W (e ∷ a) b h = let p = has_first W a b h.1 in ((h.0, p.0), p.1)

pub one_some : {X : Type 0} (t u : X) → ◌≡◌ {A = Option X} (Some t) (Some u) → t ≡ u
one_some t u e = cc

pub tells_more : (W : Assignment) (B : Context) (es : Entries) → Tells W B → Has W es → Tells W (with_entries es B)
tells_more W B [] k h x t i = k x t i
tells_more W B (e ∷ es) k h x t i = go (same_subject x e.0) refl i (tells_more W B es k h.1 x t)
  where
    go : (b : Bool) → same_subject x e.0 ≡ b → (if b then Some e.1 else with_entries es B x) ≡ Some t → (with_entries es B x ≡ Some t → W x ≡ t) → W x ≡ t
    go true s j r = ap W (same_subject_true x e.0 s) ∙ (h.0 ∙ one_some e.1 t j)
    go false s j r = r j

-- the types of values, by other numbers
abbrev pub types_there : Renumbering → List Value → List Typ
types_there q hs = map (shape_at q) (types_of hs)

pub as_many_types : (q : Renumbering) (hs : List Value) → length (types_there q hs) ≡ length hs
as_many_types q [] = refl
as_many_types q (h ∷ hs) = ap suc (as_many_types q hs)

pub held_length : (vs : List Variable) → length (variables_held vs) ≡ length vs
held_length [] = refl
held_length (v ∷ vs) = ap suc (held_length vs)

-- a truth value is one of both
pub clash : {b : Bool} → b ≡ false → b ≡ true → ⊥
clash e g = cc
