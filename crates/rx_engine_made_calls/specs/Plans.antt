-- A plan by names (rx_hoist_extraction) beside the same plan by numbers (rx_exits_plan), where the call stands: which variable of the text a name means
-- there, of which type it is, and how the caller has it (REM, "Extract method": inputs, outputs, reified control flow).
use Rattle.std.specs.Prelude.{if◌then◌else◌, ◌≡◌, ℕ, suc, Bool, true, false, List, [], ◌∷◌, length, Option, Some, None}
use Rattle.rx_resolve_names.specs.Scopes.{variable_named}
use Rattle.rx_typed.specs.Types.{Typ}
use Rattle.rx_typed.specs.Elaborated.{has_several}
use Rattle.rx_hoist_extraction.specs.Plan as hoist
use Rattle.rx_hoist_extraction.specs.Plan.{has_enum, has_exit, outs_of, to_break, to_continue, to_next, to_return, Leaving, Param, Variable}
use Rattle.rx_hoist_extraction.specs.Call.{is_own}
use Rattle.rx_hoist_plan.specs.PlainPlan.{plain-Mode}
use Rattle.rx_typeck_solver.specs.declared.facts.Subject.TheVariants as subject
use Rattle.rx_typeck_solver.specs.Facts.{Assignment, KnownItems}
use Rattle.rx_exits_plan.specs.Points.{breaks, continues, next, returns, Exit}
use Rattle.rx_exits_plan.specs.Asked.{Asked}
use Rattle.rx_exits_plan.specs.Plan.{Plan}
use Rattle.rx_modes_policy.specs.declared.uses.Mode.{Mode}
use Rattle.rx_engine_names.specs.Renaming.{Renaming as Pairing}
use Rattle.rx_engine_names.specs.Calls.{Calls}
use Rattle.rx_engine_names.specs.HandedOut.{Handing, RoundIs}
use Rattle.rx_engine_blocks.specs.Renumbering.{shape_at, Renumbering}
use Rattle.rx_engine_simulation.specs.Sights.{special, sight, How, In, Renaming, sight_of}
use Rattle.rx_engine_simulation.specs.Jumps.{as_return, loop_of, Jumping}
use Rattle.rx_engine_simulation.specs.Variants.{AllSpecial}
use Rattle.rx_engine_related.specs.AboutRun.{special_of}
use Rattle.rx_engine_related.specs.Handed.{MayBeAssigned}
use Rattle.rx_engine_made_trees.specs.Arguments.{SeenAs}
use Rattle.rx_engine_made_trees.specs.Seen.{Distinct, OneToOne}

-- what corresponds to a variable of the text has its type
abbrev pub HasType : Pairing → Renumbering → Assignment → ℕ → Typ → Type 0
HasType N q W x t = (y : ℕ) → N.variable x y ≡ true → W (subject.Variable y) ≡ shape_at q t

-- ---- params

module _ (C : Calls) (N : Pairing) (q : Renumbering) (W : Assignment) (again : Bool) (R : Renaming) (cold : List ℕ) where
  pub record ParamIs (p : Param) (x : ℕ) (m : Mode) (h : How) : Type 0 where
    pub named : variable_named C.scope p.variable.name ≡ Some x
    pub mode : p.mode ≡ plain-Mode m
    pub typed : HasType N q W x p.variable.typ
    pub seen : (y : ℕ) → N.variable x y ≡ true → SeenAs again R cold x y (shape_at q p.variable.typ) m h

  pub data ParamsAre : List Param → List ℕ → List Mode → List How → Type 0 where
    no_params : ParamsAre [] [] [] []
    more_params : {p : Param} {ps : List Param} {x : ℕ} {xs : List ℕ} {m : Mode} {ms : List Mode} {h : How} {hs : List How} → ParamIs p x m h → ParamsAre ps xs ms hs → ParamsAre (p ∷ ps) (x ∷ xs) (m ∷ ms) (h ∷ hs)

-- by names and by numbers, row by row
pub data Rows (P : Variable → ℕ → Type 0) : List Variable → List ℕ → Type 0 where
  no_rows : Rows P [] []
  more_rows : {v : Variable} {vs : List Variable} {x : ℕ} {xs : List ℕ} → P v x → Rows P vs xs → Rows P (v ∷ vs) (x ∷ xs)

-- ---- what is handed out

module _ (G : Handing) (N : Pairing) (q : Renumbering) (W : Assignment) (A : Asked) (muts : List Bool) (k : Plan) (R : Renaming) where
  -- a variable outside, which is assigned
  pub record GoesBack (v : Variable) (x : ℕ) : Type 0 where
    pub named : variable_named G.call.scope v.name ≡ Some x
    pub typed : HasType N q W x v.typ
    pub elsewhere : (y : ℕ) → N.variable x y ≡ true → sight_of R x ≡ Some (sight y special)
    pub assigned : MayBeAssigned A muts k x

  -- or one that the run declares
  pub data OutIs : Variable → ℕ → Type 0 where
    goes_back : {v : Variable} {x : ℕ} → is_own G.own v ≡ false → GoesBack v x → OutIs v x
    stays : {v : Variable} {x : ℕ} → is_own G.own v ≡ true → sight_of R x ≡ None → OutIs v x

  -- ---- exits; a jump leads to the loop that corresponds

  pub data ExitIs (J : Jumping) : hoist.Exit → List Variable → Exit → Type 0 where
    is_next : {vs : List Variable} → length vs ≡ length (k.outs next) → ExitIs J to_next vs next
    is_break : {i l : ℕ} {vs : List Variable} → RoundIs G l i → ((d : ℕ) → N.loop l d ≡ true → loop_of J.loops l ≡ Some d) → Distinct (k.outs (breaks l)) → AllSpecial R (k.outs (breaks l)) → Rows GoesBack vs (k.outs (breaks l)) → ExitIs J (to_break i) vs (breaks l)
    is_continue : {i l : ℕ} {vs : List Variable} → RoundIs G l i → ((d : ℕ) → N.loop l d ≡ true → loop_of J.loops l ≡ Some d) → Distinct (k.outs (continues l)) → AllSpecial R (k.outs (continues l)) → Rows GoesBack vs (k.outs (continues l)) → ExitIs J (to_continue i) vs (continues l)
    is_return : {vs : List Variable} → J.returning ≡ as_return → ExitIs J to_return vs returns

  -- variants are numbered in the order of the exits; one of several is tested
  pub data ExitsAre (E : KnownItems) (J : Jumping) : ℕ → List Leaving → List Exit → Type 0 where
    no_exits : {v : ℕ} → ExitsAre E J v [] []
    more_exits : {v : ℕ} {l : Leaving} {ls : List Leaving} {x : Exit} {xs : List Exit} → G.variant l.exit ≡ v → ((y : Exit) (ys : List Exit) → xs ≡ y ∷ ys → has_several E.items G.enum ≡ true) → ExitIs J l.exit l.outs x → ExitsAre E J (suc v) ls xs
        → ExitsAre E J v (l ∷ ls) (x ∷ xs)

-- ---- the whole

abbrev pub is_there : {X : Type 0} → Option X → Bool
is_there None = false
is_there (Some x) = true

-- variables that the end of the run hands out
abbrev pub next_outs : hoist.Plan → List Variable
next_outs p = if has_exit to_next p.exits then outs_of to_next p.exits else []

pub record PlansAgree (E : KnownItems) (q : Renumbering) (G : Handing) (N : Pairing) (W : Assignment) (A : Asked) (muts : List Bool) (k : Plan) (modes : List Mode) (again : Bool) (J : Jumping) (R : Renaming) (cold : List ℕ) (hows : List How) (has : Bool) : Type 0 where
  pub params : ParamsAre G.call N q W again R cold G.call.plan.params k.params modes hows
  pub handed : Rows (OutIs G N q W A muts k R) (next_outs G.call.plan) (k.outs next)
  pub exits : ExitsAre G N q W A muts k R E J 0 G.call.plan.exits k.exits
  -- a run has some exit
  pub alone : has_enum G.call.plan.exits ≡ false → k.exits ≡ next ∷ []
  -- whether it has a value; then its end is come to, it holds its block's tail, and nothing is named behind it
  pub value : is_there G.call.plan.value ≡ has
  pub reached : has ≡ true → has_exit to_next G.call.plan.exits ≡ true
  pub redeclared : length G.call.plan.redeclared ≡ length k.redeclared
  pub none_behind : has ≡ true → G.call.plan.redeclared ≡ []
  pub one_to_one : OneToOne R
  pub all_special : (x y : ℕ) → sight_of R x ≡ Some (sight y special) → In x (special_of A muts k)
