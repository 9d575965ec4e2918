-- What is known of an activation of the text by its history: the actions that it did, the newest first (RFC 2094, "Liveness"; Rust
-- Reference, "Variables", on what was written). A history says of a variable whether it is needed still, so nothing is marked.
use Rattle.std.specs.Prelude.{◌≡◌, ℕ, List, [], ◌∷◌, ◌⊎◌}
use Rattle.rx_core.specs.declared.types.Step.{Step}
use Rattle.rx_core.specs.declared.types.Step.TheVariants as step
use Rattle.rx_typed.specs.Tree.{Root, variable, temporary}
use Rattle.rx_lower_walks.specs.Orders.{Order}
use Rattle.rx_exits_plan.specs.Coming.{Into}
use Rattle.rx_lower_walks.specs.Actions.{Act, Declare, Read, Write, Borrow, Test, Action}

abbrev pub IsRoot : Root → ℕ → Type 0
IsRoot (variable y) x = x ≡ y
IsRoot (temporary t) x = ⊥

-- no dereference: the variable's own storage
abbrev pub IsOwn : List Step → Type 0
IsOwn [] = Unit {0}
IsOwn (step.Deref m ∷ ss) = ⊥
IsOwn (s ∷ ss) = IsOwn ss

abbrev pub IsWhole : List Step → Type 0
IsWhole [] = Unit {0}
IsWhole (s ∷ ss) = ⊥

abbrev pub Declares : Act → ℕ → Type 0
Declares (Declare y) x = x ≡ y
Declares _ x = ⊥

abbrev pub WritesWhole : Act → ℕ → Type 0
WritesWhole (Write p t ss) x = IsRoot p.root x × IsWhole p.steps
WritesWhole _ x = ⊥

abbrev pub WritesOwn : Act → ℕ → Type 0
WritesOwn (Write p t ss) x = IsRoot p.root x × IsOwn p.steps
WritesOwn _ x = ⊥

abbrev pub BorrowsOwn : Act → ℕ → Type 0
BorrowsOwn (Borrow k p d) x = IsRoot p.root x × IsOwn p.steps
BorrowsOwn _ x = ⊥

-- as of liveness: a write of a part, or through a dereference, is a use
abbrev pub Uses : Act → ℕ → Type 0
Uses (Read m p d) x = IsRoot p.root x
Uses (Borrow k p d) x = IsRoot p.root x
Uses (Test p c) x = IsRoot p.root x
Uses (Write p t ss) x = IsRoot p.root x × (IsWhole p.steps → ⊥)
Uses _ x = ⊥

abbrev pub Kills : Act → ℕ → Type 0
Kills a x = Declares a x ⊎ WritesWhole a x

-- written as a whole since it began
abbrev pub Written : List Action → ℕ → Type 0
Written [] x = ⊥
Written (a ∷ h) x = WritesWhole a.act x ⊎ ((Declares a.act x → ⊥) × Written h x)

-- its own storage was borrowed since it began
abbrev pub Borrowed : List Action → ℕ → Type 0
Borrowed [] x = ⊥
Borrowed (a ∷ h) x = BorrowsOwn a.act x ⊎ ((Declares a.act x → ⊥) × Borrowed h x)

-- actions that were done then, put on a history
abbrev pub put : List Action → List Action → List Action
put [] h = h
put (a ∷ w) h = put w (a ∷ h)

-- what is known of an activation of the text
pub record Facts : Type 1 where
  -- the histories of its walks
  pub Good : List Action → Type 0
  pub older : (a : Action) (h : List Action) → Good (a ∷ h) → Good h
  -- the histories with which its walks come to a part, and from there to a part of that
  pub Comes : Order → List Action → Type 0
  pub within : {q s : Order} {w h : List Action} → Into q s w → Comes s h → Comes q (put w h)
  -- variables that may be elsewhere in the answer for a while
  pub Special : ℕ → Type 0
  -- variables that are used, besides, where such a history has come to
  pub Asked : ℕ → List Action → Type 0
  -- a special variable's own storage is not written once it was borrowed
  pub untouched : (a : Action) (h : List Action) (x : ℕ) → Special x → Good (a ∷ h) → WritesOwn a.act x → Borrowed h x → ⊥

-- some walk goes on to a use before a write of the whole
pub data Living (V : Facts) (x : ℕ) : List Action → Type 0 where
  asked : {h : List Action} → V.Asked x h → Living V x h
  now : {h : List Action} (a : Action) → V.Good (a ∷ h) → Uses a.act x → Living V x h
  later : {h : List Action} (a : Action) → (Kills a.act x → ⊥) → Living V x (a ∷ h) → Living V x h
