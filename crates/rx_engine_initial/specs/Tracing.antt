-- One fact of a variable in two programs, a text and the program that is made of it, and how a walk of the new program comes from one of
-- the text as far as this fact goes. (Rust Reference, "Variables"; RFC 2094, "Liveness".)
use Rattle.std.specs.Prelude.{◌≡◌, Bool, true, false, List, [], ◌∷◌, ◌++◌}
use Rattle.rx_lower_walks.specs.Actions.{Action}
use Rattle.rx_facts_tables.specs.Along.{Switch, behind, after, ahead}

-- the fact in the new program and in the text, and whether the variable is live in the text
pub record View : Type 0 where
  -- whether it holds where the new function begins, and where the text's does
  pub start : Bool
  pub start_there : Bool
  pub new : Switch
  pub old : Switch
  pub live : Switch

-- an action of each: where the text's makes the fact true, it holds behind the new one; where the text's leaves it, it stays
pub record Alike (V : View) (a b : Action) : Type 0 where
  pub made : V.old.gives b ≡ true → (h : Bool) → behind V.new a h ≡ true
  pub stays : V.old.gives b ≡ false → V.old.kills b ≡ false → behind V.new a true ≡ true

pub record IsQuiet (s : Switch) (a : Action) : Type 0 where
  pub gives : s.gives a ≡ false
  pub kills : s.kills a ≡ false

-- What is put in place leaves it as it was, and so does what was there: it held in front of that if it does behind it, and what is live
-- behind it is live in front.
pub record IsKept (V : View) (us w u : List Action) : Type 0 where
  pub new : (b : Bool) → after V.new us b ≡ b
  pub old : after V.old (w ++ u) V.start_there ≡ true → after V.old w V.start_there ≡ true
  pub live : (vs : List Action) → ahead V.live vs ≡ true → ahead V.live (u ++ vs) ≡ true

-- A walk of the new program, and the walk of the text that it comes from. `C`: the walks of the text.
pub data Traced (C : List Action → Type 0) (V : View) : List Action → List Action → Type 0 where
  -- where it holds there, it holds here
  start : {us w : List Action} → (after V.old w V.start_there ≡ true → after V.new us V.start ≡ true) → Traced C V us w
  copied : {us w : List Action} (a b : Action) → Traced C V us w → Alike V a b → Traced C V (us ++ a ∷ []) (w ++ b ∷ [])
  -- actions of one of the two, which are nothing to it
  only_new : {us w : List Action} (a : Action) → Traced C V us w → IsQuiet V.new a → Traced C V (us ++ a ∷ []) w
  only_old : {us w : List Action} (b : Action) → Traced C V us w → V.old.gives b ≡ false → V.live.kills b ≡ false → Traced C V us (w ++ b ∷ [])
  -- actions in place of others: they make it true
  handed : {us w : List Action} (vs u : List Action) → Traced C V us w → ((b : Bool) → after V.new vs b ≡ true) → Traced C V (us ++ vs) (w ++ u)
  kept : {us w : List Action} (vs u : List Action) → Traced C V us w → IsKept V vs w u → Traced C V (us ++ vs) (w ++ u)
  -- it does not hold in the text
  unset : {us w : List Action} (vs u : List Action) → Traced C V us w → after V.old (w ++ u) V.start_there ≡ false → Traced C V (us ++ vs) (w ++ u)
  -- it is live on no walk that goes on from there
  over : {us w : List Action} (vs u : List Action) → Traced C V us w → ((ws : List Action) → C ((w ++ u) ++ ws) → ahead V.live ws ≡ false)
      → Traced C V (us ++ vs) (w ++ u)

-- a write of the whole variable makes it true
abbrev pub WholeGives : View → Type 0
WholeGives V = (a : Action) → V.live.kills a ≡ true → V.old.gives a ≡ true
