-- Two states side by side: how variables correspond, what is frozen, what both states keep, and how a pair of states grows.
use Rattle.std.specs.Prelude.{◌≡◌, ℕ, ◌<◌, ◌≤◌, Bool, true, false, List, [], length, Some, ◌⊎◌}
use Rattle.rx_core.specs.declared.types.Step.{Step}
use Rattle.rx_lower_walks.specs.Actions.{Action}
use Rattle.rx_meaning.specs.Values.{Value, pointer, is_set, element, Frame, slot_of, State}
use Rattle.rx_engine_simulation.specs.Histories.{Facts, Living, Written, Borrowed}
use Rattle.rx_engine_simulation.specs.Sights.{Hold, fixed, free, NotFixed, In, How, plain, special, through, copied, viewed, absent, Sight, Renaming, sight_of}
use Rattle.rx_engine_simulation.specs.Values.{Pair, pair, LikeValue, More}

-- ---- how variables correspond

-- what is kept while something runs
pub record Frozen : Type 1 where
  -- slots with their values
  pub kept : ℕ → Value → Type 0
  -- variables of the text with their slots
  pub anchored : ℕ → ℕ → Type 0

abbrev pub Thawed : Frozen → ℕ → Type 0
Thawed Z i = (v : Value) → Z.kept i v → ⊥

-- two slots with contents alike
pub record SameAt (j : List Pair) (M M' : List Value) (i k : ℕ) : Type 0 where
  pub text : Value
  pub answer : Value
  pub at_text : element M i ≡ Some text
  pub at_answer : element M' k ≡ Some answer
  pub like : LikeValue j text answer

pub record IsPlain (Z Z' : Frozen) (j : List Pair) (F F' : Frame) (x y : ℕ) (w : Hold) : Type 0 where
  pub left : ℕ
  pub right : ℕ
  pub is_in : In (pair left right w) j
  pub at_text : slot_of F.slots x ≡ Some left
  pub at_answer : slot_of F'.slots y ≡ Some right
  pub not_fixed : NotFixed w
  pub thawed : Thawed Z left
  pub thawed' : Thawed Z' right

pub record IsThrough (Z Z' : Frozen) (j : List Pair) (F F' : Frame) (x y : ℕ) (w : Hold) (m : Bool) : Type 0 where
  pub left : ℕ
  pub right : ℕ
  pub by : ℕ
  pub is_in : In (pair left right w) j
  pub at_text : slot_of F.slots x ≡ Some left
  pub at_answer : slot_of F'.slots y ≡ Some by
  pub reference : Z'.kept by (pointer right [] m)
  pub not_fixed : NotFixed w
  pub thawed : m ≡ true → Thawed Z left
  pub thawed' : m ≡ true → Thawed Z' right

pub record IsCopied (Z Z' : Frozen) (j : List Pair) (F F' : Frame) (x y : ℕ) : Type 0 where
  pub left : ℕ
  pub right : ℕ
  pub text : Value
  pub answer : Value
  pub at_text : slot_of F.slots x ≡ Some left
  pub at_answer : slot_of F'.slots y ≡ Some right
  pub held : Z.kept left text
  pub held' : Z'.kept right answer
  pub like : LikeValue j text answer

pub record IsViewed (Z Z' : Frozen) (j : List Pair) (F F' : Frame) (x y : ℕ) : Type 0 where
  pub left : ℕ
  pub right : ℕ
  pub target : Pair
  pub steps : List Step
  pub flag : Bool
  pub at_text : slot_of F.slots x ≡ Some left
  pub at_answer : slot_of F'.slots y ≡ Some right
  pub held : Z.kept left (pointer target.left steps flag)
  pub held' : Z'.kept right (pointer target.right steps false)
  pub is_in : In target j
  pub is_free : flag ≡ true → target.hold ≡ free

pub record IsSpecial (V : Facts) (Z Z' : Frozen) (h : List Action) (j : List Pair) (F F' : Frame) (M M' : List Value) (x y : ℕ) : Type 0 where
  pub left : ℕ
  pub right : ℕ
  pub at_text : slot_of F.slots x ≡ Some left
  pub at_answer : slot_of F'.slots y ≡ Some right
  pub is_one : V.Special x
  pub thawed : Thawed Z left
  pub thawed' : Thawed Z' right
  pub same : Living V x h → SameAt j M M' left right
  pub touched : (q : Pair) → In q j → q.left ≡ left → (q.hold ≡ fixed) × Borrowed h x
  pub touched' : (q : Pair) → In q j → q.right ≡ right → q.left ≡ left

abbrev pub Binding : Facts → Frozen → Frozen → List Action → List Pair → Frame → Frame → List Value → List Value → ℕ → ℕ → How → Type 0
Binding V Z Z' h j F F' M M' x y (plain w) = IsPlain Z Z' j F F' x y w
Binding V Z Z' h j F F' M M' x y special = IsSpecial V Z Z' h j F F' M M' x y
Binding V Z Z' h j F F' M M' x y (through w m) = IsThrough Z Z' j F F' x y w m
Binding V Z Z' h j F F' M M' x y copied = IsCopied Z Z' j F F' x y
Binding V Z Z' h j F F' M M' x y viewed = IsViewed Z Z' j F F' x y
Binding V Z Z' h j F F' M M' x y absent = Unit {0}

-- ---- what both states keep

-- memories by pairs
pub record Paired (Z Z' : Frozen) (j : List Pair) (M M' : List Value) : Type 0 where
  pub same : (p : Pair) → In p j → SameAt j M M' p.left p.right
  pub once : (p q : Pair) → In p j → In q j → p.left ≡ q.left → NotFixed p.hold → p ≡ q
  pub once' : (p q : Pair) → In p j → In q j → p.right ≡ q.right → NotFixed p.hold → p ≡ q
  pub frozen : (i : ℕ) (v : Value) → Z.kept i v → element M i ≡ Some v
  pub frozen' : (i : ℕ) (v : Value) → Z'.kept i v → element M' i ≡ Some v
  pub thawed : (p : Pair) → In p j → p.hold ≡ free → Thawed Z p.left
  pub thawed' : (p : Pair) → In p j → p.hold ≡ free → Thawed Z' p.right

-- variables have slots of their own
pub record Framed (F : Frame) (M : List Value) : Type 0 where
  pub below : (x i : ℕ) → slot_of F.slots x ≡ Some i → i < length M
  pub apart : (x y i : ℕ) → slot_of F.slots x ≡ Some i → slot_of F.slots y ≡ Some i → x ≡ y

abbrev pub IsSetAt : List Value → ℕ → Type 0
IsSetAt M i = (v : Value) × (element M i ≡ Some v) × (is_set v ≡ true)

pub record StatesAlike (V : Facts) (R : Renaming) (Z Z' : Frozen) (h : List Action) (j : List Pair) (s s' : State) : Type 0 where
  pub input : s.input ≡ s'.input
  pub paired : Paired Z Z' j s.memory s'.memory
  pub framed : Framed s.frame s.memory
  pub framed' : Framed s'.frame s'.memory
  pub names : (x y : ℕ) (e f : Sight) → sight_of R x ≡ Some e → sight_of R y ≡ Some f → e.to ≡ f.to → x ≡ y
  pub binds : (x : ℕ) (e : Sight) → sight_of R x ≡ Some e → Binding V Z Z' h j s.frame s'.frame s.memory s'.memory x e.to e.how
  pub written : (x i : ℕ) → slot_of s.frame.slots x ≡ Some i → Written h x → IsSetAt s.memory i
  pub slotted : (x : ℕ) → Written h x → (i : ℕ) × (slot_of s.frame.slots x ≡ Some i)
  pub anchors : (x i : ℕ) → Z.anchored x i → slot_of s.frame.slots x ≡ Some i

-- a pair of states that led to another
pub record Grown (j : List Pair) (s s' : State) (j1 : List Pair) (t t' : State) : Type 0 where
  pub more : More j j1
  pub fresh : (q : Pair) → In q j1 → In q j ⊎ (length s.memory ≤ q.left) ⊎ ((x : ℕ) × (slot_of s.frame.slots x ≡ Some q.left))
  pub fresh' : (q : Pair) → In q j1 → In q j ⊎ (length s'.memory ≤ q.right) ⊎ ((y : ℕ) × (slot_of s'.frame.slots y ≡ Some q.right))
  pub long : length s.memory ≤ length t.memory
  pub long' : length s'.memory ≤ length t'.memory
  pub scope : (x i : ℕ) → slot_of t.frame.slots x ≡ Some i → (slot_of s.frame.slots x ≡ Some i) ⊎ (length s.memory ≤ i)
  pub scope' : (y i : ℕ) → slot_of t'.frame.slots y ≡ Some i → (slot_of s'.frame.slots y ≡ Some i) ⊎ (length s'.memory ≤ i)
  pub sets : (i : ℕ) → IsSetAt s.memory i → IsSetAt t.memory i
  pub fewer : t.turns ≤ s.turns
  pub fewer' : t'.turns ≤ s'.turns
