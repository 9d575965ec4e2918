-- How the order of a function of a new program comes from that of the text's: parts are copied, with other numbers of nodes, variables and
-- loops; parts stand in one of the two alone; and a part stands in place of another one. (Rust Reference, "Expressions"; REM: "Adventures
-- in refactoring Rust: extract function", OOPSLA 2023.)
use Rattle.std.specs.Prelude.{◌≡◌, ℕ, List, [], ◌∷◌, ◌++◌}
use Rattle.rx_lower_walks.specs.Actions.{Dead, Action, does}
use Rattle.rx_lower_walks.specs.Orders.{Exit, breaks, continues, returns, exit_node, Order}
use Rattle.rx_lower_walks.specs.Orders as order
use Rattle.rx_lower_walks.specs.Walks.{Out, on, leaves, fails, stopped, IsAway, Walk}
use Rattle.rx_engine_initial.specs.Tracing.{View, Alike, Traced}

-- ---- the two programs

pub record World : Type 1 where
  -- the walks of the text
  pub C : List Action → Type 0
  -- what is in scope in both, and the facts that are told of it
  pub Scope : Type 0
  pub Seen : Scope → View → Type 0
  -- when an action of the new program is in order behind others
  pub Ok : List Action → Action → Type 0
  -- an action of the new program and the one that it is a copy of
  pub Same : Scope → Action → Action → Type 0
  -- a variable of each that ends; the actions of each that begin one, and the scope behind them
  pub Ends : Scope → ℕ → ℕ → Type 0
  pub Begins : Scope → Scope → Action → Action → Type 0
  -- loops of each; the scope inside of one
  pub Loop : Scope → ℕ → ℕ → Type 0
  pub Inside : Scope → Scope → ℕ → ℕ → Type 0

-- a walk of the new program so far, and that of the text that it comes from
abbrev pub Hist : (W : World) → W.Scope → List Action → List Action → Type 0
Hist W R us w = (V : View) → W.Seen R V → Traced W.C V us w

-- behind these actions each walk of a part is one of the text
abbrev pub Reach : World → Order → List Action → Type 0
Reach W s w = (us : List Action) (o : Out) → Walk s us o → W.C (w ++ us)

-- actions that are in order behind these
abbrev pub Good : World → List Action → List Action → Type 0
Good W us [] = Unit {0}
Good W us (a ∷ vs) = W.Ok us a × Good W (us ++ a ∷ []) vs

-- ---- walks that come from walks

pub data SameExit (L : ℕ → ℕ → Type 0) : Exit → Exit → Type 0 where
  both_break : {m n l k : ℕ} → L l k → SameExit L (breaks m l) (breaks n k)
  both_continue : {m n l k : ℕ} → L l k → SameExit L (continues m l) (continues n k)
  both_return : {m n : ℕ} → SameExit L (returns m) (returns n)

pub data SameOut (L : ℕ → ℕ → Type 0) : Out → Out → Type 0 where
  both_on : SameOut L on on
  both_leave : {i j : Exit} → SameExit L i j → SameOut L (leaves i) (leaves j)
  both_fail : SameOut L fails fails

pub data Comes (W : World) (R : W.Scope) (q : Order) (us w vs : List Action) : Out → Type 0 where
  -- nothing is asked of a walk that stopped, or that returns: behind it only variables end
  cut : Comes W R q us w vs stopped
  gone : {n : ℕ} → Comes W R q us w vs (leaves (returns n))
  whole : {o : Out} (p : Out) (ws : List Action) → SameOut (W.Loop R) o p → Walk q ws p → Hist W R (us ++ vs) (w ++ ws) → Comes W R q us w vs o

pub record Answer (W : World) (R : W.Scope) (q : Order) (us w vs : List Action) (o : Out) : Type 0 where
  pub good : Good W us vs
  pub comes : Comes W R q us w vs o

-- each walk of a part is in order, and comes from a walk of the text's part
abbrev pub Maps : (W : World) → W.Scope → Order → Order → Type 0
Maps W R s q = (us w vs : List Action) (o : Out) → Hist W R us w → Reach W q w → Walk s vs o → Answer W R q us w vs o

-- ---- statements in front of the rest of a block, as pieces of its order

pub data Piece : Type 0 where
  doing : Order → Piece
  -- a variable that ends where the block does, at this node
  ending : ℕ → ℕ → Piece

abbrev pub fill : List Piece → Order → Order
fill [] r = r
fill (doing s ∷ K) r = order.then s (fill K r)
fill (ending n x ∷ K) r = order.ending n x (fill K r)

-- their walks to their end
pub data Runs : List Piece → List Action → Type 0 where
  done : Runs [] []
  does_one : {s : Order} {K : List Piece} {us vs : List Action} → Walk s us on → Runs K vs → Runs (doing s ∷ K) (us ++ vs)
  begins : {n x : ℕ} {K : List Piece} {us : List Action} → Runs K us → Runs (ending n x ∷ K) us

-- those that stop in them, also behind a jump out of them, whose variables end
pub data Fronts : List Piece → List Action → Type 0 where
  none : {K : List Piece} → Fronts K []
  in_one : {s : Order} {K : List Piece} {us : List Action} → Walk s us stopped → Fronts (doing s ∷ K) us
  past_one : {s : Order} {K : List Piece} {us vs : List Action} → Walk s us on → Fronts K vs → Fronts (doing s ∷ K) (us ++ vs)
  past_begin : {n x : ℕ} {K : List Piece} {us : List Action} → Fronts K us → Fronts (ending n x ∷ K) us
  at_jump : {s : Order} {K : List Piece} {us : List Action} {j : Exit} → Walk s us (leaves j) → Fronts (doing s ∷ K) us
  past_end : {n x : ℕ} {K : List Piece} {us : List Action} (m : ℕ) → Fronts K us → Fronts (ending n x ∷ K) (us ++ does m (Dead x) ∷ [])

-- those that leave them
pub data Aways : List Piece → List Action → Exit → Type 0 where
  in_one : {s : Order} {K : List Piece} {us : List Action} {j : Exit} → Walk s us (leaves j) → Aways (doing s ∷ K) us j
  past_one : {s : Order} {K : List Piece} {us vs : List Action} {j : Exit} → Walk s us on → Aways K vs j → Aways (doing s ∷ K) (us ++ vs) j
  past_begin : {n x : ℕ} {K : List Piece} {us : List Action} {j : Exit} → Aways K us j → Aways (ending n x ∷ K) (us ++ does (exit_node j) (Dead x) ∷ []) j

-- none of them fails
abbrev pub Stays : List Piece → Type 0
Stays [] = Unit {0}
Stays (doing s ∷ K) = ((us : List Action) → Walk s us fails → ⊥) × Stays K
Stays (ending n x ∷ K) = Stays K

-- how their variables end
abbrev pub dead : ℕ → ℕ → Out → List Action
dead n x on = does n (Dead x) ∷ []
dead n x (leaves j) = does (exit_node j) (Dead x) ∷ []
dead n x _ = []

abbrev pub closing : List Piece → Out → List Action
closing [] o = []
closing (doing s ∷ K) o = closing K o
closing (ending n x ∷ K) o = closing K o ++ dead n x o

-- ---- what is not copied

-- statements in place of others, with the scopes in front of them and behind them
pub record IsCall (W : World) (R S : W.Scope) (H K : List Piece) (q r : Order) : Type 0 where
  pub stays : Stays H
  pub no_fail : (us : List Action) → Walk q us fails → ⊥
  pub in_it : (us w vs : List Action) → Hist W R us w → Reach W (fill K r) w → Fronts H vs → Good W us vs
  pub good : (us w vs : List Action) → Hist W R us w → Reach W (fill K r) w → Runs H vs → Good W us vs
  pub leaves : (us w vs : List Action) (j : Exit) → Hist W R us w → Reach W (fill K r) w → Aways H vs j → Comes W R (fill K r) us w vs (leaves j)
  pub runs : (us w vs : List Action) → Hist W R us w → Reach W (fill K r) w → Runs H vs → (ws : List Action) × Runs K ws × Hist W S (us ++ vs) (w ++ ws)

-- their variables end
pub record Closes (W : World) (R S : W.Scope) (H K : List Piece) : Type 0 where
  pub loops : (l k : ℕ) → W.Loop S l k → W.Loop R l k
  pub ended : (us w : List Action) (o p : Out) → SameOut (W.Loop S) o p → Hist W S us w → Hist W R (us ++ closing H o) (w ++ closing K p)

-- a part of the new program alone, in front of a copy, which does nothing to the facts
pub record IsSilent (W : World) (R : W.Scope) (s q : Order) : Type 0 where
  pub stays : (us : List Action) (o : Out) → Walk s us o → IsAway o → o ≡ stopped
  pub good : (us w vs : List Action) (o : Out) → Hist W R us w → Reach W q w → Walk s vs o → Good W us vs
  pub quiet : (us w vs : List Action) → Hist W R us w → Reach W q w → Walk s vs on → Hist W R (us ++ vs) w

-- one behind a copy
pub record IsSilentBehind (W : World) (R : W.Scope) (s : Order) : Type 0 where
  pub stays : (us : List Action) (o : Out) → Walk s us o → IsAway o → o ≡ stopped
  pub good : (us w vs : List Action) (o : Out) → Hist W R us w → Walk s vs o → Good W us vs
  pub quiet : (us w vs : List Action) → Hist W R us w → Walk s vs on → Hist W R (us ++ vs) w

-- a part of the text alone: some walk goes through it
pub record IsPassedOver (W : World) (R : W.Scope) (q : Order) : Type 0 where
  pub passes : (us w : List Action) → Hist W R us w → Reach W q w → (ws : List Action) × Walk q ws on × Hist W R us (w ++ ws)

pub data Ended : Out → Type 0 where
  by_stopping : Ended stopped
  by_returning : {n : ℕ} → Ended (leaves (returns n))

-- a part of the new program that only stops or returns, in place of any
pub record IsGone (W : World) (R : W.Scope) (s q : Order) : Type 0 where
  pub ended : (us : List Action) (o : Out) → Walk s us o → Ended o
  pub good : (us w vs : List Action) (o : Out) → Hist W R us w → Reach W q w → Walk s vs o → Good W us vs

-- ---- orders that match, by what is in scope

pub data Matches (W : World) : W.Scope → Order → Order → Type 0 where
  is_nothing : {R : W.Scope} → Matches W R order.nothing order.nothing
  is_nowhere : {R : W.Scope} → Matches W R order.nowhere order.nowhere
  is_act : {R : W.Scope} {a b : Action} → W.Same R a b → Matches W R (order.act a) (order.act b)
  is_then : {R : W.Scope} {s t q r : Order} → Matches W R s q → Matches W R t r → Matches W R (order.then s t) (order.then q r)
  is_or : {R : W.Scope} {s t q r : Order} → Matches W R s q → Matches W R t r → Matches W R (order.or s t) (order.or q r)
  is_leave : {R : W.Scope} {i j : Exit} → SameExit (W.Loop R) i j → Matches W R (order.leave i) (order.leave j)
  is_fail : {R : W.Scope} → Matches W R order.fail order.fail
  is_otherwise : {R : W.Scope} {s t q r : Order} → Matches W R s q → Matches W R t r → Matches W R (order.otherwise s t) (order.otherwise q r)
  is_ending : {R : W.Scope} {m n x y : ℕ} {s q : Order} → W.Ends R x y → Matches W R s q → Matches W R (order.ending m x s) (order.ending n y q)
  is_passes : {R S : W.Scope} {l k : ℕ} {s q : Order} → W.Inside R S l k → Matches W S s q → Matches W R (order.passes l s) (order.passes k q)
  -- a variable begins in both
  is_beginning : {R S : W.Scope} {a b : Action} {s q : Order} → W.Begins R S a b → Matches W S s q → Matches W R (order.then (order.act a) s) (order.then (order.act b) q)
  is_only_new : {R : W.Scope} {s t q : Order} → IsSilent W R s q → Matches W R t q → Matches W R (order.then s t) q
  is_only_new_behind : {R : W.Scope} {s t q : Order} → Matches W R s q → IsSilentBehind W R t → Matches W R (order.then s t) q
  is_only_old : {R : W.Scope} {s q r : Order} → IsPassedOver W R q → Matches W R s r → Matches W R s (order.then q r)
  is_gone : {R : W.Scope} {s q : Order} → IsGone W R s q → Matches W R s q
  is_call : {R S : W.Scope} {H K : List Piece} {q r : Order} → IsCall W R S H K q r → Closes W R S H K → Matches W S q r → Matches W R (fill H q) (fill K r)
  -- a part in place of another, of which it is known
  is_known : {R : W.Scope} {s q : Order} → Maps W R s q → Matches W R s q

-- ---- what is asked of the two programs

-- another loop, or this one, is the same in both
pub data WhichLoop (L : ℕ → ℕ → Type 0) (l k m j : ℕ) : Type 0 where
  this_loop : m ≡ l → j ≡ k → WhichLoop L l k m j
  outer_loop : (m ≡ l → ⊥) → (j ≡ k → ⊥) → L m j → WhichLoop L l k m j

pub record Keeps (W : World) : Type 0 where
  pub front : (us vs : List Action) → W.C (us ++ vs) → W.C us
  -- a copy does to facts what the text's action does, and is in order where the walk comes from one of the text
  pub alike : (R : W.Scope) (a b : Action) (V : View) → W.Same R a b → W.Seen R V → Alike V a b
  pub in_order : (R : W.Scope) (us w : List Action) (a b : Action) → Hist W R us w → W.C (w ++ b ∷ []) → W.Same R a b → W.Ok us a
  pub ended : (R : W.Scope) (x y m n : ℕ) (V : View) → W.Ends R x y → W.Seen R V → Alike V (does m (Dead x)) (does n (Dead y))
  pub dead_in_order : (us : List Action) (n x : ℕ) → W.Ok us (does n (Dead x))
  -- where a variable begins, the facts of it are known, and the other ones are kept
  pub begun : (R S : W.Scope) (us w : List Action) (a b : Action) → W.Begins R S a b → Hist W R us w → Hist W S (us ++ a ∷ []) (w ++ b ∷ [])
  pub begin_in_order : (R S : W.Scope) (us : List Action) (a b : Action) → W.Begins R S a b → W.Ok us a
  pub begin_wider : (R S : W.Scope) (a b : Action) (V : View) → W.Begins R S a b → W.Seen R V → W.Seen S V
  pub begin_loops : (R S : W.Scope) (a b : Action) (l k : ℕ) → W.Begins R S a b → W.Loop S l k → W.Loop R l k
  pub inside : (R S : W.Scope) (l k : ℕ) (V : View) → W.Inside R S l k → W.Seen S V → W.Seen R V
  pub outside : (R S : W.Scope) (l k : ℕ) (V : View) → W.Inside R S l k → W.Seen R V → W.Seen S V
  pub which : (R S : W.Scope) (l k m j : ℕ) → W.Inside R S l k → W.Loop S m j → WhichLoop (W.Loop R) l k m j
