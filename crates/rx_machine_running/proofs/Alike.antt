-- Parts of runs that go on alike.
use Rattle.std.proofs.Common.{◌≡◌, ℕ, zero, suc, nat_eq, Bool, true, false, List, [], ◌∷◌, Option, None, Some, if◌then◌else◌, refl, ap, ◌∙◌}
use Rattle.rx_typed.specs.Tree.{Parameter, Function}
use Rattle.rx_lower_walks.specs.Matching.{PartTest, Binding}
use Rattle.rx_lower_walks.specs.Actions.{Subject}
use Rattle.rx_lower_walks.specs.Orders.{breaks, continues, returns}
use Rattle.rx_meaning.specs.Values.{Value, number, truth, whole, tagged, pointer, lacking, State}
use Rattle.rx_meaning.specs.Results.{Result, on, jumps, stops, after, bind, gives, result_of}
use Rattle.rx_meaning.specs.Acting.{plainly}
use Rattle.rx_meaning.specs.Patterns as full
use Rattle.rx_meaning.specs.Patterns.{decided, tested}
use Rattle.rx_meaning.specs.Expressions as full_expressions
use Rattle.rx_meaning.specs.Expressions.{turn_at, take_turn, passed, found}
use Rattle.rx_meaning.proofs.Sequences.{after_nothing, bind_same, closed_is}
use Rattle.rx_machine_running.specs.Running.{bound, begun, with_arguments}

-- what does nothing goes on
pub goes_on : {B : Type 0} (v : Value) (s : State) (go : Value → State → Result ℕ B) → bind (result_of (gives [] v s)) go ≡ go v s
unfolding bind result_of
goes_on v s go = after_nothing (go v s)

pub decided_same : (v : Value) (f g f2 g2 : State → Result ℕ Value) (s : State) → ((s : State) → f s ≡ f2 s) → ((s : State) → g s ≡ g2 s) → decided v f g s ≡ decided v f2 g2 s
unfolding decided
decided_same (truth true) f g f2 g2 s h k = h s
decided_same (truth false) f g f2 g2 s h k = k s
decided_same (number j z) f g f2 g2 s h k = refl
decided_same (whole vs) f g f2 g2 s h k = refl
decided_same (tagged i vs) f g f2 g2 s h k = refl
decided_same (pointer i p m) f g f2 g2 s h k = refl
decided_same (lacking l) f g f2 g2 s h k = refl

pub tested_same : (S : Subject) (vs : List Value) (ts : List PartTest) (f g f2 g2 : State → Result ℕ Value) (s : State) → ((s : State) → f s ≡ f2 s) → ((s : State) → g s ≡ g2 s)
    → tested plainly S vs ts f g s ≡ tested plainly S vs ts f2 g2 s
unfolding tested
tested_same S vs [] f g f2 g2 s h k = h s
tested_same S vs (t ∷ ts) f g f2 g2 s h k =
    bind_same _ _ _ _ refl (λ v s1. decided_same v _ _ _ _ s1 (λ s2. tested_same S vs ts f g f2 g2 s2 h k) k)

pub bound_same : (S : Subject) (vs : List Value) (bs : List Binding) (n : ℕ) (f g : State → Result ℕ Value) (s : State) → ((s : State) → f s ≡ g s) → full.bound plainly S vs bs n f s ≡ bound S vs bs g s
unfolding full.bound bound
bound_same S vs [] n f g s h = h s
bound_same S vs (b ∷ bs) n f g s h =
    bind_same _ _ _ _ refl (λ ws s1. bind_same _ _ _ _ refl (λ u s2. bind_same _ _ _ _ refl (λ w s3. closed_is n b.variable _ ∙ bound_same S vs bs n f g s3 h)))

pub begun_same : (i : ℕ) (xs : List ℕ) (n : ℕ) (f g : State → Result ℕ Value) (s : State) → ((s : State) → f s ≡ g s) → full.begun plainly i xs n f s ≡ begun xs g s
unfolding full.begun begun
begun_same i [] n f g s h = h s
begun_same i (x ∷ xs) n f g s h = bind_same _ _ _ _ refl (λ u s1. closed_is n x _ ∙ begun_same i xs n f g s1 h)

pub arguments_same : (ps : List Parameter) (n : ℕ) (vs : List Value) (f g : State → Result ℕ Value) (s : State) → ((s : State) → f s ≡ g s)
    → full_expressions.with_arguments plainly ps n vs f s ≡ with_arguments ps vs g s
unfolding full_expressions.with_arguments with_arguments
arguments_same [] n [] f g s h = h s
arguments_same [] n (v ∷ vs) f g s h = refl
arguments_same (p ∷ ps) n [] f g s h = refl
arguments_same (p ∷ ps) n (v ∷ vs) f g s h =
    bind_same _ _ _ _ refl (λ u s1. bind_same _ _ _ _ refl (λ w s2. closed_is n p.variable _ ∙ arguments_same ps n vs f g s2 h))

pub turn_same : (s : State) (f g : State → Result ℕ Value) → ((s : State) → f s ≡ g s) → take_turn s f ≡ take_turn s g
unfolding take_turn
turn_same s f g h = by s.turns
  where
    by : (t : ℕ) → turn_at t s f ≡ turn_at t s g
    by zero = refl
    by (suc t) = h _

pub passed_same : (l : ℕ) (r r2 : Result ℕ Value) (f g : State → Result ℕ Value) → r ≡ r2 → ((s : State) → f s ≡ g s) → passed l r f ≡ passed l r2 g
unfolding passed
passed_same l r r2 f g e h = ap (λ x. passed l x f) e ∙ by r2
  where
    if_same : (b : Bool) (w : List ℕ) (n k : ℕ) (v : Value) (s : State) → (if b then after w (f s) else jumps w (continues n k) v s) ≡ (if b then after w (g s) else jumps w (continues n k) v s)
    if_same true w n k v s = ap (after w) (h s)
    if_same false w n k v s = refl

    by : (r : Result ℕ Value) → passed l r f ≡ passed l r g
    by (on w v s) = ap (after w) (h s)
    by (jumps w (breaks n k) v s) = refl
    by (jumps w (continues n k) v s) = if_same (nat_eq k l) w n k v s
    by (jumps w (returns n) v s) = refl
    by (stops w e) = refl

pub found_same : (o : Option (Option Function)) (f g : Function → Result ℕ Value) → ((x : Function) → f x ≡ g x) → found o f ≡ found o g
found_same None f g h = refl
found_same (Some None) f g h = refl
found_same (Some (Some x)) f g h = h x
