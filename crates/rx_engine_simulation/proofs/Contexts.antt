-- Parts that do alike, where the answer's stands in a context, as that of a call, and the text goes on behind them.
use Rattle.std.proofs.Common.{◌≡◌, ℕ, None, Some, if◌then◌else◌, List, [], ◌∷◌, ◌++◌, refl, sym, ap, ◌∙◌, subst, le_refl}
use Rattle.std.proofs.lemmas.List.{append-nil}
use Rattle.rx_typed.specs.Tree.{own}
use Rattle.rx_lower_walks.specs.Matching.{Binding}
use Rattle.rx_lower_walks.specs.Actions.{Action, Declare, Subject, does, taken, declared, written, source_of}
use Rattle.rx_lower_walks.specs.Orders as order
use Rattle.rx_lower_walks.specs.Walks as walk
use Rattle.rx_lower_walks.specs.Walks.{Walk}
use Rattle.rx_lower_walks.specs.Orders.{Order, Exit, perhaps, binding, declaring}
use Rattle.rx_meaning.specs.Endings.{Ending}
use Rattle.rx_meaning.specs.Values.{Value, unit_value, State, with_variable}
use Rattle.rx_meaning.specs.Results.{Result, on, jumps, stops, after, bind}
use Rattle.rx_meaning.specs.Acting.{performed, plainly}
use Rattle.rx_meaning.specs.Patterns.{closed, bound, begun}
use Rattle.rx_meaning.specs.Programs.{IsFront}
use Rattle.rx_meaning.specs.Telling.{told_by}
use Rattle.rx_meaning.proofs.Sequences.{after_nothing, closed_is}
use Rattle.rx_meaning.proofs.Fronts.{front_self, front_bind, told_after}
use Rattle.rx_engine_simulation.specs.Histories.{put}
use Rattle.rx_engine_simulation.specs.Blocks.{declared_all, Binds, binds_none, binds_and}
use Rattle.rx_engine_simulation.specs.Arrivals.{Specials}
use Rattle.rx_engine_simulation.proofs.Told.{Told, did, said, onto, followed, onto_append, front_said, front_trans}
use Rattle.rx_engine_simulation.proofs.Values.{Pair, Given, AllGiven, all_more}
use Rattle.rx_engine_simulation.proofs.States.{Direction, Facts, special, Sight, sight, Renaming, sight_of, Frozen, Grown, grown_refl, grown_trans}
use Rattle.rx_engine_simulation.proofs.Declaring.{ne_false}
use Rattle.rx_engine_simulation.proofs.Results.{Jumping, LikeExit, Reached, ResultsAlike, both_on, both_jump, both_stop, text_cut, answer_cut, DoAlike, good_front, alike_prefix}
use Rattle.rx_engine_simulation.proofs.Positions.{Walked, IsWalked, walked, acted_one, put_append, next_at, scope_at, act_walk, took_walk}
use Rattle.rx_engine_simulation.proofs.Writes.{write_all_alike}
use Rattle.rx_engine_simulation.proofs.Parts.{Ready, go_on, alike_closed_left, declare_text, declare_answer}
use Rattle.rx_engine_simulation.proofs.Patterns.{own_like, newly, LikeDeclared, none_new, new_and, LikeBindings, no_binding, binding_and, took_alike}

none_some : {A : Type 0} {a : A} → None ≡ Some a → ⊥
none_some e = cc

-- what is known stays known
pub older : (R : Renaming) (x z : ℕ) (e f : Sight) → sight_of R x ≡ None → sight_of R z ≡ Some f → sight_of ((x, e) ∷ R) z ≡ Some f
older R x z e f none g = ap (λ b. if b then Some e else sight_of R z) (ne_false x z (λ k. none_some (sym none ∙ ap (λ z. sight_of R z) (sym k) ∙ g))) ∙ g

specials_older : (R R1 : Renaming) (x : ℕ) (e : Sight) → sight_of R1 x ≡ None → Specials R R1 → Specials R ((x, e) ∷ R1)
specials_older R R1 x e none sp y z seen = let a = sp y z seen in (a.0, older R1 x y e (sight a.0 special) none a.1)

-- what is done with what a part gives, as by a call: it tells what the part tells first, and ends where that ends
pub record Context (F : Result ℕ Value → Result ℕ Value) : Type 0 where
  pub behind : (w : List ℕ) (r : Result ℕ Value) → F (after w r) ≡ after w (F r)
  pub ended : (w : List ℕ) (e : Ending) → F (stops w e) ≡ stops w e
  pub front : (o : List ℕ) (r : Result ℕ Value) → IsFront o (told_by r) → IsFront o (told_by (F r))

jumps_after : {E A : Type 0} (w : List E) (x : Exit) (v : Value) (s : State) → jumps w x v s ≡ after {A = A} w (jumps [] x v s)
unfolding after
jumps_after w x v s = ap (λ l. jumps l x v s) (sym (append-nil w))

act_on : {a : Action} {w : List Action} → Walk (order.act a) w walk.on → w ≡ a ∷ []
act_on walk.acts = refl

-- a binding was walked
bound_on : (K : List Action → Type 0) (u v w : List Action) (a b : Action) (h h1 h2 : List Action) → h1 ≡ put u h → h2 ≡ put w (a ∷ h1) → Walk (order.act b) w walk.on → K (put (u ++ a ∷ b ∷ v) h) → K (put v h2)
bound_on K u v w a b h h1 h2 e f k kept =
    subst (λ h2. K (put v h2)) (sym (f ∙ ap (λ w. put w (a ∷ h1)) (act_on k) ∙ ap (λ h. b ∷ a ∷ h) e)) (subst K (put_append u (a ∷ b ∷ v) h) kept)

module _ (V : Facts) (d : Direction) (R : Renaming) (Z Z' : Frozen) (J : Jumping) (c0 : ℕ) (j0 : List Pair) (s0 s0' : State) (F : Result ℕ Value → Result ℕ Value) (context : Context F) where
  -- seen from outside
  abbrev pub Outer : List Action → Result (Told ℕ) Value → Result ℕ Value → Type 0
  Outer h r q = DoAlike V d R Z Z' J Given c0 h j0 s0 s0' r q

  outer_prefix : (h : List Action) (o : List (Told ℕ)) (o' : List ℕ) (r : Result (Told ℕ) Value) (q : Result ℕ Value) → said o ≡ o' → Outer (onto o h) r q → Outer h (after o r) (after o' q)
  outer_prefix h o o' r q e k good = alike_prefix V d R Z Z' J Given c0 h j0 j0 s0 s0' s0 s0' o o' r q e (grown_refl j0 s0 s0') (k (subst V.Good (ap (λ w. onto w h) (told_after o r) ∙ onto_append o (told_by r) h) good))

  -- the text does one action, and the answer stands still
  pub outer_step : (h : List Action) (a : Action) (r : Result (Told ℕ) Value) (q : Result ℕ Value) → Outer (a ∷ h) r q → Outer h (after (did a ∷ []) r) q
  outer_step h a r q k = subst (λ q. Outer h (after (did a ∷ []) r) q) (after_nothing q) (outer_prefix h (did a ∷ []) [] r q refl k)

  -- inside, with other variables, kept slots and jumps
  module _ (Ri : Renaming) (Zi Zi' : Frozen) (Ji : Jumping) (c : ℕ) where
    -- how the part's jumps leave
    abbrev pub Exits : List Action → List Pair → State → State → Type 0
    Exits h j s s' = (h1 : List Action) (j1 : List Pair) (x y : Exit) (v w : Value) (t t' : State) → LikeExit V Ji h1 j1 t x v y w → Reached V d Ri Zi Zi' c h1 j s s' j1 t t' → Outer h1 (jumps [] x v t) (F (jumps [] y w t'))

    context_bound : {A B : Type 0} (W : List Pair → A → B → Type 0) (h : List Action) (j : List Pair) (s s' : State) (r : Result (Told ℕ) A) (r' : Result ℕ B) (go : A → State → Result (Told ℕ) Value) (go' : B → State → Result ℕ Value)
        → ResultsAlike V d Ri Zi Zi' Ji W c h j s s' r r'
        → ((o : List (Told ℕ)) (j1 : List Pair) (a : A) (b : B) (t t' : State) → r ≡ on o a t → W j1 a b → Reached V d Ri Zi Zi' c (onto o h) j s s' j1 t t' → Outer (onto o h) (go a t) (F (go' b t')))
        → Exits h j s s' → Outer h (bind r go) (F (bind r' go'))
    unfolding bind
    context_bound W h j s s' r r' go go' (both_on {o = o} {o' = o'} {a = a} {b = b} {t = t} {t' = t'} j1 f w z) l x =
        subst (λ q. Outer h (after o (go a t)) q) (sym (context.behind o' (go' b t'))) (outer_prefix h o o' (go a t) (F (go' b t')) f (l o j1 a b t t' refl w z))
    context_bound W h j s s' r r' go go' (both_jump {o = o} {o' = o'} {x = y} {y = y'} {v = v} {w = v'} {t = t} {t' = t'} j1 f e z) l x =
        subst (λ q. Outer h q (F (jumps o' y' v' t'))) (sym (jumps_after o y v t))
        (subst (λ q. Outer h (after o (jumps [] y v t)) q) (sym (ap F (jumps_after o' y' v' t') ∙ context.behind o' (jumps [] y' v' t'))) (outer_prefix h o o' (jumps [] y v t) (F (jumps [] y' v' t')) f (x (onto o h) j1 y y' v v' t t' e z)))
    context_bound W h j s s' r r' go go' (both_stop {o = o} {o' = o'} {e = e} {e' = e'} f q0) l x = subst (λ q. Outer h (stops o e) q) (sym (context.ended o' e')) (λ good. both_stop f q0)
    context_bound W h j s s' r r' go go' (text_cut {o = o} m f) l x = λ good. text_cut m (context.front (said o) _ (front_bind (said o) r' go' f))
    context_bound W h j s s' r r' go go' (answer_cut {o' = o'} {e = e'} m f) l x =
        subst (λ q. Outer h (bind r go) q) (sym (context.ended o' e')) (λ good. answer_cut m (front_trans o' (said (told_by r)) _ f (front_said (told_by r) _ (front_bind (told_by r) r go (front_self _)))))

    -- with what the part told
    pub context_ends : {A B : Type 0} (W : List Pair → A → B → Type 0) (h : List Action) (j : List Pair) (s s' : State) (r : Result (Told ℕ) A) (r' : Result ℕ B) (go : A → State → Result (Told ℕ) Value) (go' : B → State → Result ℕ Value) → DoAlike V d Ri Zi Zi' Ji W c h j s s' r r'
        → ((o : List (Told ℕ)) (j1 : List Pair) (a : A) (b : B) (t t' : State) → r ≡ on o a t → W j1 a b → Reached V d Ri Zi Zi' c (onto o h) j s s' j1 t t' → Outer (onto o h) (go a t) (F (go' b t'))) → Exits h j s s' → Outer h (bind r go) (F (bind r' go'))
    context_ends W h j s s' r r' go go' k l x good =
        context_bound W h j s s' r r' go go' (k (good_front V (told_by r) _ h (front_bind (told_by r) r go (front_self _)) good)) l x good

    -- what follows stands behind the walk that the part's run is
    pub context_bind : {A B : Type 0} (W : List Pair → A → B → Type 0) (h : List Action) (j : List Pair) (s s' : State) (r : Result (Told ℕ) A) (r' : Result ℕ B) (go : A → State → Result (Told ℕ) Value) (go' : B → State → Result ℕ Value)
        → (part : Order) → IsWalked part r → DoAlike V d Ri Zi Zi' Ji W c h j s s' r r'
        → ((h1 : List Action) (j1 : List Pair) (a : A) (b : B) (t t' : State) → Walked part h h1 → W j1 a b → Reached V d Ri Zi Zi' c h1 j s s' j1 t t' → Outer h1 (go a t) (F (go' b t')))
        → Exits h j s s' → Outer h (bind r go) (F (bind r' go'))
    context_bind W h j s s' r r' go go' part goes k l x good =
        context_bound W h j s s' r r' go go' (k (good_front V (told_by r) _ h (front_bind (told_by r) r go (front_self _)) good))
        (λ o j1 a b t t' q. l (onto o h) j1 a b t t' (walked part h o r a t q goes)) x good

    -- and with what the part gave
    pub context_bind_is : {A B : Type 0} (W : List Pair → A → B → Type 0) (h : List Action) (j : List Pair) (s s' : State) (r : Result (Told ℕ) A) (r' : Result ℕ B) (go : A → State → Result (Told ℕ) Value) (go' : B → State → Result ℕ Value)
        → (part : Order) → IsWalked part r → DoAlike V d Ri Zi Zi' Ji W c h j s s' r r'
        → ((o : List (Told ℕ)) (j1 : List Pair) (a : A) (b : B) (t t' : State) → r ≡ on o a t → Walked part h (onto o h) → W j1 a b → Reached V d Ri Zi Zi' c (onto o h) j s s' j1 t t' → Outer (onto o h) (go a t) (F (go' b t')))
        → Exits h j s s' → Outer h (bind r go) (F (bind r' go'))
    context_bind_is W h j s s' r r' go go' part goes k l x good =
        context_bound W h j s s' r r' go go' (k (good_front V (told_by r) _ h (front_bind (told_by r) r go (front_self _)) good))
        (λ o j1 a b t t' q. l o j1 a b t t' q (walked part h o r a t q goes)) x good

  -- a variable that ends
  outer_closed : (h : List Action) (n n' x x' : ℕ) (r : Result (Told ℕ) Value) (r' : Result ℕ Value) → Outer h r (F r') → Outer h (closed followed n x r) (F (closed plainly n' x' r'))
  outer_closed h n n' x x' r r' k = subst (λ q. Outer h (closed followed n x r) (F q)) (sym (closed_is n' x' r')) (alike_closed_left V d R Z Z' J Given c0 h j0 s0 s0' n x r (F r') k)

  -- a new variable
  outer_declared : (h : List Action) (n n' x x' : ℕ) (s s' : State) (go : Value → State → Result (Told ℕ) Value) (go' : Value → State → Result ℕ Value) → Outer (does n (Declare x) ∷ h) (go unit_value (with_variable x s)) (F (go' unit_value (with_variable x' s')))
      → Outer h (bind (performed followed (does n (Declare x)) [] s) go) (F (bind (performed plainly (does n' (Declare x')) [] s') go'))
  outer_declared h n n' x x' s s' go go' k =
      subst (λ q. Outer h q (F (bind (performed plainly (does n' (Declare x')) [] s') go'))) (sym (declare_text n x s go))
      (subst (λ q. Outer h (after (did (does n (Declare x)) ∷ []) (go unit_value (with_variable x s))) q) (sym (ap F (declare_answer n' x' s' go' ∙ after_nothing _) ∙ sym (after_nothing _)))
      (outer_prefix h (did (does n (Declare x)) ∷ []) [] _ _ refl k))

  module _ (Zi Zi' : Frozen) (Ji : Jumping) (c m n : ℕ) (jb : List Pair) (sb sb' : State) where
    -- from wherever both come to inside, where this is known of the text's history
    abbrev pub Inside : Renaming → (List Action → Type 0) → (State → Result (Told ℕ) Value) → (State → Result ℕ Value) → Type 0
    Inside Ri K go go' = (h : List Action) (j : List Pair) (s s' : State) → Ready V d Ri Zi Zi' c m n h j s s' → Grown jb sb sb' j s s' → K h → Outer h (go s) (F (go' s'))

    abbrev pub AllExits : Type 0
    AllExits = (Ri : Renaming) → Specials R Ri → (h : List Action) (j : List Pair) (x y : Exit) (v w : Value) (s s' : State) → LikeExit V Ji h j s x v y w → Ready V d Ri Zi Zi' c m n h j s s' → Grown jb sb sb' j s s' → Outer h (jumps [] x v s) (F (jumps [] y w s'))

    pub exits_at : AllExits → (Ri : Renaming) → Specials R Ri → (h : List Action) (j : List Pair) (s s' : State) → Ready V d Ri Zi Zi' c m n h j s s' → Grown jb sb sb' j s s' → Exits Ri Zi Zi' Ji c h j s s'
    exits_at all Ri sp h j s s' r g h1 j1 x y v w t t' l z = all Ri sp h1 j1 x y v w t t' l (go_on V d Ri Zi Zi' r z) (grown_trans jb j j1 sb sb' s s' t t' g z.grown)

    pub begun_inside : {R1 R2 : Renaming} {xs ys : List ℕ} → LikeDeclared V R1 xs ys R2 → (i i' b b' : ℕ) (o : Order) (K : List Action → Type 0) (go : State → Result (Told ℕ) Value) (go' : State → Result ℕ Value) → Inside R2 (λ h. V.Comes o h × K h) go go'
        → Inside R1 (λ h. V.Comes (declaring i xs b o) h × K (put (declared_all i xs) h)) (λ s. begun followed i xs b go s) (λ s. begun plainly i' ys b' go' s)
    unfolding begun
    begun_inside none_new i i' b b' o K go go' k h j s s' r g at = k h j s s' r g at
    begun_inside {R1} (new_and {x = x} {y = y} w f none u l) i i' b b' o K go go' k h j s s' r g at =
        let fresh = newly V d R1 Zi Zi' c m n i x y w h j s s' f none u r in
        outer_declared h i i' x y s s' _ _
        (outer_closed _ b b' x y _ _ (begun_inside l i i' b b' o K go go' k _ fresh.pairs _ _ fresh.ready (grown_trans jb j fresh.pairs sb sb' s s' _ _ g fresh.grown) (scope_at V (next_at V at.0 (acted_one (does i (Declare x)) h)), at.1)))

    pub bound_inside : {S S' : Subject} {R1 R2 : Renaming} {bs bs' : List Binding} → LikeBindings V S S' R1 bs bs' R2 → AllExits → Specials R R1 → (b b' : ℕ) (o : Order) (K : List Action → Type 0) (go : State → Result (Told ℕ) Value) (go' : State → Result ℕ Value) → Inside R2 (λ h. V.Comes o h × K h) go go'
        → (vs vs' : List Value) (h : List Action) (j : List Pair) (s s' : State) → AllGiven j vs vs' → Ready V d R1 Zi Zi' c m n h j s s' → Grown jb sb sb' j s s' → V.Comes (binding S bs b o) h → ((v : List Action) → Binds S bs v → K (put v h))
        → Outer h (bound followed S vs bs b go s) (F (bound plainly S' vs' bs' b' go' s'))
    unfolding bound
    bound_inside no_binding all sp b b' o K go go' k vs vs' h j s s' q r g at kept = k h j s s' r g (at, kept [] binds_none)
    bound_inside {S} {S'} {R1} (binding_and {b = a} {b' = a'} w l way f none u rest) all sp b b' o K go go' k vs vs' h j s s' q r g at kept =
        context_bind R1 Zi Zi' Ji c AllGiven h j s s' _ _ _ _ (perhaps a.node (taken S a)) (took_walk a.node (taken S a) vs s) (took_alike V d Zi Zi' Ji c c m n (le_refl c) l a.node a'.node vs vs' h j s s' q r) (λ h1 j1 ws ws' t t' k1 q1 z.
        let r1 = go_on V d R1 Zi Zi' r z in
        let g1 = grown_trans jb j j1 sb sb' s s' t t' g z.grown in
        let fresh = newly V d R1 Zi Zi' c m n a.node a.variable a'.variable w h1 j1 t t' f none u r1 in
        let at1 = next_at V (next_at V at k1) (acted_one (declared a) h1) in
        let R2 = (a.variable, sight a'.variable w) ∷ R1 in
        let sp2 = specials_older R R1 a.variable (sight a'.variable w) none sp in
        let g2 = grown_trans jb j1 fresh.pairs sb sb' t t' _ _ g1 fresh.grown in
        outer_declared h1 a.node a'.node a.variable a'.variable t t' _ _
        (context_bind R2 Zi Zi' Ji c Given _ fresh.pairs _ _ _ _ _ _ (order.act (written S a)) (act_walk (written S a) ws (with_variable a.variable t))
        (write_all_alike V d R2 Zi Zi' Ji c _ fresh.pairs _ _ fresh.ready.inv fresh.ready.turns a.node a'.node (source_of S a).0 (source_of S' a').0 (source_of S a).1 (source_of S' a').1 (own a.variable) (own a'.variable) (own_like V R1 a.variable a'.variable w f) way ws ws' (all_more fresh.grown.more q1)) (λ h2 j2 v v' t2 t2' k2 q2 z2.
        outer_closed h2 b b' a.variable a'.variable _ _
        (bound_inside rest all sp2 b b' o K go go' k vs vs' h2 j2 t2 t2' (all_more z2.grown.more (all_more fresh.grown.more (all_more z.grown.more q))) (go_on V d R2 Zi Zi' fresh.ready z2) (grown_trans jb fresh.pairs j2 sb sb' _ _ t2 t2' g2 z2.grown) (scope_at V (next_at V at1 k2)) (λ v b. bound_on K k1.0 v k2.0 (declared a) (written S a) h h1 h2 k1.1 k2.1 k2.2 (kept (k1.0 ++ declared a ∷ written S a ∷ v) (binds_and k1.2 b)))))
        (exits_at all R2 sp2 _ fresh.pairs _ _ fresh.ready g2)))
        (exits_at all R1 sp h j s s' r g)
