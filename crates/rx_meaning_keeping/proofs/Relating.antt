-- What each action relates, the runs relate: both go through the same tree side by side, by recursion on it and on the turns.
use Rattle.std.proofs.Common.{◌≡◌, ℕ, zero, suc, Bool, true, false, nat_eq, List, [], ◌∷◌, Option, Some, None, refl, subst, if◌then◌else◌}
use Rattle.rx_typed.specs.Tree as tree
use Rattle.rx_typed.specs.Tree.{Temporary, Exp, read, borrow, share, build, unit, lazily, assign, update, call, input, print, block, choose, loop, jump, give, Operands, no_operand, operand_and, Scrutinee, at_place, of_value, Arms, no_arm, arm_and, Body, ends, runs, lets, Parameter, Function, temporary_of}
use Rattle.rx_lower_walks.specs.Matching.{PartTest, Binding, tests, bindings}
use Rattle.rx_lower_walks.specs.Actions.{Act, Dead, Action, does, Subject, subject, taken}
use Rattle.rx_lower_walks.specs.Orders.{breaks, continues, returns, exit_node}
use Rattle.rx_meaning.specs.Endings.{wrong}
use Rattle.rx_meaning.specs.Straying.{why_not_checked}
use Rattle.rx_meaning.specs.Values.{Value, number, truth, whole, tagged, pointer, lacking, State, with_turns, element}
use Rattle.rx_meaning.specs.Results.{Done, Result, stops, after, bind, result_of}
use Rattle.rx_meaning.specs.Acting.{Acting, performed}
use Rattle.rx_meaning.specs.Patterns.{decided, tested, closed, took, bound, begun}
use Rattle.rx_meaning.specs.Expressions.{Functions, Meaning, turn_at, take_turn, passed, returned, with_arguments, entered, found, value, values, matched, arms, body, below_level, called}
use Rattle.rx_meaning_keeping.specs.Relating.{Relation, IsNoTruth, DoneRelated, gave, ended, excused, parted, Related, both_on, both_jump, both_stop, excused_stop, have_parted, DecideAlike, by_truth, by_none, by_excuse, by_parting, AllRelated, no_more, and_one, IsRelated}

module _ {E F : Type 0} (L : Relation) (T : List E → List F → Type 0) (A : Acting E) (B : Acting F) (rel : IsRelated L T A B) where
  abbrev Val : L.W → Result E Value → Result F Value → Type 0
  Val k r q = Related L T k L.V r q

  abbrev Vals : L.W → Result E (List Value) → Result F (List Value) → Type 0
  Vals k r q = Related L T k (λ l vs vs'. AllRelated L l vs vs') r q

  all_grow : (k l : L.W) (vs vs' : List Value) → L.Grows k l → AllRelated L k vs vs' → AllRelated L l vs vs'
  all_grow k l _ _ g no_more = no_more
  all_grow k l _ _ g (and_one h t) = and_one (rel.values_grow k l _ _ g h) (all_grow k l _ _ g t)

  -- from a world that has grown, and behind what was told
  rel_after : {X Y : Type 0} (Q : L.W → X → Y → Type 0) (k l : L.W) (w : List E) (u : List F) (r : Result E X) (q : Result F Y) → T w u → L.Grows k l → Related L T l Q r q → Related L T k Q (after w r) (after u q)
  unfolding after
  rel_after Q k l w u _ _ c g (both_on m o h a s) = both_on m (rel.told_more _ _ _ _ c o) (rel.chain k l m g h) a s
  rel_after Q k l w u _ _ c g (both_jump m o h a s) = both_jump m (rel.told_more _ _ _ _ c o) (rel.chain k l m g h) a s
  rel_after Q k l w u _ _ c g (both_stop o) = both_stop (rel.told_more _ _ _ _ c o)
  rel_after Q k l w u _ _ c g (excused_stop x) = excused_stop x
  rel_after Q k l w u _ _ c g (have_parted x) = have_parted x

  rel_bind : {X Y X' Y' : Type 0} (Q : L.W → X → X' → Type 0) (Q1 : L.W → Y → Y' → Type 0) (k : L.W) (r : Result E X) (q : Result F X') (go : X → State → Result E Y) (go' : X' → State → Result F Y') → Related L T k Q r q
      → ((l : L.W) (a : X) (b : X') (s s' : State) → L.Grows k l → Q l a b → L.R l s s' → Related L T l Q1 (go a s) (go' b s')) → Related L T k Q1 (bind r go) (bind q go')
  unfolding bind
  rel_bind Q Q1 k _ _ go go' (both_on l o g a s) h = rel_after Q1 k l _ _ _ _ o g (h l _ _ _ _ g a s)
  rel_bind Q Q1 k _ _ go go' (both_jump l o g a s) h = both_jump l o g a s
  rel_bind Q Q1 k _ _ go go' (both_stop o) h = both_stop o
  rel_bind Q Q1 k _ _ go go' (excused_stop x) h = excused_stop x
  rel_bind Q Q1 k _ _ go go' (have_parted x) h = have_parted x

  rel_done : (k : L.W) (r : Done E) (q : Done F) → DoneRelated L T k r q → Val k (result_of r) (result_of q)
  unfolding result_of
  rel_done k _ _ (gave l o g v s) = both_on l o g v s
  rel_done k _ _ (ended o) = both_stop o
  rel_done k _ _ (excused x) = excused_stop x
  rel_done k _ _ (parted x) = have_parted x

  rel_does : (k : L.W) (a : Action) (vs vs' : List Value) (s s' : State) → AllRelated L k vs vs' → L.R k s s' → Val k (performed A a vs s) (performed B a vs' s')
  rel_does k a vs vs' s s' h i = rel_done k _ _ (rel.performs k a vs vs' s s' h i)

  -- what follows, from each world that has grown
  abbrev Go : L.W → (State → Result E Value) → (State → Result F Value) → Type 0
  Go k go go' = (l : L.W) (s s' : State) → L.Grows k l → L.R l s s' → Val l (go s) (go' s')

  go_on : (k l : L.W) (go : State → Result E Value) (go' : State → Result F Value) → L.Grows k l → Go k go go' → Go l go go'
  go_on k l go go' g h m s s' f i = h m s s' (rel.chain k l m g f) i

  decided_wrong : {Z : Type 0} (v : Value) (go other : State → Result Z Value) (s : State) → IsNoTruth v → decided v go other s ≡ stops [] (wrong (why_not_checked v))
  unfolding decided
  decided_wrong (truth b) go other s n = absurd n
  decided_wrong (number k z) go other s n = refl
  decided_wrong (whole vs) go other s n = refl
  decided_wrong (tagged i vs) go other s n = refl
  decided_wrong (pointer i p m) go other s n = refl
  decided_wrong (lacking x) go other s n = refl

  rel_decided : (k : L.W) (v v' : Value) (go other : State → Result E Value) (go' other' : State → Result F Value) (s s' : State) → L.V k v v' → L.R k s s' → Go k go go' → Go k other other' → Val k (decided v go other s) (decided v' go' other' s')
  rel_decided k v v' go other go' other' s s' h i g o = by v v' (rel.truths k v v' h)
    where
      way : (b : Bool) → Val k (decided (truth b) go other s) (decided (truth b) go' other' s')
      way true = unfold decided in (g k s s' (rel.same k) i)
      way false = unfold decided in (o k s s' (rel.same k) i)

      by : (v v' : Value) → DecideAlike L v v' → Val k (decided v go other s) (decided v' go' other' s')
      by _ _ (by_truth b) = way b
      by v v' (by_none n m e) = rw (decided_wrong v go other s n) (rw (decided_wrong v' go' other' s' m) (rw e (both_stop rel.told_none)))
      by v v' (by_excuse n x) = rw (decided_wrong v go other s n) (excused_stop x)
      by v v' (by_parting p) = have_parted p

  rel_turn : (k : L.W) (s s' : State) (go : State → Result E Value) (go' : State → Result F Value) → L.R k s s' → Go k go go' → Val k (take_turn s go) (take_turn s' go')
  unfolding take_turn
  rel_turn k s s' go go' i h = let t = rel.turns k s s' i in subst (λ n. Val k (turn_at s.turns s go) (turn_at n s' go')) t.0 (by t.1 s.turns refl)
    where
      by : ((n : ℕ) → s.turns ≡ suc n → L.R k (with_turns s n) (with_turns s' n)) → (t : ℕ) → s.turns ≡ t → Val k (turn_at t s go) (turn_at t s' go')
      by f zero e = both_stop rel.told_none
      by f (suc t) e = h k _ _ (rel.same k) (f t e)

  rel_if : (k : L.W) (b : Bool) (r q : Result E Value) (r' q' : Result F Value) → Val k r r' → Val k q q' → Val k (if b then r else q) (if b then r' else q')
  rel_if k true r q r' q' h j = h
  rel_if k false r q r' q' h j = j

  rel_passed : (k : L.W) (l : ℕ) (r : Result E Value) (q : Result F Value) (go : State → Result E Value) (go' : State → Result F Value) → Val k r q → Go k go go' → Val k (passed l r go) (passed l q go')
  unfolding passed
  rel_passed k l _ _ go go' (both_on m o g a s) h = rel_after L.V k m _ _ _ _ o g (h m _ _ g s)
  rel_passed k l _ _ go go' (both_jump {x = breaks n j} m o g a s) h = rel_if k (nat_eq j l) _ _ _ _ (both_on m o g (rel.unit m) s) (both_jump m o g a s)
  rel_passed k l _ _ go go' (both_jump {x = continues n j} m o g a s) h = rel_if k (nat_eq j l) _ _ _ _ (rel_after L.V k m _ _ _ _ o g (h m _ _ g s)) (both_jump m o g a s)
  rel_passed k l _ _ go go' (both_jump {x = returns n} m o g a s) h = both_jump m o g a s
  rel_passed k l _ _ go go' (both_stop o) h = both_stop o
  rel_passed k l _ _ go go' (excused_stop x) h = excused_stop x
  rel_passed k l _ _ go go' (have_parted x) h = have_parted x

  rel_found : (k : L.W) (f : Option (Option Function)) (go : Function → Result E Value) (go' : Function → Result F Value) → ((g : Function) → Val k (go g) (go' g)) → Val k (found f go) (found f go')
  rel_found k (Some (Some f)) go go' h = h f
  rel_found k None go go' h = both_stop rel.told_none
  rel_found k (Some None) go go' h = both_stop rel.told_none

  rel_closed : (k : L.W) (n x : ℕ) (r : Result E Value) (q : Result F Value) → Val k r q → Val k (closed A n x r) (closed B n x q)
  unfolding closed
  rel_closed k n x _ _ (both_on {s = s} {s' = s'} m o g a i) =
      rel_after L.V k m _ _ _ _ o g (rel_bind L.V L.V m _ _ _ _ (rel_does m (does n (Dead x)) [] [] s s' no_more i) (λ l u u' t t' h b j. both_on l rel.told_none (rel.same l) (rel.values_grow m l _ _ h a) j))
  rel_closed k n x _ _ (both_jump {x = y} {s = s} {s' = s'} m o g a i) =
      rel_after L.V k m _ _ _ _ o g (rel_bind L.V L.V m _ _ _ _ (rel_does m (does (exit_node y) (Dead x)) [] [] s s' no_more i) (λ l u u' t t' h b j. both_jump l rel.told_none (rel.same l) (rel.values_grow m l _ _ h a) j))
  rel_closed k n x _ _ (both_stop o) = both_stop o
  rel_closed k n x _ _ (excused_stop y) = excused_stop y
  rel_closed k n x _ _ (have_parted y) = have_parted y

  one : (k : L.W) (v v' : Value) → L.V k v v' → AllRelated L k (v ∷ []) (v' ∷ [])
  one k v v' h = and_one h no_more

  rel_took : (k : L.W) (n : ℕ) (a : Option Act) (vs vs' : List Value) (s s' : State) → AllRelated L k vs vs' → L.R k s s' → Vals k (took A n a vs s) (took B n a vs' s')
  unfolding took
  rel_took k n None vs vs' s s' h i = both_on k rel.told_none (rel.same k) h i
  rel_took k n (Some a) vs vs' s s' h i = rel_bind L.V _ k _ _ _ _ (rel_does k (does n a) vs vs' s s' h i) (λ l v v' t t' g b j. both_on l rel.told_none (rel.same l) (one l v v' b) j)

  rel_bound : (k : L.W) (S : Subject) (vs vs' : List Value) (bs : List Binding) (n : ℕ) (go : State → Result E Value) (go' : State → Result F Value) (s s' : State) → AllRelated L k vs vs' → L.R k s s' → Go k go go' → Val k (bound A S vs bs n go s) (bound B S vs' bs n go' s')
  unfolding bound
  rel_bound k S vs vs' [] n go go' s s' h i g = g k s s' (rel.same k) i
  rel_bound k S vs vs' (b ∷ bs) n go go' s s' h i g =
      rel_bind (λ l ws ws'. AllRelated L l ws ws') L.V k _ _ _ _ (rel_took k b.node (taken S b) vs vs' s s' h i) (λ l1 ws ws' s1 s1' g1 hs i1.
      rel_bind L.V L.V l1 _ _ _ _ (rel_does l1 _ [] [] s1 s1' no_more i1) (λ l2 u u' s2 s2' g2 hu i2.
      rel_bind L.V L.V l2 _ _ _ _ (rel_does l2 _ ws ws' s2 s2' (all_grow l1 l2 ws ws' g2 hs) i2) (λ l3 z z' s3 s3' g3 hz i3.
      let up = rel.chain k l1 l3 g1 (rel.chain l1 l2 l3 g2 g3) in
      rel_closed l3 n b.variable _ _ (rel_bound l3 S vs vs' bs n go go' s3 s3' (all_grow k l3 vs vs' up h) i3 (go_on k l3 go go' up g)))))

  rel_begun : (k : L.W) (j : ℕ) (xs : List ℕ) (n : ℕ) (go : State → Result E Value) (go' : State → Result F Value) (s s' : State) → L.R k s s' → Go k go go' → Val k (begun A j xs n go s) (begun B j xs n go' s')
  unfolding begun
  rel_begun k j [] n go go' s s' i g = g k s s' (rel.same k) i
  rel_begun k j (x ∷ xs) n go go' s s' i g =
      rel_bind L.V L.V k _ _ _ _ (rel_does k _ [] [] s s' no_more i) (λ l1 u u' s1 s1' g1 hu i1. rel_closed l1 n x _ _ (rel_begun l1 j xs n go go' s1 s1' i1 (go_on k l1 go go' g1 g)))

  rel_tested : (k : L.W) (S : Subject) (vs vs' : List Value) (ts : List PartTest) (go other : State → Result E Value) (go' other' : State → Result F Value) (s s' : State) → AllRelated L k vs vs' → L.R k s s' → Go k go go' → Go k other other'
      → Val k (tested A S vs ts go other s) (tested B S vs' ts go' other' s')
  unfolding tested
  rel_tested k S vs vs' [] go other go' other' s s' h i g o = g k s s' (rel.same k) i
  rel_tested k S vs vs' (t ∷ ts) go other go' other' s s' h i g o =
      rel_bind L.V L.V k _ _ _ _ (rel_does k _ vs vs' s s' h i) (λ l v v' s1 s1' g1 hv i1.
      rel_decided l v v' _ _ _ _ s1 s1' hv i1 (λ m s2 s2' g2 i2. let up = rel.chain k l m g1 g2 in rel_tested m S vs vs' ts go other go' other' s2 s2' (all_grow k m vs vs' up h) i2 (go_on k m go go' up g) (go_on k m other other' up o)) (go_on k l other other' g1 o))

  rel_returned : (k : L.W) (s s' : State) (r : Result E Value) (q : Result F Value) → L.R k s s' → Val k r q → Val k (returned A s.frame r) (returned B s'.frame q)
  unfolding returned
  rel_returned k s s' _ _ i (both_on m o g a j) = both_stop (rel.told_inner _ _ o)
  rel_returned k s s' _ _ i (both_jump {x = breaks n l} m o g a j) = both_stop (rel.told_inner _ _ o)
  rel_returned k s s' _ _ i (both_jump {x = continues n l} m o g a j) = both_stop (rel.told_inner _ _ o)
  rel_returned k s s' _ _ i (both_jump {x = returns n} m o g a j) = both_on m (rel.told_inner _ _ o) g a (rel.returns k m s s' _ _ g i j)
  rel_returned k s s' _ _ i (both_stop o) = both_stop (rel.told_inner _ _ o)
  rel_returned k s s' _ _ i (excused_stop x) = excused_stop x
  rel_returned k s s' _ _ i (have_parted x) = have_parted x

  rel_arguments : (k : L.W) (ps : List Parameter) (n : ℕ) (vs vs' : List Value) (go : State → Result E Value) (go' : State → Result F Value) (s s' : State) → AllRelated L k vs vs' → L.R k s s' → Go k go go' → Val k (with_arguments A ps n vs go s) (with_arguments B ps n vs' go' s')
  unfolding with_arguments
  rel_arguments k [] n _ _ go go' s s' no_more i g = g k s s' (rel.same k) i
  rel_arguments k [] n _ _ go go' s s' (and_one h t) i g = both_stop rel.told_none
  rel_arguments k (p ∷ ps) n _ _ go go' s s' no_more i g = both_stop rel.told_none
  rel_arguments k (p ∷ ps) n _ _ go go' s s' (and_one {v = v} {v' = v'} {vs = vs} {vs' = vs'} h t) i g =
      rel_bind L.V L.V k _ _ _ _ (rel_does k _ [] [] s s' no_more i) (λ l1 u u' s1 s1' g1 hu i1.
      rel_bind L.V L.V l1 _ _ _ _ (rel_does l1 _ (v ∷ []) (v' ∷ []) s1 s1' (one l1 v v' (rel.values_grow k l1 v v' g1 h)) i1) (λ l2 z z' s2 s2' g2 hz i2.
      let up = rel.chain k l1 l2 g1 g2 in rel_closed l2 n p.variable _ _ (rel_arguments l2 ps n vs vs' go go' s2 s2' (all_grow k l2 vs vs' up t) i2 (go_on k l2 go go' up g))))

  AllRel : Meaning E → Meaning F → Type 0
  AllRel low low' = (k : L.W) (e : Exp) (d : Temporary) (s s' : State) → L.R k s s' → Val k (low e d s) (low' e d s')

  rel_entered : (low : Meaning E) (low' : Meaning F) → AllRel low low' → (k : L.W) (i : ℕ) (f : Function) (vs vs' : List Value) (s s' : State) → AllRelated L k vs vs' → L.R k s s' → Val k (entered A low i f vs s) (entered B low' i f vs' s')
  unfolding AllRel
  rel_entered low low' all k i f vs vs' s s' h r = rel_returned k s s' _ _ r (rel_arguments k f.params _ vs vs' _ _ _ _ h (rel.enters k s s' i r) (λ l t t' g j. all l f.body _ t t' j))

  module _ (P : Functions) (low : Meaning E) (low' : Meaning F) (all : AllRel low low') where
    mutual
      unfolding value AllRel

      rel_value : (k : L.W) (e : Exp) (d : Temporary) (s s' : State) → L.R k s s' → Val k (value A P low e d s) (value B P low' e d s')
      rel_value k (read m v p) d s s' i = rel_does k _ [] [] s s' no_more i
      rel_value k (borrow m v p) d s s' i = rel_does k _ [] [] s s' no_more i
      rel_value k (share m e) d s s' i = rel_bind L.V L.V k _ _ _ _ (rel_value k e _ s s' i) (λ l v v' t t' g h j. rel_does l _ _ _ t t' (one l v v' h) j)
      rel_value k (build m w es) d s s' i = rel_bind _ L.V k _ _ _ _ (rel_values k es s s' i) (λ l vs vs' t t' g h j. rel_does l _ vs vs' t t' h j)
      rel_value k (unit m) d s s' i = both_on k rel.told_none (rel.same k) (rel.unit k) i
      rel_value k (lazily m b e f) d s s' i =
          rel_bind L.V L.V k _ _ _ _ (rel_value k e _ s s' i) (λ l1 v v' s1 s1' g1 h1 i1. rel_bind L.V L.V l1 _ _ _ _ (rel_does l1 _ _ _ s1 s1' (one l1 v v' h1) i1) (λ l2 t t' s2 s2' g2 h2 i2.
          rel_bind L.V L.V l2 _ _ _ _ (rel_decided l2 t t' _ _ _ _ s2 s2' h2 i2 (λ l3 s3 s3' g3 i3. rel_value l3 f _ s3 s3' i3) (λ l3 s3 s3' g3 i3. both_on l3 rel.told_none (rel.same l3) (rel.values_grow l1 l3 v v' (rel.chain l1 l2 l3 g2 g3) h1) i3))
          (λ l4 w w' s4 s4' g4 h4 i4. rel_does l4 _ _ _ s4 s4' (one l4 w w' h4) i4)))
      rel_value k (assign m p e) d s s' i = rel_bind L.V L.V k _ _ _ _ (rel_value k e _ s s' i) (λ l v v' t t' g h j. rel_does l _ _ _ t t' (one l v v' h) j)
      rel_value k (update m o p e) d s s' i =
          rel_bind L.V L.V k _ _ _ _ (rel_value k e _ s s' i) (λ l1 v v' s1 s1' g1 h1 i1. rel_bind L.V L.V l1 _ _ _ _ (rel_does l1 _ [] [] s1 s1' no_more i1) (λ l2 u u' s2 s2' g2 h2 i2.
          rel_bind L.V L.V l2 _ _ _ _ (rel_does l2 _ _ _ s2 s2' (and_one h2 (one l2 v v' (rel.values_grow l1 l2 v v' g2 h1))) i2) (λ l3 w w' s3 s3' g3 h3 i3. rel_does l3 _ _ _ s3 s3' (one l3 w w' h3) i3)))
      rel_value k (call m f es) d s s' i =
          rel_bind _ L.V k _ _ _ _ (rel_values k es s s' i) (λ l vs vs' t t' g h j. rel_bind L.V L.V l _ _ _ _ (rel_does l _ vs vs' t t' h j) (λ l2 u u' s2 s2' g2 h2 i2.
          rel_found l2 (element P f) _ _ (λ G. rel_turn l2 s2 s2' _ _ i2 (λ l3 s3 s3' g3 i3. rel_entered low low' all l3 f G vs vs' s3 s3' (all_grow l l3 vs vs' (rel.chain l l2 l3 g2 g3) h) i3))))
      rel_value k (input m) d s s' i = rel_does k _ [] [] s s' no_more i
      rel_value k (print m e) d s s' i = rel_bind L.V L.V k _ _ _ _ (rel_value k e _ s s' i) (λ l v v' t t' g h j. rel_does l _ _ _ t t' (one l v v' h) j)
      rel_value k (block m b) d s s' i = rel_body k b m.node d s s' i
      rel_value k (choose m c x) d s s' i = rel_bind _ L.V k _ _ _ _ (rel_matched k c s s' i) (λ l vs vs' t t' g h j. rel_arms l (subject c) vs vs' x d t t' h j)
      rel_value k (loop m x e) d s s' i = rel_turn k s s' _ _ i (λ l t t' g j. rel_passed l x _ _ _ _ (all l e (temporary_of e) t t' j) (λ l2 s2 s2' g2 i2. all l2 (loop m x e) d s2 s2' i2))
      rel_value k (jump m x a) d s s' i = both_jump k rel.told_none (rel.same k) (rel.unit k) i
      rel_value k (give m e) d s s' i = rel_bind L.V L.V k _ _ _ _ (rel_value k e _ s s' i) (λ l v v' t t' g h j. rel_bind L.V L.V l _ _ _ _ (rel_does l _ _ _ t t' (one l v v' h) j) (λ l2 w w' s2 s2' g2 h2 i2. both_jump l2 rel.told_none (rel.same l2) h2 i2))

      rel_values : (k : L.W) (es : Operands) (s s' : State) → L.R k s s' → Vals k (values A P low es s) (values B P low' es s')
      rel_values k no_operand s s' i = both_on k rel.told_none (rel.same k) no_more i
      rel_values k (operand_and j e es) s s' i = rel_bind L.V _ k _ _ _ _ (rel_value k e _ s s' i) (λ l v v' t t' g h r. rel_bind _ _ l _ _ _ _ (rel_values l es t t' r) (λ l2 vs vs' s2 s2' g2 h2 i2. both_on l2 rel.told_none (rel.same l2) (and_one (rel.values_grow l l2 v v' g2 h) h2) i2))

      rel_matched : (k : L.W) (c : Scrutinee) (s s' : State) → L.R k s s' → Vals k (matched A P low c s) (matched B P low' c s')
      rel_matched k (at_place m p) s s' i = both_on k rel.told_none (rel.same k) no_more i
      rel_matched k (of_value e) s s' i = rel_bind L.V _ k _ _ _ _ (rel_value k e _ s s' i) (λ l v v' t t' g h j. both_on l rel.told_none (rel.same l) (one l v v' h) j)

      rel_arms : (k : L.W) (S : Subject) (vs vs' : List Value) (x : Arms) (d : Temporary) (s s' : State) → AllRelated L k vs vs' → L.R k s s' → Val k (arms A P low S vs x d s) (arms B P low' S vs' x d s')
      rel_arms k S vs vs' no_arm d s s' h i = both_stop rel.told_none
      rel_arms k S vs vs' (arm_and p e rest) d s s' h i =
          rel_tested k S vs vs' (tests [] p) _ _ _ _ s s' h i (λ l t t' g j. rel_bound l S vs vs' (bindings [] p) _ _ _ t t' (all_grow k l vs vs' g h) j (λ l2 s2 s2' g2 i2. rel_value l2 e d s2 s2' i2))
          (λ l t t' g j. rel_arms l S vs vs' rest d t t' (all_grow k l vs vs' g h) j)

      rel_body : (k : L.W) (b : Body) (n : ℕ) (d : Temporary) (s s' : State) → L.R k s s' → Val k (body A P low b n d s) (body B P low' b n d s')
      rel_body k (ends e) n d s s' i = rel_value k e d s s' i
      rel_body k (runs e rest) n d s s' i = rel_bind L.V L.V k _ _ _ _ (rel_value k e _ s s' i) (λ l v v' t t' g h j. rel_body l rest n d t t' j)
      rel_body k (tree.declares j xs rest) n d s s' i = rel_begun k j xs n _ _ s s' i (λ l t t' g r. rel_body l rest n d t t' r)
      rel_body k (lets j p c rest) n d s s' i = rel_bind _ L.V k _ _ _ _ (rel_matched k c s s' i) (λ l vs vs' t t' g h r. rel_bound l (subject c) vs vs' (bindings [] p) n _ _ t t' h r (λ l2 s2 s2' g2 i2. rel_body l2 rest n d s2 s2' i2))

  rel_levels : (P : Functions) (n : ℕ) → AllRel (below_level A P n) (below_level B P n)
  unfolding below_level AllRel
  rel_levels P zero k e d s s' i = both_stop rel.told_none
  rel_levels P (suc n) k e d s s' i = rel_value P (below_level A P n) (below_level B P n) (rel_levels P n) k e d s s' i

  -- What each action relates, the runs relate, until the first run is excused.
  pub calls_relate : (P : Functions) (n f : ℕ) (k : L.W) (vs vs' : List Value) (s s' : State) → AllRelated L k vs vs' → L.R k s s' → Related L T k L.V (called A P n f vs s) (called B P n f vs' s')
  calls_relate P n f k vs vs' s s' h i = rel_found k (element P f) _ _ (λ G. rel_turn k s s' _ _ i (λ l t t' g j. rel_entered _ _ (rel_levels P n) l f G vs vs' t t' (all_grow k l vs vs' g h) j))
