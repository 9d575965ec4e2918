-- What moves in the new function moves in the text, where variables are of one type and reads move by type.
use Rattle.std.proofs.Common.{◌≡◌, ℕ, Bool, true, false, not, List, [], ◌∷◌, ◌++◌, Option, refl, sym, ◌∙◌, subst, ap, true≢false}
use Rattle.rx_core.specs.declared.types.Step.{Step}
use Rattle.rx_typed.specs.Types.{Typ, copies}
use Rattle.rx_typed.specs.Tree.{Place, variable}
use Rattle.rx_lower_walks.specs.Matching.{PartTest, Binding}
use Rattle.rx_lower_walks.specs.Actions.{Act, Read, Action, does, Subject}
use Rattle.rx_lower_walks.specs.Orders.{Order, testing, binding, declaring, perhaps}
use Rattle.rx_lower_walks.specs.Orders as order
use Rattle.rx_lower_walks.specs.Walks.{Among, here, there, actions_in}
use Rattle.rx_facts_tables.specs.Places.{Frame, whole}
use Rattle.rx_facts_tables.specs.Setting.{is_behind}
use Rattle.rx_engine_simulation.specs.Histories.{Facts}
use Rattle.rx_engine_simulation.specs.Sights.{How, Sight, sight, Renaming}
use Rattle.rx_engine_simulation.specs.Places.{LikeSteps, no_steps, fields, variants, derefs, Use, IsDirect, LikePlace, direct, behind, shared, of_temporary}
use Rattle.rx_engine_simulation.specs.Binders.{LikeTaken, takes_none, takes_read, takes_borrow, LikeDeclared, none_new, new_and, LikeBindings, no_binding, binding_and}
use Rattle.rx_engine_blocks.specs.Renumbering.{Renumbering, shape_at}
use Rattle.rx_engine_initial.specs.Variables.{Sides, SameWay, both_end, both_field, both_variant, both_behind}
use Rattle.rx_engine_initial_forms.specs.Agreeing.{MovesSo, AllLike, TakenSo, BindingsSo}
use Rattle.rx_engine_initial_related.proofs.Scope.{OneOr, the_one, another, one_or}
use Rattle.rx_engine_initial_typed.specs.SameTypes.{DeclaresAlike, SameTyp, TypedScope}
use Rattle.rx_engine_initial_typed.specs.ByType.{MovesByType, ReadsByType}
use Rattle.rx_engine_initial_typed.specs.OfTypes.{SamePairs, SameBindings}
use Rattle.rx_engine_initial_typed.proofs.Corresponding.{spot_at, copies_at, place_typ, like_variable}

same_way : {ss rs : List Step} → LikeSteps ss rs → SameWay rs ss
same_way no_steps = both_end
same_way (fields s) = both_field (same_way s)
same_way (variants s) = both_variant (same_way s)
same_way (derefs s) = both_behind

behind_too : {ss rs : List Step} → LikeSteps ss rs → is_behind ss ≡ is_behind rs
behind_too no_steps = refl
behind_too (fields s) = behind_too s
behind_too (variants s) = behind_too s
behind_too (derefs s) = refl

whole_is : {t u : Typ} → whole t ≡ whole u → t ≡ u
whole_is e = cc

-- ---- actions of parts

pub in_first : {a : Action} (l m : List Action) → Among a l → Among a (l ++ m)
in_first (b ∷ l) m here = here
in_first (b ∷ l) m (there i) = there (in_first l m i)
in_first [] m i = elim i [ ]

pub in_second : {a : Action} (l m : List Action) → Among a m → Among a (l ++ m)
in_second [] m i = i
in_second (b ∷ l) m i = there (in_second l m i)

module _ {F : Frame} where
  fewer : {s t : Order} → ((a : Action) → Among a (actions_in s) → Among a (actions_in t)) → ReadsByType F t → ReadsByType F s
  fewer f h = record { each = λ a x p v d i e q. h.each a x p v d (f a i) e q }

  pub of_first : {s t : Order} → ReadsByType F (order.then s t) → ReadsByType F s
  of_first {s = s} {t = t} h = fewer (λ a i. in_first (actions_in s) (actions_in t) i) h

  pub of_second : {s t : Order} → ReadsByType F (order.then s t) → ReadsByType F t
  of_second {s = s} {t = t} h = fewer (λ a i. in_second (actions_in s) (actions_in t) i) h

  pub of_one : {s t : Order} → ReadsByType F (order.or s t) → ReadsByType F s
  of_one {s = s} {t = t} h = fewer (λ a i. in_first (actions_in s) (actions_in t) i) h

  pub of_tested : {s t : Order} → ReadsByType F (order.otherwise s t) → ReadsByType F s
  of_tested {s = s} {t = t} h = fewer (λ a i. in_first (actions_in s) (actions_in t) i) h

  pub of_next : {s t : Order} → ReadsByType F (order.otherwise s t) → ReadsByType F t
  of_next {s = s} {t = t} h = fewer (λ a i. in_second (actions_in s) (actions_in t) i) h

  pub of_ending : {n x : ℕ} {s : Order} → ReadsByType F (order.ending n x s) → ReadsByType F s
  of_ending h = fewer (λ a i. i) h

  pub of_pass : {l : ℕ} {s : Order} → ReadsByType F (order.passes l s) → ReadsByType F s
  of_pass h = fewer (λ a i. i) h

  -- behind what patterns bind, what is declared, and tests
  behind_binding : (X : Subject) (b : Binding) (bs : List Binding) (n : ℕ) (rest : Order) → ReadsByType F (binding X (b ∷ bs) n rest) → ReadsByType F (binding X bs n rest)
  behind_binding X b bs n rest h = of_ending (of_second (of_second (of_second h)))

  pub behind_bindings : (X : Subject) (bs : List Binding) (n : ℕ) (rest : Order) → ReadsByType F (binding X bs n rest) → ReadsByType F rest
  behind_bindings X [] n rest h = h
  behind_bindings X (b ∷ bs) n rest h = behind_bindings X bs n rest (behind_binding X b bs n rest h)

  pub behind_declared : (k : ℕ) (xs : List ℕ) (n : ℕ) (rest : Order) → ReadsByType F (declaring k xs n rest) → ReadsByType F rest
  behind_declared k [] n rest h = h
  behind_declared k (x ∷ xs) n rest h = behind_declared k xs n rest (of_ending (of_second h))

  pub behind_tests : (X : Subject) (ts : List PartTest) (rest : Order) → ReadsByType F (testing X ts rest) → ReadsByType F rest
  behind_tests X [] rest h = h
  behind_tests X (t ∷ ts) rest h = behind_tests X ts rest (of_one (of_second h))

-- ---- reads

module _ (r : Renumbering) (S : Sides) (alike : DeclaresAlike r S.frame_there S.frame) where
  same_move : (x y : ℕ) → SameTyp r S x y → {ss rs : List Step} → LikeSteps ss rs → (v z : Bool) → MovesByType S.frame_there (record { root = variable x; steps = ss }) v → MovesByType S.frame (record { root = variable y; steps = rs }) z → z ≡ true → v ≡ true
  same_move x y typ {ss} {rs} s v z f g h = by (is_behind rs) refl
    where
      by : (b : Bool) → is_behind rs ≡ b → v ≡ true
      by true e = absurd (true≢false (sym h ∙ g.behind e))
      by false e = let m = f.itself (behind_too s ∙ e) in let k = g.itself e in
          let t : k.0 ≡ shape_at r m.0 = whole_is (sym k.1 ∙ (place_typ r S.frame_there S.frame alike x y typ (same_way s) ∙ ap (spot_at r) m.1)) in
          m.2 ∙ (ap not (sym (ap (copies S.frame.declared) t ∙ copies_at r S.frame_there S.frame alike m.0)) ∙ (sym k.2 ∙ h))

  pub moves_so : (N : Renaming) → TypedScope r S N → {u : Use} {p q : Place} (l : LikePlace N u p q) (v z : Bool) → ((x : ℕ) → p.root ≡ variable x → MovesByType S.frame_there p v) → ((y : ℕ) → q.root ≡ variable y → MovesByType S.frame q z) → MovesSo l v z
  moves_so N t (direct {x = x} {y = y} w e i a s) v z f g = same_move x y (t x y w e i) s v z (f x refl) (g y refl)
  moves_so N t (behind {y = y} w m e a s) v z f g = (g y refl).behind refl
  moves_so N t (shared {y = y} e a s) v z f g = (g y refl).behind refl
  moves_so N t (of_temporary s) v z f g = tt

  -- an update copies what it reads
  pub copied_so : {N : Renaming} {u : Use} {p q : Place} (l : LikePlace N u p q) → MovesSo l false false
  copied_so (direct w e i a s) = λ h. h
  copied_so (behind w m e a s) = refl
  copied_so (shared e a s) = refl
  copied_so (of_temporary s) = tt

  -- ---- further variables of both

  pub scope_and : (N : Renaming) → TypedScope r S N → (x y : ℕ) (w : How) → SameTyp r S x y → TypedScope r S ((x, sight y w) ∷ N)
  scope_and N t x y w e = λ z v m h i. by z v m i (one_or N x (sight y w) z (sight v m) h)
    where
      by : (z v : ℕ) (m : How) → IsDirect m → OneOr N x (sight y w) z (sight v m) → SameTyp r S z v
      by z v m i (the_one p q) = subst (λ a. SameTyp r S z a) (ap (λ (s : Sight). s.to) (sym q)) (subst (λ a. SameTyp r S a y) (sym p) e)
      by z v m i (another p q) = t z v m q i

  pub declared_so : {V : Facts} {N M : Renaming} {xs ys : List ℕ} → LikeDeclared V N xs ys M → SamePairs r S xs ys → TypedScope r S N → AllLike S xs ys × TypedScope r S M
  declared_so none_new s t = (tt, t)
  declared_so (new_and {R = N} {x = x} {y = y} w n e f l) s t = let z = declared_so l s.1 (scope_and N t x y w s.0.typ) in ((like_variable r S alike x y s.0, z.0), z.1)

  taken_so : {N : Renaming} {a b : Option Act} (l : LikeTaken N a b) → TypedScope r S N → (n m : ℕ) → ReadsByType S.frame_there (perhaps n a) → ReadsByType S.frame (perhaps m b) → TakenSo l
  taken_so takes_none t n m f g = tt
  taken_so {N = N} (takes_read {v = v} {v' = z} {p = p} {p' = q} {t = d} {t' = e} l) t n m f g =
      moves_so N t l v z (λ x h. f.each (does n (Read v p d)) x p v d here refl h) (λ y h. g.each (does m (Read z q e)) y q z e here refl h)
  taken_so (takes_borrow l) t n m f g = tt

  pub bindings_so : {V : Facts} {X Y : Subject} {N M : Renaming} {bs cs : List Binding} (l : LikeBindings V X Y N bs cs M) → SameBindings r S l → TypedScope r S N → (n m : ℕ) (a b : Order)
      → ReadsByType S.frame_there (binding X bs n a) → ReadsByType S.frame (binding Y cs m b) → BindingsSo S l × TypedScope r S M
  bindings_so no_binding s t n m a b f g = (tt, t)
  bindings_so {X = X} {Y = Y} {N = N} (binding_and {b = x} {b' = y} {bs = bs} {bs' = cs} w k a' e p q l) s t n m a b f g =
      let u = bindings_so l s.1 (scope_and N t x.variable y.variable w s.0.typ) n m a b (behind_binding X x bs n a f) (behind_binding Y y cs m b g) in
      ((taken_so k t x.node y.node (of_first f) (of_first g), like_variable r S alike x.variable y.variable s.0, u.0), u.1)
