-- The call's statements do in the typed tree what the plan says of what is handed out, where references are read.
use Rattle.std.proofs.Common.{◌≡◌, ℕ, suc, Bool, false, List, [], ◌∷◌, Option, Some, None, refl, sym, ap, ◌∙◌, subst, ◌⊎◌, inl, inr}
use Rattle.rx_core.specs.declared.types.Kind.{Kind}
use Rattle.rx_typed.specs.declared.nodes.Node.{Node}
use Rattle.rx_typed.specs.Types.{tuple_of, Shapes, Typ}
use Rattle.rx_typed.specs.Named as named
use Rattle.rx_typed.specs.Named.{is_place, node_of, Patterns, Statement, Statements}
use Rattle.rx_typed.specs.Tree as tree
use Rattle.rx_typed.specs.Tree.{Body, Mark, own}
use Rattle.rx_typed.specs.Elaborated.{Assigned, behind_all, coercion_at, mark, matched, matched_as, met, pattern, statement, subpatterns, value}
use Rattle.rx_exits_plan.specs.Asked.{Asked}
use Rattle.rx_exits_plan.specs.Plan.{Plan}
use Rattle.rx_engine_simulation.specs.Sights.{In, special, sight, Renaming, sight_of, IsNew}
use Rattle.rx_engine_simulation.specs.Arrivals.{Within}
use Rattle.rx_engine_simulation.specs.Packing.{AreNew, Receives, receives_none, receives_and, Takes}
use Rattle.rx_engine_simulation.specs.Handing.{Receiving, received_none, received_and}
use Rattle.rx_engine_simulation.specs.Rereads.{in_assign, in_let, in_run, in_value_of, Rereads, RereadsBody}
use Rattle.rx_engine_related.specs.Handed.{all_back, goes_back, HandsBack, MayBeAssigned, hands_assigned, hands_declared, hands_none, hands_several, PutBack, stays}
use Rattle.rx_engine_made_trees.specs.Seen.{as_if, AreUnseen, both_end, both_more, Distinct, OneToOne, SameLength, handed_back, seen_so, specials, with_back, without}
use Rattle.rx_engine_made_trees.specs.Statements.{around}
use Rattle.rx_engine_made_trees.specs.Handing.{assigns, AssignsTo, BindsAll, binds_and, binds_none, gives, gives_nothing, HandsOver, is_assigned, none_back, one_assigned, one_declared, PutsBack, several, stays_there}
use Rattle.rx_engine_made_trees.proofs.Sights.{are_new_behind, are_unseen_behind, new_behind, none_some, seen_so_from, unseen_without, without_these, without_within}
use Rattle.rx_engine_made_trees.proofs.Taking.{reread, Reread, variable_taken}

-- ---- the variables that values are received in

pub receives : (T : Assigned) (i : ℕ) (os : List ℕ) (ps : Patterns) → BindsAll os ps → Receives i os (subpatterns T None i ps)
receives T i os ps binds_none = receives_none
receives T i os ps (binds_and {os = qs} {ps = rest} b) = receives_and (receives T (suc i) qs rest b)

pub are_received : (R Rc : Renaming) (xs os : List ℕ) → AreUnseen Rc xs → AreNew R os → AreNew Rc os → SameLength xs os → Receiving R Rc xs os (seen_so Rc xs (specials xs) os)
are_received R Rc [] [] u n m both_end = received_none
are_received R Rc (x ∷ xs) (o ∷ os) u n m (both_more l) =
    received_and u.0 n.0 m.0 (are_received R ((x, sight o special) ∷ Rc) xs os (are_unseen_behind Rc (x, sight o special) xs u.1 u.2) n.2 (are_new_behind Rc x o special os m.1 m.2) l)
are_received R Rc [] (o ∷ os) u n m l = elim l [ ]
are_received R Rc (x ∷ xs) [] u n m l = elim l [ ]

within_new : (R Rc : Renaming) (os : List ℕ) → Within Rc R → AreNew R os → AreNew Rc os
within_new R Rc [] w n = tt
within_new R Rc (o ∷ os) w n = (λ z e s i. n.0 z e (w z e s) i, n.1, within_new R Rc os w n.2)

pub received_outside : (R : Renaming) (xs os : List ℕ) → Distinct xs → AreNew R os → SameLength xs os → Receiving R (without xs R) xs os (seen_so (without xs R) xs (specials xs) os)
received_outside R xs os d n l = are_received R (without xs R) xs os (unseen_without xs xs R d (λ y i. i)) n (within_new R (without xs R) os (without_within xs R) n) l

new_is_none : (R : Renaming) (os : List ℕ) (o : ℕ) → AreNew R os → In o os → IsNew R o
new_is_none R (p ∷ os) o n (inl i) = subst (λ o. IsNew R o) (sym i) n.0
new_is_none R (p ∷ os) o n (inr i) = new_is_none R os o n.2 i
new_is_none R [] o n i = absurd i

-- ---- assignments

pub data IsAssigned (T : Assigned) (y : ℕ) (e : named.Exp) (s : Statement) : Type 0 where
  assigned_so : (m : Mark) → ((b : Body) → statement T s b ≡ tree.runs (tree.assign m (own y) (value T e)) b) → IsAssigned T y e s

assignment_is : (T : Assigned) (y : ℕ) (e : named.Exp) (s : Statement) → AssignsTo y e s → IsAssigned T y e s
assignment_is T y e s (assigns {k = k} i) = assigned_so (mark T k) (λ b. ap (λ y. tree.runs (tree.assign (mark T k) (own y) (value T e)) b) i)
assignment_is T y e s (gives {k = k} i) = assigned_so (mark T k) (λ b. ap (λ y. tree.runs (tree.assign (mark T k) (own y) (value T e)) b) i)

pub data AssignmentOf (T : Assigned) (y : ℕ) (s : Statement) (z : tree.Exp) : Type 0 where
  assignment_of : (m : Mark) → ((b b' : Body) → RereadsBody b b' → RereadsBody (statement T s b) (tree.runs (tree.assign m (own y) z) b')) → AssignmentOf T y s z

assignment_read : (T : Assigned) (y : ℕ) (e : named.Exp) (s : Statement) (z : tree.Exp) → IsAssigned T y e s → Rereads (value T e) z → AssignmentOf T y s z
assignment_read T y e s z (assigned_so m f) r = assignment_of m (λ b b' k. subst (λ c. RereadsBody c (tree.runs (tree.assign m (own y) z) b')) (sym (f b)) (in_run (in_assign r) k))

-- ---- what goes back

module _ (T : Assigned) (A : Asked) (muts : List Bool) (k : Plan) (R : Renaming) where
  -- none so far is another variable of those outside
  abbrev pub Frees : Renaming → List ℕ → Type 0
  Frees Rc xs = (x y : ℕ) → In x xs → sight_of R x ≡ Some (sight y special) → IsNew Rc y

  pub data PutSo (Rc : Renaming) (xs os : List ℕ) (ss : Statements) (Rd : Renaming) : Type 0 where
    put_so : (f : Body → Body) → PutBack A muts k R Rc xs os f Rd → ((b b' : Body) → RereadsBody b b' → RereadsBody (around T ss b) (f b')) → PutSo Rc xs os ss Rd

  frees_next : (Rc : Renaming) (x y : ℕ) (xs : List ℕ) → OneToOne R → sight_of R x ≡ Some (sight y special) → (In x xs → ⊥) → Frees Rc (x ∷ xs) → Frees ((x, sight y special) ∷ Rc) xs
  frees_next Rc x y xs one s k f z w i q = new_behind Rc x y w special (λ j. k (subst (λ z. In z xs) (one z x (sight w special) (sight y special) q s j) i)) (f z w (inr i) q)

  goes_so : (Rc : Renaming) (x y o : ℕ) (xs os : List ℕ) (s : Statement) (ss : Statements) (Rd : Renaming) (e : named.Exp) → sight_of R x ≡ Some (sight y special) → IsNew Rc y → MayBeAssigned A muts k x
      → AssignsTo y e s → Reread (λ z. Takes o z) (value T e) → PutSo ((x, sight y special) ∷ Rc) xs os ss Rd → PutSo Rc (x ∷ xs) (o ∷ os) (named.statement_and s ss) Rd
  goes_so Rc x y o xs os s ss Rd e q n may a (reread z r t) (put_so f p l) = by (assignment_read T y e s z (assignment_is T y e s a) r)
    where
      by : AssignmentOf T y s z → PutSo Rc (x ∷ xs) (o ∷ os) (named.statement_and s ss) Rd
      by (assignment_of m g) = put_so (λ b. tree.runs (tree.assign m (own y) z) (f b)) (goes_back q n may t p) (λ b b' h. g (around T ss b) (f b') (l b b' h))

  pub put_back_so : (Rc : Renaming) (xs os : List ℕ) (ss : Statements) → PutsBack T A muts k R xs os ss → OneToOne R → Distinct xs → Frees Rc xs → PutSo Rc xs os ss (with_back R Rc xs)
  put_back_so Rc xs os ss none_back one d f = put_so (λ b. b) all_back (λ b b' h. h)
  put_back_so Rc xs os ss (stays_there {x = x} {o = o} {xs = ys} {os = qs} s p) one d f = subst (λ r. PutSo Rc (x ∷ ys) (o ∷ qs) ss (with_back R (as_if x r Rc) ys)) (sym s)
      (stay (put_back_so Rc ys qs ss p one d.1 (λ z w i q. f z w (inr i) q)))
    where
      stay : PutSo Rc ys qs ss (with_back R Rc ys) → PutSo Rc (x ∷ ys) (o ∷ qs) ss (with_back R Rc ys)
      stay (put_so g b l) = put_so g (stays b) l
  put_back_so Rc xs os ss (is_assigned {x = x} {y = y} {o = o} {xs = ys} {os = qs} {n = n} {u = u} {s = s} {ss = rest} q may i keeps a p) one d f =
      subst (λ r. PutSo Rc (x ∷ ys) (o ∷ qs) (named.statement_and s rest) (with_back R (as_if x r Rc) ys)) (sym q)
      (goes_so Rc x y o ys qs s rest (with_back R ((x, sight y special) ∷ Rc) ys) (named.var n u) q (f x y (inl refl) q) may a (variable_taken T n u o i keeps)
      (put_back_so ((x, sight y special) ∷ Rc) ys qs rest p one d.1 (frees_next Rc x y ys one q d.0 f)))

  -- those that are received are none of those outside
  pub frees_received : (xs ys os : List ℕ) → OneToOne R → AreNew R os → ((x : ℕ) → In x ys → In x xs) → Frees (seen_so (without xs R) xs (specials xs) os) ys
  frees_received xs ys os one n f x y i s z e q j = by (seen_so_from (without xs R) xs (specials xs) os z e q)
    where
      outside : sight_of (without xs R) z ≡ Some e → ⊥
      outside q = unseen_there (one z x e (sight y special) (without_within xs R z e q) s j) q
        where
          unseen_there : z ≡ x → sight_of (without xs R) z ≡ Some e → ⊥
          unseen_there h q = none_some (sym (without_these xs R z (subst (λ v. In v xs) (sym h) (f x i))) ∙ q)

      by : (sight_of (without xs R) z ≡ Some e) ⊎ In e.to os → ⊥
      by (inl q) = outside q
      by (inr h) = new_is_none R os e.to n h x (sight y special) s (sym j)

  pub same_length : (xs os : List ℕ) (ss : Statements) → PutsBack T A muts k R xs os ss → SameLength xs os
  same_length xs os ss none_back = both_end
  same_length xs os ss (stays_there {xs = ys} {os = qs} s p) = both_more (same_length ys qs ss p)
  same_length xs os ss (is_assigned {xs = ys} {os = qs} {ss = rest} q may i keeps a p) = both_more (same_length ys qs rest p)

  -- ---- what stands for the run

  pub data HandsSo (z : tree.Exp) (xs os : List ℕ) (ss : Statements) (Rr : Renaming) : Type 0 where
    hands_so : (g : Body → Body) → HandsBack A muts k R z (without xs R) xs Rr g → ((b b' : Body) → RereadsBody b b' → RereadsBody (around T ss b) (g b')) → HandsSo z xs os ss Rr

  matched_is : (e : named.Exp) (v : tree.Exp) → is_place e ≡ false → matched T e v ≡ tree.of_value v
  matched_is e v i = ap (λ w. matched_as T w (coercion_at T (node_of e)) e v) i

  pub let_read : (e : named.Exp) (z : tree.Exp) (n : ℕ) (q : tree.Pattern) → is_place e ≡ false → Rereads (value T e) z → (b b' : Body) → RereadsBody b b' → RereadsBody (tree.lets n q (matched T e (value T e)) b) (tree.lets n q (tree.of_value z) b')
  let_read e z n q i r b b' h = subst (λ c. RereadsBody (tree.lets n q c b) (tree.lets n q (tree.of_value z) b')) (sym (matched_is e (value T e) i)) (in_let (in_value_of r) h)

  -- a tuple's type is no reference
  pub tuple_is : (p : Node) (ps : Patterns) (t : Typ) (ts : Shapes Kind) → t ≡ tuple_of ts → behind_all t (tree.parts (subpatterns T (met t None) 0 ps)) ≡ tree.parts (subpatterns T None 0 ps)
  tuple_is p ps t ts i = ap (λ t. behind_all t (tree.parts (subpatterns T (met t None) 0 ps))) i

  spreads : (e : named.Exp) (z : tree.Exp) (x w : ℕ) (xs os : List ℕ) (n p : Node) (ps : Patterns) (t : Option named.Written) (ts : Shapes Kind) (ss : Statements) → T.typ p.number ≡ tuple_of ts → is_place e ≡ false
      → Rereads (value T e) z → Receiving R (without (x ∷ w ∷ xs) R) (x ∷ w ∷ xs) os (seen_so (without (x ∷ w ∷ xs) R) (x ∷ w ∷ xs) (specials (x ∷ w ∷ xs)) os) → BindsAll os ps
      → PutSo (seen_so (without (x ∷ w ∷ xs) R) (x ∷ w ∷ xs) (specials (x ∷ w ∷ xs)) os) (x ∷ w ∷ xs) os ss (handed_back R (x ∷ w ∷ xs) os)
      → HandsSo z (x ∷ w ∷ xs) os (named.statement_and (named.lets n (named.tuple_pattern p ps) t e) ss) (handed_back R (x ∷ w ∷ xs) os)
  spreads e z x w xs os n p ps t ts ss i np r rec bs (put_so f q l) = hands_so (λ b. tree.lets n.number (tree.parts (subpatterns T None 0 ps)) (tree.of_value z) (f b)) (hands_several rec (receives T 0 os ps bs) q)
      (λ b b' h. subst (λ q. RereadsBody (tree.lets n.number q (matched T e (value T e)) (around T ss b)) (tree.lets n.number (tree.parts (subpatterns T None 0 ps)) (tree.of_value z) (f b'))) (sym (tuple_is p ps (T.typ p.number) ts i))
      (let_read e z n.number (tree.parts (subpatterns T None 0 ps)) np r (around T ss b) (f b') (l b b' h)))

  assigns_one : (z : tree.Exp) (x y : ℕ) (s : Statement) → sight_of R x ≡ Some (sight y special) → IsNew (without (x ∷ []) R) y → MayBeAssigned A muts k x → AssignmentOf T y s z
      → HandsSo z (x ∷ []) [] (named.statement_and s named.no_statement) ((x, sight y special) ∷ without (x ∷ []) R)
  assigns_one z x y s q n may (assignment_of m g) = hands_so (λ b. tree.runs (tree.assign m (own y) z) b) (hands_assigned (without_these (x ∷ []) R x (inl refl)) n q may) (λ b b' h. g b b' h)

  pub handed_over : (e : named.Exp) (z : tree.Exp) (xs os : List ℕ) (ss : Statements) → HandsOver T A muts k R e xs os ss → OneToOne R → Distinct xs → AreNew R os → Rereads (value T e) z → HandsSo z xs os ss (handed_back R xs os)
  handed_over e z xs os ss gives_nothing one d n r = hands_so (λ b. tree.runs z b) hands_none (λ b b' h. in_run r h)
  handed_over e z xs os ss (one_assigned {x = x} {y = y} {s = s} q may a) one d n r =
      subst (λ o. HandsSo z (x ∷ []) [] (named.statement_and s named.no_statement) (as_if x o (without (x ∷ []) R))) (sym q)
      (assigns_one z x y s q (frees_received (x ∷ []) (x ∷ []) [] one tt (λ v i. i) x y (inl refl) q) may (assignment_read T y e s z (assignment_is T y e s a) r))
  handed_over e z xs os ss (one_declared {x = x} {o = o} {n = i} {p = p} {m = m} {t = t} q np) one d n r =
      subst (λ v. HandsSo z (x ∷ []) (o ∷ []) (named.statement_and (named.lets i (named.bind p o m) t e) named.no_statement) (as_if x v ((x, sight o special) ∷ without (x ∷ []) R))) (sym q)
      (hands_so (λ b. tree.lets i.number (pattern T None (named.bind p o m)) (tree.of_value z) b) (hands_declared (received_outside R (x ∷ []) (o ∷ []) d n (both_more both_end)))
      (let_read e z i.number (pattern T None (named.bind p o m)) np r))
  handed_over e z xs os ss (several {x = x} {z = w} {xs = ys} {n = i} {p = p} {ps = ps} {t = t} {ts = ts} {ss = rest} j np bs q) one d n r =
      spreads e z x w ys os i p ps t ts rest j np r (received_outside R (x ∷ w ∷ ys) os d n (same_length (x ∷ w ∷ ys) os rest q)) bs
      (put_back_so (seen_so (without (x ∷ w ∷ ys) R) (x ∷ w ∷ ys) (specials (x ∷ w ∷ ys)) os) (x ∷ w ∷ ys) os rest q one d (frees_received (x ∷ w ∷ ys) (x ∷ w ∷ ys) os one n (λ v i. i)))
