-- The scope of the new function where its run begins: what it is given by value and its locals are as themselves, what is lent is by reference, and
-- the others are nowhere.
use Rattle.std.proofs.Common.{◌≡◌, ℕ, Bool, true, false, List, [], ◌∷◌, Some, None, refl, sym, ◌∙◌, subst, ap}
use Rattle.rx_typed.specs.Tree.{Temporary, Parameter, Operands, Body}
use Rattle.rx_typed_declarations.specs.Sizes.{Sized}
use Rattle.rx_lower_walks.specs.Orders.{Order, beginning, declaring, order_body}
use Rattle.rx_lower_walks.specs.Walks.{Among, here, there}
use Rattle.rx_facts_tables.specs.Wholes.{was_assigned, stands}
use Rattle.rx_facts_tables.specs.Initialised.{Initialised}
use Rattle.rx_exits_plan.specs.Points.{enters}
use Rattle.rx_exits_plan.specs.Asked.{Asked}
use Rattle.rx_exits_plan.specs.Plan.{Plan, IsPlan}
use Rattle.rx_modes_policy.specs.declared.uses.Mode.{Mode}
use Rattle.rx_meaning_keeping.proofs.Parts.{parted}
use Rattle.rx_engine_simulation.specs.Sights.{Hold, How, special, through, copied, viewed, absent, Sight, sight, Renaming, sight_of, IsNew}
use Rattle.rx_engine_simulation.specs.Places.{IsDirect}
use Rattle.rx_engine_simulation.specs.Passing.{Absents, none_absent, absent_and}
use Rattle.rx_engine_simulation.specs.Blocks.{with_locals}
use Rattle.rx_engine_related.specs.Given.{GivenTo, given_all, moves_in, moves_again, is_copied, is_shared, is_lent, is_reborrowed, is_viewed, LocalsOf, all_locals, a_local, EntersWith, enters_with}
use Rattle.rx_engine_related.specs.Accepted.{Accepted}
use Rattle.rx_engine_initial.specs.Matching.{Matches, is_known}
use Rattle.rx_engine_initial.specs.Variables.{Kept, as_itself, by_reference, Sides, LikeVariable, KnownVariables}
use Rattle.rx_engine_initial.specs.Copies.{world}
use Rattle.rx_engine_initial.specs.Entered as entered
use Rattle.rx_engine_initial.specs.Entered.{OnEach, IsNewHere, OneMore, given_none, by_value, by_borrow, declared_none, declared_and}
use Rattle.rx_engine_initial.specs.Planned.{IsTextOf, MeetsMark}
use Rattle.rx_engine_initial.proofs.Entries.{param_entered, local_entered}
use Rattle.rx_engine_initial.proofs.Matched.{maps}
use Rattle.rx_engine_initial.proofs.Known.{keeps}
use Rattle.rx_engine_initial.proofs.Entering.{given_maps, declared_maps}
use Rattle.rx_engine_initial.proofs.Uses.{none_is}
use Rattle.rx_engine_initial_forms.specs.Agreeing.{Agrees}
use Rattle.rx_engine_initial_forms.proofs.Scopes.{one_more}
use Rattle.rx_engine_initial_related.proofs.Scope.{OneOr, the_one, another, one_or, first, further}

module _ (S : Sides) where
  newly_here : (N : Renaming) (T : KnownVariables S) → Agrees S N T → (z : ℕ) → IsNew N z → IsNewHere T.variables z
  newly_here N T g z n = record {
    itself = λ x i. let w = g.no_others x z i in n x (sight z w.0) w.1 refl;
    reference = λ i. let w = g.no_other_references z i in n w.0 (sight z w.1) w.2 refl;
  }

  -- ---- one more that holds a reference

  module _ (N : Renaming) (T : KnownVariables S) (g : Agrees S N T) (x z : ℕ) (w : How) (behind : IsDirect w → ⊥) (none : sight_of N x ≡ None) (new : IsNew N z) where
    in_them : (a b : ℕ) → Among (as_itself a b) (by_reference z ∷ T.variables) → Among (as_itself a b) T.variables
    in_them a b (there i) = i

    not_it : (b : ℕ) → Among (as_itself z b) T.variables → ⊥
    not_it b i = let q = g.no_others b z i in new b (sight z q.0) q.1 refl

    apart : (a b : ℕ) → Among (as_itself a b) (by_reference z ∷ T.variables) → Among (by_reference a) (by_reference z ∷ T.variables) → ⊥
    apart a b (there i) j = by a b i j
      where
        by : (c b : ℕ) → Among (as_itself c b) T.variables → Among (by_reference c) (by_reference z ∷ T.variables) → ⊥
        by _ b i here = not_it b i
        by c b i (there j) = T.apart c b i j

    abbrev wider : KnownVariables S
    wider = record {
      variables = by_reference z ∷ T.variables;
      loops = T.loops;
      one_there = λ a b c i j. T.one_there a b c (in_them a b i) (in_them a c j);
      one_here = λ a b c i j. T.one_here a b c (in_them a c i) (in_them b c j);
      apart = apart;
      alike = λ a b i. T.alike a b (in_them a b i);
    }

    other_than : (v : ℕ) (e : Sight) → sight_of N v ≡ Some e → v ≡ x → ⊥
    other_than v e h q = none_is (sym none ∙ subst (λ u. sight_of N u ≡ Some e) q h)

    still : (v : ℕ) (e : Sight) → sight_of N v ≡ Some e → sight_of ((x, sight z w) ∷ N) v ≡ Some e
    still v e h = further N x (sight z w) v (other_than v e h) ∙ h

    what_was : (v : ℕ) (e : Sight) (P : Sight → Type 0) → sight_of ((x, sight z w) ∷ N) v ≡ Some e → P (sight z w) → (sight_of N v ≡ Some e → P e) → P e
    what_was v e P h p f = by (one_or N x (sight z w) v e h)
      where
        by : OneOr N x (sight z w) v e → P e
        by (the_one i j) = subst (λ s. P s) (sym j) p
        by (another i j) = f j

    one_more_behind : (U : KnownVariables S) × OneMore S T U (by_reference z) × Agrees S ((x, sight z w) ∷ N) U
    one_more_behind = (
      wider,
      record { variables = refl; loops = refl },
      record {
        as_they_are = λ v y h e d. what_was v (sight y h) (λ s. IsDirect s.how → Among (as_itself s.to v) (by_reference z ∷ T.variables)) e (λ i. absurd (behind i)) (λ q i. there (g.as_they_are v y h q i)) d;
        behind_them = λ v y h m e. what_was v (sight y (through h m)) (λ s. Among (by_reference s.to) (by_reference z ∷ T.variables)) e here (λ q. there (g.behind_them v y h m q));
        seen_through = λ v y e. what_was v (sight y viewed) (λ s. Among (by_reference s.to) (by_reference z ∷ T.variables)) e here (λ q. there (g.seen_through v y q));
        no_others = λ v y i. let q = g.no_others v y (in_them y v i) in (q.0, still v (sight y q.0) q.1, q.2);
        no_other_references = others;
      },
    )
      where
        others : (y : ℕ) → Among (by_reference y) (by_reference z ∷ T.variables) → (v : ℕ) × (h : How) × (sight_of ((x, sight z w) ∷ N) v ≡ Some (sight y h))
        others _ here = (x, w, first N x (sight z w))
        others y (there i) = let q = g.no_other_references y i in (q.0, q.1, still q.0 (sight y q.1) q.2)

  -- ---- what is nowhere

  absent_agrees : (N : Renaming) (T : KnownVariables S) → Agrees S N T → (x z : ℕ) → sight_of N x ≡ None → Agrees S ((x, sight z absent) ∷ N) T
  absent_agrees N T g x z none = record {
    as_they_are = λ v y h e d. by v y h (one_or N x (sight z absent) v (sight y h) e) (λ q. g.as_they_are v y h q d) d;
    behind_them = λ v y h m e. past v (sight y (through h m)) (one_or N x (sight z absent) v (sight y (through h m)) e) (λ q. not_through q) (λ q. g.behind_them v y h m q);
    seen_through = λ v y e. past v (sight y viewed) (one_or N x (sight z absent) v (sight y viewed) e) (λ q. not_viewed q) (λ q. g.seen_through v y q);
    no_others = λ v y i. let q = g.no_others v y i in (q.0, still v (sight y q.0) q.1, q.2);
    no_other_references = λ y i. let q = g.no_other_references y i in (q.0, q.1, still q.0 (sight y q.1) q.2);
  }
    where
      still : (v : ℕ) (e : Sight) → sight_of N v ≡ Some e → sight_of ((x, sight z absent) ∷ N) v ≡ Some e
      still v e h = further N x (sight z absent) v (λ (q : v ≡ x). none_is (sym none ∙ subst (λ u. sight_of N u ≡ Some e) q h)) ∙ h

      not_through : {y : ℕ} {h : Hold} {m : Bool} → sight y (through h m) ≡ sight z absent → ⊥
      not_through q = clash (ap (λ (s : Sight). s.how) q)
        where
          clash : {h : Hold} {m : Bool} → through h m ≡ absent → ⊥
          clash p = cc

      not_viewed : {y : ℕ} → sight y viewed ≡ sight z absent → ⊥
      not_viewed q = clash (ap (λ (s : Sight). s.how) q)
        where
          clash : viewed ≡ absent → ⊥
          clash p = cc

      past : {A : Type 0} (v : ℕ) (e : Sight) → OneOr N x (sight z absent) v e → (e ≡ sight z absent → ⊥) → (sight_of N v ≡ Some e → A) → A
      past v e (the_one i j) n f = absurd (n j)
      past v e (another i j) n f = f j

      by : {A : Type 0} (v y : ℕ) (h : How) → OneOr N x (sight z absent) v (sight y h) → (sight_of N v ≡ Some (sight y h) → A) → IsDirect h → A
      by v y h (the_one i j) f d = absurd (subst (λ u. IsDirect u) (ap (λ (s : Sight). s.how) j) d)
      by v y h (another i j) f d = f j

  pub absents_agree : {N M : Renaming} (T : KnownVariables S) → Absents N M → Agrees S N T → Agrees S M T
  absents_agree T none_absent g = g
  absents_agree {N = N} T (absent_and {x = x} {z = z} none new a) g = absents_agree T a (absent_agrees N T g x z none)

  -- ---- what is had stays

  stays_more : (N : Renaming) (x : ℕ) (s : Sight) → sight_of N x ≡ None → (v : ℕ) (e : Sight) → sight_of N v ≡ Some e → sight_of ((x, s) ∷ N) v ≡ Some e
  stays_more N x s none v e h = further N x s v (λ (q : v ≡ x). none_is (sym none ∙ subst (λ u. sight_of N u ≡ Some e) q h)) ∙ h

  given_stays : {again : Bool} {R : Renaming} {cold : List ℕ} {N M : Renaming} {xs : List ℕ} {ms : List Mode} {es : Operands} {ps : List Parameter} → GivenTo again R cold N xs ms es ps M → (v : ℕ) (e : Sight) → sight_of N v ≡ Some e → sight_of M v ≡ Some e
  given_stays given_all v e h = h
  given_stays {N = N} (moves_in {x = x} i none new l) v e h = given_stays l v e (stays_more N x _ none v e h)
  given_stays {N = N} (moves_again {x = x} a i none new l) v e h = given_stays l v e (stays_more N x _ none v e h)
  given_stays {N = N} (is_copied {x = x} i c none new l) v e h = given_stays l v e (stays_more N x _ none v e h)
  given_stays {N = N} (is_shared {x = x} w i none new l) v e h = given_stays l v e (stays_more N x _ none v e h)
  given_stays {N = N} (is_lent {x = x} w i c none new l) v e h = given_stays l v e (stays_more N x _ none v e h)
  given_stays {N = N} (is_reborrowed {x = x} a i c none new l) v e h = given_stays l v e (stays_more N x _ none v e h)
  given_stays {N = N} (is_viewed {x = x} a i c none new l) v e h = given_stays l v e (stays_more N x _ none v e h)

  pub locals_stay : {R N M : Renaming} {xs : List ℕ} {ls : List (ℕ × ℕ)} → LocalsOf R N xs ls M → (v : ℕ) (e : Sight) → sight_of N v ≡ Some e → sight_of M v ≡ Some e
  locals_stay all_locals v e h = h
  locals_stay {N = N} (a_local {x = x} i none new l) v e h = locals_stay l v e (stays_more N x _ none v e h)

  pub absents_stay : {N M : Renaming} → Absents N M → (v : ℕ) (e : Sight) → sight_of N v ≡ Some e → sight_of M v ≡ Some e
  absents_stay none_absent v e h = h
  absents_stay {N = N} (absent_and {x = x} none new l) v e h = absents_stay l v e (stays_more N x _ none v e h)

  -- ---- params

  abbrev pub Typed : Renaming → Type 0
  Typed N = (x : ℕ) (e : Sight) → sight_of N x ≡ Some e → IsDirect e.how → LikeVariable S e.to x

  module _ (q : Order) where
    pub record GivenScope (T : KnownVariables S) (ps : List Parameter) (M : Renaming) : Type 0 where
      pub scope : KnownVariables S
      pub given : entered.Given S q T ps scope
      pub agrees : Agrees S M scope
      pub loops : scope.loops ≡ T.loops

    value_in : {N M : Renaming} {p : Parameter} {ps : List Parameter} (T : KnownVariables S) → Agrees S N T → (x : ℕ) (w : How) → IsDirect w → sight_of N x ≡ None → IsNew N p.variable → LikeVariable S p.variable x
        → OnEach S q (λ u. was_assigned u x ≡ true) → ((U : KnownVariables S) → Agrees S ((x, sight p.variable w) ∷ N) U → GivenScope U ps M) → GivenScope T (p ∷ ps) M
    value_in {N = N} {p = p} T g x w d none new like assigned rest =
        let t = one_more S N T g x p.variable w d none new like in let r = rest t.0 t.2 in
        record { scope = r.scope; given = by_value x (newly_here N T g p.variable new) t.1 assigned r.given; agrees = r.agrees; loops = r.loops ∙ t.1.loops }

    lent_in : {N M : Renaming} {p : Parameter} {ps : List Parameter} (T : KnownVariables S) → Agrees S N T → (x : ℕ) (w : How) → (IsDirect w → ⊥) → sight_of N x ≡ None → IsNew N p.variable
        → ((U : KnownVariables S) → Agrees S ((x, sight p.variable w) ∷ N) U → GivenScope U ps M) → GivenScope T (p ∷ ps) M
    lent_in {N = N} {p = p} T g x w d none new rest =
        let t = one_more_behind N T g x p.variable w d none new in let r = rest t.0 t.2 in
        record { scope = r.scope; given = by_borrow (newly_here N T g p.variable new) t.1 r.given; agrees = r.agrees; loops = r.loops ∙ t.1.loops }

    abbrev Reached : List ℕ → Type 0
    Reached xs = (y : ℕ) → Among y xs → OnEach S q (λ u. was_assigned u y ≡ true)

    pub given_scope : {again : Bool} {R : Renaming} {cold : List ℕ} {N M : Renaming} {xs : List ℕ} {ms : List Mode} {es : Operands} {ps : List Parameter} → GivenTo again R cold N xs ms es ps M → Typed M → Reached xs
        → (T : KnownVariables S) → Agrees S N T → GivenScope T ps M
    given_scope given_all types on_each T g = record { scope = T; given = given_none; agrees = g; loops = refl }
    given_scope {N = N} (moves_in {x = x} {p = p} h none new l) types on_each T g =
        value_in T g x special tt none new (types x _ (given_stays l x _ (first N x (sight p.variable special))) tt) (on_each x here) (λ U a. given_scope l types (λ y j. on_each y (there j)) U a)
    given_scope {N = N} (moves_again {x = x} {p = p} a h none new l) types on_each T g =
        value_in T g x special tt none new (types x _ (given_stays l x _ (first N x (sight p.variable special))) tt) (on_each x here) (λ U b. given_scope l types (λ y j. on_each y (there j)) U b)
    given_scope {N = N} (is_copied {x = x} {p = p} h c none new l) types on_each T g =
        value_in T g x copied tt none new (types x _ (given_stays l x _ (first N x (sight p.variable copied))) tt) (on_each x here) (λ U a. given_scope l types (λ y j. on_each y (there j)) U a)
    given_scope (is_shared {x = x} {p = p} w h none new l) types on_each T g = lent_in T g x (through w false) (λ d. d) none new (λ U a. given_scope l types (λ y j. on_each y (there j)) U a)
    given_scope (is_lent {x = x} {p = p} w h c none new l) types on_each T g = lent_in T g x (through w true) (λ d. d) none new (λ U a. given_scope l types (λ y j. on_each y (there j)) U a)
    given_scope {N = N} (is_reborrowed {x = x} {p = p} a h c none new l) types on_each T g =
        value_in T g x copied tt none new (types x _ (given_stays l x _ (first N x (sight p.variable copied))) tt) (on_each x here) (λ U b. given_scope l types (λ y j. on_each y (there j)) U b)
    given_scope (is_viewed {x = x} {p = p} a h c none new l) types on_each T g = lent_in T g x viewed (λ d. d) none new (λ U b. given_scope l types (λ y j. on_each y (there j)) U b)

    -- ---- locals

    module _ (sized : Sized S.frame.declared S.frame.sizes) (sized_there : Sized S.frame_there.declared S.frame_there.sizes) (i : Initialised S.frame_there S.muts_there S.text) where
      pub record LocalScope (T : KnownVariables S) (ls : List (ℕ × ℕ)) (M : Renaming) : Type 0 where
        pub scope : KnownVariables S
        pub agrees : Agrees S M scope
        pub loops : scope.loops ≡ T.loops
        pub matches : (b : Body) (n : ℕ) (d : Temporary) → Matches (world S) scope (order_body b n d) q → Matches (world S) T (order_body (with_locals ls b) n d) q

      one_local : (T U : KnownVariables S) (x z n : ℕ) → IsNewHere T.variables z → OneMore S T U (as_itself z x) → OnEach S q (λ u. stands u x [] ≡ false) → (s : Order) (m : ℕ) → Matches (world S) U s q
          → Matches (world S) T (declaring n (z ∷ []) m s) q
      one_local T U x z n new more none s m h = is_known (declared_maps S (parted S.frame sized) (parted S.frame_there sized_there) i q (declared_and x new more none declared_none) n m s
          (maps (world S) (keeps S (parted S.frame sized) (parted S.frame_there sized_there) i) U s q h))

      pub local_scope : {R N M : Renaming} {xs : List ℕ} {ls : List (ℕ × ℕ)} → LocalsOf R N xs ls M → Typed M → ((y : ℕ) → Among y xs → OnEach S q (λ u. stands u y [] ≡ false)) → (T : KnownVariables S) → Agrees S N T → LocalScope T ls M
      local_scope all_locals types on_each T g = record { scope = T; agrees = g; loops = refl; matches = λ b n d h. h }
      local_scope {N = N} (a_local {x = x} {z = z} {n = n} {ls = ls} h none new l) types on_each T g =
          let t = one_more S N T g x z special tt none new (types x _ (locals_stay l x _ (first N x (sight z special))) tt) in
          let r = local_scope l types (λ y j. on_each y (there j)) t.0 t.2 in
          record {
            scope = r.scope;
            agrees = r.agrees;
            loops = r.loops ∙ t.1.loops;
            matches = λ b m d k. one_local T t.0 x z n (newly_here N T g z new) t.1 (on_each x here) (order_body (with_locals ls b) m d) m (r.matches b m d k);
          }

      pub params_match : {T : KnownVariables S} {ps : List Parameter} {M : Renaming} (z : GivenScope T ps M) (n : ℕ) (s : Order) → Matches (world S) z.scope s q → Matches (world S) T (beginning ps n s) q
      params_match z n s h = is_known (given_maps S (parted S.frame sized) (parted S.frame_there sized_there) i q z.given n s (maps (world S) (keeps S (parted S.frame sized) (parted S.frame_there sized_there) i) z.scope s q h))

-- ---- where the new function begins

pub nothing_agrees : (S : Sides) (T : KnownVariables S) → T.variables ≡ [] → Agrees S [] T
nothing_agrees S T none = record {
  as_they_are = λ x y w h d. none_is h;
  behind_them = λ x y w m h. none_is h;
  seen_through = λ x y h. none_is h;
  no_others = λ x y i. not_among (subst (λ l. Among (as_itself y x) l) none i);
  no_other_references = λ y i. not_among (subst (λ l. Among (by_reference y) l) none i);
}
  where
    not_among : {B : Type 0} {c : Kept} → Among c [] → B
    not_among i = elim i [ ]

pub entry_matches : (S : Sides) (A : Asked) (k : Plan) → IsPlan A k → Accepted A S.muts_there → IsTextOf S A k → Sized S.frame.declared S.frame.sizes → Sized S.frame_there.declared S.frame_there.sizes
    → Initialised S.frame_there S.muts_there S.text → {again : Bool} {modes : List Mode} {R Ra : Renaming} {es : Operands} {ps : List Parameter} {ls : List (ℕ × ℕ)} → EntersWith again k modes R es ps ls Ra → Typed S Ra
    → (T : KnownVariables S) → T.variables ≡ [] → (q : Order) → MeetsMark S enters q
    → (U : KnownVariables S) × Agrees S Ra U × (U.loops ≡ T.loops) × ((n m : ℕ) (b : Body) (d : Temporary) → Matches (world S) U (order_body b m d) q → Matches (world S) T (beginning ps n (order_body (with_locals ls b) m d)) q)
entry_matches S A k plan acc text sized sized_there initialised {ps = ps} {ls = ls} (enters_with cold Rp Rl shut to locals absents covers specials) types T none q meets =
    let z = given_scope S q to (λ x e h. types x e (absents_stay S absents x e (locals_stay S locals x e h))) (λ y i. param_entered A k plan S acc text q meets y i) T (nothing_agrees S T none) in
    let y = local_scope S q sized sized_there initialised locals (λ x e h. types x e (absents_stay S absents x e h)) (λ x i. local_entered A k plan S acc text q meets x i) z.scope z.agrees in
    (y.scope, absents_agree S y.scope absents y.agrees, y.loops ∙ z.loops, λ n m b d h. params_match S q sized sized_there initialised z n (order_body (with_locals ls b) m d) (y.matches b m d h))
