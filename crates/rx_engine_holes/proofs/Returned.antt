-- A return of what is copied, or of what is made, asks what stands for what the text's return asks.
use Rattle.std.proofs.Common.{◌≡◌, ℕ, zero, suc, false, List, [], ◌∷◌, ◌++◌, append-nil, refl, sym, subst, Some}
use Rattle.rx_core.specs.declared.types.Span.{Span}
use Rattle.rx_typed.specs.declared.nodes.Node.{Node}
use Rattle.rx_typed.specs.declared.nodes.Site.{Site}
use Rattle.rx_typed.specs.Types.{Typ, unit_shape}
use Rattle.rx_typed.specs.Named as named
use Rattle.rx_typed.specs.Named.{Exp}
use Rattle.rx_typeck_solver.specs.declared.facts.Broken.{Broken}
use Rattle.rx_typeck_solver.specs.declared.facts.Subject.{Subject}
use Rattle.rx_typeck_solver.specs.declared.facts.Subject.TheVariants as subject
use Rattle.rx_typeck_solver.specs.declared.facts.Passing.{Passing}
use Rattle.rx_typeck_solver.specs.declared.facts.Op.TheVariants as op
use Rattle.rx_typeck_solver.specs.declared.facts.Test.{Test}
use Rattle.rx_typeck_solver.specs.declared.facts.Fact.TheVariants as fact
use Rattle.rx_typeck_solver.specs.declared.facts.Demand.{Demand}
use Rattle.rx_typeck_solver.specs.Facts.{Assignment, KnownItems, made}
use Rattle.rx_typeck_typed.specs.Asking.{asks as asks_at}
use Rattle.rx_typeck_typed.specs.Demands as rules
use Rattle.rx_typeck_typed.specs.Demands.{Matched}
use Rattle.rx_engine_blocks.specs.Renumbering.{Renumbering, node_at, shape_at}
use Rattle.rx_engine_blocks.specs.DemandsLike.{Is, DemandsLike}
use Rattle.rx_engine_blocks.specs.DemandsLike.Is.{itself}
use Rattle.rx_engine_blocks.specs.DemandsLike.DemandsLike.{like_other_demands}
use Rattle.rx_engine_blocks.specs.Along.{PartialInverse, Viewed, composed}
use Rattle.rx_engine_blocks.specs.Parts.{AllAbout, SameAs}
use Rattle.rx_engine_blocks.specs.Made.{AtNode}
use Rattle.rx_engine_blocks.specs.Blocks.{Behind}
use Rattle.rx_engine_blocks.specs.Seen as seen
use Rattle.rx_engine_blocks.specs.Seen.{SeenDemands, a_demand}
use Rattle.rx_engine_blocks.specs.Pinned.{PinnedDemands}
use Rattle.rx_engine_blocks.specs.Sites.{ChangedSite}
use Rattle.rx_engine_blocks.specs.Sites.ChangedSite.{other_expectation, unit_expected, no_test, new_test}
use Rattle.rx_engine_blocks.proofs.MadeRules.{after_keeps, asks_keep, before_keeps, expects_keep, join_keeps, own_keeps, type_node, whole_type_keeps}
use Rattle.rx_engine_blocks.proofs.MadeCode.{exp_at, exp_keeps}
use Rattle.rx_engine_typing.specs.Renumbered.{Holes, NodeAt}
use Rattle.rx_engine_typing.specs.Renumbered.NodeAt.{renumbered}
use Rattle.rx_engine_typing.proofs.Looks.{Fits, RootOf, RootLike as root, ThroughLike as through_like, like_node}
use Rattle.rx_engine_typing.proofs.Rules.{never_like}
use Rattle.rx_engine_typing.proofs.Forms.{AsksIn, exp_alike}
use Rattle.rx_engine_holes.specs.Sited.{at_site}
use Rattle.rx_engine_holes.specs.Special.SpecialExp.{a_dereference, a_suffix, a_break, a_continue}
use Rattle.rx_engine_holes.specs.Returned.{ReturnedExp, returned_holes}
use Rattle.rx_engine_holes.specs.Returned.ReturnedExp.{otherwise, a_return, a_unit_return, a_bare_return}
use Rattle.rx_engine_holes.proofs.Asking.{special_fits, special_asks_in, longer, used, one_then_two, add_one, made_return}
use Rattle.rx_engine_holes.proofs.Sited.{value_asks}
use Rattle.rx_engine_holes.proofs.Initialised.{place_initialises, initialiser_like}

module _ (r : Renumbering) (u : PartialInverse r) (view : Viewed) (behind : Behind) (D E : KnownItems) (A V : Assignment) (loops : ℕ → ℕ) (f : ℕ) (S : List Demand → List Demand → Type 0)
    (seen_so : (gs gs' : List Demand) → SeenDemands r u view behind gs gs' → S gs gs') (pinned_so : (gs gs' : List Demand) → PinnedDemands r A gs gs' → S gs gs')
    (added_so : (d : Demand) → AllAbout (SameAs (composed r u view A V) V) d.facts → d.unsuffixed ≡ false → S [] (d ∷ []))
    (changed_so : (gs gs' : List Demand) → ChangedSite r view D E A gs gs' → S gs gs') where
  abbrev R : List Demand → List Demand → Type 0
  R = DemandsLike r S

  abbrev P : Subject → Type 0
  P = SameAs (composed r u view A V) V

  abbrev H : ℕ → Holes
  H k = returned_holes r u view behind D E A V loops f k

  abbrev Returned : ℕ → Exp → Exp → Type 0
  Returned k = ReturnedExp r u view D E A V loops f (H k)

  one_more_fits : (k : ℕ) → Fits r loops (H k) S → Fits r loops (H (suc k)) S
  one_more_fits k inner = record { node = node; place = place; root = its_root; diverges = diverges; never = never; uses = λ x m k h. used ⊥ r u view behind D E A V loops S seen_so pinned_so added_so changed_so x m k h; block_node = λ b b' h. absurd h; block_diverges = λ b b' h. absurd h; block_never = λ b b' h. absurd h }
    where
      node : (e e' : Exp) → Returned k e e' → NodeAt r (named.node_of e) (named.node_of e')
      node e e' (otherwise h) = inner.node e e' h
      node e e' (a_return t h a w p q) = renumbered
      node e e' (a_unit_return h z p i a b c t v) = renumbered
      node e e' (a_bare_return h) = renumbered

      place : (e e' : Exp) → Returned k e e' → Is (named.is_place e) (named.is_place e')
      place e e' (otherwise h) = inner.place e e' h
      place e e' (a_return t h a w p q) = itself
      place e e' (a_unit_return h z p i a b c t v) = itself
      place e e' (a_bare_return h) = itself

      its_root : (e e' : Exp) → Returned k e e' → RootOf r S e e'
      its_root e e' (otherwise h) = inner.root e e' h
      its_root e e' (a_return t h a w p q) = root.plain
      its_root e e' (a_unit_return h z p i a b c t v) = root.plain
      its_root e e' (a_bare_return h) = root.plain

      diverges : (e e' : Exp) → Returned k e e' → Is (named.diverges e) (named.diverges e')
      diverges e e' (otherwise h) = inner.diverges e e' h
      diverges e e' (a_return t h a w p q) = itself
      diverges e e' (a_unit_return h z p i a b c t v) = itself
      diverges e e' (a_bare_return h) = itself

      never : (e e' : Exp) → Returned k e e' → Is (named.never e) (named.never e')
      never e e' (otherwise h) = inner.never e e' h
      never e e' (a_return t h a w p q) = itself
      never e e' (a_unit_return h z p i a b c t v) = itself
      never e e' (a_bare_return h) = itself

  pub returned_fits : (k : ℕ) → Fits r loops (H k) S
  returned_fits zero = special_fits ⊥ r u view behind D E A V loops S seen_so pinned_so added_so changed_so
  returned_fits (suc k) = one_more_fits k (returned_fits k)

  add : (ds : List Demand) (d : Demand) → AllAbout P d.facts → d.unsuffixed ≡ false → (gs : List Demand) → R ds gs → R ds (gs ++ d ∷ [])
  add ds d a e gs h = add_one ⊥ r u view behind D E A V loops S seen_so pinned_so added_so changed_so ds d a e gs h

  -- the type of the variant's part is expected, for that which the function gives
  part_expected : {n n' : Node} (i v : ℕ) (t : Typ) {ds ds' : List Demand} → NodeAt r n n' → view (subject.Expected n.number) ≡ false
      → made (λ k. k) D.items (op.Result f) [] [] ≡ Some t → made (λ k. k) E.items (op.PartOf i v 0) [] [] ≡ Some (shape_at r t)
      → R ds ds' → R (rules.expects n (op.Result f) [] ds) (rules.expects n' (op.PartOf i v 0) [] ds')
  part_expected i v t renumbered w p q d = like_other_demands _ _ d (changed_so _ _ (other_expectation t w p q))

  -- nothing stands for a test
  untested_like : (n : Node) {ds ds' : List Demand} → R ds ds' → R (rules.returns_unit f n named.absent ds) ds'
  untested_like n {ds} {ds'} d = subst (R (rules.returns_unit f n named.absent ds)) (append-nil ds') (like_other_demands _ [] d (changed_so _ _ no_test))

  -- nor for an expectation of the unit
  unit_dropped : (n : Node) {ds ds' : List Demand} → made (λ k. k) D.items (op.Result f) [] [] ≡ Some unit_shape → R ds ds' → R (rules.expects n (op.Result f) [] ds) ds'
  unit_dropped n {ds} {ds'} p d = subst (R (rules.expects n (op.Result f) [] ds)) (append-nil ds') (like_other_demands _ [] d (changed_so _ _ (unit_expected p)))

  dropped : (n : ℕ) (s : Span) (b : Broken) (t : Test) (xs : List Subject) (anc ps : List Passing) → S (a_demand n s b (fact.Passes t xs anc ps) ∷ []) []
  dropped n s b t xs anc ps = changed_so _ _ no_test

  -- a test that is added
  test_added : (n : Node) (b : Broken) (t : Test) (xs : List Subject) (anc ps : List Passing) {ds ds' : List Demand} → R ds ds' → R ds (asks_at n b false (fact.Passes t xs anc ps ∷ []) ds')
  test_added n b t xs anc ps {ds} {ds'} d = subst (λ gs. R gs (asks_at n b false (fact.Passes t xs anc ps ∷ []) ds')) (append-nil ds) (like_other_demands [] _ d (changed_so _ _ (new_test n.number)))

  binding_added : (n : Node) (c : Matched) {ds ds' : List Demand} → R ds ds' → R ds (rules.binding_of n [] c ds')
  binding_added n rules.a_value d = d
  binding_added n (rules.a_place x qs) d = test_added n _ _ _ _ _ (test_added n _ _ _ _ _ d)
  binding_added n (rules.an_initialiser y x qs) d = test_added n _ _ _ _ _ (test_added n _ _ _ _ _ d)

  -- a variable that is matched with something
  bound_added : (c : Matched) (y : Subject) (n : Node) (x : ℕ) {ds ds' : List Demand} → AtNode P n → P (subject.Variable x) → P y → R ds ds' → R ds (rules.whole_pattern c y (named.bind n x false) ds')
  bound_added c y n x {ds} {ds'} h v w d = binding_added n c (asks_keep P (R ds) (add ds) n _ _ (((v, tt), tt, tt), tt) _ (asks_keep P (R ds) (add ds) n _ _ ((v, (h.0, tt), tt), tt) _
      (asks_keep P (R ds) (add ds) n _ _ ((h.0, (w, tt), tt), tt) ds' d)))

  -- what stands for something asks alike as an initialiser with a type
  abbrev Initialising : ℕ → ℕ → Type 0
  Initialising g k = (e e' : Exp) (ds ds' : List Demand) → Holes.expression (H k) e e' → (named.node_of e).site ≡ Site.Expects → R ds ds' → R (rules.of_exp f e ds) (rules.of_exp g (at_site Site.Initialises e') ds')

  first_initialising : (g : ℕ) → Initialising g zero
  first_initialising g e e' ds ds' (a_dereference {n = n} {s = s} {x = x} {y = y} {k = k} h i v) z d =
      place_initialises r loops (H zero) S (returned_fits zero) dropped n s x y z (through_like.longer (longer ⊥ r u view behind D E A V loops S seen_so pinned_so added_so changed_so) k)
      (one_then_two ⊥ r u view behind D E A V loops S seen_so pinned_so added_so changed_so ds ds' _ _ _ (like_other_demands _ _ d (seen_so _ _ (seen.SeenDemands.seen_variable h i v))))
  first_initialising g e e' ds ds' (a_suffix h) z d = subst (R (rules.of_exp f e ds)) (sym (value_asks g e' refl z ds')) (special_asks_in ⊥ r u view behind D E A V loops S seen_so pinned_so added_so changed_so f g e e' ds ds' (a_suffix h) d)
  first_initialising g e e' ds ds' (a_break h) z d = subst (R (rules.of_exp f e ds)) (sym (value_asks g e' refl z ds')) (special_asks_in ⊥ r u view behind D E A V loops S seen_so pinned_so added_so changed_so f g e e' ds ds' (a_break h) d)
  first_initialising g e e' ds ds' (a_continue h) z d = subst (R (rules.of_exp f e ds)) (sym (value_asks g e' refl z ds')) (special_asks_in ⊥ r u view behind D E A V loops S seen_so pinned_so added_so changed_so f g e e' ds ds' (a_continue h) d)

  next_initialising : (g k : ℕ) → AsksIn r loops (H (suc k)) S f g → Initialising g k → Initialising g (suc k)
  next_initialising g k asking inner e e' ds ds' (otherwise h) z d = inner e e' ds ds' h z d
  next_initialising g k asking inner e e' ds ds' (a_return t h a w p q) z d = subst (R (rules.of_exp f e ds)) (sym (value_asks g e' refl z ds')) (asking.asks e e' ds ds' (a_return t h a w p q) d)
  next_initialising g k asking inner e e' ds ds' (a_unit_return h y p i a b c t v) z d = subst (R (rules.of_exp f e ds)) (sym (value_asks g e' refl z ds')) (asking.asks e e' ds ds' (a_unit_return h y p i a b c t v) d)
  next_initialising g k asking inner e e' ds ds' (a_bare_return h) z d = subst (R (rules.of_exp f e ds)) (sym (value_asks g e' refl z ds')) (asking.asks e e' ds ds' (a_bare_return h) d)

  one_more_asks : (g k : ℕ) → Fits r loops (H k) S → AsksIn r loops (H k) S f g → Initialising g k → AsksIn r loops (H (suc k)) S f g
  one_more_asks g k fits inner initialising = record { asks = asks; block_asks = λ b b' ds ds' h d. absurd h; given_asks = λ n p s t x m d e e' k h. absurd k; return_asks = λ n s o o' ds ds' h y d. absurd h }
    where
      asks : (e e' : Exp) (ds ds' : List Demand) → Returned k e e' → R ds ds' → R (rules.of_exp f e ds) (rules.of_exp g e' ds')
      asks e e' ds ds' (otherwise h) d = inner.asks e e' ds ds' h d
      asks e e' ds ds' (a_return {n = n} {m = m} {s = s} {i = i} {v = v} {e = x} {e' = x'} t h a w p q) d =
          never_like r loops (H k) S fits n s n.site (own_keeps P (R (rules.of_exp f x (rules.expects (named.node_of x) (op.Result f) [] ds))) (add _) m (op.Item i) [] a tt _
          (exp_alike r loops (H k) S fits f inner h (part_expected i v t (like_node r loops (H k) S fits h) w p q
          (asks_keep P (R ds) (add ds) m _ _ ((tt, tt, tt), tt) _ (expects_keep P (R ds) (add ds) m (op.Result g) [] a tt ds' d)))))
      asks e e' ds ds' (a_unit_return {n = n} {m = m} {k = b} {p = y} {s = s} {x = x} {t = t} {e = a} {e' = a'} {v = v} h z p i am ab made_y made_t made_v) d =
          let T = rules.expects (named.node_of a) (op.Result f) [] ds in
          let U = rules.of_exp f a T in
          let c = at_site Site.Initialises a' in
          let N = named.body_never (named.body b (named.statement_and (named.lets y (named.bind y x false) (Some t) c) named.no_statement) (named.present v)) in
          let front = before_keeps P (R T) (add T) m m.site b am ab _ (expects_keep P (R T) (add T) m (op.Result g) [] am tt ds' (unit_dropped (named.node_of a) p d)) in
          let typed = asks_keep P (R T) (add T) (named.node_of c) _ _ ((i, ((type_node P (R T) (add T) t made_t).0, tt), tt), tt) _ (whole_type_keeps P (R T) (add T) t made_t _ front) in
          let valued = initialiser_like r loops (H k) S fits dropped f g inner initialising h z typed in
          let bound = bound_added (rules.matched c) _ y x made_y.0 made_y.1 (type_node P (R T) (add T) t made_t).0 valued in
          let ended = exp_keeps P (R U) (add U) g v made_v _ (before_keeps P (R U) (add U) b b.site (named.node_of v) ab (exp_at P (R U) (add U) v made_v) _ bound) in
          let inside = join_keeps P (R U) (add U) b N ab _ (after_keeps P (R U) (add U) b b.site (named.never v) (named.node_of v) ab (exp_at P (R U) (add U) v made_v) _ ended) in
          never_like r loops (H k) S fits n s n.site (join_keeps P (R U) (add U) m N am _ (after_keeps P (R U) (add U) m m.site N b am ab _ inside))
      asks e e' ds ds' (a_bare_return {n = n} {s = s} {e = x} h) d =
          never_like r loops (H k) S fits n s n.site (made_return ⊥ r u view behind D E A V loops S seen_so pinned_so added_so changed_so g (node_at r n s) x h _ ds' (untested_like n d))

  both_in : (g k : ℕ) → AsksIn r loops (H k) S f g × Initialising g k
  both_in g zero = (
    record {
      asks = λ e e' ds ds' h d. special_asks_in ⊥ r u view behind D E A V loops S seen_so pinned_so added_so changed_so f g e e' ds ds' h d;
      block_asks = λ b b' ds ds' h d. absurd h;
      given_asks = λ n p s t x m d e e' k h. absurd k;
      return_asks = λ n s o o' ds ds' h y d. absurd h;
    },
    first_initialising g,
  )
  both_in g (suc k) = let l = both_in g k in let next = one_more_asks g k (returned_fits k) l.0 l.1 in (next, next_initialising g k next l.1)

  pub returned_asks : (g k : ℕ) → AsksIn r loops (H k) S f g
  returned_asks g k = (both_in g k).0
