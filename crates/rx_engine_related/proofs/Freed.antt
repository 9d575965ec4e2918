-- Variables that may be elsewhere are in slots of pairs instead: what is alike with the former is alike with the latter.
use Rattle.std.proofs.Common.{◌≡◌, ℕ, Bool, true, false, nat_eq, if◌then◌else◌, List, [], ◌∷◌, Option, Some, None, refl, sym, ap, ◌∙◌}
use Rattle.rx_core.specs.declared.types.Step.{Step}
use Rattle.rx_typed.specs.Tree.{Place, Parameter}
use Rattle.rx_lower_walks.specs.Matching.{PartTest, Binding}
use Rattle.rx_lower_walks.specs.Actions.{Act, Subject}
use Rattle.rx_engine_simulation.specs.Histories.{Facts}
use Rattle.rx_engine_simulation.specs.Sights.{free, How, plain, special, through, copied, viewed, absent, Sight, sight, Renaming, sight_of, IsNew}
use Rattle.rx_engine_simulation.specs.Places.{Use, looking, sharing, changing, writing, Allowed, IsDirect, LikePlace, direct, behind, shared, of_temporary}
use Rattle.rx_engine_simulation.specs.Binders.{NewHow, new_plain, new_special, LikeDeclared, none_new, new_and, LikeParams, no_param, param_and, LikeTaken, takes_none, takes_read, takes_borrow, LikeBindings, no_binding, binding_and, LikeTests, no_test, test_and}
use Rattle.rx_engine_related.specs.ByForm.{by_form}

abbrev pub free_how : How → How
free_how special = plain free
free_how w = w

abbrev pub free_sight : Sight → Sight
free_sight e = sight e.to (free_how e.how)

abbrev pub freed : Renaming → Renaming
freed [] = []
freed (b ∷ bs) = (b.0, free_sight b.1) ∷ freed bs

some_same : {A : Type 0} {a b : A} → Some a ≡ Some b → a ≡ b
some_same e = cc

none_some : {A : Type 0} {a : A} → None ≡ Some a → ⊥
none_some e = cc

-- ---- sights

pub seen_free : (R : Renaming) (x : ℕ) {e : Sight} → sight_of R x ≡ Some e → sight_of (freed R) x ≡ Some (free_sight e)
seen_free [] x s = absurd (none_some s)
seen_free (b ∷ R) x {e = e} s = by (λ q. seen_free R x q) (nat_eq x b.0) s
  where
    by : (sight_of R x ≡ Some e → sight_of (freed R) x ≡ Some (free_sight e)) → (t : Bool) → (if t then Some b.1 else sight_of R x) ≡ Some e → (if t then Some (free_sight b.1) else sight_of (freed R) x) ≡ Some (free_sight e)
    by ih true q = ap (λ s. Some (free_sight s)) (some_same q)
    by ih false q = ih q

pub unseen_free : (R : Renaming) (x : ℕ) → sight_of R x ≡ None → sight_of (freed R) x ≡ None
unseen_free [] x s = refl
unseen_free (b ∷ R) x s = by (λ q. unseen_free R x q) (nat_eq x b.0) s
  where
    by : (sight_of R x ≡ None → sight_of (freed R) x ≡ None) → (t : Bool) → (if t then Some b.1 else sight_of R x) ≡ None → (if t then Some (free_sight b.1) else sight_of (freed R) x) ≡ None
    by ih true q = absurd (none_some (sym q))
    by ih false q = ih q

was_seen : (R : Renaming) (x : ℕ) {e : Sight} → sight_of (freed R) x ≡ Some e → (f : Sight) × (sight_of R x ≡ Some f) × (f.to ≡ e.to)
was_seen [] x s = absurd (none_some s)
was_seen (b ∷ R) x {e = e} s = by (λ q. was_seen R x q) (nat_eq x b.0) s
  where
    by : (sight_of (freed R) x ≡ Some e → (f : Sight) × (sight_of R x ≡ Some f) × (f.to ≡ e.to)) → (t : Bool) → (if t then Some (free_sight b.1) else sight_of (freed R) x) ≡ Some e
        → (f : Sight) × ((if t then Some b.1 else sight_of R x) ≡ Some f) × (f.to ≡ e.to)
    by ih true q = (b.1, refl, ap (λ (s : Sight). s.to) (some_same q))
    by ih false q = ih q

pub new_free : (R : Renaming) {y : ℕ} → IsNew R y → IsNew (freed R) y
new_free R new z e s is = let w = was_seen R z s in new z w.0 w.1 (w.2 ∙ is)

-- ---- places

direct_free : (w : How) → IsDirect w → IsDirect (free_how w)
direct_free (plain h) d = d
direct_free special d = tt
direct_free (through h m) d = d
direct_free copied d = d
direct_free viewed d = d
direct_free absent d = d

allowed_free : (u : Use) (w : How) (ss : List Step) → Allowed u w ss → Allowed u (free_how w) ss
allowed_free looking w ss a = tt
allowed_free sharing (plain h) ss a = a
allowed_free sharing special ss a = a
allowed_free sharing (through h m) ss a = a
allowed_free sharing copied ss a = a
allowed_free sharing viewed ss a = a
allowed_free sharing absent ss a = a
allowed_free changing (plain h) ss a = a
allowed_free changing special ss a = ((λ o. tt), tt)
allowed_free changing (through h m) ss a = a
allowed_free changing copied ss a = a
allowed_free changing viewed ss a = a
allowed_free changing absent ss a = a
allowed_free writing (plain h) ss a = a
allowed_free writing special ss a = a
allowed_free writing (through h m) ss a = a
allowed_free writing copied ss a = a
allowed_free writing viewed ss a = a
allowed_free writing absent ss a = a

pub place_free : {R : Renaming} {u : Use} {p q : Place} → LikePlace R u p q → LikePlace (freed R) u p q
place_free {R} {u} (direct {x = x} {ss = ss} w seen d a l) = direct (free_how w) (seen_free R x seen) (direct_free w d) (allowed_free u w ss a) l
place_free {R} (behind {x = x} w m seen a l) = behind w m (seen_free R x seen) a l
place_free {R} (shared {x = x} seen a l) = shared (seen_free R x seen) a l
place_free (of_temporary l) = of_temporary l

-- ---- new variables

module _ (V : Facts) where
  how_free : {x : ℕ} {w : How} → NewHow V x w → NewHow (by_form []) x (free_how w)
  how_free (new_plain w f) = new_plain w f
  how_free (new_special s) = new_plain free tt

  pub declared_free : {R Ra : Renaming} {xs ys : List ℕ} → LikeDeclared V R xs ys Ra → LikeDeclared (by_form []) (freed R) xs ys (freed Ra)
  declared_free none_new = none_new
  declared_free {R} (new_and {x = x} w f none u l) = new_and (free_how w) (how_free f) (unseen_free R x none) (new_free R u) (declared_free l)

  pub params_free : {R Ra : Renaming} {ps qs : List Parameter} → LikeParams V R ps qs Ra → LikeParams (by_form []) (freed R) ps qs (freed Ra)
  params_free no_param = no_param
  params_free {R} (param_and {p = p} w f none u l) = param_and (free_how w) (how_free f) (unseen_free R p.variable none) (new_free R u) (params_free l)

  taken_free : {R : Renaming} {o o' : Option Act} → LikeTaken R o o' → LikeTaken (freed R) o o'
  taken_free takes_none = takes_none
  taken_free (takes_read p) = takes_read (place_free p)
  taken_free (takes_borrow p) = takes_borrow (place_free p)

  pub bindings_free : {S S' : Subject} {R Ra : Renaming} {bs bs' : List Binding} → LikeBindings V S S' R bs bs' Ra → LikeBindings (by_form []) S S' (freed R) bs bs' (freed Ra)
  bindings_free no_binding = no_binding
  bindings_free {R = R} (binding_and {b = b} w l way f none u bs) = binding_and (free_how w) (taken_free l) way (how_free f) (unseen_free R b.variable none) (new_free R u) (bindings_free bs)

pub tests_free : {R : Renaming} {S S' : Subject} {ts ts' : List PartTest} → LikeTests R S S' ts ts' → LikeTests (freed R) S S' ts ts'
tests_free no_test = no_test
tests_free (test_and p e l) = test_and (place_free p) e (tests_free l)
