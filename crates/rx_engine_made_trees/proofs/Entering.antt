-- The new function begins with its params and locals; the others are nowhere meanwhile.
use Rattle.std.proofs.Common.{◌≡◌, ◌<◌, ◌+◌, ℕ, suc, Bool, List, [], ◌∷◌, length, Option, Some, None, refl, sym, ap, ◌∙◌, subst, ◌⊎◌, inl, inr, arith}
use Rattle.rx_typed.specs.Types.{Typ}
use Rattle.rx_typed.specs.Tree.{Parameter}
use Rattle.rx_typed.specs.Named.{Exps}
use Rattle.rx_typed.specs.Elaborated.{Assigned, operands}
use Rattle.rx_exits_plan.specs.Plan.{Plan}
use Rattle.rx_modes_policy.specs.declared.uses.Mode.{Mode}
use Rattle.rx_engine_simulation.specs.Sights.{Hold, In, How, plain, shut, special, absent, Sight, sight, Renaming, sight_of, IsNew}
use Rattle.rx_engine_simulation.specs.Passing.{Absents, absent_and, Covers, none_absent}
use Rattle.rx_engine_simulation.specs.Arrivals.{Within}
use Rattle.rx_engine_simulation.specs.Packing.{AreNew}
use Rattle.rx_engine_simulation.specs.Variants.{AllSpecial}
use Rattle.rx_engine_related.specs.Given.{a_local, all_locals, enters_with, LocalsOf}
use Rattle.rx_engine_made_trees.specs.Seen.{AreUnseen, both_more, SameLength, seen_so, specials, variables_of}
use Rattle.rx_engine_made_trees.specs.Arguments.{ArgumentsFor, more_arguments, moved, no_arguments, SeenAs, value_copied, reborrowed, looked_at, shared, lent}
use Rattle.rx_engine_made_trees.specs.Entering.{declared_in, Entered, EnteringNames}
use Rattle.rx_engine_made_trees.proofs.Sights.{are_new_behind, are_unseen_behind, first_seen, none_some, seen_first, seen_so_from, seen_so_other, seen_so_stays, still_seen}
use Rattle.rx_engine_made_trees.proofs.Arguments.{arguments_go}

-- ---- locals

pub locals_begin : (R Rp : Renaming) (xs : List ℕ) (ls : List (ℕ × ℕ)) → AllSpecial R xs → AreUnseen Rp xs → AreNew Rp (declared_in ls) → SameLength xs (declared_in ls) → LocalsOf R Rp xs ls (seen_so Rp xs (specials xs) (declared_in ls))
locals_begin R Rp [] [] s u n l = all_locals
locals_begin R Rp (x ∷ xs) (d ∷ ls) s u n (both_more l) = a_local (s x (inl refl)).1 u.0 n.0
    (locals_begin R ((x, sight d.1 special) ∷ Rp) xs ls (λ z i. s z (inr i)) (are_unseen_behind Rp (x, sight d.1 special) xs u.1 u.2) (are_new_behind Rp x d.1 special (declared_in ls) n.1 n.2) l)
locals_begin R Rp [] (d ∷ ls) s u n l = elim l [ ]
locals_begin R Rp (x ∷ xs) [] s u n l = elim l [ ]

-- ---- the others

abbrev beyond : Renaming → ℕ
beyond [] = 0
beyond (b ∷ R) = suc (b.1.to + beyond R)

below : (R : Renaming) (x : ℕ) (e : Sight) → sight_of R x ≡ Some e → e.to < beyond R
below [] x e s = absurd (none_some s)
below (b ∷ R) x e s = seen_first b R x s (λ i j. first b.1 e (beyond R) j) (λ q. later b.1.to e.to (beyond R) (below R x e q))
  where
    first : (c e : Sight) (n : ℕ) → c ≡ e → e.to < suc (c.to + n)
    first c e n i = subst (λ e. e.to < suc (c.to + n)) i (less c.to n)
      where
        less : (a n : ℕ) → a < suc (a + n)
        less a n = omega arith

    later : (a c n : ℕ) → c < n → c < suc (a + n)
    later a c n h = omega (arith, h)

beyond_new : (R : Renaming) → IsNew R (beyond R)
beyond_new R x e s i = less e.to (beyond R) (below R x e s) i
  where
    less : (a n : ℕ) → a < n → a ≡ n → ⊥
    less a n h i = absurd (omega (arith, h, i))

record Completed (R Rp : Renaming) : Type 0 where
  inside : Renaming
  absents : Absents Rp inside
  grown : Within Rp inside
  covers : Covers R inside

some_there : {A : Type 0} (o : Option A) → (o ≡ None) ⊎ ((a : A) × (o ≡ Some a))
some_there None = inl refl
some_there (Some a) = inr (a, refl)

covers_one : (b : ℕ × Sight) (R Rp : Renaming) → (f : Sight) × (sight_of Rp b.0 ≡ Some f) → Completed R Rp → Completed (b ∷ R) Rp
covers_one b R Rp f c = record {
  inside = c.inside;
  absents = c.absents;
  grown = c.grown;
  covers = λ x e s. seen_first b R x s (λ i j. (f.0, subst (λ y. sight_of c.inside y ≡ Some f.0) (sym i) (c.grown b.0 f.0 f.1))) (λ q. c.covers x e q);
}

with_one : (R Rp : Renaming) (x y : ℕ) → sight_of Rp x ≡ None → IsNew Rp y → Completed R ((x, sight y absent) ∷ Rp) → Completed R Rp
with_one R Rp x y none new c = record { inside = c.inside; absents = absent_and none new c.absents; grown = λ z e s. c.grown z e (still_seen (x, sight y absent) Rp none z e s); covers = c.covers }

complete : (R Rp : Renaming) → Completed R Rp
complete [] Rp = record { inside = Rp; absents = none_absent; grown = λ x e s. s; covers = λ x e s. absurd (none_some s) }
complete (b ∷ R) Rp = by (some_there (sight_of Rp b.0)) (complete R ((b.0, sight (beyond Rp) absent) ∷ Rp)) (complete R Rp)
  where
    by : (sight_of Rp b.0 ≡ None) ⊎ ((f : Sight) × (sight_of Rp b.0 ≡ Some f)) → Completed R ((b.0, sight (beyond Rp) absent) ∷ Rp) → Completed R Rp → Completed (b ∷ R) Rp
    by (inl n) c d = with_one (b ∷ R) Rp b.0 (beyond Rp) n (beyond_new Rp)
        (covers_one b R ((b.0, sight (beyond Rp) absent) ∷ Rp) (sight (beyond Rp) absent, first_seen b.0 (sight (beyond Rp) absent) Rp) c)
    by (inr f) c d = covers_one b R Rp f d

-- ---- what is elsewhere is the new function's

plain_special : (v : Hold) → plain v ≡ special → ⊥
plain_special v e = cc

how_is : {w y : ℕ} {h : How} → Some (sight w h) ≡ Some (sight y special) → h ≡ special
how_is e = ap (λ s. s.how) (of_some e)
  where
    of_some : {A : Type 0} {a b : A} → Some a ≡ Some b → a ≡ b
    of_some e = cc

module _ (T : Assigned) (may : Bool) (R : Renaming) (cold : List ℕ) where
  not_both : (x y w : ℕ) (v : Hold) → sight_of R x ≡ Some (sight w (plain v)) → sight_of R x ≡ Some (sight y special) → ⊥
  not_both x y w v s q = plain_special v (how_is (sym s ∙ q))

  special_how : (x y w : ℕ) (t : Typ) (m : Mode) (h : How) → SeenAs may R cold x w t m h → sight_of R x ≡ Some (sight y special) → h ≡ special
  special_how x y w t m h (moved s k) q = refl
  special_how x y w t m h (value_copied s i k) q = absurd (not_both x y w shut s q)
  special_how x y w t m h (reborrowed r s i k) q = absurd (not_both x y w shut s q)
  special_how x y w t m h (looked_at r s i k) q = absurd (not_both x y w shut s q)
  special_how x y w t m h (shared v s) q = absurd (not_both x y w v s q)
  special_how x y w t m h (lent v s i) q = absurd (not_both x y w v s q)

  -- such a param is
  moved_there : (Rp : Renaming) (xs : List ℕ) (ms : List Mode) (es : Exps) (hs : List How) (ps : List Parameter) → ArgumentsFor T may R cold xs ms es hs → AreUnseen Rp xs → length xs ≡ length ps
      → (x y : ℕ) → sight_of R x ≡ Some (sight y special) → In x xs → (z : ℕ) × (sight_of (seen_so Rp xs hs (variables_of ps)) x ≡ Some (sight z special))
  moved_there Rp xs ms es hs (p ∷ ps) (more_arguments {x = x} {xs = ys} {m = m} {h = h} {hs = gs} w t s f more) u l v y q (inl i) = (
    p.variable,
    seen_so_stays ((x, sight p.variable h) ∷ Rp) ys gs (variables_of ps) (are_unseen_behind Rp (x, sight p.variable h) ys u.1 u.2) v (sight p.variable special)
        (ap (λ z. sight_of ((x, sight p.variable h) ∷ Rp) z) i ∙ (first_seen x (sight p.variable h) Rp ∙ ap (λ h. Some (sight p.variable h)) (special_how x y w t m h s (ap (λ z. sight_of R z) (sym i) ∙ q)))),
  )
  moved_there Rp xs ms es hs (p ∷ ps) (more_arguments {x = x} {xs = ys} {ms = ns} {es = fs} {h = h} {hs = gs} w t s f more) u l v y q (inr i) =
      moved_there ((x, sight p.variable h) ∷ Rp) ys ns fs gs ps more (are_unseen_behind Rp (x, sight p.variable h) ys u.1 u.2) (one_less l) v y q i
    where
      one_less : {a b : ℕ} → suc a ≡ suc b → a ≡ b
      one_less e = cc
  moved_there Rp xs ms es hs [] (more_arguments w t s f more) u l v y q i = absurd (cc)
  moved_there Rp xs ms es hs ps no_arguments u l v y q i = absurd i

  -- so is a local
  local_there : (Rp : Renaming) (xs zs : List ℕ) → AreUnseen Rp xs → SameLength xs zs → (x : ℕ) → In x xs → (z : ℕ) × (sight_of (seen_so Rp xs (specials xs) zs) x ≡ Some (sight z special))
  local_there Rp (x ∷ xs) (z ∷ zs) u (both_more l) v (inl i) =
      (z, seen_so_stays ((x, sight z special) ∷ Rp) xs (specials xs) zs (are_unseen_behind Rp (x, sight z special) xs u.1 u.2) v (sight z special) (ap (λ y. sight_of ((x, sight z special) ∷ Rp) y) i ∙ first_seen x (sight z special) Rp))
  local_there Rp (x ∷ xs) (z ∷ zs) u (both_more l) v (inr i) = local_there ((x, sight z special) ∷ Rp) xs zs (are_unseen_behind Rp (x, sight z special) xs u.1 u.2) l v i
  local_there Rp [] zs u l v i = absurd i
  local_there Rp (x ∷ xs) [] u l v i = elim l [ ]

-- ---- the whole

unseen_behind : (params : List ℕ) (hs : List How) (ps locals : List ℕ) → AreUnseen [] locals → ((x : ℕ) → In x locals → In x params → ⊥) → AreUnseen (seen_so [] params hs ps) locals
unseen_behind params hs ps [] u a = tt
unseen_behind params hs ps (x ∷ xs) u a = (seen_so_other [] params hs ps x (a x (inl refl)), u.1, unseen_behind params hs ps xs u.2 (λ z i. a z (inr i)))

new_behind_all : (params : List ℕ) (hs : List How) (ps zs : List ℕ) → AreNew [] zs → ((z : ℕ) → In z zs → In z ps → ⊥) → AreNew (seen_so [] params hs ps) zs
new_behind_all params hs ps [] n a = tt
new_behind_all params hs ps (z ∷ zs) n a = (λ x e s i. by x e i (seen_so_from [] params hs ps x e s), n.1, new_behind_all params hs ps zs n.2 (λ w j. a w (inr j)))
  where
    by : (x : ℕ) (e : Sight) → e.to ≡ z → (sight_of [] x ≡ Some e) ⊎ In e.to ps → ⊥
    by x e i (inl q) = none_some q
    by x e i (inr j) = a z (inl refl) (subst (λ y. In y ps) i j)

pub enters_so : (T : Assigned) (may : Bool) (R : Renaming) (cold : List ℕ) (k : Plan) (modes : List Mode) (es : Exps) (hs : List How) (ps : List Parameter) (ls : List (ℕ × ℕ))
    → EnteringNames T may R cold k modes es hs ps ls → (inside : Renaming) × Entered may R k modes (operands T 0 es) hs ps ls inside
enters_so T may R cold k modes es hs ps ls N = by (complete R (seen_so (seen_so [] k.params hs (variables_of ps)) k.locals (specials k.locals) (declared_in ls)))
  where
    unseen : AreUnseen (seen_so [] k.params hs (variables_of ps)) k.locals
    unseen = unseen_behind k.params hs (variables_of ps) k.locals N.locals_distinct N.apart

    enter : Completed R (seen_so (seen_so [] k.params hs (variables_of ps)) k.locals (specials k.locals) (declared_in ls)) → (x y : ℕ) → sight_of R x ≡ Some (sight y special) → In x k.params ⊎ In x k.locals
        → (z : ℕ) × (sight_of (seen_so (seen_so [] k.params hs (variables_of ps)) k.locals (specials k.locals) (declared_in ls)) x ≡ Some (sight z special))
    enter c x y s (inl i) = let m = moved_there T may R cold [] k.params modes es hs ps N.arguments N.params_distinct N.params_as_many x y s i in
        (m.0, seen_so_stays (seen_so [] k.params hs (variables_of ps)) k.locals (specials k.locals) (declared_in ls) unseen x (sight m.0 special) m.1)
    enter c x y s (inr i) = local_there T may R cold (seen_so [] k.params hs (variables_of ps)) k.locals (declared_in ls) unseen N.locals_as_many x i

    by : Completed R (seen_so (seen_so [] k.params hs (variables_of ps)) k.locals (specials k.locals) (declared_in ls)) → (inside : Renaming) × Entered may R k modes (operands T 0 es) hs ps ls inside
    by c = (
      c.inside,
      record {
        enters = enters_with cold (seen_so [] k.params hs (variables_of ps)) (seen_so (seen_so [] k.params hs (variables_of ps)) k.locals (specials k.locals) (declared_in ls)) N.shut
            (arguments_go T may R cold [] 0 ps N.arguments N.params_distinct N.params_new N.params_as_many)
            (locals_begin R (seen_so [] k.params hs (variables_of ps)) k.locals ls N.locals_special unseen (new_behind_all k.params hs (variables_of ps) (declared_in ls) N.locals_new N.variables_apart) N.locals_as_many)
            c.absents c.covers (λ x y s. let z = enter c x y s (N.specials_enter x y s) in (z.0, c.grown x (sight z.0 special) z.1));
        has = c.grown;
      },
    )
