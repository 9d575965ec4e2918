-- Where the new function is found to be given what the plan says and to begin with its variables without a value, it is entered so.
use Rattle.std.proofs.Common.{◌≡◌, ℕ, ◌+◌, nat_le, Bool, true, false, List, [], ◌∷◌, Option, Some, None, if◌then◌else◌, refl, ap, sym, subst, inl, inr}
use Rattle.rx_core.specs.declared.types.Step.{Step}
use Rattle.rx_core.specs.declared.types.Step.TheVariants as step
use Rattle.rx_typed.specs.Tree as tree
use Rattle.rx_typed.specs.Tree.{Root, variable, Place, Mark, Exp, Operands, Parameter, Body, own, under}
use Rattle.rx_modes_policy.specs.declared.uses.Mode.TheVariants as mode
use Rattle.rx_modes_policy.specs.declared.uses.Mode.{Mode}
use Rattle.rx_engine_simulation.specs.Sights.{Hold, fixed, shut, free, In, How, plain, special, through, copied, viewed, absent, Sight, sight, Renaming, sight_of, IsNew}
use Rattle.rx_engine_simulation.specs.Passing.{reborrow_of, AreShut, Absents, none_absent, absent_and, Covers}
use Rattle.rx_engine_simulation.specs.Arrivals.{Within, Specials}
use Rattle.rx_engine_simulation.specs.Packing.{Takes, takes_read}
use Rattle.rx_engine_simulation.specs.Blocks.{with_locals}
use Rattle.rx_engine_related.specs.Given.{GivenTo, given_all, moves_in, moves_again, is_copied, is_shared, is_lent, is_reborrowed, is_viewed, LocalsOf, all_locals, a_local, enters_with}
use Rattle.rx_engine_alike.specs.Likeness.{is_none, if_so, and_then}
use Rattle.rx_engine_alike.specs.Variables.{is_in, with_seen}
use Rattle.rx_engine_alike.specs.Giving.{is_own_at, is_own, leads_from_at, leads_from}
use Rattle.rx_engine_extracted.specs.Told.{Told, closed_in}
use Rattle.rx_engine_extracted.specs.Entering.{reads_own, borrows_own, asks_again, by_value_as, lent_as, again_as, passed_as, passed_if, given_to, Begun, with_locals_of, with_number}
use Rattle.rx_engine_extracted.specs.Entering.{with_absent, specials_stay, is_shut, is_shut_sight, are_shut, entered}
use Rattle.rx_engine_alike_laws.proofs.Promised.{Promised, kept, nothing, Says, says, silent, map_so, then_so, where_so, so, and_so, or_says, equal_so}
use Rattle.rx_engine_alike_laws.proofs.Variables.{is_in_so}
use Rattle.rx_engine_simulation.proofs.Rereads.{self_all}
use Rattle.rx_engine_validated.proofs.ExtractedLawsParts.{EnteredSo, entered_so}
use Rattle.rx_engine_validated.proofs.Seeing.{none_some, not_in_so, seen_first, first_seen, still_seen, Joins, joins, with_seen_so, special_sight_so, where_special}

-- ---- what an operand is

own_at_so : (y : ℕ) (r : Root) (ss : List Step) → Says (own y ≡ record { root = r; steps = ss }) (is_own_at y r ss)
own_at_so y (variable z) [] = so (λ e. ap own e) (equal_so y z)
own_at_so y _ _ = silent

pub is_own_so : (y : ℕ) (p : Place) → Says (own y ≡ p) (is_own y p)
is_own_so y p = own_at_so y p.root p.steps

abbrev pub Leads : ℕ → Place → Type 0
Leads y p = (n : Bool) × (under (own y) (step.Deref n ∷ []) ≡ p)

leads_at_so : (y : ℕ) (r : Root) (ss : List Step) → Says (Leads y (record { root = r; steps = ss })) (leads_from_at y r ss)
leads_at_so y (variable z) (step.Deref n ∷ []) = so (λ e. (n, ap (λ z. under (own z) (step.Deref n ∷ [])) e)) (equal_so y z)
leads_at_so y _ _ = silent

pub leads_so : (y : ℕ) (p : Place) → Says (Leads y p) (leads_from y p)
leads_so y p = leads_at_so y p.root p.steps

reads_so : (y : ℕ) (e : Exp) → Says (Takes y e) (reads_own y e)
reads_so y (tree.read m v p) = so (λ q. subst (λ p. Takes y (tree.read m v p)) q takes_read) (is_own_so y p)
reads_so y _ = silent

data Borrows (k : Bool) (y : ℕ) : Exp → Type 0 where
  borrows_it : {m : Mark} → Borrows k y (tree.borrow m k (own y))

borrows_so : (k : Bool) (y : ℕ) (e : Exp) → Says (Borrows k y e) (borrows_own k y e)
borrows_so true y (tree.borrow m true p) = so (λ q. subst (λ p. Borrows true y (tree.borrow m true p)) q borrows_it) (is_own_so y p)
borrows_so false y (tree.borrow m false p) = so (λ q. subst (λ p. Borrows false y (tree.borrow m false p)) q borrows_it) (is_own_so y p)
borrows_so _ y _ = silent

data AsksAgain (k : Bool) (y : ℕ) : Exp → Type 0 where
  asks_it : {m : Mark} {n : Bool} → AsksAgain k y (reborrow_of m k y n)

asks_so : (k : Bool) (y : ℕ) (e : Exp) → Says (AsksAgain k y e) (asks_again k y e)
asks_so true y (tree.borrow m true p) = so (λ q. subst (λ p. AsksAgain true y (tree.borrow m true p)) q.1 asks_it) (leads_so y p)
asks_so false y (tree.borrow m false p) = so (λ q. subst (λ p. AsksAgain false y (tree.borrow m false p)) q.1 asks_it) (leads_so y p)
asks_so _ y _ = silent

-- ---- params

module _ (R : Renaming) (cold : List ℕ) where
  -- how the new function has a param that the call gives so in its mode
  data PassedAs (x : ℕ) : Mode → Exp → How → Type 0 where
    by_move : {y : ℕ} {e : Exp} → sight_of R x ≡ Some (sight y special) → Takes y e → PassedAs x mode.Value e special
    by_asking : {y : ℕ} {e : Exp} → sight_of R x ≡ Some (sight y special) → AsksAgain true y e → PassedAs x mode.Value e special
    by_copy : {y : ℕ} {e : Exp} → sight_of R x ≡ Some (sight y (plain shut)) → In x cold → Takes y e → PassedAs x mode.Value e copied
    by_shared : {y : ℕ} {e : Exp} (w : Hold) → sight_of R x ≡ Some (sight y (plain w)) → Borrows false y e → PassedAs x mode.Shared e (through w false)
    by_lent : {y : ℕ} {e : Exp} (w : Hold) → sight_of R x ≡ Some (sight y (plain w)) → (In x cold → ⊥) → Borrows true y e → PassedAs x mode.Mut e (through w true)
    by_reborrow : {y : ℕ} {e : Exp} → sight_of R x ≡ Some (sight y (plain shut)) → In x cold → AsksAgain true y e → PassedAs x mode.Reborrow e copied
    by_view : {y : ℕ} {e : Exp} → sight_of R x ≡ Some (sight y (plain shut)) → In x cold → AsksAgain false y e → PassedAs x mode.View e viewed

  by_value_so : (x y : ℕ) (h : How) (e : Exp) → sight_of R x ≡ Some (sight y h) → Promised (λ w. PassedAs x mode.Value e w) (by_value_as h y (is_in x cold) e)
  by_value_so x y special e s = where_so (or_says (so (λ t. by_move s t) (reads_so y e)) (so (λ t. by_asking s t) (asks_so true y e))) (λ q. kept q)
  by_value_so x y (plain shut) e s = where_so (and_so (is_in_so x cold) (reads_so y e) (λ i t. by_copy s i t)) (λ q. kept q)
  by_value_so x y (plain fixed) e s = nothing
  by_value_so x y (plain free) e s = nothing
  by_value_so x y (through w m) e s = nothing
  by_value_so x y copied e s = nothing
  by_value_so x y viewed e s = nothing
  by_value_so x y absent e s = nothing

  shared_so : (x y : ℕ) (h : How) (e : Exp) → sight_of R x ≡ Some (sight y h) → Promised (λ w. PassedAs x mode.Shared e w) (lent_as false h y e)
  shared_so x y (plain w) e s = where_so (borrows_so false y e) (λ b. kept (by_shared w s b))
  shared_so x y special e s = nothing
  shared_so x y (through w m) e s = nothing
  shared_so x y copied e s = nothing
  shared_so x y viewed e s = nothing
  shared_so x y absent e s = nothing

  lent_so : (x y : ℕ) (h : How) (e : Exp) → (In x cold → ⊥) → sight_of R x ≡ Some (sight y h) → Promised (λ w. PassedAs x mode.Mut e w) (lent_as true h y e)
  lent_so x y (plain w) e warm s = where_so (borrows_so true y e) (λ b. kept (by_lent w s warm b))
  lent_so x y special e warm s = nothing
  lent_so x y (through w m) e warm s = nothing
  lent_so x y copied e warm s = nothing
  lent_so x y viewed e warm s = nothing
  lent_so x y absent e warm s = nothing

  again_so : (x y : ℕ) (k : Bool) (m : Mode) (w h : How) (e : Exp) → (sight_of R x ≡ Some (sight y (plain shut)) → In x cold → AsksAgain k y e → PassedAs x m e w) → sight_of R x ≡ Some (sight y h)
      → Promised (λ w. PassedAs x m e w) (again_as k w h y (is_in x cold) e)
  again_so x y k m w (plain shut) e f s = where_so (and_so (is_in_so x cold) (asks_so k y e) (λ i a. f s i a)) (λ q. kept q)
  again_so x y k m w (plain fixed) e f s = nothing
  again_so x y k m w (plain free) e f s = nothing
  again_so x y k m w special e f s = nothing
  again_so x y k m w (through v b) e f s = nothing
  again_so x y k m w copied e f s = nothing
  again_so x y k m w viewed e f s = nothing
  again_so x y k m w absent e f s = nothing

  passed_as_so : (x y : ℕ) (m : Mode) (h : How) (e : Exp) → sight_of R x ≡ Some (sight y h) → Promised (λ w. PassedAs x m e w) (passed_as m h y (is_in x cold) e)
  passed_as_so x y mode.Value h e s = by_value_so x y h e s
  passed_as_so x y mode.Shared h e s = shared_so x y h e s
  passed_as_so x y mode.Mut h e s = where_so (not_in_so x cold) (λ warm. lent_so x y h e warm s)
  passed_as_so x y mode.Reborrow h e s = again_so x y true mode.Reborrow copied h e (λ q i a. by_reborrow q i a) s
  passed_as_so x y mode.View h e s = again_so x y false mode.View viewed h e (λ q i a. by_view q i a) s

  passed_so : (x : ℕ) (m : Mode) (o : Option Sight) (e : Exp) → sight_of R x ≡ o → Promised (λ w. PassedAs x m e w) (passed_if m o (is_in x cold) e)
  passed_so x m None e s = nothing
  passed_so x m (Some b) e s = passed_as_so x b.to m b.how e s

  -- with those that follow
  given_and : {Rp Rf : Renaming} {x i : ℕ} {m : Mode} {e : Exp} {h : How} {xs : List ℕ} {ms : List Mode} {p : Parameter} {es : Operands} {ps : List Parameter} → PassedAs x m e h
      → sight_of Rp x ≡ None → IsNew Rp p.variable
      → GivenTo true R cold ((x, sight p.variable h) ∷ Rp) xs ms es ps Rf → GivenTo true R cold Rp (x ∷ xs) (m ∷ ms) (tree.operand_and i e es) (p ∷ ps) Rf
  given_and (by_move s takes_read) none new g = moves_in s none new g
  given_and (by_asking s asks_it) none new g = moves_again refl s none new g
  given_and (by_copy s i takes_read) none new g = is_copied s i none new g
  given_and (by_shared w s borrows_it) none new g = is_shared w s none new g
  given_and (by_lent w s warm borrows_it) none new g = is_lent w s warm none new g
  given_and (by_reborrow s i asks_it) none new g = is_reborrowed refl s i none new g
  given_and (by_view s i asks_it) none new g = is_viewed refl s i none new g

  then_given : {Rp Rq Rf : Renaming} {x i : ℕ} {m : Mode} {e : Exp} {h : How} {xs : List ℕ} {ms : List Mode} {p : Parameter} {es : Operands} {ps : List Parameter} → PassedAs x m e h
      → Joins Rp x p.variable h Rq
      → GivenTo true R cold Rq xs ms es ps Rf → GivenTo true R cold Rp (x ∷ xs) (m ∷ ms) (tree.operand_and i e es) (p ∷ ps) Rf
  then_given {p = p} f (joins none new) g = given_and {p = p} f none new g

  pub given_so : (Rp : Renaming) (xs : List ℕ) (ms : List Mode) (es : Operands) (ps : List Parameter) → Promised (λ Rf. GivenTo true R cold Rp xs ms es ps Rf) (given_to R cold Rp xs ms es ps)
  given_so Rp [] [] tree.no_operand [] = kept given_all
  given_so Rp (x ∷ xs) (m ∷ ms) (tree.operand_and i e es) (p ∷ ps) = then_so (passed_so x m (sight_of R x) e refl) (λ h f.
      then_so (with_seen_so Rp x p.variable h) (λ Rq n. map_so (λ Rf g. then_given {p = p} f n g) (given_so Rq xs ms es ps)))
  given_so Rp _ _ _ _ = nothing

-- ---- variables without a value

-- the variables then, and what follows their statements
data BeginsWith (R Rp : Renaming) (xs : List ℕ) (b : Body) (B : Begun) : Type 0 where
  begins_with : (ls : List (ℕ × ℕ)) → LocalsOf R Rp xs ls B.inside → b ≡ with_locals ls B.rest → BeginsWith R Rp xs b B

local_and : {R Rp Rq : Renaming} {x z n : ℕ} {xs : List ℕ} {b : Body} (B : Begun) → (y : ℕ) × (sight_of R x ≡ Some (sight y special)) → Joins Rp x z special Rq → BeginsWith R Rq xs b B
    → BeginsWith R Rp (x ∷ xs) (tree.declares n (z ∷ []) b) B
local_and {z = z} {n = n} B s (joins none new) (begins_with ls l e) = begins_with ((n, z) ∷ ls) (a_local s.1 none new l) (ap (λ b. tree.declares n (z ∷ []) b) e)

locals_so : (R Rp : Renaming) (xs : List ℕ) (b : Body) → Promised (λ B. BeginsWith R Rp xs b B) (with_locals_of R Rp xs b)
locals_so R Rp [] b = kept (begins_with [] all_locals refl)
locals_so R Rp (x ∷ xs) (tree.declares n (z ∷ []) b) =
    where_so (special_sight_so (sight_of R x)) (λ s. then_so (with_seen_so Rp x z special) (λ Rq w. map_so (λ B l. local_and B s w l) (locals_so R Rq xs b)))
locals_so R Rp (x ∷ xs) (tree.declares n (z ∷ w ∷ zs) b) = nothing
locals_so R Rp (x ∷ xs) (tree.declares n [] b) = nothing
locals_so R Rp (x ∷ xs) (tree.ends e) = nothing
locals_so R Rp (x ∷ xs) (tree.runs e b) = nothing
locals_so R Rp (x ∷ xs) (tree.lets n q c b) = nothing

-- ---- the others are nowhere meanwhile

-- each variable outside is one inside then
record Completed (R Rp Ra : Renaming) : Type 0 where
  absents : Absents Rp Ra
  grown : Within Rp Ra
  covers : Covers R Ra

with_absent_one : {Rp Rq : Renaming} {x y : ℕ} → Joins Rp x y absent Rq → {R Ra : Renaming} → Completed R Rq Ra → Completed R Rp Ra
with_absent_one (joins none new) c = record { absents = absent_and none new c.absents; grown = λ z e s. c.grown z e (still_seen _ _ none z e s); covers = c.covers }

covers_one : (b : ℕ × Sight) {R Rp Ra : Renaming} → (f : Sight) × (sight_of Rp b.0 ≡ Some f) → Completed R Rp Ra → Completed (b ∷ R) Rp Ra
covers_one b {R} {Rp} {Ra} f c =
    record { absents = c.absents; grown = c.grown; covers = λ x e s. seen_first b R x s (λ i j. (f.0, subst (λ y. sight_of Ra y ≡ Some f.0) (sym i) (c.grown b.0 f.0 f.1))) (λ q. c.covers x e q) }

seen_there : {Rp Rq : Renaming} {x y : ℕ} {h : How} → Joins Rp x y h Rq → (f : Sight) × (sight_of Rq x ≡ Some f)
seen_there {Rp} {x = x} {y = y} {h = h} (joins none new) = (sight y h, first_seen x (sight y h) Rp)

some_there : {A : Type 0} (o : Option A) → is_none o ≡ false → (a : A) × (o ≡ Some a)
some_there None e = absurd (cc)
some_there (Some a) e = (a, refl)

with_number_so : (Rp : Renaming) (x y : ℕ) → Promised (λ Rq. Joins Rp x y absent Rq) (with_number Rp x y)
with_number_so Rp x y = by (nat_le y 4294967295)
  where
    by : (t : Bool) → Promised (λ Rq. Joins Rp x y absent Rq) (if_so t (with_seen Rp x y absent))
    by true = with_seen_so Rp x y absent
    by false = nothing

absent_so : (beyond : ℕ) (R Rp : Renaming) → Promised (λ Ra. Completed R Rp Ra) (with_absent beyond R Rp)
absent_so beyond [] Rp = kept (record { absents = none_absent; grown = λ z e s. s; covers = λ x e s. absurd (none_some s) })
absent_so beyond (b ∷ R) Rp = by (λ Rq. absent_so beyond R Rq) (is_none (sight_of Rp b.0)) refl
  where
    by : ((Rq : Renaming) → Promised (λ Ra. Completed R Rq Ra) (with_absent beyond R Rq)) → (t : Bool) → is_none (sight_of Rp b.0) ≡ t
        → Promised (λ Ra. Completed (b ∷ R) Rp Ra) (and_then (if t then with_number Rp b.0 (beyond + b.0) else Some Rp) (λ Rq. with_absent beyond R Rq))
    by rest true q = then_so (with_number_so Rp b.0 (beyond + b.0)) (λ Rq n. map_so (λ Ra c. with_absent_one n (covers_one b (seen_there n) c)) (rest Rq))
    by rest false q = map_so (λ Ra c. covers_one b (some_there (sight_of Rp b.0) q) c) (rest Rp)

specials_so : (R Ra : Renaming) → Says (Specials R Ra) (specials_stay R Ra)
specials_so [] Ra = says (λ x y s. absurd (none_some s))
specials_so (b ∷ R) Ra = and_so (where_special b.1.how (special_sight_so (sight_of Ra b.0))) (specials_so R Ra)
    (λ f g x y s. seen_first b R x s (λ i j. subst (λ z. (w : ℕ) × (sight_of Ra z ≡ Some (sight w special))) (sym i) (f (ap (λ s. s.how) j))) (λ q. g x y q))

-- ---- nothing is to be written to what is copied

shut_so : (h : How) → Says (h ≡ plain shut) (is_shut h)
shut_so (plain shut) = says refl
shut_so _ = silent

shut_sight_so : (o : Option Sight) → Says ((y : ℕ) × (o ≡ Some (sight y (plain shut)))) (is_shut_sight o)
shut_sight_so None = silent
shut_sight_so (Some e) = so (λ q. (e.to, ap (λ h. Some (sight e.to h)) q)) (shut_so e.how)

are_shut_so : (R : Renaming) (xs : List ℕ) → Says (AreShut R xs) (are_shut R xs)
are_shut_so R [] = says (λ x i. absurd i)
are_shut_so R (x ∷ xs) = and_so (shut_sight_so (sight_of R x)) (are_shut_so R xs) (λ s f z i. by s f z i)
  where
    by : (y : ℕ) × (sight_of R x ≡ Some (sight y (plain shut))) → AreShut R xs → (z : ℕ) → In z (x ∷ xs) → (y : ℕ) × (sight_of R z ≡ Some (sight y (plain shut)))
    by s f z (inl e) = subst (λ z. (y : ℕ) × (sight_of R z ≡ Some (sight y (plain shut)))) (sym e) s
    by s f z (inr i) = f z i

-- ---- the new function's variables where the run begins, and what follows there

pub enters_so : (T : Told) (R : Renaming) (es : Operands) (b : Body) → Promised (λ B. EnteredSo T R es b B) (entered T R es b)
enters_so T R es b = where_so (are_shut_so R (closed_in T)) (λ cold. then_so (given_so R (closed_in T) [] T.plan.params T.modes es T.new.function.params) (λ Rp g.
    then_so (locals_so R Rp T.plan.locals b) (λ B l. then_so (absent_so T.beyond R B.inside) (λ Ra a. where_so (specials_so R Ra) (λ p. kept (by Rp B Ra cold g l a p))))))
  where
    by : (Rp : Renaming) (B : Begun) (Ra : Renaming) → AreShut R (closed_in T) → GivenTo true R (closed_in T) [] T.plan.params T.modes es T.new.function.params Rp
        → BeginsWith R Rp T.plan.locals b B → Completed R B.inside Ra → Specials R Ra
        → EnteredSo T R es b (record { inside = Ra; rest = B.rest })
    by Rp B Ra cold g (begins_with ls l e) c p = entered_so (self_all es) (enters_with (closed_in T) Rp B.inside cold g l c.absents c.covers p) e
