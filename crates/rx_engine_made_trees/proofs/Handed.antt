-- What stands for the run, with what is declared again behind it.
use Rattle.std.proofs.Common.{◌≡◌, ℕ, Bool, List, [], ◌∷◌, Option, Some, None, refl, sym, ◌∙◌, inl, inr}
use Rattle.rx_typed.specs.declared.nodes.Node.{Node}
use Rattle.rx_typed.specs.Named as named
use Rattle.rx_typed.specs.Named.{Statements}
use Rattle.rx_typed.specs.Tree as tree
use Rattle.rx_typed.specs.Tree.{Body}
use Rattle.rx_typed.specs.Elaborated.{Assigned, value}
use Rattle.rx_lower_walks.specs.Walks.{Among, here, there}
use Rattle.rx_exits_plan.specs.Points.{next}
use Rattle.rx_exits_plan.specs.Asked.{Asked}
use Rattle.rx_exits_plan.specs.Plan.{Plan}
use Rattle.rx_engine_simulation.specs.Sights.{In, special, sight, Renaming, sight_of, IsNew}
use Rattle.rx_engine_simulation.specs.Packing.{AreNew}
use Rattle.rx_engine_simulation.specs.Variants.{AllSpecial}
use Rattle.rx_engine_simulation.specs.Rereads.{in_declare, Rereads, RereadsBody}
use Rattle.rx_engine_related.specs.AboutRun.{special_of}
use Rattle.rx_engine_related.specs.Premises.{NotHanded}
use Rattle.rx_engine_related.specs.Handed.{again_and, handed_on, none_again, Redeclared}
use Rattle.rx_engine_made_trees.specs.Seen.{AreUnseen, both_end, both_more, handed_back, SameLength, seen_so, specials, without}
use Rattle.rx_engine_made_trees.specs.Statements.{around}
use Rattle.rx_engine_made_trees.specs.Handing.{declares_and, declares_none, DeclaresAll, HandedNames, HandsOver, stands_so, StandsForRun}
use Rattle.rx_engine_made_trees.proofs.Sights.{are_new_behind, are_unseen_behind, back_within, new_back, none_some, seen_so_stays, unseen_back, without_these, without_within}
use Rattle.rx_engine_made_trees.proofs.Handing.{handed_over, hands_so, HandsSo}

-- ---- what is declared again

pub data AgainSo (T : Assigned) (Rb Rc : Renaming) (xs : List ℕ) (ds : Statements) (Rd : Renaming) : Type 0 where
  again_so : (f : Body → Body) → Redeclared Rb Rc xs f Rd → ((b b' : Body) → RereadsBody b b' → RereadsBody (around T ds b) (f b')) → AgainSo T Rb Rc xs ds Rd

next_declared : (T : Assigned) (Rb Rc Rd : Renaming) (x y z : ℕ) (xs : List ℕ) (n p : Node) (m : Bool) (t : Option named.Written) (ds : Statements) → sight_of Rb x ≡ Some (sight z special) → sight_of Rc x ≡ None → IsNew Rc y
    → AgainSo T Rb ((x, sight y special) ∷ Rc) xs ds Rd → AgainSo T Rb Rc (x ∷ xs) (named.statement_and (named.declares n (named.bind p y m) t) ds) Rd
next_declared T Rb Rc Rd x y z xs n p m t ds s none new (again_so f r l) = again_so (λ b. tree.declares n.number (y ∷ []) (f b)) (again_and s none new r) (λ b b' h. in_declare (l b b' h))

pub declared_again : (T : Assigned) (Rb Rc : Renaming) (xs ys : List ℕ) (ds : Statements) → DeclaresAll ys ds → AllSpecial Rb xs → AreUnseen Rc xs → AreNew Rc ys → SameLength xs ys → AgainSo T Rb Rc xs ds (seen_so Rc xs (specials xs) ys)
declared_again T Rb Rc [] [] ds declares_none s u n both_end = again_so (λ b. b) none_again (λ b b' h. h)
declared_again T Rb Rc (x ∷ xs) (y ∷ ys) ds (declares_and {n = n} {p = p} {m = m} {t = t} {ss = rest} d) s u new (both_more l) =
    next_declared T Rb Rc (seen_so ((x, sight y special) ∷ Rc) xs (specials xs) ys) x y (s x (inl refl)).0 xs n p m t rest (s x (inl refl)).1 u.0 new.0
    (declared_again T Rb ((x, sight y special) ∷ Rc) xs ys rest d (λ z i. s z (inr i)) (are_unseen_behind Rc (x, sight y special) xs u.1 u.2) (are_new_behind Rc x y special ys new.1 new.2) l)
declared_again T Rb Rc [] (y ∷ ys) ds d s u n l = elim l [ ]
declared_again T Rb Rc (x ∷ xs) [] ds d s u n l = elim l [ ]

-- ---- the whole

in_of : {x : ℕ} {xs : List ℕ} → Among x xs → In x xs
in_of here = inl refl
in_of (there a) = inr (in_of a)

pub not_handed : (A : Asked) (muts : List Bool) (k : Plan) (R : Renaming) → ((x y : ℕ) → sight_of R x ≡ Some (sight y special) → In x (special_of A muts k)) → NotHanded A muts k next (without (k.outs next) R)
not_handed A muts k R s x y q = (s x y (without_within (k.outs next) R x (sight y special) q), λ a. none_some (sym (without_these (k.outs next) R x (in_of a)) ∙ q))

pub unseen_all : (R : Renaming) (xs os zs : List ℕ) → AreUnseen R zs → ((z : ℕ) → In z zs → In z xs → ⊥) → AreUnseen (handed_back R xs os) zs
unseen_all R xs os [] u a = tt
unseen_all R xs os (z ∷ zs) u a = (unseen_back R xs os z u.0 (a z (inl refl)), u.1, unseen_all R xs os zs u.2 (λ w i. a w (inr i)))

pub new_all : (R : Renaming) (xs os ys : List ℕ) → AreNew R ys → ((y : ℕ) → In y ys → In y os → ⊥) → AreNew (handed_back R xs os) ys
new_all R xs os [] n a = tt
new_all R xs os (y ∷ ys) n a = (new_back R xs os y n.0 (a y (inl refl)), n.1, new_all R xs os ys n.2 (λ w i. a w (inr i)))

module _ (T : Assigned) (A : Asked) (muts : List Bool) (k : Plan) (R Rb : Renaming) (os ys : List ℕ) (N : HandedNames A muts k R Rb os ys) where
  abbrev handed_here : Renaming
  handed_here = handed_back R (k.outs next) os

  together : (z : tree.Exp) (ss ds : Statements) → HandsSo T A muts k R z (k.outs next) os ss handed_here → AgainSo T Rb handed_here k.redeclared ds (seen_so handed_here k.redeclared (specials k.redeclared) ys)
      → StandsForRun T A muts k R Rb z ss ds (seen_so handed_here k.redeclared (specials k.redeclared) ys)
  together z ss ds (hands_so g h l) (again_so f r d) = stands_so (λ b. g (f b))
      (handed_on (without (k.outs next) R) handed_here (seen_so handed_here k.redeclared (specials k.redeclared) ys) (without_within (k.outs next) R) (not_handed A muts k R N.all_special) h r (λ x e s. s)
      (λ x e s. seen_so_stays handed_here k.redeclared (specials k.redeclared) ys (unseen_all R (k.outs next) os k.redeclared N.unseen N.apart) x e (back_within R (k.outs next) os N.outs_distinct x e s)))
      (λ b b' h. l (around T ds b) (f b') (d b b' h))

  pub handed_stands : (e : named.Exp) (z : tree.Exp) (ss ds : Statements) → HandsOver T A muts k R e (k.outs next) os ss → DeclaresAll ys ds → Rereads (value T e) z
      → StandsForRun T A muts k R Rb z ss ds (seen_so handed_here k.redeclared (specials k.redeclared) ys)
  handed_stands e z ss ds h d r = together z ss ds (handed_over T A muts k R e z (k.outs next) os ss h N.one_to_one N.outs_distinct N.received_new r)
      (declared_again T Rb handed_here k.redeclared ys ds d N.inside (unseen_all R (k.outs next) os k.redeclared N.unseen N.apart) (new_all R (k.outs next) os ys N.redeclared_new N.made_apart) N.as_many)
