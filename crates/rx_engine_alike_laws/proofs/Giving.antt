-- Where an expression is found to give the values of variables in a row, the one in which references are read does.
use Rattle.std.proofs.Common.{◌≡◌, ℕ, suc, Bool, true, false, List, [], ◌∷◌, Option, Some, None, if◌then◌else◌, refl, sym, ap, ◌∙◌, subst}
use Rattle.rx_core.specs.declared.types.Step.{Step}
use Rattle.rx_core.specs.declared.types.Step.TheVariants as step
use Rattle.rx_typed.specs.Tree as tree
use Rattle.rx_typed.specs.Tree.{Root, variable, temporary, Place, Mark, Making, Exp, Operands, Body, own, under}
use Rattle.rx_engine_simulation.specs.Sights.{How, special, Sight, sight, Renaming, sight_of}
use Rattle.rx_engine_simulation.specs.Jumps.{Pack}
use Rattle.rx_engine_simulation.specs.Packing.{bare, as_variant, Takes, takes_read, TakesAll, takes_none, takes_and, Gives, gives_unit, gives_empty, gives_one}
use Rattle.rx_engine_simulation.specs.Packing as packing
use Rattle.rx_engine_simulation.specs.Rereads.{Rereads, is_read, same_read, same_unit, in_build, in_block, RereadsAll, in_none, in_operand, in_end}
use Rattle.rx_engine_related.specs.Leaving.{HaveThere, none_there, there_and}
use Rattle.rx_engine_alike.specs.Giving.{is_own_at, leads_from_at, takes, takes_all, is_unit, ends_with_unit, gives_nothing, gives_tuple, gives_bare, gives_variant, is_special, number_if, with_number, numbers_of, if_these}
use Rattle.rx_engine_alike.specs.Leaving.{gives_pack}
use Rattle.rx_engine_alike_laws.proofs.Promised.{Promised, kept, nothing, Says, says, silent, so, and_so, and_with, equal_so}

-- with references that are read, it is so
pub data Reread {E : Type 0} (Rel : E → E → Type 0) (P : E → Type 0) (e : E) : Type 0 where
  reread : (z : E) → Rel e z → P z → Reread Rel P e

-- ---- the value of a variable

own_at_so : (q : ℕ) (r : Root) (ss : List Step) → Says (record { root = r; steps = ss } ≡ own q) (is_own_at q r ss)
own_at_so q (variable y) [] = so (λ e. ap own (sym e)) (equal_so q y)
own_at_so q _ _ = silent

-- the place that the reference in it leads to
data LeadsFrom (q : ℕ) (p : Place) : Type 0 where
  leads : (n : Bool) → p ≡ under (own q) (step.Deref n ∷ []) → LeadsFrom q p

leads_at_so : (q : ℕ) (r : Root) (ss : List Step) → Says (LeadsFrom q (record { root = r; steps = ss })) (leads_from_at q r ss)
leads_at_so q (variable y) (step.Deref n ∷ []) = so (λ e. leads n (ap (λ x. under (own x) (step.Deref n ∷ [])) (sym e))) (equal_so q y)
leads_at_so q _ _ = silent

takes_led : (q : ℕ) (m : Mark) (p : Place) → LeadsFrom q p → Reread Rereads (λ z. Takes q z) (tree.borrow m true p)
takes_led q m p (leads n e) = subst (λ p. Reread Rereads (λ z. Takes q z) (tree.borrow m true p)) (sym e) (reread (tree.read m false (own q)) is_read takes_read)

pub takes_so : (q : ℕ) (e : Exp) → Says (Reread Rereads (λ z. Takes q z) e) (takes q e)
takes_so q (tree.read m v p) = so (λ e. subst (λ p. Reread Rereads (λ z. Takes q z) (tree.read m v p)) (sym e) (reread (tree.read m v (own q)) same_read takes_read)) (own_at_so q p.root p.steps)
takes_so q (tree.borrow m true p) = so (λ l. takes_led q m p l) (leads_at_so q p.root p.steps)
takes_so q _ = silent

-- ---- of variables in a row

takes_next : {i q : ℕ} {qs : List ℕ} {e : Exp} {es : Operands} → Reread Rereads (λ z. Takes q z) e → Reread RereadsAll (λ zs. TakesAll (suc i) qs zs) es
    → Reread RereadsAll (λ zs. TakesAll i (q ∷ qs) zs) (tree.operand_and i e es)
takes_next {i = i} (reread z r t) (reread zs rs ts) = reread (tree.operand_and i z zs) (in_operand r rs) (takes_and t ts)

pub takes_all_so : (i : ℕ) (qs : List ℕ) (es : Operands) → Says (Reread RereadsAll (λ zs. TakesAll i qs zs) es) (takes_all i qs es)
takes_all_so i [] tree.no_operand = says (reread tree.no_operand in_none takes_none)
takes_all_so i (q ∷ qs) (tree.operand_and j e es) = and_with (equal_so i j) (λ k. and_so (takes_so q e) (takes_all_so (suc i) qs es)
    (λ a b. subst (λ j. Reread RereadsAll (λ zs. TakesAll i (q ∷ qs) zs) (tree.operand_and j e es)) k (takes_next a b)))
takes_all_so i [] (tree.operand_and j e es) = silent
takes_all_so i (q ∷ qs) tree.no_operand = silent

-- ---- an expression that gives them

abbrev pub GivesAgain : packing.Way → List ℕ → Exp → Type 0
GivesAgain w qs e = Reread Rereads (λ z. Gives w qs z) e

unit_inside : (m : Mark) (e : Exp) → Says (GivesAgain bare [] (tree.block m (tree.ends e))) (is_unit e)
unit_inside m (tree.unit mu) = says (reread (tree.block m (tree.ends (tree.unit mu))) (in_block (in_end same_unit)) gives_empty)
unit_inside m _ = silent

ends_so : (m : Mark) (b : Body) → Says (GivesAgain bare [] (tree.block m b)) (ends_with_unit b)
ends_so m (tree.ends e) = unit_inside m e
ends_so m _ = silent

nothing_so : (e : Exp) → Says (GivesAgain bare [] e) (gives_nothing e)
nothing_so (tree.unit m) = says (reread (tree.unit m) same_unit gives_unit)
nothing_so (tree.block m b) = ends_so m b
nothing_so _ = silent

one_so : {q : ℕ} {e : Exp} → Reread Rereads (λ z. Takes q z) e → GivesAgain bare (q ∷ []) e
one_so (reread z r t) = reread z r (gives_one t)

tuple_of : {p q : ℕ} {qs : List ℕ} (m : Mark) {es : Operands} → Reread RereadsAll (λ zs. TakesAll 0 (p ∷ q ∷ qs) zs) es → GivesAgain bare (p ∷ q ∷ qs) (tree.build m tree.tuple es)
tuple_of m (reread zs rs ts) = reread (tree.build m tree.tuple zs) (in_build rs) (packing.gives_tuple ts)

made_tuple_so : (p q : ℕ) (qs : List ℕ) (m : Mark) (w : Making) (es : Operands) → Says (GivesAgain bare (p ∷ q ∷ qs) (tree.build m w es)) (gives_tuple (p ∷ q ∷ qs) (tree.build m w es))
made_tuple_so p q qs m tree.tuple es = so (λ t. tuple_of m t) (takes_all_so 0 (p ∷ q ∷ qs) es)
made_tuple_so p q qs m _ es = silent

tuple_so : (p q : ℕ) (qs : List ℕ) (e : Exp) → Says (GivesAgain bare (p ∷ q ∷ qs) e) (gives_tuple (p ∷ q ∷ qs) e)
tuple_so p q qs (tree.build m w es) = made_tuple_so p q qs m w es
tuple_so p q qs _ = silent

pub gives_bare_so : (qs : List ℕ) (e : Exp) → Says (GivesAgain bare qs e) (gives_bare qs e)
gives_bare_so [] e = nothing_so e
gives_bare_so (q ∷ []) e = so (λ t. one_so t) (takes_so q e)
gives_bare_so (p ∷ q ∷ qs) e = tuple_so p q qs e

variant_with : {qs : List ℕ} (m : Mark) (i v : ℕ) {es : Operands} → Reread RereadsAll (λ zs. TakesAll 0 qs zs) es → GivesAgain (as_variant v) qs (tree.build m (tree.variant_of i v) es)
variant_with m i v (reread zs rs ts) = reread (tree.build m (tree.variant_of i v) zs) (in_build rs) (packing.gives_variant ts)

made_variant_so : (v : ℕ) (qs : List ℕ) (m : Mark) (w : Making) (es : Operands) → Says (GivesAgain (as_variant v) qs (tree.build m w es)) (gives_variant v qs (tree.build m w es))
made_variant_so v qs m (tree.variant_of i u) es = and_with (equal_so v u) (λ k. so (λ t. subst (λ u. GivesAgain (as_variant v) qs (tree.build m (tree.variant_of i u) es)) k
    (variant_with m i v t)) (takes_all_so 0 qs es))
made_variant_so v qs m _ es = silent

pub gives_variant_so : (v : ℕ) (qs : List ℕ) (e : Exp) → Says (GivesAgain (as_variant v) qs e) (gives_variant v qs e)
gives_variant_so v qs (tree.build m w es) = made_variant_so v qs m w es
gives_variant_so v qs _ = silent

-- ---- variables that are elsewhere

pub special_so : (h : How) → Says (h ≡ special) (is_special h)
special_so special = says refl
special_so _ = silent

number_so : (R : Renaming) (x : ℕ) (o : Option Sight) → sight_of R x ≡ o → Promised (λ z. sight_of R x ≡ Some (sight z special)) (number_if o)
number_so R x None q = nothing
number_so R x (Some e) q = by (is_special e.how) (special_so e.how)
  where
    by : (b : Bool) → Says (e.how ≡ special) b → Promised (λ z. sight_of R x ≡ Some (sight z special)) (if b then Some e.to else None)
    by true (says h) = kept (q ∙ ap (λ w. Some (sight e.to w)) h)
    by false silent = nothing

there_so : {R : Renaming} {x : ℕ} {xs : List ℕ} {o : Option ℕ} {l : Option (List ℕ)} → Promised (λ z. sight_of R x ≡ Some (sight z special)) o → Promised (λ zs. HaveThere R xs zs) l
    → Promised (λ zs. HaveThere R (x ∷ xs) zs) (with_number o l)
there_so (kept s) (kept h) = kept (there_and s h)
there_so (kept s) nothing = nothing
there_so nothing h = nothing

pub numbers_so : (R : Renaming) (xs : List ℕ) → Promised (λ zs. HaveThere R xs zs) (numbers_of R xs)
numbers_so R [] = kept none_there
numbers_so R (x ∷ xs) = there_so (number_so R x (sight_of R x) refl) (numbers_so R xs)

-- ---- the variant of a jump, with what it hands out

pub data PackGiven (R : Renaming) (p : Pack) (g : Exp) : Type 0 where
  pack_given : {zs : List ℕ} → HaveThere R p.outs zs → GivesAgain (as_variant p.variant) zs g → PackGiven R p g

these_so : {Q : Type 0} {P : List ℕ → Type 0} {o : Option (List ℕ)} {f : List ℕ → Bool} → Promised P o → ((zs : List ℕ) → P zs → Says Q (f zs)) → Says Q (if_these o f)
these_so (kept {a = zs} p) g = g zs p
these_so nothing g = silent

pub pack_so : (R : Renaming) (p : Pack) (g : Exp) → Says (PackGiven R p g) (gives_pack R (Some p) g)
pack_so R p g = these_so (numbers_so R p.outs) (λ zs h. so (λ v. pack_given h v) (gives_variant_so p.variant zs g))
