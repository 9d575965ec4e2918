-- Each argument gives the new function its param as the plan says.
use Rattle.std.proofs.Common.{◌≡◌, ℕ, suc, Bool, true, false, not, List, [], ◌∷◌, length, Some, None, refl, sym, ap, ◌∙◌, subst}
use Rattle.rx_typed.specs.declared.nodes.Node.{Node}
use Rattle.rx_typed.specs.declared.nodes.Use.{Use}
use Rattle.rx_typed.specs.Types.{Typ, integer, boolean, tuple_of, reference, named as item, copies}
use Rattle.rx_typed.specs.Named as named
use Rattle.rx_typed.specs.Named.{Exp, Exps}
use Rattle.rx_typed.specs.Tree as tree
use Rattle.rx_typed.specs.Tree.{Operands, Parameter, own, under}
use Rattle.rx_typed.specs.Elaborated as elaborated
use Rattle.rx_typed.specs.Elaborated.{Assigned, Coercion, reborrow, share, coercion, coercion_at, mark, shared_mark, read_as, passed_as, value, operands}
use Rattle.rx_hoist_extraction.specs.NewFunction as new
use Rattle.rx_modes_policy.specs.declared.uses.Mode.TheVariants as mode
use Rattle.rx_modes_policy.specs.declared.uses.Mode.{Mode}
use Rattle.rx_engine_simulation.specs.Sights.{How, shut, plain, through, copied, viewed, sight, Renaming, sight_of, IsNew}
use Rattle.rx_engine_simulation.specs.Passing.{reborrow_of}
use Rattle.rx_engine_simulation.specs.Packing.{AreNew}
use Rattle.rx_engine_related.specs.Given.{GivenTo, given_all, moves_in, moves_again, is_copied, is_shared, is_lent, is_reborrowed, is_viewed}
use Rattle.rx_engine_made_trees.specs.Nodes.{is_unique}
use Rattle.rx_engine_made_trees.specs.Seen.{AreUnseen, variables_of, seen_so}
use Rattle.rx_engine_made_trees.specs.Arguments.{ArgumentFor, itself, again, as_shared, a_borrow, a_loan, SeenAs, moved, value_copied, reborrowed, looked_at, shared, lent, ArgumentsFor, no_arguments, more_arguments}
use Rattle.rx_engine_made_trees.proofs.Nodes.{coerced_so, unique_again, others_plain}
use Rattle.rx_engine_made_trees.proofs.Sights.{are_new_behind, are_unseen_behind}

-- a variable at a coercion site
read_again : (T : Assigned) (n : Node) (x : Use) (t : Typ) → is_unique t ≡ true → coercion_at T n ≡ coercion t t → value T (named.var n x) ≡ reborrow_of (mark T n) true x.number true
read_again T n x t u c = ap (λ k. read_as T n k (own x.number)) (c ∙ unique_again t u)

read_plainly : (T : Assigned) (n : Node) (x : Use) (t : Typ) → is_unique t ≡ false → coercion_at T n ≡ coercion t t
    → value T (named.var n x) ≡ tree.read (mark T n) (not (copies T.items (T.typ n.number))) (own x.number)
read_plainly T n x t u c = ap (λ k. read_as T n k (own x.number)) (c ∙ others_plain t u)

view_shares : (t : Typ) → is_unique t ≡ true → coercion t (new.viewed t) ≡ share
view_shares (reference true t) e = refl
view_shares (reference false t) e = absurd (cc)
view_shares (integer k) e = absurd (cc)
view_shares boolean e = absurd (cc)
view_shares (tuple_of ts) e = absurd (cc)
view_shares (item i) e = absurd (cc)

read_shared : (T : Assigned) (n : Node) (x : Use) (t : Typ) → is_unique t ≡ true → coercion_at T n ≡ coercion t (new.viewed t) → value T (named.var n x) ≡ reborrow_of (shared_mark T n) false x.number true
read_shared T n x t u c = ap (λ k. read_as T n k (own x.number)) (c ∙ view_shares t u)

-- a borrow there
borrow_is : (T : Assigned) (n k : Node) (x : Use) (t : Typ) → coercion_at T n ≡ elaborated.plain → value T (named.borrow n false (named.var k x)) ≡ tree.borrow (mark T n) false (own x.number)
borrow_is T n k x t c = ap (λ w. passed_as T n w (tree.borrow (mark T n) false (own x.number))) c

loan_is : (T : Assigned) (n k : Node) (x : Use) (t : Typ) → coercion_at T n ≡ reborrow → value T (named.borrow n true (named.var k x)) ≡ tree.borrow (mark T n) true (own x.number)
loan_is T n k x t c = ap (λ w. passed_as T n w (tree.borrow (mark T n) true (own x.number))) c

module _ (T : Assigned) (may : Bool) (R : Renaming) (cold : List ℕ) where
  -- with those that follow
  abbrev GoesAs : ℕ → Mode → How → tree.Exp → Type 0
  GoesAs x m h e = (Rp Rf : Renaming) (i : ℕ) (xs : List ℕ) (ms : List Mode) (p : Parameter) (es : Operands) (ps : List Parameter) → sight_of Rp x ≡ None → IsNew Rp p.variable
      → GivenTo may R cold ((x, sight p.variable h) ∷ Rp) xs ms es ps Rf → GivenTo may R cold Rp (x ∷ xs) (m ∷ ms) (tree.operand_and i e es) (p ∷ ps) Rf

  value_goes : (x : ℕ) (n : Node) (u : Use) (t : Typ) (h : How) (b : Bool) → is_unique t ≡ b → SeenAs may R cold x u.number t mode.Value h → coercion_at T n ≡ coercion t t → GoesAs x mode.Value h (value T (named.var n u))
  value_goes x n u t h true q (moved s m) c = subst (λ e. GoesAs x mode.Value h e) (sym (read_again T n u t q c)) (λ Rp Rf i xs ms p es ps none fresh g. moves_again (m q) s none fresh g)
  value_goes x n u t h false q (moved s m) c = subst (λ e. GoesAs x mode.Value h e) (sym (read_plainly T n u t q c)) (λ Rp Rf i xs ms p es ps none fresh g. moves_in s none fresh g)
  value_goes x n u t h b q (value_copied s i k) c = subst (λ e. GoesAs x mode.Value h e) (sym (read_plainly T n u t k c)) (λ Rp Rf j xs ms p es ps none fresh g. is_copied s i none fresh g)

  goes : (x y : ℕ) (t : Typ) (m : Mode) (h : How) (e : Exp) → SeenAs may R cold x y t m h → ArgumentFor T y t m e → GoesAs x m h (value T e)
  goes x y t m h e s (itself {n = n} {x = u} i l a b) = value_goes x n u t h (is_unique t) refl (subst (λ y. SeenAs may R cold x y t mode.Value h) (sym i) s) (coerced_so T n t t l a b)
  goes x y t m h e (reborrowed r s k q) (again {n = n} {x = u} i l a b) = subst (λ e. GoesAs x mode.Reborrow copied e) (sym (read_again T n u t q (coerced_so T n t t l a b)))
      (λ Rp Rf j xs ms p es ps none fresh g. is_reborrowed r (subst (λ y. sight_of R x ≡ Some (sight y (plain shut))) (sym i) s) k none fresh g)
  goes x y t m h e (looked_at r s k q) (as_shared {n = n} {x = u} i l a b) = subst (λ e. GoesAs x mode.View viewed e) (sym (read_shared T n u t q (coerced_so T n t (new.viewed t) l a b)))
      (λ Rp Rf j xs ms p es ps none fresh g. is_viewed r (subst (λ y. sight_of R x ≡ Some (sight y (plain shut))) (sym i) s) k none fresh g)
  goes x y t m h e (shared w s) (a_borrow {n = n} {k = k} {x = u} i l a) = subst (λ e. GoesAs x mode.Shared (through w false) e) (sym (borrow_is T n k u t (coerced_so T n (reference false t) (T.expected n.number) l a refl)))
      (λ Rp Rf j xs ms p es ps none fresh g. is_shared w (subst (λ y. sight_of R x ≡ Some (sight y (plain w))) (sym i) s) none fresh g)
  goes x y t m h e (lent w s k) (a_loan {n = n} {k = z} {x = u} i l a b) = subst (λ e. GoesAs x mode.Mut (through w true) e) (sym (loan_is T n z u t (coerced_so T n (reference true t) (reference true t) l a b)))
      (λ Rp Rf j xs ms p es ps none fresh g. is_lent w (subst (λ y. sight_of R x ≡ Some (sight y (plain w))) (sym i) s) k none fresh g)

  one_less : {a b : ℕ} → suc a ≡ suc b → a ≡ b
  one_less e = cc

  -- param by param
  pub arguments_go : (Rp : Renaming) (i : ℕ) {xs : List ℕ} {ms : List Mode} {es : Exps} {hs : List How} (ps : List Parameter) → ArgumentsFor T may R cold xs ms es hs → AreUnseen Rp xs
      → AreNew Rp (variables_of ps) → length xs ≡ length ps → GivenTo may R cold Rp xs ms (operands T i es) ps (seen_so Rp xs hs (variables_of ps))
  arguments_go Rp i [] no_arguments u n l = given_all
  arguments_go Rp i (p ∷ ps) (more_arguments {x = x} {xs = xs} {m = m} {ms = ms} {e = e} {es = es} {h = h} {hs = hs} y t s f more) u n l =
      goes x y t m h e s f Rp (seen_so ((x, sight p.variable h) ∷ Rp) xs hs (variables_of ps)) i xs ms p (operands T (suc i) es) ps u.0 n.0
      (arguments_go ((x, sight p.variable h) ∷ Rp) (suc i) ps more (are_unseen_behind Rp (x, sight p.variable h) xs u.1 u.2) (are_new_behind Rp x p.variable h (variables_of ps) n.1 n.2) (one_less l))
  arguments_go Rp i (p ∷ ps) no_arguments u n l = absurd (cc)
  arguments_go Rp i [] (more_arguments y t s f more) u n l = absurd (cc)
