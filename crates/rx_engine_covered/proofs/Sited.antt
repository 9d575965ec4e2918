-- An expression whose place makes something else of its value has the same matches.
use Rattle.std.proofs.Common.{◌≡◌, ℕ, List, [], refl, sym, ◌∙◌, subst}
use Rattle.rx_tree.specs.declared.tree.BinaryOp.{BinaryOp}
use Rattle.rx_typed.specs.declared.nodes.Node.{Node}
use Rattle.rx_typed.specs.declared.nodes.Site.{Site}
use Rattle.rx_typed.specs.Types.{Declarations}
use Rattle.rx_typed.specs.Named as named
use Rattle.rx_typed.specs.Named.{Body, Exp}
use Rattle.rx_typed.specs.Tree as tree
use Rattle.rx_typed.specs.Tree.{Pattern, Scrutinee}
use Rattle.rx_typed.specs.Elaborated as elaborated
use Rattle.rx_typed.specs.Elaborated.{body, coercion_at, mark, operands, value, Assigned}
use Rattle.rx_cover.specs.Causes.{AllCovered, Covered}
use Rattle.rx_cover.specs.Choices.{choice_of, choices, Choice}
use Rattle.rx_engine_holes.specs.Sited.{at_site, sited}
use Rattle.rx_engine_covered.proofs.Marks.{borrow_none, call_choices, read_none, tuple_choices}

module _ (T : Assigned) (D : Declarations) where
  -- by another node
  pub renamed : (k m : ℕ) (c : Scrutinee) (ps : List Pattern) → Covered D (choice_of k c ps) → Covered D (choice_of m c ps)
  renamed k m c ps h = record { narrow = h.narrow; covers = h.covers }

  none : (l : List Choice) → l ≡ [] → AllCovered D l
  none l e = subst (λ (l : List Choice). AllCovered D l) (sym e) tt

  like : (a b c : List Choice) → a ≡ c → b ≡ c → AllCovered D a → AllCovered D b
  like a b c e g h = subst (λ (l : List Choice). AllCovered D l) (e ∙ sym g) h

  in_body : (k m : ℕ) (b : Body) → AllCovered D (choices k (body T b)) → AllCovered D (choices m (body T b))
  in_body k m (named.body n ss o) h = h

  operated_any : (o : BinaryOp) (n n' : Node) (a b : tree.Exp) (k m : ℕ) → choices k (elaborated.operated T n o a b) ≡ choices m (elaborated.operated T n' o a b)
  operated_any BinaryOp.And n n' a b k m = refl
  operated_any BinaryOp.Or n n' a b k m = refl
  operated_any BinaryOp.Add n n' a b k m = refl
  operated_any BinaryOp.Sub n n' a b k m = refl
  operated_any BinaryOp.Mul n n' a b k m = refl
  operated_any BinaryOp.Div n n' a b k m = refl
  operated_any BinaryOp.Rem n n' a b k m = refl
  operated_any BinaryOp.Eq n n' a b k m = refl
  operated_any BinaryOp.Ne n n' a b k m = refl
  operated_any BinaryOp.Lt n n' a b k m = refl
  operated_any BinaryOp.Le n n' a b k m = refl
  operated_any BinaryOp.Gt n n' a b k m = refl
  operated_any BinaryOp.Ge n n' a b k m = refl

  pub sited_covered : (t : Site) (e : Exp) (k m : ℕ) → AllCovered D (choices k (value T e)) → AllCovered D (choices m (value T (at_site t e)))
  sited_covered t (named.int n x v i) k m h = tt
  sited_covered t (named.bool n b) k m h = tt
  sited_covered t (named.tuple n es) k m h = like _ _ _ (tuple_choices T n (operands T 0 es) k) (tuple_choices T (sited t n) (operands T 0 es) m) h
  sited_covered t (named.var n x) k m h = none _ (read_none T (sited t n) (coercion_at T (sited t n)) (elaborated.place T (named.var n x)) m)
  sited_covered t (named.field n e x) k m h = none _ (read_none T (sited t n) (coercion_at T (sited t n)) (elaborated.place T (named.field n e x)) m)
  sited_covered t (named.part n e i) k m h = none _ (read_none T (sited t n) (coercion_at T (sited t n)) (elaborated.place T (named.part n e i)) m)
  sited_covered t (named.deref n e) k m h = none _ (read_none T (sited t n) (coercion_at T (sited t n)) (elaborated.place T (named.deref n e)) m)
  sited_covered t (named.negate n e) k m h = h
  sited_covered t (named.invert n e) k m h = h
  sited_covered t (named.borrow n b e) k m h = none _ (borrow_none T (sited t n) (coercion_at T (sited t n)) (mark T (sited t n)) b (elaborated.place T e) m)
  sited_covered t (named.binary n o a b) k m h = like _ _ _ (operated_any o n n (value T a) (value T b) k m) (operated_any o (sited t n) n (value T a) (value T b) m m) h
  sited_covered t (named.assign n p e) k m h = h
  sited_covered t (named.gives n p x d e) k m h = h
  sited_covered t (named.update n o p e) k m h = h
  sited_covered t (named.call n f es) k m h =
      like _ _ _ (call_choices T n (coercion_at T n) (mark T n) f (operands T 0 es) k) (call_choices T (sited t n) (coercion_at T (sited t n)) (mark T (sited t n)) f (operands T 0 es) m) h
  sited_covered t (named.hidden_call n es) k m h = tt
  sited_covered t (named.next_input n) k m h = tt
  sited_covered t (named.variant n i v es) k m h = h
  sited_covered t (named.make n i fs) k m h = h
  sited_covered t (named.print n e) k m h = h
  sited_covered t (named.block n b) k m h = in_body k m b h
  sited_covered t (named.if n c b named.absent) k m h = (renamed k m (tree.of_value (value T c)) _ h.0, h.1)
  sited_covered t (named.if n c b (named.present o)) k m h = (renamed k m (tree.of_value (value T c)) _ h.0, h.1)
  sited_covered t (named.if_let n p e b named.absent) k m h = (renamed k m (elaborated.matched T e (value T e)) _ h.0, h.1)
  sited_covered t (named.if_let n p e b (named.present o)) k m h = (renamed k m (elaborated.matched T e (value T e)) _ h.0, h.1)
  sited_covered t (named.match n e l) k m h = (renamed k m (elaborated.matched T e (value T e)) _ h.0, h.1)
  sited_covered t (named.loop n l b c) k m h = h
  sited_covered t (named.while n l c b) k m h = h
  sited_covered t (named.while_let n l p e b) k m h = h
  sited_covered t (named.break n l) k m h = tt
  sited_covered t (named.continue n l) k m h = tt
  sited_covered t (named.return n named.absent) k m h = tt
  sited_covered t (named.return n (named.present o)) k m h = h
