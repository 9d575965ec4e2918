-- Scopes as lists of numbers, by the names of all variables of a function: what a name means among variables in scope it means there; and
-- trees with numbers in which each name means, where it stands, what it names.
use Rattle.std.proofs.Common.{◌≡◌, ℕ, zero, suc, ◌+◌, Bool, true, false, if◌then◌else◌, List, [], ◌∷◌, ◌++◌, length, reverse, Option, Some, slice_get, refl, sym, ap, subst, ◌∙◌, append_assoc, arith}
use Rattle.std.specs.Str.{bytes_eq}
use Rattle.std.proofs.lemmas.Grind.{reverse_onto}
use Rattle.std.proofs.lemmas.Slice.Eq.{bytes_eq-Decides}
use Rattle.rx_core.specs.Bytes.{same_bytes}
use Rattle.rx_core.proofs.BytesLemmas.{same_bytes-true, same_bytes-equal}
use Rattle.rx_tree.specs.Positions.{NodeTree}
use Rattle.rx_resolve_names.specs.Scopes.{DeclaredNames, Variables, variable_named, entered}
use Rattle.rx_typed.specs.Named as named
use Rattle.rx_typed.specs.Named.{Exp, Exps, Else, Fields, Arms, Body, Statement, Statements}
use Rattle.rx_typed.specs.Elaborated.{variables}
use Rattle.rx_exits_plan.specs.Shadowed.{meant}
use Rattle.rx_exits.specs.Refusing.{same_names, same_name}
use Rattle.rx_hoist_naming.specs.DeclaredNames.{names_bound}
use Rattle.rx_hoist_naming.proofs.Steps.{binds, bound_append}
use Rattle.rx_hoist_meant.specs.NamesMeant.{MeansIt}

-- ---- lists

pub in_left : {A : Type 0} (xs ys : List A) (k : ℕ) (m : A) → slice_get xs k ≡ Some m → slice_get (xs ++ ys) k ≡ Some m
in_left [] ys k m e = absurd (cc)
in_left (x ∷ xs) ys zero m e = e
in_left (x ∷ xs) ys (suc k) m e = in_left xs ys k m e

pub in_right : {A : Type 0} (xs ys : List A) (k n : ℕ) (m : A) → n ≡ length xs + k → slice_get ys k ≡ Some m → slice_get (xs ++ ys) n ≡ Some m
in_right [] ys k n m h e = let same : n ≡ k = omega (arith, h) in subst (λ (i : ℕ). slice_get ys i ≡ Some m) (sym same) e
in_right (x ∷ xs) ys k zero m h e = absurd (omega (arith, h))
in_right (x ∷ xs) ys k (suc n) m h e = in_right xs ys k n m (omega (arith, h)) e

-- ---- names of numbers

module _ (names : List (List ℕ)) where
  -- these names stand there from a number on
  pub record Stand (at : ℕ) (l : List (List ℕ)) : Type 0 where
    pub each : (k : ℕ) (x : List ℕ) → slice_get l k ≡ Some x → slice_get names (at + k) ≡ Some x

  -- those that nodes bind
  abbrev pub Bound : ℕ → List NodeTree → Type 0
  Bound at ns = Stand at (names_bound ns)

  pub front_of : {at : ℕ} (ms ns : List NodeTree) → Bound at (ms ++ ns) → Bound at ms
  front_of ms ns h = record {
    each = λ k x e. h.each k x (subst (λ (l : List (List ℕ)). slice_get l k ≡ Some x) (sym (bound_append ms ns)) (in_left (names_bound ms) (names_bound ns) k x e));
  }

  pub behind_of : {at : ℕ} (n : ℕ) (ms ns : List NodeTree) → n ≡ at + binds ms → Bound at (ms ++ ns) → Bound n ns
  behind_of {at} n ms ns l h = record {
    each = λ k x e.
        let there = in_right (names_bound ms) (names_bound ns) k (binds ms + k) x refl e in
        let same : at + (binds ms + k) ≡ n + k = omega (arith, l) in
        subst (λ (i : ℕ). slice_get names i ≡ Some x) same (h.each (binds ms + k) x (subst (λ (l : List (List ℕ)). slice_get l (binds ms + k) ≡ Some x) (sym (bound_append ms ns)) there));
  }

  -- ---- scopes, the newest first; and what is declared, in order

  abbrev pub ScopeIs : List ℕ → Variables → Type 0
  ScopeIs [] [] = Unit {0}
  ScopeIs (x ∷ xs) (v ∷ vs) = (x ≡ v.number) × (slice_get names x ≡ Some v.name) × ScopeIs xs vs
  ScopeIs _ _ = ⊥

  abbrev pub NumbersAre : List ℕ → DeclaredNames → Type 0
  NumbersAre [] [] = Unit {0}
  NumbersAre (x ∷ xs) (d ∷ ds) = (x ≡ d.1.number) × (slice_get names x ≡ Some d.0) × NumbersAre xs ds
  NumbersAre _ _ = ⊥

  pub both_numbers : (xs ys : List ℕ) (ds es : DeclaredNames) → NumbersAre xs ds → NumbersAre ys es → NumbersAre (xs ++ ys) (ds ++ es)
  both_numbers [] ys [] es g h = h
  both_numbers [] ys (d ∷ ds) es g h = absurd g
  both_numbers (x ∷ xs) ys [] es g h = absurd g
  both_numbers (x ∷ xs) ys (d ∷ ds) es g h = (g.0, g.1, both_numbers xs ys ds es g.2 h)

  pub entered_is : (xs : List ℕ) (ds : DeclaredNames) (vs : List ℕ) (sc : Variables) → NumbersAre xs ds → ScopeIs vs sc → ScopeIs (reverse xs ++ vs) (entered sc ds)
  entered_is [] [] vs sc g h = h
  entered_is [] (d ∷ ds) vs sc g h = absurd g
  entered_is (x ∷ xs) [] vs sc g h = absurd g
  entered_is (x ∷ xs) (d ∷ ds) vs sc g h =
      let on : reverse (x ∷ xs) ++ vs ≡ reverse xs ++ (x ∷ vs) = ap (λ (l : List ℕ). l ++ vs) (reverse_onto xs x []) ∙ append_assoc (reverse xs) (x ∷ []) vs in
      subst (λ (l : List ℕ). ScopeIs l (entered (record { name = d.0; number = d.1.number } ∷ sc) ds)) (sym on)
      (entered_is xs ds (x ∷ vs) (record { name = d.0; number = d.1.number } ∷ sc) g.2 (g.0, g.1, h))

  -- ---- what a name means

  pub record Means (vs : List ℕ) (x : List ℕ) (k : ℕ) : Type 0 where
    pub named : slice_get names k ≡ Some x
    pub itself : MeansIt (same_name names) vs k

  abbrev Tested : Bool → ℕ → ℕ → List ℕ → Option ℕ
  Tested b y k vs = if b then Some y else meant (same_name names) k vs

  pub scope_means : (vs : List ℕ) (sc : Variables) (x : List ℕ) (k : ℕ) → ScopeIs vs sc → variable_named sc x ≡ Some k → Means vs x k
  scope_means [] [] x k h e = absurd (cc)
  scope_means [] (v ∷ sc) x k h e = absurd h
  scope_means (y ∷ vs) [] x k h e = absurd h
  scope_means (y ∷ vs) (v ∷ sc) x k h e = by (bytes_eq x v.name) refl e (λ f. scope_means vs sc x k h.2 f)
    where
      first : (b : Bool) → b ≡ true → k ≡ y → Tested b y k vs ≡ Some k
      first true t s = ap (λ (z : ℕ). Some z) (sym s)
      first false t s = absurd (cc)

      later : (b : Bool) → b ≡ false → meant (same_name names) k vs ≡ Some k → Tested b y k vs ≡ Some k
      later false f m = m
      later true f m = absurd (cc)

      by : (b : Bool) → bytes_eq x v.name ≡ b → (if b then Some v.number else variable_named sc x) ≡ Some k → (variable_named sc x ≡ Some k → Means vs x k) → Means (y ∷ vs) x k
      by true t e rest =
          let word : x ≡ v.name = (bytes_eq-Decides x v.name).0 t in
          let same : k ≡ y = let one : v.number ≡ k = cc in sym one ∙ sym h.0 in
          let there : slice_get names k ≡ Some v.name = ap (λ (z : ℕ). slice_get names z) same ∙ h.1 in
          let alike : same_name names y k ≡ true = (λ j. same_names (h.1 j) (there j)) ∙ same_bytes-equal v.name v.name refl in
          record { named = there ∙ ap (λ (z : List ℕ). Some z) (sym word); itself = first (same_name names y k) alike same }
      by false t e rest =
          let r = rest e in
          let tested : same_name names y k ≡ same_bytes v.name x = λ j. same_names (h.1 j) (r.named j) in
          let other : same_name names y k ≡ false = tested ∙ differ (same_bytes v.name x) refl in
          record { named = r.named; itself = later (same_name names y k) other r.itself }
        where
          differ : (b : Bool) → same_bytes v.name x ≡ b → same_bytes v.name x ≡ false
          differ true s = let word = sym (same_bytes-true v.name x s) in let clash = (bytes_eq-Decides x v.name).1 word in absurd (cc)
          differ false s = s

-- ---- trees with numbers in which each name means what it names

-- what a statement brings into scope
abbrev pub declared_in : Statement → List ℕ
declared_in (named.declares n p t) = variables p
declared_in (named.lets n p t e) = variables p
declared_in (named.evaluates n e b) = []

module _ (same : ℕ → ℕ → Bool) where
  abbrev mutual
    pub NExp : List ℕ → Exp → Type 0
    NExp vs (named.int n m v k) = Unit {0}
    NExp vs (named.bool n b) = Unit {0}
    NExp vs (named.tuple n es) = NExps vs es
    NExp vs (named.var n u) = MeansIt same vs u.number
    NExp vs (named.field n e x) = NExp vs e
    NExp vs (named.part n e i) = NExp vs e
    NExp vs (named.deref n e) = NExp vs e
    NExp vs (named.negate n e) = NExp vs e
    NExp vs (named.invert n e) = NExp vs e
    NExp vs (named.borrow n m e) = NExp vs e
    NExp vs (named.binary n o a b) = NExp vs a × NExp vs b
    NExp vs (named.assign n p e) = NExp vs p × NExp vs e
    NExp vs (named.gives n p x d e) = MeansIt same vs x.number × NExp vs e
    NExp vs (named.update n o p e) = NExp vs p × NExp vs e
    NExp vs (named.call n f es) = NExps vs es
    NExp vs (named.hidden_call n es) = NExps vs es
    NExp vs (named.next_input n) = Unit {0}
    NExp vs (named.variant n i v es) = NExps vs es
    NExp vs (named.make n i fs) = NFields vs fs
    NExp vs (named.print n e) = NExp vs e
    NExp vs (named.block n b) = NBody vs b
    NExp vs (named.if n c b o) = NExp vs c × NBody vs b × NElse vs o
    NExp vs (named.if_let n p e b o) = NExp vs e × NBody (reverse (variables p) ++ vs) b × NElse vs o
    NExp vs (named.match n e l) = NExp vs e × NArms vs l
    NExp vs (named.loop n l k b) = NBody vs b
    NExp vs (named.while n l c b) = NExp vs c × NBody vs b
    NExp vs (named.while_let n l p e b) = NExp vs e × NBody (reverse (variables p) ++ vs) b
    NExp vs (named.break n l) = Unit {0}
    NExp vs (named.continue n l) = Unit {0}
    NExp vs (named.return n o) = NElse vs o

    pub NExps : List ℕ → Exps → Type 0
    NExps vs named.no_exp = Unit {0}
    NExps vs (named.exp_and e es) = NExp vs e × NExps vs es

    pub NElse : List ℕ → Else → Type 0
    NElse vs named.absent = Unit {0}
    NElse vs (named.present e) = NExp vs e

    pub NFields : List ℕ → Fields → Type 0
    NFields vs named.no_field = Unit {0}
    NFields vs (named.field_and x e fs) = NExp vs e × NFields vs fs

    pub NArms : List ℕ → Arms → Type 0
    NArms vs named.no_arm = Unit {0}
    NArms vs (named.arm_and p e l) = NExp (reverse (variables p) ++ vs) e × NArms vs l

    -- the tail stands behind all statements, in the scope there
    pub NBody : List ℕ → Body → Type 0
    NBody vs (named.body n ss o) = (after : List ℕ) × NRow vs ss after × NElse after o

    pub NStatement : List ℕ → Statement → Type 0
    NStatement vs (named.declares n p t) = Unit {0}
    NStatement vs (named.lets n p t e) = NExp vs e
    NStatement vs (named.evaluates n e b) = NExp vs e

    -- from one scope to another
    pub NRow : List ℕ → Statements → List ℕ → Type 0
    NRow vs named.no_statement after = vs ≡ after
    NRow vs (named.statement_and a ss) after = NStatement vs a × NRow (reverse (declared_in a) ++ vs) ss after
