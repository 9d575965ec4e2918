-- Scopes of two resolvings in which names mean variables that correspond, and what patterns bind in them.
use Rattle.std.proofs.Common.{◌≡◌, ℕ, Bool, true, false, not, ◌&&◌, ◌||◌, if◌then◌else◌, List, [], ◌∷◌, ◌++◌, map, Option, Some, None, Ok, refl, sym, ap, ◌∙◌, subst, bytes_eq}
use Rattle.rx_tree.specs.declared.tree.Ident.{Ident}
use Rattle.rx_resolve_names.specs.declared.table.NumberedName.{NumberedName}
use Rattle.rx_resolve_names.specs.Scopes.{DeclaredNames, declared_as, Variables, variable_named, entered}
use Rattle.rx_resolve_names.specs.Meant.{number}
use Rattle.rx_resolve_names.specs.Steps.{declare, declared_behind}
use Rattle.rx_engine_names.specs.Renaming.{Pairs, Has, Made}
use Rattle.rx_hoist_extraction.specs.Names.{Names, is_among}
use Rattle.rx_engine_names.specs.Within.{Claims}
use Rattle.rx_engine_names.proofs.SideBySide.{the_same, Grows}

-- ---- what a name means in both

-- two variables correspond: the second stands behind a reference and is one of a row, or they were made side by side
abbrev pub Corresponds : Pairs → Made → ℕ → ℕ → Bool → Type 0
Corresponds B M n m true = Has B n m
Corresponds B M n m false = Has M.variables n m

-- it means variables that correspond, or none, where it need not mean any; the truth values say whether the second stands behind a
-- reference, and whether it must mean one
abbrev pub AtName : (ℕ → ℕ → Bool → Type 0) → Bool → Bool → Option ℕ → Option ℕ → Type 0
AtName V b f None None = f ≡ false
AtName V b f (Some n) (Some m) = V n m b
AtName V b f None (Some m) = ⊥
AtName V b f (Some n) None = ⊥

-- both mean variables that correspond
abbrev pub Both : (ℕ → ℕ → Bool → Type 0) → Bool → Option ℕ → Option ℕ → Type 0
Both V b o o' = (n : ℕ) × (m : ℕ) × (o ≡ Some n) × (o' ≡ Some m) × V n m b

pub at_both : (V : ℕ → ℕ → Bool → Type 0) (b f : Bool) (o o' : Option ℕ) → Both V b o o' → AtName V b f o o'
at_both V b f o o' h = subst (λ (z : Option ℕ). AtName V b f z o') (sym h.2) (subst (λ (z : Option ℕ). AtName V b f (Some h.0) z) (sym h.3) h.4)

-- the names that are in scope from the beginning, and what is known of the variables of the first that they mean there
pub record Outer : Type 1 where
  pub names : Names
  pub tells : List ℕ → Option ℕ → Type 0

-- The names of `known`, and those that are bound since, mean variables that correspond: behind references are those of `stars` that are
-- not bound since. The names of callees mean such variables, or none in both; other names may mean anything.
pub record Scopes (B : Pairs) (M : Made) (N : Claims) (stars : Names) (known : Outer) (own : Names) (sc sc' : Variables) : Type 0 where
  pub callees : (x : List ℕ) → N.name x → AtName (Corresponds B M) (not (is_among x own) && is_among x stars) (is_among x own || is_among x known.names) (variable_named sc x) (variable_named sc' x)
  pub variables : (x : List ℕ) → (is_among x own || is_among x known.names) ≡ true → Both (Corresponds B M) (not (is_among x own) && is_among x stars) (variable_named sc x) (variable_named sc' x)
  pub outer : (x : List ℕ) → is_among x own ≡ false → known.tells x (variable_named sc x)

scopes_one : (B : Pairs) (M : Made) (N : Claims) (stars : Names) (known : Outer) (own : Names) (y : List ℕ) (n m : ℕ) (sc sc' : Variables) → Has M.variables n m → Scopes B M N stars known own sc sc'
    → Scopes B M N stars known (y ∷ own) (record { name = y; number = n } ∷ sc) (record { name = y; number = m } ∷ sc')
scopes_one B M N stars known own y n m sc sc' v h = record {
  callees = λ x a. by x (h.callees x a) (bytes_eq x y);
  variables = λ x. both x (h.variables x) (bytes_eq x y);
  outer = λ x. told x (h.outer x) (bytes_eq x y);
}
  where
    by : (x : List ℕ) → AtName (Corresponds B M) (not (is_among x own) && is_among x stars) (is_among x own || is_among x known.names) (variable_named sc x) (variable_named sc' x)
        → (b : Bool) → AtName (Corresponds B M) (not (b || is_among x own) && is_among x stars) ((b || is_among x own) || is_among x known.names) (if b then Some n else variable_named sc x) (if b then Some m else variable_named sc' x)
    by x h true = v
    by x h false = h

    both : (x : List ℕ) → ((is_among x own || is_among x known.names) ≡ true → Both (Corresponds B M) (not (is_among x own) && is_among x stars) (variable_named sc x) (variable_named sc' x))
        → (b : Bool) → ((b || is_among x own) || is_among x known.names) ≡ true → Both (Corresponds B M) (not (b || is_among x own) && is_among x stars) (if b then Some n else variable_named sc x) (if b then Some m else variable_named sc' x)
    both x h true e = (n, m, refl, refl, v)
    both x h false e = h e

    told : (x : List ℕ) → (is_among x own ≡ false → known.tells x (variable_named sc x)) → (b : Bool) → (b || is_among x own) ≡ false → known.tells x (if b then Some n else variable_named sc x)
    told x h true e = absurd (cc)
    told x h false e = h e

-- nothing is known of any
abbrev pub unknown : Outer
unknown = record { names = []; tells = λ x o. Unit {0} }

-- ---- more was made

corresponds_later : (B : Pairs) (M M' : Made) → Grows M M' → (n m : ℕ) (b : Bool) → Corresponds B M n m b → Corresponds B M' n m b
corresponds_later B M M' g n m true h = h
corresponds_later B M M' g n m false h = g.variables n m h

at_later : (B : Pairs) (M M' : Made) → Grows M M' → (b f : Bool) (o o' : Option ℕ) → AtName (Corresponds B M) b f o o' → AtName (Corresponds B M') b f o o'
at_later B M M' g b f None None h = h
at_later B M M' g b f (Some n) (Some m) h = corresponds_later B M M' g n m b h
at_later B M M' g b f None (Some m) h = h
at_later B M M' g b f (Some n) None h = h

pub scopes_later : (B : Pairs) (M M' : Made) (N : Claims) (stars : Names) (known : Outer) (own : Names) (sc sc' : Variables) → Grows M M' → Scopes B M N stars known own sc sc' → Scopes B M' N stars known own sc sc'
scopes_later B M M' N stars known own sc sc' g h = record {
  callees = λ x a. at_later B M M' g _ _ (variable_named sc x) (variable_named sc' x) (h.callees x a);
  variables = λ x e. let z = h.variables x e in (z.0, z.1, z.2, z.3, corresponds_later B M M' g z.0 z.1 (not (is_among x own) && is_among x stars) z.4);
  outer = h.outer;
}

-- ---- bindings

abbrev pub declared_names : DeclaredNames → Names
declared_names ds = map (λ (d : List ℕ × NumberedName). d.0) ds

-- the same names, of variables that correspond
abbrev pub BoundAlike : Made → DeclaredNames → DeclaredNames → Type 0
BoundAlike M [] [] = Unit {0}
BoundAlike M (d ∷ ds) (e ∷ es) = (e.0 ≡ d.0) × Has M.variables d.1.number e.1.number × BoundAlike M ds es
BoundAlike M [] (e ∷ es) = ⊥
BoundAlike M (d ∷ ds) [] = ⊥

abbrev pub piled : Names → DeclaredNames → Names
piled own [] = own
piled own (d ∷ ds) = piled (d.0 ∷ own) ds

scopes_piled : (B : Pairs) (M : Made) (N : Claims) (stars : Names) (known : Outer) (own : Names) (ds es : DeclaredNames) (sc sc' : Variables) → BoundAlike M ds es → Scopes B M N stars known own sc sc' → Scopes B M N stars known (piled own ds) (entered sc ds) (entered sc' es)
scopes_piled B M N stars known own [] [] sc sc' b h = h
scopes_piled B M N stars known own (d ∷ ds) (e ∷ es) sc sc' b h =
    scopes_piled B M N stars known (d.0 ∷ own) ds es (record { name = d.0; number = d.1.number } ∷ sc) (record { name = e.0; number = e.1.number } ∷ sc') b.2
    (subst (λ (y : List ℕ). Scopes B M N stars known (d.0 ∷ own) (record { name = d.0; number = d.1.number } ∷ sc) (record { name = y; number = e.1.number } ∷ sc')) (sym b.0)
    (scopes_one B M N stars known own d.0 d.1.number e.1.number sc sc' b.1 h))
scopes_piled B M N stars known own [] (e ∷ es) sc sc' b h = absurd b
scopes_piled B M N stars known own (d ∷ ds) [] sc sc' b h = absurd b

or_swap : (a b c : Bool) → (a || (b || c)) ≡ (b || (a || c))
or_swap true true c = refl
or_swap true false c = refl
or_swap false b c = refl

pub among_append : (x : List ℕ) (ys zs : Names) → is_among x (ys ++ zs) ≡ (is_among x ys || is_among x zs)
among_append x [] zs = refl
among_append x (y ∷ ys) zs = ap (λ (b : Bool). bytes_eq x y || b) (among_append x ys zs) ∙ or_assoc (bytes_eq x y) (is_among x ys) (is_among x zs)
  where
    or_assoc : (a b c : Bool) → (a || (b || c)) ≡ ((a || b) || c)
    or_assoc true b c = refl
    or_assoc false b c = refl

pub among_piled : (x : List ℕ) (own : Names) (ds : DeclaredNames) → is_among x (piled own ds) ≡ is_among x (declared_names ds ++ own)
among_piled x own [] = refl
among_piled x own (d ∷ ds) =
    among_piled x (d.0 ∷ own) ds ∙ among_append x (declared_names ds) (d.0 ∷ own) ∙ or_swap (is_among x (declared_names ds)) (bytes_eq x d.0) (is_among x own)
    ∙ ap (λ (b : Bool). bytes_eq x d.0 || b) (sym (among_append x (declared_names ds) own))

-- what a pattern binds hides what was named so before
pub scopes_entered : (B : Pairs) (M : Made) (N : Claims) (stars : Names) (known : Outer) (own names : Names) (ds es : DeclaredNames) (sc sc' : Variables) → BoundAlike M ds es → declared_names ds ≡ names
    → Scopes B M N stars known own sc sc' → Scopes B M N stars known (names ++ own) (entered sc ds) (entered sc' es)
scopes_entered B M N stars known own names ds es sc sc' b e h = let k = scopes_piled B M N stars known own ds es sc sc' b h in record {
  callees = λ x a. subst (λ (y : Bool). AtName (Corresponds B M) (not y && is_among x stars) (y || is_among x known.names) (variable_named (entered sc ds) x) (variable_named (entered sc' es) x))
      (among_piled x own ds ∙ ap (λ (l : Names). is_among x (l ++ own)) e) (k.callees x a);
  variables = λ x. subst (λ (y : Bool). (y || is_among x known.names) ≡ true → Both (Corresponds B M) (not y && is_among x stars) (variable_named (entered sc ds) x) (variable_named (entered sc' es) x))
      (among_piled x own ds ∙ ap (λ (l : Names). is_among x (l ++ own)) e) (k.variables x);
  outer = λ x. subst (λ (y : Bool). y ≡ false → known.tells x (variable_named (entered sc ds) x)) (among_piled x own ds ∙ ap (λ (l : Names). is_among x (l ++ own)) e) (k.outer x);
}

pub bound_later : (M M' : Made) → Grows M M' → (ds es : DeclaredNames) → BoundAlike M ds es → BoundAlike M' ds es
bound_later M M' g [] [] b = b
bound_later M M' g (d ∷ ds) (e ∷ es) b = (b.0, g.variables d.1.number e.1.number b.1, bound_later M M' g ds es b.2)
bound_later M M' g [] (e ∷ es) b = b
bound_later M M' g (d ∷ ds) [] b = b

-- ---- one more binding

none_by : (p q : Bool) (k l : NumberedName) (r r' : Option NumberedName) → q ≡ p → (r ≡ None → r' ≡ None) → (if p then Some k else r) ≡ None → (if q then Some l else r') ≡ None
none_by true true k l r r' e f n = absurd (cc)
none_by true false k l r r' e f n = absurd (cc)
none_by false true k l r r' e f n = absurd (cc)
none_by false false k l r r' e f n = f n

none_alike : (M : Made) (ds es : DeclaredNames) (x : List ℕ) → BoundAlike M ds es → declared_as ds x ≡ None → declared_as es x ≡ None
none_alike M [] [] x b n = refl
none_alike M (d ∷ ds) (e ∷ es) x b n =
    none_by (bytes_eq x d.0) (bytes_eq x e.0) d.1 e.1 (declared_as ds x) (declared_as es x) (ap (bytes_eq x) b.0) (λ m. none_alike M ds es x b.2 m) n
none_alike M [] (e ∷ es) x b n = absurd b
none_alike M (d ∷ ds) [] x b n = absurd b

bound_more : (M : Made) (ds es : DeclaredNames) (x : List ℕ) (k l : NumberedName) → BoundAlike M ds es → Has M.variables k.number l.number → BoundAlike M (ds ++ (x, k) ∷ []) (es ++ (x, l) ∷ [])
bound_more M [] [] x k l b v = (refl, v, tt)
bound_more M (d ∷ ds) (e ∷ es) x k l b v = (b.0, b.1, bound_more M ds es x k l b.2 v)
bound_more M [] (e ∷ es) x k l b v = absurd b
bound_more M (d ∷ ds) [] x k l b v = absurd b

pub names_more : (ds : DeclaredNames) (x : List ℕ) (k : NumberedName) → declared_names (ds ++ (x, k) ∷ []) ≡ declared_names ds ++ x ∷ []
names_more [] x k = refl
names_more (d ∷ ds) x k = ap (λ (l : Names). d.0 ∷ l) (names_more ds x k)

-- a name is declared where it is not found
declared_none : (ds new : DeclaredNames) (x : Ident) (n : ℕ) (o : Option NumberedName) → declared_behind ds x n o ≡ Ok new → (o ≡ None) × (new ≡ ds ++ (x.name, record { number = number n; span = x.span }) ∷ [])
declared_none ds new x n None e = (refl, sym (the_same _ _ e))
declared_none ds new x n (Some k) e = absurd (cc)

pub record Declares (M : Made) (ds es new : DeclaredNames) (x : Ident) (m : ℕ) : Type 0 where
  pub bindings : DeclaredNames
  pub declared : declare es x m ≡ Ok bindings
  pub alike : BoundAlike M new bindings
  pub names : declared_names new ≡ declared_names ds ++ x.name ∷ []

pub declares_alike : (M : Made) (ds es new : DeclaredNames) (x : Ident) (n m : ℕ) → BoundAlike M ds es → declare ds x n ≡ Ok new → Has M.variables (number n) (number m) → Declares M ds es new x m
declares_alike M ds es new x n m b e v =
    let d = declared_none ds new x n (declared_as ds x.name) e in
    let k : NumberedName = record { number = number n; span = x.span } in let l : NumberedName = record { number = number m; span = x.span } in
    record {
      bindings = es ++ (x.name, l) ∷ [];
      declared = ap (declared_behind es x m) (none_alike M ds es x.name b d.0);
      alike = subst (λ (y : DeclaredNames). BoundAlike M y (es ++ (x.name, l) ∷ [])) (sym d.1) (bound_more M ds es x.name k l b v);
      names = ap declared_names d.1 ∙ names_more ds x.name k;
    }

pub declared_more : (ds new : DeclaredNames) (x : Ident) (n : ℕ) → declare ds x n ≡ Ok new → declared_names new ≡ declared_names ds ++ x.name ∷ []
declared_more ds new x n e =
    let d = declared_none ds new x n (declared_as ds x.name) e in ap declared_names d.1 ∙ names_more ds x.name (record { number = number n; span = x.span })
