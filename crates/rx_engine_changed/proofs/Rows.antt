-- Statements in a row, with numbers: how they are taken apart, and what can be seen of them.
use Rattle.std.proofs.Common.{◌≡◌, ℕ, suc, Bool, true, false, ◌||◌, List, [], ◌∷◌, ◌++◌, length, refl, ap, ◌∙◌, subst, arith}
use Rattle.rx_tree.specs.Plain.{Statement}
use Rattle.rx_typed.specs.declared.nodes.Node.{Node}
use Rattle.rx_typed.specs.Named as named
use Rattle.rx_typed.specs.Named.{Body, Else, Statements, some_diverges}
use Rattle.rx_typed.specs.Naming.{Cursor, of_statement, of_statements}
use Rattle.rx_hoist_extraction.specs.Run.{as_statements}
use Rattle.rx_engine_names.specs.Renaming.{Renaming}
use Rattle.rx_engine_names.specs.LikeNamed as alike
use Rattle.rx_engine_names.specs.LikeNamed.{Holes, LikeElse, LikeStatements, SameSpan}
use Rattle.rx_engine_names.specs.Replaced.{joined, many, Replaced, replaced, EndReplaced, end_replaced}
use Rattle.rx_engine_holes.specs.Run.{append}

pub many_numbered : (xs : List Statement) (c : Cursor) → many (of_statements (as_statements xs) c).0 ≡ length xs
many_numbered [] c = refl
many_numbered (x ∷ xs) c = ap suc (many_numbered xs (of_statement x c).1)

pub many_alike : {H : Holes} {R : Renaming} {a a' : Statements} → LikeStatements H R a a' → many a' ≡ many a
many_alike alike.like_no_statement = refl
many_alike (alike.like_more_statements h hs) = ap suc (many_alike hs)

abbrev pub row : List Statement → List Statement → Cursor → Statements × Cursor
row xs ys c = (joined (of_statements (as_statements xs) c).0 (of_statements (as_statements ys) (of_statements (as_statements xs) c).1).0, (of_statements (as_statements ys) (of_statements (as_statements xs) c).1).1)

pub numbered_row : (xs ys : List Statement) (c : Cursor) → of_statements (as_statements (xs ++ ys)) c ≡ row xs ys c
numbered_row [] ys c = refl
numbered_row (x ∷ xs) ys c = let d = of_statement x c in ap (λ (z : Statements × Cursor). (named.statement_and d.0 z.0, z.1)) (numbered_row xs ys d.1)

abbrev pub row3 : List Statement → List Statement → List Statement → Cursor → Statements × Cursor
row3 xs ys zs c =
    let a = of_statements (as_statements xs) c in let b = of_statements (as_statements ys) a.1 in let d = of_statements (as_statements zs) b.1 in (joined a.0 (joined b.0 d.0), d.1)

pub numbered_row3 : (xs ys zs : List Statement) (c : Cursor) → of_statements (as_statements (xs ++ (ys ++ zs))) c ≡ row3 xs ys zs c
numbered_row3 xs ys zs c =
    let a = of_statements (as_statements xs) c in
    numbered_row xs (ys ++ zs) c ∙ ap (λ (z : Statements × Cursor). (joined a.0 z.0, z.1)) (numbered_row ys zs a.1)

-- ---- two that are one row, with as many in front

pub same_front : (a b x y : Statements) → many a ≡ many b → joined a x ≡ joined b y → (a ≡ b) × (x ≡ y)
same_front named.no_statement named.no_statement x y e f = (refl, f)
same_front named.no_statement (named.statement_and s b) x y e f = absurd (omega (arith, e))
same_front (named.statement_and s a) named.no_statement x y e f = absurd (omega (arith, e))
same_front (named.statement_and s a) (named.statement_and t b) x y e f =
    let g : s ≡ t = cc in let k : joined a x ≡ joined b y = cc in let h = same_front a b x y (omega (arith, e)) k in
    (ap (λ (z : named.Statement). named.statement_and z a) g ∙ ap (λ (z : Statements). named.statement_and t z) h.0, h.1)

pub same_row : (a b : Statements) → joined a b ≡ append a b
same_row named.no_statement b = refl
same_row (named.statement_and s a) b = ap (λ (z : Statements). named.statement_and s z) (same_row a b)

or_assoc : (x y z : Bool) → (x || (y || z)) ≡ ((x || y) || z)
or_assoc true y z = refl
or_assoc false y z = refl

pub row_diverges : (a b : Statements) → some_diverges (joined a b) ≡ (some_diverges a || some_diverges b)
row_diverges named.no_statement b = refl
row_diverges (named.statement_and s a) b = ap (λ (x : Bool). named.statement_diverges s || x) (row_diverges a b) ∙ or_assoc (named.statement_diverges s) (some_diverges a) (some_diverges b)

-- ---- a block in which others stand for a run

pub record PartsOf (R : Renaming) (k : ℕ) (P : Statements → Statements → Type 0) (n n' : Node) (z z' : Statements) (o o' : Else) : Type 0 where
  pub front : Statements
  pub front' : Statements
  pub run : Statements
  pub call : Statements
  pub behind : Statements
  pub behind' : Statements
  pub is : z ≡ joined front (joined run behind)
  pub is' : z' ≡ joined front' (joined call behind')
  pub so_many : many front ≡ k
  pub span : SameSpan n n'
  pub fronts : LikeStatements alike.no_holes R front front'
  pub stands : P run call
  pub behinds : LikeStatements alike.no_holes R behind behind'
  pub tails : LikeElse alike.no_holes R o o'

record PartsOfBodies (R : Renaming) (k : ℕ) (P : Statements → Statements → Type 0) (x y : Body) : Type 0 where
  n : Node
  n' : Node
  z : Statements
  z' : Statements
  o : Else
  o' : Else
  is_first : x ≡ named.body n z o
  is_second : y ≡ named.body n' z' o'
  parts : PartsOf R k P n n' z z' o o'

parts_of_bodies : {R : Renaming} {k : ℕ} {P : Statements → Statements → Type 0} {x y : Body} → Replaced R k P x y → PartsOfBodies R k P x y
parts_of_bodies (replaced {n = n} {n' = n'} {o = o} {o' = o'} a a' x y b b' v g l p m d) = record {
  n = n;
  n' = n';
  z = joined a (joined x b);
  z' = joined a' (joined y b');
  o = o;
  o' = o';
  is_first = refl;
  is_second = refl;
  parts = record { front = a; front' = a'; run = x; call = y; behind = b; behind' = b'; is = refl; is' = refl; so_many = v; span = g; fronts = l; stands = p; behinds = m; tails = d };
}

pub parts_of : {R : Renaming} {k : ℕ} {P : Statements → Statements → Type 0} (n n' : Node) (z z' : Statements) (o o' : Else) → Replaced R k P (named.body n z o) (named.body n' z' o') → PartsOf R k P n n' z z' o o'
parts_of {R = R} {k = k} {P = P} n n' z z' o o' h =
    let x = parts_of_bodies h in
    let a : x.n ≡ n = cc in let a' : x.n' ≡ n' = cc in let b : x.z ≡ z = cc in let b' : x.z' ≡ z' = cc in let c : x.o ≡ o = cc in let c' : x.o' ≡ o' = cc in
    subst (λ (y : Else). PartsOf R k P n n' z z' o y) c'
    (subst (λ (y : Else). PartsOf R k P n n' z z' y x.o') c
    (subst (λ (y : Statements). PartsOf R k P n n' z y x.o x.o') b'
    (subst (λ (y : Statements). PartsOf R k P n n' y x.z' x.o x.o') b
    (subst (λ (y : Node). PartsOf R k P n y x.z x.z' x.o x.o') a'
    (subst (λ (y : Node). PartsOf R k P y x.n' x.z x.z' x.o x.o') a x.parts)))))

-- ---- a block in which other statements and another tail stand for the last ones

pub record EndsOf (R : Renaming) (k : ℕ) (P : Statements → Else → Statements → Else → Type 0) (n n' : Node) (z z' : Statements) (o o' : Else) : Type 0 where
  pub front : Statements
  pub front' : Statements
  pub run : Statements
  pub call : Statements
  pub is : z ≡ joined front run
  pub is' : z' ≡ joined front' call
  pub so_many : many front ≡ k
  pub fronts : LikeStatements alike.no_holes R front front'
  pub stands : P run o call o'

record EndsOfBodies (R : Renaming) (k : ℕ) (P : Statements → Else → Statements → Else → Type 0) (x y : Body) : Type 0 where
  n : Node
  n' : Node
  z : Statements
  z' : Statements
  o : Else
  o' : Else
  is_first : x ≡ named.body n z o
  is_second : y ≡ named.body n' z' o'
  parts : EndsOf R k P n n' z z' o o'

ends_of_bodies : {R : Renaming} {k : ℕ} {P : Statements → Else → Statements → Else → Type 0} {x y : Body} → EndReplaced R k P x y → EndsOfBodies R k P x y
ends_of_bodies (end_replaced {n = n} {n' = n'} {o = o} {o' = o'} a a' x y v g l p) = record {
  n = n;
  n' = n';
  z = joined a x;
  z' = joined a' y;
  o = o;
  o' = o';
  is_first = refl;
  is_second = refl;
  parts = record { front = a; front' = a'; run = x; call = y; is = refl; is' = refl; so_many = v; fronts = l; stands = p };
}

pub ends_of : {R : Renaming} {k : ℕ} {P : Statements → Else → Statements → Else → Type 0} (n n' : Node) (z z' : Statements) (o o' : Else) → EndReplaced R k P (named.body n z o) (named.body n' z' o') → EndsOf R k P n n' z z' o o'
ends_of {R = R} {k = k} {P = P} n n' z z' o o' h =
    let x = ends_of_bodies h in
    let a : x.n ≡ n = cc in let a' : x.n' ≡ n' = cc in let b : x.z ≡ z = cc in let b' : x.z' ≡ z' = cc in let c : x.o ≡ o = cc in let c' : x.o' ≡ o' = cc in
    subst (λ (y : Else). EndsOf R k P n n' z z' o y) c'
    (subst (λ (y : Else). EndsOf R k P n n' z z' y x.o') c
    (subst (λ (y : Statements). EndsOf R k P n n' z y x.o x.o') b'
    (subst (λ (y : Statements). EndsOf R k P n n' y x.z' x.o x.o') b
    (subst (λ (y : Node). EndsOf R k P n y x.z x.z' x.o x.o') a'
    (subst (λ (y : Node). EndsOf R k P y x.n' x.z x.z' x.o x.o') a x.parts)))))
