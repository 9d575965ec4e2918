-- Statements that are made in the second program alone, in a row: they resolve one behind the other, and their trees are joined.
use Rattle.std.proofs.Common.{◌≡◌, ℕ, Bool, true, false, List, [], ◌∷◌, ◌++◌, length, map, Option, Some, None, Ok, refl, sym, ap, ◌∙◌, subst, append-nil, append_assoc, ◌&&◌}
use Rattle.std.proofs.lemmas.List.{length-map}
use Rattle.rx_core.specs.declared.types.Span.{Span}
use Rattle.rx_core.specs.declared.types.Position.{Position}
use Rattle.rx_tree.specs.Plain as plain
use Rattle.rx_tree.specs.Plain.{Expression, OptionalExpression, TypeTree, Statement, Statements}
use Rattle.rx_resolve_names.specs.Scopes.{Variables}
use Rattle.rx_resolve_names.specs.declared.resolved.ItemNames.{ItemNames}
use Rattle.rx_resolve_names.specs.declared.resolved.NodeNames.{NodeNames}
use Rattle.rx_resolve_names.specs.Meant.{number, Around}
use Rattle.rx_resolve_names.specs.Steps.{Outcome, and_then, Inside, child, next, entry, with_names, with_variable}
use Rattle.rx_resolve_names.specs.Names.{in_type, in_expression, in_statement, in_statements}
use Rattle.rx_typed.specs.declared.nodes.Node.{Node}
use Rattle.rx_typed.specs.declared.nodes.Site.{Site}
use Rattle.rx_typed.specs.declared.nodes.Stage.{Stage}
use Rattle.rx_typed.specs.Named as named
use Rattle.rx_typed.specs.Named.{Written, Exp, Exps, Else, Pattern}
use Rattle.rx_typed.specs.Naming as numbering
use Rattle.rx_typed.specs.Naming.{Cursor, Numbering, give, an_entry, declare, of_expression, of_expressions, of_optional, of_pattern, of_optional_type, of_statement, of_statements}
use Rattle.rx_hoist_extraction.specs.Run.{as_statements}
use Rattle.rx_hoist_extraction.specs.Made.{binding, done, let_nothing, let_typed}
use Rattle.rx_engine_names.specs.Renaming.{Renaming, Made}
use Rattle.rx_engine_names.specs.Moves.{StandsAt}
use Rattle.rx_engine_names.specs.Replaced.{joined}
use Rattle.rx_engine_names.proofs.SideBySide.{Grows, serves_before, Numbers, and_ok}
use Rattle.rx_engine_names.proofs.Standing.{keeps_annotates, keeps_counted, keeps_between, keeps_waits}
use Rattle.rx_engine_names.proofs.Alone.{Gives, Alone, alone_give, alone_then, alone_map, alone_node, alone_keeps, alone_entry, alone_declare, KindAlone, Makes, makes_then, makes_map}
use Rattle.rx_engine_names.proofs.MadeTypes.{TypeAlone}
use Rattle.rx_engine_names.proofs.MadeCalls.{ExpAlone}
use Rattle.rx_engine_names.proofs.ReplacedBlocks.{past_all, join, in_a_row, numbered_in_a_row}

-- ---- steps

-- what follows takes no entry
pub alone_last : {A B : Type 0} {S : A → Type 0} {T : B → Type 0} {u u1 : ItemNames} {es : List NodeNames} {m : Numbering A} {k : A → Numbering B} → Alone S u u1 es m → ((a : A) → S a → Alone T u1 u1 [] (k a)) → Alone T u u1 es (numbering.and_then m k)
alone_last {m = m} N K = record { holds = λ c rest q e. let x = N.holds c rest q e in (K (m c).0 x.like).holds (m c).1 rest x.stands x.left }

pub alone_equal : {A : Type 0} {S : A → Type 0} {u u1 : ItemNames} {es : List NodeNames} (m n : Numbering A) → ((c : Cursor) → n c ≡ m c) → Alone S u u1 es m → Alone S u u1 es n
alone_equal {S = S} {u1 = u1} m n f N = record { holds = λ c rest q e. subst (λ (z : _ × Cursor). Gives S u1 z rest) (sym (f c)) (N.holds c rest q e) }

-- more was made
abbrev pub makes_later : {items : ℕ → ℕ} {M M' : Made} {u : ItemNames} {X : ItemNames → Type 0} {K : KindAlone} → Grows M M' → Makes items M u X K → Makes items M' u X K
makes_later g a = record { table = a.table; answer = a.answer; added = a.added; grown = a.grown; numbers = λ R sv. a.numbers R (serves_before g sv) }

-- a new variable adds no entry
abbrev pub behind_variable : {items : ℕ → ℕ} {M : Made} {X : ItemNames → Type 0} {K : KindAlone} (s : Span) (u : ItemNames) → Makes items M (with_variable s u) X K → Makes items M u X K
behind_variable s u a = record { table = a.table; answer = a.answer; added = a.added; grown = a.grown; numbers = a.numbers }

-- where more may be made
pub record Later (items : ℕ → ℕ) (M : Made) (u : ItemNames) (X : ItemNames → Type 0) (K : KindAlone) : Type 0 where
  pub made : Made
  pub grows : Grows M made
  pub makes : Makes items made u X K

-- ---- a numbering of a text beside one of the second program

-- where a text's numbering has come to, with any entries
abbrev pub cursor_at : ItemNames → List NodeNames → Cursor
cursor_at t es = record { number = 0; spans = []; loops = map (λ (p : Position). false) t.loops; declared = length t.vars; variables = []; names = es; annotations = [] }

pub stands_there : (t : ItemNames) (es : List NodeNames) → StandsAt t (cursor_at t es)
stands_there t es = (refl, length-map t.loops (λ (p : Position). false))

-- what is alike for each cursor of the text
abbrev pub ForText : {A B : Type 0} → (A → B → Type 0) → ItemNames → List NodeNames → Numbering A → B → Type 0
ForText S t es m b = (c : Cursor) (rest : List NodeNames) → StandsAt t c → c.names ≡ es ++ rest → S (m c).0 b

pub numbers_alone : {A B : Type 0} {S : A → B → Type 0} {t u t1 u1 : ItemNames} {es es' : List NodeNames} {m : Numbering A} {m' : Numbering B} → Numbers S t u t1 u1 es es' m m' → Alone (ForText S t es m) u u1 es' m'
numbers_alone {t = t} {es = es} {m = m} {m' = m'} N = record {
  holds = λ c' rest' q' e'.
      let q = stands_there t (es ++ []) in
      let x = N.holds (cursor_at t (es ++ [])) c' [] rest' (record { declared = q.0; declared' = q'.0; loops = q.1; loops' = q'.1 }) refl e' in record {
        like = λ c rest w e. (N.holds c c' rest rest' (record { declared = w.0; declared' = q'.0; loops = w.1; loops' = q'.1 }) e e').like;
        stands = (x.cursors.declared', x.cursors.loops');
        left = x.left';
      };
}

-- where the text comes to
pub numbers_text : {A B : Type 0} {S : A → B → Type 0} {t u t1 u1 : ItemNames} {es es' : List NodeNames} {m : Numbering A} {m' : Numbering B} → Numbers S t u t1 u1 es es' m m'
    → (c : Cursor) (rest : List NodeNames) → StandsAt t c → c.names ≡ es ++ rest → StandsAt t1 (m c).1 × ((m c).1.names ≡ rest)
numbers_text {u = u} {es' = es'} N c rest q e =
    let q' = stands_there u (es' ++ []) in
    let x = N.holds c (cursor_at u (es' ++ [])) rest [] (record { declared = q.0; declared' = q'.0; loops = q.1; loops' = q'.1 }) e refl in ((x.cursors.declared, x.cursors.loops), x.left)

-- ---- kinds of what is made

abbrev pub ElseAlone : (Renaming → Else → Type 0) → ItemNames → OptionalExpression → KindAlone
ElseAlone S u o R u' es = (k : Site) → Alone (S R) u u' es (of_optional k o)

abbrev pub StatementAlone : (Renaming → named.Statement → Type 0) → ItemNames → Statement → KindAlone
StatementAlone S u a R u' es = Alone (S R) u u' es (of_statement a)

abbrev pub RowAlone : (Renaming → named.Statements → Type 0) → ItemNames → List Statement → KindAlone
RowAlone S u xs R u' es = Alone (S R) u u' es (of_statements (as_statements xs))

pub data Joined (S T : named.Statements → Type 0) : named.Statements → Type 0 where
  joined_of : (a b : named.Statements) → S a → T b → Joined S T (joined a b)

pub data Single (S : named.Statement → Type 0) : named.Statements → Type 0 where
  single_of : {a : named.Statement} → S a → Single S (named.statement_and a named.no_statement)

module _ (items : ℕ → ℕ) (M : Made) (I' : Inside) (ls' : List Around) (at' : List ℕ) where
  -- ---- one behind the other

  abbrev pub Row : ℕ → Variables → ItemNames → List Statement → Variables → (Renaming → named.Statements → Type 0) → Type 0
  Row i sc u xs sc1 S = Makes items M u (λ v. in_statements I' sc ls' at' i (as_statements xs) u ≡ Ok (record { scope = sc1; tables = v })) (RowAlone S u xs)

  pub row_then : (i : ℕ) (sc sc1 sc2 : Variables) (u : ItemNames) (xs ys : List Statement) (S T : Renaming → named.Statements → Type 0) → (a : Row i sc u xs sc1 S) → Row (past_all i xs) sc1 a.table ys sc2 T
      → Row i sc u (xs ++ ys) sc2 (λ R. Joined (S R) (T R))
  row_then i sc sc1 sc2 u xs ys S T a b =
      makes_then a b (λ p q. join I' sc ls' at' i xs ys u (record { scope = sc1; tables = a.table }) (record { scope = sc2; tables = b.table }) p q)
      (λ R sv N O. alone_equal (in_a_row xs ys) (of_statements (as_statements (xs ++ ys))) (numbered_in_a_row xs ys) (alone_then N (λ x p. alone_map (joined x) O (λ y q. joined_of x y p q))))

  pub row_of_none : (i : ℕ) (sc : Variables) (u : ItemNames) (S : Renaming → named.Statements → Type 0) → ((R : Renaming) → S R named.no_statement) → Row i sc u [] sc S
  row_of_none i sc u S h = record { table = u; answer = refl; added = []; grown = sym (append-nil u.names); numbers = λ R sv. alone_give named.no_statement (h R) }

  pub row_of_one : (i : ℕ) (sc sc1 : Variables) (u : ItemNames) (a : Statement) (S : Renaming → named.Statement → Type 0)
      → Makes items M u (λ v. in_statement I' sc ls' (child at' i) a u ≡ Ok (record { scope = sc1; tables = v })) (StatementAlone S u a) → Row i sc u (a ∷ []) sc1 (λ R. Single (S R))
  row_of_one i sc sc1 u a S x =
      makes_map x (λ p. and_ok (in_statement I' sc ls' (child at' i) a u) (record { scope = sc1; tables = x.table }) (λ r. in_statements I' r.scope ls' at' (next i) plain.no_statement r.tables) (Ok (record { scope = sc1; tables = x.table })) p refl)
      (λ R sv N. alone_last N (λ b h. alone_give (named.statement_and b named.no_statement) (single_of h)))

-- ---- `let x: T;`, `let x: T = e;`, `e;`

-- a pattern that is a name
pub data IsBinding (s : Span) (v : ℕ) (m : Bool) : Pattern → Type 0 where
  is_binding : {n : Node} → n.span ≡ s → IsBinding s v m (named.bind n v m)

-- the tables behind the name, at this way
abbrev pub bound_there : Inside → List ℕ → Span → ItemNames → ItemNames
bound_there I' at' s u = with_names (entry I' at' (number (length u.vars) ∷ [])) (with_variable s u)

binding_alone : (I' : Inside) (at' : List ℕ) (s : Span) (x : List ℕ) (m : Bool) (u : ItemNames) → Alone (IsBinding s (length u.vars) m) u (bound_there I' at' s u) (entry I' at' (number (length u.vars) ∷ []) ∷ []) (of_pattern (binding s x m))
binding_alone I' at' s x m u =
    let z = entry I' at' (number (length u.vars) ∷ []) in
    alone_node s Site.Value (λ n g. alone_then (alone_entry z) (λ a h. alone_map (λ v. named.bind n v m) (alone_declare s (record { mutable = m; stage = Stage.Given }))
    (λ v h. subst (λ (k : ℕ). IsBinding s (length u.vars) m (named.bind n k m)) (sym h) (is_binding g))))

-- the next variable has number v
pub data IsDeclaration (s : Span) (v : ℕ) (m : Bool) (W : Written → Type 0) : named.Statement → Type 0 where
  is_declaration : {l p : Node} {w : Written} → l.span ≡ s → p.span ≡ s → W w → IsDeclaration s v m W (named.declares l (named.bind p v m) (Some w))

pub data IsLet (s : Span) (v : ℕ) (W : Written → Type 0) (E : Exp → Type 0) : named.Statement → Type 0 where
  is_let : {l p : Node} {w : Written} {e : Exp} → l.span ≡ s → p.span ≡ s → W w → E e → IsLet s v W E (named.lets l (named.bind p v false) (Some w) e)

pub data IsStatement (s : Span) (E : Exp → Type 0) : named.Statement → Type 0 where
  is_statement : {n : Node} {e : Exp} → n.span ≡ s → E e → IsStatement s E (named.evaluates n e true)

declaration_of : {s : Span} {v : ℕ} {m : Bool} {W : Written → Type 0} (l : Node) (p : Pattern) (w : Written) → l.span ≡ s → IsBinding s v m p → W w → IsDeclaration s v m W (named.declares l p (Some w))
declaration_of l p w g (is_binding h) d = is_declaration g h d

let_of : {s : Span} {v : ℕ} {W : Written → Type 0} {E : Exp → Type 0} (l : Node) (p : Pattern) (w : Written) (e : Exp) → l.span ≡ s → IsBinding s v false p → W w → E e → IsLet s v W E (named.lets l p (Some w) e)
let_of l p w e g (is_binding h) d f = is_let g h d f

-- the type that is written
pub data Given (W : Written → Type 0) : Option Written → Type 0 where
  given_as : {w : Written} → W w → Given W (Some w)

declared_as : {s : Span} {v : ℕ} {m : Bool} {W : Written → Type 0} (l : Node) (p : Pattern) (o : Option Written) → l.span ≡ s → IsBinding s v m p → Given W o → IsDeclaration s v m W (named.declares l p o)
declared_as l p (Some w) g h (given_as d) = declaration_of l p w g h d
declared_as l p None g h d = elim d [ ]

let_as : {s : Span} {v : ℕ} {W : Written → Type 0} {E : Exp → Type 0} (l : Node) (p : Pattern) (o : Option Written) (e : Exp) → l.span ≡ s → IsBinding s v false p → Given W o → E e → IsLet s v W E (named.lets l p o e)
let_as l p (Some w) e g h (given_as d) f = let_of l p w e g h d f
let_as l p None e g h d f = elim d [ ]

module _ (items : ℕ → ℕ) (M : Made) (I' : Inside) (ls' : List Around) (at' : List ℕ) (sc : Variables) (s : Span) where
  -- the scope behind it
  abbrev pub bound_scope : List ℕ → ItemNames → Variables
  bound_scope x u = record { name = x; number = number (length u.vars) } ∷ sc

  pub declaration_made : (x : List ℕ) (m : Bool) (y : TypeTree) (W : Renaming → Written → Type 0) (u : ItemNames)
      → Makes items M (bound_there I' (child at' 0) s u) (λ v. in_type I' (child at' 1) y (bound_there I' (child at' 0) s u) ≡ Ok v) (TypeAlone W (bound_there I' (child at' 0) s u) y)
      → Makes items M u (λ v. in_statement I' sc ls' at' (let_nothing s x m y) u ≡ Ok (record { scope = bound_scope x u; tables = v })) (StatementAlone (λ R. IsDeclaration s (length u.vars) m (W R)) u (let_nothing s x m y))
  declaration_made x m y W u T = record {
    table = T.table;
    answer = ap (λ (o : Outcome ItemNames). and_then (and_then o (λ t. Ok t)) (λ t. Ok (record { scope = bound_scope x u; tables = t }))) T.answer;
    added = entry I' (child at' 0) (number (length u.vars) ∷ []) ∷ T.added;
    grown = T.grown ∙ append_one u.names (entry I' (child at' 0) (number (length u.vars) ∷ [])) T.added;
    numbers = λ R sv.
        alone_node s Site.Value (λ l g. alone_keeps (keeps_annotates (binding s x m) (Some y)) (λ _. alone_keeps keeps_counted (λ i. alone_then (binding_alone I' (child at' 0) s x m u) (λ p h. alone_keeps keeps_counted (λ j.
        alone_last (alone_map {T = Given (W R)} (λ w. Some w) (T.numbers R sv) (λ w d. given_as d)) (λ o d. alone_keeps (keeps_between i j) (λ _. alone_keeps (keeps_waits (numbering.has_no_type o) p) (λ _. alone_give (named.declares l p o) (declared_as l p o g h d)))))))));
  }
    where
      append_one : (xs : List NodeNames) (z : NodeNames) (ys : List NodeNames) → (xs ++ z ∷ []) ++ ys ≡ xs ++ (z ∷ ys)
      append_one xs z ys = append_assoc xs (z ∷ []) ys

  pub let_made : (x : List ℕ) (y : TypeTree) (e : Expression) (W : Renaming → Written → Type 0) (E : Renaming → Exp → Type 0) (u : ItemNames)
      → (T : Makes items M (bound_there I' (child at' 0) s u) (λ v. in_type I' (child at' 1) y (bound_there I' (child at' 0) s u) ≡ Ok v) (TypeAlone W (bound_there I' (child at' 0) s u) y))
      → Makes items M T.table (λ v. in_expression I' sc ls' (child at' 2) e T.table ≡ Ok v) (ExpAlone E T.table e)
      → Makes items M u (λ v. in_statement I' sc ls' at' (let_typed s x y e) u ≡ Ok (record { scope = bound_scope x u; tables = v })) (StatementAlone (λ R. IsLet s (length u.vars) (W R) (E R)) u (let_typed s x y e))
  let_made x y e W E u T N = record {
    table = N.table;
    answer = ap (λ (o : Outcome ItemNames). and_then (and_then o (in_expression I' sc ls' (child at' 2) e)) (λ t. Ok (record { scope = bound_scope x u; tables = t }))) T.answer
        ∙ ap (λ (o : Outcome ItemNames). and_then o (λ t. Ok (record { scope = bound_scope x u; tables = t }))) N.answer;
    added = entry I' (child at' 0) (number (length u.vars) ∷ []) ∷ (T.added ++ N.added);
    grown = N.grown ∙ ap (λ (l : List NodeNames). l ++ N.added) T.grown ∙ append_two u.names (entry I' (child at' 0) (number (length u.vars) ∷ [])) T.added N.added;
    numbers = λ R sv.
        alone_node s Site.Value (λ l g. alone_keeps (keeps_annotates (binding s x false) (Some y)) (λ _. alone_keeps keeps_counted (λ i. alone_then (binding_alone I' (child at' 0) s x false u) (λ p h. alone_keeps keeps_counted (λ j.
        alone_then (alone_map {T = Given (W R)} (λ w. Some w) (T.numbers R sv) (λ w d. given_as d)) (λ o d. alone_last (N.numbers R sv false (numbering.initialiser_site o)) (λ a f.
        alone_keeps (keeps_between i j) (λ _. alone_keeps (keeps_waits (numbering.has_no_type o && named.never a) p) (λ _. alone_give (named.lets l p o a) (let_as l p o a g h d f))))))))));
  }
    where
      append_two : (xs : List NodeNames) (z : NodeNames) (ys zs : List NodeNames) → ((xs ++ z ∷ []) ++ ys) ++ zs ≡ xs ++ (z ∷ (ys ++ zs))
      append_two xs z ys zs = append_assoc (xs ++ z ∷ []) ys zs ∙ append_assoc xs (z ∷ []) (ys ++ zs)

  pub statement_made : (e : Expression) (E : Renaming → Exp → Type 0) (u : ItemNames) → Makes items M u (λ v. in_expression I' sc ls' (child at' 0) e u ≡ Ok v) (ExpAlone E u e)
      → Makes items M u (λ v. in_statement I' sc ls' at' (done s e) u ≡ Ok (record { scope = sc; tables = v })) (StatementAlone (λ R. IsStatement s (E R)) u (done s e))
  statement_made e E u N = makes_map N (λ a. ap (λ (o : Outcome ItemNames). and_then o (λ t. Ok (record { scope = sc; tables = t }))) a)
      (λ R sv K. alone_node s Site.Value (λ n g. alone_map (λ a. named.evaluates n a true) (K false Site.Value) (λ a h. is_statement g h)))
