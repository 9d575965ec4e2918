-- A variable that a call binds is new, or comes from the text, where it has the type that the call gives it.
use Rattle.std.specs.Str.{bytes_eq}
use Rattle.std.proofs.Common.{◌≡◌, ◌≤◌, ◌<◌, ◌⊎◌, inl, inr, ℕ, suc, Bool, true, false, if◌then◌else◌, List, [], ◌∷◌, length, map, Option, Some, None, option_map, refl, sym, ap, ◌∙◌, subst, arith}
use Rattle.rx_core.specs.declared.types.Span.{Span}
use Rattle.rx_tree.specs.Plain.{OptionalExpression, Statement}
use Rattle.rx_resolve_names.specs.Meant.{number}
use Rattle.rx_resolve_names.specs.Scopes.{entered, variable_named, Variables}
use Rattle.rx_resolve_names.specs.Steps.{Inside}
use Rattle.rx_typed.specs.declared.nodes.Site.{Site}
use Rattle.rx_typed.specs.Named.{Else, Statements}
use Rattle.rx_typed.specs.Naming.{of_optional, of_statements, Cursor}
use Rattle.rx_typed.specs.Types.{Typ}
use Rattle.rx_hoist_extraction.specs.Run.{as_statements}
use Rattle.rx_hoist_extraction.specs.Call.{is_own}
use Rattle.rx_hoist_extraction.specs.Names.{Names}
use Rattle.rx_hoist_extraction.specs.Plan.{names_of, Plan, Variable}
use Rattle.rx_hoist_extraction.specs.Values.{held_by, next_values, result_of, types_of, Value}
use Rattle.rx_typeck_solver.specs.declared.facts.Subject.{Subject}
use Rattle.rx_typeck_solver.specs.declared.facts.Subject.TheVariants as subject
use Rattle.rx_typeck_solver.specs.Facts.{Assignment, KnownItems}
use Rattle.rx_engine_names.specs.Renaming.{Renaming}
use Rattle.rx_engine_names.specs.HandedOut.{Handing}
use Rattle.rx_engine_names.specs.HandsOver.{at_place, declared_from, handed_names, received_names, told_handed}
use Rattle.rx_engine_names.specs.Placed.{EndFor, Meet, NamedByBoth, Place, StandFor, ToldLast}
use Rattle.rx_engine_names.proofs.NewScopes.{is_name}
use Rattle.rx_engine_blocks.specs.Renumbering.{shape_at, Renumbering}
use Rattle.rx_engine_blocks.specs.Along.{PartialInverse}
use Rattle.rx_engine_holes.specs.Entries.{Context, Entries}
use Rattle.rx_engine_holes.specs.CallFits.{StatementsFit}
use Rattle.rx_engine_changed.specs.Beside.{Numbers}
use Rattle.rx_engine_changed.specs.HandedTypes.{ItemsDeclare, NextAgrees}
use Rattle.rx_engine_changed.specs.Inside.{StandsThere, VariablesStand}
use Rattle.rx_engine_changed.proofs.Deeds.{statements_does, AreFrom}
use Rattle.rx_engine_standing.specs.Bound.{bound_types, variable_types, TypedBehind}
use Rattle.rx_engine_standing.specs.CallBinds.{CallBinds, ComesBack}
use Rattle.rx_engine_standing.proofs.Declared.{all_declared, entry_between, one_type, variables_in}
use Rattle.rx_engine_standing.proofs.Entries.{later_entry, the_entry, FewIn, HasEntry, RowHas}
use Rattle.rx_engine_standing.proofs.Having.{hands}
use Rattle.rx_engine_standing.proofs.Tied.{end_counted, statements_counted}

-- ---- as many names as types

received_many : (pl : Plan) (own : Names) (i : ℕ) (hs : List Value) → length (received_names pl own i hs) ≡ length hs
received_many pl own i [] = refl
received_many pl own i (result_of t ∷ hs) = ap suc (received_many pl own (suc i) hs)
received_many pl own i (held_by v ∷ hs) = ap suc (received_many pl own (suc i) hs)

types_many : (hs : List Value) → length (types_of hs) ≡ length hs
types_many [] = refl
types_many (h ∷ hs) = ap suc (types_many hs)

bound_many : (pl : Plan) (own : Names) (hs : List Value) → length (handed_names pl own hs) ≡ length (bound_types own hs)
bound_many pl own [] = refl
bound_many pl own (result_of t ∷ []) = refl
bound_many pl own (held_by v ∷ []) = by (is_own own v)
  where
    by : (b : Bool) → length (if b then v.name ∷ [] else []) ≡ length (if b then v.typ ∷ [] else [])
    by true = refl
    by false = refl
bound_many pl own (result_of t ∷ i ∷ hs) = received_many pl own 0 (result_of t ∷ i ∷ hs) ∙ sym (types_many (result_of t ∷ i ∷ hs))
bound_many pl own (held_by v ∷ i ∷ hs) = received_many pl own 0 (held_by v ∷ i ∷ hs) ∙ sym (types_many (held_by v ∷ i ∷ hs))

redeclared_many : (vs : List Variable) → length (names_of vs) ≡ length (variable_types vs)
redeclared_many [] = refl
redeclared_many (v ∷ vs) = ap suc (redeclared_many vs)

some_number : (n m : ℕ) → Some n ≡ Some m → m ≡ n
some_number n m e = cc

-- ---- entries one by one

all_stand : (q : Renumbering) (w : PartialInverse q) (A : Assignment) (es : Entries) → ((x : Subject) (t : Typ) → HasEntry x t es → StandsThere q w A x t) → VariablesStand q w A es
all_stand q w A [] f = tt
all_stand q w A (e ∷ es) f = (f e.0 e.1 (the_entry refl refl), all_stand q w A es (λ x t h. f x t (later_entry h)))

-- each is, where each variable that comes from the text has its type there
pub variables_stand : (q : Renumbering) (w : PartialInverse q) (A : Assignment) (es : Entries) → ((x y : ℕ) (t : Typ) → HasEntry (subject.Variable y) t es → w.variable y ≡ Some x → shape_at q (A (subject.Variable x)) ≡ t) → VariablesStand q w A es
variables_stand q w A es f = all_stand q w A es one
  where
    from : (y : ℕ) (t : Typ) → HasEntry (subject.Variable y) t es → (o : Option ℕ) → w.variable y ≡ o → StandsThere q w A (subject.Variable y) t
    from y t h None e = inl e
    from y t h (Some x) e = inr (ap (λ (o : Option ℕ). option_map (λ z. shape_at q (A z)) (option_map subject.Variable o)) e ∙ ap (λ (u : Typ). Some u) (f x y t h e))

    one : (x : Subject) (t : Typ) → HasEntry x t es → StandsThere q w A x t
    one (subject.Variable y) t h = from y t h (w.variable y) refl
    one (subject.Node n) t h = tt
    one (subject.Expected n) t h = tt

-- ---- names behind

module _ (q : Renumbering) (A : Assignment) (made : Entries) (sc : Variables) where
  -- a name that is bound behind: its variable has an entry, with the type of the text's variable that it means
  record Bound (z : List ℕ) (y : ℕ) : Type 0 where
    typ : Typ
    first : ℕ
    entry : HasEntry (subject.Variable first) (shape_at q typ) made
    is : y ≡ number first
    typed : (j : ℕ) → variable_named sc z ≡ Some j → A (subject.Variable j) ≡ typ

  found : (s : Span) (d : ℕ) (xs : Names) (ts : List Typ) → length xs ≡ length ts → (sc' : Variables) (z : List ℕ) (y : ℕ) → RowHas made d (map (shape_at q) ts) → TypedBehind A sc xs ts → variable_named (entered sc' (declared_from s d xs)) z ≡ Some y
      → Bound z y ⊎ (variable_named sc' z ≡ Some y)
  found s d [] [] l sc' z y row typed h = inr h
  found s d [] (t ∷ ts) l sc' z y row typed h = absurd (omega (arith, l))
  found s d (x ∷ xs) [] l sc' z y row typed h = absurd (omega (arith, l))
  found s d (x ∷ xs) (t ∷ ts) l sc' z y row typed h = by (found s (suc d) xs ts (omega (arith, l)) (record { name = x; number = number d } ∷ sc') z y row.1 typed.1 h)
    where
      here : (b : Bool) → bytes_eq z x ≡ b → (if b then Some (number d) else variable_named sc' z) ≡ Some y → Bound z y ⊎ (variable_named sc' z ≡ Some y)
      here true e k = inl (record { typ = t; first = d; entry = row.0; is = some_number (number d) y k; typed = λ j v. typed.0 j (ap (λ (w : List ℕ). variable_named sc w) (sym (is_name z x e)) ∙ v) })
      here false e k = inr k

      by : Bound z y ⊎ (variable_named (record { name = x; number = number d } ∷ sc') z ≡ Some y) → Bound z y ⊎ (variable_named sc' z ≡ Some y)
      by (inl o) = inl o
      by (inr k) = here (bytes_eq z x) refl k

second_in_front : (n m : ℕ) (o o' : Option ℕ) → Meet (λ i j. (i < n) × (j < m)) o o' → (y : ℕ) → o' ≡ Some y → y < m
second_in_front n m None None h y e = absurd (cc)
second_in_front n m (Some i) None h y e = absurd h
second_in_front n m None (Some j) h y e = absurd h
second_in_front n m (Some i) (Some j) h y e = let l = h.1 in let k = some_number j y e in omega (arith, l, k)

-- ---- of a call

module _ (E : KnownItems) (f : ℕ) (N : Numbers) (R : Renaming) (follows : (n : ℕ) → N.by.items n ≡ R.item n) (G : Handing) (I I' : Inside) (front run call : List Statement) (p : Place) (x : Statements) (c : Cursor)
    (s : StandFor (told_handed G) I I' front run call p R x (of_statements (as_statements call) c).0) (items : ItemsDeclare E N.by (at_place G s.text.middle.scope p.around) f) (agrees : NextAgrees (at_place G s.text.middle.scope p.around)) (A : Assignment)
    (binds : CallBinds N R A G I I' front run call p x (of_statements (as_statements call) c).0 s (of_statements (as_statements call) c).1) (B : Context) (made : Entries) (fits : StatementsFit E f B (of_statements (as_statements call) c).0 made) where
  abbrev last : Cursor
  last = (of_statements (as_statements call) c).1

  -- its variables are numbered in a row
  inside : AreFrom c.declared (variables_in made) last.declared
  inside = subst (λ (xs : List ℕ). AreFrom c.declared xs last.declared) (sym (all_declared E f fits)) (statements_does 0 (as_statements call) c).variables

  few : FewIn made
  few y t h = let b = (entry_between c.declared last.declared inside h).1 in let l = binds.few in omega (arith, b, l)

  abbrev pl : Plan
  pl = G.call.plan

  rows : RowHas made (length s.made.middle.tables.vars) (map (shape_at N.by) (bound_types G.own (next_values pl))) × RowHas made s.told.0 (map (shape_at N.by) (variable_types pl.redeclared))
  rows = hands E f N.by (at_place G s.text.middle.scope p.around) R items agrees follows pl.redeclared (next_values pl) refl s.told.2 few fits

  -- a variable is declared, so the numbering stands where the names do
  counted : (y : ℕ) (t : Typ) → HasEntry (subject.Variable y) t made → (c.declared ≡ length s.made.middle.tables.vars) × (last.declared ≡ length s.made.end.tables.vars)
  counted y t h = let b = entry_between c.declared last.declared inside h in let i = b.0 in let j = b.1 in statements_counted I' p.start p.round p.way' front call p.tables' c s.made (omega (arith, i, j))

  typed : (z : List ℕ) (k y : ℕ) (t : Typ) → HasEntry (subject.Variable y) t made → variable_named s.text.end.scope z ≡ Some k → Bound N.by A made s.text.end.scope z y → shape_at N.by (A (subject.Variable k)) ≡ t
  typed z k y t h v o =
      let e : y ≡ o.first = o.is ∙ few o.first (shape_at N.by o.typ) o.entry in
      ap (λ (u : Typ). shape_at N.by u) (o.typed k v) ∙ one_type c.declared last.declared inside (subst (λ (n : ℕ). HasEntry (subject.Variable n) (shape_at N.by o.typ) made) (sym e) o.entry) h

  by_name : (z : List ℕ) (k y : ℕ) (t : Typ) → HasEntry (subject.Variable y) t made → variable_named s.text.end.scope z ≡ Some k → variable_named s.made.end.scope z ≡ Some y → shape_at N.by (A (subject.Variable k)) ≡ t
  by_name z k y t h v w =
      last_found (found N.by A made s.text.end.scope G.call.place s.told.0 (names_of pl.redeclared) (variable_types pl.redeclared) (redeclared_many pl.redeclared) inner z y rows.1 binds.redeclared (ap (λ (sc : Variables). variable_named sc z) (sym s.told.1) ∙ w))
    where
      inner : Variables
      inner = entered s.made.middle.scope (declared_from G.call.place (length s.made.middle.tables.vars) (handed_names pl G.own (next_values pl)))

      first_found : Bound N.by A made s.text.end.scope z y ⊎ (variable_named s.made.middle.scope z ≡ Some y) → shape_at N.by (A (subject.Variable k)) ≡ t
      first_found (inl o) = typed z k y t h v o
      first_found (inr e) = let b = (entry_between c.declared last.declared inside h).0 in let l = second_in_front _ _ (variable_named s.text.middle.scope z) (variable_named s.made.middle.scope z) (s.earlier z) y e in let m = (counted y t h).0 in absurd (omega (arith, b, l, m))

      last_found : Bound N.by A made s.text.end.scope z y ⊎ (variable_named inner z ≡ Some y) → shape_at N.by (A (subject.Variable k)) ≡ t
      last_found (inl o) = typed z k y t h v o
      last_found (inr e) = first_found (found N.by A made s.text.end.scope G.call.place (length s.made.middle.tables.vars) (handed_names pl G.own (next_values pl)) (bound_types G.own (next_values pl)) (bound_many pl G.own (next_values pl)) s.made.middle.scope z y rows.0 binds.handed e)

  pub call_variables_stand : VariablesStand N.by N.back A made
  call_variables_stand = variables_stand N.by N.back A made one
    where
      cases : (k y : ℕ) (t : Typ) → HasEntry (subject.Variable y) t made → ((k < length s.text.middle.tables.vars) × (y < length s.made.middle.tables.vars)) ⊎ (NamedByBoth run call s.text.end.scope s.made.end.scope k y ⊎ ((length s.text.end.tables.vars ≤ k) × (length s.made.end.tables.vars ≤ y)))
          → shape_at N.by (A (subject.Variable k)) ≡ t
      cases k y t h (inl a) = let b = (entry_between c.declared last.declared inside h).0 in let l = a.1 in let e = (counted y t h).0 in absurd (omega (arith, b, l, e))
      cases k y t h (inr (inl z)) = by_name z.0 k y t h z.3 z.4
      cases k y t h (inr (inr a)) = let b = (entry_between c.declared last.declared inside h).1 in let l = a.1 in let e = (counted y t h).1 in absurd (omega (arith, b, l, e))

      one : (k y : ℕ) (t : Typ) → HasEntry (subject.Variable y) t made → N.back.variable y ≡ Some k → shape_at N.by (A (subject.Variable k)) ≡ t
      one k y t h e = cases k y t h (s.variables k y (binds.back k y e (entry_between c.declared last.declared inside h).1))

-- ---- of a call at the block's end: its variables are new

module _ (N : Numbers) (R : Renaming) (T : ToldLast) (I I' : Inside) (front run call : List Statement) (tail other : OptionalExpression) (p : Place) (x : Statements) (o : Else) (c : Cursor) (k : Site)
    (s : EndFor T I I' front run call tail other p R x o (of_statements (as_statements call) c).0 (of_optional k other (of_statements (as_statements call) c).1).0) where
  abbrev end : Cursor
  end = (of_optional k other (of_statements (as_statements call) c).1).1

  pub end_variables_stand : ComesBack N R end.declared → (A : Assignment) (made : Entries) → AreFrom c.declared (variables_in made) end.declared → VariablesStand N.by N.back A made
  end_variables_stand back A made inside = variables_stand N.by N.back A made one
    where
      counted : (n : ℕ) (t : Typ) → HasEntry (subject.Variable n) t made → (c.declared ≡ length s.made.middle.tables.vars) × (end.declared ≡ length s.made.resolves.tables.vars)
      counted n t h = let b = entry_between c.declared end.declared inside h in let i = b.0 in let j = b.1 in end_counted I' p.start p.round p.way' front call other k p.tables' c s.made (omega (arith, i, j))

      cases : (m n : ℕ) (t : Typ) → HasEntry (subject.Variable n) t made → ((m < length s.text.middle.tables.vars) × (n < length s.made.middle.tables.vars)) ⊎ ((length s.text.resolves.tables.vars ≤ m) × (length s.made.resolves.tables.vars ≤ n)) → shape_at N.by (A (subject.Variable m)) ≡ t
      cases m n t h (inl a) = let i = (entry_between c.declared end.declared inside h).0 in let l = a.1 in let e = (counted n t h).0 in absurd (omega (arith, i, l, e))
      cases m n t h (inr a) = let j = (entry_between c.declared end.declared inside h).1 in let l = a.1 in let e = (counted n t h).1 in absurd (omega (arith, j, l, e))

      one : (m n : ℕ) (t : Typ) → HasEntry (subject.Variable n) t made → N.back.variable n ≡ Some m → shape_at N.by (A (subject.Variable m)) ≡ t
      one m n t h e = cases m n t h (s.variables m n (back m n e (entry_between c.declared end.declared inside h).1))
