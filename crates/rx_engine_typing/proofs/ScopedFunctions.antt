-- A function whose names have a meaning is scoped: its parameters are the first variables, and its body stands in their scope.
use Rattle.std.proofs.Common.{◌≡◌, ℕ, suc, Bool, true, false, not, ◌||◌, List, [], ◌∷◌, ◌++◌, length, map, Option, Some, None, Ok, refl, sym, ap, ◌∙◌, subst, append-nil, arith}
use Rattle.rx_core.specs.declared.types.Span.{Span}
use Rattle.rx_tree.specs.declared.tree.Ident.{Ident}
use Rattle.rx_tree.specs.declared.tree.BoundLifetime.{BoundLifetime}
use Rattle.rx_tree.specs.Plain as plain
use Rattle.rx_tree.specs.Plain.{TypeTree, TypeTrees, Parameter, Function, ItemTree, ProgramTree}
use Rattle.rx_resolve_names.specs.Scopes as scopes
use Rattle.rx_resolve_names.specs.Scopes.{DeclaredNames, Variables, declared_as}
use Rattle.rx_resolve_names.specs.declared.resolved.ItemNames.{ItemNames}
use Rattle.rx_resolve_names.specs.declared.resolved.NodeNames.{NodeNames}
use Rattle.rx_resolve_names.specs.Meant.{number, number_in, firsts, lifetimes_declared}
use Rattle.rx_resolve_names.specs.Steps.{Outcome, and_then, ◌>>◌, Inside, known, one, both, declare, child, next, with_names, with_variable, entry, numbered}
use Rattle.rx_resolve_names.specs.Names.{lifetime_in, lifetimes_in, type_in, written, in_lifetime, in_type, in_types, Bound, in_optional_type, in_block}
use Rattle.rx_resolve_names.specs.Items.{bounds_in, lifetimes_of, in_parameter, in_parameters, numbers_from, body_at, in_function, in_item}
use Rattle.rx_typed.specs.declared.nodes.Site.{Site}
use Rattle.rx_typed.specs.declared.nodes.Stage.{Stage}
use Rattle.rx_typed.specs.Named as named
use Rattle.rx_typed.specs.Naming as numbering
use Rattle.rx_typed.specs.Naming.{Cursor, Numbering, function_named, is_nothing, has_bounds, has_entry, entry_if}
use Rattle.rx_engine_typing.specs.Scoped.{entered, AllNew, parameter_variables, ScopedBody, ScopedFunction}
use Rattle.rx_engine_typing.proofs.Steps.{Counts, named_ok, the_same, one_more, Takes, takes_then, takes_give, takes_map, takes_declare, Few, Part, in_turn, in_turn4, unchanged, entry_part}
use Rattle.rx_engine_typing.proofs.ScopedPatterns.{any_entry, type_taken, optional_type_taken, from_number, Binds, both_bound, names_still, declared_further}
use Rattle.rx_engine_typing.proofs.InScope.{Stands, later, stands_entered, all_new}
use Rattle.rx_engine_typing.proofs.ScopedExpressions.{body_taken}

-- ---- the entry of a function

both_ok : (a b : Outcome (List ℕ)) (ns : List ℕ) → both a b ≡ Ok ns → (as' : List ℕ) × (bs : List ℕ) × (a ≡ Ok as') × (b ≡ Ok bs) × (ns ≡ as' ++ bs)
both_ok a b ns e =
    let x = named_ok a (λ ns. and_then b (λ ms. Ok (ns ++ ms))) ns e in let y = named_ok b (λ ms. Ok (x.0 ++ ms)) ns x.2 in
    (x.0, y.0, x.1, y.1, sym (the_same (x.0 ++ y.0) ns y.2))

nothing_append : (xs ys : List ℕ) → not (is_nothing (xs ++ ys)) ≡ (not (is_nothing xs) || not (is_nothing ys))
nothing_append [] ys = refl
nothing_append (x ∷ xs) ys = refl

one_or_more : (I : Inside) (l : Ident) (ls : List Ident) (ns : List ℕ) → bounds_in I (l ∷ ls) ≡ Ok ns → not (is_nothing ns) ≡ true
one_or_more I l ls ns e =
    let x = both_ok (one (known (number_in I.lifetimes l.name) l.span)) (bounds_in I ls) ns e in
    let y = named_ok (known (number_in I.lifetimes l.name) l.span) (λ n. Ok (n ∷ [])) x.0 x.2 in
    ap (λ (l : List ℕ). not (is_nothing l)) (x.4 ∙ ap (λ (l : List ℕ). l ++ x.1) (sym (the_same (y.0 ∷ []) x.0 y.2)))

bounds_entry : (I : Inside) (ls : List Ident) (ns : List ℕ) → bounds_in I ls ≡ Ok ns → not (is_nothing ns) ≡ not (is_nothing ls)
bounds_entry I [] ns e = ap (λ (l : List ℕ). not (is_nothing l)) (sym (the_same [] ns e))
bounds_entry I (l ∷ ls) ns e = one_or_more I l ls ns e

lifetimes_entry : (I : Inside) (ds : DeclaredNames) (n : ℕ) (ls : List BoundLifetime) (ns : List ℕ) → lifetimes_of I ds n ls ≡ Ok ns → not (is_nothing ns) ≡ has_bounds ls
lifetimes_entry I ds n [] ns e = ap (λ (l : List ℕ). not (is_nothing l)) (sym (the_same [] ns e))
lifetimes_entry I ds n (l ∷ ls) ns e =
    let x = named_ok (declare ds l.name n) (λ ds. both (bounds_in I l.bounds) (lifetimes_of I ds (suc n) ls)) ns e in
    let y = both_ok (bounds_in I l.bounds) (lifetimes_of I x.0 (suc n) ls) ns x.2 in
    ap (λ (z : List ℕ). not (is_nothing z)) y.4 ∙ nothing_append y.0 y.1
    ∙ ap (λ (b : Bool). b || not (is_nothing y.1)) (bounds_entry I l.bounds y.0 y.2) ∙ ap (λ (b : Bool). not (is_nothing l.bounds) || b) (lifetimes_entry I x.0 (suc n) ls y.1 y.3)

numbers_entry_of : (n : ℕ) (xs : List Parameter) → is_nothing (numbers_from n xs) ≡ is_nothing xs
numbers_entry_of n [] = refl
numbers_entry_of n (x ∷ xs) = refl

pub function_entry : (I : Inside) (f : Function) (ns : List ℕ) → lifetimes_of I [] 0 f.lifetimes ≡ Ok ns → not (is_nothing (ns ++ numbers_from 0 f.params)) ≡ has_entry f
function_entry I f ns e =
    nothing_append ns (numbers_from 0 f.params) ∙ ap (λ (b : Bool). b || not (is_nothing (numbers_from 0 f.params))) (lifetimes_entry I [] 0 f.lifetimes ns e)
    ∙ ap (λ (b : Bool). has_bounds f.lifetimes || not b) (numbers_entry_of 0 f.params)

abbrev pub EntryTaken : Bool → ItemNames → ItemNames → Type 0
EntryTaken b t t' = Part t t' (λ es. Takes (λ (a : List ℕ × Bool). Unit {0}) t t' es (entry_if b))

pub entry_taken : (I : Inside) (at ks : List ℕ) (t t' : ItemNames) → numbered I at ks t ≡ Ok t' → EntryTaken (not (is_nothing ks)) t t'
entry_taken I at [] t t' e = unchanged t t' (λ v es. Takes (λ (a : List ℕ × Bool). Unit {0}) t v es (entry_if false)) e (takes_give numbering.no_names tt)
entry_taken I at (k ∷ ks) t t' e = any_entry (entry_part I at t t' k ks (Ok (k ∷ ks)) refl e)

-- ---- entries and types add no variable

abbrev SameCounts : ItemNames → ItemNames → Type 0
SameCounts t t' = (length t'.vars ≡ length t.vars) × (length t'.loops ≡ length t.loops)

still : (t t' : ItemNames) → ◌≡◌ {A = Outcome ItemNames} (Ok t) (Ok t') → SameCounts t t'
still t t' e = let s = the_same t t' e in (ap (λ (v : ItemNames). length v.vars) (sym s), ap (λ (v : ItemNames). length v.loops) (sym s))

pub numbered_still : (I : Inside) (at ks : List ℕ) (t t' : ItemNames) → numbered I at ks t ≡ Ok t' → SameCounts t t'
numbered_still I at [] t t' e = still t t' e
numbered_still I at (k ∷ ks) t t' e = let q = still (with_names (entry I at (k ∷ ks)) t) t' e in (q.0, q.1)

then_still : (t t1 t2 : ItemNames) → SameCounts t t1 → SameCounts t1 t2 → SameCounts t t2
then_still t t1 t2 a b = (b.0 ∙ a.0, b.1 ∙ a.1)

lifetime_still : (I : Inside) (at : List ℕ) (l : Option Ident) (t t' : ItemNames) → in_lifetime I at l t ≡ Ok t' → SameCounts t t'
lifetime_still I at None t t' e = still t t' e
lifetime_still I at (Some l) t t' e = names_still I at (one (lifetime_in I l)) t t' e

module _ (I : Inside) where
  mutual
    pub type_still : (at : List ℕ) (y : TypeTree) (t t' : ItemNames) → in_type I at y t ≡ Ok t' → SameCounts t t'
    type_still at (plain.kind_type s k) t t' e = still t t' e
    type_still at (plain.bool_type s) t t' e = still t t' e
    type_still at (plain.tuple_type s ts) t t' e = types_still at 0 ts t t' e
    type_still at (plain.ref_type s l b y) t t' e =
        let a = named_ok (in_lifetime I at l t) (in_type I (child at 0) y) t' e in then_still t a.0 t' (lifetime_still I at l t a.0 a.1) (type_still (child at 0) y a.0 t' a.2)
    type_still at (plain.named_type s x ls) t t' e = names_still I at (both (one (type_in I x)) (lifetimes_in I (written ls))) t t' e

    types_still : (at : List ℕ) (i : ℕ) (ys : TypeTrees) (t t' : ItemNames) → in_types I at i ys t ≡ Ok t' → SameCounts t t'
    types_still at i plain.no_type t t' e = still t t' e
    types_still at i (plain.type_and y ys) t t' e =
        let a = named_ok (in_type I (child at i) y t) (in_types I at (next i) ys) t' e in then_still t a.0 t' (type_still (child at i) y t a.0 a.1) (types_still at (next i) ys a.0 t' a.2)

  -- ---- parameters

  kept_again : (i n : ℕ) → i ≡ number n → number i ≡ number n
  kept_again i n e = ap number e ∙ twice n
    where
      twice : (n : ℕ) → number (number n) ≡ number n
      twice n = omega arith

  next_kept : (i n m : ℕ) → i ≡ number n → m ≡ suc n → next i ≡ number m
  next_kept i n m e f = ap next e ∙ so n ∙ sym (ap number f)
    where
      so : (n : ℕ) → next (number n) ≡ number (suc n)
      so n = omega arith

  pub parameters_taken : (at : List ℕ) (i : ℕ) (xs : List Parameter) (b b1 : Bound) → in_parameters I at i xs b ≡ Ok b1 → i ≡ number (length b.tables.vars) → Binds b b1 parameter_variables (numbering.of_parameters xs)
  parameters_taken at i [] b b1 e z =
      subst (λ (v : Bound). Binds b v parameter_variables (numbering.of_parameters [])) (the_same b b1 e) (record {
        count = 0;
        further = [];
        names = sym (append-nil b.bindings);
        numbers = tt;
        vars = omega arith;
        loops = refl;
        part = record { added = []; grown = sym (append-nil b.tables.names); grows = record { vars = omega arith; loops = omega arith }; numbers = λ _. takes_give [] refl };
      })
  parameters_taken at i (x ∷ xs) b b1 e z =
      let t = with_variable x.name.span b.tables in
      let n = length b.tables.vars in
      let X = named_ok (in_parameter I at i x b) (in_parameters I at (next i) xs) b1 e in
      let typed : DeclaredNames → Outcome Bound = λ ds. and_then (in_type I (child at i) x.typ t) (λ t. Ok (record { bindings = ds; tables = t })) in
      let d = named_ok (declare b.bindings x.name i) typed X.0 X.1 in
      let y = named_ok (in_type I (child at i) x.typ t) (λ t. Ok (record { bindings = d.0; tables = t })) X.0 d.2 in
      let same : record { bindings = d.0; tables = y.0 } ≡ X.0 = the_same _ X.0 y.2 in
      let m : length t.vars ≡ suc n = one_more b.tables.vars x.name.span in
      let c = type_still (child at i) x.typ t y.0 y.1 in
      let c0 = c.0 in let c1 = c.1 in
      let V : Part b.tables t (λ es. Takes (λ (v : ℕ). v ≡ n) b.tables t es (numbering.declare (record { mutable = x.mutable; stage = Stage.Known }))) = record {
        added = [];
        grown = sym (append-nil b.tables.names);
        grows = record { vars = omega (arith, m); loops = omega arith };
        numbers = λ _. takes_declare b.tables t (record { mutable = x.mutable; stage = Stage.Known }) m refl;
      } in
      let P : Binds b (record { bindings = d.0; tables = y.0 }) (λ (p : named.Parameter). p.variable ∷ []) (numbering.of_parameter x) = record {
        count = 1;
        further = (x.name.name, record { number = number i; span = x.name.span }) ∷ [];
        names = declared_further b.bindings d.0 x.name i (declared_as b.bindings x.name.name) d.1;
        numbers = (kept_again i n z, tt);
        vars = omega (arith, m, c0);
        loops = c1;
        part = in_turn V (type_taken I (child at i) x.typ t y.0 y.1) (λ es fs j k. takes_then j (λ v w. takes_map (λ ty. record { variable = v; typ = ty }) k (λ ty g. ap (λ (q : ℕ). q ∷ []) w)));
      } in
      let R = parameters_taken at (next i) xs (record { bindings = d.0; tables = y.0 }) b1 (ap (in_parameters I at (next i) xs) same ∙ X.2) (next_kept i n (length y.0.vars) z (c0 ∙ m)) in
      both_bound parameter_variables (λ (p : named.Parameter) (ps : List named.Parameter). p ∷ ps) (λ p ps. refl) P R

-- ---- the whole

module _ (I : Inside) (s : Span) (f : Function) (i : ℕ) where
  record Told (ys : List ℕ) (c : Cursor) : Type 0 where
    params : parameter_variables (numbering.of_function i s f c).0.params ≡ ys
    body : ScopedBody (entered [] ys) [] (numbering.of_function i s f c).0.body

  numbered_function : (ys : List ℕ) (t t0 : ItemNames) (es fs gs hs : List NodeNames) (t1 t2 t3 : ItemNames) (c : Cursor)
      → Takes (λ (a : List ℕ × Bool). Unit {0}) t t1 es (entry_if (has_entry f)) → Takes (λ ps. parameter_variables ps ≡ ys) t1 t2 fs (numbering.of_parameters f.params) → Takes (λ (y : Option named.Written). Unit {0}) t2 t3 gs (numbering.of_optional_type f.result)
      → Takes (ScopedBody (entered [] ys) []) t3 t0 hs (numbering.of_body Site.Expects f.body) → Counts c t → c.names ≡ es ++ (fs ++ (gs ++ hs)) → Told ys c
  numbered_function ys t t0 es fs gs hs t1 t2 t3 c E P R B d e =
      let c1 = (numbering.a_node s Site.Value c).1 in
      let x = E.holds c1 (fs ++ (gs ++ hs)) d e in
      let c2 = (entry_if (has_entry f) c1).1 in
      let p = P.holds c2 (gs ++ hs) x.counts x.left in
      let c3 = (numbering.of_parameters f.params c2).1 in
      let r = R.holds c3 hs p.counts p.left in
      let c4 = (numbering.of_optional_type f.result c3).1 in
      let b = B.holds c4 [] r.counts (r.left ∙ sym (append-nil hs)) in
      record { params = p.fits; body = b.fits }

  told_scoped : (ys : List ℕ) (c : Cursor) → AllNew [] ys → Told ys c → ScopedFunction (numbering.of_function i s f c).0
  told_scoped ys c new told = record {
    params = subst (λ (zs : List ℕ). AllNew [] zs) (sym told.params) new;
    body = subst (λ (zs : List ℕ). ScopedBody (entered [] zs) [] (numbering.of_function i s f c).0.body) (sym told.params) told.body;
  }

  nothing_here : (t : ItemNames) → Stands [] [] [] [] t
  nothing_here t = record { here = λ w. record { variables = λ x n e. absurd (cc); loops = λ l n e. absurd (cc) }; variables = λ n h. absurd h; loops = λ n h. absurd h }

  pub function_scoped : (at : List ℕ) (t0 t : ItemNames) → t0.names ≡ [] → t0.vars ≡ [] → t0.loops ≡ [] → in_function I [] [] at f t0 ≡ Ok t → Few t → ScopedFunction (function_named i s f t.names)
  function_scoped at t0 t no_names no_vars no_loops e few =
      let after : Bound → Outcome ItemNames = λ b. (in_optional_type I (child at (number (length f.params))) f.result >> in_block I (scopes.entered [] b.bindings) [] (child at (body_at (number (length f.params)) f.result)) f.body) b.tables in
      let ns = named_ok (lifetimes_of I [] 0 f.lifetimes) (λ ns. and_then (numbered I at (ns ++ numbers_from 0 f.params) t0) (λ t. and_then (in_parameters I at 0 f.params (record { bindings = []; tables = t })) (λ b. after b))) t e in
      let t1 = named_ok (numbered I at (ns.0 ++ numbers_from 0 f.params) t0) (λ t. and_then (in_parameters I at 0 f.params (record { bindings = []; tables = t })) (λ b. after b)) t ns.2 in
      let b0 : Bound = record { bindings = []; tables = t1.0 } in
      let b1 = named_ok (in_parameters I at 0 f.params b0) (λ b. after b) t t1.2 in
      let t3 = named_ok (in_optional_type I (child at (number (length f.params))) f.result b1.0.tables) (in_block I (scopes.entered [] b1.0.bindings) [] (child at (body_at (number (length f.params)) f.result)) f.body) t b1.2 in
      let E0 = entry_taken I at (ns.0 ++ numbers_from 0 f.params) t0 t1.0 t1.1 in
      let E : EntryTaken (has_entry f) t0 t1.0 = subst (λ (b : Bool). EntryTaken b t0 t1.0) (function_entry I f ns.0 ns.1) E0 in
      let z0 : length t0.vars ≡ 0 = ap (λ (l : List Span). length l) no_vars in
      let l0 : length t0.loops ≡ 0 = ap (λ l. length l) no_loops in
      let s1 = numbered_still I at (ns.0 ++ numbers_from 0 f.params) t0 t1.0 t1.1 in
      let z1 : length t1.0.vars ≡ 0 = s1.0 ∙ z0 in
      let P = parameters_taken I at 0 f.params b0 b1.0 b1.1 (sym (ap number z1)) in
      let R = optional_type_taken I (child at (number (length f.params))) f.result b1.0.tables t3.0 t3.1 in
      let ys = from_number (length t1.0.vars) P.count in
      let w = later R.grows (stands_entered b1.0 P (nothing_here t1.0)) in
      let B = body_taken I (scopes.entered [] b1.0.bindings) [] (child at (body_at (number (length f.params)) f.result)) f.body t3.0 t (entered [] ys) [] w t3.2 in
      let all : Part t0 t (λ es. Told ys (numbering.begins es)) =
      in_turn4 E P.part R B (λ es fs gs hs x p r b. numbered_function ys t0 t es fs gs hs t1.0 b1.0.tables t3.0 (numbering.begins (es ++ (fs ++ (gs ++ hs)))) x p r (b Site.Expects) (sym z0, sym l0) refl) in
      let told = subst (λ (l : List NodeNames). Told ys (numbering.begins l)) (sym (all.grown ∙ ap (λ (l : List NodeNames). l ++ all.added) no_names)) (all.numbers few) in
      told_scoped ys (numbering.begins t.names) (all_new [] (length t1.0.vars) P.count (λ n h. absurd h)) told

pub item_scoped : (p : ProgramTree) (n i : ℕ) (s : Span) (f : Function) (t : ItemNames) → in_item p n (plain.function_item s f) ≡ Ok t → Few t → ScopedFunction (function_named i s f t.names)
item_scoped p n i s f t e few = function_scoped (record { program = p; item = number n; lifetimes = firsts [] 0 (lifetimes_declared (plain.function_item s f)) }) s f i [] (record { vars = []; lifetimes = map (λ (l : Ident). l.span) (lifetimes_declared (plain.function_item s f)); loops = []; names = [] }) t refl refl refl e few
