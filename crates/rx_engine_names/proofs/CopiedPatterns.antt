-- Types and patterns that are copied resolve alike, and their trees with numbers are alike.
use Rattle.std.proofs.Common.{◌≡◌, ℕ, Bool, false, List, [], ◌∷◌, ◌++◌, length, Option, Some, None, Ok, refl, sym, ap, ◌∙◌, subst, append_assoc, append-nil}
use Rattle.rx_core.specs.declared.types.Span.{Span}
use Rattle.rx_tree.specs.declared.tree.Ident.{Ident}
use Rattle.rx_tree.specs.Plain as plain
use Rattle.rx_tree.specs.Plain.{TypeTree, TypeTrees, PatternTree, PatternTrees, FieldPatterns}
use Rattle.rx_resolve_names.specs.Scopes.{DeclaredNames}
use Rattle.rx_resolve_names.specs.declared.resolved.ItemNames.{ItemNames}
use Rattle.rx_resolve_names.specs.declared.resolved.NodeNames.{NodeNames}
use Rattle.rx_resolve_names.specs.Meant.{number}
use Rattle.rx_resolve_names.specs.Steps.{Outcome, and_then, Naming, nothing, Inside, one, both, declare, child, next, with_variable, entry, with_names, numbered, names}
use Rattle.rx_resolve_names.specs.Names.{lifetime_in, lifetimes_in, type_in, written, in_lifetime, in_type, in_types, in_optional_type, variant_in, struct_in, Bound, Binding, binds, also, in_order, in_pattern, in_patterns, in_field_patterns}
use Rattle.rx_typed.specs.declared.nodes.Site.{Site}
use Rattle.rx_typed.specs.declared.nodes.Stage.{Stage}
use Rattle.rx_typed.specs.Naming as numbering
use Rattle.rx_typed.specs.Naming.{Numbering, give, an_entry, first, second, lifetime_entry, of_type, of_types, of_optional_type, of_pattern, of_patterns, of_field_patterns}
use Rattle.rx_typed.specs.Named as named
use Rattle.rx_engine_names.specs.Renaming.{Renaming, Made, Serves}
use Rattle.rx_engine_names.specs.LikeNamed.{LikeWritten, LikeWrittens, LikeOptionalWritten, LikePattern, LikePatterns, LikeFieldPatterns, like_kind, like_bool_type, like_tuple_type, like_reference, like_item, like_no_type, like_more_types, like_no_annotation, like_annotation, like_wild, like_bind, like_whole_number, like_truth, like_tuple_pattern, like_variant_pattern, like_struct_pattern, like_no_pattern, like_more_patterns, like_no_field_pattern, like_more_field_patterns}
use Rattle.rx_hoist_extraction.specs.Names.{Names, bound, all_bound, fields_bound}
use Rattle.rx_engine_names.proofs.SideBySide.{named_ok, then_ok, and_ok, the_same, Frame, Reached, grows_not, Kind, Numbers, numbers_then, numbers_give, numbers_map, numbers_node, numbers_made, numbers_entry, with_pair, grows_pair, newest, newest_kept, variable_reached, numbers_declare, Part, in_turn, restated, unchanged, AreEntries, EntryNumbers, at_entries, names_alike}
use Rattle.rx_engine_names.proofs.Scoped.{declared_names, BoundAlike, bound_later, declares_alike, declared_more}
use Rattle.rx_engine_names.specs.NamedLifetimes.{OptionalFits, ListFits, TypeFits, TypesFit, AnnotationFits}
use Rattle.rx_engine_names.proofs.Fitting.{FitItems, Fits, type_fits, types_fit, annotation_fits}

-- ---- an entry of one name

pub record One (L : Frame) (M : Made) (I' : Inside) (at' : List ℕ) (t t' u : ItemNames) (r' : Outcome ℕ) (P : ℕ → ℕ → Type 0) : Type 0 where
  pub first : ℕ
  pub second : ℕ
  pub fits : P first second
  pub part : Part L M t t' u (λ G v. names I' at' (one r') u ≡ Ok v) (EntryNumbers t u (first ∷ []) (second ∷ []) t')

pub names_one : (L : Frame) (M : Made) (I I' : Inside) (at at' : List ℕ) (t t' u : ItemNames) (r r' : Outcome ℕ) (P : ℕ → ℕ → Type 0)
    → ((n : ℕ) → r ≡ Ok n → (m : ℕ) × (r' ≡ Ok m) × P n m) → names I at (one r) t ≡ Ok t' → Reached L M t u → One L M I' at' t t' u r' P
names_one L M I I' at at' t t' u r r' P fits e q =
    let a = named_ok (one r) (λ ns. numbered I at ns t) t' e in let b = named_ok r (λ n. Ok (n ∷ [])) a.0 a.1 in let f = fits b.0 b.1 in
    record { first = b.0; second = f.0; fits = f.2; part = names_alike L M I I' at at' t t' u b.0 f.0 [] [] (one r) (one r') (ap one b.1) (ap one f.1) e q }

-- ---- types

abbrev pub TypeNumbers : ItemNames → ItemNames → TypeTree → ItemNames → Kind
TypeNumbers t u y t' R u' es es' = Numbers (LikeWritten R) t u t' u' es es' (of_type y) (of_type y)

abbrev pub TypesNumbers : ItemNames → ItemNames → TypeTrees → ItemNames → Kind
TypesNumbers t u ys t' R u' es es' = Numbers (LikeWrittens R) t u t' u' es es' (of_types ys) (of_types ys)

abbrev LifetimeNumbers : ItemNames → ItemNames → Option Ident → ItemNames → Kind
LifetimeNumbers t u l t' R u' es es' = Numbers (λ a b. Unit {0}) t u t' u' es es' (lifetime_entry l) (lifetime_entry l)

lifetime_alike : (L : Frame) (M : Made) (I I' : Inside) (at at' : List ℕ) (l : Option Ident) → OptionalFits I I' l → (t t' u : ItemNames) → in_lifetime I at l t ≡ Ok t' → Reached L M t u
    → Part L M t t' u (λ G v. in_lifetime I' at' l u ≡ Ok v) (LifetimeNumbers t u l t')
lifetime_alike L M I I' at at' None h t t' u e q = unchanged L M t t' u (λ G v. Ok u ≡ Ok v) (LifetimeNumbers t u None) e q refl (λ R. numbers_give numbering.no_names numbering.no_names tt)
lifetime_alike L M I I' at at' (Some l) h t t' u e q =
    let x = names_one L M I I' at at' t t' u (lifetime_in I l) (lifetime_in I' l) (λ n m. Unit {0}) h e q in
    restated x.part (λ a. a) (λ R sv k. numbers_quiet k)
  where
    numbers_quiet : {ns ns' : List ℕ} {t u t' u' : ItemNames} {es es' : List NodeNames} → Numbers (AreEntries ns false ns' false) t u t' u' es es' an_entry an_entry → Numbers (λ a b. Unit {0}) t u t' u' es es' an_entry an_entry
    numbers_quiet k = numbers_map (λ a. a) (λ a. a) k (λ a b h. tt)

-- a list of lifetimes
lifetimes_alike : (I I' : Inside) (ls : List (Option Ident)) → ListFits I I' ls → (ns : List ℕ) → lifetimes_in I ls ≡ Ok ns → (ms : List ℕ) × (lifetimes_in I' ls ≡ Ok ms)
lifetimes_alike I I' [] h ns e = ([], refl)
lifetimes_alike I I' (None ∷ ls) h ns e = lifetimes_alike I I' ls h.1 ns e
lifetimes_alike I I' (Some l ∷ ls) h ns e =
    let a = named_ok (one (lifetime_in I l)) (λ ns. and_then (lifetimes_in I ls) (λ ms. Ok (ns ++ ms))) ns e in
    let b = named_ok (lifetime_in I l) (λ n. Ok (n ∷ [])) a.0 a.1 in let f = h.0 b.0 b.1 in
    let c = named_ok (lifetimes_in I ls) (λ ms. Ok (a.0 ++ ms)) ns a.2 in let g = lifetimes_alike I I' ls h.1 c.0 c.1 in
    (f.0 ∷ g.0, and_ok (one (lifetime_in I' l)) (f.0 ∷ []) (λ ns. and_then (lifetimes_in I' ls) (λ ms. Ok (ns ++ ms))) (Ok (f.0 ∷ g.0)) (ap one f.1) (ap (λ (r : Outcome (List ℕ)). and_then r (λ ms. Ok (f.0 ∷ ms))) g.1))

mutual
  named_type_alike : (L : Frame) (M : Made) (I I' : Inside) → FitItems L.items I I' → (at at' : List ℕ) (y : TypeTree) → TypeFits I I' y → (t t' u : ItemNames) → in_type I at y t ≡ Ok t' → Reached L M t u
      → Part L M t t' u (λ G v. in_type I' at' y u ≡ Ok v) (TypeNumbers t u y t')
  named_type_alike L M I I' F at at' (plain.kind_type s k) h t t' u e q =
      unchanged L M t t' u (λ G v. Ok u ≡ Ok v) (TypeNumbers t u (plain.kind_type s k)) e q refl (λ R. numbers_made s Site.Value Site.Value (λ n. named.a_kind n k) (λ n. named.a_kind n k) (λ n m g. like_kind g))
  named_type_alike L M I I' F at at' (plain.bool_type s) h t t' u e q =
      unchanged L M t t' u (λ G v. Ok u ≡ Ok v) (TypeNumbers t u (plain.bool_type s)) e q refl (λ R. numbers_made s Site.Value Site.Value named.a_bool named.a_bool (λ n m g. like_bool_type g))
  named_type_alike L M I I' F at at' (plain.tuple_type s ts) h t t' u e q =
      restated (named_types_alike L M I I' F at at' 0 0 ts h t t' u e q) (λ a. a) (λ R sv k. numbers_node s Site.Value Site.Value (λ n m g. numbers_map (named.a_tuple n) (named.a_tuple m) k (λ a b h. like_tuple_type g h)))
  named_type_alike L M I I' F at at' (plain.ref_type s l b y) h t t' u e q =
      let a = named_ok (in_lifetime I at l t) (in_type I (child at 0) y) t' e in
      let A = lifetime_alike L M I I' at at' l h.0 t a.0 u a.1 q in
      let B = named_type_alike L A.made I I' F (child at 0) (child at' 0) y h.1 a.0 t' A.table a.2 A.reached in
      in_turn A B (λ x z. then_ok (in_lifetime I' at' l) (in_type I' (child at' 0) y) u A.table B.table x z)
      (λ R sv k h. numbers_node s Site.Value Site.Value (λ n m g. numbers_then k (λ c d x. numbers_map (named.a_reference n b) (named.a_reference m b) h (λ c d x. like_reference g x))))
  named_type_alike L M I I' F at at' (plain.named_type s x ls) h t t' u e q =
      let a = named_ok (both (one (type_in I x)) (lifetimes_in I (written ls))) (λ ns. numbered I at ns t) t' e in
      let b = named_ok (one (type_in I x)) (λ ns. and_then (lifetimes_in I (written ls)) (λ ms. Ok (ns ++ ms))) a.0 a.1 in
      let c = named_ok (type_in I x) (λ n. Ok (n ∷ [])) b.0 b.1 in let f = F.types x c.0 c.1 in
      let d = named_ok (lifetimes_in I (written ls)) (λ ms. Ok (b.0 ++ ms)) a.0 b.2 in let l = lifetimes_alike I I' (written ls) h d.0 d.1 in
      let r : both (one (type_in I x)) (lifetimes_in I (written ls)) ≡ Ok (c.0 ∷ d.0) =
      and_ok (one (type_in I x)) (c.0 ∷ []) (λ ns. and_then (lifetimes_in I (written ls)) (λ ms. Ok (ns ++ ms))) (Ok (c.0 ∷ d.0)) (ap one c.1) (ap (λ (r : Outcome (List ℕ)). and_then r (λ ms. Ok (c.0 ∷ ms))) d.1) in
      let r' : both (one (type_in I' x)) (lifetimes_in I' (written ls)) ≡ Ok (f.0 ∷ l.0) =
      and_ok (one (type_in I' x)) (f.0 ∷ []) (λ ns. and_then (lifetimes_in I' (written ls)) (λ ms. Ok (ns ++ ms))) (Ok (f.0 ∷ l.0)) (ap one f.1) (ap (λ (r : Outcome (List ℕ)). and_then r (λ ms. Ok (f.0 ∷ ms))) l.1) in
      restated (names_alike L M I I' at at' t t' u c.0 f.0 d.0 l.0 (both (one (type_in I x)) (lifetimes_in I (written ls))) (both (one (type_in I' x)) (lifetimes_in I' (written ls))) r r' e q) (λ z. z)
      (λ R sv k. numbers_node s Site.Value Site.Value (λ n m g. numbers_map (λ ns. named.an_item n (first ns.0) (numbering.lifetimes_written ls)) (λ ns. named.an_item m (first ns.0) (numbering.lifetimes_written ls)) k
      (λ v w h. like_item g (subst (λ (z : List ℕ × Bool). R.item (first z.0) ≡ first w.0) (sym h.0) (subst (λ (z : List ℕ × Bool). R.item c.0 ≡ first z.0) (sym h.1) (sv.items_are c.0 ∙ f.2))))))

  named_types_alike : (L : Frame) (M : Made) (I I' : Inside) → FitItems L.items I I' → (at at' : List ℕ) (i i' : ℕ) (ys : TypeTrees) → TypesFit I I' ys → (t t' u : ItemNames) → in_types I at i ys t ≡ Ok t' → Reached L M t u
      → Part L M t t' u (λ G v. in_types I' at' i' ys u ≡ Ok v) (TypesNumbers t u ys t')
  named_types_alike L M I I' F at at' i i' plain.no_type h t t' u e q =
      unchanged L M t t' u (λ G v. Ok u ≡ Ok v) (TypesNumbers t u plain.no_type) e q refl (λ R. numbers_give named.no_written named.no_written like_no_type)
  named_types_alike L M I I' F at at' i i' (plain.type_and y ys) h t t' u e q =
      let a = named_ok (in_type I (child at i) y t) (in_types I at (next i) ys) t' e in
      let A = named_type_alike L M I I' F (child at i) (child at' i') y h.0 t a.0 u a.1 q in
      let B = named_types_alike L A.made I I' F at at' (next i) (next i') ys h.1 a.0 t' A.table a.2 A.reached in
      in_turn A B (λ x z. then_ok (in_type I' (child at' i') y) (in_types I' at' (next i') ys) u A.table B.table x z)
      (λ R sv k h. numbers_then k (λ c d x. numbers_map (named.written_and c) (named.written_and d) h (λ c d z. like_more_types x z)))

pub type_alike : (L : Frame) (M : Made) (I I' : Inside) → Fits L.items I I' → (at at' : List ℕ) (y : TypeTree) (t t' u : ItemNames) → in_type I at y t ≡ Ok t' → Reached L M t u
    → Part L M t t' u (λ G v. in_type I' at' y u ≡ Ok v) (TypeNumbers t u y t')
type_alike L M I I' F at at' y t t' u e q = named_type_alike L M I I' F.items_fit at at' y (type_fits I I' F.lifetimes y) t t' u e q

pub types_alike : (L : Frame) (M : Made) (I I' : Inside) → Fits L.items I I' → (at at' : List ℕ) (i i' : ℕ) (ys : TypeTrees) (t t' u : ItemNames) → in_types I at i ys t ≡ Ok t' → Reached L M t u
    → Part L M t t' u (λ G v. in_types I' at' i' ys u ≡ Ok v) (TypesNumbers t u ys t')
types_alike L M I I' F at at' i i' ys t t' u e q = named_types_alike L M I I' F.items_fit at at' i i' ys (types_fit I I' F.lifetimes ys) t t' u e q

abbrev pub OptionalTypeNumbers : ItemNames → ItemNames → Option TypeTree → ItemNames → Kind
OptionalTypeNumbers t u y t' R u' es es' = Numbers (LikeOptionalWritten R) t u t' u' es es' (of_optional_type y) (of_optional_type y)

pub annotation_alike : (L : Frame) (M : Made) (I I' : Inside) → FitItems L.items I I' → (at at' : List ℕ) (y : Option TypeTree) → AnnotationFits I I' y → (t t' u : ItemNames) → in_optional_type I at y t ≡ Ok t' → Reached L M t u
    → Part L M t t' u (λ G v. in_optional_type I' at' y u ≡ Ok v) (OptionalTypeNumbers t u y t')
annotation_alike L M I I' F at at' None h t t' u e q = unchanged L M t t' u (λ G v. Ok u ≡ Ok v) (OptionalTypeNumbers t u None) e q refl (λ R. numbers_give None None like_no_annotation)
annotation_alike L M I I' F at at' (Some y) h t t' u e q =
    restated (named_type_alike L M I I' F at at' y h t t' u e q) (λ a. a) (λ R sv k. numbers_map (λ z. Some z) (λ z. Some z) k (λ a b h. like_annotation h))

pub optional_type_alike : (L : Frame) (M : Made) (I I' : Inside) → Fits L.items I I' → (at at' : List ℕ) (y : Option TypeTree) (t t' u : ItemNames) → in_optional_type I at y t ≡ Ok t' → Reached L M t u
    → Part L M t t' u (λ G v. in_optional_type I' at' y u ≡ Ok v) (OptionalTypeNumbers t u y t')
optional_type_alike L M I I' F at at' y t t' u e q = annotation_alike L M I I' F.items_fit at at' y (annotation_fits I I' F.lifetimes y) t t' u e q

-- ---- patterns

-- what a step that may bind comes to
abbrev pub BindingPart : Frame → Made → Binding → Bound → Bound → Bound → Kind → Type 0
BindingPart L M f' b b1 b' K = Part L M b.tables b1.tables b'.tables (λ G v. (ds : DeclaredNames) × (f' b' ≡ Ok (record { bindings = ds; tables = v })) × BoundAlike G b1.bindings ds) K

abbrev pub PatternNumbers : ItemNames → ItemNames → PatternTree → ItemNames → Kind
PatternNumbers t u p t' R u' es es' = Numbers (LikePattern R) t u t' u' es es' (of_pattern p) (of_pattern p)

abbrev pub PatternsNumbers : ItemNames → ItemNames → PatternTrees → ItemNames → Kind
PatternsNumbers t u ps t' R u' es es' = Numbers (LikePatterns R) t u t' u' es es' (of_patterns ps) (of_patterns ps)

abbrev pub FieldPatternsNumbers : ItemNames → ItemNames → FieldPatterns → ItemNames → Kind
FieldPatternsNumbers t u fs t' R u' es es' = Numbers (LikeFieldPatterns R) t u t' u' es es' (of_field_patterns fs) (of_field_patterns fs)

bound_unchanged : (L : Frame) (M : Made) (b b1 b' : Bound) (K : ItemNames → Kind) → also nothing b ≡ Ok b1 → Reached L M b.tables b'.tables → BoundAlike M b.bindings b'.bindings
    → ((R : Renaming) → K b.tables R b'.tables [] []) → BindingPart L M (also nothing) b b1 b' (K b1.tables)
bound_unchanged L M b b1 b' K e q a k = subst (λ (v : Bound). BindingPart L M (also nothing) b v b' (K v.tables)) (the_same b b1 e)
    (record { made = M; grows = grows_not M; table = b'.tables; answer = (b'.bindings, refl, a); reached = q; added = []; added' = []; grown = sym (append-nil b.tables.names); grown' = sym (append-nil b'.tables.names); numbers = λ R s. k R })

-- names first, then what may bind
order_ok : (f : Naming) (g : Binding) (b b1 : Bound) → in_order (also f) g b ≡ Ok b1 → (t : ItemNames) × (f b.tables ≡ Ok t) × (g (record { bindings = b.bindings; tables = t }) ≡ Ok b1)
order_ok f g b b1 e =
    let to : ItemNames → Bound = λ t. record { bindings = b.bindings; tables = t } in
    let x = named_ok (also f b) g b1 e in let y = named_ok (f b.tables) (λ t. Ok (to t)) x.0 x.1 in
    (y.0, y.1, ap g (the_same (to y.0) x.0 y.2) ∙ x.2)

order_parts : (L : Frame) (M : Made) (f' : Naming) (g' : Binding) (b b1 b' : Bound) (t : ItemNames) (J K N : Kind) (A : Part L M b.tables t b'.tables (λ G v. f' b'.tables ≡ Ok v) J)
    (B : BindingPart L A.made g' (record { bindings = b.bindings; tables = t }) b1 (record { bindings = b'.bindings; tables = A.table }) K)
    → ((R : Renaming) → Serves L.items B.made R → J R A.table A.added A.added' → K R B.table B.added B.added' → N R B.table (A.added ++ B.added) (A.added' ++ B.added')) → BindingPart L M (in_order (also f') g') b b1 b' N
order_parts L M f' g' b b1 b' t J K N A B h =
    let to : ItemNames → Bound = λ t. record { bindings = b'.bindings; tables = t } in
    in_turn A B (λ p r. (r.0, and_ok (also f' b') (to A.table) g' (Ok (record { bindings = r.0; tables = B.table })) (ap (λ (o : Outcome ItemNames). and_then o (λ t. Ok (to t))) p) r.1, r.2)) h

bind_alike : (L : Frame) (M : Made) (I I' : Inside) (at at' : List ℕ) (s : Span) (x : Ident) (w : Bool) (b b1 b' : Bound) → binds I at x b ≡ Ok b1 → Reached L M b.tables b'.tables → BoundAlike M b.bindings b'.bindings
    → BindingPart L M (binds I' at' x) b b1 b' (PatternNumbers b.tables b'.tables (plain.bind s x w) b1.tables)
bind_alike L M I I' at at' s x w b b1 b' e q a =
    let n = length b.tables.vars in let m = length b'.tables.vars in
    let X = entry I at (number n ∷ []) in let X' = entry I' at' (number m ∷ []) in
    let to : DeclaredNames → Bound = λ ds. record { bindings = ds; tables = with_names X (with_variable x.span b.tables) } in
    let to' : DeclaredNames → Bound = λ ds. record { bindings = ds; tables = with_names X' (with_variable x.span b'.tables) } in
    let G = with_pair M b.tables b'.tables in let g = grows_pair M b.tables b'.tables in
    let d = named_ok (declare b.bindings x n) (λ ds. Ok (to ds)) b1 e in
    let D = declares_alike G b.bindings b'.bindings d.0 x n m (bound_later M G g b.bindings b'.bindings a) d.1 (newest_kept M.variables n m) in
    let q2 = variable_reached L M b.tables b'.tables x.span x.span q in
    subst (λ (v : Bound). BindingPart L M (binds I' at' x) b v b' (PatternNumbers b.tables b'.tables (plain.bind s x w) v.tables)) (the_same (to d.0) b1 d.2)
    (record {
      made = G;
      grows = g;
      table = (to' D.bindings).tables;
      answer = (D.bindings, ap (λ (o : Outcome DeclaredNames). and_then o (λ ds. Ok (to' ds))) D.declared, D.alike);
      reached = record { vars = q2.vars; loops = q2.loops; passages = q2.passages };
      added = X ∷ [];
      added' = X' ∷ [];
      grown = refl;
      grown' = refl;
      numbers = λ R sv. numbers_node s Site.Value Site.Value (λ i j g. numbers_then (numbers_entry X X') (λ c c' h. numbers_map (λ y. named.bind i y w) (λ y. named.bind j y w)
          (numbers_declare R (with_names X b.tables) (with_names X' b'.tables) x.span x.span (record { mutable = w; stage = Stage.Given }) (record { mutable = w; stage = Stage.Given }) (sv.variables n m (newest M.variables n m))) (λ y z v. like_bind g v)));
    })

mutual
  pub pattern_alike : (L : Frame) (M : Made) (I I' : Inside) → FitItems L.items I I' → (at at' : List ℕ) (p : PatternTree) (b b1 b' : Bound) → in_pattern I at p b ≡ Ok b1 → Reached L M b.tables b'.tables → BoundAlike M b.bindings b'.bindings
      → BindingPart L M (in_pattern I' at' p) b b1 b' (PatternNumbers b.tables b'.tables p b1.tables)
  pattern_alike L M I I' F at at' (plain.wild s) b b1 b' e q a =
      bound_unchanged L M b b1 b' (PatternNumbers b.tables b'.tables (plain.wild s)) e q a (λ R. numbers_made s Site.Value Site.Value named.wild named.wild (λ n m g. like_wild g))
  pattern_alike L M I I' F at at' (plain.bind s x w) b b1 b' e q a = bind_alike L M I I' at at' s x w b b1 b' e q a
  pattern_alike L M I I' F at at' (plain.int_pattern s g v k) b b1 b' e q a =
      bound_unchanged L M b b1 b' (PatternNumbers b.tables b'.tables (plain.int_pattern s g v k)) e q a (λ R. numbers_made s Site.Value Site.Value (λ n. named.whole_number n g v k) (λ n. named.whole_number n g v k) (λ n m h. like_whole_number h))
  pattern_alike L M I I' F at at' (plain.bool_pattern s w) b b1 b' e q a =
      bound_unchanged L M b b1 b' (PatternNumbers b.tables b'.tables (plain.bool_pattern s w)) e q a (λ R. numbers_made s Site.Value Site.Value (λ n. named.truth n w) (λ n. named.truth n w) (λ n m g. like_truth g))
  pattern_alike L M I I' F at at' (plain.tuple_pattern s ps) b b1 b' e q a =
      restated (patterns_alike L M I I' F at at' 0 0 ps b b1 b' e q a) (λ z. z) (λ R sv k. numbers_node s Site.Value Site.Value (λ n m g. numbers_map (named.tuple_pattern n) (named.tuple_pattern m) k (λ c d h. like_tuple_pattern g h)))
  pattern_alike L M I I' F at at' (plain.variant_pattern s c v ps) b b1 b' e q a =
      let x = order_ok (names I at (variant_in I c v)) (in_patterns I at 0 ps) b b1 e in
      let y = named_ok (variant_in I c v) (λ ns. numbered I at ns b.tables) x.0 x.1 in
      let f = F.variants c v y.0 y.1 in
      let A = names_alike L M I I' at at' b.tables x.0 b'.tables f.0 f.1 (f.2 ∷ []) (f.2 ∷ []) (variant_in I c v) (variant_in I' c v) (y.1 ∙ ap (λ (l : List ℕ). Ok l) f.3) f.4 x.1 q in
      let B = patterns_alike L A.made I I' F at at' 0 0 ps (record { bindings = b.bindings; tables = x.0 }) b1 (record { bindings = b'.bindings; tables = A.table }) x.2 A.reached (bound_later M A.made A.grows b.bindings b'.bindings a) in
      order_parts L M (names I' at' (variant_in I' c v)) (in_patterns I' at' 0 ps) b b1 b' x.0 _ _ _ A B
      (λ R sv k l. numbers_node s Site.Value Site.Value (λ n m g. numbers_then k (λ y z h. numbers_map (named.variant_pattern n (first y.0) (second y.0)) (named.variant_pattern m (first z.0) (second z.0)) l (λ ps ps' w.
      at_entries (λ y z. LikePattern R (named.variant_pattern n (first y.0) (second y.0) ps) (named.variant_pattern m (first z.0) (second z.0) ps')) (f.0 ∷ f.2 ∷ []) (f.1 ∷ f.2 ∷ []) false false y z h (like_variant_pattern g (sv.items_are f.0 ∙ f.5) w)))))
  pattern_alike L M I I' F at at' (plain.make_pattern s x fs) b b1 b' e q a =
      let y = order_ok (names I at (one (struct_in I x))) (in_field_patterns I at 0 fs) b b1 e in
      let A = names_one L M I I' at at' b.tables y.0 b'.tables (struct_in I x) (struct_in I' x) (λ n m. L.items n ≡ m) (F.structs x) y.1 q in
      let B = field_patterns_alike L A.part.made I I' F at at' 0 0 fs (record { bindings = b.bindings; tables = y.0 }) b1 (record { bindings = b'.bindings; tables = A.part.table }) y.2 A.part.reached (bound_later M A.part.made A.part.grows b.bindings b'.bindings a) in
      order_parts L M (names I' at' (one (struct_in I' x))) (in_field_patterns I' at' 0 fs) b b1 b' y.0 _ _ _ A.part B
      (λ R sv k l. numbers_node s Site.Value Site.Value (λ n m g. numbers_then k (λ y z h. numbers_map (named.struct_pattern n (first y.0)) (named.struct_pattern m (first z.0)) l (λ fs fs' w.
      at_entries (λ y z. LikePattern R (named.struct_pattern n (first y.0) fs) (named.struct_pattern m (first z.0) fs')) (A.first ∷ []) (A.second ∷ []) false false y z h (like_struct_pattern g (sv.items_are A.first ∙ A.fits) w)))))

  pub patterns_alike : (L : Frame) (M : Made) (I I' : Inside) → FitItems L.items I I' → (at at' : List ℕ) (i i' : ℕ) (ps : PatternTrees) (b b1 b' : Bound) → in_patterns I at i ps b ≡ Ok b1 → Reached L M b.tables b'.tables → BoundAlike M b.bindings b'.bindings
      → BindingPart L M (in_patterns I' at' i' ps) b b1 b' (PatternsNumbers b.tables b'.tables ps b1.tables)
  patterns_alike L M I I' F at at' i i' plain.no_pattern b b1 b' e q a =
      bound_unchanged L M b b1 b' (PatternsNumbers b.tables b'.tables plain.no_pattern) e q a (λ R. numbers_give named.no_pattern named.no_pattern like_no_pattern)
  patterns_alike L M I I' F at at' i i' (plain.pattern_and p ps) b b1 b' e q a =
      let x = named_ok (in_pattern I (child at i) p b) (in_patterns I at (next i) ps) b1 e in
      let A = pattern_alike L M I I' F (child at i) (child at' i') p b x.0 b' x.1 q a in
      let v : Bound = record { bindings = A.answer.0; tables = A.table } in
      let B = patterns_alike L A.made I I' F at at' (next i) (next i') ps x.0 b1 v x.2 A.reached A.answer.2 in
      in_turn A B (λ y z. (z.0, and_ok (in_pattern I' (child at' i') p b') v (in_patterns I' at' (next i') ps) (Ok (record { bindings = z.0; tables = B.table })) A.answer.1 z.1, z.2))
      (λ R sv k l. numbers_then k (λ c d h. numbers_map (named.pattern_and c) (named.pattern_and d) l (λ y z w. like_more_patterns h w)))

  pub field_patterns_alike : (L : Frame) (M : Made) (I I' : Inside) → FitItems L.items I I' → (at at' : List ℕ) (i i' : ℕ) (fs : FieldPatterns) (b b1 b' : Bound) → in_field_patterns I at i fs b ≡ Ok b1 → Reached L M b.tables b'.tables → BoundAlike M b.bindings b'.bindings
      → BindingPart L M (in_field_patterns I' at' i' fs) b b1 b' (FieldPatternsNumbers b.tables b'.tables fs b1.tables)
  field_patterns_alike L M I I' F at at' i i' plain.no_field_pattern b b1 b' e q a =
      bound_unchanged L M b b1 b' (FieldPatternsNumbers b.tables b'.tables plain.no_field_pattern) e q a (λ R. numbers_give named.no_field_pattern named.no_field_pattern like_no_field_pattern)
  field_patterns_alike L M I I' F at at' i i' (plain.field_pattern_and y p fs) b b1 b' e q a =
      let x = named_ok (in_pattern I (child at i) p b) (in_field_patterns I at (next i) fs) b1 e in
      let A = pattern_alike L M I I' F (child at i) (child at' i') p b x.0 b' x.1 q a in
      let v : Bound = record { bindings = A.answer.0; tables = A.table } in
      let B = field_patterns_alike L A.made I I' F at at' (next i) (next i') fs x.0 b1 v x.2 A.reached A.answer.2 in
      in_turn A B (λ y z. (z.0, and_ok (in_pattern I' (child at' i') p b') v (in_field_patterns I' at' (next i') fs) (Ok (record { bindings = z.0; tables = B.table })) A.answer.1 z.1, z.2))
      (λ R sv k l. numbers_then k (λ c d h. numbers_map (named.field_pattern_and y.name c) (named.field_pattern_and y.name d) l (λ _ z w. like_more_field_patterns h w)))

-- ---- the names that a pattern binds

binds_none : (b b1 : Bound) → also nothing b ≡ Ok b1 → declared_names b1.bindings ≡ declared_names b.bindings ++ []
binds_none b b1 e = ap (λ (v : Bound). declared_names v.bindings) (sym (the_same b b1 e)) ∙ sym (append-nil (declared_names b.bindings))

mutual
  pub pattern_binds : (I : Inside) (at : List ℕ) (p : PatternTree) (b b1 : Bound) → in_pattern I at p b ≡ Ok b1 → declared_names b1.bindings ≡ declared_names b.bindings ++ bound p
  pattern_binds I at (plain.wild s) b b1 e = binds_none b b1 e
  pattern_binds I at (plain.bind s x w) b b1 e =
      let n = length b.tables.vars in
      let to : DeclaredNames → Bound = λ ds. record { bindings = ds; tables = with_names (entry I at (number n ∷ [])) (with_variable x.span b.tables) } in
      let d = named_ok (declare b.bindings x n) (λ ds. Ok (to ds)) b1 e in
      ap (λ (v : Bound). declared_names v.bindings) (sym (the_same (to d.0) b1 d.2)) ∙ declared_more b.bindings d.0 x n d.1
  pattern_binds I at (plain.int_pattern s g v k) b b1 e = binds_none b b1 e
  pattern_binds I at (plain.bool_pattern s w) b b1 e = binds_none b b1 e
  pattern_binds I at (plain.tuple_pattern s ps) b b1 e = patterns_bind I at 0 ps b b1 e
  pattern_binds I at (plain.variant_pattern s c v ps) b b1 e =
      let x = order_ok (names I at (variant_in I c v)) (in_patterns I at 0 ps) b b1 e in patterns_bind I at 0 ps (record { bindings = b.bindings; tables = x.0 }) b1 x.2
  pattern_binds I at (plain.make_pattern s y fs) b b1 e =
      let x = order_ok (names I at (one (struct_in I y))) (in_field_patterns I at 0 fs) b b1 e in field_patterns_bind I at 0 fs (record { bindings = b.bindings; tables = x.0 }) b1 x.2

  patterns_bind : (I : Inside) (at : List ℕ) (i : ℕ) (ps : PatternTrees) (b b1 : Bound) → in_patterns I at i ps b ≡ Ok b1 → declared_names b1.bindings ≡ declared_names b.bindings ++ all_bound ps
  patterns_bind I at i plain.no_pattern b b1 e = binds_none b b1 e
  patterns_bind I at i (plain.pattern_and p ps) b b1 e =
      let x = named_ok (in_pattern I (child at i) p b) (in_patterns I at (next i) ps) b1 e in
      patterns_bind I at (next i) ps x.0 b1 x.2 ∙ ap (λ (l : Names). l ++ all_bound ps) (pattern_binds I (child at i) p b x.0 x.1) ∙ append_assoc (declared_names b.bindings) (bound p) (all_bound ps)

  field_patterns_bind : (I : Inside) (at : List ℕ) (i : ℕ) (fs : FieldPatterns) (b b1 : Bound) → in_field_patterns I at i fs b ≡ Ok b1 → declared_names b1.bindings ≡ declared_names b.bindings ++ fields_bound fs
  field_patterns_bind I at i plain.no_field_pattern b b1 e = binds_none b b1 e
  field_patterns_bind I at i (plain.field_pattern_and y p fs) b b1 e =
      let x = named_ok (in_pattern I (child at i) p b) (in_field_patterns I at (next i) fs) b1 e in
      field_patterns_bind I at (next i) fs x.0 b1 x.2 ∙ ap (λ (l : Names). l ++ fields_bound fs) (pattern_binds I (child at i) p b x.0 x.1) ∙ append_assoc (declared_names b.bindings) (bound p) (fields_bound fs)
