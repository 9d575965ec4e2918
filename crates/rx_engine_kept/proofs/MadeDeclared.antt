-- The new items of an extraction are declared where their names are resolved: each lifetime of the enum occurs, and nothing is left out.
-- By induction on exits and params.
use Rattle.std.proofs.Common.{◌≡◌, ℕ, zero, suc, ◌+◌, nat_eq, Bool, true, false, ◌&&◌, if◌then◌else◌, List, [], ◌∷◌, ◌++◌, length, map, Option, Some, None, Ok, slice_get, refl, sym, ap, ◌∙◌, subst, arith, append-nil, append_assoc, option_map}
use Rattle.rx_core.specs.declared.types.Span.{Span}
use Rattle.rx_core.specs.declared.types.Ty.{Ty}
use Rattle.rx_core.specs.declared.types.Ty.TheVariants as ty
use Rattle.rx_tree.specs.Lists.{Every}
use Rattle.rx_tree.specs.declared.tree.Ident.{Ident}
use Rattle.rx_tree.specs.declared.tree.BoundLifetime.{BoundLifetime}
use Rattle.rx_tree.specs.Plain as plain
use Rattle.rx_tree.specs.Plain.{TypeTree, VariantOf, Parameter, Function, ItemTree, ProgramTree}
use Rattle.rx_resolve_names.specs.declared.table.NumberedName.{NumberedName}
use Rattle.rx_resolve_names.specs.Scopes.{DeclaredNames, declared_as}
use Rattle.rx_resolve_names.specs.declared.resolved.ItemNames.{ItemNames}
use Rattle.rx_resolve_names.specs.declared.resolved.NodeNames.{NodeNames}
use Rattle.rx_resolve_names.specs.Meant.{number, kept, firsts, number_in, type_name, item_named, as_type, Around}
use Rattle.rx_resolve_names.specs.Steps.{Inside, known, declare, declared_behind, child, next, entry, with_variable, ◌>>◌}
use Rattle.rx_resolve_names.specs.Names.{behind, in_types, in_optional_type, lifetimes_in, type_in, written, Bound}
use Rattle.rx_resolve_names.specs.Items.{distinct, in_variants, in_parameters, in_item, in_program}
use Rattle.rx_typed.specs.Types.{Typ, Shape}
use Rattle.rx_core.specs.declared.types.Kind.{Kind}
use Rattle.rx_typed.specs.declared.declarations.Decl.{Decl}
use Rattle.rx_typed.specs.declared.declarations.Decl.TheVariants as decl
use Rattle.rx_typed.specs.declared.declarations.VariantDecl.{VariantDecl}
use Rattle.rx_typeck_typed.specs.Steps as steps
use Rattle.rx_typeck_typed.specs.Steps.{Reading, on_ok}
use Rattle.rx_typeck_typed.specs.Written.{lifetimes_of}
use Rattle.rx_typeck_typed.specs.Items.{is_among, used, all_used, declared_item, declared_function, variants_of, begins, derives_copy, bounded, bounds_of, entry_of, parameters_of, the_only, answer_of}
use Rattle.rx_hoist_naming.specs.Words.{NamesTypes}
use Rattle.rx_hoist_extraction.specs.Plan.{Leaving, Param, Bounds, Plan, has_enum, enum_name, exit_name}
use Rattle.rx_hoist_extraction.specs.Values.{next_values, types_of as typ_of_values}
use Rattle.rx_hoist_extraction.specs.Fresh.{fresh_lifetime}
use Rattle.rx_hoist_extraction.specs.Made.{ident}
use Rattle.rx_hoist_extraction.specs.Run.{Parts}
use Rattle.rx_hoist_extraction.specs.WrittenTypes.{positions, positions_of, lifetimes_from, list_if_any, full, each_full}
use Rattle.rx_hoist_extraction.specs.NewEnum.{fields_at, all_fields, enum_positions, variants, new_enum}
use Rattle.rx_hoist_extraction.specs.NewFunction.{passed, is_by_value, new_parameters, joined_type, full_if_any, enum_type, new_result, parameter_positions, new_function}
use Rattle.rx_hoist_extraction.proofs.Signatures.{positions_both}
use Rattle.rx_engine_names.specs.NewPlan.{TypesNamed}
use Rattle.rx_engine_names.proofs.SideBySide.{named_ok, the_same}
use Rattle.rx_engine_names.proofs.KeptItems.{Keeps, itself, keeps_itself, known_some}
use Rattle.rx_engine_names.proofs.FoundTypes.{Finds, type_finds}
use Rattle.rx_engine_names.proofs.DeclaredLifetimes.{firsts_keep, declared_last}
use Rattle.rx_engine_names.proofs.NewScopes.{same_name}
use Rattle.rx_engine_names.proofs.NewItems.{next_named, fields_named}
use Rattle.rx_engine_declared.specs.NewItems.{or_unit}
use Rattle.rx_engine_declared.proofs.Reading.{reading, before_entry, before_none}
use Rattle.rx_engine_declared.proofs.Items.{with_one, with_none, all_bounds, distinct_names}
use Rattle.rx_engine_declared.proofs.MadeItems.{passed_named, joined_named}
use Rattle.rx_engine_kept.proofs.BothTypes.{name_entry}
use Rattle.rx_engine_kept.proofs.BothItems.{in_field, in_parameters_of, answer_one, answer_none, one_parameter, entry_both}
use Rattle.rx_engine_kept.proofs.BothDeclared.{inside, start, whole, function_taken}
use Rattle.rx_engine_kept.proofs.MadeReads.{Counts, same_count, Occur, none_occur, occur_both, MadeRead, item_read, LeftMade, full_read, each_read}

-- ---- counts of lifetimes where a type stands

field_counts : Counts in_field.0
field_counts s ds ls e = let h : nat_eq (length ls) (length ds) ≡ true = ap (λ (n : ℕ). nat_eq n (length ds)) e ∙ same_count (length ds) in cc

parameter_counts : Counts in_parameters_of.0
parameter_counts s ds ls e = refl

none_counts : Counts with_none.0
none_counts s ds ls e = refl

one_counts : (n : ℕ) → Counts (with_one.0 n)
one_counts n s ds ls e = refl

-- ---- the numbers of declared lifetimes

abbrev EachNumber : DeclaredNames → ℕ → List Ident → Type 0
EachNumber ds n [] = Unit {0}
EachNumber ds n (x ∷ xs) = (number_in ds x.name ≡ Some (number n)) × EachNumber ds (suc n) xs

-- each means its place
numbered_once : (ds : DeclaredNames) (n : ℕ) (xs : List Ident) (t t' : ItemNames) → distinct ds n xs t ≡ Ok t' → EachNumber (firsts ds n xs) n xs
numbered_once ds n [] t t' e = tt
numbered_once ds n (x ∷ xs) t t' e =
    let k : NumberedName = record { number = number n; span = x.span } in
    let a = named_ok (declare ds x n) (λ ds. distinct ds (suc n) xs t) t' e in
    by (declared_as ds x.name) refl a.0 a.1 (λ same. numbered_once (ds ++ (x.name, k) ∷ []) (suc n) xs t t' (subst (λ (z : DeclaredNames). distinct z (suc n) xs t ≡ Ok t') (sym same) a.2))
  where
    by : (o : Option NumberedName) → declared_as ds x.name ≡ o → (es : DeclaredNames) → declared_behind ds x n o ≡ Ok es
        → (ds ++ (x.name, record { number = number n; span = x.span }) ∷ [] ≡ es → EachNumber (firsts (ds ++ (x.name, record { number = number n; span = x.span }) ∷ []) (suc n) xs) (suc n) xs)
        → EachNumber (firsts (kept ds x n o) (suc n) xs) n (x ∷ xs)
    by (Some k) none es d rest = absurd (cc)
    by None none es d rest =
        let k : NumberedName = record { number = number n; span = x.span } in
        let now = ds ++ (x.name, k) ∷ [] in (
          ap (λ (o : Option NumberedName). option_map (λ (k : NumberedName). k.number) o) (firsts_keep now (suc n) xs x.name k (declared_last ds x.name x.name k none (same_name x.name))),
          rest (the_same now es d),
        )

used_there : (n : ℕ) (x : Ident) (ls : List ℕ) → is_among (number n) ls ≡ true → used n x ls ≡ Ok tt
used_there n x ls e = cc

-- all of a row are used
row_used : (J : Inside) (s : Span) (row : ℕ → List ℕ) (n many : ℕ) (ls : List ℕ) → EachNumber J.lifetimes n (lifetimes_from s row n many) → Occur J s row n many ls → all_used n (lifetimes_from s row n many) ls ≡ Ok tt
row_used J s row n zero ls e o = refl
row_used J s row n (suc many) ls e o =
    ap (λ (z : steps.Outcome (Unit {0})). on_ok z (λ _. all_used (suc n) (lifetimes_from s row (suc n) many) ls))
    (used_there n (ident s (row n)) ls (o n (number n) (omega arith) (omega arith) (ap (λ (z : Option ℕ). known z s) e.0)))
    ∙ row_used J s row (suc n) many ls e.1 (λ i j l m g. o i j (omega (arith, l)) (omega (arith, m)) g)

-- an entry of a function is taken or there is none
entry_ok : (bs : List ℕ) (xs : List Parameter) (r : Reading) → (q : List ℕ × Reading) × (entry_of bs xs r ≡ Ok q)
entry_ok [] [] r = (([], r), refl)
entry_ok [] (x ∷ xs) r = (steps.taken r.names r, refl)
entry_ok (b ∷ bs) xs r = (steps.taken r.names r, refl)

module _ (P Q : ProgramTree) (items : ℕ → ℕ) (keeps : Keeps items P Q) (ts : List ItemNames) (resolved : in_program P ≡ Ok ts) (pl : Plan) (N : TypesNamed P pl) (s : Span) where
  abbrev row : ℕ → List ℕ
  row = fresh_lifetime pl.lifetimes

  module _ (b : ℕ) (L : DeclaredNames) where
    abbrev J : Inside
    J = record { program = Q; item = b; lifetimes = L }

    finds : (t : Shape Kind) → NamesTypes P t → Finds (record { program = P; item = 0; lifetimes = L }) P t
    finds = type_finds P ts resolved 0 L

    module _ (G : List NodeNames) where
      abbrev Left : ItemNames → (List NodeNames → Type 0) → Type 0
      Left u R = LeftMade P Q items keeps 0 b L finds s row G u R

      -- ---- variants

      record VariantsRead (xs : List Leaving) (n many : ℕ) (l m : List NodeNames) : Type 0 where
        lifetimes : List ℕ
        occur : Occur J s row n many lifetimes
        reads : (ls : List ℕ) (k : ℕ) → (w : List VariantDecl) × (variants_of Q (variants P pl s n xs) (reading l ls k) ≡ Ok (w, reading m (ls ++ lifetimes) k))

      variants_read : (ds : DeclaredNames) (c i n : ℕ) (xs : List Leaving) → Every (λ (x : Leaving). Every (λ (t : Typ). NamesTypes P t) (fields_at pl x)) xs → (u u' : ItemNames) → in_variants J [] ds c i (variants P pl s n xs) u ≡ Ok u'
          → (m : List NodeNames) → G ≡ u'.names ++ m → Left u (λ l. VariantsRead xs n (positions_of P (all_fields pl xs)) l m)
      variants_read ds c i n [] h u u' e m g = record {
        left = m;
        stands = before_none G u u' m e g;
        made = record { lifetimes = []; occur = none_occur J s row n; reads = λ ls k. ([], ap (λ (z : List ℕ). Ok ([], reading m z k)) (sym (append-nil ls))) };
      }
      variants_read ds c i n (x ∷ xs) h u u' e m g =
          let fs = fields_at pl x in
          let ys = each_full P s row n fs in
          let name = ident s (exit_name x.exit) in
          let vs = variants P pl s (n + positions_of P fs) xs in
          let d = named_ok (declare ds name c) (λ ds. (in_types J [] i ys >> in_variants J [] ds (suc c) (behind i ys) vs) u) u' e in
          let p = named_ok (in_types J [] i ys u) (in_variants J [] d.0 (suc c) (behind i ys) vs) u' d.2 in
          let more = variants_read d.0 (suc c) (behind i ys) (n + positions_of P fs) xs h.1 p.0 u' p.2 m g in
          let one = each_read P Q items keeps 0 b L finds s row G [] i n fs h.0 u p.0 p.1 more.left more.stands in
          let variant : List Ty → VariantDecl = λ ts. record { name = name.name; parts = ts } in
          record {
            left = one.left;
            stands = one.stands;
            made = record {
              lifetimes = one.made.lifetimes ++ more.made.lifetimes;
              occur = subst (λ (z : ℕ). Occur J s row n z (one.made.lifetimes ++ more.made.lifetimes)) (sym (positions_both P fs (all_fields pl xs)))
                  (occur_both J s row n (positions_of P fs) (positions_of P (all_fields pl xs)) one.made.lifetimes more.made.lifetimes one.made.occur more.made.occur);
              reads = λ ls k.
                  let a = one.made.reads in_field.0 field_counts ls k in
                  let q = more.made.reads (ls ++ one.made.lifetimes) k in (
                    variant a.0 ∷ q.0,
                    ap (λ (o : steps.Outcome (List Ty × Reading)). on_ok {A = VariantDecl × Reading} (on_ok o (λ p. Ok (variant p.0, p.1))) (λ p. on_ok (variants_of Q vs p.1) (λ w. Ok (p.0 ∷ w.0, w.1)))) a.1
                        ∙ ap (λ (o : steps.Outcome (List VariantDecl × Reading)). on_ok o (λ w. Ok (variant a.0 ∷ w.0, w.1))) q.1
                        ∙ ap (λ (z : List ℕ). Ok (variant a.0 ∷ q.0, reading m z k)) (append_assoc ls one.made.lifetimes more.made.lifetimes),
                  );
            };
          }

      -- ---- parameters and the result

      abbrev first_of : Param → TypeTree → Parameter
      first_of x y = record { name = ident s x.variable.name; mutable = is_by_value x.mode && (x.moved && x.variable.mutable); typ = y }

      abbrev ParamsRead : List Param → ℕ → List NodeNames → List NodeNames → Type 0
      ParamsRead xs n l m = (ls : List ℕ) (k : ℕ) → (w : List Ty) × (us : List ℕ) × (parameters_of Q (new_parameters P pl s n xs) (reading l ls k) ≡ Ok (w, reading m us k))

      params_read : (at : List ℕ) (i n : ℕ) (xs : List Param) → Every (λ (x : Param). NamesTypes P x.variable.typ) xs → (c c' : Bound) → in_parameters J at i (new_parameters P pl s n xs) c ≡ Ok c'
          → (m : List NodeNames) → G ≡ c'.tables.names ++ m → Left c.tables (λ l. ParamsRead xs n l m)
      params_read at i n [] h c c' e m g = record {
        left = m;
        stands = g ∙ ap (λ (z : Bound). z.tables.names ++ m) (sym (the_same c c' e));
        made = λ ls k. ([], ls, refl);
      }
      params_read at i n (x ∷ xs) h c c' e m g =
          let t = passed x.mode x.variable.typ in
          let y = full P s row n t in
          let ys = new_parameters P pl s (n + positions P t) xs in
          let o = one_parameter J at i (first_of x y) ys c c' e in
          let more = params_read at (next i) (n + positions P t) xs h.1 o.behind c' o.others m g in
          let one = full_read P Q items keeps 0 b L finds s row G (child at i) n t (passed_named P x.mode x.variable.typ h.0) (with_variable (ident s x.variable.name).span c.tables) o.behind.tables o.typ more.left more.stands in
          record {
            left = one.left;
            stands = one.stands;
            made = λ ls k.
                let a = one.made.reads in_parameters_of.0 parameter_counts ls k in
                let q = more.made (ls ++ one.made.lifetimes) k in (
                  a.0 ∷ q.0,
                  q.1,
                  ap (λ (o : steps.Outcome (Ty × Reading)). on_ok o (λ p. on_ok (parameters_of Q ys p.1) (λ w. Ok (p.0 ∷ w.0, w.1)))) a.1
                      ∙ ap (λ (o : steps.Outcome (List Ty × Reading)). on_ok o (λ w. Ok (a.0 ∷ w.0, w.1))) q.2,
                );
          }

      abbrev AnswerRead : Option TypeTree → List NodeNames → Type 0
      AnswerRead y l = (ls : List ℕ) (k : ℕ) → (q : Ty × Reading) × (answer_of Q y (reading l ls k) ≡ Ok q)

      answer_read : (y : TypeTree) (n many : ℕ) (l m : List NodeNames) → MadeRead J s row Q y n many l m → AnswerRead (Some y) l
      answer_read y n many l m r ls k = by (the_only ls) refl
        where
          by : (o : Option ℕ) → the_only ls ≡ o → (q : Ty × Reading) × (answer_of Q (Some y) (reading l ls k) ≡ Ok q)
          by None e = let a = r.reads with_none.0 none_counts ls k in ((a.0, reading m (ls ++ r.lifetimes) k), sym (answer_none Q y l ls k e) ∙ a.1)
          by (Some x) e = let a = r.reads (with_one.0 x) (one_counts x) ls k in ((a.0, reading m (ls ++ r.lifetimes) k), sym (answer_one Q y l ls k x e) ∙ a.1)

      -- where there is an enum of exits, its name means an item with as many lifetimes
      abbrev pub EnumThere : Type 0
      EnumThere = has_enum pl.exits ≡ true → (j : ℕ) × (as_type (item_named type_name 0 Q (enum_name pl)) ≡ Some j) × (length (lifetimes_of (slice_get Q j)) ≡ enum_positions P pl)

      result_read : EnumThere → (at : List ℕ) (n : ℕ) (u u' : ItemNames) → in_optional_type J at (new_result P pl s n) u ≡ Ok u' → (m : List NodeNames) → G ≡ u'.names ++ m → Left u (λ l. AnswerRead (new_result P pl s n) l)
      result_read there at n u u' e m g = by (has_enum pl.exits) refl e
        where
          joined : (o : Option Typ) → NamesTypes P (or_unit o) → in_optional_type J at (full_if_any P pl s n o) u ≡ Ok u' → Left u (λ l. AnswerRead (full_if_any P pl s n o) l)
          joined None h e = record { left = m; stands = before_none G u u' m e g; made = λ ls k. ((ty.Tuple [], reading m ls k), refl) }
          joined (Some t) h e =
              let a = full_read P Q items keeps 0 b L finds s row G at n t h u u' e m g in
              record { left = a.left; stands = a.stands; made = answer_read (full P s row n t) n (positions P t) a.left m a.made }

          by : (c : Bool) → has_enum pl.exits ≡ c → in_optional_type J at (if c then Some (enum_type P pl s n) else full_if_any P pl s n (joined_type (typ_of_values (next_values pl)))) u ≡ Ok u'
              → Left u (λ l. AnswerRead (if c then Some (enum_type P pl s n) else full_if_any P pl s n (joined_type (typ_of_values (next_values pl)))) l)
          by true h e =
              let many = enum_positions P pl in
              let x = ident s (enum_name pl) in
              let ls = list_if_any (lifetimes_from s row n many) in
              let v = name_entry J at (type_in J x) (lifetimes_in J (written ls)) u u' e in
              let z = there h in
              let n' = entry J at (v.0 ∷ v.1) in
              let same : v.0 ≡ z.0 = one v.0 z.0 (sym (known_some (as_type (item_named type_name 0 Q x.name)) x.span v.0 v.2) ∙ z.1) in
              record {
                left = n' ∷ m;
                stands = before_entry G n' u u' m v.4 g;
                made = answer_read (enum_type P pl s n) n many (n' ∷ m) m (item_read J s row Q x n many v.0 v.1 n' m refl (ap (λ (j : ℕ). length (lifetimes_of (slice_get Q j))) same ∙ z.2) v.3);
              }
            where
              one : (i j : ℕ) → ◌≡◌ {A = Option ℕ} (Some i) (Some j) → i ≡ j
              one i j e = cc
          by false h e = joined (joined_type (typ_of_values (next_values pl))) (joined_named P (typ_of_values (next_values pl)) (next_named P pl N)) e

  -- ---- the items

  pub enum_made : (n : ℕ) (u : ItemNames) → in_item Q n (plain.enum_item s (new_enum P pl s)) ≡ Ok u → (d : Decl) × (declared_item Q u.names (plain.enum_item s (new_enum P pl s)) ≡ Ok d)
  enum_made n u e =
      let x = new_enum P pl s in
      let i = plain.enum_item s x in
      let I = inside Q n i in
      let o = named_ok (distinct [] 0 x.lifetimes (start i)) (in_variants I [] [] 0 0 x.variants) u e in
      let r = variants_read (number n) (firsts [] 0 x.lifetimes) u.names [] 0 0 0 pl.exits (fields_named P pl N pl.exits N.outs) o.0 u o.2 [] (whole u) in
      let too : u.names ≡ r.left = r.stands ∙ ap (λ (z : ItemNames). z.names ++ r.left) (sym (distinct_names [] 0 x.lifetimes (start i) o.0 o.1)) in
      let made : List VariantDecl → Decl = λ vs. decl.Enum (derives_copy x.derives) (number (length x.lifetimes)) [] vs in
      let a = r.made.reads [] 0 in (
        made a.0,
        ap (λ (o : steps.Outcome (List VariantDecl × Reading)). on_ok o (λ r. on_ok (all_used 0 x.lifetimes r.1.lifetimes) (λ _. Ok (made r.0)))) (ap (λ (l : List NodeNames). variants_of Q x.variants (begins l 0)) too ∙ a.1)
            ∙ ap (λ (o : steps.Outcome (Unit {0})). on_ok o (λ _. Ok (made a.0))) (row_used I s row 0 (enum_positions P pl) r.made.lifetimes (numbered_once [] 0 x.lifetimes (start i) o.0 o.1) r.made.occur),
      )

  pub function_made : (has_enum pl.exits ≡ true → (j : ℕ) × (as_type (item_named type_name 0 Q (enum_name pl)) ≡ Some j) × (length (lifetimes_of (slice_get Q j)) ≡ enum_positions P pl)) → (bs : Bounds) (around : List Around) (p : Parts) (n : ℕ) (u : ItemNames)
      → in_item Q n (plain.function_item s (new_function P pl bs s around p)) ≡ Ok u → (d : Decl) × (declared_item Q u.names (plain.function_item s (new_function P pl bs s around p)) ≡ Ok d)
  function_made there bs around p n u e =
      let f = new_function P pl bs s around p in
      let i = plain.function_item s f in
      let I = inside Q n i in
      let T = function_taken Q n s f u e in
      let L = firsts [] 0 (map (λ (l : BoundLifetime). l.name) f.lifetimes) in
      let B = bounded 0 f.lifetimes in
      let c = number (length f.lifetimes) in
      let at = child [] (number (length f.params)) in
      let r3 = result_read (number n) L u.names there at (parameter_positions P pl) T.bound.tables T.done T.result T.rest T.all in
      let r2 = params_read (number n) L u.names [] 0 0 pl.params N.params (record { bindings = []; tables = T.begun }) T.bound T.params r3.left r3.stands in
      let many = all_bounds u.names I [] 0 f.lifetimes T.bounds T.are in
      let r1 = entry_both Q Q itself (keeps_itself Q) (number n) (number n) L u.names u.names [] [] T.bounds T.bounds B f.params many many (start i) T.begun (start i) T.begun T.entry T.entry r2.left r2.left r2.stands r2.stands in
      let a = entry_ok B f.params (reading r1.left [] c) in
      let g1 = r1.goes.go [] c a.0 a.1 in
      let g2 = r2.made a.0.1.lifetimes a.0.1.next in
      let g3 = r3.made g2.1 a.0.1.next in (
        decl.Func a.0.1.next g2.0 g3.0.0 (bounds_of B a.0.0),
        ap (λ (l : List NodeNames). declared_function Q l f) r1.stands
            ∙ ap (λ (o : steps.Outcome (List ℕ × Reading)). on_ok o (λ e. on_ok (parameters_of Q f.params e.1) (λ ps. on_ok (answer_of Q f.result ps.1) (λ a. Ok (decl.Func ps.1.next ps.0 a.0 (bounds_of B e.0)))))) a.1
            ∙ ap (λ (o : steps.Outcome (List Ty × Reading)). on_ok o (λ ps. on_ok (answer_of Q f.result ps.1) (λ z. Ok (decl.Func ps.1.next ps.0 z.0 (bounds_of B a.0.0)))))
            (ap (λ (l : List NodeNames). parameters_of Q f.params (reading l a.0.1.lifetimes a.0.1.next)) g1.0 ∙ g2.2)
            ∙ ap (λ (o : steps.Outcome (Ty × Reading)). on_ok o (λ z. Ok (decl.Func a.0.1.next g2.0 z.0 (bounds_of B a.0.0)))) g3.1,
      )
