-- What an item declares in two programs in which names mean items that correspond: where its types are read in the first, they are in the second.
-- By induction on its fields, variants and parameters.
use Rattle.std.proofs.Common.{◌≡◌, ℕ, suc, List, [], ◌∷◌, ◌++◌, length, Option, Some, None, Ok, refl, sym, ap, ◌∙◌}
use Rattle.rx_core.specs.declared.types.Ty.{Ty}
use Rattle.rx_core.specs.declared.types.Ty.TheVariants as ty
use Rattle.rx_tree.specs.Plain.{TypeTree, FieldOf, VariantOf, Parameter, ProgramTree}
use Rattle.rx_resolve_names.specs.Scopes.{DeclaredNames}
use Rattle.rx_resolve_names.specs.declared.resolved.ItemNames.{ItemNames}
use Rattle.rx_resolve_names.specs.declared.resolved.NodeNames.{NodeNames}
use Rattle.rx_resolve_names.specs.Steps as names
use Rattle.rx_resolve_names.specs.Steps.{Inside, declare, child, next, with_names, with_variable, entry, numbered, ◌>>◌}
use Rattle.rx_resolve_names.specs.Names.{behind, in_type, in_types, in_optional_type, Bound}
use Rattle.rx_resolve_names.specs.Items.{in_declared, in_variants, in_parameter, in_parameters, numbers_from}
use Rattle.rx_typeck_typed.specs.Steps as steps
use Rattle.rx_typeck_typed.specs.Steps.{Reading, Step, on_ok, gives, and_then, an_entry}
use Rattle.rx_typeck_typed.specs.Written.{type_of, types_of}
use Rattle.rx_typeck_typed.specs.Items.{field_of, fields_of, variant_of, variants_of, entry_of, parameters_of, the_only, answer_of}
use Rattle.rx_engine_names.proofs.SideBySide.{named_ok, the_same}
use Rattle.rx_engine_names.proofs.KeptItems.{Keeps}
use Rattle.rx_engine_declared.proofs.Reading.{reading, Role, before_entry, before_none}
use Rattle.rx_engine_declared.proofs.Items.{with_one, with_none, takes_one, takes_none}
use Rattle.rx_engine_kept.proofs.Going.{Goes, Any, answers, LeavesOut, goes_gives, goes_map, goes_front, goes_entry, occurs_goes, another_goes}
use Rattle.rx_engine_kept.proofs.BothTypes.{TypeGoes, LeftBoth, type_both, types_both}

-- ---- where a type stands

-- a field leaves no lifetime out, a parameter has one of its own for it
abbrev pub in_field : (F : Role) × ((p : ProgramTree) (f : FieldOf) → field_of p f ≡ and_then (type_of p F f.typ) (λ t. gives (record { name = f.name.name; ty = t })))
in_field = (_, λ p f. refl)

abbrev pub in_parameters_of : (F : Role) × ((p : ProgramTree) (x : Parameter) → parameters_of p (x ∷ []) ≡ steps.in_front (type_of p F x.typ) (gives []))
in_parameters_of = (_, λ p x. refl)

pub field_leaves : LeavesOut in_field.0
field_leaves s l l' = record { go = λ ls k q e. absurd (cc) }

pub parameter_leaves : LeavesOut in_parameters_of.0
parameter_leaves s l l' = record { go = λ ls k q e. (another_goes l l').go ls k q e }

pub none_leaves : LeavesOut with_none.0
none_leaves s l l' = record { go = λ ls k q e. absurd (cc) }

pub one_leaves : (n : ℕ) → LeavesOut (with_one.0 n)
one_leaves n s l l' = record { go = λ ls k q e. (occurs_goes n l l').go ls k q e }

-- so a result stands where the lifetimes of the parameters tell
pub answer_one : (p : ProgramTree) (y : TypeTree) (ns : List NodeNames) (ls : List ℕ) (k n : ℕ) → the_only ls ≡ Some n → type_of p (with_one.0 n) y (reading ns ls k) ≡ answer_of p (Some y) (reading ns ls k)
answer_one p y ns ls k n e = cc

pub answer_none : (p : ProgramTree) (y : TypeTree) (ns : List NodeNames) (ls : List ℕ) (k : ℕ) → the_only ls ≡ None → type_of p with_none.0 y (reading ns ls k) ≡ answer_of p (Some y) (reading ns ls k)
answer_none p y ns ls k e = cc

-- a parameter and those behind it
pub record OneParameter (I : Inside) (at : List ℕ) (i : ℕ) (x : Parameter) (xs : List Parameter) (c c' : Bound) : Type 0 where
  pub behind : Bound
  pub typ : in_type I (child at i) x.typ (with_variable x.name.span c.tables) ≡ Ok behind.tables
  pub others : in_parameters I at (next i) xs behind ≡ Ok c'

pub one_parameter : (I : Inside) (at : List ℕ) (i : ℕ) (x : Parameter) (xs : List Parameter) (c c' : Bound) → in_parameters I at i (x ∷ xs) c ≡ Ok c' → OneParameter I at i x xs c c'
one_parameter I at i x xs c c' e =
    let o = named_ok (in_parameter I at i x c) (in_parameters I at (next i) xs) c' e in
    let d = named_ok (declare c.bindings x.name i) (λ ds. names.and_then (in_type I (child at i) x.typ (with_variable x.name.span c.tables)) (λ t. Ok (record { bindings = ds; tables = t }))) o.0 o.1 in
    let y = named_ok (in_type I (child at i) x.typ (with_variable x.name.span c.tables)) (λ t. Ok (record { bindings = d.0; tables = t })) o.0 d.2 in
    let same : y.0 ≡ o.0.tables = ap (λ (z : Bound). z.tables) (the_same (record { bindings = d.0; tables = y.0 }) o.0 y.2) in
    record { behind = o.0; typ = y.1 ∙ ap (λ (z : ItemNames). Ok z) same; others = o.2 }

module _ (P Q : ProgramTree) (items : ℕ → ℕ) (k : Keeps items P Q) (a b : ℕ) (L : DeclaredNames) where
  abbrev I : Inside
  I = record { program = P; item = a; lifetimes = L }

  abbrev J : Inside
  J = record { program = Q; item = b; lifetimes = L }

  abbrev Left : List NodeNames → List NodeNames → ItemNames → ItemNames → (List NodeNames → List NodeNames → Type 0) → Type 0
  Left F G t u R = LeftBoth P Q items k a b L F G t u R

  abbrev TypeThere : TypeTree → List NodeNames → List NodeNames → List NodeNames → List NodeNames → Type 0
  TypeThere y l l' m m' = TypeGoes P Q items k a b L y l l' m m'

  result_goes : (y : TypeTree) (l l' m m' : List NodeNames) → TypeThere y l l' m m' → Goes Any (answer_of P (Some y)) (answer_of Q (Some y)) l l' m m'
  result_goes y l l' m m' h = record { go = λ ls n q d. by ls n q d (the_only ls) refl }
    where
      by : (ls : List ℕ) (n : ℕ) (q : Ty × Reading) → answer_of P (Some y) (reading l ls n) ≡ Ok q → (o : Option ℕ) → the_only ls ≡ o → (q.1.names ≡ m) × (w : Ty) × Any q.0 w × (answer_of Q (Some y) (reading l' ls n) ≡ answers w m' q)
      by ls n q d None e = let r = (h with_none.0 none_leaves).go ls n q (takes_none P y l ls n q e d) in (r.0, r.1, r.2, sym (answer_none Q y l' ls n e) ∙ r.3)
      by ls n q d (Some x) e = let r = (h (with_one.0 x) (one_leaves x)).go ls n q (takes_one P y l ls n x q e d) in (r.0, r.1, r.2, sym (answer_one Q y l' ls n x e) ∙ r.3)

  module _ (F G : List NodeNames) where
    pub fields_both : (at at' : List ℕ) (ds ds' : DeclaredNames) (i i' : ℕ) (fs : List FieldOf) (t t' u u' : ItemNames) → in_declared I at ds i fs t ≡ Ok t' → in_declared J at' ds' i' fs u ≡ Ok u' → (m m' : List NodeNames) → F ≡ t'.names ++ m → G ≡ u'.names ++ m'
        → Left F G t u (λ l l'. Goes Any (fields_of P fs) (fields_of Q fs) l l' m m')
    fields_both at at' ds ds' i i' [] t t' u u' e f m m' h g = record {
      left = m;
      right = m';
      stands = before_none F t t' m e h;
      also = before_none G u u' m' f g;
      goes = goes_gives [] [] tt m m';
    }
    fields_both at at' ds ds' i i' (x ∷ fs) t t' u u' e f m m' h g =
        let d = named_ok (declare ds x.name i) (λ ds. (in_type I (child at i) x.typ >> in_declared I at ds (next i) fs) t) t' e in
        let d' = named_ok (declare ds' x.name i') (λ ds. (in_type J (child at' i') x.typ >> in_declared J at' ds (next i') fs) u) u' f in
        let o = named_ok (in_type I (child at i) x.typ t) (in_declared I at d.0 (next i) fs) t' d.2 in
        let p = named_ok (in_type J (child at' i') x.typ u) (in_declared J at' d'.0 (next i') fs) u' d'.2 in
        let more = fields_both at at' d.0 d'.0 (next i) (next i') fs o.0 t' p.0 u' o.2 p.2 m m' h g in
        let one = type_both P Q items k a b L F G (child at i) (child at' i') x.typ t o.0 u p.0 o.1 p.1 more.left more.right more.stands more.also in
        record {
          left = one.left;
          right = one.right;
          stands = one.stands;
          also = one.also;
          goes = goes_front (field_of P x) (field_of Q x) (fields_of P fs) (fields_of Q fs) {l = one.left} {l' = one.right} {m = more.left} {m' = more.right}
              (goes_map (type_of P in_field.0 x.typ) (type_of Q in_field.0 x.typ) (λ t. record { name = x.name.name; ty = t }) (λ t. record { name = x.name.name; ty = t }) (one.goes in_field.0 field_leaves)) more.goes;
        }

    pub variants_both : (at at' : List ℕ) (ds ds' : DeclaredNames) (n n' i i' : ℕ) (vs : List VariantOf) (t t' u u' : ItemNames) → in_variants I at ds n i vs t ≡ Ok t' → in_variants J at' ds' n' i' vs u ≡ Ok u' → (m m' : List NodeNames) → F ≡ t'.names ++ m → G ≡ u'.names ++ m'
        → Left F G t u (λ l l'. Goes Any (variants_of P vs) (variants_of Q vs) l l' m m')
    variants_both at at' ds ds' n n' i i' [] t t' u u' e f m m' h g = record {
      left = m;
      right = m';
      stands = before_none F t t' m e h;
      also = before_none G u u' m' f g;
      goes = goes_gives [] [] tt m m';
    }
    variants_both at at' ds ds' n n' i i' (x ∷ vs) t t' u u' e f m m' h g =
        let d = named_ok (declare ds x.name n) (λ ds. (in_types I at i x.types >> in_variants I at ds (suc n) (behind i x.types) vs) t) t' e in
        let d' = named_ok (declare ds' x.name n') (λ ds. (in_types J at' i' x.types >> in_variants J at' ds (suc n') (behind i' x.types) vs) u) u' f in
        let o = named_ok (in_types I at i x.types t) (in_variants I at d.0 (suc n) (behind i x.types) vs) t' d.2 in
        let p = named_ok (in_types J at' i' x.types u) (in_variants J at' d'.0 (suc n') (behind i' x.types) vs) u' d'.2 in
        let more = variants_both at at' d.0 d'.0 (suc n) (suc n') (behind i x.types) (behind i' x.types) vs o.0 t' p.0 u' o.2 p.2 m m' h g in
        let one = types_both P Q items k a b L F G at at' i i' x.types t o.0 u p.0 o.1 p.1 more.left more.right more.stands more.also in
        record {
          left = one.left;
          right = one.right;
          stands = one.stands;
          also = one.also;
          goes = goes_front (variant_of P x) (variant_of Q x) (variants_of P vs) (variants_of Q vs) {l = one.left} {l' = one.right} {m = more.left} {m' = more.right}
              (goes_map (types_of P in_field.0 x.types) (types_of Q in_field.0 x.types) (λ ts. record { name = x.name.name; parts = ts }) (λ ts. record { name = x.name.name; parts = ts }) (one.goes in_field.0 field_leaves)) more.goes;
        }

    pub parameters_both : (at at' : List ℕ) (i i' : ℕ) (xs : List Parameter) (c c' d d' : Bound) → in_parameters I at i xs c ≡ Ok c' → in_parameters J at' i' xs d ≡ Ok d' → (m m' : List NodeNames) → F ≡ c'.tables.names ++ m → G ≡ d'.tables.names ++ m'
        → Left F G c.tables d.tables (λ l l'. Goes Any (parameters_of P xs) (parameters_of Q xs) l l' m m')
    parameters_both at at' i i' [] c c' d d' e f m m' h g = record {
      left = m;
      right = m';
      stands = h ∙ ap (λ (z : Bound). z.tables.names ++ m) (sym (the_same c c' e));
      also = g ∙ ap (λ (z : Bound). z.tables.names ++ m') (sym (the_same d d' f));
      goes = goes_gives [] [] tt m m';
    }
    parameters_both at at' i i' (x ∷ xs) c c' d d' e f m m' h g =
        let o = one_parameter I at i x xs c c' e in
        let p = one_parameter J at' i' x xs d d' f in
        let more = parameters_both at at' (next i) (next i') xs o.behind c' p.behind d' o.others p.others m m' h g in
        let one = type_both P Q items k a b L F G (child at i) (child at' i') x.typ (with_variable x.name.span c.tables) o.behind.tables (with_variable x.name.span d.tables) p.behind.tables o.typ p.typ more.left more.right more.stands more.also in
        record {
          left = one.left;
          right = one.right;
          stands = one.stands;
          also = one.also;
          goes = goes_front (type_of P in_parameters_of.0 x.typ) (type_of Q in_parameters_of.0 x.typ) (parameters_of P xs) (parameters_of Q xs) {l = one.left} {l' = one.right} {m = more.left} {m' = more.right} (one.goes in_parameters_of.0 parameter_leaves) more.goes;
        }

    pub result_both : (at at' : List ℕ) (y : Option TypeTree) (t t' u u' : ItemNames) → in_optional_type I at y t ≡ Ok t' → in_optional_type J at' y u ≡ Ok u' → (m m' : List NodeNames) → F ≡ t'.names ++ m → G ≡ u'.names ++ m'
        → Left F G t u (λ l l'. Goes Any (answer_of P y) (answer_of Q y) l l' m m')
    result_both at at' None t t' u u' e f m m' h g = record {
      left = m;
      right = m';
      stands = before_none F t t' m e h;
      also = before_none G u u' m' f g;
      goes = record { go = λ ls n q d. (goes_gives {R = Any} (ty.Tuple []) (ty.Tuple []) tt m m').go ls n q d };
    }
    result_both at at' (Some y) t t' u u' e f m m' h g =
        let one = type_both P Q items k a b L F G at at' y t t' u u' e f m m' h g in
        record { left = one.left; right = one.right; stands = one.stands; also = one.also; goes = result_goes y one.left one.right m m' one.goes }

    with_entry : (x x' : NodeNames) (t t' u u' : ItemNames) → ◌≡◌ {A = names.Outcome ItemNames} (Ok (with_names x t)) (Ok t') → ◌≡◌ {A = names.Outcome ItemNames} (Ok (with_names x' u)) (Ok u') → (m m' : List NodeNames) → F ≡ t'.names ++ m → G ≡ u'.names ++ m'
        → Left F G t u (λ l l'. Goes Any an_entry an_entry l l' m m')
    with_entry x x' t t' u u' e f m m' h g = record {
      left = x ∷ m;
      right = x' ∷ m';
      stands = before_entry F x t t' m (the_same (with_names x t) t' e) h;
      also = before_entry G x' u u' m' (the_same (with_names x' u) u' f) g;
      goes = record { go = λ ls n q d. let r = (goes_entry x x' m m').go ls n q d in (r.0, r.1, tt, r.3) };
    }

    -- the entry of a function with bounds or parameters
    pub entry_both : (at at' ns ns' bs : List ℕ) (xs : List Parameter) → length ns ≡ length bs → length ns' ≡ length bs → (t t' u u' : ItemNames) → numbered I at (ns ++ numbers_from 0 xs) t ≡ Ok t' → numbered J at' (ns' ++ numbers_from 0 xs) u ≡ Ok u'
        → (m m' : List NodeNames) → F ≡ t'.names ++ m → G ≡ u'.names ++ m' → Left F G t u (λ l l'. Goes Any (entry_of bs xs) (entry_of bs xs) l l' m m')
    entry_both at at' [] [] [] [] p r t t' u u' e f m m' h g = record {
      left = m;
      right = m';
      stands = before_none F t t' m e h;
      also = before_none G u u' m' f g;
      goes = goes_gives [] [] tt m m';
    }
    entry_both at at' [] [] [] (x ∷ xs) p r t t' u u' e f m m' h g = with_entry (entry I at (0 ∷ numbers_from (next 0) xs)) (entry J at' (0 ∷ numbers_from (next 0) xs)) t t' u u' e f m m' h g
    entry_both at at' (n ∷ ns) (n' ∷ ns') (c ∷ bs) xs p r t t' u u' e f m m' h g = with_entry (entry I at (n ∷ (ns ++ numbers_from 0 xs))) (entry J at' (n' ∷ (ns' ++ numbers_from 0 xs))) t t' u u' e f m m' h g
    entry_both at at' (n ∷ ns) ns' [] xs p r t t' u u' e f m m' h g = absurd (cc)
    entry_both at at' [] (n' ∷ ns') [] xs p r t t' u u' e f m m' h g = absurd (cc)
    entry_both at at' [] ns' (c ∷ bs) xs p r t t' u u' e f m m' h g = absurd (cc)
    entry_both at at' (n ∷ ns) [] (c ∷ bs) xs p r t t' u u' e f m m' h g = absurd (cc)
