-- What a function declares, by its text: the types of its parameters and its result, with the numbers of their lifetimes, and its bounds.
use Rattle.std.proofs.Common.{◌≡◌, ℕ, suc, List, [], ◌∷◌, ◌++◌, length, map, Option, Some, None, Ok, refl, sym, ap, subst, ◌∙◌, append-nil, append_assoc}
use Rattle.rx_core.specs.declared.types.Span.{Span}
use Rattle.rx_core.specs.declared.types.Ty.{Ty}
use Rattle.rx_tree.specs.declared.tree.Ident.{Ident}
use Rattle.rx_tree.specs.declared.tree.BoundLifetime.{BoundLifetime}
use Rattle.rx_tree.specs.Plain as plain
use Rattle.rx_tree.specs.Plain.{TypeTree, Parameter, Body, Function, ProgramTree}
use Rattle.rx_resolve_names.specs.declared.resolved.ItemNames.{ItemNames}
use Rattle.rx_resolve_names.specs.declared.resolved.NodeNames.{NodeNames}
use Rattle.rx_resolve_names.specs.Scopes.{DeclaredNames, Variables, entered}
use Rattle.rx_resolve_names.specs.Meant.{number, Around, number_in, lifetimes_declared}
use Rattle.rx_resolve_names.specs.Steps as naming
use Rattle.rx_resolve_names.specs.Steps.{Inside, one, declare, both, child, entry, with_names, numbered}
use Rattle.rx_resolve_names.specs.Names.{lifetime_in, in_optional_type, in_block}
use Rattle.rx_resolve_names.specs.Items.{bounds_in, lifetimes_of, in_parameters, numbers_from, body_at, in_item}
use Rattle.rx_typed.specs.declared.declarations.Decl.TheVariants as decl
use Rattle.rx_typeck_typed.specs.Steps.{on_ok}
use Rattle.rx_typeck_typed.specs.Items.{one_each, bounded, bounds_of, entry_of, parameters_of, answer_of, declared_function}
use Rattle.rx_compact_laws.specs.Alongside.{AllBecome}
use Rattle.rx_compact_laws.specs.Beside.{Nothing}
use Rattle.rx_compact_laws.specs.Resolved.{declared, inside}
use Rattle.rx_compact_laws.proofs.Resolving as resolving
use Rattle.rx_compact_laws.proofs.Resolving.{read_ok, ok_is}
use Rattle.rx_compact_laws.proofs.ShortNames.{own_items}
use Rattle.rx_compact_types.specs.Positions.{as_parameter, parameter_positions, numbers, ends, AllMeant}
use Rattle.rx_compact_types.proofs.Roles.{reading}
use Rattle.rx_compact_types.proofs.Steps.{fit}
use Rattle.rx_compact_types.proofs.Reading.{AreParameters, TypeTold, type, parameters}

-- ---- the function's own entry

abbrev pub SameLength : List ℕ → List ℕ → Type 0
SameLength [] [] = Unit {0}
SameLength (a ∷ as') (b ∷ bs) = SameLength as' bs
SameLength _ _ = ⊥

lengths_both : (as' bs cs ds : List ℕ) → SameLength as' bs → SameLength cs ds → SameLength (as' ++ cs) (bs ++ ds)
lengths_both [] [] cs ds h g = g
lengths_both (a ∷ as') (b ∷ bs) cs ds h g = lengths_both as' bs cs ds h g
lengths_both [] (b ∷ bs) cs ds h g = absurd h
lengths_both (a ∷ as') [] cs ds h g = absurd h

module _ (I : Inside) where
  bounds_length : (n : ℕ) (bs : List Ident) (ns : List ℕ) → bounds_in I bs ≡ Ok ns → SameLength (one_each n bs) ns
  bounds_length n [] ns e = subst (SameLength []) (ok_is [] ns e) tt
  bounds_length n (b ∷ bs) ns e =
      let a = read_ok (one (lifetime_in I b)) (λ ks. naming.and_then (bounds_in I bs) (λ ms. Ok (ks ++ ms))) ns e in
      let c = read_ok (lifetime_in I b) (λ n. Ok (n ∷ [])) a.0 a.1 in
      let d = read_ok (bounds_in I bs) (λ ms. Ok (a.0 ++ ms)) ns a.2 in
      let t : c.0 ∷ d.0 ≡ ns = ap (λ ks. ks ++ d.0) (ok_is (c.0 ∷ []) a.0 c.2) ∙ ok_is (a.0 ++ d.0) ns d.2 in
      subst (SameLength (one_each n (b ∷ bs))) t (bounds_length n bs d.0 d.1)

  list_length : (ls : List BoundLifetime) (ds : DeclaredNames) (n : ℕ) (ns : List ℕ) → lifetimes_of I ds n ls ≡ Ok ns → SameLength (bounded n ls) ns
  list_length [] ds n ns e = subst (SameLength []) (ok_is [] ns e) tt
  list_length (l ∷ ls) ds n ns e =
      let a = read_ok (declare ds l.name n) (λ ds. both (bounds_in I l.bounds) (lifetimes_of I ds (suc n) ls)) ns e in
      let b = read_ok (bounds_in I l.bounds) (λ ks. naming.and_then (lifetimes_of I a.0 (suc n) ls) (λ ms. Ok (ks ++ ms))) ns a.2 in
      let c = read_ok (lifetimes_of I a.0 (suc n) ls) (λ ms. Ok (b.0 ++ ms)) ns b.2 in
      subst (SameLength (bounded n (l ∷ ls))) (ok_is (b.0 ++ c.0) ns c.2)
      (lengths_both (one_each (number n) l.bounds) b.0 (bounded (suc n) ls) c.0 (bounds_length (number n) l.bounds b.0 b.1) (list_length ls a.0 (suc n) c.0 c.1))

bounds_more : (bs ns more : List ℕ) → SameLength bs ns → bounds_of bs (ns ++ more) ≡ bounds_of bs ns
bounds_more [] [] more h = refl
bounds_more (b ∷ bs) (n ∷ ns) more h = ap (λ r. record { long = b; short = n } ∷ r) (bounds_more bs ns more h)
bounds_more [] (n ∷ ns) more h = absurd h
bounds_more (b ∷ bs) [] more h = absurd h

-- the entries that the item itself has, and what is read of them
record EntryTold (bs ns : List ℕ) (xs : List Parameter) (t u : ItemNames) : Type 0 where
  own : List NodeNames
  is : u.names ≡ t.names ++ own
  entry : List ℕ
  reads : (rest : List NodeNames) (k : ℕ) → entry_of bs xs (reading (own ++ rest) [] k) ≡ Ok (entry, reading rest [] k)
  bounds : bounds_of bs entry ≡ bounds_of bs ns

entry_told : (I : Inside) (bs ns : List ℕ) → SameLength bs ns → (xs : List Parameter) (t u : ItemNames) → numbered I [] (ns ++ numbers_from 0 xs) t ≡ Ok u → EntryTold bs ns xs t u
entry_told I [] [] h [] t u e = record {
  own = [];
  is = ap (λ (w : ItemNames). w.names) (sym (ok_is t u e)) ∙ sym (append-nil t.names);
  entry = [];
  reads = λ rest k. refl;
  bounds = refl;
}
entry_told I [] [] h (x ∷ xs) t u e = record {
  own = entry I [] (numbers_from 0 (x ∷ xs)) ∷ [];
  is = ap (λ (w : ItemNames). w.names) (sym (ok_is (with_names (entry I [] (numbers_from 0 (x ∷ xs))) t) u e));
  entry = numbers_from 0 (x ∷ xs);
  reads = λ rest k. refl;
  bounds = refl;
}
entry_told I (b ∷ bs) (n ∷ ns) h xs t u e = record {
  own = entry I [] (n ∷ (ns ++ numbers_from 0 xs)) ∷ [];
  is = ap (λ (w : ItemNames). w.names) (sym (ok_is (with_names (entry I [] (n ∷ (ns ++ numbers_from 0 xs))) t) u e));
  entry = n ∷ (ns ++ numbers_from 0 xs);
  reads = λ rest k. refl;
  bounds = bounds_more (b ∷ bs) (n ∷ ns) (numbers_from 0 xs) h;
}
entry_told I [] (n ∷ ns) h xs t u e = absurd h
entry_told I (b ∷ bs) [] h xs t u e = absurd h

-- ---- a body adds entries

nothing_becomes : (L : DeclaredNames) → AllBecome [] L L
nothing_becomes L x y n e b = (n, subst (λ z. number_in L z ≡ Some n) (some_is x y b) e)
  where
    some_is : (x y : List ℕ) → ◌≡◌ {A = Option (List ℕ)} (Some x) (Some y) → x ≡ y
    some_is x y e = cc

body_adds : (I : Inside) (b : Body) (sc : Variables) (ls : List Around) (at : List ℕ) (t u : ItemNames) → in_block I sc ls at b t ≡ Ok u → (es : List NodeNames) × (u.names ≡ t.names ++ es)
body_adds I b sc ls at t u e =
    let r = (resolving.body I.program I.program I.item I.lifetimes I.lifetimes [] [] (own_items I.program) (nothing_becomes I.lifetimes) b sc ls at [] [] Nothing).run t u [] e in
    (r.old, r.names)

-- ---- the function

-- the entries of the result
pub record ResultTold (p : ProgramTree) (i : ℕ) (L : DeclaredNames) (t : TypeTree) (left : List NodeNames) : Type 0 where
  pub own : List NodeNames
  pub rest : List NodeNames
  pub is : left ≡ own ++ rest
  pub told : TypeTold p i L t own

pub record SignatureTold (p : ProgramTree) (n : ℕ) (s : Span) (f : Function) (names : List NodeNames) : Type 0 where
  pub bound_at : List ℕ
  pub listed : lifetimes_of (inside p n s f) [] 0 f.lifetimes ≡ Ok bound_at
  pub params : List Ty
  pub params_are : AreParameters p f.params params (numbers as_parameter (declared s f) (number (length f.lifetimes)) (parameter_positions p f.params))
  pub meant : AllMeant (declared s f) (parameter_positions p f.params)
  -- the entries behind those of the parameters
  pub left : List NodeNames
  pub declares : declared_function p names f ≡ on_ok
      (answer_of p f.result (reading left (numbers as_parameter (declared s f) (number (length f.lifetimes)) (parameter_positions p f.params)) (ends as_parameter (number (length f.lifetimes)) (parameter_positions p f.params))))
      (λ a. Ok (decl.Func (ends as_parameter (number (length f.lifetimes)) (parameter_positions p f.params)) params a.0 (bounds_of (bounded 0 f.lifetimes) bound_at)))
  pub result : (t : TypeTree) → f.result ≡ Some t → ResultTold p (number n) (declared s f) t left

result_told : (p : ProgramTree) (i : ℕ) (L : DeclaredNames) (y : Option TypeTree) (at : List ℕ) (t u : ItemNames) (more : List NodeNames) → in_optional_type (record { program = p; item = i; lifetimes = L }) at y t ≡ Ok u
    → (es : List NodeNames) × (u.names ≡ t.names ++ es) × ((z : TypeTree) → y ≡ Some z → ResultTold p i L z (es ++ more))
result_told p i L None at t u more e = ([], ap (λ (w : ItemNames). w.names) (sym (ok_is t u e)) ∙ sym (append-nil t.names), λ z h. absurd (cc))
result_told p i L (Some y) at t u more e =
    let g = type p i L y at t u e in
    (g.adds, g.is, λ z h. subst (λ z. ResultTold p i L z (g.adds ++ more)) (some_type y z h) (record { own = g.adds; rest = more; is = refl; told = g.told }))
  where
    some_type : (x y : TypeTree) → ◌≡◌ {A = Option TypeTree} (Some x) (Some y) → x ≡ y
    some_type x y e = cc

pub signature_told : (p : ProgramTree) (n : ℕ) (s : Span) (f : Function) (a : ItemNames) → in_item p n (plain.function_item s f) ≡ Ok a → SignatureTold p n s f a.names
signature_told p n s f a e =
    let I : Inside = inside p n s f in
    let places : List Span = map (λ (l : Ident). l.span) (lifetimes_declared (plain.function_item s f)) in
    let t0 : ItemNames = record { vars = []; lifetimes = places; loops = []; names = [] } in
    let n0 : ℕ = number (length f.lifetimes) in
    let xs = parameter_positions p f.params in
    let m = read_ok (lifetimes_of I [] 0 f.lifetimes) (λ ns. naming.and_then (numbered I [] (ns ++ numbers_from 0 f.params) t0) (λ t. naming.and_then (in_parameters I [] 0 f.params (record { bindings = []; tables = t })) (λ b.
    naming.and_then (in_optional_type I (child [] (number (length f.params))) f.result b.tables) (in_block I (entered [] b.bindings) [] (child [] (body_at (number (length f.params)) f.result)) f.body)))) a e in
    let t1 = read_ok (numbered I [] (m.0 ++ numbers_from 0 f.params) t0) (λ t. naming.and_then (in_parameters I [] 0 f.params (record { bindings = []; tables = t })) (λ b.
    naming.and_then (in_optional_type I (child [] (number (length f.params))) f.result b.tables) (in_block I (entered [] b.bindings) [] (child [] (body_at (number (length f.params)) f.result)) f.body))) a m.2 in
    let b1 = read_ok (in_parameters I [] 0 f.params (record { bindings = []; tables = t1.0 })) (λ b.
    naming.and_then (in_optional_type I (child [] (number (length f.params))) f.result b.tables) (in_block I (entered [] b.bindings) [] (child [] (body_at (number (length f.params)) f.result)) f.body)) a t1.2 in
    let r1 = read_ok (in_optional_type I (child [] (number (length f.params))) f.result b1.0.tables) (in_block I (entered [] b1.0.bindings) [] (child [] (body_at (number (length f.params)) f.result)) f.body) a b1.2 in
    let own = entry_told I (bounded 0 f.lifetimes) m.0 (list_length I f.lifetimes [] 0 m.0 m.1) f.params t0 t1.0 t1.1 in
    let ps = parameters p (number n) (declared s f) f.params [] 0 (record { bindings = []; tables = t1.0 }) b1.0 b1.1 in
    let body = body_adds I f.body (entered [] b1.0.bindings) [] (child [] (body_at (number (length f.params)) f.result)) r1.0 a r1.2 in
    let res = result_told p (number n) (declared s f) f.result (child [] (number (length f.params))) b1.0.tables r1.0 body.0 r1.1 in
    let left : List NodeNames = res.0 ++ body.0 in
    let whole : a.names ≡ own.own ++ (ps.adds ++ left) =
    body.1 ∙ (ap (λ ns. ns ++ body.0) (res.1 ∙ ap (λ ns. ns ++ res.0) (ps.is ∙ ap (λ ns. ns ++ ps.adds) own.is))
    ∙ (append_assoc (own.own ++ ps.adds) res.0 body.0 ∙ append_assoc own.own ps.adds left)) in
    let run = ps.told.reads.run left [] n0 in
    record {
      bound_at = m.0;
      listed = m.1;
      params = run.0;
      params_are = fit ps.told.reads left [] n0;
      meant = ps.told.meant;
      left = left;
      declares =
          ap (λ ns. declared_function p ns f) whole
          ∙ (ap (λ o. on_ok o (λ e. on_ok (parameters_of p f.params e.1) (λ ps. on_ok (answer_of p f.result ps.1) (λ a. Ok (decl.Func ps.1.next ps.0 a.0 (bounds_of (bounded 0 f.lifetimes) e.0)))))) (own.reads (ps.adds ++ left) n0)
          ∙ (ap (λ o. on_ok o (λ ps. on_ok (answer_of p f.result ps.1) (λ a. Ok (decl.Func ps.1.next ps.0 a.0 (bounds_of (bounded 0 f.lifetimes) own.entry))))) run.1
          ∙ ap (λ bs. on_ok (answer_of p f.result (reading left (numbers as_parameter (declared s f) n0 xs) (ends as_parameter n0 xs))) (λ a. Ok (decl.Func (ends as_parameter n0 xs) run.0 a.0 bs))) own.bounds));
      result = res.2;
    }
