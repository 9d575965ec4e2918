-- An item that is declared in a program is declared in another in which names mean items that correspond, also a function with another name and body.
use Rattle.std.proofs.Common.{◌≡◌, ℕ, List, [], ◌++◌, length, map, Option, Ok, refl, sym, ap, ◌∙◌, append-nil}
use Rattle.rx_core.specs.declared.types.Span.{Span}
use Rattle.rx_core.specs.declared.types.Ty.{Ty}
use Rattle.rx_tree.specs.declared.tree.Ident.{Ident}
use Rattle.rx_tree.specs.declared.tree.BoundLifetime.{BoundLifetime}
use Rattle.rx_tree.specs.Plain as plain
use Rattle.rx_tree.specs.Plain.{TypeTree, Parameter, Body, Function, ItemTree, ProgramTree}
use Rattle.rx_resolve_names.specs.Scopes.{entered}
use Rattle.rx_resolve_names.specs.declared.resolved.ItemNames.{ItemNames}
use Rattle.rx_resolve_names.specs.declared.resolved.NodeNames.{NodeNames}
use Rattle.rx_resolve_names.specs.Meant.{number, firsts, lifetimes_declared}
use Rattle.rx_resolve_names.specs.Steps as names
use Rattle.rx_resolve_names.specs.Steps.{Inside, child, numbered, ◌>>◌}
use Rattle.rx_resolve_names.specs.Names.{in_optional_type, in_block, Bound}
use Rattle.rx_resolve_names.specs.Items.{distinct, in_declared, in_variants, lifetimes_of, in_parameters, numbers_from, body_at, in_item}
use Rattle.rx_typed.specs.declared.declarations.Decl.{Decl}
use Rattle.rx_typed.specs.declared.declarations.Decl.TheVariants as decl
use Rattle.rx_typed.specs.declared.declarations.FieldDecl.{FieldDecl}
use Rattle.rx_typed.specs.declared.declarations.VariantDecl.{VariantDecl}
use Rattle.rx_typeck_typed.specs.Steps as steps
use Rattle.rx_typeck_typed.specs.Steps.{Reading, on_ok}
use Rattle.rx_typeck_typed.specs.Items.{declared_item, declared_function, fields_of, variants_of, begins, all_used, derives_copy, bounded, bounds_of, entry_of, parameters_of, answer_of}
use Rattle.rx_engine_names.proofs.SideBySide.{named_ok}
use Rattle.rx_engine_names.proofs.KeptItems.{Keeps}
use Rattle.rx_engine_declared.proofs.Growing.{block_grows}
use Rattle.rx_engine_declared.proofs.Reading.{read_ok, from_left}
use Rattle.rx_engine_declared.proofs.Items.{all_bounds, distinct_names}
use Rattle.rx_engine_kept.proofs.BothItems.{fields_both, variants_both, parameters_both, result_both, entry_both}

abbrev pub inside : ProgramTree → ℕ → ItemTree → Inside
inside p n i = record { program = p; item = number n; lifetimes = firsts [] 0 (lifetimes_declared i) }

abbrev pub start : ItemTree → ItemNames
start i = record { vars = []; lifetimes = map (λ (l : Ident). l.span) (lifetimes_declared i); loops = []; names = [] }

pub whole : (t : ItemNames) → t.names ≡ t.names ++ []
whole t = sym (append-nil t.names)

-- ---- the parts of a function that resolves

pub record FunctionTaken (I : Inside) (f : Function) (begin t : ItemNames) : Type 0 where
  pub bounds : List ℕ
  pub are : lifetimes_of I [] 0 f.lifetimes ≡ Ok bounds
  pub begun : ItemNames
  pub entry : numbered I [] (bounds ++ numbers_from 0 f.params) begin ≡ Ok begun
  pub bound : Bound
  pub params : in_parameters I [] 0 f.params (record { bindings = []; tables = begun }) ≡ Ok bound
  pub done : ItemNames
  pub result : in_optional_type I (child [] (number (length f.params))) f.result bound.tables ≡ Ok done
  pub rest : List NodeNames
  pub all : t.names ≡ done.names ++ rest

pub function_taken : (p : ProgramTree) (n : ℕ) (s : Span) (f : Function) (t : ItemNames) → in_item p n (plain.function_item s f) ≡ Ok t → FunctionTaken (inside p n (plain.function_item s f)) f (start (plain.function_item s f)) t
function_taken p n s f t e =
    let I = inside p n (plain.function_item s f) in
    let at1 = child [] (number (length f.params)) in let at2 = child [] (body_at (number (length f.params)) f.result) in
    let inner : Bound → names.Outcome ItemNames = λ b. (in_optional_type I at1 f.result >> in_block I (entered [] b.bindings) [] at2 f.body) b.tables in
    let middle : ItemNames → names.Outcome ItemNames = λ t. names.and_then (in_parameters I [] 0 f.params (record { bindings = []; tables = t })) inner in
    let X = named_ok (lifetimes_of I [] 0 f.lifetimes) (λ ns. names.and_then (numbered I [] (ns ++ numbers_from 0 f.params) (start (plain.function_item s f))) middle) t e in
    let Y = named_ok (numbered I [] (X.0 ++ numbers_from 0 f.params) (start (plain.function_item s f))) middle t X.2 in
    let Z = named_ok (in_parameters I [] 0 f.params (record { bindings = []; tables = Y.0 })) inner t Y.2 in
    let W = named_ok (in_optional_type I at1 f.result Z.0.tables) (in_block I (entered [] Z.0.bindings) [] at2 f.body) t Z.2 in
    let G = block_grows I (entered [] Z.0.bindings) [] at2 f.body W.0 t W.2 in
    record { bounds = X.0; are = X.1; begun = Y.0; entry = Y.1; bound = Z.0; params = Z.1; done = W.0; result = W.1; rest = G.0; all = G.1 }

module _ (P Q : ProgramTree) (items : ℕ → ℕ) (k : Keeps items P Q) (n m : ℕ) where
  -- it is declared there too
  abbrev pub DeclaredToo : ItemTree → ItemNames → Type 0
  DeclaredToo i u = (e : Decl) × (declared_item Q u.names i ≡ Ok e)

  struct_there : (s : Span) (x : plain.Structure) (t u : ItemNames) (d : Decl) → in_item P n (plain.struct_item s x) ≡ Ok t → in_item Q m (plain.struct_item s x) ≡ Ok u → declared_item P t.names (plain.struct_item s x) ≡ Ok d → DeclaredToo (plain.struct_item s x) u
  struct_there s x t u d e f h =
      let i = plain.struct_item s x in
      let I = inside P n i in let J = inside Q m i in
      let o = named_ok (distinct [] 0 x.lifetimes (start i)) (in_declared I [] [] 0 x.fields) t e in
      let p = named_ok (distinct [] 0 x.lifetimes (start i)) (in_declared J [] [] 0 x.fields) u f in
      let r = fields_both P Q items k (number n) (number m) (firsts [] 0 x.lifetimes) t.names u.names [] [] [] [] 0 0 x.fields o.0 t p.0 u o.2 p.2 [] [] (whole t) (whole u) in
      let all : t.names ≡ r.left = r.stands ∙ ap (λ (z : ItemNames). z.names ++ r.left) (sym (distinct_names [] 0 x.lifetimes (start i) o.0 o.1)) in
      let too : u.names ≡ r.right = r.also ∙ ap (λ (z : ItemNames). z.names ++ r.right) (sym (distinct_names [] 0 x.lifetimes (start i) p.0 p.1)) in
      let made : List FieldDecl → Decl = λ fs. decl.Struct (derives_copy x.derives) (number (length x.lifetimes)) [] fs in
      let a = read_ok (fields_of P x.fields (begins t.names 0)) (λ r. on_ok (all_used 0 x.lifetimes r.1.lifetimes) (λ _. Ok (made r.0))) d h in
      let b = read_ok (all_used 0 x.lifetimes a.0.1.lifetimes) (λ _. Ok (made a.0.0)) d a.2 in
      let c = r.goes.go [] 0 a.0 (ap (λ (l : List NodeNames). fields_of P x.fields (begins l 0)) (sym all) ∙ a.1) in (
        made c.1,
        ap (λ (o : steps.Outcome (List FieldDecl × Reading)). on_ok o (λ r. on_ok (all_used 0 x.lifetimes r.1.lifetimes) (λ _. Ok (made r.0)))) (ap (λ (l : List NodeNames). fields_of Q x.fields (begins l 0)) too ∙ c.3)
            ∙ ap (λ (o : steps.Outcome (Unit {0})). on_ok o (λ _. Ok (made c.1))) b.1,
      )

  enum_there : (s : Span) (x : plain.Enumeration) (t u : ItemNames) (d : Decl) → in_item P n (plain.enum_item s x) ≡ Ok t → in_item Q m (plain.enum_item s x) ≡ Ok u → declared_item P t.names (plain.enum_item s x) ≡ Ok d → DeclaredToo (plain.enum_item s x) u
  enum_there s x t u d e f h =
      let i = plain.enum_item s x in
      let I = inside P n i in let J = inside Q m i in
      let o = named_ok (distinct [] 0 x.lifetimes (start i)) (in_variants I [] [] 0 0 x.variants) t e in
      let p = named_ok (distinct [] 0 x.lifetimes (start i)) (in_variants J [] [] 0 0 x.variants) u f in
      let r = variants_both P Q items k (number n) (number m) (firsts [] 0 x.lifetimes) t.names u.names [] [] [] [] 0 0 0 0 x.variants o.0 t p.0 u o.2 p.2 [] [] (whole t) (whole u) in
      let all : t.names ≡ r.left = r.stands ∙ ap (λ (z : ItemNames). z.names ++ r.left) (sym (distinct_names [] 0 x.lifetimes (start i) o.0 o.1)) in
      let too : u.names ≡ r.right = r.also ∙ ap (λ (z : ItemNames). z.names ++ r.right) (sym (distinct_names [] 0 x.lifetimes (start i) p.0 p.1)) in
      let made : List VariantDecl → Decl = λ vs. decl.Enum (derives_copy x.derives) (number (length x.lifetimes)) [] vs in
      let a = read_ok (variants_of P x.variants (begins t.names 0)) (λ r. on_ok (all_used 0 x.lifetimes r.1.lifetimes) (λ _. Ok (made r.0))) d h in
      let b = read_ok (all_used 0 x.lifetimes a.0.1.lifetimes) (λ _. Ok (made a.0.0)) d a.2 in
      let c = r.goes.go [] 0 a.0 (ap (λ (l : List NodeNames). variants_of P x.variants (begins l 0)) (sym all) ∙ a.1) in (
        made c.1,
        ap (λ (o : steps.Outcome (List VariantDecl × Reading)). on_ok o (λ r. on_ok (all_used 0 x.lifetimes r.1.lifetimes) (λ _. Ok (made r.0)))) (ap (λ (l : List NodeNames). variants_of Q x.variants (begins l 0)) too ∙ c.3)
            ∙ ap (λ (o : steps.Outcome (Unit {0})). on_ok o (λ _. Ok (made c.1))) b.1,
      )

  -- a function, with another name and body too
  other_body : (s s' : Span) (f : Function) (y : Ident) (b : Body) (t u : ItemNames) (d : Decl) → in_item P n (plain.function_item s f) ≡ Ok t → in_item Q m (plain.function_item s' (record f { name = y; body = b })) ≡ Ok u
      → declared_item P t.names (plain.function_item s f) ≡ Ok d → DeclaredToo (plain.function_item s' (record f { name = y; body = b })) u
  other_body s s' f y b t u d e e' h =
      let g : Function = record f { name = y; body = b } in
      let I = inside P n (plain.function_item s f) in let J = inside Q m (plain.function_item s' g) in
      let T = function_taken P n s f t e in
      let U = function_taken Q m s' g u e' in
      let L = firsts [] 0 (map (λ (l : BoundLifetime). l.name) f.lifetimes) in
      let B = bounded 0 f.lifetimes in
      let c = number (length f.lifetimes) in
      let at = child [] (number (length f.params)) in
      let r3 = result_both P Q items k (number n) (number m) L t.names u.names at at f.result T.bound.tables T.done U.bound.tables U.done T.result U.result T.rest U.rest T.all U.all in
      let r2 = parameters_both P Q items k (number n) (number m) L t.names u.names [] [] 0 0 f.params (record { bindings = []; tables = T.begun }) T.bound (record { bindings = []; tables = U.begun }) U.bound T.params U.params r3.left r3.right r3.stands r3.also in
      let r1 = entry_both P Q items k (number n) (number m) L t.names u.names [] [] T.bounds U.bounds B f.params (all_bounds t.names I [] 0 f.lifetimes T.bounds T.are) (all_bounds u.names J [] 0 f.lifetimes U.bounds U.are)
      (start (plain.function_item s f)) T.begun (start (plain.function_item s' g)) U.begun T.entry U.entry r2.left r2.right r2.stands r2.also in
      let a = read_ok (entry_of B f.params (begins t.names c)) (λ e. on_ok (parameters_of P f.params e.1) (λ ps. on_ok (answer_of P f.result ps.1) (λ a. Ok (decl.Func ps.1.next ps.0 a.0 (bounds_of B e.0))))) d h in
      let g1 = r1.goes.go [] c a.0 (ap (λ (l : List NodeNames). entry_of B f.params (begins l c)) (sym r1.stands) ∙ a.1) in
      let q = read_ok (parameters_of P f.params a.0.1) (λ ps. on_ok (answer_of P f.result ps.1) (λ z. Ok (decl.Func ps.1.next ps.0 z.0 (bounds_of B a.0.0)))) d a.2 in
      let g2 = r2.goes.go a.0.1.lifetimes a.0.1.next q.0 (from_left (parameters_of P f.params) r2.left a.0.1 q.0 g1.0 q.1) in
      let z = read_ok (answer_of P f.result q.0.1) (λ z. Ok (decl.Func q.0.1.next q.0.0 z.0 (bounds_of B a.0.0))) d q.2 in
      let g3 = r3.goes.go q.0.1.lifetimes q.0.1.next z.0 (from_left (answer_of P f.result) r3.left q.0.1 z.0 g2.0 z.1) in (
        decl.Func q.0.1.next g2.1 g3.1 (bounds_of B g1.1),
        ap (λ (l : List NodeNames). declared_function Q l g) r1.also
            ∙ ap (λ (o : steps.Outcome (List ℕ × Reading)). on_ok o (λ e. on_ok (parameters_of Q f.params e.1) (λ ps. on_ok (answer_of Q f.result ps.1) (λ a. Ok (decl.Func ps.1.next ps.0 a.0 (bounds_of B e.0)))))) g1.3
            ∙ ap (λ (o : steps.Outcome (List Ty × Reading)). on_ok o (λ ps. on_ok (answer_of Q f.result ps.1) (λ a. Ok (decl.Func ps.1.next ps.0 a.0 (bounds_of B g1.1))))) g2.3
            ∙ ap (λ (o : steps.Outcome (Ty × Reading)). on_ok o (λ a. Ok (decl.Func q.0.1.next g2.1 a.0 (bounds_of B g1.1)))) g3.3,
      )

  pub function_there : (s s' : Span) (f g : Function) (t u : ItemNames) (d : Decl) → g.lifetimes ≡ f.lifetimes → g.params ≡ f.params → g.result ≡ f.result → in_item P n (plain.function_item s f) ≡ Ok t → in_item Q m (plain.function_item s' g) ≡ Ok u
      → declared_item P t.names (plain.function_item s f) ≡ Ok d → DeclaredToo (plain.function_item s' g) u
  function_there s s' f g t u d el ep er e e' h =
      let same : g ≡ record f { name = g.name; body = g.body } =
      ap (λ (z : List BoundLifetime). record { name = g.name; lifetimes = z; params = g.params; result = g.result; body = g.body }) el
      ∙ ap (λ (z : List Parameter). record { name = g.name; lifetimes = f.lifetimes; params = z; result = g.result; body = g.body }) ep
      ∙ ap (λ (z : Option TypeTree). record { name = g.name; lifetimes = f.lifetimes; params = f.params; result = z; body = g.body }) er in
      let r = other_body s s' f g.name g.body t u d e (ap (λ (z : Function). in_item Q m (plain.function_item s' z)) (sym same) ∙ e') h in
      (r.0, ap (λ (z : Function). declared_item Q u.names (plain.function_item s' z)) same ∙ r.1)

  pub item_there : (i : ItemTree) (t u : ItemNames) (d : Decl) → in_item P n i ≡ Ok t → in_item Q m i ≡ Ok u → declared_item P t.names i ≡ Ok d → DeclaredToo i u
  item_there (plain.rt_item s r) t u d e f h = (decl.Rt, refl)
  item_there (plain.struct_item s x) t u d e f h = struct_there s x t u d e f h
  item_there (plain.enum_item s x) t u d e f h = enum_there s x t u d e f h
  item_there (plain.function_item s g) t u d e f h = function_there s s g g t u d refl refl refl e f h
