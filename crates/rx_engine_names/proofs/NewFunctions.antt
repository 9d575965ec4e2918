-- The whole new function resolves, and its tree is beside that of the run: its lifetimes, the entry of its item, its params, its result
-- and its body in turn.
use Rattle.std.proofs.lemmas.Bool.{or_left, or_right}
use Rattle.std.proofs.Common.{◌≡◌, ℕ, suc, ◌+◌, ◌<◌, arith, Bool, true, false, not, List, [], ◌∷◌, ◌++◌, length, Ok, refl, sym, ap, ◌∙◌, subst, append_assoc}
use Rattle.rx_core.specs.declared.types.Span.{Span}
use Rattle.rx_tree.specs.Plain.{Function, Parameter, ProgramTree}
use Rattle.rx_resolve_names.specs.Scopes.{DeclaredNames, entered}
use Rattle.rx_resolve_names.specs.declared.resolved.ItemNames.{ItemNames}
use Rattle.rx_resolve_names.specs.declared.resolved.NodeNames.{NodeNames}
use Rattle.rx_resolve_names.specs.Meant.{number, firsts}
use Rattle.rx_resolve_names.specs.Steps.{Outcome, and_then, Naming, ◌>>◌, Inside, child, next, entry, with_names, with_variable, numbered, declare}
use Rattle.rx_resolve_names.specs.Names.{lifetime_in, in_type, in_optional_type, in_block, Bound}
use Rattle.rx_resolve_names.specs.Items.{lifetimes_of, in_parameter, in_parameters, numbers_from, body_at, in_function}
use Rattle.rx_typed.specs.declared.nodes.Site.{Site}
use Rattle.rx_typed.specs.Named as named
use Rattle.rx_typed.specs.Naming as numbering
use Rattle.rx_typed.specs.Naming.{Cursor, give, an_entry, begins, entry_if, is_nothing, has_entry, of_function, of_parameters, of_optional, of_statements}
use Rattle.rx_hoist_extraction.specs.Names.{is_among}
use Rattle.rx_hoist_extraction.specs.Run.{Parts}
use Rattle.rx_hoist_extraction.specs.Plan.{Param, Plan, Bounds}
use Rattle.rx_hoist_extraction.specs.Fresh.{fresh_lifetime}
use Rattle.rx_hoist_extraction.specs.Made.{ident}
use Rattle.rx_hoist_extraction.specs.WrittenTypes.{positions, lifetimes_from}
use Rattle.rx_hoist_extraction.specs.NewFunction.{copied_lifetimes, new_lifetimes, new_parameters, signature_positions, passed}
use Rattle.rx_hoist_extraction.specs.OwnLifetimes.{idents}
use Rattle.rx_engine_names.specs.Renaming.{Renaming, Made}
use Rattle.rx_engine_names.specs.Moves.{Moves}
use Rattle.rx_engine_names.specs.NewFunction.{AreParameters, IsResult}
use Rattle.rx_engine_names.proofs.SideBySide.{named_ok, then_ok, and_ok, the_same, one_more, Grows, serves_before}
use Rattle.rx_engine_names.proofs.Parameters.{function_entry, names_no_more, type_no_more}
use Rattle.rx_engine_names.proofs.ChangedFunctions.{keeps_waiting}
use Rattle.rx_engine_names.proofs.DeclaredLifetimes.{Meant, declared_means, among_idents, row_has}
use Rattle.rx_engine_names.proofs.Alone.{Alone, alone_give, alone_then, alone_node, alone_keeps, alone_entry, alone_map, KindAlone, Makes, makes_nothing}
use Rattle.rx_engine_names.proofs.MadeRows.{alone_last}
use Rattle.rx_engine_names.proofs.NewSignatures.{OptionalTypeAlone}
use Rattle.rx_engine_names.proofs.NewBodies.{BodyAlone}

-- ---- the entry of the item

abbrev pub EntryIfAlone : ItemNames → Bool → KindAlone
EntryIfAlone u b R u' es = Alone (λ x. Unit {0}) u u' es (entry_if b)

entry_made : {items : ℕ → ℕ} {M : Made} (I' : Inside) (at' ks : List ℕ) (u : ItemNames) → Makes items M u (λ v. numbered I' at' ks u ≡ Ok v) (EntryIfAlone u (not (is_nothing ks)))
entry_made I' at' [] u = makes_nothing u (λ v. Ok u ≡ Ok v) (EntryIfAlone u false) refl (λ R. alone_give numbering.no_names tt)
entry_made I' at' (k ∷ ks) u = let z = entry I' at' (k ∷ ks) in record {
  table = with_names z u;
  answer = refl;
  added = z ∷ [];
  grown = refl;
  numbers = λ R sv. alone_map (λ x. x) (alone_entry z) (λ x h. tt);
}

-- ---- how many variables params make

pub parameters_more : (I : Inside) (at : List ℕ) (i : ℕ) (xs : List Parameter) (b b1 : Bound) → in_parameters I at i xs b ≡ Ok b1 → length b1.tables.vars ≡ length b.tables.vars + length xs
parameters_more I at i [] b b1 e = ap (λ (v : Bound). length v.tables.vars) (sym (the_same b b1 e)) ∙ omega arith
parameters_more I at i (x ∷ xs) b b1 e =
    let X = named_ok (in_parameter I at i x b) (in_parameters I at (next i) xs) b1 e in
    let t = with_variable x.name.span b.tables in
    let typed : DeclaredNames → Outcome Bound = λ ds. and_then (in_type I (child at i) x.typ t) (λ t. Ok (record { bindings = ds; tables = t })) in
    let d = named_ok (declare b.bindings x.name i) typed X.0 X.1 in
    let y = named_ok (in_type I (child at i) x.typ t) (λ t. Ok (record { bindings = d.0; tables = t })) X.0 d.2 in
    let one : length X.0.tables.vars ≡ suc (length b.tables.vars) = ap (λ (v : Bound). length v.tables.vars) (sym (the_same (record { bindings = d.0; tables = y.0 }) X.0 y.2)) ∙ type_no_more I (child at i) x.typ t y.0 y.1 ∙ one_more b.tables.vars x.name.span in
    let rest = parameters_more I at (next i) xs X.0 b1 X.2 in
    omega (arith, one, rest)

pub params_many : (P : ProgramTree) (pl : Plan) (s : Span) (n : ℕ) (xs : List Param) → length (new_parameters P pl s n xs) ≡ length xs
params_many P pl s n [] = refl
params_many P pl s n (x ∷ xs) = ap suc (params_many P pl s (n + positions P (passed x.mode x.variable.typ)) xs)

-- ---- lifetimes

module _ (P : ProgramTree) (pl : Plan) (bs : Bounds) (s : Span) (run : Parts) (I' : Inside) (is : I'.lifetimes ≡ firsts [] 0 (new_lifetimes P pl s run)) where
  -- those that types in the run name, and fresh ones, mean lifetimes
  pub copied_means : (x : List ℕ) → is_among x (idents (copied_lifetimes run)) ≡ true → Meant I' x
  copied_means x e = declared_means I' (new_lifetimes P pl s run) x is
      (among_idents x (copied_lifetimes run) (lifetimes_from s (fresh_lifetime pl.lifetimes) 0 (signature_positions P pl))
      ∙ or_left (is_among x (idents (copied_lifetimes run))) (is_among x (idents (lifetimes_from s (fresh_lifetime pl.lifetimes) 0 (signature_positions P pl)))) e)

  pub fresh_means : (i : ℕ) → i < signature_positions P pl → (k : ℕ) × (lifetime_in I' (ident s (fresh_lifetime pl.lifetimes i)) ≡ Ok k)
  fresh_means i l =
      let row = fresh_lifetime pl.lifetimes in let many = signature_positions P pl in
      declared_means I' (new_lifetimes P pl s run) (row i) is
      (among_idents (row i) (copied_lifetimes run) (lifetimes_from s row 0 many)
      ∙ or_right (is_among (row i) (idents (copied_lifetimes run))) (is_among (row i) (idents (lifetimes_from s row 0 many))) (row_has s row 0 many i (omega arith) (omega (arith, l)))) s

-- ---- the whole

abbrev pub FunctionAlone : (Renaming → named.Function → Type 0) → ItemNames → ℕ → Span → Function → KindAlone
FunctionAlone S u m s f R u' es = Alone (S R) u u' es (of_function m s f)

module _ (items : ℕ → ℕ) (M : Made) (I' : Inside) (f : Function) (ns : List ℕ) (u : ItemNames) where
  abbrev pub ks : List ℕ
  ks = ns ++ numbers_from 0 f.params

  pub E : Makes items M u (λ v. numbered I' [] ks u ≡ Ok v) (EntryIfAlone u (not (is_nothing ks)))
  E = entry_made I' [] ks u

  abbrev pub behind_entry : ItemNames
  behind_entry = E.table

  pub entry_vars : length behind_entry.vars ≡ length u.vars
  entry_vars = names_no_more I' [] (Ok ks) u behind_entry E.answer

module _ (items : ℕ → ℕ) (M : Made) (P : ProgramTree) (V : Moves) (I' : Inside) (f : Function) (m : ℕ) (S : Renaming → named.Body → Type 0) (ns : List ℕ) (lifetimes : lifetimes_of I' [] 0 f.lifetimes ≡ Ok ns) (u : ItemNames) (bindings : DeclaredNames) where
  abbrev at_entry : Makes items M u (λ v. numbered I' [] (ns ++ numbers_from 0 f.params) u ≡ Ok v) (EntryIfAlone u (not (is_nothing (ns ++ numbers_from 0 f.params))))
  at_entry = E items M I' f ns u

  abbrev pub at1 : List ℕ
  at1 = child [] (number (length f.params))

  abbrev pub at2 : List ℕ
  at2 = child [] (body_at (number (length f.params)) f.result)

  abbrev pub IsFunction : Renaming → named.Function → Type 0
  IsFunction R d = (d.item ≡ m) × AreParameters P V R 0 V.plan.params d.params × IsResult P V R d.result × S R d.body

  pub function_made : (A : Makes items M at_entry.table (λ v. in_parameters I' [] 0 f.params (record { bindings = []; tables = at_entry.table }) ≡ Ok (record { bindings = bindings; tables = v })) (λ R u' es. Alone (λ ys. AreParameters P V R 0 V.plan.params ys) at_entry.table u' es (of_parameters f.params)))
      → (B : Makes items M A.table (λ v. in_optional_type I' at1 f.result A.table ≡ Ok v) (OptionalTypeAlone (λ R w. IsResult P V R w) A.table f.result))
      → (G : Made) → Grows M G → Makes items G B.table (λ v. in_block I' (entered [] bindings) [] at2 f.body B.table ≡ Ok v) (BodyAlone S B.table f.body)
      → Makes items G u (λ v. in_function I' [] [] [] f u ≡ Ok v) (FunctionAlone IsFunction u m V.place f)
  function_made A B G g D =
      let inner : Bound → Outcome ItemNames = λ b. (in_optional_type I' at1 f.result >> in_block I' (entered [] b.bindings) [] at2 f.body) b.tables in
      let middle : Naming = λ t. and_then (in_parameters I' [] 0 f.params (record { bindings = []; tables = t })) inner in
      record {
        table = D.table;
        answer =
            and_ok (lifetimes_of I' [] 0 f.lifetimes) ns (λ ns. and_then (numbered I' [] (ns ++ numbers_from 0 f.params) u) middle) (Ok D.table) lifetimes
            (and_ok (numbered I' [] (ns ++ numbers_from 0 f.params) u) at_entry.table middle (Ok D.table) at_entry.answer
            (and_ok (in_parameters I' [] 0 f.params (record { bindings = []; tables = at_entry.table })) (record { bindings = bindings; tables = A.table }) inner (Ok D.table) A.answer
            (then_ok (in_optional_type I' at1 f.result) (in_block I' (entered [] bindings) [] at2 f.body) A.table B.table D.table B.answer D.answer)));
        added = at_entry.added ++ (A.added ++ (B.added ++ D.added));
        grown = D.grown ∙ ap (λ (l : List NodeNames). l ++ D.added) (B.grown ∙ ap (λ (l : List NodeNames). l ++ B.added) (A.grown ∙ ap (λ (l : List NodeNames). l ++ A.added) at_entry.grown))
            ∙ append_assoc ((u.names ++ at_entry.added) ++ A.added) B.added D.added ∙ append_assoc (u.names ++ at_entry.added) A.added (B.added ++ D.added) ∙ append_assoc u.names at_entry.added (A.added ++ (B.added ++ D.added));
        numbers = λ R sv.
            let sv0 = serves_before g sv in
            alone_node V.place Site.Value (λ _ _. alone_then (subst (λ (b : Bool). EntryIfAlone u b R at_entry.table at_entry.added) (function_entry I' f ns lifetimes) (at_entry.numbers R sv0)) (λ _ _. alone_then (A.numbers R sv0) (λ ps h.
            alone_then (B.numbers R sv0) (λ y k. alone_last (D.numbers R sv Site.Expects) (λ b d. alone_keeps keeps_waiting (λ ws.
            alone_give (record { item = m; params = ps; result = y; body = b; never_given = ws }) (refl, h, k, d)))))));
      }
