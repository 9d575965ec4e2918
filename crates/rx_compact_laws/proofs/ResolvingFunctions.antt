-- A function whose lifetimes are written otherwise, and whose own list of them has a meaning, resolves as before.
use Rattle.std.proofs.Common.{◌≡◌, ℕ, suc, Bool, true, false, not, ◌||◌, List, [], ◌∷◌, ◌++◌, length, map, Option, Some, None, Ok, refl, sym, ap, ap₂, subst, ◌∙◌, append-nil}
use Rattle.std.proofs.lemmas.Bool.{false≢true}
use Rattle.std.proofs.lemmas.List.{length-map}
use Rattle.rx_core.specs.declared.types.Span.{Span}
use Rattle.rx_tree.specs.declared.tree.Ident.{Ident}
use Rattle.rx_tree.specs.declared.tree.BoundLifetime.{BoundLifetime}
use Rattle.rx_tree.specs.Plain.{Parameter, Function, ProgramTree, TypeTree, Body}
use Rattle.rx_resolve_names.specs.declared.resolved.ItemNames.{ItemNames}
use Rattle.rx_resolve_names.specs.declared.resolved.NodeNames.{NodeNames}
use Rattle.rx_resolve_names.specs.Scopes.{DeclaredNames, Variables, entered}
use Rattle.rx_resolve_names.specs.Meant.{number, Around}
use Rattle.rx_resolve_names.specs.Steps.{and_then, Naming, Inside, one, both, declare, child, next, with_variable, with_names, entry, numbered}
use Rattle.rx_resolve_names.specs.Names.{lifetime_in, Bound, in_type, in_optional_type, in_block}
use Rattle.rx_resolve_names.specs.Items.{bounds_in, lifetimes_of, in_parameter, in_parameters, numbers_from, body_at, in_function}
use Rattle.rx_typed.specs.Naming.{is_nothing, has_bounds, has_entry}
use Rattle.rx_compact_lifetimes.specs.declared.rewriting.Rewriting.{Rewriting}
use Rattle.rx_compact_lifetimes.specs.Rewritten.{rewritten_type, rewritten_optional, rewritten_parameter, rewritten_body}
use Rattle.rx_compact_laws.specs.Beside as beside
use Rattle.rx_compact_laws.specs.Beside.{Left, InBoth, Any, IsRewritten}
use Rattle.rx_compact_laws.specs.Alongside.{SameItems, AllBecome, in_both}
use Rattle.rx_compact_laws.proofs.Resolving as resolving
use Rattle.rx_compact_laws.proofs.Resolving.{read_ok, ok_is, Carrier, Does, Runs, Sim, then}

-- ---- whether a function has an entry itself

abbrev some : List ℕ → Bool
some [] = false
some (n ∷ ns) = true

some_both : (as' bs : List ℕ) → some (as' ++ bs) ≡ (some as' || some bs)
some_both [] bs = refl
some_both (a ∷ as') bs = refl

module _ (I : Inside) where
  some_bounds : (bs : List Ident) (ns : List ℕ) → bounds_in I bs ≡ Ok ns → some ns ≡ not (is_nothing bs)
  some_bounds [] ns e = ap some (sym (ok_is [] ns e))
  some_bounds (b ∷ bs) ns e =
      let a = read_ok (one (lifetime_in I b)) (λ ks. and_then (bounds_in I bs) (λ ms. Ok (ks ++ ms))) ns e in
      let c = read_ok (lifetime_in I b) (λ n. Ok (n ∷ [])) a.0 a.1 in
      let d = read_ok (bounds_in I bs) (λ ms. Ok (a.0 ++ ms)) ns a.2 in
      ap some (sym (ok_is (a.0 ++ d.0) ns d.2)) ∙ ap (λ ks. some (ks ++ d.0)) (sym (ok_is (c.0 ∷ []) a.0 c.2))

  some_lifetimes : (ds : DeclaredNames) (n : ℕ) (ls : List BoundLifetime) (ns : List ℕ) → lifetimes_of I ds n ls ≡ Ok ns → some ns ≡ has_bounds ls
  some_lifetimes ds n [] ns e = ap some (sym (ok_is [] ns e))
  some_lifetimes ds n (l ∷ ls) ns e =
      let a = read_ok (declare ds l.name n) (λ ds. both (bounds_in I l.bounds) (lifetimes_of I ds (suc n) ls)) ns e in
      let b = read_ok (bounds_in I l.bounds) (λ ks. and_then (lifetimes_of I a.0 (suc n) ls) (λ ms. Ok (ks ++ ms))) ns a.2 in
      let c = read_ok (lifetimes_of I a.0 (suc n) ls) (λ ms. Ok (b.0 ++ ms)) ns b.2 in
      ap some (sym (ok_is (b.0 ++ c.0) ns c.2)) ∙ (some_both b.0 c.0 ∙ ap₂ (λ x y. x || y) (some_bounds l.bounds b.0 b.1) (some_lifetimes a.0 (suc n) ls c.0 c.1))

some_parameters : (n : ℕ) (xs : List Parameter) → some (numbers_from n xs) ≡ not (is_nothing xs)
some_parameters n [] = refl
some_parameters n (x ∷ xs) = refl

entry_is : (I : Inside) (f : Function) (ns : List ℕ) → lifetimes_of I [] 0 f.lifetimes ≡ Ok ns → some (ns ++ numbers_from 0 f.params) ≡ has_entry f
entry_is I f ns e = some_both ns (numbers_from 0 f.params) ∙ ap₂ (λ x y. x || y) (some_lifetimes I [] 0 f.lifetimes ns e) (some_parameters 0 f.params)

numbers_same : (rs : List Rewriting) (n : ℕ) (xs : List Parameter) → numbers_from n (map (rewritten_parameter rs) xs) ≡ numbers_from n xs
numbers_same rs n [] = refl
numbers_same rs n (x ∷ xs) = ap (λ ns. n ∷ ns) (numbers_same rs (next n) xs)

body_at_same : (rs : List Rewriting) (n : ℕ) (t : Option TypeTree) → body_at n (rewritten_optional rs t) ≡ body_at n t
body_at_same rs n t = by t
  where
    by : (t : Option TypeTree) → body_at n (rewritten_optional rs t) ≡ body_at n t
    by None = refl
    by (Some t) = refl

module _ (p q : ProgramTree) (i : ℕ) (L M : DeclaredNames) (spans : List Span) (same : SameItems p q) where
  abbrev I : Inside
  I = record { program = p; item = i; lifetimes = L }

  abbrev J : Inside
  J = record { program = q; item = i; lifetimes = M }

  abbrev K : List Rewriting → InBoth
  K bs = in_both bs p q i L M

  abbrev aside : ItemNames → List NodeNames → ItemNames
  aside t us = record { vars = t.vars; lifetimes = spans; loops = t.loops; names = us }

  abbrev tables : Carrier
  tables = record { of = ItemNames; names = λ t. t.names; aside = aside }

  abbrev bound : Carrier
  bound = record { of = Bound; names = λ b. b.tables.names; aside = λ b us. record { bindings = b.bindings; tables = aside b.tables us } }

  heads_run : (at as' bs : List ℕ) → (some bs ≡ true → some as' ≡ true) → (C : Left) → Runs tables tables (beside.own_entry (some as') (some bs) C) C (numbered I at as') (numbered J at bs)
  heads_run at [] [] w C t u us e = subst (λ v. Does tables tables C C t v us (Ok (aside t us))) (ok_is t u e)
      (record { old = []; new = []; names = sym (append-nil t.names); is = ap (λ ns. Ok (aside t ns)) (sym (append-nil us)); beside = λ ks js c. c })
  heads_run at [] (b ∷ bs) w C t u us e = absurd (false≢true (w refl))
  heads_run at (a ∷ as') [] w C t u us e =
      subst (λ v. Does tables tables (beside.Old C) C t v us (Ok (aside t us))) (ok_is (with_names (entry I at (a ∷ as')) t) u e)
      (record { old = entry I at (a ∷ as') ∷ []; new = []; names = refl; is = ap (λ ns. Ok (aside t ns)) (sym (append-nil us)); beside = λ ks js c. c })
  heads_run at (a ∷ as') (b ∷ bs) w C t u us e =
      subst (λ v. Does tables tables (beside.Both Any C) C t v us (numbered J at (b ∷ bs) (aside t us))) (ok_is (with_names (entry I at (a ∷ as')) t) u e)
      (record { old = entry I at (a ∷ as') ∷ []; new = entry J at (b ∷ bs) ∷ []; names = refl; is = refl; beside = λ ks js c. (tt, c) })

  heads : (at as' bs : List ℕ) → (some bs ≡ true → some as' ≡ true) → (C : Left) → Sim tables tables (beside.own_entry (some as') (some bs) C) C (numbered I at as') (numbered J at bs)
  heads at as' bs w C = record { run = heads_run at as' bs w C }

  module _ (rs bs : List Rewriting) (all : AllBecome rs L M) (inner : AllBecome bs L M) where
    parameter : (x : Parameter) (at : List ℕ) (k : ℕ) (C : Left) → Sim bound bound (beside.in_type rs x.typ C) C (in_parameter I at k x) (in_parameter J at k (rewritten_parameter rs x))
    parameter x at k C = record {
      run = λ b d us e.
          let m = read_ok (declare b.bindings x.name k) (λ ds. and_then (in_type I (child at k) x.typ (with_variable x.name.span b.tables)) (λ t. Ok (record { bindings = ds; tables = t }))) d e in
          let n = read_ok (in_type I (child at k) x.typ (with_variable x.name.span b.tables)) (λ t. Ok (record { bindings = m.0; tables = t })) d m.2 in
          let r = (resolving.type p q i L M spans rs same all x.typ (child at k) C).run (with_variable x.name.span b.tables) n.0 us n.1 in
          subst (λ y. Does bound bound (beside.in_type rs x.typ C) C b y us (in_parameter J at k (rewritten_parameter rs x) (bound.aside b us))) (ok_is (record { bindings = m.0; tables = n.0 }) d n.2)
          (record {
            old = r.old;
            new = r.new;
            names = r.names;
            is = ap (λ o. and_then o (λ ds. and_then (in_type J (child at k) (rewritten_type rs x.typ) (with_variable x.name.span (aside b.tables us))) (λ t. Ok (record { bindings = ds; tables = t })))) m.1
                ∙ ap (λ o. and_then o (λ t. Ok (record { bindings = m.0; tables = t }))) r.is;
            beside = r.beside;
          });
    }

    parameters : (xs : List Parameter) (at : List ℕ) (k : ℕ) (C : Left) → Sim bound bound (beside.in_parameters rs xs C) C (in_parameters I at k xs) (in_parameters J at k (map (rewritten_parameter rs) xs))
    parameters [] at k C = record {
      run = λ b d us e.
          subst (λ y. Does bound bound C C b y us (Ok (bound.aside b us))) (ok_is b d e)
          (record { old = []; new = []; names = sym (append-nil b.tables.names); is = ap (λ ns. Ok (bound.aside b ns)) (sym (append-nil us)); beside = λ ks js c. c });
    }
    parameters (x ∷ xs) at k C = then {A = bound} {D = bound} {E = bound} (parameter x at k (beside.in_parameters rs xs C)) (parameters xs at (next k) C)

    from_bound : {P Q : Left} (f h : DeclaredNames → Naming) → ((ds : DeclaredNames) → Sim tables tables P Q (f ds) (h ds)) → Sim bound tables P Q (λ b. f b.bindings b.tables) (λ b. h b.bindings b.tables)
    from_bound f h k = record { run = λ b u us e. let z = (k b.bindings).run b.tables u us e in record { old = z.old; new = z.new; names = z.names; is = z.is; beside = z.beside } }

    -- the types of parameters, the result and the body, behind the item's own entry
    abbrev behind : Variables → List Around → List ℕ → Inside → List Parameter → Option TypeTree → Body → Naming
    behind sc ls at K xs t b = λ u. and_then (in_parameters K at 0 xs (record { bindings = []; tables = u })) (λ d.
        and_then (in_optional_type K (child at (number (length xs))) t d.tables) (in_block K (entered sc d.bindings) ls (child at (body_at (number (length xs)) t)) b))

    behind_runs : (sc : Variables) (ls : List Around) (at : List ℕ) (xs : List Parameter) (t : Option TypeTree) (b : Body) (C : Left)
        → Runs tables tables (beside.in_parameters rs xs (beside.in_optional_type rs t (beside.in_body (K bs) b C))) C (behind sc ls at I xs t b) (behind sc ls at J (map (rewritten_parameter rs) xs) (rewritten_optional rs t) (rewritten_body bs b))
    behind_runs sc ls at xs t b C u v us e =
        let n : number (length (map (rewritten_parameter rs) xs)) ≡ number (length xs) = ap number (length-map xs (rewritten_parameter rs)) in
        let r : Does bound tables (beside.in_parameters rs xs (beside.in_optional_type rs t (beside.in_body (K bs) b C))) C (record { bindings = []; tables = u }) v us
        (and_then (in_parameters J at 0 (map (rewritten_parameter rs) xs) (record { bindings = []; tables = aside u us })) (λ d.
        and_then (in_optional_type J (child at (number (length xs))) (rewritten_optional rs t) d.tables) (in_block J (entered sc d.bindings) ls (child at (body_at (number (length xs)) t)) (rewritten_body bs b)))) =
        (then {A = bound} {D = bound} {E = tables} (parameters xs at 0 (beside.in_optional_type rs t (beside.in_body (K bs) b C))) (from_bound (λ ds u. and_then (in_optional_type I (child at (number (length xs))) t u) (in_block I (entered sc ds) ls (child at (body_at (number (length xs)) t)) b))
        (λ ds u. and_then (in_optional_type J (child at (number (length xs))) (rewritten_optional rs t) u) (in_block J (entered sc ds) ls (child at (body_at (number (length xs)) t)) (rewritten_body bs b)))
        (λ ds. then {A = tables} {D = tables} {E = tables} (resolving.optional_type p q i L M spans rs same all t (child at (number (length xs))) (beside.in_body (K bs) b C))
        (resolving.body p q i L M spans bs same inner b (entered sc ds) ls (child at (body_at (number (length xs)) t)) [] [] C)))).run (record { bindings = []; tables = u }) v us e in
        let made : Does tables tables (beside.in_parameters rs xs (beside.in_optional_type rs t (beside.in_body (K bs) b C))) C u v us
        (and_then (in_parameters J at 0 (map (rewritten_parameter rs) xs) (record { bindings = []; tables = aside u us })) (λ d.
        and_then (in_optional_type J (child at (number (length xs))) (rewritten_optional rs t) d.tables) (in_block J (entered sc d.bindings) ls (child at (body_at (number (length xs)) t)) (rewritten_body bs b)))) =
        record { old = r.old; new = r.new; names = r.names; is = r.is; beside = r.beside } in
        subst (λ k. Does tables tables (beside.in_parameters rs xs (beside.in_optional_type rs t (beside.in_body (K bs) b C))) C u v us
        (and_then (in_parameters J at 0 (map (rewritten_parameter rs) xs) (record { bindings = []; tables = aside u us })) (λ d.
        and_then (in_optional_type J (child at k) (rewritten_optional rs t) d.tables) (in_block J (entered sc d.bindings) ls (child at (body_at k (rewritten_optional rs t))) (rewritten_body bs b))))) (sym n)
        (subst (λ k. Does tables tables (beside.in_parameters rs xs (beside.in_optional_type rs t (beside.in_body (K bs) b C))) C u v us
        (and_then (in_parameters J at 0 (map (rewritten_parameter rs) xs) (record { bindings = []; tables = aside u us })) (λ d.
        and_then (in_optional_type J (child at (number (length xs))) (rewritten_optional rs t) d.tables) (in_block J (entered sc d.bindings) ls (child at k) (rewritten_body bs b))))) (sym (body_at_same rs (number (length xs)) t)) made)

    behind_same : (sc : Variables) (ls : List Around) (at : List ℕ) (xs : List Parameter) (t : Option TypeTree) (b : Body) (C : Left)
        → Sim tables tables (beside.in_parameters rs xs (beside.in_optional_type rs t (beside.in_body (K bs) b C))) C (behind sc ls at I xs t b) (behind sc ls at J (map (rewritten_parameter rs) xs) (rewritten_optional rs t) (rewritten_body bs b))
    behind_same sc ls at xs t b C = record { run = behind_runs sc ls at xs t b C }

    whole : (f : Function) (ns ms : List ℕ) (b : Bool) → lifetimes_of I [] 0 f.lifetimes ≡ Ok ns → some (ms ++ numbers_from 0 (map (rewritten_parameter rs) f.params)) ≡ b → (b ≡ true → has_entry f ≡ true)
        → (sc : Variables) (ls : List Around) (at : List ℕ) (C : Left)
        → Runs tables tables (beside.own_entry (has_entry f) b (beside.in_parameters rs f.params (beside.in_optional_type rs f.result (beside.in_body (K bs) f.body C)))) C
        (λ t. and_then (numbered I at (ns ++ numbers_from 0 f.params) t) (behind sc ls at I f.params f.result f.body))
        (λ t. and_then (numbered J at (ms ++ numbers_from 0 (map (rewritten_parameter rs) f.params)) t) (behind sc ls at J (map (rewritten_parameter rs) f.params) (rewritten_optional rs f.result) (rewritten_body bs f.body)))
    whole f ns ms b e k w sc ls at C t u us h =
        let Q = beside.in_parameters rs f.params (beside.in_optional_type rs f.result (beside.in_body (K bs) f.body C)) in
        let as' = ns ++ numbers_from 0 f.params in
        let cs = ms ++ numbers_from 0 (map (rewritten_parameter rs) f.params) in
        let x : some as' ≡ has_entry f = entry_is I f ns e in
        subst (λ y. Does tables tables (beside.own_entry y b Q) C t u us (and_then (numbered J at cs (aside t us)) (behind sc ls at J (map (rewritten_parameter rs) f.params) (rewritten_optional rs f.result) (rewritten_body bs f.body)))) x
        (subst (λ y. Does tables tables (beside.own_entry (some as') y Q) C t u us (and_then (numbered J at cs (aside t us)) (behind sc ls at J (map (rewritten_parameter rs) f.params) (rewritten_optional rs f.result) (rewritten_body bs f.body)))) k
        ((then {A = tables} {D = tables} {E = tables} (heads at as' cs (λ z. x ∙ w (sym k ∙ z)) Q) (behind_same sc ls at f.params f.result f.body C)).run t u us h))

    pub function : (f g : Function) (ns ms : List ℕ) → IsRewritten rs bs f g → lifetimes_of I [] 0 f.lifetimes ≡ Ok ns → lifetimes_of J [] 0 g.lifetimes ≡ Ok ms → (has_entry g ≡ true → has_entry f ≡ true)
        → (sc : Variables) (ls : List Around) (at : List ℕ) (C : Left)
        → Runs tables tables (beside.own_entry (has_entry f) (has_entry g) (beside.in_parameters rs f.params (beside.in_optional_type rs f.result (beside.in_body (K bs) f.body C)))) C
        (in_function I sc ls at f) (in_function J sc ls at g)
    function f g ns ms r e h w sc ls at C t u us k =
        let a : and_then (numbered I at (ns ++ numbers_from 0 f.params) t) (behind sc ls at I f.params f.result f.body) ≡ Ok u =
        sym (ap (λ o. and_then o (λ ns. and_then (numbered I at (ns ++ numbers_from 0 f.params) t) (behind sc ls at I f.params f.result f.body))) e) ∙ k in
        let P = beside.own_entry (has_entry f) (has_entry g) (beside.in_parameters rs f.params (beside.in_optional_type rs f.result (beside.in_body (K bs) f.body C))) in
        let x : some (ms ++ numbers_from 0 (map (rewritten_parameter rs) f.params)) ≡ has_entry g = ap (λ xs. some (ms ++ numbers_from 0 xs)) (sym r.params) ∙ entry_is J g ms h in
        subst (λ o. Does tables tables P C t u us (and_then o (λ ms. and_then (numbered J at (ms ++ numbers_from 0 g.params) (aside t us)) (behind sc ls at J g.params g.result g.body)))) (sym h)
        (subst (λ xs. Does tables tables P C t u us (and_then (numbered J at (ms ++ numbers_from 0 xs) (aside t us)) (behind sc ls at J xs g.result g.body))) (sym r.params)
        (subst (λ y. Does tables tables P C t u us (and_then (numbered J at (ms ++ numbers_from 0 (map (rewritten_parameter rs) f.params)) (aside t us)) (behind sc ls at J (map (rewritten_parameter rs) f.params) y g.body))) (sym r.answer)
        (subst (λ y. Does tables tables P C t u us (and_then (numbered J at (ms ++ numbers_from 0 (map (rewritten_parameter rs) f.params)) (aside t us)) (behind sc ls at J (map (rewritten_parameter rs) f.params) (rewritten_optional rs f.result) y))) (sym r.body)
        (whole f ns ms (has_entry g) e x w sc ls at C t u us a))))
