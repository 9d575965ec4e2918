-- Where a block of a text resolves, it resolves with kinds and types written out, in the same scope and with the same loops round it; so do
-- the statements in front of a run in it, its own and its tail.
use Rattle.std.proofs.Common.{◌≡◌, ℕ, ◌+◌, ◌≤◌, Bool, true, false, if◌then◌else◌, List, [], ◌∷◌, ◌++◌, length, map, Option, Some, None, Ok, refl, sym, ◌∙◌, subst, ◌⊎◌, inl, inr, bytes_eq, arith}
use Rattle.std.proofs.Math.ListN.{drop_of_length-le}
use Rattle.std.proofs.lemmas.Bool.{leb-true}
use Rattle.rx_core.specs.declared.types.Span.{Span}
use Rattle.rx_tree.specs.declared.tree.Ident.{Ident}
use Rattle.rx_tree.specs.Lists.{Every, listed, statements}
use Rattle.rx_tree.specs.Plain as plain
use Rattle.rx_tree.specs.Plain.{Body, OptionalExpression, ProgramTree, Statement, Statements}
use Rattle.rx_resolve_names.specs.Scopes.{Variable, variable_named, Variables}
use Rattle.rx_resolve_names.specs.declared.resolved.ItemNames.{ItemNames}
use Rattle.rx_resolve_names.specs.Meant.{a_loop, a_test, Around, is_meant, number, nowhere, out_of_test, target, Target, through_test, to_loop}
use Rattle.rx_resolve_names.specs.Steps.{child, Inside}
use Rattle.rx_resolve_names.specs.Names.{in_block, in_optional, in_statements, Scoped}
use Rattle.rx_resolve_names.specs.Items.{in_program}
use Rattle.rx_resolve_names.specs.Scopes.{DeclaredNames}
use Rattle.rx_hoist_extraction.specs.Changed.{changed_body}
use Rattle.rx_hoist_extraction.specs.Names.{behind_all, Names}
use Rattle.rx_hoist_extraction.specs.Pinned.{pinned_suffix, pinned_type, pinning}
use Rattle.rx_hoist_extraction.specs.Plan.{Pins}
use Rattle.rx_hoist_extraction.specs.Run.{as_statements, behind, chosen, goes_past, in_front, Run, tail_if}
use Rattle.rx_engine_names.specs.Moves.{labels_of}
use Rattle.rx_engine_names.specs.Reached.{RunReached}
use Rattle.rx_engine_names.specs.Renaming.{Has, Made, Pairs}
use Rattle.rx_engine_names.specs.Placed.{Meet}
use Rattle.rx_engine_names.specs.WrittenOut.{PinsName, written_out}
use Rattle.rx_engine_names.proofs.SideBySide.{named_ok, Reached, the_same}
use Rattle.rx_engine_names.proofs.Scoped.{unknown}
use Rattle.rx_engine_names.proofs.Fitting.{Fits}
use Rattle.rx_engine_names.proofs.Standing.{Setting, Stand}
use Rattle.rx_engine_names.proofs.NoClaims.{body_within}
use Rattle.rx_engine_names.proofs.PlainPlaces.{keeping, special, whole}
use Rattle.rx_engine_names.proofs.CopiedExpressions.{body_alike}
use Rattle.rx_engine_names.proofs.KeptItems.{itself, keeps_fits, keeps_itself}
use Rattle.rx_engine_names.proofs.KeptPrograms.{lockstep}
use Rattle.rx_engine_names.proofs.FoundTypes.{each_finds}
use Rattle.rx_engine_names.proofs.PinnedPlaces.{pinned_becomes}
use Rattle.rx_engine_names.proofs.ReplacedAnywhere.{from_meet, not_true}
use Rattle.rx_engine_names.proofs.ReplacedBlocks.{past_all, split}
use Rattle.rx_engine_names.proofs.CallsFit.{run_splits}
use Rattle.rx_engine_names.proofs.BehindStatements.{Covers, covers_itself, statements_cover}
use Rattle.rx_engine_tied.proofs.Anywhere as anywhere

-- ---- what is in scope, and the loops, beside themselves

abbrev selves : List ℕ → Pairs
selves [] = []
selves (n ∷ ns) = (n, n) ∷ selves ns

selves_are : (ns : List ℕ) → Every (λ (p : ℕ × ℕ). p.0 ≡ p.1) (selves ns)
selves_are [] = tt
selves_are (n ∷ ns) = (refl, selves_are ns)

abbrev numbers : Variables → List ℕ
numbers sc = map (λ (v : Variable). v.number) sc

meets_itself : (sc : Variables) (x : List ℕ) → Meet (Has (selves (numbers sc))) (variable_named sc x) (variable_named sc x)
meets_itself [] x = tt
meets_itself (v ∷ sc) x = by (bytes_eq x v.name) (variable_named sc x) (meets_itself sc x)
  where
    later : (o : Option ℕ) → Meet (Has (selves (numbers sc))) o o → Meet (Has ((v.number, v.number) ∷ selves (numbers sc))) o o
    later None h = tt
    later (Some n) h = inr h

    by : (b : Bool) (o : Option ℕ) → Meet (Has (selves (numbers sc))) o o → Meet (Has ((v.number, v.number) ∷ selves (numbers sc))) (if b then Some v.number else o) (if b then Some v.number else o)
    by true o h = inl (inl (refl, refl))
    by false o h = later o h

abbrev loops_of : List Around → List ℕ
loops_of [] = []
loops_of (a_loop l n ∷ ls) = n ∷ loops_of ls
loops_of (a_test ∷ ls) = loops_of ls

one_loop : (m n : ℕ) → to_loop m ≡ to_loop n → m ≡ n
one_loop m n e = cc

no_test : (t : Target) (n : ℕ) → through_test t ≡ to_loop n → ⊥
no_test (to_loop m) n e = cc
no_test out_of_test n e = cc
no_test nowhere n e = cc

leads_itself : (ls : List Around) (l : Option Ident) (n : ℕ) → target l ls ≡ to_loop n → Has (selves (loops_of ls)) n n
leads_itself [] l n e = absurd (cc)
leads_itself (a_test ∷ ls) l n e = absurd (no_test (target l ls) n e)
leads_itself (a_loop k m ∷ ls) l n e = by (is_meant l k) e (leads_itself ls l n)
  where
    by : (b : Bool) → (if b then to_loop m else target l ls) ≡ to_loop n → (target l ls ≡ to_loop n → Has (selves (loops_of ls)) n n) → Has ((m, m) ∷ selves (loops_of ls)) n n
    by true f on = let s = one_loop m n f in inl (inl (sym s, sym s))
    by false f on = inr (on f)

-- ---- a block

module _ (P : ProgramTree) (ts : List ItemNames) (all : in_program P ≡ Ok ts) (item : ℕ) (lifetimes : DeclaredNames) (place : Span) (pins : Pins) (named : PinsName P (Some pins)) where
  abbrev I : Inside
  I = record { program = P; item = item; lifetimes = lifetimes }

  abbrev F : Fits itself I I
  F = keeps_fits itself P P (keeps_itself P) item item lifetimes

  abbrev K : Setting
  K = whole (lockstep itself) (written_out (Some pins)) I I F.items_fit (keeping (pinned_suffix pins) (pinned_type P place pins) (λ b c. c)) unknown

  pub written_block : (sc : Variables) (ls : List Around) (at : List ℕ) (b : Body) (t t' : ItemNames) → in_block I sc ls at b t ≡ Ok t' → (mine : Names) (round : List Around)
      → (u : ItemNames) × (in_block I sc ls at (changed_body (pinning P place pins) mine round b) t ≡ Ok u)
  written_block sc ls at b t t' e mine round =
      let M : Made = record { variables = selves (numbers sc); loops = selves (loops_of ls); passages = [] } in
      let w : Stand K M [] [] = record {
        sc = sc;
        sc' = sc;
        ls = ls;
        ls' = ls;
        scopes = record { callees = λ x a. from_meet M (variable_named sc x) (variable_named sc x) (meets_itself sc x); variables = λ x e. absurd (not_true e); outer = λ x e. tt };
        led = λ l n e. (n, e, leads_itself ls l n e);
        round = tt;
      } in
      let S = special (lockstep itself) (written_out (Some pins)) I I F.items_fit (pinned_suffix pins) (pinned_type P place pins) (λ b c. c) unknown
      (pinned_becomes (lockstep itself) I I F P place pins unknown (each_finds P ts all item lifetimes pins.types named)) in
      let q : Reached (lockstep itself) M t t = record { vars = (refl, selves_are (numbers sc)); loops = (refl, selves_are (loops_of ls)); passages = refl } in
      let A = body_alike K S M [] [] w at at b (body_within [] [] b) t t' t e q in
      (A.table, subst (λ (c : Body). in_block I sc ls at c t ≡ Ok A.table) (anywhere.body P place pins [] mine [] round b) A.answer)

-- ---- a run in a block

-- the tail of the run where nothing or something follows it
run_ends : (I : Inside) (ls : List Around) (at : List ℕ) (past : Bool) (sc : Variables) (i : ℕ) (rest : List Statement) (t : ItemNames) (r : Scoped) (o : OptionalExpression) (to : List ℕ) (u : ItemNames) → (past ≡ true → rest ≡ [])
    → in_statements I sc ls at i (as_statements rest) t ≡ Ok r → in_optional I r.scope ls to o r.tables ≡ Ok u → (v : ItemNames) × (in_optional I sc ls to (tail_if past o) t ≡ Ok v)
run_ends I ls at false sc i rest t r o to u none h k = (t, refl)
run_ends I ls at true sc i rest t r o to u none h k =
    let e : record { scope = sc; tables = t } ≡ r = the_same (record { scope = sc; tables = t }) r (subst (λ (l : List Statement). in_statements I sc ls at i (as_statements l) t ≡ Ok r) (none refl) h) in
    (u, subst (λ (m : Scoped). in_optional I m.scope ls to o m.tables ≡ Ok u) (sym e) k)

-- it is come to in a scope in which names mean what they did where the block begins, or what is bound in front of the run
pub record ComesIn (I : Inside) (labels : List (Option Ident)) (r : Run) (b : Body) (sc : Variables) (ls : List Around) : Type 0 where
  pub reached : RunReached I labels r b
  pub around : reached.around ≡ ls
  pub covers : Covers (behind_all [] (as_statements (in_front r (statements b)))) sc reached.middle.scope

pub run_comes : (I : Inside) (r : Run) (b : Body) → r.first ≤ r.last + 1 → (sc : Variables) (ls : List Around) (at : List ℕ) (t u : ItemNames) → in_block I sc ls at b t ≡ Ok u → ComesIn I (labels_of ls) r b sc ls
run_comes I r (plain.body s ss o) forward sc ls at t u e =
    let l = listed ss in
    let to = child at (number (length l)) in
    let x = named_ok (in_statements I sc ls at 0 ss t) (λ m. in_optional I m.scope ls to o m.tables) u e in
    let a = split I sc ls at 0 (in_front r l) (chosen r l ++ behind r l) t x.0 (subst (λ (z : Statements). in_statements I sc ls at 0 z t ≡ Ok x.0) (sym (run_splits r ss forward)) x.1) in
    let c = split I a.middle.scope ls at (past_all 0 (in_front r l)) (chosen r l) (behind r l) a.middle.tables x.0 a.rest in
    let z = run_ends I ls at (goes_past r l) c.middle.scope (past_all (past_all 0 (in_front r l)) (chosen r l)) (behind r l) c.middle.tables x.0 o to u (λ past. drop_of_length-le l (omega (arith, leb-true (length l) r.last past))) c.rest x.2 in
    record {
      reached = record {
        scope = sc;
        around = ls;
        at = at;
        before = t;
        middle = a.middle;
        front = a.front;
        from = past_all 0 (in_front r l);
        end = c.middle;
        resolves = c.front;
        tail_at = to;
        after = z.0;
        ends = z.1;
        labels_are = refl;
      };
      around = refl;
      covers = statements_cover I ls at 0 (as_statements (in_front r l)) [] sc sc t a.middle (covers_itself sc) a.front;
    }
