-- A function in which a block has other statements for a run: it looks like the text's, and what it asks is what the text asks but for the run.
use Rattle.std.proofs.Common.{◌≡◌, ℕ, Bool, true, false, ◌||◌, List, ◌++◌, refl, sym, ap, ◌∙◌, subst}
use Rattle.rx_typed.specs.Named as named
use Rattle.rx_typed.specs.Named.{Exp, Body, Else, Statements, body_node, body_diverges, body_never, some_diverges}
use Rattle.rx_typeck_solver.specs.declared.facts.Demand.{Demand}
use Rattle.rx_typeck_typed.specs.Demands as rules
use Rattle.rx_engine_blocks.specs.Renumbering.{Renumbering}
use Rattle.rx_engine_blocks.specs.DemandsLike.{Is, DemandsLike}
use Rattle.rx_engine_blocks.specs.DemandsLike.DemandsLike.{like_other_demands}
use Rattle.rx_engine_typing.specs.Renumbered as like
use Rattle.rx_engine_typing.specs.Renumbered.{Holes, NodeAt, RenumberedStatements}
use Rattle.rx_engine_typing.specs.Renumbered.NodeAt.{renumbered}
use Rattle.rx_engine_typing.proofs.Looks.{Fits, is_or, tail_like, some_like, statement_diverges_like, else_diverges_like, like_else_never}
use Rattle.rx_engine_typing.proofs.Rules.{join_like}
use Rattle.rx_engine_typing.proofs.Forms.{AsksIn, returns_like, statements_like, returned_like, tail_before_like, tail_after_like}
use Rattle.rx_engine_holes.specs.Run.{append, RunBlock, with_run}
use Rattle.rx_engine_holes.specs.Run.RunBlock.{a_run}

-- what statements ask that stand one behind another
pub of_append : (f : ℕ) (a b : Statements) (ds : List Demand) → rules.of_statements f (append a b) ds ≡ rules.of_statements f b (rules.of_statements f a ds)
of_append f named.no_statement b ds = refl
of_append f (named.statement_and a ss) b ds = of_append f ss b (rules.of_statement f a ds)

parts : (f : ℕ) (a b c : Statements) (ds : List Demand) → rules.of_statements f (append a (append b c)) ds ≡ rules.of_statements f c (rules.of_statements f b (rules.of_statements f a ds))
parts f a b c ds = of_append f a (append b c) ds ∙ of_append f b c (rules.of_statements f a ds)

pub or_assoc : (x y z : Bool) → (x || (y || z)) ≡ ((x || y) || z)
or_assoc true y z = refl
or_assoc false y z = refl

pub or_append : (a b : Statements) → some_diverges (append a b) ≡ (some_diverges a || some_diverges b)
or_append named.no_statement b = refl
or_append (named.statement_and a ss) b = ap (λ x. named.statement_diverges a || x) (or_append ss b) ∙ or_assoc (named.statement_diverges a) (some_diverges ss) (some_diverges b)

pub is_same : {x x' y y' : Bool} → x ≡ y → x' ≡ y' → Is y y' → Is x x'
is_same {x} {x'} {y} {y'} e e' h = subst (λ b. Is b x') (sym e) (subst (Is y) (sym e') h)

module _ (r : Renumbering) (loops : ℕ → ℕ) (H : Holes) (S : List Demand → List Demand → Type 0) (fits : Fits r loops H S) (run call : Statements) (same : Is (some_diverges run) (some_diverges call)) where
  append_diverges : {a a' : Statements} (b b' : Statements) → RenumberedStatements r loops H a a' → Is (some_diverges b) (some_diverges b') → Is (some_diverges (append a b)) (some_diverges (append a' b'))
  append_diverges b b' like.RenumberedStatements.no_statement k = k
  append_diverges b b' (like.RenumberedStatements.statement_and h hs) k = is_or (statement_diverges_like r loops H S fits h) (append_diverges b b' hs k)

  run_diverges : {c c' : Statements} → RenumberedStatements r loops H c c' → Is (some_diverges (append run c)) (some_diverges (append call c'))
  run_diverges {c} {c'} h = is_same (or_append run c) (or_append call c') (is_or same (some_like r loops H S fits h))

  whole_diverges : {a a' c c' : Statements} → RenumberedStatements r loops H a a' → RenumberedStatements r loops H c c' → Is (some_diverges (append a (append run c))) (some_diverges (append a' (append call c')))
  whole_diverges {c = c} {c' = c'} h k = append_diverges (append run c) (append call c') h (run_diverges k)

  pub run_fits : Fits r loops (with_run r loops H run call) S
  run_fits = record {
    node = fits.node;
    place = fits.place;
    root = fits.root;
    diverges = fits.diverges;
    never = fits.never;
    uses = fits.uses;
    block_node = node;
    block_diverges = diverges;
    block_never = never;
  }
    where
      node : (b b' : Body) → RunBlock r loops H run call b b' → NodeAt r (body_node b) (body_node b')
      node b b' (a_run x y z) = renumbered

      diverges : (b b' : Body) → RunBlock r loops H run call b b' → Is (body_diverges b) (body_diverges b')
      diverges b b' (a_run x y z) = is_or (whole_diverges x y) (else_diverges_like r loops H S fits z)

      never : (b b' : Body) → RunBlock r loops H run call b b' → Is (body_never b) (body_never b')
      never b b' (a_run x y z) = tail_like r loops H S fits (whole_diverges x y) z (like_else_never r loops H S fits z)

  module _ (f : ℕ) (asking : AsksIn r loops H S f (r.items f)) (asked given : List Demand) (so : S asked given)
      (runs : (ds : List Demand) → rules.of_statements f run ds ≡ ds ++ asked) (calls : (ds : List Demand) → rules.of_statements (r.items f) call ds ≡ ds ++ given) where
    abbrev R : List Demand → List Demand → Type 0
    R = DemandsLike r S

    run_like : {ds ds' : List Demand} → R ds ds' → R (rules.of_statements f run ds) (rules.of_statements (r.items f) call ds')
    run_like {ds} {ds'} d = subst (λ xs. R xs (rules.of_statements (r.items f) call ds')) (sym (runs ds)) (subst (R (ds ++ asked)) (sym (calls ds')) (like_other_demands asked given d so))

    whole_like : {a a' c c' : Statements} {ds ds' : List Demand} → RenumberedStatements r loops H a a' → RenumberedStatements r loops H c c' → R ds ds'
        → R (rules.of_statements f (append a (append run c)) ds) (rules.of_statements (r.items f) (append a' (append call c')) ds')
    whole_like {a} {a'} {c} {c'} {ds} {ds'} x y d = subst (λ xs. R xs (rules.of_statements (r.items f) (append a' (append call c')) ds')) (sym (parts f a run c ds))
        (subst (R (rules.of_statements f c (rules.of_statements f run (rules.of_statements f a ds)))) (sym (parts (r.items f) a' call c' ds'))
        (statements_like r loops H S fits f asking y (run_like (statements_like r loops H S fits f asking x d))))

    pub run_asks : AsksIn r loops (with_run r loops H run call) S f (r.items f)
    run_asks = record { asks = asking.asks; block_asks = asks; given_asks = asking.given_asks; return_asks = λ n s o o' ds ds' k h d. returns_like r loops (with_run r loops H run call) S run_fits f n s o o' ds ds' h d }
      where
        asks : (b b' : Body) (ds ds' : List Demand) → RunBlock r loops H run call b b' → R ds ds' → R (rules.of_body f b ds) (rules.of_body (r.items f) b' ds')
        asks b b' ds ds' (a_run {n = n} {s = s} x y z) d = join_like r loops H S fits n s (tail_like r loops H S fits (whole_diverges x y) z (like_else_never r loops H S fits z))
            (tail_after_like r loops H S fits f asking n s (whole_diverges x y) z (returned_like r loops H S fits f asking z (tail_before_like r loops H S fits f asking n s z (whole_like x y d))))
