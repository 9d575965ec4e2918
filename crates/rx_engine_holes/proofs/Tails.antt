-- A function in which a block has other last statements and another tail: it looks like the text's, and what it asks is what the text asks but for
-- these.
use Rattle.std.proofs.Common.{◌≡◌, ℕ, Bool, ◌||◌, List, ◌++◌, refl, sym, ap, ◌∙◌, subst}
use Rattle.rx_core.specs.declared.types.Span.{Span}
use Rattle.rx_typed.specs.declared.nodes.Node.{Node}
use Rattle.rx_typed.specs.Named.{Body, Else, Statements, body_node, body_diverges, body_never, else_diverges, some_diverges, tail_never}
use Rattle.rx_typeck_solver.specs.declared.facts.Demand.{Demand}
use Rattle.rx_typeck_typed.specs.Demands as rules
use Rattle.rx_engine_blocks.specs.Renumbering.{Renumbering, node_at}
use Rattle.rx_engine_blocks.specs.DemandsLike.{Is, DemandsLike}
use Rattle.rx_engine_blocks.specs.DemandsLike.Is.{itself}
use Rattle.rx_engine_blocks.specs.DemandsLike.DemandsLike.{like_other_demands}
use Rattle.rx_engine_typing.specs.Renumbered.{Holes, NodeAt, RenumberedStatements}
use Rattle.rx_engine_typing.specs.Renumbered.NodeAt.{renumbered}
use Rattle.rx_engine_typing.proofs.Looks.{Fits, is_or, some_like}
use Rattle.rx_engine_typing.proofs.Rules.{join_like}
use Rattle.rx_engine_typing.proofs.Forms.{AsksIn, returns_like, statements_like}
use Rattle.rx_engine_holes.specs.Run.{append}
use Rattle.rx_engine_holes.specs.Tail.{TailBlock, with_tail, of_end}
use Rattle.rx_engine_holes.specs.Tail.TailBlock.{a_tail}
use Rattle.rx_engine_holes.proofs.Around.{of_append, or_assoc, or_append, is_same}

is_equal : {x y : Bool} → Is x y → y ≡ x
is_equal itself = refl

end_is : (f : ℕ) (n : Node) (d : Bool) (a ss : Statements) (o : Else) (ds : List Demand) → some_diverges a ≡ d
    → rules.tail_after n (some_diverges (append a ss)) o (rules.of_returned f o (rules.tail_before n o (rules.of_statements f (append a ss) ds))) ≡ of_end f n d ss o (rules.of_statements f a ds)
end_is f n d a ss o ds e =
    ap (λ (x : Bool). rules.tail_after n x o (rules.of_returned f o (rules.tail_before n o (rules.of_statements f (append a ss) ds)))) (or_append a ss ∙ ap (λ (x : Bool). x || some_diverges ss) e)
    ∙ ap (λ (xs : List Demand). rules.tail_after n (d || some_diverges ss) o (rules.of_returned f o (rules.tail_before n o xs))) (of_append f a ss ds)

module _ (r : Renumbering) (loops : ℕ → ℕ) (H : Holes) (S : List Demand → List Demand → Type 0) (fits : Fits r loops H S) (n : Node) (s : Span) (d : Bool) (run : Statements) (o : Else) (call : Statements) (o' : Else)
    (same : Is (some_diverges run || else_diverges o) (some_diverges call || else_diverges o'))
    (same_never : Is (tail_never (d || some_diverges run) o) (tail_never (d || some_diverges call) o')) where
  pub tail_fits : Fits r loops (with_tail r loops H n s d run o call o') S
  tail_fits = record {
    node = fits.node;
    place = fits.place;
    root = fits.root;
    diverges = fits.diverges;
    never = fits.never;
    uses = fits.uses;
    block_node = node;
    block_diverges = diverges;
    block_never = never;
  }
    where
      node : (b b' : Body) → TailBlock r loops H n s d run o call o' b b' → NodeAt r (body_node b) (body_node b')
      node b b' (a_tail e x) = renumbered

      all_of : (a ss : Statements) (t : Else) → (some_diverges (append a ss) || else_diverges t) ≡ (some_diverges a || (some_diverges ss || else_diverges t))
      all_of a ss t = ap (λ (x : Bool). x || else_diverges t) (or_append a ss) ∙ sym (or_assoc (some_diverges a) (some_diverges ss) (else_diverges t))

      diverges : (b b' : Body) → TailBlock r loops H n s d run o call o' b b' → Is (body_diverges b) (body_diverges b')
      diverges b b' (a_tail {a = a} {a' = a'} e x) = is_same (all_of a run o) (all_of a' call o') (is_or (some_like r loops H S fits x) same)

      never : (b b' : Body) → TailBlock r loops H n s d run o call o' b b' → Is (body_never b) (body_never b')
      never b b' (a_tail {a = a} {a' = a'} e x) = is_same (ap (λ (y : Bool). tail_never y o) (or_append a run ∙ ap (λ (y : Bool). y || some_diverges run) e))
          (ap (λ (y : Bool). tail_never y o') (or_append a' call ∙ ap (λ (y : Bool). y || some_diverges call) (is_equal (some_like r loops H S fits x) ∙ e))) same_never

  module _ (f : ℕ) (asking : AsksIn r loops H S f (r.items f)) (asked given : List Demand) (so : S asked given)
      (runs : (ds : List Demand) → of_end f n d run o ds ≡ ds ++ asked) (calls : (ds : List Demand) → of_end (r.items f) (node_at r n s) d call o' ds ≡ ds ++ given) where
    abbrev R : List Demand → List Demand → Type 0
    R = DemandsLike r S

    ends_like : {a a' : Statements} {ds ds' : List Demand} → some_diverges a ≡ d → RenumberedStatements r loops H a a' → R ds ds'
        → R (rules.tail_after n (some_diverges (append a run)) o (rules.of_returned f o (rules.tail_before n o (rules.of_statements f (append a run) ds))))
        (rules.tail_after (node_at r n s) (some_diverges (append a' call)) o' (rules.of_returned (r.items f) o' (rules.tail_before (node_at r n s) o' (rules.of_statements (r.items f) (append a' call) ds'))))
    ends_like {a} {a'} {ds} {ds'} e x k =
        let first = end_is f n d a run o ds e ∙ runs (rules.of_statements f a ds) in
        let second = end_is (r.items f) (node_at r n s) d a' call o' ds' (is_equal (some_like r loops H S fits x) ∙ e) ∙ calls (rules.of_statements (r.items f) a' ds') in
        subst (λ xs. R xs (rules.tail_after (node_at r n s) (some_diverges (append a' call)) o' (rules.of_returned (r.items f) o' (rules.tail_before (node_at r n s) o' (rules.of_statements (r.items f) (append a' call) ds'))))) (sym first)
        (subst (R (rules.of_statements f a ds ++ asked)) (sym second) (like_other_demands asked given (statements_like r loops H S fits f asking x k) so))

    pub tail_asks : AsksIn r loops (with_tail r loops H n s d run o call o') S f (r.items f)
    tail_asks = record { asks = asking.asks; block_asks = asks; given_asks = asking.given_asks; return_asks = λ m t p p' ds ds' k h y. returns_like r loops (with_tail r loops H n s d run o call o') S tail_fits f m t p p' ds ds' h y }
      where
        asks : (b b' : Body) (ds ds' : List Demand) → TailBlock r loops H n s d run o call o' b b' → R ds ds' → R (rules.of_body f b ds) (rules.of_body (r.items f) b' ds')
        asks b b' ds ds' (a_tail e x) k = join_like r loops H S fits n s (tail_fits.block_never b b' (a_tail e x)) (ends_like e x k)
