-- The function with the call numbered beside the text's.
use Rattle.std.proofs.Common.{◌≡◌, ℕ, Bool, List, [], Option, refl}
use Rattle.rx_core.specs.declared.types.Span.{Span}
use Rattle.rx_tree.specs.declared.tree.Ident.{Ident}
use Rattle.rx_tree.specs.Plain.{OptionalExpression, Function, Statement}
use Rattle.rx_resolve_names.specs.Steps.{Inside}
use Rattle.rx_resolve_names.specs.declared.resolved.NodeNames.{NodeNames}
use Rattle.rx_typed.specs.declared.nodes.Site.{Site}
use Rattle.rx_typed.specs.Naming.{function_named}
use Rattle.rx_hoist_extraction.specs.Changed.{changed_body}
use Rattle.rx_hoist_extraction.specs.Extraction.{replacing}
use Rattle.rx_engine_names.specs.Renaming.{Renaming}
use Rattle.rx_engine_names.specs.LikeNamed.{LikeFunction}
use Rattle.rx_engine_names.specs.Alike.{with_body}
use Rattle.rx_engine_names.specs.Placed.{Told, ToldLast, by_an_end, by_others, put_in}
use Rattle.rx_engine_names.specs.Within.{Claims, BodyWithin}
use Rattle.rx_engine_typing.specs.Renumbered.{Holes}
use Rattle.rx_engine_changed.specs.Beside.{IsOneToOne, Numbers}
use Rattle.rx_engine_changed.specs.Comes.{body_of, RunComes, RunComesAt, RunEnds}
use Rattle.rx_engine_changed.specs.Round.{as_mutable, block_ending, block_with, round, GoesOn, GoesOnLast, OneBlock}
use Rattle.rx_engine_changed.specs.Once.{IsToldCall, IsToldLast, NumberedOnce}
use Rattle.rx_engine_changed.proofs.Counts.{at_place, count_body}
use Rattle.rx_engine_changed.proofs.Kept.{adds_so}
use Rattle.rx_engine_changed.proofs.Once.{numbered_once}
use Rattle.rx_engine_changed.proofs.Walk.{body_kept}
use Rattle.rx_engine_changed.proofs.RoundRun as round_run
use Rattle.rx_engine_changed.proofs.RoundEnd as round_end
use Rattle.rx_engine_changed.proofs.Functions.{function_kept}

even : (n m : ℕ) (b : Bool) → as_mutable n m b b
even n m b = refl

same : (n m : ℕ) (a b : Bool) → as_mutable n m a b → b ≡ a
same n m a b e = e

pub function_round : (base : Numbers → Holes) → ((q : Numbers) → (base q).returns) → (I I' : Inside) (s0 : Span) (front run call behind : List Statement) (o0 : OptionalExpression) (labels : List (Option Ident)) (T : Told) (R : Renaming) → IsOneToOne R → (i i' : ℕ) (s : Span) (f : Function) (ns ns' : List NodeNames) → GoesOn R as_mutable T I I' (λ c c'. RunComes (body_of s f ns) (block_with s0 front run behind o0) front c × RunComes (body_of s (with_body (changed_body (replacing s0 (block_with s0 front call behind o0)) [] [] f.body) f) ns') (block_with s0 front call behind o0) front c') front run call
    → (N : Claims) → OneBlock N (block_with s0 front run behind o0) → count_body (at_place s0) f.body ≡ 1 → R.item i ≡ i' → BodyWithin N [] [] f.body
    → LikeFunction (put_in I I' (block_with s0 front run behind o0) (block_with s0 front call behind o0) labels (by_others T I I' front run call)) R (function_named i s f ns) (function_named i' s (with_body (changed_body (replacing s0 (block_with s0 front call behind o0)) [] [] f.body) f) ns')
    → (function_named i s f ns).never_given ≡ []
    → NumberedOnce R (IsToldCall R as_mutable T I I' (λ c c'. RunComes (body_of s f ns) (block_with s0 front run behind o0) front c × RunComes (body_of s (with_body (changed_body (replacing s0 (block_with s0 front call behind o0)) [] [] f.body) f) ns') (block_with s0 front call behind o0) front c') front run call) (λ q. round (base q) q) (function_named i s f ns) (function_named i' s (with_body (changed_body (replacing s0 (block_with s0 front call behind o0)) [] [] f.body) f) ns')
function_round base returns I I' s0 front run call behind o0 labels T R apart i i' s f ns ns' goes_on N one alone e within h u =
    let P = round_run.round_places R as_mutable apart even same I I' s0 front run call behind o0 labels T base returns (body_of s f ns) (body_of s (with_body (changed_body (replacing s0 (block_with s0 front call behind o0)) [] [] f.body) f) ns') goes_on N one in
    let K = function_kept R as_mutable apart even (IsToldCall R as_mutable T I I' (λ c c'. RunComes (body_of s f ns) (block_with s0 front run behind o0) front c × RunComes (body_of s (with_body (changed_body (replacing s0 (block_with s0 front call behind o0)) [] [] f.body) f) ns') (block_with s0 front call behind o0) front c') front run call) (at_place s0) (round_run.H R as_mutable apart even same I I' s0 front run call behind o0 labels T base returns (body_of s f ns) (body_of s (with_body (changed_body (replacing s0 (block_with s0 front call behind o0)) [] [] f.body) f) ns')) (round_run.none_else R as_mutable apart even same I I' s0 front run call behind o0 labels T base returns (body_of s f ns) (body_of s (with_body (changed_body (replacing s0 (block_with s0 front call behind o0)) [] [] f.body) f) ns')) (round_run.untyped R as_mutable apart even same I I' s0 front run call behind o0 labels T base returns (body_of s f ns) (body_of s (with_body (changed_body (replacing s0 (block_with s0 front call behind o0)) [] [] f.body) f) ns')) (round_run.holes R as_mutable apart even same I I' s0 front run call behind o0 labels T base returns (body_of s f ns) (body_of s (with_body (changed_body (replacing s0 (block_with s0 front call behind o0)) [] [] f.body) f) ns')) i i' s f (changed_body (replacing s0 (block_with s0 front call behind o0)) [] [] f.body) ns ns' e
    (body_kept R as_mutable apart even (IsToldCall R as_mutable T I I' (λ c c'. RunComes (body_of s f ns) (block_with s0 front run behind o0) front c × RunComes (body_of s (with_body (changed_body (replacing s0 (block_with s0 front call behind o0)) [] [] f.body) f) ns') (block_with s0 front call behind o0) front c') front run call) (at_place s0) (body_of s f ns) (body_of s (with_body (changed_body (replacing s0 (block_with s0 front call behind o0)) [] [] f.body) f) ns') (round_run.H R as_mutable apart even same I I' s0 front run call behind o0 labels T base returns (body_of s f ns) (body_of s (with_body (changed_body (replacing s0 (block_with s0 front call behind o0)) [] [] f.body) f) ns')) (round_run.none_else R as_mutable apart even same I I' s0 front run call behind o0 labels T base returns (body_of s f ns) (body_of s (with_body (changed_body (replacing s0 (block_with s0 front call behind o0)) [] [] f.body) f) ns')) (round_run.untyped R as_mutable apart even same I I' s0 front run call behind o0 labels T base returns (body_of s f ns) (body_of s (with_body (changed_body (replacing s0 (block_with s0 front call behind o0)) [] [] f.body) f) ns')) (round_run.holes R as_mutable apart even same I I' s0 front run call behind o0 labels T base returns (body_of s f ns) (body_of s (with_body (changed_body (replacing s0 (block_with s0 front call behind o0)) [] [] f.body) f) ns')) (replacing s0 (block_with s0 front call behind o0)) N P [] [] Site.Expects f.body within) h u in
    numbered_once (record { pieces = K.pieces; last = K.last; last' = K.last'; grows = K.grows; like = K.like }) (adds_so alone K.adds)

pub function_ending : (base : Numbers → Holes) → ((q : Numbers) → (base q).returns) → (I I' : Inside) (s0 : Span) (front run call : List Statement) (o0 o1 : OptionalExpression) (labels : List (Option Ident)) (T : ToldLast) (R : Renaming) → IsOneToOne R → (i i' : ℕ) (s : Span) (f : Function) (ns ns' : List NodeNames) → GoesOnLast R as_mutable T I I' (λ k d c c'. RunEnds (body_of s f ns) (block_ending s0 front run o0) front k d c × RunComesAt (body_of s (with_body (changed_body (replacing s0 (block_ending s0 front call o1)) [] [] f.body) f) ns') (block_ending s0 front call o1) front k.site c') front run call o0 o1
    → (N : Claims) → OneBlock N (block_ending s0 front run o0) → count_body (at_place s0) f.body ≡ 1 → R.item i ≡ i' → BodyWithin N [] [] f.body
    → LikeFunction (put_in I I' (block_ending s0 front run o0) (block_ending s0 front call o1) labels (by_an_end T I I' front run call o0 o1)) R (function_named i s f ns) (function_named i' s (with_body (changed_body (replacing s0 (block_ending s0 front call o1)) [] [] f.body) f) ns')
    → (function_named i s f ns).never_given ≡ []
    → NumberedOnce R (IsToldLast R as_mutable T I I' (λ k d c c'. RunEnds (body_of s f ns) (block_ending s0 front run o0) front k d c × RunComesAt (body_of s (with_body (changed_body (replacing s0 (block_ending s0 front call o1)) [] [] f.body) f) ns') (block_ending s0 front call o1) front k.site c') front run call o0 o1) (λ q. round (base q) q) (function_named i s f ns) (function_named i' s (with_body (changed_body (replacing s0 (block_ending s0 front call o1)) [] [] f.body) f) ns')
function_ending base returns I I' s0 front run call o0 o1 labels T R apart i i' s f ns ns' goes_on N one alone e within h u =
    let P = round_end.round_places R as_mutable apart even same I I' s0 front run call o0 o1 labels T base returns (body_of s f ns) (body_of s (with_body (changed_body (replacing s0 (block_ending s0 front call o1)) [] [] f.body) f) ns') goes_on N one in
    let K = function_kept R as_mutable apart even (IsToldLast R as_mutable T I I' (λ k d c c'. RunEnds (body_of s f ns) (block_ending s0 front run o0) front k d c × RunComesAt (body_of s (with_body (changed_body (replacing s0 (block_ending s0 front call o1)) [] [] f.body) f) ns') (block_ending s0 front call o1) front k.site c') front run call o0 o1) (at_place s0) (round_end.H R as_mutable apart even same I I' s0 front run call o0 o1 labels T base returns (body_of s f ns) (body_of s (with_body (changed_body (replacing s0 (block_ending s0 front call o1)) [] [] f.body) f) ns')) (round_end.none_else R as_mutable apart even same I I' s0 front run call o0 o1 labels T base returns (body_of s f ns) (body_of s (with_body (changed_body (replacing s0 (block_ending s0 front call o1)) [] [] f.body) f) ns')) (round_end.untyped R as_mutable apart even same I I' s0 front run call o0 o1 labels T base returns (body_of s f ns) (body_of s (with_body (changed_body (replacing s0 (block_ending s0 front call o1)) [] [] f.body) f) ns')) (round_end.holes R as_mutable apart even same I I' s0 front run call o0 o1 labels T base returns (body_of s f ns) (body_of s (with_body (changed_body (replacing s0 (block_ending s0 front call o1)) [] [] f.body) f) ns')) i i' s f (changed_body (replacing s0 (block_ending s0 front call o1)) [] [] f.body) ns ns' e
    (body_kept R as_mutable apart even (IsToldLast R as_mutable T I I' (λ k d c c'. RunEnds (body_of s f ns) (block_ending s0 front run o0) front k d c × RunComesAt (body_of s (with_body (changed_body (replacing s0 (block_ending s0 front call o1)) [] [] f.body) f) ns') (block_ending s0 front call o1) front k.site c') front run call o0 o1) (at_place s0) (body_of s f ns) (body_of s (with_body (changed_body (replacing s0 (block_ending s0 front call o1)) [] [] f.body) f) ns') (round_end.H R as_mutable apart even same I I' s0 front run call o0 o1 labels T base returns (body_of s f ns) (body_of s (with_body (changed_body (replacing s0 (block_ending s0 front call o1)) [] [] f.body) f) ns')) (round_end.none_else R as_mutable apart even same I I' s0 front run call o0 o1 labels T base returns (body_of s f ns) (body_of s (with_body (changed_body (replacing s0 (block_ending s0 front call o1)) [] [] f.body) f) ns')) (round_end.untyped R as_mutable apart even same I I' s0 front run call o0 o1 labels T base returns (body_of s f ns) (body_of s (with_body (changed_body (replacing s0 (block_ending s0 front call o1)) [] [] f.body) f) ns')) (round_end.holes R as_mutable apart even same I I' s0 front run call o0 o1 labels T base returns (body_of s f ns) (body_of s (with_body (changed_body (replacing s0 (block_ending s0 front call o1)) [] [] f.body) f) ns')) (replacing s0 (block_ending s0 front call o1)) N P [] [] Site.Expects f.body within) h u in
    numbered_once (record { pieces = K.pieces; last = K.last; last' = K.last'; grows = K.grows; like = K.like }) (adds_so alone K.adds)
