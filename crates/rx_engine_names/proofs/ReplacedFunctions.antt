-- The function with other statements for a run: the walk goes along its body, where the block of the run is the special place.
use Rattle.std.proofs.Common.{◌≡◌, ℕ, Bool, true, false, not, ◌||◌, if◌then◌else◌, List, [], ◌++◌, Option, Some, None, Ok, refl, sym, ◌∙◌, subst, length}
use Rattle.rx_core.specs.declared.types.Span.{Span}
use Rattle.rx_tree.specs.declared.tree.Ident.{Ident}
use Rattle.rx_tree.specs.Plain as plain
use Rattle.rx_tree.specs.Plain.{TypeTree, PatternTree, Body, Function, OptionalExpression, Statement, ProgramTree}
use Rattle.rx_tree.specs.Spans.{body_span}
use Rattle.rx_resolve_names.specs.Scopes.{variable_named}
use Rattle.rx_resolve_names.specs.declared.resolved.ItemNames.{ItemNames}
use Rattle.rx_resolve_names.specs.Meant.{number, firsts, lifetimes_declared, Around, Target, to_loop}
use Rattle.rx_resolve_names.specs.Steps.{Inside, child}
use Rattle.rx_resolve_names.specs.Names.{in_block}
use Rattle.rx_resolve_names.specs.Items.{in_item}
use Rattle.rx_typed.specs.declared.nodes.Site.{Site}
use Rattle.rx_typed.specs.Named as named
use Rattle.rx_typed.specs.Naming.{of_body, function_named}
use Rattle.rx_hoist_extraction.specs.Names.{Names, is_among, behind_all}
use Rattle.rx_hoist_extraction.specs.Run.{as_statements, same_place}
use Rattle.rx_hoist_extraction.specs.Changed.{changed_body}
use Rattle.rx_hoist_extraction.specs.Moved.{leaves}
use Rattle.rx_hoist_extraction.specs.Extraction.{replacing}
use Rattle.rx_engine_names.specs.Renaming.{Renaming, Has, Made, Serves}
use Rattle.rx_engine_names.specs.LikeNamed.{Holes, LikeFunction, like_int, like_typed, like_return, like_other_block}
use Rattle.rx_engine_names.specs.Alike.{with_body}
use Rattle.rx_engine_names.specs.Apart.{NoneAcross, OneToOne}
use Rattle.rx_engine_names.specs.Insertion.{Inserted, number_there}
use Rattle.rx_engine_names.specs.Within.{OptionalWithin, BodyWithin, StatementsWithin}
use Rattle.rx_engine_names.specs.Moves.{labels_of}
use Rattle.rx_engine_names.specs.Replaced.{LoopsAlike}
use Rattle.rx_engine_names.specs.Placed.{StandsAlone, BindsNot, labels_at, inside_of, AllMeet, agreed, Place, Told, ToldLast, by_others, by_an_end, put_in, LikeButFor}
use Rattle.rx_engine_names.proofs.SideBySide.{Part, restated, numbers_map, numbers_node, Numbers, Reached}
use Rattle.rx_engine_names.proofs.Scoped.{Corresponds, AtName}
use Rattle.rx_engine_names.proofs.Fitting.{Fits}
use Rattle.rx_engine_names.proofs.CopiedPatterns.{optional_type_alike}
use Rattle.rx_engine_names.proofs.Standing.{Goes, same_labels, Setting, Stand, BodyPart, Special}
use Rattle.rx_engine_names.proofs.PlainPlaces.{keeping, whole_in, none_starred, plain_variable, jump_fits, plain_break, plain_continue}
use Rattle.rx_engine_names.proofs.KeptItems.{inserted_keeps, keeps_fits}
use Rattle.rx_engine_names.specs.ParameterNames.{parameter_names}
use Rattle.rx_engine_names.proofs.ChangedFunctions.{untold, function_item_along}
use Rattle.rx_engine_names.proofs.PairsApart.{none_passed, one_to_one}
use Rattle.rx_engine_names.proofs.BehindStatements.{meet_weaker}
use Rattle.rx_engine_names.proofs.ReplacedAnywhere.{to_meet, CallFits, EndFits, replaced_part}
use Rattle.rx_engine_names.proofs.ReplacedEnds.{ended_part}
use Rattle.rx_engine_names.proofs.PlacedBlocks.{IsTheBlock, placed, stands_within}

through : (M : Made) (o : Option ℕ) (n : ℕ) (x : Target) → Goes (λ n k. ⊥) M o n x → (m : ℕ) × (x ≡ to_loop m) × Has M.loops n m
through M None n x h = h
through M (Some k) n x h = absurd h

-- ---- whatever stands there

module _ (p q : ProgramTree) (c : Inserted p q) (n m : ℕ) (s : Span) (f : Function) (old new : Body) (labels : List (Option Ident)) (P : Place → Renaming → named.Body → named.Body → Type 0) (name : List ℕ) (unnamed : is_among name (parameter_names f.params) ≡ false) where
  abbrev items : ℕ → ℕ
  items = number_there c

  abbrev I : Inside
  I = inside_of p n s f

  abbrev I' : Inside
  I' = inside_of q m s f

  abbrev pub F : Fits items I I'
  F = keeps_fits items p q (inserted_keeps p q c) (number n) (number m) (firsts [] 0 (lifetimes_declared (plain.function_item s f)))

  abbrev H : Holes
  H = put_in I I' old new labels P

  abbrev at_block : Body → Body → Body
  at_block b changed = if same_place (body_span old) (body_span b) then new else changed

  abbrev known : Names
  known = parameter_names f.params

  abbrev pub K : Setting
  K = whole_in (placed old labels name) same_labels (one_to_one items) H I I' F.items_fit (keeping (λ s k. k) (λ p y. y) at_block) (untold known)

  -- what all names mean
  pub meets : (M : Made) (own : Names) (ms : List Around) (w : Stand K M own ms) → AllMeet (Has M.variables) w.sc w.sc'
  meets M own ms w x = to_meet M (is_among x own || is_among x known) (variable_named w.sc x) (variable_named w.sc' x)
      (subst (λ (z : Bool). AtName (Corresponds [] M) z (is_among x own || is_among x known) (variable_named w.sc x) (variable_named w.sc' x)) (none_starred (not (is_among x own))) (w.scopes.callees x tt))

  pub loops_alike : (M : Made) (own : Names) (ms : List Around) (w : Stand K M own ms) → LoopsAlike M w.ls w.ls'
  loops_alike M own ms w l k e = through M (leaves l ms) k _ (w.led l k e)

  -- the block with other statements is such
  abbrev pub Fills : Type 0
  Fills = (M : Made) (own : Names) (ms : List Around) (w : Stand K M own ms) (at at' : List ℕ) (t t' u : ItemNames) → labels_of w.ls ≡ labels → variable_named w.sc name ≡ None → Reached (one_to_one items) M t u → in_block I w.sc w.ls at old t ≡ Ok t'
      → Part (one_to_one items) M t t' u (λ G v. in_block I' w.sc' w.ls' at' new u ≡ Ok v) (λ R u' es es'. (k k' : Site) → Numbers (P (record { scope = w.sc; start = w.sc'; around = w.ls; round = w.ls'; way = at; way' = at'; tables = t; tables' = u }) R) t u t' u' es es' (of_body k old) (of_body k' new))

  the_block : Fills → (M : Made) (own : Names) (ms : List Around) (w : Stand K M own ms) (at at' : List ℕ) (t t' u : ItemNames) → labels_of w.ls ≡ labels → variable_named w.sc name ≡ None → Reached (one_to_one items) M t u → in_block I w.sc w.ls at old t ≡ Ok t' → BodyPart K M own ms w at' old new t t' u
  the_block fills M own ms w at at' t t' u l un q0 e =
      let A = fills M own ms w at at' t t' u l un q0 e in
      let meet = meets M own ms w in let loops = loops_alike M own ms w in
      restated A (λ z. z) (λ R sv N k k'. record {
        holds = λ c c' rest rest' q g g'.
            let x = (N k k').holds c c' rest rest' q g g' in record {
              like = like_other_block (record {
                place = record { scope = w.sc; start = w.sc'; around = w.ls; round = w.ls'; way = at; way' = at'; tables = t; tables' = u };
                first = record { end = t'; resolves = e; added = A.added; grown = A.grown; site = k; cursor = c; rest = rest; stands = (q.declared, q.loops); names = g; is = refl };
                second = record { end = A.table; resolves = A.answer; added = A.added'; grown = A.grown'; site = k'; cursor = c'; rest = rest'; stands = (q.declared', q.loops'); names = g'; is = refl };
                labels_are = l;
                names = λ x. meet_weaker (Has M.variables) (λ n m. R.variable n m ≡ true) (λ n m h. sv.variables n m (A.grows.variables n m h)) (variable_named w.sc x) (variable_named w.sc' x) (meet x);
                loops = λ l n d. let r = loops l n d in (r.0, r.1, sv.loops n r.0 (A.grows.loops n r.0 r.2));
                like = x.like;
              });
              cursors = x.cursors;
              left = x.left;
              left' = x.left';
            };
      })

  replaced_block : Fills → (M : Made) (own : Names) (ms : List Around) (w : Stand K M own ms) (at at' : List ℕ) (d done : Body) (t t' u : ItemNames) → (is_among name own ≡ false) × IsTheBlock old labels name (labels_of ms) d → in_block I w.sc w.ls at d t ≡ Ok t' → Reached (one_to_one items) M t u
      → (H.copied (body_span d) → BodyPart K M own ms w at' d done t t' u) → BodyPart K M own ms w at' d (at_block d done) t t' u
  replaced_block fills M own ms w at at' d done t t' u claim e q h = by (same_place (body_span old) (body_span d)) refl
    where
      by : (z : Bool) → same_place (body_span old) (body_span d) ≡ z → BodyPart K M own ms w at' d (if z then new else done) t t' u
      by false k = h k
      by true k =
          let y = claim.1 k in
          subst (λ (d : Body). BodyPart K M own ms w at' d new t t' u) (sym y.0) (the_block fills M own ms w at at' t t' u (w.round ∙ y.1) (w.scopes.outer name claim.0 unnamed) q (subst (λ (d : Body). in_block I w.sc w.ls at d t ≡ Ok t') y.0 e))

  place_special : Fills → Special K
  place_special fills = record {
    variable = λ M own m w at at' s x t t' u n e q. plain_variable K M at at' s x (is_among x own || is_among x known) (variable_named w.sc x) (variable_named w.sc' x) t t' u
        (subst (λ (z : Bool). AtName (Corresponds [] M) z (is_among x own || is_among x known) (variable_named w.sc x) (variable_named w.sc' x)) (none_starred (not (is_among x own))) (w.scopes.callees x tt)) e q;
    broken = λ M own m w at at' s l t t' u n e q. plain_break K M own m w at at' s l t t' u (jump_fits M s l w.ls m w.ls' w.led) e q;
    continued = λ M own m w at at' s l t t' u n e q. plain_continue K M own m w at at' s l t t' u (jump_fits M s l w.ls m w.ls' w.led) e q;
    returned = λ M own m w at at' s o o' t t' u n f h q. restated (h (child at' 0) u q) (λ z. z) (λ R sv k m m' i i'. numbers_node s i i' (λ n n' g. numbers_map (named.return n) (named.return n') (k Site.Expects Site.Expects) (λ _ _ r. like_return g r)));
    suffix = λ R s n n' b b' v k h g. like_int g;
    annotated = λ M at at' p y t t' u n e q. restated (optional_type_alike (one_to_one items) M I I' F at at' y t t' u e q) (λ z. z) (λ R sv h. numbers_map (λ z. z) (λ z. z) h (λ a b r. like_typed r));
    blocks = λ M own m w at at' b done t t' u n e q h. replaced_block fills M own m w at at' b done t t' u n e q h;
  }

  abbrev pub Changed : Function
  Changed = with_body (changed_body (replacing (body_span old) new) [] [] f.body) f

  pub placed_function : Fills → (way : List ℕ) → labels ≡ labels_at way f.body → StandsAlone old way f.body → BindsNot name f.body → (t : ItemNames) → in_item p n (plain.function_item s f) ≡ Ok t
      → (u : ItemNames) × (in_item q m (plain.function_item s Changed) ≡ Ok u) × (made : Made) × OneToOne made.variables (length t.vars) (length u.vars) × OneToOne made.loops (length t.loops) (length u.loops) × NoneAcross made (length t.vars) (length u.vars) (length t.loops) (length u.loops)
      × ((R : Renaming) → Serves items made R → LikeFunction H R (function_named n s f t.names) (function_named m s Changed u.names))
  placed_function fills way is alone free t e =
      let within = subst (λ (ls : List (Option Ident)). BodyWithin (placed old ls name) [] [] f.body) (sym is) (stands_within old f.body way name alone free) in
      let A = function_item_along (one_to_one items) H p q (inserted_keeps p q c) (λ s k. k) (λ p y. y) at_block (placed old labels name) same_labels refl (λ few few'. (tt, tt)) (none_passed items) n m s f (place_special fills, within) t e in
      (A.0, A.1, A.2, A.3.vars, A.3.loops, A.3.passages.across, A.4)

-- ---- other statements for a run

pub function_with_others : (T : Told) (name : List ℕ) (p q : ProgramTree) (c : Inserted p q) (n m : ℕ) (s : Span) (f : Function) (span : Span) (front run call behind : List Statement) (tail : OptionalExpression) (way : List ℕ)
    → StandsAlone (plain.body span (as_statements (front ++ (run ++ behind))) tail) way f.body → BindsNot name f.body → is_among name (parameter_names f.params) ≡ false → StatementsWithin (agreed run call) [] [] (as_statements behind) → OptionalWithin (agreed run call) (behind_all [] (as_statements behind)) [] tail
    → CallFits T name (number_there c) (inside_of p n s f) (inside_of q m s f) (labels_at way f.body) front run call → (t : ItemNames) → in_item p n (plain.function_item s f) ≡ Ok t
    → LikeButFor p q c n m s f (plain.body span (as_statements (front ++ (run ++ behind))) tail) (plain.body span (as_statements (front ++ (call ++ behind))) tail) (labels_at way f.body) (by_others T (inside_of p n s f) (inside_of q m s f) front run call) t
function_with_others T name p q c n m s f span front run call behind tail way alone free unnamed follows ends fits t e =
    let old : Body = plain.body span (as_statements (front ++ (run ++ behind))) tail in let new : Body = plain.body span (as_statements (front ++ (call ++ behind))) tail in
    let I = inside_of p n s f in let I' = inside_of q m s f in let labels = labels_at way f.body in let P = by_others T I I' front run call in
    placed_function p q c n m s f old new labels P name unnamed
    (λ M own ms w at at' t t' u l un q0 d. replaced_part T (number_there c) p (number n) (firsts [] 0 (lifetimes_declared (plain.function_item s f))) q (number m) (F p q c n m s f old new labels P name unnamed) w.ls w.ls' span front run call behind tail w.sc w.sc' M
    (meets p q c n m s f old new labels P name unnamed M own ms w) (loops_alike p q c n m s f old new labels P name unnamed M own ms w) follows ends
    (fits w.sc w.sc' w.ls w.ls' M un (meets p q c n m s f old new labels P name unnamed M own ms w) (loops_alike p q c n m s f old new labels P name unnamed M own ms w) l) at at' t t' u q0 d)
    way refl alone free t e

pub function_with_end : (T : ToldLast) (name : List ℕ) (p q : ProgramTree) (c : Inserted p q) (n m : ℕ) (s : Span) (f : Function) (span : Span) (front run call : List Statement) (tail last : OptionalExpression) (way : List ℕ)
    → StandsAlone (plain.body span (as_statements (front ++ run)) tail) way f.body → BindsNot name f.body → is_among name (parameter_names f.params) ≡ false → EndFits T name (number_there c) (inside_of p n s f) (inside_of q m s f) (labels_at way f.body) front run tail call last → (t : ItemNames) → in_item p n (plain.function_item s f) ≡ Ok t
    → LikeButFor p q c n m s f (plain.body span (as_statements (front ++ run)) tail) (plain.body span (as_statements (front ++ call)) last) (labels_at way f.body) (by_an_end T (inside_of p n s f) (inside_of q m s f) front run call tail last) t
function_with_end T name p q c n m s f span front run call tail last way alone free unnamed fits t e =
    let old : Body = plain.body span (as_statements (front ++ run)) tail in let new : Body = plain.body span (as_statements (front ++ call)) last in
    let I = inside_of p n s f in let I' = inside_of q m s f in let labels = labels_at way f.body in let P = by_an_end T I I' front run call tail last in
    placed_function p q c n m s f old new labels P name unnamed
    (λ M own ms w at at' t t' u l un q0 d. ended_part T (number_there c) p (number n) (firsts [] 0 (lifetimes_declared (plain.function_item s f))) q (number m) (F p q c n m s f old new labels P name unnamed) w.ls w.ls' span front run call tail last w.sc w.sc' M
    (meets p q c n m s f old new labels P name unnamed M own ms w) (loops_alike p q c n m s f old new labels P name unnamed M own ms w)
    (fits w.sc w.sc' w.ls w.ls' M un (meets p q c n m s f old new labels P name unnamed M own ms w) (loops_alike p q c n m s f old new labels P name unnamed M own ms w) l) at at' t t' u q0 d)
    way refl alone free t e
