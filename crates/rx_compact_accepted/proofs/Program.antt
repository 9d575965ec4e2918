-- A program with a short signature is accepted exactly where it was, where the `let`s of the function write the types of before by the new
-- numbers of its lifetimes: function by function.
use Rattle.std.proofs.Common.{◌≡◌, ◌≢◌, ◌↔◌, inl, inr, ℕ, Bool, List, [], ◌∷◌, length, map, Some, slice_get, sym, ap, subst, ◌∙◌}
use Rattle.rx_core.specs.declared.types.Bound.{Bound}
use Rattle.rx_core.specs.declared.types.Ty.{Ty}
use Rattle.rx_tree.specs.Plain.{ProgramTree}
use Rattle.rx_tree.specs.Size.{IsNumbered}
use Rattle.rx_resolve_names.specs.declared.resolved.ItemNames.{ItemNames}
use Rattle.rx_resolve_names.specs.Causes.{Meant}
use Rattle.rx_typed.specs.declared.declarations.Decl.{Decl}
use Rattle.rx_typed.specs.declared.declarations.Decl.TheVariants as decl
use Rattle.rx_region_outlives.specs.Implied.{ImpliesOf}
use Rattle.rx_lower_walks.specs.Walks.{Among, here, there}
use Rattle.rx_lower_lifetimes.specs.Values.{lifetimes_of}
use Rattle.rx_lower_lifetimes.specs.Lowered.{parameters}
use Rattle.rx_lower.specs.Functions.{trimmed, written}
use Rattle.rx_typeck_typed.specs.Programs.{Declares}
use Rattle.rx_typeck_typed.specs.HaveTypes.{EachTyped}
use Rattle.rx_typeck_typed.specs.Typing.{Given, entries, variables_at, IsTyped}
use Rattle.rx_typeck_typed.specs.declared.typed.Typed.{Typed}
use Rattle.rx_typeck_typed.specs.declared.typed.TypedFn.{TypedFn}
use Rattle.rx_facts.specs.Functions.{body, IsSmall}
use Rattle.rx_facts.specs.Passing.{AllAre, Each}
use Rattle.rx_check.specs.Answers.{AllBorrow}
use Rattle.rx_check.specs.Contexts.{AreAsked}
use Rattle.rx_check.specs.Functions.{Borrows}
use Rattle.rx_repair.proofs.Deciding.{same_or}
use Rattle.rx_repair.proofs.Typings.{as_many}
use Rattle.rx_compact.specs.Outliving.{is_single}
use Rattle.rx_compact.specs.Compacted.{compacted, Tells, IsCompacted}
use Rattle.rx_compact_types.specs.ShortTyped.{ShortProgram}
use Rattle.rx_compact_types.proofs.ShortPrograms.{all_lifetimes_same}
use Rattle.rx_compact_passes.proofs.Alike.{FunctionAlike}
use Rattle.rx_compact_accepted.specs.Alike.{BorrowAlike, OthersAlike, LetsStay, LetsStayAt, KnowTheSame}
use Rattle.rx_compact_types.specs.ShortLets.{extended}
use Rattle.rx_compact_accepted.proofs.Both.{TypedBoth}
use Rattle.rx_compact_accepted.proofs.Function.{BothFit, FunctionsFit}
use Rattle.rx_compact_accepted.proofs.Known.{signature_known, variables_typed}
use Rattle.rx_compact_accepted.proofs.Knowing.{as_much_known}
use Rattle.rx_compact_accepted.proofs.Others as others_fit
use Rattle.rx_compact_accepted.proofs.Others.{borrows_alike}
use Rattle.rx_compact_accepted.proofs.Short as short_fit
use Rattle.rx_compact_accepted.proofs.Small.{small_still}
use Rattle.rx_compact_accepted.proofs.Typed as typed
use Rattle.rx_compact_accepted.proofs.Typed.{Laws}

module _ (laws : Laws) (p : ProgramTree) (i : ℕ) (names : List ItemNames) (meant : Meant p names) (small : IsNumbered p) (ds : List Decl) (declares : Declares p names ds) (o : ℕ → ℕ → Bool) (tells : Tells ds i o)
    (new_small : IsNumbered (compacted o (is_single (slice_get ds i)) p i)) (s : ShortProgram p i (compacted o (is_single (slice_get ds i)) p i) names ds)
    (n : ℕ) (ps : List Ty) (answer : Ty) (bs : List Bound) (at : slice_get ds i ≡ Some (decl.Func n ps answer bs))
    (t u : Typed) (a : IsTyped p names t) (b : IsTyped (compacted o (is_single (slice_get ds i)) p i) s.news u) where
  abbrev q : ProgramTree
  q = compacted o (is_single (slice_get ds i)) p i

  abbrev D : List Decl
  D = t.decls.items

  abbrev E : List Decl
  E = u.decls.items

  abbrev f : ℕ → ℕ
  f = (s.declares.function n ps answer bs at).0

  abbrev G : Given
  G = record { program = p; declared = a.declared; sizes = a.sizes }

  abbrev H : Given
  H = record { program = q; declared = b.declared; sizes = b.sizes }

  B : BothFit i f D E
  B = typed.both laws p i names meant small ds declares o tells new_small s n ps answer bs at t u a b

  abbrev Pair : TypedFn → TypedFn → Type 0
  Pair h k = TypedBoth G H names s.news i h k

  -- by some numbers of its own lifetimes
  record FitsBy (P : ℕ → List Bound) (h k : TypedFn) : Type 0 where
    numbers : ℕ → ℕ
    item : k.item ≡ h.item
    bodies : body k ≡ body h
    fit : FunctionsFit D E P numbers h.item (body h) (trimmed h.variables) (trimmed k.variables) (map written h.annotations) (map written k.annotations)

  same_item : (h k : TypedFn) → Pair h k → k.item ≡ h.item
  same_item h k T = T.is.item ∙ sym T.was.item

  counted : (h : TypedFn) → Among h t.functions → length (body h).params ≡ length (parameters (slice_get D h.item))
  counted h w = as_many G p names t.functions D a.declared h a.functions a.declares.items a.same w

  module _ (P : ℕ → List Bound) (asked : AreAsked D P) where
    other_fits : (h k : TypedFn) → FunctionAlike h k → Pair h k → Among h t.functions → Among k u.functions → h.item ≢ i → FitsBy P h k
    other_fits h k A T w v ne = record {
      numbers = λ l. l;
      item = same_item h k T;
      bodies = A.bodies;
      fit = others_fit.fit i f D E B P asked p q a.declared b.declared a.sizes b.sizes (typed.short_declared laws p i names meant small ds declares o tells new_small s n ps answer bs at t u a b) (typed.plain_declared laws p i names meant small ds declares o tells new_small s n ps answer bs at t u a b)
          (typed.others laws p i names meant small ds declares o tells new_small s n ps answer bs at t u a b) (all_lifetimes_same o (is_single (slice_get ds i)) p i) names s.news h k A T ne (counted h w)
          (laws.fits p names t small meant a h w P) (laws.fits q s.news u new_small s.meant b k v P);
    }

    this_fits : EachTyped names 0 p t.functions → (h k : TypedFn) → FunctionAlike h k → Pair h k → Among h t.functions → Among k u.functions → (e : h.item ≡ i) → LetsStay D E f h k → FitsBy P h k
    this_fits every h k A T w v e lets = record {
      numbers = extended f (lifetimes_of (slice_get D h.item)) (lifetimes_of (slice_get E h.item));
      item = same_item h k T;
      bodies = A.bodies;
      fit = short_fit.fit i f D E B P asked h k A (same_item h k T) e (counted h w)
          (laws.fits p names t small meant a h w P) (laws.fits q s.news u new_small s.meant b k v P)
          (signature_known G T.place T.span T.text (entries (slice_get names T.place)) (variables_at (slice_get names T.place)) h T.was (variables_typed G names 0 p t.functions a.functions every h w) D P asked (B.fitting h.item) (counted h w)
          B.short.like.under.count B.short.like.under.params B.short.like.under.answer B.short.like.under.bounds (ap (slice_get D) e ∙ B.short.like.under.old)) lets;
    }

    fits : EachTyped names 0 p t.functions → (h k : TypedFn) → FunctionAlike h k → Pair h k → Among h t.functions → Among k u.functions → (h.item ≡ i → LetsStay D E f h k) → FitsBy P h k
    fits every h k A T w v lets = elim (same_or h.item i) [
      | inl e ↦ this_fits every h k A T w v e (lets e)
      | inr ne ↦ other_fits h k A T w v ne
    ]

    borrow : (h k : TypedFn) → FitsBy P h k → BorrowAlike D E P h k
    borrow h k F = borrows_alike i f D E B P asked h k F.item F.bodies F.numbers F.fit

    -- ---- function by function

    each_other : (hs ks : List TypedFn) → Each FunctionAlike hs ks → Each Pair hs ks → ((h : TypedFn) → Among h hs → Among h t.functions) → ((k : TypedFn) → Among k ks → Among k u.functions) → Each (OthersAlike D E P i) hs ks
    each_other [] [] x y w v = tt
    each_other [] (k ∷ ks) x y w v = absurd x
    each_other (h ∷ hs) [] x y w v = absurd x
    each_other (h ∷ hs) (k ∷ ks) x y w v =
        ((λ ne. borrow h k (other_fits h k x.0 y.0 (w h here) (v k here) ne)), each_other hs ks x.1 y.1 (λ g m. w g (there m)) (λ g m. v g (there m)))

    pub others_alike : Each (OthersAlike D E P i) t.functions u.functions
    others_alike = each_other t.functions u.functions (typed.alike laws p i names meant small ds declares o tells new_small s n ps answer bs at t u a b) (typed.pairs laws p i names meant small ds declares o tells new_small s n ps answer bs at t u a b) (λ g m. m) (λ g m. m)

    each_borrows : EachTyped names 0 p t.functions → (hs ks : List TypedFn) → Each FunctionAlike hs ks → Each Pair hs ks → Each (LetsStayAt D E i f) hs ks → ((h : TypedFn) → Among h hs → Among h t.functions) → ((k : TypedFn) → Among k ks → Among k u.functions)
        → AllAre (Borrows D P) hs ↔ AllAre (Borrows E P) ks
    each_borrows every [] [] x y z w v = (λ r. tt, λ r. tt)
    each_borrows every [] (k ∷ ks) x y z w v = absurd x
    each_borrows every (h ∷ hs) [] x y z w v = absurd x
    each_borrows every (h ∷ hs) (k ∷ ks) x y z w v =
        let c = borrow h k (fits every h k x.0 y.0 (w h here) (v k here) z.0) in
        let d = each_borrows every hs ks x.1 y.1 z.1 (λ g m. w g (there m)) (λ g m. v g (there m)) in
        (λ r. (c.0 r.0, d.0 r.1), λ r. (c.1 r.0, d.1 r.1))

    each_small : EachTyped names 0 p t.functions → (hs ks : List TypedFn) → Each FunctionAlike hs ks → Each Pair hs ks → Each (LetsStayAt D E i f) hs ks → ((h : TypedFn) → Among h hs → Among h t.functions) → ((k : TypedFn) → Among k ks → Among k u.functions)
        → AllAre (IsSmall D) hs → AllAre (IsSmall E) ks
    each_small every [] [] x y z w v r = tt
    each_small every [] (k ∷ ks) x y z w v r = absurd x
    each_small every (h ∷ hs) [] x y z w v r = absurd x
    each_small every (h ∷ hs) (k ∷ ks) x y z w v r =
        let F = fits every h k x.0 y.0 (w h here) (v k here) z.0 in
        (small_still i f D E B P asked F.numbers h k F.item F.bodies F.fit r.0, each_small every hs ks x.1 y.1 z.1 (λ g m. w g (there m)) (λ g m. v g (there m)) r.1)

  -- ---- the program

  module _ (every : EachTyped names 0 p t.functions) (lets : Each (LetsStayAt D E i f) t.functions u.functions) where
    asked_too : (P : ℕ → List Bound) → AreAsked E P → AreAsked D P
    asked_too P h = subst (λ R. (j : ℕ) → ImpliesOf R j (P j)) B.short.held h

    asked_still : (P : ℕ → List Bound) → AreAsked D P → AreAsked E P
    asked_still P h = subst (λ R. (j : ℕ) → ImpliesOf R j (P j)) (sym B.short.held) h

    all_borrow : (P : ℕ → List Bound) → AreAsked D P → AllAre (Borrows D P) t.functions ↔ AllAre (Borrows E P) u.functions
    all_borrow P h = each_borrows P h every t.functions u.functions (typed.alike laws p i names meant small ds declares o tells new_small s n ps answer bs at t u a b) (typed.pairs laws p i names meant small ds declares o tells new_small s n ps answer bs at t u a b) lets (λ g m. m) (λ g m. m)

    pub borrow_alike : AllBorrow t ↔ AllBorrow u
    borrow_alike = (
      λ r. record { implied = r.implied; asked = asked_still r.implied r.asked; each = (all_borrow r.implied r.asked).0 r.each },
      λ r. record { implied = r.implied; asked = asked_too r.implied r.asked; each = (all_borrow r.implied (asked_too r.implied r.asked)).1 r.each },
    )

    pub small_alike : (P : ℕ → List Bound) → AreAsked D P → AllAre (IsSmall D) t.functions → AllAre (IsSmall E) u.functions
    small_alike P h = each_small P h every t.functions u.functions (typed.alike laws p i names meant small ds declares o tells new_small s n ps answer bs at t u a b) (typed.pairs laws p i names meant small ds declares o tells new_small s n ps answer bs at t u a b) lets (λ g m. m) (λ g m. m)

-- ---- by what is said of the program

pub callers_alike : Laws → (p : ProgramTree) (i : ℕ) (q : ProgramTree) (c : IsCompacted p i q) → IsNumbered p → IsNumbered q → (s : ShortProgram p i q c.names c.declared)
    → (n : ℕ) (ps : List Ty) (answer : Ty) (bs : List Bound) → slice_get c.declared i ≡ Some (decl.Func n ps answer bs) → (t u : Typed) → IsTyped p c.names t → IsTyped q s.news u
    → (P : ℕ → List Bound) → AreAsked t.decls.items P → Each (OthersAlike t.decls.items u.decls.items P i) t.functions u.functions
callers_alike laws p i q c small new_small s n ps answer bs at t u a b P asked =
    subst (λ q. IsNumbered q → (s : ShortProgram p i q c.names c.declared) → IsTyped q s.news u → Each (OthersAlike t.decls.items u.decls.items P i) t.functions u.functions) (sym c.same)
    (λ z s b. others_alike laws p i c.names c.meant small c.declared c.declares c.outlives c.tells z s n ps answer bs at t u a b P asked) new_small s b

-- both are accepted alike
abbrev Accepts : Typed → Typed → Type 0
Accepts t u = (AllBorrow t ↔ AllBorrow u) × ((P : ℕ → List Bound) → AreAsked t.decls.items P → AllAre (IsSmall t.decls.items) t.functions → AllAre (IsSmall u.decls.items) u.functions)

pub accepts_alike : Laws → (p : ProgramTree) (i : ℕ) (q : ProgramTree) (c : IsCompacted p i q) → IsNumbered p → IsNumbered q → (s : ShortProgram p i q c.names c.declared)
    → (n : ℕ) (ps : List Ty) (answer : Ty) (bs : List Bound) (at : slice_get c.declared i ≡ Some (decl.Func n ps answer bs)) (t u : Typed) → IsTyped p c.names t → IsTyped q s.news u → EachTyped c.names 0 p t.functions
    → Each (LetsStayAt t.decls.items u.decls.items i (s.declares.function n ps answer bs at).0) t.functions u.functions → Accepts t u
accepts_alike laws p i q c small new_small s n ps answer bs at t u a b every lets =
    subst (λ q. IsNumbered q → (s : ShortProgram p i q c.names c.declared) → IsTyped q s.news u → Each (LetsStayAt t.decls.items u.decls.items i (s.declares.function n ps answer bs at).0) t.functions u.functions → Accepts t u) (sym c.same)
    (λ z s b lets. (
      borrow_alike laws p i c.names c.meant small c.declared c.declares c.outlives c.tells z s n ps answer bs at t u a b every lets,
      small_alike laws p i c.names c.meant small c.declared c.declares c.outlives c.tells z s n ps answer bs at t u a b every lets,
    )) new_small s b lets

pub known_alike : Laws → (p : ProgramTree) (i : ℕ) (q : ProgramTree) (c : IsCompacted p i q) → IsNumbered p → IsNumbered q → (s : ShortProgram p i q c.names c.declared)
    → (n : ℕ) (ps : List Ty) (answer : Ty) (bs : List Bound) (at : slice_get c.declared i ≡ Some (decl.Func n ps answer bs)) (t u : Typed) → IsTyped p c.names t → IsTyped q s.news u
    → KnowTheSame t.decls.items u.decls.items i (s.declares.function n ps answer bs at).0
known_alike laws p i q c small new_small s n ps answer bs at t u a b =
    subst (λ q. IsNumbered q → (s : ShortProgram p i q c.names c.declared) → IsTyped q s.news u → KnowTheSame t.decls.items u.decls.items i (s.declares.function n ps answer bs at).0) (sym c.same)
    (λ z s b. as_much_known i (s.declares.function n ps answer bs at).0 t.decls.items u.decls.items
    (typed.both laws p i c.names c.meant small c.declared c.declares c.outlives c.tells z s n ps answer bs at t u a b)) new_small s b
