-- No list of names of a program has one twice where new items stand behind a function: what is declared in the first covers what is
-- declared in the second. By induction on the items.
use Rattle.std.proofs.Common.{◌≡◌, ℕ, suc, Bool, true, false, ◌||◌, if◌then◌else◌, List, [], ◌∷◌, ◌++◌, length, Option, Some, None, Ok, refl, sym, ap, ◌∙◌, subst, bytes_eq}
use Rattle.rx_core.specs.declared.types.Span.{Span}
use Rattle.rx_tree.specs.declared.tree.Ident.{Ident}
use Rattle.rx_tree.specs.Plain as plain
use Rattle.rx_tree.specs.Plain.{Function, Enumeration, ItemTree, ProgramTree}
use Rattle.rx_resolve_names.specs.declared.table.NumberedName.{NumberedName}
use Rattle.rx_resolve_names.specs.Scopes.{DeclaredNames, declared_as}
use Rattle.rx_resolve_names.specs.declared.resolved.ItemNames.{ItemNames}
use Rattle.rx_resolve_names.specs.Meant.{number, type_name, function_name}
use Rattle.rx_resolve_names.specs.Steps.{and_then, declare, declared_behind}
use Rattle.rx_resolve_names.specs.Items.{in_item, in_items, in_program, Lists, declared_in, apart}
use Rattle.rx_hoist_extraction.specs.Names.{Names, is_among}
use Rattle.rx_engine_names.specs.Insertion.{Inserted}
use Rattle.rx_engine_names.specs.NewNames.{Avoids, AvoidAll, enum_first, enum_names, Differs, EnumDiffers, AllDiffer}
use Rattle.rx_engine_names.proofs.SideBySide.{named_ok, and_ok, the_same}
use Rattle.rx_engine_names.proofs.KeptPrograms.{all_items}

-- ---- no name twice

-- what is not declared in the first list, and is none of these, is not in the second
abbrev Covers : Names → DeclaredNames → DeclaredNames → Type 0
Covers X ds es = (x : List ℕ) → is_among x X ≡ false → declared_as ds x ≡ None → declared_as es x ≡ None

pub none_push : (ds : DeclaredNames) (d : List ℕ × NumberedName) (x : List ℕ) → declared_as ds x ≡ None → bytes_eq x d.0 ≡ false → declared_as (ds ++ d ∷ []) x ≡ None
none_push [] d x e f = ap (λ (b : Bool). if b then Some d.1 else None) f
none_push (c ∷ ds) d x e f = by (bytes_eq x c.0) e (none_push ds d x)
  where
    by : (b : Bool) → (if b then Some c.1 else declared_as ds x) ≡ None → (declared_as ds x ≡ None → bytes_eq x d.0 ≡ false → declared_as (ds ++ d ∷ []) x ≡ None) → (if b then Some c.1 else declared_as (ds ++ d ∷ []) x) ≡ None
    by true e h = absurd (cc)
    by false e h = h e f

pub none_pop : (ds : DeclaredNames) (d : List ℕ × NumberedName) (x : List ℕ) → declared_as (ds ++ d ∷ []) x ≡ None → (declared_as ds x ≡ None) × (bytes_eq x d.0 ≡ false)
none_pop [] d x e = (refl, by (bytes_eq x d.0) e)
  where
    by : (b : Bool) → (if b then Some d.1 else None) ≡ None → b ≡ false
    by true e = absurd (cc)
    by false e = refl
none_pop (c ∷ ds) d x e = by (bytes_eq x c.0) e (none_pop ds d x)
  where
    by : (b : Bool) → (if b then Some c.1 else declared_as (ds ++ d ∷ []) x) ≡ None → (declared_as (ds ++ d ∷ []) x ≡ None → (declared_as ds x ≡ None) × (bytes_eq x d.0 ≡ false)) → ((if b then Some c.1 else declared_as ds x) ≡ None) × (bytes_eq x d.0 ≡ false)
    by true e h = absurd (cc)
    by false e h = h e

pub behind_none : (ds new : DeclaredNames) (x : Ident) (n : ℕ) (o : Option NumberedName) → declared_behind ds x n o ≡ Ok new → (o ≡ None) × (new ≡ ds ++ (x.name, record { number = number n; span = x.span }) ∷ [])
behind_none ds new x n None e = (refl, sym (the_same _ _ e))
behind_none ds new x n (Some k) e = absurd (cc)

declared_covers : (X : Names) (ds es new : DeclaredNames) (n m : ℕ) (o : Option Ident) → Covers X ds es → Avoids X o → declared_in ds n o ≡ Ok new → (new' : DeclaredNames) × (declared_in es m o ≡ Ok new') × Covers X new new'
declared_covers X ds es new n m None c a e = (es, refl, subst (λ (z : DeclaredNames). Covers X z es) (the_same ds new e) c)
declared_covers X ds es new n m (Some y) c a e =
    let d = behind_none ds new y n (declared_as ds y.name) e in
    let k : List ℕ × NumberedName = (y.name, record { number = number n; span = y.span }) in let l : List ℕ × NumberedName = (y.name, record { number = number m; span = y.span }) in (
      es ++ l ∷ [],
      ap (declared_behind es y m) (c y.name a d.0),
      λ x f g.
          let h = none_pop ds k x (ap (λ (z : DeclaredNames). declared_as z x) (sym d.1) ∙ g) in none_push es l x (c x f h.0) h.1,
    )

apart_covers : (X Y : Names) (is : ProgramTree) (l l' : Lists) (n m : ℕ) → Covers X l.types l'.types → Covers Y l.functions l'.functions → AvoidAll X Y is → apart l n is ≡ Ok tt → apart l' m is ≡ Ok tt
apart_covers X Y [] l l' n m c d a e = refl
apart_covers X Y (i ∷ is) l l' n m c d a e =
    let x = named_ok (declared_in l.types n (type_name i)) (λ ts. and_then (declared_in l.functions n (function_name i)) (λ fs. apart (record { types = ts; functions = fs }) (suc n) is)) tt e in
    let y = named_ok (declared_in l.functions n (function_name i)) (λ fs. apart (record { types = x.0; functions = fs }) (suc n) is) tt x.2 in
    let t = declared_covers X l.types l'.types x.0 n m (type_name i) c a.0.0 x.1 in
    let f = declared_covers Y l.functions l'.functions y.0 n m (function_name i) d a.0.1 y.1 in
    and_ok (declared_in l'.types m (type_name i)) t.0 (λ ts. and_then (declared_in l'.functions m (function_name i)) (λ fs. apart (record { types = ts; functions = fs }) (suc m) is)) (Ok tt) t.1
    (and_ok (declared_in l'.functions m (function_name i)) f.0 (λ fs. apart (record { types = t.0; functions = fs }) (suc m) is) (Ok tt) f.1
    (apart_covers X Y is (record { types = x.0; functions = y.0 }) (record { types = t.0; functions = f.0 }) (suc n) (suc m) t.2 f.2 a.1 y.2))

-- a new name
covers_new : (ds : DeclaredNames) (y : List ℕ) (k : NumberedName) → Covers (y ∷ []) ds (ds ++ (y, k) ∷ [])
covers_new ds y k x f e = none_push ds (y, k) x e (or_none (bytes_eq x y) f)
  where
    or_none : (b : Bool) → (b || false) ≡ false → b ≡ false
    or_none true e = absurd (cc)
    or_none false e = refl

abbrev IsNew : Option (Span × Enumeration) → DeclaredNames → Type 0
IsNew None ds = Unit {0}
IsNew (Some e) ds = declared_as ds e.1.name.name ≡ None

apart_new : (o : Option (Span × Enumeration)) (s : Span) (g : Function) (behind : ProgramTree) (l : Lists) (n m : ℕ) → IsNew o l.types → declared_as l.functions g.name.name ≡ None → AvoidAll (enum_names o) (g.name.name ∷ []) behind
    → apart l n behind ≡ Ok tt → apart l m (enum_first o (plain.function_item s g) ++ behind) ≡ Ok tt
apart_new None s g behind l n m t f a e =
    let k : NumberedName = record { number = number m; span = g.name.span } in
    and_ok (declare l.functions g.name m) (l.functions ++ (g.name.name, k) ∷ []) (λ fs. apart (record { types = l.types; functions = fs }) (suc m) behind) (Ok tt) (ap (declared_behind l.functions g.name m) f)
    (apart_covers [] (g.name.name ∷ []) behind l (record { types = l.types; functions = l.functions ++ (g.name.name, k) ∷ [] }) n (suc m) (λ x f e. e) (covers_new l.functions g.name.name k) a e)
apart_new (Some d) s g behind l n m t f a e =
    let k : NumberedName = record { number = number (suc m); span = g.name.span } in let j : NumberedName = record { number = number m; span = d.1.name.span } in
    let ts = l.types ++ (d.1.name.name, j) ∷ [] in
    and_ok (declare l.types d.1.name m) ts (λ ts. apart (record { types = ts; functions = l.functions }) (suc m) (plain.function_item s g ∷ behind)) (Ok tt) (ap (declared_behind l.types d.1.name m) t)
    (and_ok (declare l.functions g.name (suc m)) (l.functions ++ (g.name.name, k) ∷ []) (λ fs. apart (record { types = ts; functions = fs }) (suc (suc m)) behind) (Ok tt) (ap (declared_behind l.functions g.name (suc m)) f)
    (apart_covers (d.1.name.name ∷ []) (g.name.name ∷ []) behind l (record { types = ts; functions = l.functions ++ (g.name.name, k) ∷ [] }) n (suc (suc m)) (covers_new l.types d.1.name.name j) (covers_new l.functions g.name.name k) a e))

stays_new : (x : List ℕ) (ds new : DeclaredNames) (n : ℕ) (o : Option Ident) → Differs x o → declared_in ds n o ≡ Ok new → declared_as ds x ≡ None → declared_as new x ≡ None
stays_new x ds new n None d e h = ap (λ (z : DeclaredNames). declared_as z x) (sym (the_same ds new e)) ∙ h
stays_new x ds new n (Some y) d e h =
    let b = behind_none ds new y n (declared_as ds y.name) e in ap (λ (z : DeclaredNames). declared_as z x) b.1 ∙ none_push ds (y.name, record { number = number n; span = y.span }) x h d

enum_stays : (q : Option (Span × Enumeration)) (ds new : DeclaredNames) (n : ℕ) (o : Option Ident) → EnumDiffers q o → declared_in ds n o ≡ Ok new → IsNew q ds → IsNew q new
enum_stays None ds new n o d e h = tt
enum_stays (Some q) ds new n o d e h = stays_new q.1.name.name ds new n o d e h

-- new items behind a function that keeps its name
apart_inserted : (q : Option (Span × Enumeration)) (s : Span) (g : Function) (p : Span) (f f' : Function) (before behind : ProgramTree) → f'.name ≡ f.name → AllDiffer q g (before ++ (plain.function_item p f ∷ [])) → AvoidAll (enum_names q) (g.name.name ∷ []) behind
    → (l : Lists) (n : ℕ) → IsNew q l.types → declared_as l.functions g.name.name ≡ None
    → apart l n (before ++ (plain.function_item p f ∷ behind)) ≡ Ok tt → apart l n (before ++ (plain.function_item p f' ∷ (enum_first q (plain.function_item s g) ++ behind))) ≡ Ok tt
apart_inserted q s g p f f' [] behind same d a l n t u e =
    let y = named_ok (declare l.functions f.name n) (λ fs. apart (record { types = l.types; functions = fs }) (suc n) behind) tt e in
    let h = stays_new g.name.name l.functions y.0 n (Some f.name) d.0.1 y.1 u in
    and_ok (declare l.functions f'.name n) y.0 (λ fs. apart (record { types = l.types; functions = fs }) (suc n) (enum_first q (plain.function_item s g) ++ behind)) (Ok tt) (ap (λ (x : Ident). declare l.functions x n) same ∙ y.1)
    (apart_new q s g behind (record { types = l.types; functions = y.0 }) (suc n) (suc n) t h a y.2)
apart_inserted q s g p f f' (i ∷ before) behind same d a l n t u e =
    let x = named_ok (declared_in l.types n (type_name i)) (λ ts. and_then (declared_in l.functions n (function_name i)) (λ fs. apart (record { types = ts; functions = fs }) (suc n) (before ++ (plain.function_item p f ∷ behind)))) tt e in
    let y = named_ok (declared_in l.functions n (function_name i)) (λ fs. apart (record { types = x.0; functions = fs }) (suc n) (before ++ (plain.function_item p f ∷ behind))) tt x.2 in
    let r = apart_inserted q s g p f f' before behind same d.1 a (record { types = x.0; functions = y.0 }) (suc n) (enum_stays q l.types x.0 n (type_name i) d.0.0 x.1 t) (stays_new g.name.name l.functions y.0 n (function_name i) d.0.1 y.1 u) y.2 in
    let rest = before ++ (plain.function_item p f' ∷ (enum_first q (plain.function_item s g) ++ behind)) in
    and_ok (declared_in l.types n (type_name i)) x.0 (λ ts. and_then (declared_in l.functions n (function_name i)) (λ fs. apart (record { types = ts; functions = fs }) (suc n) rest)) (Ok tt) x.1
    (and_ok (declared_in l.functions n (function_name i)) y.0 (λ fs. apart (record { types = x.0; functions = fs }) (suc n) rest) (Ok tt) y.1 r)

is_new : (q : Option (Span × Enumeration)) → IsNew q []
is_new None = tt
is_new (Some e) = refl

-- the names of the second program have meanings where those of the first, of the changed function and of the new items have
pub program_resolves : (P Q : ProgramTree) (c : Inserted P Q) (q : Option (Span × Enumeration)) (s : Span) (g : Function) → c.new ≡ enum_first q (plain.function_item s g)
    → AllDiffer q g (c.before ++ (plain.function_item c.place c.old ∷ [])) → AvoidAll (enum_names q) (g.name.name ∷ []) c.behind
    → (Ts : List ItemNames) → in_program P ≡ Ok Ts → (T : ItemNames) (Ns : List ItemNames) → in_item Q (length c.before) (plain.function_item c.place c.changed) ≡ Ok T → in_items Q (suc (length c.before)) c.new ≡ Ok Ns
    → (Us : List ItemNames) × (in_program Q ≡ Ok Us)
program_resolves P Q c q s g new d a Ts e T Ns t n =
    let none : Lists = record { types = []; functions = [] } in
    let x = named_ok (apart none 0 P) (λ _. in_items P 0 P) Ts e in
    let r = all_items P Q c Ts x.2 T Ns t n in
    let fine = apart_inserted q s g c.place c.old c.changed c.before c.behind c.name d a none 0 (is_new q) refl (ap (apart none 0) (sym c.first) ∙ x.1) in (
      r.0,
      and_ok (apart none 0 Q) tt (λ _. in_items Q 0 Q) (Ok r.0)
          (ap (apart none 0) c.second ∙ ap (λ (z : ProgramTree). apart none 0 (c.before ++ (plain.function_item c.place c.changed ∷ (z ++ c.behind)))) new ∙ fine) r.1,
    )
