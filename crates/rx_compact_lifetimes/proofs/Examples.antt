-- Signatures that become short, by computation.
use Rattle.std.proofs.Common.{◌≡◌, ℕ, ◌==◌, Bool, true, false, ◌&&◌, ◌||◌, List, [], ◌∷◌, Option, Some, None, refl}
use Rattle.std.specs.Prelude.{codes}
use Rattle.rx_core.specs.declared.types.Kind.TheVariants.{I64}
use Rattle.rx_tree.specs.declared.tree.Ident.{Ident}
use Rattle.rx_tree.specs.declared.tree.BoundLifetime.{BoundLifetime}
use Rattle.rx_tree.specs.Erase.{nowhere}
use Rattle.rx_tree.specs.Plain as plain
use Rattle.rx_tree.specs.Plain.{TypeTree, Parameter, Function}
use Rattle.rx_compact_lifetimes.specs.Merged.{merged}
use Rattle.rx_compact_lifetimes.specs.Elided.{elided}

abbrev an : List ℕ → Ident
an x = record { span = nowhere; name = x }

abbrev lifetime : List ℕ → List Ident → BoundLifetime
lifetime x bs = record { name = an x; bounds = bs }

abbrev reference : Option Ident → Bool → TypeTree → TypeTree
reference l m t = plain.ref_type nowhere l m t

abbrev number : TypeTree
number = plain.kind_type nowhere I64

abbrev param : List ℕ → TypeTree → Parameter
param x t = record { name = an x; mutable = false; typ = t }

abbrev fn : List ℕ → List BoundLifetime → List Parameter → Option TypeTree → Function
fn x ls ps t = record { name = an x; lifetimes = ls; params = ps; result = t; body = plain.body nowhere plain.no_statement plain.absent }

-- nothing is known but that each outlives itself
abbrev itself : ℕ → ℕ → Bool
itself l k = l == k

-- fn gather<'r0>(sum: &'r0 mut i64, n: i64)    becomes    fn gather(sum: &mut i64, n: i64)
abbrev gather : Function
gather = fn (codes "gather") (lifetime (codes "'r0") [] ∷ []) (param (codes "sum") (reference (Some (an (codes "'r0"))) true number) ∷ param (codes "n") number ∷ []) None

gather_is_short : elided false (merged itself gather)
    ≡ fn (codes "gather") [] (param (codes "sum") (reference None true number) ∷ param (codes "n") number ∷ []) None
gather_is_short = refl

-- fn pick<'r0: 'r2, 'r1, 'r2>(q: &'r0 i64, best: &'r1 mut &'r2 i64)    becomes
-- fn pick<'r0: 'r2, 'r2>(q: &'r0 i64, best: &mut &'r2 i64)
abbrev pick : Function
pick = fn (codes "pick") (lifetime (codes "'r0") (an (codes "'r2") ∷ []) ∷ lifetime (codes "'r1") [] ∷ lifetime (codes "'r2") [] ∷ [])
    (param (codes "q") (reference (Some (an (codes "'r0"))) false number)
    ∷ param (codes "best") (reference (Some (an (codes "'r1"))) true (reference (Some (an (codes "'r2"))) false number)) ∷ []) None

-- by its bound, and since `best` is formed
abbrev known_of_pick : ℕ → ℕ → Bool
known_of_pick l k = (l == k) || ((k == 1) && (l == 2) || (k == 2) && (l == 0) || (k == 1) && (l == 0))

pick_is_short : elided false (merged known_of_pick pick)
    ≡ fn (codes "pick") (lifetime (codes "'r0") (an (codes "'r2") ∷ []) ∷ lifetime (codes "'r2") [] ∷ [])
    (param (codes "q") (reference (Some (an (codes "'r0"))) false number)
    ∷ param (codes "best") (reference None true (reference (Some (an (codes "'r2"))) false number)) ∷ []) None
pick_is_short = refl

-- fn swap<'r0, 'r1: 'r3, 'r2, 'r3: 'r1>(x: &'r0 mut Keep<'r1>, y: &'r2 mut Keep<'r3>)    becomes
-- fn swap<'r1>(x: &mut Keep<'r1>, y: &mut Keep<'r1>)
abbrev keep : List ℕ → TypeTree
keep l = plain.named_type nowhere (an (codes "Keep")) (Some (Some (an l) ∷ []))

abbrev swap : Function
swap = fn (codes "swap")
    (lifetime (codes "'r0") [] ∷ lifetime (codes "'r1") (an (codes "'r3") ∷ []) ∷ lifetime (codes "'r2") [] ∷ lifetime (codes "'r3") (an (codes "'r1") ∷ []) ∷ [])
    (param (codes "x") (reference (Some (an (codes "'r0"))) true (keep (codes "'r1")))
    ∷ param (codes "y") (reference (Some (an (codes "'r2"))) true (keep (codes "'r3"))) ∷ []) None

-- by its bounds, and since `x` and `y` are formed
abbrev known_of_swap : ℕ → ℕ → Bool
known_of_swap l k = (l == k) || ((k == 0) || (k == 2) || (l == 1) || (l == 3)) && ((l == 1) || (l == 3))

swap_is_short : elided false (merged known_of_swap swap)
    ≡ fn (codes "swap") (lifetime (codes "'r1") [] ∷ [])
    (param (codes "x") (reference None true (keep (codes "'r1"))) ∷ param (codes "y") (reference None true (keep (codes "'r1"))) ∷ []) None
swap_is_short = refl

-- fn view<'a>(x: &'a Keep<'_>) -> &'a i64    stays: the parameters have two lifetimes
abbrev view : Function
view = fn (codes "view") (lifetime (codes "'a") [] ∷ [])
    (param (codes "x") (reference (Some (an (codes "'a"))) false (plain.named_type nowhere (an (codes "Keep")) (Some (None ∷ [])))) ∷ [])
    (Some (reference (Some (an (codes "'a"))) false number))

view_stays : elided false (merged itself view) ≡ view
view_stays = refl

-- fn first<'a>(x: &'a (i64, i64)) -> &'a i64    becomes    fn first(x: &(i64, i64)) -> &i64
abbrev pair : TypeTree
pair = plain.tuple_type nowhere (plain.type_and number (plain.type_and number plain.no_type))

abbrev first : Function
first = fn (codes "first") (lifetime (codes "'a") [] ∷ []) (param (codes "x") (reference (Some (an (codes "'a"))) false pair) ∷ [])
    (Some (reference (Some (an (codes "'a"))) false number))

first_is_short : elided true (merged itself first)
    ≡ fn (codes "first") [] (param (codes "x") (reference None false pair) ∷ []) (Some (reference None false number))
first_is_short = refl

-- fn held<'a>(x: &'a i64) { let y: &'a i64; }    stays: the body names it
abbrev held : Function
held = record (fn (codes "held") (lifetime (codes "'a") [] ∷ []) (param (codes "x") (reference (Some (an (codes "'a"))) false number) ∷ []) None) {
  body = plain.body nowhere (plain.statement_and (plain.let_statement nowhere (plain.bind nowhere (an (codes "y")) false)
      (Some (reference (Some (an (codes "'a"))) false number)) plain.absent) plain.no_statement) plain.absent;
}

held_stays : elided true (merged itself held) ≡ held
held_stays = refl

-- <'a: 'b + 'c, 'b: 'a + 'd + 'c, 'c, 'd>, of which the first two are one, becomes <'a: 'c + 'd, 'c, 'd>, in the body too
abbrev bounded : Function
bounded = record held {
  lifetimes = lifetime (codes "'a") (an (codes "'b") ∷ an (codes "'c") ∷ [])
      ∷ lifetime (codes "'b") (an (codes "'a") ∷ an (codes "'d") ∷ an (codes "'c") ∷ []) ∷ lifetime (codes "'c") [] ∷ lifetime (codes "'d") [] ∷ [];
  body = plain.body nowhere (plain.statement_and (plain.let_statement nowhere (plain.bind nowhere (an (codes "y")) false)
      (Some (reference (Some (an (codes "'b"))) false number)) plain.absent) plain.no_statement) plain.absent;
}

abbrev known_of_bounded : ℕ → ℕ → Bool
known_of_bounded l k = (l == k) || ((l == 0) || (l == 1))

bounded_is_short : elided true (merged known_of_bounded bounded)
    ≡ record held { lifetimes = lifetime (codes "'a") (an (codes "'c") ∷ an (codes "'d") ∷ []) ∷ lifetime (codes "'c") [] ∷ lifetime (codes "'d") [] ∷ [] }
bounded_is_short = refl
