-- What a walk finds, and what it is told, as those of the code stand for them.
use Rattle.std.specs.Prelude.{ℕ, List}
use Rattle.rx_typed.specs.Tree.{Exp, Operands, Scrutinee, Arms, Pattern, Body}
use Rattle.rx_engine_alike.specs.Likeness as likeness
use Rattle.rx_engine_alike.specs.Items.{items_with}
use Rattle.rx_engine_alike.specs.Ways as ways
use Rattle.rx_engine_alike.specs.Forms as forms
use Rattle.rx_engine_alike.specs.PlainSights.{plain-Renaming}
use Rattle.rx_engine_alike.specs.PlainWays.{plain-Ways}
use Rattle.rx_engine_alike.specs.PlainJumping.{plain-Loops, plain-Jumping}
use Rattle.rx_engine_alike.specs.PlainParts.{plain-Part}
use Rattle.rx_engine_alike.specs.declared.sights.Seen.{Seen}
use Rattle.rx_engine_alike.specs.declared.jumping.Jumping.{Jumping}
use Rattle.rx_engine_alike.specs.declared.likeness.Hole.{Hole}
use Rattle.rx_engine_alike.specs.declared.likeness.Likeness.{Likeness}
use Rattle.rx_engine_alike.specs.declared.between.Items.{Items}
use Rattle.rx_engine_alike.specs.declared.between.Between.{Between}

abbrev pub plain-Hole : Hole → likeness.Hole
plain-Hole h = record { loops = plain-Loops h.loops; inside = plain-Renaming h.inside; text = plain-Part h.text; answer = plain-Part h.answer }

abbrev pub plain-Likeness : Likeness → likeness.Likeness
plain-Likeness Likeness.Unlike = likeness.unlike
plain-Likeness Likeness.Alike = likeness.alike
plain-Likeness (Likeness.But h) = likeness.alike_but (plain-Hole h)

abbrev pub plain-Items : Items → ℕ → ℕ
plain-Items i f = items_with i.item i.made f

abbrev pub plain-Between : Between → forms.Between
plain-Between b = record { items = λ f. plain-Items b.items f; ways = plain-Ways b.ways; units = b.units; outside = b.outside; left_open = b.left_open }

-- ---- parts of both under the code's jumps and renaming

abbrev pub exp_alike : Between → Jumping → List Seen → Exp → Exp → likeness.Likeness
exp_alike b j R e f = forms.like_exp (plain-Between b) (plain-Jumping b.ways.elsewhere j) (plain-Renaming R) e f

abbrev pub all_alike : Between → Jumping → List Seen → Operands → Operands → likeness.Likeness
all_alike b j R es fs = forms.like_all (plain-Between b) (plain-Jumping b.ways.elsewhere j) (plain-Renaming R) es fs

abbrev pub matched_alike : Between → Jumping → List Seen → Scrutinee → Scrutinee → likeness.Likeness
matched_alike b j R c d = forms.like_matched (plain-Between b) (plain-Jumping b.ways.elsewhere j) (plain-Renaming R) c d

abbrev pub arms_alike : Between → Jumping → List Seen → ways.Way → Arms → Arms → likeness.Likeness
arms_alike b j R w l m = forms.like_arms (plain-Between b) (plain-Jumping b.ways.elsewhere j) (plain-Renaming R) w l m

abbrev pub let_alike : Between → Jumping → List Seen → Scrutinee → Pattern → Scrutinee → likeness.Likeness
let_alike b j R c q d = forms.like_let (plain-Between b) (plain-Jumping b.ways.elsewhere j) (plain-Renaming R) c q d

abbrev pub body_alike : Between → Jumping → List Seen → Body → Body → likeness.Likeness
body_alike b j R s t = forms.like_body (plain-Between b) (plain-Jumping b.ways.elsewhere j) (plain-Renaming R) s t
