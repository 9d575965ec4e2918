-- What the tables of sites say is what walks do.
use Rattle.std.proofs.Common.{◌≡◌, ◌↔◌, ℕ, Bool, true, false, not, ◌&&◌, ◌||◌, List, [], Some, refl, ap, sym, ◌∙◌, subst, arith}
use Rattle.rx_lower_walks.specs.Actions.{Action}
use Rattle.rx_lower_walks.specs.Graph.{Site, site_at}
use Rattle.rx_graph.specs.Tables.{at}
use Rattle.rx_facts_tables.specs.Along.{Arrives, after}
use Rattle.rx_facts_tables.specs.Along as ways
use Rattle.rx_facts_tables.specs.Tracking.{Reached}
use Rattle.rx_facts_tables.specs.Places.{Frame}
use Rattle.rx_facts_tables.specs.Layouts.{plain-Frame}
use Rattle.rx_facts_tables.specs.declared.frames.Layout.{Layout}
use Rattle.rx_facts_tables.specs.Setting.{setting, is_set}
use Rattle.rx_facts_tables.specs.Wholes.{regains, loses, standing, stands}
use Rattle.rx_facts_tables.proofs.Exact.{turned, turned_after, setting_apart, not_false}
use Rattle.rx_exits.specs.declared.points_facts.Setup.{Setup}
use Rattle.rx_exits.specs.declared.points_facts.Facts.{Facts}
use Rattle.rx_exits.specs.declared.run_points.RunPoints.{RunPoints}
use Rattle.rx_exits.specs.Marks.{marks_from}
use Rattle.rx_exits.specs.Facts.{AreFacts, WritesBelow}
use Rattle.rx_exits.specs.Points.{ArePoints}

-- what is unset on a walk is a fact of its own, with the effects turned
pub unset_told : (F : Frame) (g : List Site) (i n : ℕ) (b : Bool) → (b ≡ true) ↔ ((w : List Action) × Arrives g 0 w i × (after (turned (setting F n)) w true ≡ true))
    → (b ≡ true) ↔ ((w : List Action) × Arrives g 0 w i × (is_set F w n ≡ false))
unset_told F g i n b h = (
  (λ x. let w = h.0 x in (w.0, w.1, not_false (is_set F w.0 n) (sym (turned_after (setting F n) (setting_apart F n) w.0 false) ∙ w.2))),
  (λ w. h.1 (w.0, w.1, turned_after (setting F n) (setting_apart F n) w.0 false ∙ ap not w.2)),
)

pub are_points : (s : Setup) (g : List Site) (variables : ℕ) (t : Facts) (p : RunPoints) → AreFacts s g variables t → WritesBelow g variables → p.marks ≡ marks_from 0 g
    → p.facts ≡ t → p.variables ≡ variables → p.layout ≡ s.layout.now → Reached g → ArePoints (plain-Frame s.frame.now) g p
are_points s g variables t p facts below marks e v l reached = record {
  marks = marks;
  set = λ i n x y. subst (λ (u : Facts). (at u.set.rows i n ≡ true) ↔ ((w : List Action) × Arrives g 0 w i × (is_set (plain-Frame s.frame.now) w n ≡ true))) (sym e)
      (facts.set reached i n x (omega (arith, y, ap (λ (m : Layout). m.total) l)));
  unset = λ i n x y. subst (λ (u : Facts). (at u.unset.rows i n ≡ true) ↔ ((w : List Action) × Arrives g 0 w i × (is_set (plain-Frame s.frame.now) w n ≡ false))) (sym e)
      (unset_told (plain-Frame s.frame.now) g i n (at t.unset.rows i n) (facts.unset reached i n x (omega (arith, y, ap (λ (m : Layout). m.total) l))));
  standing = λ i n x y. subst (λ (u : Facts). (at u.standing.rows i n ≡ true) ↔ ((w : List Action) × Arrives g 0 w i × (stands w n [] ≡ true))) (sym e)
      (facts.standing reached i n x (omega (arith, y, v)));
  written = λ i s is x y. below i s is x (omega (arith, y, v));
}

-- what no site writes as a whole never stands
pub never_stands : (g : List Site) (x : ℕ) → ((i : ℕ) (s : Site) → site_at g i ≡ Some s → regains x [] s.action.act ≡ false)
    → (p q : ℕ) (w : List Action) → Arrives g p w q → stands w x [] ≡ false
never_stands g x none p q w ways.there = refl
never_stands g x none p q w (ways.by {us = us} r s e m way) = ap (λ b. after (standing x []) us b) here ∙ never_stands g x none r q us way
  where
    and_false : (b : Bool) → (b && false) ≡ false
    and_false true = refl
    and_false false = refl

    here : (regains x [] s.action.act || (not (loses x [] s.action.act) && false)) ≡ false
    here = ap (λ b. b || (not (loses x [] s.action.act) && false)) (none p s e) ∙ and_false (not (loses x [] s.action.act))
