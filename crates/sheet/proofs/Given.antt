-- What was counted in the front of the lent run, and the leaders of it, are what the call answers. Assumes nothing.
use Rattle.std.proofs.Common.{ℕ, ◌+◌, ◌*◌, ◌/◌, ◌≤◌, ◌<◌, ◌≡◌, refl, sym, ◌∙◌, List, ◌++◌, arith, length, get_or, take, drop, length-append, length-drop, take_at, drop_at}
use lib.ListN.{get_or-append}
use Rattle.table.specs.Privilege.{privileges}
use Rattle.table.specs.Check.{Accepted}
use Rattle.leaders.specs.Leaders.{LeadersOf, often_of}
use Rattle.leaders.specs.declared.Leaders.{Leaders}
use Rattle.leaders.proofs.Leading.{leaders_as}
use Rattle.sheet.specs.Answers.{with_leaders, MonthAnswer, done}
use Rattle.sheet.specs.Steps.Counting.{Counted}
use Rattle.sheet.specs.declared.Figures.{Figures}
use Rattle.sheet.specs.declared.Sheet.{Sheet}

-- the first n numbers are three for each privilege
pub month_given : {ws : List ℕ} {roles : ℕ} {marks : List ℕ} (counts : List ℕ) (n : ℕ) {ys : List ℕ} {f : Figures} {l : Leaders} {s : Sheet} → n ≡ 3 * privileges ws
    → Accepted ws → length marks ≡ roles * privileges ws → 3 * privileges ws ≤ length counts → Counted ws roles marks f ys
    → LeadersOf (length (take n (ys ++ drop n counts)) / 3) (often_of (take n (ys ++ drop n counts))) l.count l.at → s ≡ with_leaders f l
    → MonthAnswer ws roles marks counts s (ys ++ drop n counts)
month_given {ws} {roles} {marks} counts n {ys} {f} {l} h a size room c led e = rw e (done a size room refl refl (record {
  figures = c.figures;
  numbers = record { each = λ p k i j. rw (front (3 * p + k) (omega (arith, c.size))) (c.numbers.each p k i j) };
  leaders = leaders_as (λ p i. sym (front (3 * p) (omega (arith, c.size)))) (rw (own, third) at led);
}) (rw (← h) (record {
  size = length-append ys (drop n counts) ∙ omega (arith, c.size, h, length-drop n counts);
  rest = drop_at ys (drop n counts) n (c.size ∙ sym h);
})))
  where
    own : take n (ys ++ drop n counts) ≡ ys
    own = take_at ys (drop n counts) n (c.size ∙ sym h)

    third : length ys / 3 ≡ privileges ws
    third = omega (arith, c.size)

    front : (i : ℕ) → i < length ys → get_or (ys ++ drop n counts) i 0 ≡ get_or ys i 0
    front i j = get_or-append ys (drop n counts) 0 i j
