-- Two sheets that can be added, and their sum as it is answered. Assumes nothing.
use Rattle.std.proofs.Common.{ℕ, ◌*◌, ◌/◌, ◌≡◌, refl, ◌≢◌, List, arith, length, take, length-take-le, get_or-take}
use Rattle.table.specs.Privilege.{privileges}
use Rattle.leaders.specs.Leaders.{LeadersOf, often_of}
use Rattle.leaders.specs.declared.Leaders.{Leaders}
use Rattle.leaders.proofs.Leading.{leaders_as}
use Rattle.sheet.specs.Answers.{with_leaders}
use Rattle.sheet.specs.declared.Figures.{Figures}
use Rattle.sheet.specs.declared.Sheet.{Sheet}
use Rattle.adding.specs.Sums.{add, CountsAdded}
use Rattle.adding.specs.Answers.{NoSum, AddAnswer, done}
use Rattle.adding.specs.Steps.Checking.{Summable, SumChecked, refused, fits}
use Rattle.adding.proofs.Answers.{no_sum_number}

module _ {ws : List ℕ} {s : Sheet} {counts : List ℕ} {t : Sheet} {more : List ℕ} where
  pub sum_refused : {number place : ℕ} → number ≢ 0 → SumChecked ws s counts t more number place → NoSum ws s counts t more number place
  sum_refused d (refused n) = n
  sum_refused d (fits f z p) = absurd (d z)

  pub sum_fits : {number place : ℕ} → number ≡ 0 → SumChecked ws s counts t more number place → Summable ws s counts t more × (place ≡ privileges ws)
  sum_fits z (refused n) = absurd (no_sum_number n z)
  sum_fits z (fits f y p) = (f, p)

  -- the first n numbers of the summed counts are three for each privilege
  pub sum_given : (n : ℕ) → n ≡ 3 * privileges ws → Summable ws s counts t more → {f : Figures} {l : Leaders} {r : Sheet} {after : List ℕ}
      → f ≡ add s.figures t.figures → CountsAdded (privileges ws) counts more after → LeadersOf (length (take n after) / 3) (often_of (take n after)) l.count l.at
      → r ≡ with_leaders f l → AddAnswer ws s counts t more r after
  sum_given n h c {f} {l} {r} {after} e a led i = rw i (done c.accepted c.whole c.done c.held refl refl (record {
    figures = e;
    numbers = a;
    leaders = leaders_as (λ p j. get_or-take n after (3 * p) 0 (omega arith)) (rw third at led);
  }))
    where
      third : length (take n after) / 3 ≡ privileges ws
      third = let own = length-take-le n after (omega (arith, c.whole.own, a.kept.size)) in omega (arith, own)
