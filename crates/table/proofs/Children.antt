-- The children of a table whose checks 2 to 5 pass: each type's are all there, and the stretches make up the child list. Assumes nothing.
use Prim.Native.Nat.{ℕ, zero, suc, ◌+◌, ◌*◌, ◌≤◌, ◌<◌}
use mathlib.Core.Path.{◌≡◌, refl, sym, ◌∙◌}
use mathlib.Core.List.{List}
use native.Mathlib.Omega.{arith}
use lib.ListN.{length, get_or, take, drop, length-drop}
use lib.Seq.{length-take-le, get_or-take, get_or-drop}
use Rattle.table.specs.Words.{types, entries, kind_at, count_at, first_at, running}
use Rattle.table.specs.Steps.Reading.{HasRecord, child_list, HasChildren}
use Rattle.table.specs.Rule.{rule_of, rule_at, count_in, count_of, children_in, children_at, child_at}
use Rattle.table.specs.Check.{Laid, RightCount, Earlier, rank_of}
use Rattle.table.specs.Steps.Childed.{Tiled, Childed}
use Rattle.table.specs.declared.check.Check.{Check}
use Rattle.table.specs.declared.check.Check.TheVariants.{Layout, Kind, Count, Stretch, Bounds, Twice}
use Rattle.table.proofs.Sum.{sum_part}

-- what the checks before one give
pub tiled : (ws : List ℕ) (check : Check) → 5 < rank_of check → Earlier ws check → Tiled ws
tiled ws check h e = record {
  laid = e Layout (omega arith) 0 (omega arith);
  kinds = e Kind (omega arith);
  counts = e Count (omega arith);
  follow = e Stretch (omega arith);
}

pub childed : {ws : List ℕ} (check : Check) → 7 < rank_of check → Earlier ws check → Childed ws
childed {ws} check h e = record { tiled = tiled ws check (omega arith) e; inside = e Bounds (omega arith); differ = e Twice (omega arith) }

-- the record of a type stands in a run that is laid out as a table
pub laid_record : {ws : List ℕ} {t : ℕ} → Laid ws → t < types ws → HasRecord ws t
laid_record l h = omega (arith, l.lent, l.size)

-- the stretch that a record says, where its rule has as many children
stretch_counted : (ws : List ℕ) (kind first count : ℕ) → count_in (rule_of kind first count) ≡ count
    → children_in ws (rule_of kind first count) ≡ take count (drop (8 + 3 * types ws + first) ws)
unfolding rule_of
stretch_counted ws zero first count h = rw (sym h)
stretch_counted ws (suc zero) first count h = rw (sym h)
stretch_counted ws (suc (suc zero)) first count h = refl
stretch_counted ws (suc (suc (suc zero))) first count h = refl
stretch_counted ws (suc (suc (suc (suc zero)))) first count h = refl
stretch_counted ws (suc (suc (suc (suc (suc k))))) first count h = rw (sym h)

pub children_counted : (ws : List ℕ) (t : ℕ) → count_in (rule_at ws t) ≡ count_at ws t
    → children_at ws t ≡ take (count_at ws t) (drop (8 + 3 * types ws + first_at ws t) ws)
unfolding children_at rule_at
children_counted ws t = stretch_counted ws (kind_at ws t) (first_at ws t) (count_at ws t)

pub count_right : (kind first count : ℕ) → kind ≤ 4 → RightCount kind count → count_in (rule_of kind first count) ≡ count
unfolding rule_of
count_right zero first count h r = sym (r.empty refl)
count_right (suc zero) first count h r = sym (r.text refl)
count_right (suc (suc zero)) first count h r = refl
count_right (suc (suc (suc zero))) first count h r = refl
count_right (suc (suc (suc (suc zero)))) first count h r = refl
count_right (suc (suc (suc (suc (suc k))))) first count h r = absurd (omega arith)

-- the children of a type whose record is right
pub children_right : (ws : List ℕ) (t : ℕ) → kind_at ws t ≤ 4 → RightCount (kind_at ws t) (count_at ws t)
    → children_at ws t ≡ take (count_at ws t) (drop (8 + 3 * types ws + first_at ws t) ws)
unfolding rule_at
children_right ws t h r = children_counted ws t (count_right (kind_at ws t) (first_at ws t) (count_at ws t) h r)

module _ {ws : List ℕ} (g : Tiled ws) where
  long : length ws ≡ 8 + 3 * types ws + entries ws
  long = g.laid.lent ∙ g.laid.size

  module _ (t : ℕ) (l : t < types ws) where
    pub first_running : first_at ws t ≡ running ws t
    first_running = (g.follow t (omega arith)).first l

    pub fits : first_at ws t + count_at ws t ≤ entries ws
    fits =
        let all = (g.follow (types ws) (omega arith)).total refl in
        omega (arith, first_running, sum_part (count_at ws) t (types ws) l)

    children_read : children_at ws t ≡ take (count_at ws t) (drop (8 + 3 * types ws + first_at ws t) ws)
    children_read = children_right ws t (g.kinds t l) (g.counts t l)

    -- type t has as many children as its record says
    counted : count_in (rule_at ws t) ≡ count_at ws t
    unfolding rule_at
    counted = count_right (kind_at ws t) (first_at ws t) (count_at ws t) (g.kinds t l) (g.counts t l)

    pub count_read : count_of ws t ≡ count_at ws t
    unfolding count_of
    count_read = counted

    pub tiled_children : HasChildren ws t
    tiled_children = record { described = laid_record g.laid l; counted = counted; listed = omega (arith, long, fits) }

    pub children_all : length (children_at ws t) ≡ count_of ws t
    children_all = rw (children_read, count_read) (length-take-le (count_at ws t) (drop (8 + 3 * types ws + first_at ws t) ws) (omega (arith, long, fits, length-drop (8 + 3 * types ws + first_at ws t) ws)))

    pub child_read : (i : ℕ) → i < count_at ws t → child_at ws t i ≡ get_or ws (8 + 3 * types ws + first_at ws t + i) 0
    child_read i h = rw children_read (get_or-take (count_at ws t) (drop (8 + 3 * types ws + first_at ws t) ws) i 0 h ∙ get_or-drop (8 + 3 * types ws + first_at ws t) ws i 0)

  pub entry_read : (m : ℕ) → m < entries ws → get_or (child_list ws) m 0 ≡ get_or ws (8 + 3 * types ws + m) 0
  entry_read m h = get_or-take (entries ws) (drop (8 + 3 * types ws) ws) m 0 h ∙ get_or-drop (8 + 3 * types ws) ws m 0

  pub entries_all : length (child_list ws) ≡ entries ws
  entries_all = length-take-le (entries ws) (drop (8 + 3 * types ws) ws) (omega (arith, long, length-drop (8 + 3 * types ws) ws))
