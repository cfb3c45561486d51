-- The loop has counted the entries passed. Assumes nothing.
use Rattle.std.proofs.Common.{◌≡◌, ℕ, ◌<◌, List, length, get_or, refl, ◌∙◌, arith}
use Rattle.table.specs.Steps.Childed.{Childed}
use Rattle.table.specs.Steps.Reading.{child_list}
use Rattle.table.proofs.Children.{entries_all}
use Rattle.table.proofs.Entries.{count_start, count_more, entry_inside, read_list, entries_sum}
use Rattle.table.proofs.Sums.{occurs_few}
use Rattle.table.proofs.order.count_parents.Goals as goal

-- an entry of the list that was read is a type
entry_low : {ws list : List ℕ} {i child : ℕ} → Childed ws → list ≡ child_list ws → i < length list → child ≡ get_or list i 0 → child < 256
entry_low {i = i} g l h e = omega (arith, g.tiled.laid.few, e, rw (← l) at (entry_inside g i (rw (← l) h)))

pub loop-child-init : goal.loop-child-init
loop-child-init c = rw c.requires.1 (count_start _)

pub bounds-counts-from : goal.bounds-counts-from
bounds-counts-from c = entry_low c.requires.0 (read_list c.args.words.now c.types.ensures.is c.entries.ensures.is refl c.stretch-list.ensures) c.loop-child-test.true c.from.ensures

pub overflow_add-counts : goal.overflow_add-counts
overflow_add-counts c =
    let l = read_list c.args.words.now c.types.ensures.is c.entries.ensures.is refl c.stretch-list.ensures in
    let low : c.from.result < 256 = entry_low c.requires.0 l c.loop-child-test.true c.from.ensures in
    omega (arith, c.loop-child.invariant.each _ low, occurs_few c.stretch-list.result.now c.from.result c.loop-child.child-index, c.requires.0.tiled.laid.short, rw (← l) at (entries_all c.requires.0.tiled))

pub bounds-counts-from-in-loop-child : goal.bounds-counts-from-in-loop-child
bounds-counts-from-in-loop-child c = entry_low c.requires.0 (read_list c.args.words.now c.types.ensures.is c.entries.ensures.is refl c.stretch-list.ensures) c.loop-child-test.true c.from.ensures

pub loop-child-preserved : goal.loop-child-preserved
loop-child-preserved c =
    let l = read_list c.args.words.now c.types.ensures.is c.entries.ensures.is refl c.stretch-list.ensures in
    count_more c.loop-child.invariant c.loop-child-test.true c.from.result c.from.ensures (entry_low c.requires.0 l c.loop-child-test.true c.from.ensures)

pub returns : goal.returns
returns c =
    let l = read_list c.args.words.now c.types.ensures.is c.entries.ensures.is refl c.stretch-list.ensures in
    let all : length c.stretch-list.result.now ≡ c.loop-child.child-index = omega arith in
    record { size = c.loop-child.invariant.size; each = λ x h. c.loop-child.invariant.each x (omega arith) ∙ rw (← all, l) (entries_sum c.requires.0 x) }
