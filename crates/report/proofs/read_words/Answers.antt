-- The loop has read the words passed. Assumes nothing.
use Rattle.std.proofs.Common.{◌+◌, ◌*◌, ◌/◌, ◌≤◌, ◌≡◌, sym, arith, length, get_or, zero-add}
use Rattle.runs.proofs.Texts.{filled_more, filled_length, filled_end, puts_first}
use Rattle.report.specs.File.{words_of}
use Rattle.report.proofs.Files.{words_size, words_at}
use Rattle.report.proofs.read_words.Goals as goal

pub loop-k-preserved : goal.loop-k-preserved
loop-k-preserved c = let file = c.args.file.now in
    let k = c.loop-k.k in
    let room : 0 + length (words_of file) ≤ length c.args.words.now = omega (arith, c.requires, words_size file) in
    let word : c.from.result + 256 * c.from-in-loop-k.result ≡ get_or (words_of file) k 0 = omega (arith, words_at file k c.loop-k-test.true) in
    let more = filled_more 0 room (omega (arith, words_size file)) word c.loop-k.invariant in
    rw (zero-add k) at more

pub returns : goal.returns
returns c = let size = words_size c.args.file.now in
    let room : 0 + length (words_of c.args.file.now) ≤ length c.args.words.now = omega (arith, c.requires, size) in
    let filled = c.loop-k.invariant in
    let all : c.loop-k.k ≡ length c.args.file.now / 2 = omega (arith, size, filled.within) in
    let first = puts_first (filled_end (omega (arith, size)) filled) in
    let first = rw (zero-add c.loop-k.k) at first in
    (omega (arith, c.requires, filled_length room filled), rw (sym all) first)
