-- So many bytes stand at the front of the buffer, as the reader gave them. Assumes nothing.
use Rattle.std.proofs.Common.{◌≡◌, ℕ, ◌+◌, ◌≤◌, List, ◌++◌, rules, length, take, drop, sym, ap, ◌∙◌, subst, le_refl, drop_at, length-take-le, take-add}
use Rattle.std.proofs.lemmas.Slice.{take-put_mid_below}
use Rattle.std.specs.Io.KnownBytes.{Consumes}
use Rattle.std.proofs.KnownBytes.{Consumes-trans}
use borrow.Rule.Slice.PartMut.{put_mid, post_of}
use lib.Seq.{take-append-le}
use Rattle.stream.proofs.read_full.Goals as goal

-- The first a + n bytes once ys were put behind the first a: those, and then the first n of ys.
take-put : (a k n : ℕ) (xs ys : List ℕ) → a ≤ length xs → n ≤ length ys → take a xs ++ take n ys ≡ take (a + n) (put_mid a k xs ys)
take-put a k n xs ys within fits =
    let after = post_of a k xs in
    let put = put_mid a k xs ys in
    let front : take a put ≡ take a xs = take-put_mid_below _ _ _ _ _ (le_refl _) within in
    let behind : take n (drop a put) ≡ take n ys = ap (take n) (drop_at (take a xs) (ys ++ after) a (length-take-le a xs within)) ∙ take-append-le n ys after fits in
    sym (take-add a n put ∙ ap (λ l. l ++ take n (drop a put)) front ∙ ap (λ l. take a xs ++ l) behind)

pub loop-filled-preserved : goal.loop-filled-preserved
loop-filled-preserved g c = record {
  within = search rules;
  bytes = subst (Consumes _ _) (take-put c.loop-filled.filled _ c.in_ok-n.n c.loop-filled.buffer c.read.new.buf c.loop-filled.invariant.within c.in_ok-n.ensures.bound.0) (Consumes-trans _ _ _ _ _ c.loop-filled.invariant.bytes c.in_ok-n.ensures.bytes.0);
}
