-- The words of a table renumbered are a renumbering of it, and a table again, accepted if it was. Assumes nothing.
use Prim.Native.Nat.{ℕ, ◌+◌, ◌*◌, ◌≤◌, ◌<◌}
use mathlib.Core.Path.{◌≡◌, refl, sym, ap, ◌∙◌}
use mathlib.Core.Logic.{◌≢◌}
use mathlib.Core.List.{List, [], ◌++◌, map, append-nil}
use native.Mathlib.Omega.{arith}
use lib.ListN.{length, get_or, take, drop, length-append, length-map}
use lib.Seq.{get_or-take, get_or-drop, drop-append-add}
use Rattle.table.specs.Sum.{sum_below}
use Rattle.table.specs.Words.{format_of, types, root, entries, kind_at, count_at, first_at, running}
use Rattle.table.specs.Rule.{children_at}
use Rattle.table.specs.Below.{FromRoot}
use Rattle.table.specs.Privilege.{privileges}
use Rattle.table.specs.Check.{Laid, RightCount, Follows, Inside, Differ, Passes, Accepted}
use Rattle.table.specs.Steps.Childed.{Childed}
use Rattle.table.specs.Steps.Accepting.{Ordered}
use Rattle.table.specs.Renumbered.{Permutes, Renumbered, blocks, header_of, record_of, kids_of, renumber}
use Rattle.table.specs.declared.check.Check.{Check}
use Rattle.table.specs.declared.check.Check.TheVariants.{Format, Layout, Kind, Count, Stretch, Bounds, Twice, Cycle, Unreached, Total}
use Rattle.table.proofs.Sums.{sum_same}
use Rattle.table.proofs.Children.{children_right, count_read, children_all}
use Rattle.table.proofs.Facts.{accepted_childed, accepted_ordered}
use Rattle.table.proofs.Permuted.{map_at, sum_always, sum_permuted}
use Rattle.table.proofs.Blocks.{blocks_length, block_at}
use Rattle.table.proofs.Renumbered.{cycle_there, reached_there, renumbered_back, same_privileges}

module _ {f g : ℕ → ℕ} {ws : List ℕ} (c : Childed ws) (p : Permutes (types ws) f g) where
  abbrev vs : List ℕ
  vs = renumber f g ws

  abbrev records : List ℕ
  records = blocks (record_of g ws) (types ws)

  abbrev lists : List ℕ
  lists = blocks (kids_of f g ws) (types ws)

  abbrev counts : ℕ → ℕ
  counts k = count_at ws (g k)

  records_size : length records ≡ 3 * types ws
  records_size = blocks_length (record_of g ws) (λ k. 3) (types ws) (λ k l. refl) ∙ sum_always 3 (types ws)

  kids_size : (k : ℕ) → k < types ws → length (kids_of f g ws k) ≡ counts k
  kids_size k l = length-map (children_at ws (g k)) f ∙ children_all c.tiled (g k) (p.back k l) ∙ count_read c.tiled (g k) (p.back k l)

  -- the header
  as_many : types vs ≡ types ws
  unfolding renumber
  as_many = refl

  as_long : entries vs ≡ entries ws
  unfolding renumber
  as_long = refl

  root_now : root vs ≡ f (root ws)
  unfolding renumber
  root_now = refl

  format_now : format_of vs ≡ format_of ws
  unfolding renumber
  format_now = refl

  total_now : get_or vs 7 0 ≡ get_or ws 7 0
  unfolding renumber
  total_now = refl

  past_header : (i : ℕ) → drop (8 + i) vs ≡ drop i (records ++ lists)
  unfolding renumber
  past_header i = drop-append-add (header_of f ws) (records ++ lists) i

  -- the record of type t, word by word
  record_now : (t k : ℕ) → t < types ws → k < 3 → get_or vs (8 + 3 * t + k) 0 ≡ get_or (record_of g ws t) k 0
  record_now t k l m =
      let here : take 3 (drop (8 + 3 * t) vs) ≡ record_of g ws t =
      rw (past_header, ← sum_always 3 t) (block_at (record_of g ws) (λ j. 3) (types ws) t lists l (λ j i. refl)) in
      sym (get_or-drop (8 + 3 * t) vs k 0) ∙ sym (get_or-take 3 (drop (8 + 3 * t) vs) k 0 m) ∙ ap (λ (s : List ℕ). get_or s k 0) here

  kind_now : (t : ℕ) → t < types ws → kind_at vs t ≡ kind_at ws (g t)
  kind_now t l = record_now t 0 l (omega arith)

  count_now : (t : ℕ) → t < types ws → count_at vs t ≡ counts t
  count_now t l = record_now t 1 l (omega arith)

  first_now : (t : ℕ) → t < types ws → first_at vs t ≡ sum_below counts t
  first_now t l = record_now t 2 l (omega arith)

  kids_now : (t : ℕ) → t < types ws → children_at vs t ≡ kids_of f g ws t
  kids_now t l =
      let low = p.back t l in
      let right : RightCount (kind_at vs t) (count_at vs t) = rw (kind_now t l, count_now t l) (c.tiled.counts (g t) low) in
      let place : 8 + 3 * types vs + first_at vs t ≡ 8 + (length records + sum_below counts t) = omega (arith, as_many, records_size, first_now t l) in
      let all : lists ≡ lists ++ [] = sym (append-nil lists) in
      children_right vs t (rw (kind_now t l) (c.tiled.kinds (g t) low)) right
      ∙ rw (place, count_now t l, past_header, drop-append-add, all) (block_at (kids_of f g ws) counts (types ws) t [] l kids_size)

  pub renumbered : Renumbered f g ws (renumber f g ws)
  renumbered = record {
    format = format_now;
    permutes = p;
    as_many = as_many;
    root_is = root_now;
    kind = λ t l. kind_now (f t) (p.there t l) ∙ ap (λ (x : ℕ). kind_at ws x) (p.there_back t l);
    children = λ t l. kids_now (f t) (p.there t l) ∙ ap (λ (x : ℕ). map f (children_at ws x)) (p.there_back t l);
  }

  -- the checks
  running_now : (t : ℕ) → t ≤ types ws → running vs t ≡ sum_below counts t
  running_now t l = sum_same t (λ k m. count_now k (omega arith))

  total : sum_below counts (types ws) ≡ entries ws
  total = sum_permuted (count_at ws) p ∙ (c.tiled.follow (types ws) (omega arith)).total refl

  whole : length vs ≡ 8 + 3 * types ws + entries ws
  unfolding renumber
  whole = omega (arith, length-append records lists, records_size, blocks_length (kids_of f g ws) counts (types ws) kids_size, total)

  laid : Laid vs
  unfolding renumber
  laid =
      let was = c.tiled.laid in
      record {
        some = was.some;
        few = was.few;
        root_inside = p.there (root ws) was.root_inside;
        records = was.records;
        short = was.short;
        list = was.list;
        size = was.size;
        lent = whole ∙ sym was.size;
      }

  follows : (t : ℕ) → t < types ws + 1 → Follows vs t
  follows t l = record {
    first = λ m. first_now t (rw as_many at m) ∙ sym (running_now t (omega (arith, as_many)));
    total = λ e. let q : t ≡ types ws = e ∙ as_many in rw (as_long, q) (running_now (types ws) (omega arith) ∙ total);
  }

  module _ (t : ℕ) (l : t < types ws) where
    abbrev kids : List ℕ
    kids = children_at ws (g t)

    inside : Inside (types ws) (children_at vs t)
    inside = rw (kids_now t l) (λ i m.
        let low : i < length kids = omega (arith, length-map kids f) in
        rw (map_at f kids i low) (p.there (get_or kids i 0) (c.inside (g t) (p.back t l) i low)))

    apart : (i j : ℕ) → i < j → j < length (map f kids) → get_or (map f kids) i 0 ≢ get_or (map f kids) j 0
    apart i j h m e =
        let hj : j < length kids = omega (arith, length-map kids f) in
        let hi : i < length kids = omega arith in
        let low = p.back t l in
        let same : f (get_or kids i 0) ≡ f (get_or kids j 0) = sym (map_at f kids i hi) ∙ e ∙ map_at f kids j hj in
        c.differ (g t) low i j h hj
        (sym (p.there_back (get_or kids i 0) (c.inside (g t) low i hi)) ∙ ap g same ∙ p.there_back (get_or kids j 0) (c.inside (g t) low j hj))

    differ : Differ (children_at vs t)
    differ = rw (kids_now t l) apart

  renumbered_childed : Childed vs
  renumbered_childed = record {
    tiled = record {
      laid = laid;
      kinds = λ t l. let m : t < types ws = rw as_many at l in rw (kind_now t m) (c.tiled.kinds (g t) (p.back t m));
      counts = λ t l. let m : t < types ws = rw as_many at l in rw (kind_now t m, count_now t m) (c.tiled.counts (g t) (p.back t m));
      follow = λ t l. follows t (rw as_many at l);
    };
    inside = λ t l. rw as_many (inside t (rw as_many at l));
    differ = λ t l. differ t (rw as_many at l);
  }

  renumbered_ordered : Ordered ws → Ordered vs
  renumbered_ordered o = record {
    off_cycle = λ t l k. o.off_cycle (g t) (p.back t (rw as_many at l)) (cycle_there (renumbered_back renumbered c) k);
    reached = λ t l. reached t (rw as_many at l);
  }
    where
      reached : (t : ℕ) → t < types ws → FromRoot vs t
      reached t l = rw (p.back_there t l) at (reached_there renumbered (o.reached (g t) (p.back t l)))

pub renumbered_accepted : {f g : ℕ → ℕ} {ws : List ℕ} → Accepted ws → Permutes (types ws) f g → Accepted (renumber f g ws)
renumbered_accepted {f} {g} {ws} a p = record { passes = go }
  where
    c : Childed ws
    c = accepted_childed a

    d : Childed (renumber f g ws)
    d = renumbered_childed c p

    o : Ordered (renumber f g ws)
    o = renumbered_ordered c p (accepted_ordered a)

    same : privileges (renumber f g ws) ≡ privileges ws
    same = same_privileges (renumbered c p) c d

    go : (check : Check) → Passes (renumber f g ws) check
    go Format = λ q l. record { long = omega (arith, whole c p); format = rw (format_now c p) (a.passes Format 0 (omega arith)).format }
    go Layout = λ q l. d.tiled.laid
    go Kind = d.tiled.kinds
    go Count = d.tiled.counts
    go Stretch = d.tiled.follow
    go Bounds = d.inside
    go Twice = d.differ
    go Cycle = o.off_cycle
    go Unreached = o.reached
    go Total = λ q l.
        let was = a.passes Total 0 (omega arith) in
        record { few = rw same was.few; stated = total_now c p ∙ was.stated ∙ sym same }
